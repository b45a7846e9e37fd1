use Rattle.search_rows.proofs.KeptFacts.{kept_made}
use Rattle.product_search.proofs.RecordFacts.{length_move}
use Rattle.product_search.proofs.vertex.store_move_within.Goals as goal

pub returns : goal.returns
returns c = kept_made _ _ _ _ _ _ _ _ (length_move _) c.store_move.ensures c.store_within.ensures
