use Rattle.product_search.proofs.RecordFacts.{move_stored}
use Rattle.product_search.proofs.vertex.store_move.Goals as goal

pub returns : goal.returns
returns c = move_stored _ c.args.m _ _ _ _ _ c.requires c.put16.ensures c.put16-2.ensures c.put16-3.ensures c.put16-4.ensures
