use Rattle.text_store.proofs.StoredFacts.{numbers_stored}
use Rattle.text_store.proofs.store.store_numbers.Goals as goal

pub returns : goal.returns
returns c = let s = c in
    numbers_stored s.args.at _ _ _ _ _ _ _ s.requires.1 c.columns_value-source.ensures c.columns_value-target.ensures c.columns_value-weight.ensures c.store_ends.ensures c.store_arc_weight.ensures
