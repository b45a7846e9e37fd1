use native.Mathlib.Omega.{arith}
use lib.ListN.{length-set, length-take, length-drop}
use Rattle.text_store.proofs.StoredFacts.{label_stored}
use Rattle.text_store.proofs.store.store_label.Goals as goal

pub copy_into-requires-2 : goal.copy_into-requires-2
copy_into-requires-2 c = let s = c in simp (length-set, length-take, length-drop) (omega (arith, s.requires))

pub returns : goal.returns
returns c = let s = c in
    label_stored _ s.requires.0 _ c.leading_blanks-blanks.ensures.0 c.leading_blanks-blanks.ensures.1 s.args.at _ _ _ s.requires.1 c.copy_into.ensures c.copy_into-2.ensures
