use Rattle.agree_text.proofs.KeptFacts.{text-refused, text-table, lent_slices, room-lent, wrote_as}
use mathlib.Core.Path.{refl, ap}
use Rattle.automata.specs.AgreeText.{write_output}
use Rattle.pairs.specs.PairBytes.{pairs_of}
use Rattle.std.specs.Prelude.{Ok, Err}
use Rattle.agree_text.proofs.keep.keep_text.Goals as goal

pub returns-in-Ok : goal.returns-in-Ok
returns-in-Ok c = wrote_as _ _ _ _ _ (ap write_output (text-table c.args.text.now lent_slices room-lent (Ok _) _ _ c.in-Ok.ensures (pairs_of c.args.pairs.now) _ refl)) c.keep_table.ensures

pub returns-in-Err : goal.returns-in-Err
returns-in-Err c = wrote_as _ _ _ _ _ (ap write_output (text-refused c.args.text.now lent_slices room-lent (Err _) _ _ c.in-Err.ensures (pairs_of c.args.pairs.now) _ refl)) c.write_refusal.ensures
