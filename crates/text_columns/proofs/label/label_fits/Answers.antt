use mathlib.Core.Path.{refl, ◌∙◌}
use Prim.Native.Nat.{◌-◌}
use native.Mathlib.Omega.{arith}
use lib.ListN.{get_or}
use Rattle.text_columns.specs.Columns.{label_fits}
use Rattle.text_columns.proofs.LabelFacts.{follow_turn, follow_end}
use Rattle.text_columns.proofs.label.label_fits.Goals as goal

pub loop-i-init : goal.loop-i-init
unfolding label_fits
loop-i-init c = refl

pub loop-i-preserved : goal.loop-i-preserved
loop-i-preserved c = let x = c.args.column.now in let l = c.loop-i in follow_turn x l.i (get_or x (l.i - 1) 0) l.fits (omega arith) _ c.may_follow-fits.ensures ∙ l.invariant

pub returns : goal.returns
returns c = let l = c.loop-i in follow_end _ l.i _ _ (omega arith) ∙ l.invariant
