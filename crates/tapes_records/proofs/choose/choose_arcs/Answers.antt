use mathlib.Core.Path.{◌≡◌, ◌∙◌}
use Prim.Native.Nat.{◌+◌, ◌-◌, ◌*◌}
use native.Mathlib.Omega.{arith}
use lib.ListN.{take}
use Rattle.automata.specs.Layout.{arc_size}
use Rattle.tapes_records.specs.Rewritten.{chosen_arc}
use Rattle.tapes_records.proofs.RewriteFacts.{rewrite_turn, rewrite_end, length_chosen_arc, chosen_few}
use Rattle.tapes_records.proofs.choose.choose_arcs.Goals as goal

pub loop-i-preserved : goal.loop-i-preserved
loop-i-preserved c =
    let l = c.loop-i in
    let count = c.args.count in
    let next : arc_size * (l.i + 1) ≡ arc_size * l.i + arc_size = omega arith in
    rw next (rewrite_turn (chosen_arc (take c.args.used c.args.tapes.now)) (λ arc. length_chosen_arc _ arc (chosen_few _ _ c.requires.0.few)) (arc_size * l.i) (count - l.i) (count - (l.i + 1)) _ _
    (omega arith) (omega arith) c.choose_arc.ensures ∙ l.invariant)

pub returns : goal.returns
returns c = let l = c.loop-i in rewrite_end _ (arc_size * l.i) (c.args.count - l.i) _ (omega arith) ∙ l.invariant
