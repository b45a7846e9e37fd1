use mathlib.Core.Path.{◌≡◌, ◌∙◌}
use Prim.Native.Nat.{◌+◌, ◌-◌, ◌*◌}
use native.Mathlib.Omega.{arith}
use Rattle.automata.specs.Layout.{arc_size}
use Rattle.forecast_counts.proofs.SymbolFacts.{arcs_turn, arcs_end}
use Rattle.forecast_counts.proofs.note_arcs.Goals as goal

pub loop-k-preserved : goal.loop-k-preserved
loop-k-preserved c =
    let l = c.loop-k in
    let at : arc_size * (l.k + 1) ≡ arc_size * l.k + arc_size = omega arith in
    rw at (arcs_turn _ _ _ (c.args.count - l.k) (c.args.count - (l.k + 1)) _ _ _ _ (omega arith) c.note_label.ensures c.note_label-in-loop-k.ensures ∙ l.invariant)

pub returns : goal.returns
returns c = let l = c.loop-k in arcs_end _ _ _ (c.args.count - l.k) _ _ (omega arith) ∙ l.invariant
