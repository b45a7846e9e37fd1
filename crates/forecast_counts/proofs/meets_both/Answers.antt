use mathlib.Core.Path.{◌≡◌, ◌∙◌}
use Prim.Native.Nat.{◌+◌, ◌-◌, ◌*◌}
use native.Mathlib.Omega.{arith}
use Rattle.automata.specs.Layout.{delays_size}
use Rattle.forecast_counts.proofs.PathFacts.{both_found, both_turn, both_end}
use Rattle.forecast_counts.proofs.meets_both.Goals as goal

pub returns-then-both_at : goal.returns-then-both_at
returns-then-both_at c =
    let l = c.loop-q in
    both_found _ (c.args.states - l.q) _ _ (omega arith) c.both_at.ensures c.if-both_at.true ∙ l.invariant

pub loop-q-preserved : goal.loop-q-preserved
loop-q-preserved c =
    let l = c.loop-q in
    let at : delays_size * (l.q + 1) ≡ delays_size * l.q + delays_size = omega arith in
    rw at (both_turn _ (c.args.states - l.q) (c.args.states - (l.q + 1)) _ _ (omega arith) c.both_at.ensures c.if-both_at.false ∙ l.invariant)

pub returns : goal.returns
returns c = both_end _ (c.args.states - c.loop-q.q) _ (omega arith) ∙ c.loop-q.invariant
