use mathlib.Core.Path.{◌≡◌, ◌∙◌}
use Prim.Native.Nat.{◌+◌, ◌-◌, ◌*◌}
use native.Mathlib.Omega.{arith}
use Rattle.automata.specs.Layout.{arc_size}
use Rattle.delays_relaxation.proofs.RunFacts.{joined_at}
use Rattle.forecast_counts.proofs.DelayFacts.{greatest_turn, greatest_end}
use Rattle.forecast_counts.proofs.greatest_delay.Goals as goal

pub raise-best-requires : goal.raise-best-requires
raise-best-requires c =
    let j = joined_at _ _ _ _ 0 c.args.count c.loop-k.k _ _ _ c.requires.0.joined (omega arith) (omega arith) c.edge_at-e.ensures in
    (omega (arith, j.0, c.requires.1), omega (arith, j.1, c.requires.1))

pub loop-k-preserved : goal.loop-k-preserved
loop-k-preserved c =
    let l = c.loop-k in
    let j = joined_at _ _ _ _ 0 c.args.count l.k _ _ _ c.requires.0.joined (omega arith) (omega arith) c.edge_at-e.ensures in
    let at : arc_size * (l.k + 1) ≡ arc_size * l.k + arc_size = omega arith in
    rw at
    (greatest_turn _ _ _ _ (c.args.count - l.k) (c.args.count - (l.k + 1)) _ _ _ _ _ (omega arith) c.edge_at-e.ensures j.0 j.1 c.raise-best.ensures ∙ l.invariant)

pub returns : goal.returns
returns c = greatest_end _ _ _ (c.args.count - c.loop-k.k) _ _ _ (omega arith) ∙ c.loop-k.invariant
