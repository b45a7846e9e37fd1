use mathlib.Core.Path.{◌≡◌}
use Prim.Native.Nat.{◌+◌, ◌-◌, ◌*◌}
use native.Mathlib.Omega.{arith}
use Rattle.automata.specs.Layout.{arc_size}
use Rattle.bench_delays.proofs.JoinedFacts.{joined-one, joined_end}
use Rattle.bench_delays.proofs.joined.Goals as goal

pub loop-k-preserved : goal.loop-k-preserved
loop-k-preserved c =
    let l = c.loop-k in
    let at : arc_size * (l.k + 1) ≡ arc_size * l.k + arc_size = omega arith in
    rw at
    (λ j. l.invariant (joined-one _ (arc_size * l.k) (c.args.count - l.k) (c.args.count - (l.k + 1)) _ _ (omega arith) c.edge_at-e.ensures c.if-states-e.false c.if-states-e-2.false j))

pub returns : goal.returns
returns c = λ e. c.loop-k.invariant (joined_end _ _ (c.args.count - c.loop-k.k) _ (omega arith))
