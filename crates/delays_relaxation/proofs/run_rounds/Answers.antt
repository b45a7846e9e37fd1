use Prim.Native.Nat.{◌+◌, ◌-◌}
use native.Mathlib.Omega.{arith}
use Rattle.delays_relaxation.proofs.RoundFacts.{rounds_turn, rounds_still}
use Rattle.delays_relaxation.proofs.run_rounds.Goals as goal

pub returns-then-round_arcs : goal.returns-then-round_arcs
returns-then-round_arcs c =
    let l = c.loop-round in
    rounds_still _ _ _ _ _ _ _ _ _ c.requires.0.joined (omega arith) l.invariant.2 c.round_arcs.ensures (c.args.states - l._round) l.invariant.0 l.invariant.1 c.if-round_arcs.true

pub loop-round-preserved : goal.loop-round-preserved
loop-round-preserved c =
    let l = c.loop-round in
    let t = rounds_turn _ _ _ _ _ _ _ _ _ c.requires.0.joined (omega arith) l.invariant.2 c.round_arcs.ensures (c.args.states - l._round) l.invariant.0 l.invariant.1 (c.args.states - (l._round + 1))
    (omega arith) in
    (t.1, t.2, λ i. omega (arith, c.type_inv.work i))
