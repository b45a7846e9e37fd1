use mathlib.Core.Path.{◌≡◌, ◌∙◌}
use Prim.Native.Nat.{◌+◌, ◌-◌, ◌*◌}
use native.Mathlib.Omega.{arith}
use Rattle.automata.specs.Layout.{delays_size, state_size}
use Rattle.delays_relaxation.proofs.RunFacts.{started_turn, started_end}
use Rattle.delays_relaxation.proofs.start_delays.Goals as goal

pub loop-q-preserved : goal.loop-q-preserved
loop-q-preserved c =
    let l = c.loop-q in
    let to : c.args.at + delays_size * (l.q + 1) ≡ c.args.at + delays_size * l.q + delays_size = omega arith in
    let from : state_size * (l.q + 1) ≡ state_size * l.q + state_size = omega arith in
    rw (to, from)
    (started_turn _ _ _ (c.args.states - l.q) (c.args.states - (l.q + 1)) _ _ _ _ _ (omega arith) c.flag_place-flag.ensures.0 c.start_delay.ensures c.put16.ensures ∙ l.invariant)

pub returns : goal.returns
returns c = started_end _ _ _ (c.args.states - c.loop-q.q) _ _ (omega arith) ∙ c.loop-q.invariant
