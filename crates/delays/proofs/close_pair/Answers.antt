use Rattle.delays.proofs.PairFacts.{closes_pair}
use native.Mathlib.Omega.{arith}
use Rattle.delays.proofs.close_pair.Goals as goal

pub returns : goal.returns
returns c =
    let s = c in
    let a = c.least_delays.ensures in
    closes_pair s.args.reversed s.args.bytes.now s.args.states s.args.arcs.now s.args.count _ _ _ _ _ (omega (arith, s.requires.2, a.frame.same_length)) a c.least_delays-2.ensures
