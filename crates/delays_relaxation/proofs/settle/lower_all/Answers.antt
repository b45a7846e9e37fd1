use Rattle.delays_relaxation.proofs.LowerFacts.{round_settles}
use native.Mathlib.Omega.{arith}
use Rattle.delays_relaxation.proofs.settle.lower_all.Goals as goal

pub returns : goal.returns
returns c =
    let s = c.requires in
    let l = c.lower_listed.ensures in
    round_settles _ _ _ _ _ _ _ s.0.joined (omega (arith, s.1, l.frame.same_length)) (λ i. grind arith) c.round_arcs.ensures l
