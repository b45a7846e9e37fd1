use Rattle.delays_relaxation.proofs.RoundFacts.{readable_arcs, started_filled}
use Rattle.delays_relaxation.proofs.LowerFacts.{settled_least, rounds_least}
use Rattle.delays_relaxation.specs.Edges.{edges}
use native.Mathlib.Omega.{arith}
use Rattle.delays_relaxation.proofs.least_delays.Goals as goal

pub settle-requires : goal.settle-requires
settle-requires c =
    let s = c.requires in
    let f = (started_filled _ _ _ _ _ _ s.3 c.start_delays.ensures).frame in
    (readable_arcs _ _ _ _ _ _ _ s.0 s.1 s.2, omega (arith, s.3, f.same_length))

pub returns-then-settle : goal.returns-then-settle
returns-then-settle c =
    let s = c in
    let a = s.args in
    let r = readable_arcs _ _ _ _ _ _ _ s.requires.0 s.requires.1 s.requires.2 in
    settled_least a.reversed (edges a.reversed a.first a.second 0 a.count a.arcs.now) _ _ _ _ _ (started_filled _ _ _ _ _ _ s.requires.3 c.start_delays.ensures)
    _ _ c.if-settle.true r.joined c.settle.ensures

pub run_both-requires : goal.run_both-requires
run_both-requires c =
    let s = c.requires in
    let f = (started_filled _ _ _ _ _ _ s.3 c.start_delays.ensures).frame in
    let g = c.settle.ensures.lowers.frame in
    (readable_arcs _ _ _ _ _ _ _ s.0 s.1 s.2, omega (arith, s.3, f.same_length, g.same_length))

pub returns : goal.returns
returns c =
    let s = c in
    let a = s.args in
    rounds_least a.reversed (edges a.reversed a.first a.second 0 a.count a.arcs.now) _ _ _ _ _ (started_filled _ _ _ _ _ _ s.requires.3 c.start_delays.ensures)
    _ _ _ c.settle.ensures c.run_both.ensures
