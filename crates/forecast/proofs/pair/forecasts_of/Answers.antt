use native.Mathlib.Omega.{arith}
use Rattle.table.specs.Answers.{memory}
use Rattle.delays.proofs.ClosingFacts.{sound_readable, sound_listable}
use Rattle.forecast.proofs.PairFacts.{work_room, marked, found_are}
use Rattle.forecast.proofs.pair.forecasts_of.Goals as goal

pub list_arcs-requires : goal.list_arcs-requires
list_arcs-requires c = sound_listable _ c.requires.0

pub mark_reaching-requires : goal.mark_reaching-requires
mark_reaching-requires c =
    let room = work_room c.args.table.now.counts.states _ c.requires.2 in
    (sound_readable _ c.requires.0, omega (arith, room))

pub mark_reaching-requires-2 : goal.mark_reaching-requires-2
mark_reaching-requires-2 c =
    let room = work_room c.args.table.now.counts.states _ c.requires.2 in
    (sound_readable _ c.requires.0, omega (arith, room, c.mark_reaching.ensures.frame.same_length))

pub path_states-found-requires : goal.path_states-found-requires
path_states-found-requires c =
    let room = work_room c.args.table.now.counts.states _ c.requires.2 in
    omega (arith, room, c.mark_reaching.ensures.frame.same_length, c.mark_reaching-2.ensures.frame.same_length)

pub forecast_pairs-requires : goal.forecast_pairs-requires
forecast_pairs-requires c =
    let room = work_room c.args.table.now.counts.states _ c.requires.2 in
    let a = c.mark_reaching.ensures in
    let b = c.mark_reaching-2.ensures in
    let m = memory c.args.table.now in
    let k = marked m c.requires.0 _ _ _ room a b in
    (c.requires.0, c.requires.1, omega (arith, c.requires.2, a.frame.same_length, b.frame.same_length), k, found_are m c.requires.0 _ _ k c.path_states-found.ensures)
