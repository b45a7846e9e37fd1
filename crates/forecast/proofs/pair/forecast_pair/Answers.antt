use mathlib.Core.Path.{◌∙◌}
use native.Mathlib.Omega.{arith}
use Rattle.table.specs.Answers.{memory}
use Rattle.delays.proofs.ClosingFacts.{sound_readable, sound_listable}
use Rattle.forecast.proofs.PairFacts.{work_room, marks_kept, found_few, both_are, within_eight, arcs_readable, labels_short, delay_fits, pair-needs, pair-mixed}
use Rattle.forecast.proofs.pair.forecast_pair.Goals as goal

pub close_pair-requires : goal.close_pair-requires
close_pair-requires c =
    let q = c.requires in
    let room = work_room c.args.table.now.counts.states _ q.2 in
    (sound_readable _ q.0, within_eight _ q.0 _ q.1, omega (arith, room))

pub close_pair-requires-2 : goal.close_pair-requires-2
close_pair-requires-2 c =
    let q = c.requires in
    let room = work_room c.args.table.now.counts.states _ q.2 in
    (sound_readable _ q.0, within_eight _ q.0 _ q.1, omega (arith, room, c.close_pair.ensures.same_length))

pub meets_both-requires : goal.meets_both-requires
meets_both-requires c =
    let room = work_room c.args.table.now.counts.states _ c.requires.2 in
    omega (arith, room, c.close_pair-2.ensures.same_length, c.close_pair.ensures.same_length)

pub returns-then-meets_both : goal.returns-then-meets_both
returns-then-meets_both c =
    let q = c.requires in
    let m = memory c.args.table.now in
    let room = work_room c.args.table.now.counts.states _ q.2 in
    let a = c.close_pair.ensures in
    let b = c.close_pair-2.ensures in (
      pair-mixed m q.0 c.args.p q.1 _ (c.meets_both.ensures ∙ both_are m q.0 c.args.p q.1 _ _ _ room a b) c.if-meets_both.true,
      marks_kept m q.0 _ _ _ _ _ (omega arith) (omega (arith, room, a.same_length)) b (marks_kept m q.0 _ _ _ _ _ (omega arith) room a q.3),
    )

pub needed-requires : goal.needed-requires
needed-requires c =
    let q = c.requires in
    let m = memory c.args.table.now in
    let room = work_room c.args.table.now.counts.states _ q.2 in
    let a = c.close_pair.ensures in
    let b = c.close_pair-2.ensures in
    let k = marks_kept m q.0 _ _ _ _ _ (omega arith) (omega (arith, room, a.same_length)) b (marks_kept m q.0 _ _ _ _ _ (omega arith) room a q.3) in (
      arcs_readable m q.0 c.args.p q.1,
      labels_short m q.0 c.args.p q.1,
      omega (arith, room, a.same_length, b.same_length),
      (sound_listable m q.0).1,
      found_few m q.0 _ q.4,
      delay_fits m q.0 c.args.p q.1 _ q.4 _ k,
    )

pub returns-else-meets_both : goal.returns-else-meets_both
returns-else-meets_both c =
    let q = c.requires in
    let m = memory c.args.table.now in
    let room = work_room c.args.table.now.counts.states _ q.2 in
    let a = c.close_pair.ensures in
    let b = c.close_pair-2.ensures in
    let k = marks_kept m q.0 _ _ _ _ _ (omega arith) (omega (arith, room, a.same_length)) b (marks_kept m q.0 _ _ _ _ _ (omega arith) room a q.3) in (
      c.needed.ensures
          ∙ pair-needs m q.0 c.args.p q.1 _ q.4 _ k _ (c.meets_both.ensures ∙ both_are m q.0 c.args.p q.1 _ _ _ room a b) c.if-meets_both.false,
      k,
    )
