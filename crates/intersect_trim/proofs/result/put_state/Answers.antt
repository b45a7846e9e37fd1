use Rattle.intersect_trim.proofs.ResultFacts.{state_skipped, state-room, state-put}
use Rattle.intersect_trim.proofs.result.put_state.Goals as goal

pub returns-then-mark-ne1 : goal.returns-then-mark-ne1
returns-then-mark-ne1 c = state_skipped _ _ _ _ _ c.if-mark-ne1.true

pub store_row-requires : goal.store_row-requires
store_row-requires c = let s = c.requires in (s.0, s.1, state-room _ _ _ _ _ c.if-mark-ne1.false s.1 s.2)

pub returns : goal.returns
returns c = state-put _ _ _ _ _ _ c.if-mark-ne1.false c.requires.1 c.store_row.ensures
