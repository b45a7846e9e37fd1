use native.Mathlib.Omega.{arith}
use Rattle.intersect_config.proofs.RowFacts.{length_row}
use Rattle.intersect_config.proofs.FollowFacts.{filling_start, may_advance, follows_not, filling_next, follows_all}
use borrow.Author.Rules.{rules}
use Rattle.intersect_config.proofs.step.follow.Goals as goal

pub put16-requires : goal.put16-requires
put16-requires c = omega (arith, length_row _ _ c.requires.2)

pub loop-i-init : goal.loop-i-init
loop-i-init c = (filling_start _ _ _ _ c.requires.0 c.requires.1 _ _ _ (search rules) c.requires.2 c.target_at.ensures c.put16.ensures, search rules)

pub advance_slot-requires : goal.advance_slot-requires
advance_slot-requires c = may_advance _ _ _ _ c.requires.0 c.requires.1 _ _ c.loop-i.invariant.0 c.loop-i-test.true

pub returns-then-not-advance_slot : goal.returns-then-not-advance_slot
returns-then-not-advance_slot c = follows_not _ _ _ _ c.requires.0 c.requires.1 _ _ c.loop-i.invariant.0 c.loop-i-test.true _ c.if-not-advance_slot.ensures

pub loop-i-preserved : goal.loop-i-preserved
loop-i-preserved c = (filling_next _ _ _ _ c.requires.0 c.requires.1 _ _ c.loop-i.invariant.0 c.loop-i-test.true _ c.if-not-advance_slot.ensures, search rules)

pub returns : goal.returns
returns c = follows_all _ _ _ _ c.requires.0 c.requires.1 _ _ c.loop-i.invariant.0 c.loop-i-test.false
