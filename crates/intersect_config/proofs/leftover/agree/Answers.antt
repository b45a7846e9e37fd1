use mathlib.Core.Path.{sym, ◌∙◌}
use native.Mathlib.Omega.{arith}
use Rattle.intersect_config.proofs.StripFacts.{agrees-step, agrees_differ, agrees_end}
use Rattle.intersect_config.proofs.leftover.agree.Goals as goal

pub returns-then-u-i : goal.returns-then-u-i
returns-then-u-i c = sym (agrees_differ c.loop-i.i c.args.u.now c.args.v.now (omega arith) (omega arith) c.if-u-i.true) ∙ c.loop-i.invariant

pub loop-i-preserved : goal.loop-i-preserved
loop-i-preserved c = sym (agrees-step c.loop-i.i c.args.u.now c.args.v.now (omega arith) (omega arith) c.if-u-i.false) ∙ c.loop-i.invariant

pub returns : goal.returns
returns c = sym (agrees_end c.loop-i.i _ _ (omega arith)) ∙ c.loop-i.invariant
