use mathlib.Core.Path.{sym, ◌∙◌}
use native.Mathlib.Omega.{arith}
use Rattle.intersect_config.proofs.TestFacts.{long_all, long_none, long_found, long_next}
use Rattle.intersect_config.proofs.RowFacts.{len_in_slot}
use Rattle.intersect_config.proofs.config.too_long.Goals as goal

pub returns-then-pairs-i : goal.returns-then-pairs-i
returns-then-pairs-i c =
    let r = c.requires in
    let e = len_in_slot c.loop-i.i c.args.row.now (omega arith) in
    sym (long_found _ _ r.0 r.1 r.2 _ c.loop-i-test.true (rw e at c.if-pairs-i.true)) ∙ c.loop-i.invariant ∙ long_all _ _ r.0 r.1

pub loop-i-preserved : goal.loop-i-preserved
loop-i-preserved c =
    let r = c.requires in
    let e = len_in_slot c.loop-i.i c.args.row.now (omega arith) in
    sym (long_next _ _ r.0 r.1 r.2 _ c.loop-i-test.true (rw e at c.if-pairs-i.false)) ∙ c.loop-i.invariant

pub returns : goal.returns
returns c = let r = c.requires in sym (long_none _ _ r.0 r.1 _ c.loop-i-test.false) ∙ c.loop-i.invariant ∙ long_all _ _ r.0 r.1
