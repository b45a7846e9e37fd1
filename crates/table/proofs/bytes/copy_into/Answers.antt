use lib.Seq.{take-length}
use Rattle.table.proofs.RegionFacts.{splice-none, splice-more}
use mathlib.Core.Path.{sym}
use mathlib.Core.Path.{◌≡◌, ◌∙◌}
use Prim.Native.Nat.{◌+◌, ◌<◌}
use native.Mathlib.Omega.{arith}
use lib.ListN.{length, length-set}
use borrow.Author.Rules.{rules}
use Rattle.table.proofs.bytes.copy_into.Goals as goal

pub loop-i-init : goal.loop-i-init
loop-i-init c = (sym (splice-none _ _), search rules, search rules, search rules)

pub loop-i-preserved : goal.loop-i-preserved
loop-i-preserved c =
    let s = c in
    let l = c.loop-i in
    let k : s.args.at + l.i < length s.args.dst.now = omega arith in
    let j : l.i < length s.args.src.now = omega arith in
    (rw l.invariant.0 (splice-more s.args.at l.i s.args.src.now s.args.dst.now 0 k j), search rules, search rules, simp length-set l.invariant.3)

pub returns : goal.returns
returns c =
    let s = c in
    let l = c.loop-i in
    let e : l.i ≡ length s.args.src.now = omega arith in
    l.invariant.0 ∙ rw (e, take-length s.args.src.now)
