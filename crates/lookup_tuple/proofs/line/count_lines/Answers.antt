use mathlib.Core.Path.{◌∙◌}
use native.Mathlib.Omega.{arith}
use Prim.Native.Nat.{◌<◌}
use lib.ListN.{length}
use Rattle.lookup_tuple.proofs.LineFacts.{count_start, count_turn, count_open, count_end}
use borrow.Author.Rules.{rules}
use Rattle.lookup_tuple.proofs.line.count_lines.Goals as goal

pub loop-at-init : goal.loop-at-init
loop-at-init c = (search rules, search rules, count_start _)

pub returns-then-end-text : goal.returns-then-end-text
returns-then-end-text c =
    let l = c.loop-at in
    count_open _ l.at _ l.count c.line_end-end.ensures c.loop-at-test.true c.if-end-text.true ∙ l.invariant.2

pub loop-at-preserved : goal.loop-at-preserved
loop-at-preserved c =
    let l = c.loop-at in
    let e = c.line_end-end.ensures in
    let n : c.line_end-end.result < length c.args.text.now = omega (arith, e.within, c.if-end-text.false) in
    (omega (arith, n), omega (arith, e.starts, l.invariant.1), count_turn _ l.at _ e n l.count ∙ l.invariant.2)

pub returns : goal.returns
returns c =
    let l = c.loop-at in
    count_end _ l.at l.count c.loop-at-test.false ∙ l.invariant.2
