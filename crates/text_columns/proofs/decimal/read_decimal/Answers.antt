use mathlib.Core.Path.{◌∙◌}
use native.Mathlib.Omega.{arith}
use Prim.Native.Nat.{◌-◌}
use lib.ListN.{length, get_or}
use Rattle.table.proofs.AnswerFacts.{handed_on}
use Rattle.text_columns.proofs.ColumnFacts.{scan_decimal, number-refused, number-next, number-last_at, column_bound}
use borrow.Author.Rules.{rules}
use Rattle.text_columns.proofs.decimal.read_decimal.Goals as goal

pub loop-i-init : goal.loop-i-init
loop-i-init c = (search rules, scan_decimal _ c.requires.0)

pub returns-in_err-n : goal.returns-in_err-n
returns-in_err-n c =
    let l = c.loop-i in
    rw (handed_on _ _ c.from_residual.ensures.1) (number-refused c.args.column.now l.i l.n _ (omega arith) c.in_err-n.ensures ∙ l.invariant.1)

pub loop-i-preserved : goal.loop-i-preserved
loop-i-preserved c =
    let x = c.args.column.now in
    let l = c.loop-i in
    let e = c.in_ok-n.ensures in
    (column_bound _ _ (get_or x l.i 0) _ l.invariant.0 e, number-next x l.i _ _ (omega arith) e ∙ l.invariant.1)

pub returns : goal.returns
returns c =
    let x = c.args.column.now in
    let l = c.loop-i in
    c.last_column.ensures ∙ number-last_at x l.i (length x - 1) _ (omega arith) (omega arith) ∙ l.invariant.1
