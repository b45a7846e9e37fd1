use mathlib.Core.Path.{ap, ◌∙◌}
use native.Mathlib.Omega.{arith}
use lib.Dec.{leb}
use lib.ListN.{length}
use Rattle.automata.specs.Answer.{forget}
use Rattle.automata.specs.Limits.{max_string}
use Rattle.lookup_tuple.proofs.LineFacts.{lines_at_lem, line_closed, closed_turn, every-start, every_turn, every-stop, every_end, size_fits, size-over}
use borrow.Author.Rules.{rules}
use Rattle.lookup_tuple.proofs.line.sizes_fit.Goals as goal

pub loop-at-init : goal.loop-at-init
loop-at-init c = (search rules, ap forget (lines_at_lem _) ∙ c.requires, every-start _ _)

pub returns-then-end-at-gt-MAX_STRING : goal.returns-then-end-at-gt-MAX_STRING
returns-then-end-at-gt-MAX_STRING c =
    let l = c.loop-at in
    let e = c.line_end-end.ensures in
    let n = line_closed _ l.at _ e c.loop-at-test.true l.invariant.1 in
    every-stop _ l.at _ e c.loop-at-test.true l.invariant.1 (λ s. leb (length s) max_string) (size-over _ l.at _ e c.if-end-at-gt-MAX_STRING.true) ∙ l.invariant.2

pub loop-at-preserved : goal.loop-at-preserved
loop-at-preserved c =
    let l = c.loop-at in
    let e = c.line_end-end.ensures in
    let n = line_closed _ l.at _ e c.loop-at-test.true l.invariant.1 in
    (omega (arith, n), closed_turn _ l.at _ e c.loop-at-test.true l.invariant.1, every_turn _ l.at _ e c.loop-at-test.true l.invariant.1 (λ s. leb (length s) max_string) (size_fits _ l.at _ e c.if-end-at-gt-MAX_STRING.false) ∙ l.invariant.2)

pub returns : goal.returns
returns c = let l = c.loop-at in every_end _ l.at (λ s. leb (length s) max_string) c.loop-at-test.false ∙ l.invariant.2
