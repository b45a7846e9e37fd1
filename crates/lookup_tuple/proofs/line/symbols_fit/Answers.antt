use mathlib.Core.Path.{sym, ap, ◌∙◌}
use native.Mathlib.Omega.{arith}
use Rattle.automata.specs.Lists.{all}
use Rattle.automata.specs.Symbols.{is_symbol}
use Rattle.automata.specs.Answer.{forget}
use Rattle.table.specs.Region.{part}
use Rattle.lookup_tuple.proofs.LineFacts.{lines_at_lem, line_closed, closed_turn, every-start, every_turn, every-stop, every_end}
use borrow.Author.Rules.{rules}
use Rattle.lookup_tuple.proofs.line.symbols_fit.Goals as goal

pub loop-at-init : goal.loop-at-init
loop-at-init c = (search rules, ap forget (lines_at_lem _) ∙ c.requires, every-start _ _)

pub returns-then-not-all_symbols : goal.returns-then-not-all_symbols
unfolding part
returns-then-not-all_symbols c =
    let l = c.loop-at in
    let e = c.line_end-end.ensures in
    let n = line_closed _ l.at _ e c.loop-at-test.true l.invariant.1 in
    every-stop _ l.at _ e c.loop-at-test.true l.invariant.1 (λ s. all is_symbol s) (sym c.all_symbols.ensures ∙ c.if-not-all_symbols.true) ∙ l.invariant.2

pub loop-at-preserved : goal.loop-at-preserved
unfolding part
loop-at-preserved c =
    let l = c.loop-at in
    let e = c.line_end-end.ensures in
    let n = line_closed _ l.at _ e c.loop-at-test.true l.invariant.1 in
    (omega (arith, n), closed_turn _ l.at _ e c.loop-at-test.true l.invariant.1, every_turn _ l.at _ e c.loop-at-test.true l.invariant.1 (λ s. all is_symbol s) (sym c.all_symbols.ensures ∙ c.if-not-all_symbols.false) ∙ l.invariant.2)

pub returns : goal.returns
returns c = let l = c.loop-at in every_end _ l.at (λ s. all is_symbol s) c.loop-at-test.false ∙ l.invariant.2
