use mathlib.Core.Path.{refl}
use Rattle.table.specs.Answers.{memory}
use Rattle.table.proofs.AnswerFacts.{handed_on}
use Rattle.lookup.proofs.JudgeFacts.{called_short}
use Rattle.path.proofs.CallFacts.{call_refused, space-short, space-enough, path_found}
use Rattle.path.proofs.call.find.Goals as goal

pub returns-in_err-strings : goal.returns-in_err-strings
returns-in_err-strings c =
    rw (handed_on _ _ c.from_residual.ensures.1) (call_refused (memory c.args.table.now) _ _ _ _ _ c.in_err-strings.ensures)

pub cell_count-requires : goal.cell_count-requires
cell_count-requires c = called_short (memory c.args.table.now) _ _ (c.in_ok-strings.ensures.called _ refl)

pub returns-then-not-has_space : goal.returns-then-not-has_space
returns-then-not-has_space c =
    space-short (memory c.args.table.now) _ _ _ _ _ (c.in_ok-strings.ensures.called _ refl) _ c.cell_count.ensures.0 _ c.has_space.ensures c.if-not-has_space.true

pub find_path-requires : goal.find_path-requires
find_path-requires c =
    space-enough (memory c.args.table.now) _ c.args.room c.args.list.now c.args.work.now _ (c.in_ok-strings.ensures.called _ refl) _ c.cell_count.ensures.0 _ c.has_space.ensures c.if-not-has_space.false

pub returns : goal.returns
returns c =
    path_found (memory c.args.table.now) _ _ _ _ _ (c.in_ok-strings.ensures.called _ refl) _ c.cell_count.ensures.0 _ c.has_space.ensures c.if-not-has_space.false _ _ c.find_path.ensures
