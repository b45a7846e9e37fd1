use mathlib.Core.Path.{ap, refl}
use mathlib.Core.Bool.{not}
use Rattle.table.specs.Answers.{memory}
use Rattle.table.proofs.AnswerFacts.{handed_on}
use Rattle.table.proofs.TableFacts.{table_counts, table_states, table_arcs}
use Rattle.table.proofs.judge.judge.Goals as goal

pub returns-then-not-counts_fit : goal.returns-then-not-counts_fit
returns-then-not-counts_fit c = table_counts (memory c.args.table.now) _ c.counts_fit.ensures (ap not c.if-not-counts_fit.true)

pub returns-in_err-judge_states : goal.returns-in_err-judge_states
returns-in_err-judge_states c =
    rw (handed_on _ _ c.from_residual.ensures.1)
    (table_states (memory c.args.table.now) _ c.counts_fit.ensures (ap not c.if-not-counts_fit.false) _ c.in_err-judge_states.ensures _ refl)

pub returns : goal.returns
returns c =
    table_arcs (memory c.args.table.now) _ c.counts_fit.ensures (ap not c.if-not-counts_fit.false) _ c.in_ok-judge_states.ensures refl _ c.judge_arcs.ensures
