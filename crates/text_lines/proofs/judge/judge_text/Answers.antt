use Rattle.table.proofs.AnswerFacts.{handed_on}
use Rattle.text_lines.proofs.TableFacts.{text-short, text_header, header_bounds, text_states, text_arcs, text-refused, text_fine}
use Rattle.text_lines.proofs.judge.judge_text.Goals as goal

pub returns-then-text-lt-HEADER_WIDTH : goal.returns-then-text-lt-HEADER_WIDTH
returns-then-text-lt-HEADER_WIDTH c = text-short c.args.states c.args.arcs _ c.if-text-lt-HEADER_WIDTH.true

pub returns-in_err-counts : goal.returns-in_err-counts
returns-in_err-counts c = rw (handed_on _ _ c.from_residual.ensures.1) (text_header c.args.states c.args.arcs _ c.if-text-lt-HEADER_WIDTH.false _ c.in_err-counts.ensures)

pub returns-then-states-counts : goal.returns-then-states-counts
returns-then-states-counts c = text_states c.args.states c.args.arcs _ c.if-text-lt-HEADER_WIDTH.false _ c.in_ok-counts.ensures c.if-states-counts.true

pub returns-then-arcs-counts : goal.returns-then-arcs-counts
returns-then-arcs-counts c = text_arcs c.args.states c.args.arcs _ c.if-text-lt-HEADER_WIDTH.false _ c.in_ok-counts.ensures c.if-states-counts.false c.if-arcs-counts.true

pub judge_body-requires : goal.judge_body-requires
judge_body-requires c = let b = header_bounds c.args.states c.args.arcs c.args.text.now c.if-text-lt-HEADER_WIDTH.false _ c.in_ok-counts.ensures in (c.if-text-lt-HEADER_WIDTH.false, (b.tapes_fit, b.states_fit))

pub returns-in_err-judge_body : goal.returns-in_err-judge_body
returns-in_err-judge_body c =
    rw (handed_on _ _ c.from_residual-in_err-judge_body.ensures.1) (text-refused c.args.states c.args.arcs _ c.if-text-lt-HEADER_WIDTH.false _ c.in_ok-counts.ensures c.if-states-counts.false c.if-arcs-counts.false _ c.in_err-judge_body.ensures)

pub returns : goal.returns
returns c = text_fine c.args.states c.args.arcs _ c.if-text-lt-HEADER_WIDTH.false _ c.in_ok-counts.ensures c.if-states-counts.false c.if-arcs-counts.false c.in_ok-judge_body.ensures
