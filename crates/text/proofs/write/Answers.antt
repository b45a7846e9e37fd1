use native.Mathlib.Omega.{arith}
use Rattle.table.specs.Answers.{memory}
use Rattle.table.proofs.AnswerFacts.{handed_on}
use Rattle.table.proofs.SoundFacts.{few_tapes, few_states, few_arcs}
use Rattle.text.proofs.WrittenFacts.{judged_sound, write_refused, write_short, write_done}
use Rattle.text.proofs.write.Goals as goal

pub returns-in_err-judge : goal.returns-in_err-judge
returns-in_err-judge c = rw (handed_on _ _ c.from_residual.ensures.1) (write_refused (memory c.args.table.now) _ _ c.in_err-judge.ensures)

pub text_length-need-requires : goal.text_length-need-requires
text_length-need-requires c =
    let m = memory c.args.table.now in
    let d = judged_sound m c.in_ok-judge.ensures in
    (few_tapes m d, (few_states m d, few_arcs m d))

pub returns-then-output-need : goal.returns-then-output-need
returns-then-output-need c =
    let m = memory c.args.table.now in
    write_short m _ (judged_sound m c.in_ok-judge.ensures) (omega (arith, c.if-output-need.true, c.text_length-need.ensures))

pub write_table-requires : goal.write_table-requires
write_table-requires c =
    let m = memory c.args.table.now in
    (judged_sound m c.in_ok-judge.ensures, omega (arith, c.if-output-need.false, c.text_length-need.ensures))

pub returns : goal.returns
returns c =
    let m = memory c.args.table.now in
    write_done m _ (judged_sound m c.in_ok-judge.ensures) _ _ c.text_length-need.ensures c.if-output-need.false c.write_table.ensures
