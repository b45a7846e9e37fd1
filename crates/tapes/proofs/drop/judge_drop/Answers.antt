use mathlib.Core.Path.{sym}
use Rattle.table.specs.Answers.{memory}
use Rattle.table.proofs.AnswerFacts.{handed_on}
use Rattle.table.proofs.TableFacts.{judged_sound}
use Rattle.table.proofs.SoundFacts.{few_tapes}
use Rattle.intersect_room.specs.Room.{lent_space}
use Rattle.tapes.proofs.DropCall.{drop_table_judged, drop_marks_judged, drop_space_judged}
use Rattle.tapes.proofs.drop.judge_drop.Goals as goal

pub returns-in_err-judge : goal.returns-in_err-judge
returns-in_err-judge c = rw (handed_on _ _ c.from_residual.ensures.1) (drop_table_judged (memory c.args.table.now) c.args.mask (lent_space c.args.lent_states c.args.lent_arcs) _ c.in_err-judge.ensures)

pub may_drop-requires : goal.may_drop-requires
may_drop-requires c = let m = (memory c.args.table.now) in few_tapes m (judged_sound m (sym c.in_ok-judge.ensures))

pub returns-then-not-may_drop : goal.returns-then-not-may_drop
returns-then-not-may_drop c = drop_marks_judged (memory c.args.table.now) c.args.mask (lent_space c.args.lent_states c.args.lent_arcs) c.in_ok-judge.ensures c.if-not-may_drop.ensures

pub returns : goal.returns
returns c = drop_space_judged (memory c.args.table.now) c.args.mask (lent_space c.args.lent_states c.args.lent_arcs) c.in_ok-judge.ensures c.if-not-may_drop.ensures _ c.fits.ensures
