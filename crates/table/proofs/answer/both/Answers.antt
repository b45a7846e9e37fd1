use mathlib.Core.Path.{ap}
use Rattle.automata.specs.Answer.{refused}
use Rattle.table.proofs.AnswerFacts.{lesser}
use Rattle.table.proofs.answer.both.Goals as goal

pub returns-in-Err-Err : goal.returns-in-Err-Err
returns-in-Err-Err c = rw (c.in-Err-Err.is-0, c.in-Err-Err.is-1, c.min.ensures) (ap refused (lesser c.in-Err-Err.m c.in-Err-Err.n))
