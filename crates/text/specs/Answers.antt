-- What the call `write` answers.
use Rattle.std.specs.Prelude.{Result, Ok, Err, List, ℕ}
use Rattle.automata.specs.Answer.{Answer, ok, refused}
use Rattle.automata.specs.Calls.Outcome.{Written}
use Rattle.table.specs.Answers.{refusal_number}
use Rattle.table.specs.declared.answer.Refusal.{Refusal}

-- the number of bytes written, or a refusal
abbrev pub WriteAnswer : Type 0
WriteAnswer = Result ℕ Refusal

-- what it stands for
abbrev pub written_as : WriteAnswer → Answer ℕ
written_as (Ok n) = ok n
written_as (Err r) = refused (refusal_number r)

-- an answer and the output after the call
abbrev pub written_of : Answer ℕ → List ℕ → Written
written_of answer output = record { answer = answer; output = output }
