-- What the answer of a lookup by value stands for.
use Rattle.std.specs.Prelude as rust
use Rattle.std.specs.Prelude.{Ok, Err, ℕ}
use Rattle.std.proofs.Math.Option.{Option}
use Rattle.automata.specs.Answer.{Answer, ok, refused}
use Rattle.table.specs.Answers.{refusal_number}
use Rattle.table.specs.Records.{option_of}
use Rattle.table.specs.declared.answer.Refusal.{Refusal}

-- what a lookup answers: a weight, or none, or a refusal
abbrev pub WeightAnswer : Type 0
WeightAnswer = rust.Result (rust.Option ℕ) Refusal

-- what it stands for
abbrev pub weight_as : WeightAnswer → Answer (Option ℕ)
weight_as (Ok w) = ok (option_of w)
weight_as (Err r) = refused (refusal_number r)
