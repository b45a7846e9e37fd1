-- What the answers by value stand for.
use Rattle.std.proofs.Math.Option.{Option, none, some}
use Rattle.std.specs.Prelude as rust
use Rattle.std.specs.Prelude.{Result, Ok, Err, Some, None}
use Rattle.automata.specs.Answer.{Answer, ok, refused}
use Rattle.automata.specs.Calls.LeastPath.{Told}
use Rattle.table.specs.Answers.{refusal_number}
use Rattle.table.specs.declared.answer.Refusal.{Refusal}
use Rattle.path_search.specs.declared.answer.PathTold.{PathTold}

-- what is told of a path
abbrev pub told_as : PathTold → Told
told_as x = record { weight = x.weight; start = x.start; arcs = x.arcs }

-- a path, none, or a refusal
abbrev pub PathAnswer : Type 0
PathAnswer = Result (rust.Option PathTold) Refusal

-- what it stands for
abbrev pub path_as : PathAnswer → Answer (Option Told)
path_as (Ok (Some x)) = ok (some (told_as x))
path_as (Ok None) = ok none
path_as (Err r) = refused (refusal_number r)
