-- What the answers by value stand for, case by case, with the number of each refusal.
use Rattle.std.specs.Prelude.{ℕ, List, Result, Ok, Err}
use Rattle.automata.specs.Refusal as refusal
use Rattle.automata.specs.Answer.{Answer, ok, refused}
use Rattle.automata.specs.Memory as automata
use Rattle.automata.specs.Calls.Outcome.{TableCounts}
use Rattle.table.specs.declared.answer.Refusal.{Refusal}
use Rattle.table.specs.declared.answer.Refusal.TheVariants.{Short, Form, Size, State, Tape, Pairs, Limit, StatesFull, ArcsFull, Delay, Weight, Width, Space, Path}
use Rattle.table.specs.declared.answer.Counts.{Counts}
use Rattle.table.specs.declared.lent.Table.{Table}

-- the number of each refusal
abbrev pub refusal_number : Refusal → ℕ
refusal_number Short = refusal.short
refusal_number Form = refusal.form
refusal_number Size = refusal.size
refusal_number State = refusal.state
refusal_number Tape = refusal.tape
refusal_number Pairs = refusal.pairs
refusal_number Limit = refusal.limit
refusal_number StatesFull = refusal.states_full
refusal_number ArcsFull = refusal.arcs_full
refusal_number Delay = refusal.delay
refusal_number Weight = refusal.weight
refusal_number Width = refusal.width
refusal_number Space = refusal.space
refusal_number Path = refusal.path

-- a judgement: nothing but whether there is a refusal, and which
abbrev pub Judged : Type 0
Judged = Result (Unit {0}) Refusal

-- what it stands for: nothing, or the number of the refusal
abbrev pub judged_as : Judged → Answer (Unit {0})
judged_as (Ok t) = ok tt
judged_as (Err r) = refused (refusal_number r)

-- the counts of a table
abbrev pub counts_as : Counts → TableCounts
counts_as c = record { tapes = c.tapes; states = c.states; arcs = c.arcs }

-- what a call that makes a table answers: its counts, or a refusal
abbrev pub TableAnswer : Type 0
TableAnswer = Result Counts Refusal

-- what it stands for
abbrev pub table_as : TableAnswer → Answer TableCounts
table_as (Ok c) = ok (counts_as c)
table_as (Err r) = refused (refusal_number r)

-- a table lent: its counts and the bytes of its records
abbrev pub lent : Counts → List ℕ → List ℕ → automata.Memory
lent c states arcs = automata.memory_of c.tapes c.states c.arcs states arcs

-- the same of a table by value
abbrev pub memory : Table → automata.Memory
memory t = lent t.counts t.states.now t.arcs.now
