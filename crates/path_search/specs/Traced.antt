-- The path behind a weight by the marks of the cells found.
use Rattle.std.specs.Prelude.{◌≡◌, List, [], ℕ, ◌/◌, ◌≤◌, length}
use Rattle.automata.specs.Automaton.{Tuple}
use Rattle.automata.specs.Memory.{Memory, Sound}
use Rattle.automata.specs.LeastPath.{Account}
use Rattle.automata.specs.Calls.Work.{path_work}
use Rattle.table.specs.declared.answer.Counts.{Counts}
use Rattle.lookup_tuple.specs.declared.Strings.{Strings}
use Rattle.lookup_tuple.specs.Strings.{Stands}
use Rattle.lookup_moves.specs.declared.spot.Spans.{Spans}
use Rattle.path_search.specs.Trail.{count_back, run_back}

-- the bytes hold a table, a tuple with a string for each of its tapes stands in the text, and the work space of so many
-- bytes has room for the search
pub record Traceable (m : Memory) (text : List ℕ) (s : Strings) (size : ℕ) : Type 0 where
  pub sound : Sound m
  pub tuple : Tuple
  pub stands : Stands text tuple s
  pub tapes_are : length tuple ≡ m.tapes
  pub fits : path_work m.states tuple ≤ size

-- the account of this weight whose path ends at a cell, one of the `found` ones
abbrev pub traced : Counts → List ℕ → Spans → List ℕ → ℕ → ℕ → ℕ → Account ℕ
traced c arcs spans xs weight found end =
    let back = run_back c arcs spans xs (count_back c arcs spans xs found end) end [] in
    record { weight = weight; path = record { start = back.1 / spans.all; run = back.0 } }
