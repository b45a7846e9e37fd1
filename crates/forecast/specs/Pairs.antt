-- What the forecast of a pair is counted from: the vectors of the work space that mark the states on successful paths,
-- and the arc records.
use Rattle.std.specs.Prelude.{ℕ, ◌-◌, ◌*◌, ◌≡◌, false, List, [], map, eqb, length}
use Rattle.automata.specs.Lists.{if}
use Rattle.automata.specs.Explore.{insert_all}
use Rattle.automata.specs.Closing.{origin, missing}
use Rattle.automata.specs.Reversal.{reversal}
use Rattle.automata.specs.Memory.{Memory, table_of}
use Rattle.automata.specs.Forecast.{Forecast, needs, reaching, told_capped}
use Rattle.delays_relaxation.specs.Vector.{vector}
use Rattle.delays_relaxation.specs.Edges.{edges}
use Rattle.forecast_counts.specs.Counts.{to_final, from_initial, marks_from, greatest_of}
use Rattle.forecast_counts.specs.Symbols.{symbols_from}

-- the work space marks which states of the table reach a final state, and which an initial state leads to
pub record Marked (m : Memory) (w : List ℕ) : Type 0 where
  pub to_final : vector to_final m.states w ≡ map (λ b. if b origin missing) (reaching (table_of m))
  pub from_initial : vector from_initial m.states w ≡ map (λ b. if b origin missing) (reaching (reversal (table_of m)))

-- the delay that a pair can need, with so many states on successful paths
abbrev pub delay_by : ℕ → ℕ → ℕ → List ℕ → ℕ → List ℕ → ℕ → ℕ
delay_by first second count arcs n w found = (found - 1) * greatest_of (marks_from 0 n w) (edges false first second 0 count arcs)

-- how many symbols stand on its tapes
abbrev pub symbols_by : ℕ → ℕ → ℕ → List ℕ → ℕ
symbols_by first second count arcs = length (insert_all eqb [] (symbols_from first second 0 count arcs))

-- what is told of a pair that is not mixed
abbrev pub needed_by : ℕ → ℕ → ℕ → List ℕ → ℕ → List ℕ → ℕ → Forecast
needed_by first second count arcs n w found =
    needs (delay_by first second count arcs n w found) (told_capped n (symbols_by first second count arcs) (delay_by first second count arcs n w found))
