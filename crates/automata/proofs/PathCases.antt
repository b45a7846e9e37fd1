-- The worked paths: what the definitions tell and answer is what the tables say, by computation.
use mathlib.Core.Path.{◌≡◌, refl}
use mathlib.Core.Bool.{Bool}
use mathlib.Core.Option.{Option}
use mathlib.Core.List.{map}
use Prim.Native.Nat.{ℕ}
use Rattle.automata.specs.Answer.{Answer}
use Rattle.automata.specs.OrderedSum.{ℕ_sum}
use Rattle.automata.specs.Automaton.{Automaton, Tuple}
use Rattle.automata.specs.Lookup.{lookup}
use Rattle.automata.specs.LeastPath.{Account, least_path}
use Rattle.automata.specs.LeastPathCall.{least_path_call}
use Rattle.automata.specs.PathCases.{paths, path_calls}

-- every path of the table comes out as expected
pub path-cases_hold : map (λ (c : Automaton ℕ × Tuple × Option (Account ℕ)). least_path ℕ_sum c.0 c.1) paths
    ≡ map (λ (c : Automaton ℕ × Tuple × Option (Account ℕ)). c.2) paths
unfolding lookup least_path
path-cases_hold = refl

-- and every answer of the call
pub path_calls_hold : map (λ (c : Bool × ℕ × Automaton ℕ × Tuple × Answer (Option (Account ℕ))). least_path_call c.0 c.1 c.2 c.3) path_calls
    ≡ map (λ (c : Bool × ℕ × Automaton ℕ × Tuple × Answer (Option (Account ℕ))). c.4) path_calls
unfolding lookup least_path least_path_call
path_calls_hold = refl
