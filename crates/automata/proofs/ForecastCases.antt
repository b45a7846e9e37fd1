-- The worked forecasts: what the definitions tell is what the table says, by computation.
use mathlib.Core.Path.{◌≡◌, refl}
use mathlib.Core.List.{map}
use Prim.Native.Nat.{ℕ}
use Rattle.automata.specs.Automaton.{Automaton}
use Rattle.automata.specs.TapePair.{Pair, reading}
use Rattle.automata.specs.Trim.{rank}
use Rattle.automata.specs.Forecast.{on_paths, path_states, needed_delay, mixed_on, symbols_on, leftover_bound, leftovers_of, forecast, Forecast}
use Rattle.automata.specs.ForecastCall.{forecast_of}
use Rattle.automata.specs.ForecastCases.{forecasts}

-- every forecast of the table comes out as expected
pub forecasts_hold : map (λ (c : Automaton ℕ × Pair × Forecast). forecast_of c.0 c.1) forecasts ≡ map (λ (c : Automaton ℕ × Pair × Forecast). c.2) forecasts
unfolding reading rank on_paths path_states needed_delay mixed_on symbols_on leftover_bound leftovers_of forecast forecast_of
forecasts_hold = refl
