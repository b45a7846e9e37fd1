-- What request 2.1 of document 02 promises of a forecast.
use Rattle.std.specs.Prelude.{◌≡◌, Bool, true, false, ◌↔◌, ◌⊎◌, List, ◌++◌, map, ℕ, ◌-◌, ◌≤◌, length, get_or}
use Rattle.std.proofs.Math.Option.{some}
use Rattle.std.proofs.Math.ListN.{get_elem?}
use Rattle.automata.specs.Lists.{◌∈◌, Distinct}
use Rattle.automata.specs.Explore.{Reachable}
use Rattle.automata.specs.Trim.{at_marks}
use Rattle.automata.specs.Automaton.{Automaton, Arc}
use Rattle.automata.specs.TapePair.{Pair, TapePair, tapes_of, first_label, second_label}
use Rattle.automata.specs.Memory.{Memory, Sound, table_of}
use Rattle.automata.specs.Config.{Config}
use Rattle.automata.specs.Closing.{closing_tables, viable}
use Rattle.automata.specs.Intersect.{starts, candidates}
use Rattle.automata.specs.Viable.{EachPair}
use Rattle.automata.specs.Cycles.{StateOnPath, ArcOnPath, Mixed, MixedSimple}
use Rattle.automata.specs.Forecast.{on_paths, path_states, arc_delay, greatest_delay, symbols_on, Told, Forecast, mixed, needs, forecast}
use Rattle.automata.specs.ForecastCall.{forecast_of}

module _ {W : Type 0} (A : Automaton W) where
  -- the forecast of a pair is not mixed: it tells a delay
  abbrev pub Tells : TapePair → ℕ → Type 0
  Tells p d = (t : Told) × (forecast A p ≡ needs d t)

  -- no arc on a successful path has a delay of a greater size than g, and one has it, or g is 0
  pub record Greatest (p : TapePair) (g : ℕ) : Type 0 where
    pub none_greater : (e : ℕ) (a : Arc W) → get_elem? A.arcs e ≡ some a → ArcOnPath A e → arc_delay (p.first - 1) (p.second - 1) a ≤ g
    pub attained : (g ≡ 0) ⊎ ((e : ℕ) × (a : Arc W) × (get_elem? A.arcs e ≡ some a) × ArcOnPath A e × (arc_delay (p.first - 1) (p.second - 1) a ≡ g))

  module _ (ps : List TapePair) where
    -- the test for viable configurations (document 01: hopeful)
    abbrev pub viability : Config → Bool
    viability = viable (closing_tables A ps)

    -- a configuration that viable compatible steps lead to, however high the limits
    abbrev pub ReachedUnlimited : Config → Type 0
    ReachedUnlimited c = Reachable (candidates A ps viability) (starts A ps viability) c

    -- 2.1: the states and arcs counted are those on successful paths; a pair's forecast is mixed iff some successful
    -- path touches both a cycle of positive delay and one of negative delay, simple or not; the delay told is by the
    -- greatest of the arcs on successful paths, and is never exceeded, whatever is said of the other pairs; and each
    -- symbol on the pair's tapes is counted once.
    pub record ForecastHolds : Type 0 where
      pub states_on_paths : (q : ℕ) → (get_or (on_paths A) q false ≡ true) ↔ StateOnPath A q
      pub number_on_paths : path_states A ≡ length (at_marks (on_paths A) A.states)
      pub arcs_on_paths : (e : ℕ) (a : Arc W) → get_elem? A.arcs e ≡ some a
          → ((get_or (on_paths A) a.source false ≡ true) × (get_or (on_paths A) a.target false ≡ true)) ↔ ArcOnPath A e
      pub mixed_iff : (p : TapePair) → (forecast A p ≡ mixed) ↔ Mixed A (p.first - 1) (p.second - 1)
      pub simple_iff : (p : TapePair) → (forecast A p ≡ mixed) ↔ MixedSimple A (p.first - 1) (p.second - 1)
      pub greatest : (p : TapePair) → Greatest p (greatest_delay (on_paths A) (p.first - 1) (p.second - 1) A.arcs)
      pub symbols_in_use : (p : TapePair) (x : ℕ) → (x ∈ symbols_on A p) ↔ ((a : Arc W) × (a ∈ A.arcs) × (x ∈ (first_label p a ++ second_label p a)))
      pub symbols_once : (p : TapePair) → Distinct (symbols_on A p)
      pub delays : (c : Config) → ReachedUnlimited c
          → EachPair ps c.leftovers (λ p l. (d : ℕ) → Tells p d → (length l.first ≤ d) × (length l.second ≤ d))

-- What the call `forecast` told of a table in memory and pairs of its tapes: a forecast for each pair, in list order,
-- of which 2.1 holds whatever limits a build then has.
pub record ForecastsTold (m : Memory) (ps : List Pair) (fs : List Forecast) : Type 0 where
  pub judged : Sound m
  pub are : fs ≡ map (forecast_of (table_of m)) ps
  pub hold : (qs : List TapePair) → tapes_of qs ≡ ps → ForecastHolds (table_of m) qs
  pub limit_not_read : (p : Pair) (D : ℕ) → forecast (table_of m) (record { first = p.first; second = p.second; limit = D }) ≡ forecast_of (table_of m) p
