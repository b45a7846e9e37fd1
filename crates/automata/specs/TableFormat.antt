-- How the parts of a table are put together, in text and in memory alike. Each format is given how a number, a weight
-- or the labels of an arc are written.
use Rattle.std.proofs.Math.Option.{Option}
use Rattle.std.specs.Prelude.{List, ℕ, ltb}
use Rattle.automata.specs.Automaton.{State, Arc}
use Rattle.automata.specs.Answer.{ok}
use Rattle.automata.specs.Refusal.{size, state}
use Rattle.automata.specs.Format.{Format, pair, convert, restrict}
use Rattle.automata.specs.Table.{weight_fits}

-- a state: its initial and its final weight
abbrev pub state_format : Format ℕ (Option ℕ) → Format ℕ (State ℕ)
state_format weight = convert (λ p. ok (record { initial = p.0; final = p.1 })) (λ s. (s.initial, s.final)) (pair weight weight)

-- the number of a state, of so many
abbrev pub state_number : ℕ → Format ℕ ℕ → Format ℕ ℕ
state_number states number = restrict (λ q. ltb q states) state number

-- a weight that is there
abbrev pub weight_number : Format ℕ ℕ → Format ℕ ℕ
weight_number number = restrict weight_fits size number

-- an arc: source, target, weight, labels
abbrev pub arc_format : Format ℕ ℕ → Format ℕ ℕ → Format ℕ (List (List ℕ)) → Format ℕ (Arc ℕ)
arc_format number weight labels = convert
    (λ p. ok (record { source = p.0; target = p.1.0; weight = p.1.1.0; labels = p.1.1.1 }))
    (λ a. (a.source, (a.target, (a.weight, a.labels))))
    (pair number (pair number (pair weight labels)))
