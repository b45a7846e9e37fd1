-- The states and arcs of a table that a search reads, as records lent to it.
use Rattle.std.specs.Prelude.{◌≡◌, List, [], ◌∷◌, ℕ, zero, suc, ◌*◌, ◌≤◌, ◌<◌, length}
use Rattle.std.proofs.Math.Option.{some}
use Rattle.std.proofs.Math.ListN.{get_elem?}
use Rattle.automata.specs.Lists.{if}
use Rattle.automata.specs.Automaton.{Automaton, Arc}
use Rattle.automata.specs.Layout.{arc_size, state_size}
use Rattle.table.specs.declared.answer.Counts.{Counts}
use Rattle.table.specs.Records.{state_as, state_at, arc_as, arc_at}
use Rattle.table_adjacency.specs.Chains.{in_chain, Linked}

-- the records of all states are lent
pub record StatesLent (counts : Counts) (bytes : List ℕ) : Type 0 where
  pub few : counts.states ≤ 1024
  pub lent : state_size * counts.states ≤ length bytes

-- the records of all arcs are lent
pub record ArcsLent (counts : Counts) (bytes : List ℕ) : Type 0 where
  pub few : counts.arcs ≤ 8192
  pub lent : arc_size * counts.arcs ≤ length bytes

-- they are those of the states of A
pub record ReadsStates (counts : Counts) (bytes : List ℕ) (A : Automaton ℕ) : Type 0 where
  pub count : length A.states ≡ counts.states
  pub few : length A.states ≤ 1024
  pub loaded : (q : ℕ) → q < counts.states → get_elem? A.states q ≡ some (state_as (state_at (state_size * q) bytes))

-- they are those of the arcs of A, which join states of A
pub record ReadsArcs (counts : Counts) (bytes : List ℕ) (A : Automaton ℕ) : Type 0 where
  pub count : length A.arcs ≡ counts.arcs
  pub few_states : length A.states ≤ 1024
  pub loaded : (j : ℕ) → j < counts.arcs → get_elem? A.arcs j ≡ some (arc_as counts.tapes (arc_at (arc_size * j) bytes))
  pub source_fits : (j : ℕ) → j < counts.arcs → (arc_at (arc_size * j) bytes).source.0 < length A.states
  pub target_fits : (j : ℕ) → j < counts.arcs → (arc_at (arc_size * j) bytes).target.0 < length A.states

-- ---- the arcs that stand in chains

-- `first` and `next` hold chains of arcs of a table
abbrev pub LinkedArcs : Counts → List ℕ → List ℕ → List ℕ → Type 0
LinkedArcs counts bytes first next = Linked counts.states counts.arcs bytes first next

-- they hold the arcs of some table, at most 8,192
pub record Walkable (counts : Counts) (first next : List ℕ) : Type 0 where
  pub few : counts.arcs ≤ 8192
  pub bytes : List ℕ
  pub linked : LinkedArcs counts bytes first next

-- the arcs of a list that stand in chains, where the first of the list has the number k
abbrev pub chained_arcs : List ℕ → ℕ → List (Arc ℕ) → List (Arc ℕ)
chained_arcs next k [] = []
chained_arcs next k (a ∷ xs) = let r = chained_arcs next (suc k) xs in if (in_chain next k) (a ∷ r) r

-- the automaton with these arcs alone
abbrev pub chained_only : List ℕ → Automaton ℕ → Automaton ℕ
chained_only next A = record { tapes = A.tapes; states = A.states; arcs = chained_arcs next zero A.arcs }
