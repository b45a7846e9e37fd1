-- The arcs of a table by their sources: the chain of each state, and two lists that hold all chains.
use Rattle.std.specs.Prelude.{◌≡◌, Bool, true, List, [], ◌∷◌, ℕ, zero, suc, ◌+◌, ◌-◌, ◌*◌, ◌≤◌, ◌<◌, eqb, ltb, length, get_or}
use Rattle.automata.specs.Lists.{if}
use Rattle.automata.specs.Layout.{arc_size}
use Rattle.table.specs.Arcs.{source_of}

-- the chain of state q: the numbers of the arcs that leave it among the n from number k on, in the order of the records
unfoldable pub chain : List ℕ → ℕ → ℕ → ℕ → List ℕ
chain arcs q k zero = []
chain arcs q k (suc n) = let rest = chain arcs q (k + 1) n in if (eqb (source_of arcs k) q) (k ∷ rest) rest

-- the first number of a chain, and e where it is empty
abbrev pub first_or : ℕ → List ℕ → ℕ
first_or e [] = e
first_or e (j ∷ js) = j

-- The n arcs from number k on are chained: `first` has the first number of the chain of each of m states, `next` the
-- number that follows each arc in the chain of its source; n stands for the end of a chain.
pub record ChainedFrom (k m n : ℕ) (arcs first next : List ℕ) : Type 0 where
  pub states_fit : m ≤ length first
  pub arcs_fit : n ≤ length next
  pub firsts : (q : ℕ) → q < m → get_or first q 0 ≡ first_or n (chain arcs q k (n - k))
  pub nexts : (j : ℕ) → k ≤ j → j < n → get_or next j 0 ≡ first_or n (chain arcs (source_of arcs j) (j + 1) (n - (j + 1)))

-- all arcs are chained
abbrev pub Chained : ℕ → ℕ → List ℕ → List ℕ → List ℕ → Type 0
Chained m n arcs first next = ChainedFrom 0 m n arcs first next

-- n arcs of m states may be chained in lists of two lengths
pub record Chainable (m n : ℕ) (arcs : List ℕ) (for_states for_arcs : ℕ) : Type 0 where
  pub whole : arc_size * n ≤ length arcs
  pub few : n ≤ 8192
  pub sources : (j : ℕ) → j < n → source_of arcs j < m
  pub states_fit : m ≤ for_states
  pub arcs_fit : n ≤ for_arcs

-- ---- chains of some of the arcs

-- the arc with number j stands in a chain: it has a successor there, or the end; 0 follows no arc
abbrev pub in_chain : List ℕ → ℕ → Bool
in_chain next j = ltb 0 (get_or next j 0)

-- j is the first arc from number k on that stands in a chain and leaves q, of n in all; n where there is none
pub record FirstIn (arcs next : List ℕ) (q n k j : ℕ) : Type 0 where
  pub behind : k ≤ j
  pub within : j ≤ n
  pub between : (i : ℕ) → k ≤ i → i < j → in_chain next i ≡ true → source_of arcs i ≡ q → ⊥
  pub leaves : j < n → (in_chain next j ≡ true) × (source_of arcs j ≡ q)

-- `first` and `next` hold the chains of m states, in which some of n arcs stand, in the order of the records
pub record Linked (m n : ℕ) (arcs first next : List ℕ) : Type 0 where
  pub states_fit : m ≤ length first
  pub arcs_fit : n ≤ length next
  pub sources : (j : ℕ) → j < n → source_of arcs j < m
  pub firsts : (q : ℕ) → q < m → FirstIn arcs next q n 0 (get_or first q 0)
  pub nexts : (j : ℕ) → j < n → in_chain next j ≡ true → FirstIn arcs next (source_of arcs j) n (j + 1) (get_or next j 0)

-- the first arcs of m states, of at most n arcs
pub record Heads (m n : ℕ) (first : List ℕ) : Type 0 where
  pub few : n ≤ 8192
  pub states_fit : m ≤ length first
  pub bounded : (q : ℕ) → q < m → get_or first q 0 ≤ n

-- the first arc in the chain of the place with number x: n where that is no state
unfoldable pub first_for : ℕ → ℕ → List ℕ → ℕ → ℕ
first_for m n first x = if (ltb x m) (get_or first x 0) n
