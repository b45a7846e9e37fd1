-- Chains in which a state has no two arcs to the same target: some arcs are marked, so that each arc has a marked one
-- between the same states, and the marked ones are linked.
use Rattle.std.specs.Prelude.{◌≡◌, true, List, ℕ, ◌+◌, ◌*◌, ◌≤◌, ◌<◌, length, get_or}
use Rattle.table.specs.Arcs.{source_of, target_of}
use Rattle.table_adjacency.specs.Chains.{in_chain, FirstIn, Linked, Chained}
use Rattle.automata.specs.Layout.{arc_size}

-- one of n arcs that stands in a chain, or is marked to, leads from q to t
pub record Between (arcs next : List ℕ) (n q t : ℕ) : Type 0 where
  pub arc : ℕ
  pub within : arc < n
  pub chained : in_chain next arc ≡ true
  pub source_is : source_of arcs arc ≡ q
  pub target_is : target_of arcs arc ≡ t

-- what is marked stays so
abbrev pub Grown : List ℕ → List ℕ → Type 0
Grown marks after = (i : ℕ) → in_chain marks i ≡ true → in_chain after i ≡ true

-- where `seen` has q + 1 at t, an arc from q to t is marked
pub record Marked (m n : ℕ) (arcs seen marks : List ℕ) : Type 0 where
  pub seen_fits : m ≤ length seen
  pub marks_fit : n ≤ length marks
  pub sound : (t q : ℕ) → get_or seen t 0 ≡ q + 1 → Between arcs marks n q t

-- the arc with number j, from q to t, was looked at
pub record MarksArc (q t j : ℕ) (seen marks seen_after marks_after : List ℕ) : Type 0 where
  pub same_seen : length seen_after ≡ length seen
  pub same_marks : length marks_after ≡ length marks
  pub grown : Grown marks marks_after
  pub meaning : (m n : ℕ) (arcs : List ℕ) → Marked m n arcs seen marks → j < n → source_of arcs j ≡ q → target_of arcs j ≡ t
      → Marked m n arcs seen_after marks_after × Between arcs marks_after n q t

-- the arcs may be marked: all of them stand in the chains of their sources
pub record Markable (m n : ℕ) (arcs first next : List ℕ) : Type 0 where
  pub few_states : m ≤ 1024
  pub few : n ≤ 8192
  pub whole : arc_size * n ≤ length arcs
  pub sources : (j : ℕ) → j < n → source_of arcs j < m
  pub targets : (j : ℕ) → j < n → target_of arcs j < m
  pub chained : Chained m n arcs first next

-- those of the state q were looked at
pub record MarksState (m n : ℕ) (arcs : List ℕ) (q : ℕ) (seen marks seen_after marks_after : List ℕ) : Type 0 where
  pub same_seen : length seen_after ≡ length seen
  pub same_marks : length marks_after ≡ length marks
  pub grown : Grown marks marks_after
  pub marked : Marked m n arcs seen_after marks_after
  pub covered : (j : ℕ) → j < n → source_of arcs j ≡ q → Between arcs marks_after n q (target_of arcs j)

-- each arc has one in a chain, or marked to be, between the same states
abbrev pub Covers : ℕ → List ℕ → List ℕ → Type 0
Covers n arcs next = (j : ℕ) → j < n → Between arcs next n (source_of arcs j) (target_of arcs j)

-- those of all states were
pub record MarksAll (n : ℕ) (arcs marks marks_after : List ℕ) : Type 0 where
  pub same_marks : length marks_after ≡ length marks
  pub covers : Covers n arcs marks_after

-- ---- linking what is marked

-- the marked arcs from number k on are linked
pub record LinkedFrom (k m n : ℕ) (arcs first next : List ℕ) : Type 0 where
  pub states_fit : m ≤ length first
  pub arcs_fit : n ≤ length next
  pub firsts : (q : ℕ) → q < m → FirstIn arcs next q n k (get_or first q 0)
  pub nexts : (j : ℕ) → k ≤ j → j < n → in_chain next j ≡ true → FirstIn arcs next (source_of arcs j) n (j + 1) (get_or next j 0)

-- the same arcs are marked
abbrev pub SameMarks : List ℕ → List ℕ → Type 0
SameMarks next after = (i : ℕ) → in_chain after i ≡ in_chain next i

-- the arc with number j was linked, where it is marked
pub record LinksArc (arcs : List ℕ) (j : ℕ) (first next first_after next_after : List ℕ) : Type 0 where
  pub same_first : length first_after ≡ length first
  pub same_next : length next_after ≡ length next
  pub meaning : (m n : ℕ) → j < n → source_of arcs j < m → LinkedFrom (j + 1) m n arcs first next → LinkedFrom j m n arcs first_after next_after × SameMarks next next_after

-- all were
pub record LinksAll (m n : ℕ) (arcs next first_after next_after : List ℕ) : Type 0 where
  pub same_next : length next_after ≡ length next
  pub linked : Linked m n arcs first_after next_after
  pub same_marks : SameMarks next next_after

-- the whole: chains in which each arc has one between the same states
pub record LinksDistinct (m n : ℕ) (arcs first next : List ℕ) : Type 0 where
  pub linked : Linked m n arcs first next
  pub covers : Covers n arcs next
