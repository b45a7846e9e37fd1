-- Paths over numbered cells, and the first of those that lead to an end.
use Rattle.std.specs.Prelude.{◌≡◌, ◌⊎◌, Bool, true, List, [], ◌∷◌, ◌++◌, ℕ, ◌*◌, ◌≤◌, ◌<◌, length}
use Rattle.std.proofs.Math.Option.{Option, some}
use Rattle.automata.specs.Paths.{Trace}
use Rattle.automata.specs.TraceOrder.{Before}
use Rattle.lookup_moves.specs.Distances.{far}
use Rattle.path_search.specs.Search.{Search, no_arc, mark_at, order_at}

-- by `next` an arc leads from a cell to another, by `start` paths start at the cell of a state
module _ (next : ℕ → ℕ → Option ℕ) (start : ℕ → Option ℕ) where
  -- the arcs of a run lead from one cell to another
  pub data Follows : ℕ → List ℕ → ℕ → Type 0 where
    stop : {c : ℕ} → Follows c [] c
    step : {c d b : ℕ} {r : List ℕ} (e : ℕ) → next c e ≡ some d → Follows d r b → Follows c (e ∷ r) b

  -- a path, known by its starting state and its run of arc numbers, leads to a cell
  pub record Reaches (π : Trace) (c : ℕ) : Type 0 where
    pub first : ℕ
    pub starts : start π.start ≡ some first
    pub follows : Follows first π.run c

  -- the marks lead back from a cell to the start of a path, along its run
  pub data Back (cells : ℕ) (xs : List ℕ) (q : ℕ) : List ℕ → ℕ → Type 0 where
    at_start : {c : ℕ} → start q ≡ some c → mark_at cells xs c ≡ no_arc → Back cells xs q [] c
    behind : {r : List ℕ} {b c : ℕ} (e : ℕ) → Back cells xs q r b → next b e ≡ some c → mark_at cells xs c ≡ e → Back cells xs q (r ++ (e ∷ [])) c

  -- Cell c is an end, and a path leads there that comes before every other that leads to an end; the marks lead back
  -- along it.
  pub record FirstTo (end : ℕ → Bool) (cells : ℕ) (s : Search) (c : ℕ) : Type 0 where
    pub path : Trace
    pub reaches : Reaches path c
    pub ends : end c ≡ true
    pub first : (ρ : Trace) (d : ℕ) → Reaches ρ d → end d ≡ true → (path ≡ ρ) ⊎ Before path ρ
    pub back : Back cells s.numbers path.start path.run c
    pub short : length path.run < s.tail

-- The numbers and the count of a search hang together: the cells found have marks, stand in the order, each once, and
-- no other cell has one.
pub record Kept (cells : ℕ) (s : Search) : Type 0 where
  pub room : 3 * cells ≤ length s.numbers
  pub few : s.tail ≤ cells
  pub cell : (i : ℕ) → i < s.tail → order_at cells s.numbers i < cells
  pub found : (i : ℕ) → i < s.tail → mark_at cells s.numbers (order_at cells s.numbers i) < far
  pub place : (c : ℕ) → c < cells → mark_at cells s.numbers c < far → (i : ℕ) × (i < s.tail) × (order_at cells s.numbers i ≡ c)
  pub once : (i j : ℕ) → i < s.tail → j < s.tail → order_at cells s.numbers i ≡ order_at cells s.numbers j → i ≡ j
