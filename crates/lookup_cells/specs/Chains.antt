-- Arcs in chains by a key: a list of numbers that has the first arc of each key, and behind these the next arc of each
-- arc.
use Rattle.std.specs.Prelude.{◌≡◌, ◌≢◌, List, ℕ, ◌+◌, ◌≤◌, ◌<◌, length, get_or}

-- the first arc of a key, and the next arc of an arc; a number that is no arc where there is none
abbrev pub first_of : List ℕ → ℕ → ℕ
first_of index q = get_or index q 0

abbrev pub next_of : List ℕ → ℕ → ℕ
next_of index e = get_or index (1024 + e) 0

-- the arcs from lo on, below n, stand in the chains of their keys in rising order
pub record ChainedFrom (key : ℕ → ℕ) (lo n : ℕ) (index : List ℕ) : Type 0 where
  pub size_is : length index ≡ 9216
  pub first_up : (q : ℕ) → q < 1024 → lo ≤ first_of index q
  pub first_is : (q : ℕ) → q < 1024 → first_of index q < n → key (first_of index q) ≡ q
  pub first-none : (q : ℕ) → q < 1024 → (e : ℕ) → lo ≤ e → e < n → e < first_of index q → key e ≢ q
  pub next_up : (e : ℕ) → lo ≤ e → e < n → e < next_of index e
  pub next_is : (e : ℕ) → lo ≤ e → e < n → next_of index e < n → key (next_of index e) ≡ key e
  pub next_none : (e : ℕ) → lo ≤ e → e < n → (f : ℕ) → e < f → f < n → f < next_of index e → key f ≢ key e

-- all do
abbrev pub Chained : (ℕ → ℕ) → ℕ → List ℕ → Type 0
Chained key n index = ChainedFrom key 0 n index
