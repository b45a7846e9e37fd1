-- Vectors in the work space: each state has 64 bytes there, and a vector is a number of two bytes at one place of each.
use Rattle.std.specs.Prelude.{ℕ, zero, suc, ◌+◌, ◌-◌, ◌*◌, ◌%◌, ◌<◌, ◌≤◌, ◌≡◌, ◌⊎◌, List, [], ◌∷◌, length, get_or}
use Rattle.table.specs.Region.{part}
use Rattle.table.specs.Endian.{le}
use Rattle.automata.specs.Layout.{delays_size}

-- the numbers of n states in the vector from place at
unfoldable pub vector : ℕ → ℕ → List ℕ → List ℕ
vector at zero w = []
vector at (suc n) w = le (part at 2 w) ∷ vector (at + delays_size) n w

-- the first m bytes from place at, and from each 64 bytes further on, n times, lie in w
abbrev pub Room : ℕ → ℕ → ℕ → List ℕ → Type 0
Room at m n w = at + delays_size * n + m ≤ length w + delays_size

-- place i lies outside the first m bytes from place at, and from each 64 bytes further on, n times
abbrev pub Outside : ℕ → ℕ → ℕ → ℕ → Type 0
Outside at m n i = (i < at) ⊎ ((at + delays_size * n ≤ i) ⊎ (m ≤ (i - at) % delays_size))

-- w is v but for the first m bytes from place at, and from each 64 bytes further on, n times
pub record Frame (at m n : ℕ) (w v : List ℕ) : Type 0 where
  pub same_length : length w ≡ length v
  pub same : (i : ℕ) → Outside at m n i → get_or w i 0 ≡ get_or v i 0
