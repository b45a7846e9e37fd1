-- The numbers of the configurations that are kept.
use Rattle.std.specs.Prelude.{ℕ, ◌<◌, ◌≡◌, Bool, List, get_or}
use Rattle.automata.specs.Trim.{rank}

-- ranks holds the number of marked places before each of the first n, and kept is how many of these are marked
pub record Numbered (marks : List Bool) (n : ℕ) (ranks : List ℕ) (kept : ℕ) : Type 0 where
  pub number : (i : ℕ) → i < n → get_or ranks i 0 ≡ rank marks i
  pub total : kept ≡ rank marks n
