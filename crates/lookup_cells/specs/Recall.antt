-- How far back the labels of arcs lead from a combination of positions, kept for all arcs with the same labels.
use Rattle.std.specs.Prelude.{◌≡◌, List, ℕ, ◌+◌, ◌≤◌, ◌<◌, length, get_or}
use Rattle.std.proofs.Math.Option.{Option, none, some}
use Rattle.table.specs.declared.answer.Counts.{Counts}
use Rattle.lookup_moves.specs.Moves.{spot_with}
use Rattle.lookup_labels.specs.Numbers.{Numbered}
use Rattle.lookup_cells.specs.Pushes.{back_by}

-- how far back as a number, 2^64 - 1 where the labels do not end at the combination
abbrev pub back_number : Option ℕ → ℕ
back_number none = 18446744073709551615
back_number (some k) = k

-- how far back the labels of each arc lead, by the places in the text, the positions and the numbers of combinations
-- behind each
abbrev pub back_at : ℕ → List ℕ → List ℕ → List ℕ → List ℕ → List ℕ → ℕ → Option ℕ
back_at tapes arcs text starts positions spans e = back_by tapes e arcs text (spot_with starts positions spans 0 0)

-- the memo was asked of no combination below this number
pub record Fresh (left : ℕ) (memo : List ℕ) : Type 0 where
  pub size_is : length memo ≡ 2048
  pub asked : (k : ℕ) → k < 1024 → left ≤ get_or memo k 0

-- where it was asked of the combination with this number, it has the answer for the n arcs with those labels
pub record Recalls (number n : ℕ) (back : ℕ → Option ℕ) (numbers memo : List ℕ) : Type 0 where
  pub fresh : Fresh number memo
  pub each : (e : ℕ) → e < n → get_or numbers e 0 < 1024 → get_or memo (get_or numbers e 0) 0 ≡ number → get_or memo (1024 + get_or numbers e 0) 0 ≡ back_number (back e)

-- the arcs of a table have numbers by their labels, and the memo has answers for a combination of these places in the
-- text, positions, numbers of combinations behind each, and number
pub record Knows (c : Counts) (arcs text starts positions spans : List ℕ) (number : ℕ) (numbers memo : List ℕ) : Type 0 where
  pub numbered : Numbered c.tapes c.arcs arcs numbers
  pub recalls : Recalls number c.arcs (back_at c.tapes arcs text starts positions spans) numbers memo
