-- Numbers for the labels of arcs.
use Rattle.std.specs.Prelude.{◌≡◌, List, ℕ, ◌*◌, ◌<◌, min, length, get_or, set}
use Rattle.table.specs.Region.{part}
use Rattle.table.specs.Arcs.{labels_start}
use Rattle.automata.specs.Layout.{arc_size, label_size}

-- the labels of arc e on so many tapes
abbrev pub labels_at : ℕ → List ℕ → ℕ → List ℕ
labels_at tapes arcs e = part (labels_start (arc_size * e)) (label_size * tapes) arcs

-- the words of eight bytes that hold them, so many
abbrev pub words_at : ℕ → List ℕ → ℕ → List ℕ
words_at words arcs e = part (labels_start (arc_size * e)) (8 * words) arcs

-- Arc e got a number, and the owners of the numbers went from a to b, the numbers from xs to ys. It is that of the
-- bucket of its labels, where no arc before it has that number or its owner has the same words.
pub record Numbers (arcs : List ℕ) (e words : ℕ) (b a ys xs : List ℕ) : Type 0 where
  pub bucket : ℕ
  pub bucket_fits : bucket < 1024
  pub owners_are : b ≡ set a bucket (min (get_or a bucket 0) e)
  pub number : ℕ
  pub numbers_are : ys ≡ set xs e number
  pub same : number < 1024 → (number ≡ bucket) × (get_or a bucket 0 < e → words_at words arcs (get_or a bucket 0) ≡ words_at words arcs e)

-- Arcs with the same number below 1,024 have the same labels.
pub record Numbered (tapes n : ℕ) (arcs numbers : List ℕ) : Type 0 where
  pub size_is : length numbers ≡ 8192
  pub alike : (e f : ℕ) → e < n → f < n → get_or numbers e 0 ≡ get_or numbers f 0 → get_or numbers f 0 < 1024 → labels_at tapes arcs e ≡ labels_at tapes arcs f
