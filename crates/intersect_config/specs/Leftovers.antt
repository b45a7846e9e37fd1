-- A leftover by value: what it stands for, when it is in its one form, and its bytes.
use Rattle.std.specs.Prelude.{◌≡◌, Bool, true, false, List, [], ◌∷◌, ◌++◌, ℕ, ◌+◌, ◌-◌, ◌≤◌, eqb, length, get_or, take, drop, replicate}
use Rattle.std.proofs.Math.Option.{Option, none, some, map}
use Rattle.automata.specs.Lists.{if}
use Rattle.automata.specs.Leftover as automata
use Rattle.table.specs.Region.{part}
use Rattle.table.specs.declared.record.Label.{Label}
use Rattle.intersect_config.specs.declared.leftover.Leftover.{Leftover}
use Rattle.std.specs.Prelude as rust
use Rattle.std.specs.Prelude.{Some, None}

-- the symbols that there is room for: a leftover of the greatest limit and a label behind it
abbrev pub leftover_room : ℕ
leftover_room = 72

-- the bytes of a leftover: which tape is ahead, its length, its symbols
abbrev pub leftover_size : ℕ
leftover_size = 74

-- a string that one tape has in advance of the other: the second tape, or the first
abbrev pub sided : Bool → List ℕ → automata.Leftover
sided false r = record { first = r; second = [] }
sided true r = record { first = []; second = r }

-- what is left on the second tape, or on the first
abbrev pub on_tape : Bool → automata.Leftover → List ℕ
on_tape false m = m.first
on_tape true m = m.second

-- what a leftover stands for
abbrev pub leftover_as : Leftover → automata.Leftover
leftover_as l = sided l.second (take l.len l.symbols)

-- the string of a label
abbrev pub label_of : Label → List ℕ
label_of x = take x.len x.symbols

-- the leftover of two tapes that are matched
unfoldable pub blank : Leftover
blank = record { second = false; len = 0; symbols = replicate leftover_room 0 }

-- what an element of an array of leftovers is where the array ends
abbrev pub outside : Leftover
outside = record { second = false; len = 0; symbols = [] }

-- the one form of a leftover: zeros past its length, and the first side where it is empty
pub record Good (l : Leftover) : Type 0 where
  pub all_symbols : length l.symbols ≡ leftover_room
  pub len_fits : l.len ≤ leftover_room
  pub zeros : drop l.len l.symbols ≡ replicate (leftover_room - l.len) 0
  pub first_side : l.len ≡ 0 → l.second ≡ false

-- ---- the bytes of a leftover, 74: its side, its length, its symbols

abbrev pub flag : Bool → ℕ
flag true = 1
flag false = 0

-- the bytes of a leftover
unfoldable pub leftover_bytes : Leftover → List ℕ
leftover_bytes l = flag l.second ∷ (l.len ∷ l.symbols)

-- the leftover whose bytes stand at a place
unfoldable pub leftover_at : ℕ → List ℕ → Leftover
leftover_at at xs = record { second = eqb (get_or xs at 0) 1; len = get_or xs (at + 1) 0; symbols = part (at + 2) leftover_room xs }

-- ---- the leftover by value of what the definitions leave

-- a string as the leftover of one tape
unfoldable pub packed : Bool → List ℕ → Leftover
packed b [] = blank
packed b (x ∷ xs) = record { second = b; len = length (x ∷ xs); symbols = (x ∷ xs) ++ replicate (leftover_room - length (x ∷ xs)) 0 }

-- two strings of which one is empty
abbrev pub packed_two : List ℕ → List ℕ → Leftover
packed_two [] ys = packed true ys
packed_two (x ∷ xs) ys = packed false (x ∷ xs)

unfoldable pub leftover_of : automata.Leftover → Leftover
leftover_of m = packed_two m.first m.second

-- what an arc leaves of a pair of tapes, if they are still compatible
abbrev pub Advanced : Type 0
Advanced = rust.Option Leftover

-- what is left, or that the tapes are not compatible
unfoldable pub advanced_of : Option automata.Leftover → Advanced
advanced_of none = None
advanced_of (some m) = Some (leftover_of m)

-- the two tapes exchanged
abbrev pub exchanged : automata.Leftover → automata.Leftover
exchanged m = record { first = m.second; second = m.first }

-- what is left, the tapes exchanged where so told
unfoldable pub turned : Bool → Option automata.Leftover → Option automata.Leftover
turned b o = if b (map exchanged o) o

-- whether one of two strings starts with the other
unfoldable pub agrees : List ℕ → List ℕ → Bool
agrees [] ys = true
agrees (x ∷ xs) [] = true
agrees (x ∷ xs) (y ∷ ys) = let r = agrees xs ys in if (eqb x y) r false

-- ---- a step

-- the answer stands for o, and its leftover is in its one form
abbrev pub Advances : Option automata.Leftover → Advanced → Type 0
Advances o None = o ≡ none
Advances o (Some l) = (o ≡ some (leftover_as l)) × Good l
