-- What the records by value stand for, the bytes that they are written to, and what is loaded from bytes.
use Rattle.std.specs.Prelude as rust
use Rattle.std.specs.Prelude.{Some, None, ◌≡◌, List, [], ◌∷◌, map, ℕ, zero, suc, ◌+◌, ◌-◌, ◌≤◌, length, get_or, take, drop, replicate}
use Rattle.std.proofs.Math.Option.{Option, none, some}
use Rattle.automata.specs.Automaton as automata
use Rattle.automata.specs.Lists.{All}
use Rattle.automata.specs.Memory.{weight_record, state_record}
use Rattle.automata.specs.Layout.{amount_place, final_place, target_place, content_place, label_size, symbols_place}
use Rattle.table.specs.Region.{part}
use Rattle.table.specs.Endian.{le}
use Rattle.table.specs.declared.record.State.{State}
use Rattle.table.specs.declared.record.Label.{Label}
use Rattle.table.specs.declared.record.InputState.{InputState}

-- ---- an arc in its record

-- what it carries: its weight, and a label for each of eight tapes, empty on those that the table has not
pub record Content : Type 0 where
  pub weight : ℕ
  pub labels : List Label

-- an arc of a table that is read
pub record InputArc : Type 0 where
  pub source : InputState
  pub target : InputState
  pub content : Content

-- ---- what a record by value stands for

-- a value of code that may be absent
abbrev pub option_of : {A : Type 0} → rust.Option A → Option A
option_of None = none
option_of (Some n) = some n

-- an initial or a final weight
abbrev pub Weight : Type 0
Weight = rust.Option ℕ

-- a state
abbrev pub state_as : State → automata.State ℕ
state_as s = record { initial = option_of s.initial; final = option_of s.last }

-- a label: its first so many symbols
abbrev pub label_as : Label → List ℕ
label_as l = take l.len l.symbols

-- the labels on the first so many tapes
abbrev pub labels_as : ℕ → List Label → List (List ℕ)
labels_as tapes ls = map label_as (take tapes ls)

-- an arc of a table with so many tapes, by its two states and its content
abbrev pub arc_of : ℕ → ℕ → ℕ → Content → automata.Arc ℕ
arc_of tapes source target c = record { source = source; target = target; weight = c.weight; labels = labels_as tapes c.labels }

-- an arc of a table that is read
abbrev pub arc_as : ℕ → InputArc → automata.Arc ℕ
arc_as tapes a = arc_of tapes a.source.0 a.target.0 a.content

-- ---- the bytes that a record is stored as

-- the bytes of a weight
unfoldable pub weight_bytes : Weight → List ℕ
weight_bytes w = weight_record.write (option_of w)

-- the bytes of a state
unfoldable pub state_bytes : State → List ℕ
state_bytes s = state_record.write (state_as s)

-- ---- what is loaded from the bytes at a place

-- a flag and the number behind it: absent where the flag is 0
abbrev pub weight_of : ℕ → ℕ → Weight
weight_of zero n = None
weight_of (suc f) n = Some n

-- the weight at a place
unfoldable pub weight_at : ℕ → List ℕ → Weight
weight_at at xs = weight_of (get_or xs at 0) (le (part (at + amount_place) 4 xs))

-- the state at a place
unfoldable pub state_at : ℕ → List ℕ → State
state_at at xs = record { initial = weight_at at xs; last = weight_at (at + final_place) xs }

-- the label at a place
unfoldable pub label_at : ℕ → List ℕ → Label
label_at at xs = record { len = get_or xs at 0; symbols = part (at + symbols_place) 8 xs }

-- the n labels from a place
unfoldable pub labels_at : ℕ → ℕ → List ℕ → List Label
labels_at zero at xs = []
labels_at (suc n) at xs = label_at at xs ∷ labels_at n (at + label_size) xs

-- the content at a place
unfoldable pub content_at : ℕ → List ℕ → Content
content_at at xs = record { weight = le (part at 4 xs); labels = labels_at 8 (at + 4) xs }

-- the arc at a place
unfoldable pub arc_at : ℕ → List ℕ → InputArc
arc_at at xs = record { source = record { 0 = le (part at 2 xs) }; target = record { 0 = le (part (at + target_place) 2 xs) }; content = content_at (at + content_place) xs }

-- ---- contents of which each byte is decided by the arc that they stand for

-- the label of a tape that the table has not
abbrev pub empty_label : Label
empty_label = record { len = 0; symbols = replicate 8 0 }

-- a label of at most eight symbols, 0 past its length
pub record Padded (l : Label) : Type 0 where
  pub short : l.len ≤ 8
  pub whole : length l.symbols ≡ 8
  pub padding : drop l.len l.symbols ≡ replicate (8 - l.len) 0

-- eight such labels, and empty ones on the tapes past the table's
pub record Canonical (tapes : ℕ) (c : Content) : Type 0 where
  pub eight : length c.labels ≡ 8
  pub padded : All Padded c.labels
  pub unused : drop tapes c.labels ≡ replicate (8 - tapes) empty_label
