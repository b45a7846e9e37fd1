-- Records in hash chains: where they and the links stand, when all stand in the chain of their bucket, and what the
-- search and an entry come to.
use Rattle.std.specs.Prelude.{Some, None, ◌≡◌, List, [], ◌∷◌, ◌++◌, ℕ, zero, suc, ◌+◌, ◌*◌, ◌≤◌, ◌<◌, leb, length}
use Rattle.automata.specs.Lists.{if}
use Rattle.table.specs.Region.{part, splice}
use Rattle.table.specs.Endian.{le, to_le}
use Rattle.search_rows.specs.declared.Entered.{Entered}
use Rattle.search_rows.specs.declared.Entered.TheVariants as E
use Rattle.search_rows.specs.Find.{Found, index_of}
use Rattle.search_chains.specs.declared.Shape.{Shape}
use Rattle.search_chains.specs.Parts.{Agrees}

-- ---- rows

-- the n records of a size at the fronts of rows that begin a stride apart, from place a on
unfoldable pub fronts : ℕ → ℕ → ℕ → ℕ → List ℕ → List (List ℕ)
fronts a stride size zero xs = []
fronts a stride size (suc n) xs = part a size xs ∷ fronts (a + stride) stride size n xs

module _ (stride size : ℕ) where
  -- the record with the number k
  abbrev pub record_at : ℕ → List ℕ → List ℕ
  record_at k xs = part (k * stride) size xs

  -- the head of the chain with the number b
  abbrev pub head_at : ℕ → List ℕ → ℕ
  head_at b xs = le (part (b * stride + size) 2 xs)

  -- where the chain of the record with the number k goes on
  abbrev pub next_at : ℕ → List ℕ → ℕ
  next_at k xs = le (part (k * stride + size + 2) 2 xs)

-- a link that is followed only below a bound
abbrev pub link_below : ℕ → ℕ → ℕ
link_below bound l = if (leb l bound) l 0

-- the record w written in the row with the number count and put at the head of the chain b
unfoldable pub appended : ℕ → ℕ → ℕ → List ℕ → List ℕ → List ℕ
appended stride count b w xs =
    splice (b * stride + length w) (to_le 2 (count + 1))
    (splice (count * stride + length w + 2) (to_le 2 (head_at stride (length w) b xs)) (splice (count * stride) w xs))

-- ---- chains

-- the link l leads to the last of the first n records that has the hash b, or is 0 where none has it
pub record Leads (hash : List ℕ → ℕ) (stride size n b l : ℕ) (xs : List ℕ) : Type 0 where
  pub fits : l ≤ n
  pub met : (k : ℕ) → l ≡ suc k → hash (record_at stride size k xs) ≡ b
  pub passed : (j : ℕ) → l ≤ j → j < n → hash (record_at stride size j xs) ≡ b → ⊥

-- every one of count different records stands in the chain of its bucket, of which there are room
pub record Chained (hash : List ℕ → ℕ) (stride size room count : ℕ) (xs : List ℕ) : Type 0 where
  pub heads : (b : ℕ) → b < room → Leads hash stride size count b (head_at stride size b xs) xs
  pub nexts : (k : ℕ) → k < count → Leads hash stride size k (hash (record_at stride size k xs)) (next_at stride size k xs) xs
  pub distinct : (i j : ℕ) → i < count → j < count → record_at stride size i xs ≡ record_at stride size j xs → i ≡ j

-- the record w may be looked for in its bucket, by what counts of its parts: a record that agrees there is the same
pub record Searchable (hash : List ℕ → ℕ) (stride room count bucket : ℕ) (s : Shape) (w xs : List ℕ) : Type 0 where
  pub chained : Chained hash stride (length w) room count xs
  pub hashed : hash w ≡ bucket
  pub agreeing : (k : ℕ) → k < count → Agrees s (k * stride) w xs → record_at stride (length w) k xs ≡ w

-- ---- what the calls come to

-- the search tells the number of the record
abbrev pub Finds : ℕ → ℕ → ℕ → Shape → List ℕ → List ℕ → Found → Type 0
Finds stride count bucket s w xs r =
    (hash : List ℕ → ℕ) (room : ℕ) → bucket < room → Searchable hash stride room count bucket s w xs → r ≡ index_of w (fronts 0 stride (length w) count xs)

-- what an entry answers, and the records afterwards
pub record Entry : Type 0 where
  pub answer : Entered
  pub records : List (List ℕ)

abbrev pub entry : Entered → List (List ℕ) → Entry
entry a rs = record { answer = a; records = rs }

-- by what the search found: the record is there, or is appended where there is room
abbrev pub enter_by : ℕ → List ℕ → List (List ℕ) → Found → Entry
enter_by room w rs (Some s) = entry (E.At s) rs
enter_by room w rs None = if (leb room (length rs)) (entry E.Full rs) (entry (E.New (record { 0 = length rs })) (rs ++ (w ∷ [])))

-- a record w entered among the records rs, of which there may be room
unfoldable pub enter_of : ℕ → List ℕ → List (List ℕ) → Entry
enter_of room w rs = enter_by room w rs (index_of w rs)

-- how many records there are afterwards
abbrev pub count_after : ℕ → Entered → ℕ
count_after count (E.At s) = count
count_after count (E.New s) = suc count
count_after count E.Full = count

-- the record was entered, and all stand in their chains
pub record Enters (stride count room bucket : ℕ) (s : Shape) (w xs : List ℕ) (r : Entered) (ys : List ℕ) : Type 0 where
  pub fits : count_after count r ≤ room
  pub same_length : length ys ≡ length xs
  pub kept : (a n : ℕ) → room * stride ≤ a → part a n ys ≡ part a n xs
  pub equation : (hash : List ℕ → ℕ) → Searchable hash stride room count bucket s w xs
      → entry r (fronts 0 stride (length w) (count_after count r) ys) ≡ enter_of room w (fronts 0 stride (length w) count xs)
  pub chained : (hash : List ℕ → ℕ) → Searchable hash stride room count bucket s w xs → Chained hash stride (length w) room (count_after count r) ys

-- every chain is empty, and nothing else was written
pub record Clears (stride size room : ℕ) (xs ys : List ℕ) : Type 0 where
  pub same_length : length ys ≡ length xs
  pub kept : (a n : ℕ) → room * stride ≤ a → part a n ys ≡ part a n xs
  pub chained : (hash : List ℕ → ℕ) → Chained hash stride size room 0 ys
