-- The table of symbols seen: filled label by label, and as many places marked as there are different symbols.
use mir.Val.{bool_byte}
use Prim.Native.Nat.{ℕ, zero, suc, ◌+◌, ◌-◌, ◌<◌, ◌≤◌}
use mathlib.Core.Path.{◌≡◌, refl, sym, ap, ◌∙◌}
use mathlib.Core.Bool.{Bool, true, false}
use mathlib.Core.List.{List, [], ◌∷◌, ◌++◌, map}
use native.Mathlib.Omega.{arith}
use native.Mathlib.Decide.{ℕ_discrete}
use native.Mathlib.Numerals.{add-one}
use lib.Dec.{eqb}
use lib.ListN.{length, get_or, set, take, drop, replicate, length-set, length-append, length-replicate, get_or-replicate, drop_of_length-le}
use lib.Seq.{drop-cons, get_or-set_same, get_or-set_other, set-get_or}
use Rattle.table.specs.Region.{part}
use Rattle.table.proofs.EndianFacts.{Bytes}
use Rattle.automata.specs.Lists.{if, or, All}
use Rattle.automata.specs.TapePair.{reading}
use Rattle.automata.specs.Explore.{member, insert, insert_all}
use Rattle.automata.proofs.TestFacts.{eqb_false}
use Rattle.automata.proofs.ListFacts.{numbers_decided}
use Rattle.automata.proofs.AppendFacts.{any_snoc, or-none}
use Rattle.automata.proofs.RecordFacts.{All_append}
use Rattle.automata.proofs.ReadingFacts.{reading-le}
use Rattle.automata.specs.Layout.{arc_size}
use Rattle.table.specs.Arcs.{label_place}
use Rattle.forecast_counts.specs.Symbols.{label_at, symbols_from, noted, marked}

-- ---- the table

-- two lists of symbols noted one after the other
noted_append : (seen xs ys : List ℕ) → noted seen (xs ++ ys) ≡ noted (noted seen xs) ys
unfolding noted
noted_append seen [] ys = refl
noted_append seen (x ∷ xs) ys = noted_append (set seen x 1) xs ys

-- the table stays as long as it is
length_noted : (seen xs : List ℕ) → length (noted seen xs) ≡ length seen
unfolding noted
length_noted seen [] = refl
length_noted seen (x ∷ xs) = length_noted (set seen x 1) xs ∙ length-set seen x 1

-- one byte more
pub bytes_turn : (seen label : List ℕ) (i symbol : ℕ) → i < length label → symbol ≡ reading (get_or label i 0) → noted (set seen symbol 1) (map reading (drop (i + 1) label)) ≡ noted seen (map reading (drop i label))
unfolding noted
bytes_turn seen label i symbol h e = rw (drop-cons label i 0 h, e, add-one i)

-- no byte is left
pub bytes_end : (seen label : List ℕ) (i : ℕ) → length label ≤ i → seen ≡ noted seen (map reading (drop i label))
unfolding noted
bytes_end seen label i h = rw (drop_of_length-le label h)

-- one arc more
pub arcs_turn : (first second from left rest : ℕ) (arcs seen a b : List ℕ) → left ≡ suc rest → a ≡ noted seen (label_at first from arcs) → b ≡ noted a (label_at second from arcs)
    → noted b (symbols_from first second (from + arc_size) rest arcs) ≡ noted seen (symbols_from first second from left arcs)
unfolding symbols_from
arcs_turn first second from left rest arcs seen a b l e f =
    let x = label_at first from arcs in
    let y = label_at second from arcs in
    let z = symbols_from first second (from + arc_size) rest arcs in
    let p : b ≡ noted seen (x ++ y) = f ∙ ap (λ (s : List ℕ). noted s y) e ∙ sym (noted_append seen x y) in
    rw (l, p) (sym (noted_append seen (x ++ y) z))

-- the label on a tape, from its length and its place
pub label_noted : (seen b arcs : List ℕ) (at tape n k : ℕ) → n ≡ get_or arcs (label_place at tape) 0 → k ≡ label_place at tape
    → b ≡ noted seen (map reading (take (k + 1 + n - (k + 1)) (drop (k + 1) arcs))) → b ≡ noted seen (label_at tape at arcs)
unfolding part
label_noted seen b arcs at tape n k e f g = let l : k + 1 + n - (k + 1) ≡ n = omega arith in rw (← e, ← f, ← l) g

-- no arc is left
pub arcs_end : (first second from left : ℕ) (arcs seen : List ℕ) → left ≡ 0 → seen ≡ noted seen (symbols_from first second from left arcs)
unfolding symbols_from noted
arcs_end first second from left arcs seen l = rw l

-- ---- the count

-- one place more
pub marks_turn : (seen : List ℕ) (i found r : ℕ) → i < length seen → r ≡ bool_byte (eqb (get_or seen i 0) 1)
    → (found + r) + marked (drop (i + 1) seen) ≡ found + marked (drop i seen)
unfolding marked
marks_turn seen i found r h e = rw (drop-cons seen i 0 h, e, add-one i) (go (eqb (get_or seen i 0) 1))
  where
    go : (b : Bool) → (found + bool_byte b) + marked (drop (suc i) seen) ≡ found + if b (suc (marked (drop (suc i) seen))) (marked (drop (suc i) seen))
    go true = omega arith
    go false = omega arith

-- no place is left
pub marks_end : (seen : List ℕ) (i found : ℕ) → length seen ≤ i → found ≡ found + marked (drop i seen)
unfolding marked
marks_end seen i found h = rw (drop_of_length-le seen h) (omega arith)

-- no more than there are places
marked-le : (xs : List ℕ) → marked xs ≤ length xs
unfolding marked
marked-le [] = omega arith
marked-le (x ∷ xs) = go (eqb x 1) (marked-le xs)
  where
    go : (b : Bool) → marked xs ≤ length xs → if b (suc (marked xs)) (marked xs) ≤ suc (length xs)
    go true h = omega arith
    go false h = omega arith

-- none of zeros
marked-none : (n : ℕ) → marked (replicate n 0) ≡ 0
unfolding marked
marked-none zero = refl
marked-none (suc n) = marked-none n

-- a mark at a place that held 0
marked_set : (xs : List ℕ) (b : ℕ) → b < length xs → get_or xs b 0 ≡ 0 → marked (set xs b 1) ≡ suc (marked xs)
unfolding marked
marked_set [] b h e = absurd (omega arith)
marked_set (x ∷ xs) zero h e = rw e
marked_set (x ∷ xs) (suc b) h e = go (eqb x 1) (marked_set xs b (omega arith) e)
  where
    go : (c : Bool) → marked (set xs b 1) ≡ suc (marked xs) → if c (suc (marked (set xs b 1))) (marked (set xs b 1)) ≡ suc (if c (suc (marked xs)) (marked xs))
    go true f = ap suc f
    go false f = f

-- ---- the table and the list of symbols, each once

-- the table has a 1 exactly at the places of the symbols ys, and ys are as many
record Tells (seen ys : List ℕ) : Type 0 where
  size : length seen ≡ 256
  holds : (b : ℕ) → b < 256 → get_or seen b 0 ≡ if (member eqb b ys) 1 0
  count : marked seen ≡ length ys

-- one symbol more
tells_insert : (seen ys : List ℕ) (b : ℕ) → b < 256 → Tells seen ys → Tells (set seen b 1) (insert eqb ys b)
tells_insert seen ys b h t = go (member eqb b ys) refl
  where
    go : (m : Bool) → member eqb b ys ≡ m → Tells (set seen b 1) (if m ys (ys ++ (b ∷ [])))
    go true e =
        let one : 1 ≡ get_or seen b 0 = sym (t.holds b h ∙ (rw e)) in
        let same : set seen b 1 ≡ seen = ap (set seen b) one ∙ set-get_or seen b 0 in
        rw same t
    go false e = record {
      size = length-set seen b 1 ∙ t.size;
      holds = λ c k. at c k (ℕ_discrete c b);
      count = marked_set seen b (omega (arith, t.size, h)) (t.holds b h ∙ (rw e)) ∙ ap suc t.count ∙ sym (length-append ys (b ∷ []) ∙ omega arith);
    }
      where
        at : (c : ℕ) → c < 256 → Dec (c ≡ b) → get_or (set seen b 1) c 0 ≡ if (member eqb c (ys ++ (b ∷ []))) 1 0
        at c k (yes q) =
            let m : member eqb b (ys ++ (b ∷ [])) ≡ true = any_snoc (eqb b) ys b ∙ (rw (e, numbers_decided.complete b)) in
            rw (q, m) (get_or-set_same seen b 1 0 (omega (arith, t.size, h)))
        at c k (no q) =
            let m : member eqb c (ys ++ (b ∷ [])) ≡ member eqb c ys = any_snoc (eqb c) ys b ∙ ap (or (member eqb c ys)) (eqb_false c b q) ∙ or-none (member eqb c ys) in
            get_or-set_other seen b c 1 0 q ∙ t.holds c k ∙ ap (λ (a : Bool). if a 1 0) (sym m)

-- several symbols more
tells_all : (seen ys xs : List ℕ) → All (λ b. b < 256) xs → Tells seen ys → Tells (noted seen xs) (insert_all eqb ys xs)
unfolding noted
tells_all seen ys [] a t = t
tells_all seen ys (x ∷ xs) a t = tells_all (set seen x 1) (insert eqb ys x) xs a.1 (tells_insert seen ys x a.0 t)

-- no symbol yet
tells_none : Tells (replicate 256 0) []
tells_none = record { size = length-replicate {A = ℕ} 256 0; holds = λ b k. get_or-replicate {A = ℕ} 256 b 0 0 k; count = marked-none 256 }

-- of a table of zeros, as many places are marked as there are different symbols
pub marks_counted : (xs : List ℕ) → All (λ b. b < 256) xs → marked (noted (replicate 256 0) xs) ≡ length (insert_all eqb [] xs)
marks_counted xs a = (tells_all (replicate 256 0) [] xs a tells_none).count

-- ---- symbols are bytes

-- a part of bytes, as they are compared
bytes-part : (a n : ℕ) (xs : List ℕ) → Bytes xs → All (λ b. b < 256) (map reading (part a n xs))
unfolding part
bytes-part zero zero xs f = tt
bytes-part zero (suc n) [] f = tt
bytes-part zero (suc n) (x ∷ xs) f = (omega (arith, f 0, reading-le x), bytes-part zero n xs (λ i. f (suc i)))
bytes-part (suc a) zero xs f = tt
bytes-part (suc a) (suc n) [] f = tt
bytes-part (suc a) (suc n) (x ∷ xs) f = bytes-part a (suc n) xs (λ i. f (suc i))

-- the symbols of two tapes
bytes-symbols : (first second at n : ℕ) (arcs : List ℕ) → Bytes arcs → All (λ b. b < 256) (symbols_from first second at n arcs)
unfolding symbols_from
bytes-symbols first second at zero arcs f = tt
bytes-symbols first second at (suc n) arcs f =
    let x = label_at first at arcs in
    let y = label_at second at arcs in
    All_append (λ b. b < 256) (x ++ y) (symbols_from first second (at + arc_size) n arcs)
    (All_append (λ b. b < 256) x y (bytes-part (label_place at first + 1) (get_or arcs (label_place at first) 0) arcs f) (bytes-part (label_place at second + 1) (get_or arcs (label_place at second) 0) arcs f))
    (bytes-symbols first second (at + arc_size) n arcs f)

-- the marks of the table are the different symbols, at most 256
pub symbols-counted : (first second count : ℕ) (arcs seen : List ℕ) (r : ℕ) → Bytes arcs → seen ≡ noted (replicate 256 0) (symbols_from first second 0 count arcs) → r ≡ marked seen
    → (r ≡ length (insert_all eqb [] (symbols_from first second 0 count arcs))) × (r ≤ 256)
symbols-counted first second count arcs seen r f e g =
    let xs = symbols_from first second 0 count arcs in
    let l : length seen ≡ 256 = ap length e ∙ length_noted (replicate 256 0) xs ∙ length-replicate {A = ℕ} 256 0 in
    (g ∙ ap marked e ∙ marks_counted xs (bytes-symbols first second 0 count arcs f), omega (arith, g, l, marked-le seen))
