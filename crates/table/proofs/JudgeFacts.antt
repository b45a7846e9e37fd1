-- Facts of the judgement of a record: what the format of each part says of the bytes that the code looks at.
use mathlib.Core.Path.{◌≡◌, refl, sym, ap, ap₂, ◌∙◌}
use mathlib.Core.Bool.{Bool, true, false, not}
use mathlib.Core.List.{List, [], ◌∷◌}
use Prim.Native.Nat.{ℕ, zero, suc, ◌+◌, ◌-◌, ◌*◌, ◌≤◌, ◌<◌, min}
use native.Mathlib.Omega.{arith}
use native.Mathlib.Numerals.{add-one}
use lib.Dec.{leb, ltb, eqb}
use lib.ListN.{length, take, drop, get_or, drop_of_length-le, length-drop, length-take}
use lib.Seq.{take_all, take-take, drop-cons, drop-drop}
use borrow.Author.Tests.{leb-true, leb-false, lt-ltb, not-true, not-false}
use Rattle.automata.specs.Lists.{and, all, same_list}
use Rattle.automata.specs.Symbols.{is_symbol}
use Rattle.automata.specs.Answer.{◌>>=◌, Answer, ok, refused, check, require, beside, forget}
use Rattle.automata.specs.Refusal.{form, size, state}
use Rattle.automata.specs.Format.{place, read_copies}
use Rattle.automata.specs.LittleEndian.{little}
use Rattle.automata.specs.Memory.{flagged, is_zero, zeros}
use Rattle.automata.proofs.AnswerFacts.{forget_map, forget_unit}
use Rattle.automata.proofs.RecordFacts.{take_drop_take}
use Rattle.automata.specs.Layout.{arc_size, state_size, label_size, labels_size, weight_size, labels_end, labels_place, content_place, target_place}
use Rattle.table.specs.Region.{part}
use Rattle.table.specs.Endian.{le}
use Rattle.table.specs.Answers.{judged_as}
use Rattle.table.specs.Judging.{read_weight, read_state, read_label, labels_read, read_labels, read_arc}
use Rattle.table.specs.Answers.{Judged}
use Rattle.table.proofs.RegionFacts.{part_suc, length_part, get_d_part}
use Rattle.table.proofs.AnswerFacts.{forget-check, beside-next, beside_first, beside-last, both_judged}

-- ---- tests of all bytes, in a loop
module _ (p : ℕ → Bool) (x : List ℕ) (i : ℕ) where
  -- a byte that fails
  pub all-stop : i < length x → p (get_or x i 0) ≡ false → false ≡ all p (drop i x)
  all-stop h e = rw (drop-cons x i 0 h, e)

  -- one that passes
  pub all_turn : i < length x → p (get_or x i 0) ≡ true → all p (drop (i + 1) x) ≡ all p (drop i x)
  all_turn h e = rw (drop-cons x i 0 h, e, add-one i)

  -- none left
  pub all_end : length x ≤ i → true ≡ all p (drop i x)
  all_end h = let d : drop i x ≡ [] = drop_of_length-le x h in rw d

-- ---- numbers

-- bytes below 256 are read as the number that they stand for
pub little_reads : (k : ℕ) (x : List ℕ) → length x ≡ k → ((i : ℕ) → i < length x → get_or x i 0 < 256) → (little k).read x ≡ ok (le x)
little_reads zero [] e f = refl
little_reads zero (b ∷ x) e f = absurd (omega arith)
little_reads (suc k) [] e f = absurd (omega arith)
little_reads (suc k) (b ∷ x) e f =
    let h : b < 256 = f 0 (omega arith) in
    rw (lt-ltb b 256 h, little_reads k x (omega arith) (λ i l. f (suc i) (omega arith))) (ap ok (omega arith))

-- the same of a part of a list
little-part : (k a : ℕ) (xs : List ℕ) → a + k ≤ length xs → ((i : ℕ) → get_or xs i 0 < 256) → (little k).read (part a k xs) ≡ ok (le (part a k xs))
little-part k a xs h bytes =
    let l : length (part a k xs) ≡ k = length_part a k xs h in
    little_reads k (part a k xs) l (λ i m. let j : i < k = omega arith in rw (get_d_part a k xs i 0 j) (bytes (a + i)))

-- ---- a weight that may be absent
module _ (a : ℕ) (xs : List ℕ) (h : a + weight_size ≤ length xs) (bytes : (i : ℕ) → get_or xs i 0 < 256) where
  -- what its bytes are judged by: the flag and the number behind it
  weight_is : read_weight (part a weight_size xs) ≡ flagged (get_or xs a 0) (le (part (a + 1) 4 xs))
  unfolding read_weight
  weight_is = rw (part_suc a 4 xs 0 (omega arith), little-part 4 (a + 1) xs (omega arith) bytes)

  -- an absent one: its number is 0
  pub judged_absent : (n : ℕ) (j : Answer (Unit {0})) → n ≡ le (part (a + 1) 4 xs) → get_or xs a 0 ≡ 0 → j ≡ require (eqb n 0) form → j ≡ forget (read_weight (part a weight_size xs))
  judged_absent n j v e f = f ∙ rw (weight_is, e, ← v) (forget-check (eqb n 0) form _)

  -- one that is there: its number is in range
  pub judged_present : (n : ℕ) (j : Answer (Unit {0})) → n ≡ le (part (a + 1) 4 xs) → get_or xs a 0 ≡ 1 → j ≡ require (leb n 999999999) size → j ≡ forget (read_weight (part a weight_size xs))
  judged_present n j v e f = f ∙ rw (weight_is, e, ← v) (forget-check (leb n 999999999) size _)

  -- any other flag
  pub judged_flag : (get_or xs a 0 ≡ 0 → ⊥) → (get_or xs a 0 ≡ 1 → ⊥) → refused 2 ≡ forget (read_weight (part a weight_size xs))
  judged_flag e f = sym (ap forget weight_is ∙ go (get_or xs a 0) (le (part (a + 1) 4 xs)) e f)
    where
      go : (b n : ℕ) → (b ≡ 0 → ⊥) → (b ≡ 1 → ⊥) → forget (flagged b n) ≡ refused 2
      go zero n e f = absurd (e refl)
      go (suc zero) n e f = absurd (f refl)
      go (suc (suc b)) n e f = refl

-- ---- a state

-- what is left of a front of a list without its own front
drop_take : {A : Type 0} (m n : ℕ) (l : List A) → drop m (take (m + n) l) ≡ take n (drop m l)
drop_take m n l =
    let h : length (drop m (take (m + n) l)) ≤ n = simp (length-drop, length-take) (omega arith) in
    sym (take_all n (drop m (take (m + n) l)) h) ∙ take_drop_take m n (m + n) l (omega arith)

-- its two weights side by side
pub judged_state : (a : ℕ) (xs : List ℕ) (j k r : Answer (Unit {0})) → j ≡ forget (read_weight (part a weight_size xs)) → k ≡ forget (read_weight (part (a + weight_size) weight_size xs)) → r ≡ forget (beside j k)
    → r ≡ forget (read_state (part a state_size xs))
unfolding read_state read_weight part
judged_state a xs j k r e f g =
    let p : take weight_size (take state_size (drop a xs)) ≡ take weight_size (drop a xs) = take-take weight_size state_size (drop a xs) (omega arith) in
    let q : drop weight_size (take state_size (drop a xs)) ≡ take weight_size (drop (a + weight_size) xs) = drop_take weight_size weight_size (drop a xs) ∙ ap (take weight_size) (drop-drop weight_size a xs) in
    both_judged j k r (read_weight (take weight_size (drop a xs))) (read_weight (take weight_size (drop (a + weight_size) xs))) e f g
    ∙ ap₂ (λ (y z : List ℕ). forget (beside (read_weight y) (read_weight z))) (sym p) (sym q)
    ∙ sym (forget_map (beside (read_weight (take weight_size (take state_size (drop a xs)))) (read_weight (drop weight_size (take state_size (drop a xs))))) _)

-- ---- a label

-- places are read as they are
places_read : (n : ℕ) (y : List ℕ) → length y ≡ n → read_copies place n y ≡ ok y
places_read zero [] e = refl
places_read zero (b ∷ y) e = absurd (omega arith)
places_read (suc n) [] e = absurd (omega arith)
places_read (suc n) (b ∷ y) e = rw (places_read n y (omega arith))

-- a place past the end of eight bytes cuts as their end does
cut_min : (n u : ℕ) (y : List ℕ) → length y ≡ 8 → u ≡ min n 8 → (take n y ≡ take u y) × (drop n y ≡ drop u y)
cut_min n u y l m = go (leb n 8) refl
  where
    go : (b : Bool) → leb n 8 ≡ b → (take n y ≡ take u y) × (drop n y ≡ drop u y)
    go true e = let h : n ≤ 8 = leb-true n 8 e in let k : n ≡ u = omega arith in (ap (λ (i : ℕ). take i y) k, ap (λ (i : ℕ). drop i y) k)
    go false e =
        let h : 8 < n = leb-false n 8 e in
        let k : length y ≤ n = omega arith in
        let j : length y ≤ u = omega arith in
        (take_all n y k ∙ sym (take_all u y j), drop_of_length-le y k ∙ sym (drop_of_length-le y j))

-- what a label is judged by: the bytes within its length are symbols, the others 0, and its length is at most 8
abbrev pub label_judged : ℕ → Bool → Bool → List ℕ → Answer (List ℕ)
label_judged n symbols padding l = require (and symbols padding) form >>= λ t. check (leb n 8) size l

-- the bytes behind the length, cut where the label ends
pub label_cons : (n u : ℕ) (y : List ℕ) → length y ≡ 8 → u ≡ min n 8 → read_label (n ∷ y) ≡ label_judged n (all is_symbol (take u y)) (all is_zero (drop u y)) (take n y)
unfolding read_label
label_cons n u y l m = let c = cut_min n u y l m in rw (places_read 8 y l, c.0, c.1)

-- the same, cut as the code lends them
label_is : (x : List ℕ) (u : ℕ) → length x ≡ label_size → u ≡ min (get_or x 0 0) 8
    → read_label x ≡ label_judged (get_or x 0 0) (all is_symbol (take (1 + u - 1) (drop 1 x))) (all is_zero (take (label_size - (1 + u)) (drop (1 + u) x))) (take (get_or x 0 0) (drop 1 x))
label_is [] u l m = absurd (omega arith)
label_is (n ∷ y) u l m =
    let k : length y ≡ 8 = omega arith in
    let p : 1 + u - 1 ≡ u = omega arith in
    let q : length (drop u y) ≤ label_size - (1 + u) = simp length-drop (omega arith) in
    label_cons n u y k m
    ∙ (rw (p, ← drop-drop u 1 (n ∷ y), take_all (label_size - (1 + u)) (drop u y) q))

module _ (x : List ℕ) (l : length x ≡ label_size) (u : ℕ) (m : u ≡ min (get_or x 0 0) 8) (s : Bool) (p : s ≡ all is_symbol (take (1 + u - 1) (drop 1 x))) where
  -- a byte within the length that is no symbol
  pub label_symbols : not s ≡ true → refused 2 ≡ forget (read_label x)
  label_symbols f = rw (label_is x u l m, ← p, not-true s f)

  module _ (z : Bool) (q : z ≡ all is_zero (take (label_size - (1 + u)) (drop (1 + u) x))) (f : not s ≡ false) where
    -- a byte past it that is not 0
    pub label_padding : not z ≡ true → refused 2 ≡ forget (read_label x)
    label_padding g = rw (label_is x u l m, ← p, ← q, not-false s f, not-true z g)

    -- the length itself
    pub label_length : not z ≡ false → (j : Answer (Unit {0})) → j ≡ require (leb (get_or x 0 0) 8) size → j ≡ forget (read_label x)
    label_length g j e = e ∙ rw (label_is x u l m, ← p, ← q, not-false s f, not-false z g) (forget-check (leb (get_or x 0 0) 8) size _)

-- ---- labels side by side

-- a turn of the loop over the labels
pub labels_turn : (x : List ℕ) (at left : ℕ) (j k next : Judged) → 0 < left → judged_as k ≡ forget (read_label (take (at + label_size - at) (drop at x)))
    → judged_as next ≡ forget (beside (judged_as j) (judged_as k))
    → forget (beside (judged_as next) (labels_read (left - 1) (drop (at + label_size) x))) ≡ forget (beside (judged_as j) (labels_read left (drop at x)))
unfolding labels_read read_label
labels_turn x at zero j k next h e f = absurd (omega arith)
labels_turn x at (suc left) j k next h e f =
    let s : suc left - 1 ≡ left = omega arith in
    let n : at + label_size - at ≡ label_size = omega arith in
    rw (s, f, e, n, ← drop-drop label_size at x) (beside-next (judged_as j) (read_label (take label_size (drop at x))) (labels_read left (drop label_size (drop at x))) (λ p. p.0 ∷ p.1))

-- its end
pub labels_end_lem : (x : List ℕ) (at left : ℕ) (j : Judged) → left ≡ 0 → judged_as j ≡ forget (beside (judged_as j) (labels_read left (drop at x)))
unfolding labels_read
labels_end_lem x at left j e = rw e (beside-last (judged_as j) _)

-- its start
pub labels_start_lem : (x : List ℕ) (n : ℕ) → forget (beside (ok (tt {0})) (labels_read n (drop 0 x))) ≡ forget (labels_read n x)
labels_start_lem x n = beside_first (labels_read n x)

-- bytes are the zeros of their number just where each is 0
same_zeros : (n : ℕ) (y : List ℕ) → length y ≡ n → same_list y (zeros n) ≡ all is_zero y
same_zeros zero [] e = refl
same_zeros zero (b ∷ y) e = absurd (omega arith)
same_zeros (suc n) [] e = absurd (omega arith)
same_zeros (suc n) (b ∷ y) e = rw (same_zeros n y (omega arith))

-- the labels of the tapes that there are, and zeros for the others
pub judged_tapes : (tapes : ℕ) (x : List ℕ) (j k r : Answer (Unit {0})) (z : Bool) → length x ≡ labels_size → tapes ≤ 8
    → j ≡ forget (labels_read tapes (take (tapes * label_size - 0) (drop 0 x))) → z ≡ all is_zero (take (labels_size - tapes * label_size) (drop (tapes * label_size) x)) → k ≡ require z form → r ≡ forget (beside j k)
    → r ≡ forget (read_labels tapes x)
unfolding read_labels labels_read
judged_tapes tapes x j k r z l h e f g p =
    let m : tapes * label_size - 0 ≡ tapes * label_size = omega arith in
    let n : length (drop (tapes * label_size) x) ≡ (8 - tapes) * label_size = length-drop (tapes * label_size) x ∙ omega arith in
    let d : length (drop (tapes * label_size) x) ≤ labels_size - tapes * label_size = omega arith in
    let c : z ≡ same_list (drop (tapes * label_size) x) (zeros ((8 - tapes) * label_size)) = f ∙ ap (all is_zero) (take_all (labels_size - tapes * label_size) (drop (tapes * label_size) x) d) ∙ sym (same_zeros ((8 - tapes) * label_size) (drop (tapes * label_size) x) n) in
    let y = take (tapes * label_size) x in
    let t = require (same_list (drop (tapes * label_size) x) (zeros ((8 - tapes) * label_size))) form in
    both_judged j k r (labels_read tapes y) t (e ∙ ap (λ (i : ℕ). forget (labels_read tapes (take i x))) m) (g ∙ ap (λ (b : Bool). require b form) c ∙ sym (forget_unit t)) p
    ∙ sym (forget_map (beside (labels_read tapes y) t) _)

-- ---- an arc

-- a number of k bytes that passes a test
abbrev number_read : ℕ → (ℕ → Bool) → ℕ → List ℕ → Answer ℕ
number_read k test n y = (little k).read y >>= λ q. check (test q) n q

-- it is judged by the test alone
judged_number : (k a : ℕ) (xs : List ℕ) (test : ℕ → Bool) (n v : ℕ) (j : Answer (Unit {0})) → a + k ≤ length xs → ((i : ℕ) → get_or xs i 0 < 256) → v ≡ le (part a k xs) → j ≡ require (test v) n
    → j ≡ forget (number_read k test n (part a k xs))
judged_number k a xs test n v j h bytes e f = f ∙ rw (little-part k a xs h bytes, e) (forget-check (test (le (part a k xs))) n (le (part a k xs)))

-- source, target, weight and labels side by side
module _ (tapes states : ℕ) (x : List ℕ) (len : length x ≡ arc_size) (bytes : (i : ℕ) → get_or x i 0 < 256) (s t w : ℕ)
    (ps : s ≡ le (part 0 2 x)) (pt : t ≡ le (part target_place 2 x)) (pw : w ≡ le (part content_place 4 x)) (js jt jw jl inner middle r : Answer (Unit {0}))
    (qs : js ≡ require (ltb s states) state) (qt : jt ≡ require (ltb t states) state) (qw : jw ≡ require (leb w 999999999) size)
    (ql : jl ≡ forget (read_labels tapes (take (labels_end - labels_place) (drop labels_place x)))) where
  -- what the four are side by side, for weight and labels at lists of bytes
  abbrev fields_read : List ℕ → List ℕ → Answer (ℕ × (ℕ × (ℕ × List (List ℕ))))
  fields_read y z =
      beside (number_read 2 (λ q. ltb q states) state (take 2 x))
      (beside (number_read 2 (λ q. ltb q states) state (take 2 (drop target_place x))) (beside (number_read 4 (λ q. leb q 999999999) size (take 4 y)) (read_labels tapes z)))

  -- the four judgements one after the other
  fields_judged : inner ≡ forget (beside jw jl) → middle ≡ forget (beside jt inner) → r ≡ forget (beside js middle) → r ≡ forget (fields_read (drop content_place x) (drop labels_place x))
  unfolding part
  fields_judged e f g =
      let d : length (drop labels_place x) ≤ labels_size = simp length-drop (omega arith) in
      let S = number_read 2 (λ q. ltb q states) state (take 2 x) in
      let T = number_read 2 (λ q. ltb q states) state (take 2 (drop target_place x)) in
      let W = number_read 4 (λ q. leb q 999999999) size (take 4 (drop content_place x)) in
      let L = read_labels tapes (drop labels_place x) in
      let fs : js ≡ forget S = judged_number 2 0 x (λ q. ltb q states) state s js (omega arith) bytes ps qs in
      let ft : jt ≡ forget T = judged_number 2 target_place x (λ q. ltb q states) state t jt (omega arith) bytes pt qt in
      let fw : jw ≡ forget W = judged_number 4 content_place x (λ q. leb q 999999999) size w jw (omega arith) bytes pw qw in
      let fl : jl ≡ forget L = ql ∙ ap (λ (y : List ℕ). forget (read_labels tapes y)) (take_all labels_size (drop labels_place x) d) in
      both_judged js middle r S (beside T (beside W L)) fs (both_judged jt inner middle T (beside W L) ft (both_judged jw jl inner W L fw fl e) f) g

  -- the record of an arc
  pub judged_arc : inner ≡ forget (beside jw jl) → middle ≡ forget (beside jt inner) → r ≡ forget (beside js middle) → r ≡ forget (read_arc tapes states x)
  unfolding read_arc read_labels
  judged_arc e f g =
      fields_judged e f g
      ∙ ap₂ (λ (y z : List ℕ). forget (fields_read y z)) (sym (drop-drop 2 2 x)) (sym (ap (drop 4) (drop-drop 2 2 x) ∙ drop-drop 4 4 x))
      ∙ sym (forget_map (fields_read (drop 2 (drop 2 x)) (drop 4 (drop 2 (drop 2 x)))) _)
