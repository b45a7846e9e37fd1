-- Facts of the quick test of an arc's record: what passes it has no refusal.
use mathlib.Core.Path.{◌≡◌, refl, sym, ap, subst, ◌∙◌}
use mathlib.Core.Bool.{true}
use mathlib.Core.List.{List}
use Prim.Native.Nat.{ℕ, zero, suc, ◌+◌, ◌-◌, ◌*◌, ◌/◌, ◌≤◌, ◌<◌, ◌^◌, min}
use native.Mathlib.Omega.{arith}
use lib.Bits.{bit_and}
use native.Mathlib.Numerals.{add-one}
use lib.Dec.{leb, ltb}
use lib.ListN.{length, take, drop, get_or}
use lib.Seq.{drop-cons, drop-drop}
use borrow.Author.Tests.{le-leb, lt-ltb}
use Rattle.automata.specs.Lists.{all}
use Rattle.automata.specs.Answer.{Answer, ok, forget, require}
use Rattle.automata.specs.Refusal.{size, state}
use Rattle.automata.specs.Memory.{is_zero}
use Rattle.automata.specs.Layout.{arc_size, label_size, labels_size, labels_end, labels_place, target_place, content_place}
use Rattle.table.specs.Region.{part}
use Rattle.table.specs.Endian.{le}
use Rattle.table.specs.Judging.{read_label, labels_read, read_labels, read_arc}
use Rattle.table.proofs.RegionFacts.{part_suc, length_part, get_d_part}
use Rattle.table.proofs.AnswerFacts.{forget-ok}
use Rattle.table.proofs.JudgeFacts.{label_cons, judged_tapes, judged_arc}
use Rattle.table.proofs.WordFacts.{each, Tested, tested-bytes, highs_bound, zero_front}

-- the highest bits of the first n bytes of eight, by shifting out those of the others
pub first_highest : (n : ℕ) → n ≤ 8 → 0x8080_8080_8080_8080 / 2 ^ (4 * (8 - n)) / 2 ^ (4 * (8 - n)) ≡ each n 128
first_highest zero h = refl
first_highest (suc zero) h = refl
first_highest (suc (suc zero)) h = refl
first_highest (suc (suc (suc zero))) h = refl
first_highest (suc (suc (suc (suc zero)))) h = refl
first_highest (suc (suc (suc (suc (suc zero))))) h = refl
first_highest (suc (suc (suc (suc (suc (suc zero)))))) h = refl
first_highest (suc (suc (suc (suc (suc (suc (suc zero))))))) h = refl
first_highest (suc (suc (suc (suc (suc (suc (suc (suc zero)))))))) h = refl
first_highest (suc (suc (suc (suc (suc (suc (suc (suc (suc n))))))))) h = absurd (omega arith)

-- ---- a label at a place
module _ (xs : List ℕ) (at : ℕ) (h : at + label_size ≤ length xs) (bytes : (i : ℕ) → get_or xs i 0 < 256) (w : ℕ) (e : w ≡ le (part (at + 1) 8 xs)) where
  -- its eight bytes
  label_length : length (part (at + 1) 8 xs) ≡ 8
  label_length = length_part (at + 1) 8 xs (omega arith)

  label_bytes_lem : (i : ℕ) → i < length (part (at + 1) 8 xs) → get_or (part (at + 1) 8 xs) i 0 < 256
  label_bytes_lem i k = let j : i < 8 = omega (arith, label_length, k) in rw (get_d_part (at + 1) 8 xs i 0 j) (bytes (at + 1 + i))

  -- without their highest bits there is room to add
  pub label_room : bit_and w (each 8 128) ≡ 0 → w ≤ each 8 127
  label_room z = rw e (highs_bound (part (at + 1) 8 xs) 8 label_length label_bytes_lem (ap (λ (k : ℕ). bit_and k (each 8 128)) (sym e) ∙ z))

  -- where they pass the tests the label has no refusal
  pub label_good : get_or xs at 0 ≤ 8 → Tested 8 (get_or xs at 0) w → forget (read_label (part at label_size xs)) ≡ ok tt
  label_good k t =
      let n = get_or xs at 0 in
      let y = part (at + 1) 8 xs in
      let u : n ≡ min n 8 = omega arith in
      let r = tested-bytes y 8 n label_length k label_bytes_lem (subst (λ (v : ℕ). Tested 8 n v) e t) in
      rw (part_suc at 8 xs 0 (omega arith), label_cons n n y label_length u, r.0, r.1, le-leb n 8 k)

-- ---- labels side by side, in a loop

-- a label without a refusal before others
pub labels_next : (x : List ℕ) (at left : ℕ) → 0 < left → forget (read_label (part at label_size x)) ≡ ok tt → forget (labels_read (left - 1) (drop (at + label_size) x)) ≡ ok tt
    → forget (labels_read left (drop at x)) ≡ ok tt
unfolding labels_read read_label part
labels_next x at zero h e f = absurd (omega arith)
labels_next x at (suc left) h e f =
    let s : suc left - 1 ≡ left = omega arith in
    let g : forget (labels_read left (drop label_size (drop at x))) ≡ ok tt = rw (drop-drop label_size at x, ← s) f in
    let a = forget-ok (read_label (take label_size (drop at x))) e in
    let b = forget-ok (labels_read left (drop label_size (drop at x))) g in
    rw (a.1, b.1)

-- no labels
pub labels_none : (x : List ℕ) (left : ℕ) → left ≡ 0 → forget (labels_read left x) ≡ ok tt
unfolding labels_read
labels_none x left e = rw e

-- nine bytes of 0 before others
pub blank-next : (x : List ℕ) (at w : ℕ) → at + label_size ≤ length x → get_or x at 0 ≡ 0 → w ≡ le (part (at + 1) 8 x) → w ≡ 0 → all is_zero (drop (at + label_size) x) ≡ true → all is_zero (drop at x) ≡ true
unfolding part
blank-next x at w h z e f g =
    let s : at + 1 + 8 ≡ at + label_size = omega arith in
    let r : all is_zero (drop (at + 1) x) ≡ true = zero_front 8 (drop (at + 1) x) (sym e ∙ f) (rw (drop-drop 8 (at + 1) x, s) g) in
    rw (drop-cons x at 0 (omega arith), z) (sym (ap (λ (k : ℕ). all is_zero (drop k x)) (add-one at)) ∙ r)

-- ---- a record

-- the labels of the tapes that there are, and zeros for the others
pub tapes_good : (tapes : ℕ) (x : List ℕ) → length x ≡ labels_size → tapes ≤ 8 → forget (labels_read tapes (take (tapes * label_size - 0) (drop 0 x))) ≡ ok tt
    → all is_zero (take (labels_size - tapes * label_size) (drop (tapes * label_size) x)) ≡ true → forget (read_labels tapes x) ≡ ok tt
tapes_good tapes x l h e f = sym (judged_tapes tapes x (ok tt) (ok tt) (ok tt) true l h (sym e) (sym f) refl refl)

-- source, target, weight and labels
pub arc_good : (tapes states : ℕ) (x : List ℕ) → length x ≡ arc_size → ((i : ℕ) → get_or x i 0 < 256) → (s t w : ℕ)
    → s ≡ le (part 0 2 x) → t ≡ le (part target_place 2 x) → w ≡ le (part content_place 4 x) → s < states → t < states → w ≤ 999999999
    → forget (read_labels tapes (take (labels_end - labels_place) (drop labels_place x))) ≡ ok tt → forget (read_arc tapes states x) ≡ ok tt
arc_good tapes states x l bytes s t w ps pt pw hs ht hw e =
    let fine : Answer (Unit {0}) = ok tt in
    let qs : fine ≡ require (ltb s states) state = rw (lt-ltb s states hs) in
    let qt : fine ≡ require (ltb t states) state = rw (lt-ltb t states ht) in
    let qw : fine ≡ require (leb w 999999999) size = rw (le-leb w 999999999 hw) in
    sym (judged_arc tapes states x l bytes s t w ps pt pw fine fine fine fine fine fine fine qs qt qw (sym e) refl refl refl)
