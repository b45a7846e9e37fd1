-- Facts of lines that are stored as records.
use mathlib.Core.Path.{◌≡◌, refl, sym, ap, ap₂, ◌∙◌}
use mathlib.Core.Option.{Option, none, some}
use mathlib.Core.List.{List, [], ◌∷◌, ◌++◌}
use Prim.Native.Nat.{ℕ, zero, suc, ◌+◌, ◌-◌, ◌*◌, ◌%◌, ◌≤◌}
use native.Mathlib.Omega.{arith}
use lib.ListN.{length, take, drop, set, replicate, length-append, length-drop, length-replicate, take-append-drop}
use lib.Seq.{drop-drop, drop-append-le, take-append-add, take_all, length-take-le}
use Rattle.automata.specs.Memory.{weight_record, state_record, label_record, zeros}
use Rattle.automata.specs.TableText.{after_blanks}
use Rattle.automata.specs.Layout.{arc_size, state_size, amount_width, arc_width, label_width, content_place, labels_column, labels_size, number_width, state_end, state_width, weight_column, label_size}
use Rattle.table.specs.Arcs.{labels_start}
use Rattle.table.specs.Region.{splice}
use Rattle.table.specs.Endian.{to_le}
use Rattle.table.specs.Records.{option_of, state_bytes}
use Rattle.table.specs.declared.record.State.{State}
use Rattle.table.proofs.RegionFacts.{splice_append, splice-behind, splice_front, splice_swap, splice-twice, length_splice, one_store}
use Rattle.table.proofs.LoadedFacts.{label_bytes_lem}
use Rattle.text_columns.specs.Columns.{columns_value, columns_weight, blank_count}
use Rattle.text_columns.proofs.LabelFacts.{after_blanks_lem}
use Rattle.text_store.specs.Recode.{recoded}
use Rattle.text_store.specs.Stored.{state_of_line, label_of_columns, number_bytes, no_labels, arc_of_line}
use Rattle.text_store.proofs.RecodeFacts.{length_recoded}

-- ---- a state

weight-five : (o : Option ℕ) → length (weight_record.write o) ≡ 5
weight-five none = refl
weight-five (some n) = refl

pub state_stored : (at : ℕ) (x xs us : List ℕ) (s : State) → us ≡ splice at (state_bytes s) xs → option_of s.initial ≡ columns_weight (take (amount_width - 0) (drop 0 x))
    → option_of s.last ≡ columns_weight (take (state_end - amount_width) (drop amount_width x)) → us ≡ splice at (state_of_line x) xs
unfolding state_of_line state_bytes
state_stored at x xs us s e f g = e ∙ ap₂ (λ (a b : Option ℕ). splice at (state_record.write (record { initial = a; final = b })) xs) f g

-- the size of a state's record
pub state_sized : (x : List ℕ) → length x ≡ state_width → length (state_of_line x) ≡ state_size
unfolding state_of_line
state_sized x e =
    let a = columns_weight (take amount_width x) in
    let b = columns_weight (take amount_width (drop amount_width x)) in
    length-append (weight_record.write a) (weight_record.write b) ∙ omega (arith, weight-five a, weight-five b)

-- ---- a label

drop_replicate : (k n v : ℕ) → drop k (replicate n v) ≡ replicate (n - k) v
drop_replicate zero n v = let e : n - 0 ≡ n = omega arith in rw e
drop_replicate (suc k) zero v = let e : 0 - suc k ≡ 0 = omega arith in rw e
drop_replicate (suc k) (suc n) v = let e : suc n - suc k ≡ n - k = omega arith in rw e (drop_replicate k n v)

pub take_replicate : (k n v : ℕ) → k ≤ n → take k (replicate n v) ≡ replicate k v
take_replicate zero n v h = refl
take_replicate (suc k) zero v h = absurd (omega arith)
take_replicate (suc k) (suc n) v h = ap (λ (l : List ℕ). v ∷ l) (take_replicate k n v (omega arith))

module _ (x : List ℕ) (h : length x ≡ label_width) (b : ℕ) (e : b ≡ blank_count (take 8 (drop 1 x))) (g : b ≤ length (take 8 (drop 1 x))) where
  columns_eight : length (drop 1 x) ≡ 8
  columns_eight = length-drop 1 x ∙ omega arith

  columns_all : take 8 (drop 1 x) ≡ drop 1 x
  columns_all = take_all 8 (drop 1 x) (omega (arith, columns_eight))

  label_is : after_blanks (drop 1 x) ≡ drop (1 + b) x
  label_is = after_blanks_lem (drop 1 x) ∙ ap (λ (n : ℕ). drop n (drop 1 x)) (ap blank_count (sym columns_all) ∙ sym e) ∙ drop-drop b 1 x

  blanks_few : b ≤ 8
  blanks_few = rw (ap length columns_all, columns_eight) at g

  label_length : length (drop (1 + b) x) ≡ 8 - b
  label_length = length-drop (1 + b) x ∙ (let k = blanks_few in omega arith)

  -- eight bytes from the end of the blanks on, of the columns with eight zeros behind them
  label_taken : (z : List ℕ) → z ≡ splice 0 (take 8 (drop 1 x)) (replicate 16 0) → take (b + 8 - b) (drop b z) ≡ drop (1 + b) x ++ zeros (8 - length (drop (1 + b) x))
  label_taken z f =
      let y = drop 1 x in
      let l = drop b y in
      let k = blanks_few in
      let n : b + 8 - b ≡ 8 = omega arith in
      let m : length l ≡ 8 - b = length-drop b y ∙ omega (arith, columns_eight) in
      let o : 8 - length l ≡ b = omega arith in
      let d : l ≡ drop (1 + b) x = drop-drop b 1 x in
      let c : z ≡ y ++ zeros 8 = f ∙ rw columns_all (splice_front y (replicate 16 0) ∙ ap (λ (i : ℕ). y ++ drop i (replicate 16 0)) columns_eight) in
      let t : drop b z ≡ l ++ zeros 8 = ap (drop b) c ∙ drop-append-le b y (zeros 8) (omega (arith, columns_eight)) in
      let q : 8 ≡ length l + b = omega arith in
      rw (n, t) (ap (λ (i : ℕ). take i (l ++ zeros 8)) q ∙ take-append-add l (zeros 8) b ∙ ap (λ (w : List ℕ). l ++ w) (take_replicate b 8 0 k ∙ ap zeros (sym o))
      ∙ ap (λ (w : List ℕ). w ++ zeros (8 - length w)) d)

  pub label_stored : (at : ℕ) (xs z ws : List ℕ) → at + label_size ≤ length xs → z ≡ splice 0 (take 8 (drop 1 x)) (replicate 16 0)
      → ws ≡ splice (at + 1) (take (b + 8 - b) (drop b z)) (set xs at (8 - b)) → ws ≡ splice at (label_of_columns x) xs
  unfolding label_of_columns
  label_stored at xs z ws h f e =
      let l = drop (1 + b) x in
      let r = l ++ zeros (8 - length l) in
      let k = blanks_few in
      let n : length r ≡ 8 = length-append l (zeros (8 - length l)) ∙ rw length-replicate (omega (arith, label_length)) in
      splice-behind at (at + 1) ((8 - b) ∷ []) r xs (set xs at (8 - b)) ws (one_store at (8 - b) xs (omega arith)) (e ∙ ap (λ (y : List ℕ). splice (at + 1) y (set xs at (8 - b))) (label_taken z f)) refl (omega arith)
      ∙ ap (λ (v : ℕ). splice at (v ∷ r) xs) (sym label_length)
      ∙ ap (λ (y : List ℕ). splice at y xs) (sym (label_bytes_lem l) ∙ ap (λ (y : List ℕ). label_record.write y) (sym label_is))

-- ---- an arc

pub numbers_stored : (at s t w : ℕ) (x xs us ws : List ℕ) → at + arc_size ≤ length xs
    → s ≡ columns_value 0 (take (number_width - 0) (drop 0 x)) → t ≡ columns_value 0 (take (weight_column - number_width) (drop number_width x)) → w ≡ columns_value 0 (take (labels_column - weight_column) (drop weight_column x))
    → us ≡ splice at (to_le 2 (s % 65536) ++ to_le 2 (t % 65536)) xs → ws ≡ splice (at + content_place) (to_le 4 (w % 4294967296)) us
    → ws ≡ splice at (number_bytes x) xs
unfolding number_bytes
numbers_stored at s t w x xs us ws h i j k e g =
    splice-behind at (at + content_place) (to_le 2 (s % 65536) ++ to_le 2 (t % 65536)) (to_le 4 (w % 4294967296)) xs us ws e g refl (omega arith) ∙ rw (i, j, k)

-- a region written over the front of another
splice-over : (a : ℕ) (ys zs xs : List ℕ) → length ys ≤ length zs → a + length zs ≤ length xs → splice a ys (splice a zs xs) ≡ splice a (ys ++ drop (length ys) zs) xs
splice-over a ys zs xs h k =
    let n = length ys in
    let t = take n zs in
    let d = drop n zs in
    let lt : length t ≡ n = length-take-le n zs h in
    let ld : length d ≡ length zs - n = length-drop n zs in
    let p : splice a zs xs ≡ splice (a + n) d (splice a t xs) =
    ap (λ (z : List ℕ). splice a z xs) (sym (take-append-drop n zs)) ∙ sym (splice_append a t d xs (omega arith)) ∙ ap (λ (m : ℕ). splice (a + m) d (splice a t xs)) lt in
    ap (splice a ys) p
    ∙ sym (splice_swap a (a + n) ys d (splice a t xs) (omega arith) (rw (length_splice a t xs (omega arith)) (omega arith)))
    ∙ ap (splice (a + n) d) (splice-twice a t ys xs lt (omega arith))
    ∙ splice_append a ys d xs (omega arith)

-- the size of a label's record
pub label_sized : (x : List ℕ) → length x ≡ label_width → length (label_of_columns x) ≡ label_size
unfolding label_of_columns
label_sized x e =
    let l = after_blanks (drop 1 x) in
    let y = drop 1 x in
    let k : length l ≤ 8 = omega (arith, ap length (after_blanks_lem y), length-drop (blank_count y) y, length-drop 1 x) in
    ap length (label_bytes_lem l) ∙ ap suc (length-append l (zeros (8 - length l)) ∙ rw length-replicate (omega arith))

-- the bytes of the labels, and zeros for the tapes that are not there
labels_over : (at tapes : ℕ) (r us vs ws : List ℕ) → length r ≡ tapes * label_size → tapes ≤ 8 → at + labels_size ≤ length us → vs ≡ splice at no_labels us → ws ≡ splice at r vs
    → ws ≡ splice at (r ++ zeros ((8 - tapes) * label_size)) us
unfolding no_labels
labels_over at tapes r us vs ws l h k e f =
    let m : labels_size - length r ≡ (8 - tapes) * label_size = omega arith in
    f ∙ rw e (splice-over at r (zeros labels_size) us (omega arith) (omega arith) ∙ ap (λ (z : List ℕ). splice at (r ++ z) us) (drop_replicate (length r) labels_size 0 ∙ ap zeros m))

module _ (tapes : ℕ) (x : List ℕ) (h : length x ≡ arc_width + tapes * label_width) where
  labels_length : length (recoded label_of_columns label_width tapes (drop labels_column x)) ≡ tapes * label_size
  labels_length = length_recoded label_of_columns label_width label_size label_sized tapes (drop labels_column x) (rw (length-drop labels_column x) (omega arith))

  -- the numbers, then the labels from a place on, which is that of the first label
  pub arc_stored : (at place : ℕ) (xs us vs ws : List ℕ) → place ≡ labels_start at → tapes ≤ 8 → at + arc_size ≤ length xs → us ≡ splice at (number_bytes x) xs
      → vs ≡ splice place no_labels us → ws ≡ splice place (recoded label_of_columns label_width tapes (take (length x - labels_column) (drop labels_column x))) vs
      → ws ≡ splice at (arc_of_line tapes x) xs
  unfolding arc_of_line number_bytes
  arc_stored at place xs us vs ws f t k e p' q' =
      let p = rw f at p' in
      let q = rw f at q' in
      let r = recoded label_of_columns label_width tapes (drop labels_column x) in
      let u : length us ≡ length xs = ap length e ∙ length_splice at (number_bytes x) xs (omega arith) in
      let d : take (length x - labels_column) (drop labels_column x) ≡ drop labels_column x = take_all (length x - labels_column) (drop labels_column x) (rw (length-drop labels_column x) (omega arith)) in
      let w : ws ≡ splice (labels_start at) (r ++ zeros ((8 - tapes) * label_size)) us = labels_over (labels_start at) tapes r us vs ws labels_length t (omega arith) p (q ∙ ap (λ (z : List ℕ). splice (labels_start at) (recoded label_of_columns label_width tapes z) vs) d) in
      let m : length (r ++ zeros ((8 - tapes) * label_size)) ≡ labels_size = length-append r (zeros ((8 - tapes) * label_size)) ∙ rw (labels_length, length-replicate) (omega arith) in
      splice-behind at (labels_start at) (number_bytes x) (r ++ zeros ((8 - tapes) * label_size)) xs us ws e w refl (omega arith)

  -- the size of an arc's record
  pub arc_sized : tapes ≤ 8 → length (arc_of_line tapes x) ≡ arc_size
  unfolding arc_of_line number_bytes
  arc_sized t =
      let r = recoded label_of_columns label_width tapes (drop labels_column x) in
      length-append (number_bytes x) (r ++ zeros ((8 - tapes) * label_size)) ∙ rw (length-append r (zeros ((8 - tapes) * label_size)), labels_length, length-replicate) (omega arith)
