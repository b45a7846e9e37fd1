-- Facts of records that are written as lines.
use mathlib.Core.Path.{◌≡◌, refl, sym, ap, ap₂, ◌∙◌}
use mathlib.Core.Bool.{Bool}
use mathlib.Core.Option.{Option, none, some}
use mathlib.Core.List.{List, [], ◌∷◌, ◌++◌, append_assoc}
use Prim.Native.Nat.{ℕ, zero, suc, ◌+◌, ◌-◌, ◌*◌, ◌≤◌, ◌<◌, min}
use native.Mathlib.Omega.{arith}
use native.Mathlib.Nat.{zero-min, min-zero, suc-min-suc}
use lib.Dec.{eqb}
use lib.ListN.{length, take, drop, get_or, set, replicate, length-append, length-drop, length-take, length-replicate}
use lib.Seq.{take_all, take-take, length-take-le}
use borrow.Author.Tests.{eq-eqb, ne_eqb}
use Rattle.automata.specs.Lists.{if}
use Rattle.automata.specs.TableText.{absent, blanks, label_columns, weight_columns, header_line}
use Rattle.automata.specs.Layout.{arc_size, state_size, amount_width, arc_width, header_end, header_width, label_size, labels_place, label_width, labels_column, labels_size, newline, number_width, state_end, state_width, tapes_width, weight_column, weight_size, arcs_column}
use Rattle.table.specs.Arcs.{source_at, target_at, arc_weight_at}
use Rattle.table.specs.Region.{part, splice}
use Rattle.table.specs.Endian.{le}
use Rattle.table.specs.declared.answer.Counts.{Counts}
use Rattle.table.proofs.RegionFacts.{splice-behind, splice_snoc, take_splice_in}
use Rattle.text_columns.specs.Columns.{decimal_text}
use Rattle.text_columns.proofs.WriteFacts.{length_decimal}
use Rattle.text_store.specs.Recode.{recoded}
use Rattle.text_print.specs.Printed.{weight_of_record, line_of_state, columns_of_label, numbers_of_record, line_of_arc, header_of}
use Rattle.text_store.proofs.RecodeFacts.{length_recoded, recoded_take}
use Rattle.text_store.proofs.StoredFacts.{take_replicate}

-- ---- a weight

weight-absent : (x : List ℕ) → get_or x 0 0 ≡ 0 → absent ≡ weight_of_record x
unfolding weight_of_record
weight-absent x e = ap (λ (b : Bool). weight_columns.write (if b none (some (le (part 1 4 x))))) (sym (eq-eqb (get_or x 0 0) 0 e))

weight_present : (x : List ℕ) → (get_or x 0 0 ≡ 0 → ⊥) → decimal_text amount_width (le (part 1 4 x)) ≡ weight_of_record x
unfolding weight_of_record decimal_text
weight_present x e = ap (λ (b : Bool). weight_columns.write (if b none (some (le (part 1 4 x))))) (sym (ne_eqb (get_or x 0 0) 0 e))

pub absent_printed : (at : ℕ) (x xs us : List ℕ) → get_or x 0 0 ≡ 0 → us ≡ splice at absent xs → us ≡ splice at (weight_of_record x) xs
absent_printed at x xs us e f = f ∙ ap (λ (z : List ℕ). splice at z xs) (weight-absent x e)

pub present_printed : (at v : ℕ) (x xs us : List ℕ) → (get_or x 0 0 ≡ 0 → ⊥) → v ≡ le (part 1 4 x) → us ≡ splice at (decimal_text amount_width v) xs → us ≡ splice at (weight_of_record x) xs
present_printed at v x xs us e g f = f ∙ ap (λ (z : List ℕ). splice at z xs) (ap (decimal_text amount_width) g ∙ weight_present x e)

-- ten columns, whatever the weight is
weight_ten : (o : Option ℕ) → length (weight_columns.write o) ≡ amount_width
unfolding decimal_text
weight_ten none = refl
weight_ten (some n) = length_decimal amount_width n

length_weight : (x : List ℕ) → length (weight_of_record x) ≡ amount_width
unfolding weight_of_record
length_weight x = weight_ten (if (eqb (get_or x 0 0) 0) none (some (le (part 1 4 x))))

-- ---- a state

pub state_sized : (x : List ℕ) → length x ≡ state_size → length (line_of_state x) ≡ state_width
unfolding line_of_state
state_sized x h =
    length-append (weight_of_record (take weight_size x) ++ weight_of_record (drop weight_size x)) (newline ∷ [])
    ∙ rw (length-append (weight_of_record (take weight_size x)) (weight_of_record (drop weight_size x)), length_weight (take weight_size x), length_weight (drop weight_size x))

-- a byte behind a region
snoc_behind : (a b : ℕ) (ys xs us : List ℕ) (v : ℕ) → us ≡ splice a ys xs → b ≡ a + length ys → a + length ys < length xs → set us b v ≡ splice a (ys ++ (v ∷ [])) xs
snoc_behind a b ys xs us v e f h = ap₂ (λ (l : List ℕ) (i : ℕ). set l i v) e f ∙ splice_snoc a ys xs v h

pub state_printed : (at : ℕ) (x xs us vs : List ℕ) → length x ≡ state_size → at + state_width ≤ length xs → us ≡ splice at (weight_of_record (take weight_size x)) xs → vs ≡ splice (at + amount_width) (weight_of_record (take weight_size (drop weight_size x))) us
    → set vs (at + state_end) newline ≡ splice at (line_of_state x) xs
unfolding line_of_state
state_printed at x xs us vs h k e f =
    let p = length_weight (take weight_size x) in
    let q = length_weight (drop weight_size x) in
    let d : take weight_size (drop weight_size x) ≡ drop weight_size x = take_all 5 (drop weight_size x) (rw (length-drop weight_size x) (omega arith)) in
    let g : vs ≡ splice (at + amount_width) (weight_of_record (drop weight_size x)) us = f ∙ ap (λ (z : List ℕ). splice (at + amount_width) (weight_of_record z) us) d in
    let w = splice-behind at (at + amount_width) (weight_of_record (take weight_size x)) (weight_of_record (drop weight_size x)) xs us vs e g (omega arith) (omega arith) in
    let l : length (weight_of_record (take weight_size x) ++ weight_of_record (drop weight_size x)) ≡ state_end = length-append (weight_of_record (take weight_size x)) (weight_of_record (drop weight_size x)) ∙ omega arith in
    snoc_behind at (at + state_end) (weight_of_record (take weight_size x) ++ weight_of_record (drop weight_size x)) xs vs newline w (omega arith) (omega arith)

-- ---- a label

-- the columns of a label: blanks, then its symbols
columns_are : (l : List ℕ) → label_columns.write l ≡ blanks (suc (8 - length l)) ++ l
columns_are l = refl

label_nine : (l : List ℕ) → length l ≤ 8 → length (label_columns.write l) ≡ label_width
label_nine l h = ap length (columns_are l) ∙ length-append (blanks (suc (8 - length l))) l ∙ rw length-replicate (omega arith)

take_min : (b : ℕ) (y : List ℕ) → take (min b (length y)) y ≡ take b y
take_min zero y = ap (λ (k : ℕ). take k y) (zero-min (length y))
take_min (suc b) [] = ap (λ (k : ℕ). take {A = ℕ} k []) (min-zero (suc b))
take_min (suc b) (c ∷ y) = ap (λ (k : ℕ). take k (c ∷ y)) (suc-min-suc b (length y)) ∙ ap (λ (l : List ℕ). c ∷ l) (take_min b y)

module _ (x : List ℕ) (h : length x ≡ label_size) where
  symbols_eight : length (drop 1 x) ≡ 8
  symbols_eight = length-drop 1 x ∙ omega arith

  label_symbols : length (take (get_or x 0 0) (drop 1 x)) ≡ min (get_or x 0 0) 8
  label_symbols = length-take (get_or x 0 0) (drop 1 x) ∙ ap (min (get_or x 0 0)) symbols_eight

  pub label_sized : length (columns_of_label x) ≡ label_width
  unfolding columns_of_label
  label_sized = label_nine (take (get_or x 0 0) (drop 1 x)) (omega (arith, label_symbols))

  -- the first nine of seventeen columns: blanks, and as many of the eight bytes behind the length as have room
  label_front : (n : ℕ) (z : List ℕ) → n ≤ 8 → z ≡ splice (label_width - n) (take 8 (drop 1 x)) (replicate 17 32) → take label_width z ≡ blanks (label_width - n) ++ take n (drop 1 x)
  label_front n z k f =
      let y = drop 1 x in
      let o : label_width ≡ label_width - n + n = omega arith in
      let ly : length (take 8 y) ≡ 8 = length-take-le 8 y (omega (arith, symbols_eight)) in
      ap₂ (λ (i : ℕ) (c : List ℕ). take i c) o f ∙ take_splice_in (label_width - n) n (take 8 y) (replicate 17 32) (omega arith) (omega arith)
      ∙ ap₂ (λ (p q : List ℕ). p ++ q) (take_replicate (label_width - n) 17 32 (omega arith)) (take-take n 8 y k)

  pub label_printed : (n at : ℕ) (z xs ws : List ℕ) → n ≡ min (get_or x 0 0) 8 → n ≤ 8 → z ≡ splice (label_width - n) (take 8 (drop 1 x)) (replicate 17 32)
      → ws ≡ splice at (take label_width z) xs → ws ≡ splice at (columns_of_label x) xs
  unfolding columns_of_label
  label_printed n at z xs ws e k f g =
      let b = get_or x 0 0 in
      let y = drop 1 x in
      let ly = symbols_eight in
      let t : take n y ≡ take b y = ap (λ (i : ℕ). take i y) (e ∙ ap (min b) (sym ly)) ∙ take_min b y in
      let ln : length (take n y) ≡ n = length-take-le n y (omega arith) in
      let m : label_width - n ≡ suc (8 - length (take n y)) = omega arith in
      g ∙ ap (λ (c : List ℕ). splice at c xs) (label_front n z k f ∙ ap (λ (i : ℕ). blanks i ++ take n y) m ∙ ap (λ (l : List ℕ). label_columns.write l) t)

-- ---- an arc

numbers_length : (x : List ℕ) → length (numbers_of_record x) ≡ labels_column
unfolding numbers_of_record
numbers_length x =
    let a = decimal_text number_width (source_at 0 x) in
    let b = decimal_text number_width (target_at 0 x) in
    let d = decimal_text amount_width (arc_weight_at 0 x) in
    length-append a (b ++ d) ∙ rw (length-append b d, length_decimal number_width (source_at 0 x), length_decimal number_width (target_at 0 x), length_decimal amount_width (arc_weight_at 0 x))

pub numbers_printed : (at s t w : ℕ) (x xs us vs ws : List ℕ) → at + labels_column ≤ length xs → s ≡ source_at 0 x → t ≡ target_at 0 x → w ≡ arc_weight_at 0 x
    → us ≡ splice at (decimal_text number_width s) xs → vs ≡ splice (at + number_width) (decimal_text number_width t) us → ws ≡ splice (at + weight_column) (decimal_text amount_width w) vs → ws ≡ splice at (numbers_of_record x) xs
unfolding numbers_of_record
numbers_printed at s t w x xs us vs ws h es et ew e f g =
    let ls = length_decimal number_width s in
    let lt = length_decimal number_width t in
    let lw = length_decimal amount_width w in
    let l : length (decimal_text number_width s ++ decimal_text number_width t) ≡ weight_column = length-append (decimal_text number_width s) (decimal_text number_width t) ∙ omega arith in
    let p = splice-behind at (at + number_width) (decimal_text number_width s) (decimal_text number_width t) xs us vs e f (omega arith) (omega arith) in
    splice-behind at (at + weight_column) (decimal_text number_width s ++ decimal_text number_width t) (decimal_text amount_width w) xs vs ws p g (omega arith) (omega arith)
    ∙ ap (λ (z : List ℕ). splice at z xs) (append_assoc (decimal_text number_width s) (decimal_text number_width t) (decimal_text amount_width w) ∙ rw (es, et, ew))

module _ (tapes : ℕ) (x : List ℕ) (h : length x ≡ arc_size) (k : tapes ≤ 8) where
  labels_length : length (recoded columns_of_label label_size tapes (drop labels_place x)) ≡ tapes * label_width
  labels_length = length_recoded columns_of_label label_size label_width label_sized tapes (drop labels_place x) (rw (length-drop labels_place x) (omega arith))

  before_end : length (numbers_of_record x ++ recoded columns_of_label label_size tapes (drop labels_place x)) ≡ labels_column + tapes * label_width
  before_end = length-append (numbers_of_record x) (recoded columns_of_label label_size tapes (drop labels_place x)) ∙ rw (numbers_length x, labels_length)

  pub arc_sized : length (line_of_arc tapes x) ≡ arc_width + tapes * label_width
  unfolding line_of_arc
  arc_sized = length-append (numbers_of_record x ++ recoded columns_of_label label_size tapes (drop labels_place x)) (newline ∷ []) ∙ omega (arith, before_end)

  pub arc_printed : (at : ℕ) (xs us vs : List ℕ) → at + (arc_width + tapes * label_width) ≤ length xs → us ≡ splice at (numbers_of_record x) xs
      → vs ≡ splice (at + labels_column) (recoded columns_of_label label_size tapes (take labels_size (drop labels_place x))) us → set vs (at + (labels_column + tapes * label_width)) newline ≡ splice at (line_of_arc tapes x) xs
  unfolding line_of_arc
  arc_printed at xs us vs l e f =
      let r = recoded columns_of_label label_size tapes (drop labels_place x) in
      let n = numbers_length x in
      let m = labels_length in
      let y = drop labels_place x in
      let d : recoded columns_of_label label_size tapes (take labels_size y) ≡ r =
      sym (recoded_take columns_of_label label_size tapes (take labels_size y)) ∙ ap (recoded columns_of_label label_size tapes) (take-take (tapes * label_size) labels_size y (omega arith)) ∙ recoded_take columns_of_label label_size tapes y in
      let g : vs ≡ splice (at + labels_column) r us = f ∙ ap (λ (z : List ℕ). splice (at + labels_column) z us) d in
      let w = splice-behind at (at + labels_column) (numbers_of_record x) r xs us vs e g (omega arith) (omega arith) in
      snoc_behind at (at + (labels_column + tapes * label_width)) (numbers_of_record x ++ r) xs vs newline w (omega (arith, before_end)) (omega (arith, before_end))

-- ---- the header

three_fields : (a b d : List ℕ) → length a ≡ 3 → length b ≡ 6 → length d ≡ 6 → length ((a ++ (b ++ d)) ++ (newline ∷ [])) ≡ header_width
three_fields a b d p q r = simp length-append (omega arith)

pub length_header : (c : Counts) → length (header_line.write (c.tapes, (c.states, c.arcs))) ≡ header_width
unfolding decimal_text
length_header c =
    three_fields (decimal_text tapes_width c.tapes) (decimal_text number_width c.states) (decimal_text number_width c.arcs) (length_decimal tapes_width c.tapes) (length_decimal number_width c.states) (length_decimal number_width c.arcs)

pub header_printed : (c : Counts) (xs us vs ws : List ℕ) → header_width ≤ length xs → us ≡ splice 0 (decimal_text tapes_width c.tapes) xs → vs ≡ splice 3 (decimal_text number_width c.states) us
    → ws ≡ splice arcs_column (decimal_text number_width c.arcs) vs → set ws header_end newline ≡ splice 0 (header_of c) xs
unfolding header_of decimal_text
header_printed c xs us vs ws h e f g =
    let a = decimal_text tapes_width c.tapes in
    let b = decimal_text number_width c.states in
    let d = decimal_text number_width c.arcs in
    let la = length_decimal tapes_width c.tapes in
    let lb = length_decimal number_width c.states in
    let ld = length_decimal number_width c.arcs in
    let l : length (a ++ b) ≡ arcs_column = length-append a b ∙ omega arith in
    let m : length ((a ++ b) ++ d) ≡ header_end = length-append (a ++ b) d ∙ omega arith in
    let p = splice-behind 0 3 a b xs us vs e f (omega arith) (omega arith) in
    let q = splice-behind 0 arcs_column (a ++ b) d xs vs ws p g (omega arith) (omega arith) in
    snoc_behind 0 header_end ((a ++ b) ++ d) xs ws newline q (omega arith) (omega arith)
    ∙ ap (λ (z : List ℕ). splice 0 (z ++ (newline ∷ [])) xs) (append_assoc a b d)
