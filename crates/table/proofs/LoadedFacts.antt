-- Records by value and the states and arcs that they stand for: what is loaded where a record was written.
use mathlib.Core.Path.{◌≡◌, refl, sym, ap, ap₂, ◌∙◌}
use mathlib.Core.Option.{Option, none, some}
use mathlib.Core.List.{List, [], ◌∷◌, ◌++◌, map, append_assoc}
use Prim.Native.Nat.{ℕ, zero, suc, ◌+◌, ◌-◌, ◌*◌, ◌≤◌}
use native.Mathlib.Omega.{arith}
use native.Mathlib.Nat.{add-zero, zero-add, suc-add, add_comm, add_assoc, suc-mul}
use lib.ListN.{length, take, drop, replicate, length-append, length-replicate, length-map, take-append-drop, replicate-append-replicate}
use lib.Seq.{take_at, drop_at, take_all, drop-drop, get_or-drop}
use Rattle.automata.specs.Automaton as automata
use Rattle.automata.specs.Lists.{All, Each}
use Rattle.automata.specs.Records.{write_all}
use Rattle.automata.specs.Format.{place}
use Rattle.automata.specs.Table as table
use Rattle.automata.specs.Memory.{zeros, weight_record, label_record, state_record, arc_record}
use Rattle.automata.proofs.RecordFacts.{All_append}
use Rattle.automata.proofs.FormatFacts.{length_many}
use Rattle.automata.proofs.MemoryFacts.{weight_record_lawful, label_record_lawful}
use Rattle.automata.specs.Layout.{arc_size, state_size, label_size, labels_place, labels_size, weight_size}
use Rattle.table.specs.Region.{part}
use Rattle.table.specs.Endian.{le}
use Rattle.table.specs.Records.{option_of, state_as, label_as, labels_as, arc_as, weight_at, state_at, label_at, labels_at, content_at, arc_at, empty_label, Padded, Canonical}
use Rattle.table.specs.declared.record.Label.{Label}
use Rattle.table.proofs.RegionFacts.{part-part, get_d_part, part_front, part_end}
use Rattle.table.proofs.EndianFacts.{le-to_le}

-- a field of a record that stands in a part of a list
field : (k n at m : ℕ) (xs w : List ℕ) → part at m xs ≡ w → k + n ≤ m → part (at + k) n xs ≡ part k n w
field k n at m xs w e h = sym (part-part k n at m xs h) ∙ ap (part k n) e

-- ---- a state

-- the weight at a place is that of the part there
weight-part : (at : ℕ) (xs : List ℕ) → weight_at at xs ≡ weight_at 0 (part at weight_size xs)
unfolding weight_at
weight-part at xs = rw (get_d_part at weight_size xs 0 0 (omega arith), part-part 1 4 at weight_size xs (omega arith), add-zero at)

-- a weight that was written
weight-written : (o : Option ℕ) → Each table.Weight o → option_of (weight_at 0 (weight_record.write o)) ≡ o
unfolding weight_at part
weight-written none h = refl
weight-written (some w) h = ap some (le-to_le 4 w (omega arith))

-- the same at a place
weight_decoded : (at : ℕ) (xs : List ℕ) (o : Option ℕ) → Each table.Weight o → part at weight_size xs ≡ weight_record.write o → option_of (weight_at at xs) ≡ o
weight_decoded at xs o h e = ap option_of (weight-part at xs ∙ ap (weight_at 0) e) ∙ weight-written o h

-- a state that was written
pub state_decoded : (at : ℕ) (xs : List ℕ) (s : automata.State ℕ) → table.WellFormedState s → part at state_size xs ≡ state_record.write s → state_as (state_at at xs) ≡ s
unfolding state_at
state_decoded at xs s w e =
    let x = weight_record.write s.initial in
    let y = weight_record.write s.final in
    let m : length x ≡ weight_size = weight_record_lawful.sized s.initial w.initial in
    let n : length y ≡ weight_size = weight_record_lawful.sized s.final w.final in
    let p : part at weight_size xs ≡ x = ap (λ (i : ℕ). part i weight_size xs) (sym (add-zero at)) ∙ field 0 weight_size at state_size xs (x ++ y) e (omega arith) ∙ part_front weight_size x y m in
    let q : part (at + weight_size) weight_size xs ≡ y = field weight_size weight_size at state_size xs (x ++ y) e (omega arith) ∙ part_end weight_size weight_size x y m n in
    rw (weight_decoded at xs s.initial w.initial p, weight_decoded (at + weight_size) xs s.final w.final q)

-- ---- labels

-- a label of the model by value
abbrev label_of : List ℕ → Label
label_of l = record { len = length l; symbols = l ++ zeros (8 - length l) }

-- it fills eight bytes
length_padded : (l : List ℕ) → length l ≤ 8 → length (l ++ zeros (8 - length l)) ≡ 8
length_padded l h = length-append l (zeros (8 - length l)) ∙ rw length-replicate (omega arith)

-- places are written as they are
places_written : (x : List ℕ) → write_all (place {B = ℕ}).write x ≡ x
places_written [] = refl
places_written (b ∷ x) = ap (λ (z : List ℕ). b ∷ z) (places_written x)

-- the nine bytes of a label
pub label_bytes_lem : (l : List ℕ) → label_record.write l ≡ length l ∷ (l ++ zeros (8 - length l))
label_bytes_lem l = ap (λ (z : List ℕ). length l ∷ z) (places_written (l ++ zeros (8 - length l)))

-- a label that was written
label_written : (l y : List ℕ) → table.Label l → label_at 0 (label_record.write l ++ y) ≡ label_of l
unfolding label_at part
label_written l y h =
    ap (λ (z : List ℕ). label_at 0 (z ++ y)) (label_bytes_lem l)
    ∙ ap (λ (z : List ℕ). record { len = length l; symbols = z }) (take_at (l ++ zeros (8 - length l)) y 8 (length_padded l h.0))

-- labels from a place on are those of what stands from there on
label_drop : (a k : ℕ) (ys : List ℕ) → label_at (a + k) ys ≡ label_at k (drop a ys)
unfolding label_at part
label_drop a k ys = rw (get_or-drop a ys k 0, drop-drop (k + 1) a ys, add_assoc a k 1)

-- and so for n of them
labels_drop : (n a k : ℕ) (ys : List ℕ) → labels_at n (a + k) ys ≡ labels_at n k (drop a ys)
unfolding labels_at
labels_drop zero a k ys = refl
labels_drop (suc n) a k ys =
    ap₂ (λ (l : Label) (ls : List Label). l ∷ ls) (label_drop a k ys) (ap (λ (i : ℕ). labels_at n i ys) (add_assoc a k label_size) ∙ labels_drop n a (k + label_size) ys)

-- the zeros of one label more
pub zeros_label : (k : ℕ) → zeros (suc k * label_size) ≡ zeros label_size ++ zeros (k * label_size)
zeros_label k = ap zeros (suc-mul k label_size ∙ add_comm (k * label_size) label_size) ∙ sym (replicate-append-replicate label_size (k * label_size) 0)

-- zeros are empty labels
labels_zero : (k : ℕ) (y : List ℕ) → labels_at k 0 (zeros (k * label_size) ++ y) ≡ replicate k empty_label
unfolding labels_at label_at part
labels_zero zero y = refl
labels_zero (suc k) y =
    rw (zeros_label k) (ap (λ (ls : List Label). empty_label ∷ ls) (labels_drop k label_size 0 (zeros label_size ++ zeros (k * label_size) ++ y) ∙ labels_zero k y))

-- labels that were written, and empty ones behind them
labels_written : (ls : List (List ℕ)) (k : ℕ) (y : List ℕ) → All table.Label ls
    → labels_at (length ls + k) 0 (write_all label_record.write ls ++ (zeros (k * label_size) ++ y)) ≡ map label_of ls ++ replicate k empty_label
unfolding labels_at
labels_written [] k y h = rw (zero-add k) (labels_zero k y)
labels_written (l ∷ ls) k y h =
    let z = write_all label_record.write ls ++ (zeros (k * label_size) ++ y) in
    let x = label_record.write l in
    let n : length x ≡ label_size = label_record_lawful.sized l h.0 in
    rw (suc-add (length ls) k, append_assoc x (write_all label_record.write ls) (zeros (k * label_size) ++ y))
    (ap₂ (λ (b : Label) (bs : List Label). b ∷ bs) (label_written l z h.0)
    (labels_drop (length ls + k) label_size 0 (x ++ z) ∙ ap (labels_at (length ls + k) 0) (drop_at x z label_size n) ∙ labels_written ls k y h.1))

-- by value and back
labels_back : (ls : List (List ℕ)) → map label_as (map label_of ls) ≡ ls
labels_back [] = refl
labels_back (l ∷ ls) = ap₂ (λ (b : List ℕ) (bs : List (List ℕ)). b ∷ bs) (take_at l (zeros (8 - length l)) (length l) refl) (labels_back ls)

-- each label of the model is padded
padded_of : (ls : List (List ℕ)) → All table.Label ls → All Padded (map label_of ls)
padded_of [] h = tt
padded_of (l ∷ ls) h = (
  record { short = h.0.0; whole = length_padded l h.0.0; padding = drop_at l (zeros (8 - length l)) (length l) refl },
  padded_of ls h.1,
)

-- and so is the empty one
padded_empty : (k : ℕ) → All Padded (replicate k empty_label)
padded_empty zero = tt
padded_empty (suc k) = (record { short = omega arith; whole = refl; padding = refl }, padded_empty k)

-- there are as many labels as are loaded
length_labels : (n at : ℕ) (xs : List ℕ) → length (labels_at n at xs) ≡ n
unfolding labels_at
length_labels zero at xs = refl
length_labels (suc n) at xs = ap suc (length_labels n (at + label_size) xs)

-- ---- an arc that was written
module _ (tapes states at : ℕ) (xs : List ℕ) (a : automata.Arc ℕ) (fits : tapes ≤ 8) (few : states ≤ 1024)
    (w : table.WellFormedArc tapes states a) (e : part at arc_size xs ≡ (arc_record tapes states).write a) where
  -- its labels
  labels_decoded : labels_at 8 (at + 4 + 4) xs ≡ map label_of a.labels ++ replicate (8 - tapes) empty_label
  unfolding part
  labels_decoded =
      let ls = a.labels in
      let x = write_all label_record.write ls in
      let z = zeros ((8 - tapes) * label_size) in
      let y = drop labels_size (drop (at + labels_place) xs) in
      let m : length ls + (8 - tapes) ≡ 8 = omega (arith, w.width) in
      let n : length (x ++ z) ≤ labels_size = rw (length-append, length-replicate, length_many label_record_lawful ls w.labels) (omega (arith, w.width)) in
      let p : take labels_size (drop (at + labels_place) xs) ≡ x ++ z = field labels_place labels_size at arc_size xs ((arc_record tapes states).write a) e (omega arith) ∙ take_all labels_size (x ++ z) n in
      let q : drop (at + labels_place) xs ≡ x ++ (z ++ y) = sym (take-append-drop labels_size (drop (at + labels_place) xs)) ∙ ap (λ (l : List ℕ). l ++ y) p ∙ append_assoc x z y in
      ap (λ (i : ℕ). labels_at 8 i xs) (add_assoc at 4 4 ∙ sym (add-zero (at + labels_place)))
      ∙ labels_drop 8 (at + labels_place) 0 xs ∙ ap (labels_at 8 0) q ∙ ap (λ (i : ℕ). labels_at i 0 (x ++ (z ++ y))) (sym m) ∙ labels_written ls (8 - tapes) y w.labels

  -- the arc that it stands for
  pub arc_decoded : arc_as tapes (arc_at at xs) ≡ a
  unfolding arc_at content_at part
  arc_decoded =
      let r = (arc_record tapes states).write a in
      let ls = a.labels in
      let rest = replicate (8 - tapes) empty_label in
      let s : le (part at 2 xs) ≡ a.source = ap (λ (i : ℕ). le (part i 2 xs)) (sym (add-zero at)) ∙ ap le (field 0 2 at arc_size xs r e (omega arith)) ∙ le-to_le 2 a.source (omega (arith, w.source)) in
      let t : le (part (at + 2) 2 xs) ≡ a.target = ap le (field 2 2 at arc_size xs r e (omega arith)) ∙ le-to_le 2 a.target (omega (arith, w.target)) in
      let v : le (part (at + 4) 4 xs) ≡ a.weight = ap le (field 4 4 at arc_size xs r e (omega arith)) ∙ le-to_le 4 a.weight (omega (arith, w.weight)) in
      let l : labels_as tapes (labels_at 8 (at + 4 + 4) xs) ≡ ls =
      ap (labels_as tapes) labels_decoded ∙ ap (map label_as) (take_at (map label_of ls) rest tapes (length-map ls label_of ∙ w.width)) ∙ labels_back ls in
      rw (s, t, v, l)

  -- each of its bytes is decided by it
  pub canonical_decoded : Canonical tapes (arc_at at xs).content
  unfolding arc_at content_at
  canonical_decoded =
      let ls = a.labels in
      let rest = replicate (8 - tapes) empty_label in
      record {
        eight = length_labels 8 (at + 4 + 4) xs;
        padded = rw labels_decoded (All_append Padded (map label_of ls) rest (padded_of ls w.labels) (padded_empty (8 - tapes)));
        unused = ap (drop tapes) labels_decoded ∙ drop_at (map label_of ls) rest tapes (length-map ls label_of ∙ w.width);
      }
