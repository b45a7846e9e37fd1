-- Records rewritten one after the other, and the labels of one record.
use Prim.Native.Nat.{ℕ, zero, suc, ◌+◌, ◌-◌, ◌*◌, ◌≤◌, ◌<◌}
use mathlib.Core.Path.{◌≡◌, refl, sym, ap, ap₂, ◌∙◌}
use mathlib.Core.List.{List, [], ◌∷◌, ◌++◌}
use native.Mathlib.Omega.{arith}
use lib.ListN.{length, get_or, take, drop, length-append, length-take, length-drop}
use lib.Seq.{drop-drop}
use Rattle.automata.specs.Memory.{zeros}
use Rattle.automata.specs.Layout.{arc_size, label_size, labels_place, labels_size}
use Rattle.table.specs.Arcs.{labels_start}
use Rattle.table.specs.Region.{part, splice}
use Rattle.table.proofs.RegionFacts.{length_part, part_suc, part-part, length_splice, drop_splice, splice-none, splice_append, splice_self, splice-within}
use Rattle.tapes_records.specs.Rewritten.{rewritten, chosen_labels, chosen_arc}

-- ---- records in a loop
module _ (f : List ℕ → List ℕ) where
  -- the first of several, and the others
  rewritten_cons : (n : ℕ) (x : List ℕ) → rewritten f (suc n) x ≡ f (take arc_size x) ++ rewritten f n (drop arc_size x)
  unfolding rewritten
  rewritten_cons n x = refl

  -- records that stay as long as they are
  pub length_rewritten : ((arc : List ℕ) → length arc ≡ arc_size → length (f arc) ≡ arc_size) → (n : ℕ) (x : List ℕ) → arc_size * n ≤ length x → length (rewritten f n x) ≡ arc_size * n
  unfolding rewritten
  length_rewritten s zero x h = refl
  length_rewritten s (suc n) x h =
      let l : length (take arc_size x) ≡ arc_size = length-take arc_size x ∙ omega arith in
      let r : length (rewritten f n (drop arc_size x)) ≡ arc_size * n = length_rewritten s n (drop arc_size x) (omega (arith, length-drop arc_size x)) in
      length-append (f (take arc_size x)) (rewritten f n (drop arc_size x)) ∙ omega (arith, s (take arc_size x) l, r)

  -- a turn: one record rewritten where it stands, the others give the whole
  pub rewrite_turn : ((arc : List ℕ) → length arc ≡ arc_size → length (f arc) ≡ arc_size) → (at left rest : ℕ) (out out2 : List ℕ) → left ≡ suc rest → at + arc_size * left ≤ length out
      → out2 ≡ splice at (f (part at arc_size out)) out
      → splice (at + arc_size) (rewritten f rest (drop (at + arc_size) out2)) out2 ≡ splice at (rewritten f left (drop at out)) out
  unfolding part
  rewrite_turn s at left rest out out2 t h e =
      let y = f (part at arc_size out) in
      let n : length y ≡ arc_size = s (part at arc_size out) (length_part at arc_size out (omega arith)) in
      let d : drop (at + arc_size) out2 ≡ drop (at + arc_size) out = ap (drop (at + arc_size)) e ∙ drop_splice (at + arc_size) at y out (omega (arith, n)) (omega (arith, n)) in
      let z = rewritten f rest (drop (at + arc_size) out) in
      let m : length z ≡ arc_size * rest = length_rewritten s rest (drop (at + arc_size) out) (omega (arith, length-drop (at + arc_size) out)) in
      ap₂ (λ (x o : List ℕ). splice (at + arc_size) (rewritten f rest x) o) d e
      ∙ ap (λ (k : ℕ). splice (at + k) z (splice at y out)) (sym n)
      ∙ splice_append at y z out (omega (arith, n, m))
      ∙ ap (λ (x : List ℕ). splice at (y ++ rewritten f rest x) out) (sym (drop-drop arc_size at out))
      ∙ ap (λ (x : List ℕ). splice at x out) (sym (ap (λ (k : ℕ). rewritten f k (drop at out)) t ∙ rewritten_cons rest (drop at out)))

  -- no record is left
  pub rewrite_end : (at left : ℕ) (out : List ℕ) → left ≡ 0 → out ≡ splice at (rewritten f left (drop at out)) out
  unfolding rewritten
  rewrite_end at left out e = sym (splice-none at out) ∙ rw e

-- ---- the labels of one record

-- the bytes of labels are at most nine for each tape
pub length_labels : (js x : List ℕ) → length (chosen_labels js x) ≤ label_size * length js
unfolding chosen_labels part
length_labels [] x = omega arith
length_labels (j ∷ js) x =
    let h = length_labels js x in
    let t = length-take label_size (drop (label_size * (j - 1)) x) in
    let a = length-append (part (label_size * (j - 1)) label_size x) (chosen_labels js x) in
    omega (arith, h, t, a)

-- the first of several labels, and the others
labels_cons : (x js : List ℕ) (k rest from : ℕ) → k < length js → from ≡ label_size * (get_or js k 0 - 1)
    → chosen_labels (part k (suc rest) js) x ≡ part from label_size x ++ chosen_labels (part (k + 1) rest js) x
unfolding chosen_labels
labels_cons x js k rest from h e = rw (e, part_suc k rest js 0 h)

-- a turn: one label written, the others give the whole
pub labels_turn : (x js : List ℕ) (k left rest to from : ℕ) (out out2 : List ℕ) → left ≡ suc rest → k + left ≤ length js → from ≡ label_size * (get_or js k 0 - 1) → from + label_size ≤ length x
    → to + label_size * left ≤ length out → out2 ≡ splice to (take (from + label_size - from) (drop from x)) out
    → splice (to + label_size) (chosen_labels (part (k + 1) rest js) x) out2 ≡ splice to (chosen_labels (part k left js) x) out
unfolding part
labels_turn x js k left rest to from out out2 s h e l r o =
    let y = part from label_size x in
    let z = chosen_labels (part (k + 1) rest js) x in
    let nine : length y ≡ label_size = length_part from label_size x l in
    let g : from + label_size - from ≡ label_size = omega arith in
    let w : out2 ≡ splice to y out = o ∙ ap (λ (n : ℕ). splice to (take n (drop from x)) out) g in
    let b = length_labels (part (k + 1) rest js) x in
    let c = length_part (k + 1) rest js (omega arith) in
    ap₂ (λ (n : ℕ) (u : List ℕ). splice (to + n) z u) (sym nine) w ∙ splice_append to y z out (omega (arith, b, c, r, nine))
    ∙ ap (λ (u : List ℕ). splice to u out) (sym (ap (λ (n : ℕ). chosen_labels (part k n js) x) s ∙ labels_cons x js k rest from (omega arith) e))

-- no label is left
pub labels_end_lem : (x js : List ℕ) (k left used to : ℕ) (out old : List ℕ) → left ≡ 0
    → splice to (chosen_labels (part k left js) x) out ≡ splice 0 (chosen_labels (part 0 used js) x) old → out ≡ splice 0 (chosen_labels (take used js) x) old
unfolding chosen_labels part
labels_end_lem x js k left used to out old e f = sym (splice-none to out) ∙ rw e at f

-- the labels of a record that stands in a list
pub labels_found : (js arcs r : List ℕ) (from to : ℕ) → from ≡ to → r ≡ splice 0 (chosen_labels js (take (from + labels_size - from) (drop from arcs))) (zeros labels_size)
    → r ≡ splice 0 (chosen_labels js (part to labels_size arcs)) (zeros labels_size)
unfolding part
labels_found js arcs r from to f e =
    let g : from + labels_size - from ≡ labels_size = omega arith in
    e ∙ ap₂ (λ (n k : ℕ). splice 0 (chosen_labels js (take n (drop k arcs))) (zeros labels_size)) g f

-- a record whose labels were written over
pub arc-chosen : (js arcs labels arcs2 : List ℕ) (at : ℕ) → at + arc_size ≤ length arcs → length js ≤ 8
    → labels ≡ splice 0 (chosen_labels js (part (labels_start at) labels_size arcs)) (zeros labels_size) → arcs2 ≡ splice (labels_start at) labels arcs
    → arcs2 ≡ splice at (chosen_arc js (part at arc_size arcs)) arcs
unfolding chosen_arc
arc-chosen js arcs labels arcs2 at h few e f =
    let b = length_labels js (part (labels_start at) labels_size arcs) in
    let n : length labels ≡ labels_size = ap length e ∙ length_splice 0 (chosen_labels js (part (labels_start at) labels_size arcs)) (zeros labels_size) (omega arith) in
    let arc = part at arc_size arcs in
    let l : length arc ≡ arc_size = length_part at arc_size arcs h in
    let q : part labels_place labels_size arc ≡ part (labels_start at) labels_size arcs = part-part labels_place labels_size at arc_size arcs (omega arith) in
    f ∙ ap (splice (labels_start at) labels) (sym (splice_self at arc_size arcs h)) ∙ splice-within at labels_place labels arc arcs (omega (arith, n, l)) (omega (arith, l))
    ∙ ap (λ (x : List ℕ). splice at (splice labels_place x arc) arcs) (e ∙ ap (λ (x : List ℕ). splice 0 (chosen_labels js x) (zeros labels_size)) (sym q))

-- it is as long as it was
pub length_chosen_arc : (js arc : List ℕ) → length js ≤ 8 → length arc ≡ arc_size → length (chosen_arc js arc) ≡ arc_size
unfolding chosen_arc
length_chosen_arc js arc few h =
    let b = length_labels js (part labels_place labels_size arc) in
    let labels = splice 0 (chosen_labels js (part labels_place labels_size arc)) (zeros labels_size) in
    let n : length labels ≡ labels_size = length_splice 0 (chosen_labels js (part labels_place labels_size arc)) (zeros labels_size) (omega arith) in
    length_splice labels_place labels arc (omega (arith, n, h)) ∙ h

-- the first tapes of a list are as few as they are
pub chosen_few : (tapes : List ℕ) (used : ℕ) → used ≤ 8 → length (take used tapes) ≤ 8
chosen_few tapes used h = omega (arith, length-take used tapes)
