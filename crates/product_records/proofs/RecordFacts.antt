-- The record of a move as it is written, over plain lists.
use mathlib.Core.Path.{◌≡◌, refl, sym, ap, ◌∙◌}
use mathlib.Core.Bool.{Bool, true, false}
use mathlib.Core.List.{List, [], ◌∷◌, ◌++◌}
use Prim.Native.Nat.{ℕ, ◌+◌, ◌-◌, ◌*◌, ◌≤◌}
use native.Mathlib.Omega.{arith}
use lib.Dec.{eqb, eqb_refl}
use lib.ListN.{length, get_or, set, length-append, length-replicate, replicate-append-replicate}
use Rattle.automata.specs.Lists.{if}
use Rattle.automata.specs.Memory.{zeros}
use Rattle.automata.proofs.TestFacts.{eqb_false, false_not_true, T_true}
use Rattle.automata.specs.Layout.{arc_size, content_place, label_size, labels_place, labels_size}
use Rattle.table.specs.Arcs.{labels_start}
use Rattle.table.specs.Region.{part, splice}
use Rattle.table.specs.Endian.{le, to_le}
use Rattle.table.proofs.EndianFacts.{Bytes, to_le-part}
use Rattle.table.proofs.RegionFacts.{length_part, part_zero, part_suc, part-add, length_splice, splice-none, splice-twice, splice_append, splice-behind, splice_swap, one_store}
use Rattle.product_search.specs.declared.vertex.Move.{Move}
use Rattle.product_search.specs.Moves.{no_arc}
use Rattle.product_records.specs.Sums.{side_labels, side_over, move_sum, move_front, move_labels, move_record, MoveFits}

-- a test for equal numbers that fails
eqb_differs : (m n : ℕ) → eqb m n ≡ false → m ≡ n → ⊥
eqb_differs m n f e = false_not_true {A = ⊥} f (T_true (eqb m n) (rw e (eqb_refl n)))

-- ---- zeros

-- zeros in three parts
zeros_parts : (a b c : ℕ) → zeros (a + (b + c)) ≡ zeros a ++ (zeros b ++ zeros c)
zeros_parts a b c = sym (ap (λ (j : List ℕ). zeros a ++ j) (replicate-append-replicate b c 0) ∙ replicate-append-replicate a (b + c) 0)

-- those of a record: of each side, and behind them
zeros_split : (n k : ℕ) → n + k ≤ 8 → zeros labels_size ≡ zeros (label_size * n) ++ (zeros (label_size * k) ++ zeros (labels_size - label_size * n - label_size * k))
zeros_split n k t = let s : labels_size ≡ label_size * n + (label_size * k + (labels_size - label_size * n - label_size * k)) = omega arith in ap zeros s ∙ zeros_parts (label_size * n) (label_size * k) (labels_size - label_size * n - label_size * k)

-- a label copied: its length, and its eight bytes as one number
pub label_copied : (arcs : List ℕ) (from to w : ℕ) (out out2 : List ℕ) → Bytes arcs → from + label_size ≤ length arcs → to + label_size ≤ length out
    → w ≡ le (part (from + 1) 8 arcs) → out2 ≡ splice (to + 1) (to_le 8 w) (set out to (get_or arcs from 0)) → out2 ≡ splice to (part from label_size arcs) out
label_copied arcs from to w out out2 bytes h k e f =
    let x = get_or arcs from 0 in
    let b : to_le 8 w ≡ part (from + 1) 8 arcs = ap (to_le 8) e ∙ to_le-part (from + 1) 8 arcs (omega arith) bytes in
    splice-behind to (to + 1) (x ∷ []) (to_le 8 w) out (set out to x) out2 (one_store to x out (omega arith)) f refl (omega arith)
    ∙ ap (λ (z : List ℕ). splice to z out) (ap (λ (z : List ℕ). x ∷ z) b ∙ sym (part_suc from 8 arcs 0 (omega arith)))

-- ---- the labels of a side

-- its path has ended
pub side_ended : (arcs : List ℕ) (tapes k to : ℕ) (out : List ℕ) → k ≡ no_arc → out ≡ side_over arcs tapes k to out
unfolding side_over
side_ended arcs tapes k to out e = rw e

-- its arc
pub side_arc : (arcs : List ℕ) (tapes k to : ℕ) (out out2 : List ℕ) → (k ≡ no_arc → ⊥) → out2 ≡ splice to (part (labels_start (arc_size * k)) (label_size * tapes) arcs) out
    → out2 ≡ side_over arcs tapes k to out
unfolding side_over
side_arc arcs tapes k to out out2 e h = rw (eqb_false k no_arc e) h

-- one label copied, and so many behind it
pub labels_more : (arcs : List ℕ) (from at left left2 : ℕ) (out out2 : List ℕ) → left ≡ left2 + 1 → from + label_size * left ≤ length arcs → at + label_size * left ≤ length out
    → out2 ≡ splice at (part from label_size arcs) out → splice (at + label_size) (part (from + label_size) (label_size * left2) arcs) out2 ≡ splice at (part from (label_size * left) arcs) out
labels_more arcs from at left left2 out out2 e h k f =
    let x = part from label_size arcs in
    let y = part (from + label_size) (label_size * left2) arcs in
    let lx : length x ≡ label_size = length_part from label_size arcs (omega arith) in
    let ly : length y ≡ label_size * left2 = length_part (from + label_size) (label_size * left2) arcs (omega arith) in
    let n : label_size + label_size * left2 ≡ label_size * left = omega arith in
    splice-behind at (at + label_size) x y out out2 (splice (at + label_size) y out2) f refl (omega (arith, lx)) (omega (arith, lx, ly))
    ∙ ap (λ (z : List ℕ). splice at z out) (sym (part-add from label_size (label_size * left2) arcs) ∙ ap (λ (j : ℕ). part from j arcs) n)

-- none left
pub labels_done : (arcs : List ℕ) (from at left : ℕ) (out out2 : List ℕ) → left ≡ 0 → splice at (part from (label_size * left) arcs) out ≡ out2 → out ≡ out2
labels_done arcs from at left out out2 e h =
    sym (splice-none at out) ∙ ap (λ (z : List ℕ). splice at z out) (sym (part_zero from arcs)) ∙ ap (λ (j : ℕ). splice at (part from (label_size * j) arcs) out) (sym e) ∙ h

-- ---- the labels of both sides

-- a region written over between two others
splice-between : (to : ℕ) (p y z q out : List ℕ) → length y ≡ length z → to + length (p ++ (z ++ q)) ≤ length out
    → splice (to + length p) y (splice to (p ++ (z ++ q)) out) ≡ splice to (p ++ (y ++ q)) out
splice-between to p y z q out e h =
    let lz = length-append z q in
    let lp = length-append p (z ++ q) in
    let s = splice to p out in
    let ls : length s ≡ length out = length_splice to p out (omega (arith, lp)) in
    let a = to + length p in
    let lt : length (splice a z s) ≡ length s = length_splice a z s (omega (arith, lz, lp, ls)) in
    let before : splice to (p ++ (z ++ q)) out ≡ splice (a + length z) q (splice a z s) =
    sym (splice_append to p (z ++ q) out (omega (arith, lp))) ∙ sym (splice_append a z q s (omega (arith, lz, lp, ls))) in
    let after : splice (a + length y) q (splice a y s) ≡ splice to (p ++ (y ++ q)) out =
    splice_append a y q s (omega (arith, lz, lp, ls, e)) ∙ splice_append to p (y ++ q) out (let ly = length-append y q in omega (arith, lz, lp, ly, e)) in
    ap (splice a y) before
    ∙ sym (splice_swap a (a + length z) y q (splice a z s) (omega (arith, e)) (omega (arith, lz, lp, ls, lt)))
    ∙ ap (splice (a + length z) q) (splice-twice a z y s (sym e) (omega (arith, lz, lp, ls)))
    ∙ ap (λ (j : ℕ). splice (a + j) q (splice a y s)) (sym e) ∙ after

module _ (arcs : List ℕ) (tapes k : ℕ) (h : (k ≡ no_arc → ⊥) → arc_size * k + arc_size ≤ length arcs) (t : tapes ≤ 8) where
  -- the labels of a side take up nine bytes a tape
  length_side : length (side_labels arcs tapes k) ≡ label_size * tapes
  unfolding side_labels
  length_side = go (eqb k no_arc) (λ f. eqb_differs k no_arc f)
    where
      go : (b : Bool) → (b ≡ false → k ≡ no_arc → ⊥) → length (if b (zeros (label_size * tapes)) (part (labels_start (arc_size * k)) (label_size * tapes) arcs)) ≡ label_size * tapes
      go true f = length-replicate (label_size * tapes) 0
      go false f = let l = h (f refl) in length_part (labels_start (arc_size * k)) (label_size * tapes) arcs (omega (arith, l, t))

  -- written over zeros between two other regions
  side_between : (to at : ℕ) (p q out out1 out2 : List ℕ) → at ≡ to + length p → to + length (p ++ (zeros (label_size * tapes) ++ q)) ≤ length out
      → out1 ≡ splice to (p ++ (zeros (label_size * tapes) ++ q)) out → out2 ≡ side_over arcs tapes k at out1 → out2 ≡ splice to (p ++ (side_labels arcs tapes k ++ q)) out
  unfolding side_labels side_over
  side_between to at p q out out1 out2 e l e1 e2 = e2 ∙ ap (side_over arcs tapes k at) e1 ∙ go (eqb k no_arc) (λ f. eqb_differs k no_arc f)
    where
      z : List ℕ
      z = zeros (label_size * tapes)

      y : List ℕ
      y = part (labels_start (arc_size * k)) (label_size * tapes) arcs

      w : List ℕ
      w = splice to (p ++ (z ++ q)) out

      go : (b : Bool) → (b ≡ false → k ≡ no_arc → ⊥) → if b w (splice at y w) ≡ splice to (p ++ (if b z y ++ q)) out
      go true f = refl
      go false f =
          let r = h (f refl) in
          let ly : length y ≡ length z = length_part (labels_start (arc_size * k)) (label_size * tapes) arcs (omega (arith, r, t)) ∙ sym (length-replicate (label_size * tapes) 0) in
          ap (λ (j : ℕ). splice j y w) e ∙ splice-between to p y z q out ly l

module _ (a1 a2 : List ℕ) (n k : ℕ) (m : Move) (f : (m.first ≡ no_arc → ⊥) → arc_size * m.first + arc_size ≤ length a1)
    (g : (m.second ≡ no_arc → ⊥) → arc_size * m.second + arc_size ≤ length a2) (t : n + k ≤ 8) where
  -- the size of the labels of both sides and the zeros behind them
  length_labels : length (move_labels a1 a2 n k m) ≡ labels_size
  unfolding move_labels
  length_labels =
      let x = side_labels a1 n m.first in
      let y = side_labels a2 k m.second in
      let z = zeros (labels_size - label_size * n - label_size * k) in
      let lx = length_side a1 n m.first f (omega (arith, t)) in
      let ly = length_side a2 k m.second g (omega (arith, t)) in
      let lz : length z ≡ labels_size - label_size * n - label_size * k = length-replicate (labels_size - label_size * n - label_size * k) 0 in
      let p = length-append x (y ++ z) in
      let q = length-append y z in
      omega (arith, lx, ly, lz, p, q, t)

  -- those of both sides are written over zeros
  pub labels_stored : (to : ℕ) (out out1 out2 out3 : List ℕ) → to + labels_size ≤ length out → out1 ≡ splice to (zeros labels_size) out
      → out2 ≡ side_over a1 n m.first to out1 → out3 ≡ side_over a2 k m.second (to + label_size * n) out2
      → (out3 ≡ splice to (move_labels a1 a2 n k m) out) × (length (move_labels a1 a2 n k m) ≡ labels_size)
  unfolding move_labels
  labels_stored to out out1 out2 out3 h e1 e2 e3 =
      let x = side_labels a1 n m.first in
      let z = zeros (labels_size - label_size * n - label_size * k) in
      let s = zeros_split n k t in
      let ls : labels_size ≡ length (zeros (label_size * n) ++ (zeros (label_size * k) ++ z)) = ap length s in
      let ln : length (zeros (label_size * n)) ≡ label_size * n = length-replicate (label_size * n) 0 in
      let lx = length_side a1 n m.first f (omega (arith, t)) in
      let p = length-append (zeros (label_size * n)) (zeros (label_size * k) ++ z) in
      let q = length-append x (zeros (label_size * k) ++ z) in
      let e : out1 ≡ splice to (zeros (label_size * n) ++ (zeros (label_size * k) ++ z)) out = e1 ∙ ap (λ (j : List ℕ). splice to j out) s in
      let first = side_between a1 n m.first f (omega (arith, t)) to to [] (zeros (label_size * k) ++ z) out out1 out2 (omega arith) (omega (arith, ls, h)) e e2 in
      (side_between a2 k m.second g (omega (arith, t)) to (to + label_size * n) x z out out2 out3 (omega (arith, lx)) (omega (arith, ls, ln, lx, p, q, h)) first e3, length_labels)

-- ---- the record

-- the ends and the weight
pub front_stored : (m : Move) (weight to : ℕ) (out out1 out2 : List ℕ) → to + arc_size ≤ length out → out1 ≡ splice to (to_le 2 m.from.0 ++ to_le 2 m.to.0) out
    → out2 ≡ splice (to + content_place) (to_le 4 weight) out1 → out2 ≡ splice to (move_front m weight) out
unfolding move_front
front_stored m weight to out out1 out2 h a b =
    splice-behind to (to + content_place) (to_le 2 m.from.0 ++ to_le 2 m.to.0) (to_le 4 weight) out out1 out2 a b (omega arith) (omega arith)

-- the whole record
pub move_stored : (s1 a1 s2 a2 w : List ℕ) (n k : ℕ) (m : Move) (weight to : ℕ) (out out1 out2 : List ℕ) → to + arc_size ≤ length out → weight ≡ move_sum s1 a1 s2 a2 w m
    → out1 ≡ splice to (move_front m weight) out → out2 ≡ splice (labels_start to) (move_labels a1 a2 n k m) out1 → length (move_labels a1 a2 n k m) ≡ labels_size
    → (out2 ≡ splice to (move_record s1 a1 s2 a2 w n k m) out) × (length (move_record s1 a1 s2 a2 w n k m) ≡ arc_size)
unfolding move_record move_front
move_stored s1 a1 s2 a2 w n k m weight to out out1 out2 h e a b l =
    let f = move_front m weight in
    let lf : length f ≡ labels_place = refl in
    let x = move_labels a1 a2 n k m in
    let p : out2 ≡ splice to (f ++ x) out = splice-behind to (labels_start to) f x out out1 out2 a b (omega (arith, lf)) (omega (arith, lf, l)) in
    (p ∙ ap (λ (v : ℕ). splice to (move_front m v ++ x) out) e, length-append (move_front m (move_sum s1 a1 s2 a2 w m)) x ∙ (omega (arith, l)))

-- the size of the record of a move
pub length_record : (s1 a1 s2 a2 w : List ℕ) (n k : ℕ) (m : Move) → MoveFits s1 a1 s2 a2 w m → n + k ≤ 8 → length (move_record s1 a1 s2 a2 w n k m) ≡ arc_size
unfolding move_record move_front
length_record s1 a1 s2 a2 w n k m f t =
    let l = length_labels a1 a2 n k m f.first.arc_there f.second.arc_there t in
    length-append (move_front m (move_sum s1 a1 s2 a2 w m)) (move_labels a1 a2 n k m) ∙ (omega (arith, l))
