-- Dropping the tapes of a set is choosing those that it leaves.
use Prim.Native.Nat.{ℕ, zero, suc, ◌+◌, ◌-◌, ◌≤◌, ◌<◌, ◌^◌}
use mathlib.Core.Path.{◌≡◌, refl, sym, ap, ap₂, ◌∙◌}
use mathlib.Core.Bool.{Bool, true, false}
use mathlib.Core.List.{List, [], ◌∷◌, ◌++◌, map}
use native.Mathlib.Nat.{zero-add, add-zero, add-suc, suc-add}
use native.Mathlib.Numerals.{add-one}
use native.Mathlib.Omega.{arith}
use lib.Dec.{ltb}
use lib.Count.{ones}
use lib.ListN.{length, get_or, take, drop, length-map, length-append}
use lib.Seq.{take_at, drop-drop, get_or-take, get_or-drop}
use Rattle.automata.specs.Lists.{if, All}
use Rattle.automata.specs.Answer.{◌>>=◌, Answer, ok}
use Rattle.automata.specs.Automaton.{Arc, Automaton, Tuple}
use Rattle.automata.specs.Table.{WellFormed, WellFormedArc}
use Rattle.automata.specs.Memory.{Memory, table_of}
use Rattle.automata.specs.Tapes.{drop_at, place_after, chosen, empty_tuple}
use Rattle.automata.specs.Projection.{droppable, relabelled_arc, projected, without}
use Rattle.automata.specs.Calls.Drop.{in_mask}
use Rattle.automata.specs.Calls.Outcome.{put, made_of, slices_of}
use Rattle.automata.specs.Calls.JoinSteps.{drop_step}
use Rattle.automata.proofs.RecordFacts.{All_at}
use Rattle.automata.proofs.TestFacts.{and_true, ltb_true}
use Rattle.automata.proofs.TapeFacts.{length_drop_at, length_blank}
use Rattle.automata.proofs.MaskFacts.{mask_left, droppable_mask}
use Rattle.automata.proofs.SoundFacts.{sound_decoded, sound_well_formed, sound_holds}
use Rattle.table.specs.Region.{splice}
use Rattle.table.proofs.RegionFacts.{splice_front}
use Rattle.table.proofs.SoundFacts.{few_tapes}
use Rattle.tapes_records.specs.Choice.{Choice, tapes_left, Droppable}
use Rattle.tapes_records.specs.Rewritten.{rewritten, chosen_arc}
use Rattle.tapes_records.proofs.ChoiceFacts.{left_few}
use Rattle.tapes.proofs.TapesFacts.{Named, chosen_in_place}

-- ---- strings

-- what is left at the places from k on
left-chosen : (d : ℕ → Bool) (k : ℕ) (t u : Tuple) → drop k t ≡ u → drop_at (λ i. d (k + i)) u ≡ chosen (tapes_left d k (length u)) t
left-chosen d k t [] e = refl
left-chosen d k t (x ∷ u) e = go (d k) (ap d (add-zero k)) (λ r. left-chosen d (suc k) t u r)
  where
    rest : drop (suc k) t ≡ u
    rest = sym (drop-drop 1 k t ∙ ap (λ (n : ℕ). drop n t) (add-one k)) ∙ ap (drop 1) e

    first : get_or t k [] ≡ x
    first = ap (λ (n : ℕ). get_or t n []) (sym (add-zero k)) ∙ sym (get_or-drop k t 0 []) ∙ ap (λ (v : Tuple). get_or v 0 []) e

    others : (drop (suc k) t ≡ u → drop_at (λ i. d (suc k + i)) u ≡ chosen (tapes_left d (suc k) (length u)) t)
        → drop_at (λ i. d (k + suc i)) u ≡ chosen (tapes_left d (suc k) (length u)) t
    others ih = ap (λ (f : ℕ → Bool). drop_at f u) (λ i n. d ((add-suc k n ∙ sym (suc-add k n)) i)) ∙ ih rest

    go : (b : Bool) → d (k + 0) ≡ b → (drop (suc k) t ≡ u → drop_at (λ i. d (suc k + i)) u ≡ chosen (tapes_left d (suc k) (length u)) t)
        → if (d (k + 0)) (drop_at (λ i. d (k + suc i)) u) (x ∷ drop_at (λ i. d (k + suc i)) u)
        ≡ chosen (if b (tapes_left d (suc k) (length u)) (suc k ∷ tapes_left d (suc k) (length u))) t
    go true f ih = rw f (others ih)
    go false f ih = rw f (ap₂ (λ (s : List ℕ) (v : Tuple). s ∷ v) (sym first ∙ ap (λ (n : ℕ). get_or t n []) (omega arith)) (others ih))

-- what is left of a tuple
pub drop_chosen : (d : ℕ → Bool) (t : Tuple) → drop_at d t ≡ chosen (tapes_left d 0 (length t)) t
drop_chosen d t = ap (λ (f : ℕ → Bool). drop_at f t) (λ i n. d (sym (zero-add n) i)) ∙ left-chosen d 0 t t refl

-- as many tapes are left
pub length_left : (d : ℕ → Bool) (n : ℕ) → length (tapes_left d 0 n) ≡ place_after d n
length_left d n =
    let t = empty_tuple n in
    ap (λ (k : ℕ). length (tapes_left d 0 k)) (sym (length_blank n)) ∙ sym (length-map (tapes_left d 0 (length t)) (λ j. get_or t (j - 1) [])) ∙ ap length (sym (drop_chosen d t))
    ∙ length_drop_at d t ∙ ap (place_after d) (length_blank n)

-- each is one of the tapes
pub left-named : (d : ℕ → Bool) (k n top : ℕ) → k + n ≤ top → Named top (tapes_left d k n)
left-named d k zero top h = tt
left-named d k (suc n) top h = go (d k) (left-named d (suc k) n top (omega arith))
  where
    go : (b : Bool) → Named top (tapes_left d (suc k) n) → Named top (if b (tapes_left d (suc k) n) (suc k ∷ tapes_left d (suc k) n))
    go true r = r
    go false r = ((omega arith, omega arith), r)

-- ---- an automaton

-- the arcs without the tapes of the set
arcs_left : (d : ℕ → Bool) (tapes states : ℕ) (xs : List (Arc ℕ)) → All (WellFormedArc tapes states) xs
    → map (relabelled_arc (drop_at d)) xs ≡ map (relabelled_arc (chosen (tapes_left d 0 tapes))) xs
arcs_left d tapes states [] w = refl
arcs_left d tapes states (a ∷ xs) w =
    ap₂ (λ (ls : Tuple) (ys : List (Arc ℕ)). record { source = a.source; target = a.target; weight = a.weight; labels = ls } ∷ ys)
    (drop_chosen d a.labels ∙ ap (λ (n : ℕ). chosen (tapes_left d 0 n) a.labels) w.0.width) (arcs_left d tapes states xs w.1)

-- dropping is choosing
pub without-chosen : (d : ℕ → Bool) (T : Automaton ℕ) → WellFormed T → without d T ≡ projected (tapes_left d 0 T.tapes) T
without-chosen d T w = λ i. record {
  tapes = sym (length_left d T.tapes) i;
  states = T.states;
  arcs = arcs_left d T.tapes (length T.states) T.arcs w.arcs i;
}

-- ---- a table in memory

-- the tapes that were written as a list are a choice
pub left_choice : (d : ℕ → Bool) (n : ℕ) (kept old : List ℕ) (used : ℕ) → n ≤ 8 → length old ≡ 8 → kept ≡ splice 0 (tapes_left d 0 n) old → used ≡ length (tapes_left d 0 n)
    → Choice kept used × (take used kept ≡ tapes_left d 0 n)
left_choice d n kept old used few l e f =
    let js = tapes_left d 0 n in
    let g : kept ≡ js ++ drop (length js) old = e ∙ splice_front js old in
    let t : take used kept ≡ js = ap₂ (λ (k : ℕ) (x : List ℕ). take k x) f g ∙ take_at js (drop (length js) old) (length js) refl in
    let b = left_few d 0 n in (
      record {
        lent = omega (arith, f, ap length g, length-append js (drop (length js) old));
        few = omega (arith, f, b);
        each = λ k h.
            let v = All_at (λ j. (1 ≤ j) × (j ≤ n)) js 0 k (left-named d 0 n n (omega arith)) (omega (arith, f)) in
            let q : get_or kept k 0 ≡ get_or js k 0 = sym (get_or-take used kept k 0 h) ∙ ap (λ (x : List ℕ). get_or x k 0) t in
            (omega (arith, v.0, q), omega (arith, v.1, q, few));
      },
      t,
    )

-- the mask of a set that may be dropped: as many ones as tapes less those left
pub marks_left : (n mask : ℕ) → n ≤ 8 → mask < 256 → droppable (in_mask mask) n ≡ true → (ones mask < n) × (length (tapes_left (in_mask mask) 0 n) ≡ n - ones mask)
marks_left n mask few byte e =
    let s = and_true (ltb mask (2 ^ n)) (ltb (ones mask) n) (sym (droppable_mask n mask few byte) ∙ e) in
    let l = mask_left n mask (ltb_true s.0) in
    let o = ltb_true s.1 in
    (o, length_left (in_mask mask) n ∙ omega (arith, l))

-- a table whose marked tapes may be dropped has more tapes than marks
pub fewer_marks : (m : Memory) (mask : ℕ) → Droppable m mask → mask < 256 → (ones mask < m.tapes) × (m.tapes ≤ 8)
fewer_marks m mask d byte = ((marks_left m.tapes mask (few_tapes m d.sound) byte d.marks).0, few_tapes m d.sound)

-- the step of a join
pub dropped_in_place : (m : Memory) (mask left : ℕ) (kept arcs2 : List ℕ) → Droppable m mask → mask < 256 → kept ≡ tapes_left (in_mask mask) 0 m.tapes
    → left ≡ m.tapes - ones mask
    → arcs2 ≡ splice 0 (rewritten (chosen_arc kept) m.arcs m.arc_bytes) m.arc_bytes
    → made_of (ok (record { tapes = left; states = m.states; arcs = m.arcs })) m.state_bytes arcs2
    ≡ drop_step m (in_mask mask) (slices_of m.state_bytes m.arc_bytes)
unfolding drop_step
dropped_in_place m mask left kept arcs2 d byte e f g =
    let T = table_of m in
    let s = d.sound in
    let w = sound_well_formed m s in
    let h = sound_holds m s in
    let js = tapes_left (in_mask mask) 0 m.tapes in
    let r = marks_left m.tapes mask (few_tapes m s) byte d.marks in
    let q : left ≡ length js = f ∙ sym r.1 in
    let slices = slices_of m.state_bytes m.arc_bytes in
    let b = left_few (in_mask mask) 0 m.tapes in
    ap (λ (k : ℕ). made_of (ok (record { tapes = k; states = m.states; arcs = m.arcs })) m.state_bytes arcs2) q
    ∙ chosen_in_place m T w h js (omega (arith, b, few_tapes m s)) (left-named (in_mask mask) 0 m.tapes m.tapes (omega arith)) arcs2
    (g ∙ ap (λ (x : List ℕ). splice 0 (rewritten (chosen_arc x) m.arcs m.arc_bytes) m.arc_bytes) e)
    ∙ ap (λ (n : ℕ). put (ok (projected (tapes_left (in_mask mask) 0 n) T)) slices) h.tapes
    ∙ ap (λ (A : Automaton ℕ). put (ok A) slices) (sym (without-chosen (in_mask mask) T w))
    ∙ ap (λ (a : Answer (Automaton ℕ)). put (a >>= λ K. ok (without (in_mask mask) K)) slices) (sym (sound_decoded m s))
