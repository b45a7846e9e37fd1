-- Arcs whose states have higher numbers.
use Prim.Native.Nat.{ℕ, suc, ◌+◌, ◌*◌, ◌≤◌, ◌<◌}
use mathlib.Core.Path.{◌≡◌, refl, sym, ap, ap₂, subst, ◌∙◌}
use mathlib.Core.List.{List, [], ◌∷◌, ◌++◌, map, append_assoc}
use native.Mathlib.Nat.{add-zero}
use native.Mathlib.Omega.{arith}
use lib.ListN.{length, drop, length-append, length-drop}
use lib.Seq.{take_all, drop-drop}
use Rattle.automata.specs.Lists.{All}
use Rattle.automata.specs.Records.{chunks, write_all}
use Rattle.automata.specs.Automaton.{Arc}
use Rattle.automata.specs.Table.{WellFormedArc}
use Rattle.automata.specs.Memory.{arc_record}
use Rattle.automata.specs.Union.{shifted}
use Rattle.automata.proofs.MemoryFacts.{arc_record_lawful, arc_record-width}
use Rattle.automata.specs.Layout.{arc_size, target_place, content_place, content_size}
use Rattle.table.specs.Region.{part, splice}
use Rattle.table.specs.Endian.{le, to_le}
use Rattle.table.specs.Arcs.{source_at, target_at}
use Rattle.table.proofs.RegionFacts.{length_part, part-part, part-splice_after, length_splice, drop_splice, splice_self, splice-behind}
use Rattle.table.proofs.EndianFacts.{length_to_le, le-to_le}
use Rattle.tapes_records.specs.Rewritten.{raised_arc}
use Rattle.tapes_records.specs.Results.{Raisable, AllRaisable}

-- ---- one arc
module _ (k at : ℕ) (arcs : List ℕ) where
  -- its source and its target
  source_in : source_at 0 (part at arc_size arcs) ≡ source_at at arcs
  source_in = ap le (part-part 0 2 at arc_size arcs (omega arith) ∙ ap (λ (i : ℕ). part i 2 arcs) (add-zero at))

  target_in : target_at 0 (part at arc_size arcs) ≡ target_at at arcs
  target_in = ap le (part-part target_place 2 at arc_size arcs (omega arith))

  -- they may be raised
  pub source_raisable : (s : ℕ) → s ≡ source_at at arcs → k + source_at 0 (part at arc_size arcs) < 65536 → k + s < 65536
  source_raisable s e r = omega (arith, e, source_in, r)

  pub target_raisable : (t : ℕ) → t ≡ target_at at arcs → k + target_at 0 (part at arc_size arcs) < 65536 → k + t < 65536
  target_raisable t e r = omega (arith, e, target_in, r)

  -- both are raised
  pub arc-raised : (s t : ℕ) (arcs2 : List ℕ) → at + arc_size ≤ length arcs → s ≡ source_at at arcs → t ≡ target_at at arcs
      → arcs2 ≡ splice at (to_le 2 (k + s) ++ to_le 2 (k + t)) arcs → arcs2 ≡ splice at (raised_arc k (part at arc_size arcs)) arcs
  unfolding raised_arc
  arc-raised s t arcs2 h d e w =
      let x = to_le 2 (k + s) in
      let y = to_le 2 (k + t) in
      let z = part (at + content_place) content_size arcs in
      let lz : length z ≡ content_size = length_part (at + content_place) content_size arcs (omega arith) in
      let lxy : length (x ++ y) ≡ content_place = length-append x y ∙ omega (arith, length_to_le 2 (k + s), length_to_le 2 (k + t)) in
      let r : part (at + content_place) content_size arcs2 ≡ z = ap (part (at + content_place) content_size) w ∙ part-splice_after (at + content_place) content_size at (x ++ y) arcs (omega (arith, lxy)) (omega (arith, lxy)) in
      let n : length arcs2 ≡ length arcs = ap length w ∙ length_splice at (x ++ y) arcs (omega (arith, lxy)) in
      let q : arcs2 ≡ splice (at + content_place) z arcs2 = sym (splice_self (at + content_place) content_size arcs2 (omega (arith, n, h))) ∙ ap (λ (u : List ℕ). splice (at + content_place) u arcs2) r in
      let p : part content_place content_size (part at arc_size arcs) ≡ z = part-part content_place content_size at arc_size arcs (omega arith) in
      splice-behind at (at + content_place) (x ++ y) z arcs arcs2 arcs2 w q (omega (arith, lxy)) (omega (arith, lxy, lz))
      ∙ ap (λ (u : List ℕ). splice at u arcs) (append_assoc x y z
      ∙ (λ i. to_le 2 (k + (d ∙ sym source_in) i) ++ (to_le 2 (k + (e ∙ sym target_in) i) ++ sym p i)))

-- it is as long as it was
pub length_raised_arc : (k : ℕ) (arc : List ℕ) → length arc ≡ arc_size → length (raised_arc k arc) ≡ arc_size
unfolding raised_arc
length_raised_arc k arc h =
    let a = to_le 2 (k + source_at 0 arc) in
    let b = to_le 2 (k + target_at 0 arc) in
    let c = part content_place content_size arc in
    length-append a (b ++ c)
    ∙ omega (arith, length-append b c, length_to_le 2 (k + source_at 0 arc), length_to_le 2 (k + target_at 0 arc), length_part content_place content_size arc (omega (arith, h)))

-- ---- arcs in a loop
module _ (k at left rest : ℕ) (out : List ℕ) where
  -- the first of several
  pub raisable_first : left ≡ suc rest → AllRaisable k left (drop at out) → Raisable k (part at arc_size out)
  unfolding AllRaisable part
  raisable_first e h = (subst (λ (n : ℕ). All (Raisable k) (chunks arc_size n (drop at out))) e h).0

  -- the others, once it is rewritten
  pub raisable_rest : (out2 : List ℕ) → left ≡ suc rest → at + arc_size * left ≤ length out → out2 ≡ splice at (raised_arc k (part at arc_size out)) out
      → AllRaisable k left (drop at out) → AllRaisable k rest (drop (at + arc_size) out2)
  unfolding AllRaisable
  raisable_rest out2 e h f r =
      let y = raised_arc k (part at arc_size out) in
      let n : length y ≡ arc_size = length_raised_arc k (part at arc_size out) (length_part at arc_size out (omega arith)) in
      let d : drop (at + arc_size) out2 ≡ drop arc_size (drop at out) = ap (drop (at + arc_size)) f ∙ drop_splice (at + arc_size) at y out (omega (arith, n)) (omega (arith, n)) ∙ sym (drop-drop arc_size at out) in
      subst (λ (x : List ℕ). All (Raisable k) (chunks arc_size rest x)) (sym d) (subst (λ (i : ℕ). All (Raisable k) (chunks arc_size i (drop at out))) e r).1

-- ---- arcs of a table

-- what stands behind the two numbers of a record
behind : (r : List ℕ) → length r ≡ arc_size → part content_place content_size r ≡ drop content_place r
unfolding part
behind r n = take_all content_size (drop content_place r) (omega (arith, n, length-drop content_place r))

module _ (tapes states : ℕ) (few : tapes ≤ 8) (small : states ≤ 1024) where
  -- the numbers in an arc's record
  source_written : (a : Arc ℕ) → WellFormedArc tapes states a → source_at 0 ((arc_record tapes states).write a) ≡ a.source
  unfolding part
  source_written a w = le-to_le 2 a.source (omega (arith, w.source))

  target_written : (a : Arc ℕ) → WellFormedArc tapes states a → target_at 0 ((arc_record tapes states).write a) ≡ a.target
  unfolding part
  target_written a w = le-to_le 2 a.target (omega (arith, w.target))

  -- raised, they are those of the arc whose states have higher numbers
  arc-shifted : (k : ℕ) (a : Arc ℕ) → WellFormedArc tapes states a → raised_arc k ((arc_record tapes states).write a) ≡ (arc_record tapes states).write (shifted k a)
  unfolding raised_arc
  arc-shifted k a w =
      let r = (arc_record tapes states).write a in
      let n : length r ≡ arc_size = (arc_record_lawful tapes states small).sized a w ∙ arc_record-width tapes states few in
      (λ i. to_le 2 (k + source_written a w i) ++ (to_le 2 (k + target_written a w i) ++ behind r n i))

  pub arcs_shifted : (k : ℕ) (xs : List (Arc ℕ)) → All (WellFormedArc tapes states) xs
      → write_all (raised_arc k) (map (arc_record tapes states).write xs) ≡ write_all (arc_record tapes states).write (map (shifted k) xs)
  arcs_shifted k [] w = refl
  arcs_shifted k (a ∷ xs) w = ap₂ (λ (x y : List ℕ). x ++ y) (arc-shifted k a w.0) (arcs_shifted k xs w.1)

  -- they may be raised
  pub arcs_raisable : (k : ℕ) → k ≤ 1024 → (xs : List (Arc ℕ)) → All (WellFormedArc tapes states) xs → All (Raisable k) (map (arc_record tapes states).write xs)
  arcs_raisable k h [] w = tt
  arcs_raisable k h (a ∷ xs) w = (
    (omega (arith, source_written a w.0, w.0.source), omega (arith, target_written a w.0, w.0.target)),
    arcs_raisable k h xs w.1,
  )
