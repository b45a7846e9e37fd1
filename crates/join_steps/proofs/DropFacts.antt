-- The second tapes as the mask marks them, and that they can be dropped.
use Prim.Native.Nat.{ℕ, zero, suc, ◌≤◌, ◌<◌}
use mathlib.Core.Path.{◌≡◌, refl, ap, ◌∙◌}
use mathlib.Core.Bool.{Bool, true, false, not}
use mathlib.Core.List.{List, [], ◌∷◌, map}
use native.Mathlib.Omega.{arith}
use lib.Dec.{T, eqb, ltb, lt→ltb}
use lib.ListN.{get_or, take}
use borrow.Author.Tests.{ne_eqb}
use Rattle.automata.specs.Lists.{or, any, all}
use Rattle.automata.specs.Tapes.{seconds, place_after}
use Rattle.automata.specs.TapePair as automata
use Rattle.automata.specs.Memory.{Memory}
use Rattle.automata.specs.Projection.{range, droppable}
use Rattle.automata.specs.Calls.Drop.{in_mask, mask_of}
use Rattle.automata.specs.Calls.Outcome.{Made, Slices}
use Rattle.automata.specs.Calls.JoinSteps.{drop_step}
use Rattle.automata.proofs.TestFacts.{T_and, T_true, T_or-left, T_or-right, ltb_false}
use Rattle.automata.proofs.MaskFacts.{mask_marked}
use Rattle.automata.proofs.SoundFacts.{sound_well_formed, sound_holds}
use Rattle.table.specs.declared.pair.Pair.{Pair}
use Rattle.table.specs.declared.pair.PairList.{PairList}
use Rattle.table.specs.Pairs.{pair_as, pairs_as, no_pair}
use Rattle.tapes_records.specs.Choice.{Droppable}
use Rattle.join_steps.specs.Steps.{SecondsDroppable}

-- no second tape stands beyond the tapes
none_beyond : (l : List Pair) (used tapes k : ℕ) → ((h : ℕ) → h < used → (get_or l h no_pair).second ≤ tapes) → tapes ≤ k
    → any (λ (p : automata.Pair). eqb p.second (suc k)) (automata.tapes_of (map pair_as (take used l))) ≡ false
none_beyond [] zero tapes k each h = refl
none_beyond [] (suc used) tapes k each h = refl
none_beyond (p ∷ l) zero tapes k each h = refl
none_beyond (p ∷ l) (suc used) tapes k each h =
    let s = each zero (omega arith) in
    rw (ne_eqb p.second (suc k) (λ q. omega (arith, s, q, h))) (none_beyond l used tapes k (λ i g. each (suc i) (omega arith)) h)

-- a test that holds of all numbers from k on
range_all : (p : ℕ → Bool) (k n : ℕ) → ((i : ℕ) → T (p i)) → T (all p (range k n))
range_all p k zero h = tt
range_all p k (suc n) h = T_and (p k) (all p (range (suc k) n)) (h k) (range_all p (suc k) n h)

-- places within the tapes, of which one is left
places_droppable : (d : ℕ → Bool) (tapes : ℕ) → ((k : ℕ) → tapes ≤ k → d k ≡ false) → 1 ≤ place_after d tapes → droppable d tapes ≡ true
places_droppable d tapes beyond left =
    T_true (droppable d tapes)
    (T_and (all (λ k. or (ltb k tapes) (not (d k))) (range zero 8)) (ltb zero (place_after d tapes))
    (range_all (λ k. or (ltb k tapes) (not (d k))) zero 8 (λ k. at k (ltb k tapes) refl)) (lt→ltb zero (place_after d tapes) left))
  where
    at : (k : ℕ) (b : Bool) → ltb k tapes ≡ b → T (or (ltb k tapes) (not (d k)))
    at k true e = T_or-left (ltb k tapes) (not (d k)) (rw e tt)
    at k false e = T_or-right (ltb k tapes) (not (d k)) (rw (beyond k (ltb_false e)) tt)

module _ (m : Memory) (pairs : PairList) (x : SecondsDroppable m pairs) (mask : ℕ) (e : mask ≡ mask_of (seconds (automata.tapes_of (pairs_as pairs)))) where
  beyond : (k : ℕ) → m.tapes ≤ k → seconds (automata.tapes_of (pairs_as pairs)) k ≡ false
  beyond k h = none_beyond pairs.pairs pairs.used m.tapes k (λ i g. (x.named.each i g).second_to) h

  -- what the mask marks
  marked : in_mask mask ≡ seconds (automata.tapes_of (pairs_as pairs))
  marked =
      let few = (sound_well_formed m x.sound).counts.tapes_fit in
      let same = (sound_holds m x.sound).tapes in
      ap in_mask e ∙ mask_marked (seconds (automata.tapes_of (pairs_as pairs))) (λ k h. beyond k (omega (arith, few, same, h)))

  -- they can be dropped
  pub seconds-droppable : Droppable m mask
  seconds-droppable = record {
    sound = x.sound;
    marks = ap (λ (d : ℕ → Bool). droppable d m.tapes) marked ∙ places_droppable (seconds (automata.tapes_of (pairs_as pairs))) m.tapes beyond x.left;
  }

  -- and they are what is dropped
  pub seconds_dropped : (s : Slices) (o : Made) → o ≡ drop_step m (in_mask mask) s → o ≡ drop_step m (seconds (automata.tapes_of (pairs_as pairs))) s
  seconds_dropped s o z = z ∙ ap (λ (d : ℕ → Bool). drop_step m d s) marked
