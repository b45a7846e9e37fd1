-- The test on the region is the definition's.
use Prim.Native.Nat.{ℕ, zero, suc, ◌+◌, ◌*◌, ◌≤◌}
use mathlib.Core.Path.{◌≡◌, refl, sym, ap, ap₂, ◌∙◌}
use mathlib.Core.Bool.{Bool, true, false}
use mathlib.Core.Option.{some}
use mathlib.Core.List.{List, [], ◌∷◌}
use native.Mathlib.Omega.{arith}
use lib.Dec.{eqb}
use lib.ListN.{length, length-map, length-take, get_or, get_elem?, take}
use Rattle.table.specs.Region.{part}
use Rattle.table.specs.Endian.{le}
use Rattle.automata.specs.Lists.{if, and}
use Rattle.automata.specs.Leftover.{Leftover}
use Rattle.automata.specs.Memory.{Memory, table_of}
use Rattle.automata.specs.Closing.{missing, Closing, closing, closing_tables, can_close, can_close_all, viable}
use Rattle.automata.proofs.ReachingDelays.{held, held_at}
use Rattle.automata.specs.Layout.{delays_size, pair_delays, opposite_place, reaching_place}
use Rattle.delays_relaxation.proofs.VectorFacts.{vector_at}
use Rattle.table.specs.declared.pair.PairList.{PairList}
use Rattle.table.specs.Pairs.{pair_as, pairs_as}
use Rattle.delays.specs.ClosingRegion.{closable_at, closable_from, viable_at, Tests}

module _ (q : ℕ) (firsts seconds w : List ℕ) where
  closable_all : (at h left : ℕ) (cs : List Closing) (ls : List Leftover) → length cs ≡ left → length ls ≡ left
      → ((k : ℕ) (c : Closing) → get_elem? cs k ≡ some c → (le (part (at + pair_delays * k) 2 w) ≡ get_or c.least q missing) × (le (part (at + pair_delays * k + opposite_place) 2 w) ≡ get_or c.opposite q missing))
      → ((k : ℕ) (l : Leftover) → get_elem? ls k ≡ some l → (get_or firsts (h + k) 0 ≡ length l.first) × (get_or seconds (h + k) 0 ≡ length l.second))
      → closable_from at h left firsts seconds w ≡ can_close_all q cs ls
  unfolding closable_from
  closable_all at h zero [] ls e f g i = refl
  closable_all at h zero (c ∷ cs) ls e f g i = absurd (omega arith)
  closable_all at h (suc left) [] ls e f g i = absurd (omega arith)
  closable_all at h (suc left) (c ∷ cs) [] e f g i = absurd (omega arith)
  closable_all at h (suc left) (c ∷ cs) (l ∷ ls) e f g i =
      let p = g 0 c refl in
      let r = i 0 l refl in
      let a0 : at + pair_delays * 0 ≡ at = omega arith in
      let h0 : h + 0 ≡ h = omega arith in
      let p0 = rw a0 at p in
      let r0 = rw h0 at r in
      let head : closable_at at (get_or firsts h 0) (get_or seconds h 0) w ≡ can_close q c l = rw (p0.0, p0.1, r0.0, r0.1) in
      ap₂ (λ (x y : Bool). and x y) head
      (closable_all (at + pair_delays) (h + 1) left cs ls (omega arith) (omega arith)
      (λ k d z. let y : at + pair_delays * suc k ≡ at + pair_delays + pair_delays * k = omega arith in rw y at (g (suc k) d z))
      (λ k d z. let y : h + suc k ≡ h + 1 + k = omega arith in rw y at (i (suc k) d z)))

  pub tests : (base k : ℕ) (r : Bool) → r ≡ viable_at (base + delays_size * q) k firsts seconds w → Tests base q k firsts seconds w r
  unfolding viable
  tests base k r e T n c o b l f g s =
      let x : le (part (base + delays_size * q + reaching_place) 2 w) ≡ held (get_or T.reaching q false)
      = ap (λ (p : ℕ). le (part p 2 w)) (omega arith) ∙ sym (vector_at (base + reaching_place) n w q missing l) ∙ ap (λ (z : List ℕ). get_or z q missing) o.reaching ∙ held_at T.reaching q in
      let y : closable_from (base + delays_size * q) 0 k firsts seconds w ≡ can_close_all q T.closings c.leftovers
      = closable_all (base + delays_size * q) 0 k T.closings c.leftovers f s.count
      (λ h d z. (
        ap (λ (p : ℕ). le (part p 2 w)) (omega arith) ∙ sym (vector_at (base + pair_delays * h) n w q missing l) ∙ ap (λ (a : List ℕ). get_or a q missing) (o.least h d z),
        ap (λ (p : ℕ). le (part p 2 w)) (omega arith) ∙ sym (vector_at (base + pair_delays * h + opposite_place) n w q missing l) ∙ ap (λ (a : List ℕ). get_or a q missing) (o.opposite h d z),
      ))
      (λ h d z. (
        ap (λ (p : ℕ). get_or firsts p 0) (omega arith) ∙ s.first h d z,
        ap (λ (p : ℕ). get_or seconds p 0) (omega arith) ∙ s.second h d z,
      )) in
      e ∙ (rw (x, y, g) (go (get_or T.reaching q false) (can_close_all q T.closings c.leftovers)))
    where
      go : (a d : Bool) → if (eqb (held a) missing) false d ≡ and a d
      go true d = refl
      go false d = refl

-- ---- the two calls together

-- there are as many closing delays as pairs used
pub length_closings : (m : Memory) (ps : PairList) → ps.used ≤ length ps.pairs → length (closing_tables (table_of m) (pairs_as ps)).closings ≡ ps.used
unfolding closing_tables
length_closings m ps h =
    length-map (pairs_as ps) (closing (table_of m)) ∙ length-map (take ps.used ps.pairs) pair_as ∙ length-take ps.used ps.pairs ∙ omega arith
