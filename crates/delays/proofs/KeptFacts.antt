-- The region holds the closing tables whatever is written elsewhere.
use Prim.Native.Nat.{ℕ, ◌+◌, ◌*◌, ◌<◌, ◌≤◌}
use mathlib.Core.Path.{◌≡◌, sym, ap, ◌∙◌}
use mathlib.Core.List.{List}
use native.Mathlib.Omega.{arith}
use lib.ListN.{length}
use Rattle.table.specs.Region.{part}
use Rattle.table.specs.Endian.{le}
use Rattle.table.proofs.RegionFacts.{part-part}
use Rattle.automata.specs.Closing.{ClosingTables}
use Rattle.automata.proofs.ListFacts.{place_bound}
use Rattle.automata.specs.Layout.{delays_size, pair_delays, opposite_place, reaching_place}
use Rattle.delays_relaxation.specs.Vector.{vector}
use Rattle.delays_relaxation.proofs.VectorFacts.{vector_ext}
use Rattle.delays.specs.ClosingRegion.{HoldsClosing}

-- a vector of the region depends on no byte outside it
vector-part : (base n c : ℕ) (w v : List ℕ) → c + 2 ≤ delays_size → part base (delays_size * n) w ≡ part base (delays_size * n) v → vector (base + c) n w ≡ vector (base + c) n v
vector-part base n c w v h e = vector_ext (base + c) n (base + c) w v
    (λ q l. inside w q l ∙ ap (λ (z : List ℕ). le (part (c + delays_size * q) 2 z)) e ∙ sym (inside v q l))
  where
    inside : (z : List ℕ) (q : ℕ) → q < n → le (part (base + c + delays_size * q) 2 z) ≡ le (part (c + delays_size * q) 2 (part base (delays_size * n) z))
    inside z q l = ap (λ (k : ℕ). le (part k 2 z)) (omega arith) ∙ ap le (sym (part-part (c + delays_size * q) 2 base (delays_size * n) z (omega arith)))

-- so a region with the same bytes holds the same closing tables, of at most four pairs
pub holds_part : (T : ClosingTables) (base n : ℕ) (w v : List ℕ) → length T.closings ≤ 4 → part base (delays_size * n) w ≡ part base (delays_size * n) v → HoldsClosing T base n v → HoldsClosing T base n w
holds_part T base n w v k e o = record {
  reaching = vector-part base n reaching_place w v (omega arith) e ∙ o.reaching;
  least = λ h c q. let b = place_bound T.closings h q in vector-part base n (pair_delays * h) w v (omega (arith, b)) e ∙ o.least h c q;
  opposite = λ h c q.
      let b = place_bound T.closings h q in
      let f : base + pair_delays * h + opposite_place ≡ base + (pair_delays * h + opposite_place) = omega arith in
      ap (λ (p : ℕ). vector p n w) f ∙ vector-part base n (pair_delays * h + opposite_place) w v (omega (arith, b)) e ∙ ap (λ (p : ℕ). vector p n v) (sym f) ∙ o.opposite h c q;
}
