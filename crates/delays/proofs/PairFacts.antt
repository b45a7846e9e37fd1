-- The closing delays of several pairs, and the test that reads them.
use Prim.Native.Nat.{ℕ, zero, suc, ◌+◌, ◌-◌, ◌*◌, ◌<◌, ◌≤◌}
use mathlib.Core.Path.{◌≡◌, refl, ◌∙◌}
use mathlib.Core.Logic.{◌≢◌, inr}
use mathlib.Core.Bool.{Bool, true, false}
use mathlib.Core.List.{List}
use native.Mathlib.Omega.{arith}
use native.Mathlib.Decide.{ℕ_discrete}
use lib.ListN.{get_or}
use Rattle.table.specs.Region.{part}
use Rattle.table.specs.Endian.{le}
use Rattle.automata.proofs.TestFacts.{eqb_false}
use Rattle.automata.specs.Layout.{pair_delays, opposite_place, reaching_place}
use Rattle.table.specs.declared.pair.Pair.{Pair}
use Rattle.delays_relaxation.specs.Vector.{vector, Room, Frame}
use Rattle.delays_relaxation.specs.Edges.{edges}
use Rattle.delays_relaxation.specs.Lowered.{FillsLeast}
use Rattle.table.specs.Pairs.{no_pair}
use Rattle.delays.specs.ClosingRegion.{PairClosed, ClosesPair, ClosesPairs, closable_at, closable_from, viable_at}
use Rattle.delays_relaxation.proofs.SweepFacts.{frame_vector, outside_in}

-- the bytes of a pair are all that a pair changes
pub pair_frame : (reversed : Bool) (bytes : List ℕ) (n : ℕ) (arcs : List ℕ) (count : ℕ) (p : Pair) (at : ℕ) (w v : List ℕ) → ClosesPair reversed bytes n arcs count p at w v → Frame at pair_delays n w v
pair_frame reversed bytes n arcs count p at w v c = record {
  same_length = c.same_length;
  same = λ i o. c.same i (outside_in at 2 at pair_delays n i (omega arith) (omega arith) (omega arith) o, outside_in (at + opposite_place) 2 at pair_delays n i (omega arith) (omega arith) (omega arith) o);
}

-- one pair
pub closes_pair : (reversed : Bool) (bytes : List ℕ) (n : ℕ) (arcs : List ℕ) (count : ℕ) (p : Pair) (at : ℕ) (v u w : List ℕ) → Room at pair_delays n u
    → FillsLeast reversed (edges reversed (p.first - 1) (p.second - 1) 0 count arcs) at n bytes u v
    → FillsLeast reversed (edges reversed (p.second - 1) (p.first - 1) 0 count arcs) (at + opposite_place) n bytes w u → ClosesPair reversed bytes n arcs count p at w v
closes_pair reversed bytes n arcs count p at v u w l a b = record {
  closed = record {
    least = rw (frame_vector at (at + opposite_place) 2 n w u b.frame (omega arith) (inr (omega arith, omega arith))) a.least;
    opposite = b.least;
  };
  same_length = b.frame.same_length ∙ a.frame.same_length;
  same = λ i o. b.frame.same i o.1 ∙ a.frame.same i o.0;
}

-- one pair more
pub pairs_turn : (bytes : List ℕ) (n : ℕ) (arcs : List ℕ) (count : ℕ) (ps : List Pair) (p : Pair) (base h : ℕ) (v u w : List ℕ) → h < 4 → Room base reaching_place n u
    → ClosesPairs bytes n arcs count ps h base u v → p ≡ get_or ps h no_pair → ClosesPair false bytes n arcs count p (base + pair_delays * h) w u
    → ClosesPairs bytes n arcs count ps (h + 1) base w v
pairs_turn bytes n arcs count ps p base h v u w b l f e c = record {
  closed = λ k s. go k s (ℕ_discrete k h);
  same_length = c.same_length ∙ f.same_length;
  same = λ i o. c.same i (o h (omega arith)) ∙ f.same i (λ k s. o k (omega arith));
}
  where
    -- a vector of an earlier pair
    kept : (k o : ℕ) → k < h → o ≤ 6 → vector (base + pair_delays * k + o) n w ≡ vector (base + pair_delays * k + o) n u
    kept k o r i =
        frame_vector (base + pair_delays * k + o) (base + pair_delays * h) pair_delays n w u (pair_frame false bytes n arcs count p (base + pair_delays * h) w u c) (omega arith) (inr (omega arith, omega arith))

    go : (k : ℕ) → k < h + 1 → Dec (k ≡ h) → PairClosed false bytes n arcs count (get_or ps k no_pair) (base + pair_delays * k) w
    go k s (yes q) = rw (q, ← e) c.closed
    go k s (no q) =
        let r : k < h = omega arith in
        let o = f.closed k r in
        let z : base + pair_delays * k + 0 ≡ base + pair_delays * k = omega arith in
        let l : vector (base + pair_delays * k) n w ≡ vector (base + pair_delays * k) n u = rw z at (kept k 0 r (omega arith)) in
        record { least = rw l o.least; opposite = rw (kept k opposite_place r (omega arith)) o.opposite }

-- no pair yet
pub pairs_start : (bytes : List ℕ) (n : ℕ) (arcs : List ℕ) (count : ℕ) (ps : List Pair) (base : ℕ) (v : List ℕ) → ClosesPairs bytes n arcs count ps 0 base v v
pairs_start bytes n arcs count ps base v = record { closed = λ k s. absurd (omega arith); same_length = refl; same = λ i o. refl }

-- ---- the test

module _ (at h : ℕ) (firsts seconds w : List ℕ) (b : Bool) (e : b ≡ closable_at at (get_or firsts h 0) (get_or seconds h 0) w) where
  pub closable_stop : (left : ℕ) → 0 < left → b ≡ false → false ≡ closable_from at h left firsts seconds w
  unfolding closable_from
  closable_stop zero l f = absurd (omega arith)
  closable_stop (suc left) l f = rw (← e, f)

  pub closable_turn : (left rest at2 : ℕ) → left ≡ suc rest → at2 ≡ at + pair_delays → b ≡ true → closable_from at2 (h + 1) rest firsts seconds w ≡ closable_from at h left firsts seconds w
  unfolding closable_from
  closable_turn left rest at2 s a f = rw (s, a, ← e, f)

pub closable_end : (at h left : ℕ) (firsts seconds w : List ℕ) → left ≡ 0 → true ≡ closable_from at h left firsts seconds w
unfolding closable_from
closable_end at h left firsts seconds w s = rw s

pub viable_then : (at used : ℕ) (firsts seconds w : List ℕ) (v : ℕ) (r : Bool) → v ≡ le (part (at + reaching_place) 2 w) → v ≢ 65535 → r ≡ closable_from at 0 used firsts seconds w
    → r ≡ viable_at at used firsts seconds w
viable_then at used firsts seconds w v r e f g = rw (← e, eqb_false v 65535 f) g
