-- One turn of each loop over the work space, and its end.
use Prim.Native.Nat.{ℕ, zero, suc, ◌+◌, ◌-◌, ◌*◌, ◌<◌, ◌≤◌}
use mathlib.Core.Path.{◌≡◌, refl, sym, ap, ap₂, ◌∙◌}
use mathlib.Core.Logic.{◌≢◌}
use mathlib.Core.Bool.{Bool, true, false, false≢true}
use mathlib.Core.List.{List}
use native.Mathlib.Omega.{arith}
use mathlib.Core.Option.{some}
use lib.ListN.{get_or, get_elem?}
use Rattle.table.specs.Region.{part, splice}
use Rattle.table.specs.Endian.{le, to_le}
use borrow.Author.Tests.{eq-eqb}
use Rattle.automata.specs.Lists.{and}
use Rattle.automata.proofs.TestFacts.{eqb_false}
use Rattle.automata.specs.InPlace.{Becomes}
use Rattle.automata.specs.Layout.{arc_size, delays_size, state_size}
use Rattle.delays_relaxation.specs.declared.Edge.{Edge}
use Rattle.delays_relaxation.specs.Edges.{edge_at, edges, Joined, through_edge, improve, visited, swept, start_of, flag_place, started}
use Rattle.delays_relaxation.specs.Lowered.{next, Run}

-- the work space after one edge, from what each call gave: the delay of its source stays, ...
module _ (diverging : Bool) (at : ℕ) (e : Edge) (w : List ℕ) (v t x r : ℕ) (a : v ≡ le (part (at + delays_size * e.target) 2 w)) (b : t ≡ through_edge e.up e.down v)
    (c : x ≡ le (part (at + delays_size * e.source) 2 w)) (d : r ≡ improve diverging x t) where
  improved_is : r ≡ improve diverging (le (part (at + delays_size * e.source) 2 w)) (through_edge e.up e.down (le (part (at + delays_size * e.target) 2 w)))
  improved_is = d ∙ ap₂ (λ (y u : ℕ). improve diverging y u) c (b ∙ ap (through_edge e.up e.down) a)

  pub visit_kept : r ≡ x → Becomes (visited diverging at e w) true w w
  unfolding visited
  visit_kept h = record { is = rw (← improved_is, ← c, eq-eqb r x h); still = λ z. refl }

  -- ... or is improved
  pub visit_stored : (w2 : List ℕ) → r ≢ x → w2 ≡ splice (at + delays_size * e.source) (to_le 2 r) w → Becomes (visited diverging at e w) false w2 w
  unfolding visited
  visit_stored w2 h g = record {
    is = rw (← improved_is, ← c, eqb_false r x h) g;
    still = λ z. absurd (false≢true z);
  }

-- ---- arcs

-- one of the first edges
pub joined_at : (n : ℕ) (reversed : Bool) (first second at count k from : ℕ) (arcs : List ℕ) (e : Edge) → Joined n (edges reversed first second at count arcs) → k < count → from ≡ at + arc_size * k
    → e ≡ edge_at reversed first second from arcs → (e.source < n) × (e.target < n)
unfolding Joined edges
joined_at n reversed first second at zero k from arcs e j l f g = absurd (omega arith)
joined_at n reversed first second at (suc count) zero from arcs e j l f g = let z : from ≡ at = omega arith in rw (g, z) (j.0, j.1)
joined_at n reversed first second at (suc count) (suc k) from arcs e j l f g = joined_at n reversed first second (at + arc_size) count k from arcs e j.2 (omega arith) (omega arith) g

-- its place among all
pub edges-place : (reversed : Bool) (first second at count k from : ℕ) (arcs : List ℕ) (e : Edge) → k < count → from ≡ at + arc_size * k → e ≡ edge_at reversed first second from arcs
    → get_elem? (edges reversed first second at count arcs) k ≡ some e
unfolding edges
edges-place reversed first second at zero k from arcs e l f g = absurd (omega arith)
edges-place reversed first second at (suc count) zero from arcs e l f g = let z : from ≡ at = omega arith in rw (g, z)
edges-place reversed first second at (suc count) (suc k) from arcs e l f g = edges-place reversed first second (at + arc_size) count k from arcs e (omega arith) (omega arith) g

-- a run goes on by it
pub run_turn : (reversed : Bool) (first second count q p up down k from : ℕ) (arcs : List ℕ) (e : Edge) → k < count → from ≡ arc_size * k → e ≡ edge_at reversed first second from arcs → e.source ≡ p
    → Run (edges reversed first second 0 count arcs) q p up down → Run (edges reversed first second 0 count arcs) q e.target (up + e.up) (down + e.down)
run_turn reversed first second count q p up down k from arcs e l f g h r = next k e (edges-place reversed first second 0 count k from arcs e l (omega arith) g) h r

-- a round that has left edges before it: those behind are done, and nothing changed where same is told
pub record Sweeping (diverging : Bool) (at : ℕ) (reversed : Bool) (first second count : ℕ) (arcs v w : List ℕ) (left : ℕ) (same : Bool) : Type 0 where
  pub is : w ≡ swept diverging at (edges reversed first second (arc_size * left) (count - left) arcs) v
  pub still : same ≡ true → w ≡ v

pub sweep-start : (diverging : Bool) (at : ℕ) (reversed : Bool) (first second count : ℕ) (arcs v : List ℕ)
    → Sweeping diverging at reversed first second count arcs v v count true
unfolding swept edges
sweep-start diverging at reversed first second count arcs v = let z : count - count ≡ 0 = omega arith in record { is = rw z; still = λ h. refl }

module _ (diverging : Bool) (at : ℕ) (reversed : Bool) (first second count : ℕ) (arcs v w : List ℕ) (left : ℕ) (same : Bool)
    (s : Sweeping diverging at reversed first second count arcs v w left same) where
  -- one edge more
  pub sweep_turn : (w2 : List ℕ) (left2 : ℕ) (kept same2 : Bool) (e : Edge) → left ≡ suc left2 → left ≤ count → e ≡ edge_at reversed first second (arc_size * left2) arcs
      → Becomes (visited diverging at e w) kept w2 w → same2 ≡ and same kept → Sweeping diverging at reversed first second count arcs v w2 left2 same2
  unfolding swept edges
  sweep_turn w2 left2 kept same2 e l m g b h =
      let z : count - left2 ≡ suc (count - left) = omega arith in
      let y : arc_size * left2 + arc_size ≡ arc_size * left = omega arith in
      record {
        is = b.is ∙ (rw (z, y, ← g) (ap (visited diverging at e) s.is));
        still = λ t. told same kept (sym h ∙ t) s.still b.still;
      }
    where
      told : (x y : Bool) → and x y ≡ true → (x ≡ true → w ≡ v) → (y ≡ true → w2 ≡ w) → w2 ≡ v
      told true y t f g = g t ∙ f refl
      told false y t f g = absurd (false≢true t)

  -- no edge more
  pub sweep_end : left ≡ 0 → Becomes (swept diverging at (edges reversed first second 0 count arcs) v) same w v
  sweep_end l =
      let z : count - left ≡ count = omega arith in
      let y : arc_size * left ≡ 0 = omega arith in
      record { is = rw (z, y) at s.is; still = s.still }

-- ---- the delays that the states start with

pub started_turn : (reversed : Bool) (at from left rest : ℕ) (bytes w w2 : List ℕ) (flag v : ℕ) → left ≡ suc rest → flag ≡ flag_place reversed
    → v ≡ start_of (get_or bytes (from + flag) 0) → w2 ≡ splice at (to_le 2 v) w → started reversed (at + delays_size) (from + state_size) rest bytes w2 ≡ started reversed at from left bytes w
unfolding started
started_turn reversed at from left rest bytes w w2 flag v s p f g = rw (s, g, f, p)

pub started_end : (reversed : Bool) (at from left : ℕ) (bytes w : List ℕ) → left ≡ 0 → w ≡ started reversed at from left bytes w
unfolding started
started_end reversed at from left bytes w s = rw s
