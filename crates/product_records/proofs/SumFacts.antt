-- The sums of a product, over plain lists.
use mathlib.Core.Path.{◌≡◌, ap, ◌∙◌}
use mathlib.Core.List.{List}
use Prim.Native.Nat.{ℕ, ◌+◌, ◌*◌, ◌≤◌}
use native.Mathlib.Omega.{arith}
use Rattle.automata.proofs.TestFacts.{eqb_false}
use Rattle.automata.specs.Layout.{state_size, vertex_size}
use Rattle.table.specs.Arcs.{arc_weight}
use Rattle.table.specs.Records.{state_at}
use Rattle.table.specs.Records.{Weight}
use Rattle.table.specs.declared.record.State.{State}
use Rattle.product_search.specs.declared.vertex.Vertex.{Vertex}
use Rattle.product_search.specs.declared.vertex.Move.{Move}
use Rattle.product_search.specs.Vertices.{ended, vertex_at}
use Rattle.product_search.specs.Moves.{no_arc}
use Rattle.product_records.specs.Sums.{ended_state, place_state, plus, vertex_sum, amount, side_sum, move_sum, SideFits}

-- ---- places

-- a place that has ended
pub place-ended : (states : List ℕ) (k : ℕ) → k ≡ ended → ended_state ≡ place_state states k
unfolding place_state
place-ended states k e = rw e

-- one that has not
pub place_loaded : (states : List ℕ) (k : ℕ) (s : State) → (k ≡ ended → ⊥) → s ≡ state_at (state_size * k) states → s ≡ place_state states k
unfolding place_state
place_loaded states k s h e = e ∙ (rw (eqb_false k ended h))

-- the state of the product by its two weights
pub vertex_summed : (s1 s2 : List ℕ) (v : Vertex) (a b : State) (i l : Weight) → a ≡ place_state s1 v.first.0 → b ≡ place_state s2 v.second.0
    → i ≡ plus a.initial b.initial → l ≡ plus a.last b.last → ◌≡◌ {A = State} (record { initial = i; last = l }) (vertex_sum s1 s2 v)
unfolding vertex_sum
vertex_summed s1 s2 v a b i l e f g h = rw (g, h, e, f)

-- ---- sides

-- what a side adds by the final weight of a place, and by its arc
side_last : (states arcs : List ℕ) (k place : ℕ) → k ≡ no_arc → amount (place_state states place).last ≡ side_sum states arcs k place
unfolding side_sum
side_last states arcs k place e = rw e

side_weighed : (states arcs : List ℕ) (k place : ℕ) → (k ≡ no_arc → ⊥) → arc_weight arcs k ≡ side_sum states arcs k place
unfolding side_sum
side_weighed states arcs k place e = rw (eqb_false k no_arc e)

-- the final weight of a place
pub side_ended : (states arcs : List ℕ) (k place r : ℕ) (s : State) → SideFits states arcs k place → k ≡ no_arc → s ≡ place_state states place → r ≡ amount s.last
    → (r ≡ side_sum states arcs k place) × (r ≤ 999999999)
side_ended states arcs k place r s f e g h =
    let n : r ≡ side_sum states arcs k place = h ∙ ap (λ (x : State). amount x.last) g ∙ side_last states arcs k place e in
    (n, omega (arith, n, f.small))

-- the weight of an arc
pub side_arc : (states arcs : List ℕ) (k place r : ℕ) → SideFits states arcs k place → (k ≡ no_arc → ⊥) → r ≡ arc_weight arcs k
    → (r ≡ side_sum states arcs k place) × (r ≤ 999999999)
side_arc states arcs k place r f e g =
    let n : r ≡ side_sum states arcs k place = g ∙ side_weighed states arcs k place e in
    (n, omega (arith, n, f.small))

-- both sides of a move
pub move_summed : (s1 a1 s2 a2 w : List ℕ) (m : Move) (v : Vertex) (x y : ℕ) → v ≡ vertex_at (vertex_size * m.from.0) w
    → x ≡ side_sum s1 a1 m.first v.first.0 → y ≡ side_sum s2 a2 m.second v.second.0 → x + y ≡ move_sum s1 a1 s2 a2 w m
unfolding move_sum
move_summed s1 a1 s2 a2 w m v x y e g h = rw (g, h, e)
