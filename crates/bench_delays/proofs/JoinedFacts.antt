-- Arcs that join states, one by one.
use Prim.Native.Nat.{ℕ, suc, ◌+◌, ◌<◌}
use mathlib.Core.Bool.{false}
use mathlib.Core.Path.{◌≡◌, subst}
use mathlib.Core.List.{List}
use Rattle.delays_relaxation.specs.declared.Edge.{Edge}
use Rattle.delays_relaxation.specs.Edges.{edge_at, edges, Joined}
use Rattle.automata.specs.Layout.{arc_size}

pub joined_end : (n at left : ℕ) (arcs : List ℕ) → left ≡ 0 → Joined n (edges false 0 0 at left arcs)
unfolding Joined edges
joined_end n at left arcs e = rw e tt

pub joined-one : (n at left rest : ℕ) (arcs : List ℕ) (e : Edge) → left ≡ suc rest → e ≡ edge_at false 0 0 at arcs → e.source < n → e.target < n
    → Joined n (edges false 0 0 (at + arc_size) rest arcs) → Joined n (edges false 0 0 at left arcs)
unfolding Joined edges
joined-one n at left rest arcs e s f h k j = rw s (subst (λ z. z.source < n) f h, subst (λ z. z.target < n) f k, j)
