-- The greatest size of an arc's delay on successful paths.
use Prim.Native.Nat.{ℕ, suc, ◌+◌, ◌<◌, max}
use mathlib.Core.Path.{◌≡◌, refl, ap, ap₂, ◌∙◌}
use mathlib.Core.Bool.{Bool, true, false}
use mathlib.Core.List.{List, ◌∷◌}
use native.Mathlib.Omega.{arith}
use Rattle.automata.specs.Lists.{and}
use Rattle.automata.specs.Layout.{arc_size}
use Rattle.delays_relaxation.specs.declared.Edge.{Edge}
use Rattle.delays_relaxation.specs.Edges.{edge_at, edges}
use Rattle.forecast_counts.specs.Counts.{marks_from, delay_size, arc_on_path, raised, greatest_of}
use Rattle.forecast_counts.proofs.PathFacts.{mark_of}

-- ---- all arcs

-- an edge taken before the others, or after them
raised_swap : (on : Bool) (size best rest : ℕ) → max (raised on size best) rest ≡ max best (raised on size rest)
raised_swap true size best rest = omega arith
raised_swap false size best rest = refl

-- the first of the edges
edges-first : (first second from left rest : ℕ) (arcs : List ℕ) (e : Edge) → left ≡ suc rest → e ≡ edge_at false first second from arcs
    → edges false first second from left arcs ≡ e ∷ edges false first second (from + arc_size) rest arcs
unfolding edges
edges-first first second from left rest arcs e l f = rw (l, f)

-- the first of the edges, by the marks in the work space
greatest_first : (n : ℕ) (w : List ℕ) (e : Edge) (es : List Edge) → e.source < n → e.target < n
    → greatest_of (marks_from 0 n w) (e ∷ es) ≡ raised (arc_on_path e.source e.target w) (delay_size e.up e.down) (greatest_of (marks_from 0 n w) es)
unfolding greatest_of
greatest_first n w e es s t =
    ap₂ (λ (x y : Bool). raised (and x y) (delay_size e.up e.down) (greatest_of (marks_from 0 n w) es)) (mark_of n w e.source s) (mark_of n w e.target t)

-- a turn takes one arc more
pub greatest_turn : (n first second from left rest best r : ℕ) (arcs w : List ℕ) (e : Edge) → left ≡ suc rest → e ≡ edge_at false first second from arcs
    → e.source < n → e.target < n → r ≡ raised (arc_on_path e.source e.target w) (delay_size e.up e.down) best
    → max r (greatest_of (marks_from 0 n w) (edges false first second (from + arc_size) rest arcs)) ≡ max best (greatest_of (marks_from 0 n w) (edges false first second from left arcs))
greatest_turn n first second from left rest best r arcs w e l f s t h =
    let on = arc_on_path e.source e.target w in
    let m = greatest_of (marks_from 0 n w) (edges false first second (from + arc_size) rest arcs) in
    let x : greatest_of (marks_from 0 n w) (edges false first second from left arcs) ≡ raised on (delay_size e.up e.down) m
    = ap (greatest_of (marks_from 0 n w)) (edges-first first second from left rest arcs e l f) ∙ greatest_first n w e (edges false first second (from + arc_size) rest arcs) s t in
    rw (h, x) (raised_swap on (delay_size e.up e.down) best m)

-- at the end no arc is left
pub greatest_end : (first second from left best : ℕ) (arcs : List ℕ) (marks : List Bool) → left ≡ 0
    → best ≡ max best (greatest_of marks (edges false first second from left arcs))
unfolding greatest_of edges
greatest_end first second from left best arcs marks l = rw l (omega arith)
