-- The edges between configurations as records of 6 bytes, each at the front of 16: the source, the arc of the input
-- table, the target, 2 bytes each.
use Rattle.std.specs.Prelude.{ℕ, zero, suc, ◌+◌, ◌*◌, ◌<◌, ◌≡◌, List, [], ◌∷◌, ◌++◌}
use Rattle.std.proofs.Math.Option.{some}
use Rattle.std.proofs.Math.ListN.{get_elem?}
use Rattle.automata.specs.Lists.{All}
use Rattle.automata.specs.Graph.{Graph}
use Rattle.automata.specs.Automaton.{Arc}
use Rattle.automata.specs.Explore.{Edge}
use Rattle.automata.specs.Layout.{step_size}
use Rattle.table.specs.Region.{part}
use Rattle.table.specs.Endian.{le, to_le}
use Rattle.intersect_edges.specs.declared.edge.EdgeRecord.{EdgeRecord}

-- the bytes of an edge
unfoldable pub edge_bytes : EdgeRecord → List ℕ
edge_bytes e = to_le 2 e.from.0 ++ (to_le 2 e.arc ++ to_le 2 e.to.0)

-- the edge whose record stands at place at
abbrev pub edge_at : ℕ → List ℕ → EdgeRecord
edge_at at w = record {
  from = record { 0 = le (part at 2 w) };
  arc = le (part (at + 2) 2 w);
  to = record { 0 = le (part (at + 4) 2 w) };
}

-- the n edges from place at on, 16 bytes apart
unfoldable pub edges_at : ℕ → ℕ → List ℕ → List EdgeRecord
edges_at at zero w = []
edges_at at (suc n) w = edge_at at w ∷ edges_at (at + step_size) n w

-- edges as a graph on the numbers of the configurations
abbrev pub record_graph : List EdgeRecord → Graph EdgeRecord
record_graph es = record { source = λ e. e.from.0; target = λ e. e.to.0; arcs = es }

-- an edge joins configurations below n, and so do several
abbrev pub Joins : ℕ → EdgeRecord → Type 0
Joins n e = (e.from.0 < n) × (e.to.0 < n)

unfoldable pub Joined : ℕ → List EdgeRecord → Type 0
Joined n es = All (Joins n) es

-- the record of an edge by its ends and the number of its arc
abbrev pub record_of : Edge (ℕ × Arc ℕ) → EdgeRecord
record_of x = record { from = record { 0 = x.from }; arc = x.label.0; to = record { 0 = x.to } }

-- the edges es stand in w from place at on, as far as there is room
unfoldable pub HoldsEdges : ℕ → ℕ → List (Edge (ℕ × Arc ℕ)) → List ℕ → Type 0
HoldsEdges at room es w = (j : ℕ) (x : Edge (ℕ × Arc ℕ)) → j < room → get_elem? es j ≡ some x → edge_at (at + step_size * j) w ≡ record_of x
