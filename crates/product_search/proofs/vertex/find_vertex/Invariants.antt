use Prim.Native.Nat.{◌≤◌}
use Rattle.table.specs.Endian.{to_le}
use Rattle.search_chains.proofs.FindFacts.{Passes}
use Rattle.product_search.specs.Vertices.{vertex_shape}
use Rattle.automata.specs.Layout.{vertex_size}
use Rattle.product_search.proofs.vertex.find_vertex.Given as goal

abbrev pub invariant-loop-link : goal.invariant-loop-link
invariant-loop-link l = (l.link ≤ l.count) × Passes vertex_size l.count l.bucket vertex_shape (to_le 4 l.key) l.work l.link

abbrev pub decreases-loop-link : goal.decreases-loop-link
decreases-loop-link l = l.link
