-- The result by the rows and the moves that stand in work space: whether its sums are in range, and its records.
use Rattle.std.specs.Prelude.{Bool, List, ℕ}
use Rattle.automata.specs.Lists.{all, All}
use Rattle.automata.specs.Records.{write_all}
use Rattle.automata.specs.Table.{weight_fits}
use Rattle.table.specs.Records.{state_bytes}
use Rattle.product_search.specs.declared.vertex.Vertex.{Vertex}
use Rattle.product_search.specs.declared.vertex.Move.{Move}
use Rattle.product_records.specs.Sums.{vertex_sum, state_fits, move_sum, move_record, VertexFits, MoveFits}

-- ---- states

-- the weights of all states are in range
unfoldable pub states_fit : List ℕ → List ℕ → List Vertex → Bool
states_fit s1 s2 vs = all (λ v. state_fits (vertex_sum s1 s2 v)) vs

-- the records of the states
unfoldable pub state_records : List ℕ → List ℕ → List Vertex → List ℕ
state_records s1 s2 vs = write_all (λ v. state_bytes (vertex_sum s1 s2 v)) vs

-- the places of all states are within the bytes
unfoldable pub Vertices : List ℕ → List ℕ → List Vertex → Type 0
Vertices s1 s2 vs = All (VertexFits s1 s2) vs

-- ---- arcs
module _ (s1 a1 s2 a2 w : List ℕ) where
  -- the weights of all moves are in range
  unfoldable pub moves_fit : List Move → Bool
  moves_fit ms = all (λ m. weight_fits (move_sum s1 a1 s2 a2 w m)) ms

  -- the records of the moves
  unfoldable pub move_records : ℕ → ℕ → List Move → List ℕ
  move_records n k ms = write_all (move_record s1 a1 s2 a2 w n k) ms

  -- the arcs of all moves are within the bytes
  unfoldable pub Moves : List Move → Type 0
  Moves ms = All (MoveFits s1 a1 s2 a2 w) ms
