-- The states and the arcs of a product by the bytes of the two tables: which weights are added, and which labels stand
-- side by side.
use Rattle.std.specs.Prelude.{◌≡◌, Bool, List, [], ◌∷◌, ◌++◌, ℕ, zero, suc, ◌+◌, ◌-◌, ◌*◌, ◌≤◌, eqb, length}
use Rattle.automata.specs.Lists.{if, and}
use Rattle.automata.specs.Table.{weight_fits, WellFormedState}
use Rattle.automata.specs.Product.{fits_at}
use Rattle.automata.specs.Memory.{zeros}
use Rattle.automata.specs.Layout.{arc_size, state_size, step_size, vertex_size, label_size, labels_size}
use Rattle.table.specs.Region.{part, splice}
use Rattle.table.specs.Endian.{to_le}
use Rattle.table.specs.Arcs.{arc_weight, labels_start}
use Rattle.table.specs.Records.{option_of, state_as, state_at}
use Rattle.std.specs.Prelude.{Some, None, unwrap_or}
use Rattle.table.specs.Records.{Weight}
use Rattle.table.specs.declared.record.State.{State}
use Rattle.product_search.specs.declared.vertex.Vertex.{Vertex}
use Rattle.product_search.specs.declared.vertex.Move.{Move}
use Rattle.product_search.specs.Vertices.{ended, vertex_at}
use Rattle.product_search.specs.Moves.{no_arc, move_at}

-- ---- states

-- where a path has ended nothing begins, and nothing more is weighed
abbrev pub ended_state : State
ended_state = record { initial = None; last = Some 0 }

-- the state of a side at a place, by the records of its states
unfoldable pub place_state : List ℕ → ℕ → State
place_state states k = if (eqb k ended) ended_state (state_at (state_size * k) states)

-- two weights added, absent where either is
abbrev pub plus : Weight → Weight → Weight
plus None y = None
plus (Some a) None = None
plus (Some a) (Some b) = Some (a + b)

-- two states side by side
abbrev pub plus_state : State → State → State
plus_state s t = record { initial = plus s.initial t.initial; last = plus s.last t.last }

-- the state of the product at a place on each side
unfoldable pub vertex_sum : List ℕ → List ℕ → Vertex → State
vertex_sum s1 s2 v = plus_state (place_state s1 v.first.0) (place_state s2 v.second.0)

-- both weights of a state are in range, or absent
abbrev pub state_fits : State → Bool
state_fits s = and (fits_at weight_fits (option_of s.initial)) (fits_at weight_fits (option_of s.last))

-- ---- arcs

-- a weight as a number, 0 where it is absent
abbrev pub amount : Weight → ℕ
amount w = unwrap_or w 0

-- what a side adds to the weight of a move: that of its arc, or the final weight of its place where its path ends or
-- has ended
unfoldable pub side_sum : List ℕ → List ℕ → ℕ → ℕ → ℕ
side_sum states arcs k place = if (eqb k no_arc) (amount (place_state states place).last) (arc_weight arcs k)

-- the weight of a move from the row of its first state in w
unfoldable pub move_sum : List ℕ → List ℕ → List ℕ → List ℕ → List ℕ → Move → ℕ
move_sum s1 a1 s2 a2 w m =
    side_sum s1 a1 m.first (vertex_at (vertex_size * m.from.0) w).first.0 + side_sum s2 a2 m.second (vertex_at (vertex_size * m.from.0) w).second.0

-- the records of the labels of a side with so many tapes: those of its arc, zeros where its path has ended
unfoldable pub side_labels : List ℕ → ℕ → ℕ → List ℕ
side_labels arcs tapes k = if (eqb k no_arc) (zeros (label_size * tapes)) (part (labels_start (arc_size * k)) (label_size * tapes) arcs)

-- bytes with the labels of a side's arc written over them from a place on; the same bytes where its path has ended
unfoldable pub side_over : List ℕ → ℕ → ℕ → ℕ → List ℕ → List ℕ
side_over arcs tapes k to out = if (eqb k no_arc) out (splice to (part (labels_start (arc_size * k)) (label_size * tapes) arcs) out)

-- the 8 bytes before the labels of a move of a weight
unfoldable pub move_front : Move → ℕ → List ℕ
move_front m weight = to_le 2 m.from.0 ++ (to_le 2 m.to.0 ++ to_le 4 weight)

-- the bytes of its labels: those of the first side, of the second behind them, and zeros
unfoldable pub move_labels : List ℕ → List ℕ → ℕ → ℕ → Move → List ℕ
move_labels a1 a2 n k m = side_labels a1 n m.first ++ (side_labels a2 k m.second ++ zeros (labels_size - label_size * n - label_size * k))

-- the record of a move as an arc
unfoldable pub move_record : List ℕ → List ℕ → List ℕ → List ℕ → List ℕ → ℕ → ℕ → Move → List ℕ
move_record s1 a1 s2 a2 w n k m = move_front m (move_sum s1 a1 s2 a2 w m) ++ move_labels a1 a2 n k m

-- ---- what stands in work space

-- the n rows from a place on
unfoldable pub vertices_at : ℕ → ℕ → List ℕ → List Vertex
vertices_at at zero w = []
vertices_at at (suc n) w = vertex_at at w ∷ vertices_at (at + vertex_size) n w

-- the n moves from a place on
unfoldable pub moves_at : ℕ → ℕ → List ℕ → List Move
moves_at at zero w = []
moves_at at (suc n) w = move_at at w ∷ moves_at (at + step_size) n w

-- ---- what is within the bytes

-- a place that has not ended is that of a record in the bytes, and its weights are in range
pub record PlaceFits (states : List ℕ) (k : ℕ) : Type 0 where
  pub there : (k ≡ ended → ⊥) → state_size * k + state_size ≤ length states
  pub small : WellFormedState (state_as (place_state states k))

-- both places of a state of the product
pub record VertexFits (s1 s2 : List ℕ) (v : Vertex) : Type 0 where
  pub first : PlaceFits s1 v.first.0
  pub second : PlaceFits s2 v.second.0

-- the arc of a side is that of a record in the bytes, and what the side adds is in range
pub record SideFits (states arcs : List ℕ) (k place : ℕ) : Type 0 where
  pub place_there : (place ≡ ended → ⊥) → state_size * place + state_size ≤ length states
  pub arc_there : (k ≡ no_arc → ⊥) → arc_size * k + arc_size ≤ length arcs
  pub small : side_sum states arcs k place ≤ 999999999

-- both sides of a move
pub record MoveFits (s1 a1 s2 a2 w : List ℕ) (m : Move) : Type 0 where
  pub row : vertex_size * m.from.0 + 4 ≤ length w
  pub first : SideFits s1 a1 m.first (vertex_at (vertex_size * m.from.0) w).first.0
  pub second : SideFits s2 a2 m.second (vertex_at (vertex_size * m.from.0) w).second.0
