-- States of a product in work space: a number for each side, and records of four bytes, each at the front of a row of
-- sixteen.
use Rattle.std.specs.Prelude.{◌≡◌, List, ◌++◌, map, ℕ, ◌+◌, ◌<◌, length}
use Rattle.std.proofs.Math.Option.{Option, none, some}
use Rattle.automata.specs.Product as automata
use Rattle.automata.specs.Layout.{vertex_size}
use Rattle.table.specs.Region.{part}
use Rattle.table.specs.Endian.{le, to_le}
use Rattle.search_rows.specs.declared.Entered.{Entered}
use Rattle.search_rows.specs.Find.{Found}
use Rattle.search_chains.specs.Chain.{fronts, Chained, Finds, Enters}
use Rattle.search_chains.specs.Hash.{bucket_of}
use Rattle.search_chains.specs.declared.Shape.{Shape}
use Rattle.product_search.specs.declared.vertex.Vertex.{Vertex}

-- what stands for a side's state where its path has ended
abbrev pub ended : ℕ
ended = 65535

-- the number that stands for a place
abbrev pub place_number : Option ℕ → ℕ
place_number none = ended
place_number (some q) = q

-- a state of the product by value
abbrev pub vertex_of : automata.Vertex → Vertex
vertex_of c = record { first = record { 0 = place_number c.0 }; second = record { 0 = place_number c.1 } }

-- the four bytes of a state by value
unfoldable pub vertex_bytes : Vertex → List ℕ
vertex_bytes v = to_le 2 v.first.0 ++ to_le 2 v.second.0

-- the record of a state
abbrev pub row_of : automata.Vertex → List ℕ
row_of c = vertex_bytes (vertex_of c)

-- the records of cs stand in rows of 16 bytes at the front of w
abbrev pub HoldsVertices : List automata.Vertex → List ℕ → Type 0
HoldsVertices cs w = fronts 0 vertex_size 4 (length cs) w ≡ map row_of cs

-- the bucket of a state by its bytes, for so much room
abbrev pub bucket_by : ℕ → List ℕ → ℕ
bucket_by room bytes = bucket_of room (le (part 0 4 bytes))

-- how records of states are compared: whole
abbrev pub vertex_shape : Shape
vertex_shape = record { head = 4; pitch = 0; parts = 1 }

-- the first n states stand in the chains of their buckets
abbrev pub ChainedVertices : ℕ → ℕ → List ℕ → Type 0
ChainedVertices room n w = Chained (bucket_by room) vertex_size 4 room n w

-- the search for the state whose four bytes are those of the number key tells its number
abbrev pub FindsVertex : ℕ → ℕ → ℕ → List ℕ → Found → Type 0
FindsVertex count bucket key w r = Finds vertex_size count bucket vertex_shape (to_le 4 key) w r

-- the state d was entered among those reached
abbrev pub EntersVertex : ℕ → ℕ → Vertex → List ℕ → Entered → List ℕ → Type 0
EntersVertex reached room d v r w = Enters vertex_size reached room (bucket_by room (vertex_bytes d)) vertex_shape (vertex_bytes d) v r w

-- a place has ended or is one of n
abbrev pub PlaceBelow : ℕ → Option ℕ → Type 0
PlaceBelow n none = Unit {0}
PlaceBelow n (some q) = q < n

-- a state of the product of automata with n and with m states
abbrev pub VertexBelow : ℕ → ℕ → automata.Vertex → Type 0
VertexBelow n m c = PlaceBelow n c.0 × PlaceBelow m c.1

-- the state by value whose row stands at place at
abbrev pub vertex_at : ℕ → List ℕ → Vertex
vertex_at at w = record { first = record { 0 = le (part at 2 w) }; second = record { 0 = le (part (at + 2) 2 w) } }
