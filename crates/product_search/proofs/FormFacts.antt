-- States of a product and their rows: rows tell states apart, and a state is read back from its row.
use Prim.Native.Nat.{ℕ, ◌*◌, ◌≤◌, ◌<◌}
use mathlib.Core.Path.{◌≡◌, refl, sym, ap, ◌∙◌}
use mathlib.Core.Option.{Option, none, some}
use mathlib.Core.List.{List}
use native.Mathlib.Omega.{arith}
use native.Mathlib.Nat.{add-zero}
use lib.ListN.{get_elem?}
use Rattle.automata.specs.Lists.{All}
use Rattle.automata.specs.Product as automata
use Rattle.automata.specs.Product.{same_vertex}
use Rattle.automata.proofs.ProductStates.{vertices_decided}
use Rattle.automata.proofs.WellFormedFacts.{all-place}
use Rattle.automata.specs.Layout.{vertex_size}
use Rattle.table.specs.Region.{part}
use Rattle.table.specs.Endian.{le, to_le}
use Rattle.table.proofs.RegionFacts.{part-part, part_front, part_end}
use Rattle.table.proofs.EndianFacts.{le-to_le}
use Rattle.search_rows.specs.Inserted.{Tells}
use Rattle.search_rows.proofs.CodeFacts.{codes_tell}
use Rattle.search_chains.proofs.Meaning.{code_at}
use Rattle.product_search.specs.declared.vertex.Vertex.{Vertex}
use Rattle.product_search.specs.Vertices.{place_number, vertex_of, vertex_bytes, row_of, HoldsVertices, PlaceBelow, VertexBelow, vertex_at}

-- ---- by value and back

-- the number of a place fits into two bytes
pub place_fits : (n : ℕ) (x : Option ℕ) → n ≤ 1024 → PlaceBelow n x → place_number x < 65536
place_fits n none l b = omega arith
place_fits n (some q) l b = omega (arith, b)

-- numbers tell places apart
place_injective : (n : ℕ) (x y : Option ℕ) → n ≤ 1024 → PlaceBelow n x → PlaceBelow n y → place_number x ≡ place_number y → x ≡ y
place_injective n none none l a b e = refl
place_injective n none (some q) l a b e = absurd (omega (arith, b, e))
place_injective n (some p) none l a b e = absurd (omega (arith, a, e))
place_injective n (some p) (some q) l a b e = ap {B = Option ℕ} some e

-- a state is read back from the four bytes of its row
vertex_back : (v : Vertex) → v.first.0 < 65536 → v.second.0 < 65536 → vertex_at 0 (vertex_bytes v) ≡ v
unfolding vertex_bytes
vertex_back v a b = λ i. record {
  first = record { 0 = (ap le (part_front 2 (to_le 2 v.first.0) (to_le 2 v.second.0) refl) ∙ le-to_le 2 v.first.0 a) i };
  second = record { 0 = (ap le (part_end 2 2 (to_le 2 v.first.0) (to_le 2 v.second.0) refl refl) ∙ le-to_le 2 v.second.0 b) i };
}

-- what is read at a place is read from the four bytes there
vertex_row : (at : ℕ) (w : List ℕ) → vertex_at at w ≡ vertex_at 0 (part at 4 w)
vertex_row at w = λ i. record {
  first = record { 0 = le ((ap (λ (n : ℕ). part n 2 w) (sym (add-zero at)) ∙ sym (part-part 0 2 at 4 w (omega arith))) i) };
  second = record { 0 = le (sym (part-part 2 2 at 4 w (omega arith)) i) };
}

module _ (n m : ℕ) (few-first : n ≤ 1024) (few-second : m ≤ 1024) where
  -- the row of a state of the product gives the state
  pub row_back : (c : automata.Vertex) → VertexBelow n m c → vertex_at 0 (row_of c) ≡ vertex_of c
  row_back c b = vertex_back (vertex_of c) (place_fits n c.0 few-first b.0) (place_fits m c.1 few-second b.1)

  -- rows with the same bytes are those of the same state
  row_injective : (c d : automata.Vertex) → VertexBelow n m c → VertexBelow n m d → row_of c ≡ row_of d → c ≡ d
  row_injective c d a b e =
      let v : vertex_of c ≡ vertex_of d = sym (row_back c a) ∙ ap (vertex_at 0) e ∙ row_back d b in
      let x = place_injective n c.0 d.0 few-first a.0 b.0 (ap (λ (z : Vertex). z.first.0) v) in
      let y = place_injective m c.1 d.1 few-second a.1 b.1 (ap (λ (z : Vertex). z.second.0) v) in
      λ i. (x i, y i)

  -- so they tell a state from all others
  pub rows_tell : (c : automata.Vertex) (cs : List automata.Vertex) → VertexBelow n m c → All (VertexBelow n m) cs → Tells row_of same_vertex c cs
  rows_tell c cs a h = codes_tell row_of same_vertex vertices_decided (VertexBelow n m) row_injective c cs a h

-- ---- a state that is held

-- what is read from its row is the state by value
pub loaded : (n m : ℕ) (cs : List automata.Vertex) (w : List ℕ) (k : ℕ) (c : automata.Vertex) → n ≤ 1024 → m ≤ 1024 → All (VertexBelow n m) cs → HoldsVertices cs w
    → get_elem? cs k ≡ some c → vertex_at (vertex_size * k) w ≡ vertex_of c
loaded n m cs w k c a b h o e =
    let f : part (k * vertex_size) 4 w ≡ row_of c = code_at row_of vertex_size 4 cs w k c o e in
    let q : k * vertex_size ≡ vertex_size * k = omega arith in
    vertex_row (vertex_size * k) w ∙ ap (λ (i : ℕ). vertex_at 0 (part i 4 w)) (sym q) ∙ ap (vertex_at 0) f ∙ row_back n m a b c (all-place (VertexBelow n m) cs h k c e)
