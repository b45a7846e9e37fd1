-- Rows of states and records of moves: what is stored, and what is read back.
use Prim.Native.Nat.{ℕ, ◌+◌, ◌<◌, ◌≤◌}
use mathlib.Core.Path.{◌≡◌, refl, ap, ◌∙◌}
use mathlib.Core.List.{List, ◌++◌}
use native.Mathlib.Omega.{arith}
use lib.ListN.{length}
use Rattle.table.specs.Region.{part, splice}
use Rattle.table.specs.Endian.{le, to_le}
use Rattle.table.proofs.RegionFacts.{splice-behind, part-splice_in, part_front, part_middle, part_end}
use Rattle.table.proofs.EndianFacts.{le-to_le}
use Rattle.search_rows.proofs.KeptFacts.{part-start}
use Rattle.product_search.specs.declared.vertex.Vertex.{Vertex}
use Rattle.product_search.specs.declared.vertex.Move.{Move}
use Rattle.product_search.specs.Vertices.{vertex_bytes}
use Rattle.product_search.specs.Moves.{move_bytes, move_at}
use Rattle.automata.specs.Layout.{step_size}

-- ---- a state by value

-- its row takes up 4 bytes
pub length_vertex : (v : Vertex) → length (vertex_bytes v) ≡ 4
unfolding vertex_bytes
length_vertex v = refl

-- ---- a move

-- its record takes up 8 bytes
pub length_move : (m : Move) → length (move_bytes m) ≡ 8
unfolding move_bytes
length_move m = refl

-- a record written number by number
pub move_stored : (at : ℕ) (m : Move) (w w1 w2 w3 w4 : List ℕ) → at + 8 ≤ length w → w1 ≡ splice at (to_le 2 m.from.0) w
    → w2 ≡ splice (at + 2) (to_le 2 m.first) w1 → w3 ≡ splice (at + 4) (to_le 2 m.second) w2 → w4 ≡ splice (at + 6) (to_le 2 m.to.0) w3 → w4 ≡ splice at (move_bytes m) w
unfolding move_bytes
move_stored at m w w1 w2 w3 w4 h a b c d =
    let x = to_le 2 m.from.0 in
    let y = to_le 2 m.first in
    let z = to_le 2 m.second in
    splice-behind at (at + 6) ((x ++ y) ++ z) (to_le 2 m.to.0) w w3 w4
    (splice-behind at (at + 4) (x ++ y) z w w2 w3
    (splice-behind at (at + 2) x y w w1 w2 a b (omega arith) (omega arith)) c (omega arith) (omega arith)) d (omega arith) (omega arith)

-- the numbers of a move fit into two bytes each
pub record Fits (m : Move) : Type 0 where
  pub from : m.from.0 < 65536
  pub first : m.first < 65536
  pub second : m.second < 65536
  pub to : m.to.0 < 65536

-- a record is read back where it was written
pub move_back : (at : ℕ) (m : Move) (w : List ℕ) → Fits m → at + 8 ≤ length w → move_at at (splice at (move_bytes m) w) ≡ m
unfolding move_bytes
move_back at m w f h =
    let a = to_le 2 m.from.0 in
    let b = to_le 2 m.first in
    let c = to_le 2 m.second in
    let d = to_le 2 m.to.0 in
    let r = move_bytes m in
    let l : length r ≡ 8 = length_move m in
    let p : part at 2 (splice at r w) ≡ a = part-start at 2 r w (omega arith) (omega arith) ∙ part_front 2 a (b ++ (c ++ d)) refl in
    let q : part (at + 2) 2 (splice at r w) ≡ b = part-splice_in 2 2 at r w (omega arith) (omega arith) ∙ part_middle 2 2 a b (c ++ d) refl refl in
    let s : part (at + 4) 2 (splice at r w) ≡ c = part-splice_in 4 2 at r w (omega arith) (omega arith) ∙ part_middle 4 2 (a ++ b) c d refl refl in
    let t : part (at + 6) 2 (splice at r w) ≡ d = part-splice_in 6 2 at r w (omega arith) (omega arith) ∙ part_end 6 2 ((a ++ b) ++ c) d refl refl in
    λ i. record {
      from = record { 0 = (ap le p ∙ le-to_le 2 m.from.0 f.from) i };
      first = (ap le q ∙ le-to_le 2 m.first f.first) i;
      second = (ap le s ∙ le-to_le 2 m.second f.second) i;
      to = record { 0 = (ap le t ∙ le-to_le 2 m.to.0 f.to) i };
    }

-- a record in bytes that were kept
pub move_kept : (at : ℕ) (w v : List ℕ) → ((a n : ℕ) → at ≤ a → a + n ≤ at + step_size → part a n v ≡ part a n w) → move_at at v ≡ move_at at w
move_kept at w v k = λ i. record {
  from = record { 0 = le (k at 2 (omega arith) (omega arith) i) };
  first = le (k (at + 2) 2 (omega arith) (omega arith) i);
  second = le (k (at + 4) 2 (omega arith) (omega arith) i);
  to = record { 0 = le (k (at + 6) 2 (omega arith) (omega arith) i) };
}
