-- What the marks of the kept rows are after the calls that make them.
use Prim.Native.Nat.{ℕ, zero, suc, ◌+◌, ◌*◌, ◌<◌}
use mathlib.Core.Path.{◌≡◌, ap, ◌∙◌}
use mathlib.Core.Bool.{Bool, true, false}
use mathlib.Core.List.{List, [], ◌∷◌, ◌++◌, map}
use native.Mathlib.Omega.{arith}
use lib.ListN.{length, take, drop, get_or, length-map}
use lib.Seq.{take_at}
use Rattle.automata.specs.Lists.{and}
use Rattle.automata.specs.Marks.{coaccessible}
use Rattle.automata.proofs.MarkFacts.{length_coaccessible}
use Rattle.automata.specs.Layout.{config_size, state_size, final_place}
use Rattle.table.specs.Region.{rows}
use Rattle.table.proofs.RowFacts.{length_rows}
use Rattle.intersect_edges.specs.Edges.{edges_at, record_graph}
use Rattle.intersect_edges.specs.Marked.{bit, is_mark, bits, bools, Bits}
use Rattle.intersect_edges.proofs.MarkFacts.{bools-bits}
use Rattle.intersect_trim.specs.Ranks.{Numbered}
use Rattle.intersect_trim.specs.Rows.{row_state, row_plain, final_byte}
use Rattle.intersect_room.specs.declared.room.Room.{Room}
use Rattle.intersect_head.specs.declared.head.Head.{Head}
use Rattle.intersect_result.specs.Standing.{Kept}

-- a mark is 0 or 1
bit_below : (b : Bool) → bit b < 2
bit_below true = omega arith
bit_below false = omega arith

final_below : (states row : List ℕ) → final_byte states row < 2
unfolding final_byte
final_below states row = bit_below (and (row_plain row) (is_mark (get_or states (state_size * row_state row + final_place) 0)))

-- and so are the marks of the final rows
final_bits : (states : List ℕ) (rs : List (List ℕ)) → Bits (map (final_byte states) rs)
unfolding Bits
final_bits states [] i = omega arith
final_bits states (r ∷ rs) zero = final_below states r
final_bits states (r ∷ rs) (suc i) = final_bits states rs i

-- the front of a list that was written from its front
front : (n : ℕ) (ms v w : List ℕ) → length ms ≡ n → w ≡ ms ++ drop n v → take n w ≡ ms
front n ms v w l e = ap (take n) e ∙ take_at ms (drop n v) n l

module _ (n : ℕ) (states w : List ℕ) (m₀ m₁ : List ℕ) (e₁ : m₁ ≡ map (final_byte states) (rows 0 config_size n w) ++ drop n m₀) where
  -- the marks of the final rows
  finals : take n m₁ ≡ map (final_byte states) (rows 0 config_size n w)
  finals = front n (map (final_byte states) (rows 0 config_size n w)) m₀ m₁ (length-map (rows 0 config_size n w) (final_byte states) ∙ length_rows 0 config_size n w) e₁

  pub finals-bits : Bits (take n m₁)
  finals-bits = rw finals (final_bits states (rows 0 config_size n w))

-- The marks and the numbers that the calls leave one after the other.
pub rows_kept : (room : Room) (h : Head) (states w m₀ m₁ : List ℕ) → m₁ ≡ map (final_byte states) (rows 0 config_size h.reached w) ++ drop h.reached m₀
    → (m₂ ranks : List ℕ) (kept : ℕ) → m₂ ≡ bits (coaccessible (record_graph (edges_at room.edges h.arcs w)) (bools (take h.reached m₁))) ++ drop h.reached m₁
    → Numbered (bools (take h.reached m₂)) h.reached ranks kept → Kept room h states w m₂ ranks kept
rows_kept room h states w m₀ m₁ e₁ m₂ ranks kept e₂ numbers =
    let n = h.reached in
    let g = record_graph (edges_at room.edges h.arcs w) in
    let fs : List ℕ = map (final_byte states) (rows 0 config_size n w) in
    let e : m₂ ≡ bits (coaccessible g (bools fs)) ++ drop n m₁ =
    e₂ ∙ ap (λ (ms : List ℕ). bits (coaccessible g (bools ms)) ++ drop n m₁) (finals n states w m₀ m₁ e₁) in
    let l : length (bits (coaccessible g (bools fs))) ≡ n =
    length-map (coaccessible g (bools fs)) bit ∙ length_coaccessible g (bools fs) ∙ length-map fs is_mark ∙ length-map (rows 0 config_size n w) (final_byte states) ∙ length_rows 0 config_size n w in
    record {
      marked = ap bools (front n (bits (coaccessible g (bools fs))) m₁ m₂ l e) ∙ bools-bits (coaccessible g (bools fs));
      numbers = numbers;
    }
