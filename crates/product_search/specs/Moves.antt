-- Moves between states of a product as records of 8 bytes, each at the front of 16: the number of the state left, of
-- the first side's arc, of the second side's arc, of the state reached, 2 bytes each.
use Rattle.std.specs.Prelude.{◌≡◌, List, ◌++◌, ℕ, ◌+◌, ◌*◌, ◌<◌}
use Rattle.std.proofs.Math.Option.{some}
use Rattle.std.proofs.Math.ListN.{get_elem?}
use Rattle.automata.specs.OrderedSum.{ℕ_sum}
use Rattle.automata.specs.Automaton.{Automaton, Arc, Content, content}
use Rattle.automata.specs.System.{system, final_at}
use Rattle.automata.specs.Explore.{Edge}
use Rattle.automata.specs.Product as automata
use Rattle.automata.specs.Product.{both_content, after_first_content, after_second_content}
use Rattle.automata.specs.Layout.{step_size}
use Rattle.table.specs.Region.{part}
use Rattle.table.specs.Endian.{le, to_le}
use Rattle.product_search.specs.declared.vertex.Move.{Move}

-- what stands for the number of a side's arc where its path has ended
abbrev pub no_arc : ℕ
no_arc = 65535

-- the bytes of a move
unfoldable pub move_bytes : Move → List ℕ
move_bytes m = to_le 2 m.from.0 ++ (to_le 2 m.first ++ (to_le 2 m.second ++ to_le 2 m.to.0))

-- the move whose record stands at place at
abbrev pub move_at : ℕ → List ℕ → Move
move_at at w = record {
  from = record { 0 = le (part at 2 w) };
  first = le (part (at + 2) 2 w);
  second = le (part (at + 4) 2 w);
  to = record { 0 = le (part (at + 6) 2 w) };
}

-- What a move from the state c by the arcs with these numbers carries: the content of a step of both, of a step of the
-- second after the first has ended, or of a step of the first after the second has ended (document 01: "that weight is
-- added to the next arc of the longer").
pub data Carries (A B : Automaton ℕ) (c : automata.Vertex) : ℕ → ℕ → Content ℕ → Type 0 where
  by_both : {i j : ℕ} {a b : Arc ℕ} → get_elem? A.arcs i ≡ some a → get_elem? B.arcs j ≡ some b → Carries A B c i j (both_content ℕ_sum (content a) (content b))
  by_second : {j f : ℕ} {b : Arc ℕ} → final_at ℕ_sum (system A) c.0 ≡ some f → get_elem? B.arcs j ≡ some b
      → Carries A B c no_arc j (after_first_content ℕ_sum A.tapes f (content b))
  by_first : {i g : ℕ} {a : Arc ℕ} → final_at ℕ_sum (system B) c.1 ≡ some g → get_elem? A.arcs i ≡ some a
      → Carries A B c i no_arc (after_second_content ℕ_sum B.tapes g (content a))

-- the record m is that of the edge x between the states cs of the product: its ends, and arcs that carry its label
pub record RecordOf (A B : Automaton ℕ) (cs : List automata.Vertex) (x : Edge (Content ℕ)) (m : Move) : Type 0 where
  pub vertex : automata.Vertex
  pub at_from : get_elem? cs x.from ≡ some vertex
  pub from_is : m.from.0 ≡ x.from
  pub to_is : m.to.0 ≡ x.to
  pub carried : Carries A B vertex m.first m.second x.label

-- the edges es between the states cs stand in w from place at on, as far as there is room
unfoldable pub HoldsMoves : Automaton ℕ → Automaton ℕ → List automata.Vertex → ℕ → ℕ → List (Edge (Content ℕ)) → List ℕ → Type 0
HoldsMoves A B cs at room es w = (j : ℕ) (x : Edge (Content ℕ)) → j < room → get_elem? es j ≡ some x → RecordOf A B cs x (move_at (at + step_size * j) w)
