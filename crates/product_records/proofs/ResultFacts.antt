-- The loops over the rows and the moves of a product: a turn of each, and its end.
use mathlib.Core.Path.{◌≡◌, refl, sym, ap, ap₂, ◌∙◌}
use mathlib.Core.Bool.{Bool, true, false, not}
use mathlib.Core.List.{List, [], ◌∷◌, ◌++◌}
use Prim.Native.Nat.{ℕ, zero, suc, ◌+◌, ◌*◌, ◌≤◌, ◌<◌}
use native.Mathlib.Omega.{arith}
use lib.ListN.{length}
use borrow.Author.Tests.{le-leb, lt-leb}
use Rattle.automata.specs.Lists.{and, all, All}
use Rattle.automata.specs.Records.{write_all}
use Rattle.automata.specs.Calls.Outcome.{overwrite}
use Rattle.automata.proofs.TestFacts.{false_not_true}
use Rattle.automata.proofs.RecordFacts.{All_map, length_write_all}
use Rattle.automata.specs.Layout.{arc_size, state_size, step_size, vertex_size}
use Rattle.table.specs.Region.{splice}
use Rattle.table.specs.Records.{state_bytes}
use Rattle.std.specs.Prelude.{Some, None}
use Rattle.table.specs.Records.{Weight}
use Rattle.table.specs.declared.record.State.{State}
use Rattle.table.proofs.RegionFacts.{splice-none, splice_append, splice_front}
use Rattle.product_search.specs.declared.vertex.Vertex.{Vertex}
use Rattle.product_search.specs.declared.vertex.Move.{Move}
use Rattle.product_search.specs.Vertices.{vertex_at}
use Rattle.product_search.specs.Moves.{move_at}
use Rattle.product_records.specs.Sums.{vertex_sum, state_fits, move_sum, move_record, vertices_at, moves_at, VertexFits, MoveFits}
use Rattle.product_records.specs.Results.{states_fit, state_records, Vertices, moves_fit, move_records, Moves}
use Rattle.product_records.proofs.RecordFacts.{length_record}

-- ---- bytes written one after the other

module _ {X : Type 0} (f : X → List ℕ) where
  -- the next record written, the rest gives the whole
  written_turn : (size to : ℕ) (x : X) (xs : List X) (out out2 : List ℕ) → length (f x) ≡ size → to + size + length (write_all f xs) ≤ length out
      → out2 ≡ splice to (f x) out → splice (to + size) (write_all f xs) out2 ≡ splice to (f x ++ write_all f xs) out
  written_turn size to x xs out out2 l h e =
      let k : to + size ≡ to + length (f x) = omega (arith, l) in
      ap₂ (λ (i : ℕ) (o : List ℕ). splice i (write_all f xs) o) k e ∙ splice_append to (f x) (write_all f xs) out (omega (arith, l, h))

-- nothing is left to write
written_end : (to : ℕ) (zs all out out0 : List ℕ) → zs ≡ [] → splice to zs out ≡ splice 0 all out0 → out ≡ overwrite all out0
written_end to zs all out out0 e f = sym (splice-none to out) ∙ ap (λ (r : List ℕ). splice to r out) (sym e) ∙ f ∙ splice_front all out0

-- what holds of everything holds of every element
everywhere : {X : Type 0} (P : X → Type 0) → ((x : X) → P x) → (xs : List X) → All P xs
everywhere P h [] = tt
everywhere P h (x ∷ xs) = (h x, everywhere P h xs)

-- ---- states

-- there are as many rows as are asked for
length_vertices : (at n : ℕ) (w : List ℕ) → length (vertices_at at n w) ≡ n
unfolding vertices_at
length_vertices at zero w = refl
length_vertices at (suc n) w = ap suc (length_vertices (at + vertex_size) n w)

-- the first of several rows, and the others
vertices_cons : (at left rest : ℕ) (w : List ℕ) (v : Vertex) → left ≡ suc rest → v ≡ vertex_at at w → vertices_at at left w ≡ v ∷ vertices_at (at + vertex_size) rest w
unfolding vertices_at
vertices_cons at left rest w v s e = rw s (ap (λ (x : Vertex). x ∷ vertices_at (at + vertex_size) rest w) (sym e))

vertices_none : (at left : ℕ) (w : List ℕ) → left ≡ 0 → vertices_at at left w ≡ []
unfolding vertices_at
vertices_none at left w s = rw s

-- the size of the record of a state
pub length_state : (s : State) → length (state_bytes s) ≡ state_size
unfolding state_bytes
length_state s = go s.initial s.last
  where
    go : (i l : Weight) → length (state_bytes (record { initial = i; last = l })) ≡ state_size
    go None None = refl
    go None (Some y) = refl
    go (Some x) None = refl
    go (Some x) (Some y) = refl

-- the records of states
pub length_states : (s1 s2 : List ℕ) (vs : List Vertex) → length (state_records s1 s2 vs) ≡ length vs * state_size
unfolding state_records
length_states s1 s2 vs =
    length_write_all (λ (v : Vertex). state_bytes (vertex_sum s1 s2 v)) state_size vs
    (everywhere (λ (v : Vertex). length (state_bytes (vertex_sum s1 s2 v)) ≡ state_size) (λ v. length_state (vertex_sum s1 s2 v)) vs)

module _ (s1 s2 w : List ℕ) (at left rest : ℕ) (v : Vertex) (s : left ≡ suc rest) (e : v ≡ vertex_at at w) where
  -- the first row's places, and those of the others
  pub vertices_turn : Vertices s1 s2 (vertices_at at left w) → VertexFits s1 s2 v × Vertices s1 s2 (vertices_at (at + vertex_size) rest w)
  unfolding Vertices
  vertices_turn h = rw (vertices_cons at left rest w v s e) at h

  -- a state out of range, and one in range
  pub states_stop : (q : State) (b : Bool) → q ≡ vertex_sum s1 s2 v → b ≡ state_fits q → not b ≡ true → false ≡ states_fit s1 s2 (vertices_at at left w)
  unfolding states_fit
  states_stop q b f g h = rw (vertices_cons at left rest w v s e, ← f, ← g) (go b h (all (λ (x : Vertex). state_fits (vertex_sum s1 s2 x)) (vertices_at (at + vertex_size) rest w)))
    where
      go : (b : Bool) → not b ≡ true → (r : Bool) → false ≡ and b r
      go true h r = absurd (false_not_true {A = ⊥} refl h)
      go false h r = refl

  pub states_next : (q : State) (b : Bool) → q ≡ vertex_sum s1 s2 v → b ≡ state_fits q → not b ≡ false
      → states_fit s1 s2 (vertices_at (at + vertex_size) rest w) ≡ states_fit s1 s2 (vertices_at at left w)
  unfolding states_fit
  states_next q b f g h = rw (vertices_cons at left rest w v s e, ← f, ← g) (go b h (all (λ (x : Vertex). state_fits (vertex_sum s1 s2 x)) (vertices_at (at + vertex_size) rest w)))
    where
      go : (b : Bool) → not b ≡ false → (r : Bool) → r ≡ and b r
      go true h r = refl
      go false h r = absurd (false_not_true {A = ⊥} refl (sym h))

  -- the next state written
  pub states_written : (q : State) (to : ℕ) (out out2 : List ℕ) → q ≡ vertex_sum s1 s2 v → to + state_size * left ≤ length out → out2 ≡ splice to (state_bytes q) out
      → splice (to + state_size) (state_records s1 s2 (vertices_at (at + vertex_size) rest w)) out2 ≡ splice to (state_records s1 s2 (vertices_at at left w)) out
  unfolding state_records
  states_written q to out out2 f h g =
      let vs = vertices_at (at + vertex_size) rest w in
      let l : length (state_records s1 s2 vs) ≡ rest * state_size = length_states s1 s2 vs ∙ ap (λ (k : ℕ). k * state_size) (length_vertices (at + vertex_size) rest w) in
      written_turn (λ (x : Vertex). state_bytes (vertex_sum s1 s2 x)) state_size to v vs out out2 (length_state (vertex_sum s1 s2 v)) (omega (arith, l, h, s))
      (g ∙ ap (λ (x : State). splice to (state_bytes x) out) f)
      ∙ ap (λ (xs : List Vertex). splice to (state_records s1 s2 xs) out) (sym (vertices_cons at left rest w v s e))

-- all rows are looked at
pub states_done : (s1 s2 w : List ℕ) (at left : ℕ) → left ≡ 0 → true ≡ states_fit s1 s2 (vertices_at at left w)
unfolding states_fit
states_done s1 s2 w at left s = rw (vertices_none at left w s)

pub states_end : (s1 s2 w : List ℕ) (at left to n : ℕ) (out out0 : List ℕ) → left ≡ 0
    → splice to (state_records s1 s2 (vertices_at at left w)) out ≡ splice 0 (state_records s1 s2 (vertices_at 0 n w)) out0
    → out ≡ overwrite (state_records s1 s2 (vertices_at 0 n w)) out0
unfolding state_records
states_end s1 s2 w at left to n out out0 s e =
    written_end to (state_records s1 s2 (vertices_at at left w)) (state_records s1 s2 (vertices_at 0 n w)) out out0
    (ap (λ (xs : List Vertex). state_records s1 s2 xs) (vertices_none at left w s)) e

-- ---- arcs

-- there are as many moves as are asked for
length_moves : (at n : ℕ) (w : List ℕ) → length (moves_at at n w) ≡ n
unfolding moves_at
length_moves at zero w = refl
length_moves at (suc n) w = ap suc (length_moves (at + step_size) n w)

-- the first of several moves, and the others
moves_cons : (at left rest : ℕ) (w : List ℕ) (m : Move) → left ≡ suc rest → m ≡ move_at at w → moves_at at left w ≡ m ∷ moves_at (at + step_size) rest w
unfolding moves_at
moves_cons at left rest w m s e = rw s (ap (λ (x : Move). x ∷ moves_at (at + step_size) rest w) (sym e))

moves_none : (at left : ℕ) (w : List ℕ) → left ≡ 0 → moves_at at left w ≡ []
unfolding moves_at
moves_none at left w s = rw s

module _ (s1 a1 s2 a2 u : List ℕ) where
  -- the records of moves
  pub length_records : (n k : ℕ) → n + k ≤ 8 → (ms : List Move) → Moves s1 a1 s2 a2 u ms → length (move_records s1 a1 s2 a2 u n k ms) ≡ length ms * arc_size
  unfolding move_records Moves
  length_records n k t ms h =
      length_write_all (move_record s1 a1 s2 a2 u n k) arc_size ms
      (All_map (MoveFits s1 a1 s2 a2 u) (λ (m : Move). length (move_record s1 a1 s2 a2 u n k m) ≡ arc_size) (λ m f. length_record s1 a1 s2 a2 u n k m f t) ms h)

  module _ (w : List ℕ) (at left rest : ℕ) (m : Move) (s : left ≡ suc rest) (e : m ≡ move_at at w) where
    -- the first move's arcs, and those of the others
    pub moves_turn : Moves s1 a1 s2 a2 u (moves_at at left w) → MoveFits s1 a1 s2 a2 u m × Moves s1 a1 s2 a2 u (moves_at (at + step_size) rest w)
    unfolding Moves
    moves_turn h = rw (moves_cons at left rest w m s e) at h

    -- a weight out of range, and one in range
    pub moves_stop : (q : ℕ) → q ≡ move_sum s1 a1 s2 a2 u m → 999999999 < q → false ≡ moves_fit s1 a1 s2 a2 u (moves_at at left w)
    unfolding moves_fit
    moves_stop q f h = rw (moves_cons at left rest w m s e, ← f, lt-leb q 999999999 h)

    pub moves_next : (q : ℕ) → q ≡ move_sum s1 a1 s2 a2 u m → q ≤ 999999999 → moves_fit s1 a1 s2 a2 u (moves_at (at + step_size) rest w) ≡ moves_fit s1 a1 s2 a2 u (moves_at at left w)
    unfolding moves_fit
    moves_next q f h = rw (moves_cons at left rest w m s e, ← f, le-leb q 999999999 h)

    -- the next arc written
    pub moves_written : (n k to : ℕ) (out out2 : List ℕ) → n + k ≤ 8 → Moves s1 a1 s2 a2 u (moves_at at left w) → to + arc_size * left ≤ length out
        → out2 ≡ splice to (move_record s1 a1 s2 a2 u n k m) out
        → splice (to + arc_size) (move_records s1 a1 s2 a2 u n k (moves_at (at + step_size) rest w)) out2 ≡ splice to (move_records s1 a1 s2 a2 u n k (moves_at at left w)) out
    unfolding move_records
    moves_written n k to out out2 t all h g =
        let ms = moves_at (at + step_size) rest w in
        let f = moves_turn all in
        let l : length (move_records s1 a1 s2 a2 u n k ms) ≡ rest * arc_size = length_records n k t ms f.1 ∙ ap (λ (i : ℕ). i * arc_size) (length_moves (at + step_size) rest w) in
        written_turn (move_record s1 a1 s2 a2 u n k) arc_size to m ms out out2 (length_record s1 a1 s2 a2 u n k m f.0 t) (omega (arith, l, h, s)) g
        ∙ ap (λ (xs : List Move). splice to (move_records s1 a1 s2 a2 u n k xs) out) (sym (moves_cons at left rest w m s e))

  -- all moves are looked at
  pub moves_done : (w : List ℕ) (at left : ℕ) → left ≡ 0 → true ≡ moves_fit s1 a1 s2 a2 u (moves_at at left w)
  unfolding moves_fit
  moves_done w at left s = rw (moves_none at left w s)

  pub moves_end : (w : List ℕ) (at left to base n k count : ℕ) (out out0 : List ℕ) → left ≡ 0
      → splice to (move_records s1 a1 s2 a2 u n k (moves_at at left w)) out ≡ splice 0 (move_records s1 a1 s2 a2 u n k (moves_at base count w)) out0
      → out ≡ overwrite (move_records s1 a1 s2 a2 u n k (moves_at base count w)) out0
  unfolding move_records
  moves_end w at left to base n k count out out0 s e =
      written_end to (move_records s1 a1 s2 a2 u n k (moves_at at left w)) (move_records s1 a1 s2 a2 u n k (moves_at base count w)) out out0
      (ap (λ (xs : List Move). move_records s1 a1 s2 a2 u n k xs) (moves_none at left w s)) e
