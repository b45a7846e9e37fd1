-- What a round leaves in the vector of the work space.
use Prim.Native.Nat.{ℕ, zero, suc, ◌+◌, ◌-◌, ◌*◌, ◌%◌, ◌<◌, ◌≤◌}
use mathlib.Core.Path.{◌≡◌, refl, sym, ap, ap₂, ◌∙◌}
use mathlib.Core.Logic.{◌⊎◌, inl, inr}
use mathlib.Core.Bool.{Bool, true, false}
use mathlib.Core.List.{List, [], ◌∷◌}
use native.Mathlib.Omega.{arith}
use lib.Dec.{eqb, ltb, ltb→lt}
use lib.ListN.{length, get_or, set}
use lib.Seq.{set-get_or}
use borrow.Author.Tests.{eqb-true}
use Rattle.table.specs.Region.{part, splice}
use Rattle.table.specs.Endian.{le, to_le}
use Rattle.table.proofs.RegionFacts.{get_d_splice_before, get_d_splice_after, get_d_splice_in}
use Rattle.table.proofs.EndianFacts.{le-two, le-splice, length_to_le}
use Rattle.automata.specs.Lists.{if}
use Rattle.automata.specs.Rounds.{visit}
use Rattle.automata.specs.InPlace.{sweep_in_place}
use Rattle.automata.specs.Closing.{origin, missing, endless}
use Rattle.automata.proofs.TestFacts.{ltb_false}
use Rattle.automata.specs.Layout.{delays_size, state_size}
use Rattle.delays_relaxation.specs.declared.Edge.{Edge}
use Rattle.delays_relaxation.specs.Vector.{Room, Outside, vector, Frame}
use Rattle.delays_relaxation.specs.Edges.{edge_graph, Joined, through_edge, improve, improve_edge, visited, swept, start_of, flag_place, starts, started}
use Rattle.delays_relaxation.proofs.VectorFacts.{vector_at, vector_ext, vector_store, frame_store, frame_refl, frame_trans, frame_keeps}

-- the elements of a list are bytes
abbrev pub Bytes : List ℕ → Type 0
Bytes w = (i : ℕ) → get_or w i 0 < 256

pub le_fits : (a : ℕ) (w : List ℕ) → Bytes w → a + 2 ≤ length w → le (part a 2 w) < 65536
le_fits a w b h = let p = b a in let q = b (a + 1) in rw (le-two a w h) (omega arith)

bytes-two : (x i : ℕ) → i < 2 → get_or (to_le 2 x) i 0 < 256
bytes-two x zero h = omega arith
bytes-two x (suc zero) h = omega arith
bytes-two x (suc (suc i)) h = absurd (omega arith)

bytes_store : (a x : ℕ) (w : List ℕ) → Bytes w → a + 2 ≤ length w → Bytes (splice a (to_le 2 x) w)
bytes_store a x w b h i = go (ltb i a) refl (ltb i (a + 2)) refl
  where
    go : (s : Bool) → ltb i a ≡ s → (t : Bool) → ltb i (a + 2) ≡ t → get_or (splice a (to_le 2 x) w) i 0 < 256
    go true e t f = let k : i < a = ltb→lt _ _ (rw e tt) in rw (get_d_splice_before a (to_le 2 x) w i 0 (omega arith) k) (b i)
    go false e true f =
        let k : a ≤ i = ltb_false e in
        let l : i < a + 2 = ltb→lt _ _ (rw f tt) in
        let m : i ≡ a + (i - a) = omega arith in
        let n : get_or (splice a (to_le 2 x) w) i 0 ≡ get_or (to_le 2 x) (i - a) 0
        = ap (λ (j : ℕ). get_or (splice a (to_le 2 x) w) j 0) m ∙ get_d_splice_in a (to_le 2 x) w (i - a) 0 (omega arith) (omega (arith, length_to_le 2 x)) in
        rw n (bytes-two x (i - a) (omega arith))
    go false e false f =
        let l : a + 2 ≤ i = ltb_false f in
        rw (get_d_splice_after a (to_le 2 x) w i 0 (omega (arith, length_to_le 2 x)) (omega (arith, length_to_le 2 x))) (b i)

improve_fits : (d : Bool) (x t : ℕ) → x < 65536 → improve d x t < 65536
improve_fits false x t h = omega arith
improve_fits true x t h = go (ltb t x)
  where
    go : (s : Bool) → if s endless x < 65536
    go true = omega arith
    go false = h

-- ---- frames and vectors

-- a vector that lies outside is kept
pub frame_vector : (c b m n : ℕ) (w v : List ℕ) → Frame b m n w v → Room c 2 n v → ((b + m ≤ c) × (c + 2 ≤ b + delays_size)) ⊎ ((c + 2 ≤ b) × (b + m ≤ c + delays_size))
    → vector c n w ≡ vector c n v
frame_vector c b m n w v f l (inl h) =
    vector_ext c n c w v (λ q k. frame_keeps b m n w v f (c + delays_size * q) (omega arith) (inr (inr (omega arith))) (inr (inr (omega arith))))
frame_vector c b m n w v f l (inr h) = vector_ext c n c w v (λ q k. go q k)
  where
    go : (q : ℕ) → q < n → le (part (c + delays_size * q) 2 w) ≡ le (part (c + delays_size * q) 2 v)
    go zero k = frame_keeps b m n w v f (c + delays_size * 0) (omega arith) (inl (omega arith)) (inl (omega arith))
    go (suc q) k = frame_keeps b m n w v f (c + delays_size * suc q) (omega arith) (inr (inr (omega arith))) (inr (inr (omega arith)))

-- what lies outside wide rows lies outside narrower ones in them
pub outside_in : (a m b k n i : ℕ) → b ≤ a → a + m ≤ b + k → k ≤ delays_size → Outside b k n i → Outside a m n i
outside_in a m b k n i h l u (inl s) = inl (omega arith)
outside_in a m b k n i h l u (inr (inl s)) = far (ltb i (a + delays_size * n)) refl
  where
    near : i < a + delays_size * n → (t : Bool) → ltb i a ≡ t → Outside a m n i
    near g true e = inl (ltb→lt _ _ (rw e tt))
    near g false e = let j : a ≤ i = ltb_false e in inr (inr (omega arith))

    far : (t : Bool) → ltb i (a + delays_size * n) ≡ t → Outside a m n i
    far true e = near (ltb→lt _ _ (rw e tt)) (ltb i a) refl
    far false e = inr (inl (ltb_false e))
outside_in a m b k n i h l u (inr (inr s)) = near (ltb i a) refl
  where
    near : (t : Bool) → ltb i a ≡ t → Outside a m n i
    near true e = inl (ltb→lt _ _ (rw e tt))
    near false e = let j : a ≤ i = ltb_false e in inr (inr (omega arith))

-- ---- one edge, and several

module _ (d : Bool) (at n : ℕ) where
  visited-bytes : (e : Edge) (w : List ℕ) → e.source < n → Room at 2 n w → Bytes w → Bytes (visited d at e w)
  unfolding visited
  visited-bytes e w h l b = go (eqb r x)
    where
      x : ℕ
      x = le (part (at + delays_size * e.source) 2 w)

      r : ℕ
      r = improve d x (through_edge e.up e.down (le (part (at + delays_size * e.target) 2 w)))

      go : (s : Bool) → Bytes (if s w (splice (at + delays_size * e.source) (to_le 2 r) w))
      go true = b
      go false = bytes_store (at + delays_size * e.source) r w b (omega arith)

  pub visited_frame : (e : Edge) (w : List ℕ) → e.source < n → Room at 2 n w → Frame at 2 n (visited d at e w) w
  unfolding visited
  visited_frame e w h l = go (eqb r x)
    where
      x : ℕ
      x = le (part (at + delays_size * e.source) 2 w)

      r : ℕ
      r = improve d x (through_edge e.up e.down (le (part (at + delays_size * e.target) 2 w)))

      go : (s : Bool) → Frame at 2 n (if s w (splice (at + delays_size * e.source) (to_le 2 r) w)) w
      go true = frame_refl at 2 n w
      go false = frame_store at n e.source r w h l

  pub visited-vector : (gs : List Edge) (e : Edge) (w : List ℕ) → e.source < n → e.target < n → Room at 2 n w → Bytes w
      → vector at n (visited d at e w) ≡ visit (edge_graph gs) missing (improve_edge d) (vector at n w) (vector at n w) e
  unfolding visited
  visited-vector gs e w h k l b = go (eqb r x) refl ∙ (rw (vector_at at n w e.source missing h, vector_at at n w e.target missing k) refl)
    where
      x : ℕ
      x = le (part (at + delays_size * e.source) 2 w)

      r : ℕ
      r = improve d x (through_edge e.up e.down (le (part (at + delays_size * e.target) 2 w)))

      go : (s : Bool) → eqb r x ≡ s → vector at n (if s w (splice (at + delays_size * e.source) (to_le 2 r) w)) ≡ set (vector at n w) e.source r
      go true t =
          sym (set-get_or (vector at n w) e.source missing)
          ∙ ap (set (vector at n w) e.source) (vector_at at n w e.source missing h ∙ sym (eqb-true r x t))
      go false t = vector_store at n e.source r w h l (improve_fits d x _ (le_fits (at + delays_size * e.source) w b (omega arith)))

  pub swept_frame : (es : List Edge) (w : List ℕ) → Joined n es → Room at 2 n w → Frame at 2 n (swept d at es w) w
  unfolding swept Joined
  swept_frame [] w j l = frame_refl at 2 n w
  swept_frame (e ∷ es) w j l =
      let f = swept_frame es w j.2 l in
      let g : length (swept d at es w) ≡ length w = f.same_length in
      frame_trans at 2 n _ (swept d at es w) w (visited_frame e (swept d at es w) j.0 (omega arith)) f

  pub swept-bytes : (es : List Edge) (w : List ℕ) → Joined n es → Room at 2 n w → Bytes w → Bytes (swept d at es w)
  unfolding swept Joined
  swept-bytes [] w j l b = b
  swept-bytes (e ∷ es) w j l b =
      let g : length (swept d at es w) ≡ length w = (swept_frame es w j.2 l).same_length in
      visited-bytes e (swept d at es w) j.0 (omega arith) (swept-bytes es w j.2 l b)

  pub swept-vector : (gs es : List Edge) (w : List ℕ) → Joined n es → Room at 2 n w → Bytes w
      → vector at n (swept d at es w) ≡ sweep_in_place (edge_graph gs) missing (improve_edge d) (vector at n w) es
  unfolding swept Joined
  swept-vector gs [] w j l b = refl
  swept-vector gs (e ∷ es) w j l b =
      let g : length (swept d at es w) ≡ length w = (swept_frame es w j.2 l).same_length in
      visited-vector gs e (swept d at es w) j.0 j.1 (omega arith) (swept-bytes es w j.2 l b)
      ∙ ap (λ (xs : List ℕ). visit (edge_graph gs) missing (improve_edge d) xs xs e) (swept-vector gs es w j.2 l b)

-- ---- the delays that the states start with

frame_suc : (at m n : ℕ) (w v : List ℕ) → Frame (at + delays_size) m n w v → Frame at m (suc n) w v
frame_suc at m n w v f = record { same_length = f.same_length; same = go }
  where
    go : (i : ℕ) → (i < at) ⊎ ((at + delays_size * suc n ≤ i) ⊎ (m ≤ (i - at) % delays_size)) → get_or w i 0 ≡ get_or v i 0
    go i (inl s) = f.same i (inl (omega arith))
    go i (inr (inl s)) = f.same i (inr (inl (omega arith)))
    go i (inr (inr s)) = near (ltb i (at + delays_size)) refl
      where
        near : (t : Bool) → ltb i (at + delays_size) ≡ t → get_or w i 0 ≡ get_or v i 0
        near true e = f.same i (inl (ltb→lt _ _ (rw e tt)))
        near false e = let j : at + delays_size ≤ i = ltb_false e in f.same i (inr (inr (omega arith)))

-- a store to the first entry
frame_first : (at n x : ℕ) (w : List ℕ) → Room at 2 (suc n) w → Frame at 2 (suc n) (splice at (to_le 2 x) w) w
frame_first at n x w l = let e : at + delays_size * 0 ≡ at = omega arith in rw e at (frame_store at (suc n) 0 x w (omega arith) l)

pub started_frame : (reversed : Bool) (at from n : ℕ) (bytes w : List ℕ) → Room at 2 n w → Frame at 2 n (started reversed at from n bytes w) w
unfolding started
started_frame reversed at from zero bytes w l = frame_refl at 2 0 w
started_frame reversed at from (suc n) bytes w l =
    let x = start_of (get_or bytes (from + flag_place reversed) 0) in
    let w2 = splice at (to_le 2 x) w in
    let f = frame_first at n x w l in
    let e : length w2 ≡ length w = f.same_length in
    frame_trans at 2 (suc n) _ w2 w (frame_suc at 2 n _ w2 (started_frame reversed (at + delays_size) (from + state_size) n bytes w2 (omega arith))) f

start_fits : (b : ℕ) → start_of b < 65536
start_fits b = go (eqb b 0)
  where
    go : (s : Bool) → if s missing origin < 65536
    go true = omega arith
    go false = omega arith

-- the vector holds them
pub started-vector : (reversed : Bool) (at from n : ℕ) (bytes w : List ℕ) → Room at 2 n w → vector at n (started reversed at from n bytes w) ≡ starts reversed from n bytes
unfolding started starts vector
started-vector reversed at from zero bytes w l = refl
started-vector reversed at from (suc n) bytes w l =
    let x = start_of (get_or bytes (from + flag_place reversed) 0) in
    let w2 = splice at (to_le 2 x) w in
    let e : length w2 ≡ length w = (frame_first at n x w l).same_length in
    let g = started_frame reversed (at + delays_size) (from + state_size) n bytes w2 (omega arith) in
    let u = start_fits (get_or bytes (from + flag_place reversed) 0) in
    let w3 = started reversed (at + delays_size) (from + state_size) n bytes w2 in
    let h : le (part at 2 w3) ≡ x
    = frame_keeps (at + delays_size) 2 n w3 w2 g at (omega arith) (inl (omega arith)) (inl (omega arith)) ∙ le-splice 2 x at w u (omega arith) in
    ap₂ (λ (y : ℕ) (ys : List ℕ). y ∷ ys) h (started-vector reversed (at + delays_size) (from + state_size) n bytes w2 (omega arith))
