-- Facts of lowered delays: what an edge, a round and a closed run that lessens the delay make of them, and when they
-- are the least.
use Prim.Native.Nat.{ℕ, zero, suc, ◌+◌, ◌*◌, ◌<◌, ◌≤◌, min}
use mathlib.Core.Path.{◌≡◌, refl, sym, ap, ◌∙◌}
use mathlib.Core.Logic.{◌≢◌}
use mathlib.Core.Bool.{Bool, true, false}
use mathlib.Core.Option.{some}
use mathlib.Core.List.{List, [], ◌∷◌}
use native.Mathlib.Decide.{ℕ_discrete, dec_le}
use native.Mathlib.Omega.{arith}
use lib.Dec.{ltb}
use lib.ListN.{length, get_or, get_elem?, set}
use lib.Seq.{ext_get_or, get_or-set_same, get_or-set_other, set-get_or}
use borrow.Author.Tests.{ltb-true}
use Rattle.table.specs.Region.{part, splice}
use Rattle.table.specs.Endian.{le, to_le}
use Rattle.automata.specs.Lists.{if}
use Rattle.automata.specs.Rounds.{visit}
use Rattle.automata.specs.InPlace.{Becomes, sweep_in_place}
use Rattle.automata.specs.Closing.{endless, missing}
use Rattle.automata.proofs.RoundFacts.{iterate-still}
use Rattle.automata.proofs.InPlaceFacts.{length_in_place}
use Rattle.automata.specs.Layout.{arc_size, delays_size}
use Rattle.delays_relaxation.specs.declared.Edge.{Edge}
use Rattle.delays_relaxation.specs.Vector.{Room, vector}
use Rattle.delays_relaxation.specs.Edges.{edge_at, edges, edge_graph, Joined, ReadableArcs, through_edge, improve_edge, visited, swept, round_of, rounds_of, both_rounds, Filled, starts}
use Rattle.delays_relaxation.specs.Lowered.{own, along, around, Lessens, Stands, Lowered, Lowers, Settles, FillsLeast}
use Rattle.delays_relaxation.proofs.VectorFacts.{length_vector, vector_at, vector_store, frame_refl, frame_store, frame_trans}
use Rattle.delays_relaxation.proofs.SweepFacts.{Bytes, le_fits, visited_frame, visited-vector, swept_frame, swept-bytes}
use Rattle.delays_relaxation.proofs.RunFacts.{joined_at, edges-place}
use Rattle.delays_relaxation.proofs.RoundFacts.{rounded}

-- ---- one delay

module _ (es : List Edge) (n : ℕ) (xs : List ℕ) where
  -- the delays at the start
  lowered_self : Lowered es n xs xs
  lowered_self = record { stands = λ q h. own; less = λ q h. omega arith }

  -- one delay more that stands for runs, and is not greater
  lowered_set : (ys : List ℕ) (q v : ℕ) → length ys ≡ n → q < n → Stands es xs q v → v ≤ get_or ys q missing → Lowered es n xs ys → Lowered es n xs (set ys q v)
  lowered_set ys q v len lt s le l = record { stands = λ p h. stands p h (ℕ_discrete p q); less = λ p h. less p h (ℕ_discrete p q) }
    where
      here : get_or (set ys q v) q missing ≡ v
      here = get_or-set_same ys q v missing (omega arith)

      stands : (p : ℕ) → p < n → Dec (p ≡ q) → Stands es xs p (get_or (set ys q v) p missing)
      stands p h (yes e) = rw (e, here) s
      stands p h (no ne) = rw get_or-set_other (l.stands p h)

      less : (p : ℕ) → p < n → Dec (p ≡ q) → get_or (set ys q v) p missing ≤ get_or xs p missing
      less p h (yes e) = rw (e, here) (omega (arith, l.less q lt))
      less p h (no ne) = rw get_or-set_other (l.less p h)

module _ (es : List Edge) (at n : ℕ) where
  pub lowers_refl : (w : List ℕ) → Lowers es at n w w
  lowers_refl w = record { frame = frame_refl at 2 n w; lowered = λ xs l. l }

  pub lowers_trans : (u w v : List ℕ) → Lowers es at n u w → Lowers es at n w v → Lowers es at n u v
  lowers_trans u w v f g = record { frame = frame_trans at 2 n u w v f.frame g.frame; lowered = λ xs l. f.lowered xs (g.lowered xs l) }

  -- ---- edges

  -- one edge
  pub visited_lowers : (k : ℕ) (e : Edge) (w : List ℕ) → get_elem? es k ≡ some e → e.source < n → e.target < n → Room at 2 n w → Bytes w
      → Lowers es at n (visited false at e w) w
  visited_lowers k e w place s t room b = record {
    frame = visited_frame false at n e w s room;
    lowered = λ xs l. rw (visited-vector false at n es e w s t room b)
        (lowered_set es n xs (vector at n w) e.source (min x y) (length_vector at n w) s (stands xs l (dec_le x y)) (omega arith) l);
  }
    where
      x : ℕ
      x = get_or (vector at n w) e.source missing

      y : ℕ
      y = through_edge e.up e.down (get_or (vector at n w) e.target missing)

      fits : x < 65536
      fits = rw (vector_at at n w e.source missing s) (le_fits (at + delays_size * e.source) w b (omega arith))

      stands : (xs : List ℕ) → Lowered es n xs (vector at n w) → Dec (x ≤ y) → Stands es xs e.source (min x y)
      stands xs l (yes h) = let z : min x y ≡ x = omega arith in rw z (l.stands e.source s)
      stands xs l (no h) = let z : min x y ≡ y = omega arith in rw z (along {v = get_or (vector at n w) e.target missing} k e place (omega (arith, fits)) (l.stands e.target t))

  -- some edges of all
  swept_lowers : (rest : List Edge) (w : List ℕ) → ((k : ℕ) (e : Edge) → get_elem? rest k ≡ some e → (m : ℕ) × (get_elem? es m ≡ some e)) → Joined n rest → Room at 2 n w → Bytes w
      → Lowers es at n (swept false at rest w) w
  unfolding swept Joined
  swept_lowers [] w in-es j room b = lowers_refl w
  swept_lowers (e ∷ rest) w in-es j room b =
      let u = swept false at rest w in
      let f : length u ≡ length w = (swept_frame false at n rest w j.2 room).same_length in
      let p = in-es zero e refl in
      lowers_trans (visited false at e u) u w (visited_lowers p.0 e u p.1 j.0 j.1 (omega arith) (swept-bytes false at n rest w j.2 room b))
      (swept_lowers rest w (λ k. in-es (suc k)) j.2 room b)

  -- a round behind other steps, which tells where it changed nothing
  pub round_settles : (same : Bool) (w u v : List ℕ) → Joined n es → Room at 2 n u → Bytes u → Becomes (swept false at es u) same w u → Lowers es at n u v
      → Settles es at n same w v
  round_settles same w u v j room b s f =
      let r = rounded false es at n same u w j room b s in
      record {
        lowers = lowers_trans w u v (rw s.is (swept_lowers es u (λ k e p. (k, p)) j room b)) f;
        stable = λ t. ap (round_of false es) (r.still t) ∙ sym r.holds;
      }

  -- a state with a delay and a closed run that lessens it becomes endless
  pub endless_lowers : (q x : ℕ) (w2 w : List ℕ) → q < n → Room at 2 n w → Lessens es q → x ≡ le (part (at + delays_size * q) 2 w) → x ≢ missing → w2 ≡ splice (at + delays_size * q) (to_le 2 0) w
      → Lowers es at n w2 w
  endless_lowers q x w2 w lt room c e ne g = rw g (record {
    frame = frame_store at n q 0 w lt room;
    lowered = λ xs l.
        let is : get_or (vector at n w) q missing ≡ x = vector_at at n w q missing lt ∙ sym e in
        rw (vector_store at n q 0 w lt room (omega arith))
        (lowered_set es n xs (vector at n w) q endless (length_vector at n w) lt (around c ne (rw is at (l.stands q lt))) (omega arith) l);
  })

-- the arc with number k, which tells where it changed nothing
pub arc_lowers : (reversed : Bool) (first second count at n k from : ℕ) (arcs : List ℕ) (e : Edge) (same : Bool) (w v : List ℕ) → ReadableArcs n arcs count reversed first second
    → Room at 2 n v → Bytes v
    → k < count → from ≡ arc_size * k → e ≡ edge_at reversed first second from arcs → Becomes (visited false at e v) same w v → Lowers (edges reversed first second 0 count arcs) at n w v
arc_lowers reversed first second count at n k from arcs e same w v r room b l f g s =
    let j = joined_at n reversed first second 0 count k from arcs e r.joined l (omega arith) g in
    rw s.is (visited_lowers (edges reversed first second 0 count arcs) at n k e v (edges-place reversed first second 0 count k from arcs e l (omega arith) g) j.0 j.1 room b)

-- ---- no edge makes a delay less

module _ (n : ℕ) (gs : List Edge) (xs : List ℕ) (len : length xs ≡ n) where
  -- the delays after some edges, in rounds of either kind
  abbrev pass : Bool → List Edge → List ℕ
  pass d rest = sweep_in_place (edge_graph gs) missing (improve_edge d) xs rest

  abbrev visit_of : Bool → List ℕ → Edge → List ℕ
  visit_of d ys e = visit (edge_graph gs) missing (improve_edge d) ys ys e

  length_pass : (rest : List Edge) → length (pass false rest) ≡ n
  length_pass rest = length_in_place (edge_graph gs) missing (improve_edge false) xs rest ∙ len

  -- relaxation raises no delay
  visit_less : (ys : List ℕ) (e : Edge) (p : ℕ) → length ys ≡ n → e.source < n → get_or (visit_of false ys e) p missing ≤ get_or ys p missing
  visit_less ys e p l lt = go (ℕ_discrete p e.source)
    where
      go : Dec (p ≡ e.source) → get_or (visit_of false ys e) p missing ≤ get_or ys p missing
      go (yes q) = let k : e.source < length ys = omega arith in rw (q, get_or-set_same ys e.source) (omega arith)
      go (no q) = rw get_or-set_other (omega arith)

  pass_less : (rest : List Edge) (p : ℕ) → Joined n rest → get_or (pass false rest) p missing ≤ get_or xs p missing
  unfolding Joined
  pass_less [] p j = omega arith
  pass_less (e ∷ rest) p j = omega (arith, visit_less (pass false rest) e p (length_pass rest) j.0, pass_less rest p j.2)

  -- where relaxation leaves the delays, divergence does
  pub still_diverges : (rest : List Edge) → Joined n rest → pass false rest ≡ xs → pass true rest ≡ xs
  unfolding Joined
  still_diverges [] j h = refl
  still_diverges (e ∷ rest) j h = ap (λ (ys : List ℕ). visit_of true ys e) (still_diverges rest j.2 before) ∙ one (ltb y x) refl
    where
      x : ℕ
      x = get_or xs e.source missing

      y : ℕ
      y = through_edge e.up e.down (get_or xs e.target missing)

      before : pass false rest ≡ xs
      before = ext_get_or missing (pass false rest) xs (length_pass rest ∙ sym len)
          (λ p k. let z : get_or (visit_of false (pass false rest) e) p missing ≡ get_or xs p missing = ap (λ (ys : List ℕ). get_or ys p missing) h in
          omega (arith, z, visit_less (pass false rest) e p (length_pass rest) j.0, pass_less rest p j.2))

      kept : min x y ≡ x
      kept =
          let k : e.source < length xs = omega (arith, j.0) in
          sym (get_or-set_same xs e.source (min x y) missing k) ∙ ap (λ (ys : List ℕ). get_or ys e.source missing) (ap (λ (ys : List ℕ). visit_of false ys e) (sym before) ∙ h)

      one : (b : Bool) → ltb y x ≡ b → set xs e.source (if b endless x) ≡ xs
      one true t = absurd (omega (arith, ltb-true y x t, kept))
      one false t = set-get_or xs e.source missing

-- ---- the least delays

module _ (reversed : Bool) (es : List Edge) (at n : ℕ) (bytes v u : List ℕ) (start : Filled at n (starts reversed 0 n bytes) u v) where
  started-lowered : (still : Bool) (w : List ℕ) → Settles es at n still w u → Lowered es n (starts reversed 0 n bytes) (vector at n w)
  started-lowered still w s = s.lowers.lowered (starts reversed 0 n bytes) (rw start.holds (lowered_self es n (starts reversed 0 n bytes)))

  -- delays that no edge makes less
  pub settled_least : (still : Bool) (w : List ℕ) → still ≡ true → Joined n es → Settles es at n still w u → FillsLeast reversed es at n bytes w v
  settled_least still w t j s =
      let xs = vector at n w in
      let l = length_vector at n w in
      let a : round_of false es xs ≡ xs = s.stable t in
      let b : round_of true es xs ≡ xs = still_diverges n es xs l es j a in
      record {
        least = record {
          delays = xs;
          all = l;
          lowered = started-lowered still w s;
          rounds = sym (ap (rounds_of true es n) (iterate-still n (round_of false es) xs a) ∙ iterate-still n (round_of true es) xs b);
        };
        frame = frame_trans at 2 n w u v s.lowers.frame start.frame;
      }

  -- and else both kinds of rounds after the lowered ones
  pub rounds_least : (still : Bool) (w y : List ℕ) → Settles es at n still w u → Filled at n (both_rounds es n (vector at n w)) y w → FillsLeast reversed es at n bytes y v
  rounds_least still w y s a = record {
    least = record {
      delays = vector at n w;
      all = length_vector at n w;
      lowered = started-lowered still w s;
      rounds = a.holds;
    };
    frame = frame_trans at 2 n y w v a.frame (frame_trans at 2 n w u v s.lowers.frame start.frame);
  }
