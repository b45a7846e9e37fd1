-- Rounds, one after the other.
use Prim.Native.Nat.{ℕ, zero, suc, ◌+◌, ◌<◌}
use mathlib.Core.Path.{◌≡◌, sym, ap, ◌∙◌}
use mathlib.Core.Bool.{Bool, true, false}
use mathlib.Core.List.{List}
use lib.ListN.{length}
use Rattle.automata.proofs.RoundFacts.{iterate_inner, iterate-still}
use Rattle.automata.specs.InPlace.{Becomes}
use Rattle.automata.specs.Layout.{arc_size}
use Rattle.delays_relaxation.specs.declared.Edge.{Edge}
use Rattle.delays_relaxation.specs.Vector.{Room, vector, Frame}
use Rattle.delays_relaxation.specs.Edges.{edges, Joined, Readable, ReadableArcs, swept, round_of, Filled, rounds_of, starts, started}
use Rattle.delays_relaxation.proofs.VectorFacts.{frame_trans}
use Rattle.delays_relaxation.proofs.SweepFacts.{Bytes, swept_frame, swept-vector, started_frame, started-vector}

-- which states the edges join does not depend on the tapes, nor on whether they are read backwards
joined-any : (n : ℕ) (reversed : Bool) (i j at k : ℕ) (arcs : List ℕ) → Joined n (edges false 0 0 at k arcs) → Joined n (edges reversed i j at k arcs)
unfolding Joined edges
joined-any n reversed i j at zero arcs g = tt
joined-any n false i j at (suc k) arcs g = (g.0, g.1, joined-any n false i j (at + arc_size) k arcs g.2)
joined-any n true i j at (suc k) arcs g = (g.1, g.0, joined-any n true i j (at + arc_size) k arcs g.2)

-- what a table that can be read gives the rounds on two tapes
pub readable_arcs : (bytes : List ℕ) (n : ℕ) (arcs : List ℕ) (count : ℕ) (reversed : Bool) (i j : ℕ) → Readable bytes n arcs count → i < 8 → j < 8
    → ReadableArcs n arcs count reversed i j
readable_arcs bytes n arcs count reversed i j r f s = record { lent = r.arcs_lent; first_tape = f; second_tape = s; joined = joined-any n reversed i j 0 count arcs r.joined }

-- a round over the edges es took the vector from v to w; same tells that it changed no delay
pub record Rounded (d : Bool) (es : List Edge) (at n : ℕ) (same : Bool) (w v : List ℕ) : Type 0 where
  pub holds : vector at n w ≡ round_of d es (vector at n v)
  pub frame : Frame at 2 n w v
  pub still : same ≡ true → vector at n w ≡ vector at n v

pub rounded : (d : Bool) (es : List Edge) (at n : ℕ) (same : Bool) (v w : List ℕ) → Joined n es → Room at 2 n v → Bytes v → Becomes (swept d at es v) same w v
    → Rounded d es at n same w v
rounded d es at n same v w j l b s = record {
  holds = ap (vector at n) s.is ∙ swept-vector d at n es es v j l b;
  frame = rw s.is (swept_frame d at n es v j l);
  still = λ t. ap (vector at n) (s.still t);
}

module _ (d : Bool) (es : List Edge) (at n : ℕ) (v u w : List ℕ) (target : List ℕ) (same : Bool) (j : Joined n es) (l : Room at 2 n u) (b : Bytes u)
    (s : Becomes (swept d at es u) same w u) (left : ℕ) (e : rounds_of d es left (vector at n u) ≡ target) (f : Frame at 2 n u v) where
  -- a turn of the rounds, of which there were left
  pub rounds_turn : (rest : ℕ) → left ≡ suc rest → (length w ≡ length v) × (rounds_of d es rest (vector at n w) ≡ target) × Frame at 2 n w v
  rounds_turn rest k =
      let r = rounded d es at n same u w j l b s in (
        r.frame.same_length ∙ f.same_length,
        ap (rounds_of d es rest) r.holds ∙ sym (iterate_inner rest (round_of d es) (vector at n u)) ∙ ap (λ (m : ℕ). rounds_of d es m (vector at n u)) (sym k) ∙ e,
        frame_trans at 2 n w u v r.frame f,
      )

  -- a round that changed nothing ends them
  pub rounds_still : same ≡ true → Filled at n target w v
  rounds_still t =
      let r = rounded d es at n same u w j l b s in
      let q : vector at n w ≡ vector at n u = r.still t in
      record {
        holds = q ∙ sym (iterate-still left (round_of d es) (vector at n u) (sym r.holds ∙ q)) ∙ e;
        frame = frame_trans at 2 n w u v r.frame f;
      }

-- and so does the last
pub rounds_end : (d : Bool) (es : List Edge) (at n : ℕ) (v u : List ℕ) (target : List ℕ) (left : ℕ) → left ≡ 0 → rounds_of d es left (vector at n u) ≡ target
    → Frame at 2 n u v → Filled at n target u v
rounds_end d es at n v u target left s e f = record { holds = ap (λ (k : ℕ). rounds_of d es k (vector at n u)) (sym s) ∙ e; frame = f }

-- the start
pub started_filled : (reversed : Bool) (at n : ℕ) (bytes v u : List ℕ) → Room at 2 n v → u ≡ started reversed at 0 n bytes v → Filled at n (starts reversed 0 n bytes) u v
started_filled reversed at n bytes v u l e = record {
  holds = ap (vector at n) e ∙ started-vector reversed at 0 n bytes v l;
  frame = rw e (started_frame reversed at 0 n bytes v l);
}
