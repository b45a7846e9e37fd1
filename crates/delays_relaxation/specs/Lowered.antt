-- Delays on the way to the least ones: each stands for runs of edges, and none is greater than the one that its state
-- starts with.
use Rattle.std.specs.Prelude.{ℕ, ◌+◌, ◌<◌, ◌≤◌, ◌≡◌, ◌≢◌, Bool, true, false, List, length, get_or}
use Rattle.std.proofs.Math.Option.{some}
use Rattle.std.proofs.Math.ListN.{get_elem?}
use Rattle.automata.specs.Closing.{endless, missing}
use Rattle.delays_relaxation.specs.declared.Edge.{Edge}
use Rattle.delays_relaxation.specs.Vector.{vector, Frame}
use Rattle.delays_relaxation.specs.Edges.{through_edge, round_of, both_rounds, starts}

-- a run of edges from q to p, with so many symbols on the first tape and on the second
pub data Run (es : List Edge) (q : ℕ) : ℕ → ℕ → ℕ → Type 0 where
  none : Run es q q 0 0
  next : {p up down : ℕ} (k : ℕ) (e : Edge) → get_elem? es k ≡ some e → e.source ≡ p → Run es q p up down → Run es q e.target (up + e.up) (down + e.down)

-- some closed run at q lessens the delay
pub record Lessens (es : List Edge) (q : ℕ) : Type 0 where
  pub up : ℕ
  pub down : ℕ
  pub closed : Run es q q up down
  pub less : up < down

-- v stands for delays of runs from q on: the one that q starts with, one through an edge, or endless where a closed
-- run lessens it
pub data Stands (es : List Edge) (xs : List ℕ) : ℕ → ℕ → Type 0 where
  own : {q : ℕ} → Stands es xs q (get_or xs q missing)
  along : {v : ℕ} (k : ℕ) (e : Edge) → get_elem? es k ≡ some e → through_edge e.up e.down v < missing → Stands es xs e.target v
      → Stands es xs e.source (through_edge e.up e.down v)
  around : {q v : ℕ} → Lessens es q → v ≢ missing → Stands es xs q v → Stands es xs q endless

-- the delays ys of n states stand for runs, and are at most the delays xs that they start with
pub record Lowered (es : List Edge) (n : ℕ) (xs ys : List ℕ) : Type 0 where
  pub stands : (q : ℕ) → q < n → Stands es xs q (get_or ys q missing)
  pub less : (q : ℕ) → q < n → get_or ys q missing ≤ get_or xs q missing

-- from v to w the delays in the vector at place at went down so, and nothing else changed
pub record Lowers (es : List Edge) (at n : ℕ) (w v : List ℕ) : Type 0 where
  pub frame : Frame at 2 n w v
  pub lowered : (xs : List ℕ) → Lowered es n xs (vector at n v) → Lowered es n xs (vector at n w)

-- the same, and where still is told no edge makes a delay less
pub record Settles (es : List Edge) (at n : ℕ) (still : Bool) (w v : List ℕ) : Type 0 where
  pub lowers : Lowers es at n w v
  pub stable : still ≡ true → round_of false es (vector at n w) ≡ vector at n w

-- zs are the least delays of n states, by their records, read backwards where reversed, and the edges: what relaxation
-- and divergence leave of lowered delays
pub record Least (reversed : Bool) (es : List Edge) (n : ℕ) (bytes zs : List ℕ) : Type 0 where
  pub delays : List ℕ
  pub all : length delays ≡ n
  pub lowered : Lowered es n (starts reversed 0 n bytes) delays
  pub rounds : zs ≡ both_rounds es n delays

-- the vector at place at holds the least delays, and nothing else changed from v to w
pub record FillsLeast (reversed : Bool) (es : List Edge) (at n : ℕ) (bytes w v : List ℕ) : Type 0 where
  pub least : Least reversed es n bytes (vector at n w)
  pub frame : Frame at 2 n w v
