-- What a printed table shows by itself of the order of request 2.2, in terms of its lines alone: where its initial
-- states stand, and which line of an arc first leads to each other state.
use Rattle.std.specs.Prelude.{◌≡◌, ℕ, ◌<◌, ◌≤◌}
use Rattle.std.proofs.Math.Option.{none, some}
use Rattle.std.proofs.Math.ListN.{get_elem?}
use Rattle.automata.specs.Automaton.{Arc, Automaton, size, initial_of}

module _ {W : Type 0} (A : Automaton W) where
  -- a state of the table in which no path starts
  abbrev pub Later : ℕ → Type 0
  Later k = (k < size A) × (initial_of A k ≡ none)

  -- arc number m is the first that leads to state k, and it leaves a state with a lower number
  pub record FirstArc (k m : ℕ) : Type 0 where
    pub arc : Arc W
    pub at : get_elem? A.arcs m ≡ some arc
    pub leads : arc.target ≡ k
    pub lower : arc.source < k
    pub first : (n : ℕ) (b : Arc W) → get_elem? A.arcs n ≡ some b → b.target ≡ k → m ≤ n

  -- the order of the lines
  pub record PrintedOrder : Type 0 where
    -- initial states come first
    pub initial_first : (j k : ℕ) (i : W) → initial_of A j ≡ some i → Later k → j < k
    -- each later state has a first arc, and later states stand in the order of their first arcs
    pub first-arc : (k : ℕ) → Later k → (m : ℕ) × FirstArc k m
    pub by_first_arc : (k l m n : ℕ) → Later k → Later l → FirstArc k m → FirstArc l n → (k < l) → (m < n)
    -- arcs stand by the state that they leave
    pub by_source : (m n : ℕ) (a b : Arc W) → get_elem? A.arcs m ≡ some a → get_elem? A.arcs n ≡ some b → m < n → a.source ≤ b.source
