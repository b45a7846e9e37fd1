-- Exploration one step at a time: the vertices found so far, and the edges out of those that were taken up. What it
-- comes to is the exploration of Explore and the edges between its vertices (proofs/SearchFacts).
use Rattle.std.specs.Prelude.{Bool, List, [], ◌∷◌, ◌++◌, ℕ, zero, suc}
use Rattle.std.proofs.Math.Option.{none, some}
use Rattle.std.proofs.Math.ListN.{get_elem?}
use Rattle.automata.specs.Explore.{Edge, insert, insert_all, index_of}

-- the vertices found, and the edges noted, by the places of their ends
pub record Search (C L : Type 0) : Type 0 where
  pub vertices : List C
  pub edges : List (Edge L)

module _ {C L : Type 0} (same : C → C → Bool) where
  -- one labelled step from the vertex at place k: its end is inserted, and the edge to it noted
  unfoldable pub note : ℕ → Search C L → L × C → Search C L
  note k s x =
      let more = insert same s.vertices x.1 in
      record { vertices = more; edges = s.edges ++ (record { from = k; label = x.0; to = index_of same x.1 more } ∷ []) }

  -- several in turn
  unfoldable pub note_all : ℕ → Search C L → List (L × C) → Search C L
  note_all k s [] = s
  note_all k s (x ∷ xs) = note_all k (note k s x) xs

  -- before a vertex is taken up
  unfoldable pub search_from : List C → Search C L
  search_from starts = record { vertices = insert_all same [] starts; edges = [] }

  module _ (out : C → List (L × C)) where
    -- the vertex at place k is taken up: the steps out of it are noted
    unfoldable pub take_up : ℕ → Search C L → Search C L
    take_up k s = elim (get_elem? s.vertices k) [ none ↦ s | some c ↦ note_all k s (out c) ]

    -- the first k vertices are taken up in turn
    unfoldable pub searched : List C → ℕ → Search C L
    searched starts zero = search_from starts
    searched starts (suc k) = take_up k (searched starts k)
