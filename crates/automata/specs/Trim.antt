-- Trimming: of the explored vertices those from which a final one is reached within them; and the edges that are left
-- between them.
use Rattle.std.specs.Prelude.{◌≡◌, Bool, true, false, List, [], ◌∷◌, map, ℕ, zero, suc, get_or}
use Rattle.automata.specs.Lists.{if, and, filter, ◌∈◌}
use Rattle.automata.specs.Marks.{coaccessible}
use Rattle.automata.specs.Explore.{Edge, successors, edges, edge_graph}

-- the elements at the marked places
abbrev pub at_marks : {C : Type 0} → List Bool → List C → List C
at_marks [] cs = []
at_marks (b ∷ bs) [] = []
at_marks (b ∷ bs) (c ∷ cs) = let r = at_marks bs cs in if b (c ∷ r) r

module _ {C L : Type 0} (out : C → List (L × C)) (final : C → Bool) where
  -- a walk within cs leads from the vertex to a final one
  pub data Coaccessible (cs : List C) : C → Type 0 where
    ends : {c : C} → c ∈ cs → final c ≡ true → Coaccessible cs c
    goes : {c d : C} → c ∈ cs → d ∈ successors out c → Coaccessible cs d → Coaccessible cs c

module _ {C L : Type 0} (same : C → C → Bool) (out : C → List (L × C)) (final : C → Bool) where
  -- the coaccessible vertices of cs, in the order of cs: marks against the edges
  unfoldable pub trimmed : List C → List C
  trimmed cs = at_marks (coaccessible (edge_graph (edges same out cs)) (map final cs)) cs

-- ---- what is left of numbered vertices and their edges

-- the number of marked places before place i: the place that a marked vertex has among those kept
unfoldable pub rank : List Bool → ℕ → ℕ
rank [] i = zero
rank (b ∷ bs) zero = zero
rank (b ∷ bs) (suc i) = if b (suc (rank bs i)) (rank bs i)

-- both ends of an edge are marked
abbrev pub both_marked : {L : Type 0} → List Bool → Edge L → Bool
both_marked marks x = and (get_or marks x.from false) (get_or marks x.to false)

-- the edge between the kept vertices
abbrev pub ranked : {L : Type 0} → List Bool → Edge L → Edge L
ranked marks x = record { from = rank marks x.from; label = x.label; to = rank marks x.to }

-- the edges between marked vertices, by their places among those kept
unfoldable pub kept_edges : {L : Type 0} → List Bool → List (Edge L) → List (Edge L)
kept_edges marks es = map (ranked marks) (filter (both_marked marks) es)
