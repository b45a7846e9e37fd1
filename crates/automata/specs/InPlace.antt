-- Rounds in place over the arcs of a graph: one list of entries is read and written, arc by arc, from the last arc to
-- the first.
use Rattle.std.specs.Prelude.{◌≡◌, Bool, true, List, [], ◌∷◌}
use Rattle.automata.specs.Graph.{Graph}
use Rattle.automata.specs.Rounds.{visit}

-- As in Rounds: change a old x is what arc a makes of the entry x of its source; d is the entry of a vertex that is not
-- there.
module _ {E X : Type 0} (G : Graph E) (d : X) (change : E → List X → X → X) where
  -- the entries after some arcs, the last one first, and after all
  abbrev pub sweep_in_place : List X → List E → List X
  sweep_in_place xs [] = xs
  sweep_in_place xs (a ∷ rest) = let ys : List X = sweep_in_place xs rest in visit G d change ys ys a

  abbrev pub round_in_place : List X → List X
  round_in_place xs = sweep_in_place xs G.arcs

-- a list went from v to w, which is u; where same is told, nothing changed
pub record Becomes {X : Type 0} (u : List X) (same : Bool) (w v : List X) : Type 0 where
  pub is : w ≡ u
  pub still : same ≡ true → w ≡ v
