-- What it means that a vertex was entered: rows hold the codes of a list of vertices, all in their chains, and after
-- the entry those of the list with the vertex inserted.
use Rattle.std.specs.Prelude.{◌≡◌, Bool, List, map, ℕ, ◌*◌, ◌≤◌, length}
use Rattle.automata.specs.Explore.{insert, index_of}
use Rattle.table.specs.Region.{part}
use Rattle.search_rows.specs.declared.Reached.{Reached}
use Rattle.search_chains.specs.Chain.{fronts, Chained}

module _ {C : Type 0} (code : C → List ℕ) (same : C → C → Bool) (hash : List ℕ → ℕ) where
  -- the vertex v was entered among the vertices vs, whose rows stood in xs, and has the number s
  pub record Inserted (stride size room : ℕ) (vs : List C) (v : C) (xs ys : List ℕ) (s : Reached) : Type 0 where
    pub held : fronts 0 stride size (length (insert same vs v)) ys ≡ map code (insert same vs v)
    pub chained : Chained hash stride size room (length (insert same vs v)) ys
    pub number : s.0 ≡ index_of same v (insert same vs v)
    pub fits : length (insert same vs v) ≤ room
    pub same_length : length ys ≡ length xs
    pub kept : (a n : ℕ) → room * stride ≤ a → part a n ys ≡ part a n xs
