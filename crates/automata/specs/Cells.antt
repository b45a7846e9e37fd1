-- The work cells of a lookup (document 01): one for each state and combination of positions in the strings of a tuple,
-- states × product of (length + 1).
use Rattle.std.specs.Prelude.{List, [], ◌∷◌, ℕ, zero, ◌+◌, ◌*◌, ◌≤◌, length, drop}
use Rattle.automata.specs.Automaton.{Tuple}
use Rattle.automata.specs.Calls.Work.{combinations}

-- one position in each string of a tuple, its end included
abbrev pub Positions : List ℕ → Tuple → Type 0
Positions [] [] = Unit {0}
Positions [] (s ∷ t) = ⊥
Positions (p ∷ ps) [] = ⊥
Positions (p ∷ ps) (s ∷ t) = (p ≤ length s) × Positions ps t

-- what is left of the strings from the positions on
abbrev pub drop_all : List ℕ → Tuple → Tuple
drop_all [] t = []
drop_all (p ∷ ps) [] = []
drop_all (p ∷ ps) (s ∷ t) = drop p s ∷ drop_all ps t

-- the number of a combination
abbrev pub place : List ℕ → Tuple → ℕ
place [] t = zero
place (p ∷ ps) [] = zero
place (p ∷ ps) (s ∷ t) = p * combinations t + place ps t

-- the number of the cell of a state and positions
abbrev pub cell : ℕ → List ℕ → Tuple → ℕ
cell q ps t = q * combinations t + place ps t
