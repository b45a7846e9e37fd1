-- Tapes of joins in another order, and pairs of tapes shared out.
use Rattle.std.specs.Prelude.{◌↔◌, ◌⊎◌, List, [], ◌∷◌, ◌++◌, map, ℕ, ◌+◌, eqb}
use Rattle.automata.specs.Lists.{◌∈◌, if}
use Rattle.automata.specs.TapePair.{Pair, TapePair, placed}
use Rattle.automata.specs.Tapes.{drop_at, seconds, turned, tape_after}
use Rattle.automata.specs.Projection.{range}

-- The tape of a join on which tape j of the second table stands, behind n tapes of the first: where a pair of qs names
-- it, the first tape of that pair, which is kept for it; else its own place.
abbrev pub kept_as : ℕ → List Pair → List Pair → ℕ → ℕ
kept_as n ps [] j = n + tape_after (seconds ps) j
kept_as n ps (p ∷ qs) j = if (eqb p.second j) p.first (kept_as n ps qs j)

-- For each tape of the exchanged join, the tape of the join of n with m tapes that it is: those of the second table,
-- then those of the first that no pair names.
abbrev pub exchanged_tapes : ℕ → ℕ → List Pair → List ℕ
exchanged_tapes n m ps = map (kept_as n ps ps) (range 1 m) ++ drop_at (seconds (turned ps)) (range 1 n)

-- the pairs ps are shared out to two lists, in any order: each of them stands in one of the two, and nothing else does
pub record SharedOut (ps first later : List Pair) : Type 0 where
  pub all : (p : Pair) → (p ∈ ps) ↔ ((p ∈ first) ⊎ (p ∈ later))
  pub apart : (p : Pair) → p ∈ first → ¬ (p ∈ later)

-- the later pairs, each with its limit, on the table that a join by the first pairs gave: each second tape at its
-- place there
abbrev pub later_on : ℕ → List Pair → List TapePair → List TapePair
later_on n first later = placed (λ j. n + tape_after (seconds first) j) later
