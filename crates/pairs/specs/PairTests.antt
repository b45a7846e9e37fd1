-- The tests of a list of pairs in document 01's order: 5 over the whole list, then 6, then 7.
use Rattle.std.specs.Prelude.{ℕ, Bool, true, List, map, leb, length}
use Rattle.automata.specs.Limits.{max_pairs}
use Rattle.automata.specs.Refusal
use Rattle.automata.specs.Lists.{and, all}
use Rattle.automata.specs.Answer.{◌>>=◌, Answer, ok, judge, require}
use Rattle.automata.specs.TapePair.{Pair, TapePair, tapes_of, limits_fit}
use Rattle.automata.specs.Projection.{is_tape}
use Rattle.automata.specs.IntersectCall.{distinct, named}
use Rattle.automata.specs.Join.{within, separate}

-- The tests in their order, whatever they ask.
abbrev pub tests : Bool → Bool → Bool → Answer (Unit {0})
tests inside once fit = judge inside Refusal.tape (judge once Refusal.pairs (judge fit Refusal.limit (ok tt)))

-- no tape stands twice on one side
abbrev pub sides_once : List Pair → Bool
sides_once ps = and (distinct (map (λ p. p.first) ps)) (distinct (map (λ p. p.second) ps))

-- For the auto-intersection of a table: a tape that it lacks (5), more than four pairs or a tape named twice (6), a
-- limit above 64 (7).
unfoldable pub pairs_answer : ℕ → List TapePair → Answer (Unit {0})
pairs_answer tapes ps =
    tests (all (is_tape tapes) (named (tapes_of ps))) (and (leb (length ps) max_pairs) (distinct (named (tapes_of ps)))) (limits_fit ps)

-- For a join: a first tape that the first table lacks or a second tape that the second lacks (5), more than four pairs
-- or a tape twice on one side (6), a limit above 64 (7).
unfoldable pub join_pairs_answer : ℕ → ℕ → List TapePair → Answer (Unit {0})
join_pairs_answer n m ps = tests (within n m (tapes_of ps)) (separate (tapes_of ps)) (limits_fit ps)

-- For a forecast, which reads no limit: a tape that the table lacks (5), more than four pairs or a tape named twice
-- (6).
unfoldable pub tapes_answer : ℕ → List Pair → Answer (Unit {0})
tapes_answer tapes ps = tests (all (is_tape tapes) (named ps)) (and (leb (length ps) max_pairs) (distinct (named ps))) true

-- A table, the pairs with their limits, and the work space, judged in turn.
abbrev pub in_turn : Answer (Unit {0}) → Answer (Unit {0}) → Bool → Answer (Unit {0})
in_turn table pairs enough = table >>= λ t. pairs >>= λ p. require enough Refusal.space
