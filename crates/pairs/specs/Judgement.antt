-- What the judgements of a lent list promise, and the pairs of a join by value.
use Rattle.std.specs.Prelude.{Result, Ok, Err, IfOk, ℕ, ◌+◌, ◌≤◌, ◌<◌, ◌≡◌, Bool, true, List, length, get_or, ltb}
use Rattle.automata.specs.Lists.{if}
use Rattle.automata.specs.Answer.{Answer, ok, refused}
use Rattle.automata.specs.TapePair as automata
use Rattle.automata.specs.Join.{within}
use Rattle.table.specs.declared.answer.Refusal.{Refusal}
use Rattle.table.specs.declared.pair.Pair.{Pair}
use Rattle.table.specs.declared.pair.PairList.{PairList}
use Rattle.table.specs.Answers.{refusal_number}
use Rattle.table.specs.Pairs.{pairs_as, no_pair, Named}
use Rattle.pairs.specs.PairTests.{tests, pairs_answer, join_pairs_answer, tapes_answer}

-- the first tape of a pair is among n, the second among m, counted from 1
pub record Between (n m : ℕ) (p : Pair) : Type 0 where
  pub first_from : 1 ≤ p.first
  pub first_to : p.first ≤ n
  pub second_from : 1 ≤ p.second
  pub second_to : p.second ≤ m

-- at most four pairs are used, and each names a tape of a first table with n and one of a second table with m
pub record Sided (n m : ℕ) (ps : PairList) : Type 0 where
  pub used_fit : ps.used ≤ 4
  pub each : (h : ℕ) → h < ps.used → Between n m (get_or ps.pairs h no_pair)

-- The first four pairs of a list by value, and how many the list has; at most four are all of them.
pub record FirstFour (ps : List automata.TapePair) (l : PairList) : Type 0 where
  pub many : l.used ≡ length ps
  pub all_read : length ps ≤ 4 → pairs_as l ≡ ps

-- What a judgement of a list answers: the pairs by value, or a refusal.
abbrev pub PairsJudged : Type 0
PairsJudged = Result PairList Refusal

-- what it stands for as a judgement: nothing, or the number of the refusal
abbrev pub judgement : PairsJudged → Answer (Unit {0})
judgement (Ok l) = ok tt
judgement (Err r) = refused (refusal_number r)

-- The tests decided in their order, and where none fails the pairs by value.
pub record Decided (ps : List automata.TapePair) (inside once fit : Bool) (r : PairsJudged) : Type 0 where
  pub answer : judgement r ≡ tests inside once fit
  pub pairs : IfOk r (λ l. pairs_as l ≡ ps)
  pub used_fit : IfOk r (λ l. l.used ≤ 4)
  pub four : IfOk r (λ l. length l.pairs ≡ 4)
  pub all_inside : IfOk r (λ l. inside ≡ true)

-- A list of pairs judged: the answer that is called for, and where there is no refusal the pairs by value, as they are
-- read here, and what holds of their tapes.
pub record ListJudged {X : Type 0} (read : PairList → X) (list : X) (expected : Answer (Unit {0})) (Tapes : PairList → Type 0) (r : PairsJudged) : Type 0 where
  pub answer : judgement r ≡ expected
  pub pairs : IfOk r (λ l. read l ≡ list)
  pub four : IfOk r (λ l. length l.pairs ≡ 4)
  pub tapes_named : IfOk r Tapes

-- for an auto-intersection of a table with so many tapes
abbrev pub KeepJudged : List automata.TapePair → ℕ → PairsJudged → Type 0
KeepJudged ps tapes r = ListJudged pairs_as ps (pairs_answer tapes ps) (Named tapes) r

-- for a join of tables with n and m tapes
abbrev pub JoinJudged : List automata.TapePair → ℕ → ℕ → PairsJudged → Type 0
JoinJudged ps n m r = ListJudged pairs_as ps (join_pairs_answer n m ps) (Sided n m) r

-- for a forecast of a table with so many tapes: the pairs of tapes, whatever their limits
abbrev pub TapesJudged : List automata.Pair → ℕ → PairsJudged → Type 0
TapesJudged ps tapes r = ListJudged (λ l. automata.tapes_of (pairs_as l)) ps (tapes_answer tapes ps) (Named tapes) r

-- The first four pairs of a list, with whether all of its pairs are within, decide what an auto-intersection asks of
-- the whole list.
abbrev pub DecidesKeep : PairList → Bool → PairsJudged → Type 0
DecidesKeep list inside r =
    (ps : List automata.TapePair) (tapes : ℕ) → FirstFour ps list → inside ≡ within tapes tapes (automata.tapes_of ps) → KeepJudged ps tapes r

-- The same for a join.
abbrev pub DecidesJoin : PairList → Bool → PairsJudged → Type 0
DecidesJoin list inside r =
    (ps : List automata.TapePair) (n m : ℕ) → FirstFour ps list → inside ≡ within n m (automata.tapes_of ps) → JoinJudged ps n m r

-- The same for a forecast, which asks nothing of the limits.
abbrev pub DecidesTapes : PairList → Bool → PairsJudged → Type 0
DecidesTapes list inside r =
    (ps : List automata.TapePair) (tapes : ℕ) → FirstFour ps list → inside ≡ within tapes tapes (automata.tapes_of ps)
    → TapesJudged (automata.tapes_of ps) tapes r

-- pairs were judged for an auto-intersection of a table with so many tapes
pub record Listed (tapes : ℕ) (listed : PairsJudged) : Type 0 where
  pub pairs : List automata.TapePair
  pub judged : KeepJudged pairs tapes listed

-- pairs were judged for a forecast of a table with so many tapes
pub record TapesListed (tapes : ℕ) (listed : PairsJudged) : Type 0 where
  pub pairs : List automata.Pair
  pub judged : TapesJudged pairs tapes listed

-- at most four pairs are used, and each second tape fits a byte once it is moved
pub record Movable (by : ℕ) (ps : PairList) : Type 0 where
  pub used_fit : ps.used ≤ 4
  pub each : (h : ℕ) → h < ps.used → by + (get_or ps.pairs h no_pair).second ≤ 255

-- the pair at a place, its second tape moved if it is used
abbrev pub moved_at : ℕ → PairList → ℕ → Pair
moved_at by ps at =
    let p = get_or ps.pairs at no_pair in
    if (ltb at ps.used) (record { first = p.first; second = by + p.second; limit = p.limit }) p

-- The pairs of a join as pairs of the product: the second tapes moved behind the tapes of the first table.
pub record Moved (by : ℕ) (ps : PairList) (r : PairList) : Type 0 where
  pub pairs : pairs_as r ≡ automata.behind by (pairs_as ps)
  pub tapes_named : (m : ℕ) → Sided by m ps → Named (by + m) r
