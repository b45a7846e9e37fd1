-- Facts of the tests 5, 6, 7 of a list of pairs, and the judgements that follow from them.
use Prim.Native.Nat.{ℕ}
use mathlib.Core.Path.{◌≡◌, refl, sym, ap, ◌∙◌}
use mathlib.Core.Bool.{Bool, true, false}
use mathlib.Core.List.{List, [], ◌∷◌, ◌++◌, map}
use lib.Dec.{leb}
use lib.ListN.{length}
use Rattle.automata.specs.Limits.{max_pairs}
use Rattle.automata.specs.Lists.{and, all}
use Rattle.automata.specs.Answer.{ok}
use Rattle.automata.specs.TapePair.{Pair, TapePair, tapes_of, limits_fit}
use Rattle.automata.specs.Projection.{is_tape}
use Rattle.automata.specs.IntersectCall.{distinct, named}
use Rattle.automata.specs.Join.{within, separate}
use Rattle.automata.proofs.TestFacts.{T_true}
use Rattle.automata.proofs.AnswerFacts.{judge-ok}
use Rattle.automata.proofs.PairFacts.{length_tapes}
use Rattle.std.specs.Prelude.{Ok, Err, IfOk}
use Rattle.std.proofs.lemmas.Result.{IfOk-weaker}
use Rattle.table.specs.declared.pair.PairList.{PairList}
use Rattle.table.specs.Pairs.{pairs_as, Named}
use Rattle.pairs.specs.PairTests.{tests, sides_once, pairs_answer, join_pairs_answer, tapes_answer}
use Rattle.pairs.specs.Judgement.{PairsJudged, Sided, Decided, KeepJudged, JoinJudged, TapesJudged}
use Rattle.pairs.proofs.PairFacts.{sided, named-sided}

-- ---- both tapes of each pair are among n: the same as every tape that is named
all_append : (p : ℕ → Bool) (xs ys : List ℕ) → all p (xs ++ ys) ≡ and (all p xs) (all p ys)
all_append p [] ys = refl
all_append p (x ∷ xs) ys = rw (all_append p xs ys) (go (p x))
  where
    go : (b : Bool) → and b (and (all p xs) (all p ys)) ≡ and (and b (all p xs)) (all p ys)
    go true = refl
    go false = refl

pub within-named : (n : ℕ) (ps : List Pair) → within n n ps ≡ all (is_tape n) (named ps)
within-named n [] = refl
within-named n (p ∷ ps) =
    let firsts = map (λ (p : Pair). p.first) ps in
    let seconds = map (λ (p : Pair). p.second) ps in
    rw (all_append (is_tape n) firsts (p.second ∷ seconds), within-named n ps, all_append (is_tape n) firsts seconds)
    (go (is_tape n p.first) (is_tape n p.second) (all (is_tape n) firsts) (all (is_tape n) seconds))
  where
    go : (a b c d : Bool) → and (and a b) (and c d) ≡ and a (and c (and b d))
    go false b c d = refl
    go true true c d = refl
    go true false true d = refl
    go true false false d = refl

-- test 6 of a join, by the number of pairs
pub separate_is : (ps : List TapePair)
    → separate (tapes_of ps) ≡ and (leb (length ps) max_pairs) (sides_once (tapes_of ps))
separate_is ps = rw (length_tapes ps)

-- ---- the judgements
-- what holds of the tapes, where nothing is refused
tapes_sided : (ps : List TapePair) (inside once fit : Bool) (r : PairsJudged) → Decided ps inside once fit r → (n m : ℕ) → inside ≡ within n m (tapes_of ps) → IfOk r (Sided n m)
tapes_sided ps inside once fit (Ok l) s n m i = sided n m l s.four s.used_fit (ap (λ ps. within n m (tapes_of ps)) s.pairs ∙ sym i ∙ s.all_inside)
tapes_sided ps inside once fit (Err e) s n m i = tt

module _ (ps : List TapePair) (inside once fit : Bool) (r : PairsJudged) (s : Decided ps inside once fit r) where
  pub keep_judged : fit ≡ limits_fit ps → (tapes : ℕ) → inside ≡ within tapes tapes (tapes_of ps)
      → once ≡ and (leb (length ps) max_pairs) (distinct (named (tapes_of ps))) → KeepJudged ps tapes r
  unfolding pairs_answer
  keep_judged l tapes i o =
      record {
        answer = s.answer ∙ rw (i, o, l, within-named tapes (tapes_of ps)) refl;
        pairs = s.pairs;
        four = s.four;
        tapes_named = IfOk-weaker r (Sided tapes tapes) (Named tapes) (named-sided tapes) (tapes_sided ps inside once fit r s tapes tapes i);
      }

  pub join_judged : fit ≡ limits_fit ps → (n m : ℕ) → inside ≡ within n m (tapes_of ps) → once ≡ separate (tapes_of ps) → JoinJudged ps n m r
  unfolding join_pairs_answer
  join_judged l n m i o =
      record {
        answer = s.answer ∙ rw (i, o, l) refl;
        pairs = s.pairs;
        four = s.four;
        tapes_named = tapes_sided ps inside once fit r s n m i;
      }

  pub tapes_judged : fit ≡ true → (tapes : ℕ) → inside ≡ within tapes tapes (tapes_of ps)
      → once ≡ and (leb (length ps) max_pairs) (distinct (named (tapes_of ps))) → TapesJudged (tapes_of ps) tapes r
  unfolding tapes_answer
  tapes_judged l tapes i o =
      record {
        answer = s.answer ∙ rw (i, o, l, within-named tapes (tapes_of ps), length_tapes ps) refl;
        pairs = IfOk-weaker r (λ l. pairs_as l ≡ ps) (λ l. tapes_of (pairs_as l) ≡ tapes_of ps) (λ l e. ap tapes_of e) s.pairs;
        four = s.four;
        tapes_named = IfOk-weaker r (Sided tapes tapes) (Named tapes) (named-sided tapes) (tapes_sided ps inside once fit r s tapes tapes i);
      }

-- ---- the limits of pairs that are not refused

tests_limits : (inside once fit : Bool) → tests inside once fit ≡ ok tt → fit ≡ true
tests_limits inside once fit e =
    let (_, e₁) = judge-ok inside _ _ tt e in
    let (_, e₂) = judge-ok once _ _ tt e₁ in
    let (t, _) = judge-ok fit _ _ tt e₂ in
    T_true fit t

pub keep_limits : (ps : List TapePair) (tapes : ℕ) (l : PairList) → KeepJudged ps tapes (Ok l) → limits_fit ps ≡ true
unfolding pairs_answer
keep_limits ps tapes l j =
    tests_limits (all (is_tape tapes) (named (tapes_of ps))) (and (leb (length ps) max_pairs) (distinct (named (tapes_of ps)))) (limits_fit ps) (sym j.answer)

pub join_limits : (ps : List TapePair) (n m : ℕ) (l : PairList) → JoinJudged ps n m (Ok l) → limits_fit ps ≡ true
unfolding join_pairs_answer
join_limits ps n m l j = tests_limits (within n m (tapes_of ps)) (separate (tapes_of ps)) (limits_fit ps) (sym j.answer)
