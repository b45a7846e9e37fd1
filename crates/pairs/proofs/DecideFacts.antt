-- Facts of the tests on the first four pairs of a list by value, and what they say of the whole list.
use Prim.Native.Nat.{ℕ, ◌≤◌}
use mathlib.Core.Path.{◌≡◌, refl, sym, ap, ◌∙◌}
use mathlib.Core.Bool.{Bool, true, false}
use mathlib.Core.List.{List}
use native.Mathlib.Omega.{arith}
use lib.Dec.{leb}
use lib.ListN.{length}
use borrow.Author.Tests.{leb-true}
use Rattle.automata.specs.Limits.{max_pairs}
use Rattle.automata.specs.Lists.{and}
use Rattle.automata.specs.Answer.{ok}
use Rattle.automata.specs.TapePair as automata
use Rattle.automata.specs.IntersectCall.{distinct, named}
use Rattle.automata.specs.Join.{within}
use Rattle.automata.proofs.TestFacts.{and_true}
use Rattle.table.specs.declared.pair.PairList.{PairList}
use Rattle.std.specs.Prelude.{Ok, Err, IfOk}
use Rattle.table.specs.Pairs.{pairs_as}
use Rattle.pairs.specs.PairTests.{tests, sides_once}
use Rattle.pairs.specs.Judgement.{PairsJudged, judgement, FirstFour, Decided, KeepJudged, JoinJudged, TapesJudged}
use Rattle.pairs.proofs.TestFacts.{separate_is, keep_judged, join_judged, tapes_judged}

-- ---- test 6, by the number of pairs
once_few : (list : PairList) (once r : Bool) → r ≡ and (leb list.used max_pairs) once → r ≡ true → list.used ≤ 4
once_few list once r e t = leb-true list.used 4 (and_true (leb list.used max_pairs) once (sym e ∙ t)).0

-- ---- from the first four to the whole list
tests_once : (inside once fit : Bool) → ok tt ≡ tests inside once fit → once ≡ true
tests_once inside true fit e = refl
tests_once true false fit e = let z : ◌≡◌ {A = ℕ} 0 1 = cc in absurd (omega arith)
tests_once false false fit e = let z : ◌≡◌ {A = ℕ} 0 1 = cc in absurd (omega arith)

-- the limits are asked only where no test before them fails
tests_fit : (inside once fit whole : Bool) → (once ≡ true → fit ≡ whole) → tests inside once fit ≡ tests inside once whole
tests_fit inside false fit whole h = refl
tests_fit inside true fit whole h = ap (tests inside true) (h refl)

module _ (list : PairList) (ps : List automata.TapePair) (is : FirstFour ps list) where
  -- a test behind that of the number of pairs, f being the test
  few_test : (f : List automata.TapePair → Bool) → and (leb list.used max_pairs) (f (pairs_as list)) ≡ and (leb (length ps) max_pairs) (f ps)
  few_test f = ap (λ (k : ℕ). and (leb k max_pairs) (f (pairs_as list))) is.many ∙ go (leb (length ps) max_pairs) refl
    where
      go : (b : Bool) → leb (length ps) max_pairs ≡ b → and b (f (pairs_as list)) ≡ and b (f ps)
      go false e = refl
      go true e = ap f (is.all_read (leb-true (length ps) 4 e))

  module _ (inside once o fit : Bool) (r : PairsJudged) (few : once ≡ and (leb list.used max_pairs) o) (s : Decided (pairs_as list) inside once fit r) where
    every : once ≡ true → pairs_as list ≡ ps
    every t = let k = once_few list o once few t in let n = is.many in is.all_read (omega (arith, k, n))

    -- fit is a test of the first four, fits the same of the whole list
    whole : (fits : Bool) → (pairs_as list ≡ ps → fit ≡ fits) → Decided ps inside once fits r
    whole fits h = record {
      answer = s.answer ∙ tests_fit inside once fit fits (λ t. h (every t));
      pairs = all_pairs r s.answer s.pairs;
      used_fit = s.used_fit;
      four = s.four;
      all_inside = s.all_inside;
    }
      where
        all_pairs : (r : PairsJudged) → judgement r ≡ tests inside once fit → IfOk r (λ l. pairs_as l ≡ pairs_as list) → IfOk r (λ l. pairs_as l ≡ ps)
        all_pairs (Ok l) a p = p ∙ every (tests_once inside once fit a)
        all_pairs (Err e) a p = tt

module _ (list : PairList) (inside once fit : Bool) (r : PairsJudged) (s : Decided (pairs_as list) inside once fit r) where
  pub decides_keep : once ≡ and (leb list.used max_pairs) (distinct (named (automata.tapes_of (pairs_as list)))) → fit ≡ automata.limits_fit (pairs_as list)
      → (ps : List automata.TapePair) (tapes : ℕ) → FirstFour ps list → inside ≡ within tapes tapes (automata.tapes_of ps) → KeepJudged ps tapes r
  decides_keep o l ps tapes is i =
      keep_judged ps inside once (automata.limits_fit ps) r
      (whole list ps is inside once (distinct (named (automata.tapes_of (pairs_as list)))) fit r o s (automata.limits_fit ps) (λ e. l ∙ ap automata.limits_fit e)) refl tapes i
      (o ∙ few_test list ps is (λ qs. distinct (named (automata.tapes_of qs))))

  pub decides_join : once ≡ and (leb list.used max_pairs) (sides_once (automata.tapes_of (pairs_as list))) → fit ≡ automata.limits_fit (pairs_as list)
      → (ps : List automata.TapePair) (n m : ℕ) → FirstFour ps list → inside ≡ within n m (automata.tapes_of ps) → JoinJudged ps n m r
  decides_join o l ps n m is i =
      join_judged ps inside once (automata.limits_fit ps) r
      (whole list ps is inside once (sides_once (automata.tapes_of (pairs_as list))) fit r o s (automata.limits_fit ps) (λ e. l ∙ ap automata.limits_fit e)) refl n m i
      (o ∙ few_test list ps is (λ qs. sides_once (automata.tapes_of qs)) ∙ sym (separate_is ps))

  pub decides_tapes : once ≡ and (leb list.used max_pairs) (distinct (named (automata.tapes_of (pairs_as list)))) → fit ≡ true
      → (ps : List automata.TapePair) (tapes : ℕ) → FirstFour ps list → inside ≡ within tapes tapes (automata.tapes_of ps)
      → TapesJudged (automata.tapes_of ps) tapes r
  decides_tapes o l ps tapes is i =
      tapes_judged ps inside once true r
      (whole list ps is inside once (distinct (named (automata.tapes_of (pairs_as list)))) fit r o s true (λ e. l)) refl tapes i
      (o ∙ few_test list ps is (λ qs. distinct (named (automata.tapes_of qs))))
