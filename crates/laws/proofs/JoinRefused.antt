-- Refusals of the join: of its tests, else of its first step that refuses.
use mathlib.Core.Path.{◌≡◌, sym, subst}
use mathlib.Core.Logic.{◌↔◌, ⊎_elim}
use mathlib.Core.Bool.{Bool}
use mathlib.Core.List.{List}
use Prim.Native.Nat.{ℕ, ◌+◌, ◌≤◌}
use native.Mathlib.Omega.{arith}
use lib.Dec.{leb}
use Rattle.automata.specs.Answer.{◌>>=◌, Answer, ok, refused, judge}
use Rattle.automata.specs.OrderedSum.{OrderedSum}
use Rattle.automata.specs.Automaton.{Automaton}
use Rattle.automata.specs.TapePair.{TapePair, tapes_of, behind, limits_fit}
use Rattle.automata.specs.Tapes.{seconds}
use Rattle.automata.specs.IntersectCall.{intersect_on}
use Rattle.automata.specs.Product.{cross_product}
use Rattle.automata.specs.Projection.{without}
use Rattle.automata.specs.Join.{Lent, join}
use Rattle.laws.specs.Refused.{JoinTested, JoinRefused, join-width, join-tape, join-pairs, join-limit, join_work_lem, join-product, join-build}
use Rattle.laws.proofs.Lemmas.Tests.{asks_within, asks_separate, asks_limits, limit-above, judge_asks, judge_stops, judge_passes}
use borrow.Author.Tests.{leb-true, leb-false, le-leb, lt-leb}
use Rattle.automata.proofs.AnswerFacts.{refused≢ok, judge_refuses, then_refuses}
use Rattle.laws.proofs.Lemmas.Judging.{judge-cases, judge_on, bind-cases, then_on}
use Rattle.laws.proofs.BuildRefused.{build-only}
use Rattle.laws.proofs.ProductRefused.{product-refused}

module _ (S : OrderedSum) (fits : S.W → Bool) (lent : Lent) (ps : List TapePair) (A B : Automaton S.W) where
  open S use {W}

  abbrev kept : List TapePair
  kept = behind A.tapes ps

  abbrev on : Automaton W → Answer (Automaton W)
  on P = intersect_on lent.result kept P >>= λ K. ok (without (seconds (tapes_of kept)) K)

  steps_refused : JoinTested lent ps A.tapes B.tapes → (n : ℕ) → (cross_product S fits lent.product A B >>= on) ≡ refused n → JoinRefused S fits lent ps A B n
  steps_refused t n e = ⊎_elim (λ x. join-product t n ((product-refused S fits lent.product A B n).0 x))
      (λ (P, p, x). join-build t P p n ((build-only lent.result kept P n).0
      (⊎_elim (λ y. y) (λ (_, _, q). absurd (refused≢ok (sym q))) (bind-cases (intersect_on lent.result kept P) _ n x))))
      (bind-cases (cross_product S fits lent.product A B) on n e)

  -- the join refuses exactly so
  pub join-refused : (n : ℕ) → (join S fits lent ps A B ≡ refused n) ↔ JoinRefused S fits lent ps A B n
  unfolding join
  join-refused n = (why, answer n)
    where
      why : join S fits lent ps A B ≡ refused n → JoinRefused S fits lent ps A B n
      why e = ⊎_elim (λ (x, q). subst (JoinRefused S fits lent ps A B) q (join-width (leb-false (A.tapes + B.tapes) 8 x)))
          (λ (t, e). ⊎_elim (λ (x, q). subst (JoinRefused S fits lent ps A B) q (join-tape (leb-true (A.tapes + B.tapes) 8 t) x))
          (λ (u, e). ⊎_elim (λ (x, q). subst (JoinRefused S fits lent ps A B) q (join-pairs (leb-true (A.tapes + B.tapes) 8 t) u x))
          (λ (v, e). ⊎_elim (λ (x, q). let (p, m, h) = limit-above ps x in subst (JoinRefused S fits lent ps A B) q (join-limit (leb-true (A.tapes + B.tapes) 8 t) u v p m h))
          (λ (w, e). ⊎_elim
          (λ (x, q). subst (JoinRefused S fits lent ps A B) q (join_work_lem (leb-true (A.tapes + B.tapes) 8 t) u v ((asks_limits ps).0 w) x))
          (λ (z, e). steps_refused
          (record { narrow = leb-true (A.tapes + B.tapes) 8 t; in_range = u; separated = v; low = (asks_limits ps).0 w; enough = z }) n e)
          (judge-cases lent.enough _ _ n e))
          (judge-cases (limits_fit ps) _ _ n e))
          (judge_asks _ (asks_separate (tapes_of ps)) _ _ n e))
          (judge_asks _ (asks_within A.tapes B.tapes (tapes_of ps)) _ _ n e))
          (judge-cases (leb (A.tapes + B.tapes) 8) _ _ n e)

      narrowly : {r : Answer (Automaton W)} {k : ℕ} → A.tapes + B.tapes ≤ 8 → r ≡ refused k → judge (leb (A.tapes + B.tapes) 8) 12 r ≡ refused k
      narrowly {r} {k} h e = judge_on (leb (A.tapes + B.tapes) 8) 12 r k (le-leb (A.tapes + B.tapes) 8 h) e

      tested : {k : ℕ} → JoinTested lent ps A.tapes B.tapes → (cross_product S fits lent.product A B >>= on) ≡ refused k → join S fits lent ps A B ≡ refused k
      tested t e = narrowly t.narrow (judge_passes _ (asks_within A.tapes B.tapes (tapes_of ps)) _ _ _ t.in_range (judge_passes _ (asks_separate (tapes_of ps)) _ _ _ t.separated
          (judge_passes _ (asks_limits ps) _ _ _ t.low (judge_on lent.enough _ _ _ t.enough e))))

      answer : (k : ℕ) → JoinRefused S fits lent ps A B k → join S fits lent ps A B ≡ refused k
      answer _ (join-width x) = judge_refuses (leb (A.tapes + B.tapes) 8) _ _ (lt-leb (A.tapes + B.tapes) 8 x)
      answer _ (join-tape t x) = narrowly t (judge_stops _ (asks_within A.tapes B.tapes (tapes_of ps)) _ _ x)
      answer _ (join-pairs t u x) = narrowly t (judge_passes _ (asks_within A.tapes B.tapes (tapes_of ps)) _ _ _ u (judge_stops _ (asks_separate (tapes_of ps)) _ _ x))
      answer _ (join-limit t u v p m h) = narrowly t (judge_passes _ (asks_within A.tapes B.tapes (tapes_of ps)) _ _ _ u
          (judge_passes _ (asks_separate (tapes_of ps)) _ _ _ v (judge_stops _ (asks_limits ps) _ _ (λ low. let l = low p m in absurd (omega arith)))))
      answer _ (join_work_lem t u v w x) = narrowly t (judge_passes _ (asks_within A.tapes B.tapes (tapes_of ps)) _ _ _ u
          (judge_passes _ (asks_separate (tapes_of ps)) _ _ _ v (judge_passes _ (asks_limits ps) _ _ _ w (judge_refuses lent.enough _ _ x))))
      answer _ (join-product t k h) = tested t (then_refuses (cross_product S fits lent.product A B) on k ((product-refused S fits lent.product A B k).1 h))
      answer _ (join-build t P p k h) = tested t (then_on (cross_product S fits lent.product A B) on P k p
          (then_refuses (intersect_on lent.result kept P) _ k ((build-only lent.result kept P k).1 h)))
