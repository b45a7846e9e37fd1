-- From the judgement of a list of pairs to the call that it is made for: a refusal is the call's, and where there is
-- none the call goes on behind its test of the limits.
use Prim.Native.Nat.{ℕ, ◌+◌, ◌≤◌}
use mathlib.Core.Path.{◌≡◌, refl, ◌∙◌}
use mathlib.Core.Bool.{Bool, true, false}
use mathlib.Core.List.{List, map}
use lib.Dec.{leb}
use lib.ListN.{length}
use borrow.Author.Tests.{le-leb}
use Rattle.automata.specs.Limits.{max_tapes, max_pairs}
use Rattle.automata.specs.Refusal as refusal
use Rattle.automata.specs.Lists.{and, all}
use Rattle.automata.specs.Answer.{◌>>=◌, Answer, ok, judge}
use Rattle.automata.specs.Space.{Space}
use Rattle.automata.specs.OrderedSum.{OrderedSum}
use Rattle.automata.specs.Automaton.{Automaton}
use Rattle.automata.specs.TapePair.{Pair, TapePair, tapes_of, limits_fit}
use Rattle.automata.specs.Projection.{is_tape}
use Rattle.automata.specs.IntersectCall.{distinct, named, intersect_on, intersect_call}
use Rattle.automata.specs.ForecastCall.{forecast_of, forecast_call}
use Rattle.automata.specs.Join.{Lent, within, separate, join_steps, join}
use Rattle.pairs.specs.PairTests.{pairs_answer, join_pairs_answer, tapes_answer}

-- three tests and what follows them: the tests by themselves, and then what follows
three_then : {A : Type 0} (a b c : Bool) (k l m : ℕ) (rest : Answer A)
    → judge a k (judge b l (judge c m rest)) ≡ (judge a k (judge b l (judge c m (ok tt))) >>= λ (u : Unit {0}). rest)
three_then false b c k l m rest = refl
three_then true false c k l m rest = refl
three_then true true false k l m rest = refl
three_then true true true k l m rest = refl

-- ---- the auto-intersection
module _ {W : Type 0} (enough : Bool) (space : Space) (ps : List TapePair) (A : Automaton W) (tapes : ℕ) (e : A.tapes ≡ tapes) where
  pub intersect_then : intersect_call enough space ps A ≡ (pairs_answer tapes ps >>= λ (u : Unit {0}). judge enough refusal.space (intersect_on space ps A))
  unfolding intersect_call pairs_answer
  intersect_then =
      rw (← e)
      (three_then (all (is_tape A.tapes) (named (tapes_of ps))) (and (leb (length ps) max_pairs) (distinct (named (tapes_of ps)))) (limits_fit ps) refusal.tape refusal.pairs
      refusal.limit (judge enough refusal.space (intersect_on space ps A)))

-- ---- the forecast, which reads no limit
pub forecast_then : {W : Type 0} (enough : Bool) (ps : List Pair) (A : Automaton W) (tapes : ℕ) → A.tapes ≡ tapes
    → forecast_call enough ps A ≡ (tapes_answer tapes ps >>= λ (u : Unit {0}). judge enough refusal.space (ok (map (forecast_of A) ps)))
unfolding forecast_call tapes_answer
forecast_then enough ps A tapes e =
    rw (← e)
    (three_then (all (is_tape A.tapes) (named ps)) (and (leb (length ps) max_pairs) (distinct (named ps))) true refusal.tape refusal.pairs
    refusal.limit (judge enough refusal.space (ok (map (forecast_of A) ps))))

-- ---- the join, of tables with at most eight tapes together
module _ (S : OrderedSum) (fits : S.W → Bool) (lent : Lent) (ps : List TapePair) (A B : Automaton S.W) (n m : ℕ) (e : A.tapes ≡ n) (f : B.tapes ≡ m)
    (w : n + m ≤ 8) where
  pub join_then : join S fits lent ps A B ≡ (join_pairs_answer n m ps >>= λ (u : Unit {0}). judge lent.enough refusal.space (join_steps S fits lent ps A B))
  unfolding join join_pairs_answer
  join_then =
      rw (← e, ← f)
      (rw (same_width ∙ le-leb (n + m) max_tapes w)
      (three_then (within A.tapes B.tapes (tapes_of ps)) (separate (tapes_of ps)) (limits_fit ps) refusal.tape refusal.pairs refusal.limit
      (judge lent.enough refusal.space (join_steps S fits lent ps A B))))
    where
      same_width : leb (A.tapes + B.tapes) max_tapes ≡ leb (n + m) max_tapes
      same_width = rw (e, f)
