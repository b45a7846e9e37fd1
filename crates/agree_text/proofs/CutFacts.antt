-- Keeping tapes and limits as bytes does no harm: a tape that is cut is in no table, and a limit that is cut is above
-- 64, before and after.
use mathlib.Core.Path.{◌≡◌, refl, sym, ap, ap₂, ◌∙◌}
use mathlib.Core.Bool.{Bool, true, false}
use mathlib.Core.List.{List, [], ◌∷◌}
use Prim.Native.Nat.{ℕ, suc, ◌≤◌}
use native.Mathlib.Omega.{arith}
use lib.Dec.{T, leb, leb→le, le→leb}
use lib.ListN.{length}
use Rattle.automata.specs.Limits.{max_delay, max_pairs}
use Rattle.automata.specs.Refusal
use Rattle.automata.specs.Lists.{and, all}
use Rattle.automata.specs.Answer.{Answer, refused, judge}
use Rattle.automata.specs.Space.{Space}
use Rattle.automata.specs.Automaton.{Automaton}
use Rattle.automata.specs.TapePair.{Pair, TapePair, tapes_of, limits_fit}
use Rattle.automata.specs.Projection.{is_tape}
use Rattle.automata.specs.Join.{within}
use Rattle.automata.specs.IntersectCall.{distinct, named, intersect_call}
use Rattle.automata.proofs.TestFacts.{T_same, and_T, T_and}
use Rattle.automata.proofs.AnswerFacts.{judge_refuses}
use Rattle.pairs.specs.PairBytes.{pairs_of}
use Rattle.pairs.proofs.TestFacts.{within-named}
use Rattle.agree_line.specs.PairBytes.{saturated, pair_bytes}

-- the pairs that the bytes of pairs hold
abbrev cut : List TapePair → List TapePair
cut ps = pairs_of (pair_bytes ps)

-- they are as many
length_cut : (ps : List TapePair) → length (cut ps) ≡ length ps
unfolding pair_bytes pairs_of
length_cut [] = refl
length_cut (p ∷ ps) = ap suc (length_cut ps)

-- ---- limits

-- a limit is in range where its byte is, and then it is its byte
limit-cut : (l : ℕ) → leb (saturated l) max_delay ≡ leb l max_delay
limit-cut l = T_same (leb (saturated l) max_delay) (leb l max_delay)
    (λ t. let h = leb→le (saturated l) max_delay t in le→leb l max_delay (omega arith))
    (λ t. let h = leb→le l max_delay t in le→leb (saturated l) max_delay (omega arith))

limit_uncut : (l : ℕ) → T (leb l max_delay) → saturated l ≡ l
limit_uncut l t = let h = leb→le l max_delay t in omega arith

-- the same of every limit
limits_cut : (ps : List TapePair) → limits_fit (cut ps) ≡ limits_fit ps
unfolding pair_bytes pairs_of
limits_cut [] = refl
limits_cut (p ∷ ps) = ap₂ and (limit-cut p.limit) (limits_cut ps)

-- ---- tapes

module _ (n : ℕ) (h : n ≤ 8) where
  in_range : (j : ℕ) → T (is_tape n j) → (1 ≤ j) × (j ≤ n)
  in_range j t = let s = and_T (leb 1 j) (leb j n) t in (leb→le 1 j s.0, leb→le j n s.1)

  range_in : (j : ℕ) → 1 ≤ j → j ≤ n → T (is_tape n j)
  range_in j a b = T_and (leb 1 j) (leb j n) (le→leb 1 j a) (le→leb j n b)

  -- a number is a tape where its byte is, and then it is its byte
  tape-cut : (j : ℕ) → is_tape n (saturated j) ≡ is_tape n j
  tape-cut j = T_same (is_tape n (saturated j)) (is_tape n j)
      (λ t. let r = in_range (saturated j) t in range_in j (omega arith) (omega arith))
      (λ t. let r = in_range j t in range_in (saturated j) (omega arith) (omega arith))

  tape_uncut : (j : ℕ) → T (is_tape n j) → saturated j ≡ j
  tape_uncut j t = let r = in_range j t in omega arith

  -- the same of pairs
  within-cut : (ps : List TapePair) → within n n (tapes_of (cut ps)) ≡ within n n (tapes_of ps)
  unfolding pair_bytes pairs_of
  within-cut [] = refl
  within-cut (p ∷ ps) = ap₂ and (ap₂ and (tape-cut p.first) (tape-cut p.second)) (within-cut ps)

  tapes_uncut : (ps : List TapePair) → T (within n n (tapes_of ps)) → tapes_of (cut ps) ≡ tapes_of ps
  unfolding pair_bytes pairs_of
  tapes_uncut [] t = refl
  tapes_uncut (p ∷ ps) t =
      let s = and_T (and (is_tape n p.first) (is_tape n p.second)) (within n n (tapes_of ps)) t in
      let u = and_T (is_tape n p.first) (is_tape n p.second) s.0 in
      ap₂ (λ (q : Pair) (qs : List Pair). q ∷ qs) (λ i. record { first = tape_uncut p.first u.0 i; second = tape_uncut p.second u.1 i }) (tapes_uncut ps s.1)

  -- pairs of such tapes and such limits are held as they are
  pairs_uncut : (ps : List TapePair) → T (within n n (tapes_of ps)) → T (limits_fit ps) → cut ps ≡ ps
  unfolding pair_bytes pairs_of
  pairs_uncut [] t f = refl
  pairs_uncut (p ∷ ps) t f =
      let s = and_T (and (is_tape n p.first) (is_tape n p.second)) (within n n (tapes_of ps)) t in
      let u = and_T (is_tape n p.first) (is_tape n p.second) s.0 in
      let l = and_T (leb p.limit max_delay) (limits_fit ps) f in
      ap₂ (λ (q : TapePair) (qs : List TapePair). q ∷ qs)
      (λ i. record { first = tape_uncut p.first u.0 i; second = tape_uncut p.second u.1 i; limit = limit_uncut p.limit l.0 i })
      (pairs_uncut ps s.1 l.1)

-- an auto-intersection called with the bytes of pairs answers as one called with the pairs
pub cut_harmless : (enough : Bool) (space : Space) (ps : List TapePair) (A : Automaton ℕ) → A.tapes ≤ 8
    → intersect_call enough space (cut ps) A ≡ intersect_call enough space ps A
unfolding intersect_call
cut_harmless enough space ps A h = go (within n n (tapes_of ps)) (limits_fit ps) refl refl
  where
    n : ℕ
    n = A.tapes

    -- tests 5 and 6, and what follows them
    tested : List Pair → ℕ → Answer (Automaton ℕ) → Answer (Automaton ℕ)
    tested ts k rest = judge (all (is_tape n) (named ts)) Refusal.tape (judge (and (leb k max_pairs) (distinct (named ts))) Refusal.pairs rest)

    go : (b c : Bool) → within n n (tapes_of ps) ≡ b → limits_fit ps ≡ c → intersect_call enough space (cut ps) A ≡ intersect_call enough space ps A
    go false c e f =
        judge_refuses (all (is_tape n) (named (tapes_of (cut ps)))) _ _ (sym (within-named n (tapes_of (cut ps))) ∙ within-cut n h ps ∙ e)
        ∙ sym (judge_refuses (all (is_tape n) (named (tapes_of ps))) _ _ (sym (within-named n (tapes_of ps)) ∙ e))
    go true true e f = ap (λ (qs : List TapePair). intersect_call enough space qs A) (pairs_uncut n h ps (rw e tt) (rw f tt))
    go true false e f =
        ap (tested (tapes_of (cut ps)) (length (cut ps))) (judge_refuses (limits_fit (cut ps)) _ _ (limits_cut ps ∙ f))
        ∙ ap₂ (λ (ts : List Pair) (k : ℕ). tested ts k (refused Refusal.limit)) (tapes_uncut n h ps (rw e tt)) (length_cut ps)
        ∙ sym (ap (tested (tapes_of ps) (length ps)) (judge_refuses (limits_fit ps) _ _ f))
