-- What is known of pairs that name tapes.
use Prim.Native.Nat.{ℕ, zero, suc, ◌+◌, ◌≤◌, ◌<◌}
use mathlib.Core.Path.{◌≡◌, refl, ap, ◌∙◌}
use mathlib.Core.Bool.{Bool, true, false}
use mathlib.Core.Option.{some}
use mathlib.Core.List.{List, [], ◌∷◌, map}
use native.Mathlib.Omega.{arith}
use lib.Dec.{T, leb, leb→le}
use lib.ListN.{length, get_or, get_elem?, take, get_or-eq_default}
use lib.Seq.{length-take-le}
use borrow.Author.Tests.{leb-true, leb-false}
use Rattle.automata.specs.Lists.{all, All}
use Rattle.automata.specs.TapePair as automata
use Rattle.automata.specs.Projection.{is_tape}
use Rattle.automata.specs.IntersectCall.{named}
use Rattle.automata.proofs.ListFacts.{placed, place_append}
use Rattle.automata.proofs.TestFacts.{true_T, and_T, all_∈}
use Rattle.automata.proofs.Membership.{place_map, place_take, place_append_right}
use Rattle.table.specs.Pairs.{pair_as, pairs_as, no_pair, Within, Named}
use Rattle.table.specs.declared.pair.Pair.{Pair}
use Rattle.table.specs.declared.pair.PairList.{PairList}

module _ {A : Type 0} (d : A) where
  -- what holds at each of the first n places holds of the first n elements
  pub All_front : (P : A → Type 0) (n : ℕ) (xs : List A) → n ≤ length xs → ((h : ℕ) → h < n → P (get_or xs h d)) → All P (take n xs)
  All_front P zero xs l f = tt
  All_front P (suc n) [] l f = absurd (omega arith)
  All_front P (suc n) (x ∷ xs) l f = (f 0 (omega arith), All_front P n xs (omega arith) (λ h k. f (suc h) (omega arith)))

module _ (tapes : ℕ) (ps : PairList) (n : Named tapes ps) where
  -- there are as many pairs as are used
  pub named_fit : ps.used ≤ length ps.pairs
  named_fit = go (leb ps.used (length ps.pairs)) refl
    where
      go : (b : Bool) → leb ps.used (length ps.pairs) ≡ b → ps.used ≤ length ps.pairs
      go true e = leb-true _ _ e
      go false e =
          let w = n.each (length ps.pairs) (leb-false _ _ e) in
          let p : (get_or ps.pairs (length ps.pairs) no_pair).first ≡ 0 = ap (λ (q : Pair). q.first) (get_or-eq_default ps.pairs no_pair (omega arith)) in
          absurd (omega (arith, w.first_from, p))

  pub length_front : length (take ps.used ps.pairs) ≡ ps.used
  length_front = length-take-le ps.used ps.pairs named_fit

  -- each of them names tapes
  pub named-all : All (Within tapes) (take ps.used ps.pairs)
  named-all = All_front no_pair (Within tapes) ps.used ps.pairs named_fit n.each

-- ---- the test for pairs that name tapes

-- a number that is a tape
tape-range : (tapes k : ℕ) → T (is_tape tapes k) → (1 ≤ k) × (k ≤ tapes)
tape-range tapes k t = let (a, b) = and_T (leb 1 k) (leb k tapes) t in (leb→le 1 k a, leb→le k tapes b)

-- pairs that pass the test of the definitions name tapes
pub named-tested : (tapes : ℕ) (ps : PairList) → ps.used ≤ length ps.pairs → ps.used ≤ 4 → all (is_tape tapes) (named (automata.tapes_of (pairs_as ps))) ≡ true → Named tapes ps
named-tested tapes ps l four e = record { used_fit = four; each = each }
  where
    each : (h : ℕ) → h < ps.used → Within tapes (get_or ps.pairs h no_pair)
    each h lt =
        let p = get_or ps.pairs h no_pair in
        let ms = automata.tapes_of (pairs_as ps) in
        let firsts : List ℕ = map (λ q. q.first) ms in
        let seconds : List ℕ = map (λ q. q.second) ms in
        let pair_of : automata.TapePair → automata.Pair = λ q. record { first = q.first; second = q.second } in
        let at : get_elem? ms h ≡ some (pair_of (pair_as p)) =
        place_map pair_of (pairs_as ps) h (place_map pair_as (take ps.used ps.pairs) h (place_take ps.used ps.pairs h no_pair lt (omega arith))) in
        let t : T (all (is_tape tapes) (named ms)) = true_T _ e in
        let a = placed (named ms) h (place_append firsts seconds h (place_map {A = automata.Pair} (λ q. q.first) ms h at)) in
        let b = placed (named ms) (length firsts + h) (place_append_right firsts seconds h ∙ place_map {A = automata.Pair} (λ q. q.second) ms h at) in
        let x = tape-range tapes p.first (all_∈ (is_tape tapes) (named ms) p.first t a) in
        let y = tape-range tapes p.second (all_∈ (is_tape tapes) (named ms) p.second t b) in
        record { first_from = x.0; first_to = x.1; second_from = y.0; second_to = y.1 }
