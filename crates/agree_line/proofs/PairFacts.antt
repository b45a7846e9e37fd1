-- Facts of pairs of tapes and their limits in columns: how they are judged, and what is kept of them.
use mathlib.Core.Path.{◌≡◌, refl, sym, ap, ap₂, ◌∙◌}
use mathlib.Core.List.{List, [], ◌∷◌}
use Prim.Native.Nat.{ℕ, zero, suc, ◌+◌, ◌-◌, ◌*◌, ◌≤◌, ◌<◌}
use native.Mathlib.Omega.{arith}
use lib.ListN.{length, take, drop, set, length-drop}
use lib.Seq.{take_all, drop-drop, length-take-le}
use Rattle.automata.specs.Answer.{◌>>=◌, ok, beside, forget}
use Rattle.automata.specs.TapePair.{TapePair}
use Rattle.automata.specs.Decimal.{decimal}
use Rattle.automata.specs.AgreeText.{pair_columns}
use Rattle.automata.proofs.AnswerFacts.{bind_ok, beside-ok, forget_map}
use Rattle.table.specs.Answers.{Judged, judged_as}
use Rattle.table.specs.Region.{splice}
use Rattle.table.proofs.AnswerFacts.{beside-next, beside_first, beside-last, both_judged}
use Rattle.table.proofs.RegionFacts.{two_stores, splice_snoc}
use Rattle.std.specs.Prelude.{Ok, Err}
use Rattle.std.specs.Result.{result_unwrap_or}
use Rattle.text_columns.specs.Columns.{Number, number_as, read_decimal}
use Rattle.text_store.specs.Recode.{recoded}
use Rattle.text_store.proofs.RecodeFacts.{recoded-copies}
use Rattle.agree_line.specs.PairBytes.{saturated, bytes_of_pair, pair_bytes}
use Rattle.agree_line.specs.PairColumns.{value_of, byte_of_column, read_pair, pairs_read, bytes_of_columns}
use Rattle.automata.specs.Layout.{entry_width, second_column, limit_column, pair_width}

-- the number that fills a list of a known length
pub decimal_at : (w : ℕ) (y : List ℕ) → length y ≡ w → read_decimal y ≡ (decimal w).read y
unfolding read_decimal
decimal_at w y e = ap (λ (k : ℕ). (decimal k).read y) e

-- ---- one pair

abbrev pair_of : ℕ × (ℕ × ℕ) → TapePair
pair_of p = record { first = p.0; second = p.1.0; limit = p.1.1 }

-- the three columns of a pair, one behind the other
abbrev first_column : List ℕ → List ℕ
first_column x = take entry_width x

abbrev second_column_lem : List ℕ → List ℕ
second_column_lem x = take entry_width (drop second_column x)

abbrev limit_column_lem : List ℕ → List ℕ
limit_column_lem x = take entry_width (drop limit_column x)

-- the three numbers side by side are the pair
pair_is : (x : List ℕ) → length x ≡ pair_width
    → read_pair x ≡ (beside (read_decimal (first_column x)) (beside (read_decimal (second_column_lem x)) (read_decimal (limit_column_lem x))) >>= λ p. ok (pair_of p))
unfolding read_pair
pair_is x l =
    let d = length-drop second_column x in
    let e = length-drop 6 x in
    rw (
      decimal_at entry_width (first_column x) (length-take-le entry_width x (omega arith)),
      decimal_at entry_width (second_column_lem x) (length-take-le entry_width (drop second_column x) (omega arith)),
      decimal_at entry_width (limit_column_lem x) (length-take-le entry_width (drop limit_column x) (omega arith)),
      drop-drop entry_width second_column x,
      take_all entry_width (drop limit_column x) (omega arith),
    )

module _ (x : List ℕ) (l : length x ≡ pair_width) (F S L : Number) (jf js jl jb j : Judged)
    (pf : number_as F ≡ read_decimal (first_column x)) (ps : number_as S ≡ read_decimal (second_column_lem x)) (pl : number_as L ≡ read_decimal (limit_column_lem x))
    (qf : judged_as jf ≡ forget (number_as F)) (qs : judged_as js ≡ forget (number_as S)) (ql : judged_as jl ≡ forget (number_as L))
    (qb : judged_as jb ≡ forget (beside (judged_as js) (judged_as jl))) (qj : judged_as j ≡ forget (beside (judged_as jf) (judged_as jb))) where
  -- three numbers judged side by side are the pair judged
  pub pair_judged : judged_as j ≡ forget (read_pair x)
  pair_judged =
      let A = read_decimal (first_column x) in
      let B = read_decimal (second_column_lem x) in
      let C = read_decimal (limit_column_lem x) in
      let b : judged_as jb ≡ forget (beside B C) = both_judged (judged_as js) (judged_as jl) (judged_as jb) B C (qs ∙ ap forget ps) (ql ∙ ap forget pl) qb in
      both_judged (judged_as jf) (judged_as jb) (judged_as j) A (beside B C) (qf ∙ ap forget pf) b qj
      ∙ sym (ap forget (pair_is x l) ∙ forget_map (beside A (beside B C)) pair_of)

-- ---- pairs, one after the other

-- before the first pair
pub pairs_start : (x : List ℕ) (n : ℕ) → forget (beside (ok (tt {0})) (pairs_read n (drop 0 x))) ≡ forget (pairs_read n x)
pairs_start x n = beside_first (pairs_read n x)

-- a turn of the loop over the pairs
pub pairs_turn : (x : List ℕ) (at left : ℕ) (j k next : Judged) → 0 < left → judged_as k ≡ forget (read_pair (take (at + pair_width - at) (drop at x)))
    → judged_as next ≡ forget (beside (judged_as j) (judged_as k))
    → forget (beside (judged_as next) (pairs_read (left - 1) (drop (at + pair_width) x))) ≡ forget (beside (judged_as j) (pairs_read left (drop at x)))
unfolding pairs_read read_pair
pairs_turn x at zero j k next h e f = absurd (omega arith)
pairs_turn x at (suc left) j k next h e f =
    let s : suc left - 1 ≡ left = omega arith in
    let n : at + pair_width - at ≡ pair_width = omega arith in
    rw (s, f, e, n, ← drop-drop pair_width at x) (beside-next (judged_as j) (read_pair (take pair_width (drop at x))) (pairs_read left (drop pair_width (drop at x))) (λ p. p.0 ∷ p.1))

-- behind the last pair
pub pairs_end : (x : List ℕ) (at left : ℕ) (j : Judged) → left ≡ 0 → judged_as j ≡ forget (beside (judged_as j) (pairs_read left (drop at x)))
unfolding pairs_read
pairs_end x at left j e = rw e (beside-last (judged_as j) [])

-- ---- what is kept of a pair

value_is : (n : Number) → result_unwrap_or n 0 ≡ value_of (number_as n)
value_is (Ok n) = refl
value_is (Err k) = refl

-- the byte of a number that was read
pub byte_kept : (x : List ℕ) (n : Number) (m r : ℕ) → number_as n ≡ read_decimal x → m ≡ result_unwrap_or n 0 → r ≡ saturated m → r ≡ byte_of_column x
byte_kept x n m r p q e = e ∙ ap saturated (q ∙ value_is n ∙ ap value_of p)

-- three stores write the bytes of a pair
pub pair_stored : (x xs : List ℕ) (at u v w : ℕ) → at + 3 ≤ length xs → u ≡ byte_of_column (first_column x) → v ≡ byte_of_column (second_column_lem x)
    → w ≡ byte_of_column (limit_column_lem x) → set (set (set xs at u) (at + 1) v) (at + 2) w ≡ splice at (bytes_of_columns x) xs
unfolding bytes_of_columns
pair_stored x xs at u v w h e f g =
    ap (λ (l : List ℕ). set l (at + 2) w) (two_stores at u v xs (omega arith)) ∙ splice_snoc at (u ∷ v ∷ []) xs w (omega arith) ∙ rw (e, f, g)

-- a pair has three bytes
pub pair_sized : (y : List ℕ) → length y ≡ pair_width → length (bytes_of_columns y) ≡ 3
unfolding bytes_of_columns
pair_sized y l = refl

each_pair : (y : List ℕ) (p : TapePair) → length y ≡ pair_width → pair_columns.read y ≡ ok p → bytes_of_columns y ≡ bytes_of_pair p
unfolding bytes_of_columns read_pair
each_pair y p l r =
    let A = read_decimal (first_column y) in
    let B = read_decimal (second_column_lem y) in
    let C = read_decimal (limit_column_lem y) in
    let s = bind_ok (beside A (beside B C)) (λ q. ok (pair_of q)) p (sym (pair_is y l) ∙ r) in
    let t = beside-ok A (beside B C) s.0 s.1 in
    let u = beside-ok B C s.0.1 t.1 in
    let q : pair_of s.0 ≡ p = cc s.2 in
    ap₂ (λ (a : ℕ) (bs : List ℕ). saturated a ∷ bs) (ap value_of t.0) (ap₂ (λ (a b : ℕ). saturated a ∷ saturated b ∷ []) (ap value_of u.0) (ap value_of u.1))
    ∙ ap bytes_of_pair q

-- the bytes kept of pairs that are read are the bytes of these pairs
pub pairs_kept : (n : ℕ) (x : List ℕ) (ps : List TapePair) → n * pair_width ≤ length x → pairs_read n x ≡ ok ps → recoded bytes_of_columns pair_width n x ≡ pair_bytes ps
unfolding pairs_read pair_bytes
pairs_kept n x ps h r = recoded-copies pair_columns bytes_of_pair bytes_of_columns each_pair n x ps h r
