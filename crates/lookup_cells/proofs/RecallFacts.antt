-- The memo of a combination, from what each call gave.
use mathlib.Core.Path.{◌≡◌, refl, sym, ap, ◌∙◌}
use mathlib.Core.Logic.{◌≢◌}
use mathlib.Core.Option.{Option, none, some}
use mathlib.Core.List.{List}
use Prim.Native.Nat.{ℕ, suc, ◌+◌, ◌*◌, ◌≤◌, ◌<◌}
use native.Mathlib.Decide.{ℕ_discrete}
use native.Mathlib.Omega.{arith}
use lib.ListN.{length, get_or, set, length-set, replicate, length-replicate, get_or-replicate}
use lib.Seq.{get_or-set_same, get_or-set_other}
use Rattle.lookup_moves.specs.declared.spot.Spot.{Spot}
use Rattle.lookup_moves.specs.Moves.{spot_with, Labelled}
use Rattle.lookup_moves.proofs.MoveFacts.{moves_any, moves_alike}
use Rattle.lookup_labels.specs.Numbers.{Numbered}
use Rattle.lookup_cells.specs.Pushes.{back_by}
use Rattle.lookup_cells.specs.Recall.{back_number, back_at, Fresh, Recalls}
use Rattle.automata.specs.Layout.{arc_size}
use Rattle.table.specs.Arcs.{labels_start}

-- ---- the number of a move

-- one that is too large for a combination stands for no move
back_none : (o : Option ℕ) (by number : ℕ) → by ≡ back_number o → ((k : ℕ) → o ≡ some k → k ≤ number) → number < by → o ≡ none
back_none none by number e h lt = refl
back_none (some k) by number e h lt = absurd (omega (arith, e, lt, h k refl))

-- another one for itself
back_some : (o : Option ℕ) (by number : ℕ) → by ≡ back_number o → by ≤ number → number < 18446744073709551615 → o ≡ some by
back_some none by number e at_most small = absurd (omega (arith, e, at_most, small))
back_some (some k) by number e at_most small = ap some (sym e)

-- at a combination with this number
module _ (tapes e : ℕ) (arcs text starts positions spans : List ℕ) (number all by : ℕ) (found : by ≡ back_number (back_at tapes arcs text starts positions spans e)) where
  any : back_by tapes e arcs text (spot_with starts positions spans number all) ≡ back_at tapes arcs text starts positions spans e
  any = moves_any starts positions spans number all 0 0 tapes 0 (labels_start (arc_size * e)) 0 arcs text

  pub leads-none : ((k : ℕ) → back_by tapes e arcs text (spot_with starts positions spans number all) ≡ some k → k ≤ number) → number < by
      → back_by tapes e arcs text (spot_with starts positions spans number all) ≡ none
  leads-none h lt = any ∙ back_none (back_at tapes arcs text starts positions spans e) by number found (λ k z. h k (any ∙ z)) lt

  pub leads_some : by ≤ number → number < 18446744073709551615 → back_by tapes e arcs text (spot_with starts positions spans number all) ≡ some by
  leads_some at_most small = any ∙ back_some (back_at tapes arcs text starts positions spans e) by number found at_most small

-- ---- a memo for one combination

-- nothing was asked
pub fresh_none : (memo : List ℕ) → memo ≡ replicate 2048 18446744073709551615 → Fresh 18446744073709551615 memo
fresh_none memo e = record {
  size_is = ap length e ∙ length-replicate {A = ℕ} 2048 18446744073709551615;
  asked = λ k lt. omega (arith, ap (λ (xs : List ℕ). get_or xs k 0) e ∙ get_or-replicate {A = ℕ} 2048 k 18446744073709551615 0 (omega arith));
}

-- what was asked of no combination below a number was asked of none below a lesser one
pub fresh_below : (a b : ℕ) (memo : List ℕ) → b ≤ a → Fresh a memo → Fresh b memo
fresh_below a b memo at_most f = record { size_is = f.size_is; asked = λ k lt. omega (arith, f.asked k lt, at_most) }

-- the next combination was not asked of
pub recalls_start : (left number n : ℕ) (back : ℕ → Option ℕ) (numbers memo : List ℕ) → left ≡ suc number → Fresh left memo → Recalls number n back numbers memo
recalls_start left number n back numbers memo d f = record {
  fresh = fresh_below left number memo (omega (arith, d)) f;
  each = λ e lt small known. absurd (omega (arith, f.asked (get_or numbers e 0) small, known, d));
}

module _ (number n : ℕ) (back : ℕ → Option ℕ) (numbers memo : List ℕ) (h : Recalls number n back numbers memo) (e k : ℕ) (in_all : e < n) (own : k ≡ get_or numbers e 0) (small : k < 1024) where
  -- an answer that is known
  pub recall_known : (a x : ℕ) → a ≡ get_or memo k 0 → x ≡ get_or memo (1024 + k) 0 → a ≡ number → x ≡ back_number (back e)
  recall_known a x p q known = q ∙ ap (λ (i : ℕ). get_or memo (1024 + i) 0) own
      ∙ h.each e in_all (omega (arith, own, small)) (sym (ap (λ (i : ℕ). get_or memo i 0) own) ∙ sym p ∙ known)

  -- an answer that is kept
  module _ (x : ℕ) (found : x ≡ back_number (back e)) (alike : (f : ℕ) → f < n → get_or numbers f 0 ≡ k → back f ≡ back e) where
    with_answer : List ℕ
    with_answer = set memo (1024 + k) x

    answer_size : length with_answer ≡ 2048
    unfolding with_answer
    answer_size = length-set memo (1024 + k) x ∙ h.fresh.size_is

    kept : List ℕ
    kept = set with_answer k number

    asked_own : get_or kept k 0 ≡ number
    unfolding kept
    asked_own = get_or-set_same with_answer k number 0 (omega (arith, answer_size, small))

    asked_other : (j : ℕ) → j < 1024 → j ≢ k → get_or kept j 0 ≡ get_or memo j 0
    unfolding kept with_answer
    asked_other j lt ne =
        get_or-set_other with_answer k j number 0 ne ∙ get_or-set_other memo (1024 + k) j x 0 (λ same. omega (arith, same, lt))

    answer_own : get_or kept (1024 + k) 0 ≡ x
    unfolding kept with_answer
    answer_own = get_or-set_other with_answer k (1024 + k) number 0 (λ same. omega (arith, same))
        ∙ get_or-set_same memo (1024 + k) x 0 (omega (arith, h.fresh.size_is, small))

    answer_other : (j : ℕ) → j < 1024 → j ≢ k → get_or kept (1024 + j) 0 ≡ get_or memo (1024 + j) 0
    unfolding kept with_answer
    answer_other j lt ne = get_or-set_other with_answer k (1024 + j) number 0 (λ same. omega (arith, same, small))
        ∙ get_or-set_other memo (1024 + k) (1024 + j) x 0 (λ same. ne (omega (arith, same)))

    kept_asked : (j : ℕ) → j < 1024 → Dec (j ≡ k) → number ≤ get_or kept j 0
    kept_asked j lt (yes same) = omega (arith, ap (λ (i : ℕ). get_or kept i 0) same, asked_own)
    kept_asked j lt (no ne) = omega (arith, asked_other j lt ne, h.fresh.asked j lt)

    kept_each : (f : ℕ) → f < n → get_or numbers f 0 < 1024 → get_or kept (get_or numbers f 0) 0 ≡ number → Dec (get_or numbers f 0 ≡ k)
        → get_or kept (1024 + get_or numbers f 0) 0 ≡ back_number (back f)
    kept_each f lt fits known (yes same) = ap (λ (i : ℕ). get_or kept (1024 + i) 0) same ∙ answer_own ∙ found ∙ sym (ap back_number (alike f lt same))
    kept_each f lt fits known (no ne) = answer_other (get_or numbers f 0) fits ne ∙ h.each f lt fits (sym (asked_other (get_or numbers f 0) fits ne) ∙ known)

    pub recall_kept : Recalls number n back numbers (set (set memo (1024 + k) x) k number)
    unfolding kept with_answer
    recall_kept = record {
      fresh = record { size_is = length-set with_answer k number ∙ answer_size; asked = λ j lt. kept_asked j lt (ℕ_discrete j k) };
      each = λ f lt fits known. kept_each f lt fits known (ℕ_discrete (get_or numbers f 0) k);
    }

-- arcs with the same labels lead alike
pub back_alike : (tapes n e f k : ℕ) (arcs text numbers : List ℕ) (s : Spot) → tapes ≤ 8 → ((g : ℕ) → g < n → Labelled arcs (labels_start (arc_size * g))) → Numbered tapes n arcs numbers
    → e < n → k ≡ get_or numbers e 0 → k < 1024 → f < n → get_or numbers f 0 ≡ k → back_by tapes f arcs text s ≡ back_by tapes e arcs text s
back_alike tapes n e f k arcs text numbers s few labelled h in_all own small lt same =
    moves_alike arcs text tapes 0 (labels_start (arc_size * f)) (labels_start (arc_size * e)) 0 s (omega (arith, (labelled f lt).lent, few)) (omega (arith, (labelled e in_all).lent, few))
    (λ j l. (labelled f lt).short j (omega (arith, l, few))) (h.alike f e lt in_all (same ∙ own) (omega (arith, own, small)))
