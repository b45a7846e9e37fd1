-- The line of a refusal, written part by part.
use mathlib.Core.Path.{◌≡◌, refl, sym, ap, ◌∙◌}
use mathlib.Core.List.{List, [], ◌∷◌, ◌++◌}
use Prim.Native.Nat.{ℕ, ◌+◌, ◌≤◌}
use native.Mathlib.Omega.{arith}
use lib.ListN.{length, set, length-append}
use Rattle.automata.specs.Answer.{refused}
use Rattle.automata.specs.AgreeText.{write_output}
use Rattle.automata.specs.Calls.Outcome.{overwrite}
use Rattle.automata.specs.Layout.{newline}
use Rattle.table.specs.Region.{splice}
use Rattle.table.proofs.RegionFacts.{splice-behind, splice_snoc, splice_front}
use Rattle.text_columns.specs.Columns.{decimal_text}
use Rattle.text_columns.proofs.WriteFacts.{length_decimal}

-- the word that it starts with
abbrev word : List ℕ
word = 114 ∷ 101 ∷ 102 ∷ 117 ∷ 115 ∷ 101 ∷ 100 ∷ []

refusal_is : (k : ℕ) → (word ++ decimal_text 4 k) ++ (newline ∷ []) ≡ write_output (refused k)
unfolding write_output decimal_text
refusal_is k = refl

before_end : (k : ℕ) → length (word ++ decimal_text 4 k) ≡ 11
before_end k = length-append word (decimal_text 4 k) ∙ ap (λ (n : ℕ). 7 + n) (length_decimal 4 k)

-- the line of a refusal has 12 bytes
pub refusal_length : (k : ℕ) → length (write_output (refused k)) ≡ 12
refusal_length k = ap length (sym (refusal_is k)) ∙ length-append (word ++ decimal_text 4 k) (newline ∷ []) ∙ ap (λ (n : ℕ). n + 1) (before_end k)

-- its parts, written one after the other
pub refusal-written : (m k : ℕ) (xs us vs : List ℕ) → 12 ≤ length xs → m ≡ k → us ≡ splice 0 word xs → vs ≡ splice 7 (decimal_text 4 m) us
    → set vs 11 newline ≡ overwrite (write_output (refused k)) xs
refusal-written m k xs us vs h e f g =
    let ys = word ++ decimal_text 4 m in
    let l = length_decimal 4 m in
    let e₁ = before_end m in
    let b : 11 ≡ 0 + length ys = omega arith in
    ap (λ (z : List ℕ). set z 11 newline) (splice-behind 0 7 word (decimal_text 4 m) xs us vs f g refl (omega arith))
    ∙ ap (λ (i : ℕ). set (splice 0 ys xs) i newline) b ∙ splice_snoc 0 ys xs newline (omega arith)
    ∙ ap (λ (z : List ℕ). splice 0 z xs) (refusal_is m) ∙ splice_front (write_output (refused m)) xs
    ∙ ap (λ (i : ℕ). overwrite (write_output (refused i)) xs) e
