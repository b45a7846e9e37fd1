-- Refusals of answers that are judged step by step: which step refused, and what a step that refuses makes of the
-- whole.
use mathlib.Core.Path.{◌≡◌, refl, ◌∙◌, ap}
use mathlib.Core.Logic.{◌⊎◌, inl, inr, ⊎_elim}
use mathlib.Core.Bool.{Bool, true, false}
use Prim.Native.Nat.{ℕ, ◌≤◌, ◌<◌}
use lib.Dec.{ltb}
use Rattle.automata.specs.Answer.{◌>>=◌, Answer, ok, refused, require, judge}
use Rattle.automata.proofs.TestFacts
use Rattle.automata.proofs.AnswerFacts.{judge-goes_on, then_goes_on}

-- the number of a refusal
refused_injective : {X : Type 0} {n m : ℕ} → ◌≡◌ {A = Answer X} (refused n) (refused m) → n ≡ m
refused_injective e = cc

-- a test before an answer: the answer refuses because the test fails, or because what follows does
pub judge-cases : {X : Type 0} (b : Bool) (k : ℕ) (r : Answer X) (n : ℕ) → judge b k r ≡ refused n
    → ((b ≡ false) × (k ≡ n)) ⊎ ((b ≡ true) × (r ≡ refused n))
judge-cases true k r n e = inr (refl, e)
judge-cases false k r n e = inl (refl, refused_injective e)

pub judge_on : {X : Type 0} (b : Bool) (k : ℕ) (r : Answer X) (n : ℕ) → b ≡ true → r ≡ refused n → judge b k r ≡ refused n
judge_on b k r n e q = judge-goes_on b k r e ∙ q

-- one answer after another: the first refuses, or it gives a value with which the second does
pub bind-cases : {X Y : Type 0} (r : Answer X) (k : X → Answer Y) (n : ℕ) → (r >>= k) ≡ refused n → (r ≡ refused n) ⊎ ((x : X) × (r ≡ ok x) × (k x ≡ refused n))
bind-cases (ok x) k n e = inr (x, refl, e)
bind-cases (refused m) k n e = inl (ap refused (refused_injective e))

pub then_on : {X Y : Type 0} (r : Answer X) (k : X → Answer Y) (x : X) (n : ℕ) → r ≡ ok x → k x ≡ refused n → (r >>= k) ≡ refused n
then_on r k x n e q = then_goes_on r k x e ∙ q

-- more than n, or at most n
pub over-or-within : (m n : ℕ) → (n < m) ⊎ (m ≤ n)
over-or-within m n = ⊎_elim (λ e. inl (TestFacts.ltb_true e)) (λ e. inr (TestFacts.ltb_false e)) (TestFacts.decide (ltb n m))

-- the same of a test that stands alone
pub require-cases : {X : Type 0} (b : Bool) (k : ℕ) (f : Unit {0} → Answer X) (n : ℕ) → (require b k >>= f) ≡ refused n
    → ((b ≡ false) × (k ≡ n)) ⊎ ((b ≡ true) × (f tt ≡ refused n))
require-cases true k f n e = inr (refl, e)
require-cases false k f n e = inl (refl, refused_injective e)

pub require_refuses : {X : Type 0} (b : Bool) (k : ℕ) (f : Unit {0} → Answer X) → b ≡ false → (require b k >>= f) ≡ refused k
require_refuses b k f e = ap (λ b. require b k >>= f) e

pub require-goes_on : {X : Type 0} (b : Bool) (k : ℕ) (f : Unit {0} → Answer X) (n : ℕ) → b ≡ true → f tt ≡ refused n
    → (require b k >>= f) ≡ refused n
require-goes_on b k f n e q = ap (λ b. require b k >>= f) e ∙ q
