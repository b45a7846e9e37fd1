-- Judgements: two side by side, and what is known once the value of an answer is forgotten.
use mathlib.Core.Path.{◌≡◌, refl, ap, ◌∙◌}
use mathlib.Core.Bool.{Bool, true, false}
use Prim.Native.Nat.{ℕ, min}
use native.Mathlib.Omega.{arith}
use mathlib.Core.List.{List, [], ◌∷◌}
use mathlib.Core.Bool.{cond}
use lib.Dec.{ltb}
use lib.IntN.{ℤ, pos}
use lib.ListN.{get_or}
use denote.Enum.Declared.{tag_of}
use Rattle.std.proofs.Common.{Less, Equal, Greater}
use Rattle.std.proofs.lemmas.Bool.Decides.{nat_tests}
use Rattle.std.specs.Ordering.{ord_min}
use Rattle.automata.specs.Answer.{◌>>=◌, Answer, ok, refused, forget, check, require, beside}
use Rattle.automata.proofs.AnswerFacts.{refused≢ok, forget-beside}
use Rattle.table.specs.Answers.{refusal_number}
use Rattle.table.specs.declared.answer.Refusal.{Refusal}
use Rattle.table.specs.declared.answer.Refusal.TheVariants.{Short, Form, Size, State, Tape, Pairs, Limit, StatesFull, ArcsFull, Delay, Weight, Width, Space, Path}
use Rattle.table.specs.contracts.answer.Refusal.{the_type}
use Rattle.table.specs.contracts.answer.RefusalOrd.TheImpl as order
use Rattle.std.specs.Prelude.{Result, Ok, Err, IsErrAnd}

-- ---- refusals by their numbers

-- the number that stands at each case of the declaration
abbrev numbers : List ℤ
numbers = pos 1 ∷ pos 2 ∷ pos 3 ∷ pos 4 ∷ pos 5 ∷ pos 6 ∷ pos 7 ∷ pos 8 ∷ pos 9 ∷ pos 10 ∷ pos 11 ∷ pos 12 ∷ pos 13 ∷ pos 14 ∷ []

-- it is that of the list
tagged : (r : Refusal) → get_or numbers (tag_of the_type r) (pos 0) ≡ pos (refusal_number r)
tagged Short = refl
tagged Form = refl
tagged Size = refl
tagged State = refl
tagged Tape = refl
tagged Pairs = refl
tagged Limit = refl
tagged StatesFull = refl
tagged ArcsFull = refl
tagged Delay = refl
tagged Weight = refl
tagged Width = refl
tagged Space = refl
tagged Path = refl

-- refusals are in the order of their numbers
by_number : (m n : Refusal) → (order.cmp-value).it m n ≡ cond (ltb (refusal_number m) (refusal_number n)) Less (cond (ltb (refusal_number n) (refusal_number m)) Greater Equal)
by_number m n = rw (tagged m, tagged n)

-- the lesser of two refusals has the lesser number
pub lesser : (m n : Refusal) → refusal_number (ord_min (order.cmp-value).it m n) ≡ min (refusal_number m) (refusal_number n)
lesser m n = grind (arith, nat_tests, by_number n m)

-- a refusal that is handed on is the same
pub handed_on : {A : Type 0} (r : Result A Refusal) (e : Refusal) → IsErrAnd r (λ y. y ≡ e) → r ≡ Err e
handed_on (Ok a) e p = absurd p
handed_on (Err y) e p = ap Err p

-- ---- answers without their values

-- a test alone is refused as the value that it guards
pub forget-check : {A : Type 0} (b : Bool) (n : ℕ) (a : A) → require b n ≡ forget (check b n a)
forget-check true n a = refl
forget-check false n a = refl

-- an answer that is not refused has a value
pub forget-ok : {A : Type 0} (a : Answer A) → forget a ≡ ok tt → (v : A) × (a ≡ ok v)
forget-ok (ok a) e = (a, refl)
forget-ok (refused n) e = absurd (refused≢ok e)

-- a part, judged next to those before it and those behind it
pub beside-next : {A C D : Type 0} (a : Answer (Unit {0})) (b : Answer A) (c : Answer C) (f : A × C → D)
    → forget (beside (forget (beside a (forget b))) c) ≡ forget (beside a (beside b c >>= λ p. ok (f p)))
beside-next (ok a) (ok b) (ok c) f = refl
beside-next (ok a) (ok b) (refused n) f = refl
beside-next (ok a) (refused m) (ok c) f = refl
beside-next (ok a) (refused m) (refused n) f = refl
beside-next (refused k) (ok b) (ok c) f = refl
beside-next (refused k) (ok b) (refused n) f = refl
beside-next (refused k) (refused m) (ok c) f = refl
beside-next (refused k) (refused m) (refused n) f = ap refused (omega arith)

-- nothing judged before
pub beside_first : {A : Type 0} (a : Answer A) → forget (beside (ok (tt {0})) a) ≡ forget a
beside_first (ok a) = refl
beside_first (refused n) = refl

-- nothing left to judge
pub beside-last : {A : Type 0} (a : Answer (Unit {0})) (x : A) → a ≡ forget (beside a (ok x))
beside-last (ok t) x = refl
beside-last (refused n) x = refl

-- two judgements side by side are the judgement of two parts side by side
pub both_judged : {A C : Type 0} (j k r : Answer (Unit {0})) (a : Answer A) (c : Answer C) → j ≡ forget a → k ≡ forget c → r ≡ forget (beside j k) → r ≡ forget (beside a c)
both_judged j k r a c e f g = g ∙ rw (e, f) (forget-beside a c)
