-- Facts of values that are judged one after the other, over any format of a value.
use mathlib.Core.Path.{◌≡◌, refl, sym, ap, ◌∙◌}
use mathlib.Core.Bool.{Bool, true, false}
use mathlib.Core.List.{List, ◌∷◌}
use Prim.Native.Nat.{ℕ, zero, suc, ◌+◌, ◌-◌, ◌≤◌, ◌<◌}
use native.Mathlib.Omega.{arith}
use lib.Dec.{leb}
use lib.ListN.{length, take, drop, length-drop}
use lib.Seq.{drop-drop}
use borrow.Author.Tests.{le-leb, lt-leb, leb-true}
use Rattle.automata.specs.Answer.{◌>>=◌, Answer, ok, refused, require, forget}
use Rattle.automata.specs.Refusal.{short}
use Rattle.automata.specs.Format.{Format}
use Rattle.automata.specs.Sequence.{read_first, read_many}
use Rattle.automata.proofs.AnswerFacts.{refused≢ok, forget_map}

module _ {A : Type 0} (f : Format ℕ A) (x : List ℕ) where
  -- a list with too few places left
  pub first_short : length x < f.width → refused 1 ≡ forget (read_first f x)
  first_short h = rw (lt-leb f.width (length x) h)

  -- one with enough of them is judged by its first places
  pub first_value : f.width ≤ length x → forget (f.read (take f.width x)) ≡ forget (read_first f x)
  first_value h = rw (le-leb f.width (length x) h) (go (f.read (take f.width x)))
    where
      go : (a : Answer A) → forget a ≡ forget {A = A × List ℕ} (a >>= λ v. ok (v, drop f.width x))
      go (ok v) = refl
      go (refused k) = refl

  -- where the first value is not refused there are places enough
  pub first_fits : forget (read_first f x) ≡ ok tt → f.width ≤ length x
  first_fits e = go (leb f.width (length x)) refl e
    where
      go : (b : Bool) → leb f.width (length x) ≡ b → forget {A = A × List ℕ} (require b short >>= λ t. f.read (take f.width x) >>= λ v. ok (v, drop f.width x)) ≡ ok tt → f.width ≤ length x
      go true h k = leb-true f.width (length x) h
      go false h k = absurd (refused≢ok k)

  -- and what follows it is the rest of the list
  first_rest : forget (read_first f x) ≡ ok tt → (v : A) × (read_first f x ≡ ok (v, drop f.width x))
  first_rest e = go (leb f.width (length x)) (f.read (take f.width x)) e
    where
      go : (b : Bool) (a : Answer A) → forget {A = A × List ℕ} (require b short >>= λ t. a >>= λ v. ok (v, drop f.width x)) ≡ ok tt
          → (v : A) × (◌≡◌ {A = Answer (A × List ℕ)} (require b short >>= λ t. a >>= λ v. ok (v, drop f.width x)) (ok (v, drop f.width x)))
      go true (ok v) k = (v, refl)
      go true (refused n) k = absurd (refused≢ok k)
      go false a k = absurd (refused≢ok k)

  -- a value that is refused refuses all from it on
  pub many_stop : (n k : ℕ) → 0 < n → forget (read_first f x) ≡ refused k → refused k ≡ forget (read_many f n x)
  many_stop zero k h e = absurd (omega arith)
  many_stop (suc n) k h e = go (read_first f x) e
    where
      go : (a : Answer (A × List ℕ)) → forget a ≡ refused k → refused k ≡ forget {A = List A × List ℕ} (a >>= λ p. read_many f n p.1 >>= λ q. ok (p.0 ∷ q.0, q.1))
      go (ok p) e = absurd (refused≢ok (sym e))
      go (refused j) e = sym e

  -- behind one that is not, the rest counts
  pub many_next : (n : ℕ) → 0 < n → forget (read_first f x) ≡ ok tt → forget (read_many f (n - 1) (drop f.width x)) ≡ forget (read_many f n x)
  many_next zero h e = absurd (omega arith)
  many_next (suc n) h e =
      let s : suc n - 1 ≡ n = omega arith in
      let r = first_rest e in
      rw (s, r.1) (sym (forget_map (read_many f n (drop f.width x)) (λ q. (r.0 ∷ q.0, q.1))))

  -- no values are fine
  pub many_none : (n : ℕ) → n ≡ 0 → ok tt ≡ forget (read_many f n x)
  many_none n e = rw e

-- the same at a place of a longer list, for values of w places
module _ {A : Type 0} (f : Format ℕ A) (w : ℕ) (width : f.width ≡ w) (x : List ℕ) (at : ℕ) (h : at ≤ length x) where
  -- too few places left
  pub at_short : length x - at < w → refused 1 ≡ forget (read_first f (drop at x))
  at_short k = first_short f (drop at x) (omega (arith, k, length-drop at x, width))

  -- enough of them
  pub at_value : w ≤ length x - at → forget (f.read (take w (drop at x))) ≡ forget (read_first f (drop at x))
  at_value k = ap (λ (m : ℕ). forget (f.read (take m (drop at x)))) (sym width) ∙ first_value f (drop at x) (omega (arith, k, length-drop at x, width))

  -- a turn of a loop: the next value is fine, and the rest counts
  pub at_next : (n : ℕ) → 0 < n → forget (read_first f (drop at x)) ≡ ok tt
      → (at + w ≤ length x) × (forget (read_many f (n - 1) (drop (at + w) x)) ≡ forget (read_many f n (drop at x)))
  at_next n p e = (
    omega (arith, first_fits f (drop at x) e, length-drop at x, width),
    ap (λ (m : ℕ). forget (read_many f (n - 1) (drop (at + m) x))) (sym width)
        ∙ ap (λ (y : List ℕ). forget (read_many f (n - 1) y)) (sym (drop-drop f.width at x))
        ∙ many_next f (drop at x) n p e,
  )
