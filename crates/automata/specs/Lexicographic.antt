-- Weights of two parts, each of an ordered sum: added part by part; the lesser has the lesser first part, then the
-- lesser second part. A weight with a number of arcs is one instance (document 02, 2.3).
use Rattle.std.specs.Prelude.{◌≡◌, refl, ◌⊎◌, Bool, true, false, not, T}
use Rattle.std.proofs.Common.{ap₂, ◌∙◌, inl, inr, ⊎_elim, T_not}
use Rattle.std.proofs.Math.Dec.{not_T}
use Rattle.automata.specs.Lists.{if}
use Rattle.automata.specs.OrderedSum.{OrderedSum, tested, ≼_refl, ⊕_mono_left, ⊕_cancel_left}

module _ (S R : OrderedSum) where
  open S use {W, 𝟘, ◌⊕◌, leq, ⊕_zero, ⊕_comm, ⊕_assoc, leq_trans, leq_antisym, leq_total, leq_zero}

  infixl 65 ◌⊕◌
  -- two parts
  abbrev Parts : Type 0
  Parts = W × R.W

  -- the parts added
  abbrev add : Parts → Parts → Parts
  add x y = (x.0 ⊕ y.0, R.◌⊕◌ x.1 y.1)

  -- first the first parts decide, then the second parts
  abbrev lex_leq : Parts → Parts → Bool
  lex_leq x y = if (leq x.0 y.0) (if (leq y.0 x.0) (R.leq x.1 y.1) true) false

  -- what the order says
  pub lex_cases : (x y : Parts) → T (lex_leq x y) → T (not (leq y.0 x.0)) ⊎ ((x.0 ≡ y.0) × T (R.leq x.1 y.1))
  lex_cases x y t = go (leq x.0 y.0) refl (leq y.0 x.0) refl t
    where
      go : (a : Bool) → leq x.0 y.0 ≡ a → (b : Bool) → leq y.0 x.0 ≡ b → T (if a (if b (R.leq x.1 y.1) true) false)
          → T (not b) ⊎ ((x.0 ≡ y.0) × T (R.leq x.1 y.1))
      go true e true f t = inr (leq_antisym x.0 y.0 (rw e tt) (rw f tt), t)
      go true e false f t = inl tt
      go false e b f t = absurd t

  pub lex_less : (x y : Parts) → T (not (leq y.0 x.0)) → T (lex_leq x y)
  lex_less x y n = go (leq x.0 y.0) refl (leq y.0 x.0) refl (leq_total x.0 y.0) n
    where
      go : (a : Bool) → leq x.0 y.0 ≡ a → (b : Bool) → leq y.0 x.0 ≡ b → T a ⊎ T b → T (not b)
          → T (if a (if b (R.leq x.1 y.1) true) false)
      go true e false f s n = tt
      go a e true f s n = absurd n
      go false e false f (inl s) n = s
      go false e false f (inr s) n = s

  pub lex_same : (x y : Parts) → x.0 ≡ y.0 → T (R.leq x.1 y.1) → T (lex_leq x y)
  lex_same x y e t = go (leq x.0 y.0) (leq y.0 x.0) (rw e (≼_refl S y.0)) t
    where
      go : (a b : Bool) → T a → T (R.leq x.1 y.1) → T (if a (if b (R.leq x.1 y.1) true) false)
      go true true s t = t
      go true false s t = tt
      go false b s t = s

  -- the first parts are in order
  pub lex_first : (x y : Parts) → T (lex_leq x y) → T (leq x.0 y.0)
  lex_first x y t = go (leq x.0 y.0) t
    where
      go : (a : Bool) → T (if a (if (leq y.0 x.0) (R.leq x.1 y.1) true) false) → T a
      go true t = tt
      go false t = t

  -- the ordered sum of two parts
  abbrev pub lexicographic : OrderedSum
  lexicographic = record {
    W = Parts;
    𝟘 = (𝟘, R.𝟘);
    ◌⊕◌ = add;
    leq = lex_leq;
    ⊕_zero = λ a. ap₂ (λ x y. (x, y)) (⊕_zero a.0) (R.⊕_zero a.1);
    ⊕_comm = λ a b. ap₂ (λ x y. (x, y)) (⊕_comm a.0 b.0) (R.⊕_comm a.1 b.1);
    ⊕_assoc = λ a b c. ap₂ (λ x y. (x, y)) (⊕_assoc a.0 b.0 c.0) (R.⊕_assoc a.1 b.1 c.1);
    leq_trans = trans;
    leq_antisym = antisym;
    leq_total = total;
    leq_strict = strict;
    leq_zero = λ a. ⊎_elim (λ k. lex_same (𝟘, R.𝟘) a (leq_antisym 𝟘 a.0 (leq_zero a.0) k) (R.leq_zero a.1))
        (λ k. lex_less (𝟘, R.𝟘) a k) (tested (leq a.0 𝟘));
  }
    where
      trans : (a b c : Parts) → T (lex_leq a b) → T (lex_leq b c) → T (lex_leq a c)
      trans a b c h k = go (lex_cases a b h) (lex_cases b c k)
        where
          go : T (not (leq b.0 a.0)) ⊎ ((a.0 ≡ b.0) × T (R.leq a.1 b.1)) → T (not (leq c.0 b.0)) ⊎ ((b.0 ≡ c.0) × T (R.leq b.1 c.1))
              → T (lex_leq a c)
          go (inl x) y = lex_less a c (not_T (leq c.0 a.0) (λ t. T_not (leq b.0 a.0) x (leq_trans b.0 c.0 a.0 (lex_first b c k) t)))
          go (inr (e, m)) (inl y) = lex_less a c (rw e y)
          go (inr (e, m)) (inr (f, n)) = lex_same a c (e ∙ f) (R.leq_trans a.1 b.1 c.1 m n)

      antisym : (a b : Parts) → T (lex_leq a b) → T (lex_leq b a) → a ≡ b
      antisym a b h k = go (lex_cases a b h) (lex_cases b a k)
        where
          go : T (not (leq b.0 a.0)) ⊎ ((a.0 ≡ b.0) × T (R.leq a.1 b.1)) → T (not (leq a.0 b.0)) ⊎ ((b.0 ≡ a.0) × T (R.leq b.1 a.1))
              → a ≡ b
          go (inl x) y = absurd (T_not (leq b.0 a.0) x (lex_first b a k))
          go (inr x) (inl y) = absurd (T_not (leq a.0 b.0) y (lex_first a b h))
          go (inr (e, m)) (inr (f, n)) = ap₂ (λ x y. (x, y)) e (R.leq_antisym a.1 b.1 m n)

      total : (a b : Parts) → T (lex_leq a b) ⊎ T (lex_leq b a)
      total a b = go (tested (leq b.0 a.0)) (tested (leq a.0 b.0)) (R.leq_total a.1 b.1)
        where
          go : T (leq b.0 a.0) ⊎ T (not (leq b.0 a.0)) → T (leq a.0 b.0) ⊎ T (not (leq a.0 b.0))
              → T (R.leq a.1 b.1) ⊎ T (R.leq b.1 a.1) → T (lex_leq a b) ⊎ T (lex_leq b a)
          go (inr x) y z = inl (lex_less a b x)
          go (inl x) (inr y) z = inr (lex_less b a y)
          go (inl x) (inl y) (inl z) = inl (lex_same a b (leq_antisym a.0 b.0 y x) z)
          go (inl x) (inl y) (inr z) = inr (lex_same b a (leq_antisym b.0 a.0 x y) z)

      strict : (a b c : Parts) → T (not (lex_leq b a)) → T (not (lex_leq (add b c) (add a c)))
      strict a b c h = not_T (lex_leq (add b c) (add a c)) (λ t. T_not (lex_leq b a) h (go (lex_cases (add b c) (add a c) t)))
        where
          go : T (not (leq (a.0 ⊕ c.0) (b.0 ⊕ c.0))) ⊎ ((b.0 ⊕ c.0 ≡ a.0 ⊕ c.0) × T (R.leq (R.◌⊕◌ b.1 c.1) (R.◌⊕◌ a.1 c.1)))
              → T (lex_leq b a)
          go (inl x) = lex_less b a (not_T (leq a.0 b.0) (λ t. T_not (leq (a.0 ⊕ c.0) (b.0 ⊕ c.0)) x (⊕_mono_left S a.0 b.0 c.0 t)))
          go (inr (e, m)) = lex_same b a
              (leq_antisym b.0 a.0 (⊕_cancel_left S b.0 a.0 c.0 (rw e (≼_refl S (a.0 ⊕ c.0))))
              (⊕_cancel_left S a.0 b.0 c.0 (rw e (≼_refl S (a.0 ⊕ c.0)))))
              (⊕_cancel_left R b.1 a.1 c.1 m)
