-- Two sets of weights, each with a weight that is at most any of the other's: they have the same least one. And the
-- sums of weights of tuples that meet, of any two sets.
use mathlib.Core.Path.{◌≡◌, refl, sym, subst}
use mathlib.Core.Logic.{◌↔◌, ◌⊎◌, inl, inr, ⊎_elim}
use Rattle.automata.specs.OrderedSum.{OrderedSum, ◌≼◌, ≼_refl, ⊕_mono}
use Rattle.automata.specs.Automaton.{Automaton, Tuple, Formed}
use Rattle.automata.specs.Tapes.{ReadAlike}
use Rattle.automata.specs.Paths.{Weighs, LeastOf, WeighsRead, LeastRead, SameWeight}
use Rattle.laws.specs.JoinLaws.{SumsOf, LesserWeight}
use Rattle.laws.proofs.Lemmas.ReadWeights.{read_alike, has_least_read}

module _ (S : OrderedSum) where
  open S use {W, ◌⊕◌, leq_trans, leq_antisym}

  infixl 65 ◌⊕◌
  -- for each weight of the first set there is one of the second that is at most that
  abbrev pub Below : (W → Type 0) → (W → Type 0) → Type 0
  Below X Y = (w : W) → X w → (v : W) × Y v × ◌≼◌ S v w

  -- both ways
  abbrev pub Level : (W → Type 0) → (W → Type 0) → Type 0
  Level X Y = Below X Y × Below Y X

  pub below_of : (X Y : W → Type 0) → ((w : W) → X w → Y w) → Below X Y
  below_of X Y f w x = (w, f w x, ≼_refl S w)

  pub level_of : (X Y : W → Type 0) → ((w : W) → X w ↔ Y w) → Level X Y
  level_of X Y f = (below_of X Y (λ w. (f w).0), below_of Y X (λ w. (f w).1))

  pub below_trans : (X Y Z : W → Type 0) → Below X Y → Below Y Z → Below X Z
  below_trans X Y Z f g w x = let (v, y, h) = f w x in let (u, z, k) = g v y in (u, z, leq_trans u v w k h)

  pub level-trans : (X Y Z : W → Type 0) → Level X Y → Level Y Z → Level X Z
  level-trans X Y Z (f, f') (g, g') = (below_trans X Y Z f g, below_trans Z Y X g' f')

  pub level_sym : (X Y : W → Type 0) → Level X Y → Level Y X
  level_sym X Y (f, g) = (g, f)

  -- either of two
  pub level_either : (X X' Y Y' : W → Type 0) → Level X X' → Level Y Y' → Level (λ w. X w ⊎ Y w) (λ w. X' w ⊎ Y' w)
  level_either X X' Y Y' (f, f') (g, g') = (
    λ w. ⊎_elim (λ x. let (v, y, h) = f w x in (v, inl y, h)) (λ x. let (v, y, h) = g w x in (v, inr y, h)),
    λ w. ⊎_elim (λ x. let (v, y, h) = f' w x in (v, inl y, h)) (λ x. let (v, y, h) = g' w x in (v, inr y, h)),
  )

  -- the least of the one is the least of the other
  least_over : (X Y : W → Type 0) → Level X Y → (w : W) → LeastOf S X w → LeastOf S Y w
  least_over X Y (f, g) w (x, m) =
      let (v, y, h) = f w x in
      let (u, x', k) = g v y in
      let e : v ≡ w = leq_antisym v w h (leq_trans w u v (m u x') k) in
      (subst Y e y, λ z q. let (u, x', k) = g z q in leq_trans w u z (m u x') k)

  pub least_same : (X Y : W → Type 0) → Level X Y → (w : W) → LeastOf S X w ↔ LeastOf S Y w
  least_same X Y h w = (least_over X Y h w, least_over Y X (level_sym X Y h) w)

  pub nothing_same : (X Y : W → Type 0) → Level X Y → ((w : W) → ¬ X w) ↔ ((w : W) → ¬ Y w)
  nothing_same X Y (f, g) = (λ n w y. let (v, x, _) = g w y in n v x, λ n w x. let (v, y, _) = f w x in n v y)

  -- tuples that fall together are weighed alike after reading
  pub read_level : (A : Automaton W) (s t : Tuple) → ReadAlike s t → Level (WeighsRead S A s) (WeighsRead S A t)
  read_level A s t e = level_of (WeighsRead S A s) (WeighsRead S A t) (λ w. (read_alike S (Weighs S A) s t e w, read_alike S (Weighs S A) t s (sym e) w))

  -- so two tuples have the same weight
  pub level-weight : (A : Automaton W) (s : Tuple) (B : Automaton W) (t : Tuple) → Level (WeighsRead S A s) (WeighsRead S B t) → SameWeight S A s B t
  level-weight A s B t h = record { least = least_same (WeighsRead S A s) (WeighsRead S B t) h; nothing = nothing_same (WeighsRead S A s) (WeighsRead S B t) h }

  below_weight : (A : Automaton W) (s : Tuple) (B : Automaton W) (t : Tuple) → Formed A → ((w : W) → LeastRead S A s w → LeastRead S B t w)
      → Below (WeighsRead S A s) (WeighsRead S B t)
  below_weight A s B t f h w x = let (v, l) = has_least_read S A f s w x in (v, (h v l).0, l.1 w x)

  -- and back, of well-formed automata
  pub weight-level : (A : Automaton W) (s : Tuple) (B : Automaton W) (t : Tuple) → Formed A → Formed B → SameWeight S A s B t
      → Level (WeighsRead S A s) (WeighsRead S B t)
  weight-level A s B t fA fB h = (below_weight A s B t fA (λ w. (h.least w).0), below_weight B t A s fB (λ w. (h.least w).1))

  -- the lesser of two weights
  pub level-lesser : (J J₁ J₂ : Automaton W) (t : Tuple) → Formed J₁ → Formed J₂ → Level (WeighsRead S J t) (λ w. WeighsRead S J₁ t w ⊎ WeighsRead S J₂ t w)
      → LesserWeight S J J₁ J₂ t
  level-lesser J J₁ J₂ t f₁ f₂ h =
      let X : W → Type 0 = WeighsRead S J t in
      let Y : W → Type 0 = λ w. WeighsRead S J₁ t w ⊎ WeighsRead S J₂ t w in
      let Z : W → Type 0 = λ w. LeastRead S J₁ t w ⊎ LeastRead S J₂ t w in
      let k : Level Y Z = (
        λ w. ⊎_elim (λ x. let (v, l) = has_least_read S J₁ f₁ t w x in (v, inl l, l.1 w x)) (λ x. let (v, l) = has_least_read S J₂ f₂ t w x in (v, inr l, l.1 w x)),
        below_of Z Y (λ w. ⊎_elim (λ l. inl l.0) (λ l. inr l.0)),
      ) in
      record {
        least = least_same X Z (level-trans X Y Z h k);
        nothing =
            (let n = nothing_same X Y h in (
              λ q. (λ w x. n.0 q w (inl x), λ w x. n.0 q w (inr x)),
              λ (q₁, q₂). n.1 (λ w. ⊎_elim (q₁ w) (q₂ w)),
            ));
      }

  -- ---- sums of weights of tuples that meet

  sums_below : (X X' Y Y' : Tuple → W → Type 0) (meet : Tuple → Tuple → Type 0) → ((u : Tuple) → Below (X u) (X' u)) → ((v : Tuple) → Below (Y v) (Y' v))
      → Below (SumsOf S X Y meet) (SumsOf S X' Y' meet)
  sums_below X X' Y Y' meet f g w (u, v, a, b, x, y, m, e) =
      let (a', x', h) = f u a x in
      let (b', y', k) = g v b y in
      (a' ⊕ b', (u, v, a', b', x', y', m, refl), subst (λ w. ◌≼◌ S (a' ⊕ b') w) e (⊕_mono S a' a b' b h k))

  pub sums_level : (X X' Y Y' : Tuple → W → Type 0) (meet : Tuple → Tuple → Type 0) → ((u : Tuple) → Level (X u) (X' u)) → ((v : Tuple) → Level (Y v) (Y' v))
      → Level (SumsOf S X Y meet) (SumsOf S X' Y' meet)
  sums_level X X' Y Y' meet f g = (sums_below X X' Y Y' meet (λ u. (f u).0) (λ v. (g v).0), sums_below X' X Y' Y meet (λ u. (f u).1) (λ v. (g v).1))

  -- the first set is either of two
  pub sums_either₁ : (X X' Y : Tuple → W → Type 0) (meet : Tuple → Tuple → Type 0) (w : W)
      → SumsOf S (λ u a. X u a ⊎ X' u a) Y meet w ↔ (SumsOf S X Y meet w ⊎ SumsOf S X' Y meet w)
  sums_either₁ X X' Y meet w = (
    λ (u, v, a, b, x, y, m, e). ⊎_elim (λ x. inl (u, v, a, b, x, y, m, e)) (λ x. inr (u, v, a, b, x, y, m, e)) x,
    ⊎_elim (λ (u, v, a, b, x, y, m, e). (u, v, a, b, inl x, y, m, e)) (λ (u, v, a, b, x, y, m, e). (u, v, a, b, inr x, y, m, e)),
  )

  -- the second is
  pub sums_either₂ : (X Y Y' : Tuple → W → Type 0) (meet : Tuple → Tuple → Type 0) (w : W)
      → SumsOf S X (λ v b. Y v b ⊎ Y' v b) meet w ↔ (SumsOf S X Y meet w ⊎ SumsOf S X Y' meet w)
  sums_either₂ X Y Y' meet w = (
    λ (u, v, a, b, x, y, m, e). ⊎_elim (λ y. inl (u, v, a, b, x, y, m, e)) (λ y. inr (u, v, a, b, x, y, m, e)) y,
    ⊎_elim (λ (u, v, a, b, x, y, m, e). (u, v, a, b, x, inl y, m, e)) (λ (u, v, a, b, x, y, m, e). (u, v, a, b, x, inr y, m, e)),
  )
