-- Marks in place are those of the definition: `in-place-coaccessible`.
use mathlib.Core.Path.{◌≡◌, refl, sym, ◌∙◌}
use mathlib.Core.Logic.{◌⊎◌, inl, inr}
use mathlib.Core.Bool.{Bool, true, false}
use mathlib.Core.Option.{some}
use mathlib.Core.List.{List, [], ◌∷◌}
use Prim.Native.Nat.{ℕ, ◌<◌}
use native.Mathlib.Omega.{arith}
use lib.ListN.{length, get_or, get_elem?}
use lib.Seq.{ext_get_or}
use Rattle.automata.specs.Graph.{Graph, Within, stop, step}
use Rattle.automata.specs.Rounds.{iterate}
use Rattle.automata.specs.InPlace.{round_in_place}
use Rattle.automata.specs.Marks.{mark, coaccessible, Reaches}
use Rattle.automata.proofs.TestFacts.{or_true, or_left, or_right}
use Rattle.automata.proofs.MarkFacts.{length_coaccessible, coaccessible_iff}
use Rattle.automata.proofs.InPlaceFacts.{length_rounds_in_place, rounds_keep, in_place_below}

module _ {E : Type 0} (G : Graph E) where
  -- the marks after k rounds in place
  abbrev pub marked_in_place : List Bool → ℕ → List Bool
  marked_in_place finals k = iterate k (round_in_place G false (mark G)) finals

  module _ (finals : List Bool) (within : Within G (length finals)) where
    -- a mark is as far as another where it is set if that is
    abbrev SetIf : Bool → Bool → Type 0
    SetIf x z = z ≡ true → x ≡ true

    -- what is marked reaches a final vertex
    in_place_reaches : (k q : ℕ) → q < length finals → get_or (marked_in_place finals k) q false ≡ true → Reaches G finals q
    in_place_reaches k = rounds_keep G false (mark G) (length finals) (λ q x. x ≡ true → Reaches G finals q) k finals refl
        (λ q lt m. ([], q, ([], stop), m))
        (λ e a at ys h t. go e a at (h (G.source a) (within e a at).0) (h (G.target a) (within e a at).1)
        (or_true (get_or ys (G.source a) false) (get_or ys (G.target a) false) t))
      where
        go : (e : ℕ) (a : E) → get_elem? G.arcs e ≡ some a → {x y : Bool} → (x ≡ true → Reaches G finals (G.source a)) → (y ≡ true → Reaches G finals (G.target a))
            → (x ≡ true) ⊎ (y ≡ true) → Reaches G finals (G.source a)
        go e a at before ih (inl t) = before t
        go e a at before ih (inr t) = let (es, p, (r, w), f) = ih t in (a ∷ es, p, (e ∷ r, step at refl w), f)

    -- what is coaccessible is marked
    in_place-marked : (q : ℕ) → q < length finals → get_or (coaccessible G finals) q false ≡ true → get_or (marked_in_place finals (length finals)) q false ≡ true
    in_place-marked = in_place_below G false (mark G) (length finals) within SetIf (λ a v. v)
        (λ a old x z h t. or_left x (get_or old (G.target a) false) (h t)) (λ a old x z v h g t. or_right x (get_or old (G.target a) false) (g t))
        (λ a old x z h g t. ⊎_pick h g (or_true x (get_or old (G.target a) false) t)) (length finals) finals finals refl refl (λ q lt t. t)
      where
        ⊎_pick : {x y z : Bool} → (x ≡ true → z ≡ true) → (y ≡ true → z ≡ true) → (x ≡ true) ⊎ (y ≡ true) → z ≡ true
        ⊎_pick h g (inl t) = h t
        ⊎_pick h g (inr t) = g t

    both_ways : (x y : Bool) → (x ≡ true → y ≡ true) → (y ≡ true → x ≡ true) → x ≡ y
    both_ways true y f g = sym (f refl)
    both_ways false true f g = g refl
    both_ways false false f g = refl

    -- Marks in place, as many rounds as there are vertices, are the coaccessible vertices.
    pub in_place-coaccessible : marked_in_place finals (length finals) ≡ coaccessible G finals
    in_place-coaccessible =
        let l = length_rounds_in_place G false (mark G) (length finals) finals in
        ext_get_or false (marked_in_place finals (length finals)) (coaccessible G finals) (l ∙ sym (length_coaccessible G finals))
        (λ q k. let lt : q < length finals = omega (arith, l, k) in both_ways (get_or (marked_in_place finals (length finals)) q false) (get_or (coaccessible G finals) q false)
        (λ t. (coaccessible_iff G finals within q lt).1 (in_place_reaches (length finals) q lt t)) (in_place-marked q lt))
