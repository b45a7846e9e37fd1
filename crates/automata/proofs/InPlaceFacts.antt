-- What a round in place keeps and brings about, and that rounds in place are never behind rounds that read the entries
-- before the round: `in-place-below`.
use mathlib.Core.Path.{◌≡◌, refl, sym, ◌∙◌}
use mathlib.Core.Option.{some, none-ne-some, some-injective}
use mathlib.Core.List.{List, [], ◌∷◌}
use Prim.Native.Nat.{ℕ, zero, suc, ◌<◌}
use native.Mathlib.Decide.{ℕ_discrete}
use lib.ListN.{length, get_or, get_elem?, length-set}
use lib.Seq.{get_or-set_same, get_or-set_other}
use Rattle.automata.specs.Graph.{Graph, Within}
use Rattle.automata.specs.Rounds.{iterate, visit, round}
use Rattle.automata.specs.InPlace.{sweep_in_place, round_in_place}
use Rattle.automata.proofs.RoundFacts.{length_sweep, sweep_keeps}

module _ {E X : Type 0} (G : Graph E) (d : X) (change : E → List X → X → X) where
  pub length_in_place : (xs : List X) (rest : List E) → length (sweep_in_place G d change xs rest) ≡ length xs
  length_in_place xs [] = refl
  length_in_place xs (a ∷ rest) =
      let ys = sweep_in_place G d change xs rest in length-set ys (G.source a) (change a ys (get_or ys (G.source a) d)) ∙ length_in_place xs rest

  pub length_rounds_in_place : (k : ℕ) (xs : List X) → length (iterate k (round_in_place G d change) xs) ≡ length xs
  length_rounds_in_place zero xs = refl
  length_rounds_in_place (suc k) xs = length_in_place (iterate k (round_in_place G d change) xs) G.arcs ∙ length_rounds_in_place k xs

  length_rounds : (k : ℕ) (xs : List X) → length (iterate k (round G d change) xs) ≡ length xs
  length_rounds zero xs = refl
  length_rounds (suc k) xs = length_sweep G d change (iterate k (round G d change) xs) (iterate k (round G d change) xs) G.arcs ∙ length_rounds k xs

  -- what one arc does to the entry of q
  visit-one : (P : X → Type 0) (ys : List X) (a : E) (q : ℕ) → q < length ys → P (get_or ys q d) → (G.source a ≡ q → P (change a ys (get_or ys q d)))
      → P (get_or (visit G d change ys ys a) q d)
  visit-one P ys a q lt p change-p = go (ℕ_discrete q (G.source a))
    where
      go : Dec (q ≡ G.source a) → P (get_or (visit G d change ys ys a) q d)
      go (yes e) = rw (← e, get_or-set_same ys q) (change-p (sym e))
      go (no ne) = rw get_or-set_other p

  module _ (n : ℕ) where
    -- P holds of every vertex and its entry
    abbrev pub Everywhere : (ℕ → X → Type 0) → List X → Type 0
    Everywhere P xs = (q : ℕ) → q < n → P q (get_or xs q d)

    -- what holds of all entries, and is kept by each arc, holds after the arcs
    pub in_place_keeps : (P : ℕ → X → Type 0) (xs : List X) (rest : List E) → length xs ≡ n → Everywhere P xs
        → ((e : ℕ) (a : E) → get_elem? rest e ≡ some a → (ys : List X) → Everywhere P ys → P (G.source a) (change a ys (get_or ys (G.source a) d)))
        → Everywhere P (sweep_in_place G d change xs rest)
    in_place_keeps P xs [] len h keep q lt = h q lt
    in_place_keeps P xs (a ∷ rest) len h keep q lt =
        let ys = sweep_in_place G d change xs rest in
        let ih : Everywhere P ys = in_place_keeps P xs rest len h (λ e. keep (suc e)) in
        visit-one (P q) ys a q (rw (length_in_place xs rest, len) lt) (ih q lt) (λ from. rw from at (keep zero a refl ys ih))

    pub rounds_keep : (P : ℕ → X → Type 0) (k : ℕ) (xs : List X) → length xs ≡ n → Everywhere P xs
        → ((e : ℕ) (a : E) → get_elem? G.arcs e ≡ some a → (ys : List X) → Everywhere P ys → P (G.source a) (change a ys (get_or ys (G.source a) d)))
        → Everywhere P (iterate k (round_in_place G d change) xs)
    rounds_keep P zero xs len h keep = h
    rounds_keep P (suc k) xs len h keep =
        in_place_keeps P (iterate k (round_in_place G d change) xs) G.arcs (length_rounds_in_place k xs ∙ len) (rounds_keep P k xs len h keep) keep

    -- Far x z: x is at least as far as z. An arc takes its source at least as far as it was, and as far as the entry v
    -- of its target lets it, via a v.
    module _ (within : Within G n) (Far : X → X → Type 0) (via : E → X → X) (falls : (a : E) (old : List X) (x z : X) → Far x z → Far (change a old x) z)
        (brings : (a : E) (old : List X) (x z v : X) → Far x z → Far (get_or old (G.target a) d) v → Far (change a old x) (via a v)) where
      -- a round in place goes back nowhere
      pub in_place_falls : (f : ℕ → X) (xs : List X) → length xs ≡ n → Everywhere (λ q y. Far y (f q)) xs → Everywhere (λ q y. Far y (f q)) (round_in_place G d change xs)
      in_place_falls f xs len h =
          in_place_keeps (λ q y. Far y (f q)) xs G.arcs len h (λ e a at ys g. falls a ys (get_or ys (G.source a) d) (f (G.source a)) (g (G.source a) (within e a at).0))

      -- and takes every source as far as each of its arcs can
      pub in_place_brings : (f : ℕ → X) (xs : List X) → length xs ≡ n → Everywhere (λ q y. Far y (f q)) xs → (e : ℕ) (a : E) → get_elem? G.arcs e ≡ some a
          → Far (get_or (round_in_place G d change xs) (G.source a) d) (via a (f (G.target a)))
      in_place_brings f xs len h e a at = go G.arcs (λ e' b at'. within e' b at') e at
        where
          go : (rest : List E) → ((e' : ℕ) (b : E) → get_elem? rest e' ≡ some b → (G.source b < n) × (G.target b < n)) → (k : ℕ) → get_elem? rest k ≡ some a
              → Far (get_or (sweep_in_place G d change xs rest) (G.source a) d) (via a (f (G.target a)))
          go [] inside k at' = absurd (none-ne-some a at')
          go (b ∷ rest) inside zero at' =
              let ys = sweep_in_place G d change xs rest in
              let g : Everywhere (λ q y. Far y (f q)) ys
              = in_place_keeps (λ q y. Far y (f q)) xs rest len h (λ e' c i zs l. falls c zs (get_or zs (G.source c) d) (f (G.source c)) (l (G.source c) (inside (suc e') c i).0)) in
              let l : G.source a < length ys = rw (length_in_place xs rest, len) (within e a at).0 in
              rw (some-injective b a at', get_or-set_same ys (G.source a))
              (brings a ys (get_or ys (G.source a) d) (f (G.source a)) (f (G.target a)) (g (G.source a) (within e a at).0) (g (G.target a) (within e a at).1))
          go (b ∷ rest) inside (suc k) at' =
              let ys = sweep_in_place G d change xs rest in
              let ih = go rest (λ e'. inside (suc e')) k at' in
              visit-one (λ y. Far y (via a (f (G.target a)))) ys b (G.source a) (rw (length_in_place xs rest, len) (within e a at).0) ih
              (λ from. falls b ys (get_or ys (G.source a) d) (via a (f (G.target a))) ih)

      -- Where an arc takes its source no further than that, entries that are at least as far as others are so after
      -- equally many rounds, the first in place, the others in rounds that read the entries before the round.
      module _ (meets : (a : E) (old : List X) (x z : X) → Far z x → Far z (via a (get_or old (G.target a) d)) → Far z (change a old x)) where
        pub in_place_below : (k : ℕ) (xs zs : List X) → length xs ≡ n → length zs ≡ n → ((q : ℕ) → q < n → Far (get_or xs q d) (get_or zs q d))
            → (q : ℕ) → q < n → Far (get_or (iterate k (round_in_place G d change) xs) q d) (get_or (iterate k (round G d change) zs) q d)
        in_place_below zero xs zs len lenz below q lt = below q lt
        in_place_below (suc k) xs zs len lenz below q lt =
            let ys = iterate k (round_in_place G d change) xs in
            let us = iterate k (round G d change) zs in
            let f : ℕ → X = λ p. get_or us p d in
            let l : length ys ≡ n = length_rounds_in_place k xs ∙ len in
            let h : Everywhere (λ p y. Far y (f p)) ys = in_place_below k xs zs len lenz below in
            sweep_keeps G d change us q (λ x. Far (get_or (round_in_place G d change ys) q d) x) us G.arcs (rw (length_rounds k zs, lenz) lt) (in_place_falls f ys l h q lt)
            (λ e a at from x g. meets a us x (get_or (round_in_place G d change ys) q d) g (rw from at (in_place_brings f ys l h e a at)))
