-- The arcs behind a weight (document 02, request 2.3): what is told with a tuple's weight is the first of the
-- successful paths of that weight that spell it, there is exactly one, and nothing is told exactly where no path
-- spells the tuple.
use mathlib.Core.Path.{◌≡◌, refl, sym, ap, subst, ◌∙◌}
use mathlib.Core.Logic.{◌↔◌, ◌⊎◌, inl, inr}
use mathlib.Core.Option.{Option, none, some, map, some-injective}
use mathlib.Core.List.{List}
use Prim.Native.Nat.{ℕ, suc, ◌*◌, ◌≤◌}
use lib.Dec.{T}
use lib.ListN.{length}
use Rattle.automata.specs.Lists.{total}
use Rattle.automata.specs.OrderedSum.{OrderedSum}
use Rattle.automata.specs.Automaton.{Automaton, Tuple, Formed, size}
use Rattle.automata.specs.Paths.{SuccessfulPath, tuple, trace, weight, Weighs, NoWeight}
use Rattle.automata.specs.TraceOrder.{Before}
use Rattle.automata.specs.Lookup.{lookup}
use Rattle.automata.specs.LeastPath.{FirstLeast, Account, least_path}
use Rattle.automata.proofs.ListFacts.{none_not_some}
use Rattle.automata.proofs.LookupRuns.{onward, onward-sum}
use Rattle.automata.proofs.TupleWeight.{run_sum, spells_tuple}
use Rattle.automata.proofs.TraceOrderFacts.{before_asym}
use Rattle.automata.proofs.LeastPathStarts.{Starts, Behind, least_path-cases}
use Rattle.laws.specs.LeastPath.{Tells, LeastPaths}
use Rattle.laws.proofs.Lookup.{lookup_some, lookup-none}

-- at most one path is the first of the least ones
first_unique : (S : OrderedSum) (A : Automaton S.W) (t : Tuple) (π ρ : SuccessfulPath A) → FirstLeast S A t π → FirstLeast S A t ρ → trace π ≡ trace ρ
first_unique S A t π ρ f g =
    let same : weight S ρ ≡ weight S π = S.leq_antisym (weight S ρ) (weight S π) (g.least π f.spells) (f.least ρ g.spells) in
    go (f.first ρ g.spells same) (g.first π f.spells (sym same))
  where
    go : (trace π ≡ trace ρ) ⊎ Before (trace π) (trace ρ) → (trace ρ ≡ trace π) ⊎ Before (trace ρ) (trace π) → trace π ≡ trace ρ
    go (inl e) y = e
    go (inr h) (inl e) = sym e
    go (inr h) (inr k) = absurd (before_asym (trace π) (trace ρ) h k)

-- over every ordered sum of weights, for a tuple of one string per tape, of any length
module _ (S : OrderedSum) (A : Automaton S.W) (formed : Formed A) (t : Tuple) (width : length t ≡ A.tapes) where
  open S use {W, ◌⊕◌}

  infixl 65 ◌⊕◌
  -- successful paths that spell t, by their starting state and run
  starts-path : (q : ℕ) (r : List ℕ) (w : W) → Starts S A formed.within t q r w
      → (π : SuccessfulPath A) × (trace π ≡ record { start = q; run = r }) × (weight S π ≡ w) × (tuple π ≡ t)
  starts-path q r w s = (
    record {
      start = q;
      run = r;
      arcs = s.run.arcs;
      initial = s.initial;
      final = s.run.final;
      successful = record { end = s.run.end; starts = s.starts; walk = s.run.walk; ends = s.run.ends };
    },
    refl,
    ap (λ z. s.initial ⊕ (z ⊕ s.run.final)) (sym (run_sum S A formed s.run.arcs))
        ∙ ap (◌⊕◌ s.initial) (sym (onward-sum S A s.run.arcs s.run.final) ∙ sym s.run.weight) ∙ sym s.sum,
    (spells_tuple S A formed t width s.run.walk).0 s.run.spells,
  )

  path-starts : (π : SuccessfulPath A) → tuple π ≡ t → Starts S A formed.within t π.start π.run (weight S π)
  path-starts π e = record {
    initial = π.initial;
    starts = π.successful.starts;
    onwards = onward S A π.arcs π.final;
    run = record {
      arcs = π.arcs;
      end = π.successful.end;
      final = π.final;
      walk = π.successful.walk;
      ends = π.successful.ends;
      spells = (spells_tuple S A formed t width π.successful.walk).1 e;
      weight = refl;
    };
    sum = ap (◌⊕◌ π.initial) (ap (λ z. z ⊕ π.final) (sym (run_sum S A formed π.arcs)) ∙ sym (onward-sum S A π.arcs π.final));
  }

  behind_tells : (x : Account W) → Behind S A formed.within t x.weight x.path → Tells S A t x
  behind_tells x b =
      let (π, e, w, s) = starts-path x.path.start x.path.run x.weight b.path in (
        π,
        e,
        w,
        record {
          spells = s;
          least = λ ρ k. subst (λ z. T (S.leq z (weight S ρ))) (sym w) (b.least ρ.start ρ.run (weight S ρ) (path-starts ρ k));
          first = λ ρ k same. subst (λ z. (z ≡ trace ρ) ⊎ Before z (trace ρ)) (sym e)
              (b.first ρ.start ρ.run (subst (Starts S A formed.within t ρ.start ρ.run) (same ∙ w) (path-starts ρ k)));
        },
      )

  -- A path is told exactly where it is the first of the least ones, with its weight.
  least_path_some : (x : Account W) → (least_path S A t ≡ some x) ↔ Tells S A t x
  least_path_some x = go (least_path-cases S A formed.within t)
    where
      go : ((y : Account W) × (least_path S A t ≡ some y) × Behind S A formed.within t y.weight y.path)
          ⊎ ((least_path S A t ≡ none) × ((q : ℕ) (r : List ℕ) (w : W) → Starts S A formed.within t q r w → ⊥))
          → (least_path S A t ≡ some x) ↔ Tells S A t x
      go (inl (y, e, b)) = (
        λ f. subst (Tells S A t) (some-injective y x (sym e ∙ f)) (behind_tells y b),
        λ (π, p, w, f).
            let (ρ, q, v, g) = behind_tells y b in
            let path : y.path ≡ x.path = sym q ∙ first_unique S A t ρ π g f ∙ p in
            let same : weight S ρ ≡ weight S π = S.leq_antisym (weight S ρ) (weight S π) (g.least π f.spells) (f.least ρ g.spells) in
            let weighs : y.weight ≡ x.weight = sym v ∙ same ∙ w in
            e ∙ ap {B = Option (Account W)} some (λ i. record { weight = weighs i; path = path i }),
      )
      go (inr (e, never)) = (
        λ f. none_not_some e f,
        λ (π, p, w, f). absurd (never π.start π.run (weight S π) (path-starts π f.spells)),
      )

  -- No path is told exactly where no successful path spells the tuple.
  least_path-none : (least_path S A t ≡ none) ↔ NoWeight S A t
  least_path-none = go (least_path-cases S A formed.within t)
    where
      go : ((y : Account W) × (least_path S A t ≡ some y) × Behind S A formed.within t y.weight y.path)
          ⊎ ((least_path S A t ≡ none) × ((q : ℕ) (r : List ℕ) (w : W) → Starts S A formed.within t q r w → ⊥))
          → (least_path S A t ≡ none) ↔ NoWeight S A t
      go (inl (y, e, b)) = (
        λ f. none_not_some f e,
        λ never. let (π, p, w, s) = starts-path y.path.start y.path.run y.weight b.path in absurd (never (weight S π) (π, s, refl)),
      )
      go (inr (e, never)) = (λ f w (π, s, v). never π.start π.run (weight S π) (path-starts π s), λ f. e)

  -- The path has at most as many arcs as there are pairs of a state and a number of symbols left.
  least_path-short : (x : Account W) → least_path S A t ≡ some x → length x.path.run ≤ size A * suc (total length t)
  least_path-short x e = go (least_path-cases S A formed.within t)
    where
      go : ((y : Account W) × (least_path S A t ≡ some y) × Behind S A formed.within t y.weight y.path)
          ⊎ ((least_path S A t ≡ none) × ((q : ℕ) (r : List ℕ) (w : W) → Starts S A formed.within t q r w → ⊥))
          → length x.path.run ≤ size A * suc (total length t)
      go (inl (y, f, b)) = subst (λ (z : Account W). length z.path.run ≤ size A * suc (total length t)) (some-injective y x (sym f ∙ e)) b.short
      go (inr (f, never)) = none_not_some f e

  -- The weight told is that of the lookup.
  least_path-weight : map (λ x. x.weight) (least_path S A t) ≡ lookup S A t
  least_path-weight = go (least_path S A t) refl
    where
      go : (o : Option (Account W)) → least_path S A t ≡ o → map (λ x. x.weight) o ≡ lookup S A t
      go none e = sym ((lookup-none S A formed t width).1 (least_path-none.0 e))
      go (some x) e =
          let (π, p, w, f) = (least_path_some x).0 e in
          sym ((lookup_some S A formed t width x.weight).1 (
            (π, f.spells, w),
            λ v (ρ, k, l). subst (λ z. T (S.leq x.weight z)) l (subst (λ z. T (S.leq z (weight S ρ))) w (f.least ρ k)),
          ))

  -- Where the tuple has a weight there is such a path.
  first_exists : (w : W) → Weighs S A t w → (π : SuccessfulPath A) × FirstLeast S A t π
  first_exists w (ρ, k, l) = go (least_path S A t) refl
    where
      go : (o : Option (Account W)) → least_path S A t ≡ o → (π : SuccessfulPath A) × FirstLeast S A t π
      go none e = absurd (least_path-none.0 e w (ρ, k, l))
      go (some x) e = let (π, p, v, f) = (least_path_some x).0 e in (π, f)

  -- 2.3
  pub least_paths : LeastPaths S A t
  least_paths = record {
    told = least_path_some;
    nothing = least_path-none;
    weight_told = least_path-weight;
    exists = first_exists;
    unique = first_unique S A t;
    few_arcs = λ π f. least_path-short _ ((least_path_some (record { weight = weight S π; path = trace π })).1 (π, refl, refl, f));
  }
