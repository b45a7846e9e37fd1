-- Runs of the least weight, arc by arc, and how the path that is told with a weight is known.
use mathlib.Core.Path.{◌≡◌, refl, sym, ap, subst, ◌∙◌}
use mathlib.Core.Logic.{◌⊎◌, inl, inr}
use mathlib.Core.Option.{Option, none, some}
use mathlib.Core.List.{List, []}
use Prim.Native.Nat.{ℕ, ◌<◌}
use native.Mathlib.Omega.{arith}
use lib.Dec.{T}
use lib.ListN.{length}
use Rattle.automata.specs.OrderedSum.{OrderedSum, ⊕_cancel_right}
use Rattle.automata.specs.Least.{Least}
use Rattle.automata.specs.Graph.{Within, stop}
use Rattle.automata.specs.Automaton.{Tuple, Automaton, graph, size}
use Rattle.automata.specs.Paths.{Trace}
use Rattle.automata.specs.TraceOrder.{Before}
use Rattle.automata.specs.Lookup.{lookup}
use Rattle.automata.specs.LeastPath.{least_onward, Account, least_path}
use Rattle.automata.proofs.ListFacts.{none_not_some}
use Rattle.automata.proofs.AutomatonFacts.{initial_of_lt}
use Rattle.automata.proofs.TraceOrderFacts.{before_asym}
use Rattle.automata.proofs.LookupRuns.{Attains, onward, onward-sum, Onward, onward_of, Ending, no_arc_lem}
use Rattle.automata.proofs.LookupFacts.{lookup_attains}
use Rattle.automata.proofs.CountedFacts.{walk_length, Run, RunOn, run_cons}
use Rattle.automata.proofs.LeastPathFacts.{held_below, cell_least}
use Rattle.automata.proofs.LeastPathStarts.{Starts, Behind, least_path-cases}

module _ (S : OrderedSum) where
  open S use {W, ◌⊕◌, leq, leq_antisym}

  infixl 65 ◌⊕◌
  -- A part of a sum is the least of its kind where no other in its place makes the sum less.
  least_part : {P : W → Type 0} (o : Option W) → Least S P o → (i u w : W) → P u → w ≡ i ⊕ u → ((v : W) → P v → T (leq w (i ⊕ v))) → o ≡ some u
  least_part o l i u w p sum above =
      let (v, e, h) = l.bound u p in
      let k : T (leq (i ⊕ u) (i ⊕ v)) = subst (λ z. T (leq z (i ⊕ v))) sum (above v (l.holds v e)) in
      e ∙ ap some (leq_antisym v u h (⊕_cancel_right S u v i k))

module _ (S : OrderedSum) (A : Automaton S.W) where
  open S use {W}

  -- a run is one of some number of arcs
  run_any : {q : ℕ} {rests : Tuple} {r : List ℕ} {w : W} → Run S A q rests r w → (k : ℕ) × Onward S A k q rests w
  run_any {q} {rests} {w} o =
      (length o.arcs, subst (Onward S A (length o.arcs) q rests) (sym o.weight) (onward_of S A (length o.arcs) rests o.walk o.ends o.spells (omega arith)))

  -- and the other way round
  any_run : {k q : ℕ} {rests : Tuple} {w : W} (o : Onward S A k q rests w) → Run S A q rests o.leads.0 w
  any_run o = record { arcs = o.arcs; end = o.end; final = o.final; walk = o.leads.1; ends = o.ends; spells = o.spells; weight = o.weight }

  -- before a run of no arc nothing is left, and its weight is the final one
  pub run_stop : {q : ℕ} {rests : Tuple} {w : W} → Run S A q rests [] w → Ending S A q rests w
  run_stop {rests} o = no_arc_lem S A rests o.walk o.ends o.spells (omega (arith, walk_length o.walk)) o.weight

  -- and the other way round
  pub stop_run : {q : ℕ} {rests : Tuple} {w : W} → Ending S A q rests w → Run S A q rests [] w
  stop_run {q} {w} (spells, ends) = record { arcs = []; end = q; final = w; walk = stop; ends = ends; spells = spells; weight = refl }

module _ (S : OrderedSum) (A : Automaton S.W) (within : Within (graph A) (size A)) where
  open S use {W, ◌⊕◌, leq, leq_antisym}

  infixl 65 ◌⊕◌
  -- Where a run has the least weight to the end, what follows its first arc has the least from there.
  pub least_tail : {q : ℕ} {rests : Tuple} {e : ℕ} {r : List ℕ} {w : W} → q < size A → least_onward S A q rests ≡ some w → (x : RunOn S A q rests e r w)
      → least_onward S A x.arc.target x.rest ≡ some x.onwards
  least_tail {q} {rests} {e} {w} lt least x =
      least_part S (least_onward S A x.arc.target x.rest) (cell_least S A within x.arc.target x.rest (within e x.arc x.at).1)
      x.arc.weight x.onwards w (run_any S A x.tail) x.sum
      (λ v (k, o).
      let on = run_cons S A (record { arc = x.arc; at = x.at; from = x.from; rest = x.rest; left = x.left; onwards = v; tail = any_run S A o; sum = refl }) in
      held_below S (least_onward S A q rests) (cell_least S A within q rests lt) w (x.arc.weight ⊕ v) least (run_any S A on))

  module _ (t : Tuple) where
    -- the weight of a path that spells t is attained
    starts_attains : {q : ℕ} {r : List ℕ} {w : W} → Starts S A within t q r w → Attains S A t w
    starts_attains {q} {r} s = record {
      start = q;
      arcs = s.run.arcs;
      end = s.run.end;
      initial = s.initial;
      final = s.run.final;
      leads = (r, s.run.walk);
      starts = s.starts;
      ends = s.run.ends;
      spells = s.run.spells;
      weight = s.sum ∙ ap (◌⊕◌ s.initial) (s.run.weight ∙ onward-sum S A s.run.arcs s.run.final);
    }

    -- and what is attained is the weight of a path
    attains_starts : {w : W} → Attains S A t w → (q : ℕ) × (r : List ℕ) × Starts S A within t q r w
    attains_starts p = (
      p.start,
      p.leads.0,
      record {
        initial = p.initial;
        starts = p.starts;
        onwards = onward S A p.arcs p.final;
        run = record { arcs = p.arcs; end = p.end; final = p.final; walk = p.leads.1; ends = p.ends; spells = p.spells; weight = refl };
        sum = p.weight ∙ ap (◌⊕◌ p.initial) (sym (onward-sum S A p.arcs p.final));
      },
    )

    -- no path is told of a tuple without weight
    pub none_is : lookup S A t ≡ none → least_path S A t ≡ none
    none_is weightless = go (least_path-cases S A within t)
      where
        go : ((x : Account W) × (least_path S A t ≡ some x) × Behind S A within t x.weight x.path)
            ⊎ ((least_path S A t ≡ none) × ((q : ℕ) (r : List ℕ) (v : W) → Starts S A within t q r v → ⊥)) → least_path S A t ≡ none
        go (inl (x, e, b)) = let (u, f, l) = (lookup_attains S A within t).bound x.weight (starts_attains b.path) in none_not_some weightless f
        go (inr (e, never)) = e

    module _ (w : W) (weighs : lookup S A t ≡ some w) where
      -- some path has the weight of the tuple
      pub some_start : (q : ℕ) × (r : List ℕ) × Starts S A within t q r w
      some_start = attains_starts ((lookup_attains S A within t).holds w weighs)

      -- and none has less
      starts-above : {q : ℕ} {r : List ℕ} {v : W} → Starts S A within t q r v → T (leq w v)
      starts-above {v} s = held_below S (lookup S A t) (lookup_attains S A within t) w v weighs (starts_attains s)

      -- what follows its initial weight is the least from there
      pub least_start : {q : ℕ} {r : List ℕ} (s : Starts S A within t q r w) → least_onward S A q t ≡ some s.onwards
      least_start {q} s =
          least_part S (least_onward S A q t) (cell_least S A within q t (initial_of_lt A q s.initial s.starts))
          s.initial s.onwards w (run_any S A s.run) s.sum
          (λ v (k, o). starts-above (record { initial = s.initial; starts = s.starts; onwards = v; run = any_run S A o; sum = refl }))

      -- The path of this weight that comes before every other is the one that is told.
      pub first_is : (π : Trace) → Starts S A within t π.start π.run w
          → ((ρ : Trace) → Starts S A within t ρ.start ρ.run w → (π ≡ ρ) ⊎ Before π ρ) → least_path S A t ≡ some (record { weight = w; path = π })
      first_is π s first = go (least_path-cases S A within t)
        where
          -- of two paths, each of which comes first
          same_path : (ρ : Trace) → (π ≡ ρ) ⊎ Before π ρ → (ρ ≡ π) ⊎ Before ρ π → ρ ≡ π
          same_path ρ (inl e) y = sym e
          same_path ρ (inr h) (inl e) = e
          same_path ρ (inr h) (inr k) = absurd (before_asym π ρ h k)

          go : ((x : Account W) × (least_path S A t ≡ some x) × Behind S A within t x.weight x.path)
              ⊎ ((least_path S A t ≡ none) × ((q : ℕ) (r : List ℕ) (v : W) → Starts S A within t q r v → ⊥))
              → least_path S A t ≡ some (record { weight = w; path = π })
          go (inl (x, e, b)) =
              let weight : x.weight ≡ w = leq_antisym x.weight w (b.least π.start π.run w s) (starts-above b.path) in
              let path : x.path ≡ π = same_path x.path
              (first x.path (subst (Starts S A within t x.path.start x.path.run) weight b.path))
              (b.first π.start π.run (subst (Starts S A within t π.start π.run) (sym weight) s)) in
              e ∙ ap {B = Option (Account W)} some (λ i. record { weight = weight i; path = path i })
          go (inr (e, never)) = absurd (never π.start π.run w s)
