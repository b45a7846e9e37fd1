-- The product as the first step of a join: what it leaves is what the other steps ask for, and its refusal ends them.
use Prim.Native.Nat.{ℕ, ◌+◌, ◌≤◌}
use mathlib.Core.Path.{◌≡◌, refl, sym, ap, subst, ◌∙◌}
use mathlib.Core.List.{List, [], ◌∷◌}
use native.Mathlib.Omega.{arith}
use lib.Dec.{leb}
use lib.ListN.{length}
use Rattle.automata.specs.Limits.{max_delay}
use Rattle.automata.specs.Lists.{and}
use Rattle.automata.specs.Answer.{ok, refused}
use Rattle.automata.specs.OrderedSum.{ℕ_sum}
use Rattle.automata.specs.Table.{weight_fits}
use Rattle.automata.specs.TapePair.{Pair, TapePair, tapes_of, placed, behind, limits_fit}
use Rattle.automata.specs.Tapes.{seconds, moved, place_after}
use Rattle.automata.specs.Memory.{Memory, Sound, table_of}
use Rattle.automata.specs.Product.{cross_product}
use Rattle.automata.specs.Calls.Outcome.{Slices, lent_table, Made, space_of, made_of, and_then}
use Rattle.automata.specs.Calls.JoinSteps.{product_step, intersect_step, drop_step, join_by_calls}
use Rattle.automata.proofs.CallFacts.{put_refused, join-product-refused, join-product-given}
use Rattle.automata.proofs.Meeting.{width-behind}
use Rattle.automata.proofs.PairFacts.{within_∈, tapes_behind}
use Rattle.automata.proofs.ProductTable.{product_tapes}
use Rattle.automata.proofs.SoundFacts.{sound, sound_well_formed, sound_holds}
use Rattle.laws.proofs.Results
use Rattle.table.specs.declared.answer.Counts.{Counts}
use Rattle.table.specs.declared.pair.PairList.{PairList}
use Rattle.table.specs.Answers.{counts_as, lent}
use Rattle.table.specs.Pairs.{pairs_as, Named}
use Rattle.pairs.specs.Judgement.{Moved}
use Rattle.intersect_room.specs.declared.room.Room.{Room}
use Rattle.product.specs.Multiplied.{Multipliable}
use Rattle.join_steps.specs.Steps.{Keepable, Joinable}
use Rattle.join_steps.proofs.KeepFacts.{made_table}

-- ---- the limits

-- pairs whose second tapes were moved have the same limits
limits_placed : (f : ℕ → ℕ) (ps : List TapePair) → limits_fit (placed f ps) ≡ limits_fit ps
limits_placed f [] = refl
limits_placed f (p ∷ ps) = ap (and (leb p.limit max_delay)) (limits_placed f ps)

-- ---- the product

-- it has all that it asks for
pub product_ready : (a b : Memory) (pairs : PairList) (room : Room) (for_product_states for_product_arcs for_states for_arcs work : ℕ)
    → Joinable a b pairs room for_product_states for_product_arcs for_states for_arcs work → Multipliable a b for_product_states for_product_arcs work
product_ready a b pairs room for_product_states for_product_arcs for_states for_arcs work x = record {
  first = x.first;
  second = x.second;
  tapes_fit = x.narrow;
  work_fits = x.work_fits;
}

module _ (a b : Memory) (pairs : PairList) (p s : Slices) where
  -- the steps of the join
  abbrev all_steps : Made
  all_steps = join_by_calls (table_of a) (table_of b) (pairs_as pairs) p s

  abbrev product : Made
  product = product_step (table_of a) (table_of b) p

  -- a refusal ends them, and the result is as it was
  pub product-refused : (n : ℕ) (states arcs : List ℕ) → made_of (refused n) states arcs ≡ product → made_of (refused n) s.states s.arcs ≡ all_steps
  product-refused n states arcs e =
      sym (put_refused s n) ∙ sym (join-product-refused (table_of a) (table_of b) (pairs_as pairs) p s n (ap (λ (o : Made). o.answer) (sym e)))

  -- else the other steps follow on what stands in the product's space
  pub product-given : Sound a → (c : Counts) (states arcs : List ℕ) (r : PairList) (o : Made) → made_of (ok (counts_as c)) states arcs ≡ product
      → Moved a.tapes pairs r → o ≡ and_then (intersect_step (lent c states arcs) (pairs_as r) s) (λ K left. drop_step K (seconds (tapes_of (pairs_as r))) left) → o ≡ all_steps
  product-given h c states arcs r o e v z =
      let kept : pairs_as r ≡ behind (table_of a).tapes (pairs_as pairs) =
      v.pairs ∙ ap (λ (n : ℕ). behind n (pairs_as pairs)) (sound_holds a h).tapes in
      z
      ∙ ap (λ (qs : List TapePair). and_then (intersect_step (lent c states arcs) qs s) (λ K left. drop_step K (seconds (tapes_of qs)) left)) kept
      ∙ ap (λ (o : Made). and_then (intersect_step (lent_table (counts_as c) o.result) (behind (table_of a).tapes (pairs_as pairs)) s)
      (λ K left. drop_step K (seconds (tapes_of (behind (table_of a).tapes (pairs_as pairs)))) left)) e
      ∙ sym (join-product-given (table_of a) (table_of b) (pairs_as pairs) p s (counts_as c) (ap (λ (o : Made). o.answer) (sym e)))

  -- what stands there is a table that can be kept on the moved pairs
  pub product_keepable : (room : Room) (work size : ℕ) → Joinable a b pairs room (length p.states) (length p.arcs) (length s.states) (length s.arcs) work → size ≡ work
      → (c : Counts) (states arcs : List ℕ) (r : PairList) → made_of (ok (counts_as c)) states arcs ≡ product
      → Moved a.tapes pairs r → length r.pairs ≡ 4 → Keepable (lent c states arcs) r room (length s.states) (length s.arcs) size
  unfolding product_step
  product_keepable room work size x long c states arcs r e v four =
      let t = made_table (cross_product ℕ_sum weight_fits (space_of p) (table_of a) (table_of b)) p (counts_as c) states arcs e in
      let n = (sound_holds a x.first).tapes in
      let m = (sound_holds b x.second).tapes in
      let made = Results.crossed (space_of p) (table_of a) (table_of b) t.automaton (sound_well_formed a x.first) (sound_well_formed b x.second)
      (omega (arith, x.narrow, n, m)) t.gave in
      let wide = product_tapes ℕ_sum weight_fits (space_of p) (table_of a) (table_of b) t.automaton t.gave in
      let same : a.tapes + b.tapes ≡ c.tapes = omega (arith, wide, t.tapes, n, m) in
      let some = (sound_well_formed a x.first).counts.some_tape in
      let qs = tapes_of (pairs_as pairs) in
      let width = width-behind a.tapes b.tapes qs (λ o i. (within_∈ a.tapes b.tapes qs x.inside o i).2) in
      let left : 1 ≤ place_after (seconds (moved (λ j. a.tapes + j) qs)) (a.tapes + b.tapes) = omega (arith, width, some, n) in
      record {
        keeps = record {
          sound = sound (lent c states arcs) t.automaton (t.decoded made.well_formed);
          named = subst (λ (k : ℕ). Named k r) same (v.tapes_named b.tapes x.sided);
          four = four;
          within_limits = ap limits_fit v.pairs ∙ limits_placed (λ j. a.tapes + j) (pairs_as pairs) ∙ x.within_limits;
          divides = record {
            state_cap_is = x.divides.state_cap_is;
            arc_cap_is = x.divides.arc_cap_is;
            configs_fit = x.divides.configs_fit;
            edges_fit = x.divides.edges_fit;
            delays_fit = omega (arith, x.divides.delays_fit, made.states, t.states, long);
          };
        };
        left = subst (λ (k : ℕ). 1 ≤ place_after (seconds (tapes_of (pairs_as r))) k) same
            (subst (λ (qs : List Pair). 1 ≤ place_after (seconds qs) (a.tapes + b.tapes)) (sym (ap tapes_of v.pairs ∙ tapes_behind a.tapes (pairs_as pairs))) left);
      }
