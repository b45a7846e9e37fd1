-- The automaton whose weights count the arcs: its runs are those of the automaton, each with its weight and its number
-- of arcs.
use mathlib.Core.Path.{◌≡◌, refl, sym, ap, ap₂, subst, ◌∙◌}
use mathlib.Core.Option
use mathlib.Core.Option.{Option, none, some}
use mathlib.Core.List.{List, [], ◌∷◌, ◌++◌, map}
use Prim.Native.Nat.{ℕ, suc}
use native.Mathlib.Omega.{arith}
use lib.ListN.{length, length-map, get_elem?}
use Rattle.automata.specs.Lists.{bind}
use Rattle.automata.specs.OrderedSum.{OrderedSum}
use Rattle.automata.specs.Graph
use Rattle.automata.specs.Graph.{Graph, Within, stop, step}
use Rattle.automata.specs.Automaton.{Tuple, Automaton, State, Arc, Walk, graph, size, initial_of, final_of, label_on, spelled}
use Rattle.automata.specs.LeastPath.{counting, still, counted_arc, counted_state, counted}
use Rattle.automata.specs.Lookup.{left_quotients}
use Rattle.automata.proofs.ListFacts.{map_place, map_some}
use Rattle.automata.proofs.Membership.{place_map, place_map⁻¹}
use Rattle.automata.proofs.Spelling.{Spells, spells_cons, spells_tail}
use Rattle.automata.proofs.LookupRuns.{onward, Onward, onward_of}

module _ {W : Type 0} (A : Automaton W) where
  pub size-counted : size (counted A) ≡ size A
  size-counted = length-map A.states counted_state

  -- initial and final weights have no arc
  pub initial_counted : (q : ℕ) → initial_of (counted A) q ≡ still (initial_of A q)
  initial_counted q = ap (λ (o : Option (State (W × ℕ))). bind o (λ s. s.initial)) (map_place counted_state A.states q) ∙ go (get_elem? A.states q)
    where
      go : (o : Option (State W)) → bind (Option.map counted_state o) (λ s. s.initial) ≡ still (bind o (λ s. s.initial))
      go none = refl
      go (some s) = refl

  pub final_counted : (q : ℕ) → final_of (counted A) q ≡ still (final_of A q)
  final_counted q = ap (λ (o : Option (State (W × ℕ))). bind o (λ s. s.final)) (map_place counted_state A.states q) ∙ go (get_elem? A.states q)
    where
      go : (o : Option (State W)) → bind (Option.map counted_state o) (λ s. s.final) ≡ still (bind o (λ s. s.final))
      go none = refl
      go (some s) = refl

  -- the same walks
  pub counted_walk : {q : ℕ} {r : List ℕ} {es : List (Arc W)} {p : ℕ} → Walk A q r es p → Walk (counted A) q r (map counted_arc es) p
  counted_walk stop = stop
  counted_walk (step {e} at from w) = step (place_map counted_arc A.arcs e at) from (counted_walk w)

  pub uncounted_walk : {q : ℕ} {r : List ℕ} {es : List (Arc (W × ℕ))} {p : ℕ} → Walk (counted A) q r es p
      → (ds : List (Arc W)) × Walk A q r ds p × (es ≡ map counted_arc ds)
  uncounted_walk stop = ([], stop, refl)
  uncounted_walk {p = p} (step {e} {a} {r} at from w) =
      let (b, at', same) = place_map⁻¹ counted_arc A.arcs e at in
      let (ds, v, f) = uncounted_walk w in (
        b ∷ ds,
        step at' (ap (λ (z : Arc (W × ℕ)). z.source) same ∙ from) (subst (λ z. Walk A z r ds p) (sym (ap (λ (z : Arc (W × ℕ)). z.target) same)) v),
        ap₂ (λ x xs. x ∷ xs) (sym same) f,
      )

  pub within-counted : Within (graph A) (size A) → Within (graph (counted A)) (size (counted A))
  within-counted within e a at =
      let (b, at', same) = place_map⁻¹ counted_arc A.arcs e at in
      let (s, t) = within e b at' in
      let from : b.source ≡ a.source = ap (λ (z : Arc (W × ℕ)). z.source) same in
      let to : b.target ≡ a.target = ap (λ (z : Arc (W × ℕ)). z.target) same in
      (omega (arith, size-counted, s, from), omega (arith, size-counted, t, to))

-- a walk has as many arcs as its run has numbers
pub walk_length : {E : Type 0} {G : Graph E} {q : ℕ} {r : List ℕ} {es : List E} {p : ℕ} → Graph.Walk G q r es p → length r ≡ length es
walk_length stop = refl
walk_length (step at from w) = ap suc (walk_length w)

module _ {W : Type 0} where
  -- the same strings
  spelled-counted : (i : ℕ) (es : List (Arc W)) → spelled i (map counted_arc es) ≡ spelled i es
  spelled-counted i [] = refl
  spelled-counted i (a ∷ es) = ap (λ s. label_on i a ++ s) (spelled-counted i es)

  spells_counted : (es : List (Arc W)) (t : Tuple) → Spells es t → Spells (map counted_arc es) t
  spells_counted es t h i lt = spelled-counted i es ∙ h i lt

  pub spells_uncounted : (es : List (Arc W)) (t : Tuple) → Spells (map counted_arc es) t → Spells es t
  spells_uncounted es t h i lt = sym (spelled-counted i es) ∙ h i lt

module _ (S : OrderedSum) (A : Automaton S.W) where
  open S use {W, ◌⊕◌}

  infixl 65 ◌⊕◌
  -- the same weights, with the number of arcs
  pub onward-counted : (es : List (Arc W)) (f : W) → onward (counting S) (counted A) (map counted_arc es) (f, 0) ≡ (onward S A es f, length es)
  onward-counted [] f = refl
  onward-counted (a ∷ es) f =
      let ih = onward-counted es f in
      ap₂ (λ (x : W) (y : ℕ). (a.weight ⊕ x, y)) (ap (λ (z : W × ℕ). z.0) ih)
      (let s : (onward (counting S) (counted A) (map counted_arc es) (f, 0)).1 ≡ length es = ap (λ (z : W × ℕ). z.1) ih in omega arith)

  -- the run r from q spells the rests, ends with a final weight and has, with it, the weight w
  pub record Run (q : ℕ) (rests : Tuple) (r : List ℕ) (w : W) : Type 0 where
    pub arcs : List (Arc W)
    pub end : ℕ
    pub final : W
    pub walk : Walk A q r arcs end
    pub ends : final_of A end ≡ some final
    pub spells : Spells arcs rests
    pub weight : w ≡ onward S A arcs final

  -- some run has this weight and this number of arcs
  abbrev pub Runs : ℕ → Tuple → W × ℕ → Type 0
  Runs q rests u = (r : List ℕ) × Run q rests r u.0 × (length r ≡ u.1)

  unfoldable pub onward_run : (k q : ℕ) (rests : Tuple) (u : W × ℕ) → Onward (counting S) (counted A) k q rests u → Runs q rests u
  onward_run k q rests u o =
      let (ds, v, e) = uncounted_walk A o.leads.1 in
      let (f, fin, g) = map_some (λ w. (w, 0)) (final_of A o.end) (sym (final_counted A o.end) ∙ o.ends) in
      let same : u ≡ (onward S A ds f, length ds) = o.weight ∙ ap₂ (onward (counting S) (counted A)) e g ∙ onward-counted ds f in (
        o.leads.0,
        record {
          arcs = ds;
          end = o.end;
          final = f;
          walk = v;
          ends = fin;
          spells = spells_uncounted ds rests (subst (λ z. Spells z rests) e o.spells);
          weight = ap (λ (z : W × ℕ). z.0) same;
        },
        walk_length v ∙ sym (ap (λ (z : W × ℕ). z.1) same),
      )

  -- the run has as many numbers as there are arcs
  pub run_length : (k q : ℕ) (rests : Tuple) (u : W × ℕ) (o : Onward (counting S) (counted A) k q rests u) → length (onward_run k q rests u o).0 ≡ length o.arcs
  unfolding onward_run
  run_length k q rests u o = walk_length o.leads.1

  pub run_onward : (q : ℕ) (rests : Tuple) (r : List ℕ) (w : W) → Run q rests r w
      → Onward (counting S) (counted A) (length r) q rests (w, length r)
  run_onward q rests r w o =
      let fin : final_of (counted A) o.end ≡ some (o.final, 0) = final_counted A o.end ∙ ap still o.ends in
      let few = walk_length o.walk in
      let same : onward (counting S) (counted A) (map counted_arc o.arcs) (o.final, 0) ≡ (w, length r)
      = onward-counted o.arcs o.final ∙ ap₂ (λ (x : W) (y : ℕ). (x, y)) (sym o.weight) (sym few) in
      subst (Onward (counting S) (counted A) (length r) q rests) same
      (onward_of (counting S) (counted A) (length r) rests (counted_walk A o.walk) fin (spells_counted o.arcs rests o.spells)
      (omega (arith, few, length-map o.arcs counted_arc)))

  -- a run that begins with arc number e
  pub record RunOn (q : ℕ) (rests : Tuple) (e : ℕ) (r : List ℕ) (w : W) : Type 0 where
    pub arc : Arc W
    pub at : get_elem? A.arcs e ≡ some arc
    pub from : arc.source ≡ q
    pub rest : Tuple
    pub left : left_quotients arc.labels rests ≡ some rest
    pub onwards : W
    pub tail : Run arc.target rest r onwards
    pub sum : w ≡ arc.weight ⊕ onwards

  pub run_on : {q : ℕ} {rests : Tuple} {e : ℕ} {r : List ℕ} {w : W} → Run q rests (e ∷ r) w → RunOn q rests e r w
  run_on {q} {rests} {e} {r} {w} o = go o.walk o.spells o.weight
    where
      go : {es : List (Arc W)} → Walk A q (e ∷ r) es o.end → Spells es rests → w ≡ onward S A es o.final → RunOn q rests e r w
      go (step {a = a} {es = es} at from v) h k =
          let (rest, b, h') = spells_tail a es rests h in record {
            arc = a;
            at = at;
            from = from;
            rest = rest;
            left = b;
            onwards = onward S A es o.final;
            tail = record { arcs = es; end = o.end; final = o.final; walk = v; ends = o.ends; spells = h'; weight = refl };
            sum = k;
          }

  pub run_cons : {q : ℕ} {rests : Tuple} {e : ℕ} {r : List ℕ} {w : W} → RunOn q rests e r w → Run q rests (e ∷ r) w
  run_cons {rests = rests} o = record {
    arcs = o.arc ∷ o.tail.arcs;
    end = o.tail.end;
    final = o.tail.final;
    walk = step o.at o.from o.tail.walk;
    ends = o.tail.ends;
    spells = spells_cons o.arc o.tail.arcs rests o.rest o.left o.tail.spells;
    weight = o.sum ∙ ap (◌⊕◌ o.arc.weight) o.tail.weight;
  }
