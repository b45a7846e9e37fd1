-- A table whose states and arcs are in order shows it by its lines, also when labels alone are changed.
use mathlib.Core.Path.{◌≡◌, refl, sym, ◌∙◌, ap, subst}
use mathlib.Core.Logic.{◌⊎◌, inl, inr}
use mathlib.Core.Option.{some, some-injective}
use Prim.Native.Nat.{ℕ, zero, ◌+◌, ◌<◌, ◌≤◌}
use native.Mathlib.Omega.{arith}
use lib.ListN.{length, get_elem?}
use Rattle.automata.specs.Lists.{bind}
use Rattle.automata.specs.Automaton.{Arc, Automaton, Tuple, size, initial_of, Formed}
use Rattle.automata.specs.Projection.{range, relabelled_arc}
use Rattle.automata.proofs.ListFacts
use Rattle.automata.proofs.Membership.{place_map, place_map⁻¹}
use Rattle.automata.proofs.TestFacts.{compared}
use Rattle.laws.specs.Order.{Key, Arrival, start, step, ◌⊏◌, FromBelow, Reaches, FirstReached, Ordered, table_graph, OrderedTable, LabelsOnly}
use Rattle.laws.specs.PrintedOrder.{Later, FirstArc, PrintedOrder}
use Rattle.laws.proofs.Lemmas.Ranges.{range_at, range-placed}
use Rattle.laws.proofs.Lemmas.OrderFacts.{⊏_irreflexive, ⊏_transitive, ordered_iff, arrival, arrived, arrivals_increase}

-- labels alone changed: the table is in the same order
pub relabelled_ordered : {W : Type 0} (f : Tuple → Tuple) (n : ℕ) (A R : Automaton W) (state_key arc_key : ℕ → Key) → LabelsOnly f n A R
    → OrderedTable A state_key arc_key → OrderedTable R state_key arc_key
relabelled_ordered {W} f n A R state_key arc_key l o = record {
  states = subst (λ (k : ℕ). Ordered (table_graph R state_key arc_key) (range zero k)) (ap length (sym l.states))
      (ordered_iff (table_graph A state_key arc_key) (table_graph R state_key arc_key) (range zero (size A))
      (λ s k m (i, e, q). (i, ap (λ ss. bind (get_elem? ss k) (λ s. s.initial)) l.states ∙ e, q))
      (λ s k (i, e, q). (i, ap (λ ss. bind (get_elem? ss k) (λ s. s.initial)) (sym l.states) ∙ e, q))
      (λ j s k p q (m, a, e, u, v, w). (m, relabelled_arc f a, forth m a e, u, v, w))
      (λ j s k p (m, b, e, u, v, w). let (a, g, z) = back m b e in
      (m, a, g, ap (λ (c : Arc W). c.source) z ∙ u, ap (λ (c : Arc W). c.target) z ∙ v, w))
      o.states);
  arcs = λ p q a b e g h.
      let (c, x, y) = back p a e in
      let (d, z, w) = back q b g in
      subst (λ (i : Arrival). i ⊏ step b.source (arc_key q)) (λ t. step (y t).source (arc_key p))
      (subst (λ (i : Arrival). step c.source (arc_key p) ⊏ i) (λ t. step (w t).source (arc_key q)) (o.arcs p q c d x z h));
}
  where
    forth : (m : ℕ) (a : Arc W) → get_elem? A.arcs m ≡ some a → get_elem? R.arcs m ≡ some (relabelled_arc f a)
    forth m a e = ap (λ es. get_elem? es m) l.arcs ∙ place_map (relabelled_arc f) A.arcs m e

    back : (m : ℕ) (b : Arc W) → get_elem? R.arcs m ≡ some b → (a : Arc W) × (get_elem? A.arcs m ≡ some a) × (relabelled_arc f a ≡ b)
    back m b e = place_map⁻¹ (relabelled_arc f) A.arcs m (ap (λ es. get_elem? es m) (sym l.arcs) ∙ e)

module _ {W : Type 0} (A : Automaton W) (state_key arc_key : ℕ → Key) (formed : Formed A) (o : OrderedTable A state_key arc_key) where
  -- state number k stands at place k
  at_number : (k : ℕ) → k < size A → get_elem? (range zero (size A)) k ≡ some k
  at_number k h = let z : zero + k ≡ k = omega arith in range_at zero (size A) k h ∙ ap some z

  -- the first arrival at a state
  came : (k : ℕ) → k < size A → Arrival
  came k h = arrival (table_graph A state_key arc_key) (range zero (size A)) o.states k k (at_number k h)

  -- no other comes before it
  first : (k : ℕ) (h : k < size A) → FirstReached (table_graph A state_key arc_key) (range zero (size A)) k (came k h) k
  unfolding came
  first k h = arrived (table_graph A state_key arc_key) (range zero (size A)) o.states k k (at_number k h)

  -- states with higher numbers are first reached later
  later : (k l : ℕ) (h : k < size A) (i : l < size A) → k < l → came k h ⊏ came l i
  unfolding came
  later k l h i b = arrivals_increase (table_graph A state_key arc_key) (range zero (size A)) o.states k l k l (at_number k h) (at_number l i) b

  -- an arc that leads to a state arrives at it
  arrives : (m : ℕ) (a : Arc W) → get_elem? A.arcs m ≡ some a
      → Reaches (table_graph A state_key arc_key) (range zero (size A)) (step a.source (arc_key m)) a.target
  arrives m a e = (a.source, at_number a.source (formed.within m a e).0, (m, a, e, refl, refl, refl))

  -- where no path starts in a state, it is first reached by an arc
  record Came (k : ℕ) (x : Arrival) : Type 0 where
    number : ℕ
    arc : Arc W
    at : get_elem? A.arcs number ≡ some arc
    leads : arc.target ≡ k
    lower : arc.source < k
    by : x ≡ step arc.source (arc_key number)

  -- by which arc
  came_by : (k : ℕ) (l : Later A k) → Came k (came k l.0)
  came_by k (h, e) = go (came k h) (first k h).reaches (first k h).from_below
    where
      go : (x : Arrival) → Reaches (table_graph A state_key arc_key) (range zero (size A)) x k → FromBelow k x → Came k x
      go (start s) (i, p, _) b = ListFacts.none_not_some e p
      go (step i s) (j, p, (m, a, q, f, t, key)) b =
          let (z, _) = range-placed zero (size A) i j p in
          let u : i ≡ a.source = omega arith in
          record { number = m; arc = a; at = q; leads = t; lower = omega arith; by = λ r. step (u r) (sym key r) }

  -- no arc before it leads there
  none_before : (k : ℕ) (l : Later A k) (n : ℕ) (b : Arc W) → get_elem? A.arcs n ≡ some b → b.target ≡ k → (came_by k l).number ≤ n
  none_before k (h, e) n b p t = elim (compared n c.number) [
    | inl i ↦ absurd (earlier (o.arcs n c.number b c.arc p c.at i))
    | inr (inl i) ↦ omega arith
    | inr (inr i) ↦ omega arith
  ]
    where
      c : Came k (came k h)
      c = came_by k (h, e)

      y : Arrival
      y = step b.source (arc_key n)

      earlier : y ⊏ step c.arc.source (arc_key c.number) → ⊥
      earlier d =
          let d' = subst (λ (x : Arrival). y ⊏ x) (sym c.by) d in
          elim ((first k h).first y (subst (Reaches (table_graph A state_key arc_key) (range zero (size A)) y) t (arrives n b p))) [
            | inl q ↦ ⊏_irreflexive y (subst (λ (x : Arrival). y ⊏ x) q d')
            | inr q ↦ ⊏_irreflexive y (⊏_transitive y (came k h) y d' q)
          ]

  -- the first arc of a state is the one by which it is first reached
  came_first : (k m : ℕ) (l : Later A k) (f : FirstArc A k m) → came k l.0 ≡ step f.arc.source (arc_key m)
  came_first k m l f =
      let c = came_by k l in
      let u : m ≤ c.number = f.first c.number c.arc c.at c.leads in
      let v : c.number ≤ m = none_before k l m f.arc f.at f.leads in
      let z : c.number ≡ m = omega arith in
      let a : c.arc ≡ f.arc = some-injective c.arc f.arc (sym c.at ∙ ap (get_elem? A.arcs) z ∙ f.at) in
      c.by ∙ (λ r. step (a r).source (arc_key (z r)))

  -- a state in which a path starts has a lower number
  initial_before : (j k : ℕ) (i : W) → initial_of A j ≡ some i → Later A k → j < k
  initial_before j k i e l = elim (compared j k) [
    | inl h ↦ h
    | inr (inl h) ↦ ListFacts.none_not_some l.1 (sym (ap (initial_of A) h) ∙ e)
    | inr (inr h) ↦ absurd (before (started (came j in_range) refl ((first j in_range).first (start (state_key j)) (i, e, refl))) h)
  ]
    where
      in_range : j < size A
      in_range = let (s, p, _) = ListFacts.bind_some (get_elem? A.states j) (λ s. s.initial) e in ListFacts.place_bound A.states j p

      started : (x : Arrival) → came j in_range ≡ x → (came j in_range ≡ start (state_key j)) ⊎ (came j in_range ⊏ start (state_key j))
          → (s : Key) × (came j in_range ≡ start s)
      started x q (inl p) = (state_key j, p)
      started (start s) q (inr p) = (s, q)
      started (step i s) q (inr p) = absurd (subst (λ (y : Arrival). y ⊏ start (state_key j)) q p)

      before : (s : Key) × (came j in_range ≡ start s) → k < j → ⊥
      before (s, q) h =
          let c = came_by k l in
          subst (λ (y : Arrival). step c.arc.source (arc_key c.number) ⊏ y) q
          (subst (λ (y : Arrival). y ⊏ came j in_range) c.by (later k j l.0 in_range h))

  -- The lines show the order.
  pub lines_in_order : PrintedOrder A
  lines_in_order = record {
    initial_first = initial_before;
    first-arc = λ k l.
        let c = came_by k l in
        (c.number, record { arc = c.arc; at = c.at; leads = c.leads; lower = c.lower; first = none_before k l });
    by_first_arc = λ k l m n p q f g h. ordered k l m n p q f g h;
    by_source = λ m n a b p q h. sources a.source b.source (arc_key m) (arc_key n) (o.arcs m n a b p q h);
  }
    where
      sources : (i j : ℕ) (s t : Key) → step i s ⊏ step j t → i ≤ j
      sources i j s t (inl h) = omega arith
      sources i j s t (inr (h, _)) = omega arith

      ordered : (k l m n : ℕ) → Later A k → Later A l → FirstArc A k m → FirstArc A l n → k < l → m < n
      ordered k l m n p q f g h =
          let x = step f.arc.source (arc_key m) in
          let y = step g.arc.source (arc_key n) in
          let xy : x ⊏ y = subst (λ (z : Arrival). z ⊏ y) (came_first k m p f) (subst (λ (z : Arrival). came k p.0 ⊏ z) (came_first l n q g) (later k l p.0 q.0 h)) in
          elim (compared m n) [
            | inl i ↦ i
            | inr (inl i) ↦ (let a : f.arc ≡ g.arc = some-injective f.arc g.arc (sym f.at ∙ ap (get_elem? A.arcs) i ∙ g.at) in
                let t = ap (λ (z : Arc W). z.target) a in let u = f.leads in let v = g.leads in absurd (omega arith))
            | inr (inr i) ↦ absurd (⊏_irreflexive x (⊏_transitive x y x xy (o.arcs n m g.arc f.arc g.at f.at i)))
          ]
