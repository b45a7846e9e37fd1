-- All pairs of initial states, one state of the first side after the other.
use Prim.Native.Nat.{ℕ, zero, ◌+◌, ◌*◌, ◌≤◌, ◌<◌}
use mathlib.Core.Path.{◌≡◌, refl, sym, ap, ◌∙◌}
use mathlib.Core.Bool.{true, false}
use mathlib.Core.List.{List, [], ◌∷◌, ◌++◌}
use native.Mathlib.Omega.{arith}
use lib.ListN.{length, get_or, take, drop}
use lib.Seq.{take_all}
use Rattle.automata.specs.Automaton.{Automaton, State}
use Rattle.automata.specs.Search.{search_from}
use Rattle.automata.specs.Product.{same_vertex, initials_from, all_pairs}
use Rattle.automata.proofs.TestFacts
use Rattle.automata.specs.Layout.{state_size}
use Rattle.search_chains.specs.Chain.{fronts}
use Rattle.product_search.specs.Vertices.{ChainedVertices}
use Rattle.table.specs.Records.{state_as, state_at}
use Rattle.product_search.specs.declared.plan.Plan.{Plan}
use Rattle.product_search.specs.declared.head.Head.{Head}
use Rattle.product_search.specs.Reading.{StatesLent, ReadsStates}
use Rattle.product_search.specs.Searching.{progress, Comes}
use Rattle.product_search.specs.Starting.{Enters, Open, Widens, StartsAll, StartsBoth, Beginnable, Begun, starts_of}
use Rattle.search_rows.proofs.ProgressFacts.{widens_none, widens_then}
use Rattle.product_search.proofs.ReadFacts.{initial_absent, initial_present}
use Rattle.product_search.proofs.HeldFacts.{moves_none}
use Rattle.product_search.proofs.StartFacts.{enters_none, enters_then, enters_full, enters_same, initials_suc, initials_split, pairs_append, one-absent, one_present}

-- ---- one state of the first side

module _ (p : Plan) (h : Head) (s1 : List ℕ) (q : ℕ) (s2 : List ℕ) (v : List ℕ) (k : Open p h (length v)) (within : q < p.first.states) where
  abbrev state : State ℕ
  state = state_as (state_at (state_size * q) s1)

  -- no path starts in it
  pub both_not : get_or s1 (state_size * q) 0 ≡ 0 → StartsBoth p h s1 q s2 v h v
  both_not z = record {
    widens = widens_none p.states (progress h) v k.fits;
    meaning = λ A B a b. enters_same p A B [] (all_pairs (initials_from q (state ∷ [])) (initials_from zero B.states)) h h v v
        (sym (ap (λ (is : List ℕ). all_pairs is (initials_from zero B.states)) (one-absent q state (initial_absent q s1 z)))) (enters_none p A B h v);
  }

  -- one does
  pub both_there : (get_or s1 (state_size * q) 0 ≡ 0 → ⊥) → (r : Head) (w : List ℕ) → StartsAll p h q s2 v r w → StartsBoth p h s1 q s2 v r w
  both_there n r w y = record {
    widens = y.widens;
    meaning = λ A B a b.
        let i = initial_present q s1 n in
        enters_same p A B (all_pairs (q ∷ []) (initials_from zero B.states)) (all_pairs (initials_from q (state ∷ [])) (initials_from zero B.states)) h r v w
        (sym (ap (λ (is : List ℕ). all_pairs is (initials_from zero B.states)) (one_present q i.0 state i.1)))
        (y.meaning A B a.few b (omega (arith, within, a.count)));
  }

-- ---- all of them

abbrev no_head : Head
no_head = record { taken = 0; reached = 0; arcs = 0; full = false }

-- the first q were looked at
pub record Beginning (p : Plan) (s1 s2 : List ℕ) (v : List ℕ) (g : Head) (w : List ℕ) (q : ℕ) : Type 0 where
  pub within : q ≤ p.first.states
  pub opened : g.full ≡ false
  pub widens : Widens p (record { taken = 0; reached = 0; arcs = 0; full = false }) v g w
  pub meaning : (A B : Automaton ℕ) → ReadsStates p.first s1 A → ReadsStates p.second s2 B
      → Enters p A B (all_pairs (initials_from zero (take q A.states)) (initials_from zero B.states)) (record { taken = 0; reached = 0; arcs = 0; full = false }) v g w

-- nothing is held to begin with
nothing-held : (p : Plan) (A B : Automaton ℕ) (v : List ℕ) → ChainedVertices p.states 0 v → Comes p A B (record { taken = 0; reached = 0; arcs = 0; full = false }) (record { vertices = []; edges = [] }) v
unfolding fronts
nothing-held p A B v e = record {
  held = λ f. record { vertices = refl; chained = e; moves = moves_none A B [] p.base p.arcs v; reached = refl; fits = omega arith; arc_count = refl; below = tt };
  over = λ f. TestFacts.false_not_true refl f;
}

-- what was entered from nothing is the search that has begun
begun_from : (p : Plan) (A B : Automaton ℕ) (g : Head) (v w : List ℕ) → ChainedVertices p.states 0 v → Enters p A B (starts_of A B) (record { taken = 0; reached = 0; arcs = 0; full = false }) v g w
    → Comes p A B g (search_from same_vertex (starts_of A B)) w
unfolding search_from
begun_from p A B g v w c e = e (record { vertices = []; edges = [] }) (nothing-held p A B v c)

module _ (p : Plan) (s1 s2 : List ℕ) (v : List ℕ) (k : Beginnable p s1 s2 (length v)) where
  pub begin_start : Beginning p s1 s2 v (record { taken = 0; reached = 0; arcs = 0; full = false }) v 0
  begin_start = record { within = omega arith; opened = refl; widens = widens_none p.states (progress no_head) v (omega arith); meaning = λ A B a b. enters_none p A B no_head v }

  module _ (g : Head) (w : List ℕ) (q : ℕ) (t : Beginning p s1 s2 v g w q) where
    pub begin_requires : q < p.first.states
        → (Open p g (length w)) × (g.full ≡ false) × (StatesLent p.first s1) × (q < p.first.states) × (StatesLent p.second s2)
    begin_requires b = (
      record { vertices_fit = k.vertices_fit; moves_fit = omega (arith, k.moves_fit, t.widens.same_length); few_states = k.few_states; fits = t.widens.fits },
      t.opened,
      k.first_lent,
      b,
      k.second_lent,
    )

    module _ (b : q < p.first.states) (r : Head) (u : List ℕ) (z : StartsBoth p g s1 q s2 w r u) where
      next_widens : Widens p no_head v r u
      next_widens = widens_then p.states (progress no_head) (progress g) (progress r) v w u t.widens z.widens

      next_means : (A B : Automaton ℕ) → ReadsStates p.first s1 A → ReadsStates p.second s2 B
          → Enters p A B (all_pairs (initials_from zero (take (q + 1) A.states)) (initials_from zero B.states)) no_head v r u
      next_means A B m n =
          let s : State ℕ = state_as (state_at (state_size * q) s1) in
          let qs = initials_from zero B.states in
          let is = initials_from zero (take q A.states) in
          let e : all_pairs is qs ++ all_pairs (initials_from q (s ∷ [])) qs ≡ all_pairs (initials_from zero (take (q + 1) A.states)) qs =
          sym (pairs_append qs is (initials_from q (s ∷ []))) ∙ ap (λ (l : List ℕ). all_pairs l qs) (sym (initials_suc A.states q s (m.loaded q b))) in
          enters_same p A B _ _ no_head r v u e (enters_then p A B (all_pairs is qs) (all_pairs (initials_from q (s ∷ [])) qs) no_head g r v w u (t.meaning A B m n) (z.meaning A B m n))

      pub begin_next : r.full ≡ false → Beginning p s1 s2 v r u (q + 1)
      begin_next f = record { within = omega arith; opened = f; widens = next_widens; meaning = next_means }

      pub begin_full : r.full ≡ true → Begun p s1 s2 v r u
      begin_full f = record {
        taken = next_widens.taken;
        arcs = next_widens.arcs;
        fits = next_widens.fits;
        same_length = next_widens.same_length;
        meaning = λ c A B m n.
            let qs = initials_from zero B.states in
            let is = initials_from zero (take (q + 1) A.states) in
            let more = initials_from (zero + length (take (q + 1) A.states)) (drop (q + 1) A.states) in
            let e : all_pairs is qs ++ all_pairs more qs ≡ starts_of A B = sym (pairs_append qs is more) ∙ ap (λ (l : List ℕ). all_pairs l qs) (initials_split A.states (q + 1)) in
            begun_from p A B r v u c (enters_same p A B _ _ no_head r v u e (enters_full p A B (all_pairs is qs) (all_pairs more qs) no_head r v u f (next_means A B m n)));
      }

    pub begin_end : p.first.states ≤ q → Begun p s1 s2 v g w
    begin_end b = record {
      taken = t.widens.taken;
      arcs = t.widens.arcs;
      fits = t.widens.fits;
      same_length = t.widens.same_length;
      meaning = λ c A B m n. begun_from p A B g v w c (enters_same p A B _ _ no_head g v w
          (ap (λ (ss : List (State ℕ)). all_pairs (initials_from zero ss) (initials_from zero B.states)) (take_all q A.states (omega (arith, b, m.count)))) (t.meaning A B m n));
    }
