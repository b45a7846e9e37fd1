-- The states of the product in which paths start, from what the calls answer and leave.
use Prim.Native.Nat.{ℕ, zero, suc, ◌+◌, ◌*◌, ◌≤◌, ◌<◌}
use mathlib.Core.Path.{◌≡◌, refl, sym, ap, ◌∙◌, subst}
use mathlib.Core.Bool.{true, false}
use mathlib.Core.Option.{Option, none, some}
use mathlib.Core.List.{List, [], ◌∷◌, ◌++◌, map, append_assoc, append-nil}
use native.Mathlib.Omega.{arith}
use mathlib.Core.Logic.{inl}
use lib.ListN.{length, get_or, get_elem?, take, drop, take-append-drop}
use lib.Seq.{take_all, length-take-le}
use Rattle.automata.specs.Automaton.{Automaton, State}
use Rattle.automata.specs.Product as automata
use Rattle.automata.specs.Product.{same_vertex, initials_from, all_pairs}
use Rattle.automata.proofs.TestFacts
use Rattle.automata.proofs.ListFacts
use Rattle.automata.proofs.AppendFacts
use Rattle.automata.proofs.SearchFacts.{insert_all_append}
use Rattle.automata.specs.Layout.{state_size}
use Rattle.table.specs.Records.{state_as, state_at}
use Rattle.search_rows.specs.declared.Reached.{Reached}
use Rattle.search_rows.specs.declared.Entered.{Entered}
use Rattle.search_rows.specs.declared.Entered.TheVariants as E
use Rattle.product_search.specs.declared.vertex.Vertex.{Vertex}
use Rattle.product_search.specs.declared.plan.Plan.{Plan}
use Rattle.product_search.specs.declared.head.Head.{Head}
use Rattle.product_search.specs.Vertices.{EntersVertex}
use Rattle.product_search.specs.Reading.{StatesLent, ReadsStates}
use Rattle.product_search.specs.Searching.{progress, with_reached, Comes}
use Rattle.product_search.specs.Starting.{with_vertices, Enters, Open, Widens, Admits, StartsOne, StartsAll}
use Rattle.search_rows.proofs.ProgressFacts.{widens_none, widens_then}
use Rattle.search_rows.proofs.SearchFacts.{inserted_longer}
use Rattle.product_search.proofs.HeldFacts.{was_at, was_new, was_full, inserted_held}
use Rattle.product_search.proofs.NoteFacts.{exceeds_on}
use Rattle.product_search.proofs.ReadFacts.{initial_absent, initial_present}

-- ---- states entered one after the other, and the bounds

module _ (p : Plan) (A B : Automaton ℕ) where
  pub enters_none : (h : Head) (v : List ℕ) → Enters p A B [] h v h v
  enters_none h v s m = m

  pub enters_then : (cs ds : List automata.Vertex) (h g r : Head) (v u w : List ℕ) → Enters p A B cs h v g u → Enters p A B ds g u r w → Enters p A B (cs ++ ds) h v r w
  enters_then cs ds h g r v u w a b s m =
      subst (λ (l : List automata.Vertex). Comes p A B r (record { vertices = l; edges = s.edges }) w) (sym (insert_all_append same_vertex s.vertices cs ds)) (b (with_vertices s cs) (a s m))

  pub enters_full : (cs ds : List automata.Vertex) (h r : Head) (v w : List ℕ) → r.full ≡ true → Enters p A B cs h v r w → Enters p A B (cs ++ ds) h v r w
  enters_full cs ds h r v w f a s m = record {
    held = λ n. TestFacts.false_not_true n f;
    over = λ n. exceeds_on p r (with_vertices s cs) (with_vertices s (cs ++ ds)) (inserted_longer same_vertex s.vertices cs ds (cs ++ ds) refl) (omega arith) ((a s m).over f);
  }

  pub enters_same : (cs ds : List automata.Vertex) (h r : Head) (v w : List ℕ) → cs ≡ ds → Enters p A B cs h v r w → Enters p A B ds h v r w
  enters_same cs ds h r v w q a = subst (λ (zs : List automata.Vertex). Enters p A B zs h v r w) q a

-- ---- a state is entered

module _ (p : Plan) (h : Head) (d : Vertex) (v : List ℕ) (q : Open p h (length v)) (opened : h.full ≡ false) (r : Entered) (w : List ℕ)
    (t : EntersVertex h.reached p.states d v r w) where
  pub admits_at : (n : Reached) → r ≡ E.At n → Admits p h d v h w
  admits_at n z = record {
    widens = record { taken = refl; arcs = refl; fits = q.fits; same_length = t.same_length };
    meaning = λ A B c la lb di bt s m. record {
      held = λ f. let o = m.held opened in
          inserted_held p h d v q.vertices_fit q.moves_fit A B c la lb di bt s o n w h.reached
          (was_at p h d v q.vertices_fit q.moves_fit A B c la lb di bt s o n w (subst (λ (y : Entered). EntersVertex h.reached p.states d v y w) z t));
      over = λ f. TestFacts.false_not_true opened f;
    };
  }

  pub admits_new : (n : Reached) → r ≡ E.New n → Admits p h d v (with_reached (h.reached + 1) h) w
  admits_new n z =
      let t2 = subst (λ (y : Entered). EntersVertex h.reached p.states d v y w) z t in
      let b = t2.fits in
      record {
        widens = record { taken = refl; arcs = refl; fits = omega (arith, b); same_length = t.same_length };
        meaning = λ A B c la lb di bt s m. record {
          held = λ f. let o = m.held opened in
              inserted_held p h d v q.vertices_fit q.moves_fit A B c la lb di bt s o n w (h.reached + 1) (was_new p h d v q.vertices_fit q.moves_fit A B c la lb di bt s o n w t2);
          over = λ f. TestFacts.false_not_true opened f;
        };
      }

  pub admits_full : r ≡ E.Full → Admits p h d v (record { taken = h.taken; reached = h.reached; arcs = h.arcs; full = true }) w
  admits_full z = record {
    widens = record { taken = refl; arcs = refl; fits = q.fits; same_length = t.same_length };
    meaning = λ A B c la lb di bt s m. record {
      held = λ f. TestFacts.false_not_true f refl;
      over = λ f. inl (was_full p h d v q.vertices_fit q.moves_fit A B c la lb di bt s (m.held opened) w (subst (λ (y : Entered). EntersVertex h.reached p.states d v y w) z t));
    };
  }

-- ---- initial states

-- the initial states of two lists
pub initials_append : (k : ℕ) (xs ys : List (State ℕ)) → initials_from k (xs ++ ys) ≡ initials_from k xs ++ initials_from (k + length xs) ys
initials_append k [] ys = let z : k + zero ≡ k = omega arith in ap (λ (n : ℕ). initials_from n ys) (sym z)
initials_append k (x ∷ xs) ys = go x.initial (initials_append (suc k) xs ys ∙ ap (λ (n : ℕ). initials_from (suc k) xs ++ initials_from n ys) (omega arith))
  where
    go : (o : Option ℕ) → initials_from (suc k) (xs ++ ys) ≡ initials_from (suc k) xs ++ initials_from (k + suc (length xs)) ys
        → elim o as (λ o. List ℕ) [ none ↦ initials_from (suc k) (xs ++ ys) | some i ↦ k ∷ initials_from (suc k) (xs ++ ys) ]
        ≡ elim o as (λ o. List ℕ) [ none ↦ initials_from (suc k) xs | some i ↦ k ∷ initials_from (suc k) xs ] ++ initials_from (k + suc (length xs)) ys
    go none e = e
    go (some i) e = ap {B = List ℕ} (λ l. k ∷ l) e

-- those of the first states, with one more
pub initials_suc : (xs : List (State ℕ)) (q : ℕ) (s : State ℕ) → get_elem? xs q ≡ some s → initials_from zero (take (q + 1) xs) ≡ initials_from zero (take q xs) ++ initials_from q (s ∷ [])
initials_suc xs q s e =
    let n : q + 1 ≡ suc q = omega arith in
    let l : zero + length (take q xs) ≡ q = let b = ListFacts.place_bound xs q e in omega (arith, length-take-le q xs (omega (arith, b))) in
    ap (λ (i : ℕ). initials_from zero (take i xs)) n ∙ ap (initials_from zero) (AppendFacts.take_place xs q e) ∙ initials_append zero (take q xs) (s ∷ [])
    ∙ ap (λ (i : ℕ). initials_from zero (take q xs) ++ initials_from i (s ∷ [])) l

-- with all that come behind
pub initials_split : (xs : List (State ℕ)) (q : ℕ) → initials_from zero (take q xs) ++ initials_from (zero + length (take q xs)) (drop q xs) ≡ initials_from zero xs
initials_split xs q = sym (initials_append zero (take q xs) (drop q xs)) ∙ ap (initials_from zero) (take-append-drop q xs)

-- one state alone
pub one-absent : (q : ℕ) (s : State ℕ) → s.initial ≡ none → initials_from q (s ∷ []) ≡ []
one-absent q s e = ap (λ (o : Option ℕ). elim o as (λ o. List ℕ) [ none ↦ [] | some i ↦ q ∷ [] ]) e

pub one_present : (q w : ℕ) (s : State ℕ) → s.initial ≡ some w → initials_from q (s ∷ []) ≡ q ∷ []
one_present q w s e = ap (λ (o : Option ℕ). elim o as (λ o. List ℕ) [ none ↦ [] | some i ↦ q ∷ [] ]) e

-- the pairs of two lists and a third
pub pairs_append : (qs xs ys : List ℕ) → all_pairs (xs ++ ys) qs ≡ all_pairs xs qs ++ all_pairs ys qs
pairs_append qs [] ys = refl
pairs_append qs (x ∷ xs) ys =
    ap {B = List automata.Vertex} (λ l. map (λ q. (some x, some q)) qs ++ l) (pairs_append qs xs ys) ∙ sym (append_assoc (map (λ q. (some x, some q)) qs) (all_pairs xs qs) (all_pairs ys qs))

-- the pairs of one with two lists
one-pairs : (x : ℕ) (qs : List ℕ) → all_pairs (x ∷ []) qs ≡ map (λ q. (some x, some q)) qs
one-pairs x qs = append-nil (map (λ q. (some x, some q)) qs)

pub pairs-beside : (x : ℕ) (qs rs : List ℕ) → all_pairs (x ∷ []) (qs ++ rs) ≡ all_pairs (x ∷ []) qs ++ all_pairs (x ∷ []) rs
pairs-beside x qs rs = one-pairs x (qs ++ rs) ∙ ListFacts.map_append (λ q. (some x, some q)) qs rs
    ∙ ap {B = List automata.Vertex} (λ l. l ++ map (λ q. (some x, some q)) rs) (sym (one-pairs x qs))
    ∙ ap {B = List automata.Vertex} (λ l. all_pairs (x ∷ []) qs ++ l) (sym (one-pairs x rs))

-- ---- one state of the second side

module _ (p : Plan) (h : Head) (x : ℕ) (states : List ℕ) (q : ℕ) (v : List ℕ) (k : Open p h (length v)) (within : q < p.second.states) where
  abbrev state : State ℕ
  state = state_as (state_at (state_size * q) states)

  -- no path starts in it
  pub one_not : get_or states (state_size * q) 0 ≡ 0 → StartsOne p h x states q v h v
  one_not z = record {
    widens = widens_none p.states (progress h) v k.fits;
    meaning = λ A B la b l. enters_same p A B [] (all_pairs (x ∷ []) (initials_from q (state ∷ []))) h h v v
        (sym (ap (all_pairs (x ∷ [])) (one-absent q state (initial_absent q states z)))) (enters_none p A B h v);
  }

  -- one does
  pub one_there : (get_or states (state_size * q) 0 ≡ 0 → ⊥) → (r : Head) (w : List ℕ) → Admits p h (record { first = record { 0 = x }; second = record { 0 = q } }) v r w → StartsOne p h x states q v r w
  one_there n r w a = record {
    widens = a.widens;
    meaning = λ A B la b l.
        let y = initial_present q states n in
        enters_same p A B ((some x, some q) ∷ []) (all_pairs (x ∷ []) (initials_from q (state ∷ []))) h r v w
        (sym (ap (all_pairs (x ∷ [])) (one_present q y.0 state y.1)))
        (a.meaning A B (some x, some q) la b.few refl (l, omega (arith, within, b.count)));
  }

-- ---- all states of the second side

-- the first q were looked at
pub record StartingAll (p : Plan) (h : Head) (x : ℕ) (states : List ℕ) (v : List ℕ) (g : Head) (w : List ℕ) (q : ℕ) : Type 0 where
  pub within : q ≤ p.second.states
  pub opened : g.full ≡ false
  pub widens : Widens p h v g w
  pub meaning : (A B : Automaton ℕ) → length A.states ≤ 1024 → ReadsStates p.second states B → x < length A.states
      → Enters p A B (all_pairs (x ∷ []) (initials_from zero (take q B.states))) h v g w

module _ (p : Plan) (h : Head) (x : ℕ) (states : List ℕ) (v : List ℕ) (k : Open p h (length v)) (lent : StatesLent p.second states) where
  pub all_start : h.full ≡ false → StartingAll p h x states v h v 0
  all_start f = record { within = omega arith; opened = f; widens = widens_none p.states (progress h) v k.fits; meaning = λ A B la b l. enters_none p A B h v }

  module _ (g : Head) (w : List ℕ) (q : ℕ) (t : StartingAll p h x states v g w q) where
    module _ (b : q < p.second.states) (r : Head) (u : List ℕ) (z : StartsOne p g x states q w r u) where
      next_widens : Widens p h v r u
      next_widens = widens_then p.states (progress h) (progress g) (progress r) v w u t.widens z.widens

      next_means : (A B : Automaton ℕ) → length A.states ≤ 1024 → ReadsStates p.second states B → x < length A.states
          → Enters p A B (all_pairs (x ∷ []) (initials_from zero (take (q + 1) B.states))) h v r u
      next_means A B la m l =
          let s : State ℕ = state_as (state_at (state_size * q) states) in
          let is = initials_from zero (take q B.states) in
          let e : all_pairs (x ∷ []) is ++ all_pairs (x ∷ []) (initials_from q (s ∷ [])) ≡ all_pairs (x ∷ []) (initials_from zero (take (q + 1) B.states)) =
          sym (pairs-beside x is (initials_from q (s ∷ []))) ∙ ap (all_pairs (x ∷ [])) (sym (initials_suc B.states q s (m.loaded q b))) in
          enters_same p A B _ _ h r v u e (enters_then p A B (all_pairs (x ∷ []) is) (all_pairs (x ∷ []) (initials_from q (s ∷ []))) h g r v w u (t.meaning A B la m l) (z.meaning A B la m l))

      pub all-next : r.full ≡ false → StartingAll p h x states v r u (q + 1)
      all-next f = record { within = omega arith; opened = f; widens = next_widens; meaning = next_means }

      pub all_full : r.full ≡ true → StartsAll p h x states v r u
      all_full f = record {
        widens = next_widens;
        meaning = λ A B la m l.
            let is = initials_from zero (take (q + 1) B.states) in
            let more = initials_from (zero + length (take (q + 1) B.states)) (drop (q + 1) B.states) in
            let e : all_pairs (x ∷ []) is ++ all_pairs (x ∷ []) more ≡ all_pairs (x ∷ []) (initials_from zero B.states) =
            sym (pairs-beside x is more) ∙ ap (all_pairs (x ∷ [])) (initials_split B.states (q + 1)) in
            enters_same p A B _ _ h r v u e (enters_full p A B (all_pairs (x ∷ []) is) (all_pairs (x ∷ []) more) h r v u f (next_means A B la m l));
      }

    pub all_end : p.second.states ≤ q → StartsAll p h x states v g w
    all_end b = record {
      widens = t.widens;
      meaning = λ A B la m l. enters_same p A B _ _ h g v w (ap (λ (ss : List (State ℕ)). all_pairs (x ∷ []) (initials_from zero ss)) (take_all q B.states (omega (arith, b, m.count)))) (t.meaning A B la m l);
    }
