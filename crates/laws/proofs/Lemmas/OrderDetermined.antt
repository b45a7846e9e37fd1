-- The order leaves one table alone: two results on the same input that are in order are equal, states, arcs and
-- numbers.
use mathlib.Core.Path.{◌≡◌, refl, sym, ◌∙◌, ap, subst}
use mathlib.Core.Option.{some}
use mathlib.Core.List.{List, [], ◌∷◌, map}
use Prim.Native.Nat.{ℕ, zero, suc, ◌+◌, ◌<◌}
use native.Mathlib.Omega.{arith}
use lib.ListN.{get_elem?}
use Rattle.automata.specs.Lists.{◌∈◌, numbered, Pairwise, Distinct}
use Rattle.automata.specs.OrderedSum.{OrderedSum}
use Rattle.automata.specs.Automaton.{Arc, Automaton, content}
use Rattle.automata.specs.TapePair.{TapePair}
use Rattle.automata.specs.Config.{Config}
use Rattle.automata.specs.Intersect.{Intersection, state_of, origin}
use Rattle.automata.specs.Product.{Vertex, product_system}
use Rattle.automata.proofs.ListFacts
use Rattle.automata.proofs.PairwiseFacts
use Rattle.laws.specs.Order.{Key, step, ◌⊏◌, ClosesGaps, input_arc, config_graph, IntersectionOrder, product_graph, ProductOrder}
use Rattle.laws.proofs.Lemmas.Sorted.{sorted_unique, by_places}
use Rattle.laws.proofs.Lemmas.OrderFacts.{⊏_irreflexive, ⊏_transitive, ordered_unique}

-- ---- arcs

module _ {W : Type 0} where
  -- the arcs with their keys
  abbrev keyed : (ℕ → Key) → List (Arc W) → List (Arc W × Key)
  keyed key es = map (λ v. (v.1, key v.0)) (numbered zero es)

  -- they are the arcs
  keyed_arcs : (key : ℕ → Key) (k : ℕ) (es : List (Arc W)) → map (λ (z : Arc W × Key). z.0) (map (λ (v : ℕ × Arc W). (v.1, key v.0)) (numbered k es)) ≡ es
  keyed_arcs key k [] = refl
  keyed_arcs key k (a ∷ es) = ap {B = List (Arc W)} (λ r. a ∷ r) (keyed_arcs key (suc k) es)

  -- what stands among them, and where
  keyed_members : (key : ℕ → Key) (es : List (Arc W)) (z : Arc W × Key) → z ∈ keyed key es → (m : ℕ) × (get_elem? es m ≡ some z.0) × (key m ≡ z.1)
  keyed_members key es z h =
      let (v, i, e) = ListFacts.map_members (λ (v : ℕ × Arc W). (v.1, key v.0)) (numbered zero es) h in
      let (m, q, p) = ListFacts.numbered_members zero es i in
      let mv : m ≡ v.0 = omega arith in
      (v.0, subst (λ (k : ℕ). get_elem? es k ≡ some v.1) mv p ∙ ap some (sym (ap (λ (y : Arc W × Key). y.0) e)), sym (ap (λ (y : Arc W × Key). y.1) e))

  -- and the other way round
  keyed_keep : (key : ℕ → Key) (es : List (Arc W)) (m : ℕ) (a : Arc W) (s : Key) → get_elem? es m ≡ some a → key m ≡ s → ◌∈◌ {A = Arc W × Key} (a, s) (keyed key es)
  keyed_keep key es m a s e k =
      let z : zero + m ≡ m = omega arith in
      subst (λ (t : Key). ◌∈◌ {A = Arc W × Key} (a, t) (keyed key es)) k
      (ListFacts.map_keeps (λ (v : ℕ × Arc W). (v.1, key v.0)) (numbered zero es)
      (subst (λ (n : ℕ). ◌∈◌ {A = ℕ × Arc W} (n, a) (numbered zero es)) z (ListFacts.numbered_keeps zero es m e)))

  -- in the order of their keys
  keyed_sorted : (key : ℕ → Key) (es : List (Arc W)) (k : ℕ)
      → ((m n : ℕ) (a b : Arc W) → get_elem? es m ≡ some a → get_elem? es n ≡ some b → m < n → step a.source (key (k + m)) ⊏ step b.source (key (k + n)))
      → Pairwise (λ (y z : Arc W × Key). step y.0.source y.1 ⊏ step z.0.source z.1) (map (λ (v : ℕ × Arc W). (v.1, key v.0)) (numbered k es))
  keyed_sorted key [] k h = tt
  keyed_sorted key (a ∷ es) k h = (
    (λ y m.
        let (v, i, e) = ListFacts.map_members (λ (v : ℕ × Arc W). (v.1, key v.0)) (numbered (suc k) es) m in
        let (n, q, p) = ListFacts.numbered_members (suc k) es i in
        let z : k + zero ≡ k = omega arith in
        let w : k + suc n ≡ v.0 = omega arith in
        subst (λ (t : Arc W × Key). step a.source (key k) ⊏ step t.0.source t.1) (sym e)
        (subst (λ (i : ℕ). step a.source (key i) ⊏ step v.1.source (key v.0)) z
        (subst (λ (i : ℕ). step a.source (key (k + zero)) ⊏ step v.1.source (key i)) w (h zero (suc n) a v.1 refl p (omega arith))))),
    keyed_sorted key es (suc k) (λ m n x y p q l.
        let u : k + suc m ≡ suc k + m = omega arith in
        let v : k + suc n ≡ suc k + n = omega arith in
        subst (λ (i : ℕ). step x.source (key i) ⊏ step y.source (key (suc k + n))) u
        (subst (λ (i : ℕ). step x.source (key (k + suc m)) ⊏ step y.source (key i)) v (h (suc m) (suc n) x y p q (omega arith)))),
  )

  -- an arc with its key stands in the other list
  abbrev Has : (ℕ → Key) → List (Arc W) → (ℕ → Key) → List (Arc W) → Type 0
  Has key es key' fs = (m : ℕ) (a : Arc W) → get_elem? es m ≡ some a → (n : ℕ) × (get_elem? fs n ≡ some a) × (key' n ≡ key m)

  -- two lists of the same arcs with the same keys, in their order, are equal
  pub arcs_unique : (key key' : ℕ → Key) (es fs : List (Arc W))
      → ((m n : ℕ) (a b : Arc W) → get_elem? es m ≡ some a → get_elem? es n ≡ some b → m < n → step a.source (key m) ⊏ step b.source (key n))
      → ((m n : ℕ) (a b : Arc W) → get_elem? fs m ≡ some a → get_elem? fs n ≡ some b → m < n → step a.source (key' m) ⊏ step b.source (key' n))
      → Has key es key' fs → Has key' fs key es → es ≡ fs
  arcs_unique key key' es fs oe of f g =
      sym (keyed_arcs key zero es)
      ∙ ap (map (λ (z : Arc W × Key). z.0)) (sorted_unique (λ (y z : Arc W × Key). step y.0.source y.1 ⊏ step z.0.source z.1)
      (λ y. ⊏_irreflexive (step y.0.source y.1)) (λ x y z. ⊏_transitive (step x.0.source x.1) (step y.0.source y.1) (step z.0.source z.1))
      (keyed key es) (keyed key' fs) (sorted key es oe) (sorted key' fs of) (across key key' es fs f) (across key' key fs es g))
      ∙ keyed_arcs key' zero fs
    where
      sorted : (key : ℕ → Key) (es : List (Arc W))
          → ((m n : ℕ) (a b : Arc W) → get_elem? es m ≡ some a → get_elem? es n ≡ some b → m < n → step a.source (key m) ⊏ step b.source (key n))
          → Pairwise (λ (y z : Arc W × Key). step y.0.source y.1 ⊏ step z.0.source z.1) (keyed key es)
      sorted key es o = keyed_sorted key es zero (λ m n a b p q l.
          let u : m ≡ zero + m = omega arith in
          let v : n ≡ zero + n = omega arith in
          subst (λ (i : ℕ). step a.source (key i) ⊏ step b.source (key (zero + n))) u
          (subst (λ (i : ℕ). step a.source (key m) ⊏ step b.source (key i)) v (o m n a b p q l)))

      across : (key key' : ℕ → Key) (es fs : List (Arc W)) → Has key es key' fs → (z : Arc W × Key) → z ∈ keyed key es → z ∈ keyed key' fs
      across key key' es fs h z i =
          let (m, e, k) = keyed_members key es z i in
          let (n, p, q) = h m z.0 e in
          keyed_keep key' fs n z.0 z.1 p (q ∙ k)

-- ---- the vertices that are left when gaps are closed

-- two lists that close the same gaps are equal
gaps_unique : {C : Type 0} (cs ds es : List C) → Distinct cs → ClosesGaps cs ds → ClosesGaps cs es
    → ((c : C) → c ∈ ds → c ∈ es) → ((c : C) → c ∈ es → c ∈ ds) → ds ≡ es
gaps_unique {C} cs ds es dc gd ge f g = sorted_unique Before irreflexive transitive ds es (ordered ds gd) (ordered es ge) f g
  where
    Before : C → C → Type 0
    Before c d = (i : ℕ) × (j : ℕ) × (get_elem? cs i ≡ some c) × (get_elem? cs j ≡ some d) × (i < j)

    irreflexive : (c : C) → Before c c → ⊥
    irreflexive c (i, j, p, q, l) = let e : i ≡ j = PairwiseFacts.distinct-place cs dc i j p q in omega arith

    transitive : (c d e : C) → Before c d → Before d e → Before c e
    transitive c d e (i, j, p, q, l) (k, n, r, s, m) = let z : j ≡ k = PairwiseFacts.distinct-place cs dc j k q r in (i, n, p, s, omega arith)

    ordered : (xs : List C) → ClosesGaps cs xs → Pairwise Before xs
    ordered xs o = by_places Before xs (λ k l c d p q h.
        let (i, ei) = ListFacts.place cs (o.some_of c (ListFacts.placed xs k p)) in
        let (j, ej) = ListFacts.place cs (o.some_of d (ListFacts.placed xs l q)) in
        (i, j, ei, ej, (o.in_order i j k l c d ei p ej q).1 h))

-- ---- the auto-intersection

-- Two results on the same input are one table.
module _ {W : Type 0} (A : Automaton W) (ps : List TapePair) (I J : Intersection W) (o : IntersectionOrder A ps I) (p : IntersectionOrder A ps J) where
  -- the same configurations are reached, in the same order ...
  pub reached_same : o.reached ≡ p.reached
  reached_same = ordered_unique (config_graph A ps) o.reached p.reached o.reached_ordered p.reached_ordered

  -- ... and kept
  pub configs_same : I.configs ≡ J.configs
  configs_same = gaps_unique o.reached I.configs J.configs o.reached_ordered.distinct o.gaps_closed
      (subst (λ (cs : List Config). ClosesGaps cs J.configs) (sym reached_same) p.gaps_closed)
      (λ c m. let (i, l) = (o.kept c).0 m in (p.kept c).1 (subst (λ (cs : List Config). c ∈ cs) reached_same i, l))
      (λ c m. let (i, l) = (p.kept c).0 m in (o.kept c).1 (subst (λ (cs : List Config). c ∈ cs) (sym reached_same) i, l))

  -- an arc of one is an arc of the other
  has : (K L : Intersection W) → IntersectionOrder A ps K → IntersectionOrder A ps L → K.configs ≡ L.configs
      → Has (input_arc K) K.automaton.arcs (input_arc L) L.automaton.arcs
  has K L k l e m a at =
      let (c, d, b, u, v, q, f, t, w) = k.arcs_step m a at in
      let (n, z, r, s, g, x, y) = l.steps_arc a.source a.target c d (origin K m) b
      (ap (λ (r : List Config). get_elem? r a.source) (sym e) ∙ u) (ap (λ (r : List Config). get_elem? r a.target) (sym e) ∙ v) q f t in
      let h : content z ≡ content a = x ∙ sym w in
      (n, r ∙ (λ i. some (record { source = s i; target = g i; weight = (h i).weight; labels = (h i).labels })), (λ i. y i ∷ []))

  -- and the tables are equal
  pub tables_same : I.automaton ≡ J.automaton
  tables_same =
      let t : I.automaton.tapes ≡ J.automaton.tapes = o.tapes ∙ sym p.tapes in
      let s : I.automaton.states ≡ J.automaton.states = o.states ∙ ap (map (state_of A)) configs_same ∙ sym p.states in
      let a : I.automaton.arcs ≡ J.automaton.arcs = arcs_unique _ _ I.automaton.arcs J.automaton.arcs o.result_ordered.arcs p.result_ordered.arcs
      (has I J o p configs_same) (has J I p o (sym configs_same)) in
      (λ i. record { tapes = t i; states = s i; arcs = a i })

-- ---- the product

module _ (S : OrderedSum) (A B P Q : Automaton S.W) (o : ProductOrder S A B P) (p : ProductOrder S A B Q) where
  open S use {W}

  -- the states are the same, in the same order
  pub vertices_same : o.vertices ≡ p.vertices
  vertices_same = ordered_unique (product_graph S A B) o.vertices p.vertices o.vertices_ordered p.vertices_ordered

  -- an arc of one is an arc of the other
  moved : (K L : Automaton W) (k : ProductOrder S A B K) (l : ProductOrder S A B L) → k.vertices ≡ l.vertices → Has k.arc_key K.arcs l.arc_key L.arcs
  moved K L k l e m a at =
      let (c, d, u, v, h) = k.arcs_move m a at in
      let (n, b, q, s, t, w, r) = l.moves_arc a.source c (k.arc_key m) (content a) d (ap (λ (r : List Vertex). get_elem? r a.source) (sym e) ∙ u) h in
      let z : b.target ≡ a.target = PairwiseFacts.distinct-place l.vertices l.vertices_ordered.distinct b.target a.target t
      (ap (λ (r : List Vertex). get_elem? r a.target) (sym e) ∙ v) in
      (n, q ∙ (λ i. some (record { source = s i; target = z i; weight = (w i).weight; labels = (w i).labels })), r)

  -- Two products of the same automata are one table.
  pub products_same : P ≡ Q
  products_same =
      let t : P.tapes ≡ Q.tapes = o.tapes ∙ sym p.tapes in
      let s : P.states ≡ Q.states = o.states ∙ ap (map (λ c. record { initial = (product_system S A B).initial c; final = (product_system S A B).final c })) vertices_same ∙ sym p.states in
      let a : P.arcs ≡ Q.arcs = arcs_unique _ _ P.arcs Q.arcs o.result_ordered.arcs p.result_ordered.arcs (moved P Q o p vertices_same) (moved Q P p o (sym vertices_same)) in
      (λ i. record { tapes = t i; states = s i; arcs = a i })
