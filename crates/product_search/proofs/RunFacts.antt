-- All states of the product that are reached, taken up one after the other.
use Prim.Native.Nat.{ℕ, zero, suc, ◌+◌, ◌*◌, ◌≤◌, ◌<◌}
use mathlib.Core.Path.{◌≡◌, refl, sym, ap, ◌∙◌, subst}
use mathlib.Core.Logic.{inl, inr}
use mathlib.Core.Bool.{true, false}
use mathlib.Core.List.{List}
use native.Mathlib.Omega.{arith}
use lib.Dec.{ltb}
use lib.ListN.{length}
use Rattle.automata.specs.Automaton.{Automaton}
use Rattle.automata.specs.Explore.{edges}
use Rattle.automata.specs.Search.{search_from, searched}
use Rattle.automata.specs.Product as automata
use Rattle.automata.specs.Product.{same_vertex}
use Rattle.automata.proofs.ListFacts
use Rattle.automata.proofs.TestFacts
use Rattle.automata.proofs.ProductStates.{vertices_decided}
use Rattle.automata.proofs.SearchFacts.{note_all-edges_length, searched_some, searched-cases, found_over}
use Rattle.automata.specs.Memory.{Memory, Sound, table_of}
use Rattle.automata.proofs.SoundFacts.{sound_holds}
use Rattle.automata.specs.Layout.{arc_size, vertex_size}
use Rattle.table.specs.declared.answer.Counts.{Counts}
use Rattle.table.specs.Answers.{lent}
use Rattle.table.proofs.SoundFacts
use Rattle.search_rows.proofs.SearchFacts.{searched_begun, searched_whole}
use Rattle.search_chains.specs.Chain.{Clears}
use Rattle.table_adjacency.specs.Chains.{Chainable}
use Rattle.product_search.specs.declared.plan.Plan.{Plan}
use Rattle.product_search.specs.declared.head.Head.{Head}
use Rattle.product_search.specs.Vertices.{bucket_by}
use Rattle.product_search.specs.Plans.{first_in, second_in, Explorable}
use Rattle.product_search.specs.Reading.{StatesLent, ArcsLent, ReadsStates, ReadsArcs}
use Rattle.product_search.specs.Searching.{VertexSearch, Step, Holds, Exceeds, Comes, Ready, Tables, Indexed, Reads, chained_out, TakesUp}
use Rattle.product_search.specs.Starting.{Beginnable, Begun, starts_of}
use Rattle.product_search.specs.Exploring.{chained_states, ComesToReached, Runnable, Runs, Searches}
use Rattle.product_search.proofs.ReadFacts.{source_at_lem}

module _ (p : Plan) (n1 n2 : List ℕ) (A B : Automaton ℕ) where
  abbrev out_of : automata.Vertex → List Step
  out_of = chained_out n1 n2 A B

  -- the search when k states have been taken up
  abbrev pub search_at : ℕ → VertexSearch
  search_at k = searched same_vertex (chained_out n1 n2 A B) (starts_of A B) k

  -- where all are taken up, what is held are the reached states and the moves between them
  pub all_taken : (k : ℕ) (h : Head) (w : List ℕ) → h.full ≡ false → length (search_at k).vertices ≤ k → Holds p A B h (search_at k) w → ComesToReached p A B n1 n2 h w
  all_taken k h w n b o =
      let e = searched_whole same_vertex vertices_decided out_of (starts_of A B) p.states k o.fits b in
      record { held = λ z. subst (λ (s : VertexSearch). Holds p A B h s w) e o; over = λ z. TestFacts.false_not_true n z }

  -- a longer search has no fewer moves
  edges_grow : (m j k : ℕ) → j + m ≡ k → length (search_at j).edges ≤ length (search_at k).edges
  edges_grow zero j k e = let z : j ≡ k = omega arith in subst (λ (i : ℕ). length (search_at j).edges ≤ length (search_at i).edges) z (omega arith)
  edges_grow (suc m) j k e =
      let one : length (search_at j).edges ≤ length (search_at (suc j)).edges =
      searched-cases same_vertex vertices_decided out_of (starts_of A B) j (λ s. length (search_at j).edges ≤ length s.edges) (λ n. omega arith)
      (λ c h. let l = note_all-edges_length same_vertex vertices_decided j (search_at j) (out_of c) in omega (arith, l)) in
      let rest = edges_grow m (suc j) k (omega arith) in
      omega (arith, one, rest)

  module _ (few : length (chained_states p A B n1 n2) ≤ p.states) where
    -- where there is room for all that is reached, there is at any time
    all_few : (k : ℕ) → length (search_at k).vertices ≤ p.states
    all_few k = elim (TestFacts.decide (ltb p.states (length (search_at k).vertices))) [
      | inl t ↦
          (let b = TestFacts.ltb_true t in
          let o = found_over same_vertex vertices_decided out_of (starts_of A B) p.states k b in
          absurd (omega (arith, o, few)))
      | inr t ↦ TestFacts.ltb_false t
    ]

    -- and no more moves than between all that is reached
    edges-within : (k : ℕ) → length (search_at k).edges ≤ length (edges same_vertex out_of (chained_states p A B n1 n2))
    edges-within k =
        let n = p.states + k in
        let b = all_few n in
        let e = searched_whole same_vertex vertices_decided out_of (starts_of A B) p.states n b (omega (arith, b)) in
        let l = edges_grow p.states k n (omega arith) in
        let q = ap (λ (s : VertexSearch). length s.edges) e in
        omega (arith, l, q)

  -- where there are too many at any time, there are too many in all
  pub too_many : (k : ℕ) (h : Head) (w : List ℕ) → h.full ≡ true → Exceeds p h (search_at k) → ComesToReached p A B n1 n2 h w
  too_many k h w f m = record { held = λ n. TestFacts.false_not_true n f; over = λ n. over m }
    where
      over : Exceeds p h (search_at k) → Exceeds p h (record { vertices = chained_states p A B n1 n2; edges = edges same_vertex out_of (chained_states p A B n1 n2) })
      over (inl a) = inl (found_over same_vertex vertices_decided out_of (starts_of A B) p.states k a)
      over (inr a) = elim (TestFacts.decide (ltb p.states (length (chained_states p A B n1 n2)))) [
        | inl t ↦ inl (TestFacts.ltb_true t)
        | inr t ↦ (let l = edges-within (TestFacts.ltb_false t) k in let b = a.1 in inr (a.0, omega (arith, b, l)))
      ]

-- ---- a run

-- as many states as the head g tells were taken up, from the head h and the work space v on
pub record Running (p : Plan) (h : Head) (s1 a1 n1 s2 a2 n2 : List ℕ) (v : List ℕ) (g : Head) (w : List ℕ) : Type 0 where
  pub opened : g.full ≡ false
  pub fits : g.reached ≤ p.states
  pub few : g.arcs ≤ 67125248 * g.taken
  pub few_taken : g.taken ≤ 1024
  pub same_length : length w ≡ length v
  pub meaning : (A B : Automaton ℕ) → Reads p s1 a1 s2 a2 A B → Comes p A B h (search_from same_vertex (starts_of A B)) v → Holds p A B g (search_at p n1 n2 A B g.taken) w

module _ (p : Plan) (h : Head) (s1 a1 f1 n1 s2 a2 f2 n2 : List ℕ) (v : List ℕ) (q : Runnable p h s1 a1 s2 a2 (length v)) (indexed : Indexed p a1 f1 n1 a2 f2 n2) where
  -- too many states to begin with
  pub run_none : h.full ≡ true → Runs p h s1 a1 n1 s2 a2 n2 v h v
  run_none f = record {
    same_length = refl;
    few = omega (arith, q.arcs_none);
    meaning = λ A B k c. too_many p n1 n2 A B 0 h v f (subst (Exceeds p h) (searched_begun same_vertex (out_of p n1 n2 A B) (starts_of A B)) (c.over f));
  }

  pub run_start : h.full ≡ false → Running p h s1 a1 n1 s2 a2 n2 v h v
  run_start f = record {
    opened = f;
    fits = q.open_still.fits;
    few = omega (arith, q.arcs_none);
    few_taken = omega (arith, q.taken);
    same_length = refl;
    meaning = λ A B k c.
        let o = subst (λ (s : VertexSearch). Holds p A B h s v) (searched_begun same_vertex (out_of p n1 n2 A B) (starts_of A B)) (c.held f) in
        subst (λ (i : ℕ). Holds p A B h (search_at p n1 n2 A B i) v) (sym q.taken) o;
  }

  module _ (g : Head) (w : List ℕ) (t : Running p h s1 a1 n1 s2 a2 n2 v g w) where
    pub run_requires : g.taken < g.reached → (Ready p g 67125248 (length w)) × (g.full ≡ false) × (Tables p s1 a1 s2 a2) × (Indexed p a1 f1 n1 a2 f2 n2)
    run_requires b = (
      record {
        vertices_fit = q.open_still.vertices_fit;
        moves_fit = omega (arith, q.open_still.moves_fit, t.same_length);
        few_states = q.open_still.few_states;
        fits = t.fits;
        taken_fits = b;
        few = omega (arith, t.few, b, t.fits, q.open_still.few_states);
      },
      t.opened,
      q.tables,
      indexed,
    )

    -- there is room for one more to be taken up
    pub run_room : g.taken < g.reached → g.taken < p.states
    run_room b = omega (arith, t.fits, b)

    module _ (b : g.taken < g.reached) (r : Head) (u : List ℕ) (z : TakesUp p g s1 a1 n1 s2 a2 n2 w r u) where
      run_comes : (A B : Automaton ℕ) → Reads p s1 a1 s2 a2 A B → Comes p A B h (search_from same_vertex (starts_of A B)) v → Comes p A B r (search_at p n1 n2 A B (suc g.taken)) u
      run_comes A B k c =
          let o = t.meaning A B k c in
          let y = ListFacts.place_exists (search_at p n1 n2 A B g.taken).vertices g.taken (omega (arith, o.reached, b)) in
          let c0 = z.meaning A B (search_at p n1 n2 A B g.taken) y.0 k (record { held = λ n. o; over = λ n. TestFacts.false_not_true t.opened n }) y.1 in
          subst (λ (s : VertexSearch). Comes p A B r s u) (sym (searched_some same_vertex vertices_decided (out_of p n1 n2 A B) (starts_of A B) g.taken y.0 y.1)) c0

      pub run_next : r.full ≡ false → Running p h s1 a1 n1 s2 a2 n2 v r u
      run_next f = record {
        opened = f;
        fits = z.fits;
        few = omega (arith, z.few, t.few, z.taken f);
        few_taken = omega (arith, z.taken f, b, t.fits, q.open_still.few_states);
        same_length = z.same_length ∙ t.same_length;
        meaning = λ A B k c.
            let n : suc g.taken ≡ r.taken = omega (arith, z.taken f) in
            subst (λ (i : ℕ). Holds p A B r (search_at p n1 n2 A B i) u) n ((run_comes A B k c).held f);
      }

      pub run_full : r.full ≡ true → Runs p h s1 a1 n1 s2 a2 n2 v r u
      run_full f = record {
        same_length = z.same_length ∙ t.same_length;
        few = omega (arith, z.few, t.few, t.few_taken);
        meaning = λ A B k c. too_many p n1 n2 A B (suc g.taken) r u f ((run_comes A B k c).over f);
      }

    pub run_end : g.reached ≤ g.taken → Runs p h s1 a1 n1 s2 a2 n2 v g w
    run_end b = record {
      same_length = t.same_length;
      few = omega (arith, t.few, t.few_taken);
      meaning = λ A B k c. let o = t.meaning A B k c in all_taken p n1 n2 A B g.taken g w t.opened (omega (arith, o.reached, b)) o;
    }

-- ---- the tables read

module _ (counts : Counts) (states arcs : List ℕ) (s : Sound (lent counts states arcs)) where
  abbrev m : Memory
  m = lent counts states arcs

  states_lent_lem : StatesLent counts states
  states_lent_lem = record { few = SoundFacts.few_states m s; lent = SoundFacts.states_lent m s }

  arcs_lent_lem : ArcsLent counts arcs
  arcs_lent_lem = record { few = SoundFacts.few_arcs m s; lent = SoundFacts.arcs_lent m s }

  few_states : length (table_of m).states ≤ 1024
  few_states = omega (arith, SoundFacts.few_states m s, (sound_holds m s).states)

  reads_states : ReadsStates counts states (table_of m)
  reads_states = record { count = sym (sound_holds m s).states; few = few_states; loaded = λ q l. SoundFacts.state_loaded m s q l }

  reads_arcs : ReadsArcs counts arcs (table_of m)
  reads_arcs = record {
    count = sym (sound_holds m s).arcs;
    few_states = few_states;
    loaded = λ j l. SoundFacts.arc_loaded m s j l;
    source_fits = λ j l. omega (arith, SoundFacts.arc_source m s j l, (sound_holds m s).states);
    target_fits = λ j l. omega (arith, SoundFacts.arc_target m s j l, (sound_holds m s).states);
  }

-- the arcs of a sound table may be chained
pub chainable : (counts : Counts) (states arcs : List ℕ) → Sound (lent counts states arcs) → Chainable counts.states counts.arcs arcs 1024 8192
chainable counts states arcs s = record {
  whole = SoundFacts.arcs_lent (lent counts states arcs) s;
  few = SoundFacts.few_arcs (lent counts states arcs) s;
  sources = λ j l. let b = SoundFacts.arc_source (lent counts states arcs) s j l in omega (arith, b, source_at_lem (arc_size * j) arcs);
  states_fit = SoundFacts.few_states (lent counts states arcs) s;
  arcs_fit = SoundFacts.few_arcs (lent counts states arcs) s;
}

-- ---- the search from no state on

module _ (p : Plan) (s1 a1 s2 a2 : List ℕ) (v : List ℕ) (x : Explorable p s1 a1 s2 a2 (length v)) where
  pub reads : Reads p s1 a1 s2 a2 (first_in p s1 a1) (second_in p s2 a2)
  reads = record {
    first_states = reads_states p.first s1 a1 x.first_sound;
    first_arcs = reads_arcs p.first s1 a1 x.first_sound;
    second_states = reads_states p.second s2 a2 x.second_sound;
    second_arcs = reads_arcs p.second s2 a2 x.second_sound;
  }

  module _ (t : List ℕ) (e : Clears vertex_size 4 p.states v t) where
    pub may_begin : Beginnable p s1 s2 (length t)
    may_begin = record {
      vertices_fit = x.vertices_fit;
      moves_fit = omega (arith, x.moves_fit, e.same_length);
      few_states = x.few_states;
      first_lent = states_lent_lem p.first s1 a1 x.first_sound;
      second_lent = states_lent_lem p.second s2 a2 x.second_sound;
    }

    module _ (h : Head) (u : List ℕ) (b : Begun p s1 s2 t h u) where
      pub may_run : Runnable p h s1 a1 s2 a2 (length u)
      may_run = record {
        open_still = record { vertices_fit = x.vertices_fit; moves_fit = omega (arith, x.moves_fit, e.same_length, b.same_length); few_states = x.few_states; fits = b.fits };
        tables = record {
          first_states = states_lent_lem p.first s1 a1 x.first_sound;
          first_arcs = arcs_lent_lem p.first s1 a1 x.first_sound;
          second_states = states_lent_lem p.second s2 a2 x.second_sound;
          second_arcs = arcs_lent_lem p.second s2 a2 x.second_sound;
        };
        taken = b.taken;
        arcs_none = b.arcs;
      }

      pub was_searched : (n1 n2 : List ℕ) (r : Head) (w : List ℕ) → Runs p h s1 a1 n1 s2 a2 n2 u r w → Searches p s1 a1 n1 s2 a2 n2 v r w
      was_searched n1 n2 r w y = record {
        same_length = y.same_length ∙ b.same_length ∙ e.same_length;
        few = y.few;
        comes = y.meaning (first_in p s1 a1) (second_in p s2 a2) reads
            (b.meaning (e.chained (bucket_by p.states)) (first_in p s1 a1) (second_in p s2 a2) reads.first_states reads.second_states);
      }
