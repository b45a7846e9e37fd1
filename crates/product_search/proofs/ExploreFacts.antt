-- The whole search: by all arcs first, and where there are more moves than there is room for, by arcs to distinct
-- targets.
use Prim.Native.Nat.{ℕ, ◌*◌, ◌≤◌, ◌<◌}
use mathlib.Core.Path.{◌≡◌, refl, ◌∙◌, subst}
use mathlib.Core.Logic.{◌⊎◌, inl, inr}
use mathlib.Core.Bool.{true, false}
use mathlib.Core.List.{List}
use native.Mathlib.Omega.{arith}
use lib.Dec.{ltb}
use lib.ListN.{length}
use Rattle.automata.specs.OrderedSum.{ℕ_sum}
use Rattle.automata.specs.Automaton.{Automaton}
use Rattle.automata.specs.Explore.{edges}
use Rattle.automata.specs.Product.{same_vertex, product_system, product_states}
use Rattle.automata.specs.Memory.{Sound}
use Rattle.automata.proofs.TestFacts
use Rattle.automata.specs.Layout.{arc_size}
use Rattle.table.specs.declared.answer.Counts.{Counts}
use Rattle.table.specs.Answers.{lent}
use Rattle.table.proofs.SoundFacts
use Rattle.table_adjacency.specs.Chains.{Chained}
use Rattle.table_adjacency.specs.Distinct.{Markable, LinksDistinct}
use Rattle.table_adjacency.proofs.ChainFacts.{all_in, linked_all}
use Rattle.product_search.specs.declared.plan.Plan.{Plan}
use Rattle.product_search.specs.declared.head.Head.{Head}
use Rattle.product_search.specs.Plans.{first_in, second_in, Explorable, states_only}
use Rattle.product_search.specs.Reading.{chained_only}
use Rattle.product_search.specs.Searching.{VertexSearch, Exceeds, Comes, Indexed}
use Rattle.product_search.specs.Exploring.{reached_in, edges_in, AllChained, Searches, Recounts, Explored}
use Rattle.product_search.proofs.ReadFacts.{target_at_lem, whole_chained}
use Rattle.product_search.proofs.CountFacts.{fewer_fit, covered_fit}
use Rattle.product_search.proofs.RunFacts.{chainable, reads}

-- ---- by arcs to distinct targets

-- the arcs of a sound table in chains may be marked
pub markable : (counts : Counts) (states arcs first next : List ℕ) → Sound (lent counts states arcs) → Chained counts.states counts.arcs arcs first next
    → Markable counts.states counts.arcs arcs first next
markable counts states arcs first next s c =
    let k = chainable counts states arcs s in
    record {
      few_states = k.states_fit;
      few = k.few;
      whole = k.whole;
      sources = k.sources;
      targets = λ j l. let b = SoundFacts.arc_target (lent counts states arcs) s j l in omega (arith, b, target_at_lem (arc_size * j) arcs);
      chained = c;
    }

module _ (p : Plan) (s1 a1 s2 a2 : List ℕ) (v : List ℕ) (x : Explorable p s1 a1 s2 a2 (length v)) where
  -- the tables read
  abbrev A : Automaton ℕ
  A = first_in p s1 a1

  abbrev B : Automaton ℕ
  B = second_in p s2 a2

  module _ (f1 n1 f2 n2 : List ℕ) (d1 : LinksDistinct p.first.states p.first.arcs a1 f1 n1) (d2 : LinksDistinct p.second.states p.second.arcs a2 f2 n2) where
    told-again : (arcs : ℕ) (r : Head) (w : List ℕ) → Searches (states_only p) s1 a1 n1 s2 a2 n2 v r w
        → Recounts p s1 a1 s2 a2 arcs v (record { taken = r.taken; reached = r.reached; arcs = arcs; full = r.full }) w
    told-again arcs r w y = record {
      same_length = y.same_length;
      arcs_is = refl;
      over = λ f. told (y.comes.over f);
      fits = λ f. covered_fit A B n1 n2 p.states p.first p.second a1 a2 (reads p s1 a1 s2 a2 v x).first_arcs (reads p s1 a1 s2 a2 v x).second_arcs d1.covers d2.covers (y.comes.held f).fits;
    }
      where
        told : Exceeds (states_only p) r (record { vertices = product_states ℕ_sum p.states (chained_only n1 A) (chained_only n2 B); edges = edges same_vertex (product_system ℕ_sum (chained_only n1 A) (chained_only n2 B)).out (product_states ℕ_sum p.states (chained_only n1 A) (chained_only n2 B)) })
            → p.states < length (reached_in p s1 a1 s2 a2)
        told (inl b) = elim (TestFacts.decide (ltb p.states (length (reached_in p s1 a1 s2 a2)))) [
          | inl t ↦ TestFacts.ltb_true t
          | inr t ↦ (let l = fewer_fit A B n1 n2 p.states (TestFacts.ltb_false t) in absurd (omega (arith, b, l)))
        ]
        told (inr b) = let l = b.0 in absurd (omega (arith, l, y.few))

    pub recounted : (q : Plan) → q ≡ states_only p → (arcs : ℕ) (r : Head) (w : List ℕ) → Searches q s1 a1 n1 s2 a2 n2 v r w
        → Recounts p s1 a1 s2 a2 arcs v (record { taken = r.taken; reached = r.reached; arcs = arcs; full = r.full }) w
    recounted q e arcs r w y = told-again arcs r w (subst (λ (z : Plan). Searches z s1 a1 n1 s2 a2 n2 v r w) e y)

  -- ---- by all arcs

  module _ (f1 n1 f2 n2 : List ℕ) (c : AllChained p a1 f1 n1 a2 f2 n2) where
    pub indexed : Indexed p a1 f1 n1 a2 f2 n2
    indexed = record {
      first = linked_all p.first.states p.first.arcs a1 f1 n1 c.first (chainable p.first s1 a1 x.first_sound).sources;
      second = linked_all p.second.states p.second.arcs a2 f2 n2 c.second (chainable p.second s2 a2 x.second_sound).sources;
    }

    first_whole : chained_only n1 (first_in p s1 a1) ≡ first_in p s1 a1
    first_whole = whole_chained n1 (first_in p s1 a1) (λ j l. all_in p.first.states p.first.arcs a1 f1 n1 c.first j (omega (arith, l, (reads p s1 a1 s2 a2 v x).first_arcs.count)))

    second_whole : chained_only n2 (second_in p s2 a2) ≡ second_in p s2 a2
    second_whole = whole_chained n2 (second_in p s2 a2) (λ j l. all_in p.second.states p.second.arcs a2 f2 n2 c.second j (omega (arith, l, (reads p s1 a1 s2 a2 v x).second_arcs.count)))

    module _ (limited : p.limit ≡ p.arcs) (h : Head) (u : List ℕ) (y : Searches p s1 a1 n1 s2 a2 n2 v h u) where
      -- the whole search, or what it came to before it was given up
      come : Comes p (first_in p s1 a1) (second_in p s2 a2) h (record { vertices = reached_in p s1 a1 s2 a2; edges = edges_in p s1 a1 s2 a2 }) u
      come = subst (λ (s : VertexSearch). Comes p (first_in p s1 a1) (second_in p s2 a2) h s u)
          (λ i. record { vertices = product_states ℕ_sum p.states (first_whole i) (second_whole i); edges = edges same_vertex (product_system ℕ_sum (first_whole i) (second_whole i)).out (product_states ℕ_sum p.states (first_whole i) (second_whole i)) }) y.comes

      -- there is room for the arcs
      pub explored_once : h.arcs ≤ p.arcs → Explored p s1 a1 s2 a2 v h u
      explored_once b = record {
        same_length = y.same_length;
        over = λ f. told (come.over f);
        more = λ f g. absurd (omega (arith, b, g));
        held = λ f g.
            let o = come.held f in
            record { few = o.fits; reached_is = o.reached; vertices = o.vertices; below = o.below; arcs_is = o.arc_count; moves = o.moves };
      }
        where
          told : Exceeds p h (record { vertices = reached_in p s1 a1 s2 a2; edges = edges_in p s1 a1 s2 a2 }) → p.states < length (reached_in p s1 a1 s2 a2)
          told (inl z) = z
          told (inr z) = let l = z.0 in absurd (omega (arith, l, limited, b))

      -- there is none
      pub explored_again : p.arcs < h.arcs → (r : Head) (w : List ℕ) → Recounts p s1 a1 s2 a2 h.arcs u r w → Explored p s1 a1 s2 a2 v r w
      explored_again b r w z = record {
        same_length = z.same_length ∙ y.same_length;
        over = z.over;
        more = λ f g. let few = z.fits f in (few, told few (TestFacts.decide h.full));
        held = λ f g. absurd (omega (arith, b, g, z.arcs_is));
      }
        where
          given_up_lem : length (reached_in p s1 a1 s2 a2) ≤ p.states → Exceeds p h (record { vertices = reached_in p s1 a1 s2 a2; edges = edges_in p s1 a1 s2 a2 }) → p.arcs < length (edges_in p s1 a1 s2 a2)
          given_up_lem few (inl o) = absurd (omega (arith, few, o))
          given_up_lem few (inr o) = let l = o.1 in omega (arith, l, limited)

          told : length (reached_in p s1 a1 s2 a2) ≤ p.states → (h.full ≡ true) ⊎ (h.full ≡ false) → p.arcs < length (edges_in p s1 a1 s2 a2)
          told few (inl f) = given_up_lem few (come.over f)
          told few (inr f) = let n = (come.held f).arc_count in omega (arith, b, n)
