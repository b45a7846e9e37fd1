-- All pairs of arcs, the first side's leading.
use Prim.Native.Nat.{ℕ, ◌+◌, ◌-◌, ◌*◌, ◌≤◌, ◌<◌}
use mathlib.Core.Path.{◌≡◌, refl, sym, ap, ◌∙◌, subst}
use mathlib.Core.Bool.{true, false}
use mathlib.Core.Option.{Option, none, some}
use mathlib.Core.List.{List, [], ◌∷◌, ◌++◌, map, append_assoc, append-nil}
use native.Mathlib.Omega.{arith}
use lib.ListN.{length, get_or, take}
use Rattle.automata.specs.OrderedSum.{ℕ_sum}
use Rattle.automata.specs.Automaton.{Automaton, Arc, Content, content}
use Rattle.automata.specs.System.{system, out_at}
use Rattle.automata.specs.Product as automata
use Rattle.automata.specs.Product.{both_content, both, all_both}
use Rattle.automata.specs.Layout.{arc_size}
use Rattle.table.specs.Arcs.{source_of, target_of}
use Rattle.table.specs.Records.{arc_as, arc_at}
use Rattle.product_search.specs.declared.vertex.Vertex.{Vertex}
use Rattle.product_search.specs.declared.plan.Plan.{Plan}
use Rattle.product_search.specs.declared.head.Head.{Head}
use Rattle.product_search.specs.Vertices.{ended, place_number, vertex_of}
use Rattle.product_search.specs.Moves.{by_both}
use Rattle.table.specs.Arcs.{source_of}
use Rattle.table_adjacency.specs.Chains.{in_chain, FirstIn, first_for}
use Rattle.table_adjacency.proofs.ChainFacts.{first_for_lem, next_for}
use Rattle.product_search.specs.Reading.{ArcsLent, ReadsArcs, chained_arcs, chained_only}
use Rattle.product_search.specs.Searching.{progress, Step, Notes, Ready, Grows, out_by, on_second, PassesSecond, Indexed, TriesBoth, PassesBoth}
use Rattle.search_rows.proofs.ProgressFacts.{grows_none, grows_then, grows_wider}
use Rattle.product_search.proofs.NoteFacts.{notes_none, notes_same}
use Rattle.product_search.proofs.ReadFacts.{source_at_lem, target_at_lem, out_one, out_away, out-all, at_source, turn_start, turn_more, turn_pass, turn_full, turn_all}

-- the pairs of steps of two lists and of a third
both_append : (rs xs ys : List (Content ℕ × ℕ)) → ◌≡◌ {A = List Step} (all_both ℕ_sum (xs ++ ys) rs) (all_both ℕ_sum xs rs ++ all_both ℕ_sum ys rs)
both_append rs [] ys = refl
both_append rs (x ∷ xs) ys = ap {B = List Step} (λ l. map (both ℕ_sum x) rs ++ l) (both_append rs xs ys) ∙ sym (append_assoc (map (both ℕ_sum x) rs) (all_both ℕ_sum xs rs) (all_both ℕ_sum ys rs))

-- ---- one arc of the first side

module _ (p : Plan) (h : Head) (c : Vertex) (a1 a2 n2 : List ℕ) (i : ℕ) (v : List ℕ) (q : Ready p h 8192 (length v)) (within : i < p.first.arcs)
    (x : ℕ) (source_is : x ≡ source_of a1 i) where
  abbrev arc : Arc ℕ
  arc = arc_as p.first.tapes (arc_at (arc_size * i) a1)

  -- it leaves another state
  pub both_away : (x ≡ c.first.0 → ⊥) → TriesBoth p h c a1 a2 n2 i v h v
  both_away n = record {
    grows = grows_none p.states 8192 (progress h) v q.fits;
    meaning = λ A B b k l e.
        let rs = out_at ℕ_sum (system (chained_only n2 B)) b.1 in
        let o : out_by (arc ∷ []) b.0 ≡ [] = out_away arc b.0 (λ z. n (source_is ∙ sym (source_at_lem (arc_size * i) a1) ∙ z ∙ sym (ap (λ (y : Vertex). y.first.0) e))) in
        notes_same p A B b [] (all_both ℕ_sum (out_by (arc ∷ []) b.0) rs) h h v v (sym (ap {B = List Step} (λ ss. all_both ℕ_sum ss rs) o)) (notes_none p A B b h v);
  }

  -- it leaves the first side's state
  pub both_there : x ≡ c.first.0 → (t : ℕ) → t ≡ target_of a1 i → (r : Head) (w : List ℕ) → PassesSecond p h c i t a2 n2 v r w → TriesBoth p h c a1 a2 n2 i v r w
  both_there n t target_is r w a = record {
    grows = a.grows;
    meaning = λ A B b k l e. go A B b k l e b.0 refl;
  }
    where
      source : arc.source ≡ c.first.0
      source = source_at_lem (arc_size * i) a1 ∙ sym source_is ∙ n

      target : t ≡ arc.target
      target = target_is ∙ sym (target_at_lem (arc_size * i) a1)

      go : (A B : Automaton ℕ) (b : automata.Vertex) → ReadsArcs p.first a1 A → ReadsArcs p.second a2 B → c ≡ vertex_of b → (o : Option ℕ) → b.0 ≡ o
          → Notes p A B b (all_both ℕ_sum (out_by (arc ∷ []) b.0) (out_at ℕ_sum (system (chained_only n2 B)) b.1)) h v r w
      go A B b k l e none f =
          let s = source in
          let z : c.first.0 ≡ ended = ap (λ (y : Vertex). y.first.0) e ∙ ap place_number f in
          absurd (omega (arith, s, z, k.source_fits i within, k.few_states))
      go A B b k l e (some d) f =
          let rs = out_at ℕ_sum (system (chained_only n2 B)) b.1 in
          let s : arc.source ≡ d = source ∙ ap (λ (y : Vertex). y.first.0) e ∙ ap place_number f in
          let o : out_by (arc ∷ []) b.0 ≡ (content arc, arc.target) ∷ [] = ap (out_by (arc ∷ [])) f ∙ out_one arc d s in
          let F : Content ℕ → Content ℕ = both_content ℕ_sum (content arc) in
          let steps : List Step = map (on_second F (some arc.target)) rs in
          let whole : steps ≡ all_both ℕ_sum (out_by (arc ∷ []) b.0) rs = sym (append-nil steps) ∙ sym (ap {B = List Step} (λ ss. all_both ℕ_sum ss rs) o) in
          notes_same p A B b steps (all_both ℕ_sum (out_by (arc ∷ []) b.0) rs) h r v w whole
          (a.meaning A B b F (some arc.target) (record {
            reads = l;
            few = k.few_states;
            vertex_is = ap (λ (y : Vertex). y.second.0) e;
            place_is = target;
            below = k.target_fits i within;
            carries = λ j y g. by_both (k.loaded i within) g;
          }))

-- ---- all of them

-- the pairs of steps with those of the second side's chains
abbrev pairs_with : List ℕ → Automaton ℕ → automata.Vertex → List (Content ℕ × ℕ) → List Step
pairs_with n2 B b ss = all_both ℕ_sum ss (out_at ℕ_sum (system (chained_only n2 B)) b.1)

module _ (p : Plan) (h : Head) (c : Vertex) (a1 n1 a2 n2 : List ℕ) (v : List ℕ) where
  -- the first i were looked at
  pub record TurnedBoth (g : Head) (w : List ℕ) (i : ℕ) : Type 0 where
    pub within : i ≤ p.first.arcs
    pub opened : g.full ≡ false
    pub grows : Grows p (8192 * i) h v g w
    pub meaning : (A B : Automaton ℕ) (b : automata.Vertex) → ReadsArcs p.first a1 A → ReadsArcs p.second a2 B → c ≡ vertex_of b
        → Notes p A B b (pairs_with n2 B b (out_by (chained_arcs n1 0 (take i A.arcs)) b.0)) h v g w

  -- and the next one, where there is one, is in the chain of the first side's place
  pub record PassingBoth (g : Head) (w : List ℕ) (i : ℕ) : Type 0 where
    pub turned : TurnedBoth g w i
    pub leaves : i < p.first.arcs → (in_chain n1 i ≡ true) × (source_of a1 i ≡ c.first.0)

module _ (p : Plan) (h : Head) (c : Vertex) (a1 f1 n1 a2 f2 n2 : List ℕ) (v : List ℕ) (q : Ready p h 67108864 (length v)) (lent-first : ArcsLent p.first a1) (lent-second : ArcsLent p.second a2)
    (indexed : Indexed p a1 f1 n1 a2 f2 n2) where
  -- up to the next arc of the chain
  to-next : (g : Head) (w : List ℕ) (k i : ℕ) → TurnedBoth p h c a1 n1 a2 n2 v g w k → FirstIn a1 n1 c.first.0 p.first.arcs k i → PassingBoth p h c a1 n1 a2 n2 v g w i
  to-next g w k i t f =
      let b = f.behind in
      record {
        turned = record {
          within = f.within;
          opened = t.opened;
          grows = grows_wider p.states (8192 * k) (8192 * i) (progress h) (progress g) v w t.grows (omega (arith, b));
          meaning = λ A B d y l e.
              turn_pass (pairs_with n2 B d) refl (both_append (out_at ℕ_sum (system (chained_only n2 B)) d.1)) p A B d n1 A.arcs d.0 h v (i - k) k i g w (omega (arith, b)) (omega (arith, f.within, y.count))
              (λ n a m x z o s. f.between n m x o (at_source p.first a1 A y n a (omega (arith, x, f.within)) z ∙ s ∙ sym (ap (λ (o : Vertex). o.first.0) e))) (t.meaning A B d y l e);
        };
        leaves = f.leaves;
      }

  pub both-start : h.full ≡ false → (i : ℕ) → i ≡ first_for p.first.states p.first.arcs f1 c.first.0 → PassingBoth p h c a1 n1 a2 n2 v h v i
  both-start f i e = to-next h v 0 i
      (record {
        within = omega arith;
        opened = f;
        grows = grows_none p.states (8192 * 0) (progress h) v q.fits;
        meaning = λ A B b k l e. turn_start (pairs_with n2 B b) refl (both_append (out_at ℕ_sum (system (chained_only n2 B)) b.1)) p A B b n1 A.arcs b.0 h v;
      })
      (subst (FirstIn a1 n1 c.first.0 p.first.arcs 0) (sym e) (first_for_lem p.first.states p.first.arcs a1 f1 n1 indexed.first c.first.0))

  module _ (g : Head) (w : List ℕ) (i : ℕ) (t : PassingBoth p h c a1 n1 a2 n2 v g w i) where
    module _ (b : i < p.first.arcs) where
      -- the next arc of the chain
      following : FirstIn a1 n1 c.first.0 p.first.arcs (i + 1) (get_or n1 i 0)
      following = next_for p.first.states p.first.arcs a1 f1 n1 indexed.first c.first.0 i b (t.leaves b)

      module _ (r : Head) (u : List ℕ) (z : TriesBoth p g c a1 a2 n2 i w r u) where
        next_grows : Grows p (8192 * (i + 1)) h v r u
        next_grows = grows_then p.states (8192 * i) 8192 (8192 * (i + 1)) (progress h) (progress g) (progress r) v w u t.turned.grows z.grows (omega arith)

        next_means : (A B : Automaton ℕ) (d : automata.Vertex) → ReadsArcs p.first a1 A → ReadsArcs p.second a2 B → c ≡ vertex_of d
            → Notes p A B d (pairs_with n2 B d (out_by (chained_arcs n1 0 (take (i + 1) A.arcs)) d.0)) h v r u
        next_means A B d k l e = turn_more (pairs_with n2 B d) refl (both_append (out_at ℕ_sum (system (chained_only n2 B)) d.1)) p A B d n1 A.arcs d.0 h v
            i (arc_as p.first.tapes (arc_at (arc_size * i) a1)) g r w u t.turned.grows.taken (t.turned.meaning A B d k l e) (k.loaded i b) (t.leaves b).0 (z.meaning A B d k l e)

        pub both-next : r.full ≡ false → PassingBoth p h c a1 n1 a2 n2 v r u (get_or n1 i 0)
        both-next f = to-next r u (i + 1) (get_or n1 i 0) (record { within = omega arith; opened = f; grows = next_grows; meaning = next_means }) following

        pub both_full : r.full ≡ true → PassesBoth p h c a1 n1 a2 n2 v r u
        both_full f = record {
          grows = grows_wider p.states (8192 * (i + 1)) 67108864 (progress h) (progress r) v u next_grows (omega (arith, b, lent-first.few));
          meaning = λ A B d k l e. subst (λ (ss : List (Content ℕ × ℕ)). Notes p A B d (pairs_with n2 B d ss) h v r u) (out-all (chained_only n1 A) d.0)
              (turn_full (pairs_with n2 B d) refl (both_append (out_at ℕ_sum (system (chained_only n2 B)) d.1)) p A B d n1 A.arcs d.0 h v (i + 1) r u f (next_means A B d k l e));
        }

    pub both_end : p.first.arcs ≤ i → PassesBoth p h c a1 n1 a2 n2 v g w
    both_end b = record {
      grows = grows_wider p.states (8192 * i) 67108864 (progress h) (progress g) v w t.turned.grows (omega (arith, t.turned.within, lent-first.few));
      meaning = λ A B d k l e. subst (λ (ss : List (Content ℕ × ℕ)). Notes p A B d (pairs_with n2 B d ss) h v g w) (out-all (chained_only n1 A) d.0)
          (turn_all (pairs_with n2 B d) refl (both_append (out_at ℕ_sum (system (chained_only n2 B)) d.1)) p A B d n1 A.arcs d.0 h v i g w (omega (arith, b, k.count)) (t.turned.meaning A B d k l e));
    }
