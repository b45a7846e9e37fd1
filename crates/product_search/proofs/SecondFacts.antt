-- The arcs of the second side, with one move of the first side.
use Prim.Native.Nat.{ℕ, ◌+◌, ◌-◌, ◌*◌, ◌≤◌, ◌<◌}
use mathlib.Core.Path.{◌≡◌, refl, sym, ap, ◌∙◌, subst}
use mathlib.Core.Bool.{true, false}
use mathlib.Core.Option.{Option, none, some}
use mathlib.Core.List.{List, [], ◌∷◌, map}
use native.Mathlib.Omega.{arith}
use lib.ListN.{length, get_or, take}
use Rattle.automata.specs.Automaton.{Automaton, Arc, Content, content}
use Rattle.automata.specs.Product as automata
use Rattle.automata.proofs.ListFacts
use Rattle.automata.specs.Layout.{arc_size}
use Rattle.table.specs.Arcs.{source_of, target_of}
use Rattle.table.specs.Records.{arc_as, arc_at}
use Rattle.product_search.specs.declared.vertex.Vertex.{Vertex}
use Rattle.product_search.specs.declared.plan.Plan.{Plan}
use Rattle.product_search.specs.declared.head.Head.{Head}
use Rattle.product_search.specs.Vertices.{ended, place_number}
use Rattle.table.specs.Arcs.{source_of}
use Rattle.table_adjacency.specs.Chains.{in_chain, FirstIn, first_for}
use Rattle.table_adjacency.proofs.ChainFacts.{first_for_lem, next_for}
use Rattle.product_search.specs.Reading.{ArcsLent, LinkedArcs, chained_arcs, chained_only}
use Rattle.product_search.specs.Searching.{progress, Notes, Ready, Grows, Arrives, out_by, on_second, BySecond, TriesSecond, PassesSecond}
use Rattle.search_rows.proofs.ProgressFacts.{grows_none, grows_then, grows_wider}
use Rattle.product_search.proofs.NoteFacts.{notes_none, notes_same}
use Rattle.product_search.proofs.ReadFacts.{source_at_lem, target_at_lem, out_one, out_away, out-all, at_source, turn_start, turn_more, turn_pass, turn_full, turn_all}

-- ---- one arc

module _ (p : Plan) (h : Head) (c : Vertex) (i to : ℕ) (arcs : List ℕ) (j : ℕ) (v : List ℕ) (q : Ready p h 1 (length v)) (within : j < p.second.arcs)
    (x : ℕ) (source_is : x ≡ source_of arcs j) where
  abbrev arc : Arc ℕ
  arc = arc_as p.second.tapes (arc_at (arc_size * j) arcs)

  -- it leaves another state
  pub second_away : (x ≡ c.second.0 → ⊥) → TriesSecond p h c i to arcs j v h v
  second_away n = record {
    grows = grows_none p.states 1 (progress h) v q.fits;
    meaning = λ A B b F y k.
        let e : out_by (arc ∷ []) b.1 ≡ [] = out_away arc b.1 (λ z. n (source_is ∙ sym (source_at_lem (arc_size * j) arcs) ∙ z ∙ sym k.vertex_is)) in
        notes_same p A B b [] (map (on_second F y) (out_by (arc ∷ []) b.1)) h h v v (sym (ap (map (on_second F y)) e)) (notes_none p A B b h v);
  }

  -- it leaves the second side's state
  pub second_there : x ≡ c.second.0 → (t : ℕ) → t ≡ target_of arcs j → (r : Head) (w : List ℕ) → Arrives p h (record { first = record { 0 = to }; second = record { 0 = t } }) i j v r w
      → TriesSecond p h c i to arcs j v r w
  second_there n t target_is r w a = record {
    grows = a.grows;
    meaning = λ A B b F y k. go A B b F y k b.1 refl;
  }
    where
      source : arc.source ≡ c.second.0
      source = source_at_lem (arc_size * j) arcs ∙ sym source_is ∙ n

      target : t ≡ arc.target
      target = target_is ∙ sym (target_at_lem (arc_size * j) arcs)

      go : (A B : Automaton ℕ) (b : automata.Vertex) (F : Content ℕ → Content ℕ) (y : Option ℕ) → BySecond p arcs c i to A B b F y
          → (o : Option ℕ) → b.1 ≡ o → Notes p A B b (map (on_second F y) (out_by (arc ∷ []) b.1)) h v r w
      go A B b F y k none e =
          let s = source in
          let z : c.second.0 ≡ ended = k.vertex_is ∙ ap place_number e in
          absurd (omega (arith, s, z, k.reads.source_fits j within, k.reads.few_states))
      go A B b F y k (some d) e =
          let s : arc.source ≡ d = source ∙ k.vertex_is ∙ ap place_number e in
          let l : out_by (arc ∷ []) b.1 ≡ (content arc, arc.target) ∷ [] = ap (out_by (arc ∷ [])) e ∙ out_one arc d s in
          notes_same p A B b ((F (content arc), (y, some arc.target)) ∷ []) (map (on_second F y) (out_by (arc ∷ []) b.1)) h r v w (sym (ap (map (on_second F y)) l))
          (a.meaning A B b (y, some arc.target) (F (content arc)) k.few k.reads.few_states
          (λ z. record { first = record { 0 = k.place_is z }; second = record { 0 = target z } }) (k.below, k.reads.target_fits j within) (k.carries j arc (k.reads.loaded j within)))

-- ---- all arcs

module _ (p : Plan) (h : Head) (c : Vertex) (i to : ℕ) (arcs next : List ℕ) (v : List ℕ) where
  -- the first j were looked at
  pub record TurnedSecond (g : Head) (w : List ℕ) (j : ℕ) : Type 0 where
    pub within : j ≤ p.second.arcs
    pub opened : g.full ≡ false
    pub grows : Grows p j h v g w
    pub meaning : (A B : Automaton ℕ) (b : automata.Vertex) (F : Content ℕ → Content ℕ) (x : Option ℕ) → BySecond p arcs c i to A B b F x
        → Notes p A B b (map (on_second F x) (out_by (chained_arcs next 0 (take j B.arcs)) b.1)) h v g w

  -- and the next one, where there is one, is in the chain of the second side's place
  pub record PassingSecond (g : Head) (w : List ℕ) (j : ℕ) : Type 0 where
    pub turned : TurnedSecond g w j
    pub leaves : j < p.second.arcs → (in_chain next j ≡ true) × (source_of arcs j ≡ c.second.0)

module _ (p : Plan) (h : Head) (c : Vertex) (i to : ℕ) (arcs first next : List ℕ) (v : List ℕ) (q : Ready p h 8192 (length v)) (lent : ArcsLent p.second arcs)
    (linked : LinkedArcs p.second arcs first next) where
  -- up to the next arc of the chain
  to-next : (g : Head) (w : List ℕ) (k j : ℕ) → TurnedSecond p h c i to arcs next v g w k → FirstIn arcs next c.second.0 p.second.arcs k j → PassingSecond p h c i to arcs next v g w j
  to-next g w k j t f =
      let b = f.behind in
      record {
        turned = record {
          within = f.within;
          opened = t.opened;
          grows = grows_wider p.states k j (progress h) (progress g) v w t.grows b;
          meaning = λ A B d F x z.
              turn_pass (map (on_second F x)) refl (ListFacts.map_append (on_second F x)) p A B d next B.arcs d.1 h v (j - k) k j g w (omega (arith, b)) (omega (arith, f.within, z.reads.count))
              (λ n a l m e y s. f.between n l m y (at_source p.second arcs B z.reads n a (omega (arith, m, f.within)) e ∙ s ∙ sym z.vertex_is)) (t.meaning A B d F x z);
        };
        leaves = f.leaves;
      }

  pub second_start : h.full ≡ false → (j : ℕ) → j ≡ first_for p.second.states p.second.arcs first c.second.0 → PassingSecond p h c i to arcs next v h v j
  second_start f j e = to-next h v 0 j
      (record {
        within = omega arith;
        opened = f;
        grows = grows_none p.states 0 (progress h) v q.fits;
        meaning = λ A B b F x k. turn_start (map (on_second F x)) refl (ListFacts.map_append (on_second F x)) p A B b next B.arcs b.1 h v;
      })
      (subst (FirstIn arcs next c.second.0 p.second.arcs 0) (sym e) (first_for_lem p.second.states p.second.arcs arcs first next linked c.second.0))

  module _ (g : Head) (w : List ℕ) (j : ℕ) (t : PassingSecond p h c i to arcs next v g w j) where
    module _ (b : j < p.second.arcs) where
      -- the next arc of the chain
      following : FirstIn arcs next c.second.0 p.second.arcs (j + 1) (get_or next j 0)
      following = next_for p.second.states p.second.arcs arcs first next linked c.second.0 j b (t.leaves b)

      module _ (r : Head) (u : List ℕ) (z : TriesSecond p g c i to arcs j w r u) where
        next_grows : Grows p (j + 1) h v r u
        next_grows = grows_then p.states j 1 (j + 1) (progress h) (progress g) (progress r) v w u t.turned.grows z.grows (omega arith)

        next_means : (A B : Automaton ℕ) (d : automata.Vertex) (F : Content ℕ → Content ℕ) (x : Option ℕ) → BySecond p arcs c i to A B d F x
            → Notes p A B d (map (on_second F x) (out_by (chained_arcs next 0 (take (j + 1) B.arcs)) d.1)) h v r u
        next_means A B d F x k = turn_more (map (on_second F x)) refl (ListFacts.map_append (on_second F x)) p A B d next B.arcs d.1 h v
            j (arc_as p.second.tapes (arc_at (arc_size * j) arcs)) g r w u t.turned.grows.taken (t.turned.meaning A B d F x k) (k.reads.loaded j b) (t.leaves b).0 (z.meaning A B d F x k)

        pub second_next : r.full ≡ false → PassingSecond p h c i to arcs next v r u (get_or next j 0)
        second_next f = to-next r u (j + 1) (get_or next j 0) (record { within = omega arith; opened = f; grows = next_grows; meaning = next_means }) following

        pub second_full : r.full ≡ true → PassesSecond p h c i to arcs next v r u
        second_full f = record {
          grows = grows_wider p.states (j + 1) 8192 (progress h) (progress r) v u next_grows (omega (arith, b, lent.few));
          meaning = λ A B d F x k. subst (λ (l : List (Content ℕ × ℕ)). Notes p A B d (map (on_second F x) l) h v r u) (out-all (chained_only next B) d.1)
              (turn_full (map (on_second F x)) refl (ListFacts.map_append (on_second F x)) p A B d next B.arcs d.1 h v (j + 1) r u f (next_means A B d F x k));
        }

    pub second_end : p.second.arcs ≤ j → PassesSecond p h c i to arcs next v g w
    second_end b = record {
      grows = grows_wider p.states j 8192 (progress h) (progress g) v w t.turned.grows (omega (arith, t.turned.within, lent.few));
      meaning = λ A B d F x k. subst (λ (l : List (Content ℕ × ℕ)). Notes p A B d (map (on_second F x) l) h v g w) (out-all (chained_only next B) d.1)
          (turn_all (map (on_second F x)) refl (ListFacts.map_append (on_second F x)) p A B d next B.arcs d.1 h v j g w (omega (arith, b, k.reads.count)) (t.turned.meaning A B d F x k));
    }
