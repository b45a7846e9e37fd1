-- The arcs of the first side, where the second side's path has ended.
use Prim.Native.Nat.{ℕ, ◌+◌, ◌-◌, ◌*◌, ◌≤◌, ◌<◌}
use mathlib.Core.Path.{◌≡◌, refl, sym, ap, ◌∙◌, subst}
use mathlib.Core.Bool.{true, false}
use mathlib.Core.Option.{Option, none, some}
use mathlib.Core.List.{List, [], ◌∷◌, map}
use native.Mathlib.Omega.{arith}
use lib.ListN.{length, get_or, take}
use Rattle.automata.specs.Automaton.{Automaton, Arc, Content, content}
use Rattle.automata.specs.Product as automata
use Rattle.automata.proofs.ListFacts
use Rattle.automata.specs.Layout.{arc_size}
use Rattle.table.specs.Arcs.{source_of, target_of}
use Rattle.table.specs.Records.{arc_as, arc_at}
use Rattle.product_search.specs.declared.vertex.Vertex.{Vertex}
use Rattle.product_search.specs.declared.plan.Plan.{Plan}
use Rattle.product_search.specs.declared.head.Head.{Head}
use Rattle.product_search.specs.Vertices.{ended, place_number}
use Rattle.product_search.specs.Moves.{no_arc}
use Rattle.table.specs.Arcs.{source_of}
use Rattle.table_adjacency.specs.Chains.{in_chain, FirstIn, first_for}
use Rattle.table_adjacency.proofs.ChainFacts.{first_for_lem, next_for}
use Rattle.product_search.specs.Reading.{ArcsLent, LinkedArcs, chained_arcs, chained_only}
use Rattle.product_search.specs.Searching.{progress, Notes, Ready, Grows, Arrives, out_by, on_first, ByFirst, TriesFirst, PassesFirst}
use Rattle.search_rows.proofs.ProgressFacts.{grows_none, grows_then, grows_wider}
use Rattle.product_search.proofs.NoteFacts.{notes_none, notes_same}
use Rattle.product_search.proofs.ReadFacts.{source_at_lem, target_at_lem, out_one, out_away, out-all, at_source, turn_start, turn_more, turn_pass, turn_full, turn_all}

-- ---- one arc

module _ (p : Plan) (h : Head) (c : Vertex) (arcs : List ℕ) (i : ℕ) (v : List ℕ) (q : Ready p h 1 (length v)) (within : i < p.first.arcs)
    (x : ℕ) (source_is : x ≡ source_of arcs i) where
  abbrev arc : Arc ℕ
  arc = arc_as p.first.tapes (arc_at (arc_size * i) arcs)

  -- it leaves another state
  pub first_away : (x ≡ c.first.0 → ⊥) → TriesFirst p h c arcs i v h v
  first_away n = record {
    grows = grows_none p.states 1 (progress h) v q.fits;
    meaning = λ A B b F k.
        let e : out_by (arc ∷ []) b.0 ≡ [] = out_away arc b.0 (λ z. n (source_is ∙ sym (source_at_lem (arc_size * i) arcs) ∙ z ∙ sym k.vertex_is)) in
        notes_same p A B b [] (map (on_first F) (out_by (arc ∷ []) b.0)) h h v v (sym (ap (map (on_first F)) e)) (notes_none p A B b h v);
  }

  -- it leaves the first side's state
  pub first_there : x ≡ c.first.0 → (t : ℕ) → t ≡ target_of arcs i → (r : Head) (w : List ℕ) → Arrives p h (record { first = record { 0 = t }; second = record { 0 = ended } }) i no_arc v r w
      → TriesFirst p h c arcs i v r w
  first_there n t target_is r w a = record {
    grows = a.grows;
    meaning = λ A B b F k. go A B b F k b.0 refl;
  }
    where
      source : arc.source ≡ c.first.0
      source = source_at_lem (arc_size * i) arcs ∙ sym source_is ∙ n

      target : t ≡ arc.target
      target = target_is ∙ sym (target_at_lem (arc_size * i) arcs)

      go : (A B : Automaton ℕ) (b : automata.Vertex) (F : Content ℕ → Content ℕ) → ByFirst p arcs c A B b F → (o : Option ℕ) → b.0 ≡ o
          → Notes p A B b (map (on_first F) (out_by (arc ∷ []) b.0)) h v r w
      go A B b F k none e =
          let s = source in
          let z : c.first.0 ≡ ended = k.vertex_is ∙ ap place_number e in
          absurd (omega (arith, s, z, k.reads.source_fits i within, k.reads.few_states))
      go A B b F k (some d) e =
          let s : arc.source ≡ d = source ∙ k.vertex_is ∙ ap place_number e in
          let l : out_by (arc ∷ []) b.0 ≡ (content arc, arc.target) ∷ [] = ap (out_by (arc ∷ [])) e ∙ out_one arc d s in
          notes_same p A B b ((F (content arc), (some arc.target, none)) ∷ []) (map (on_first F) (out_by (arc ∷ []) b.0)) h r v w (sym (ap (map (on_first F)) l))
          (a.meaning A B b (some arc.target, none) (F (content arc)) k.reads.few_states k.few
          (λ z. record { first = record { 0 = target z }; second = record { 0 = ended } }) (k.reads.target_fits i within, tt) (k.carries i arc (k.reads.loaded i within)))

-- ---- all arcs

module _ (p : Plan) (h : Head) (c : Vertex) (arcs next : List ℕ) (v : List ℕ) where
  -- the first i were looked at
  pub record TurnedFirst (g : Head) (w : List ℕ) (i : ℕ) : Type 0 where
    pub within : i ≤ p.first.arcs
    pub opened : g.full ≡ false
    pub grows : Grows p i h v g w
    pub meaning : (A B : Automaton ℕ) (b : automata.Vertex) (F : Content ℕ → Content ℕ) → ByFirst p arcs c A B b F
        → Notes p A B b (map (on_first F) (out_by (chained_arcs next 0 (take i A.arcs)) b.0)) h v g w

  -- and the next one, where there is one, is in the chain of the first side's place
  pub record PassingFirst (g : Head) (w : List ℕ) (i : ℕ) : Type 0 where
    pub turned : TurnedFirst g w i
    pub leaves : i < p.first.arcs → (in_chain next i ≡ true) × (source_of arcs i ≡ c.first.0)

module _ (p : Plan) (h : Head) (c : Vertex) (arcs first next : List ℕ) (v : List ℕ) (q : Ready p h 8192 (length v)) (lent : ArcsLent p.first arcs)
    (linked : LinkedArcs p.first arcs first next) where
  -- up to the next arc of the chain
  to-next : (g : Head) (w : List ℕ) (k i : ℕ) → TurnedFirst p h c arcs next v g w k → FirstIn arcs next c.first.0 p.first.arcs k i → PassingFirst p h c arcs next v g w i
  to-next g w k i t f =
      let b = f.behind in
      record {
        turned = record {
          within = f.within;
          opened = t.opened;
          grows = grows_wider p.states k i (progress h) (progress g) v w t.grows b;
          meaning = λ A B d F z.
              turn_pass (map (on_first F)) refl (ListFacts.map_append (on_first F)) p A B d next A.arcs d.0 h v (i - k) k i g w (omega (arith, b)) (omega (arith, f.within, z.reads.count))
              (λ n a l m e y s. f.between n l m y (at_source p.first arcs A z.reads n a (omega (arith, m, f.within)) e ∙ s ∙ sym z.vertex_is)) (t.meaning A B d F z);
        };
        leaves = f.leaves;
      }

  pub first-start : h.full ≡ false → (i : ℕ) → i ≡ first_for p.first.states p.first.arcs first c.first.0 → PassingFirst p h c arcs next v h v i
  first-start f i e = to-next h v 0 i
      (record {
        within = omega arith;
        opened = f;
        grows = grows_none p.states 0 (progress h) v q.fits;
        meaning = λ A B b F k. turn_start (map (on_first F)) refl (ListFacts.map_append (on_first F)) p A B b next A.arcs b.0 h v;
      })
      (subst (FirstIn arcs next c.first.0 p.first.arcs 0) (sym e) (first_for_lem p.first.states p.first.arcs arcs first next linked c.first.0))

  module _ (g : Head) (w : List ℕ) (i : ℕ) (t : PassingFirst p h c arcs next v g w i) where
    module _ (b : i < p.first.arcs) where
      -- the next arc of the chain
      following : FirstIn arcs next c.first.0 p.first.arcs (i + 1) (get_or next i 0)
      following = next_for p.first.states p.first.arcs arcs first next linked c.first.0 i b (t.leaves b)

      module _ (r : Head) (u : List ℕ) (z : TriesFirst p g c arcs i w r u) where
        next_grows : Grows p (i + 1) h v r u
        next_grows = grows_then p.states i 1 (i + 1) (progress h) (progress g) (progress r) v w u t.turned.grows z.grows (omega arith)

        next_means : (A B : Automaton ℕ) (d : automata.Vertex) (F : Content ℕ → Content ℕ) → ByFirst p arcs c A B d F
            → Notes p A B d (map (on_first F) (out_by (chained_arcs next 0 (take (i + 1) A.arcs)) d.0)) h v r u
        next_means A B d F k = turn_more (map (on_first F)) refl (ListFacts.map_append (on_first F)) p A B d next A.arcs d.0 h v
            i (arc_as p.first.tapes (arc_at (arc_size * i) arcs)) g r w u t.turned.grows.taken (t.turned.meaning A B d F k) (k.reads.loaded i b) (t.leaves b).0 (z.meaning A B d F k)

        pub first_next : r.full ≡ false → PassingFirst p h c arcs next v r u (get_or next i 0)
        first_next f = to-next r u (i + 1) (get_or next i 0) (record { within = omega arith; opened = f; grows = next_grows; meaning = next_means }) following

        pub first_full : r.full ≡ true → PassesFirst p h c arcs next v r u
        first_full f = record {
          grows = grows_wider p.states (i + 1) 8192 (progress h) (progress r) v u next_grows (omega (arith, b, lent.few));
          meaning = λ A B d F k. subst (λ (l : List (Content ℕ × ℕ)). Notes p A B d (map (on_first F) l) h v r u) (out-all (chained_only next A) d.0)
              (turn_full (map (on_first F)) refl (ListFacts.map_append (on_first F)) p A B d next A.arcs d.0 h v (i + 1) r u f (next_means A B d F k));
        }

    pub first_end : p.first.arcs ≤ i → PassesFirst p h c arcs next v g w
    first_end b = record {
      grows = grows_wider p.states i 8192 (progress h) (progress g) v w t.turned.grows (omega (arith, t.turned.within, lent.few));
      meaning = λ A B d F k. subst (λ (l : List (Content ℕ × ℕ)). Notes p A B d (map (on_first F) l) h v g w) (out-all (chained_only next A) d.0)
          (turn_all (map (on_first F)) refl (ListFacts.map_append (on_first F)) p A B d next A.arcs d.0 h v i g w (omega (arith, b, k.reads.count)) (t.turned.meaning A B d F k));
    }
