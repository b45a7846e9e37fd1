-- One side's arcs after the other side's end.
use Prim.Native.Nat.{ℕ, ◌+◌, ◌*◌, ◌<◌}
use mathlib.Core.Path.{◌≡◌, refl, sym, ap, ◌∙◌}
use mathlib.Core.Bool.{Bool, true, false, not}
use mathlib.Core.Option.{Option, none, some}
use mathlib.Core.List.{List, [], map}
use native.Mathlib.Omega.{arith}
use lib.Dec.{eqb}
use borrow.Author.Tests.{eqb-true, eqb-false}
use lib.ListN.{length, get_or, get_elem?}
use Rattle.automata.specs.Lists.{is_some, bind}
use Rattle.automata.specs.OrderedSum.{ℕ_sum}
use Rattle.automata.specs.Automaton.{Automaton, State, Content, final_of}
use Rattle.automata.specs.System.{system, out_at, final_at}
use Rattle.automata.specs.Product as automata
use Rattle.automata.specs.Product.{after_first_content, after_second_content, all_after_first, all_after_second}
use Rattle.automata.specs.Layout.{state_size, final_place}
use Rattle.table.specs.declared.answer.Counts.{Counts}
use Rattle.table.specs.Records.{state_as, state_at}
use Rattle.product_search.specs.declared.vertex.Vertex.{Vertex}
use Rattle.product_search.specs.declared.plan.Plan.{Plan}
use Rattle.product_search.specs.declared.head.Head.{Head}
use Rattle.product_search.specs.Vertices.{ended, vertex_of, VertexBelow}
use Rattle.product_search.specs.Moves.{no_arc, by_second, by_first}
use Rattle.product_search.specs.Reading.{StatesLent, ReadsStates, chained_only}
use Rattle.product_search.specs.Searching.{progress, Step, Ready, TellsEnd, on_second, on_first, PassesSecond, PassesFirst, EndsFirst, EndsSecond}
use Rattle.search_rows.proofs.ProgressFacts.{grows_none}
use Rattle.product_search.proofs.NoteFacts.{notes_none, notes_over, notes_same}
use Rattle.product_search.proofs.ReadFacts.{final_absent, final_present}

-- ---- the test for an end

module _ (counts : Counts) (bytes : List ℕ) (x : ℕ) (lent : StatesLent counts bytes) where
  -- the final weight of a state, from its record
  final_is : (A : Automaton ℕ) (q : ℕ) → ReadsStates counts bytes A → x ≡ q → x < counts.states → final_of A q ≡ (state_as (state_at (state_size * x) bytes)).final
  final_is A q k e l =
      ap (λ (o : Option (State ℕ)). bind o (λ s. s.final)) (ap (get_elem? A.states) (sym e) ∙ k.loaded x l)

  -- the state has none
  ends_not : x < counts.states → get_or bytes (state_size * x + final_place) 0 ≡ 0 → TellsEnd counts bytes x false
  ends_not l z A none k e b = absurd (omega (arith, l, e, lent.few))
  ends_not l z A (some q) k e b = sym (ap is_some (final_is A q k e l ∙ final_absent x bytes z))

  -- it has one
  ends_there : x < counts.states → (get_or bytes (state_size * x + final_place) 0 ≡ 0 → ⊥) → TellsEnd counts bytes x true
  ends_there l z A none k e b = refl
  ends_there l z A (some q) k e b = let f = final_present x bytes z in sym (ap is_some (final_is A q k e l ∙ f.1))

  -- by the first byte of the final weight
  pub ends_by : x < counts.states → TellsEnd counts bytes x (not (eqb (get_or bytes (state_size * x + final_place) 0) 0))
  ends_by l = go (eqb (get_or bytes (state_size * x + final_place) 0) 0) refl
    where
      go : (t : Bool) → eqb (get_or bytes (state_size * x + final_place) 0) 0 ≡ t → TellsEnd counts bytes x (not t)
      go true t = ends_not l (eqb-true _ _ t)
      go false t = ends_there l (eqb-false _ _ t)

-- an option by whether it is there
absent : (e : Bool) (o : Option ℕ) → not e ≡ true → e ≡ is_some o → o ≡ none
absent e none n t = refl
absent true (some f) n t = absurd (let z : ◌≡◌ {A = ℕ} 0 1 = cc in omega arith)
absent false (some f) n t = absurd (let z : ◌≡◌ {A = ℕ} 0 1 = cc in omega arith)

present : (e : Bool) (o : Option ℕ) → not e ≡ false → e ≡ is_some o → (f : ℕ) × (o ≡ some f)
present true none n t = absurd (let z : ◌≡◌ {A = ℕ} 0 1 = cc in omega arith)
present false none n t = absurd (let z : ◌≡◌ {A = ℕ} 0 1 = cc in omega arith)
present e (some f) n t = (f, refl)

-- ---- after the first side's end

module _ (p : Plan) (h : Head) (c : Vertex) (s1 a2 n2 : List ℕ) (v : List ℕ) (q : Ready p h 8192 (length v)) where
  -- the states are full
  pub first-over : h.full ≡ true → EndsFirst p h c s1 a2 n2 v h v
  first-over f = record {
    grows = grows_none p.states 8192 (progress h) v q.fits;
    meaning = λ A B b k l e t. notes_over p A B b (all_after_first ℕ_sum A.tapes (final_at ℕ_sum (system A) b.0) (out_at ℕ_sum (system (chained_only n2 B)) b.1)) h v f;
  }

  module _ (x : Bool) (tells : TellsEnd p.first s1 c.first.0 x) where
    told : (A B : Automaton ℕ) (b : automata.Vertex) → ReadsStates p.first s1 A → c ≡ vertex_of b → VertexBelow (length A.states) (length B.states) b
        → x ≡ is_some (final_at ℕ_sum (system A) b.0)
    told A B b k e t = tells A b.0 k (ap (λ (y : Vertex). y.first.0) e) t.0

    -- its path may not end
    pub first_stays : not x ≡ true → EndsFirst p h c s1 a2 n2 v h v
    first_stays n = record {
      grows = grows_none p.states 8192 (progress h) v q.fits;
      meaning = λ A B b k l e t.
          let rs = out_at ℕ_sum (system (chained_only n2 B)) b.1 in
          let o : final_at ℕ_sum (system A) b.0 ≡ none = absent x (final_at ℕ_sum (system A) b.0) n (told A B b k e t) in
          notes_same p A B b [] (all_after_first ℕ_sum A.tapes (final_at ℕ_sum (system A) b.0) rs) h h v v
          (sym (ap {B = List Step} (λ z. all_after_first ℕ_sum A.tapes z rs) o)) (notes_none p A B b h v);
    }

    -- it may
    pub first_ends : not x ≡ false → (r : Head) (w : List ℕ) → PassesSecond p h c no_arc ended a2 n2 v r w → EndsFirst p h c s1 a2 n2 v r w
    first_ends n r w a = record {
      grows = a.grows;
      meaning = λ A B b k l e t.
          let rs = out_at ℕ_sum (system (chained_only n2 B)) b.1 in
          let y = present x (final_at ℕ_sum (system A) b.0) n (told A B b k e t) in
          let F : Content ℕ → Content ℕ = after_first_content ℕ_sum A.tapes y.0 in
          notes_same p A B b (map (on_second F none) rs) (all_after_first ℕ_sum A.tapes (final_at ℕ_sum (system A) b.0) rs) h r v w
          (sym (ap {B = List Step} (λ z. all_after_first ℕ_sum A.tapes z rs) y.1))
          (a.meaning A B b F none (record {
            reads = l;
            few = k.few;
            vertex_is = ap (λ (z : Vertex). z.second.0) e;
            place_is = refl;
            below = tt;
            carries = λ j z g. by_second y.1 g;
          }));
    }

-- ---- after the second side's end

module _ (p : Plan) (h : Head) (c : Vertex) (a1 n1 s2 : List ℕ) (v : List ℕ) (q : Ready p h 8192 (length v)) where
  -- the states are full
  pub second_over : h.full ≡ true → EndsSecond p h c a1 n1 s2 v h v
  second_over f = record {
    grows = grows_none p.states 8192 (progress h) v q.fits;
    meaning = λ A B b k l e t. notes_over p A B b (all_after_second ℕ_sum B.tapes (final_at ℕ_sum (system B) b.1) (out_at ℕ_sum (system (chained_only n1 A)) b.0)) h v f;
  }

  module _ (x : Bool) (tells : TellsEnd p.second s2 c.second.0 x) where
    told_second : (A B : Automaton ℕ) (b : automata.Vertex) → ReadsStates p.second s2 B → c ≡ vertex_of b → VertexBelow (length A.states) (length B.states) b
        → x ≡ is_some (final_at ℕ_sum (system B) b.1)
    told_second A B b k e t = tells B b.1 k (ap (λ (y : Vertex). y.second.0) e) t.1

    -- its path may not end
    pub second_stays : not x ≡ true → EndsSecond p h c a1 n1 s2 v h v
    second_stays n = record {
      grows = grows_none p.states 8192 (progress h) v q.fits;
      meaning = λ A B b k l e t.
          let ss = out_at ℕ_sum (system (chained_only n1 A)) b.0 in
          let o : final_at ℕ_sum (system B) b.1 ≡ none = absent x (final_at ℕ_sum (system B) b.1) n (told_second A B b l e t) in
          notes_same p A B b [] (all_after_second ℕ_sum B.tapes (final_at ℕ_sum (system B) b.1) ss) h h v v
          (sym (ap {B = List Step} (λ z. all_after_second ℕ_sum B.tapes z ss) o)) (notes_none p A B b h v);
    }

    -- it may
    pub second_ends : not x ≡ false → (r : Head) (w : List ℕ) → PassesFirst p h c a1 n1 v r w → EndsSecond p h c a1 n1 s2 v r w
    second_ends n r w a = record {
      grows = a.grows;
      meaning = λ A B b k l e t.
          let ss = out_at ℕ_sum (system (chained_only n1 A)) b.0 in
          let y = present x (final_at ℕ_sum (system B) b.1) n (told_second A B b l e t) in
          let F : Content ℕ → Content ℕ = after_second_content ℕ_sum B.tapes y.0 in
          notes_same p A B b (map (on_first F) ss) (all_after_second ℕ_sum B.tapes (final_at ℕ_sum (system B) b.1) ss) h r v w
          (sym (ap {B = List Step} (λ z. all_after_second ℕ_sum B.tapes z ss) y.1))
          (a.meaning A B b F (record {
            reads = k;
            few = l.few;
            vertex_is = ap (λ (z : Vertex). z.first.0) e;
            carries = λ i z g. by_first y.1 g;
          }));
    }
