-- How many arcs stand in the chain of a place, and how many moves lead out of a state.
use Prim.Native.Nat.{ℕ, suc, ◌+◌, ◌-◌, ◌*◌, ◌≤◌, ◌<◌}
use mathlib.Core.Path.{◌≡◌, refl, sym, ap, ap₂, ◌∙◌, subst}
use mathlib.Core.Bool.{Bool, true}
use mathlib.Core.Option.{Option, none, some}
use mathlib.Core.List.{List, [], ◌∷◌, ◌++◌, map}
use native.Mathlib.Omega.{arith}
use native.Mathlib.Nat.{zero-mul, suc-mul, mul-le-mul}
use lib.ListN.{length, get_or, take, length-append, length-map}
use Rattle.automata.specs.Lists.{if, is_some}
use Rattle.automata.specs.OrderedSum.{ℕ_sum}
use Rattle.automata.specs.Automaton.{Automaton, Content}
use Rattle.automata.specs.System.{system, out_at, final_at}
use Rattle.automata.specs.Product.{both, after_first, after_second, all_both, all_after_first, all_after_second}
use Rattle.automata.specs.Layout.{arc_size}
use Rattle.table.specs.declared.answer.Counts.{Counts}
use Rattle.table.specs.Records.{arc_as, arc_at}
use Rattle.table.specs.Arcs.{source_of}
use Rattle.table_adjacency.specs.Chains.{in_chain, FirstIn, first_for}
use Rattle.table_adjacency.proofs.ChainFacts.{first_for_lem, next_for}
use Rattle.product_search.specs.declared.vertex.Vertex.{Vertex}
use Rattle.product_search.specs.declared.plan.Plan.{Plan}
use Rattle.product_search.specs.Vertices.{place_number}
use Rattle.product_search.specs.Reading.{ReadsArcs, LinkedArcs, Walkable, chained_arcs, chained_only}
use Rattle.product_search.specs.Searching.{Step, out_by, TellsEnd, Leaves, CountsMoves}
use Rattle.product_search.proofs.ReadFacts.{source_at_lem, at_source, out_one, out_nil, out-all, out-next, out_pass, out_whole}

-- ---- along one chain

module _ (counts : Counts) (first next : List ℕ) (x : ℕ) where
  -- whatever table the chains are of, the first k arcs lead out of x by d steps
  abbrev pub StepsTo : ℕ → ℕ → Type 0
  StepsTo d k = (arcs : List ℕ) (A : Automaton ℕ) (y : Option ℕ) → LinkedArcs counts arcs first next → ReadsArcs counts arcs A → x ≡ place_number y
      → d ≡ length (out_by (chained_arcs next 0 (take k A.arcs)) y)

  -- d of the first j arcs stand in the chain of x, and so does the next one, where there is one
  pub record Counting (d j : ℕ) : Type 0 where
    pub within : j ≤ counts.arcs
    pub few : d ≤ j
    pub leaves : (arcs : List ℕ) → LinkedArcs counts arcs first next → j < counts.arcs → (in_chain next j ≡ true) × (source_of arcs j ≡ x)
    pub meaning : StepsTo d j

module _ (counts : Counts) (first next : List ℕ) (x : ℕ) (w : Walkable counts first next) where
  -- up to the next arc of the chain
  to-next : (d k j : ℕ) → d ≤ k → ((arcs : List ℕ) → LinkedArcs counts arcs first next → FirstIn arcs next x counts.arcs k j) → StepsTo counts first next x d k
      → Counting counts first next x d j
  to-next d k j l f m =
      let g = f w.bytes w.linked in
      let b = g.behind in
      record {
        within = g.within;
        few = omega (arith, l, b);
        leaves = λ arcs c. (f arcs c).leaves;
        meaning = λ arcs A y c r e.
            m arcs A y c r e
            ∙ ap length (out_pass next A.arcs y (j - k) k j (omega (arith, b)) (omega (arith, g.within, r.count))
            (λ n a o h z i s. (f arcs c).between n o h i (at_source counts arcs A r n a (omega (arith, h, g.within)) z ∙ s ∙ sym e)));
      }

  -- none yet
  pub count_start : (j : ℕ) → j ≡ first_for counts.states counts.arcs first x → Counting counts first next x 0 j
  count_start j e =
      to-next 0 0 j (omega arith)
      (λ arcs c. subst (FirstIn arcs next x counts.arcs 0) (sym e) (first_for_lem counts.states counts.arcs arcs first next c x)) (λ arcs A y c r q. sym (ap length (out_nil y)))

  module _ (d j : ℕ) (t : Counting counts first next x d j) where
    module _ (b : j < counts.arcs) where
      -- the next arc of the chain
      following : (arcs : List ℕ) → LinkedArcs counts arcs first next → FirstIn arcs next x counts.arcs (j + 1) (get_or next j 0)
      following arcs c = next_for counts.states counts.arcs arcs first next c x j b (t.leaves arcs c b)

      -- the arc leads out of the place
      one-step : (arcs : List ℕ) (A : Automaton ℕ) → LinkedArcs counts arcs first next → ReadsArcs counts arcs A → (y : Option ℕ) → x ≡ place_number y
          → length (out_by (arc_as counts.tapes (arc_at (arc_size * j) arcs) ∷ []) y) ≡ 1
      one-step arcs A c r none e =
          let s = source_at_lem (arc_size * j) arcs ∙ (t.leaves arcs c b).1 ∙ e in
          absurd (omega (arith, s, r.source_fits j b, r.few_states))
      one-step arcs A c r (some q) e = ap length (out_one (arc_as counts.tapes (arc_at (arc_size * j) arcs)) q (source_at_lem (arc_size * j) arcs ∙ (t.leaves arcs c b).1 ∙ e))

      -- it is counted
      pub count_next : Counting counts first next x (d + 1) (get_or next j 0)
      count_next = to-next (d + 1) (j + 1) (get_or next j 0) (omega (arith, t.few)) following
          (λ arcs A y c r e.
          let a = arc_as counts.tapes (arc_at (arc_size * j) arcs) in
          let z = out_by (chained_arcs next 0 (take j A.arcs)) y in
          ap₂ (λ (k n : ℕ). k + n) (t.meaning arcs A y c r e) (sym (one-step arcs A c r y e))
          ∙ sym (length-append z (out_by (a ∷ []) y)) ∙ ap length (out-next next A.arcs y j a (r.loaded j b) (t.leaves arcs c b).0))

    -- all were
    pub count_end : counts.arcs ≤ j → Leaves counts first next x d
    count_end b = record {
      few = omega (arith, t.few, t.within, w.few);
      meaning = λ arcs A y c r e.
          t.meaning arcs A y c r e ∙ ap length (out_whole next A.arcs y j (omega (arith, b, r.count)) ∙ out-all (chained_only next A) y);
    }

-- ---- both sides

-- all pairs of steps
length_both : (xs ys : List (Content ℕ × ℕ)) → length {A = Step} (all_both ℕ_sum xs ys) ≡ length xs * length ys
length_both [] ys = sym (zero-mul (length ys))
length_both (x ∷ xs) ys =
    let a = length-append {A = Step} (map (both ℕ_sum x) ys) (all_both ℕ_sum xs ys) in
    let b = length-map {B = Step} ys (both ℕ_sum x) in
    let c = length_both xs ys in
    let e : suc (length xs) * length ys ≡ length xs * length ys + length ys = suc-mul (length xs) (length ys) in
    omega (arith, a, b, c, e)

-- the steps after an end
length_first : (n : ℕ) (o : Option ℕ) (ys : List (Content ℕ × ℕ)) → length {A = Step} (all_after_first ℕ_sum n o ys) ≡ if (is_some o) (length ys) 0
length_first n none ys = refl
length_first n (some f) ys = length-map {B = Step} ys (after_first ℕ_sum n f)

length_second : (n : ℕ) (o : Option ℕ) (xs : List (Content ℕ × ℕ)) → length {A = Step} (all_after_second ℕ_sum n o xs) ≡ if (is_some o) (length xs) 0
length_second n none xs = refl
length_second n (some g) xs = length-map {B = Step} xs (after_second ℕ_sum n g)

-- the pairs are few
pub pairs_few : (d1 d2 : ℕ) → d1 ≤ 8192 → d2 ≤ 8192 → d1 * d2 ≤ 67108864
pairs_few d1 d2 a b = let m = mul-le-mul a b in omega (arith, m)

module _ (p : Plan) (c : Vertex) (s1 f1 n1 s2 f2 n2 : List ℕ) (d1 d2 : ℕ) (x1 : Leaves p.first f1 n1 c.first.0 d1) (x2 : Leaves p.second f2 n2 c.second.0 d2) where
  -- the moves that there are, by whether each side may end
  pub moves_counted : (e1 e2 : Bool) → TellsEnd p.first s1 c.first.0 e1 → TellsEnd p.second s2 c.second.0 e2 → (k1 k2 : ℕ) → (k1 ≡ if e1 d2 0) × (k1 ≤ d2)
      → (k2 ≡ if e2 d1 0) × (k2 ≤ d1) → CountsMoves p c s1 f1 n1 s2 f2 n2 (d1 * d2 + k1 + k2)
  moves_counted e1 e2 t1 t2 k1 k2 o1 o2 = record {
    few = let m = pairs_few d1 d2 x1.few x2.few in omega (arith, m, o1.1, o2.1, x1.few, x2.few);
    meaning = λ a1 a2 A B b i r e below.
        let xs = out_at ℕ_sum (system (chained_only n1 A)) b.0 in
        let ys = out_at ℕ_sum (system (chained_only n2 B)) b.1 in
        let ps : List Step = all_both ℕ_sum xs ys in
        let fs : List Step = all_after_first ℕ_sum A.tapes (final_at ℕ_sum (system A) b.0) ys in
        let ss : List Step = all_after_second ℕ_sum B.tapes (final_at ℕ_sum (system B) b.1) xs in
        let first_is = ap (λ (z : Vertex). z.first.0) e in
        let second_is = ap (λ (z : Vertex). z.second.0) e in
        let z1 = x1.meaning a1 A b.0 i.first r.first_arcs first_is in
        let z2 = x2.meaning a2 B b.1 i.second r.second_arcs second_is in
        let u : d1 * d2 ≡ length ps = ap₂ (λ (k n : ℕ). k * n) z1 z2 ∙ sym (length_both xs ys) in
        let v : k1 ≡ length fs
        = o1.0 ∙ ap₂ (λ (t : Bool) (n : ℕ). if t n 0) (t1 A b.0 r.first_states first_is below.0) z2 ∙ sym (length_first A.tapes (final_at ℕ_sum (system A) b.0) ys) in
        let w : k2 ≡ length ss
        = o2.0 ∙ ap₂ (λ (t : Bool) (n : ℕ). if t n 0) (t2 B b.1 r.second_states second_is below.1) z1 ∙ sym (length_second B.tapes (final_at ℕ_sum (system B) b.1) xs) in
        let l = length-append ps (fs ++ ss) in
        let m = length-append fs ss in
        omega (arith, u, v, w, l, m);
  }
