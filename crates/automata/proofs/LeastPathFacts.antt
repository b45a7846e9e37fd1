-- The path behind a weight: what the cells hold beside the weight, and that the lowest arc that keeps both, taken each
-- time, gives the first of the paths of that weight.
use mathlib.Core.Path.{◌≡◌, refl, sym, ap, ap₂, subst, ◌∙◌}
use mathlib.Core.Logic.{◌⊎◌, inl, inr}
use mathlib.Core.Bool.{Bool, true, false}
use mathlib.Core.Option.{Option, none, some, some-injective}
use mathlib.Core.List.{List, [], ◌∷◌}
use Prim.Native.Nat.{ℕ, zero, suc, ◌+◌, ◌*◌, ◌≤◌, ◌<◌}
use native.Mathlib.Decide.{dec_lt}
use native.Mathlib.Nat.{zero-add}
use native.Mathlib.Omega.{arith}
use lib.Dec.{T, eqb}
use lib.ListN.{length, get_elem?}
use borrow.Author.Tests.{eqb-true, eq-eqb}
use Rattle.automata.specs.Lists.{total}
use Rattle.automata.specs.OrderedSum.{OrderedSum, ≼_refl, ⊕_mono_right, ⊕_cancel_right}
use Rattle.automata.specs.Least.{plus, Least}
use Rattle.automata.specs.Graph.{Within}
use Rattle.automata.specs.Automaton.{Tuple, Automaton, Arc, graph, size}
use Rattle.automata.specs.TraceOrder.{RunBefore}
use Rattle.automata.specs.Lookup.{left_quotients, via, arcs_enough}
use Rattle.automata.specs.LeastPath.{counting, at_most, least_onward, begins, rest_after, follow, counted_arc, counted}
use Rattle.automata.proofs.ListFacts.{none_not_some}
use Rattle.automata.proofs.Membership.{place_map, place_map⁻¹}
use Rattle.automata.proofs.LeastFacts.{least_iff}
use Rattle.automata.proofs.LookupRuns.{Onward, best_least}
use Rattle.automata.proofs.LookupFacts.{short-enough}
use Rattle.automata.proofs.FirstFacts.{Found, find_first_finds}
use Rattle.automata.proofs.CountedFacts.{size-counted, within-counted, Run, Runs, onward_run, run_length, run_onward, RunOn, run_on, run_cons}

-- ---- over any ordered sum

module _ (S : OrderedSum) where
  open S use {W, ◌⊕◌, leq, leq_antisym}

  infixl 65 ◌⊕◌
  -- what is added on the left can be taken away
  pub ⊕_injective : (c a b : W) → c ⊕ a ≡ c ⊕ b → a ≡ b
  ⊕_injective c a b e = leq_antisym a b (⊕_cancel_right S a b c (rw e (≼_refl S (c ⊕ b)))) (⊕_cancel_right S b a c (rw e (≼_refl S (c ⊕ b))))

  -- what the test on optional weights says
  at_most_T : (o p : Option W) → T (at_most S o p) → (u v : W) × (o ≡ some u) × (p ≡ some v) × T (leq u v)
  at_most_T none p t = absurd t
  at_most_T (some u) none t = absurd t
  at_most_T (some u) (some v) t = (u, v, refl, refl, t)

  -- the same where the second is known
  pub at_most_below : (o p : Option W) (v : W) → p ≡ some v → T (at_most S o p) → (u : W) × (o ≡ some u) × T (leq u v)
  at_most_below o p v e t = let (u, w, f, g, h) = at_most_T o p t in (u, f, subst (λ z. T (leq u z)) (some-injective w v (sym g ∙ e)) h)

  -- what is least is below everything
  pub held_below : {P : W → Type 0} (o : Option W) → Least S P o → (v w : W) → o ≡ some v → P w → T (leq v w)
  held_below o l v w e p = let (u, f, h) = l.bound w p in subst (λ z. T (leq z w)) (some-injective u v (sym f ∙ e)) h

  pub T_at_most : {o p : Option W} {u v : W} → o ≡ some u → p ≡ some v → T (leq u v) → T (at_most S o p)
  T_at_most e f t = rw (e, f) t

module _ (S : OrderedSum) (A : Automaton S.W) where
  open S use {W, ◌⊕◌, leq_trans}

  infixl 65 ◌⊕◌
  -- a weight through an arc is that of what follows, with the arc's
  via_some : (f : ℕ → Tuple → Option W) (q : ℕ) (rests : Tuple) (a : Arc W) (v : W) → via S A f q rests a ≡ some v
      → (a.source ≡ q) × (rest : Tuple) × (left_quotients a.labels rests ≡ some rest) × (u : W) × (f a.target rest ≡ some u) × (v ≡ a.weight ⊕ u)
  via_some f q rests a v e = go (eqb a.source q) refl (left_quotients a.labels rests) refl e
    where
      after : Bool → Option Tuple → Option W
      after b o = elim b [ false ↦ none | true ↦ elim o [ none ↦ none | some rest ↦ plus S a.weight (f a.target rest) ] ]

      sum : (rest : Tuple) (o : Option W) → f a.target rest ≡ o → plus S a.weight o ≡ some v → (u : W) × (f a.target rest ≡ some u) × (v ≡ a.weight ⊕ u)
      sum rest none e k = none_not_some refl k
      sum rest (some u) e k = (u, e, sym (some-injective (a.weight ⊕ u) v k))

      go : (b : Bool) → eqb a.source q ≡ b → (o : Option Tuple) → left_quotients a.labels rests ≡ o → after b o ≡ some v
          → (a.source ≡ q) × (rest : Tuple) × (left_quotients a.labels rests ≡ some rest) × (u : W) × (f a.target rest ≡ some u) × (v ≡ a.weight ⊕ u)
      go false t o l k = none_not_some refl k
      go true t none l k = none_not_some refl k
      go true t (some rest) l k = let (u, e, h) = sum rest (f a.target rest) refl k in (eqb-true a.source q t, rest, l, u, e, h)

  via_is : (f : ℕ → Tuple → Option W) (q : ℕ) (rests : Tuple) (a : Arc W) (rest : Tuple) (u : W) → a.source ≡ q
      → left_quotients a.labels rests ≡ some rest → f a.target rest ≡ some u → via S A f q rests a ≡ some (a.weight ⊕ u)
  via_is f q rests a rest u from left e = ap₂ after (eq-eqb a.source q from) left ∙ ap (plus S a.weight) e
    where
      after : Bool → Option Tuple → Option W
      after b o = elim b [ false ↦ none | true ↦ elim o [ none ↦ none | some rest ↦ plus S a.weight (f a.target rest) ] ]

  -- `least_onward` is the least weight to the end, over runs of any number of arcs
  pub cell_least : Within (graph A) (size A) → (q : ℕ) (rests : Tuple) → q < size A
      → Least S (λ w. (k : ℕ) × Onward S A k q rests w) (least_onward S A q rests)
  cell_least within q rests lt = record {
    holds = λ w e. (arcs_enough S A rests, (best_least S A (arcs_enough S A rests) q rests).holds w e);
    bound = λ w (k, o).
        let (u, o', h) = short-enough S A within rests (length o.arcs) o.final (omega arith) lt o.leads.1 o.ends o.spells in
        let (v, e, h') = (best_least S A (arcs_enough S A rests) q rests).bound u o' in
        (v, e, leq_trans v u w h' (rw o.weight h));
  }

-- ---- with the number of arcs

no_number : (r : List ℕ) → length r ≡ zero → r ≡ []
no_number [] e = refl
no_number (d ∷ r) e = absurd (omega arith)

some_number : (r : List ℕ) (n : ℕ) → length r ≡ suc n → (d : ℕ) × (s : List ℕ) × (r ≡ d ∷ s) × (length s ≡ n)
some_number [] n e = absurd (omega arith)
some_number (d ∷ s) n e = (d, s, refl, omega arith)

module _ (S : OrderedSum) (A : Automaton S.W) (within : Within (graph A) (size A)) where
  open S use {W, ◌⊕◌, leq, leq_antisym}

  infixl 65 ◌⊕◌
  abbrev L : OrderedSum
  L = counting S

  abbrev C : Automaton (W × ℕ)
  C = counted A

  -- two weights with equal numbers of arcs, each at most the other
  pub same_parts : (x y : W × ℕ) → T (L.leq x y) → T (L.leq y x) → (x.0 ≡ y.0) × (x.1 ≡ y.1)
  same_parts x y h k = let e : x ≡ y = L.leq_antisym x y h k in (ap (λ (z : W × ℕ). z.0) e, ap (λ (z : W × ℕ). z.1) e)

  -- of counted weights it is the least weight to the end and the fewest arcs of a run of that weight
  pub cells_least : (q : ℕ) (rests : Tuple) → q < size A → Least L (Runs S A q rests) (least_onward L C q rests)
  cells_least q rests lt = least_iff L
      (λ u. (
        λ (k, o). onward_run S A k q rests u o,
        λ (r, o, e). (length r, subst (λ n. Onward L C (length r) q rests (u.0, n)) e (run_onward S A q rests r u.0 o)),
      ))
      (cell_least L C (within-counted A within) q rests (omega (arith, size-counted A)))

  -- the run r is the first of those of weight w and n arcs
  pub record First (q : ℕ) (rests : Tuple) (w : W) (n : ℕ) (r : List ℕ) : Type 0 where
    pub run : Run S A q rests r w
    pub count : length r ≡ n
    pub first : (s : List ℕ) → Run S A q rests s w → length s ≡ n → (r ≡ s) ⊎ RunBefore r s

  -- an arc that begins a run of that weight and number of arcs passes the test
  passes : (q : ℕ) (rests : Tuple) (w : W) (n : ℕ) → least_onward L C q rests ≡ some (w, suc n) → (d : ℕ) (s : List ℕ) → length s ≡ n → (x : RunOn S A q rests d s w)
      → T (begins L C q rests (counted_arc x.arc))
  passes q rests w n c d s len x =
      let (v, e, le) = (cells_least x.arc.target x.rest (within d x.arc x.at).1).bound (x.onwards, n) (s, x.tail, len) in
      let same : ◌≡◌ {A = W × ℕ} (L.◌⊕◌ (x.arc.weight, 1) (x.onwards, n)) (w, suc n) = ap₂ (λ (y : W) (k : ℕ). (y, k)) (sym x.sum)
      (let k : 1 + n ≡ suc n = omega arith in k) in
      T_at_most L (via_is L C (least_onward L C) q rests (counted_arc x.arc) x.rest v x.from x.left e) c
      (subst (λ z. T (L.leq (L.◌⊕◌ (x.arc.weight, 1) v) z)) same (⊕_mono_right L (x.arc.weight, 1) v (x.onwards, n) le))

  -- an arc that passes begins a run of that weight and number of arcs
  record Begins (q : ℕ) (rests : Tuple) (w : W) (n : ℕ) (a : Arc W) : Type 0 where
    from : a.source ≡ q
    rest : Tuple
    left : left_quotients a.labels rests ≡ some rest
    onwards : W
    holds : least_onward L C a.target rest ≡ some (onwards, n)
    sum : w ≡ a.weight ⊕ onwards

  passed : (q : ℕ) (rests : Tuple) (w : W) (n : ℕ) → q < size A → least_onward L C q rests ≡ some (w, suc n) → (e : ℕ) (a : Arc W) → get_elem? A.arcs e ≡ some a
      → T (begins L C q rests (counted_arc a)) → Begins q rests w n a
  passed q rests w n lt c e a at t =
      let (x, vx, le) = at_most_below L (via L C (least_onward L C) q rests (counted_arc a)) (least_onward L C q rests) (w, suc n) c t in
      let (from, rest, left, u, hu, sum) = via_some L C (least_onward L C) q rests (counted_arc a) x vx in
      let (r, o, len) = (cells_least a.target rest (within e a at).1).holds u hu in
      let on : Run S A q rests (e ∷ r) (a.weight ⊕ u.0) = run_cons S A
      (record { arc = a; at = at; from = from; rest = rest; left = left; onwards = u.0; tail = o; sum = refl }) in
      let above : T (L.leq (w, suc n) (a.weight ⊕ u.0, suc u.1))
      = held_below L (least_onward L C q rests) (cells_least q rests lt) (w, suc n) (a.weight ⊕ u.0, suc u.1) c (e ∷ r, on, ap suc len) in
      let k : 1 + u.1 ≡ suc u.1 = omega arith in
      let xs : x ≡ (a.weight ⊕ u.0, suc u.1) = sum ∙ ap (λ (k : ℕ). (a.weight ⊕ u.0, k)) k in
      let (p, m) = same_parts (a.weight ⊕ u.0, suc u.1) (w, suc n) (subst (λ v. T (L.leq v (w, suc n))) xs le) above in
      let few : u.1 ≡ n = omega arith in record {
        from = from;
        rest = rest;
        left = left;
        onwards = u.0;
        holds = hu ∙ ap {B = Option (W × ℕ)} (λ (k : ℕ). some (u.0, k)) few;
        sum = sym p;
      }

  -- The number of arcs there is at most the number that is enough: so many positions of a state and of lengths left
  -- there are.
  pub cell_count : (q : ℕ) (rests : Tuple) (w : W) (n : ℕ) → least_onward L C q rests ≡ some (w, n) → n ≤ arcs_enough S A rests
  cell_count q rests w n e =
      let o = (best_least L C (arcs_enough L C rests) q rests).holds (w, n) e in
      let (r, run, len) = onward_run S A (arcs_enough L C rests) q rests (w, n) o in
      let long : length r ≡ length o.arcs = run_length S A (arcs_enough L C rests) q rests (w, n) o in
      let same : arcs_enough L C rests ≡ arcs_enough S A rests = ap (λ k. k * suc (total length rests)) (size-counted A) in
      omega (arith, len, long, o.short, same)

  -- the run that is followed is the first
  pub follow-first : (n q : ℕ) (rests : Tuple) (w : W) → q < size A → least_onward L C q rests ≡ some (w, n) → First q rests w n (follow L C n q rests)
  follow-first zero q rests w lt c =
      let (r, o, len) = (cells_least q rests lt).holds (w, zero) c in record {
        run = subst (λ r. Run S A q rests r w) (no_number r len) o;
        count = refl;
        first = λ s o len. inl (sym (no_number s len));
      }
  follow-first (suc n) q rests w lt c =
      let (r₀, o₀, len₀) = (cells_least q rests lt).holds (w, suc n) c in
      let (d₀, s₀, e₀, len₁) = some_number r₀ n len₀ in
      let x₀ : RunOn S A q rests d₀ s₀ w = run_on S A (subst (λ r. Run S A q rests r w) e₀ o₀) in
      let f : Found (begins L C q rests) zero C.arcs = find_first_finds (begins L C q rests) zero C.arcs d₀ (counted_arc x₀.arc)
      (place_map counted_arc A.arcs d₀ x₀.at) (passes q rests w n c d₀ s₀ len₁ x₀) in
      whole f (λ p rest u l h. follow-first n p rest u l h)
    where
      onwards : Option (ℕ × Arc (W × ℕ)) → List ℕ
      onwards o = elim o [ none ↦ [] | some s ↦ s.0 ∷ follow L C n s.1.target (rest_after L C s.1 rests) ]

      found : (f : Found (begins L C q rests) zero C.arcs) (a : Arc W) → get_elem? A.arcs f.place ≡ some a → counted_arc a ≡ f.element
          → (b : Begins q rests w n a)
          → ((rest : Tuple) (u : W) → least_onward L C a.target rest ≡ some (u, n) → First a.target rest u n (follow L C n a.target rest))
          → First q rests w (suc n) (follow L C (suc n) q rests)
      found f a at same b ih = subst (First q rests w (suc n)) (sym shape) (record {
        run = run_cons S A (record { arc = a; at = at; from = b.from; rest = b.rest; left = b.left; onwards = b.onwards; tail = t.run; sum = b.sum });
        count = ap suc t.count;
        first = λ s o len. compare s o (some_number s n len);
      })
        where
          t : First a.target b.rest b.onwards n (follow L C n a.target b.rest)
          t = ih b.rest b.onwards b.holds

          rest_is : rest_after L C (counted_arc a) rests ≡ b.rest
          rest_is = rw (rest_after, b.left) refl

          shape : follow L C (suc n) q rests ≡ f.place ∷ follow L C n a.target b.rest
          shape = ap onwards (f.found ∙ ap₂ {C = Option (ℕ × Arc (W × ℕ))} (λ (k : ℕ) (z : Arc (W × ℕ)). some (k, z)) (zero-add f.place) (sym same))
              ∙ ap (λ z. f.place ∷ follow L C n a.target z) rest_is

          compare : (s : List ℕ) → Run S A q rests s w → (d : ℕ) × (s' : List ℕ) × (s ≡ d ∷ s') × (length s' ≡ n)
              → (f.place ∷ follow L C n a.target b.rest ≡ s) ⊎ RunBefore (f.place ∷ follow L C n a.target b.rest) s
          compare s o (d, s', e, len) = subst (λ s. (f.place ∷ follow L C n a.target b.rest ≡ s) ⊎ RunBefore (f.place ∷ follow L C n a.target b.rest) s)
              (sym e)
              (decide (run_on S A (subst (λ r. Run S A q rests r w) e o)))
            where
              decide : (x : RunOn S A q rests d s' w)
                  → (f.place ∷ follow L C n a.target b.rest ≡ d ∷ s') ⊎ RunBefore (f.place ∷ follow L C n a.target b.rest) (d ∷ s')
              decide x = go (dec_lt f.place d)
                where
                  low : f.place ≤ d
                  low = f.lowest d (counted_arc x.arc) (place_map counted_arc A.arcs d x.at) (passes q rests w n c d s' len x)

                  tail : f.place ≡ d → Run S A a.target b.rest s' b.onwards
                  tail p =
                      let ea : x.arc ≡ a = some-injective x.arc a (sym x.at ∙ ap (get_elem? A.arcs) (sym p) ∙ at) in
                      let el : x.rest ≡ b.rest = some-injective x.rest b.rest
                      (sym x.left ∙ ap (λ (z : Arc W). left_quotients z.labels rests) ea ∙ b.left) in
                      let eo : x.onwards ≡ b.onwards = ⊕_injective S a.weight x.onwards b.onwards
                      (ap (λ (z : Arc W). z.weight ⊕ x.onwards) (sym ea) ∙ sym x.sum ∙ b.sum) in
                      subst (λ u. Run S A a.target b.rest s' u) eo
                      (subst (λ u. Run S A a.target u s' x.onwards) el (subst (λ (z : Arc W). Run S A z.target x.rest s' x.onwards) ea x.tail))

                  go : Dec (f.place < d) → (f.place ∷ follow L C n a.target b.rest ≡ d ∷ s')
                      ⊎ RunBefore (f.place ∷ follow L C n a.target b.rest) (d ∷ s')
                  go (yes l) = inr (inl l)
                  go (no l) =
                      let p : f.place ≡ d = omega (arith, low) in
                      elim (t.first s' (tail p) len) [ inl q ↦ inl (ap₂ (λ z zs. z ∷ zs) p q) | inr q ↦ inr (inr (p, q)) ]

      whole : Found (begins L C q rests) zero C.arcs
          → ((p : ℕ) (rest : Tuple) (u : W) → p < size A → least_onward L C p rest ≡ some (u, n) → First p rest u n (follow L C n p rest))
          → First q rests w (suc n) (follow L C (suc n) q rests)
      whole f ih =
          let (a, at, same) = place_map⁻¹ {b = f.element} counted_arc A.arcs f.place f.stands in
          let t : T (begins L C q rests (counted_arc a)) = subst (λ z. T (begins L C q rests z)) (sym same) f.passes in
          found f a at same (passed q rests w n lt c f.place a at t) (λ rest u h. ih a.target rest u (within f.place a at).1 h)
