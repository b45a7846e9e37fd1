-- The whole path behind a weight: its start, and that it is the first of the successful paths of the least weight.
use mathlib.Core.Path.{◌≡◌, refl, sym, ap, ap₂, subst, ◌∙◌}
use mathlib.Core.Logic.{◌⊎◌, inl, inr}
use mathlib.Core.Option.{Option, none, some, map, some-injective}
use mathlib.Core.List.{List}
use Prim.Native.Nat.{ℕ, ◌+◌, ◌≤◌, ◌<◌}
use native.Mathlib.Decide.{dec_lt}
use native.Mathlib.Nat.{zero-add}
use native.Mathlib.Omega.{arith}
use lib.Dec.{T, T_not, leb→le}
use lib.ListN.{length}
use Rattle.automata.specs.OrderedSum.{OrderedSum, ℕ_sum, ≼_refl, ⊕_mono_right}
use Rattle.automata.specs.Lexicographic.{lex_cases, lex_first}
use Rattle.automata.specs.Least.{plus, Least}
use Rattle.automata.specs.Graph.{Within}
use Rattle.automata.specs.Automaton.{Tuple, Automaton, graph, size, initial_of}
use Rattle.automata.specs.Paths.{Trace}
use Rattle.automata.specs.TraceOrder.{Before}
use Rattle.automata.specs.Lookup.{lookup, arcs_enough}
use Rattle.automata.specs.LeastPath.{counting, at_most, least_onward, from_start, follow, lowest_start, still, counted, Account, path_from, least_path}
use Rattle.automata.proofs.ListFacts.{none_not_some, map_some}
use Rattle.automata.proofs.AutomatonFacts.{initial_of_lt}
use Rattle.automata.proofs.LeastFacts.{least_iff}
use Rattle.automata.proofs.LookupRuns.{Attains, onward, onward-sum, onward_of}
use Rattle.automata.proofs.LookupFacts.{lookup_attains}
use Rattle.automata.proofs.FirstFacts.{Lowest, first_below_finds}
use Rattle.automata.proofs.CountedFacts.{size-counted, initial_counted, within-counted, Run, onward_run, run_onward}
use Rattle.automata.proofs.LeastPathFacts.{⊕_injective, at_most_below, held_below, T_at_most, same_parts, cells_least, cell_count, First, follow-first}

module _ (S : OrderedSum) (A : Automaton S.W) (within : Within (graph A) (size A)) (t : Tuple) where
  open S use {W, ◌⊕◌, leq}

  infixl 65 ◌⊕◌
  abbrev L : OrderedSum
  L = counting S

  abbrev C : Automaton (W × ℕ)
  C = counted A

  -- the run r from q is a successful path that spells t at weight w
  pub record Starts (q : ℕ) (r : List ℕ) (w : W) : Type 0 where
    pub initial : W
    pub starts : initial_of A q ≡ some initial
    pub onwards : W
    pub run : Run S A q t r onwards
    pub sum : w ≡ initial ⊕ onwards

  -- some path has this weight and this number of arcs
  abbrev AnyPath : W × ℕ → Type 0
  AnyPath u = (q : ℕ) × (r : List ℕ) × Starts q r u.0 × (length r ≡ u.1)

  attains_path : (u : W × ℕ) → Attains L C t u → AnyPath u
  attains_path u p =
      let (i, si, gi) = map_some (λ w. (w, 0)) (initial_of A p.start) (sym (initial_counted A p.start) ∙ p.starts) in
      let (r, o, len) = onward_run S A (length p.arcs) p.start t (onward L C p.arcs p.final)
      (onward_of L C (length p.arcs) t p.leads.1 p.ends p.spells (omega arith)) in
      let same : u ≡ L.◌⊕◌ (i, 0) (onward L C p.arcs p.final)
      = p.weight ∙ ap₂ L.◌⊕◌ gi (sym (onward-sum L C p.arcs p.final)) in
      let count : u.1 ≡ 0 + (onward L C p.arcs p.final).1 = ap (λ (z : W × ℕ). z.1) same in (
        p.start,
        r,
        record { initial = i; starts = si; onwards = (onward L C p.arcs p.final).0; run = o; sum = ap (λ (z : W × ℕ). z.0) same },
        omega (arith, len, count),
      )

  path_attains : (u : W × ℕ) → AnyPath u → Attains L C t u
  path_attains u (q, r, s, len) =
      let o = run_onward S A q t r s.onwards s.run in
      let si : initial_of C q ≡ some (s.initial, 0) = initial_counted A q ∙ ap still s.starts in
      let same : u ≡ L.◌⊕◌ (s.initial, 0) (s.onwards, length r)
      = ap₂ (λ (x : W) (k : ℕ). (x, k)) s.sum (let k : u.1 ≡ 0 + length r = omega arith in k) in
      record {
        start = q;
        arcs = o.arcs;
        end = o.end;
        initial = (s.initial, 0);
        final = o.final;
        leads = o.leads;
        starts = si;
        ends = o.ends;
        spells = o.spells;
        weight = same ∙ ap (L.◌⊕◌ (s.initial, 0)) (o.weight ∙ onward-sum L C o.arcs o.final);
      }

  -- a lookup on counted weights gives the least weight and the fewest arcs of a path of that weight
  counted-lookup : Least L AnyPath (lookup L C t)
  counted-lookup = least_iff L (λ u. (attains_path u, path_attains u)) (lookup_attains L C (within-counted A within) t)

  -- what a start gives
  from_start_lem : (q : ℕ) (o : Option (W × ℕ)) → initial_of C q ≡ o → (x : W × ℕ) → from_start L C t q ≡ some x
      → (i : W) × (initial_of A q ≡ some i) × (u : W × ℕ) × (least_onward L C q t ≡ some u) × (x ≡ (i ⊕ u.0, u.1))
  from_start_lem q none e x k = none_not_some (ap {B = Option (W × ℕ)} (λ o. elim o [ none ↦ none | some i ↦ plus L i (least_onward L C q t) ]) e) k
  from_start_lem q (some j) e x k =
      let (i, si, gi) = map_some (λ w. (w, 0)) (initial_of A q) (sym (initial_counted A q) ∙ e) in
      go i si gi (least_onward L C q t) refl (sym (ap {B = Option (W × ℕ)} (λ o. elim o [ none ↦ none | some i ↦ plus L i (least_onward L C q t) ]) e) ∙ k)
    where
      go : (i : W) → initial_of A q ≡ some i → j ≡ (i, 0) → (o : Option (W × ℕ)) → least_onward L C q t ≡ o → plus L j o ≡ some x
          → (i : W) × (initial_of A q ≡ some i) × (u : W × ℕ) × (least_onward L C q t ≡ some u) × (x ≡ (i ⊕ u.0, u.1))
      go i si gi none c k = none_not_some refl k
      go i si gi (some u) c k =
          (i, si, u, c, sym (some-injective (L.◌⊕◌ j u) x k) ∙ ap (λ z. L.◌⊕◌ z u) gi ∙ ap (λ (k : ℕ). (i ⊕ u.0, k)) (zero-add u.1))

  start-from : (q : ℕ) (i : W) (u : W × ℕ) → initial_of A q ≡ some i → least_onward L C q t ≡ some u → from_start L C t q ≡ some (i ⊕ u.0, u.1)
  start-from q i u si c =
      ap {B = Option (W × ℕ)} (λ o. elim o [ none ↦ none | some i ↦ plus L i (least_onward L C q t) ]) (initial_counted A q ∙ ap still si)
      ∙ ap (plus L (i, 0)) c ∙ ap {B = Option (W × ℕ)} (λ (k : ℕ). some (i ⊕ u.0, k)) (zero-add u.1)

  abbrev starts_least : ℕ → Type 0
  starts_least q = T (at_most L (from_start L C t q) (lookup L C t))

  -- a state where a path of the least weight and fewest arcs starts passes the test
  start_passes : (q : ℕ) (r : List ℕ) (w : W) (n : ℕ) → lookup L C t ≡ some (w, n) → Starts q r w → length r ≡ n → starts_least q
  start_passes q r w n e s len =
      let lt : q < size A = initial_of_lt A q s.initial s.starts in
      let (u, c, le) = (cells_least S A within q t lt).bound (s.onwards, n) (r, s.run, len) in
      let same : ◌≡◌ {A = W × ℕ} (L.◌⊕◌ (s.initial, 0) (s.onwards, n)) (w, n) = ap₂ (λ (x : W) (k : ℕ). (x, k)) (sym s.sum) (zero-add n) in
      let same' : L.◌⊕◌ (s.initial, 0) u ≡ (s.initial ⊕ u.0, u.1) = ap (λ (k : ℕ). (s.initial ⊕ u.0, k)) (zero-add u.1) in
      T_at_most L (start-from q s.initial u s.starts c) e
      (subst (λ z. T (L.leq z (w, n))) same'
      (subst (λ z. T (L.leq (L.◌⊕◌ (s.initial, 0) u) z)) same (⊕_mono_right L (s.initial, 0) u (s.onwards, n) le)))

  -- a state that passes has there the rest of the least weight and all the arcs
  record StartsAt (w : W) (n q : ℕ) : Type 0 where
    initial : W
    starts : initial_of A q ≡ some initial
    onwards : W
    holds : least_onward L C q t ≡ some (onwards, n)
    sum : w ≡ initial ⊕ onwards

  start-passed : (w : W) (n q : ℕ) → lookup L C t ≡ some (w, n) → starts_least q → StartsAt w n q
  start-passed w n q e p =
      let (x, fx, le) = at_most_below L (from_start L C t q) (lookup L C t) (w, n) e p in
      let (i, si, u, c, sx) = from_start_lem q (initial_of C q) refl x fx in
      let lt : q < size A = initial_of_lt A q i si in
      let (r, o, len) = (cells_least S A within q t lt).holds u c in
      let path : Starts q r (i ⊕ u.0) = record { initial = i; starts = si; onwards = u.0; run = o; sum = refl } in
      let above : T (L.leq (w, n) (i ⊕ u.0, u.1)) = held_below L (lookup L C t) counted-lookup (w, n) (i ⊕ u.0, u.1) e (q, r, path, len) in
      let (a, b) = same_parts S A within (i ⊕ u.0, u.1) (w, n) (subst (λ v. T (L.leq v (w, n))) sx le) above in record {
        initial = i;
        starts = si;
        onwards = u.0;
        holds = c ∙ ap {B = Option (W × ℕ)} (λ (k : ℕ). some (u.0, k)) b;
        sum = sym a;
      }

  -- π is a path of weight w, the first of the least ones
  pub record Behind (w : W) (π : Trace) : Type 0 where
    pub path : Starts π.start π.run w
    pub least : (q : ℕ) (r : List ℕ) (v : W) → Starts q r v → T (leq w v)
    pub short : length π.run ≤ arcs_enough S A t
    pub first : (q : ℕ) (r : List ℕ) → Starts q r w → (π ≡ record { start = q; run = r }) ⊎ Before π (record { start = q; run = r })

  behind : (w : W) (n : ℕ) → lookup L C t ≡ some (w, n) → (q : ℕ) → Lowest (λ q. at_most L (from_start L C t q) (lookup L C t)) (size C) q
      → Behind w (path_from S A t n q)
  behind w n e q low = record {
    path = record { initial = at.initial; starts = at.starts; onwards = at.onwards; run = found.run; sum = at.sum };
    least = λ q r v s. lex_first S ℕ_sum (w, n) (v, length r) (below q r v s);
    short = omega (arith, found.count, cell_count S A within q t at.onwards n at.holds);
    first = λ p r s. fewer p r s (dec_lt n (length r));
  }
    where
      at : StartsAt w n q
      at = start-passed w n q e low.passes

      found : First S A within q t at.onwards n (follow L C n q t)
      found = follow-first S A within n q t at.onwards (initial_of_lt A q at.initial at.starts) at.holds

      below : (p : ℕ) (r : List ℕ) (v : W) → Starts p r v → T (L.leq (w, n) (v, length r))
      below p r v s = held_below L (lookup L C t) counted-lookup (w, n) (v, length r) e (p, r, s, refl)

      few : (p : ℕ) (r : List ℕ) → Starts p r w → n ≤ length r
      few p r s = elim (lex_cases S ℕ_sum (w, n) (w, length r) (below p r w s)) [
        | inl h ↦ absurd (T_not (leq w w) h (≼_refl S w))
        | inr (same, h) ↦ leb→le n (length r) h
      ]

      Compared : ℕ → List ℕ → Type 0
      Compared p r = (path_from S A t n q ≡ record { start = p; run = r }) ⊎ Before (path_from S A t n q) (record { start = p; run = r })

      -- the same start: the first run decides
      same_start : (p : ℕ) (r : List ℕ) (s : Starts p r w) → length r ≡ n → q ≡ p → Compared p r
      same_start p r s len e =
          let i : s.initial ≡ at.initial = some-injective s.initial at.initial (sym s.starts ∙ ap (initial_of A) (sym e) ∙ at.starts) in
          let o : s.onwards ≡ at.onwards = ⊕_injective S at.initial s.onwards at.onwards (ap (λ z. z ⊕ s.onwards) (sym i) ∙ sym s.sum ∙ at.sum) in
          let run : Run S A q t r at.onwards = subst (λ z. Run S A q t r z) o (subst (λ z. Run S A z t r s.onwards) (sym e) s.run) in
          elim (found.first r run len) [
            | inl k ↦ inl (λ j. record { start = e j; run = k j })
            | inr k ↦ inr (inr (found.count ∙ sym len, inr (e, k)))
          ]

      lower : (p : ℕ) (r : List ℕ) (s : Starts p r w) → length r ≡ n → Dec (q < p) → Compared p r
      lower p r s len (yes l) = inr (inr (found.count ∙ sym len, inl l))
      lower p r s len (no l) =
          let h = low.lowest p (let b : p < size A = initial_of_lt A p s.initial s.starts in omega (arith, b, size-counted A)) (start_passes p r w n e s len) in
          same_start p r s len (omega arith)

      fewer : (p : ℕ) (r : List ℕ) (s : Starts p r w) → Dec (n < length r) → Compared p r
      fewer p r s (yes l) = inr (inl (omega (arith, found.count, l)))
      fewer p r s (no l) = lower p r s (omega (arith, few p r s)) (dec_lt q p)

  -- the definition gives the first of the least paths, or none where no path spells t
  pub least_path-cases : ((x : Account W) × (least_path S A t ≡ some x) × Behind x.weight x.path)
      ⊎ ((least_path S A t ≡ none) × ((q : ℕ) (r : List ℕ) (w : W) → Starts q r w → ⊥))
  unfolding least_path
  least_path-cases = go (lookup L C t) refl
    where
      told : W × ℕ → Option ℕ → Option (Account W)
      told u o = map (λ q. record { weight = u.0; path = path_from S A t u.1 q }) o

      answer : Option (W × ℕ) → Option (Account W)
      answer o = elim o [ none ↦ none | some u ↦ told u (lowest_start L C t) ]

      go : (o : Option (W × ℕ)) → lookup L C t ≡ o
          → ((x : Account W) × (answer o ≡ some x) × Behind x.weight x.path)
          ⊎ ((answer o ≡ none) × ((q : ℕ) (r : List ℕ) (w : W) → Starts q r w → ⊥))
      go none e = inr (refl, λ q r w s. let (v, f, h) = counted-lookup.bound (w, length r) (q, r, s, refl) in none_not_some e f)
      go (some u) e =
          let (q, r, s, len) = counted-lookup.holds u e in
          let lt : q < size A = initial_of_lt A q s.initial s.starts in
          let (p, low) = first_below_finds (λ q. at_most L (from_start L C t q) (lookup L C t)) (size C) q (omega (arith, size-counted A))
          (start_passes q r u.0 u.1 e s len) in
          inl (record { weight = u.0; path = path_from S A t u.1 p }, ap (told u) low.found, behind u.0 u.1 e p low)
