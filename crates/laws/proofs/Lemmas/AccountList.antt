-- The accounts of a table whose arcs all lead to states with higher numbers, listed: every successful path has fewer
-- arcs than there are states.
use mathlib.Core.Path.{◌≡◌, refl, sym, ◌∙◌, ap, subst}
use mathlib.Core.Logic.{◌⊎◌, inl, inr}
use mathlib.Core.Bool.{true}
use mathlib.Core.Option.{Option, none, some}
use mathlib.Core.List.Memᴰ
use mathlib.Core.List.{List, [], ◌∷◌, ◌++◌, map}
use Prim.Native.Nat.{ℕ, zero, suc, ◌+◌, ◌≤◌, ◌<◌}
use native.Mathlib.Omega.{arith}
use native.Mathlib.Nat.{add_assoc}
use lib.Dec.{T, eqb, eqb→eq, eqb_refl, ltb}
use lib.ListN.{length, get_elem?}
use Rattle.automata.specs.Lists.{here, ◌∈◌, Distinct, filter, concat, numbered, all, bind}
use Rattle.automata.specs.OrderedSum.{ℕ_sum}
use Rattle.automata.specs.Graph.{Walk, stop, step}
use Rattle.automata.specs.Automaton.{Automaton, Arc, State, Tuple, content, graph, size, initial_of, final_of}
use Rattle.automata.specs.Tapes.{empty_tuple, spell}
use Rattle.automata.specs.Paths.{SuccessfulPath, tuple_of, sum}
use Rattle.laws.specs.Accounts.{Account, account_of, HasAccounts}
use Rattle.automata.proofs.ListFacts
use Rattle.automata.proofs.TestFacts

-- what is left of a path: its run, what it spells and what it weighs
record Rest : Type 0 where
  run : List ℕ
  spells : Tuple
  weighs : ℕ

-- an arc before it
abbrev before : ℕ × Arc ℕ → Rest → Rest
before e r = record { run = e.0 ∷ r.run; spells = spell e.1.labels r.spells; weighs = e.1.weight + r.weighs }

-- an initial weight before it
abbrev from : ℕ → ℕ → Rest → Account
from q i r = record { path = record { start = q; run = r.run }; spells = r.spells; weighs = i + r.weighs }

module _ (A : Automaton ℕ) where
  -- the end of a path
  abbrev ending : Option ℕ → List Rest
  ending none = []
  ending (some f) = record { run = []; spells = empty_tuple A.tapes; weighs = 0 + f } ∷ []

  -- the arcs of a state
  abbrev arcs_from : ℕ → List (ℕ × Arc ℕ)
  arcs_from q = filter (λ e. eqb e.1.source q) (numbered zero A.arcs)

  -- what is left from a state on, by at most n arcs
  abbrev rests : ℕ → ℕ → List Rest
  rests zero q = ending (final_of A q)
  rests (suc n) q = ending (final_of A q) ++ concat (map (λ e. map (before e) (rests n e.1.target)) (arcs_from q))

  -- the accounts that start at a state
  abbrev starting : ℕ → ℕ × State ℕ → List Account
  starting n s = elim s.1.initial [ none ↦ [] | some i ↦ map (from s.0 i) (rests n s.0) ]

  -- all accounts of at most n arcs
  abbrev pub accounts_up_to : ℕ → List Account
  accounts_up_to n = concat (map (starting n) (numbered zero A.states))

  -- ---- every path of so many arcs is listed

  rest_of : List ℕ → List (Arc ℕ) → ℕ → Rest
  rest_of r es f = record { run = r; spells = tuple_of A.tapes (map content es); weighs = sum ℕ_sum (map content es) + f }

  ended : (p f : ℕ) → final_of A p ≡ some f → rest_of [] [] f ∈ ending (final_of A p)
  unfolding rest_of
  ended p f e = subst (λ o. rest_of [] [] f ∈ ending o) (sym e) (here refl)

  one_before : (e : ℕ) (a : Arc ℕ) (r : List ℕ) (es : List (Arc ℕ)) (f : ℕ) → before (e, a) (rest_of r es f) ≡ rest_of (e ∷ r) (a ∷ es) f
  unfolding rest_of
  one_before e a r es f = λ i. record {
    run = e ∷ r;
    spells = spell a.labels (tuple_of A.tapes (map content es));
    weighs = sym (add_assoc a.weight (sum ℕ_sum (map content es)) f) i;
  }

  listed : (n : ℕ) {q p : ℕ} {r : List ℕ} {es : List (Arc ℕ)} (f : ℕ) → Walk (graph A) q r es p → final_of A p ≡ some f → length r ≤ n → rest_of r es f ∈ rests n q
  listed zero {q} f stop e h = ended q f e
  listed (suc n) {q} f stop e h = Memᴰ.append_left _ (ended q f e)
  listed zero f (step at s w) e h = absurd (omega arith)
  listed (suc n) {q} {p} {r = k ∷ r} {es = a ∷ es} f (step at s w) e h =
      let m : (k, a) ∈ numbered zero A.arcs = let z : zero + k ≡ k = omega arith in subst (λ j. (j, a) ∈ numbered zero A.arcs) z (ListFacts.numbered_keeps zero A.arcs k at) in
      let t : eqb a.source q ≡ true = ap (λ x. eqb x q) s ∙ TestFacts.T_true (eqb q q) (eqb_refl q) in
      let i : (k, a) ∈ arcs_from q = ListFacts.filter_keeps (λ (e : ℕ × Arc ℕ). eqb e.1.source q) (numbered zero A.arcs) m t in
      let j = listed n f w e (omega arith) in
      Memᴰ.append_right (ending (final_of A q))
      (ListFacts.concat_keeps (map (λ (e : ℕ × Arc ℕ). map (before e) (rests n e.1.target)) (arcs_from q))
      (ListFacts.map_keeps (λ (e : ℕ × Arc ℕ). map (before e) (rests n e.1.target)) (arcs_from q) i)
      (subst (λ x. x ∈ map (before (k, a)) (rests n a.target)) (one_before k a r es f) (ListFacts.map_keeps (before (k, a)) (rests n a.target) j)))

  -- ---- and nothing else

  record Ends (q : ℕ) (x : Rest) : Type 0 where
    es : List (Arc ℕ)
    p : ℕ
    f : ℕ
    walk : Walk (graph A) q x.run es p
    final : final_of A p ≡ some f
    same : rest_of x.run es f ≡ x

  ends_at : (q : ℕ) (o : Option ℕ) → final_of A q ≡ o → (x : Rest) → x ∈ ending o → Ends q x
  unfolding rest_of
  ends_at q none e x x4 = elim x4 [ ]
  ends_at q (some f) e x (Memᴰ.tail x9) = elim x9 [ ]
  ends_at q (some f) e x (here m) = subst (Ends q) (sym m) (record { es = []; p = q; f = f; walk = stop; final = e; same = refl })

  -- an arc before what ends
  ends_before : (q : ℕ) (e : ℕ × Arc ℕ) (r : Rest) → e ∈ arcs_from q → Ends e.1.target r → Ends q (before e r)
  ends_before q e r j d =
      let (m, t) = ListFacts.filter_members (λ (e : ℕ × Arc ℕ). eqb e.1.source q) (numbered zero A.arcs) j in
      let (c, z, at) = ListFacts.numbered_members zero A.arcs m in
      let y : c ≡ e.0 = omega arith in
      record {
        es = e.1 ∷ d.es;
        p = d.p;
        f = d.f;
        walk = step (subst (λ c. get_elem? A.arcs c ≡ some e.1) y at) (eqb→eq e.1.source q (TestFacts.true_T (eqb e.1.source q) t)) d.walk;
        final = d.final;
        same = sym (one_before e.0 e.1 r.run d.es d.f) ∙ ap (before e) d.same;
      }

  sound : (n q : ℕ) (x : Rest) → x ∈ rests n q → Ends q x
  sound zero q x m = ends_at q (final_of A q) refl x m
  sound (suc n) q x m = go (Memᴰ.append_cases (ending (final_of A q)) m) (sound n)
    where
      go : (x ∈ ending (final_of A q)) ⊎ (x ∈ concat (map (λ (e : ℕ × Arc ℕ). map (before e) (rests n e.1.target)) (arcs_from q)))
          → ((q : ℕ) (x : Rest) → x ∈ rests n q → Ends q x) → Ends q x
      go (inl m) rec = ends_at q (final_of A q) refl x m
      go (inr m) rec =
          let (xs, i, k) = ListFacts.concat_members (map (λ (e : ℕ × Arc ℕ). map (before e) (rests n e.1.target)) (arcs_from q)) m in
          let (e, j, q₁) = ListFacts.map_members (λ (e : ℕ × Arc ℕ). map (before e) (rests n e.1.target)) (arcs_from q) i in
          let (r, l, q₂) = ListFacts.map_members (before e) (rests n e.1.target) (subst (λ xs. x ∈ xs) q₁ k) in
          subst (Ends q) (sym q₂) (ends_before q e r j (rec e.1.target r l))

  -- ---- from the start

  starts_with : (n q i : ℕ) (s : State ℕ) → get_elem? A.states q ≡ some s → s.initial ≡ some i → (x : Rest) → x ∈ rests n q → from q i x ∈ accounts_up_to n
  starts_with n q i s at e x m =
      let z : zero + q ≡ q = omega arith in
      let k : (q, s) ∈ numbered zero A.states = subst (λ j. (j, s) ∈ numbered zero A.states) z (ListFacts.numbered_keeps zero A.states q at) in
      ListFacts.concat_keeps (map (starting n) (numbered zero A.states)) (ListFacts.map_keeps (starting n) (numbered zero A.states) k)
      (subst (λ o. from q i x ∈ elim o [ none ↦ [] | some i ↦ map (from q i) (rests n q) ]) (sym e) (ListFacts.map_keeps (from q i) (rests n q) m))

  -- arcs that all lead to states with higher numbers
  upwards : T (all (λ (a : Arc ℕ). ltb a.source a.target) A.arcs) → {q p : ℕ} {r : List ℕ} {es : List (Arc ℕ)} → Walk (graph A) q r es p → q + length r ≤ p
  upwards t stop = omega arith
  upwards t (step {a = a} at s w) =
      let up : a.source < a.target = TestFacts.ltb_true (TestFacts.T_true (ltb a.source a.target) (TestFacts.all_∈ (λ (a : Arc ℕ). ltb a.source a.target) A.arcs a t (ListFacts.placed A.arcs _ at))) in
      let rest = upwards t w in
      omega arith

  -- every account is listed, by as many arcs as there are states
  every-listed : T (all (λ (a : Arc ℕ). ltb a.source a.target) A.arcs) → (π : SuccessfulPath A) → account_of π ∈ accounts_up_to (size A)
  unfolding rest_of
  every-listed t π =
      let s = π.successful in
      let (st, at, e) = ListFacts.bind_some (get_elem? A.states π.start) (λ s. s.initial) s.starts in
      let (_, at', _) = ListFacts.bind_some (get_elem? A.states s.end) (λ s. s.final) s.ends in
      let few = ListFacts.place_bound A.states s.end at' in
      let up = upwards t s.walk in
      starts_with (size A) π.start π.initial st at e (rest_of π.run π.arcs π.final) (listed (size A) π.final s.walk s.ends (omega arith))

  by_rest : (n q i : ℕ) (x : Account) → initial_of A q ≡ some i → x ∈ map (from q i) (rests n q) → (π : SuccessfulPath A) × (account_of π ≡ x)
  unfolding rest_of
  by_rest n q i x e m =
      let (r, k, z) = ListFacts.map_members (from q i) (rests n q) m in
      let d = sound n q r k in (
        record { start = q; run = r.run; arcs = d.es; initial = i; final = d.f; successful = record { end = d.p; starts = e; walk = d.walk; ends = d.final } },
        ap (from q i) d.same ∙ sym z,
      )

  -- and what is listed is an account
  listed_real : (n : ℕ) (x : Account) → x ∈ accounts_up_to n → (π : SuccessfulPath A) × (account_of π ≡ x)
  listed_real n x m =
      let (xs, i, k) = ListFacts.concat_members (map (starting n) (numbered zero A.states)) m in
      let (s, j, q) = ListFacts.map_members (starting n) (numbered zero A.states) i in
      let (c, z, at) = ListFacts.numbered_members zero A.states j in
      let y : c ≡ s.0 = omega arith in
      go s.0 s.1 (subst (λ c. get_elem? A.states c ≡ some s.1) y at) s.1.initial refl (subst (λ xs. x ∈ xs) q k)
    where
      go : (q : ℕ) (s : State ℕ) → get_elem? A.states q ≡ some s → (o : Option ℕ) → s.initial ≡ o
          → x ∈ elim o [ none ↦ [] | some i ↦ map (from q i) (rests n q) ] → (π : SuccessfulPath A) × (account_of π ≡ x)
      go q s at none e m = elim m [ ]
      go q s at (some i) e m = by_rest n q i x (ap (λ (o : Option (State ℕ)). bind o (λ s. s.initial)) at ∙ e) m

  -- the accounts of such a table, where the listed paths are distinct
  pub has_accounts : T (all (λ (a : Arc ℕ). ltb a.source a.target) A.arcs) → (xs : List Account) → accounts_up_to (size A) ≡ xs
      → Distinct (map (λ (x : Account). x.path) xs) → HasAccounts A xs
  has_accounts t xs e d = record {
    every = λ π. subst (λ xs. account_of π ∈ xs) e (every-listed t π);
    real = λ x m. listed_real (size A) x (subst (λ xs. x ∈ xs) (sym e) m);
    once = d;
  }
