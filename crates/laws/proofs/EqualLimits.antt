-- Request 2.4 of document 02: equal limits give what document 01's calls with that one limit give, and raising any one
-- limit does not alter a table already given; on automata and on bytes.
use mathlib.Core.Path.{◌≡◌, refl, sym, ◌∙◌, ap, subst}
use mathlib.Core.Logic.{◌⊎◌, inl, inr}
use mathlib.Core.Bool.{Bool, true}
use mathlib.Core.List.{List, [], ◌∷◌, ◌++◌}
use Prim.Native.Nat.{ℕ, ◌+◌, ◌≤◌}
use native.Mathlib.Omega.{arith}
use lib.Dec.{T, leb, leb→le}
use lib.ListN.{length, length-map}
use Rattle.automata.specs.Refusal
use Rattle.automata.specs.Lists.{here, there, ◌∈◌, and, all}
use Rattle.automata.specs.Answer.{◌>>=◌, ok, judge}
use Rattle.automata.specs.Space.{Space}
use Rattle.automata.specs.OrderedSum.{OrderedSum, ℕ_sum}
use Rattle.automata.specs.Automaton.{Automaton, size}
use Rattle.automata.specs.Table.{weight_fits}
use Rattle.automata.specs.TapePair.{Pair, TapePair, tapes_of, behind, limits_fit, Wider}
use Rattle.automata.specs.Tapes.{seconds, moved}
use Rattle.automata.specs.IntersectCall.{distinct, named, intersect_on, intersect_call}
use Rattle.automata.specs.Product.{cross_product}
use Rattle.automata.specs.Projection.{is_tape, without}
use Rattle.automata.specs.Join.{within, separate, Lent, join}
use Rattle.automata.specs.Memory.{Memory, decode_table}
use Rattle.automata.specs.Calls.Outcome.{Slices, space_of, build, conclude}
use Rattle.automata.specs.Calls.Work.{build_work, enough}
use Rattle.automata.specs.Calls.Intersect.{intersect_answer, intersect_outcome}
use Rattle.automata.specs.Calls.Join.{lent_to, join_answer, join_outcome}
use Rattle.laws.specs.GivenAgain.{WiderSpace, NoLower}
use Rattle.laws.specs.EqualLimits.{limited, raised, intersect_one_limit, join_one_limit, intersect_one_limit_outcome, join_one_limit_outcome, EqualLimits, EqualLimitCalls}
use Rattle.automata.proofs.AnswerFacts.{bind_pass, bind_ok, judge-ok}
use Rattle.automata.proofs.TestFacts.{all_∈}
use Rattle.automata.proofs.PairFacts.{tapes_behind}
use Rattle.automata.proofs.CallFacts.{put_gave}
use Rattle.laws.proofs.GivenAgain.{calls_again}
use Rattle.laws.proofs.Results.{memory_formed}
use Rattle.laws.proofs.Lemmas.Tests.{asks_leb}
use Rattle.laws.proofs.Lemmas.CallTables.{intersect_parts, join_parts}

-- ---- equal limits

-- their tapes
tapes_limited : (D : ℕ) (ps : List Pair) → tapes_of (limited D ps) ≡ ps
tapes_limited D [] = refl
tapes_limited D (p ∷ ps) = ap {B = List Pair} (λ z. p ∷ z) (tapes_limited D ps)

-- behind the tapes of the first table
behind-limited : (D n : ℕ) (ps : List Pair) → behind n (limited D ps) ≡ limited D (moved (λ j. n + j) ps)
behind-limited D n [] = refl
behind-limited D n (p ∷ ps) = ap {B = List TapePair} (λ z. record { first = p.first; second = n + p.second; limit = D } ∷ z) (behind-limited D n ps)

-- where D is in range, so are all of them
fit_limited : (D : ℕ) → leb D 64 ≡ true → (ps : List Pair) → limits_fit (limited D ps) ≡ leb D 64
fit_limited D h [] = sym h
fit_limited D h (p ∷ ps) = ap (λ b. and b (limits_fit (limited D ps))) h ∙ fit_limited D h ps

-- the call with equal limits
module _ {W : Type 0} (D : ℕ) (enough : Bool) (space : Space) (ps : List Pair) (A : Automaton W) where
  intersect_equal : D ≤ 64 → intersect_call enough space (limited D ps) A ≡ intersect_one_limit D enough space ps A
  unfolding intersect_call intersect_on
  intersect_equal h =
      let tapes = tapes_limited D ps in
      let many : length (limited D ps) ≡ length ps = length-map ps _ in
      let fit = fit_limited D ((asks_leb D 64).1 h) ps in
      let answer = intersect_on space (limited D ps) A in
      λ i. judge (all (is_tape A.tapes) (named (tapes i))) Refusal.tape
      (judge (and (leb (many i) 4) (distinct (named (tapes i)))) Refusal.pairs
      (judge (fit i) Refusal.limit (judge enough Refusal.space answer)))

  -- with one limit: a table is given only where it is in range
  intersect_low : (R : Automaton W) → intersect_one_limit D enough space ps A ≡ ok R → D ≤ 64
  intersect_low R e =
      let (_, e₁) = judge-ok (all (is_tape A.tapes) (named ps)) _ _ R e in
      let (_, e₂) = judge-ok (and (leb (length ps) 4) (distinct (named ps))) _ _ R e₁ in
      leb→le D 64 (judge-ok (leb D 64) _ _ R e₂).0

-- the join with equal limits
module _ (S : OrderedSum) (fits : S.W → Bool) (D : ℕ) (lent : Lent) (ps : List Pair) (A B : Automaton S.W) where
  join_equal : D ≤ 64 → join S fits lent (limited D ps) A B ≡ join_one_limit S fits D lent ps A B
  unfolding join intersect_on
  join_equal h =
      let tapes = tapes_limited D ps in
      let fit = fit_limited D ((asks_leb D 64).1 h) ps in
      let records = behind-limited D A.tapes ps in
      let kept : tapes_of (behind A.tapes (limited D ps)) ≡ moved (λ j. A.tapes + j) ps =
      tapes_behind A.tapes (limited D ps) ∙ ap (moved (λ j. A.tapes + j)) tapes in
      λ i. judge (leb (A.tapes + B.tapes) 8) Refusal.width
      (judge (within A.tapes B.tapes (tapes i)) Refusal.tape
      (judge (separate (tapes i)) Refusal.pairs
      (judge (fit i) Refusal.limit
      (judge lent.enough Refusal.space
      (cross_product S fits lent.product A B >>= λ P. intersect_on lent.result (records i) P >>= λ K. ok (without (seconds (kept i)) K))))))

  join_low : (J : Automaton S.W) → join_one_limit S fits D lent ps A B ≡ ok J → D ≤ 64
  join_low J e =
      let (_, e₁) = judge-ok (leb (A.tapes + B.tapes) 8) _ _ J e in
      let (_, e₂) = judge-ok (within A.tapes B.tapes ps) _ _ J e₁ in
      let (_, e₃) = judge-ok (separate ps) _ _ J e₂ in
      leb→le D 64 (judge-ok (leb D 64) _ _ J e₃).0

-- ---- one limit raised

module _ (p : TapePair) (l : ℕ) (h : p.limit ≤ l) (qs : List TapePair) where
  wider_refl : (ps : List TapePair) → Wider ps ps
  wider_refl [] = tt
  wider_refl (r ∷ ps) = (refl, refl, omega arith, wider_refl ps)

  wider_raised : (ps : List TapePair) → Wider (ps ++ (p ∷ qs)) (ps ++ (raised p l ∷ qs))
  wider_raised [] = (refl, refl, h, wider_refl qs)
  wider_raised (r ∷ ps) = (refl, refl, omega arith, wider_raised ps)

  -- the other pairs stand in both lists
  raised_∈ : (ps : List TapePair) (r : TapePair) → r ∈ (ps ++ (raised p l ∷ qs)) → (r ≡ raised p l) ⊎ (r ∈ (ps ++ (p ∷ qs)))
  raised_∈ [] r (here e) = inl e
  raised_∈ [] r (there m) = inr (there m)
  raised_∈ (s ∷ ps) r (here e) = inr (here e)
  raised_∈ (s ∷ ps) r (there m) = go (raised_∈ ps r m)
    where
      go : (r ≡ raised p l) ⊎ (r ∈ (ps ++ (p ∷ qs))) → (r ≡ raised p l) ⊎ (r ∈ (s ∷ (ps ++ (p ∷ qs))))
      go (inl e) = inl e
      go (inr m) = inr (there m)

  no_lower : l ≤ 64 → (ps : List TapePair) → T (limits_fit (ps ++ (p ∷ qs))) → NoLower (ps ++ (p ∷ qs)) (ps ++ (raised p l ∷ qs))
  no_lower k ps t = record { wider = wider_raised ps; fit = λ r m. go r (raised_∈ ps r m) }
    where
      go : (r : TapePair) → (r ≡ raised p l) ⊎ (r ∈ (ps ++ (p ∷ qs))) → r.limit ≤ 64
      go r (inl e) = subst (λ (z : TapePair). z.limit ≤ 64) (sym e) k
      go r (inr m) = leb→le r.limit 64 (all_∈ (λ z. leb z.limit 64) (ps ++ (p ∷ qs)) r t m)

-- what a call that gave a table has judged
intersect_judged : {W : Type 0} (enough : Bool) (space : Space) (ps : List TapePair) (A R : Automaton W) → intersect_call enough space ps A ≡ ok R
    → T (limits_fit ps) × T enough
unfolding intersect_call
intersect_judged enough space ps A R e =
    let (_, e₁) = judge-ok (all (is_tape A.tapes) (named (tapes_of ps))) _ _ R e in
    let (_, e₂) = judge-ok (and (leb (length ps) 4) (distinct (named (tapes_of ps)))) _ _ R e₁ in
    let (t, e₃) = judge-ok (limits_fit ps) _ _ R e₂ in
    (t, (judge-ok enough _ _ R e₃).0)

module _ (S : OrderedSum) (fits : S.W → Bool) where
  open S use {W}

  join_judged : (lent : Lent) (ps : List TapePair) (A B J : Automaton W) → join S fits lent ps A B ≡ ok J → T (limits_fit ps) × T lent.enough
  unfolding join
  join_judged lent ps A B J e =
      let (_, e₁) = judge-ok (leb (A.tapes + B.tapes) 8) _ _ J e in
      let (_, e₂) = judge-ok (within A.tapes B.tapes (tapes_of ps)) _ _ J e₁ in
      let (_, e₃) = judge-ok (separate (tapes_of ps)) _ _ J e₂ in
      let (t, e₄) = judge-ok (limits_fit ps) _ _ J e₃ in
      (t, (judge-ok lent.enough _ _ J e₄).0)

  -- no space smaller than itself
  same_space : (space : Space) → WiderSpace space space
  same_space space = record { states = omega arith; arcs = omega arith }

  -- the theorem on automata
  pub equal_limits : EqualLimits S fits
  equal_limits = record {
    equal_intersect = intersect_equal;
    equal_join = join_equal S fits;
    earlier_intersect = λ D enough space ps A R e. intersect_equal D enough space ps A (intersect_low D enough space ps A R e) ∙ e;
    earlier_join = λ D lent ps A B J e. join_equal S fits D lent ps A B (join_low S fits D lent ps A B J e) ∙ e;
    raised_intersect = λ enough space ps qs p l A R fA h k e.
        let (t, enough') = intersect_judged enough space (ps ++ (p ∷ qs)) A R e in
        (calls_again S fits).intersect_call enough enough space space _ _ A R fA (no_lower p l h qs k ps t) enough' (same_space space) e;
    raised_join = λ lent ps qs p l A B J fA fB h k e.
        let (t, enough') = join_judged lent (ps ++ (p ∷ qs)) A B J e in
        (calls_again S fits).join lent lent _ _ A B J fA fB (no_lower p l h qs k ps t)
        (record { enough = enough'; product = same_space lent.product; result = same_space lent.result }) e;
  }

-- ---- on bytes

equal : EqualLimits ℕ_sum weight_fits
equal = equal_limits ℕ_sum weight_fits

-- the theorem on the calls
pub equal_limit_calls : EqualLimitCalls
unfolding intersect_outcome intersect_answer join_outcome join_answer build conclude
equal_limit_calls = record {
  equal_intersect = intersects;
  equal_join = joins;
  earlier_intersect = λ D m ps s work r e.
      let (R, q, _) = put_gave (decode_table m >>= λ A. intersect_one_limit D (enough (build_work (space_of s) (size A)) work) (space_of s) ps A) s r e in
      let (A, _, g) = bind_ok (decode_table m) _ R q in
      intersects D m ps s work (intersect_low D (enough (build_work (space_of s) (size A)) work) (space_of s) ps A R g);
  earlier_join = λ D a b ps p s work r e.
      let lent = lent_to (space_of p) (space_of s) work in
      let (J, q, _) = put_gave (decode_table a >>= λ A. decode_table b >>= λ B. join_one_limit ℕ_sum weight_fits D lent ps A B) s r e in
      let (A, _, g) = bind_ok (decode_table a) _ J q in
      let (B, _, k) = bind_ok (decode_table b) _ J g in
      joins D a b ps p s work (join_low ℕ_sum weight_fits D lent ps A B J k);
  raised_intersect = λ m ps qs p l s work r h k e.
      let (R, q, _) = put_gave (intersect_answer m (ps ++ (p ∷ qs)) (space_of s) work) s r e in
      let (A, d, g) = intersect_parts m (ps ++ (p ∷ qs)) (space_of s) work R q in
      ap (λ a. build a s work) (bind_pass (decode_table m) _ A R d (equal.raised_intersect _ (space_of s) ps qs p l A R (memory_formed m A d) h k g) ∙ sym q);
  raised_join = λ a b ps qs p l product result work r h k e.
      let lent = lent_to (space_of product) (space_of result) work in
      let (J, q, _) = put_gave (join_answer a b (ps ++ (p ∷ qs)) (space_of product) (space_of result) work) result r e in
      let (A, B, d, f, g) = join_parts a b (ps ++ (p ∷ qs)) (space_of product) (space_of result) work J q in
      ap (λ a. conclude a result product work) (bind_pass (decode_table a) _ A J d (bind_pass (decode_table b) _ B J f
      (equal.raised_join lent ps qs p l A B J (memory_formed a A d) (memory_formed b B f) h k g)) ∙ sym q);
}
  where
    intersects : (D : ℕ) (m : Memory) (ps : List Pair) (s : Slices) (work : List ℕ) → D ≤ 64
        → intersect_outcome m (limited D ps) s work ≡ intersect_one_limit_outcome D m ps s work
    intersects D m ps s work h =
        λ i. build (decode_table m >>= λ A. equal.equal_intersect D (enough (build_work (space_of s) (size A)) work) (space_of s) ps A h i) s work

    joins : (D : ℕ) (a b : Memory) (ps : List Pair) (p s : Slices) (work : List ℕ) → D ≤ 64
        → join_outcome a b (limited D ps) p s work ≡ join_one_limit_outcome D a b ps p s work
    joins D a b ps p s work h = λ i. conclude
        (decode_table a >>= λ A. decode_table b >>= λ B. equal.equal_join D (lent_to (space_of p) (space_of s) work) ps A B h i) s p work
