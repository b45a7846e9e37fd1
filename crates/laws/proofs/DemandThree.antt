-- Demand 3 as one theorem: for every comparison of lists of calls, none of them refused, what is said of them holds.
use mathlib.Core.Path.{◌≡◌, refl, sym, ◌∙◌, ap, subst}
use mathlib.Core.Logic.Iff
use mathlib.Core.Logic.{◌↔◌, ◌⊎◌}
use mathlib.Core.List.{List}
use Prim.Native.Nat.{ℕ, ◌+◌}
use lib.ListN.{length}
use lib.Dec.{T}
use Rattle.automata.specs.Answer.{ok}
use Rattle.automata.specs.OrderedSum.{ℕ_sum}
use Rattle.automata.specs.Automaton.{Automaton, Tuple, Formed}
use Rattle.automata.specs.TapePair.{Pair, TapePair, tapes_of}
use Rattle.automata.specs.Tapes.{read_tuple, seconds, turned, place_after, chosen}
use Rattle.automata.specs.Paths.{Weighs, WeighsRead, SameWeight}
use Rattle.automata.specs.Projection.{without}
use Rattle.automata.specs.Join.{within}
use Rattle.automata.specs.Memory.{Memory, decode_table}
use Rattle.automata.specs.Calls.Outcome.{Slices}
use Rattle.automata.specs.Calls.Drop.{mask_of}
use Rattle.laws.specs.JoinTapes.{exchanged_tapes, SharedOut, later_on}
use Rattle.laws.specs.CallLaws.{JoinLent}
use Rattle.laws.specs.CallTrees.{Calls, joining, uniting, choosing, made, Gave, table}
use Rattle.laws.specs.Comparisons.{
  Alike,
  met,
  met-written,
  exchanged,
  exchanged-chosen,
  first_in_parts,
  first_united,
  second_in_parts,
  second_united,
  some_pairs-first,
  given-again,
  stepwise,
  Lesser,
  DemandThree,
}
use Rattle.automata.proofs.SoundFacts.{table_of_is}
use Rattle.automata.proofs.PathFacts.{weighs_length}
use Rattle.automata.proofs.ReadingFacts.{chosen_alike}
use Rattle.laws.proofs.CallTrees.{calls_again}
use Rattle.laws.proofs.Lemmas.JoinAlgebra.{join-met, join-met-written, SameLeast, least_refl, exchange, in_parts₁, in_parts₂, in_steps}
use Rattle.laws.proofs.Lemmas.ProjectionPaths.{projected_weighs}
use Rattle.laws.proofs.Lemmas.ReadWeights.{read_alike, read_either}
use Rattle.laws.proofs.Lemmas.Weights.{Level, level_of, level-trans, level-weight, weight-level, level-lesser}
use Rattle.laws.proofs.Lemmas.SharedPairs.{width_shared}
use Rattle.laws.proofs.Lemmas.ExchangedTapes.{exchanged-width, exchanged_back}
use Rattle.laws.proofs.Lemmas.TreeTables.{table_is, JoinedTrees, joined_trees, joined_gave, united_trees, united_gave, chosen_tree, chosen_gave, kept_trees, kept_gave}

-- what a table weighs, as written and after reading
abbrev W : Automaton ℕ → Tuple → ℕ → Type 0
W A = Weighs ℕ_sum A

abbrev WR : Automaton ℕ → Tuple → ℕ → Type 0
WR A = WeighsRead ℕ_sum A

-- tables that are alike, by their weights
alike : (a b : Calls) → Formed (table a) → Formed (table b) → Alike a b → SameLeast ℕ_sum (table a) (table b)
alike a b fa fb h t = weight-level ℕ_sum (table a) t (table b) t fa fb (h.weights t)

-- ---- exchanged

module _ (l l₁ : JoinLent) (ps ps₁ : List TapePair) (a a₁ b b₁ : Calls) (x : tapes_of ps₁ ≡ turned (tapes_of ps)) (ha : Alike a a₁) (hb : Alike b b₁)
    (g : Gave (joining l ps a b)) (g₁ : Gave (joining l₁ ps₁ b₁ a₁)) where
  abbrev qs : List Pair
  qs = tapes_of ps

  abbrev J : Automaton ℕ
  J = table (joining l ps a b)

  abbrev K : Automaton ℕ
  K = table (joining l₁ ps₁ b₁ a₁)

  abbrev order : List ℕ
  order = exchanged_tapes (table a).tapes (table b).tapes qs

  at_other : (t : Tuple) → length t ≡ J.tapes → Level ℕ_sum (WR J t) (WR K (chosen order t))
  at_other =
      let j = joined_trees l ps qs refl a b g in
      let k = joined_trees l₁ ps₁ (turned qs) x b₁ a₁ g₁ in
      exchange ℕ_sum qs (table a) (table a₁) (table b) (table b₁) J K j.join k.join (alike a a₁ j.first k.second ha) (alike b b₁ j.second k.first hb)

  -- every tuple of the join
  by_exchange : (t : Tuple) → length t ≡ J.tapes → SameWeight ℕ_sum J t K (chosen order t)
  by_exchange t lt = level-weight ℕ_sum J t K (chosen order t) (at_other t lt)

  -- and with its tapes chosen in the order of the exchanged join
  by_choice : (s : Slices) → Gave (choosing (joining l ps a b) order s) → Alike (choosing (joining l ps a b) order s) (joining l₁ ps₁ b₁ a₁)
  by_choice s g₂ =
      let j = joined_trees l ps qs refl a b g in
      let k = joined_trees l₁ ps₁ (turned qs) x b₁ a₁ g₁ in
      let c = chosen_tree (joining l ps a b) order s g₂ in
      let R = table (choosing (joining l ps a b) order s) in
      let width : length order ≡ K.tapes =
      exchanged-width (table a).tapes (table b).tapes qs j.join.in_range
      ∙ (λ i. hb.tapes i + place_after (seconds (turned qs)) (ha.tapes i)) ∙ sym k.join.tapes in
      let weighs : (t : Tuple) (w : ℕ) → W R t w ↔ ((s : Tuple) × (chosen order s ≡ t) × W J s w) =
      λ t w. subst (λ (R : Automaton ℕ). W R t w ↔ ((s : Tuple) × (chosen order s ≡ t) × W J s w)) c.chooses
      (projected_weighs ℕ_sum J c.formed order t w) in
      record {
        tapes = sym (ap (λ (R : Automaton ℕ). R.tapes) c.chooses) ∙ width;
        weights = λ t. level-weight ℕ_sum R t K t (
          λ w (t', q, x).
              let (s, e, y) = (weighs t' w).0 x in
              let (v, z, h) = (at_other s (weighs_length ℕ_sum J s w y)).0 w (s, refl, y) in
              (v, read_alike ℕ_sum (W K) (chosen order s) t (ap read_tuple e ∙ q) v z, h),
          λ w (t', q, x).
              let lt : length t' ≡ (table b).tapes + place_after (seconds (turned qs)) (table a).tapes =
              weighs_length ℕ_sum K t' w x ∙ sym width ∙ exchanged-width (table a).tapes (table b).tapes qs j.join.in_range in
              let (s, ls, e) = exchanged_back (table a).tapes (table b).tapes qs j.join.in_range
              (subst (λ n. T (within n (table a).tapes (turned qs))) (sym hb.tapes)
              (subst (λ n. T (within (table b₁).tapes n (turned qs))) (sym ha.tapes) k.join.in_range))
              k.join.distinct_seconds t' lt in
              let (v, (s', p, z), h) = (at_other s (ls ∙ sym j.join.tapes)).1 w (t', sym e, x) in
              (v, (chosen order s', chosen_alike order s' s p ∙ e ∙ q, (weighs (chosen order s') v).1 (s', refl, z)), h),
        );
      }

-- ---- part by part

module _ (s : Slices) (l l₁ l₂ : JoinLent) (ps ps₁ ps₂ : List TapePair) (a a₁ c c₂ b b₁ b₂ : Calls) (x₁ : tapes_of ps₁ ≡ tapes_of ps) (x₂ : tapes_of ps₂ ≡ tapes_of ps)
    (ha : Alike a a₁) (hc : Alike c c₂) (hb₁ : Alike b b₁) (hb₂ : Alike b b₂) where
  first_parts : Gave (joining l ps (uniting a c s) b) → Gave (joining l₁ ps₁ a₁ b₁) → Gave (joining l₂ ps₂ c₂ b₂) → (t : Tuple)
      → Level ℕ_sum (WR (table (joining l ps (uniting a c s) b)) t) (λ w. WR (table (joining l₁ ps₁ a₁ b₁)) t w ⊎ WR (table (joining l₂ ps₂ c₂ b₂)) t w)
  first_parts g g₁ g₂ t =
      let j = joined_trees l ps (tapes_of ps) refl (uniting a c s) b g in
      let j₁ = joined_trees l₁ ps₁ (tapes_of ps) x₁ a₁ b₁ g₁ in
      let j₂ = joined_trees l₂ ps₂ (tapes_of ps) x₂ c₂ b₂ g₂ in
      let u = united_trees a c s (joined_gave l ps (uniting a c s) b g).0 in
      in_parts₁ ℕ_sum (tapes_of ps) (table a) (table a₁) (table c) (table c₂) (table (uniting a c s)) (table b) (table b₁) (table b₂) u.weighs
      (alike a a₁ u.first j₁.first ha) (alike c c₂ u.second j₂.first hc) (alike b b₁ j.second j₁.second hb₁) (alike b b₂ j.second j₂.second hb₂)
      (table (joining l ps (uniting a c s) b)) (table (joining l₁ ps₁ a₁ b₁)) (table (joining l₂ ps₂ c₂ b₂)) t j.join j₁.join j₂.join

  second_parts : Gave (joining l ps b (uniting a c s)) → Gave (joining l₁ ps₁ b₁ a₁) → Gave (joining l₂ ps₂ b₂ c₂) → (t : Tuple)
      → Level ℕ_sum (WR (table (joining l ps b (uniting a c s))) t) (λ w. WR (table (joining l₁ ps₁ b₁ a₁)) t w ⊎ WR (table (joining l₂ ps₂ b₂ c₂)) t w)
  second_parts g g₁ g₂ t =
      let j = joined_trees l ps (tapes_of ps) refl b (uniting a c s) g in
      let j₁ = joined_trees l₁ ps₁ (tapes_of ps) x₁ b₁ a₁ g₁ in
      let j₂ = joined_trees l₂ ps₂ (tapes_of ps) x₂ b₂ c₂ g₂ in
      let u = united_trees a c s (joined_gave l ps b (uniting a c s) g).1 in
      in_parts₂ ℕ_sum (tapes_of ps) (table a) (table a₁) (table c) (table c₂) (table (uniting a c s)) (table b) (table b₁) (table b₂) u.weighs
      (alike a a₁ u.first j₁.second ha) (alike c c₂ u.second j₂.second hc) (alike b b₁ j.first j₁.first hb₁) (alike b b₂ j.first j₂.first hb₂)
      (table (joining l ps b (uniting a c s))) (table (joining l₁ ps₁ b₁ a₁)) (table (joining l₂ ps₂ b₂ c₂)) t j.join j₁.join j₂.join

-- the lesser of two joins
by_lesser : (c d e : Calls) → Formed (table d) → Formed (table e) → ((t : Tuple) → Level ℕ_sum (WR (table c) t) (λ w. WR (table d) t w ⊎ WR (table e) t w)) → Lesser c d e
by_lesser c d e f₁ f₂ h t = level-lesser ℕ_sum (table c) (table d) (table e) t f₁ f₂ (h t)

-- a union of two joins
by_union : (c d e : Calls) (s : Slices) → Gave (uniting d e s) → (table c).tapes ≡ (table d).tapes
    → ((t : Tuple) → Level ℕ_sum (WR (table c) t) (λ w. WR (table d) t w ⊎ WR (table e) t w)) → Alike c (uniting d e s)
by_union c d e s g n h =
    let u = united_trees d e s g in
    let U = table (uniting d e s) in
    record {
      tapes = n ∙ sym u.tapes;
      weights = λ t.
          let X : ℕ → Type 0 = λ w. WR (table d) t w ⊎ WR (table e) t w in
          level-weight ℕ_sum (table c) t U t (level-trans ℕ_sum (WR (table c) t) X (WR U t) (h t) (level_of ℕ_sum X (WR U t) (λ w. Iff.symm (read_either ℕ_sum (W U) (W (table d)) (W (table e)) u.weighs t w))));
    }

-- joins of tables with as many tapes have as many
same_width : (ps : List Pair) (A A₁ B B₁ J J₁ : Automaton ℕ) → JoinedTrees ps A B J → JoinedTrees ps A₁ B₁ J₁ → A.tapes ≡ A₁.tapes → B.tapes ≡ B₁.tapes
    → J.tapes ≡ J₁.tapes
same_width ps A A₁ B B₁ J J₁ j j₁ e f = j.join.tapes ∙ (λ i. e i + place_after (seconds ps) (f i)) ∙ sym j₁.join.tapes

-- ---- some pairs first

by_steps : (l l₁ : JoinLent) (s s₁ : Slices) (work : List ℕ) (ps first later : List TapePair) (a a₁ b b₁ : Calls)
    → SharedOut (tapes_of ps) (tapes_of first) (tapes_of later) → Alike a a₁ → Alike b b₁ → Gave (joining l ps a b) → Gave (stepwise l₁ s s₁ work first later a₁ b₁)
    → Alike (joining l ps a b) (stepwise l₁ s s₁ work first later a₁ b₁)
by_steps l l₁ s s₁ work ps first later a a₁ b b₁ h ha hb g g₁ =
    let n = (table a₁).tapes in
    let all = tapes_of ps in
    let qs = later_on n (tapes_of first) later in
    let set = seconds (tapes_of qs) in
    let j = joined_trees l ps all refl a b g in
    let k = kept_trees (joining l₁ first a₁ b₁) qs s s₁ work g₁ in
    let j₁ = joined_trees l₁ first (tapes_of first) refl a₁ b₁ (kept_gave (joining l₁ first a₁ b₁) qs s s₁ work (mask_of set) g₁) in
    let J = table (joining l ps a b) in
    let in-range : T (within n (table b₁).tapes all) =
    subst (λ m. T (within n m all)) hb.tapes (subst (λ n. T (within n (table b).tapes all)) ha.tapes j.join.in_range) in
    let tapes : J.tapes ≡ n + place_after (seconds all) (table b₁).tapes = j.join.tapes ∙ (λ i. ha.tapes i + place_after (seconds all) (hb.tapes i)) in
    record {
      tapes = tapes ∙ sym (width_shared all (tapes_of first) later h n (table b₁).tapes in-range j.join.distinct_seconds)
          ∙ ap (place_after set) (sym (k.keeps.tapes ∙ j₁.join.tapes)) ∙ ap (λ (R : Automaton ℕ). R.tapes) k.drops;
      weights = λ t. subst (λ (R : Automaton ℕ). SameWeight ℕ_sum J t R t) k.drops (level-weight ℕ_sum J t (without set k.kept) t
          (in_steps ℕ_sum all (tapes_of first) later h (table a) (table a₁) (table b) (table b₁) J (table (joining l₁ first a₁ b₁)) k.kept j.join j₁.join
          ha.tapes (alike a a₁ j.first j₁.first ha) (alike b b₁ j.second j₁.second hb) k.keeps t));
    }

-- ---- the theorem

-- demand 3
pub demand_three : DemandThree
demand_three _ _ (met l ps a b) (g, _) =
    let j = joined_trees l ps (tapes_of ps) refl a b g in
    join-met ℕ_sum (tapes_of ps) (table a) (table b) (table (joining l ps a b)) j.first j.second j.join
demand_three _ _ (met-written l ps a b) (g, _) =
    let j = joined_trees l ps (tapes_of ps) refl a b g in
    join-met-written ℕ_sum (tapes_of ps) (table a) (table b) (table (joining l ps a b)) j.first j.second j.join
demand_three _ _ (exchanged l l₁ ps ps₁ a a₁ b b₁ x ha hb) (g, (g₁, _)) = by_exchange l l₁ ps ps₁ a a₁ b b₁ x ha hb g g₁
demand_three _ _ (exchanged-chosen l l₁ s ps ps₁ a a₁ b b₁ x ha hb) (g₂, (g₁, _)) =
    by_choice l l₁ ps ps₁ a a₁ b b₁ x ha hb (chosen_gave (joining l ps a b) (exchanged_tapes (table a).tapes (table b).tapes (tapes_of ps)) s g₂) g₁ s g₂
demand_three _ _ (first_in_parts s l l₁ l₂ ps ps₁ ps₂ a a₁ c c₂ b b₁ b₂ x₁ x₂ ha hc hb₁ hb₂) (g, (g₁, (g₂, _))) =
    by_lesser (joining l ps (uniting a c s) b) (joining l₁ ps₁ a₁ b₁) (joining l₂ ps₂ c₂ b₂)
    (joined_trees l₁ ps₁ (tapes_of ps) x₁ a₁ b₁ g₁).join.formed (joined_trees l₂ ps₂ (tapes_of ps) x₂ c₂ b₂ g₂).join.formed
    (first_parts s l l₁ l₂ ps ps₁ ps₂ a a₁ c c₂ b b₁ b₂ x₁ x₂ ha hc hb₁ hb₂ g g₁ g₂)
demand_three _ _ (first_united s s₃ l l₁ l₂ ps ps₁ ps₂ a a₁ c c₂ b b₁ b₂ x₁ x₂ ha hc hb₁ hb₂) (g, (g₃, _)) =
    let (g₁, g₂) = united_gave (joining l₁ ps₁ a₁ b₁) (joining l₂ ps₂ c₂ b₂) s₃ g₃ in
    by_union (joining l ps (uniting a c s) b) (joining l₁ ps₁ a₁ b₁) (joining l₂ ps₂ c₂ b₂) s₃ g₃
    (same_width (tapes_of ps) (table (uniting a c s)) (table a₁) (table b) (table b₁) (table (joining l ps (uniting a c s) b)) (table (joining l₁ ps₁ a₁ b₁))
    (joined_trees l ps (tapes_of ps) refl (uniting a c s) b g) (joined_trees l₁ ps₁ (tapes_of ps) x₁ a₁ b₁ g₁)
    ((united_trees a c s (joined_gave l ps (uniting a c s) b g).0).tapes ∙ ha.tapes) hb₁.tapes)
    (first_parts s l l₁ l₂ ps ps₁ ps₂ a a₁ c c₂ b b₁ b₂ x₁ x₂ ha hc hb₁ hb₂ g g₁ g₂)
demand_three _ _ (second_in_parts s l l₁ l₂ ps ps₁ ps₂ a a₁ c c₂ b b₁ b₂ x₁ x₂ ha hc hb₁ hb₂) (g, (g₁, (g₂, _))) =
    by_lesser (joining l ps b (uniting a c s)) (joining l₁ ps₁ b₁ a₁) (joining l₂ ps₂ b₂ c₂)
    (joined_trees l₁ ps₁ (tapes_of ps) x₁ b₁ a₁ g₁).join.formed (joined_trees l₂ ps₂ (tapes_of ps) x₂ b₂ c₂ g₂).join.formed
    (second_parts s l l₁ l₂ ps ps₁ ps₂ a a₁ c c₂ b b₁ b₂ x₁ x₂ ha hc hb₁ hb₂ g g₁ g₂)
demand_three _ _ (second_united s s₃ l l₁ l₂ ps ps₁ ps₂ a a₁ c c₂ b b₁ b₂ x₁ x₂ ha hc hb₁ hb₂) (g, (g₃, _)) =
    let (g₁, g₂) = united_gave (joining l₁ ps₁ b₁ a₁) (joining l₂ ps₂ b₂ c₂) s₃ g₃ in
    by_union (joining l ps b (uniting a c s)) (joining l₁ ps₁ b₁ a₁) (joining l₂ ps₂ b₂ c₂) s₃ g₃
    (same_width (tapes_of ps) (table b) (table b₁) (table (uniting a c s)) (table a₁) (table (joining l ps b (uniting a c s))) (table (joining l₁ ps₁ b₁ a₁))
    (joined_trees l ps (tapes_of ps) refl b (uniting a c s) g) (joined_trees l₁ ps₁ (tapes_of ps) x₁ b₁ a₁ g₁)
    hb₁.tapes ((united_trees a c s (joined_gave l ps b (uniting a c s) g).1).tapes ∙ ha.tapes))
    (second_parts s l l₁ l₂ ps ps₁ ps₂ a a₁ c c₂ b b₁ b₂ x₁ x₂ ha hc hb₁ hb₂ g g₁ g₂)
demand_three _ _ (some_pairs-first l l₁ s s₁ work ps first later a a₁ b b₁ h ha hb) (g, (g₁, _)) = by_steps l l₁ s s₁ work ps first later a a₁ b b₁ h ha hb g g₁
demand_three _ _ (given-again c c' h) g = calls_again c c' h

-- ---- what is alike

-- the same table, whatever bytes follow its records
pub same_table : (c d : Calls) (m k : Memory) (A : Automaton ℕ) → made c ≡ ok m → made d ≡ ok k → decode_table m ≡ ok A → decode_table k ≡ ok A → Alike c d
same_table c d m k A ec ed x y =
    let e : table c ≡ table d = table_is c m ec ∙ table_of_is m A x ∙ sym (table_is d k ed ∙ table_of_is k A y) in
    record {
      tapes = ap (λ (A : Automaton ℕ). A.tapes) e;
      weights = λ t. subst (λ (B : Automaton ℕ). SameWeight ℕ_sum (table c) t B t) e (level-weight ℕ_sum (table c) t (table c) t (least_refl ℕ_sum (table c) t));
    }

-- itself
pub alike_refl : (c : Calls) → Alike c c
alike_refl c = record { tapes = refl; weights = λ t. level-weight ℕ_sum (table c) t (table c) t (least_refl ℕ_sum (table c) t) }

-- and what was compared: the operands of a comparison may be the calls of another
pub alike_sym : (c d : Calls) → Alike c d → Alike d c
alike_sym c d h = record { tapes = sym h.tapes; weights = λ t. record { least = λ w. Iff.symm ((h.weights t).least w); nothing = Iff.symm (h.weights t).nothing } }

pub alike_trans : (c d e : Calls) → Alike c d → Alike d e → Alike c e
alike_trans c d e h k = record {
  tapes = h.tapes ∙ k.tapes;
  weights = λ t. record {
    least = λ w. Iff.trans ((h.weights t).least w) ((k.weights t).least w);
    nothing = Iff.trans (h.weights t).nothing (k.weights t).nothing;
  };
}
