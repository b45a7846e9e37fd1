-- Once all combinations are done, the least over the initial states is the weight of the tuple.
use mathlib.Core.Path.{◌≡◌, refl, sym, ap, ap₂, ◌∙◌}
use mathlib.Core.Option.{Option, none, some}
use mathlib.Core.List.{List, [], ◌∷◌}
use Prim.Native.Nat.{ℕ, zero, suc, ◌+◌, ◌*◌, ◌≤◌, ◌<◌, min}
use native.Mathlib.Decide.{dec_le}
use native.Mathlib.Omega.{arith}
use lib.ListN.{length, get_or}
use borrow.Author.Tests.{lt-ltb, le-ltb, le-leb, lt-leb}
use Rattle.automata.specs.Lists.{bind, total}
use Rattle.automata.specs.OrderedSum.{ℕ_sum}
use Rattle.automata.specs.Least.{lesser, plus, least_below}
use Rattle.automata.specs.Automaton.{Automaton, size, initial_of, Tuple}
use Rattle.automata.specs.Lookup.{best, arcs_enough, lookup}
use Rattle.automata.specs.LeastPath.{least_onward}
use Rattle.automata.specs.Calls.Work.{combinations}
use Rattle.automata.specs.Memory.{Sound, table_of}
use Rattle.automata.proofs.SoundFacts.{sound_well_formed, sound_holds}
use Rattle.automata.proofs.WellFormedFacts.{weights_bounded}
use Rattle.automata.specs.Cells.{place, cell}
use Rattle.automata.proofs.Cells.{beginnings, positions_beginnings, drop_all_beginnings}
use Rattle.automata.specs.Limits.{max_string}
use Rattle.automata.specs.Layout.{state_size}
use Rattle.table.specs.Answers.{lent}
use Rattle.table.specs.Records.{Weight, option_of, state_at}
use Rattle.table.specs.declared.answer.Counts.{Counts}
use Rattle.std.specs.Prelude.{Some, None}
use Rattle.table.proofs.SoundFacts.{state_loaded, few_states}
use Rattle.lookup_tuple.specs.declared.Strings.{Strings}
use Rattle.lookup_tuple.specs.Strings.{Stands}
use Rattle.lookup_moves.specs.Distances.{far, weight_of}
use Rattle.lookup_cells.specs.Ends.{beginning, from_state, least_up_to}
use Rattle.lookup_cells.specs.Filled.{Filled}
use Rattle.lookup_cells.proofs.DistanceFacts.{best_small}

-- ---- none as a number

weight_min : (a b : ℕ) → weight_of (min a b) ≡ lesser ℕ_sum (weight_of a) (weight_of b)
weight_min a b = go (dec_le far a) (dec_le far b) (dec_le a b)
  where
    go : Dec (far ≤ a) → Dec (far ≤ b) → Dec (a ≤ b) → weight_of (min a b) ≡ lesser ℕ_sum (weight_of a) (weight_of b)
    go (yes h) (yes k) d = let m : far ≤ min a b = omega arith in rw (le-ltb a far h, le-ltb b far k, le-ltb (min a b) far m)
    go (yes h) (no k) d = let m : min a b ≡ b = omega arith in rw (m, le-ltb a far h, lt-ltb b far (omega arith))
    go (no h) (yes k) d = let m : min a b ≡ a = omega arith in rw (m, le-ltb b far k, lt-ltb a far (omega arith))
    go (no h) (no k) (yes l) = let m : min a b ≡ a = omega arith in rw (m, lt-ltb a far (omega arith), lt-ltb b far (omega arith), le-leb a b l)
    go (no h) (no k) (no l) = let m : min a b ≡ b = omega arith in rw (m, lt-ltb a far (omega arith), lt-ltb b far (omega arith), lt-leb a b (omega arith))

-- a weight added to one that is far below
weight-plus : (w x : ℕ) (o : Option ℕ) → w ≤ 999999999 → weight_of x ≡ o → ((v : ℕ) → o ≡ some v → v < 1000000000000000000) → weight_of (w + x) ≡ plus ℕ_sum w o
weight-plus w x o light e small = go (dec_le far x)
  where
    go : Dec (far ≤ x) → weight_of (w + x) ≡ plus ℕ_sum w o
    go (yes h) = let n : o ≡ none = sym e ∙ rw (le-ltb x far h) in rw (n, le-ltb (w + x) far (omega arith))
    go (no h) =
        let n : o ≡ some x = sym e ∙ rw (lt-ltb x far (omega arith)) in
        let m = small x n in
        rw (n, lt-ltb (w + x) far (omega (arith, m, light)))

pub place_beginnings : (t : Tuple) → place (beginnings t) t ≡ 0
place_beginnings [] = refl
place_beginnings (s ∷ t) = omega (arith, place_beginnings t)

-- the strings of a tuple have at most 512 symbols
total-le : (t : Tuple) → ((h : ℕ) → h < length t → length (get_or t h []) ≤ max_string) → total length t ≤ max_string * length t
total-le [] h = omega arith
total-le (s ∷ t) h = omega (arith, h 0 (omega arith), total-le t (λ k lt. h (suc k) (omega arith)))

pub stands_short : (text : List ℕ) (t : Tuple) (s : Strings) → Stands text t s → total length t ≤ 512
stands_short text t s st = omega (arith, total-le t (λ h lt. omega (arith, st.length_is h lt, st.short h)), st.few)

module _ (c : Counts) (states arcs : List ℕ) (sound : Sound (lent c states arcs)) (t : Tuple) (short : total length t ≤ 512) (xs : List ℕ)
    (f : Filled (table_of (lent c states arcs)) t xs) (all : ℕ) (all-is : all ≡ combinations t) where
  abbrev table : Automaton ℕ
  table = table_of (lent c states arcs)

  -- from state q on
  abbrev from : ℕ → Option ℕ
  from q = elim (initial_of table q) [ none ↦ none | some w ↦ plus ℕ_sum w (best ℕ_sum table (arcs_enough ℕ_sum table t) q t) ]

  module _ (q : ℕ) (lt : q < c.states) where
    in_table : q < size table
    in_table = omega (arith, (sound_holds (lent c states arcs) sound).states)

    few : size table ≤ 1024
    few = omega (arith, few_states (lent c states arcs) sound, (sound_holds (lent c states arcs) sound).states)

    value_is : get_or xs (q * all + 0) 0 ≡ get_or xs (cell q (beginnings t) t) 0
    value_is =
        let e : q * all ≡ q * combinations t = ap (λ (k : ℕ). q * k) all-is in
        let g : q * all + 0 ≡ cell q (beginnings t) t = omega (arith, e, place_beginnings t) in ap (λ (k : ℕ). get_or xs k 0) g

    best_is : weight_of (get_or xs (q * all + 0) 0) ≡ best ℕ_sum table (arcs_enough ℕ_sum table t) q t
    best_is = ap weight_of value_is ∙ f.least q (beginnings t) in_table (positions_beginnings t) ∙ ap (least_onward ℕ_sum table q) (drop_all_beginnings t)

    initial_is : initial_of table q ≡ option_of (state_at (state_size * q) states).initial
    initial_is = ap (λ o. bind o (λ s. s.initial)) (state_loaded (lent c states arcs) sound q lt)

    from_means : weight_of (from_state states all xs q) ≡ from q
    unfolding from_state
    from_means = go (state_at (state_size * q) states).initial refl
      where
        go : (x : Weight) → (state_at (state_size * q) states).initial ≡ x → weight_of (beginning x (get_or xs (q * all + 0) 0)) ≡ from q
        go None e = let i : initial_of table q ≡ none = initial_is ∙ ap option_of e in rw (from, i)
        go (Some w) e =
            let i : initial_of table q ≡ some w = initial_is ∙ ap option_of e in
            rw (from, i) (weight-plus w (get_or xs (q * all + 0) 0) (best ℕ_sum table (arcs_enough ℕ_sum table t) q t)
            ((weights_bounded table (sound_well_formed (lent c states arcs) sound)).initials q w i) best_is
            (λ v g. best_small table (weights_bounded table (sound_well_formed (lent c states arcs) sound)) few t short q v g))

  least_means : (n : ℕ) → n ≤ c.states → weight_of (least_up_to n states all xs) ≡ least_below ℕ_sum from n
  unfolding least_up_to
  least_means zero h = refl
  least_means (suc n) h =
      weight_min (least_up_to n states all xs) (from_state states all xs n) ∙ ap₂ (lesser ℕ_sum) (least_means n (omega arith)) (from_means n (omega arith))

  pub lookup_means : weight_of (least_up_to c.states states all xs) ≡ lookup ℕ_sum table t
  unfolding lookup
  lookup_means = least_means c.states (omega arith) ∙ ap (least_below ℕ_sum from) (sound_holds (lent c states arcs) sound).states
