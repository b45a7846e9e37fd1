-- What is counted of a pair in the work space and in the arc records is the forecast of the definition.
use Prim.Native.Nat.{ℕ, zero, ◌+◌, ◌-◌, ◌*◌, ◌≤◌, ◌<◌}
use mathlib.Core.Path.{◌≡◌, refl, sym, ap, ap₂, ◌∙◌}
use mathlib.Core.Logic.{inl, inr}
use mathlib.Core.Bool.{Bool, true, false, not}
use mathlib.Core.Option.{some}
use mathlib.Core.List.{List, [], ◌++◌, map}
use native.Mathlib.Omega.{arith}
use lib.Dec.{eqb}
use lib.ListN.{length, get_or, get_elem?}
use lib.Seq.{take-take}
use Rattle.automata.specs.Lists.{and}
use Rattle.automata.specs.Explore.{insert_all}
use Rattle.automata.specs.Trim.{rank}
use Rattle.automata.specs.Automaton.{Automaton, Arc, size, label_on}
use Rattle.automata.specs.TapePair.{TapePair, reading, first_label, second_label}
use Rattle.automata.specs.Closing.{missing, Closing, closing}
use Rattle.automata.specs.Reversal.{reversal}
use Rattle.automata.specs.Memory.{Memory, Sound, table_of}
use Rattle.automata.specs.Forecast.{reaching, on_paths, path_states, greatest_delay, needed_delay, meets_both, mixed_on, symbols_on, leftovers_of, told, mixed, needs, forecast, told_capped}
use Rattle.automata.specs.ForecastCall.{forecast_of}
use Rattle.automata.specs.Calls.Work.{forecast_work}
use Rattle.automata.proofs.ListFacts.{place_bound, place_default}
use Rattle.automata.proofs.ReachingDelays.{held, held_at}
use Rattle.automata.proofs.PathStates.{both-marked, length_on_paths}
use Rattle.automata.proofs.RankFacts.{rank-le}
use Rattle.automata.proofs.WellFormedFacts.{well_formed}
use Rattle.automata.proofs.SoundFacts.{sound_well_formed, sound_holds}
use Rattle.automata.proofs.ForecastFacts.{told_capped_lem}
use Rattle.automata.proofs.ForecastRanges.{needed_small}
use Rattle.automata.specs.Layout.{arc_size, delays_size}
use Rattle.table.specs.Arcs.{label_place}
use Rattle.table.specs.Region.{part}
use Rattle.table.specs.Endian.{le}
use Rattle.table.specs.declared.pair.Pair.{Pair}
use Rattle.table.specs.Pairs.{Within, tapes_as}
use Rattle.intersect_config.proofs.SoundFacts.{reads_arc}
use Rattle.delays_relaxation.specs.Vector.{vector}
use Rattle.delays_relaxation.specs.Edges.{edges, ReadableArcs}
use Rattle.delays_relaxation.specs.Lowered.{FillsLeast}
use Rattle.delays_relaxation.proofs.VectorFacts.{vector_at}
use Rattle.delays_relaxation.proofs.SweepFacts.{frame_vector}
use Rattle.delays_relaxation.proofs.RoundFacts.{readable_arcs}
use Rattle.delays_relaxation.proofs.TableFacts.{edges_are}
use Rattle.delays.specs.ClosingRegion.{ClosesPair}
use Rattle.delays.proofs.PairFacts.{pair_frame}
use Rattle.delays.proofs.ClosingFacts.{sound_readable, sound_listable, reaching_are, pair_closed}
use Rattle.forecast_counts.specs.Counts.{to_final, from_initial, on_path_at, marks_from, both_at, both_from, greatest_of}
use Rattle.forecast_counts.specs.Symbols.{label_at, symbols_from, ShortLabels}
use Rattle.forecast_counts.proofs.PathFacts.{marks_are}
use Rattle.forecast_counts.proofs.TableFacts.{both-any, greatest_arcs, symbols_are}
use Rattle.forecast.specs.Pairs.{Marked, delay_by, symbols_by, needed_by}

-- a pair of tapes with no limit, as a forecast takes it
abbrev pub on_tapes : Pair → TapePair
on_tapes p = record { first = p.first; second = p.second; limit = zero }

-- an arc, where there is none
no_arc : Arc ℕ
no_arc = record { source = 0; target = 0; weight = 0; labels = [] }

-- a mark is no missing delay
mark-held : (b : Bool) → not (eqb (held b) missing) ≡ b
mark-held true = refl
mark-held false = refl

-- the work space of a forecast has 64 bytes a state
pub work_room : (n l : ℕ) → forecast_work n ≤ l → delays_size * n ≤ l
unfolding forecast_work
work_room n l h = h

module _ (m : Memory) (s : Sound m) where
  abbrev n : ℕ
  n = m.states

  abbrev A : Automaton ℕ
  A = table_of m

  -- ---- the marks

  -- what marking forwards and then backwards leaves
  pub marked : (w u v : List ℕ) → delays_size * n ≤ length v → FillsLeast false (edges false 0 0 0 m.arcs m.arc_bytes) to_final n m.state_bytes u v
      → FillsLeast true (edges true 0 0 0 m.arcs m.arc_bytes) from_initial n m.state_bytes w u → Marked m w
  marked w u v room a b = record {
    to_final =
        frame_vector to_final from_initial 2 n w u b.frame (omega (arith, room, a.frame.same_length)) (inr (omega arith, omega arith))
        ∙ reaching_are m s false (vector to_final n u) a.least;
    from_initial = reaching_are m s true (vector from_initial n w) b.least;
  }

  -- the closing delays of a pair leave the marks
  pub marks_kept : (r : Bool) (p : Pair) (at : ℕ) (w v : List ℕ) → at + 8 ≤ to_final → delays_size * n ≤ length v
      → ClosesPair r m.state_bytes n m.arc_bytes m.arcs p at w v → Marked m v → Marked m w
  marks_kept r p at w v low room c k =
      let f = pair_frame r m.state_bytes n m.arc_bytes m.arcs p at w v c in
      record {
        to_final = frame_vector to_final at 8 n w v f (omega (arith, room)) (inl (omega arith, omega arith)) ∙ k.to_final;
        from_initial = frame_vector from_initial at 8 n w v f (omega (arith, room)) (inl (omega arith, omega arith)) ∙ k.from_initial;
      }

  -- the number that a vector holds for state q
  held_in : (c : ℕ) (w : List ℕ) (xs : List Bool) → vector c n w ≡ map held xs → (q : ℕ) → q < n → le (part (c + delays_size * q) 2 w) ≡ held (get_or xs q false)
  held_in c w xs e q h = sym (vector_at c n w q missing h) ∙ ap (λ (ys : List ℕ). get_or ys q missing) e ∙ held_at xs q

  -- the states marked are those on successful paths
  on_paths_lem : (w : List ℕ) → Marked m w → marks_from 0 n w ≡ on_paths A
  unfolding on_paths
  on_paths_lem w k = marks_are 0 n w (on_paths A) (length_on_paths A (well_formed A (sound_well_formed m s)) ∙ sym (sound_holds m s).states) (λ q h. both-marked (reaching (reversal A)) (reaching A) q ∙ sym (at_state q h))
    where
      mark_in : (c : ℕ) (xs : List Bool) → vector c n w ≡ map held xs → (q : ℕ) → q < n → not (eqb (le (part (0 + delays_size * q + c) 2 w)) missing) ≡ get_or xs q false
      mark_in c xs e q h =
          let i : 0 + delays_size * q + c ≡ c + delays_size * q = omega arith in
          ap (λ (j : ℕ). not (eqb (le (part j 2 w)) missing)) i ∙ ap (λ (x : ℕ). not (eqb x missing)) (held_in c w xs e q h) ∙ mark-held (get_or xs q false)

      at_state : (q : ℕ) → q < n → on_path_at (0 + delays_size * q) w ≡ and (get_or (reaching (reversal A)) q false) (get_or (reaching A) q false)
      at_state q h = ap₂ and (mark_in from_initial (reaching (reversal A)) k.from_initial q h) (mark_in to_final (reaching A) k.to_final q h)

  -- how many they are
  pub found_are : (found : ℕ) (w : List ℕ) → Marked m w → found ≡ rank (marks_from 0 n w) n → found ≡ path_states A
  unfolding path_states
  found_are found w k e = e ∙ ap₂ rank (on_paths_lem w k) (sound_holds m s).states

  -- at most as many as the states
  pub found_few : (found : ℕ) → found ≡ path_states A → found ≤ 1024
  unfolding path_states
  found_few found e = omega (arith, e, rank-le (on_paths A) (size A), (sound_well_formed m s).counts.states_fit)

  -- ---- cycles of both signs

  module _ (p : Pair) (i : Within m.tapes p) (w u v : List ℕ) (room : delays_size * n ≤ length v)
      (a : ClosesPair false m.state_bytes n m.arc_bytes m.arcs p 0 u v) (b : ClosesPair true m.state_bytes n m.arc_bytes m.arcs p 8 w u) where
    abbrev before : Closing
    before = closing (reversal A) (on_tapes p)

    abbrev after : Closing
    after = closing A (on_tapes p)

    -- the vectors before the second call
    kept : (c : ℕ) → c + 2 ≤ 8 → vector c n w ≡ vector c n u
    kept c l =
        frame_vector c 8 8 n w u (pair_frame true m.state_bytes n m.arc_bytes m.arcs p 8 w u b) (omega (arith, room, a.same_length)) (inr (omega arith, omega arith))

    -- the number of state q in a vector
    number_in : (c : ℕ) (zs : List ℕ) → vector c n w ≡ zs → (q : ℕ) → q < n → (j : ℕ) → j ≡ c + delays_size * q → le (part j 2 w) ≡ get_or zs q missing
    number_in c zs e q h j f = ap (λ (k : ℕ). le (part k 2 w)) f ∙ sym (vector_at c n w q missing h) ∙ ap (λ (ys : List ℕ). get_or ys q missing) e

    both_is : (q : ℕ) → q < n → both_at (0 + delays_size * q) w ≡ meets_both before after (0 + q)
    both_is q h =
        let x = pair_closed m s false p i 0 u a.closed in
        let y = pair_closed m s true p i 8 w b.closed in
        let z : 0 + q ≡ q = omega arith in
        let e₀ = number_in 0 after.least (kept 0 (omega arith) ∙ x.0) q h (0 + delays_size * q) refl in
        let e₁ = number_in 4 after.opposite (kept 4 (omega arith) ∙ x.1) q h (0 + delays_size * q + 4) (omega arith) in
        let e₂ = number_in 8 before.least y.0 q h (0 + delays_size * q + 8) (omega arith) in
        let e₃ = number_in 12 before.opposite y.1 q h (0 + delays_size * q + 12) (omega arith) in
        rw (z, e₀, e₁, e₂, e₃)

    -- the test of the definition
    pub both_are : both_from 0 n w ≡ mixed_on A (on_tapes p)
    unfolding mixed_on
    both_are =
        ap (λ (k : ℕ). both_from 0 k w) (sound_holds m s).states
        ∙ both-any (λ q. meets_both before after q) 0 0 A.states w (λ q h. both_is q (omega (arith, (sound_holds m s).states)))

  -- ---- the arc records

  module _ (p : Pair) (i : Within m.tapes p) where
    first_in_lem : p.first - 1 < m.tapes
    first_in_lem = omega (arith, i.first_from, i.first_to)

    second_in_lem : p.second - 1 < m.tapes
    second_in_lem = omega (arith, i.second_from, i.second_to)

    in_table : {t : ℕ} → t < m.tapes → t < A.tapes
    in_table l = omega (arith, (sound_holds m s).tapes)

    few_tapes : m.tapes ≤ 8
    few_tapes = omega (arith, (sound_holds m s).tapes, (sound_well_formed m s).counts.tapes_fit)

    -- the pair names tapes of eight
    pub within_eight : Within 8 p
    within_eight = record {
      first_from = i.first_from;
      first_to = omega (arith, i.first_to, few_tapes);
      second_from = i.second_from;
      second_to = omega (arith, i.second_to, few_tapes);
    }

    -- they can be read on the pair's tapes
    pub arcs_readable : ReadableArcs n m.arc_bytes m.arcs false (p.first - 1) (p.second - 1)
    arcs_readable = readable_arcs m.state_bytes n m.arc_bytes m.arcs false (p.first - 1) (p.second - 1) (sound_readable m s) (omega (arith, first_in_lem, few_tapes)) (omega (arith, second_in_lem, few_tapes))

    -- and their labels are short
    pub labels_short : ShortLabels m.arc_bytes m.arcs (p.first - 1) (p.second - 1)
    labels_short = record {
      lent = (sound_listable m s).2;
      first_tape = omega (arith, first_in_lem, few_tapes);
      second_tape = omega (arith, second_in_lem, few_tapes);
      first_short = λ k h. (reads_arc m s k h no_arc).label_fits (p.first - 1) first_in_lem;
      second_short = λ k h. (reads_arc m s k h no_arc).label_fits (p.second - 1) second_in_lem;
    }

    -- the greatest delay
    greatest_is : (w : List ℕ) → Marked m w
        → greatest_of (marks_from 0 n w) (edges false (p.first - 1) (p.second - 1) 0 m.arcs m.arc_bytes) ≡ greatest_delay (on_paths A) (p.first - 1) (p.second - 1) A.arcs
    greatest_is w k =
        ap₂ greatest_of (on_paths_lem w k) (edges_are m A (sound_well_formed m s) (sound_holds m s) false (p.first - 1) (p.second - 1) (in_table first_in_lem) (in_table second_in_lem))
        ∙ greatest_arcs (on_paths A) (p.first - 1) (p.second - 1) A.arcs

    -- a label, as it is compared
    label_is : (t : ℕ) → t < m.tapes → (k : ℕ) (a : Arc ℕ) → get_elem? A.arcs k ≡ some a → label_at t (0 + arc_size * k) m.arc_bytes ≡ map reading (label_on t a)
    unfolding part
    label_is t l k a e =
        let h : k < m.arcs = omega (arith, place_bound A.arcs k e, (sound_holds m s).arcs) in
        let r = reads_arc m s k h a in
        let z : 0 + arc_size * k ≡ arc_size * k = omega arith in
        ap (λ (j : ℕ). label_at t j m.arc_bytes) z
        ∙ ap (map reading) (sym (take-take (get_or m.arc_bytes (label_place (arc_size * k) t) 0) 8 _ (r.label_fits t l)) ∙ sym (r.label t l) ∙ ap (label_on t) (place_default A.arcs k a e))

    -- the symbols
    symbols_is : insert_all eqb [] (symbols_from (p.first - 1) (p.second - 1) 0 m.arcs m.arc_bytes) ≡ symbols_on A (on_tapes p)
    unfolding symbols_on
    symbols_is =
        ap (insert_all eqb [])
        (ap (λ (k : ℕ). symbols_from (p.first - 1) (p.second - 1) 0 k m.arc_bytes) (sound_holds m s).arcs
        ∙ symbols_are (p.first - 1) (p.second - 1) 0 m.arc_bytes (λ a. first_label (on_tapes p) a ++ second_label (on_tapes p) a) A.arcs (λ k a e.
        ap₂ (λ (x y : List ℕ). x ++ y)
        (label_is (p.first - 1) first_in_lem k a e)
        (label_is (p.second - 1) second_in_lem k a e)))

    -- ---- the forecast

    module _ (found : ℕ) (f : found ≡ path_states A) (w : List ℕ) (k : Marked m w) where
      -- the delay
      delay_is : delay_by (p.first - 1) (p.second - 1) m.arcs m.arc_bytes n w found ≡ needed_delay A (on_tapes p)
      unfolding needed_delay
      delay_is = ap₂ (λ (x y : ℕ). (x - 1) * y) f (greatest_is w k)

      -- it has two bytes
      pub delay_fits : delay_by (p.first - 1) (p.second - 1) m.arcs m.arc_bytes n w found < 65536
      delay_fits = omega (arith, delay_is, needed_small A (well_formed A (sound_well_formed m s)) (on_tapes p))

      -- what is told of a pair that is not mixed
      needed_is : needed_by (p.first - 1) (p.second - 1) m.arcs m.arc_bytes n w found ≡ needs (needed_delay A (on_tapes p)) (told (size A * leftovers_of A (on_tapes p)))
      unfolding leftovers_of
      needed_is =
          ap₂ needs delay_is
          (ap (λ (x : ℕ). told_capped x symbols delay) (sound_holds m s).states ∙ ap₂ (told_capped (size A)) (ap length symbols_is) delay_is
          ∙ told_capped_lem (size A) (length (symbols_on A (on_tapes p))) (needed_delay A (on_tapes p)))
        where
          delay : ℕ
          delay = delay_by (p.first - 1) (p.second - 1) m.arcs m.arc_bytes n w found

          symbols : ℕ
          symbols = symbols_by (p.first - 1) (p.second - 1) m.arcs m.arc_bytes

      -- and that is its forecast
      pub pair-needs : (b : Bool) → b ≡ mixed_on A (on_tapes p) → b ≡ false → needed_by (p.first - 1) (p.second - 1) m.arcs m.arc_bytes n w found ≡ forecast_of A (tapes_as p)
      unfolding forecast_of forecast
      pair-needs b e q = needed_is ∙ rw (sym e ∙ q)

    -- a pair that is mixed
    pub pair-mixed : (b : Bool) → b ≡ mixed_on A (on_tapes p) → b ≡ true → mixed ≡ forecast_of A (tapes_as p)
    unfolding forecast_of forecast
    pair-mixed b e q = rw (sym e ∙ q)
