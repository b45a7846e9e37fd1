-- The states and arcs of a table that was judged: their bytes, and what is loaded from them.
use mathlib.Core.Path.{◌≡◌, sym, ap, ap₂, subst, ◌∙◌}
use mathlib.Core.Option.{some}
use mathlib.Core.List.{List}
use Prim.Native.Nat.{ℕ, ◌+◌, ◌*◌, ◌≤◌, ◌<◌}
use native.Mathlib.Omega.{arith}
use lib.ListN.{length, get_or, get_elem?, take, drop}
use lib.Seq.{take_all}
use Rattle.automata.specs.Automaton.{State, Arc}
use Rattle.automata.specs.Table.{WellFormedState, WellFormedArc}
use Rattle.automata.specs.Memory.{Memory, Sound, table_of, state_record, arc_record}
use Rattle.automata.proofs.ListFacts.{place_exists, place_default}
use Rattle.automata.proofs.MemoryFacts.{state_record_lawful, arc_record_lawful, arc_record-width, state_field, arc_field}
use Rattle.automata.proofs.RecordFacts.{All_at}
use Rattle.automata.proofs.SoundFacts.{sound_well_formed, sound_holds, sound_states_lent, sound_arcs_lent}
use Rattle.automata.specs.Layout.{arc_size, state_size}
use Rattle.table.specs.Region.{part}
use Rattle.table.specs.Records.{state_as, arc_as, state_at, arc_at, Canonical}
use Rattle.table.proofs.LoadedFacts.{state_decoded, arc_decoded, canonical_decoded}

-- the element at a place, as an option and with a default
element : {A : Type 0} (xs : List A) (k : ℕ) (d : A) → k < length xs → get_elem? xs k ≡ some (get_or xs k d)
element xs k d h = let p = place_exists xs k h in p.1 ∙ ap some (sym (place_default xs k d p.1))

-- ---- what holds of the whole table
module _ (m : Memory) (s : Sound m) where
  -- it has at most eight tapes
  pub few_tapes : m.tapes ≤ 8
  few_tapes = omega (arith, (sound_holds m s).tapes, (sound_well_formed m s).counts.tapes_fit)

  -- at most 1,024 states
  pub few_states : m.states ≤ 1024
  few_states = omega (arith, (sound_holds m s).states, (sound_well_formed m s).counts.states_fit)

  -- at most 8,192 arcs
  pub few_arcs : m.arcs ≤ 8192
  few_arcs = omega (arith, (sound_holds m s).arcs, (sound_well_formed m s).counts.arcs_fit)

  -- the bytes lent hold all its states
  pub states_lent : state_size * m.states ≤ length m.state_bytes
  states_lent = sound_states_lent m s

  -- and all its arcs
  pub arcs_lent : arc_size * m.arcs ≤ length m.arc_bytes
  arcs_lent = sound_arcs_lent m s

module _ (m : Memory) (s : Sound m) (k : ℕ) where
  -- ---- a state
  module _ (h : k < m.states) where
    -- its number is one of the table's
    state_there : k < length (table_of m).states
    state_there = subst (λ (n : ℕ). k < n) (sound_holds m s).states h

    -- it is well-formed
    state_formed : (d : State ℕ) → WellFormedState (get_or (table_of m).states k d)
    state_formed d = All_at WellFormedState (table_of m).states d k (sound_well_formed m s).states state_there

    -- its bytes are those that are written for it
    pub state-bytes : (d : State ℕ) → part (state_size * k) state_size m.state_bytes ≡ state_record.write (get_or (table_of m).states k d)
    unfolding part
    state-bytes d =
        let q = get_or (table_of m).states k d in
        let e : state_size * k ≡ k * state_size + 0 = omega arith in
        let n : length (state_record.write q) ≤ state_size = omega (arith, state_record_lawful.sized q (state_formed d)) in
        ap (λ (i : ℕ). take state_size (drop i m.state_bytes)) e
        ∙ state_field m (table_of m) (sound_well_formed m s) (sound_holds m s) k d h 0 state_size (omega arith) ∙ take_all state_size (state_record.write q) n

    -- and it is loaded from them
    pub state_loaded : get_elem? (table_of m).states k ≡ some (state_as (state_at (state_size * k) m.state_bytes))
    state_loaded =
        let d : State ℕ = state_as (state_at (state_size * k) m.state_bytes) in
        element (table_of m).states k d state_there
        ∙ ap some (sym (state_decoded (state_size * k) m.state_bytes (get_or (table_of m).states k d) (state_formed d) (state-bytes d)))

  -- ---- an arc
  module _ (h : k < m.arcs) where
    -- its number is one of the table's
    arc_there : k < length (table_of m).arcs
    arc_there = subst (λ (n : ℕ). k < n) (sound_holds m s).arcs h

    -- it is well-formed
    arc_formed : (d : Arc ℕ) → WellFormedArc m.tapes m.states (get_or (table_of m).arcs k d)
    arc_formed d =
        let a = get_or (table_of m).arcs k d in
        subst (λ (n : ℕ). WellFormedArc n m.states a) (sym (sound_holds m s).tapes)
        (subst (λ (n : ℕ). WellFormedArc (table_of m).tapes n a) (sym (sound_holds m s).states)
        (All_at (WellFormedArc (table_of m).tapes (length (table_of m).states)) (table_of m).arcs d k (sound_well_formed m s).arcs arc_there))

    -- its bytes are those that are written for it
    pub arc-bytes : (d : Arc ℕ) → part (arc_size * k) arc_size m.arc_bytes ≡ (arc_record m.tapes m.states).write (get_or (table_of m).arcs k d)
    unfolding part
    arc-bytes d =
        let a = get_or (table_of m).arcs k d in
        let e : arc_size * k ≡ k * arc_size + 0 = omega arith in
        let l : length ((arc_record m.tapes m.states).write a) ≡ arc_size =
        (arc_record_lawful m.tapes m.states (few_states m s)).sized a (arc_formed d) ∙ arc_record-width m.tapes m.states (few_tapes m s) in
        ap (λ (i : ℕ). take arc_size (drop i m.arc_bytes)) e
        ∙ arc_field m (table_of m) (sound_well_formed m s) (sound_holds m s) k d h 0 arc_size (omega arith)
        ∙ ap₂ (λ (t n : ℕ). take arc_size ((arc_record t n).write a)) (sym (sound_holds m s).tapes) (sym (sound_holds m s).states)
        ∙ take_all arc_size ((arc_record m.tapes m.states).write a) (omega (arith, l))

    -- the arc by value stands for it
    arc_same : (d : Arc ℕ) → arc_as m.tapes (arc_at (arc_size * k) m.arc_bytes) ≡ get_or (table_of m).arcs k d
    arc_same d = arc_decoded m.tapes m.states (arc_size * k) m.arc_bytes (get_or (table_of m).arcs k d) (few_tapes m s) (few_states m s) (arc_formed d) (arc-bytes d)

    -- and it is loaded from them
    pub arc_loaded : get_elem? (table_of m).arcs k ≡ some (arc_as m.tapes (arc_at (arc_size * k) m.arc_bytes))
    arc_loaded =
        let d : Arc ℕ = arc_as m.tapes (arc_at (arc_size * k) m.arc_bytes) in
        element (table_of m).arcs k d arc_there ∙ ap some (sym (arc_same d))

    -- what is loaded is stored again as it was
    pub arc_canonical : Canonical m.tapes (arc_at (arc_size * k) m.arc_bytes).content
    arc_canonical =
        let d : Arc ℕ = arc_as m.tapes (arc_at (arc_size * k) m.arc_bytes) in
        canonical_decoded m.tapes m.states (arc_size * k) m.arc_bytes (get_or (table_of m).arcs k d) (few_tapes m s) (few_states m s) (arc_formed d) (arc-bytes d)

    -- its source is a state of the table
    pub arc_source : (arc_at (arc_size * k) m.arc_bytes).source.0 < m.states
    arc_source =
        let d : Arc ℕ = arc_as m.tapes (arc_at (arc_size * k) m.arc_bytes) in
        subst (λ (a : Arc ℕ). a.source < m.states) (sym (arc_same d)) (arc_formed d).source

    -- and so is its target
    pub arc_target : (arc_at (arc_size * k) m.arc_bytes).target.0 < m.states
    arc_target =
        let d : Arc ℕ = arc_as m.tapes (arc_at (arc_size * k) m.arc_bytes) in
        subst (λ (a : Arc ℕ). a.target < m.states) (sym (arc_same d)) (arc_formed d).target
