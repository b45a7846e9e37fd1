-- What the region holds are the closing tables of the table in memory.
use Prim.Native.Nat.{ℕ, ◌+◌, ◌-◌, ◌*◌, ◌<◌, ◌≤◌}
use mathlib.Core.Path.{◌≡◌, sym, ap, subst, ◌∙◌}
use mathlib.Core.Logic.{inl}
use mathlib.Core.Bool.{Bool, false}
use mathlib.Core.Option.{some}
use mathlib.Core.List.{List, map}
use native.Mathlib.Omega.{arith}
use lib.ListN.{length, get_or, get_elem?, take}
use Rattle.automata.specs.Marks.{coaccessible}
use Rattle.automata.specs.Automaton.{Automaton, graph}
use Rattle.automata.specs.Reversal.{directed}
use Rattle.automata.specs.Memory.{Memory, Sound, table_of}
use Rattle.automata.specs.Closing.{finals, Closing, closing, closing_tables, least_delays}
use Rattle.automata.proofs.Membership.{place_map⁻¹, place_take⁻¹}
use Rattle.automata.proofs.ReachingDelays.{held, least_held}
use Rattle.automata.proofs.ReversalFacts.{directed_formed}
use Rattle.automata.proofs.WellFormedFacts.{well_formed}
use Rattle.automata.proofs.SoundFacts.{sound_well_formed, sound_holds, sound_states_lent, sound_arcs_lent}
use Rattle.automata.specs.Layout.{arc_size, delays_size, state_size, pair_delays, opposite_place, reaching_place}
use Rattle.automata.specs.Limits.{max_tapes}
use Rattle.delays_relaxation.specs.Vector.{vector, Frame}
use Rattle.delays_relaxation.specs.Edges.{edges, Joined, Readable}
use Rattle.delays_relaxation.specs.Lowered.{Least, FillsLeast}
use Rattle.delays_relaxation.proofs.SweepFacts.{frame_vector, outside_in}
use Rattle.delays_relaxation.proofs.TableFacts.{edge_of, edges_are, joined_are, least_are}
use Rattle.table.specs.declared.pair.Pair.{Pair}
use Rattle.table.specs.declared.pair.PairList.{PairList}
use Rattle.table.specs.Pairs.{pair_as, pairs_as, Named, Within, no_pair}
use Rattle.delays.specs.ClosingRegion.{PairClosed, ClosesPairs, WritesClosing}

-- ---- the pairs

-- the closing delays of the h-th pair
closing_of : (A : Automaton ℕ) (ps : PairList) (h : ℕ) (c : Closing) → get_elem? (closing_tables A (pairs_as ps)).closings h ≡ some c
    → (h < ps.used) × (closing A (pair_as (get_or ps.pairs h no_pair)) ≡ c)
unfolding closing_tables
closing_of A ps h c e =
    let (q, at₁, e₁) = place_map⁻¹ (closing A) (pairs_as ps) h e in
    let (p, at₂, e₂) = place_map⁻¹ pair_as (take ps.used ps.pairs) h at₁ in
    let r = place_take⁻¹ ps.used ps.pairs h no_pair at₂ in (
      r.0,
      ap (λ (z : Pair). closing A (pair_as z)) r.1 ∙ ap (closing A) e₂ ∙ e₁,
    )

-- the bytes of four pairs are all that pairs change
pairs_frame : (bytes : List ℕ) (n : ℕ) (arcs : List ℕ) (count : ℕ) (ps : List Pair) (k base : ℕ) (w v : List ℕ) → k ≤ 4 → ClosesPairs bytes n arcs count ps k base w v
    → Frame base reaching_place n w v
pairs_frame bytes n arcs count ps k base w v l c = record {
  same_length = c.same_length;
  same = λ i o. c.same i (λ h s. (
    outside_in (base + pair_delays * h) 2 base reaching_place n i (omega arith) (omega arith) (omega arith) o,
    outside_in (base + pair_delays * h + opposite_place) 2 base reaching_place n i (omega arith) (omega arith) (omega arith) o,
  ));
}

-- ---- the table in memory

module _ (m : Memory) (s : Sound m) where
  abbrev t : Automaton ℕ
  t = table_of m

  tapes_are : m.tapes ≡ t.tapes
  tapes_are = (sound_holds m s).tapes

  -- it can be read
  pub sound_readable : Readable m.state_bytes m.states m.arc_bytes m.arcs
  sound_readable =
      let w = sound_well_formed m s in
      let h = sound_holds m s in
      let z : 0 < t.tapes = w.counts.some_tape in
      record {
        states_lent = sound_states_lent m s;
        arcs_lent = sound_arcs_lent m s;
        joined = subst (λ es. Joined m.states es) (sym (edges_are m t w h false 0 0 z z))
            (subst (λ k. Joined k (map (edge_of 0 0) t.arcs)) (sym h.states) (joined_are t.tapes (length t.states) 0 0 t.arcs w.arcs));
      }

  -- its pairs name tapes of eight
  pub sound_within : (ps : PairList) → length ps.pairs ≡ 4 → Named m.tapes ps → (h : ℕ) → h < ps.used → Within max_tapes (get_or ps.pairs h no_pair)
  sound_within ps l n h lt =
      let i = n.each h lt in
      let b = (sound_well_formed m s).counts.tapes_fit in
      let e = tapes_are in
      record { first_from = i.first_from; first_to = omega (arith, i.first_to, b, e); second_from = i.second_from; second_to = omega (arith, i.second_to, b, e) }

  -- its sizes, as listing the arcs asks for them
  pub sound_listable : (state_size * m.states ≤ length m.state_bytes) × (m.states ≤ 1024) × (arc_size * m.arcs ≤ length m.arc_bytes) × (m.arcs ≤ 8192)
  sound_listable =
      let w = sound_well_formed m s in
      let h = sound_holds m s in
      (sound_states_lent m s, omega (arith, h.states, w.counts.states_fit), sound_arcs_lent m s, omega (arith, h.arcs, w.counts.arcs_fit))

  -- the least delays of two tapes are those of the definition, for the table and for its reversal
  least_of_lem : (r : Bool) (i j : ℕ) → i < t.tapes → j < t.tapes → (zs : List ℕ) → Least r (edges r i j 0 m.arcs m.arc_bytes) m.states m.state_bytes zs
      → zs ≡ least_delays (directed r t) i j
  least_of_lem = least_are m t (sound_well_formed m s) (sound_holds m s)

  -- the least delays on one tape taken twice mark the coaccessible states
  pub reaching_are : (r : Bool) (zs : List ℕ) → Least r (edges r 0 0 0 m.arcs m.arc_bytes) m.states m.state_bytes zs
      → zs ≡ map held (coaccessible (graph (directed r t)) (finals (directed r t)))
  reaching_are r zs l =
      let w = sound_well_formed m s in
      least_of_lem r 0 0 w.counts.some_tape w.counts.some_tape zs l ∙ least_held (directed r t) (directed_formed r t (well_formed t w)) 0

  -- the two vectors of a pair hold its least delays, and those of it turned round
  pub pair_closed : (r : Bool) (p : Pair) → Within m.tapes p → (at : ℕ) (w : List ℕ) → PairClosed r m.state_bytes m.states m.arc_bytes m.arcs p at w
      → (vector at m.states w ≡ least_delays (directed r t) (p.first - 1) (p.second - 1))
      × (vector (at + opposite_place) m.states w ≡ least_delays (directed r t) (p.second - 1) (p.first - 1))
  pair_closed r p i at w c =
      let first : p.first - 1 < t.tapes = omega (arith, i.first_from, i.first_to, tapes_are) in
      let second : p.second - 1 < t.tapes = omega (arith, i.second_from, i.second_to, tapes_are) in
      (least_of_lem r _ _ first second _ c.least, least_of_lem r _ _ second first _ c.opposite)

  -- what the two calls left
  pub writes_closing : (ps : PairList) (base : ℕ) (v u w : List ℕ) → length ps.pairs ≡ 4 → Named m.tapes ps → base + delays_size * m.states ≤ length v
      → FillsLeast false (edges false 0 0 0 m.arcs m.arc_bytes) (base + reaching_place) m.states m.state_bytes u v
      → ClosesPairs m.state_bytes m.states m.arc_bytes m.arcs ps.pairs ps.used base w u → WritesClosing m ps base w v
  unfolding closing_tables
  writes_closing ps base v u w l n room a b =
      let e = a.frame.same_length in
      let k = n.used_fit in
      let r : vector (base + reaching_place) m.states w ≡ vector (base + reaching_place) m.states u
      = frame_vector (base + reaching_place) base reaching_place m.states w u (pairs_frame m.state_bytes m.states m.arc_bytes m.arcs ps.pairs ps.used base w u k b)
      (omega arith) (inl (omega arith, omega arith)) in
      record {
        tables = record {
          reaching = r ∙ reaching_are false (vector (base + reaching_place) m.states u) a.least;
          least = λ h c q. let f = closing_of t ps h c q in (pair_closed false _ (n.each h f.0) _ _ (b.closed h f.0)).0 ∙ ap (λ (z : Closing). z.least) f.1;
          opposite = λ h c q. let f = closing_of t ps h c q in (pair_closed false _ (n.each h f.0) _ _ (b.closed h f.0)).1 ∙ ap (λ (z : Closing). z.opposite) f.1;
        };
        same_length = b.same_length ∙ e;
        same = λ i y z. b.same i y ∙ a.frame.same i z;
      }
