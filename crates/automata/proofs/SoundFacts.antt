-- What is known of a table in memory once it is judged.
use mathlib.Core.Path.{◌≡◌, ap, ◌∙◌}
use Prim.Native.Nat.{ℕ, ◌*◌, ◌≤◌, min}
use native.Mathlib.Omega.{arith}
use lib.ListN.{length, take, length-take}
use Rattle.automata.specs.Answer.{ok}
use Rattle.automata.specs.Automaton.{Automaton}
use Rattle.automata.specs.Table.{WellFormed}
use Rattle.automata.specs.Memory.{Memory, Holds, Sound, decode_table, table_of}
use Rattle.automata.proofs.FormatFacts.{length_many}
use Rattle.automata.proofs.MemoryFacts.{decode_only, state_record_lawful, arc_record_lawful, arc_record-width}
use Rattle.automata.specs.Layout.{arc_size, state_size}

-- the automaton that memory holds is the one that it decodes to
pub table_of_is : (m : Memory) (A : Automaton ℕ) → decode_table m ≡ ok A → table_of m ≡ A
unfolding table_of
table_of_is m A e = rw (e, table_of)

-- memory that decodes holds a table ...
pub sound : (m : Memory) (A : Automaton ℕ) → decode_table m ≡ ok A → Sound m
unfolding Sound
sound m A e = rw (table_of_is m A e) e

module _ (m : Memory) (s : Sound m) where
  -- ... and the other way round
  pub sound_decoded : decode_table m ≡ ok (table_of m)
  unfolding Sound
  sound_decoded = s

  -- the table is well-formed, and its records stand in the bytes
  pub sound_well_formed : WellFormed (table_of m)
  sound_well_formed = (decode_only m (table_of m) sound_decoded).0

  pub sound_holds : Holds m (table_of m)
  sound_holds = (decode_only m (table_of m) sound_decoded).1

  -- every record is wholly lent
  pub sound_states_lent : state_size * m.states ≤ length m.state_bytes
  sound_states_lent =
      let t = table_of m in
      let h = sound_holds in
      let e = ap length h.state_bytes ∙ length_many state_record_lawful t.states sound_well_formed.states in
      let f : length (take (m.states * state_size) m.state_bytes) ≡ min (m.states * state_size) (length m.state_bytes) = length-take (m.states * state_size) m.state_bytes in
      let g = h.states in
      omega (arith, e, f, g)

  pub sound_arcs_lent : arc_size * m.arcs ≤ length m.arc_bytes
  sound_arcs_lent =
      let t = table_of m in
      let h = sound_holds in
      let c = sound_well_formed.counts in
      let e : length (take (m.arcs * arc_size) m.arc_bytes) ≡ length t.arcs * arc_size
      = ap length h.arc_bytes ∙ length_many (arc_record_lawful t.tapes (length t.states) c.states_fit) t.arcs sound_well_formed.arcs
      ∙ ap (λ (k : ℕ). length t.arcs * k) (arc_record-width t.tapes (length t.states) c.tapes_fit) in
      let f : length (take (m.arcs * arc_size) m.arc_bytes) ≡ min (m.arcs * arc_size) (length m.arc_bytes) = length-take (m.arcs * arc_size) m.arc_bytes in
      let g = h.arcs in
      omega (arith, e, f, g)
