-- The call that drops tapes, by its steps.
use Prim.Native.Nat.{ℕ, ◌*◌, ◌/◌, ◌^◌, ◌≤◌, ◌<◌}
use mathlib.Core.Path.{◌≡◌, refl, sym, ap, ap₂, ◌∙◌}
use mathlib.Core.Bool.{Bool, true, false}
use mathlib.Core.List.{List}
use native.Mathlib.Nat.{one-mul, div-eq_of_lt, div-lt_iff_lt-mul}
use native.Mathlib.Omega.{arith}
use lib.Dec.{ltb}
use lib.Count.{ones}
use lib.Pow.{pow_pos}
use lib.ListN.{length, length-map}
use Rattle.automata.specs.Refusal as refusal
use Rattle.automata.specs.Lists.{and}
use Rattle.automata.specs.Answer.{◌>>=◌, Answer, ok, refused, forget}
use Rattle.automata.specs.Space.{Space}
use Rattle.automata.specs.Automaton.{Automaton}
use Rattle.automata.specs.Memory.{Memory, Sound, memory_of, decode_table, table_of, encode_arcs}
use Rattle.automata.specs.Tapes.{drop_at}
use Rattle.automata.specs.Projection.{droppable, relabelled_arc, without, drop_tapes}
use Rattle.automata.specs.Calls.Drop.{in_mask, drop_answer, drop_outcome}
use Rattle.automata.specs.Calls.JoinSteps.{drop_step}
use Rattle.automata.specs.Calls.Outcome.{TableCounts, space_of, put, made_of, slices_of}
use Rattle.automata.proofs.AnswerFacts.{bind_ok, judge-ok}
use Rattle.automata.proofs.TestFacts.{T_true, ltb_true, ltb_false, ltb_of_lt, ltb_of_le}
use Rattle.automata.proofs.MaskFacts.{droppable_mask}
use Rattle.automata.proofs.CallTests.{drop_tape, drop_passed}
use Rattle.automata.proofs.CallFacts.{put_refused}
use Rattle.automata.proofs.TapeTables.{fitted-ok}
use Rattle.automata.proofs.SoundFacts.{sound, table_of_is, sound_decoded, sound_well_formed, sound_holds}
use Rattle.automata.proofs.MemoryFacts.{decode_reads}
use Rattle.automata.specs.Layout.{arc_size, state_size}
use Rattle.table.proofs.AnswerFacts.{forget-ok}
use Rattle.table.proofs.TableFacts.{judged_sound}
use Rattle.tapes_records.specs.Choice.{tapes_left, Droppable}
use Rattle.intersect_room.specs.Room.{lent_space}
use Rattle.tapes_records.specs.Results.{fitting, Copied}
use Rattle.tapes_records.proofs.ChoiceFacts.{left_few}
use Rattle.tapes.proofs.TapesFacts.{length_projected}
use Rattle.tapes.proofs.DropFacts.{left-named, without-chosen}
use Rattle.tapes_records.proofs.RoomFacts.{forget-refused, next-refused, fitted_counts, copied_holds, copied_put}

-- ---- the mask

-- a mark beyond the tapes
pub marks_beyond : (n mask : ℕ) → n ≤ 8 → mask < 256 → (mask / 2 ^ n ≡ 0 → ⊥) → false ≡ droppable (in_mask mask) n
marks_beyond n mask few byte h = sym (droppable_mask n mask few byte ∙ ap (λ b. and b (ltb (ones mask) n)) (ltb_of_le beyond))
  where
    beyond : 2 ^ n ≤ mask
    beyond = go (ltb mask (2 ^ n)) refl
      where
        go : (b : Bool) → ltb mask (2 ^ n) ≡ b → 2 ^ n ≤ mask
        go true e = absurd (h (div-eq_of_lt (ltb_true e)))
        go false e = ltb_false e

-- marks of tapes alone: one is left if fewer are marked than there are
pub marks_within : (n mask : ℕ) → n ≤ 8 → mask < 256 → mask / 2 ^ n ≡ 0 → ltb (ones mask) n ≡ droppable (in_mask mask) n
marks_within n mask few byte h =
    let l : mask / 2 ^ n < 1 = omega (arith, h) in
    let k : mask < 1 * 2 ^ n = (div-lt_iff_lt-mul (pow_pos n)).0 l in
    sym (droppable_mask n mask few byte ∙ ap (λ b. and b (ltb (ones mask) n)) (ltb_of_lt (rw one-mul at k)))

-- ---- the judgement
module _ (m : Memory) (mask : ℕ) (space : Space) where
  -- the table is refused
  pub drop_table_judged : (n : ℕ) → refused n ≡ forget (decode_table m) → refused n ≡ forget (drop_answer m mask space)
  unfolding drop_answer
  drop_table_judged n e = next-refused (decode_table m) (λ A. drop_tapes space (in_mask mask) A) n e

  module _ (e : ok tt ≡ forget (decode_table m)) where
    pub drop_sound : Sound m
    drop_sound = judged_sound m (sym e)

    drop_is : drop_answer m mask space ≡ drop_tapes space (in_mask mask) (table_of m)
    unfolding drop_answer
    drop_is = ap (λ (a : Answer (Automaton ℕ)). a >>= λ A. drop_tapes space (in_mask mask) A) (sound_decoded m drop_sound)

    -- the mask is refused
    pub drop_marks_judged : false ≡ droppable (in_mask mask) m.tapes → refused refusal.tape ≡ forget (drop_answer m mask space)
    drop_marks_judged f =
        let d : droppable (in_mask mask) (table_of m).tapes ≡ false = ap (droppable (in_mask mask)) (sym (sound_holds m drop_sound).tapes) ∙ sym f in
        sym (ap forget (drop_is ∙ drop_tape space (table_of m) (in_mask mask) d))

    -- the space decides
    pub drop_space_judged : true ≡ droppable (in_mask mask) m.tapes → (r : Answer (Unit {0})) → r ≡ fitting m.states m.arcs space
        → r ≡ forget (drop_answer m mask space)
    drop_space_judged f r z =
        let t = sound_holds m drop_sound in
        let A = without (in_mask mask) (table_of m) in
        let d : droppable (in_mask mask) (table_of m).tapes ≡ true = ap (droppable (in_mask mask)) (sym t.tapes) ∙ sym f in
        z ∙ ap₂ (λ (i k : ℕ). fitting i k space) t.states (t.arcs ∙ sym (length-map (table_of m).arcs (relabelled_arc (drop_at (in_mask mask)))))
        ∙ fitted_counts space A ∙ sym (ap forget (drop_is ∙ drop_passed space (table_of m) (in_mask mask) d))

-- ---- the copy

module _ (m : Memory) (mask : ℕ) (d : Droppable m mask) (old_states old_arcs new_states new_arcs : List ℕ) (c : Copied m 0 0 old_states old_arcs new_states new_arcs) where
  -- the copy
  abbrev copy : Memory
  copy = memory_of m.tapes m.states m.arcs new_states new_arcs

  -- holds the table
  copy_decoded : decode_table copy ≡ ok (table_of m)
  copy_decoded =
      let w = sound_well_formed m d.sound in
      decode_reads copy (table_of m) w (copied_holds m (table_of m) w (sound_holds m d.sound) old_states old_arcs new_states new_arcs c)

  -- of which the marked tapes may be dropped
  pub copy_droppable : Droppable copy mask
  copy_droppable = record { sound = sound copy (table_of m) copy_decoded; marks = d.marks }

  -- dropped in place there, they are dropped
  pub copy_dropped : (r : Answer TableCounts) (states arcs : List ℕ) → state_size * m.states ≤ length old_states → arc_size * m.arcs ≤ length old_arcs
      → made_of r states arcs ≡ drop_step copy (in_mask mask) (slices_of new_states new_arcs)
      → made_of r states arcs ≡ put (ok (without (in_mask mask) (table_of m))) (slices_of old_states old_arcs)
  unfolding drop_step
  copy_dropped r states arcs s a e =
      let A = table_of m in
      let w = sound_well_formed m d.sound in
      let h = sound_holds m d.sound in
      let js = tapes_left (in_mask mask) 0 A.tapes in
      let b = left_few (in_mask mask) 0 A.tapes in
      let l : length (encode_arcs (without (in_mask mask) A)) ≡ arc_size * m.arcs =
      ap (λ (R : Automaton ℕ). length (encode_arcs R)) (without-chosen (in_mask mask) A w)
      ∙ length_projected m A w h js (omega (arith, b, w.counts.tapes_fit)) (left-named (in_mask mask) 0 A.tapes m.tapes (omega (arith, h.tapes))) in
      e ∙ ap (λ (x : Answer (Automaton ℕ)). put (x >>= λ K. ok (without (in_mask mask) K)) (slices_of new_states new_arcs)) copy_decoded
      ∙ copied_put m A w h old_states old_arcs new_states new_arcs c (without (in_mask mask) A) refl l s a

-- ---- the whole call

module _ (m : Memory) (mask : ℕ) (old_states old_arcs : List ℕ) where
  -- a refusal
  pub drop_refused : (n : ℕ) → refused n ≡ forget (drop_answer m mask (lent_space (length old_states / state_size) (length old_arcs / arc_size)))
      → made_of (refused n) old_states old_arcs ≡ drop_outcome m mask (slices_of old_states old_arcs)
  unfolding drop_outcome
  drop_refused n e =
      let s = slices_of old_states old_arcs in
      sym (put_refused s n) ∙ ap (λ (a : Answer (Automaton ℕ)). put a s) (sym (forget-refused (drop_answer m mask (space_of s)) n (sym e)))

  module _ (e : ok tt ≡ forget (drop_answer m mask (lent_space (length old_states / state_size) (length old_arcs / arc_size)))) where
    -- what the judgement told
    drop_told : Droppable m mask × (state_size * m.states ≤ length old_states) × (arc_size * m.arcs ≤ length old_arcs)
        × (drop_answer m mask (lent_space (length old_states / state_size) (length old_arcs / arc_size)) ≡ ok (without (in_mask mask) (table_of m)))
    unfolding drop_answer drop_tapes
    drop_told =
        let space = lent_space (length old_states / state_size) (length old_arcs / arc_size) in
        let a = forget-ok (drop_answer m mask space) (sym e) in
        let p = bind_ok (decode_table m) (λ A. drop_tapes space (in_mask mask) A) a.0 a.1 in
        let A = p.0 in
        let q = judge-ok (droppable (in_mask mask) A.tapes) _ _ a.0 p.2 in
        let f = fitted-ok space (without (in_mask mask) A) a.0 q.1 in
        let s = sound m A p.1 in
        let t : table_of m ≡ A = table_of_is m A p.1 in
        let k = sound_holds m s in
        let n : m.states ≡ length A.states = k.states ∙ ap (λ (B : Automaton ℕ). length B.states) t in
        let i : m.arcs ≡ length A.arcs = k.arcs ∙ ap (λ (B : Automaton ℕ). length B.arcs) t in
        let o = length-map A.arcs (relabelled_arc (drop_at (in_mask mask))) in (
          record { sound = s; marks = ap (droppable (in_mask mask)) (k.tapes ∙ ap (λ (B : Automaton ℕ). B.tapes) t) ∙ T_true (droppable (in_mask mask) A.tapes) q.0 },
          omega (arith, n, f.0),
          omega (arith, i, o, f.1),
          a.1 ∙ ap ok (sym f.2 ∙ ap (without (in_mask mask)) (sym t)),
        )

    -- what the copy asks
    pub drop_ready : Droppable m mask × (state_size * m.states ≤ length old_states) × (arc_size * m.arcs ≤ length old_arcs)
    drop_ready = (drop_told.0, drop_told.1, drop_told.2)

    -- and what it leaves
    pub drop_done : (r : Answer TableCounts) (states arcs : List ℕ) → made_of r states arcs ≡ put (ok (without (in_mask mask) (table_of m))) (slices_of old_states old_arcs)
        → made_of r states arcs ≡ drop_outcome m mask (slices_of old_states old_arcs)
    unfolding drop_outcome
    drop_done r states arcs f = f ∙ ap (λ (a : Answer (Automaton ℕ)). put a (slices_of old_states old_arcs)) (sym drop_told.3)
