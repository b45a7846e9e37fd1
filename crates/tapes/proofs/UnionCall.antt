-- The union of two tables, by its steps.
use Prim.Native.Nat.{ℕ, ◌+◌, ◌*◌, ◌/◌, ◌≤◌}
use mathlib.Core.Path.{◌≡◌, sym, ap, ap₂, subst, ◌∙◌}
use mathlib.Core.Bool.{true, false}
use mathlib.Core.List.{List, ◌++◌, map}
use native.Mathlib.Omega.{arith}
use borrow.Author.Tests.{eq-eqb, ne_eqb}
use lib.Dec.{eqb, eqb→eq}
use lib.ListN.{length, take, drop, length-append, length-map, length-drop}
use lib.Seq.{take_at, drop_at, length-take-le}
use Rattle.automata.specs.Refusal as refusal
use Rattle.automata.specs.Lists.{All}
use Rattle.automata.specs.Records.{chunks, write_all}
use Rattle.automata.specs.Answer.{◌>>=◌, Answer, ok, refused, forget}
use Rattle.automata.specs.Space.{Space, state_cap, arc_cap}
use Rattle.automata.specs.Automaton.{Automaton}
use Rattle.automata.specs.Table.{WellFormed}
use Rattle.automata.specs.Memory.{Memory, Sound, Holds, memory_of, decode_table, table_of, arc_record, state_record, encode_states, encode_arcs}
use Rattle.automata.specs.Union.{fitted, shifted, appended, union}
use Rattle.automata.specs.Calls.Union.{union_answer, union_outcome}
use Rattle.automata.specs.Calls.Outcome.{TableCounts, space_of, overwrite, put, made_of, slices_of}
use Rattle.automata.proofs.RecordFacts.{write_all_append}
use Rattle.automata.proofs.AnswerFacts.{bind_ok, judge-ok}
use Rattle.automata.proofs.CallTests.{union-tape, union-passed}
use Rattle.automata.proofs.CallFacts.{put_refused, put-ok}
use Rattle.automata.proofs.TapeTables.{fitted-ok}
use Rattle.automata.proofs.SoundFacts.{sound, table_of_is, sound_decoded, sound_well_formed, sound_holds}
use Rattle.automata.specs.Layout.{arc_size, state_size}
use Rattle.table.specs.Region.{splice}
use Rattle.table.proofs.RegionFacts.{length_splice, splice_front, splice-twice, splice-behind}
use Rattle.table.proofs.AnswerFacts.{forget-ok}
use Rattle.table.proofs.TableFacts.{judged_sound}
use Rattle.table.proofs.SoundFacts.{few_states, few_arcs, states_lent, arcs_lent}
use Rattle.tapes_records.specs.Rewritten.{rewritten, raised_arc}
use Rattle.intersect_room.specs.Room.{lent_space}
use Rattle.tapes_records.specs.Results.{fitting, Copies, Copied, Raisable, AllRaisable, Appends}
use Rattle.tapes.proofs.TapesFacts.{arcs_cut}
use Rattle.tapes_records.proofs.RoomFacts.{forget-refused, next-refused, fitted_counts, states_copied, arcs_copied, states_length, arcs_length}
use Rattle.tapes_records.proofs.RaiseFacts.{arcs_shifted, arcs_raisable, length_raised_arc}
use Rattle.tapes_records.proofs.RewriteFacts.{length_rewritten}

-- what stands from a place on, once bytes are written there
drop_spliced : (a : ℕ) (ys xs : List ℕ) → a ≤ length xs → drop a (splice a ys xs) ≡ ys ++ drop (a + length ys) xs
unfolding splice
drop_spliced a ys xs h = drop_at (take a xs) (ys ++ drop (a + length ys) xs) a (length-take-le a xs h)

-- ---- the copies
module _ (one two : Memory) (states arcs : ℕ) (p : Appends one two states arcs) where
  -- each table and room for it
  pub first-copies : Copies one 0 0 states arcs
  first-copies = record {
    states_lent = states_lent one p.first_sound;
    arcs_lent = arcs_lent one p.first_sound;
    states_fit = omega (arith, p.states_fit);
    arcs_fit = omega (arith, p.arcs_fit);
  }

  pub second_copies : (state_at arc_at states2 arcs2 : ℕ) → state_at ≡ state_size * one.states → arc_at ≡ arc_size * one.arcs → states2 ≡ states → arcs2 ≡ arcs → Copies two state_at arc_at states2 arcs2
  second_copies state_at arc_at states2 arcs2 e f g h = record {
    states_lent = states_lent two p.second_sound;
    arcs_lent = arcs_lent two p.second_sound;
    states_fit = omega (arith, p.states_fit, e, g);
    arcs_fit = omega (arith, p.arcs_fit, f, h);
  }

module _ (one two : Memory) (old_states old_arcs : List ℕ) (p : Appends one two (length old_states) (length old_arcs)) (states1 arcs1 states2 arcs2 : List ℕ)
    (c : Copied one 0 0 old_states old_arcs states1 arcs1) (d : Copied two (state_size * one.states) (arc_size * one.arcs) states1 arcs1 states2 arcs2) where
  -- the two tables
  abbrev A : Automaton ℕ
  A = table_of one

  abbrev B : Automaton ℕ
  B = table_of two

  wa : WellFormed A
  wa = sound_well_formed one p.first_sound

  wb : WellFormed B
  wb = sound_well_formed two p.second_sound

  ha : Holds one A
  ha = sound_holds one p.first_sound

  hb : Holds two B
  hb = sound_holds two p.second_sound

  -- their tape counts
  tapes_equal : B.tapes ≡ A.tapes
  tapes_equal = sym hb.tapes ∙ sym p.equal_tapes ∙ ha.tapes

  -- the states of both
  pub states_appended : states2 ≡ overwrite (encode_states (appended A B)) old_states
  states_appended =
      let l = states_length one A wa ha in
      let k = states_length two B wb hb in
      let f = p.states_fit in
      splice-behind 0 (state_size * one.states) (encode_states A) (encode_states B) old_states states1 states2 (states_copied one A wa ha 0 0 old_states old_arcs states1 arcs1 c)
      (states_copied two B wb hb (state_size * one.states) (arc_size * one.arcs) states1 arcs1 states2 arcs2 d) (omega (arith, l)) (omega (arith, l, k, f))
      ∙ ap (λ (x : List ℕ). splice 0 x old_states) (sym (write_all_append state_record.write A.states B.states))
      ∙ splice_front (encode_states (appended A B)) old_states

  -- the arcs of the first
  first_arcs : arcs1 ≡ splice 0 (encode_arcs A) old_arcs
  first_arcs = arcs_copied one A wa ha 0 0 old_states old_arcs states1 arcs1 c

  first_length : length arcs1 ≡ length old_arcs
  first_length = ap length first_arcs ∙ length_splice 0 (encode_arcs A) old_arcs (omega (arith, arcs_length one A wa ha, p.arcs_fit))

  -- those of the second behind them
  second_arcs : arcs2 ≡ splice (arc_size * one.arcs) (encode_arcs B) arcs1
  second_arcs = arcs_copied two B wb hb (state_size * one.states) (arc_size * one.arcs) states1 arcs1 states2 arcs2 d

  second_length : length arcs2 ≡ length old_arcs
  second_length =
      ap length second_arcs
      ∙ length_splice (arc_size * one.arcs) (encode_arcs B) arcs1 (omega (arith, arcs_length two B wb hb, p.arcs_fit, first_length)) ∙ first_length

  -- record by record
  second_cut : chunks arc_size two.arcs (drop (arc_size * one.arcs) arcs2) ≡ map (arc_record B.tapes (length B.states)).write B.arcs
  second_cut =
      ap (λ (x : List ℕ). chunks arc_size two.arcs (drop (arc_size * one.arcs) x)) second_arcs
      ∙ ap (chunks arc_size two.arcs) (drop_spliced (arc_size * one.arcs) (encode_arcs B) arcs1 (omega (arith, p.arcs_fit, first_length)))
      ∙ arcs_cut (memory_of two.tapes two.states two.arcs two.state_bytes (encode_arcs B ++ drop (arc_size * one.arcs + length (encode_arcs B)) arcs1)) B wb (record {
        tapes = hb.tapes;
        states = hb.states;
        arcs = hb.arcs;
        state_bytes = hb.state_bytes;
        arc_bytes = take_at (encode_arcs B) (drop (arc_size * one.arcs + length (encode_arcs B)) arcs1) (two.arcs * arc_size) (omega (arith, arcs_length two B wb hb));
      })

  -- their states may be raised
  pub raise_ready : (by : ℕ) → by ≡ one.states → (arc_size * one.arcs + arc_size * two.arcs ≤ length arcs2) × AllRaisable by two.arcs (drop (arc_size * one.arcs) arcs2)
  unfolding AllRaisable
  raise_ready by e = (
    omega (arith, p.arcs_fit, second_length),
    subst (All (Raisable by)) (sym second_cut)
        (arcs_raisable B.tapes (length B.states) wb.counts.tapes_fit wb.counts.states_fit by (omega (arith, e, few_states one p.first_sound)) B.arcs wb.arcs),
  )

  -- raised, they are those of the union
  second_raised : rewritten (raised_arc one.states) two.arcs (drop (arc_size * one.arcs) arcs2)
      ≡ write_all (arc_record A.tapes (length (A.states ++ B.states))).write (map (shifted (length A.states)) B.arcs)
  unfolding rewritten
  second_raised =
      ap (write_all (raised_arc one.states)) second_cut
      ∙ arcs_shifted B.tapes (length B.states) wb.counts.tapes_fit wb.counts.states_fit one.states B.arcs wb.arcs
      ∙ ap₂ (λ (t k : ℕ). write_all (arc_record t (length (A.states ++ B.states))).write (map (shifted k) B.arcs)) tapes_equal ha.states

  -- the arcs of both
  arcs_appended : (arcs3 : List ℕ) → arcs3 ≡ splice (arc_size * one.arcs) (rewritten (raised_arc one.states) two.arcs (drop (arc_size * one.arcs) arcs2)) arcs2
      → arcs3 ≡ overwrite (encode_arcs (appended A B)) old_arcs
  arcs_appended arcs3 e =
      let x = encode_arcs A in
      let y = encode_arcs B in
      let z = rewritten (raised_arc one.states) two.arcs (drop (arc_size * one.arcs) arcs2) in
      let lx = arcs_length one A wa ha in
      let ly = arcs_length two B wb hb in
      let lz : length z ≡ arc_size * two.arcs = length_rewritten (raised_arc one.states) (length_raised_arc one.states) two.arcs (drop (arc_size * one.arcs) arcs2)
      (omega (arith, length-drop (arc_size * one.arcs) arcs2, second_length, p.arcs_fit)) in
      let f : arcs3 ≡ splice (arc_size * one.arcs) z arcs1 =
      e ∙ ap (splice (arc_size * one.arcs) z) second_arcs ∙ splice-twice (arc_size * one.arcs) y z arcs1 (ly ∙ sym lz) (omega (arith, ly, first_length, p.arcs_fit)) in
      splice-behind 0 (arc_size * one.arcs) x z old_arcs arcs1 arcs3 first_arcs f (omega (arith, lx)) (omega (arith, lx, lz, p.arcs_fit))
      ∙ ap (λ (u : List ℕ). splice 0 (x ++ u) old_arcs) second_raised
      ∙ ap (λ (u : List ℕ). splice 0 u old_arcs) (sym (write_all_append (arc_record A.tapes (length (A.states ++ B.states))).write A.arcs (map (shifted (length A.states)) B.arcs)))
      ∙ splice_front (encode_arcs (appended A B)) old_arcs

  -- the union stands there
  pub union-made : (by : ℕ) (arcs3 : List ℕ) → by ≡ one.states
      → arcs3 ≡ splice (arc_size * one.arcs) (rewritten (raised_arc by) two.arcs (drop (arc_size * one.arcs) arcs2)) arcs2
      → made_of (ok (record { tapes = one.tapes; states = one.states + two.states; arcs = one.arcs + two.arcs })) states2 arcs3 ≡ put (ok (appended A B)) (slices_of old_states old_arcs)
  union-made by arcs3 b e =
      let s : one.states + two.states ≡ length (A.states ++ B.states) = ap₂ (λ (i k : ℕ). i + k) ha.states hb.states ∙ sym (length-append A.states B.states) in
      let a : one.arcs + two.arcs ≡ length (A.arcs ++ map (shifted (length A.states)) B.arcs) =
      ap₂ (λ (i k : ℕ). i + k) ha.arcs (hb.arcs ∙ sym (length-map B.arcs (shifted (length A.states)))) ∙ sym (length-append A.arcs (map (shifted (length A.states)) B.arcs)) in
      let f = arcs_appended arcs3 (e ∙ ap (λ (k : ℕ). splice (arc_size * one.arcs) (rewritten (raised_arc k) two.arcs (drop (arc_size * one.arcs) arcs2)) arcs2) b) in
      (λ i. made_of (ok (record { tapes = ha.tapes i; states = s i; arcs = a i })) (states_appended i) (f i)) ∙ sym (put-ok (slices_of old_states old_arcs) (appended A B))

-- ---- the judgement

module _ (one two : Memory) (space : Space) where
  -- the first table is refused
  pub union-first_judged : (n : ℕ) → refused n ≡ forget (decode_table one) → refused n ≡ forget (union_answer one two space)
  unfolding union_answer
  union-first_judged n e = next-refused (decode_table one) (λ A. decode_table two >>= λ B. union space A B) n e

  module _ (e : ok tt ≡ forget (decode_table one)) where
    one_sound : Sound one
    one_sound = judged_sound one (sym e)

    one_is : union_answer one two space ≡ (decode_table two >>= λ B. union space (table_of one) B)
    unfolding union_answer
    one_is = ap (λ (a : Answer (Automaton ℕ)). a >>= λ A. decode_table two >>= λ B. union space A B) (sound_decoded one one_sound)

    -- the second is
    pub union_second_judged : (n : ℕ) → refused n ≡ forget (decode_table two) → refused n ≡ forget (union_answer one two space)
    union_second_judged n f = next-refused (decode_table two) (λ B. union space (table_of one) B) n f ∙ ap forget (sym one_is)

    module _ (f : ok tt ≡ forget (decode_table two)) where
      two_sound : Sound two
      two_sound = judged_sound two (sym f)

      two_is : union_answer one two space ≡ union space (table_of one) (table_of two)
      two_is = one_is ∙ ap (λ (a : Answer (Automaton ℕ)). a >>= λ B. union space (table_of one) B) (sound_decoded two two_sound)

      -- the counts of both are small
      pub sums_small : (one.states + two.states ≤ 2048) × (one.arcs + two.arcs ≤ 16384)
      sums_small = (
        omega (arith, few_states one one_sound, few_states two two_sound),
        omega (arith, few_arcs one one_sound, few_arcs two two_sound),
      )

      -- the tape counts are unequal
      pub union_tapes_judged : (one.tapes ≡ two.tapes → ⊥) → refused refusal.tape ≡ forget (union_answer one two space)
      union_tapes_judged n =
          let d : eqb (table_of one).tapes (table_of two).tapes ≡ false =
          ap₂ eqb (sym (sound_holds one one_sound).tapes) (sym (sound_holds two two_sound).tapes) ∙ ne_eqb one.tapes two.tapes n in
          sym (ap forget (two_is ∙ union-tape space (table_of one) (table_of two) d))

      -- the space decides
      pub union-space_judged : one.tapes ≡ two.tapes → (r : Answer (Unit {0})) → r ≡ fitting (one.states + two.states) (one.arcs + two.arcs) space → r ≡ forget (union_answer one two space)
      union-space_judged n r z =
          let P = table_of one in
          let Q = table_of two in
          let s = sound_holds one one_sound in
          let t = sound_holds two two_sound in
          let d : eqb P.tapes Q.tapes ≡ true = ap₂ eqb (sym s.tapes) (sym t.tapes) ∙ eq-eqb one.tapes two.tapes n in
          let x : one.states + two.states ≡ length (P.states ++ Q.states) = ap₂ (λ (i k : ℕ). i + k) s.states t.states ∙ sym (length-append P.states Q.states) in
          let y : one.arcs + two.arcs ≡ length (P.arcs ++ map (shifted (length P.states)) Q.arcs) =
          ap₂ (λ (i k : ℕ). i + k) s.arcs (t.arcs ∙ sym (length-map Q.arcs (shifted (length P.states)))) ∙ sym (length-append P.arcs (map (shifted (length P.states)) Q.arcs)) in
          z ∙ ap₂ (λ (i k : ℕ). fitting i k space) x y ∙ fitted_counts space (appended P Q) ∙ sym (ap forget (two_is ∙ union-passed space P Q d))

-- ---- what a judgement tells

-- two tables that were read, with equal tape counts and a union that fits
union_parts : (one two : Memory) (states arcs : ℕ) (P Q U : Automaton ℕ) → decode_table one ≡ ok P → decode_table two ≡ ok Q → P.tapes ≡ Q.tapes
    → length (appended P Q).states ≤ state_cap (lent_space (states / state_size) (arcs / arc_size)) → length (appended P Q).arcs ≤ arc_cap (lent_space (states / state_size) (arcs / arc_size)) → appended P Q ≡ U
    → Appends one two states arcs × (U ≡ appended (table_of one) (table_of two))
union_parts one two states arcs P Q U d e t f g u =
    let s = sound one P d in
    let r = sound two Q e in
    let p : table_of one ≡ P = table_of_is one P d in
    let q : table_of two ≡ Q = table_of_is two Q e in
    let k = sound_holds one s in
    let l = sound_holds two r in
    let n₁ : one.states ≡ length P.states = k.states ∙ ap (λ (R : Automaton ℕ). length R.states) p in
    let n₂ : two.states ≡ length Q.states = l.states ∙ ap (λ (R : Automaton ℕ). length R.states) q in
    let i₁ : one.arcs ≡ length P.arcs = k.arcs ∙ ap (λ (R : Automaton ℕ). length R.arcs) p in
    let i₂ : two.arcs ≡ length Q.arcs = l.arcs ∙ ap (λ (R : Automaton ℕ). length R.arcs) q in
    let x = length-append P.states Q.states in
    let y = length-append P.arcs (map (shifted (length P.states)) Q.arcs) in
    let z = length-map Q.arcs (shifted (length P.states)) in (
      record {
        first_sound = s;
        second_sound = r;
        equal_tapes = k.tapes ∙ ap (λ (R : Automaton ℕ). R.tapes) p ∙ t ∙ sym (l.tapes ∙ ap (λ (R : Automaton ℕ). R.tapes) q);
        few_states = omega (arith, n₁, n₂, x, f);
        few_arcs = omega (arith, i₁, i₂, y, z, g);
        states_fit = omega (arith, n₁, n₂, x, f);
        arcs_fit = omega (arith, i₁, i₂, y, z, g);
      },
      sym u ∙ ap₂ appended (sym p) (sym q),
    )

-- what an answer tells
union-answered : (one two : Memory) (states arcs : ℕ) (U : Automaton ℕ) → union_answer one two (lent_space (states / state_size) (arcs / arc_size)) ≡ ok U
    → Appends one two states arcs × (U ≡ appended (table_of one) (table_of two))
unfolding union_answer union
union-answered one two states arcs U a =
    let space = lent_space (states / state_size) (arcs / arc_size) in
    let (P, d, a₁) = bind_ok (decode_table one) (λ P. decode_table two >>= λ Q. union space P Q) U a in
    let (Q, e, a₂) = bind_ok (decode_table two) (λ Q. union space P Q) U a₁ in
    let (t, a₃) = judge-ok (eqb P.tapes Q.tapes) refusal.tape (fitted space (appended P Q)) U a₂ in
    let (f, g, u) = fitted-ok space (appended P Q) U a₃ in
    union_parts one two states arcs P Q U d e (eqb→eq P.tapes Q.tapes t) f g u

-- ---- the whole call

module _ (one two : Memory) (old_states old_arcs : List ℕ) where
  -- a refusal
  pub union-refused : (n : ℕ) → refused n ≡ forget (union_answer one two (lent_space (length old_states / state_size) (length old_arcs / arc_size)))
      → made_of (refused n) old_states old_arcs ≡ union_outcome one two (slices_of old_states old_arcs)
  unfolding union_outcome
  union-refused n e =
      let s = slices_of old_states old_arcs in
      sym (put_refused s n) ∙ ap (λ (a : Answer (Automaton ℕ)). put a s) (sym (forget-refused (union_answer one two (space_of s)) n (sym e)))

  module _ (e : ok tt ≡ forget (union_answer one two (lent_space (length old_states / state_size) (length old_arcs / arc_size)))) where
    -- what the judgement told
    union-told : Appends one two (length old_states) (length old_arcs)
        × (union_answer one two (lent_space (length old_states / state_size) (length old_arcs / arc_size)) ≡ ok (appended (table_of one) (table_of two)))
    union-told =
        let (U, a) = forget-ok (union_answer one two (lent_space (length old_states / state_size) (length old_arcs / arc_size))) (sym e) in
        let t = union-answered one two (length old_states) (length old_arcs) U a in
        (t.0, a ∙ ap ok t.1)

    -- what the copies ask
    pub union_ready : Appends one two (length old_states) (length old_arcs)
    union_ready = union-told.0

    -- and what they leave
    pub union_done : (r : Answer TableCounts) (states arcs : List ℕ) → made_of r states arcs ≡ put (ok (appended (table_of one) (table_of two))) (slices_of old_states old_arcs)
        → made_of r states arcs ≡ union_outcome one two (slices_of old_states old_arcs)
    unfolding union_outcome
    union_done r states arcs f = f ∙ ap (λ (a : Answer (Automaton ℕ)). put a (slices_of old_states old_arcs)) (sym union-told.1)
