-- The call that chooses tapes, by its steps.
use Prim.Native.Nat.{ℕ, zero, ◌*◌, ◌/◌, ◌≤◌, ◌<◌}
use mathlib.Core.Path.{◌≡◌, refl, sym, ap, ap₂, ◌∙◌}
use mathlib.Core.Bool.{true, false}
use mathlib.Core.List.{List, [], ◌∷◌}
use native.Mathlib.Omega.{arith}
use borrow.Author.Tests.{le-leb, lt-leb}
use lib.Dec.{T, leb, leb→le, ltb}
use lib.ListN.{length, take, length-map}
use lib.Seq.{take_all}
use Rattle.automata.specs.Refusal as refusal
use Rattle.automata.specs.Lists.{all}
use Rattle.automata.specs.Answer.{◌>>=◌, Answer, ok, refused, forget}
use Rattle.automata.specs.Space.{Space}
use Rattle.automata.specs.Automaton.{Automaton}
use Rattle.automata.specs.Memory.{Memory, Sound, memory_of, decode_table, table_of}
use Rattle.automata.specs.Tapes.{chosen}
use Rattle.automata.specs.Projection.{is_tape, choosable, relabelled_arc, projected, project}
use Rattle.automata.specs.Calls.Project.{project_answer, project_outcome}
use Rattle.automata.specs.Calls.Outcome.{TableCounts, space_of, put, made_of, slices_of}
use Rattle.automata.proofs.RecordFacts.{All_at}
use Rattle.automata.proofs.AnswerFacts.{bind_ok, judge-ok}
use Rattle.automata.proofs.TestFacts.{T_true, true_T, and_T}
use Rattle.automata.proofs.CallTests.{project-width, project-tape, project-passed}
use Rattle.automata.proofs.CallFacts.{put_refused}
use Rattle.automata.proofs.TapeTables.{fitted-ok}
use Rattle.automata.proofs.SoundFacts.{sound, table_of_is, sound_decoded, sound_well_formed, sound_holds}
use Rattle.automata.specs.Layout.{arc_size, state_size}
use Rattle.table.specs.Region.{splice}
use Rattle.table.proofs.AnswerFacts.{forget-ok}
use Rattle.table.proofs.TableFacts.{judged_sound}
use Rattle.table.proofs.SoundFacts.{few_tapes}
use Rattle.tapes_records.specs.Choice.{Choice}
use Rattle.tapes_records.specs.Rewritten.{rewritten, chosen_arc}
use Rattle.intersect_room.specs.Room.{lent_space}
use Rattle.tapes_records.specs.Results.{fitting, Copied, Choosable}
use Rattle.tapes.proofs.TapesFacts.{Named, length_projected, chosen_in_place}
use Rattle.tapes_records.proofs.RoomFacts.{forget-refused, next-refused, fitted_counts, copied_holds, copied_put}

-- ---- the choice

-- each is one of the tapes
all_named : (n : ℕ) (js : List ℕ) → T (all (is_tape n) js) → Named n js
all_named n [] t = tt
all_named n (j ∷ js) t =
    let s = and_T (is_tape n j) (all (is_tape n) js) t in
    let u = and_T (leb 1 j) (leb j n) s.0 in
    ((leb→le 1 j u.0, leb→le j n u.1), all_named n js s.1)

pub choosable-named : (m : Memory) (js : List ℕ) → Choosable m js → Named m.tapes js
choosable-named m js c = all_named m.tapes js (and_T (ltb zero (length js)) (all (is_tape m.tapes) js) (true_T (choosable js m.tapes) c.named)).1

-- as the records ask it
pub choice_named : (m : Memory) (js : List ℕ) → Choosable m js → Choice js (length js)
choice_named m js c = record {
  lent = omega arith;
  few = c.few;
  each = λ k h.
      let v = All_at (λ j. (1 ≤ j) × (j ≤ m.tapes)) js 0 k (choosable-named m js c) h in
      let t = few_tapes m c.sound in
      (v.0, omega (arith, v.1, t));
}

-- ---- the copy
module _ (m : Memory) (js : List ℕ) (c : Choosable m js) (old_states old_arcs new_states new_arcs : List ℕ) (k : Copied m 0 0 old_states old_arcs new_states new_arcs) where
  -- chosen there, the tapes are chosen
  pub copy_chosen : (arcs : List ℕ) → state_size * m.states ≤ length old_states → arc_size * m.arcs ≤ length old_arcs
      → arcs ≡ splice 0 (rewritten (chosen_arc (take (length js) js)) m.arcs new_arcs) new_arcs
      → made_of (ok (record { tapes = length js; states = m.states; arcs = m.arcs })) new_states arcs ≡ put (ok (projected js (table_of m))) (slices_of old_states old_arcs)
  copy_chosen arcs s a e =
      let A = table_of m in
      let w = sound_well_formed m c.sound in
      let h = sound_holds m c.sound in
      let n = choosable-named m js c in
      chosen_in_place (memory_of m.tapes m.states m.arcs new_states new_arcs) A w (copied_holds m A w h old_states old_arcs new_states new_arcs k) js c.few n arcs
      (e ∙ ap (λ (x : List ℕ). splice 0 (rewritten (chosen_arc x) m.arcs new_arcs) new_arcs) (take_all (length js) js (omega arith)))
      ∙ copied_put m A w h old_states old_arcs new_states new_arcs k (projected js A) refl (length_projected m A w h js c.few n) s a

-- ---- the judgement
module _ (m : Memory) (js : List ℕ) (space : Space) where
  -- the table is refused
  pub project-table_judged : (n : ℕ) → refused n ≡ forget (decode_table m) → refused n ≡ forget (project_answer m js space)
  unfolding project_answer
  project-table_judged n e = next-refused (decode_table m) (λ A. project space js A) n e

  module _ (e : ok tt ≡ forget (decode_table m)) where
    project_sound : Sound m
    project_sound = judged_sound m (sym e)

    project_is : project_answer m js space ≡ project space js (table_of m)
    unfolding project_answer
    project_is = ap (λ (a : Answer (Automaton ℕ)). a >>= λ A. project space js A) (sound_decoded m project_sound)

    -- too many tapes are chosen
    pub project-width_judged : 8 < length js → refused refusal.width ≡ forget (project_answer m js space)
    project-width_judged l = sym (ap forget (project_is ∙ project-width space (table_of m) js (lt-leb (length js) 8 l)))

    module _ (l : length js ≤ 8) where
      -- the choice is refused
      pub project_choice_judged : false ≡ choosable js m.tapes → refused refusal.tape ≡ forget (project_answer m js space)
      project_choice_judged f =
          let d : choosable js (table_of m).tapes ≡ false = ap (choosable js) (sym (sound_holds m project_sound).tapes) ∙ sym f in
          sym (ap forget (project_is ∙ project-tape space (table_of m) js (le-leb (length js) 8 l) d))

      -- the space decides
      pub project-space_judged : true ≡ choosable js m.tapes → (r : Answer (Unit {0})) → r ≡ fitting m.states m.arcs space → r ≡ forget (project_answer m js space)
      project-space_judged f r z =
          let t = sound_holds m project_sound in
          let d : choosable js (table_of m).tapes ≡ true = ap (choosable js) (sym t.tapes) ∙ sym f in
          z ∙ ap₂ (λ (i k : ℕ). fitting i k space) t.states (t.arcs ∙ sym (length-map (table_of m).arcs (relabelled_arc (chosen js))))
          ∙ fitted_counts space (projected js (table_of m)) ∙ sym (ap forget (project_is ∙ project-passed space (table_of m) js (le-leb (length js) 8 l) d))

-- ---- the whole call

module _ (m : Memory) (js : List ℕ) (old_states old_arcs : List ℕ) where
  -- a refusal
  pub project-refused : (n : ℕ) → refused n ≡ forget (project_answer m js (lent_space (length old_states / state_size) (length old_arcs / arc_size)))
      → made_of (refused n) old_states old_arcs ≡ project_outcome m js (slices_of old_states old_arcs)
  unfolding project_outcome
  project-refused n e =
      let s = slices_of old_states old_arcs in
      sym (put_refused s n) ∙ ap (λ (a : Answer (Automaton ℕ)). put a s) (sym (forget-refused (project_answer m js (space_of s)) n (sym e)))

  module _ (e : ok tt ≡ forget (project_answer m js (lent_space (length old_states / state_size) (length old_arcs / arc_size)))) where
    -- what the judgement told
    project-told : Choosable m js × (state_size * m.states ≤ length old_states) × (arc_size * m.arcs ≤ length old_arcs)
        × (project_answer m js (lent_space (length old_states / state_size) (length old_arcs / arc_size)) ≡ ok (projected js (table_of m)))
    unfolding project_answer project
    project-told =
        let space = lent_space (length old_states / state_size) (length old_arcs / arc_size) in
        let a = forget-ok (project_answer m js space) (sym e) in
        let p = bind_ok (decode_table m) (λ A. project space js A) a.0 a.1 in
        let A = p.0 in
        let o = judge-ok (leb (length js) 8) _ _ a.0 p.2 in
        let q = judge-ok (choosable js A.tapes) _ _ a.0 o.1 in
        let f = fitted-ok space (projected js A) a.0 q.1 in
        let s = sound m A p.1 in
        let t : table_of m ≡ A = table_of_is m A p.1 in
        let k = sound_holds m s in
        let n : m.states ≡ length A.states = k.states ∙ ap (λ (B : Automaton ℕ). length B.states) t in
        let i : m.arcs ≡ length A.arcs = k.arcs ∙ ap (λ (B : Automaton ℕ). length B.arcs) t in
        let z = length-map A.arcs (relabelled_arc (chosen js)) in (
          record {
            sound = s;
            few = leb→le (length js) 8 o.0;
            named = ap (choosable js) (k.tapes ∙ ap (λ (B : Automaton ℕ). B.tapes) t) ∙ T_true (choosable js A.tapes) q.0;
          },
          omega (arith, n, f.0),
          omega (arith, i, z, f.1),
          a.1 ∙ ap ok (sym f.2 ∙ ap (projected js) (sym t)),
        )

    -- what the copy asks
    pub project_ready : Choosable m js × (state_size * m.states ≤ length old_states) × (arc_size * m.arcs ≤ length old_arcs)
    project_ready = (project-told.0, project-told.1, project-told.2)

    -- and what it leaves
    pub project_done : (r : Answer TableCounts) (states arcs : List ℕ) → made_of r states arcs ≡ put (ok (projected js (table_of m))) (slices_of old_states old_arcs)
        → made_of r states arcs ≡ project_outcome m js (slices_of old_states old_arcs)
    unfolding project_outcome
    project_done r states arcs f = f ∙ ap (λ (a : Answer (Automaton ℕ)). put a (slices_of old_states old_arcs)) (sym project-told.3)
