-- The steps of a join after its product: what is kept is a table of which the second tapes can be dropped, and a
-- refusal ends the steps.
use Prim.Native.Nat.{ℕ, ◌≤◌}
use mathlib.Core.Path.{◌≡◌, refl, sym, ap, subst, ◌∙◌}
use mathlib.Core.List.{List}
use lib.ListN.{length}
use Rattle.automata.specs.Answer.{◌>>=◌, Answer, ok, refused}
use Rattle.automata.specs.Automaton.{Automaton}
use Rattle.automata.specs.Table.{WellFormed}
use Rattle.automata.specs.TapePair.{tapes_of}
use Rattle.automata.specs.Tapes.{seconds, place_after}
use Rattle.automata.specs.Memory.{Memory, table_of, decode_table}
use Rattle.automata.specs.IntersectCall.{intersect_on}
use Rattle.automata.specs.Calls.Outcome.{Slices, TableCounts, lent_table, Made, space_of, put, made_of, slices_of, given, and_then}
use Rattle.automata.specs.Calls.JoinSteps.{intersect_step, drop_step}
use Rattle.automata.proofs.CallFacts.{decode_put, put_gave, given-ok, and_then_refused, and_then_given}
use Rattle.automata.proofs.SoundFacts.{sound, sound_decoded, sound_well_formed, sound_holds}
use Rattle.laws.proofs.Results
use Rattle.table.specs.declared.answer.Counts.{Counts}
use Rattle.table.specs.declared.pair.PairList.{PairList}
use Rattle.table.specs.Answers.{counts_as, lent}
use Rattle.table.specs.Pairs.{pairs_as, Named}
use Rattle.intersect_room.specs.declared.room.Room.{Room}
use Rattle.join_steps.specs.Steps.{SecondsDroppable, Keepable}

-- ---- a table that a step made

-- the table in memory is the one that was made
pub record MadeTable (r : Answer (Automaton ℕ)) (m : Memory) : Type 0 where
  pub automaton : Automaton ℕ
  pub gave : r ≡ ok automaton
  pub tapes : m.tapes ≡ automaton.tapes
  pub states : m.states ≡ length automaton.states
  pub decoded : WellFormed automaton → decode_table m ≡ ok automaton

pub made_table : (r : Answer (Automaton ℕ)) (s : Slices) (c : TableCounts) (states arcs : List ℕ) → made_of (ok c) states arcs ≡ put r s
    → MadeTable r (lent_table c (slices_of states arcs))
made_table r s c states arcs e =
    let g = put_gave r s (lent_table c (slices_of states arcs)) (ap given (sym e) ∙ given-ok (made_of (ok c) states arcs) c refl) in
    record {
      automaton = g.0;
      gave = g.1;
      tapes = ap (λ (m : Memory). m.tapes) (sym g.2);
      states = ap (λ (m : Memory). m.states) (sym g.2);
      decoded = λ w. ap decode_table (sym g.2) ∙ decode_put g.0 w s;
    }

-- ---- after the auto-intersection
module _ (m : Memory) (pairs : PairList) (room : Room) (for_states for_arcs work : ℕ) (x : Keepable m pairs room for_states for_arcs work) (s : Slices) where
  -- the steps that are left
  abbrev next : Memory → Slices → Made
  next K left = drop_step K (seconds (tapes_of (pairs_as pairs))) left

  abbrev step : Made
  step = intersect_step m (pairs_as pairs) s

  -- a refusal ends them
  pub keep_refused : (n : ℕ) (states arcs : List ℕ) → made_of (refused n) states arcs ≡ step → made_of (refused n) states arcs ≡ and_then step next
  keep_refused n states arcs e = e ∙ sym (and_then_refused step next n (ap (λ (o : Made). o.answer) (sym e)))

  -- what is kept is a table, of which the second tapes can be dropped
  pub kept_droppable : (c : Counts) (states arcs : List ℕ) → made_of (ok (counts_as c)) states arcs ≡ step → SecondsDroppable (lent c states arcs) pairs
  unfolding intersect_step
  kept_droppable c states arcs e =
      let i = x.keeps in
      let e' : made_of (ok (counts_as c)) states arcs ≡ put (intersect_on (space_of s) (pairs_as pairs) (table_of m)) s =
      e ∙ ap (λ (r : Answer (Automaton ℕ)). put (r >>= λ P. intersect_on (space_of s) (pairs_as pairs) P) s) (sound_decoded m i.sound) in
      let t = made_table (intersect_on (space_of s) (pairs_as pairs) (table_of m)) s (counts_as c) states arcs e' in
      let w = (Results.intersected (space_of s) (pairs_as pairs) (table_of m) t.automaton (sound_well_formed m i.sound) t.gave).well_formed in
      let same : m.tapes ≡ c.tapes =
      (sound_holds m i.sound).tapes ∙ sym (t.tapes ∙ Results.intersected_tapes (space_of s) (pairs_as pairs) (table_of m) t.automaton t.gave) in
      record {
        sound = sound (lent c states arcs) t.automaton (t.decoded w);
        named = subst (λ (k : ℕ). Named k pairs) same i.named;
        left = subst (λ (k : ℕ). 1 ≤ place_after (seconds (tapes_of (pairs_as pairs))) k) same x.left;
      }

  -- dropping them ends the steps
  pub keep_dropped : (c : Counts) (states arcs : List ℕ) (o : Made) → made_of (ok (counts_as c)) states arcs ≡ step
      → o ≡ drop_step (lent c states arcs) (seconds (tapes_of (pairs_as pairs))) (slices_of states arcs) → o ≡ and_then step next
  keep_dropped c states arcs o e z =
      z ∙ sym (and_then_given (made_of (ok (counts_as c)) states arcs) next (counts_as c) refl) ∙ ap (λ (p : Made). and_then p next) e
