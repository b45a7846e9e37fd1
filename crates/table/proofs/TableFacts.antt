-- The judgement of a table: its counts, its states, its arcs, one after the other.
use mathlib.Core.Path.{◌≡◌, refl, sym, ap, ◌∙◌}
use mathlib.Core.Bool.{Bool, true, false, not}
use mathlib.Core.List.{List}
use Prim.Native.Nat.{ℕ, ◌+◌, ◌-◌, ◌≤◌, ◌<◌}
use native.Mathlib.Omega.{arith}
use lib.Dec.{leb}
use lib.ListN.{length, take, drop}
use borrow.Author.Tests.{not-true, not-false, leb-true}
use Rattle.automata.specs.Lists.{and}
use Rattle.automata.specs.Table.{counts_fit}
use Rattle.automata.specs.Answer.{◌>>=◌, Answer, ok, refused, forget}
use Rattle.automata.specs.Automaton.{State, Arc, Automaton}
use Rattle.automata.specs.Sequence.{read_many, read_all}
use Rattle.automata.specs.Memory.{state_record, arc_record, Memory, Sound, decode_table}
use Rattle.automata.proofs.AnswerFacts.{refused≢ok, forget_map}
use Rattle.automata.proofs.SoundFacts.{sound}
use Rattle.automata.proofs.MemoryFacts.{arc_record-width}
use Rattle.automata.proofs.TestFacts.{and_true}
use Rattle.automata.specs.Layout.{arc_size, state_size}
use Rattle.table.specs.Judging.{read_state, read_arc, first_state, states_judged, first_arc, arcs_judged}
use Rattle.table.specs.Region.{part}
use Rattle.table.proofs.AnswerFacts.{forget-ok}
use Rattle.table.proofs.SequenceFacts.{many_stop, many_none, at_short, at_value, at_next}

-- counts in range have at most eight tapes
pub tapes_fit : (tapes states arcs : ℕ) (b : Bool) → b ≡ counts_fit tapes states arcs → not b ≡ false → tapes ≤ 8
tapes_fit tapes states arcs b e f =
    let c = and_true (and (leb 1 tapes) (leb tapes 8)) (and (leb states 1024) (leb arcs 8192)) (sym e ∙ not-false b f) in
    leb-true tapes 8 (and_true (leb 1 tapes) (leb tapes 8) c.0).1

-- ---- the records of states, one after the other
module _ (x : List ℕ) (at : ℕ) (h : at ≤ length x) where
  -- a record that the list does not wholly hold
  pub state-short : length x - at < state_size → refused 1 ≡ first_state (drop at x)
  unfolding first_state
  state-short k = at_short state_record state_size refl x at h k

  -- one that it holds
  pub state_judged : (j : Answer (Unit {0})) → state_size ≤ length x - at → j ≡ forget (read_state (part at state_size x)) → j ≡ first_state (drop at x)
  unfolding first_state read_state part
  state_judged j k e = e ∙ at_value state_record state_size refl x at h k

  module _ (left : ℕ) (p : 0 < left) (j : Answer (Unit {0})) (e : j ≡ first_state (drop at x)) where
    -- a refusal ends the run
    pub states_stop : (n : ℕ) → j ≡ refused n → j ≡ states_judged left (drop at x)
    unfolding first_state states_judged
    states_stop n f = f ∙ many_stop state_record (drop at x) left n p (sym e ∙ f)

    -- behind a record that is fine the rest counts
    pub states_next : j ≡ ok tt → (at + state_size ≤ length x) × (states_judged (left - 1) (drop (at + state_size) x) ≡ states_judged left (drop at x))
    unfolding first_state states_judged
    states_next f = at_next state_record state_size refl x at h left p (sym e ∙ f)

-- none left
pub states_done : (n : ℕ) (x : List ℕ) → n ≡ 0 → ok tt ≡ states_judged n x
unfolding states_judged
states_done n x e = many_none state_record x n e

-- ---- and those of arcs
module _ (tapes states : ℕ) (w : tapes ≤ 8) (x : List ℕ) (at : ℕ) (h : at ≤ length x) where
  -- a record that the list does not wholly hold
  pub arc-short : length x - at < arc_size → refused 1 ≡ first_arc tapes states (drop at x)
  unfolding first_arc
  arc-short k = at_short (arc_record tapes states) arc_size (arc_record-width tapes states w) x at h k

  -- one that it holds
  pub arc_judged : (j : Answer (Unit {0})) → arc_size ≤ length x - at → j ≡ forget (read_arc tapes states (take (at + arc_size - at) (drop at x))) → j ≡ first_arc tapes states (drop at x)
  unfolding first_arc read_arc
  arc_judged j k e =
      let n : at + arc_size - at ≡ arc_size = omega arith in
      e ∙ ap (λ (i : ℕ). forget (read_arc tapes states (take i (drop at x)))) n ∙ at_value (arc_record tapes states) arc_size (arc_record-width tapes states w) x at h k

  module _ (left : ℕ) (p : 0 < left) (j : Answer (Unit {0})) (e : j ≡ first_arc tapes states (drop at x)) where
    -- a refusal ends the run
    pub arcs_stop : (n : ℕ) → j ≡ refused n → j ≡ arcs_judged tapes states left (drop at x)
    unfolding first_arc arcs_judged
    arcs_stop n f = f ∙ many_stop (arc_record tapes states) (drop at x) left n p (sym e ∙ f)

    -- behind a record that is fine the rest counts
    pub arcs_next : j ≡ ok tt → (at + arc_size ≤ length x) × (arcs_judged tapes states (left - 1) (drop (at + arc_size) x) ≡ arcs_judged tapes states left (drop at x))
    unfolding first_arc arcs_judged
    arcs_next f = at_next (arc_record tapes states) arc_size (arc_record-width tapes states w) x at h left p (sym e ∙ f)

-- none left
pub arcs_done : (tapes states n : ℕ) (x : List ℕ) → n ≡ 0 → ok tt ≡ arcs_judged tapes states n x
unfolding arcs_judged
arcs_done tapes states n x e = many_none (arc_record tapes states) x n e

-- ---- the whole table
module _ (m : Memory) (b : Bool) (e : b ≡ counts_fit m.tapes m.states m.arcs) where
  -- counts out of range
  pub table_counts : not b ≡ true → refused 3 ≡ forget (decode_table m)
  unfolding decode_table
  table_counts f = rw (← e, not-true b f)

  -- where they are in range, the states count, and behind states that are fine the arcs
  table_is : not b ≡ false → forget (decode_table m) ≡ forget (read_all state_record m.states m.state_bytes >>= λ s. read_all (arc_record m.tapes m.states) m.arcs m.arc_bytes)
  unfolding decode_table
  table_is f = rw (← e, not-false b f) (go (read_all state_record m.states m.state_bytes) (read_all (arc_record m.tapes m.states) m.arcs m.arc_bytes))
    where
      go : (s : Answer (List (State ℕ))) (a : Answer (List (Arc ℕ)))
          → forget {A = Automaton ℕ} (s >>= λ states. a >>= λ arcs. ok (record { tapes = m.tapes; states = states; arcs = arcs })) ≡ forget (s >>= λ states. a)
      go (ok s) a = forget_map a (λ arcs. record { tapes = m.tapes; states = s; arcs = arcs })
      go (refused n) a = refl

  module _ (f : not b ≡ false) (j : Answer (Unit {0})) (g : j ≡ states_judged m.states m.state_bytes) where
    -- the judgement of the states is that of reading them all
    all_states : j ≡ forget (read_all state_record m.states m.state_bytes)
    unfolding states_judged
    all_states = g ∙ sym (forget_map (read_many state_record m.states m.state_bytes) (λ p. p.0))

    -- states that are refused
    pub table_states : (n : ℕ) → j ≡ refused n → j ≡ forget (decode_table m)
    table_states n h = h ∙ sym (table_is f ∙ go (read_all state_record m.states m.state_bytes) (read_all (arc_record m.tapes m.states) m.arcs m.arc_bytes) (sym all_states ∙ h))
      where
        go : (s : Answer (List (State ℕ))) (a : Answer (List (Arc ℕ))) → forget s ≡ refused n → forget (s >>= λ states. a) ≡ refused n
        go (ok s) a k = absurd (refused≢ok (sym k))
        go (refused i) a k = k

    -- states that are fine
    pub table_arcs : j ≡ ok tt → (k : Answer (Unit {0})) → k ≡ arcs_judged m.tapes m.states m.arcs m.arc_bytes → k ≡ forget (decode_table m)
    unfolding arcs_judged
    table_arcs h k p =
        let s = forget-ok (read_all state_record m.states m.state_bytes) (sym all_states ∙ h) in
        p ∙ sym (forget_map (read_many (arc_record m.tapes m.states) m.arcs m.arc_bytes) (λ p. p.0)) ∙ sym (table_is f ∙ (rw s.1))

-- a table that is not refused stands in memory
pub judged_sound : (m : Memory) → forget (decode_table m) ≡ ok tt → Sound m
judged_sound m e = let s = forget-ok (decode_table m) e in sound m s.0 s.1
