-- The space of a result: whether it fits, and records of a table copied into it.
use Rattle.std.specs.Prelude.{ℕ, ◌+◌, ◌*◌, ◌≤◌, ◌<◌, ◌≡◌, true, List, leb, length, take}
use Rattle.automata.specs.Refusal as refusal
use Rattle.automata.specs.Answer.{Answer, ok, judge}
use Rattle.automata.specs.Space.{Space, state_cap, arc_cap}
use Rattle.automata.specs.Lists.{All}
use Rattle.automata.specs.Records.{chunks}
use Rattle.automata.specs.Memory.{Memory, Sound}
use Rattle.automata.specs.Projection.{choosable}
use Rattle.automata.specs.Layout.{arc_size, state_size}
use Rattle.table.specs.Arcs.{source_at, target_at}
use Rattle.table.specs.Region.{splice}

-- so many states and arcs must fit the space lent (8, 9)
unfoldable pub fitting : ℕ → ℕ → Space → Answer (Unit {0})
fitting states arcs space = judge (leb states (state_cap space)) refusal.states_full (judge (leb arcs (arc_cap space)) refusal.arcs_full (ok tt))

-- the records of a table are lent, and so is room for them behind places of slices of so many bytes
pub record Copies (m : Memory) (state_at arc_at states arcs : ℕ) : Type 0 where
  pub states_lent : state_size * m.states ≤ length m.state_bytes
  pub arcs_lent : arc_size * m.arcs ≤ length m.arc_bytes
  pub states_fit : state_at + state_size * m.states ≤ states
  pub arcs_fit : arc_at + arc_size * m.arcs ≤ arcs

-- the records of a table stand behind these places now
pub record Copied (m : Memory) (state_at arc_at : ℕ) (old_states old_arcs new_states new_arcs : List ℕ) : Type 0 where
  pub states : new_states ≡ splice state_at (take (m.states * state_size) m.state_bytes) old_states
  pub arcs : new_arcs ≡ splice arc_at (take (m.arcs * arc_size) m.arc_bytes) old_arcs

-- a table of which the tapes of a list may be chosen
pub record Choosable (m : Memory) (tapes : List ℕ) : Type 0 where
  pub sound : Sound m
  pub few : length tapes ≤ 8
  pub named : choosable tapes m.tapes ≡ true

-- both states of an arc have numbers that stay below 65,536 when they are raised
abbrev pub Raisable : ℕ → List ℕ → Type 0
Raisable k arc = (k + source_at 0 arc < 65536) × (k + target_at 0 arc < 65536)

-- and so for the first n records
unfoldable pub AllRaisable : ℕ → ℕ → List ℕ → Type 0
AllRaisable k n x = All (Raisable k) (chunks arc_size n x)

-- two tables of equal tape counts, and room for both of them
pub record Appends (first second : Memory) (states arcs : ℕ) : Type 0 where
  pub first_sound : Sound first
  pub second_sound : Sound second
  pub equal_tapes : first.tapes ≡ second.tapes
  pub few_states : first.states + second.states ≤ 1024
  pub few_arcs : first.arcs + second.arcs ≤ 8192
  pub states_fit : state_size * (first.states + second.states) ≤ states
  pub arcs_fit : arc_size * (first.arcs + second.arcs) ≤ arcs
