-- Why a text or a table in memory is refused: the first line, or the first record, that does not read, with its least
-- refusal.
use Rattle.std.specs.Prelude.{◌≡◌, List, [], ℕ, suc, ◌≤◌, ◌<◌, length, take}
use Rattle.automata.specs.Refusal
use Rattle.automata.specs.Answer.{ok, refused}
use Rattle.automata.specs.Space.{Space}
use Rattle.automata.specs.Automaton.{State, Arc}
use Rattle.automata.specs.Table.{Counts}
use Rattle.automata.specs.Format.{Format}
use Rattle.automata.specs.Sequence.{read_first, read_many, read_all}
use Rattle.automata.specs.TableText.{header_line, state_line, arc_line}
use Rattle.automata.specs.Memory.{Memory, state_record, arc_record}

-- ---- one line or record, and several

-- at the front of x: fewer places are left than the format has, else they do not read
pub data FirstRefused {B A : Type 0} (f : Format B A) (x : List B) : ℕ → Type 0 where
  first_short : length x < f.width → FirstRefused f x Refusal.short
  first_unread : f.width ≤ length x → (n : ℕ) → f.read (take f.width x) ≡ refused n → FirstRefused f x n

-- of so many, one after the other: the first that is refused
pub data ManyRefused {B A : Type 0} (f : Format B A) : ℕ → List B → ℕ → Type 0 where
  many_first : (k : ℕ) (x : List B) (n : ℕ) → FirstRefused f x n → ManyRefused f (suc k) x n
  many_later : (k : ℕ) (x : List B) (p : A × List B) → read_first f x ≡ ok p → (n : ℕ) → ManyRefused f k p.1 n
      → ManyRefused f (suc k) x n

-- ---- a text

-- the header's counts of tapes, states and arcs, and what follows it, read where the space lent is enough
pub record HeaderFits (space : Space) (x : List ℕ) (c : ℕ × (ℕ × ℕ)) (y : List ℕ) : Type 0 where
  pub header : read_first header_line x ≡ ok (c, y)
  pub states : c.1.0 ≤ space.states
  pub arcs : c.1.1 ≤ space.arcs

-- why reading refuses: the header, the space after it, the lines of states, those of arcs, and what follows the last
-- line
pub data ReadRefused (space : Space) (x : List ℕ) : ℕ → Type 0 where
  read_header_lem : (n : ℕ) → FirstRefused header_line x n → ReadRefused space x n
  read_states : (c : ℕ × (ℕ × ℕ)) (y : List ℕ) → read_first header_line x ≡ ok (c, y) → space.states < c.1.0
      → ReadRefused space x Refusal.states_full
  read_arcs : (c : ℕ × (ℕ × ℕ)) (y : List ℕ) → read_first header_line x ≡ ok (c, y) → c.1.0 ≤ space.states → space.arcs < c.1.1
      → ReadRefused space x Refusal.arcs_full
  read_state-line : (c : ℕ × (ℕ × ℕ)) (y : List ℕ) → HeaderFits space x c y
      → (n : ℕ) → ManyRefused state_line c.1.0 y n → ReadRefused space x n
  read_arc-line : (c : ℕ × (ℕ × ℕ)) (y : List ℕ) → HeaderFits space x c y
      → (s : List (State ℕ) × List ℕ) → read_many state_line c.1.0 y ≡ ok s
      → (n : ℕ) → ManyRefused (arc_line c.0 c.1.0) c.1.1 s.1 n → ReadRefused space x n
  read_trailing : (c : ℕ × (ℕ × ℕ)) (y : List ℕ) → HeaderFits space x c y
      → (s : List (State ℕ) × List ℕ) → read_many state_line c.1.0 y ≡ ok s
      → (a : List (Arc ℕ) × List ℕ) → read_many (arc_line c.0 c.1.0) c.1.1 s.1 ≡ ok a
      → ¬ (a.1 ≡ []) → ReadRefused space x Refusal.form

-- ---- a table in memory

-- why a table in memory is refused: its counts, its records of states, its records of arcs
pub data TableRefused (m : Memory) : ℕ → Type 0 where
  table_counts : ¬ Counts m.tapes m.states m.arcs → TableRefused m Refusal.size
  table-state : Counts m.tapes m.states m.arcs → (n : ℕ) → ManyRefused state_record m.states m.state_bytes n → TableRefused m n
  table-arc : Counts m.tapes m.states m.arcs → (ss : List (State ℕ)) → read_all state_record m.states m.state_bytes ≡ ok ss
      → (n : ℕ) → ManyRefused (arc_record m.tapes m.states) m.arcs m.arc_bytes n → TableRefused m n
