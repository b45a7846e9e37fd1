-- What the answers of a line stand for, and what a text is judged by, line by line.
use Rattle.std.specs.Prelude.{Result, Ok, Err, List, ℕ, length}
use Rattle.automata.specs.Automaton.{State, Arc}
use Rattle.automata.specs.Answer.{◌>>=◌, Answer, ok, refused, require, beside, forget}
use Rattle.automata.specs.Refusal.{size, form}
use Rattle.automata.specs.Table.{counts_fit}
use Rattle.automata.specs.Sequence.{read_first, read_many}
use Rattle.automata.specs.TableText.{is_empty, header_line, state_line, arc_line, read_table}
use Rattle.table.specs.Answers.{refusal_number}
use Rattle.table.specs.declared.answer.Counts.{Counts}
use Rattle.table.specs.declared.answer.Refusal.{Refusal}

-- ---- the line of a state

-- the state in the 21 places of a list
unfoldable pub read_state_line : List ℕ → Answer (State ℕ)
read_state_line x = state_line.read x

-- ---- the line of an arc

-- the parts of the line, side by side
abbrev pub arc_parts : {L : Type 0} → Answer ℕ → Answer ℕ → Answer ℕ → Answer L → Answer (Unit {0}) → Answer ((ℕ × (ℕ × (ℕ × L))) × Unit {0})
arc_parts source target weight labels end = beside (beside source (beside target (beside weight labels))) end

-- the arc of a table with so many tapes and states, in the places of a list
unfoldable pub read_arc_line : ℕ → ℕ → List ℕ → Answer (Arc ℕ)
read_arc_line tapes states x = (arc_line tapes states).read x

-- ---- the header

-- the counts read from a header, or its refusal
abbrev pub HeaderLine : Type 0
HeaderLine = Result Counts Refusal

-- what it stands for: the counts, or the number of the refusal
abbrev pub header_as : HeaderLine → Answer (ℕ × (ℕ × ℕ))
header_as (Ok c) = ok (c.tapes, (c.states, c.arcs))
header_as (Err r) = refused (refusal_number r)

-- the counts in the 16 places of a list
unfoldable pub read_header : List ℕ → Answer (ℕ × (ℕ × ℕ))
read_header x = header_line.read x

-- counts in range, behind columns that are fine
abbrev pub counts_judged : Answer (Unit {0}) → ℕ → ℕ → ℕ → Answer (Unit {0})
counts_judged columns tapes states arcs = columns >>= λ t. require (counts_fit tapes states arcs) size

-- ---- a text, line by line: nothing but the refusals

-- the first line of a text, and the first n lines, as states
unfoldable pub first_state : List ℕ → Answer (Unit {0})
first_state x = forget (read_first state_line x)

unfoldable pub states_judged : ℕ → List ℕ → Answer (Unit {0})
states_judged n x = forget (read_many state_line n x)

-- and as arcs of a table with so many tapes and states
unfoldable pub first_arc : ℕ → ℕ → List ℕ → Answer (Unit {0})
first_arc tapes states x = forget (read_first (arc_line tapes states) x)

unfoldable pub arcs_judged : ℕ → ℕ → ℕ → List ℕ → Answer (Unit {0})
arcs_judged tapes states n x = forget (read_many (arc_line tapes states) n x)

-- what follows the header: n states, m arcs, and nothing more
unfoldable pub body_judged : ℕ → ℕ → ℕ → List ℕ → Answer (Unit {0})
body_judged tapes n m x = read_many state_line n x >>= λ states. read_many (arc_line tapes n) m states.1 >>= λ arcs. require (is_empty arcs.1) form

-- the counts of the table that a text describes, or its first refusal, where so many states and arcs are lent
unfoldable pub read_counts : ℕ → ℕ → List ℕ → Answer (ℕ × (ℕ × ℕ))
read_counts states arcs x = read_table states arcs x >>= λ t. ok (t.tapes, (length t.states, length t.arcs))
