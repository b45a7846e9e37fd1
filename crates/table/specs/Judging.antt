-- What the bytes of a table are judged by: the formats of its records read from lists of bytes.
use Rattle.std.proofs.Math.Option.{Option}
use Rattle.std.specs.Prelude.{List, ℕ}
use Rattle.automata.specs.Automaton.{State, Arc}
use Rattle.automata.specs.Answer.{Answer, forget}
use Rattle.automata.specs.Format.{read_copies}
use Rattle.automata.specs.Sequence.{read_first, read_many}
use Rattle.automata.specs.Memory.{weight_record, label_record, state_record, label_records, arc_record}

-- a weight in five bytes
unfoldable pub read_weight : List ℕ → Answer (Option ℕ)
read_weight x = weight_record.read x

-- a state in ten bytes
unfoldable pub read_state : List ℕ → Answer (State ℕ)
read_state x = state_record.read x

-- a label in nine bytes
unfoldable pub read_label : List ℕ → Answer (List ℕ)
read_label x = label_record.read x

-- so many labels side by side
unfoldable pub labels_read : ℕ → List ℕ → Answer (List (List ℕ))
labels_read n x = read_copies label_record n x

-- the bytes of an arc's labels: those of so many tapes, and zeros
unfoldable pub read_labels : ℕ → List ℕ → Answer (List (List ℕ))
read_labels tapes x = (label_records tapes).read x

-- the record of an arc of a table with so many tapes and states
unfoldable pub read_arc : ℕ → ℕ → List ℕ → Answer (Arc ℕ)
read_arc tapes states x = (arc_record tapes states).read x

-- the first record of a list, as a state
unfoldable pub first_state : List ℕ → Answer (Unit {0})
first_state x = forget (read_first state_record x)

-- its first n records, as states
unfoldable pub states_judged : ℕ → List ℕ → Answer (Unit {0})
states_judged n x = forget (read_many state_record n x)

-- the first record of a list, as an arc of a table with so many tapes and states
unfoldable pub first_arc : ℕ → ℕ → List ℕ → Answer (Unit {0})
first_arc tapes states x = forget (read_first (arc_record tapes states) x)

-- its first n records, as arcs
unfoldable pub arcs_judged : ℕ → ℕ → ℕ → List ℕ → Answer (Unit {0})
arcs_judged tapes states n x = forget (read_many (arc_record tapes states) n x)
