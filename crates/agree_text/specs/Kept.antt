-- What is kept of a table, in the space that the program lends.
use Rattle.std.specs.Prelude.{true, List, ℕ, ◌+◌, ◌*◌}
use Rattle.automata.specs.Answer.{◌>>=◌, Answer}
use Rattle.automata.specs.Limits.{max_tapes}
use Rattle.automata.specs.Layout.{arc_size, arc_width, config_size, delays_size, header_width, label_width, state_size, state_width, step_size}
use Rattle.automata.specs.Space.{Space}
use Rattle.automata.specs.Automaton.{Automaton}
use Rattle.automata.specs.TapePair.{TapePair}
use Rattle.automata.specs.Memory.{Memory, decode_table}
use Rattle.automata.specs.TableText.{read_table}
use Rattle.automata.specs.IntersectCall.{intersect_call}
use Rattle.automata.specs.AgreeText.{state_space, arc_space}

-- the space of the program
abbrev pub room : Space
room = record { states = state_space; arcs = arc_space }

-- the bytes that it lends to the states and to the arcs of a table, to the work of a build, and to the longest text
abbrev pub states_lent : ℕ
states_lent = state_space * state_size

abbrev pub arcs_lent : ℕ
arcs_lent = arc_space * arc_size

abbrev pub work_lent : ℕ
work_lent = state_space * config_size + arc_space * step_size + state_space * delays_size

abbrev pub output_lent : ℕ
output_lent = header_width + state_space * state_width + arc_space * (arc_width + max_tapes * label_width)

-- what is kept of a table in memory
unfoldable pub kept_of : Memory → List TapePair → Answer (Automaton ℕ)
kept_of m ps = decode_table m >>= λ A. intersect_call true room ps A

-- what is kept of the table that a text describes
unfoldable pub kept_text : List ℕ → List TapePair → Answer (Automaton ℕ)
kept_text text ps = read_table state_space arc_space text >>= λ A. intersect_call true room ps A
