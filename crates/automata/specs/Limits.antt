-- The ranges of document 01, each written down here and nowhere else.
use Rattle.std.specs.Prelude.{ℕ}

-- the tapes of a table, at least 1; also the most that are chosen
abbrev pub max_tapes : ℕ
max_tapes = 8

-- the states and the arcs of a table
abbrev pub max_states : ℕ
max_states = 1024

abbrev pub max_arcs : ℕ
max_arcs = 8192

-- an initial, a final or an arc's weight
abbrev pub max_weight : ℕ
max_weight = 999999999

-- the symbols of a label, and those of a string of a tuple that is looked up
abbrev pub max_label : ℕ
max_label = 8

abbrev pub max_string : ℕ
max_string = 64

-- the pairs of tapes that a call names
abbrev pub max_pairs : ℕ
max_pairs = 4

-- the delay limit of a pair
abbrev pub max_delay : ℕ
max_delay = 64
