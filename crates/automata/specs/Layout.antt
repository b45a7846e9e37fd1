-- The sizes of records in bytes and where their parts stand, and the columns of a table's text, each written down here
-- and nowhere else.
use Rattle.std.specs.Prelude.{ℕ, ◌+◌}

-- ---- a state: its initial weight and its final weight, each a flag, which says whether it is there, and a number

abbrev pub weight_size : ℕ
weight_size = 5

abbrev pub amount_place : ℕ
amount_place = 1

abbrev pub final_place : ℕ
final_place = 5

abbrev pub state_size : ℕ
state_size = 10

-- ---- an arc: its source and its target, then its content, which is its weight and a label for each of eight tapes

abbrev pub target_place : ℕ
target_place = 2

abbrev pub content_place : ℕ
content_place = 4

abbrev pub labels_place : ℕ
labels_place = 8

-- a label: its length and eight symbols
abbrev pub label_size : ℕ
label_size = 9

abbrev pub symbols_place : ℕ
symbols_place = 1

abbrev pub labels_size : ℕ
labels_size = 72

abbrev pub labels_end : ℕ
labels_end = labels_place + labels_size

abbrev pub content_size : ℕ
content_size = 76

abbrev pub arc_size : ℕ
arc_size = 80

-- ---- work space

-- a configuration of a build, for each state of its space
abbrev pub config_size : ℕ
config_size = 320

-- a step of a build or of a product from one state to another, for each arc of its space
abbrev pub step_size : ℕ
step_size = 16

-- a state of a product, for each state of its space
abbrev pub vertex_size : ℕ
vertex_size = 16

-- the closing delays of a state, for each state of the table read
abbrev pub delays_size : ℕ
delays_size = 64

-- of each pair its least delay and, behind it, that of the pair turned round; behind those of four pairs, whether a
-- final state is reached
abbrev pub pair_delays : ℕ
pair_delays = 8

abbrev pub opposite_place : ℕ
opposite_place = 4

abbrev pub reaching_place : ℕ
reaching_place = 32

-- ---- the columns of a table's text

-- a line ends with byte 10
abbrev pub newline : ℕ
newline = 10

-- the number of tapes, the number of a state or how many states or arcs there are, a weight, a label
abbrev pub tapes_width : ℕ
tapes_width = 3

abbrev pub number_width : ℕ
number_width = 6

abbrev pub amount_width : ℕ
amount_width = 10

abbrev pub label_width : ℕ
label_width = 9

-- the first line: the numbers of tapes, states and arcs
abbrev pub arcs_column : ℕ
arcs_column = 9

abbrev pub header_end : ℕ
header_end = 15

abbrev pub header_width : ℕ
header_width = 16

-- the line of a state: its two weights
abbrev pub state_end : ℕ
state_end = 20

abbrev pub state_width : ℕ
state_width = 21

-- the line of an arc: source, target, weight, the labels, and the line's end, which is counted with what is before the
-- labels
abbrev pub weight_column : ℕ
weight_column = 12

abbrev pub labels_column : ℕ
labels_column = 22

abbrev pub arc_width : ℕ
arc_width = 23

-- ---- the first line of what the program `agree` reads

-- a number of that line: how many pairs there are, a tape or a limit
abbrev pub entry_width : ℕ
entry_width = 3

-- behind the number of pairs the pairs, each its first tape, its second tape and its limit
abbrev pub pairs_column : ℕ
pairs_column = 3

abbrev pub second_column : ℕ
second_column = 3

abbrev pub limit_column : ℕ
limit_column = 6

abbrev pub pair_width : ℕ
pair_width = 9
