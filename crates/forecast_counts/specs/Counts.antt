-- What a forecast counts in the work space. Each state has 64 bytes there, with numbers of two bytes, low byte first,
-- at the places named here.
use Rattle.std.specs.Prelude.{ℕ, zero, suc, ◌+◌, ◌-◌, ◌*◌, max, Bool, false, not, List, [], ◌∷◌, eqb, ltb, get_or}
use Rattle.automata.specs.Layout.{delays_size}
use Rattle.table.specs.Region.{part}
use Rattle.table.specs.Endian.{le}
use Rattle.automata.specs.Lists.{if, and, or}
use Rattle.automata.specs.Closing.{endless, missing}
use Rattle.delays_relaxation.specs.declared.Edge.{Edge}

-- ---- the places in a state's 64 bytes

-- the closing delays of the automaton: the least stands at place 0, the opposite one here
abbrev pub opposite_after : ℕ
opposite_after = 4

-- those of its reversal: the least
abbrev pub least_before : ℕ
least_before = 8

-- and the opposite one
abbrev pub opposite_before : ℕ
opposite_before = 12

-- whether a final state can be reached; missing means no
abbrev pub to_final : ℕ
to_final = 32

-- whether an initial state leads here; missing means no
abbrev pub from_initial : ℕ
from_initial = 36

-- ---- states on successful paths

-- the state whose 64 bytes start at place at lies on a successful path
abbrev pub on_path_at : ℕ → List ℕ → Bool
on_path_at at w = and (not (eqb (le (part (at + from_initial) 2 w)) missing)) (not (eqb (le (part (at + to_final) 2 w)) missing))

-- the marks of n states from place at on
unfoldable pub marks_from : ℕ → ℕ → List ℕ → List Bool
marks_from at zero w = []
marks_from at (suc n) w = on_path_at at w ∷ marks_from (at + delays_size) n w

-- ---- cycles of both signs

-- the closing delays at the places a and b are both endless
abbrev pub endless_at : ℕ → ℕ → List ℕ → Bool
endless_at a b w = and (eqb (le (part a 2 w)) endless) (eqb (le (part b 2 w)) endless)

-- cycles of both signs meet at that state (document 02, 2.1): opposite closing delays before and behind it are endless
abbrev pub both_at : ℕ → List ℕ → Bool
both_at at w = or (endless_at (at + opposite_before) at w) (endless_at (at + least_before) (at + opposite_after) w)

-- at some of n states from place at on
unfoldable pub both_from : ℕ → ℕ → List ℕ → Bool
both_from at zero w = false
both_from at (suc n) w = let rest = both_from (at + delays_size) n w in or (both_at at w) rest

-- ---- delays of arcs

-- the size of an arc's delay, by the lengths of its labels on two tapes
abbrev pub delay_size : ℕ → ℕ → ℕ
delay_size up down = max (up - down) (down - up)

-- an arc lies on a successful path: both its states do
abbrev pub arc_on_path : ℕ → ℕ → List ℕ → Bool
arc_on_path source target w = and (on_path_at (delays_size * source) w) (on_path_at (delays_size * target) w)

-- the greater of a size and a number, where the arc lies on a successful path; else the number
abbrev pub raised : Bool → ℕ → ℕ → ℕ
raised on size best = if on (max size best) best

-- the greatest size of a delay among the edges between marked states
unfoldable pub greatest_of : List Bool → List Edge → ℕ
greatest_of marks [] = zero
greatest_of marks (e ∷ es) =
    let rest = greatest_of marks es in
    raised (and (get_or marks e.source false) (get_or marks e.target false)) (delay_size e.up e.down) rest

-- ---- sums of powers

-- a number, or the cap where that is less
abbrev pub cut : ℕ → ℕ → ℕ
cut cap n = if (ltb cap n) cap n
