-- The arcs as relaxation reads them: source, target, and the lengths of the labels on two tapes.
use Rattle.std.specs.Prelude.{ℕ, zero, suc, ◌+◌, ◌-◌, ◌*◌, ◌<◌, ◌≤◌, min, Bool, true, false, List, [], ◌∷◌, eqb, ltb, length, get_or, ◌≡◌}
use Rattle.table.specs.Region.{part, splice}
use Rattle.table.specs.Endian.{le, to_le}
use Rattle.table.specs.Arcs.{source_at, target_at, label_place}
use Rattle.automata.specs.Lists.{if}
use Rattle.automata.specs.Graph.{Graph}
use Rattle.automata.specs.Rounds.{iterate}
use Rattle.automata.specs.InPlace.{round_in_place}
use Rattle.automata.specs.Closing.{origin, endless, missing}
use Rattle.automata.specs.Layout.{arc_size, delays_size, state_size, final_place}
use Rattle.delays_relaxation.specs.declared.Edge.{Edge}
use Rattle.delays_relaxation.specs.Vector.{vector, Frame}

-- the arc record at place at, read on the tapes first and second, counted from 0, and backwards where reversed
abbrev pub edge_at : Bool → ℕ → ℕ → ℕ → List ℕ → Edge
edge_at reversed first second at arcs = record {
  source = if reversed (target_at at arcs) (source_at at arcs);
  target = if reversed (source_at at arcs) (target_at at arcs);
  up = get_or arcs (label_place at first) 0;
  down = get_or arcs (label_place at second) 0;
}

-- the n arc records from place at
unfoldable pub edges : Bool → ℕ → ℕ → ℕ → ℕ → List ℕ → List Edge
edges reversed first second at zero arcs = []
edges reversed first second at (suc n) arcs = edge_at reversed first second at arcs ∷ edges reversed first second (at + arc_size) n arcs

abbrev pub edge_graph : List Edge → Graph Edge
edge_graph es = record { source = λ e. e.source; target = λ e. e.target; arcs = es }

-- the edges join states below n
unfoldable pub Joined : ℕ → List Edge → Type 0
Joined n [] = Unit {0}
Joined n (e ∷ es) = (e.source < n) × (e.target < n) × Joined n es

-- what a round on two tapes asks of the arc records: they are wholly lent, the tapes are of eight, and the arcs join n
-- states
pub record ReadableArcs (n : ℕ) (arcs : List ℕ) (count : ℕ) (reversed : Bool) (first second : ℕ) : Type 0 where
  pub lent : arc_size * count ≤ length arcs
  pub first_tape : first < 8
  pub second_tape : second < 8
  pub joined : Joined n (edges reversed first second 0 count arcs)

-- what relaxation asks of a table: the records of n states and of the arcs are wholly lent, and the arcs join these
-- states
pub record Readable (bytes : List ℕ) (n : ℕ) (arcs : List ℕ) (count : ℕ) : Type 0 where
  pub states_lent : state_size * n ≤ length bytes
  pub arcs_lent : arc_size * count ≤ length arcs
  pub joined : Joined n (edges false 0 0 0 count arcs)

-- the least delay through an edge, v being the one from its target on
abbrev pub through_edge : ℕ → ℕ → ℕ → ℕ
through_edge up down v = if (eqb v missing) missing (if (eqb v endless) endless (v + up - down))

-- what relaxation, or divergence, makes of the delay x where t is the one through an edge
abbrev pub improve : Bool → ℕ → ℕ → ℕ
improve diverging x t = if diverging (if (ltb t x) endless x) (min x t)

-- the same for the rounds of the definition
abbrev pub improve_edge : Bool → Edge → List ℕ → ℕ → ℕ
improve_edge diverging e old x = improve diverging x (through_edge e.up e.down (get_or old e.target missing))

-- the delays of all states after a round in place
abbrev pub round_of : Bool → List Edge → List ℕ → List ℕ
round_of diverging es = round_in_place (edge_graph es) missing (improve_edge diverging)

-- the work space after one edge: in the vector at place at the delay of its source is improved by that of its target
unfoldable pub visited : Bool → ℕ → Edge → List ℕ → List ℕ
visited diverging at e w =
    let x : ℕ = le (part (at + delays_size * e.source) 2 w) in
    let r : ℕ = improve diverging x (through_edge e.up e.down (le (part (at + delays_size * e.target) 2 w))) in
    if (eqb r x) w (splice (at + delays_size * e.source) (to_le 2 r) w)

-- and after several, the last one first
unfoldable pub swept : Bool → ℕ → List Edge → List ℕ → List ℕ
swept diverging at [] w = w
swept diverging at (e ∷ es) w = visited diverging at e (swept diverging at es w)

-- the delay that a state starts with, by its flag for a weight
abbrev pub start_of : ℕ → ℕ
start_of flag = if (eqb flag 0) missing origin

-- the place of this flag in a state record: that for a final weight, and that for an initial weight where reversed
abbrev pub flag_place : Bool → ℕ
flag_place reversed = if reversed 0 final_place

-- the delays that n states start with, from their records from place from
unfoldable pub starts : Bool → ℕ → ℕ → List ℕ → List ℕ
starts reversed from zero bytes = []
starts reversed from (suc n) bytes = start_of (get_or bytes (from + flag_place reversed) 0) ∷ starts reversed (from + state_size) n bytes

-- the work space with these delays in the vector at place at
unfoldable pub started : Bool → ℕ → ℕ → ℕ → List ℕ → List ℕ → List ℕ
started reversed at from zero bytes w = w
started reversed at from (suc n) bytes w =
    started reversed (at + delays_size) (from + state_size) n bytes (splice at (to_le 2 (start_of (get_or bytes (from + flag_place reversed) 0))) w)

-- the vector at place at holds the delays xs, and nothing else changed from v to w
pub record Filled (at n : ℕ) (xs w v : List ℕ) : Type 0 where
  pub holds : vector at n w ≡ xs
  pub frame : Frame at 2 n w v

-- the delays after as many rounds as there are states
abbrev pub rounds_of : Bool → List Edge → ℕ → List ℕ → List ℕ
rounds_of diverging es n xs = iterate n (round_of diverging es) xs

-- the delays after as many rounds of relaxation, and then as many of divergence
abbrev pub both_rounds : List Edge → ℕ → List ℕ → List ℕ
both_rounds es n xs = rounds_of true es n (rounds_of false es n xs)
