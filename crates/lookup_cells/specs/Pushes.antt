-- Relaxation at one combination of positions: the arcs into a state whose labels end there may lower the weights of
-- their sources.
use Rattle.std.specs.Prelude.{◌≡◌, ◌⊎◌, ◌≢◌, Bool, true, false, List, ℕ, ◌+◌, ◌-◌, ◌*◌, ◌≤◌, ◌<◌, length, get_or}
use Rattle.std.proofs.Math.Option.{Option, none, some}
use Rattle.table.specs.Arcs.{source_of, target_of, arc_weight, labels_start}
use Rattle.table.specs.declared.answer.Counts.{Counts}
use Rattle.lookup_moves.specs.declared.spot.Spot.{Spot}
use Rattle.lookup_moves.specs.Distances.{far, cells_of, lowered, sum}
use Rattle.lookup_moves.specs.Moves.{moves_from, Laid, Labelled}
use Rattle.lookup_cells.specs.Chains.{Chained}
use Rattle.lookup_cells.specs.Queues.{count_of, Queue}
use Rattle.automata.specs.Layout.{arc_size}

-- how far back its labels lead from the combination, if they end there
abbrev pub back_by : ℕ → ℕ → List ℕ → List ℕ → Spot → Option ℕ
back_by tapes e arcs text s = moves_from tapes 0 (labels_start (arc_size * e)) 0 arcs text s

-- the cell of a state at the combination
abbrev pub cell_at : Spot → ℕ → ℕ
cell_at s q = q * s.all + s.number

-- the cell of a state so far back
abbrev pub cell_back : Spot → ℕ → ℕ → ℕ
cell_back s q k = q * s.all + (s.number - k)

-- the cells after an arc between two states that leads so far back, or does not end there
abbrev pub passed : Option ℕ → ℕ → ℕ → ℕ → Spot → List ℕ → List ℕ
passed none source target weight s xs = xs
passed (some k) source target weight s xs = lowered (cell_back s source k) (weight + get_or xs (cell_at s target) 0) xs

-- the cells after arc e
unfoldable pub pushed : ℕ → ℕ → List ℕ → List ℕ → Spot → List ℕ → List ℕ
pushed tapes e arcs text s xs = passed (back_by tapes e arcs text s) (source_of arcs e) (target_of arcs e) (arc_weight arcs e) s xs

-- arcs took the cells from xs to ys, one after the other
pub data Pushed (c : Counts) (arcs text : List ℕ) (s : Spot) (xs : List ℕ) : List ℕ → Type 0 where
  start : Pushed c arcs text s xs xs
  more : {ys : List ℕ} (e : ℕ) → e < c.arcs → Pushed c arcs text s xs ys → Pushed c arcs text s xs (pushed c.tapes e arcs text s ys)

-- arc e can lower nothing
abbrev pub Still : ℕ → ℕ → List ℕ → List ℕ → Spot → List ℕ → Type 0
Still tapes e arcs text s xs = (k : ℕ) → back_by tapes e arcs text s ≡ some k
    → get_or xs (cell_back s (source_of arcs e) k) 0 ≤ arc_weight arcs e + get_or xs (cell_at s (target_of arcs e)) 0

-- its target has a mark, or it can lower nothing
abbrev pub Done : ℕ → ℕ → List ℕ → List ℕ → Spot → List ℕ → List ℕ → Type 0
Done tapes e arcs text s queue xs = (0 < get_or queue (target_of arcs e) 0) ⊎ Still tapes e arcs text s xs

-- what is still to do at most
abbrev pub to_do : List ℕ → List ℕ → ℕ
to_do queue xs = count_of queue + 2 * sum xs

-- what an arc's record is known to hold: labels, two of so many states, a weight, and a move that leads to a
-- combination
pub record Passable (tapes states e : ℕ) (arcs text : List ℕ) (s : Spot) : Type 0 where
  pub labelled : Labelled arcs (labels_start (arc_size * e))
  pub source : source_of arcs e < states
  pub target : target_of arcs e < states
  pub light : arc_weight arcs e ≤ 999999999
  pub leads : (k : ℕ) → back_by tapes e arcs text s ≡ some k → k ≤ s.number

-- the work space has a cell for each of so many states and each combination, and no number in it is above that for
-- "none"
pub record Spaced (states : ℕ) (s : Spot) (work : List ℕ) : Type 0 where
  pub number_is : s.number < s.all
  pub fits : 8 * (states * s.all) ≤ length work
  pub below : (k : ℕ) → get_or (cells_of work) k 0 ≤ far

-- every arc of a table is so, and the strings lie in the text
pub record Ready (c : Counts) (arcs text : List ℕ) (s : Spot) : Type 0 where
  pub laid : Laid c.tapes (length text) s
  pub lent : arc_size * c.arcs ≤ length arcs
  pub few_arcs : c.arcs ≤ 8192
  pub few_states : c.states ≤ 1024
  pub each : (e : ℕ) → e < c.arcs → Passable c.tapes c.states e arcs text s

-- the arcs in chains by their targets, and a queue of states
pub record Marking (c : Counts) (arcs index queue : List ℕ) : Type 0 where
  pub chained : Chained (target_of arcs) c.arcs index
  pub lined : Queue queue

-- arc e took the cells of the work space from w to u; near tells whether the weight of its source at the combination
-- itself became less
pub record Visits (tapes e : ℕ) (arcs text : List ℕ) (s : Spot) (near : Bool) (u w : List ℕ) : Type 0 where
  pub cells_are : cells_of u ≡ pushed tapes e arcs text s (cells_of w)
  pub same_length : length u ≡ length w
  pub no_more : sum (cells_of u) ≤ sum (cells_of w)
  pub less : near ≡ true → sum (cells_of u) < sum (cells_of w)
  pub stays : (q : ℕ) → (near ≡ false) ⊎ (q ≢ source_of arcs e) → get_or (cells_of u) (cell_at s q) 0 ≡ get_or (cells_of w) (cell_at s q) 0

-- arcs took the work space from w to u and the queue from m to n
pub record Spreads (c : Counts) (arcs text : List ℕ) (s : Spot) (u w n m : List ℕ) : Type 0 where
  pub reach : Pushed c arcs text s (cells_of w) (cells_of u)
  pub same_length : length u ≡ length w
  pub same_queue : length n ≡ length m
  pub lined : Queue n
  pub no_more : to_do n (cells_of u) ≤ to_do m (cells_of w)

-- arc e did, and the source waits where its weight at the combination became less
pub record Pushes (c : Counts) (arcs text : List ℕ) (s : Spot) (e : ℕ) (u w n m : List ℕ) : Type 0 where
  pub spreads : Spreads c arcs text s u w n m
  pub keeps : (f : ℕ) → f < c.arcs → Done c.tapes f arcs text s m (cells_of w) → Done c.tapes f arcs text s n (cells_of u)
  pub settles : Still c.tapes e arcs text s (cells_of u)

-- the arcs into state q did
pub record PushesAll (c : Counts) (arcs text : List ℕ) (s : Spot) (q : ℕ) (u w n m : List ℕ) : Type 0 where
  pub spreads : Spreads c arcs text s u w n m
  pub settles : ((f : ℕ) → f < c.arcs → target_of arcs f ≢ q → Done c.tapes f arcs text s m (cells_of w))
      → (f : ℕ) → f < c.arcs → Done c.tapes f arcs text s n (cells_of u)

-- the states with a weight at the combination wait
pub record Marks (states : ℕ) (s : Spot) (work n m : List ℕ) : Type 0 where
  pub same_queue : length n ≡ length m
  pub lined : Queue n
  pub each : (q : ℕ) → q < states → (0 < get_or n q 0) ⊎ (far ≤ get_or (cells_of work) (cell_at s q) 0)

-- each arc can lower nothing, or its target waits
abbrev pub AllDone : Counts → List ℕ → List ℕ → Spot → List ℕ → List ℕ → Type 0
AllDone c arcs text s queue work = (f : ℕ) → f < c.arcs → Done c.tapes f arcs text s queue (cells_of work)

-- arcs took the work space from w to u until none can lower a number
pub record Settles (c : Counts) (arcs text : List ℕ) (s : Spot) (u w : List ℕ) : Type 0 where
  pub reach : Pushed c arcs text s (cells_of w) (cells_of u)
  pub same_length : length u ≡ length w
  pub still : (e : ℕ) → e < c.arcs → Still c.tapes e arcs text s (cells_of u)
