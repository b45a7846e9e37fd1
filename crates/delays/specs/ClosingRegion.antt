-- The region of the closing delays: of each state's 64 bytes, 8 for each of four pairs, and 2 for whether a final state
-- can be reached. Of a pair's 8 bytes the first two hold the least delay, the fifth and sixth the least of the pair
-- turned round; the others are not used.
use Rattle.std.specs.Prelude.{ℕ, zero, suc, ◌+◌, ◌-◌, ◌*◌, ◌<◌, ◌≤◌, ◌≡◌, Bool, true, false, List, map, eqb, length, get_or}
use Rattle.std.proofs.Math.Option.{some}
use Rattle.std.proofs.Math.ListN.{get_elem?}
use Rattle.table.specs.Region.{part}
use Rattle.table.specs.Endian.{le}
use Rattle.automata.specs.Lists.{if, and}
use Rattle.automata.specs.Closing.{origin, missing, Closing, ClosingTables, closing_tables, with_delay≤, viable}
use Rattle.automata.specs.Leftover.{Leftover}
use Rattle.automata.specs.Config.{Config}
use Rattle.automata.specs.Memory.{Memory, table_of}
use Rattle.automata.specs.Layout.{delays_size, pair_delays, opposite_place, reaching_place}
use Rattle.delays_relaxation.specs.Vector.{vector, Outside}
use Rattle.delays_relaxation.specs.Edges.{edges}
use Rattle.delays_relaxation.specs.Lowered.{Least}
use Rattle.table.specs.declared.pair.Pair.{Pair}
use Rattle.table.specs.declared.pair.PairList.{PairList}
use Rattle.table.specs.Pairs.{pairs_as, no_pair}

-- the closing delays of a pair, of the table or where reversed of its reversal, stand in the vectors at place at and
-- four bytes behind
pub record PairClosed (reversed : Bool) (bytes : List ℕ) (n : ℕ) (arcs : List ℕ) (count : ℕ) (p : Pair) (at : ℕ) (w : List ℕ) : Type 0 where
  pub least : Least reversed (edges reversed (p.first - 1) (p.second - 1) 0 count arcs) n bytes (vector at n w)
  pub opposite : Least reversed (edges reversed (p.second - 1) (p.first - 1) 0 count arcs) n bytes (vector (at + opposite_place) n w)

-- place i lies outside the two vectors of a pair, and outside those of the first k of several
abbrev pub OutsidePair : ℕ → ℕ → ℕ → Type 0
OutsidePair at n i = Outside at 2 n i × Outside (at + opposite_place) 2 n i

abbrev pub OutsidePairs : ℕ → ℕ → ℕ → ℕ → Type 0
OutsidePairs base k n i = (h : ℕ) → h < k → OutsidePair (base + pair_delays * h) n i

-- the delays of one pair, and those of the table of the first k of several, were found from v to w, and nothing else
-- changed
pub record ClosesPair (reversed : Bool) (bytes : List ℕ) (n : ℕ) (arcs : List ℕ) (count : ℕ) (p : Pair) (at : ℕ) (w v : List ℕ) : Type 0 where
  pub closed : PairClosed reversed bytes n arcs count p at w
  pub same_length : length w ≡ length v
  pub same : (i : ℕ) → OutsidePair at n i → get_or w i 0 ≡ get_or v i 0

pub record ClosesPairs (bytes : List ℕ) (n : ℕ) (arcs : List ℕ) (count : ℕ) (ps : List Pair) (k base : ℕ) (w v : List ℕ) : Type 0 where
  pub closed : (h : ℕ) → h < k → PairClosed false bytes n arcs count (get_or ps h no_pair) (base + pair_delays * h) w
  pub same_length : length w ≡ length v
  pub same : (i : ℕ) → OutsidePairs base k n i → get_or w i 0 ≡ get_or v i 0

-- the region from place base holds the closing tables T of n states
pub record HoldsClosing (T : ClosingTables) (base n : ℕ) (w : List ℕ) : Type 0 where
  pub reaching : vector (base + reaching_place) n w ≡ map (λ b. if b origin missing) T.reaching
  pub least : (h : ℕ) (c : Closing) → get_elem? T.closings h ≡ some c → vector (base + pair_delays * h) n w ≡ c.least
  pub opposite : (h : ℕ) (c : Closing) → get_elem? T.closings h ≡ some c → vector (base + pair_delays * h + opposite_place) n w ≡ c.opposite

-- the test of one pair, by the delays at place at and the lengths of the leftovers
abbrev pub closable_at : ℕ → ℕ → ℕ → List ℕ → Bool
closable_at at x y w = and (with_delay≤ x (le (part at 2 w)) y) (with_delay≤ y (le (part (at + opposite_place) 2 w)) x)

-- the test of the pairs from the h-th on
unfoldable pub closable_from : ℕ → ℕ → ℕ → List ℕ → List ℕ → List ℕ → Bool
closable_from at h zero firsts seconds w = true
closable_from at h (suc left) firsts seconds w =
    let rest = closable_from (at + pair_delays) (h + 1) left firsts seconds w in and (closable_at at (get_or firsts h 0) (get_or seconds h 0) w) rest

-- the whole test, for the state whose 64 bytes start at place at
abbrev pub viable_at : ℕ → ℕ → List ℕ → List ℕ → List ℕ → Bool
viable_at at used firsts seconds w = if (eqb (le (part (at + reaching_place) 2 w)) missing) false (closable_from at 0 used firsts seconds w)

-- The closing tables of the table in memory m were written to the region from place base, and no other place was
-- changed from v to w.
pub record WritesClosing (m : Memory) (ps : PairList) (base : ℕ) (w v : List ℕ) : Type 0 where
  pub tables : HoldsClosing (closing_tables (table_of m) (pairs_as ps)) base m.states w
  pub same_length : length w ≡ length v
  pub same : (i : ℕ) → OutsidePairs base ps.used m.states i → Outside (base + reaching_place) 2 m.states i → get_or w i 0 ≡ get_or v i 0

-- the leftovers ls are k, and have these lengths
pub record Lengths (k : ℕ) (firsts seconds : List ℕ) (ls : List Leftover) : Type 0 where
  pub count : length ls ≡ k
  pub first : (h : ℕ) (l : Leftover) → get_elem? ls h ≡ some l → get_or firsts h 0 ≡ length l.first
  pub second : (h : ℕ) (l : Leftover) → get_elem? ls h ≡ some l → get_or seconds h 0 ≡ length l.second

-- r is the test of the definition, for all tables that the region holds and all configurations with these lengths
abbrev pub Tests : ℕ → ℕ → ℕ → List ℕ → List ℕ → List ℕ → Bool → Type 0
Tests base q k firsts seconds w r =
    (T : ClosingTables) (n : ℕ) (c : Config) → HoldsClosing T base n w → base + delays_size * n ≤ length w → q < n → length T.closings ≡ k → c.state ≡ q → Lengths k firsts seconds c.leftovers
    → r ≡ viable T c
