-- The bytes of the tables' records.
use Rattle.std.specs.Prelude.{ℕ, ◌*◌, List, [], ◌∷◌, ◌++◌, eqb, get_or, replicate}
use Rattle.automata.specs.Layout.{label_size}
use Rattle.automata.specs.Lists.{if}
use Rattle.table.specs.declared.answer.Counts.{Counts}
use Rattle.table.specs.declared.pair.Pair.{Pair}
use Rattle.table.specs.declared.pair.PairList.{PairList}

-- how many symbols a label has, of none or one
abbrev pub symbols : ℕ → ℕ
symbols s = if (eqb s 0) 0 1

-- the bytes of such a label
abbrev pub label_bytes : ℕ → List ℕ
label_bytes s = symbols s ∷ s ∷ replicate 7 0

-- the bytes of an arc, by its source, target and three symbols
abbrev pub arc_bytes : List ℕ → List ℕ
arc_bytes a =
    get_or a 0 0 ∷ 0 ∷ get_or a 1 0 ∷ 0 ∷ 0 ∷ 0 ∷ 0 ∷ 0
    ∷ (label_bytes (get_or a 2 0) ++ (label_bytes (get_or a 3 0) ++ (label_bytes (get_or a 4 0) ++ replicate (5 * label_size) 0)))

-- the bytes of four arcs
abbrev pub arcs_bytes : List ℕ → List ℕ → List ℕ → List ℕ → List ℕ
arcs_bytes a b c d = arc_bytes a ++ (arc_bytes b ++ (arc_bytes c ++ arc_bytes d))

-- the bytes of a state that is final or not
abbrev pub final_bytes : ℕ → List ℕ
final_bytes f = replicate 5 0 ++ (f ∷ replicate 4 0)

-- the bytes of four states
abbrev pub state_bytes : List ℕ → List ℕ
state_bytes fs = final_bytes (get_or fs 0 0) ++ (final_bytes (get_or fs 1 0) ++ (final_bytes (get_or fs 2 0) ++ final_bytes (get_or fs 3 0)))

-- the counts of tapes, states and arcs
abbrev pub counts_of : List ℕ → Counts
counts_of n = record { tapes = get_or n 0 0; states = get_or n 1 0; arcs = get_or n 2 0 }

-- one pair of tapes; its limit is not read
abbrev pub pair_of : List ℕ → Pair
pair_of p = record { first = get_or p 0 0; second = get_or p 1 0; limit = 0 }

abbrev pub only : List ℕ → PairList
only p = record { pairs = pair_of p ∷ pair_of p ∷ pair_of p ∷ pair_of p ∷ []; used = 1 }
