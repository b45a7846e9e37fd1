-- Cases of the order of document 02's request 2.2: tables whose input order, order first reached and order last reached
-- all differ.
use Rattle.std.proofs.Math.Option.{none, some}
use Rattle.std.specs.Prelude.{List, [], ◌∷◌, ◌++◌, map, reverse, ℕ}
use Prim.Native.String.{String}
use Rattle.automata.specs.Lists.{concat}
use Rattle.automata.specs.OrderedSum.{ℕ_sum}
use Rattle.automata.specs.Automaton.{State, Arc, Content, Automaton}
use Rattle.automata.specs.Space.{Space}
use Rattle.automata.specs.TapePair.{TapePair}
use Rattle.automata.specs.Config.{Config, same_config}
use Rattle.automata.specs.Closing.{closing_tables, viable}
use Rattle.automata.specs.Explore.{insert_all, successors, reached}
use Rattle.automata.specs.Intersect.{starts, out}
use Rattle.automata.specs.System.{system, out_at, final_at}
use Rattle.automata.specs.Product.{Vertex, same_vertex, all_both, all_after_first, all_after_second, all_pairs, product_system}
use Rattle.automata.specs.Cases.{first, between, last, arc, empty, A, B, X, Y, Z, tape_pair}

-- room for every case
abbrev pub room : Space
room = record { states = 64; arcs = 512 }

-- ---- an auto-intersection

-- Paths start at states 1 and 3. State 4 is reached with a leftover that nothing matches, so it is trimmed; state 0 is
-- first reached from 1, by a later arc than from 3.
abbrev pub branching : Automaton ℕ
branching = record {
  tapes = 2;
  states = between ∷ first ∷ last ∷ first ∷ between ∷ between ∷ [];
  arcs = arc 3 2 0 (A ∷ A ∷ []) ∷ arc 1 4 1 (A ∷ empty ∷ []) ∷ arc 1 5 2 (A ∷ A ∷ []) ∷ arc 5 2 3 (A ∷ A ∷ []) ∷ arc 3 0 4 (B ∷ B ∷ [])
      ∷ arc 0 5 5 (A ∷ A ∷ []) ∷ arc 1 0 6 (B ∷ B ∷ []) ∷ arc 4 2 7 (empty ∷ B ∷ []) ∷ [];
}

-- its two tapes, by at most one symbol apart
abbrev pub one_apart : List TapePair
one_apart = tape_pair 1 2 1 ∷ []

-- the input states of the configurations, in the order first reached
abbrev pub reached_states : List ℕ
reached_states = 1 ∷ 3 ∷ 4 ∷ 5 ∷ 0 ∷ 2 ∷ []

-- the result as it is printed: state 4 is gone, and those behind it have moved up; in the input arc m has the weight m
abbrev pub branched_text : String
branched_text = "  2     5     6\n         0         -\n         0         -\n         -         -\n         -         -\n         -         0\n     0     2         2        A        A\n     0     3         6        B        B\n     1     4         0        A        A\n     1     3         4        B        B\n     2     4         3        A        A\n     3     2         5        A        A\n"

-- the configurations that start, and the steps out of each
abbrev pub begins : List Config
begins = starts branching one_apart (viable (closing_tables branching one_apart))

abbrev pub leads : Config → List ((ℕ × Arc ℕ) × Config)
leads c = out branching one_apart (viable (closing_tables branching one_apart)) c

-- each configuration where it is reached last, as a starting one or by a step
abbrev pub last_reached : List Config
last_reached = reverse (insert_all same_config [] (reverse (begins ++ concat (map (successors leads) (reached same_config leads 64 begins)))))

-- what wrong searches find: starting states backwards, arcs out of a state backwards, and each where it was last
-- reached
abbrev pub wrong_searches : List (List Config)
wrong_searches = reached same_config leads 64 (reverse begins) ∷ reached same_config (λ c. reverse (leads c)) 64 begins ∷ last_reached ∷ []

-- the same by the input states
abbrev pub wrong_states : List (List ℕ)
wrong_states = (3 ∷ 1 ∷ 2 ∷ 0 ∷ 4 ∷ 5 ∷ []) ∷ (1 ∷ 3 ∷ 0 ∷ 5 ∷ 4 ∷ 2 ∷ []) ∷ (1 ∷ 3 ∷ 4 ∷ 0 ∷ 2 ∷ 5 ∷ []) ∷ []

-- ---- a product

-- a state with both weights
abbrev pub ending : ℕ → ℕ → State ℕ
ending i f = record { initial = some i; final = some f }

-- two tables of one tape, with ends on the way: the first ...
abbrev pub left : Automaton ℕ
left = record { tapes = 1; states = ending 0 10 ∷ ending 1 0 ∷ []; arcs = arc 0 1 1 (A ∷ []) ∷ arc 0 0 2 (B ∷ []) ∷ [] }

-- ... and the second
abbrev pub right : Automaton ℕ
right = record { tapes = 1; states = ending 0 20 ∷ ending 0 30 ∷ []; arcs = arc 0 1 3 (X ∷ []) ∷ arc 1 0 4 (Y ∷ []) ∷ arc 0 0 5 (Z ∷ []) ∷ [] }

-- the states of the product, none where a path has ended
abbrev pub product_vertices : List Vertex
product_vertices = (some 0, some 0) ∷ (some 0, some 1) ∷ (some 1, some 0) ∷ (some 1, some 1) ∷ (none, some 1) ∷ (none, some 0) ∷ (some 1, none) ∷ (some 0, none) ∷ []

-- the product as it is printed
abbrev pub product_text : String
product_text = "  2     8    21\n         0        30\n         0        40\n         1        20\n         1        30\n         -        30\n         -        20\n         -         0\n         -        10\n     0     3         4        A        X\n     0     2         6        A        Z\n     0     1         5        B        X\n     0     0         7        B        Z\n     0     4        13                 X\n     0     5        15                 Z\n     0     6        21        A         \n     0     7        22        B         \n     1     2         5        A        Y\n     1     0         6        B        Y\n     1     5        14                 Y\n     1     6        31        A         \n     1     7        32        B         \n     2     4         3                 X\n     2     5         5                 Z\n     3     5         4                 Y\n     4     5         4                 Y\n     5     4         3                 X\n     5     5         5                 Z\n     7     6         1        A         \n     7     7         2        B         \n"

-- the moves out of a state of the product, those after the second table's end before those after the first's
abbrev pub exchanged_moves : Vertex → List (Content ℕ × Vertex)
exchanged_moves c =
    let xs = out_at ℕ_sum (system left) c.0 in
    let ys = out_at ℕ_sum (system right) c.1 in
    all_both ℕ_sum xs ys ++ (all_after_second ℕ_sum 1 (final_at ℕ_sum (system right) c.1) xs ++ all_after_first ℕ_sum 1 (final_at ℕ_sum (system left) c.0) ys)

-- what wrong searches find: initial pairs by the second table's state first, the moves after ends exchanged, and the
-- moves out of a state backwards
abbrev pub wrong_products : List (List Vertex)
wrong_products =
    reached same_vertex (product_system ℕ_sum left right).out 64 ((some 0, some 0) ∷ (some 1, some 0) ∷ (some 0, some 1) ∷ (some 1, some 1) ∷ [])
    ∷ reached same_vertex exchanged_moves 64 (all_pairs (0 ∷ 1 ∷ []) (0 ∷ 1 ∷ []))
    ∷ reached same_vertex (λ c. reverse ((product_system ℕ_sum left right).out c)) 64 (all_pairs (0 ∷ 1 ∷ []) (0 ∷ 1 ∷ []))
    ∷ []

-- they are these
abbrev pub wrong_vertices : List (List Vertex)
wrong_vertices =
    ((some 0, some 0) ∷ (some 1, some 0) ∷ (some 0, some 1) ∷ (some 1, some 1) ∷ (none, some 1) ∷ (none, some 0) ∷ (some 1, none) ∷ (some 0, none) ∷ [])
    ∷ ((some 0, some 0) ∷ (some 0, some 1) ∷ (some 1, some 0) ∷ (some 1, some 1) ∷ (some 1, none) ∷ (some 0, none) ∷ (none, some 1) ∷ (none, some 0) ∷ [])
    ∷ ((some 0, some 0) ∷ (some 0, some 1) ∷ (some 1, some 0) ∷ (some 1, some 1) ∷ (some 0, none) ∷ (some 1, none) ∷ (none, some 0) ∷ (none, some 1) ∷ [])
    ∷ []
