-- Worked paths (document 02, 2.3): for each level of the order a table at which it decides, and answers of the call.
use Rattle.std.specs.Prelude.{Bool, true, false, List, [], ◌∷◌, ◌++◌, ℕ, replicate}
use Rattle.std.proofs.Math.Option.{Option, none, some}
use Rattle.automata.specs.Answer.{Answer, ok, refused}
use Rattle.automata.specs.Automaton.{Automaton, State, Tuple}
use Rattle.automata.specs.LeastPath.{Account}
use Rattle.automata.specs.Cases.{first, between, last, arc, empty, A, B, X, Y, Z, P, Q, R, twice, no_states, five, starting}
use Rattle.automata.specs.ForecastCases.{both}

-- ---- tables, of one tape but for the last

-- an initial state by its weight, and a final one
abbrev pub from : ℕ → State ℕ
from w = record { initial = some w; final = none }

abbrev pub to : ℕ → State ℕ
to w = record { initial = none; final = some w }

-- A by one arc of weight 5, and by two of weight 1 each
abbrev pub lighter : Automaton ℕ
lighter = record {
  tapes = 1;
  states = first ∷ between ∷ last ∷ [];
  arcs = arc 0 2 5 (A ∷ []) ∷ arc 0 1 1 (A ∷ []) ∷ arc 1 2 1 (empty ∷ []) ∷ [];
}

-- A at weight 2 by two arcs from state 0, and by one from state 1
abbrev pub fewer : Automaton ℕ
fewer = record {
  tapes = 1;
  states = first ∷ first ∷ between ∷ last ∷ [];
  arcs = arc 0 2 1 (A ∷ []) ∷ arc 2 3 1 (empty ∷ []) ∷ arc 1 3 2 (A ∷ []) ∷ [];
}

-- A at weight 2 by two arcs with lower numbers, and by one
abbrev pub shorter : Automaton ℕ
shorter = record {
  tapes = 1;
  states = first ∷ between ∷ last ∷ [];
  arcs = arc 0 1 1 (A ∷ []) ∷ arc 1 2 1 (empty ∷ []) ∷ arc 0 2 2 (A ∷ []) ∷ [];
}

-- A at weight 3 by arc 1 from state 0, and by arc 0 from state 1
abbrev pub lower : Automaton ℕ
lower = record { tapes = 1; states = first ∷ first ∷ last ∷ []; arcs = arc 1 2 3 (A ∷ []) ∷ arc 0 2 3 (A ∷ []) ∷ [] }

-- AB by the arcs 0 and 3, and by 1 and 2
abbrev pub crossed : Automaton ℕ
crossed = record {
  tapes = 1;
  states = first ∷ between ∷ between ∷ last ∷ [];
  arcs = arc 0 1 0 (A ∷ []) ∷ arc 0 2 0 (A ∷ []) ∷ arc 2 3 0 (B ∷ []) ∷ arc 1 3 0 (B ∷ []) ∷ [];
}

-- ABA by the arcs 0, 1 and 4, and by 0, 2 and 3
abbrev pub later : Automaton ℕ
later = record {
  tapes = 1;
  states = first ∷ between ∷ between ∷ between ∷ last ∷ [];
  arcs = arc 0 1 0 (A ∷ []) ∷ arc 1 2 0 (B ∷ []) ∷ arc 1 3 0 (B ∷ []) ∷ arc 3 4 0 (A ∷ []) ∷ arc 2 4 0 (A ∷ []) ∷ [];
}

-- arcs from a state to itself that spell and weigh nothing, before and after the arc of A
abbrev pub idle : Automaton ℕ
idle = record { tapes = 1; states = first ∷ last ∷ []; arcs = arc 0 0 0 (empty ∷ []) ∷ arc 0 1 3 (A ∷ []) ∷ arc 1 1 0 (empty ∷ []) ∷ [] }

-- an arc that spells and weighs nothing leads to the arc of A
abbrev pub passing : Automaton ℕ
passing = record { tapes = 1; states = first ∷ between ∷ last ∷ []; arcs = arc 0 1 0 (empty ∷ []) ∷ arc 1 2 0 (A ∷ []) ∷ [] }

-- one state, initial and final, with an arc that spells and weighs nothing, and one with an arc of A
abbrev pub resting : Automaton ℕ
resting = record { tapes = 1; states = both ∷ []; arcs = arc 0 0 0 (empty ∷ []) ∷ [] }

abbrev pub again : Automaton ℕ
again = record { tapes = 1; states = both ∷ []; arcs = arc 0 0 2 (A ∷ []) ∷ [] }

-- A from state 0 at 1 + 9, from state 1 at 4 + 2
abbrev pub dearer : Automaton ℕ
dearer = record { tapes = 1; states = from 1 ∷ from 4 ∷ last ∷ []; arcs = arc 0 2 9 (A ∷ []) ∷ arc 1 2 2 (A ∷ []) ∷ [] }

-- A from state 0 at 9 + 1, from state 1 at 1 + 3
abbrev pub cheaper : Automaton ℕ
cheaper = record { tapes = 1; states = from 9 ∷ from 1 ∷ last ∷ []; arcs = arc 0 2 1 (A ∷ []) ∷ arc 1 2 3 (A ∷ []) ∷ [] }

-- A from state 0 at 5 + 2, from state 1 at 4 + 3
abbrev pub evened : Automaton ℕ
evened = record { tapes = 1; states = from 5 ∷ from 4 ∷ last ∷ []; arcs = arc 1 2 3 (A ∷ []) ∷ arc 0 2 2 (A ∷ []) ∷ [] }

-- B from state 0, A from state 1
abbrev pub elsewhere : Automaton ℕ
elsewhere = record { tapes = 1; states = first ∷ first ∷ last ∷ []; arcs = arc 0 2 0 (B ∷ []) ∷ arc 1 2 0 (A ∷ []) ∷ [] }

-- A to state 1 at 0 + 5, to state 2 at 2 + 1
abbrev pub ends : Automaton ℕ
ends = record { tapes = 1; states = first ∷ to 5 ∷ to 1 ∷ []; arcs = arc 0 1 0 (A ∷ []) ∷ arc 0 2 2 (A ∷ []) ∷ [] }

-- A and X one after the other, in either order by two arcs of weight 0, and at once by one of weight 1
abbrev pub woven : Automaton ℕ
woven = record {
  tapes = 2;
  states = first ∷ between ∷ last ∷ [];
  arcs = arc 0 1 0 (empty ∷ X ∷ []) ∷ arc 0 1 0 (A ∷ empty ∷ []) ∷ arc 1 2 0 (empty ∷ X ∷ []) ∷ arc 1 2 0 (A ∷ empty ∷ []) ∷ arc 0 2 1 (A ∷ X ∷ []) ∷ [];
}

-- ---- paths

-- the weight, the starting state and the arcs
abbrev pub account : ℕ → ℕ → List ℕ → Option (Account ℕ)
account w q r = some (record { weight = w; path = record { start = q; run = r } })

-- a table, a tuple, and the path behind its weight
abbrev pub paths : List (Automaton ℕ × Tuple × Option (Account ℕ))
paths =
    -- the weight, before the number of arcs
    (lighter, A ∷ [], account 2 0 (1 ∷ 2 ∷ []))
    ∷ (ends, A ∷ [], account 3 0 (1 ∷ []))
    -- the weight with that of the start, before the lower start
    ∷ (dearer, A ∷ [], account 6 1 (1 ∷ []))
    ∷ (cheaper, A ∷ [], account 4 1 (1 ∷ []))
    -- the fewest arcs, before the lower start and before the lower arc
    ∷ (fewer, A ∷ [], account 2 1 (2 ∷ []))
    ∷ (shorter, A ∷ [], account 2 0 (2 ∷ []))
    -- the lower start, before the lower arc; it is the whole weight that is equal
    ∷ (lower, A ∷ [], account 3 0 (1 ∷ []))
    ∷ (evened, A ∷ [], account 7 0 (1 ∷ []))
    -- the lower arc at the first difference, the first arc and the second, whatever follows
    ∷ (crossed, (A ++ B) ∷ [], account 0 0 (0 ∷ 3 ∷ []))
    ∷ (later, (A ++ B ++ A) ∷ [], account 0 0 (0 ∷ 1 ∷ 4 ∷ []))
    -- the lower of two equal arcs
    ∷ (twice, A ∷ A ∷ [], account 0 0 (0 ∷ []))
    -- an arc that spells and weighs nothing is taken only where there is no other way: the fewest arcs
    ∷ (idle, A ∷ [], account 3 0 (1 ∷ []))
    ∷ (passing, A ∷ [], account 0 0 (0 ∷ 1 ∷ []))
    -- no arc at all; of two such paths the lesser weight
    ∷ (five, empty ∷ [], account 5 0 [])
    ∷ (resting, empty ∷ [], account 0 0 [])
    ∷ (starting, empty ∷ [], account 1 0 [])
    -- the lowest initial state starts no path of the tuple
    ∷ (starting, A ∷ [], account 7 1 (0 ∷ []))
    ∷ (elsewhere, A ∷ [], account 0 1 (1 ∷ []))
    -- one path alone: an arc several times, three tapes, two tapes
    ∷ (again, (A ++ A ++ A) ∷ [], account 6 0 (0 ∷ 0 ∷ 0 ∷ []))
    ∷ (P, (A ++ B) ∷ (X ++ Y ++ Z) ∷ (A ++ B) ∷ [], account 6 0 (0 ∷ 1 ∷ 2 ∷ []))
    ∷ (Q, A ∷ A ∷ [], account 0 0 (0 ∷ 1 ∷ []))
    ∷ (R, (A ++ A) ∷ (A ++ A) ∷ [], account 0 0 (0 ∷ 1 ∷ 2 ∷ []))
    -- two tapes: the weight, then the lower arc, and behind it the only arc that spells the rest
    ∷ (woven, A ∷ X ∷ [], account 0 0 (0 ∷ 3 ∷ []))
    -- no path spells the tuple
    ∷ (woven, A ∷ empty ∷ [], none)
    ∷ (lighter, B ∷ [], none)
    ∷ (lighter, empty ∷ [], none)
    ∷ (starting, (A ++ A) ∷ [], none)
    ∷ (no_states, A ∷ A ∷ [], none)
    ∷ []

-- ---- the call

-- whether the space is enough, the places of the list, a table, a tuple, and the answer
abbrev pub path_calls : List (Bool × ℕ × Automaton ℕ × Tuple × Answer (Option (Account ℕ)))
path_calls =
    -- a path of three arcs: a place for each, one more, one less, none
    (true, 3, again, (A ++ A ++ A) ∷ [], ok (account 6 0 (0 ∷ 0 ∷ 0 ∷ [])))
    ∷ (true, 4, again, (A ++ A ++ A) ∷ [], ok (account 6 0 (0 ∷ 0 ∷ 0 ∷ [])))
    ∷ (true, 2, again, (A ++ A ++ A) ∷ [], refused 14)
    ∷ (true, 0, again, (A ++ A ++ A) ∷ [], refused 14)
    -- a path of no arc, and none, need no place
    ∷ (true, 0, again, empty ∷ [], ok (account 0 0 []))
    ∷ (true, 0, again, B ∷ [], ok none)
    -- 14 is judged last: after 13, 2, 3 and 5
    ∷ (false, 2, again, (A ++ A ++ A) ∷ [], refused 13)
    ∷ (false, 2, again, (97 ∷ []) ∷ [], refused 2)
    ∷ (false, 2, again, replicate 65 97 ∷ [], refused 3)
    ∷ (false, 2, again, replicate 65 97 ∷ A ∷ [], refused 5)
    ∷ []
