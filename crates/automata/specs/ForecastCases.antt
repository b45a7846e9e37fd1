-- Worked forecasts (document 02, 2.1): loops, one state, closing delays endless on one side, cycles of both signs,
-- document 01's P, Q, R, S, and symbols counted after reading.
use Rattle.std.proofs.Math.Option.{some}
use Rattle.std.specs.Prelude.{List, [], ◌∷◌, ◌++◌, ℕ}
use Rattle.automata.specs.Automaton.{Automaton, State, Symbol}
use Rattle.automata.specs.TapePair.{Pair}
use Rattle.automata.specs.Forecast.{Forecast, mixed, needs, number, over}
use Rattle.automata.specs.Cases.{first, between, last, arc, empty, A, B, I, O, one, nought, P, Q, R, S, untrimmed, trailing, stuck, no_states, pair}

-- a state that is initial and final
abbrev pub both : State ℕ
both = record { initial = some 0; final = some 0 }

-- labels of eight symbols
abbrev pub A8 : List Symbol
A8 = A ++ A ++ A ++ A ++ A ++ A ++ A ++ A

abbrev pub AB8 : List Symbol
AB8 = A ++ B ++ A ++ B ++ A ++ B ++ A ++ B

-- one state with a loop of no delay, of positive delay, of negative delay, and of both
abbrev pub level : Automaton ℕ
level = record { tapes = 2; states = both ∷ []; arcs = arc 0 0 0 (A ∷ A ∷ []) ∷ [] }

abbrev pub rising : Automaton ℕ
rising = record { tapes = 2; states = both ∷ []; arcs = arc 0 0 0 (A ∷ empty ∷ []) ∷ [] }

abbrev pub falling : Automaton ℕ
falling = record { tapes = 2; states = both ∷ []; arcs = arc 0 0 0 (empty ∷ A ∷ []) ∷ [] }

abbrev pub rising_falling : Automaton ℕ
rising_falling = record { tapes = 2; states = both ∷ []; arcs = arc 0 0 0 (A ∷ empty ∷ []) ∷ arc 0 0 0 (empty ∷ A ∷ []) ∷ [] }

-- one state, and no arc
abbrev pub alone : Automaton ℕ
alone = record { tapes = 2; states = both ∷ []; arcs = [] }

-- a cycle of two arcs, one up and one down, whose delay is 0
abbrev pub swing : Automaton ℕ
swing = record { tapes = 2; states = both ∷ between ∷ []; arcs = arc 0 1 0 (A ∷ empty ∷ []) ∷ arc 1 0 0 (empty ∷ A ∷ []) ∷ [] }

-- R turned round: the cycle of negative delay comes first
abbrev pub falling_rising : Automaton ℕ
falling_rising = record {
  tapes = 2;
  states = first ∷ last ∷ [];
  arcs = arc 0 0 0 (empty ∷ A ∷ []) ∷ arc 0 1 0 (A ∷ A ∷ []) ∷ arc 1 1 0 (A ∷ empty ∷ []) ∷ [];
}

-- cycles of both signs that no successful path touches together: they lie on two branches
abbrev pub apart : Automaton ℕ
apart = record {
  tapes = 2;
  states = first ∷ last ∷ last ∷ [];
  arcs = arc 0 1 0 (empty ∷ A ∷ []) ∷ arc 1 1 0 (A ∷ empty ∷ []) ∷ arc 0 2 0 (A ∷ empty ∷ []) ∷ arc 2 2 0 (empty ∷ A ∷ []) ∷ [];
}

-- cycles of both signs at a state that leads nowhere
abbrev pub dead_end : Automaton ℕ
dead_end = record {
  tapes = 2;
  states = first ∷ last ∷ between ∷ [];
  arcs = arc 0 1 0 (A ∷ A ∷ []) ∷ arc 0 2 0 (A ∷ A ∷ []) ∷ arc 2 2 0 (A ∷ empty ∷ []) ∷ arc 2 2 0 (empty ∷ A ∷ []) ∷ [];
}

-- eight different symbols
abbrev pub word : List Symbol
word = 65 ∷ 66 ∷ 67 ∷ 68 ∷ 69 ∷ 70 ∷ 71 ∷ 72 ∷ []

-- tables that can need a delay of 8, with two symbols and with eight, and of 9 × 8
abbrev pub wordy : Automaton ℕ
wordy = record { tapes = 2; states = first ∷ last ∷ []; arcs = arc 0 1 0 (AB8 ∷ empty ∷ []) ∷ arc 1 1 0 (empty ∷ A ∷ []) ∷ [] }

abbrev pub many_symbols : Automaton ℕ
many_symbols = record { tapes = 2; states = first ∷ last ∷ []; arcs = arc 0 1 0 (word ∷ empty ∷ []) ∷ arc 1 1 0 (empty ∷ A ∷ []) ∷ [] }

abbrev pub chain : Automaton ℕ
chain = record {
  tapes = 2;
  states = first ∷ between ∷ between ∷ between ∷ between ∷ between ∷ between ∷ between ∷ between ∷ last ∷ [];
  arcs = arc 0 1 0 (A8 ∷ empty ∷ []) ∷ arc 1 2 0 (A8 ∷ empty ∷ []) ∷ arc 2 3 0 (A8 ∷ empty ∷ []) ∷ arc 3 4 0 (A8 ∷ empty ∷ [])
      ∷ arc 4 5 0 (empty ∷ A8 ∷ []) ∷ arc 5 6 0 (empty ∷ A8 ∷ []) ∷ arc 6 7 0 (empty ∷ A8 ∷ []) ∷ arc 7 8 0 (empty ∷ A8 ∷ []) ∷ arc 8 9 0 (A ∷ A ∷ []) ∷ [];
}

-- I, 1, O and 0 are two symbols; I on the one tape and 1 on the other are one
abbrev pub four_written : Automaton ℕ
four_written = record {
  tapes = 2;
  states = first ∷ last ∷ [];
  arcs = arc 0 1 0 ((I ++ one ++ O ++ nought ++ I ++ one ++ O ++ nought) ∷ empty ∷ []) ∷ arc 1 1 0 (empty ∷ one ∷ []) ∷ [];
}

abbrev pub swing_written : Automaton ℕ
swing_written = record { tapes = 2; states = both ∷ between ∷ []; arcs = arc 0 1 0 (I ∷ empty ∷ []) ∷ arc 1 0 0 (empty ∷ one ∷ []) ∷ [] }

-- a table, a pair of tapes, and the forecast
abbrev pub forecasts : List (Automaton ℕ × Pair × Forecast)
forecasts =
    (P, pair 1 3, needs 2 (number 39))
    ∷ (P, pair 3 1, needs 2 (number 39))
    ∷ (P, pair 1 2, needs 2 (number 183))
    ∷ (Q, pair 1 2, needs 1 (number 6))
    ∷ (Q, pair 2 1, needs 1 (number 6))
    ∷ (R, pair 1 2, mixed)
    ∷ (R, pair 2 1, mixed)
    ∷ (falling_rising, pair 1 2, mixed)
    ∷ (rising_falling, pair 1 2, mixed)
    ∷ (S, pair 1 2, needs 0 (number 2))
    ∷ (untrimmed, pair 1 2, needs 0 (number 4))
    ∷ (trailing, pair 1 2, needs 1 (number 6))
    ∷ (stuck, pair 1 2, needs 2 (number 26))
    ∷ (no_states, pair 1 2, needs 0 (number 0))
    ∷ (alone, pair 1 2, needs 0 (number 1))
    ∷ (level, pair 1 2, needs 0 (number 1))
    ∷ (rising, pair 1 2, needs 0 (number 1))
    ∷ (falling, pair 1 2, needs 0 (number 1))
    ∷ (swing, pair 1 2, needs 1 (number 6))
    ∷ (apart, pair 1 2, needs 2 (number 15))
    ∷ (dead_end, pair 1 2, needs 0 (number 3))
    ∷ (wordy, pair 1 2, needs 8 (number 2042))
    ∷ (many_symbols, pair 1 2, needs 8 over)
    ∷ (chain, pair 1 2, needs 72 (number 1450))
    ∷ (four_written, pair 1 2, needs 8 (number 2042))
    ∷ (swing_written, pair 1 2, needs 1 (number 6))
    ∷ (swing_written, pair 2 1, needs 1 (number 6))
    ∷ []
