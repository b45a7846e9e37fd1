-- The reversal of an automaton: every arc is turned round, and initial and final weights are exchanged. Labels stay as
-- they are written: what is asked of a reversal here are delays, for which only their lengths count.
use Rattle.std.specs.Prelude.{Bool, true, false, map}
use Rattle.automata.specs.Automaton.{Automaton, Arc, State}

module _ {W : Type 0} where
  -- an arc turned round
  abbrev pub turned : Arc W → Arc W
  turned a = record { source = a.target; target = a.source; weight = a.weight; labels = a.labels }

  -- a state with its weights exchanged
  abbrev pub exchanged : State W → State W
  exchanged s = record { initial = s.final; final = s.initial }

  -- the reversal
  abbrev pub reversal : Automaton W → Automaton W
  reversal A = record { tapes = A.tapes; states = map exchanged A.states; arcs = map turned A.arcs }

  -- the automaton as it is read: forwards, or backwards, which is its reversal
  abbrev pub directed : Bool → Automaton W → Automaton W
  directed false A = A
  directed true A = reversal A
