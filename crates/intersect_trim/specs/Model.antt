-- The result of an intersection by the marks of its configurations.
use Rattle.std.specs.Prelude.{ℕ, ◌<◌, ◌≡◌, Bool, List, map}
use Rattle.std.proofs.Math.Option.{some}
use Rattle.std.proofs.Math.ListN.{get_elem?}
use Rattle.automata.specs.Automaton.{Arc, Automaton}
use Rattle.automata.specs.Config.{Config}
use Rattle.automata.specs.Explore.{Edge}
use Rattle.automata.specs.Trim.{at_marks, kept_edges}
use Rattle.automata.specs.Intersect.{arc_of, state_of}

-- the marked configurations as states, and the edges between them as arcs
abbrev pub result_of : Automaton ℕ → List Bool → List Config → List (Edge (ℕ × Arc ℕ)) → Automaton ℕ
result_of A marks cs es = record { tapes = A.tapes; states = map (state_of A) (at_marks marks cs); arcs = map arc_of (kept_edges marks es) }

-- an edge between configurations below n, by an arc of A
pub record EdgeOf (A : Automaton ℕ) (n : ℕ) (x : Edge (ℕ × Arc ℕ)) : Type 0 where
  pub from : x.from < n
  pub to : x.to < n
  pub arc : get_elem? A.arcs x.label.0 ≡ some x.label.1
