-- The states of the table whose records are lent, and the numbers of its cells once these are filled.
use mathlib.Core.Path.{◌≡◌, refl, ap, ◌∙◌}
use mathlib.Core.Option.{some, some-injective}
use mathlib.Core.List.{List}
use Prim.Native.Nat.{ℕ, ◌*◌, ◌<◌}
use native.Mathlib.Omega.{arith}
use lib.Dec.{ltb}
use lib.ListN.{get_or}
use Rattle.automata.specs.Lists.{bind}
use Rattle.automata.specs.OrderedSum.{ℕ_sum}
use Rattle.automata.specs.Graph.{Within}
use Rattle.automata.specs.Automaton.{Automaton, Tuple, graph, size, initial_of, final_of}
use Rattle.automata.specs.Cells.{Positions, drop_all, cell}
use Rattle.automata.specs.LeastPath.{least_onward}
use Rattle.automata.specs.Memory.{Sound, table_of}
use Rattle.automata.proofs.ListFacts.{none_not_some}
use Rattle.automata.proofs.SoundFacts.{sound_well_formed, sound_holds}
use Rattle.automata.proofs.WellFormedFacts.{well_formed}
use Rattle.automata.specs.Layout.{state_size}
use Rattle.table.specs.Answers.{lent}
use Rattle.table.specs.Records.{option_of, state_at}
use Rattle.table.specs.declared.answer.Counts.{Counts}
use Rattle.table.specs.Records.{Weight}
use Rattle.std.specs.Prelude.{None, Some}
use Rattle.table.proofs.SoundFacts.{state_loaded}
use Rattle.lookup_moves.specs.Distances.{far, weight_of}
use Rattle.lookup_cells.specs.Filled.{Filled}
use Rattle.path_search.proofs.TightArcFacts.{if_some}

-- the weight that a record holds
pub weight_present : (x : Weight) (w : ℕ) → option_of x ≡ some w → x ≡ Some w
weight_present None w e = none_not_some refl e
weight_present (Some v) w e = ap Some (some-injective v w e)

-- the weight that a number stands for is the number
weight_is : (x w : ℕ) → weight_of x ≡ some w → x ≡ w
weight_is x w e = some-injective x w (if_some (ltb x far) (some x) e).1

module _ (c : Counts) (states arcs : List ℕ) (sound : Sound (lent c states arcs)) where
  -- the table
  abbrev table : Automaton ℕ
  table = table_of (lent c states arcs)

  -- its arcs lie between its states
  pub table-within : Within (graph table) (size table)
  table-within = (well_formed table (sound_well_formed (lent c states arcs) sound)).within

  -- of which it has as many as are counted
  pub table-size : c.states ≡ size table
  table-size = (sound_holds (lent c states arcs) sound).states

  -- their initial weights are those of the records
  pub initial_is : (q : ℕ) → q < c.states → initial_of table q ≡ option_of (state_at (state_size * q) states).initial
  initial_is q lt = ap (λ o. bind o (λ x. x.initial)) (state_loaded (lent c states arcs) sound q lt)

  -- and their final weights too
  pub final_is : (q : ℕ) → q < c.states → final_of table q ≡ option_of (state_at (state_size * q) states).last
  final_is q lt = ap (λ o. bind o (λ x. x.final)) (state_loaded (lent c states arcs) sound q lt)

  -- the number of a cell is the least weight from there on
  pub number_is : (t : Tuple) (ws : List ℕ) → Filled table t ws → (q : ℕ) (ps : List ℕ) (w : ℕ) → q < c.states → Positions ps t
      → least_onward ℕ_sum table q (drop_all ps t) ≡ some w → get_or ws (cell q ps t) 0 ≡ w
  number_is t ws filled q ps w lt pos l = weight_is (get_or ws (cell q ps t) 0) w (filled.least q ps (omega (arith, table-size)) pos ∙ l)
