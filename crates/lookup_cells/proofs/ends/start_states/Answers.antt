use Prim.Native.Nat.{◌+◌, ◌-◌}
use native.Mathlib.Omega.{arith}
use Rattle.lookup_cells.proofs.EndFacts.{start_turn, start_end}
use Rattle.lookup_cells.proofs.ends.start_states.Goals as goal

pub loop-q-preserved : goal.loop-q-preserved
loop-q-preserved c =
    let l = c.loop-q in start_turn _ _ _ _ _ (c.args.count - l.q) (c.args.count - (l.q + 1)) _ l.invariant _ (omega arith) c.start_state.ensures

pub returns : goal.returns
returns c = let l = c.loop-q in start_end _ _ _ _ _ (c.args.count - l.q) (c.args.count - l.q) _ l.invariant (omega arith)
