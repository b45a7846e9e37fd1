use mathlib.Core.Path.{◌≡◌, ◌∙◌}
use Prim.Native.Nat.{◌+◌, ◌-◌, ◌*◌}
use native.Mathlib.Omega.{arith}
use Rattle.automata.specs.Layout.{delays_size}
use Rattle.forecast_counts.proofs.PathFacts.{test-le, path_turn, path_end}
use Rattle.forecast_counts.proofs.path_states.Goals as goal

pub loop-q-preserved : goal.loop-q-preserved
loop-q-preserved c =
    let l = c.loop-q in
    let at : delays_size * (l.q + 1) ≡ delays_size * l.q + delays_size = omega arith in (
      omega (arith, l.invariant.0, c.from-found.ensures, test-le c.on_path.result),
      rw at
          (path_turn _ (c.args.states - l.q) (c.args.states - (l.q + 1)) _ _ _ _ (omega arith) c.on_path.ensures c.from-found.ensures ∙ l.invariant.1),
    )

pub returns : goal.returns
returns c = path_end _ (c.args.states - c.loop-q.q) _ _ (omega arith) ∙ c.loop-q.invariant.1
