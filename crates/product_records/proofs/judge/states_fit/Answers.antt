use mathlib.Core.Path.{◌≡◌, ap, ◌∙◌}
use mathlib.Core.Bool.{not}
use Prim.Native.Nat.{suc, ◌+◌, ◌-◌, ◌*◌}
use native.Mathlib.Omega.{arith}
use Rattle.automata.specs.Layout.{vertex_size}
use Rattle.product_records.proofs.ResultFacts.{vertices_turn, states_stop, states_next, states_done}
use Rattle.product_records.proofs.judge.states_fit.Goals as goal

pub vertex_state-s-requires : goal.vertex_state-s-requires
vertex_state-s-requires c =
    let l = c.loop-i in
    (vertices_turn _ _ _ (vertex_size * l.i) (c.args.count - l.i) (c.args.count - l.i - 1) _ (omega (arith, c.loop-i-test.true)) c.load_vertex-v.ensures l.invariant.0).0

pub returns-then-not-state_fits : goal.returns-then-not-state_fits
returns-then-not-state_fits c =
    let l = c.loop-i in
    states_stop _ _ _ (vertex_size * l.i) (c.args.count - l.i) (c.args.count - l.i - 1) _ (omega (arith, c.loop-i-test.true)) c.load_vertex-v.ensures _ _ c.vertex_state-s.ensures c.state_fits.ensures
    (ap not c.if-not-state_fits.true)
    ∙ l.invariant.1

pub loop-i-preserved : goal.loop-i-preserved
loop-i-preserved c =
    let l = c.loop-i in
    let more : c.args.count - l.i ≡ suc (c.args.count - l.i - 1) = omega (arith, c.loop-i-test.true) in
    let at : vertex_size * (l.i + 1) ≡ vertex_size * l.i + vertex_size = omega arith in
    let left : c.args.count - (l.i + 1) ≡ c.args.count - l.i - 1 = omega arith in
    rw (at, left) (
      (vertices_turn _ _ _ (vertex_size * l.i) (c.args.count - l.i) (c.args.count - l.i - 1) _ more c.load_vertex-v.ensures l.invariant.0).1,
      states_next _ _ _ (vertex_size * l.i) (c.args.count - l.i) (c.args.count - l.i - 1) _ more c.load_vertex-v.ensures _ _ c.vertex_state-s.ensures c.state_fits.ensures (ap not c.if-not-state_fits.false)
          ∙ l.invariant.1,
    )

pub returns : goal.returns
returns c = let l = c.loop-i in states_done _ _ _ (vertex_size * l.i) (c.args.count - l.i) (omega (arith, c.loop-i-test.false)) ∙ l.invariant.1
