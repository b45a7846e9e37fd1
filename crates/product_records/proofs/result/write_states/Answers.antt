use mathlib.Core.Path.{◌≡◌, ◌∙◌}
use Prim.Native.Nat.{suc, ◌+◌, ◌-◌, ◌*◌, ◌≤◌}
use native.Mathlib.Omega.{arith}
use lib.ListN.{length}
use Rattle.automata.specs.Layout.{state_size, vertex_size}
use Rattle.product_records.proofs.ResultFacts.{vertices_turn, states_written, states_end}
use Rattle.product_records.proofs.result.write_states.Goals as goal

pub vertex_state-s-requires : goal.vertex_state-s-requires
vertex_state-s-requires c =
    let l = c.loop-i in
    (vertices_turn _ _ _ (vertex_size * l.i) (c.args.count - l.i) (c.args.count - l.i - 1) _ (omega (arith, c.loop-i-test.true)) c.load_vertex-v.ensures l.invariant.0).0

pub loop-i-preserved : goal.loop-i-preserved
loop-i-preserved c =
    let l = c.loop-i in
    let more : c.args.count - l.i ≡ suc (c.args.count - l.i - 1) = omega (arith, c.loop-i-test.true) in
    let from : vertex_size * (l.i + 1) ≡ vertex_size * l.i + vertex_size = omega arith in
    let to : state_size * (l.i + 1) ≡ state_size * l.i + state_size = omega arith in
    let left : c.args.count - (l.i + 1) ≡ c.args.count - l.i - 1 = omega arith in
    let fits : state_size * l.i + state_size * (c.args.count - l.i) ≤ length l.out = omega (arith, c.requires.2, l.auto.out, c.loop-i-test.true) in
    rw (from, to, left) (
      (vertices_turn _ _ _ (vertex_size * l.i) (c.args.count - l.i) (c.args.count - l.i - 1) _ more c.load_vertex-v.ensures l.invariant.0).1,
      states_written _ _ _ (vertex_size * l.i) (c.args.count - l.i) (c.args.count - l.i - 1) _ more c.load_vertex-v.ensures _ (state_size * l.i) _ _ c.vertex_state-s.ensures fits c.store_state.ensures ∙ l.invariant.1,
    )

pub returns : goal.returns
returns c = let l = c.loop-i in states_end _ _ _ (vertex_size * l.i) (c.args.count - l.i) _ _ _ _ (omega (arith, c.loop-i-test.false)) l.invariant.1
