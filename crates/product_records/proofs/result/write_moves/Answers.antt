use mathlib.Core.Path.{◌≡◌, ◌∙◌}
use Prim.Native.Nat.{suc, ◌+◌, ◌-◌, ◌*◌, ◌≤◌}
use native.Mathlib.Omega.{arith}
use lib.ListN.{length}
use Rattle.automata.specs.Layout.{arc_size, step_size}
use Rattle.product_records.proofs.ResultFacts.{moves_turn, moves_written, moves_end}
use Rattle.product_records.proofs.result.write_moves.Goals as goal

pub store_move-requires : goal.store_move-requires
store_move-requires c =
    let l = c.loop-i in (
      (moves_turn _ _ _ _ _ _ (c.args.base + step_size * l.i) (c.args.count - l.i) (c.args.count - l.i - 1) _ (omega (arith, c.loop-i-test.true)) c.load_move-m.ensures l.invariant.0).0,
      c.requires.2,
      omega (arith, c.requires.3, l.auto.out, c.loop-i-test.true),
    )

pub loop-i-preserved : goal.loop-i-preserved
loop-i-preserved c =
    let l = c.loop-i in
    let more : c.args.count - l.i ≡ suc (c.args.count - l.i - 1) = omega (arith, c.loop-i-test.true) in
    let from : c.args.base + step_size * (l.i + 1) ≡ c.args.base + step_size * l.i + step_size = omega arith in
    let to : arc_size * (l.i + 1) ≡ arc_size * l.i + arc_size = omega arith in
    let left : c.args.count - (l.i + 1) ≡ c.args.count - l.i - 1 = omega arith in
    let fits : arc_size * l.i + arc_size * (c.args.count - l.i) ≤ length l.out = omega (arith, c.requires.3, l.auto.out, c.loop-i-test.true) in
    rw (from, to, left) (
      (moves_turn _ _ _ _ _ _ (c.args.base + step_size * l.i) (c.args.count - l.i) (c.args.count - l.i - 1) _ more c.load_move-m.ensures l.invariant.0).1,
      moves_written _ _ _ _ _ _ (c.args.base + step_size * l.i) (c.args.count - l.i) (c.args.count - l.i - 1) _ more c.load_move-m.ensures _ _ (arc_size * l.i) _ _ c.requires.2 l.invariant.0 fits c.store_move.ensures.0
          ∙ l.invariant.1,
    )

pub returns : goal.returns
returns c = let l = c.loop-i in moves_end _ _ _ _ _ _ (c.args.base + step_size * l.i) (c.args.count - l.i) _ _ _ _ _ _ _ (omega (arith, c.loop-i-test.false)) l.invariant.1
