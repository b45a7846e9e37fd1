use mathlib.Core.Path.{◌≡◌, ◌∙◌}
use Prim.Native.Nat.{suc, ◌+◌, ◌-◌, ◌*◌}
use native.Mathlib.Omega.{arith}
use Rattle.automata.specs.Layout.{step_size}
use Rattle.product_records.proofs.ResultFacts.{moves_turn, moves_stop, moves_next, moves_done}
use Rattle.product_records.proofs.judge.moves_fit.Goals as goal

pub move_weight-weight-requires : goal.move_weight-weight-requires
move_weight-weight-requires c =
    let l = c.loop-i in
    (moves_turn _ _ _ _ _ _ (c.args.base + step_size * l.i) (c.args.count - l.i) (c.args.count - l.i - 1) _ (omega (arith, c.loop-i-test.true)) c.load_move-m.ensures l.invariant.0).0

pub returns-then-weight-gt999999999 : goal.returns-then-weight-gt999999999
returns-then-weight-gt999999999 c =
    let l = c.loop-i in
    moves_stop _ _ _ _ _ _ (c.args.base + step_size * l.i) (c.args.count - l.i) (c.args.count - l.i - 1) _ (omega (arith, c.loop-i-test.true)) c.load_move-m.ensures _ c.move_weight-weight.ensures
    c.if-weight-gt999999999.true
    ∙ l.invariant.1

pub loop-i-preserved : goal.loop-i-preserved
loop-i-preserved c =
    let l = c.loop-i in
    let more : c.args.count - l.i ≡ suc (c.args.count - l.i - 1) = omega (arith, c.loop-i-test.true) in
    let at : c.args.base + step_size * (l.i + 1) ≡ c.args.base + step_size * l.i + step_size = omega arith in
    let left : c.args.count - (l.i + 1) ≡ c.args.count - l.i - 1 = omega arith in
    rw (at, left) (
      (moves_turn _ _ _ _ _ _ (c.args.base + step_size * l.i) (c.args.count - l.i) (c.args.count - l.i - 1) _ more c.load_move-m.ensures l.invariant.0).1,
      moves_next _ _ _ _ _ _ (c.args.base + step_size * l.i) (c.args.count - l.i) (c.args.count - l.i - 1) _ more c.load_move-m.ensures _ c.move_weight-weight.ensures c.if-weight-gt999999999.false
          ∙ l.invariant.1,
    )

pub returns : goal.returns
returns c = let l = c.loop-i in moves_done _ _ _ _ _ _ (c.args.base + step_size * l.i) (c.args.count - l.i) (omega (arith, c.loop-i-test.false)) ∙ l.invariant.1
