use mathlib.Core.Path.{◌∙◌}
use Prim.Native.Nat.{◌+◌, ◌-◌}
use native.Mathlib.Omega.{arith}
use Rattle.automata.specs.Calls.Drop.{in_mask}
use Rattle.tapes_records.proofs.ChoiceFacts.{left_turn, left_end}
use Rattle.tapes_records.proofs.kept.tapes_left.Goals as goal

pub loop-place-preserved : goal.loop-place-preserved
loop-place-preserved c =
    let l = c.loop-place in
    let k = c.keep_place-used.ensures in
    let w = left_turn (in_mask _) l.place (c.args.tapes - l.place) (c.args.tapes - (l.place + 1)) l.used _ _ _ (omega arith) (omega arith) k.0 k.1 in
    (omega arith, w.0 ∙ l.invariant.1, w.1 ∙ l.invariant.2)

pub returns : goal.returns
returns c =
    let l = c.loop-place in
    left_end (in_mask c.args.mask) l.place (c.args.tapes - l.place) l.used c.args.tapes _ c.args.kept.now (omega arith) l.invariant.1 l.invariant.2
