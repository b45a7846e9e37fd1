use mathlib.Core.Path.{◌≡◌}
use Prim.Native.Nat.{◌+◌, ◌-◌, ◌*◌, ◌<◌}
use native.Mathlib.Omega.{arith}
use Rattle.automata.specs.Layout.{label_size}
use Rattle.table.proofs.GoodFacts.{labels_next, labels_none}
use Rattle.table.proofs.good.good_labels.Goals as goal

pub loop-tape-preserved : goal.loop-tape-preserved
loop-tape-preserved c =
    let l = c.loop-tape in
    let more : 0 < c.args.tapes - l.tape = omega arith in
    let at : label_size * (l.tape + 1) ≡ label_size * l.tape + label_size = omega arith in
    let left : c.args.tapes - (l.tape + 1) ≡ c.args.tapes - l.tape - 1 = omega arith in
    rw (at, left) (λ f. l.invariant (labels_next _ (label_size * l.tape) (c.args.tapes - l.tape) more (c.good_label.ensures c.if-not-good_label.false) f))

pub returns : goal.returns
returns c = let l = c.loop-tape in λ e. l.invariant (labels_none _ (c.args.tapes - l.tape) (omega arith))
