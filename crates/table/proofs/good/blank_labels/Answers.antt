use mathlib.Core.Path.{◌≡◌}
use Prim.Native.Nat.{◌+◌, ◌*◌}
use native.Mathlib.Omega.{arith}
use Rattle.automata.specs.Layout.{label_size}
use Rattle.table.proofs.GoodFacts.{blank-next}
use borrow.Author.Rules.{rules}
use Rattle.table.proofs.good.blank_labels.Goals as goal

pub loop-tape-preserved : goal.loop-tape-preserved
loop-tape-preserved c =
    let l = c.loop-tape in
    let w = c.get64 in
    let at : label_size * (l.tape + 1) ≡ label_size * l.tape + label_size = omega arith in
    rw at (λ f. l.invariant (blank-next _ (label_size * l.tape) w.result (search rules) c.if-labels-at-ne0.false w.ensures c.if-get64-ne0.false f))
