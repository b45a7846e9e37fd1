use mathlib.Core.Path.{ap, ◌∙◌}
use Prim.Native.Nat.{◌+◌, ◌-◌, ◌*◌, ◌<◌}
use native.Mathlib.Omega.{arith}
use lib.ListN.{length-take}
use lib.Seq.{get_or-take}
use Rattle.automata.specs.Layout.{label_size}
use Rattle.tapes_records.proofs.RewriteFacts.{labels_turn, labels_end_lem}
use Rattle.tapes_records.proofs.choose.copy_labels.Goals as goal

pub loop-tape-preserved : goal.loop-tape-preserved
loop-tape-preserved c =
    let l = c.loop-tape in
    let k = l.tape-index in
    let e = c.label_place-from.ensures in
    let p = c.requires in
    let n = length-take c.args.used c.args.tapes.now in
    let more : k < c.args.used = omega (arith, p.0.lent) in
    let tape = get_or-take c.args.used c.args.tapes.now k 0 more in (
      omega (arith, l.invariant.0),
      labels_turn _ _ k (c.args.used - k) (c.args.used - (k + 1)) l.to _ _ _ (omega arith) (omega (arith, p.0.lent)) (e.0 ∙ ap (λ t. label_size * (t - 1)) tape)
          (omega (arith, e.1)) (omega (arith, p.0.few, l.invariant.0)) c.copy_into.ensures ∙ l.invariant.1,
    )

pub returns : goal.returns
returns c =
    let l = c.loop-tape in
    let n = length-take c.args.used c.args.tapes.now in
    labels_end_lem _ c.args.tapes.now l.tape-index (c.args.used - l.tape-index) c.args.used l.to _ _ (omega (arith, c.requires.0.lent)) l.invariant.1
