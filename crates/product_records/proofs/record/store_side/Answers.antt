use mathlib.Core.Path.{◌≡◌, refl, ◌∙◌}
use Prim.Native.Nat.{◌+◌, ◌-◌, ◌*◌, ◌≤◌}
use native.Mathlib.Omega.{arith}
use lib.ListN.{length}
use Rattle.automata.specs.Layout.{label_size}
use Rattle.product_records.proofs.RecordFacts.{side_ended, side_arc, labels_more, labels_done}
use Rattle.product_records.proofs.record.store_side.Goals as goal

pub returns-then-arc-eq-NO_ARC : goal.returns-then-arc-eq-NO_ARC
returns-then-arc-eq-NO_ARC c = side_ended _ _ _ _ _ c.if-arc-eq-NO_ARC.true

pub loop-tape-init : goal.loop-tape-init
loop-tape-init c =
    let f = c.labels_start-from.ensures in
    let n : c.args.tapes - 0 ≡ c.args.tapes = omega arith in
    (omega (arith, f), omega arith, rw (f, n) refl)

pub loop-tape-preserved : goal.loop-tape-preserved
loop-tape-preserved c =
    let l = c.loop-tape in
    let known = c.requires.0 c.if-arc-eq-NO_ARC.false in
    let within : l.from + label_size * (c.args.tapes - l._tape) ≤ length c.args.arcs.now = omega (arith, known, l.invariant.0) in
    let fits : l.at + label_size * (c.args.tapes - l._tape) ≤ length l.out = omega (arith, l.auto.out, l.invariant.1) in (
      omega (arith, l.invariant.0),
      omega (arith, l.invariant.1),
      labels_more _ l.from l.at (c.args.tapes - l._tape) (c.args.tapes - (l._tape + 1)) _ _ (omega (arith, c.loop-tape-test.true)) within fits c.copy_label.ensures ∙ l.invariant.2,
    )

pub returns : goal.returns
returns c =
    let l = c.loop-tape in
    side_arc _ _ _ _ _ _ c.if-arc-eq-NO_ARC.false
    (labels_done _ l.from l.at (c.args.tapes - l._tape) _ _ (omega (arith, c.loop-tape-test.false)) l.invariant.2)
