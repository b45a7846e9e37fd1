use mathlib.Core.Path.{◌≡◌, ◌∙◌}
use Prim.Native.Nat.{◌+◌, ◌-◌, ◌*◌}
use native.Mathlib.Omega.{arith}
use Rattle.automata.specs.Layout.{arc_size}
use Rattle.tapes_records.specs.Rewritten.{raised_arc}
use Rattle.tapes_records.proofs.RewriteFacts.{rewrite_turn, rewrite_end}
use Rattle.tapes_records.proofs.RaiseFacts.{raisable_first, raisable_rest, length_raised_arc}
use Rattle.tapes_records.proofs.raise.raise_arcs.Goals as goal

pub raise_arc-requires : goal.raise_arc-requires
raise_arc-requires c =
    let l = c.loop-i in
    (omega arith, raisable_first _ (c.args.from + arc_size * l.i) (c.args.count - l.i) (c.args.count - (l.i + 1)) _ (omega arith) l.invariant.0)

pub loop-i-preserved : goal.loop-i-preserved
loop-i-preserved c =
    let l = c.loop-i in
    let at = c.args.from + arc_size * l.i in
    let left = c.args.count - l.i in
    let rest = c.args.count - (l.i + 1) in
    let w = c.raise_arc.ensures in
    let next : c.args.from + arc_size * (l.i + 1) ≡ c.args.from + arc_size * l.i + arc_size = omega arith in
    rw next (
      raisable_rest c.args.by at left rest _ _ (omega arith) (omega arith) w l.invariant.0,
      rewrite_turn (raised_arc c.args.by) (length_raised_arc c.args.by) at left rest _ _ (omega arith) (omega arith) w ∙ l.invariant.1,
    )

pub returns : goal.returns
returns c = let l = c.loop-i in rewrite_end _ (c.args.from + arc_size * l.i) (c.args.count - l.i) _ (omega arith) ∙ l.invariant.1
