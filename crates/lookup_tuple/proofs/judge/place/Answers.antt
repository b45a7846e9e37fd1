use mathlib.Core.Path.{◌∙◌}
use native.Mathlib.Omega.{arith}
use Prim.Native.Nat.{◌<◌}
use lib.ListN.{length}
use Rattle.lookup_tuple.proofs.LineFacts.{lines_at_lem}
use Rattle.lookup_tuple.proofs.PlaceFacts.{placed-none, next-ends, next_rest, placed-next, placed_stands, same_tuple}
use Rattle.lookup_tuple.proofs.judge.place.Goals as goal

pub loop-i-init : goal.loop-i-init
loop-i-init c = (omega arith, λ t e. (lines_at_lem _ ∙ e, placed-none _ t))

pub loop-i-preserved : goal.loop-i-preserved
loop-i-preserved c =
    let p = c.requires in
    let l = c.loop-i in
    let e = c.line_end-end.ensures in (
      omega (arith, next-ends _ p.tuple l.i l.at (omega (arith, p.count_is)) (l.invariant.1 p.tuple p.lines_are).0 _ e),
      λ t q.
          let w = l.invariant.1 t q in
          let k : l.i < length t = omega (arith, same_tuple _ t p.tuple q p.lines_are, p.count_is) in
          (next_rest _ t l.i l.at k w.0 _ e, placed-next _ t l.i l.at k w.0 _ e _ _ (omega (arith, p.few)) w.1),
    )

pub returns : goal.returns
returns c =
    let l = c.loop-i in
    record { stands = λ t q. placed_stands _ t _ l.i _ _ c.requires q (omega arith) (omega arith) (l.invariant.1 t q).1 }
