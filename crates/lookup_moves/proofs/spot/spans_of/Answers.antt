use mathlib.Core.Path.{◌≡◌}
use Prim.Native.Nat.{◌-◌}
use lib.ListN.{length}
use native.Mathlib.Omega.{arith}
use borrow.Author.Rules.{rules}
use Rattle.lookup_moves.proofs.SpanFacts.{spanned_none, spanned_next}
use Rattle.lookup_moves.proofs.spot.spans_of.Goals as goal

pub loop-h-init : goal.loop-h-init
loop-h-init c =
    let l : length c.args.strings.lengths ≡ 8 = search rules in
    spanned_none _ l

pub loop-h-preserved : goal.loop-h-preserved
loop-h-preserved c =
    let l : length c.args.strings.lengths ≡ 8 = search rules in
    spanned_next _ l c.loop-h.h (c.loop-h.h - 1) _ _ (omega arith) (omega arith) c.loop-h.invariant (c.requires.short (c.loop-h.h - 1))
