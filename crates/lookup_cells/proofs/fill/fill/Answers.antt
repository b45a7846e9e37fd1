use mathlib.Core.Path.{sym, ap, ◌∙◌}
use Prim.Native.Nat.{◌<◌, ◌-◌}
use lib.ListN.{length}
use native.Mathlib.Omega.{arith}
use borrow.Author.Rules.{rules}
use Rattle.lookup_cells.proofs.FillFacts.{spot_number, fillable_kept, placed, stated, positive, fill_start, fill_requires, fill_turn, fill_end}
use Rattle.lookup_cells.proofs.PushFacts.{marking_kept}
use Rattle.lookup_cells.proofs.RecallFacts.{fresh_below}
use Rattle.lookup_cells.proofs.StartMeaning.{sixteens}
use Rattle.lookup_cells.proofs.fill.fill.Goals as goal

pub start_states-requires : goal.start_states-requires
start_states-requires c = stated _ _ _ _ _ _ c.requires.0 _ c.spans_of-spans.ensures _ c.clear_cells.auto.work

pub loop-number-init : goal.loop-number-init
loop-number-init c =
    let n = c.start_states.ensures.same_length ∙ c.clear_cells.auto.work in
    let f = fillable_kept _ _ _ _ _ n c.requires.0 in
    let a : c.spans_of-spans.result.all < 18446744073709551616 = omega (arith, c.spans_of-spans.type_inv) in (
      fill_start _ _ _ _ _ _ f _ c.spans_of-spans.ensures _ _ (c.clear_cells.ensures ∙ ap sixteens (sym n)) c.start_states.ensures,
      c.requires.1.lined,
      fresh_below _ _ _ (omega (arith, a)) c.requires.3,
    )

pub spot_at-spot-requires : goal.spot_at-spot-requires
spot_at-spot-requires c =
    let k : length c.args.text.now < 18446744073709551616 = search rules in
    (placed _ _ _ _ _ _ c.requires.0 k, positive _ _ _ _ _ _ c.requires.0 _ c.loop-number.invariant.0.spanned)

pub settle-requires : goal.settle-requires
settle-requires c =
    let n = c.start_states.ensures.same_length ∙ c.clear_cells.auto.work in
    let f = fillable_kept _ _ _ _ _ n c.requires.0 in
    let l = c.loop-number in
    let r = fill_requires _ _ _ _ _ _ f _ l.number (l.number - 1) _ l.invariant.0 (omega arith) _ c.spot_at-spot.ensures in
    let m = spot_number _ _ _ _ c.spot_at-spot.ensures in
    (r.0, r.1, marking_kept _ _ _ _ _ l.invariant.1 c.requires.1, c.requires.2, fresh_below l.number _ _ (omega (arith, m)) l.invariant.2)

pub loop-number-preserved : goal.loop-number-preserved
loop-number-preserved c =
    let n = c.start_states.ensures.same_length ∙ c.clear_cells.auto.work in
    let f = fillable_kept _ _ _ _ _ n c.requires.0 in
    let l = c.loop-number in
    let m = spot_number _ _ _ _ c.spot_at-spot.ensures in
    let t = c.settle.ensures in
    (fill_turn _ _ _ _ _ _ f _ l.number (l.number - 1) _ l.invariant.0 (omega arith) _ c.spot_at-spot.ensures _ t.0, t.1, fresh_below _ (l.number - 1) _ (omega (arith, m)) t.2)

pub returns : goal.returns
returns c =
    let n = c.start_states.ensures.same_length ∙ c.clear_cells.auto.work in
    let f = fillable_kept _ _ _ _ _ n c.requires.0 in
    let l = c.loop-number in
    fill_end _ _ _ _ _ _ f _ l.number l.number _ l.invariant.0 (omega arith)
