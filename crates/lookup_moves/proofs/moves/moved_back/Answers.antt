use mathlib.Core.Path.{◌≡◌, refl, sym, subst, ◌∙◌}
use Prim.Native.Nat.{ℕ, ◌+◌, ◌-◌, ◌≤◌}
use native.Mathlib.Omega.{arith}
use lib.ListN.{get_or}
use Rattle.lookup_moves.specs.Moves.{spot_with}
use Rattle.lookup_moves.proofs.MoveFacts.{moves_stuck, moves_turn, turn_bound, moves_end}
use Rattle.lookup_moves.proofs.moves.moved_back.Goals as goal

pub loop-h-init : goal.loop-h-init
loop-h-init c =
    let f = c.labels_start-from.ensures in
    let n : c.args.tapes - 0 ≡ c.args.tapes = omega arith in
    (omega (arith, f), omega arith, rw (f, n) refl)

pub move_tape-requires : goal.move_tape-requires
move_tape-requires c =
    let l = c.loop-h in
    let k = c.loop-h-test.true in
    let p = c.requires.0 in
    let q = c.requires.1 in (
      omega (arith, k, p.lent, q.few, l.invariant.0),
      subst (λ (i : ℕ). get_or c.args.arcs.now i 0 ≤ 8) (sym l.invariant.0) (p.short l.h (omega (arith, k, q.few))),
      q.before l.h k,
      q.within l.h k,
      q.small l.h,
    )

pub returns-in_err-total : goal.returns-in_err-total
returns-in_err-total c =
    let l = c.loop-h in
    rw c.from_residual.ensures (moves_stuck (c.args.tapes - l.h) (c.args.tapes - l.h - 1) _ _ _ _ _ _ (omega arith) c.in_err-total.ensures ∙ l.invariant.2)

pub overflow_add-total : goal.overflow_add-total
overflow_add-total c =
    let l = c.loop-h in
    let b = turn_bound (c.args.tapes - l.h) (c.args.tapes - l.h - 1) l.h l.from l.total _ _
    (spot_with c.args.starts.now c.args.positions.now c.args.spans.now 0 0) (omega arith) _ c.in_ok-total.ensures
    (subst (λ (i : ℕ). get_or c.args.arcs.now i 0 ≤ 8) (sym l.invariant.0) (c.requires.0.short l.h (omega (arith, c.requires.1.few)))) (c.requires.1.small l.h) in
    omega (arith, b, l.invariant.1, c.requires.1.few)

pub loop-h-preserved : goal.loop-h-preserved
loop-h-preserved c =
    let l = c.loop-h in
    let b = turn_bound (c.args.tapes - l.h) (c.args.tapes - l.h - 1) l.h l.from l.total _ _
    (spot_with c.args.starts.now c.args.positions.now c.args.spans.now 0 0) (omega arith) _ c.in_ok-total.ensures
    (subst (λ (i : ℕ). get_or c.args.arcs.now i 0 ≤ 8) (sym l.invariant.0) (c.requires.0.short l.h (omega (arith, c.requires.1.few)))) (c.requires.1.small l.h) in (
      omega (arith, l.invariant.0),
      omega (arith, b, l.invariant.1),
      moves_turn _ (c.args.tapes - (l.h + 1)) _ _ _ _ _ _ (omega arith) _ c.in_ok-total.ensures ∙ l.invariant.2,
    )

pub returns : goal.returns
returns c = let l = c.loop-h in moves_end (c.args.tapes - l.h) _ _ _ _ _ _ (omega arith) ∙ l.invariant.2
