use mathlib.Core.Path.{◌≡◌, refl, sym, ◌∙◌}
use Prim.Native.Nat.{◌+◌, ◌-◌, ◌*◌, ◌<◌, ◌≤◌}
use native.Mathlib.Omega.{arith}
use lib.ListN.{length, length-drop, length-take}
use Rattle.text_store.proofs.RecodeFacts.{recode_turn, recode_done, part_within, parts_from}
use Rattle.text_store.proofs.recode.write_parts.Goals as goal

pub loop-part-init : goal.loop-part-init
loop-part-init g c = (omega arith, omega arith, λ recode w. let n : c.args.count - 0 ≡ c.args.count = omega arith in rw n refl)

pub write-requires : goal.write-requires
write-requires g c =
    let l = c.loop-part in
    let p = part_within c.args.width l._part c.args.count c.loop-part-test.true in
    let q = part_within c.args.size l._part c.args.count c.loop-part-test.true in
    c.requires.takes _ _ _ (simp (length-take, length-drop) (omega (arith, l.invariant.0))) (omega (arith, l.invariant.1))

pub loop-part-preserved : goal.loop-part-preserved
loop-part-preserved g c =
    let l = c.loop-part in
    let more : 0 < c.args.count - l._part = omega arith in
    let p : l.at + (c.args.count - l._part) * c.args.width ≤ length c.args.parts.now = omega (arith, l.invariant.0, parts_from c.args.width l._part c.args.count (omega arith)) in
    let q : l.to + (c.args.count - l._part) * c.args.size ≤ length l.out = omega (arith, l.invariant.1, parts_from c.args.size l._part c.args.count (omega arith)) in
    let left : c.args.count - (l._part + 1) ≡ c.args.count - l._part - 1 = omega arith in (
      omega (arith, l.invariant.0),
      omega (arith, l.invariant.1),
      λ recode w. rw left (recode_turn recode c.args.width c.args.size w.sized _ _ _ l.at l.to (c.args.count - l._part) more p q (w.gives _ _ _ _ c.write.ensures) ∙ l.invariant.2 recode w),
    )

pub returns : goal.returns
returns g c = λ recode w. let l = c.loop-part in
    sym (recode_done recode c.args.width _ _ l.to (c.args.count - l._part) (omega arith)) ∙ l.invariant.2 recode w
