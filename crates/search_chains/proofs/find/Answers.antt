use Prim.Native.Nat.{◌-◌}
use native.Mathlib.Omega.{arith}
use Rattle.search_chains.proofs.FindFacts.{differing, passes_next, finds_nothing, finds_record}
use Rattle.search_chains.proofs.find.Goals as goal

pub records-preserved : goal.records-preserved
records-preserved c =
    let l = c.records in
    let n = c.link_below-link-in-records in (
      omega (arith, n.ensures.1, l.invariant.0),
      passes_next _ _ _ _ _ _ l.link (l.link - 1) (omega (arith, c.if-link-eq0.false)) l.invariant.0 l.invariant.1
          (differing _ (l.link - 1) c.loop-i.i _ _ (omega (arith, c.part_end-i-end.ensures, c.requires.3 _ c.loop-p-test.true, c.loop-i-test.true)) c.if-work-at.true) _ n.ensures.0,
    )

pub returns-then-link-eq0 : goal.returns-then-link-eq0
returns-then-link-eq0 c = let l = c.records in finds_nothing _ _ _ _ _ _ l.link c.if-link-eq0.true l.invariant.1

pub returns-after-loop-p : goal.returns-after-loop-p
returns-after-loop-p c =
    let l = c.records in
    finds_record _ _ _ _ _ _ (l.link - 1) (omega (arith, c.if-link-eq0.false, l.invariant.0)) (λ p h. c.loop-p.invariant p (omega (arith, h, c.loop-p-test.false)))
