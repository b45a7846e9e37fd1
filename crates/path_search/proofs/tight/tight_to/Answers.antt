use Rattle.path_search.proofs.TightFacts.{weight_there, tight_out, tight_differs, tight_astray, tight_leads}
use Prim.Native.Nat.{◌<◌}
use mathlib.Core.Path.{refl}
use lib.ListN.{length}
use native.Mathlib.Omega.{arith}
use Rattle.path_search.proofs.tight.tight_to.Goals as goal
use Rattle.path_search.proofs.tight.tight_to.Goals.{else-weighs-via-then-weighs+else-ends_at, else-weighs-via-else-weighs}

pub returns-then-spans-to : goal.returns-then-spans-to
returns-then-spans-to c = tight_out _ _ _ _ _ _ _ _ _ c.if-spans-to.true

pub overflow_mul-at : goal.overflow_mul-at
overflow_mul-at c =
    let r = c.requires.0.ready c.args.to (omega (arith, c.if-spans-to.false)) in
    omega (arith, c.requires.2, r.few_arcs)

pub target_at-requires : goal.target_at-requires
target_at-requires c =
    let r = c.requires.0.ready c.args.to (omega (arith, c.if-spans-to.false)) in
    omega (arith, c.requires.2, r.lent)

pub cell_number-there-requires : goal.cell_number-there-requires
cell_number-there-requires c =
    let n : c.args.to < c.args.spans.all = omega (arith, c.if-spans-to.false) in
    let p = (c.requires.0.ready _ n).each _ c.requires.2 in
    let g : c.target_at.result.0 < c.args.counts.states = omega (arith, c.target_at.ensures, p.target) in
    let z : length c.args.work.now < 18446744073709551616 = omega (arith, c.well_formed) in
    omega (arith, (weight_there _ _ _ _ _ _ c.requires.1 g n refl).0, z)

pub arc_weight_at-requires : goal.arc_weight_at-requires
arc_weight_at-requires c =
    let r = c.requires.0.ready c.args.to (omega (arith, c.if-spans-to.false)) in
    omega (arith, c.requires.2, r.lent)

pub weight_at-requires : goal.weight_at-requires
weight_at-requires c =
    let n : c.args.to < c.args.spans.all = omega (arith, c.if-spans-to.false) in
    let p = (c.requires.0.ready _ n).each _ c.requires.2 in
    let g : c.target_at.result.0 < c.args.counts.states = omega (arith, c.target_at.ensures, p.target) in
    (weight_there _ _ _ _ _ _ c.requires.1 g n c.cell_number-there.ensures).0

pub overflow_add-weighs : goal.overflow_add-weighs
overflow_add-weighs c =
    let n : c.args.to < c.args.spans.all = omega (arith, c.if-spans-to.false) in
    let p = (c.requires.0.ready _ n).each _ c.requires.2 in
    let g : c.target_at.result.0 < c.args.counts.states = omega (arith, c.target_at.ensures, p.target) in
    let b = (weight_there _ _ _ _ _ _ c.requires.1 g n c.cell_number-there.ensures).1 in
    omega (arith, b, c.weight_at.ensures, c.arc_weight_at.ensures, p.light)

pub returns-then-ends_at : goal.returns-then-ends_at
returns-then-ends_at c =
    tight_leads _ _ _ _ _ _ _ _ _ _ _ _ _ _ (omega (arith, c.if-spans-to.false)) c.target_at.ensures c.cell_number-there.ensures c.arc_weight_at.ensures
    c.weight_at.ensures c.weight_at-2.ensures c.if-weighs.true _ c.ends_at.ensures c.if-ends_at.true

pub returns-else-weighs : goal.returns-else-weighs
returns-else-weighs c = elim c.else-weighs.branch [
  | else-weighs-via-then-weighs+else-ends_at w ↦
      tight_astray _ _ _ _ _ _ _ _ _ _ _ _ _ _ (omega (arith, c.if-spans-to.false)) c.target_at.ensures c.cell_number-there.ensures c.arc_weight_at.ensures
      c.weight_at.ensures c.weight_at-2.ensures w.if-weighs.true _ w.ends_at.ensures w.if-ends_at.false
  | else-weighs-via-else-weighs w ↦
      tight_differs _ _ _ _ _ _ _ _ _ _ _ _ _ _ (omega (arith, c.if-spans-to.false)) c.target_at.ensures c.cell_number-there.ensures c.arc_weight_at.ensures
      c.weight_at.ensures c.weight_at-2.ensures w.if-weighs.false
]
