use mathlib.Core.Path.{◌∙◌}
use Prim.Native.Nat.{◌≤◌, ◌<◌}
use native.Mathlib.Omega.{arith}
use borrow.Author.Rules.{rules}
use borrow.Author.Tests.{ne_eqb}
use Rattle.lookup_moves.proofs.MoveFacts.{laid_any}
use Rattle.lookup_cells.proofs.PushFacts.{visits_stuck, visits_back, visits_here}
use Rattle.lookup_cells.proofs.RecallFacts.{leads-none, leads_some}
use Rattle.lookup_cells.proofs.push.visit_arc.Goals as goal

pub recall-by-requires : goal.recall-by-requires
recall-by-requires c = (c.requires.0, c.requires.1.few_arcs, λ f lt. (c.requires.1.each f lt).labelled, laid_any _ _ _ _ _ _ _ _ _ c.requires.1.laid, c.requires.3)

pub returns-then-number-by : goal.returns-then-number-by
returns-then-number-by c =
    let r = c.recall-by.ensures in
    (visits_stuck _ _ _ _ _ _ (leads-none _ _ _ _ _ _ _ _ _ _ r.0 (c.requires.1.each _ c.requires.0).leads c.if-number-by.true), r.1)

pub returns-then-by-eq0 : goal.returns-then-by-eq0
returns-then-by-eq0 c =
    let r = c.recall-by.ensures in
    let a : c.args.all < 18446744073709551616 = search rules in
    let t : c.recall-by.result ≤ c.args.number = omega (arith, c.if-number-by.false) in
    let k = leads_some _ _ _ _ _ _ _ _ c.args.all _ r.0 t (omega (arith, a, c.requires.2.number_is)) in (
      visits_here _ _ _ _ _ _ _ _ _ _ _ _ _ _ _ k (c.from.ensures ∙ c.source_at.ensures) c.cell_number-source.ensures
          (c.from-2.ensures ∙ c.target_at.ensures) c.cell_number-target.ensures (c.from-3.ensures ∙ c.arc_weight_at.ensures) c.weight_at.ensures c.lower-lowered.ensures (omega (arith, c.if-by-eq0.true)) c.requires.2.number_is,
      r.1,
    )

pub returns-else-by-eq0 : goal.returns-else-by-eq0
returns-else-by-eq0 c =
    let r = c.recall-by.ensures in
    let a : c.args.all < 18446744073709551616 = search rules in
    let t : c.recall-by.result ≤ c.args.number = omega (arith, c.if-number-by.false) in
    let k = leads_some _ _ _ _ _ _ _ _ c.args.all _ r.0 t (omega (arith, a, c.requires.2.number_is)) in
    rw (ne_eqb _ 0 c.if-by-eq0.false) (
      visits_back _ _ _ _ _ _ _ _ _ _ _ _ _ _ _ k (c.from.ensures ∙ c.source_at.ensures) c.cell_number-source.ensures
          (c.from-2.ensures ∙ c.target_at.ensures) c.cell_number-target.ensures (c.from-3.ensures ∙ c.arc_weight_at.ensures) c.weight_at.ensures c.lower-lowered.ensures c.if-by-eq0.false t c.requires.2.number_is,
      r.1,
    )
