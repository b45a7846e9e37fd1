use Rattle.intersect_result.proofs.KeepFacts.{finals-bits, rows_kept}
use borrow.Author.Rules.{rules}
use Rattle.intersect_result.proofs.kept.number_kept.Goals as goal

pub mark_coaccessible-requires : goal.mark_coaccessible-requires
mark_coaccessible-requires c = (search rules, search rules, search rules, finals-bits _ _ _ _ _ c.mark_final.ensures)

pub returns : goal.returns
returns c =
    rows_kept c.args.room c.args.head _ _ _ _ c.mark_final.ensures _ _ _ c.mark_coaccessible.ensures c.number_marked.ensures
