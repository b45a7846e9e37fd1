use mathlib.Core.Path.{refl}
use Rattle.table.specs.Answers.{lent}
use Rattle.intersect_result.proofs.FinishFacts.{finished, laid, states_writable, arcs_writable}
use borrow.Author.Rules.{rules}
use Rattle.intersect_result.proofs.finish.finish.Goals as goal

pub number_kept-kept-requires : goal.number_kept-kept-requires
number_kept-kept-requires c = let f = c.requires in (laid _ _ _ _ _ _ _ f, search rules, search rules)

pub write_states-requires : goal.write_states-requires
write_states-requires c =
    let f = c.requires in
    (f.rows_fit, search rules, (laid _ _ _ _ _ _ _ f).within, states_writable _ _ _ _ _ _ _ f _ _ _ c.number_kept-kept.ensures)

pub write_arcs-number-requires : goal.write_arcs-number-requires
write_arcs-number-requires c =
    let f = c.requires in
    let a = arcs_writable _ _ _ _ _ _ _ f _ _ _ c.number_kept-kept.ensures (search rules) in
    (f.edges_fit, search rules, a.0, a.1, a.2)

pub returns : goal.returns
returns c =
    λ ps v cs p. finished (lent c.args.plan.counts c.args.states.now c.args.arcs.now) c.requires.sound ps v cs c.args.plan.room c.args.head _ p _ _ _ c.number_kept-kept.ensures _ _ _ _ _ _ refl c.write_states.ensures c.write_arcs-number.ensures
