use native.Mathlib.Omega.{arith}
use mathlib.Core.Path.{◌≡◌}
use lib.ListN.{length}
use Rattle.automata.specs.Calls.Outcome.{slices_of}
use Rattle.table.specs.Answers.{memory}
use Rattle.pairs.proofs.PairFacts.{movable}
use Rattle.join_steps.proofs.StepFacts.{product_ready, product-refused, product-given, product_keepable}
use borrow.Author.Rules.{rules}
use Rattle.join_steps.proofs.steps.join_steps.Goals as goal

pub product_step-answer-requires : goal.product_step-answer-requires
product_step-answer-requires c = product_ready _ _ _ _ _ _ _ _ _ c.requires

pub returns-in_default : goal.returns-in_default
returns-in_default c =
    rw c.in_default.is
    (product-refused (memory c.args.first.now) (memory c.args.second.now) c.args.pairs (slices_of c.args.product_states.now c.args.product_arcs.now) (slices_of c.args.out_states.now c.args.out_arcs.now) _ _ _ c.in_default.ensures)

pub moved_pairs-requires : goal.moved_pairs-requires
moved_pairs-requires c = movable _ _ _ c.requires.sided (omega (arith, c.requires.narrow))

pub keep_firsts-requires : goal.keep_firsts-requires
keep_firsts-requires c =
    let four : length c.moved_pairs.result.pairs ≡ 4 = search rules in
    product_keepable (memory c.args.first.now) (memory c.args.second.now) _ (slices_of c.args.product_states.now c.args.product_arcs.now) (slices_of c.args.out_states.now c.args.out_arcs.now) c.args.room _ _ c.requires c.product_step-answer.auto.work _ _ _ _ c.in-Ok.ensures c.moved_pairs.ensures four

pub returns : goal.returns
returns c =
    product-given (memory c.args.first.now) (memory c.args.second.now) _ (slices_of c.args.product_states.now c.args.product_arcs.now) (slices_of c.args.out_states.now c.args.out_arcs.now) c.requires.first _ _ _ _ _ c.in-Ok.ensures c.moved_pairs.ensures c.keep_firsts.ensures
