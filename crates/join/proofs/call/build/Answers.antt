use Rattle.automata.specs.Calls.Outcome.{slices_of}
use Rattle.table.specs.Answers.{memory}
use Rattle.table.proofs.AnswerFacts.{handed_on}
use Rattle.join.proofs.CallFacts.{call_refused, call_joinable, call_stepped}
use Rattle.join.proofs.call.build.Goals as goal

pub join_steps-requires : goal.join_steps-requires
join_steps-requires c = call_joinable (memory c.args.first.now) (memory c.args.second.now) c.requires.pairs (slices_of c.args.product_states.now c.args.product_arcs.now) (slices_of c.args.out_states.now c.args.out_arcs.now) c.args.work.now _ (c.in_ok-prepared.ensures.1 c.requires.pairs c.requires.judged)

pub returns-in_err-prepared : goal.returns-in_err-prepared
returns-in_err-prepared c =
    rw (handed_on _ _ c.from_residual.ensures.1) (λ ps k. call_refused (memory c.args.first.now) (memory c.args.second.now) ps (slices_of c.args.product_states.now c.args.product_arcs.now) (slices_of c.args.out_states.now c.args.out_arcs.now) c.args.work.now _ (c.in_err-prepared.ensures.1 ps k))

pub returns : goal.returns
returns c = λ ps k. call_stepped (memory c.args.first.now) (memory c.args.second.now) ps (slices_of c.args.product_states.now c.args.product_arcs.now) (slices_of c.args.out_states.now c.args.out_arcs.now) c.args.work.now _ (c.in_ok-prepared.ensures.1 ps k) _ _ _ c.join_steps.ensures
