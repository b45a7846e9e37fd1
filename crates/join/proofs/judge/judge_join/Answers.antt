use Rattle.std.specs.Prelude.{Result, Some, None}
use mathlib.Core.Path.{◌≡◌, sym, subst, ◌∙◌}
use native.Mathlib.Omega.{arith}
use Rattle.table.specs.declared.answer.Refusal.{Refusal}
use Rattle.table.specs.declared.answer.Refusal.TheVariants.{Space}
use Rattle.table.specs.declared.pair.PairList.{PairList}
use Rattle.table.specs.Answers.{memory}
use Rattle.table.proofs.AnswerFacts.{handed_on}
use Rattle.intersect_room.specs.Room.{lent_space}
use Rattle.pairs.specs.Judgement.{JoinJudged}
use Rattle.join.specs.Judged.{JoinRoom}
use Rattle.join.proofs.JudgeFacts.{first_stops, second_stops, width_stops, pairs_stop, space_stops, goes_on}
use Rattle.join.proofs.judge.judge_join.Goals as goal

pub returns-in_err-judge : goal.returns-in_err-judge
returns-in_err-judge c = rw (handed_on _ _ c.from_residual.ensures.1) (tt, λ ps k. first_stops (memory c.args.first.now) (memory c.args.second.now) ps _ _ _ _ c.in_err-judge.ensures)

pub returns-in_err-judge-2 : goal.returns-in_err-judge-2
returns-in_err-judge-2 c =
    rw (handed_on _ _ c.from_residual-in_err-judge-2.ensures.1) (tt, λ ps k. second_stops (memory c.args.first.now) (memory c.args.second.now) ps _ _ _ c.in_ok-judge.ensures _ c.in_err-judge-2.ensures)

pub returns-then-not-width_fits : goal.returns-then-not-width_fits
returns-then-not-width_fits c = (tt, λ ps k. width_stops (memory c.args.first.now) (memory c.args.second.now) ps _ _ _ c.in_ok-judge.ensures c.in_ok-judge-2.ensures (sym c.width_fits.ensures ∙ c.if-not-width_fits.true))

pub returns-in_err-pairs : goal.returns-in_err-pairs
returns-in_err-pairs c =
    rw (handed_on _ _ c.from_residual-in_err-pairs.ensures.1) (
      tt,
      λ ps k. pairs_stop (memory c.args.first.now) (memory c.args.second.now) ps _ _ _ c.in_ok-judge.ensures c.in_ok-judge-2.ensures (sym c.width_fits.ensures ∙ c.if-not-width_fits.false) _
          (subst (λ (r : Result PairList Refusal). JoinJudged ps c.args.first.now.counts.tapes c.args.second.now.counts.tapes r) c.in_err-pairs.was k),
    )

pub returns-in_err-room : goal.returns-in_err-room
returns-in_err-room c =
    let none : c.join_room.result ≡ None = grind (arith, c.in_err-room.was, c.ok_or.ensures.value) in
    let space : c.in_err-room.field-0.0 ≡ Space = grind (arith, c.in_err-room.was, c.ok_or.ensures.value) in
    rw (handed_on _ _ c.from_residual-in_err-room.ensures.1, space) (
      tt,
      λ ps k. space_stops (memory c.args.first.now) (memory c.args.second.now) ps _ _ _ c.in_ok-judge.ensures c.in_ok-judge-2.ensures (sym c.width_fits.ensures ∙ c.if-not-width_fits.false) _
          (subst (λ (r : Result PairList Refusal). JoinJudged ps c.args.first.now.counts.tapes c.args.second.now.counts.tapes r) c.in_ok-pairs.was k)
          (subst (JoinRoom (lent_space c.args.product_states c.args.product_arcs) (lent_space c.args.states c.args.arcs) c.args.work) none c.join_room.ensures),
    )

pub returns : goal.returns
returns c =
    let some : c.join_room.result ≡ Some c.in_ok-room.room = grind (arith, c.in_ok-room.was, c.ok_or.ensures.value) in (
      c.in_ok-pairs.was,
      λ ps k. goes_on (memory c.args.first.now) (memory c.args.second.now) ps _ _ _ c.in_ok-judge.ensures c.in_ok-judge-2.ensures (sym c.width_fits.ensures ∙ c.if-not-width_fits.false) _
          (subst (λ (r : Result PairList Refusal). JoinJudged ps c.args.first.now.counts.tapes c.args.second.now.counts.tapes r) c.in_ok-pairs.was k) _
          (subst (JoinRoom (lent_space c.args.product_states c.args.product_arcs) (lent_space c.args.states c.args.arcs) c.args.work) some c.join_room.ensures),
    )
