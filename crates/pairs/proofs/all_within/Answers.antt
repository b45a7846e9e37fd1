use mathlib.Core.Path.{◌≡◌, ◌∙◌, sym}
use lib.ListN.{length}
use Rattle.pairs.proofs.PairFacts.{within_first, within_second, within-next, within_end}
use native.Mathlib.Omega.{arith}
use borrow.Author.Rules.{rules}
use Rattle.pairs.proofs.all_within.Goals as goal
use Rattle.pairs.proofs.all_within.Goals.{then-not-is_tape-via-then-not-is_tape, then-not-is_tape-via-else-not-is_tape+then-not-is_tape-2}

pub returns-then-not-is_tape : goal.returns-then-not-is_tape
returns-then-not-is_tape c =
    let i = c.loop-pair.invariant in
    let s = c.in-Some.ensures.steps in
    let l : length c.in-Some.pair.now ≡ 3 = omega arith in
    elim c.then-not-is_tape.branch [
      | then-not-is_tape-via-then-not-is_tape w ↦ within_first _ _ _ _ _ s.1.0 l (sym w.if-not-is_tape.true ∙ c.is_tape.ensures) ∙ i.1
      | then-not-is_tape-via-else-not-is_tape+then-not-is_tape-2 w ↦ within_second _ _ _ _ _ s.1.0 l w.if-not-is_tape.ensures w.if-not-is_tape-2.ensures ∙ i.1
    ]

pub loop-pair-preserved : goal.loop-pair-preserved
loop-pair-preserved c =
    let i = c.loop-pair.invariant in
    let s = c.in-Some.ensures.steps in
    let l : length c.in-Some.pair.now ≡ 3 = omega arith in
    (search rules, within-next _ _ _ _ _ s.1.0 l c.if-not-is_tape.ensures c.if-not-is_tape-2.ensures ∙ i.1)

pub returns : goal.returns
returns c = let s = c.in-None.ensures.steps in within_end _ _ _ (omega arith) ∙ c.loop-pair.invariant.1
