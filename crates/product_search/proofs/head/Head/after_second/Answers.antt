use mathlib.Core.Path.{ap}
use mathlib.Core.Bool.{not}
use Rattle.product_search.proofs.EndFacts.{second_over, second_stays, second_ends}
use Rattle.product_search.proofs.head.Head.after_second.Goals as goal
use Rattle.product_search.proofs.head.Head.after_second.Goals.{then-self-via-then-self, then-self-via-else-self+then-not-may_end}

pub returns-then-self : goal.returns-then-self
returns-then-self c =
    elim c.then-self.branch [
      | then-self-via-then-self w ↦ second_over _ _ _ _ _ _ _ c.requires.0 w.if-self.true
      | then-self-via-else-self+then-not-may_end w ↦ second_stays _ _ _ _ _ _ _ c.requires.0 _ w.may_end.ensures (ap not w.if-not-may_end.true)
    ]

pub returns : goal.returns
returns c = second_ends _ _ _ _ _ _ _ c.requires.0 _ c.may_end.ensures (ap not c.if-not-may_end.false) _ _ c.pass_first.ensures
