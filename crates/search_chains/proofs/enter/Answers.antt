use Rattle.search_chains.proofs.EnterFacts.{enters_at, enters_full, enters_new}
use borrow.Author.Rules.{rules}
use Rattle.search_chains.proofs.enter.Goals as goal

pub returns-in-Some : goal.returns-in-Some
returns-in-Some c = enters_at _ _ _ _ _ _ _ _ c.find.ensures c.requires.2 c.requires.1 _ c.in-Some.is

pub returns-in-None : goal.returns-in-None
returns-in-None c = enters_full _ _ _ _ _ _ _ _ c.find.ensures c.requires.2 c.requires.1 c.in-None.is c.if-room-count.true

pub returns-in-None-2 : goal.returns-in-None-2
returns-in-None-2 c =
    enters_new _ _ _ _ _ _ _ _ c.find.ensures c.requires.2 c.requires.1 c.in-None-2.is c.if-room-count.false (search rules) c.requires.0 c.requires.3 _ c.append.ensures
