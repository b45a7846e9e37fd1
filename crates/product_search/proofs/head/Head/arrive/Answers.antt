use Rattle.product_search.proofs.ArriveFacts.{arrives_at, arrives_new, arrives_full}
use borrow.Author.Rules.{rules}
use Rattle.product_search.proofs.head.Head.arrive.Goals as goal

pub returns-in-At : goal.returns-in-At
returns-in-At c = arrives_at _ _ _ _ _ _ c.requires.0 c.requires.1 (search rules) (search rules) _ _ c.enter_vertex.ensures _ c.in-At.is _ c.note.ensures

pub returns-in-New : goal.returns-in-New
returns-in-New c = arrives_new _ _ _ _ _ _ c.requires.0 c.requires.1 (search rules) (search rules) _ _ c.enter_vertex.ensures _ c.in-New.is _ c.note-in-New.ensures

pub returns-in-Full : goal.returns-in-Full
returns-in-Full c = arrives_full _ _ _ _ _ _ c.requires.0 c.requires.1 (search rules) (search rules) _ _ c.enter_vertex.ensures c.in-Full.is
