use Rattle.table.proofs.TableFacts.{arc-short, arc_judged}
use Rattle.table.proofs.judge.judge_arc_at.Goals as goal

pub returns-then-arcs-at-lt-ARC_SIZE : goal.returns-then-arcs-at-lt-ARC_SIZE
returns-then-arcs-at-lt-ARC_SIZE c = let s = c in arc-short s.args.tapes s.args.states s.requires.1 s.args.arcs.now s.args.at s.requires.0 c.if-arcs-at-lt-ARC_SIZE.true

pub returns : goal.returns
returns c = let s = c in arc_judged s.args.tapes s.args.states s.requires.1 s.args.arcs.now s.args.at s.requires.0 _ c.if-arcs-at-lt-ARC_SIZE.false c.judge_arc.ensures
