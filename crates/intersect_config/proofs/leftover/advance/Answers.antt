use Rattle.intersect_config.proofs.StripFacts.{advance-first, advance_second}
use Rattle.intersect_config.proofs.leftover.advance.Goals as goal

pub returns-then-l : goal.returns-then-l
returns-then-l c = let r = c.requires in
    advance_second c.args.l c.args.x c.args.y _ _ r.0 r.1.0 r.1.1 c.if-l.true c.join-joined.ensures c.strip_to.ensures

pub returns-else-l : goal.returns-else-l
returns-else-l c = let r = c.requires in
    advance-first c.args.l c.args.x c.args.y _ _ r.0 r.1.0 r.1.1 c.if-l.false c.join-joined-else-l.ensures c.strip_to-else-l.ensures
