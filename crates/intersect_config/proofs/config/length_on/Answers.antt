use Rattle.intersect_config.specs.Leftovers.{leftover_at}
use Rattle.intersect_config.proofs.TestFacts.{length_ahead, length_behind}
use Rattle.intersect_config.proofs.config.length_on.Goals as goal

pub returns-then-ahead-second : goal.returns-then-ahead-second
unfolding leftover_at
returns-then-ahead-second c = let s = c in length_ahead s.args.second (leftover_at s.args.at s.args.row.now) s.requires.1 c.if-ahead-second.true

pub returns-else-ahead-second : goal.returns-else-ahead-second
unfolding leftover_at
returns-else-ahead-second c = let s = c in length_behind s.args.second (leftover_at s.args.at s.args.row.now) c.if-ahead-second.false
