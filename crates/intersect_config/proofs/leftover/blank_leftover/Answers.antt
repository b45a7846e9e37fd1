use Rattle.intersect_config.specs.Leftovers.{blank}
use mathlib.Core.Path.{refl}
use Rattle.intersect_config.proofs.leftover.blank_leftover.Goals as goal

pub returns : goal.returns
unfolding blank
returns c = refl
