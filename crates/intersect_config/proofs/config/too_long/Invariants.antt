use mathlib.Core.Path.{◌≡◌}
use lib.ListN.{take}
use Rattle.intersect_config.specs.Configs.{config_at}
use Rattle.intersect_config.proofs.TestFacts.{long_from}
use Rattle.intersect_config.proofs.config.too_long.Given as goal

abbrev pub invariant-loop-i : goal.invariant-loop-i
invariant-loop-i l =
    let ls = (config_at 0 l.row).leftovers in
    long_from l.i (take l.pairs.used l.pairs.pairs) (take l.pairs.used ls) ≡ long_from 0 (take l.pairs.used l.pairs.pairs) (take l.pairs.used ls)
