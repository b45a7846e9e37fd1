use mathlib.Core.Path.{◌≡◌}
use mathlib.Core.List.{map}
use lib.ListN.{take, drop}
use Rattle.automata.specs.TapePair.{limits_fit}
use Rattle.table.specs.Pairs.{pair_as, pairs_as}
use Rattle.pairs.proofs.limits_fit.Given as goal

abbrev pub invariant-loop-h : goal.invariant-loop-h
invariant-loop-h l = limits_fit (map pair_as (drop l.h (take l.list.used l.list.pairs))) ≡ limits_fit (pairs_as l.list)
