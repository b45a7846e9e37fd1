use Prim.Native.Nat.{◌-◌}
use Rattle.intersect_config.specs.Configs.{config_at, Row}
use Rattle.intersect_head.proofs.TurnFacts.{Chaining}
use Rattle.intersect_head.proofs.head.Head.take_up.Given as goal

abbrev pub invariant-loop-j : goal.invariant-loop-j
invariant-loop-j l = Chaining l.plan l.initial.self l.arcs l.initial.work (config_at 0 l.own) l.self l.work l.j × Row l.plan.pairs.used l.row

abbrev pub decreases-loop-j : goal.decreases-loop-j
decreases-loop-j l = l.plan.counts.arcs - l.j
