use Rattle.path_search.proofs.SearchedFacts.{Searching}
use Prim.Native.Nat.{◌-◌, ◌*◌}
use Rattle.path_search.proofs.search.search.Given as goal

abbrev pub invariant-loop-head : goal.invariant-loop-head
invariant-loop-head l =
    Searching l.table.counts l.table.states.now l.table.arcs.now l.text l.strings l.spans l.found l.initial.work l.head l.count l.work

abbrev pub decreases-loop-head : goal.decreases-loop-head
decreases-loop-head l =
    l.table.counts.states * l.spans.all - l.head
