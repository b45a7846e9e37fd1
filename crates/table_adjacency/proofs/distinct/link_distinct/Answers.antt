use mathlib.Core.Path.{refl}
use Rattle.table_adjacency.proofs.DistinctFacts.{none_seen}
use Rattle.table_adjacency.proofs.distinct.link_distinct.Goals as goal

pub mark_states-requires : goal.mark_states-requires
mark_states-requires c = let s = c in (s.requires.0, none_seen _ _ _ _ s.requires.0.few_states s.requires.1.arcs_fit _ refl)
