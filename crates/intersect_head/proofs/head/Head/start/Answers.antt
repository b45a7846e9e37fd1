use native.Mathlib.Omega.{arith}
use Rattle.intersect_offers.proofs.OfferFacts.{row_length}
use Rattle.intersect_head.proofs.StartFacts.{state-lent, state_small, starts_not, start_fits, may_admit, starts_blocked, starts_there}
use mathlib.Core.Path.{ap}
use mathlib.Core.Bool.{not}
use Rattle.intersect_head.proofs.head.Head.start.Goals as goal

pub bounds-states-q : goal.bounds-states-q
bounds-states-q c = omega (arith, state-lent _ _ _ _ _ c.requires)

pub returns-then-states-q-ne-PRESENT : goal.returns-then-states-q-ne-PRESENT
returns-then-states-q-ne-PRESENT c = starts_not _ _ _ _ _ c.requires c.if-states-q-ne-PRESENT.true

pub overflow_cast-q : goal.overflow_cast-q
overflow_cast-q c = omega (arith, state_small _ _ _ _ _ c.requires)

pub viable_config-requires : goal.viable_config-requires
viable_config-requires c =
    let v = start_fits _ _ _ _ _ c.requires c.if-states-q-ne-PRESENT.false _ c.start_row-row.ensures.0 in
    (v.0, v.1, row_length _ _ v.1 c.start_row-row.ensures.1, v.2)

pub returns-then-not-viable_config : goal.returns-then-not-viable_config
returns-then-not-viable_config c = starts_blocked _ _ _ _ _ c.requires c.if-states-q-ne-PRESENT.false _ c.start_row-row.ensures.0 _ c.viable_config.ensures (ap not c.if-not-viable_config.true)

pub admit-requires : goal.admit-requires
admit-requires c = (may_admit _ _ _ _ _ c.requires c.if-states-q-ne-PRESENT.false _ c.start_row-row.ensures.0, c.start_row-row.ensures.1)

pub returns : goal.returns
returns c = starts_there _ _ _ _ _ c.requires c.if-states-q-ne-PRESENT.false _ c.start_row-row.ensures.0 _ c.viable_config.ensures (ap not c.if-not-viable_config.false) _ _ c.admit.ensures
