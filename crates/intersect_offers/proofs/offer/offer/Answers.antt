use mathlib.Core.Path.{sym, ◌∙◌}
use native.Mathlib.Omega.{arith}
use Rattle.intersect_offers.proofs.OfferFacts.{state_read, row_length, record_whole, may_follow_lem, offers_away, offers_none, viable_fits, offers_blocked, offers_late, offers_to}
use mathlib.Core.Path.{ap}
use mathlib.Core.Bool.{not}
use Rattle.intersect_offers.proofs.offer.offer.Goals as goal

pub overflow_mul-at : goal.overflow_mul-at
overflow_mul-at c = omega (arith, record_whole _ _ _ _ _ c.requires.0)

pub source_at-requires : goal.source_at-requires
source_at-requires c = omega (arith, record_whole _ _ _ _ _ c.requires.0)

pub returns-then-source_at-get16 : goal.returns-then-source_at-get16
returns-then-source_at-get16 c =
    record {
      offers = offers_away _ _ _ _ _ c.requires.0 _ _ c.requires.2.good c.source_at.ensures (λ e. c.if-source_at-get16.true (e ∙ sym (state_read _ _ c.get16.ensures)));
      bytes = c.requires.2.bytes;
    }

pub follow-requires : goal.follow-requires
follow-requires c = (may_follow_lem _ _ _ _ _ c.requires.0, c.requires.1, c.requires.2)

pub returns-then-not-follow : goal.returns-then-not-follow
returns-then-not-follow c =
    record {
      offers = offers_none _ _ _ _ _ c.requires.0 _ c.source_at.ensures (c.if-source_at-get16.false ∙ state_read _ _ c.get16.ensures) _ c.follow.ensures.step (ap not c.if-not-follow.true);
      bytes = c.follow.ensures.bytes;
    }

pub viable_config-requires : goal.viable_config-requires
viable_config-requires c =
    let v = viable_fits _ _ _ _ _ c.requires.0 _ c.source_at.ensures (c.if-source_at-get16.false ∙ state_read _ _ c.get16.ensures) _ c.follow.ensures.step (ap not c.if-not-follow.false) in
    (v.0, v.1, row_length _ _ v.1 c.follow.ensures.bytes, v.2)

pub returns-then-not-viable_config : goal.returns-then-not-viable_config
returns-then-not-viable_config c =
    record {
      offers = offers_blocked _ _ _ _ _ c.requires.0 _ c.source_at.ensures (c.if-source_at-get16.false ∙ state_read _ _ c.get16.ensures) _ c.follow.ensures.step (ap not c.if-not-follow.false) _ c.viable_config.ensures (ap not c.if-not-viable_config.true);
      bytes = c.follow.ensures.bytes;
    }

pub too_long-requires : goal.too_long-requires
too_long-requires c =
    let v = viable_fits _ _ _ _ _ c.requires.0 _ c.source_at.ensures (c.if-source_at-get16.false ∙ state_read _ _ c.get16.ensures) _ c.follow.ensures.step (ap not c.if-not-follow.false) in
    (v.1, v.0, c.requires.0.explorable.four_pairs, row_length _ _ v.1 c.follow.ensures.bytes)

pub returns-then-too_long : goal.returns-then-too_long
returns-then-too_long c =
    record {
      offers = offers_late _ _ _ _ _ c.requires.0 _ c.source_at.ensures (c.if-source_at-get16.false ∙ state_read _ _ c.get16.ensures) _ c.follow.ensures.step (ap not c.if-not-follow.false) _ c.viable_config.ensures (ap not c.if-not-viable_config.false) _ c.too_long.ensures c.if-too_long.true;
      bytes = c.follow.ensures.bytes;
    }

pub returns-else-too_long : goal.returns-else-too_long
returns-else-too_long c =
    record {
      offers = offers_to _ _ _ _ _ c.requires.0 _ c.source_at.ensures (c.if-source_at-get16.false ∙ state_read _ _ c.get16.ensures) _ c.follow.ensures.step (ap not c.if-not-follow.false) _ c.viable_config.ensures (ap not c.if-not-viable_config.false) _ c.too_long.ensures c.if-too_long.false;
      bytes = c.follow.ensures.bytes;
    }
