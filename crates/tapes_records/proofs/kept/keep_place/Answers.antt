use borrow.Author.Tests.{eq-eqb, ne_eqb}
use Rattle.tapes_records.proofs.ChoiceFacts.{place_skipped, place_kept}
use Rattle.tapes_records.proofs.kept.keep_place.Goals as goal

pub returns-then-mask-place-eq1 : goal.returns-then-mask-place-eq1
returns-then-mask-place-eq1 c = place_skipped _ _ _ _ (eq-eqb _ 1 c.if-mask-place-eq1.true)

pub returns-else-mask-place-eq1 : goal.returns-else-mask-place-eq1
returns-else-mask-place-eq1 c = place_kept _ _ _ _ (ne_eqb _ 1 c.if-mask-place-eq1.false) c.requires.1
