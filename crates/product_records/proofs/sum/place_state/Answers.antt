use Rattle.product_records.proofs.SumFacts.{place-ended, place_loaded}
use Rattle.product_records.proofs.sum.place_state.Goals as goal

pub returns-then-place-eq-ENDED : goal.returns-then-place-eq-ENDED
returns-then-place-eq-ENDED c = place-ended _ _ c.if-place-eq-ENDED.true

pub returns-else-place-eq-ENDED : goal.returns-else-place-eq-ENDED
returns-else-place-eq-ENDED c = place_loaded _ _ _ c.if-place-eq-ENDED.false c.load_state.ensures
