use Rattle.text_store.proofs.StoredFacts.{state_stored}
use Rattle.text_store.proofs.store.store_state_line.Goals as goal

pub returns : goal.returns
returns c = state_stored _ _ _ _ _ c.store_state.ensures c.columns_weight-initial.ensures c.columns_weight-last.ensures
