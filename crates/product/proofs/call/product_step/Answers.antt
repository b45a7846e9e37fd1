use Rattle.product.proofs.CallFacts.{limited, answerable}
use mathlib.Core.Path.{refl}
use Rattle.product.proofs.call.product_step.Goals as goal

pub explore-head-requires : goal.explore-head-requires
explore-head-requires c = limited _ _ _ _ _ _ _ _ _ c.requires _ c.plan_for-plan.ensures

pub answer_search-requires : goal.answer_search-requires
answer_search-requires c = answerable _ _ _ _ _ _ _ _ _ c.requires _ c.plan_for-plan.ensures _ _ _ refl c.explore-head.ensures
