-- The steps of a join on bytes, once its tables, pairs, limits and work space are judged: each on what the one before
-- left.
use Rattle.std.specs.Prelude.{Bool, List, ℕ}
use Rattle.automata.specs.Answer.{◌>>=◌, ok, refused}
use Rattle.automata.specs.OrderedSum.{ℕ_sum}
use Rattle.automata.specs.Automaton.{Automaton}
use Rattle.automata.specs.Table.{weight_fits}
use Rattle.automata.specs.TapePair.{TapePair, tapes_of, behind}
use Rattle.automata.specs.Tapes.{seconds}
use Rattle.automata.specs.Memory.{Memory, decode_table}
use Rattle.automata.specs.IntersectCall.{intersect_on}
use Rattle.automata.specs.Product.{cross_product}
use Rattle.automata.specs.Projection.{without}
use Rattle.automata.specs.Calls.Outcome.{Slices, space_of, Made, put, and_then, given}

-- the product in its space
unfoldable pub product_step : Automaton ℕ → Automaton ℕ → Slices → Made
product_step A B product = put (cross_product ℕ_sum weight_fits (space_of product) A B) product

-- the auto-intersection of the table in the product's space
unfoldable pub intersect_step : Memory → List TapePair → Slices → Made
intersect_step table ps result = put (decode_table table >>= λ P. intersect_on (space_of result) ps P) result

-- the tapes of a set dropped in place
unfoldable pub drop_step : Memory → (ℕ → Bool) → Slices → Made
drop_step table d result = put (decode_table table >>= λ K. ok (without d K)) result

-- "product, keep i = n + j, drop the second tapes", each step on the bytes that the one before left
unfoldable pub join_by_calls : Automaton ℕ → Automaton ℕ → List TapePair → Slices → Slices → Made
join_by_calls A B ps product result =
    let kept = behind A.tapes ps in
    elim (given (product_step A B product)) [
      | refused n ↦ put (refused n) result
      | ok table ↦ and_then (intersect_step table kept result) (λ K left. drop_step K (seconds (tapes_of kept)) left)
    ]
