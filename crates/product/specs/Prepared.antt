-- What is judged before any state of a product is reached, and what the search is planned by.
use Rattle.std.specs.Prelude.{Ok, ◌≡◌, List, ℕ, ◌+◌, ◌*◌, ◌≤◌, min, length}
use Rattle.automata.specs.Answer.{◌>>=◌}
use Rattle.automata.specs.Space.{Space}
use Rattle.automata.specs.OrderedSum.{ℕ_sum}
use Rattle.automata.specs.Table.{weight_fits}
use Rattle.automata.specs.Memory.{Memory, Sound, table_of}
use Rattle.automata.specs.Product.{cross_product}
use Rattle.automata.specs.Calls.Work.{product_work}
use Rattle.automata.specs.Calls.Product.{product_answer}
use Rattle.automata.specs.Layout.{vertex_size}
use Rattle.table.specs.declared.answer.Counts.{Counts}
use Rattle.table.specs.Answers.{Judged, judged_as}
use Rattle.product_search.specs.declared.plan.Plan.{Plan}

-- the space lent, in states and arcs
abbrev pub space_for : ℕ → ℕ → Space
space_for states arcs = record { states = states; arcs = arcs }

-- the plan of a search for so many states and arcs lent: 16 bytes of work space are kept for each state, and no more
-- arcs are looked for than there is room for
abbrev pub plan_of : Counts → Counts → ℕ → ℕ → Plan
plan_of first second states arcs = record { first = first; second = second; states = min states 1024; arcs = min arcs 8192; base = vertex_size * states; limit = min arcs 8192 }

-- The first refusal is the call's, and where there is none the call goes on to the product; what then is known of its
-- parts.
pub record Prepares (a b : Memory) (states arcs work : ℕ) (r : Judged) : Type 0 where
  pub answer : (w : List ℕ) → length w ≡ work → product_answer a b (space_for states arcs) w
      ≡ (judged_as r >>= λ (u : Unit {0}). cross_product ℕ_sum weight_fits (space_for states arcs) (table_of a) (table_of b))
  pub first : r ≡ Ok tt → Sound a
  pub second : r ≡ Ok tt → Sound b
  pub tapes_fit : r ≡ Ok tt → a.tapes + b.tapes ≤ 8
  pub work_fits : r ≡ Ok tt → product_work (space_for states arcs) ≤ work
