-- The order of built tables (document 02, request 2.2) of the public calls, on bytes: of the tables that the bytes lent
-- and the bytes left hold. A call that is not refused is all that is supposed.
use Rattle.std.specs.Prelude.{◌≡◌, true, List, ℕ}
use Rattle.automata.specs.Answer.{ok}
use Rattle.automata.specs.Automaton.{Automaton}
use Rattle.automata.specs.OrderedSum.{ℕ_sum}
use Rattle.automata.specs.TapePair.{TapePair}
use Rattle.automata.specs.Memory.{Memory, table_of, Sound, trim}
use Rattle.automata.specs.IntersectCall.{intersect_call}
use Rattle.automata.specs.TableText.{write_table}
use Rattle.automata.specs.AgreeText.{Input, state_space, arc_space, read_input}
use Rattle.automata.specs.Agree.{agree}
use Rattle.automata.specs.Calls.Outcome.{Slices, given}
use Rattle.automata.specs.Calls.Write.{write_outcome}
use Rattle.automata.specs.Calls.Intersect.{intersect_outcome}
use Rattle.automata.specs.Calls.Product.{product_outcome}
use Rattle.automata.specs.Calls.Union.{union_outcome}
use Rattle.automata.specs.Calls.Project.{project_outcome}
use Rattle.automata.specs.Calls.Drop.{in_mask, drop_outcome}
use Rattle.laws.specs.CallLaws.{JoinLent, join_made}
use Rattle.laws.specs.PrintedOrder.{PrintedOrder}
use Rattle.laws.specs.Order.{Unique, IntersectedInOrder, ProductOrder, JoinOrder, OneAfterOther, ChosenInOrder, DroppedInOrder}

-- The bytes of r hold a table in the order. Whatever table is in it has the same records, byte for byte, and is written
-- as the same text.
pub record UniqueRecords (InOrder : Automaton ℕ → Type 0) (r : Memory) : Type 0 where
  pub sound : Sound r
  pub ordered : InOrder (table_of r)
  pub same_records : (r' : Memory) → Sound r' → InOrder (table_of r') → trim r' ≡ trim r
  pub same_text : (r' : Memory) → Sound r' → InOrder (table_of r') → (output : List ℕ) → write_outcome r' output ≡ write_outcome r output

-- the claim, for every call that builds a table, and for the program `agree`
pub record CallsInOrder : Type 0 where
  pub intersect : (m : Memory) (ps : List TapePair) (s : Slices) (work : List ℕ) (r : Memory) → given (intersect_outcome m ps s work).made ≡ ok r
      → UniqueRecords (IntersectedInOrder (table_of m) ps) r
  pub product : (a b : Memory) (s : Slices) (work : List ℕ) (r : Memory) → given (product_outcome a b s work).made ≡ ok r
      → UniqueRecords (ProductOrder ℕ_sum (table_of a) (table_of b)) r
  pub join : (l : JoinLent) (ps : List TapePair) (a b r : Memory) → given (join_made l ps a b) ≡ ok r
      → UniqueRecords (JoinOrder ℕ_sum ps (table_of a) (table_of b)) r
  pub union : (a b : Memory) (s : Slices) (r : Memory) → given (union_outcome a b s) ≡ ok r → UniqueRecords (OneAfterOther (table_of a) (table_of b)) r
  pub project : (m : Memory) (js : List ℕ) (s : Slices) (r : Memory) → given (project_outcome m js s) ≡ ok r → UniqueRecords (ChosenInOrder js (table_of m)) r
  pub drop_tapes : (m : Memory) (mask : ℕ) (s : Slices) (r : Memory) → given (drop_outcome m mask s) ≡ ok r
      → UniqueRecords (DroppedInOrder (in_mask mask) (table_of m)) r
  pub agree : (x : List ℕ) (i : Input) (R : Automaton ℕ) → read_input x ≡ ok i
      → intersect_call true (record { states = state_space; arcs = arc_space }) i.pairs i.table ≡ ok R
      → Unique (IntersectedInOrder i.table i.pairs) R × (agree x ≡ write_table R)

-- what the table of a build, of a product and of a join shows by its lines when it is printed
pub record CallsPrinted : Type 0 where
  pub intersect : (m : Memory) (ps : List TapePair) (s : Slices) (work : List ℕ) (r : Memory) → given (intersect_outcome m ps s work).made ≡ ok r
      → PrintedOrder (table_of r)
  pub product : (a b : Memory) (s : Slices) (work : List ℕ) (r : Memory) → given (product_outcome a b s work).made ≡ ok r → PrintedOrder (table_of r)
  pub join : (l : JoinLent) (ps : List TapePair) (a b r : Memory) → given (join_made l ps a b) ≡ ok r → PrintedOrder (table_of r)
