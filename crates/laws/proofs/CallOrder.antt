-- The public calls leave their tables in the order of document 02's request 2.2: the theorems on automata, said of the
-- tables that the bytes lent and the bytes left hold.
use mathlib.Core.Path.{◌≡◌, sym, ◌∙◌, ap, subst}
use mathlib.Core.Bool.{true}
use mathlib.Core.List.{List}
use Prim.Native.Nat.{ℕ}
use lib.ListN.{length}
use Rattle.automata.specs.Refusal
use Rattle.automata.specs.Answer.{Answer, ok, judge, ◌>>=◌}
use Rattle.automata.specs.OrderedSum.{OrderedSum, ℕ_sum}
use Rattle.automata.specs.Automaton.{Automaton, Formed}
use Rattle.automata.specs.Table.{weight_fits}
use Rattle.automata.specs.TapePair.{TapePair}
use Rattle.automata.specs.Memory.{Memory, encode_table, decode_table, table_of, Sound}
use Rattle.automata.specs.IntersectCall.{intersect_call}
use Rattle.automata.specs.TableText.{read_table, write_table}
use Rattle.automata.specs.AgreeText.{Input, state_space, arc_space, read_pairs, read_input, write_output}
use Rattle.automata.specs.Agree.{agree}
use Rattle.automata.specs.Calls.Outcome.{Slices, space_of, put, build, conclude, print, given}
use Rattle.automata.specs.Calls.Work.{enough}
use Rattle.automata.specs.Calls.Write.{write_answer, write_outcome}
use Rattle.automata.specs.Calls.Intersect.{intersect_answer, intersect_outcome}
use Rattle.automata.specs.Calls.Product.{product_answer, product_outcome}
use Rattle.automata.specs.Calls.Join.{lent_to, join_answer, join_outcome}
use Rattle.automata.specs.Calls.Union.{union_answer, union_outcome}
use Rattle.automata.specs.Calls.Project.{project_answer, project_outcome}
use Rattle.automata.specs.Calls.Drop.{in_mask, drop_answer, drop_outcome}
use Rattle.automata.proofs.AnswerFacts.{bind_ok, ok_injective}
use Rattle.automata.proofs.SoundFacts.{table_of_is}
use Rattle.laws.specs.Storable.{Storable}
use Rattle.laws.specs.CallLaws.{JoinLent, join_made}
use Rattle.laws.specs.PrintedOrder.{PrintedOrder}
use Rattle.laws.specs.Order.{OrderedTable, input_state, input_arc, Unique, IntersectedInOrder, ProductOrder, JoinOrder, OneAfterOther, ChosenInOrder, DroppedInOrder, TablesInOrder}
use Rattle.laws.specs.CallOrder.{UniqueRecords, CallsInOrder, CallsPrinted}
use Rattle.laws.proofs.Results.{read_formed, memory_formed}
use Rattle.laws.proofs.Lemmas.CallTables.{table-records, gave_table, intersect_parts, intersect_fits, product_parts, product_fits, join_parts, join_fits, union_parts, union_fits, project_parts, project_fits, drop_parts, drop_fits}
use Rattle.laws.proofs.Lemmas.PrintedOrder.{relabelled_ordered, lines_in_order}
use Rattle.laws.proofs.Order.{tables_in_order}

-- the claim on automata
orders : TablesInOrder ℕ_sum weight_fits
orders = tables_in_order ℕ_sum weight_fits

-- what `write` leaves follows from the table in memory
written_alike : (r r' : Memory) → decode_table r' ≡ decode_table r → (output : List ℕ) → write_outcome r' output ≡ write_outcome r output
unfolding write_outcome write_answer
written_alike r r' e output = ap (λ d. print (d >>= λ A. judge (enough (length (write_table A)) output) Refusal.space (ok (write_table A))) output) e

-- a table that is the only one in an order, on bytes
unique_records : (InOrder : Automaton ℕ → Type 0) (r : Memory) → Sound r → Unique InOrder (table_of r) → UniqueRecords InOrder r
unfolding Sound
unique_records InOrder r e u = record {
  sound = e;
  ordered = u.ordered;
  same_records = λ r' e' o. table-records r' (table_of r') e' ∙ ap encode_table (u.alone (table_of r') o) ∙ sym (table-records r (table_of r) e);
  same_text = λ r' e' o. written_alike r r' (e' ∙ ap ok (u.alone (table_of r') o) ∙ sym e);
}

-- a call whose answer is the only table in an order leaves it so
put_unique : (InOrder : Automaton ℕ → Type 0) (a : Answer (Automaton ℕ)) (s : Slices) (r : Memory) → ((A : Automaton ℕ) → a ≡ ok A → Storable (space_of s) A)
    → (a ≡ ok (table_of r) → Unique InOrder (table_of r)) → given (put a s) ≡ ok r → UniqueRecords InOrder r
unfolding Sound
put_unique InOrder a s r fits unique e = let (d, q, _) = gave_table a s r fits e in unique_records InOrder r d (unique q)

-- each call
intersect_in_order : (m : Memory) (ps : List TapePair) (s : Slices) (work : List ℕ) (r : Memory) → given (intersect_outcome m ps s work).made ≡ ok r
    → UniqueRecords (IntersectedInOrder (table_of m) ps) r
unfolding intersect_outcome build
intersect_in_order m ps s work r =
    put_unique (IntersectedInOrder (table_of m) ps) (intersect_answer m ps (space_of s) work) s r (intersect_fits m ps (space_of s) work)
    (λ q. let (A, a, g) = intersect_parts m ps (space_of s) work (table_of r) q in
    rw (table_of_is m A a) (orders.intersect _ (space_of s) ps A (table_of r) (memory_formed m A a) g))

product_in_order : (a b : Memory) (s : Slices) (work : List ℕ) (r : Memory) → given (product_outcome a b s work).made ≡ ok r
    → UniqueRecords (ProductOrder ℕ_sum (table_of a) (table_of b)) r
unfolding product_outcome build
product_in_order a b s work r =
    put_unique (ProductOrder ℕ_sum (table_of a) (table_of b)) (product_answer a b (space_of s) work) s r (product_fits a b (space_of s) work)
    (λ q. let (A, B, x, y, g) = product_parts a b (space_of s) work (table_of r) q in
    rw (table_of_is a A x, table_of_is b B y) (orders.product _ (space_of s) A B (table_of r) g))

join_in_order : (l : JoinLent) (ps : List TapePair) (a b r : Memory) → given (join_made l ps a b) ≡ ok r
    → UniqueRecords (JoinOrder ℕ_sum ps (table_of a) (table_of b)) r
unfolding join_outcome conclude
join_in_order l ps a b r =
    let p = space_of l.product in
    let s = space_of l.result in
    put_unique (JoinOrder ℕ_sum ps (table_of a) (table_of b)) (join_answer a b ps p s l.work) l.result r
    (join_fits a b ps p s l.work)
    (λ q. let (A, B, x, y, g) = join_parts a b ps p s l.work (table_of r) q in
    rw (table_of_is a A x, table_of_is b B y) (orders.join (lent_to p s l.work) ps A B (table_of r) (memory_formed a A x) (memory_formed b B y) g))

union_in_order : (a b : Memory) (s : Slices) (r : Memory) → given (union_outcome a b s) ≡ ok r → UniqueRecords (OneAfterOther (table_of a) (table_of b)) r
unfolding union_outcome
union_in_order a b s r =
    put_unique (OneAfterOther (table_of a) (table_of b)) (union_answer a b (space_of s)) s r (union_fits a b (space_of s))
    (λ q. let (A, B, x, y, g) = union_parts a b (space_of s) (table_of r) q in
    rw (table_of_is a A x, table_of_is b B y) (orders.union (space_of s) A B (table_of r) g))

project_in_order : (m : Memory) (js : List ℕ) (s : Slices) (r : Memory) → given (project_outcome m js s) ≡ ok r → UniqueRecords (ChosenInOrder js (table_of m)) r
unfolding project_outcome
project_in_order m js s r =
    put_unique (ChosenInOrder js (table_of m)) (project_answer m js (space_of s)) s r (project_fits m js (space_of s))
    (λ q. let (A, a, g) = project_parts m js (space_of s) (table_of r) q in
    rw (table_of_is m A a) (orders.project (space_of s) js A (table_of r) g))

drop_in_order : (m : Memory) (mask : ℕ) (s : Slices) (r : Memory) → given (drop_outcome m mask s) ≡ ok r
    → UniqueRecords (DroppedInOrder (in_mask mask) (table_of m)) r
unfolding drop_outcome
drop_in_order m mask s r =
    put_unique (DroppedInOrder (in_mask mask) (table_of m)) (drop_answer m mask (space_of s)) s r (drop_fits m mask (space_of s))
    (λ q. let (A, a, g) = drop_parts m mask (space_of s) (table_of r) q in
    rw (table_of_is m A a) (orders.drop_tapes (space_of s) (in_mask mask) A (table_of r) g))

-- a table that `agree` reads is in range
input_formed : (x : List ℕ) (i : Input) → read_input x ≡ ok i → Formed i.table
unfolding read_input
input_formed x i e =
    let (p, _, e₁) = bind_ok (read_pairs x) _ i e in
    let (A, r, q) = bind_ok (read_table state_space arc_space p.1) _ i e₁ in
    subst (λ (j : Input). Formed j.table) (ok_injective _ i q) (read_formed state_space arc_space p.1 A r)

-- the program: the table that it writes
agree_in_order : (x : List ℕ) (i : Input) (R : Automaton ℕ) → read_input x ≡ ok i
    → intersect_call true (record { states = state_space; arcs = arc_space }) i.pairs i.table ≡ ok R
    → Unique (IntersectedInOrder i.table i.pairs) R × (agree x ≡ write_table R)
unfolding agree write_output
agree_in_order x i R e g = (
  orders.intersect true _ i.pairs i.table R (input_formed x i e) g,
  ap (λ r. write_output (r >>= λ i. intersect_call true (record { states = state_space; arcs = arc_space }) i.pairs i.table)) e ∙ ap write_output g,
)

-- Every call that builds a table leaves it in the order of request 2.2, and no other bytes of records are in that
-- order.
pub calls_in_order : CallsInOrder
calls_in_order = record {
  intersect = intersect_in_order;
  product = product_in_order;
  join = join_in_order;
  union = union_in_order;
  project = project_in_order;
  drop_tapes = drop_in_order;
  agree = agree_in_order;
}

-- ---- printed

-- a build shows its order
intersection_lines : {W : Type 0} (A R : Automaton W) (ps : List TapePair) → Formed R → IntersectedInOrder A ps R → PrintedOrder R
intersection_lines {W} A R ps formed o =
    subst (λ (T : Automaton W). PrintedOrder T) o.table
    (lines_in_order o.intersection.automaton _ _ (subst (λ (T : Automaton W). Formed T) (sym o.table) formed) o.order.result_ordered)

-- and so does a join, whose last step changes labels alone
join-lines : (S : OrderedSum) (ps : List TapePair) (A B J : Automaton S.W) → Formed J → JoinOrder S ps A B J → PrintedOrder J
join-lines S ps A B J formed o =
    let K = o.kept in
    let I = K.intersection in
    lines_in_order J (input_state I) (input_arc I) formed
    (relabelled_ordered _ _ o.K J (input_state I) (input_arc I) o.dropped
    (subst (λ (T : Automaton S.W). OrderedTable T (input_state I) (input_arc I)) K.table K.order.result_ordered))

-- Every table that is built shows its order by its lines.
pub calls_printed : CallsPrinted
unfolding Sound
calls_printed = record {
  intersect = λ m ps s work r e.
      let u = intersect_in_order m ps s work r e in
      intersection_lines (table_of m) (table_of r) ps (memory_formed r (table_of r) u.sound) u.ordered;
  product = λ a b s work r e.
      let u = product_in_order a b s work r e in
      lines_in_order (table_of r) _ _ (memory_formed r (table_of r) u.sound) u.ordered.result_ordered;
  join = λ l ps a b r e.
      let u = join_in_order l ps a b r e in
      join-lines ℕ_sum ps (table_of a) (table_of b) (table_of r) (memory_formed r (table_of r) u.sound) u.ordered;
}
