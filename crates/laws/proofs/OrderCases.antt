-- The cases of the order: what the definitions answer and print, by computation; and that no other numbering is in
-- order.
use mathlib.Core.Path.{◌≡◌, refl, sym, ◌∙◌, ap}
use mathlib.Core.Bool.{Bool, true, false}
use mathlib.Core.List.{List, map}
use Prim.Native.Nat.{ℕ, ◌≤◌}
use native.Mathlib.Omega.{arith}
use lib.ListN.{length}
use Rattle.automata.specs.Lists.{All, same_list, same_by, Decides}
use Rattle.automata.specs.Answer.{ok, ◌>>=◌}
use Rattle.automata.specs.OrderedSum.{ℕ_sum}
use Rattle.automata.specs.Automaton.{Automaton, Formed}
use Rattle.automata.specs.TapePair.{reading}
use Rattle.automata.specs.Config.{Config}
use Rattle.automata.specs.Closing.{closing_tables, viable}
use Rattle.automata.specs.Explore.{reached, edges}
use Rattle.automata.specs.Trim.{trimmed}
use Rattle.automata.specs.Intersect.{starts, candidate, candidates, out, reached_configs, delayed, assemble, intersect_by, intersect}
use Rattle.automata.specs.IntersectCall.{intersect_on, intersect_call}
use Rattle.automata.specs.Table.{weight_fits}
use Rattle.automata.specs.TableText.{write_table}
use Rattle.automata.specs.Memory.{encode_table, decode_table}
use Rattle.automata.specs.Product.{Vertex, same_vertex, cross_product, product, product_states}
use Rattle.automata.specs.Cases.{bytes}
use Rattle.automata.proofs.ListFacts
use Rattle.automata.proofs.TestFacts
use Rattle.automata.proofs.ViableFacts.{viable_decides}
use Rattle.automata.proofs.AnswerFacts.{bind_ok, ok_injective}
use Rattle.automata.proofs.ProductStates.{vertices_decided}
use Rattle.laws.specs.Order.{Ordered, config_graph, IntersectedInOrder, product_graph, ProductOrder, TablesInOrder}
use Rattle.laws.specs.OrderCases.{room, branching, one_apart, reached_states, branched_text, wrong_searches, wrong_states, left, right, product_vertices, product_text, wrong_products, wrong_vertices}
use Rattle.laws.proofs.Results.{memory_formed}
use Rattle.laws.proofs.Order.{tables_in_order}
use Rattle.laws.proofs.Lemmas.OrderFacts.{ordered_unique}
use Rattle.laws.proofs.Lemmas.IntersectionOrder.{found_ordered}
use Rattle.laws.proofs.Lemmas.ProductOrder.{states_ordered}

-- the claim on automata
orders : TablesInOrder ℕ_sum weight_fits
orders = tables_in_order ℕ_sum weight_fits

-- lists that a test tells apart
apart : {A : Type 0} (same : A → A → Bool) → Decides same → (v w : List A) → same_by same v w ≡ false → (v ≡ w) → ⊥
apart same decided v w f e = TestFacts.false_not_true f (ap (λ u. same_by same u w) e ∙ (ListFacts.lists_decided same decided).complete w)

-- ---- the auto-intersection

-- the configurations reached
abbrev found : List Config
found = reached_configs branching one_apart (viable (closing_tables branching one_apart)) 64

pub branching-reached : map (λ (c : Config). c.state) found ≡ reached_states
unfolding reading reached edges starts candidate candidates out reached_configs closing_tables viable
branching-reached = refl

-- the table as it is printed
pub branching_printed : (intersect_call true room one_apart branching >>= λ R. ok (write_table R)) ≡ ok (bytes branched_text)
unfolding reading reached edges trimmed starts candidate candidates out reached_configs delayed assemble intersect_by intersect intersect_on intersect_call closing_tables viable write_table
branching_printed = refl

-- the table is in range
branching_formed : Formed branching
unfolding decode_table
branching_formed = memory_formed (encode_table branching) branching refl

-- so few configurations fit ...
found_few : length found ≤ 64
unfolding reading reached edges starts candidate candidates out reached_configs closing_tables viable
found_few = let l : length found ≡ 6 = refl in omega arith

-- ... and no step is too long
found_undelayed : delayed branching one_apart (viable (closing_tables branching one_apart)) found ≡ false
unfolding reading reached edges starts candidate candidates out reached_configs delayed closing_tables viable
found_undelayed = refl

-- every numbering of its configurations that is in order is this one
pub branching-only : (cs : List Config) → Ordered (config_graph branching one_apart) cs → map (λ (c : Config). c.state) cs ≡ reached_states
branching-only cs o =
    ap (map (λ (c : Config). c.state)) (ordered_unique (config_graph branching one_apart) cs found o
    (found_ordered branching one_apart (viable (closing_tables branching one_apart)) (viable_decides branching branching_formed one_apart) 64 found_few found_undelayed))
    ∙ branching-reached

-- what the wrong searches find ...
pub branching_wrong : map (map (λ (c : Config). c.state)) wrong_searches ≡ wrong_states
unfolding reading reached starts candidate candidates out closing_tables viable
branching_wrong = refl

-- ... is not in order
pub branching_refuses : All (λ (cs : List Config). Ordered (config_graph branching one_apart) cs → ⊥) wrong_searches
unfolding reading reached starts candidate candidates out closing_tables viable
branching_refuses = (refuse _ refl, (refuse _ refl, (refuse _ refl, tt)))
  where
    refuse : (cs : List Config) → same_list reached_states (map (λ (c : Config). c.state) cs) ≡ false → Ordered (config_graph branching one_apart) cs → ⊥
    refuse cs f o = apart _ ListFacts.numbers_decided reached_states (map (λ (c : Config). c.state) cs) f (sym (branching-only cs o))

-- every result that is in order is printed so
pub branching-text : (R : Automaton ℕ) → IntersectedInOrder branching one_apart R → write_table R ≡ bytes branched_text
branching-text R o =
    let (I, e, q) = bind_ok (intersect_call true room one_apart branching) (λ R. ok (write_table R)) (bytes branched_text) branching_printed in
    ap write_table ((orders.intersect true room one_apart branching I branching_formed e).alone R o) ∙ ok_injective (write_table I) (bytes branched_text) q

-- ---- the product

-- the states reached
pub product-reached : product_states ℕ_sum 64 left right ≡ product_vertices
unfolding reached
product-reached = refl

-- the product as it is printed
pub product_printed : (product ℕ_sum weight_fits true room left right >>= λ P. ok (write_table P)) ≡ ok (bytes product_text)
unfolding reached edges cross_product product write_table
product_printed = refl

-- so few states fit
product_few : length (product_states ℕ_sum 64 left right) ≤ 64
unfolding reached
product_few = let l : length (product_states ℕ_sum 64 left right) ≡ 8 = refl in omega arith

-- every numbering of its states that is in order is this one
pub product-only : (cs : List Vertex) → Ordered (product_graph ℕ_sum left right) cs → cs ≡ product_vertices
product-only cs o = ordered_unique (product_graph ℕ_sum left right) cs (product_states ℕ_sum 64 left right) o (states_ordered ℕ_sum left right 64 product_few) ∙ product-reached

-- what the wrong searches find ...
pub product_wrong : wrong_products ≡ wrong_vertices
unfolding reached
product_wrong = refl

-- ... is not in order
pub product_refuses : All (λ (cs : List Vertex). Ordered (product_graph ℕ_sum left right) cs → ⊥) wrong_vertices
product_refuses = (refuse _ refl, (refuse _ refl, (refuse _ refl, tt)))
  where
    refuse : (cs : List Vertex) → same_by same_vertex product_vertices cs ≡ false → Ordered (product_graph ℕ_sum left right) cs → ⊥
    refuse cs f o = apart same_vertex vertices_decided product_vertices cs f (sym (product-only cs o))

-- every product of the two that is in order is printed so
pub product-text : (Q : Automaton ℕ) → ProductOrder ℕ_sum left right Q → write_table Q ≡ bytes product_text
product-text Q o =
    let (P, e, q) = bind_ok (product ℕ_sum weight_fits true room left right) (λ P. ok (write_table P)) (bytes product_text) product_printed in
    ap write_table ((orders.product true room left right P e).alone Q o) ∙ ok_injective (write_table P) (bytes product_text) q
