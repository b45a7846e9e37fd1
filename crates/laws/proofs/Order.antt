-- The order of built tables (document 02, request 2.2): every operation that gives a table keeps it, and it leaves one
-- table alone.
use mathlib.Core.Path.{◌≡◌, sym, ◌∙◌, ap, subst}
use mathlib.Core.Bool.{Bool}
use mathlib.Core.List.{List}
use Prim.Native.Nat.{ℕ, ◌+◌}
use lib.Dec.{leb, eqb}
use lib.ListN.{length}
use Rattle.automata.specs.Lists.{all, and}
use Rattle.automata.specs.Answer.{ok}
use Rattle.automata.specs.Space.{Space}
use Rattle.automata.specs.OrderedSum.{OrderedSum}
use Rattle.automata.specs.Automaton.{Automaton, Tuple, Formed}
use Rattle.automata.specs.TapePair.{TapePair, tapes_of, behind, limits_fit}
use Rattle.automata.specs.Tapes.{seconds, chosen, drop_at, place_after}
use Rattle.automata.specs.Intersect.{intersect}
use Rattle.automata.specs.IntersectCall.{named, distinct, intersect_on, intersect_call}
use Rattle.automata.specs.Product.{product}
use Rattle.automata.specs.Union.{appended, union}
use Rattle.automata.specs.Projection.{is_tape, choosable, droppable, relabelled, projected, project, without, drop_tapes}
use Rattle.automata.specs.Join.{Lent, join}
use Rattle.automata.proofs.AnswerFacts.{judge-ok, bind_ok, ok_injective}
use Rattle.automata.proofs.JoinSteps.{join_steps_lem}
use Rattle.automata.proofs.TapeTables.{fitted-ok}
use Rattle.automata.proofs.ProductTable.{product_formed}
use Rattle.laws.specs.Order.{ProductOrder, LabelsOnly, ChosenInOrder, DroppedInOrder, OneAfterOther, IntersectedInOrder, JoinOrder, TablesInOrder}
use Rattle.laws.proofs.Lemmas.IntersectionOrder.{intersection_order}
use Rattle.laws.proofs.Lemmas.ProductOrder.{product_order}
use Rattle.laws.proofs.Lemmas.OrderDetermined.{tables_same, products_same}

-- ---- one table alone

-- two results on the same input are one table
pub one_result : {W : Type 0} (A : Automaton W) (ps : List TapePair) (R R' : Automaton W) → IntersectedInOrder A ps R → IntersectedInOrder A ps R' → R' ≡ R
one_result A ps R R' o p =
    sym p.table ∙ tables_same A ps p.intersection o.intersection p.order o.order ∙ o.table

-- an automaton by its parts
one_table : {W : Type 0} (A B : Automaton W) → A.tapes ≡ B.tapes → A.states ≡ B.states → A.arcs ≡ B.arcs → A ≡ B
one_table A B t s a = λ i. record { tapes = t i; states = s i; arcs = a i }

-- two automata with the labels of the same one changed alike
one-relabelled : {W : Type 0} (f : Tuple → Tuple) (n : ℕ) (A R R' : Automaton W) → LabelsOnly f n A R → LabelsOnly f n A R' → R' ≡ R
one-relabelled f n A R R' o p =
    one_table R' R (p.tapes ∙ sym o.tapes) (p.states ∙ sym o.states) (p.arcs ∙ sym o.arcs)

-- two unions of the same automata
one-union : {W : Type 0} (A B R R' : Automaton W) → OneAfterOther A B R → OneAfterOther A B R' → R' ≡ R
one-union A B R R' o p =
    one_table R' R (p.tapes ∙ sym o.tapes) (p.states ∙ sym o.states) (p.arcs ∙ sym o.arcs)

-- two joins by the same pairs are one table
one-join : (S : OrderedSum) (ps : List TapePair) (A B J J' : Automaton S.W) → JoinOrder S ps A B J → JoinOrder S ps A B J' → J' ≡ J
one-join S ps A B J J' o p =
    let pairs = behind A.tapes ps in
    let set = seconds (tapes_of pairs) in
    let P : p.P ≡ o.P = products_same S A B p.P o.P p.product o.product in
    let K : p.K ≡ o.K = one_result o.P pairs o.K p.K o.kept
    (subst (λ (Q : Automaton S.W). IntersectedInOrder Q pairs p.K) P p.kept) in
    one-relabelled (drop_at set) (place_after set o.K.tapes) o.K J J' o.dropped
    (subst (λ (Q : Automaton S.W). DroppedInOrder set Q J') K p.dropped)

-- ---- every operation

module _ {W : Type 0} where
  -- an automaton whose labels were changed
  relabelled-only : (f : Tuple → Tuple) (n : ℕ) (A R : Automaton W) → relabelled f n A ≡ R → LabelsOnly f n A R
  relabelled-only f n A R e = record {
    tapes = ap (λ (B : Automaton W). B.tapes) (sym e);
    states = ap (λ (B : Automaton W). B.states) (sym e);
    arcs = ap (λ (B : Automaton W). B.arcs) (sym e);
  }

  -- the auto-intersection in the space lent ...
  intersected_in_order : (space : Space) (ps : List TapePair) (A R : Automaton W) → Formed A → intersect_on space ps A ≡ ok R → IntersectedInOrder A ps R
  unfolding intersect_on
  intersected_in_order space ps A R formed e =
      let (I, g, q) = bind_ok (intersect A ps space) _ R e in
      record { intersection = I; table = ok_injective I.automaton R q; order = intersection_order A ps space I formed g }

  -- ... and as it is called
  called_in_order : (enough : Bool) (space : Space) (ps : List TapePair) (A R : Automaton W) → Formed A → intersect_call enough space ps A ≡ ok R
      → IntersectedInOrder A ps R
  unfolding intersect_call
  called_in_order enough space ps A R formed e =
      let (_, e₁) = judge-ok (all (is_tape A.tapes) (named (tapes_of ps))) _ _ R e in
      let (_, e₂) = judge-ok (and (leb (length ps) 4) (distinct (named (tapes_of ps)))) _ _ R e₁ in
      let (_, e₃) = judge-ok (limits_fit ps) _ _ R e₂ in
      intersected_in_order space ps A R formed (judge-ok enough _ _ R e₃).1

  -- the union
  united_in_order : (space : Space) (A B U : Automaton W) → union space A B ≡ ok U → OneAfterOther A B U
  unfolding union
  united_in_order space A B U e =
      let (_, e₁) = judge-ok (eqb A.tapes B.tapes) _ _ U e in
      let q : appended A B ≡ U = (fitted-ok space (appended A B) U e₁).2 in
      record {
        tapes = ap (λ (C : Automaton W). C.tapes) (sym q);
        states = ap (λ (C : Automaton W). C.states) (sym q);
        arcs = ap (λ (C : Automaton W). C.arcs) (sym q);
      }

  -- the projection to a list of tapes
  projected_in_order : (space : Space) (js : List ℕ) (A R : Automaton W) → project space js A ≡ ok R → ChosenInOrder js A R
  unfolding project
  projected_in_order space js A R e =
      let (_, e₁) = judge-ok (leb (length js) 8) _ _ R e in
      let (_, e₂) = judge-ok (choosable js A.tapes) _ _ R e₁ in
      relabelled-only (chosen js) (length js) A R (fitted-ok space (projected js A) R e₂).2

  -- tapes dropped
  dropped_in_order : (space : Space) (d : ℕ → Bool) (A R : Automaton W) → drop_tapes space d A ≡ ok R → DroppedInOrder d A R
  unfolding drop_tapes
  dropped_in_order space d A R e =
      let (_, e₁) = judge-ok (droppable d A.tapes) _ _ R e in
      relabelled-only (drop_at d) (place_after d A.tapes) A R (fitted-ok space (without d A) R e₁).2

module _ (S : OrderedSum) (fits : S.W → Bool) where
  -- the product
  product_in_order : (enough : Bool) (space : Space) (A B P : Automaton S.W) → product S fits enough space A B ≡ ok P → ProductOrder S A B P
  unfolding product
  product_in_order enough space A B P e =
      product_order S fits space A B P (judge-ok enough _ _ P (judge-ok (leb (A.tapes + B.tapes) 8) _ _ P e).1).1

  -- the join, by its steps
  joined_in_order : (lent : Lent) (ps : List TapePair) (A B J : Automaton S.W) → Formed A → Formed B → join S fits lent ps A B ≡ ok J → JoinOrder S ps A B J
  joined_in_order lent ps A B J fA fB e =
      let s = join_steps_lem S fits lent ps A B J e in
      let kept = behind A.tapes ps in
      let set = seconds (tapes_of kept) in
      record {
        P = s.P;
        K = s.K;
        product = product_order S fits lent.product A B s.P s.product_gave;
        kept = intersected_in_order lent.result kept s.P s.K
            (product_formed S fits lent.product A B s.P s.product_gave fA fB) s.keep_gave;
        dropped = relabelled-only (drop_at set) (place_after set s.K.tapes) s.K J s.dropped;
      }

  -- Every operation that gives a table gives it in the order of request 2.2, and no other table is in that order.
  pub tables_in_order : TablesInOrder S fits
  tables_in_order = record {
    intersect = λ enough space ps A R formed e.
        let o = called_in_order enough space ps A R formed e in
        record { ordered = o; alone = λ R'. one_result A ps R R' o };
    product = λ enough space A B P e.
        let o = product_in_order enough space A B P e in
        record { ordered = o; alone = λ P' p. products_same S A B P' P p o };
    join = λ lent ps A B J fA fB e.
        let o = joined_in_order lent ps A B J fA fB e in
        record { ordered = o; alone = λ J'. one-join S ps A B J J' o };
    union = λ space A B U e. let o = united_in_order space A B U e in record { ordered = o; alone = λ U'. one-union A B U U' o };
    project = λ space js A R e.
        let o = projected_in_order space js A R e in
        record { ordered = o; alone = λ R'. one-relabelled (chosen js) (length js) A R R' o };
    drop_tapes = λ space d A R e.
        let o = dropped_in_order space d A R e in
        record { ordered = o; alone = λ R'. one-relabelled (drop_at d) (place_after d A.tapes) A R R' o };
  }
