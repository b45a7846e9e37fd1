-- Refusals of union, choosing and dropping: of their tests, else of the space.
use mathlib.Core.Path.{◌≡◌, refl, sym, ◌∙◌, ap, subst}
use mathlib.Core.Logic.{◌↔◌, ⊎_elim}
use mathlib.Core.Bool.{Bool}
use mathlib.Core.List.{List, map}
use Prim.Native.Nat.{ℕ, ◌+◌, ◌≤◌, ◌<◌}
use lib.Dec.{eqb, leb}
use lib.ListN.{length, length-append, length-map}
use Rattle.automata.specs.Answer.{refused}
use Rattle.automata.specs.Space.{Space, state_cap, arc_cap}
use Rattle.automata.specs.Automaton.{Automaton}
use Rattle.automata.specs.Tapes.{drop_at, chosen}
use Rattle.automata.specs.Union.{fitted, shifted, appended, union}
use Rattle.automata.specs.Projection.{without, relabelled_arc, projected, project, drop_tapes}
use Rattle.laws.specs.Refused.{FitRefused, fit_states, fit_arcs, UnionRefused, union_tapes, union_fit, ProjectRefused, project-width, project-tape, project_fit, DropRefused, drop_tape, drop_fit}
use Rattle.automata.proofs.TestFacts
use Rattle.laws.proofs.Lemmas.Tests.{asks_choice, asks_drop, judge_asks, judge_stops, judge_passes}
use borrow.Author.Tests.{leb-true, leb-false, le-leb, lt-leb, eqb-true, eq-eqb}
use Rattle.automata.proofs.AnswerFacts.{refused≢ok, judge_refuses}
use Rattle.laws.proofs.Lemmas.Judging.{judge-cases, judge_on}

fit_refused : {W : Type 0} (space : Space) (A : Automaton W) (states arcs : ℕ) → length A.states ≡ states → length A.arcs ≡ arcs
    → (n : ℕ) → (fitted space A ≡ refused n) ↔ FitRefused states arcs space n
unfolding fitted
fit_refused space A states arcs p q n = (why, answer n)
  where
    why : fitted space A ≡ refused n → FitRefused states arcs space n
    why e = ⊎_elim
        (λ (x, z). subst (FitRefused states arcs space) z (fit_states (subst (λ k. state_cap space < k) p (leb-false (length A.states) (state_cap space) x))))
        (λ (t, e). ⊎_elim
        (λ (x, z). subst (FitRefused states arcs space) z (fit_arcs (subst (λ k. k ≤ state_cap space) p (leb-true (length A.states) (state_cap space) t))
        (subst (λ k. arc_cap space < k) q (leb-false (length A.arcs) (arc_cap space) x))))
        (λ (_, e). absurd (refused≢ok (sym e)))
        (judge-cases (leb (length A.arcs) (arc_cap space)) _ _ n e))
        (judge-cases (leb (length A.states) (state_cap space)) _ _ n e)

    answer : (k : ℕ) → FitRefused states arcs space k → fitted space A ≡ refused k
    answer _ (fit_states h) = judge_refuses (leb (length A.states) (state_cap space)) _ _ (lt-leb (length A.states) (state_cap space) (subst (λ k. state_cap space < k) (sym p) h))
    answer _ (fit_arcs h l) = judge_on (leb (length A.states) (state_cap space)) _ _ _
        (le-leb (length A.states) (state_cap space) (subst (λ k. k ≤ state_cap space) (sym p) h))
        (judge_refuses (leb (length A.arcs) (arc_cap space)) _ _ (lt-leb (length A.arcs) (arc_cap space) (subst (λ k. arc_cap space < k) (sym q) l)))

pub union-refused : {W : Type 0} (space : Space) (A B : Automaton W) (n : ℕ) → (union space A B ≡ refused n) ↔ UnionRefused space A B n
unfolding union
union-refused {W} space A B n = (why, answer n)
  where
    fits : (n : ℕ) → (fitted space (appended A B) ≡ refused n) ↔ FitRefused (length A.states + length B.states) (length A.arcs + length B.arcs) space n
    fits = fit_refused space (appended A B) (length A.states + length B.states) (length A.arcs + length B.arcs) (length-append A.states B.states)
        (length-append A.arcs (map (shifted (length A.states)) B.arcs) ∙ ap (λ k. length A.arcs + k) (length-map B.arcs (shifted {W = W} (length A.states))))

    why : union space A B ≡ refused n → UnionRefused space A B n
    why e = ⊎_elim (λ (x, z). subst (UnionRefused space A B) z (union_tapes (λ q. TestFacts.false_not_true x (eq-eqb A.tapes B.tapes q))))
        (λ (t, e). union_fit (eqb-true A.tapes B.tapes t) n ((fits n).0 e))
        (judge-cases (eqb A.tapes B.tapes) _ _ n e)

    answer : (k : ℕ) → UnionRefused space A B k → union space A B ≡ refused k
    answer _ (union_tapes x) = judge_refuses (eqb A.tapes B.tapes) _ _ (TestFacts.eqb_false A.tapes B.tapes x)
    answer _ (union_fit t k h) = judge_on (eqb A.tapes B.tapes) _ _ _ (eq-eqb A.tapes B.tapes t) ((fits k).1 h)

pub project-refused : {W : Type 0} (space : Space) (js : List ℕ) (A : Automaton W) (n : ℕ) → (project space js A ≡ refused n) ↔ ProjectRefused space js A n
unfolding project
project-refused {W} space js A n = (why, answer n)
  where
    fits : (n : ℕ) → (fitted space (projected js A) ≡ refused n) ↔ FitRefused (length A.states) (length A.arcs) space n
    fits = fit_refused space (projected js A) (length A.states) (length A.arcs) refl (length-map A.arcs (relabelled_arc {W = W} (chosen js)))

    why : project space js A ≡ refused n → ProjectRefused space js A n
    why e = ⊎_elim (λ (x, z). subst (ProjectRefused space js A) z (project-width (leb-false (length js) 8 x)))
        (λ (t, e). ⊎_elim (λ (x, z). subst (ProjectRefused space js A) z (project-tape (leb-true (length js) 8 t) x))
        (λ (u, e). project_fit (leb-true (length js) 8 t) u n ((fits n).0 e))
        (judge_asks _ (asks_choice A.tapes js) _ _ n e))
        (judge-cases (leb (length js) 8) _ _ n e)

    answer : (k : ℕ) → ProjectRefused space js A k → project space js A ≡ refused k
    answer _ (project-width x) = judge_refuses (leb (length js) 8) _ _ (lt-leb (length js) 8 x)
    answer _ (project-tape t x) = judge_on (leb (length js) 8) _ _ _ (le-leb (length js) 8 t) (judge_stops _ (asks_choice A.tapes js) _ _ x)
    answer _ (project_fit t u k h) = judge_on (leb (length js) 8) _ _ _ (le-leb (length js) 8 t) (judge_passes _ (asks_choice A.tapes js) _ _ _ u ((fits k).1 h))

pub drop_refused : {W : Type 0} (space : Space) (d : ℕ → Bool) (A : Automaton W) (n : ℕ) → (drop_tapes space d A ≡ refused n) ↔ DropRefused space d A n
unfolding drop_tapes
drop_refused {W} space d A n = (why, answer n)
  where
    fits : (n : ℕ) → (fitted space (without d A) ≡ refused n) ↔ FitRefused (length A.states) (length A.arcs) space n
    fits = fit_refused space (without d A) (length A.states) (length A.arcs) refl (length-map A.arcs (relabelled_arc {W = W} (drop_at d)))

    why : drop_tapes space d A ≡ refused n → DropRefused space d A n
    why e = ⊎_elim (λ (x, z). subst (DropRefused space d A) z (drop_tape x)) (λ (t, e). drop_fit t n ((fits n).0 e))
        (judge_asks _ (asks_drop d A.tapes) _ _ n e)

    answer : (k : ℕ) → DropRefused space d A k → drop_tapes space d A ≡ refused k
    answer _ (drop_tape x) = judge_stops _ (asks_drop d A.tapes) _ _ x
    answer _ (drop_fit t k h) = judge_passes _ (asks_drop d A.tapes) _ _ _ t ((fits k).1 h)
