-- The worked cases of document 01 whose result is a table: the whole table comes out, and its accounts are exactly
-- those of the paper.
use mathlib.Core.Path.{◌≡◌, refl, ◌∙◌, ap}
use mathlib.Core.List.{[], ◌∷◌}
use Prim.Native.Nat.{ℕ}
use native.Mathlib.Omega.{arith}
use lib.Dec.{T, ltb}
use lib.ListN.{get_or}
use Rattle.automata.specs.Lists.{here, there, ◌∈◌, Distinct, all}
use Rattle.automata.specs.Automaton.{Automaton, Arc, size}
use Rattle.automata.specs.TapePair.{reading}
use Rattle.automata.specs.Closing.{closing_tables, viable}
use Rattle.automata.specs.Explore.{reached, edges}
use Rattle.automata.specs.Trim.{trimmed}
use Rattle.automata.specs.Intersect.{starts, candidate, candidates, out, reached_configs, delayed, assemble, intersect_by, intersect}
use Rattle.automata.specs.IntersectCall.{intersect_on, intersect_call}
use Rattle.automata.specs.Product.{cross_product, product}
use Rattle.automata.specs.Join.{join}
use Rattle.automata.specs.Paths.{Trace}
use Rattle.laws.specs.Accounts.{Account, HasAccounts, WholeCases}
use Rattle.laws.proofs.Lemmas.AccountList.{accounts_up_to, has_accounts}

-- one path, and two that part at their first arc
no_member : {y : Trace} → y ∈ [] → ⊥
no_member m = elim m [ ]

alone : (x : Trace) → Distinct (x ∷ [])
alone x = (λ y m e. no_member m, tt)

only : {z : Trace} (y : Trace) → z ∈ (y ∷ []) → z ≡ y
only y (here e) = e
only y (there m) = absurd (no_member m)

parted : (x y : Trace) → (get_or x.run 0 0 ≡ get_or y.run 0 0 → ⊥) → Distinct (x ∷ y ∷ [])
parted x y f = (λ z m e. f (ap (λ (t : Trace). get_or t.run 0 0) (e ∙ only y m)), alone y)

-- 0 and 1 differ
zero_one : ◌≡◌ {A = ℕ} 0 1 → ⊥
zero_one e = absurd (omega arith)

-- a table with the one account, with none, and with two
one-account : (A : Automaton ℕ) (x : Account) → T (all (λ (a : Arc ℕ). ltb a.source a.target) A.arcs) → accounts_up_to A (size A) ≡ x ∷ [] → HasAccounts A (x ∷ [])
one-account A x t e = has_accounts A t (x ∷ []) e (alone x.path)

no_account : (A : Automaton ℕ) → T (all (λ (a : Arc ℕ). ltb a.source a.target) A.arcs) → accounts_up_to A (size A) ≡ [] → HasAccounts A []
no_account A t e = has_accounts A t [] e tt

two_accounts : (A : Automaton ℕ) (x y : Account) → T (all (λ (a : Arc ℕ). ltb a.source a.target) A.arcs) → accounts_up_to A (size A) ≡ x ∷ y ∷ []
    → (get_or x.path.run 0 0 ≡ get_or y.path.run 0 0 → ⊥) → HasAccounts A (x ∷ y ∷ [])
two_accounts A x y t e f = has_accounts A t (x ∷ y ∷ []) e (parted x.path y.path f)

-- every case
pub whole_cases_lem : WholeCases
unfolding reading reached edges trimmed starts candidate candidates out reached_configs delayed assemble intersect_by intersect
    closing_tables viable intersect_on intersect_call cross_product product join
whole_cases_lem = (
  (refl, one-account _ _ tt refl),
  (
    (refl, one-account _ _ tt refl),
    (
      (refl, one-account _ _ tt refl),
      (
        (refl, no_account _ tt refl),
        (
          (refl, no_account _ tt refl),
          (
            (refl, two_accounts _ _ _ tt refl zero_one),
            (
              (refl, no_account _ tt refl),
              (
                (refl, two_accounts _ _ _ tt refl zero_one),
                (
                  (refl, one-account _ _ tt refl),
                  (
                    (refl, no_account _ tt refl),
                    (
                      (refl, one-account _ _ tt refl),
                      (
                        (refl, one-account _ _ tt refl),
                        (
                          (refl, one-account _ _ tt refl),
                          (
                            (refl, one-account _ _ tt refl),
                            tt,
                          ),
                        ),
                      ),
                    ),
                  ),
                ),
              ),
            ),
          ),
        ),
      ),
    ),
  ),
)
