-- What is known of the last of a list of calls where none is refused: it joins, unites, keeps or drops, by the automata
-- that its tables hold.
use mathlib.Core.Path.{◌≡◌, refl, sym, ◌∙◌, ap, subst}
use mathlib.Core.Logic.{◌↔◌, ◌⊎◌}
use mathlib.Core.Bool.{Bool}
use mathlib.Core.List.{List}
use Prim.Native.Nat.{ℕ}
use lib.ListN.{length}
use lib.Dec.{eqb, eqb→eq, leb}
use Rattle.automata.specs.Answer.{ok}
use Rattle.automata.specs.OrderedSum.{ℕ_sum}
use Rattle.automata.specs.Automaton.{Automaton, Tuple, Formed}
use Rattle.automata.specs.Table.{weight_fits}
use Rattle.automata.specs.TapePair.{Pair, TapePair, tapes_of}
use Rattle.automata.specs.Tapes.{seconds}
use Rattle.automata.specs.Paths.{Weighs}
use Rattle.automata.specs.Memory.{Memory, table_of}
use Rattle.automata.specs.Union.{appended, union}
use Rattle.automata.specs.Projection.{without, droppable, drop_tapes, projected, choosable, project}
use Rattle.automata.specs.Calls.Outcome.{Slices, space_of, given}
use Rattle.automata.specs.Calls.Intersect.{intersect_outcome}
use Rattle.automata.specs.Calls.Join.{lent_to}
use Rattle.automata.specs.Calls.Union.{union_outcome}
use Rattle.automata.specs.Calls.Project.{project_outcome}
use Rattle.automata.specs.Calls.Drop.{in_mask, mask_of, drop_outcome}
use Rattle.laws.specs.CallLaws.{JoinLent, join_made}
use Rattle.laws.specs.CallTrees.{Calls, keeping, joining, uniting, choosing, dropping, made, Gave, table, given-table}
use Rattle.automata.proofs.MaskFacts.{mask_marked}
use Rattle.automata.proofs.AnswerFacts.{bind_ok, judge-ok}
use Rattle.automata.proofs.TapeTables.{fitted-ok}
use Rattle.laws.proofs.Lemmas.CallsGiven.{kept_call, joined_call, united_call, chosen_call, dropped_call, no_second}
use Rattle.laws.proofs.Lemmas.JoinWeight.{Joined, join_weighs}
use Rattle.laws.proofs.Lemmas.Kept.{Kept, intersected_kept}
use Rattle.laws.proofs.Lemmas.UnionPaths.{union_weighs}

-- the automaton of calls that gave a table
pub table_is : (c : Calls) (m : Memory) → made c ≡ ok m → table c ≡ table_of m
unfolding given-table
table_is c m e = ap given-table e

-- a property of automata, carried over
over₂ : (P : Automaton ℕ → Automaton ℕ → Type 0) (A A' B B' : Automaton ℕ) → A' ≡ A → B' ≡ B → P A B → P A' B'
over₂ P A A' B B' e f x = rw (e, f) x

over₃ : (P : Automaton ℕ → Automaton ℕ → Automaton ℕ → Type 0) (A A' B B' C C' : Automaton ℕ) → A' ≡ A → B' ≡ B → C' ≡ C → P A B C → P A' B' C'
over₃ P A A' B B' C C' e f g x = rw (e, f, g) x

-- ---- a join

pub record JoinedTrees (ps : List Pair) (A B J : Automaton ℕ) : Type 0 where
  pub first : Formed A
  pub second : Formed B
  pub join : Joined ℕ_sum ps A B J

join_call : (l : JoinLent) (ps : List TapePair) (a b j : Memory) → given (join_made l ps a b) ≡ ok j → JoinedTrees (tapes_of ps) (table_of a) (table_of b) (table_of j)
join_call l ps a b j e =
    let c = joined_call l ps a b j e in
    let lent = lent_to (space_of l.product) (space_of l.result) l.work in
    record {
      first = c.first.formed;
      second = c.second.formed;
      join = join_weighs ℕ_sum weight_fits lent ps (table_of a) (table_of b) (table_of j) c.first.formed c.second.formed c.gave;
    }

-- by the tapes that its pairs name
pub joined_trees : (l : JoinLent) (ps : List TapePair) (qs : List Pair) → tapes_of ps ≡ qs → (c d : Calls) → Gave (joining l ps c d)
    → JoinedTrees qs (table c) (table d) (table (joining l ps c d))
unfolding made
joined_trees l ps qs x c d (r, e) =
    let (m, em, g₀) = bind_ok (made c) _ r e in
    let (k, ek, g) = bind_ok (made d) _ r g₀ in
    subst (λ (z : List Pair). JoinedTrees z (table c) (table d) (table (joining l ps c d))) x
    (over₃ (JoinedTrees (tapes_of ps)) (table_of m) (table c) (table_of k) (table d) (table_of r) (table (joining l ps c d))
    (table_is c m em) (table_is d k ek) (table_is (joining l ps c d) r e) (join_call l ps m k r g))

-- its tables were given
pub joined_gave : (l : JoinLent) (ps : List TapePair) (c d : Calls) → Gave (joining l ps c d) → Gave c × Gave d
unfolding made
joined_gave l ps c d (r, e) =
    let (m, em, g₀) = bind_ok (made c) _ r e in
    let (k, ek, _) = bind_ok (made d) _ r g₀ in
    ((m, em), (k, ek))

-- ---- a union

pub record UnitedTrees (A B U : Automaton ℕ) : Type 0 where
  pub first : Formed A
  pub second : Formed B
  pub tapes : U.tapes ≡ A.tapes
  pub weighs : (t : Tuple) (w : ℕ) → Weighs ℕ_sum U t w ↔ (Weighs ℕ_sum A t w ⊎ Weighs ℕ_sum B t w)

union_call : (a b : Memory) (s : Slices) (u : Memory) → given (union_outcome a b s) ≡ ok u → UnitedTrees (table_of a) (table_of b) (table_of u)
unfolding union
union_call a b s u e =
    let c = united_call a b s u e in
    let A = table_of a in
    let B = table_of b in
    let (h, e₁) = judge-ok (eqb A.tapes B.tapes) _ _ (table_of u) c.gave in
    let (_, _, p) = fitted-ok (space_of s) (appended A B) (table_of u) e₁ in
    subst (UnitedTrees A B) p (record {
      first = c.first.formed;
      second = c.second.formed;
      tapes = refl;
      weighs = union_weighs ℕ_sum A B c.first.formed (eqb→eq A.tapes B.tapes h);
    })

pub united_trees : (c d : Calls) (s : Slices) → Gave (uniting c d s) → UnitedTrees (table c) (table d) (table (uniting c d s))
unfolding made
united_trees c d s (r, e) =
    let (m, em, g₀) = bind_ok (made c) _ r e in
    let (k, ek, g) = bind_ok (made d) _ r g₀ in
    over₃ UnitedTrees (table_of m) (table c) (table_of k) (table d) (table_of r) (table (uniting c d s))
    (table_is c m em) (table_is d k ek) (table_is (uniting c d s) r e) (union_call m k s r g)

pub united_gave : (c d : Calls) (s : Slices) → Gave (uniting c d s) → Gave c × Gave d
unfolding made
united_gave c d s (r, e) =
    let (m, em, g₀) = bind_ok (made c) _ r e in
    let (k, ek, _) = bind_ok (made d) _ r g₀ in
    ((m, em), (k, ek))

-- ---- choosing

pub record ChosenTree (js : List ℕ) (A R : Automaton ℕ) : Type 0 where
  pub formed : Formed A
  pub chooses : projected js A ≡ R

choose_call : (m : Memory) (js : List ℕ) (s : Slices) (r : Memory) → given (project_outcome m js s) ≡ ok r → ChosenTree js (table_of m) (table_of r)
unfolding project
choose_call m js s r e =
    let c = chosen_call m js s r e in
    let (_, e₁) = judge-ok (leb (length js) 8) _ _ (table_of r) c.gave in
    let (_, e₂) = judge-ok (choosable js (table_of m).tapes) _ _ (table_of r) e₁ in
    let (_, _, p) = fitted-ok (space_of s) (projected js (table_of m)) (table_of r) e₂ in
    record { formed = c.source.formed; chooses = p }

pub chosen_tree : (c : Calls) (js : List ℕ) (s : Slices) → Gave (choosing c js s) → ChosenTree js (table c) (table (choosing c js s))
unfolding made
chosen_tree c js s (r, e) =
    let (m, em, g) = bind_ok (made c) _ r e in
    over₂ (ChosenTree js) (table_of m) (table c) (table_of r) (table (choosing c js s)) (table_is c m em) (table_is (choosing c js s) r e) (choose_call m js s r g)

pub chosen_gave : (c : Calls) (js : List ℕ) (s : Slices) → Gave (choosing c js s) → Gave c
unfolding made
chosen_gave c js s (r, e) = let (m, em, _) = bind_ok (made c) _ r e in (m, em)

-- ---- keeping, and the second tapes dropped

pub record KeptTrees (qs : List Pair) (A R : Automaton ℕ) : Type 0 where
  pub kept : Automaton ℕ
  pub keeps : Kept ℕ_sum qs A kept
  pub drops : without (seconds qs) kept ≡ R

keep_drop : (m : Memory) (ps : List TapePair) (s s₁ : Slices) (work : List ℕ) (k r : Memory) → given (intersect_outcome m ps s work).made ≡ ok k
    → given (drop_outcome k (mask_of (seconds (tapes_of ps))) s₁) ≡ ok r → KeptTrees (tapes_of ps) (table_of m) (table_of r)
unfolding drop_tapes
keep_drop m ps s s₁ work k r e e₁ =
    let qs = tapes_of ps in
    let c = kept_call m ps s work k e in
    let d = dropped_call k (mask_of (seconds qs)) s₁ r e₁ in
    let K = table_of k in
    let (_, e₂) = judge-ok (droppable (in_mask (mask_of (seconds qs))) K.tapes) _ _ (table_of r) d.gave in
    let (_, _, p) = fitted-ok (space_of s₁) (without (in_mask (mask_of (seconds qs))) K) (table_of r) e₂ in
    let same = mask_marked (seconds qs) (no_second (table_of m).tapes qs c.source.few c.tapes) in
    record {
      kept = K;
      keeps = intersected_kept ℕ_sum (space_of s) ps (table_of m) K c.source.formed c.gave;
      drops = ap (λ (d : ℕ → Bool). without d K) (sym same) ∙ p;
    }

pub kept_trees : (c : Calls) (ps : List TapePair) (s s₁ : Slices) (work : List ℕ) → Gave (dropping (keeping c ps s work) (mask_of (seconds (tapes_of ps))) s₁)
    → KeptTrees (tapes_of ps) (table c) (table (dropping (keeping c ps s work) (mask_of (seconds (tapes_of ps))) s₁))
unfolding made
kept_trees c ps s s₁ work (r, e) =
    let mask = mask_of (seconds (tapes_of ps)) in
    let (k, ek, g) = bind_ok (made (keeping c ps s work)) _ r e in
    let (m, em, g₁) = bind_ok (made c) _ k ek in
    over₂ (KeptTrees (tapes_of ps)) (table_of m) (table c) (table_of r) (table (dropping (keeping c ps s work) mask s₁))
    (table_is c m em) (table_is (dropping (keeping c ps s work) mask s₁) r e) (keep_drop m ps s s₁ work k r g₁ g)

-- its first table was given
pub kept_gave : (c : Calls) (ps : List TapePair) (s s₁ : Slices) (work : List ℕ) (mask : ℕ) → Gave (dropping (keeping c ps s work) mask s₁) → Gave c
unfolding made
kept_gave c ps s s₁ work mask (r, e) =
    let (k, ek, _) = bind_ok (made (keeping c ps s work)) _ r e in
    let (m, em, _) = bind_ok (made c) _ k ek in
    (m, em)
