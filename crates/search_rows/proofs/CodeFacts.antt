-- Vertices in a list, and codes that tell them apart.
use Prim.Native.Nat.{ℕ, zero, suc, ◌≤◌}
use mathlib.Core.Path.{◌≡◌, sym, ap, ◌∙◌}
use mathlib.Core.Bool.{Bool, true, false}
use mathlib.Core.List.{List, [], ◌∷◌, ◌++◌}
use native.Mathlib.Omega.{arith}
use lib.Dec.{eqb}
use lib.ListN.{length}
use Rattle.automata.specs.Lists.{All, Decides, if, here, there, same_list}
use Rattle.automata.specs.Explore.{member, insert, index_of}
use Rattle.automata.proofs.TestFacts
use Rattle.automata.proofs.ListFacts.{numbers_decided, lists_decided}
use Rattle.automata.proofs.RecordFacts.{All_append}
use Rattle.search_rows.specs.Inserted.{Tells}

-- ---- vertices in a list

module _ {C : Type 0} (same : C → C → Bool) where
  -- what holds of all holds of them with one that it holds of
  pub all_insert : (P : C → Type 0) (cs : List C) (c : C) → All P cs → P c → All P (insert same cs c)
  all_insert P cs c h k = go (member same c cs)
    where
      go : (b : Bool) → All P (if b cs (cs ++ (c ∷ [])))
      go true = h
      go false = All_append P cs (c ∷ []) h (k, tt)

  -- the place of a vertex is at most the length
  pub index_bound : (c : C) (cs : List C) → index_of same c cs ≤ length cs
  index_bound c [] = omega arith
  index_bound c (d ∷ cs) = go (same c d) (index_bound c cs)
    where
      go : (b : Bool) → index_of same c cs ≤ length cs → if b zero (suc (index_of same c cs)) ≤ suc (length cs)
      go true l = omega arith
      go false l = omega arith

-- ---- their codes

module _ {C : Type 0} (code : C → List ℕ) where
  -- codes that are different for different vertices tell a vertex from all others
  module _ (same : C → C → Bool) (decided : Decides same) (P : C → Type 0) (injective : (c d : C) → P c → P d → code c ≡ code d → c ≡ d) where
    same_codes : (c d : C) → P c → P d → same c d ≡ same_list (code c) (code d)
    same_codes c d a b =
        let bytes = lists_decided eqb numbers_decided in
        TestFacts.same_truth (same c d) (same_list (code c) (code d))
        (λ e. ap (λ (x : C). same_list (code c) (code x)) (sym (decided.sound c d e)) ∙ bytes.complete (code c))
        (λ e. ap (same c) (sym (injective c d a b (bytes.sound (code c) (code d) e))) ∙ decided.complete c)

    pub codes_tell : (c : C) (cs : List C) → P c → All P cs → Tells code same c cs
    codes_tell c [] a h u k = elim k [ ]
    codes_tell c (d ∷ cs) a h u (here e) = rw e (same_codes c d a h.0)
    codes_tell c (d ∷ cs) a h u (there k) = codes_tell c cs a h.1 u k
