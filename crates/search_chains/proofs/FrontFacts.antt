-- Records at the fronts of rows as a list, and the search in a list where a record stands once or not at all.
use Prim.Native.Nat.{ℕ, zero, suc, ◌+◌, ◌*◌, ◌<◌}
use mathlib.Core.Path.{◌≡◌, refl, sym, ap, ap₂, ◌∙◌}
use mathlib.Core.Bool.{Bool, true, false}
use mathlib.Core.List.{List, [], ◌∷◌, ◌++◌}
use native.Mathlib.Omega.{arith}
use native.Mathlib.Nat.{add-zero, zero-mul, suc-mul}
use lib.Dec.{eqb}
use lib.ListN.{length, get_or}
use Rattle.automata.specs.Lists.{if, same_list}
use Rattle.automata.proofs.ListFacts.{numbers_decided, lists_decided}
use Rattle.table.specs.Region.{part}
use Rattle.std.specs.Prelude.{Some, None}
use Rattle.search_rows.specs.Find.{index_from}
use Rattle.search_chains.specs.Chain.{fronts}

-- ---- the list

pub length_fronts : (a stride size n : ℕ) (xs : List ℕ) → length (fronts a stride size n xs) ≡ n
unfolding fronts
length_fronts a stride size zero xs = refl
length_fronts a stride size (suc n) xs = ap suc (length_fronts (a + stride) stride size n xs)

-- the record with the number k
pub get_d_fronts : (a stride size n : ℕ) (xs : List ℕ) (k : ℕ) (d : List ℕ) → k < n → get_or (fronts a stride size n xs) k d ≡ part (a + k * stride) size xs
unfolding fronts
get_d_fronts a stride size zero xs k d h = absurd (omega arith)
get_d_fronts a stride size (suc n) xs zero d h = rw (zero-mul, add-zero)
get_d_fronts a stride size (suc n) xs (suc k) d h =
    let e : a + stride + k * stride ≡ a + suc k * stride = rw suc-mul (omega arith) in
    get_d_fronts (a + stride) stride size n xs k d (omega arith) ∙ ap (λ (m : ℕ). part m size xs) e

-- the same records, where each is the same
pub fronts_same : (a stride size n : ℕ) (xs ys : List ℕ) → ((k : ℕ) → k < n → part (a + k * stride) size ys ≡ part (a + k * stride) size xs)
    → fronts a stride size n ys ≡ fronts a stride size n xs
unfolding fronts
fronts_same a stride size zero xs ys f = refl
fronts_same a stride size (suc n) xs ys f =
    let z : a + zero * stride ≡ a = rw (zero-mul, add-zero) in
    ap₂ (λ (r : List ℕ) (rs : List (List ℕ)). r ∷ rs) (ap (λ (m : ℕ). part m size ys) (sym z) ∙ f zero (omega arith) ∙ ap (λ (m : ℕ). part m size xs) z)
    (fronts_same (a + stride) stride size n xs ys (λ k h.
    let e : a + stride + k * stride ≡ a + suc k * stride = rw suc-mul (omega arith) in
    ap (λ (m : ℕ). part m size ys) e ∙ f (suc k) (omega arith) ∙ ap (λ (m : ℕ). part m size xs) (sym e)))

-- one record more
pub fronts_snoc : (a stride size n : ℕ) (xs : List ℕ) → fronts a stride size (suc n) xs ≡ fronts a stride size n xs ++ (part (a + n * stride) size xs ∷ [])
unfolding fronts
fronts_snoc a stride size zero xs = rw (zero-mul, add-zero)
fronts_snoc a stride size (suc n) xs =
    let e : a + stride + n * stride ≡ a + suc n * stride = rw suc-mul (omega arith) in
    ap (λ (rs : List (List ℕ)). part a size xs ∷ rs) (fronts_snoc (a + stride) stride size n xs ∙ ap (λ (i : ℕ). fronts (a + stride) stride size n xs ++ (part i size xs ∷ [])) e)

-- ---- the search in a list

same_sound : (w r : List ℕ) → same_list w r ≡ true → w ≡ r
same_sound w r e = (lists_decided eqb numbers_decided).sound w r e

same_complete : (w r : List ℕ) → r ≡ w → same_list w r ≡ true
same_complete w r e = ap (same_list w) e ∙ (lists_decided eqb numbers_decided).complete w

-- a record that stands nowhere
pub index_none : (i : ℕ) (w : List ℕ) (rs : List (List ℕ)) → ((j : ℕ) → j < length rs → get_or rs j [] ≡ w → ⊥) → index_from i w rs ≡ None
unfolding index_from
index_none i w [] f = refl
index_none i w (r ∷ rs) f = go (same_list w r) refl (index_none (i + 1) w rs (λ j h e. f (suc j) (omega arith) e))
  where
    go : (b : Bool) → same_list w r ≡ b → index_from (i + 1) w rs ≡ None → if b (Some (record { 0 = i })) (index_from (i + 1) w rs) ≡ None
    go true e ih = absurd (f zero (omega arith) (sym (same_sound w r e)))
    go false e ih = ih

-- one that stands at place k alone
pub index_only : (i : ℕ) (w : List ℕ) (rs : List (List ℕ)) (k : ℕ) → k < length rs → get_or rs k [] ≡ w
    → ((j : ℕ) → j < length rs → get_or rs j [] ≡ w → j ≡ k) → index_from i w rs ≡ Some (record { 0 = i + k })
unfolding index_from
index_only i w [] k h e f = absurd (omega arith)
index_only i w (r ∷ rs) zero h e f =
    let t : same_list w r ≡ true = same_complete w r e in
    rw (t, add-zero)
index_only i w (r ∷ rs) (suc k) h e f =
    go (same_list w r) refl (index_only (i + 1) w rs k (omega arith) e (λ j l q. let z : suc j ≡ suc k = f (suc j) (omega arith) q in omega arith))
  where
    go : (b : Bool) → same_list w r ≡ b → index_from (i + 1) w rs ≡ Some (record { 0 = i + 1 + k }) → if b (Some (record { 0 = i })) (index_from (i + 1) w rs) ≡ Some (record { 0 = i + suc k })
    go true t ih = let z : zero ≡ suc k = f zero (omega arith) (sym (same_sound w r t)) in absurd (omega arith)
    go false t ih = let z : i + 1 + k ≡ i + suc k = omega arith in ih ∙ ap (λ (n : ℕ). Some (record { 0 = n })) z

-- where nothing is found, the record stands nowhere
pub index_absent : (i : ℕ) (w : List ℕ) (rs : List (List ℕ)) → index_from i w rs ≡ None → (j : ℕ) → j < length rs → get_or rs j [] ≡ w → ⊥
unfolding index_from
index_absent i w [] e j h q = omega arith
index_absent i w (r ∷ rs) e j h q = go (same_list w r) refl e j h q (index_absent (i + 1) w rs)
  where
    go : (b : Bool) → same_list w r ≡ b → if b (Some (record { 0 = i })) (index_from (i + 1) w rs) ≡ None → (j : ℕ) → j < suc (length rs) → get_or (r ∷ rs) j [] ≡ w
        → (index_from (i + 1) w rs ≡ None → (j : ℕ) → j < length rs → get_or rs j [] ≡ w → ⊥) → ⊥
    go true t f j h q ih = let z : ◌≡◌ {A = ℕ} 0 1 = cc in omega arith
    go false t f zero h q ih = let z : true ≡ false = sym (same_complete w r q) ∙ t in let y : ◌≡◌ {A = ℕ} 0 1 = cc in omega arith
    go false t f (suc j) h q ih = ih f j (omega arith) q
