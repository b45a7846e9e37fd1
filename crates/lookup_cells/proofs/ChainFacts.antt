-- Arcs entered into the chains of their keys, from the last to the first.
use mathlib.Core.Path.{◌≡◌, sym, ap, subst, ◌∙◌}
use mathlib.Core.Logic.{◌≢◌}
use mathlib.Core.List.{List}
use Prim.Native.Nat.{ℕ, suc, ◌+◌, ◌≤◌, ◌<◌}
use native.Mathlib.Decide.{ℕ_discrete}
use native.Mathlib.Omega.{arith}
use lib.ListN.{length, get_or, set, length-set, replicate, length-replicate, get_or-replicate}
use lib.Seq.{get_or-set_same, get_or-set_other}
use Rattle.lookup_cells.specs.Chains.{ChainedFrom, Chained}

-- before the last arc no chain has one
pub chain-start : (key : ℕ → ℕ) (n : ℕ) (index : List ℕ) → n ≤ 8192 → index ≡ replicate 9216 65535 → ChainedFrom key n n index
chain-start key n index few e = record {
  size_is = ap length e ∙ length-replicate {A = ℕ} 9216 65535;
  first_up = λ q lt. omega (arith, first q lt);
  first_is = λ q lt small. absurd (omega (arith, first q lt));
  first-none = λ q lt e le small up. absurd (omega arith);
  next_up = λ e le small. absurd (omega arith);
  next_is = λ e le small up. absurd (omega arith);
  next_none = λ e le small f up. absurd (omega arith);
}
  where
    first : (q : ℕ) → q < 1024 → get_or index q 0 ≡ 65535
    first q lt = ap (λ (xs : List ℕ). get_or xs q 0) e ∙ get_or-replicate {A = ℕ} 9216 q 65535 0 (omega arith)

-- one arc more
module _ (key : ℕ → ℕ) (lo n : ℕ) (xs ys : List ℕ) (h : ChainedFrom key (suc lo) n xs) (below : lo < n) (few : n ≤ 8192) (small : key lo < 1024)
    (e : ys ≡ set (set xs (1024 + lo) (get_or xs (key lo) 0)) (key lo) lo) where
  mid : List ℕ
  mid = set xs (1024 + lo) (get_or xs (key lo) 0)

  mid_length : length mid ≡ 9216
  unfolding mid
  mid_length = length-set xs (1024 + lo) (get_or xs (key lo) 0) ∙ h.size_is

  -- the arc is the first of its chain
  first-own : get_or ys (key lo) 0 ≡ lo
  unfolding mid
  first-own = ap (λ (zs : List ℕ). get_or zs (key lo) 0) e ∙ get_or-set_same mid (key lo) lo 0 (omega (arith, mid_length))

  first_other : (q : ℕ) → q < 1024 → q ≢ key lo → get_or ys q 0 ≡ get_or xs q 0
  unfolding mid
  first_other q lt ne =
      ap (λ (zs : List ℕ). get_or zs q 0) e ∙ get_or-set_other mid (key lo) q lo 0 ne
      ∙ get_or-set_other xs (1024 + lo) q (get_or xs (key lo) 0) 0 (λ same. omega (arith, same))

  -- what was the first is next
  next-own : get_or ys (1024 + lo) 0 ≡ get_or xs (key lo) 0
  unfolding mid
  next-own =
      ap (λ (zs : List ℕ). get_or zs (1024 + lo) 0) e ∙ get_or-set_other mid (key lo) (1024 + lo) lo 0 (λ same. omega (arith, same))
      ∙ get_or-set_same xs (1024 + lo) (get_or xs (key lo) 0) 0 (omega (arith, h.size_is))

  next_other : (f : ℕ) → f ≢ lo → get_or ys (1024 + f) 0 ≡ get_or xs (1024 + f) 0
  unfolding mid
  next_other f ne =
      ap (λ (zs : List ℕ). get_or zs (1024 + f) 0) e ∙ get_or-set_other mid (key lo) (1024 + f) lo 0 (λ same. omega (arith, same))
      ∙ get_or-set_other xs (1024 + lo) (1024 + f) (get_or xs (key lo) 0) 0 (λ same. ne (omega (arith, same)))

  pub chain_turn : ChainedFrom key lo n ys
  unfolding mid
  chain_turn = record {
    size_is = ap length e ∙ length-set mid (key lo) lo ∙ mid_length;
    first_up = λ q lt. up q lt (ℕ_discrete q (key lo));
    first_is = λ q lt less. is q lt less (ℕ_discrete q (key lo));
    first-none = λ q lt f le less before. none q lt f le less before (ℕ_discrete q (key lo));
    next_up = λ f le less. n_up f le less (ℕ_discrete f lo);
    next_is = λ f le less there. n_is f le less there (ℕ_discrete f lo);
    next_none = λ f le less g after in_all before. n_none f le less g after in_all before (ℕ_discrete f lo);
  }
    where
      up : (q : ℕ) → q < 1024 → Dec (q ≡ key lo) → lo ≤ get_or ys q 0
      up q lt (yes same) = omega (arith, first-own, ap (λ (k : ℕ). get_or ys k 0) same)
      up q lt (no ne) = omega (arith, first_other q lt ne, h.first_up q lt)

      is : (q : ℕ) → q < 1024 → get_or ys q 0 < n → Dec (q ≡ key lo) → key (get_or ys q 0) ≡ q
      is q lt less (yes same) = ap key (ap (λ (k : ℕ). get_or ys k 0) same ∙ first-own) ∙ sym same
      is q lt less (no ne) = ap key (first_other q lt ne) ∙ h.first_is q lt (omega (arith, first_other q lt ne))

      none : (q : ℕ) → q < 1024 → (f : ℕ) → lo ≤ f → f < n → f < get_or ys q 0 → Dec (q ≡ key lo) → key f ≢ q
      none q lt f le less before (yes same) = absurd (omega (arith, first-own, ap (λ (k : ℕ). get_or ys k 0) same))
      none q lt f le less before (no ne) = go (ℕ_discrete f lo)
        where
          go : Dec (f ≡ lo) → key f ≢ q
          go (yes own) = λ g. ne (sym g ∙ ap key own)
          go (no other) = h.first-none q lt f (omega arith) less (omega (arith, first_other q lt ne))

      n_up : (f : ℕ) → lo ≤ f → f < n → Dec (f ≡ lo) → f < get_or ys (1024 + f) 0
      n_up f le less (yes own) = omega (arith, own, next-own, ap (λ (k : ℕ). get_or ys (1024 + k) 0) own, h.first_up (key lo) small)
      n_up f le less (no other) = omega (arith, next_other f other, h.next_up f (omega arith) less)

      n_is : (f : ℕ) → lo ≤ f → f < n → get_or ys (1024 + f) 0 < n → Dec (f ≡ lo) → key (get_or ys (1024 + f) 0) ≡ key f
      n_is f le less there (yes own) =
          let g : get_or ys (1024 + f) 0 ≡ get_or xs (key lo) 0 = ap (λ (k : ℕ). get_or ys (1024 + k) 0) own ∙ next-own in
          ap key g ∙ h.first_is (key lo) small (omega (arith, g)) ∙ ap key (sym own)
      n_is f le less there (no other) = ap key (next_other f other) ∙ h.next_is f (omega arith) less (omega (arith, next_other f other))

      n_none : (f : ℕ) → lo ≤ f → f < n → (g : ℕ) → f < g → g < n → g < get_or ys (1024 + f) 0 → Dec (f ≡ lo) → key g ≢ key f
      n_none f le less g after in_all before (yes own) =
          let z : get_or ys (1024 + f) 0 ≡ get_or xs (key lo) 0 = ap (λ (k : ℕ). get_or ys (1024 + k) 0) own ∙ next-own in
          λ same. h.first-none (key lo) small g (omega (arith, own)) in_all (omega (arith, z)) (same ∙ ap key own)
      n_none f le less g after in_all before (no other) =
          h.next_none f (omega arith) less g after in_all (omega (arith, next_other f other))

-- the same, counted by what is left
pub chain-again : (key : ℕ → ℕ) (left rest n : ℕ) (xs ys : List ℕ) → left ≡ suc rest → ChainedFrom key left n xs → left ≤ n → n ≤ 8192 → key rest < 1024
    → ys ≡ set (set xs (1024 + rest) (get_or xs (key rest) 0)) (key rest) rest → ChainedFrom key rest n ys
chain-again key left rest n xs ys d h le few small e = chain_turn key rest n xs ys (subst (λ (k : ℕ). ChainedFrom key k n xs) d h) (omega arith) few small e

pub chain_end : (key : ℕ → ℕ) (left n : ℕ) (xs : List ℕ) → left ≡ 0 → ChainedFrom key left n xs → Chained key n xs
chain_end key left n xs d h = subst (λ (k : ℕ). ChainedFrom key k n xs) d h
