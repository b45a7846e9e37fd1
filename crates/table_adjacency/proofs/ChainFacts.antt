-- The chains of the states: how they are made from the last arc on, and what the first arc of a chain passes over.
use Prim.Native.Nat.{ℕ, zero, suc, ◌+◌, ◌-◌, ◌≤◌, ◌<◌}
use mathlib.Core.Path.{◌≡◌, refl, sym, ap, ◌∙◌, subst}
use mathlib.Core.Bool.{Bool, true, false}
use mathlib.Core.List.{List, [], ◌∷◌}
use native.Mathlib.Omega.{arith}
use native.Mathlib.Decide.{ℕ_discrete}
use lib.Dec.{eqb, ltb}
use lib.ListN.{length, get_or, set, replicate, length-set, length-replicate, get_or-replicate}
use lib.Seq.{get_or-set_same, get_or-set_other}
use borrow.Author.Tests.{eq-eqb, ne_eqb, eqb-true, eqb-false, lt-ltb, le-ltb, ltb-true, ltb-false}
use Rattle.automata.specs.Lists.{if}
use Rattle.table.specs.Arcs.{source_of}
use Rattle.table_adjacency.specs.Chains.{chain, first_or, ChainedFrom, Chained, Chainable, in_chain, FirstIn, Linked, Heads, first_for}

-- ---- a chain with one arc more

-- an arc that leaves the state
chain_here : (arcs : List ℕ) (q k n : ℕ) → source_of arcs k ≡ q → chain arcs q k (suc n) ≡ k ∷ chain arcs q (k + 1) n
unfolding chain
chain_here arcs q k n e = ap (λ (b : Bool). if b (k ∷ chain arcs q (k + 1) n) (chain arcs q (k + 1) n)) (eq-eqb (source_of arcs k) q e)

-- an arc that leaves another
chain_away : (arcs : List ℕ) (q k n : ℕ) → (source_of arcs k ≡ q → ⊥) → chain arcs q k (suc n) ≡ chain arcs q (k + 1) n
unfolding chain
chain_away arcs q k n e = ap (λ (b : Bool). if b (k ∷ chain arcs q (k + 1) n) (chain arcs q (k + 1) n)) (ne_eqb (source_of arcs k) q e)

-- no arc
chain-none : (arcs : List ℕ) (q k n : ℕ) → n ≡ 0 → chain arcs q k n ≡ []
unfolding chain
chain-none arcs q k zero e = refl
chain-none arcs q k (suc n) e = absurd (omega arith)

-- ---- the lists

module _ (m n : ℕ) (arcs : List ℕ) (for_states for_arcs : ℕ) (c : Chainable m n arcs for_states for_arcs) (filled : List ℕ) (e : filled ≡ replicate for_states n) where
  filled_long : length filled ≡ for_states
  filled_long = ap length e ∙ length-replicate for_states n

  -- before any arc
  pub chained_none : (next : List ℕ) → n ≤ length next → ChainedFrom n (length filled) n arcs filled next
  chained_none next b = record {
    states_fit = omega arith;
    arcs_fit = b;
    firsts = λ q h.
        ap (λ (z : List ℕ). get_or z q 0) e ∙ get_or-replicate for_states q n 0 (omega (arith, filled_long))
        ∙ sym (ap (first_or n) (chain-none arcs q n (n - n) (omega arith)));
    nexts = λ j l h. absurd (omega arith);
  }

  -- the source of an arc has its place
  pub source_fits : (j x : ℕ) → j < n → x ≡ source_of arcs j → x < length filled
  source_fits j x h f = let s = c.sources j h in omega (arith, s, f, filled_long, c.states_fit)

-- with the arc before them
chained_more : (k m n : ℕ) (arcs first next : List ℕ) → k < n → ChainedFrom (k + 1) m n arcs first next → (q : ℕ) → q ≡ source_of arcs k → q < m
    → ChainedFrom k m n arcs (set first q k) (set next k (get_or first q 0))
chained_more k m n arcs first next b c q e h =
    let s : n - k ≡ suc (n - (k + 1)) = omega arith in
    record {
      states_fit = let l = length-set first q k in omega (arith, l, c.states_fit);
      arcs_fit = let l = length-set next k (get_or first q 0) in omega (arith, l, c.arcs_fit);
      firsts = λ x g. elim (ℕ_discrete x q) [
        | yes p ↦
            ap (get_d' (set first q k)) p ∙ get_or-set_same first q k 0 (omega (arith, c.states_fit))
            ∙ sym (ap (λ (i : ℕ). first_or n (chain arcs x k i)) s ∙ ap (first_or n) (chain_here arcs x k (n - (k + 1)) (sym e ∙ sym p)))
        | no p ↦
            get_or-set_other first q x k 0 p ∙ c.firsts x g
            ∙ sym (ap (λ (i : ℕ). first_or n (chain arcs x k i)) s ∙ ap (first_or n) (chain_away arcs x k (n - (k + 1)) (λ z. p (sym z ∙ sym e))))
      ];
      nexts = λ j l g. elim (ℕ_discrete j k) [
        | yes p ↦
            ap (get_d' (set next k (get_or first q 0))) p ∙ get_or-set_same next k (get_or first q 0) 0 (omega (arith, c.arcs_fit)) ∙ c.firsts q h
            ∙ ap (λ (z : ℕ). first_or n (chain arcs z (k + 1) (n - (k + 1)))) e
            ∙ ap (λ (i : ℕ). first_or n (chain arcs (source_of arcs i) (i + 1) (n - (i + 1)))) (sym p)
        | no p ↦ get_or-set_other next k j (get_or first q 0) 0 p ∙ c.nexts j (omega arith) g
      ];
    }
  where
    get_d' : List ℕ → ℕ → ℕ
    get_d' xs i = get_or xs i 0

-- the same, counted down
pub chained_back : (i m n : ℕ) (arcs first next : List ℕ) → 0 < i → i ≤ n → ChainedFrom i m n arcs first next → (q : ℕ) → q ≡ source_of arcs (i - 1) → q < m
    → ChainedFrom (i - 1) m n arcs (set first q (i - 1)) (set next (i - 1) (get_or first q 0))
chained_back i m n arcs first next h b c q e l =
    let s : i ≡ i - 1 + 1 = omega arith in
    chained_more (i - 1) m n arcs first next (omega arith) (subst (λ (k : ℕ). ChainedFrom k m n arcs first next) s c) q e l

-- ---- what is passed over

-- j is the first arc from number k on that leaves q, of n in all; n where there is none
pub record First (arcs : List ℕ) (q n k j : ℕ) : Type 0 where
  pub behind : k ≤ j
  pub within : j ≤ n
  pub between : (i : ℕ) → k ≤ i → i < j → source_of arcs i ≡ q → ⊥
  pub leaves : j < n → source_of arcs j ≡ q

-- the first of a chain
chain_first : (arcs : List ℕ) (q n k i : ℕ) → k + i ≡ n → First arcs q n k (first_or n (chain arcs q k i))
unfolding chain
chain_first arcs q n k zero e = record { behind = omega arith; within = omega arith; between = λ x l h z. absurd (omega arith); leaves = λ h. absurd (omega arith) }
chain_first arcs q n k (suc i) e = go (eqb (source_of arcs k) q) refl (chain_first arcs q n (k + 1) i (omega arith))
  where
    go : (b : Bool) → eqb (source_of arcs k) q ≡ b → First arcs q n (k + 1) (first_or n (chain arcs q (k + 1) i))
        → First arcs q n k (first_or n (if b (k ∷ chain arcs q (k + 1) i) (chain arcs q (k + 1) i)))
    go true t f = record { behind = omega arith; within = omega arith; between = λ x l h z. absurd (omega arith); leaves = λ h. eqb-true (source_of arcs k) q t }
    go false t f = record {
      behind = let b = f.behind in omega (arith, b);
      within = f.within;
      between = λ x l h z. elim (ℕ_discrete x k) [
        | yes p ↦ eqb-false (source_of arcs k) q t (ap (source_of arcs) (sym p) ∙ z)
        | no p ↦ f.between x (omega arith) h z
      ];
      leaves = f.leaves;
    }

module _ (m n : ℕ) (arcs first next : List ℕ) (c : Chained m n arcs first next) where
  -- the first arc of a state
  pub first-arc : (q : ℕ) → q < m → First arcs q n 0 (get_or first q 0)
  first-arc q h = subst (First arcs q n 0) (sym (c.firsts q h)) (chain_first arcs q n 0 (n - 0) (omega arith))

  -- the next arc of the same state
  pub next-arc : (q j : ℕ) → j < n → source_of arcs j ≡ q → First arcs q n (j + 1) (get_or next j 0)
  next-arc q j h e =
      subst (λ (z : ℕ). First arcs z n (j + 1) (get_or next j 0)) e
      (subst (First arcs (source_of arcs j) n (j + 1)) (sym (c.nexts j (omega arith) h)) (chain_first arcs (source_of arcs j) n (j + 1) (n - (j + 1)) (omega arith)))

  -- every arc stands in a chain
  pub all_in : (j : ℕ) → j < n → in_chain next j ≡ true
  all_in j h = let f = (next-arc (source_of arcs j) j h refl).behind in lt-ltb 0 (get_or next j 0) (omega (arith, f))

  -- and the chains are linked
  pub linked_all : ((j : ℕ) → j < n → source_of arcs j < m) → Linked m n arcs first next
  linked_all s = record {
    states_fit = c.states_fit;
    arcs_fit = c.arcs_fit;
    sources = s;
    firsts = λ q h. first_in_lem q 0 (get_or first q 0) (first-arc q h);
    nexts = λ j h e. first_in_lem (source_of arcs j) (j + 1) (get_or next j 0) (next-arc (source_of arcs j) j h refl);
  }
    where
      first_in_lem : (q k j : ℕ) → First arcs q n k j → FirstIn arcs next q n k j
      first_in_lem q k j f = record { behind = f.behind; within = f.within; between = λ i l h e. f.between i l h; leaves = λ h. (all_in j h, f.leaves h) }

-- ---- going along a chain

-- the first arc of a state, and of any other place
pub first_there : (m n : ℕ) (first : List ℕ) (x : ℕ) → x < m → get_or first x 0 ≡ first_for m n first x
unfolding first_for
first_there m n first x h = sym (ap (λ (b : Bool). if b (get_or first x 0) n) (lt-ltb x m h))

pub first-none : (m n : ℕ) (first : List ℕ) (x : ℕ) → m ≤ x → n ≡ first_for m n first x
unfolding first_for
first-none m n first x h = sym (ap (λ (b : Bool). if b (get_or first x 0) n) (le-ltb x m h))

module _ (m n : ℕ) (arcs first next : List ℕ) (c : Linked m n arcs first next) where
  -- the first arcs are known
  pub heads : n ≤ 8192 → Heads m n first
  heads h = record { few = h; states_fit = c.states_fit; bounded = λ q b. (c.firsts q b).within }

  -- the first arc of a place
  pub first_for_lem : (x : ℕ) → FirstIn arcs next x n 0 (first_for m n first x)
  unfolding first_for
  first_for_lem x = go (ltb x m) refl
    where
      go : (b : Bool) → ltb x m ≡ b → FirstIn arcs next x n 0 (if b (get_or first x 0) n)
      go true e = c.firsts x (ltb-true x m e)
      go false e = record {
        behind = omega arith;
        within = omega arith;
        between = λ i l h t z. let b = ltb-false x m e in let s = c.sources i h in omega (arith, b, s, z);
        leaves = λ h. absurd (omega arith);
      }

  -- the next arc of the same place
  pub next_for : (x j : ℕ) → j < n → (in_chain next j ≡ true) × (source_of arcs j ≡ x) → FirstIn arcs next x n (j + 1) (get_or next j 0)
  next_for x j h e = subst (λ (z : ℕ). FirstIn arcs next z n (j + 1) (get_or next j 0)) e.1 (c.nexts j h e.0)
