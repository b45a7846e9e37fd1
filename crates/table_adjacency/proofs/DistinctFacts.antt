-- Marking arcs so that each has a marked one between the same states, and linking the marked ones.
use Prim.Native.Nat.{ℕ, zero, suc, ◌+◌, ◌-◌, ◌≤◌, ◌<◌}
use mathlib.Core.Path.{◌≡◌, refl, sym, ap, ◌∙◌, subst}
use mathlib.Core.Bool.{true}
use mathlib.Core.List.{List}
use native.Mathlib.Omega.{arith}
use native.Mathlib.Decide.{ℕ_discrete}
use lib.Dec.{ltb}
use lib.ListN.{length, get_or, set, replicate, length-set, length-replicate}
use lib.Seq.{get_or-set_same, get_or-set_other}
use borrow.Author.Tests.{lt-ltb}
use Rattle.table.specs.Arcs.{source_of, target_of}
use Rattle.table_adjacency.specs.Chains.{in_chain, Chainable}
use Rattle.table_adjacency.specs.Distinct.{Between, Grown, Marked, MarksArc, Markable, LinkedFrom, SameMarks, LinksArc}
use Rattle.table_adjacency.proofs.ChainFacts.{First, first-arc, next-arc}

-- a mark at a place
mark_there : (marks : List ℕ) (j v : ℕ) → 0 < v → j < length marks → in_chain (set marks j v) j ≡ true
mark_there marks j v h b = ap (ltb 0) (get_or-set_same marks j v 0 b) ∙ lt-ltb 0 v h

-- leaves the others
set_marks : (marks : List ℕ) (j v : ℕ) → 0 < v → j < length marks → Grown marks (set marks j v)
set_marks marks j v h b i e = elim (ℕ_discrete i j) [
  | yes p ↦ ap (in_chain (set marks j v)) p ∙ mark_there marks j v h b
  | no p ↦ ap (ltb 0) (get_or-set_other marks j i v 0 p) ∙ e
]

between_on : (arcs marks after : List ℕ) (n q t : ℕ) → Grown marks after → Between arcs marks n q t → Between arcs after n q t
between_on arcs marks after n q t g b = record { arc = b.arc; within = b.within; chained = g b.arc b.chained; source_is = b.source_is; target_is = b.target_is }

-- ---- one arc

module _ (q t j : ℕ) (seen marks : List ℕ) where
  -- this one is marked
  pub marked_now : t < length seen → j < length marks → MarksArc q t j seen marks (set seen t (q + 1)) (set marks j 1)
  marked_now bt bj = record {
    same_seen = length-set seen t (q + 1);
    same_marks = length-set marks j 1;
    grown = g;
    meaning = λ m n arcs k b s d.
        let here : Between arcs (set marks j 1) n q t = record { arc = j; within = b; chained = mark_there marks j 1 (omega arith) bj; source_is = s; target_is = d } in (
          record {
            seen_fits = let l = length-set seen t (q + 1) in omega (arith, l, k.seen_fits);
            marks_fit = let l = length-set marks j 1 in omega (arith, l, k.marks_fit);
            sound = λ x y e. elim (ℕ_discrete x t) [
              | yes p ↦
                  (let z : q + 1 ≡ y + 1 = sym (get_or-set_same seen t (q + 1) 0 bt) ∙ sym (ap (λ (i : ℕ). get_or (set seen t (q + 1)) i 0) p) ∙ e in
                  let w : q ≡ y = omega arith in
                  subst (λ (i : ℕ). Between arcs (set marks j 1) n y i) (sym p) (subst (λ (i : ℕ). Between arcs (set marks j 1) n i t) w here))
              | no p ↦ between_on arcs marks (set marks j 1) n y x g (k.sound x y (sym (get_or-set_other seen t x (q + 1) 0 p) ∙ e))
            ];
          },
          here,
        );
  }
    where
      g : Grown marks (set marks j 1)
      g = set_marks marks j 1 (omega arith) bj

-- ---- the arcs of a state

-- those before number j were looked at, and j, where there is one, leaves the state
pub record Marking (m n : ℕ) (arcs : List ℕ) (q : ℕ) (seen₀ marks₀ seen marks : List ℕ) (j : ℕ) : Type 0 where
  pub within : j ≤ n
  pub leaves : j < n → source_of arcs j ≡ q
  pub same_seen : length seen ≡ length seen₀
  pub same_marks : length marks ≡ length marks₀
  pub grown : Grown marks₀ marks
  pub marked : Marked m n arcs seen marks
  pub covered : (i : ℕ) → i < n → i < j → source_of arcs i ≡ q → Between arcs marks n q (target_of arcs i)

module _ (m n : ℕ) (arcs first next : List ℕ) (q : ℕ) (seen₀ marks₀ : List ℕ) (k : Markable m n arcs first next) (b : q < m) where
  pub state-start : Marked m n arcs seen₀ marks₀ → Marking m n arcs q seen₀ marks₀ seen₀ marks₀ (get_or first q 0)
  state-start x =
      let f = first-arc m n arcs first next k.chained q b in
      record {
        within = f.within;
        leaves = f.leaves;
        same_seen = refl;
        same_marks = refl;
        grown = λ i e. e;
        marked = x;
        covered = λ i l h s. absurd (f.between i (omega arith) h s);
      }

  module _ (seen marks : List ℕ) (j : ℕ) (t : Marking m n arcs q seen₀ marks₀ seen marks j) (h : j < n) where
    following : First arcs q n (j + 1) (get_or next j 0)
    following = next-arc m n arcs first next k.chained q j h (t.leaves h)

    -- the next arc stands behind, and has a small number
    pub state-goes : j < get_or next j 0
    state-goes = let f = following.behind in omega (arith, f)

    pub state-next : (x : ℕ) → x ≡ target_of arcs j → (seen₁ marks₁ : List ℕ) → MarksArc q x j seen marks seen₁ marks₁ → Marking m n arcs q seen₀ marks₀ seen₁ marks₁ (get_or next j 0)
    state-next x e seen₁ marks₁ z =
        let y = z.meaning m n arcs t.marked h (t.leaves h) (sym e) in
        record {
          within = following.within;
          leaves = following.leaves;
          same_seen = z.same_seen ∙ t.same_seen;
          same_marks = z.same_marks ∙ t.same_marks;
          grown = λ i o. z.grown i (t.grown i o);
          marked = y.0;
          covered = λ i l g s. elim (ℕ_discrete i j) [
            | yes p ↦ subst (λ (o : ℕ). Between arcs marks₁ n q o) (e ∙ ap (target_of arcs) (sym p)) y.1
            | no p ↦ before i l g s p (ℕ_discrete (j - i) 0)
          ];
        }
      where
        before : (i : ℕ) → i < n → i < get_or next j 0 → source_of arcs i ≡ q → (i ≡ j → ⊥) → Dec (j - i ≡ 0) → Between arcs marks₁ n q (target_of arcs i)
        before i l g s p (yes o) = absurd (following.between i (omega (arith, o, p)) g s)
        before i l g s p (no o) = between_on arcs marks marks₁ n q (target_of arcs i) z.grown (t.covered i l (omega (arith, o)) s)

-- ---- all states

-- the arcs of the states below q were looked at
pub record MarkingAll (m n : ℕ) (arcs : List ℕ) (seen₀ marks₀ seen marks : List ℕ) (q : ℕ) : Type 0 where
  pub within : q ≤ m
  pub same_seen : length seen ≡ length seen₀
  pub same_marks : length marks ≡ length marks₀
  pub marked : Marked m n arcs seen marks
  pub covered : (j : ℕ) → j < n → source_of arcs j < q → Between arcs marks n (source_of arcs j) (target_of arcs j)

-- ---- linking

-- the marked arcs from number j on are linked
pub record Linking (n : ℕ) (arcs next₀ first₀ first next : List ℕ) (j : ℕ) : Type 0 where
  pub within : j ≤ n
  pub same_first : length first ≡ length first₀
  pub same_next : length next ≡ length next₀
  pub linked : LinkedFrom j (length first₀) n arcs first next
  pub same_marks : SameMarks next₀ next

module _ (m n : ℕ) (arcs : List ℕ) (size : ℕ) (next₀ : List ℕ) (k : Chainable m n arcs size (length next₀)) (filled : List ℕ) (e : filled ≡ replicate size n) where
  filled_long : length filled ≡ size
  filled_long = ap length e ∙ length-replicate size n

  module _ (first next : List ℕ) (j : ℕ) (t : Linking n arcs next₀ filled first next j) where
    source_fits : 0 < j → source_of arcs (j - 1) < length filled
    source_fits b = let s = k.sources (j - 1) (omega (arith, b, t.within)) in omega (arith, s, filled_long, k.states_fit)

    pub link_next : 0 < j → (first₁ next₁ : List ℕ) → LinksArc arcs (j - 1) first next first₁ next₁ → Linking n arcs next₀ filled first₁ next₁ (j - 1)
    link_next b first₁ next₁ z =
        let s : j ≡ j - 1 + 1 = omega arith in
        let y = z.meaning (length filled) n (omega (arith, b, t.within)) (source_fits b) (subst (λ (i : ℕ). LinkedFrom i (length filled) n arcs first next) s t.linked) in
        record {
          within = omega (arith, t.within);
          same_first = z.same_first ∙ t.same_first;
          same_next = z.same_next ∙ t.same_next;
          linked = y.0;
          same_marks = λ i. y.1 i ∙ t.same_marks i;
        }

-- ---- the whole

zeros_there : (k t : ℕ) → get_or {A = ℕ} (replicate k 0) t 0 ≡ 0
zeros_there zero t = refl
zeros_there (suc k) zero = refl
zeros_there (suc k) (suc t) = zeros_there k t

-- nothing is seen yet
pub none_seen : (m n : ℕ) (arcs marks : List ℕ) → m ≤ 1024 → n ≤ length marks → (seen : List ℕ) → seen ≡ replicate 1024 0 → Marked m n arcs seen marks
none_seen m n arcs marks b c seen e =
    let l : length seen ≡ 1024 = ap length e ∙ length-replicate {A = ℕ} 1024 0 in
    record { seen_fits = omega (arith, l, b); marks_fit = c; sound = λ t q x. let y = zeros_there 1024 t in let z : get_or seen t 0 ≡ 0 = ap (λ (z : List ℕ). get_or z t 0) e ∙ y in absurd (omega (arith, x, z)) }
