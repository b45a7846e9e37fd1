-- The search along a chain: what a link that is followed passes, and what the search tells at its end.
use Prim.Native.Nat.{ℕ, suc, ◌+◌, ◌*◌, ◌≤◌, ◌<◌}
use mathlib.Core.Path.{◌≡◌, sym, ap, ◌∙◌}
use mathlib.Core.List.{List, []}
use native.Mathlib.Decide.{dec_lt, ℕ_discrete}
use native.Mathlib.Omega.{arith}
use native.Mathlib.Nat.{zero-add}
use lib.ListN.{length, get_or}
use lib.Seq.{ext_get_or}
use borrow.Author.Tests.{le-leb}
use Rattle.table.specs.Region.{part}
use Rattle.table.proofs.RegionFacts.{length_part, get_d_part}
use Rattle.std.specs.Prelude.{Some, None}
use Rattle.search_chains.specs.declared.Shape.{Shape}
use Rattle.search_chains.specs.Parts.{part_start, part_size, Agrees}
use Rattle.search_chains.specs.Chain.{fronts, record_at, head_at, next_at, link_below, Leads, Searchable, Finds}
use Rattle.search_chains.proofs.FrontFacts.{length_fronts, get_d_fronts, index_none, index_only}

-- ---- links

-- a link within the bound is followed
pub link_kept : (bound l : ℕ) → l ≤ bound → l ≡ link_below bound l
link_kept bound l h = rw (le-leb l bound h)

-- ---- two records

-- records that differ at a place
pub differing : (stride k i : ℕ) (w xs : List ℕ) → i < length w → (get_or xs (k * stride + i) 0 ≡ get_or w i 0 → ⊥) → record_at stride (length w) k xs ≡ w → ⊥
differing stride k i w xs h f e = f (sym (get_d_part (k * stride) (length w) xs i 0 h) ∙ ap (λ (ys : List ℕ). get_or ys i 0) e)

-- ---- along the chain

-- the records from the link l on are passed, and l stays in the chain of the bucket
pub record Passing (hash : List ℕ → ℕ) (stride count bucket l : ℕ) (w xs : List ℕ) : Type 0 where
  pub met : (k : ℕ) → l ≡ suc k → hash (record_at stride (length w) k xs) ≡ bucket
  pub passed : (j : ℕ) → l ≤ j → j < count → record_at stride (length w) j xs ≡ w → ⊥

-- whatever chains there are
abbrev pub Passes : ℕ → ℕ → ℕ → Shape → List ℕ → List ℕ → ℕ → Type 0
Passes stride count bucket s w xs l = (hash : List ℕ → ℕ) (room : ℕ) → bucket < room → Searchable hash stride room count bucket s w xs → Passing hash stride count bucket l w xs

module _ (stride count bucket : ℕ) (shape : Shape) (w xs : List ℕ) where
  -- a record by its number in the list
  at_front : (j : ℕ) → j < count → record_at stride (length w) j xs ≡ get_or (fronts 0 stride (length w) count xs) j []
  at_front j b = ap (λ (m : ℕ). part m (length w) xs) (sym (zero-add (j * stride))) ∙ sym (get_d_fronts 0 stride (length w) count xs j [] b)

  -- at the head
  pub passes_head : (l : ℕ) → l ≡ link_below count (head_at stride (length w) bucket xs) → Passes stride count bucket shape w xs l
  passes_head l e hash room below s =
      let g = s.chained.heads bucket below in
      let q : l ≡ head_at stride (length w) bucket xs = e ∙ sym (link_kept count (head_at stride (length w) bucket xs) g.fits) in
      record {
        met = λ k f. g.met k (sym q ∙ f);
        passed = λ j a b f. g.passed j (omega (arith, q)) b (ap hash f ∙ s.hashed);
      }

  -- a record of the chain that is not the one
  pub passes_next : (l k : ℕ) → l ≡ suc k → l ≤ count → Passes stride count bucket shape w xs l → (record_at stride (length w) k xs ≡ w → ⊥) → (m : ℕ)
      → m ≡ link_below k (next_at stride (length w) k xs) → Passes stride count bucket shape w xs m
  passes_next l k e c p f m n hash room below s =
      let o = p hash room below s in
      let g = s.chained.nexts k (omega arith) in
      let q : m ≡ next_at stride (length w) k xs = n ∙ sym (link_kept k (next_at stride (length w) k xs) g.fits) in
      let h : hash (record_at stride (length w) k xs) ≡ bucket = o.met k e in
      record {
        met = λ i z. g.met i (sym q ∙ z) ∙ h;
        passed = λ j a b z. go j a b z (dec_lt j k) (ℕ_discrete j k) q h g o;
      }
    where
      go : (j : ℕ) → m ≤ j → j < count → record_at stride (length w) j xs ≡ w → Dec (j < k) → Dec (j ≡ k) → m ≡ next_at stride (length w) k xs
          → hash (record_at stride (length w) k xs) ≡ bucket → Leads hash stride (length w) k (hash (record_at stride (length w) k xs)) (next_at stride (length w) k xs) xs
          → Passing hash stride count bucket l w xs → ⊥
      go j a b z (yes d) t q h g o = g.passed j (omega (arith, q)) d (ap hash z ∙ s.hashed ∙ sym h)
      go j a b z (no d) (yes t) q h g o = f (ap (λ (i : ℕ). record_at stride (length w) i xs) (sym t) ∙ z)
      go j a b z (no d) (no t) q h g o = o.passed j (omega arith) b z

  -- the chain has ended
  pub finds_nothing : (l : ℕ) → l ≡ 0 → Passes stride count bucket shape w xs l → Finds stride count bucket shape w xs None
  finds_nothing l e p hash room below s =
      let o = p hash room below s in
      sym (index_none 0 w (fronts 0 stride (length w) count xs) (λ j h f.
      let b : j < count = omega (arith, h, length_fronts 0 stride (length w) count xs) in
      o.passed j (omega arith) b (at_front j b ∙ f)))

  -- the record is found
  pub finds_record : (k : ℕ) → k < count → Agrees shape (k * stride) w xs → Finds stride count bucket shape w xs (Some (record { 0 = k }))
  finds_record k h f hash room below s =
      let e : record_at stride (length w) k xs ≡ w = s.agreeing k h f in
      sym (index_only 0 w (fronts 0 stride (length w) count xs) k (omega (arith, h, length_fronts 0 stride (length w) count xs)) (sym (at_front k h) ∙ e)
      (λ j b q.
      let c : j < count = omega (arith, b, length_fronts 0 stride (length w) count xs) in
      s.chained.distinct j k c h (at_front j c ∙ q ∙ sym e))
      ∙ ap (λ (m : ℕ). Some (record { 0 = m })) (zero-add k))

-- ---- the parts one after the other

-- the first p parts agree
abbrev pub AgreesTo : Shape → ℕ → ℕ → List ℕ → List ℕ → Type 0
AgreesTo s p a w xs = (q : ℕ) → q < p → (i : ℕ) → part_start s q ≤ i → i < part_start s q + part_size s q w → get_or xs (a + i) 0 ≡ get_or w i 0

-- where records that are as long as the first part agree, they are the same
pub agrees_whole : (stride k : ℕ) (s : Shape) (w xs : List ℕ) → 0 < s.parts → length w ≡ s.head → k * stride + s.head ≤ length xs → Agrees s (k * stride) w xs
    → record_at stride (length w) k xs ≡ w
agrees_whole stride k s w xs p e l f =
    ext_get_or 0 (record_at stride (length w) k xs) w (length_part (k * stride) (length w) xs (omega (arith, e)))
    (λ i b.
    let c : i < length w = omega (arith, b, length_part (k * stride) (length w) xs (omega (arith, e))) in
    get_d_part (k * stride) (length w) xs i 0 c ∙ f 0 p i (omega arith) (omega (arith, e)))
