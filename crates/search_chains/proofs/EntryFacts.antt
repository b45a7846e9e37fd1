-- What the links and records are after a record was appended, that all stand in their chains then, and chains in bytes
-- that are kept or cleared.
use Prim.Native.Nat.{ℕ, suc, ◌+◌, ◌*◌, ◌≤◌, ◌<◌}
use mathlib.Core.Path.{◌≡◌, refl, sym, ap, ◌∙◌, subst}
use mathlib.Core.List.{List}
use native.Mathlib.Decide.{ℕ_discrete}
use native.Mathlib.Omega.{arith}
use native.Mathlib.Nat.{add-zero}
use lib.ListN.{length}
use Rattle.table.specs.Region.{part, splice}
use Rattle.table.specs.Endian.{le, to_le}
use Rattle.table.proofs.RegionFacts.{length_splice, part-splice_same, part-splice_after}
use Rattle.table.proofs.EndianFacts.{length_to_le, le-splice}
use Rattle.table.proofs.RowFacts.{mul_step}
use Rattle.search_chains.specs.Chain.{record_at, head_at, next_at, appended, Leads, Chained}
use Rattle.search_chains.proofs.RowFacts.{row_kept, front_kept, back_kept}

-- ---- a record appended

module _ (stride count b : ℕ) (w xs : List ℕ) (wide : length w + 4 ≤ stride) (fits : count * stride + stride ≤ length xs) (bucket_fits : b * stride + stride ≤ length xs) where
  abbrev size : ℕ
  size = length w

  abbrev link : ℕ
  link = head_at stride size b xs

  -- with the record, and with its link
  abbrev one : List ℕ
  one = splice (count * stride) w xs

  abbrev two : List ℕ
  two = splice (count * stride + size + 2) (to_le 2 link) one

  abbrev three : List ℕ
  three = splice (b * stride + size) (to_le 2 (count + 1)) two

  is_three : appended stride count b w xs ≡ three
  unfolding appended
  is_three = refl

  length_one : length one ≡ length xs
  length_one = length_splice (count * stride) w xs (omega arith)

  length_two : length two ≡ length xs
  length_two = length_splice (count * stride + size + 2) (to_le 2 link) one (omega (arith, length_one, length_to_le 2 link)) ∙ length_one

  pub length_appended : length (appended stride count b w xs) ≡ length xs
  length_appended = ap length is_three ∙ length_splice (b * stride + size) (to_le 2 (count + 1)) two (omega (arith, length_two, length_to_le 2 (count + 1))) ∙ length_two

  -- a field of a row in the three steps
  in_three : (j o n : ℕ) → o + n ≤ stride → (j ≡ b → ⊥) → part (j * stride + o) n three ≡ part (j * stride + o) n two
  in_three j o n h d = row_kept stride j o n b size (to_le 2 (count + 1)) two h (omega (arith, length_to_le 2 (count + 1))) (omega (arith, length_two, length_to_le 2 (count + 1))) d

  three_front : (j o n : ℕ) → o + n ≤ size → part (j * stride + o) n three ≡ part (j * stride + o) n two
  three_front j o n h = front_kept stride j o n b size (to_le 2 (count + 1)) two (omega arith) (omega (arith, length_to_le 2 (count + 1))) (omega (arith, length_two, length_to_le 2 (count + 1))) h

  three_back : (j o n : ℕ) → o + n ≤ stride → size + 2 ≤ o → part (j * stride + o) n three ≡ part (j * stride + o) n two
  three_back j o n h k =
      back_kept stride j o n b size (to_le 2 (count + 1)) two h (omega (arith, length_to_le 2 (count + 1))) (omega (arith, length_two, length_to_le 2 (count + 1))) (omega (arith, length_to_le 2 (count + 1)))

  two_is : two ≡ splice (count * stride + (size + 2)) (to_le 2 link) one
  two_is = let e : count * stride + size + 2 ≡ count * stride + (size + 2) = omega arith in ap (λ (a : ℕ). splice a (to_le 2 link) one) e

  two_row : (j o n : ℕ) → o + n ≤ stride → (j ≡ count → ⊥) → part (j * stride + o) n two ≡ part (j * stride + o) n one
  two_row j o n h d =
      ap (part (j * stride + o) n) two_is
      ∙ row_kept stride j o n count (size + 2) (to_le 2 link) one h (omega (arith, length_to_le 2 link)) (omega (arith, length_one, length_to_le 2 link)) d

  two_front : (j o n : ℕ) → o + n ≤ size + 2 → part (j * stride + o) n two ≡ part (j * stride + o) n one
  two_front j o n h =
      ap (part (j * stride + o) n) two_is
      ∙ front_kept stride j o n count (size + 2) (to_le 2 link) one (omega arith) (omega (arith, length_to_le 2 link)) (omega (arith, length_one, length_to_le 2 link)) h

  one_is : one ≡ splice (count * stride + 0) w xs
  one_is = ap (λ (a : ℕ). splice a w xs) (sym (add-zero (count * stride)))

  one_row : (j o n : ℕ) → o + n ≤ stride → (j ≡ count → ⊥) → part (j * stride + o) n one ≡ part (j * stride + o) n xs
  one_row j o n h d = ap (part (j * stride + o) n) one_is ∙ row_kept stride j o n count 0 w xs h (omega arith) (omega arith) d

  one_back : (j o n : ℕ) → o + n ≤ stride → size ≤ o → part (j * stride + o) n one ≡ part (j * stride + o) n xs
  one_back j o n h k = ap (part (j * stride + o) n) one_is ∙ back_kept stride j o n count 0 w xs h (omega arith) (omega arith) (omega arith)

  abbrev after : List ℕ
  after = appended stride count b w xs

  at_zero : (j : ℕ) (ys : List ℕ) → record_at stride size j ys ≡ part (j * stride + 0) size ys
  at_zero j ys = ap (λ (a : ℕ). part a size ys) (sym (add-zero (j * stride)))

  -- the other records
  pub record_old : (j : ℕ) → (j ≡ count → ⊥) → record_at stride size j after ≡ record_at stride size j xs
  record_old j d =
      ap (record_at stride size j) is_three ∙ at_zero j three ∙ three_front j 0 size (omega arith) ∙ two_front j 0 size (omega arith) ∙ one_row j 0 size (omega arith) d ∙ sym (at_zero j xs)

  -- the one appended
  pub record_new : record_at stride size count after ≡ w
  record_new =
      ap (record_at stride size count) is_three ∙ at_zero count three ∙ three_front count 0 size (omega arith) ∙ two_front count 0 size (omega arith) ∙ sym (at_zero count one)
      ∙ part-splice_same (count * stride) w xs (omega arith)

  -- the head of its chain
  pub head_new : count < 65535 → head_at stride size b after ≡ suc count
  head_new h =
      let z : count + 1 ≡ suc count = omega arith in
      ap (head_at stride size b) is_three ∙ le-splice 2 (count + 1) (b * stride + size) two (omega arith) (omega (arith, length_two)) ∙ z

  -- the heads of the others
  pub head_old : (k : ℕ) → (k ≡ b → ⊥) → head_at stride size k after ≡ head_at stride size k xs
  head_old k d =
      ap (head_at stride size k) is_three ∙ ap le (in_three k size 2 (omega arith) d ∙ two_front k size 2 (omega arith) ∙ one_back k size 2 (omega arith) (omega arith))

  next_is : (k : ℕ) (ys : List ℕ) → next_at stride size k ys ≡ le (part (k * stride + (size + 2)) 2 ys)
  next_is k ys = let e : k * stride + size + 2 ≡ k * stride + (size + 2) = omega arith in ap (λ (a : ℕ). le (part a 2 ys)) e

  -- how the chains of the other records go on
  pub next_old : (k : ℕ) → (k ≡ count → ⊥) → next_at stride size k after ≡ next_at stride size k xs
  next_old k d =
      ap (next_at stride size k) is_three ∙ next_is k three
      ∙ ap le (three_back k (size + 2) 2 (omega arith) (omega arith) ∙ two_row k (size + 2) 2 (omega arith) d ∙ one_row k (size + 2) 2 (omega arith) d) ∙ sym (next_is k xs)

  -- and that of the record appended
  pub next_new : link < 65536 → next_at stride size count after ≡ link
  next_new h =
      ap (next_at stride size count) is_three ∙ next_is count three ∙ ap le (three_back count (size + 2) 2 (omega arith) (omega arith)) ∙ sym (next_is count two)
      ∙ le-splice 2 link (count * stride + size + 2) one (omega arith) (omega (arith, length_one))

  -- bytes behind the rows
  pub beyond_kept : (room a n : ℕ) → count < room → b < room → room * stride ≤ a → part a n after ≡ part a n xs
  beyond_kept room a n h k l =
      let m = mul_step count room stride h in
      let i = mul_step b room stride k in
      ap (part a n) is_three
      ∙ part-splice_after a n (b * stride + size) (to_le 2 (count + 1)) two (omega (arith, i, length_to_le 2 (count + 1))) (omega (arith, length_two, length_to_le 2 (count + 1)))
      ∙ part-splice_after a n (count * stride + size + 2) (to_le 2 link) one (omega (arith, m, length_to_le 2 link)) (omega (arith, length_one, length_to_le 2 link))
      ∙ part-splice_after a n (count * stride) w xs (omega (arith, m)) (omega arith)

  -- all stand in their chains
  pub chained_appended : (hash : List ℕ → ℕ) (room : ℕ) → hash w ≡ b → b < room → count < 65535 → Chained hash stride size room count xs
      → ((j : ℕ) → j < count → record_at stride size j xs ≡ w → ⊥) → Chained hash stride size room (suc count) after
  chained_appended hash room hb below few c none = record {
    heads = λ k h. heads k h (ℕ_discrete k b);
    nexts = λ k h. nexts k h (ℕ_discrete k count);
    distinct = λ i j h l e. distinct i j h l e (ℕ_discrete i count) (ℕ_discrete j count);
  }
    where
      old : (j : ℕ) → j < count → record_at stride size j after ≡ record_at stride size j xs
      old j h = record_old j (λ e. omega arith)

      -- a link among the first n of the old records
      leads_old : (n k l m : ℕ) → n ≤ count → m ≡ l → Leads hash stride size n k l xs → Leads hash stride size n k m after
      leads_old n k l m h e g = record {
        fits = omega (arith, e, g.fits);
        met = λ i z. ap hash (old i (omega (arith, e, z, g.fits))) ∙ g.met i (sym e ∙ z);
        passed = λ j a i z. g.passed j (omega (arith, e)) i (sym (ap hash (old j (omega arith))) ∙ z);
      }

      heads : (k : ℕ) → k < room → Dec (k ≡ b) → Leads hash stride size (suc count) k (head_at stride size k after) after
      heads k h (yes e) =
          let q : head_at stride size k after ≡ suc count = ap (λ (i : ℕ). head_at stride size i after) e ∙ head_new few in
          record {
            fits = omega (arith, q);
            met = λ i z. let y : i ≡ count = omega (arith, q, z) in ap hash (ap (λ (m : ℕ). record_at stride size m after) y ∙ record_new) ∙ hb ∙ sym e;
            passed = λ j a i z. omega (arith, q, a, i);
          }
      heads k h (no d) =
          let g = leads_old count k (head_at stride size k xs) (head_at stride size k after) (omega arith) (head_old k d) (c.heads k h) in
          record {
            fits = omega (arith, g.fits);
            met = λ i z. g.met i z;
            passed = λ j a i z. last j a i z (ℕ_discrete j count) g;
          }
        where
          last : (j : ℕ) → head_at stride size k after ≤ j → j < suc count → hash (record_at stride size j after) ≡ k → Dec (j ≡ count)
              → Leads hash stride size count k (head_at stride size k after) after → ⊥
          last j a i z (yes y) g = d (sym z ∙ ap hash (ap (λ (m : ℕ). record_at stride size m after) y ∙ record_new) ∙ hb)
          last j a i z (no y) g = g.passed j a (omega arith) z

      nexts : (k : ℕ) → k < suc count → Dec (k ≡ count) → Leads hash stride size k (hash (record_at stride size k after)) (next_at stride size k after) after
      nexts k h (yes e) =
          let g = c.heads b below in
          let q : next_at stride size k after ≡ head_at stride size b xs = ap (λ (m : ℕ). next_at stride size m after) e ∙ next_new (omega (arith, g.fits)) in
          let r : b ≡ hash (record_at stride size k after) = sym (ap hash (ap (λ (m : ℕ). record_at stride size m after) e ∙ record_new) ∙ hb) in
          let m = leads_old count b (head_at stride size b xs) (next_at stride size k after) (omega arith) q g in
          subst (λ (n : ℕ). Leads hash stride size n (hash (record_at stride size k after)) (next_at stride size k after) after) (sym e)
          (subst (λ (n : ℕ). Leads hash stride size count n (next_at stride size k after) after) r m)
      nexts k h (no d) =
          let l : k < count = omega arith in
          subst (λ (n : ℕ). Leads hash stride size k n (next_at stride size k after) after) (sym (ap hash (old k l)))
          (leads_old k (hash (record_at stride size k xs)) (next_at stride size k xs) (next_at stride size k after) (omega arith) (next_old k d) (c.nexts k l))

      distinct : (i j : ℕ) → i < suc count → j < suc count → record_at stride size i after ≡ record_at stride size j after → Dec (i ≡ count) → Dec (j ≡ count) → i ≡ j
      distinct i j h l e (yes p) (yes q) = p ∙ sym q
      distinct i j h l e (yes p) (no q) =
          let m : j < count = omega arith in
          absurd (none j m (sym (old j m) ∙ sym e ∙ ap (λ (m : ℕ). record_at stride size m after) p ∙ record_new))
      distinct i j h l e (no p) (yes q) =
          let m : i < count = omega arith in
          absurd (none i m (sym (old i m) ∙ e ∙ ap (λ (m : ℕ). record_at stride size m after) q ∙ record_new))
      distinct i j h l e (no p) (no q) =
          let m : i < count = omega arith in
          let n : j < count = omega arith in
          c.distinct i j m n (sym (old i m) ∙ e ∙ old j n)

-- ---- bytes that are kept

-- chains in rows whose bytes stay
pub chained_kept : (hash : List ℕ → ℕ) (stride size room count : ℕ) (xs ys : List ℕ) → size + 4 ≤ stride → count ≤ room
    → ((a n : ℕ) → a + n ≤ room * stride → part a n ys ≡ part a n xs) → Chained hash stride size room count xs → Chained hash stride size room count ys
chained_kept hash stride size room count xs ys wide few same c = record {
  heads = λ b h. leads count b (head_at stride size b xs) (head_at stride size b ys) few
      (ap le (same (b * stride + size) 2 (let m = mul_step b room stride h in omega (arith, m)))) (c.heads b h);
  nexts = λ k h. subst (λ (n : ℕ). Leads hash stride size k n (next_at stride size k ys) ys) (sym (ap hash (kept k (omega arith))))
      (leads k (hash (record_at stride size k xs)) (next_at stride size k xs) (next_at stride size k ys) (omega arith)
      (ap le (same (k * stride + size + 2) 2 (let m = mul_step k room stride (omega arith) in omega (arith, m)))) (c.nexts k h));
  distinct = λ i j h l e. c.distinct i j h l (sym (kept i (omega arith)) ∙ e ∙ kept j (omega arith));
}
  where
    kept : (k : ℕ) → k < room → record_at stride size k ys ≡ record_at stride size k xs
    kept k h = same (k * stride) size (let m = mul_step k room stride h in omega (arith, m))

    leads : (n b l m : ℕ) → n ≤ room → m ≡ l → Leads hash stride size n b l xs → Leads hash stride size n b m ys
    leads n b l m h e g = record {
      fits = omega (arith, e, g.fits);
      met = λ i z. ap hash (kept i (omega (arith, e, z, g.fits))) ∙ g.met i (sym e ∙ z);
      passed = λ j a i z. g.passed j (omega (arith, e)) i (sym (ap hash (kept j (omega arith))) ∙ z);
    }

-- ---- no records

-- chains that are all empty
pub chained_none : (hash : List ℕ → ℕ) (stride size room : ℕ) (xs : List ℕ) → ((b : ℕ) → b < room → head_at stride size b xs ≡ 0) → Chained hash stride size room 0 xs
chained_none hash stride size room xs f = record {
  heads = λ b h. let z = f b h in record {
    fits = omega (arith, z);
    met = λ k e. absurd (omega (arith, z, e));
    passed = λ j a i e. omega arith;
  };
  nexts = λ k h. absurd (omega arith);
  distinct = λ i j h l e. absurd (omega arith);
}

-- the first b chains were emptied
pub record Clearing (stride size room : ℕ) (xs ys : List ℕ) (b : ℕ) : Type 0 where
  pub within : b ≤ room
  pub same_length : length ys ≡ length xs
  pub kept : (a n : ℕ) → room * stride ≤ a → part a n ys ≡ part a n xs
  pub empty : (k : ℕ) → k < b → head_at stride size k ys ≡ 0

module _ (stride size room : ℕ) (xs ys : List ℕ) (b : ℕ) (c : Clearing stride size room xs ys b) (wide : size + 4 ≤ stride) (fits : room * stride ≤ length xs) where
  pub clear_next : b < room → (zs : List ℕ) → zs ≡ splice (b * stride + size) (to_le 2 0) ys → Clearing stride size room xs zs (b + 1)
  clear_next h zs e =
      let m = mul_step b room stride h in
      let l = length_to_le 2 0 in
      record {
        within = omega arith;
        same_length = ap length e ∙ length_splice (b * stride + size) (to_le 2 0) ys (omega (arith, m, l, c.same_length)) ∙ c.same_length;
        kept = λ a n k. ap (part a n) e ∙ part-splice_after a n (b * stride + size) (to_le 2 0) ys (omega (arith, m, l)) (omega (arith, m, l, c.same_length)) ∙ c.kept a n k;
        empty = λ k i. ap (head_at stride size k) e ∙ go k i (ℕ_discrete k b) m l;
      }
    where
      go : (k : ℕ) → k < b + 1 → Dec (k ≡ b) → b * stride + stride ≤ room * stride → length (to_le 2 0) ≡ 2
          → head_at stride size k (splice (b * stride + size) (to_le 2 0) ys) ≡ 0
      go k i (yes q) m l =
          ap (λ (j : ℕ). head_at stride size j (splice (b * stride + size) (to_le 2 0) ys)) q
          ∙ le-splice 2 0 (b * stride + size) ys (omega arith) (omega (arith, m, c.same_length))
      go k i (no d) m l =
          ap le (row_kept stride k size 2 b size (to_le 2 0) ys (omega arith) (omega (arith, l)) (omega (arith, m, l, c.same_length)) d) ∙ c.empty k (omega arith)
