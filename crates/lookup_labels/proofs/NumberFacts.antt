-- Words compared one after the other, and the arcs of a table numbered from the first to the last.
use mathlib.Core.Path.{◌≡◌, refl, sym, ap, ap₂, subst, ◌∙◌}
use mathlib.Core.Logic.{◌≢◌}
use mathlib.Core.List.{List, ◌++◌}
use Prim.Native.Nat.{ℕ, suc, ◌+◌, ◌*◌, ◌≤◌, ◌<◌, min}
use native.Mathlib.Decide.{ℕ_discrete, dec_le}
use native.Mathlib.Omega.{arith}
use lib.ListN.{length, get_or, set, length-set}
use lib.Seq.{get_or-set_same, get_or-set_other}
use Rattle.table.specs.Region.{part}
use Rattle.table.specs.Endian.{le}
use Rattle.table.proofs.PartFacts.{part-part, part-add, part_zero}
use Rattle.table.proofs.EndianFacts.{Bytes, le_same}
use Rattle.lookup_labels.specs.Numbers.{words_at, Numbers, Numbered}
use Rattle.automata.specs.Layout.{arc_size, label_size}
use Rattle.table.specs.Arcs.{labels_start}

-- ---- words

-- where the first words and the rest are the same, all are
pub words_turn : (a b left rest x y : ℕ) (xs : List ℕ) → left ≡ suc rest → a + 8 * left ≤ length xs → b + 8 * left ≤ length xs → Bytes xs
    → x ≡ le (part a 8 xs) → y ≡ le (part b 8 xs) → x ≡ y → part (a + 8) (8 * rest) xs ≡ part (b + 8) (8 * rest) xs → part a (8 * left) xs ≡ part b (8 * left) xs
words_turn a b left rest x y xs d h k f p q same e =
    let n : 8 * left ≡ 8 + 8 * rest = omega (arith, d) in
    let w = le_same a b 8 xs xs (omega (arith, h, d)) (omega (arith, k, d)) f f (sym p ∙ same ∙ q) in
    ap (λ (m : ℕ). part a m xs) n ∙ part-add a 8 (8 * rest) xs ∙ ap₂ (λ (us vs : List ℕ). us ++ vs) w e
    ∙ sym (part-add b 8 (8 * rest) xs) ∙ sym (ap (λ (m : ℕ). part b m xs) n)

-- no words are the same
pub words_end : (a b left : ℕ) (xs : List ℕ) → left ≡ 0 → part a (8 * left) xs ≡ part b (8 * left) xs
words_end a b left xs d = rw (d, part_zero a xs, part_zero b xs)

-- ---- arcs

-- an arc's number, from what each call gave
pub numbers_of : (arcs : List ℕ) (e words : ℕ) (a xs : List ℕ) (k : ℕ) → k < 1024 → (d : ℕ) → d ≡ get_or a k 0 → (o : ℕ) → o ≡ min d e → (n : ℕ)
    → (n < 1024 → (n ≡ k) × (d < e → words_at words arcs d ≡ words_at words arcs e)) → Numbers arcs e words (set a k o) a (set xs e n) xs
numbers_of arcs e words a xs k fits d p o q n h = record {
  bucket = k;
  bucket_fits = fits;
  owners_are = ap (set a k) (q ∙ ap (λ (i : ℕ). min i e) p);
  number = n;
  numbers_are = refl;
  same = λ small. ((h small).0, λ before. ap (words_at words arcs) (sym p) ∙ (h small).1 (omega (arith, p, before)));
}

-- the arcs before e have numbers: an owner of a number came before e and has the words of each arc with that number
pub record Numbering (arcs : List ℕ) (words e : ℕ) (owners numbers : List ℕ) : Type 0 where
  pub owners_size : length owners ≡ 1024
  pub numbers_size : length numbers ≡ 8192
  pub each : (f : ℕ) → f < e → get_or numbers f 0 < 1024
      → (get_or owners (get_or numbers f 0) 0 < e) × (words_at words arcs (get_or owners (get_or numbers f 0) 0) ≡ words_at words arcs f)

module _ (arcs : List ℕ) (words : ℕ) where
  pub numbering_start : (owners numbers : List ℕ) → length owners ≡ 1024 → length numbers ≡ 8192 → Numbering arcs words 0 owners numbers
  numbering_start owners numbers p q = record { owners_size = p; numbers_size = q; each = λ f lt. absurd (omega arith) }

  module _ (e : ℕ) (a xs b ys : List ℕ) (h : Numbering arcs words e a xs) (few : e < 8192) (t : Numbers arcs e words b a ys xs) where
    owner : ℕ
    owner = get_or a t.bucket 0

    -- the owner of the bucket, and of another one
    own_bucket : get_or b t.bucket 0 ≡ min owner e
    unfolding owner
    own_bucket = ap (λ (zs : List ℕ). get_or zs t.bucket 0) t.owners_are
        ∙ get_or-set_same a t.bucket (min (get_or a t.bucket 0) e) 0 (omega (arith, t.bucket_fits, h.owners_size))

    other_bucket : (k : ℕ) → k ≢ t.bucket → get_or b k 0 ≡ get_or a k 0
    other_bucket k ne = ap (λ (zs : List ℕ). get_or zs k 0) t.owners_are ∙ get_or-set_other a t.bucket k (min (get_or a t.bucket 0) e) 0 ne

    -- the number of the arc, and of another one
    own-number : get_or ys e 0 ≡ t.number
    own-number = ap (λ (zs : List ℕ). get_or zs e 0) t.numbers_are ∙ get_or-set_same xs e t.number 0 (omega (arith, few, h.numbers_size))

    other_number : (f : ℕ) → f ≢ e → get_or ys f 0 ≡ get_or xs f 0
    other_number f ne = ap (λ (zs : List ℕ). get_or zs f 0) t.numbers_are ∙ get_or-set_other xs e f t.number 0 ne

    -- what is asked of an arc with the number k
    abbrev Owned : ℕ → ℕ → Type 0
    Owned f k = (get_or b k 0 < e + 1) × (words_at words arcs (get_or b k 0) ≡ words_at words arcs f)

    -- the arc itself
    owned_self : t.number < 1024 → Owned e t.bucket
    unfolding owner
    owned_self small = go (dec_le e owner)
      where
        go : Dec (e ≤ owner) → Owned e t.bucket
        go (yes at_most) = let z : get_or b t.bucket 0 ≡ e = omega (arith, own_bucket, at_most) in (omega (arith, z), ap (words_at words arcs) z)
        go (no gt) =
            let z : get_or b t.bucket 0 ≡ owner = omega (arith, own_bucket, gt) in
            (omega (arith, z, gt), ap (words_at words arcs) z ∙ (t.same small).1 (omega (arith, gt)))

    -- one before it
    owned_before : (f k : ℕ) → (get_or a k 0 < e) × (words_at words arcs (get_or a k 0) ≡ words_at words arcs f) → Owned f k
    unfolding owner
    owned_before f k (lt, same) = go (ℕ_discrete k t.bucket)
      where
        go : Dec (k ≡ t.bucket) → Owned f k
        go (no ne) = let z = other_bucket k ne in (omega (arith, z, lt), ap (words_at words arcs) z ∙ same)
        go (yes own) =
            let y : get_or a k 0 ≡ owner = ap (λ (i : ℕ). get_or a i 0) own in
            let z : get_or b k 0 ≡ get_or a k 0 = omega (arith, ap (λ (i : ℕ). get_or b i 0) own, own_bucket, y, lt) in
            (omega (arith, z, lt), ap (words_at words arcs) z ∙ same)

    pub numbering_turn : Numbering arcs words (e + 1) b ys
    numbering_turn = record {
      owners_size = ap length t.owners_are ∙ length-set a t.bucket (min (get_or a t.bucket 0) e) ∙ h.owners_size;
      numbers_size = ap length t.numbers_are ∙ length-set xs e t.number ∙ h.numbers_size;
      each = λ f lt small. go f lt small (ℕ_discrete f e);
    }
      where
        go : (f : ℕ) → f < e + 1 → get_or ys f 0 < 1024 → Dec (f ≡ e) → Owned f (get_or ys f 0)
        go f lt small (yes own) =
            let n : get_or ys f 0 ≡ t.number = ap (λ (i : ℕ). get_or ys i 0) own ∙ own-number in
            let m = (t.same (omega (arith, n, small))).0 in
            subst (λ (k : ℕ). Owned f k) (sym (n ∙ m)) (subst (λ (g : ℕ). Owned g t.bucket) (sym own) (owned_self (omega (arith, n, small))))
        go f lt small (no ne) =
            let n = other_number f ne in
            subst (λ (k : ℕ). Owned f k) (sym n) (owned_before f (get_or xs f 0) (h.each f (omega (arith, ne)) (omega (arith, n, small))))

  -- the labels are the front of their words
  pub numbering_end : (tapes n e : ℕ) (owners numbers : List ℕ) → label_size * tapes ≤ 8 * words → n ≤ e → Numbering arcs words e owners numbers → Numbered tapes n arcs numbers
  numbering_end tapes n e owners numbers fits up h = record {
    size_is = h.numbers_size;
    alike = λ x y p q same small.
        let u = (h.each x (omega (arith, p, up)) (omega (arith, same, small))).1 in
        let v = (h.each y (omega (arith, q, up)) small).1 in
        let w : words_at words arcs x ≡ words_at words arcs y = sym u ∙ ap (λ (k : ℕ). words_at words arcs (get_or owners k 0)) same ∙ v in
        front x ∙ ap (part 0 (label_size * tapes)) w ∙ sym (front y);
  }
    where
      front : (x : ℕ) → part (labels_start (arc_size * x)) (label_size * tapes) arcs ≡ part 0 (label_size * tapes) (words_at words arcs x)
      front x = ap (λ (k : ℕ). part k (label_size * tapes) arcs) (omega arith) ∙ sym (part-part 0 (label_size * tapes) (labels_start (arc_size * x)) (8 * words) arcs (omega (arith, fits)))
