-- Facts of parts that are written one after the other in another form.
use mathlib.Core.Path.{◌≡◌, refl, sym, ap, ap₂, ◌∙◌}
use mathlib.Core.List.{List, [], ◌∷◌, ◌++◌}
use Prim.Native.Nat.{ℕ, zero, suc, ◌+◌, ◌-◌, ◌*◌, ◌≤◌, ◌<◌}
use native.Mathlib.Omega.{arith}
use native.Mathlib.Nat.{zero-mul, suc-mul, add_comm, mul-le-mul_left}
use lib.ListN.{length, take, drop, length-append, length-drop}
use lib.Seq.{drop-drop, length-take-le, take-take, take_all}
use Rattle.automata.specs.Answer.{◌>>=◌, ok, beside}
use Rattle.automata.specs.Records.{write_all}
use Rattle.automata.specs.Format.{Format, read_copies}
use Rattle.automata.specs.Sequence.{read_first, read_many, read_all}
use Rattle.automata.proofs.AnswerFacts.{bind_ok, beside-ok}
use Rattle.automata.proofs.SequenceFacts.{first-ok}
use Rattle.table.specs.Region.{splice}
use Rattle.table.proofs.RegionFacts.{splice-none, splice_append}
use Rattle.text_lines.proofs.LineFacts.{drop_take}
use Rattle.text_store.specs.Recode.{recoded}

-- of n parts of one width the part i, and those from it on, fit
pub part_within : (w i n : ℕ) → i < n → w * i + w ≤ n * w
part_within w i n h = let k : suc i ≤ n = omega arith in omega (arith, mul-le-mul_left w k)

pub parts_from : (w i n : ℕ) → i ≤ n → w * i + (n - i) * w ≡ n * w
parts_from w i n h = let e : n - i + i ≡ n = omega arith in omega (arith, ap (λ (k : ℕ). k * w) e)

module _ (recode : List ℕ → List ℕ) (w sz : ℕ) (sized : (y : List ℕ) → length y ≡ w → length (recode y) ≡ sz) where
  -- the length of n parts in their other form
  pub length_recoded : (n : ℕ) (x : List ℕ) → n * w ≤ length x → length (recoded recode w n x) ≡ n * sz
  unfolding recoded
  length_recoded zero x h = sym (zero-mul sz)
  length_recoded (suc n) x h =
      let k : n * w + w ≤ length x = rw suc-mul at h in
      let e : length (take w x) ≡ w = length-take-le w x (omega arith) in
      let l : n * w ≤ length (drop w x) = rw (length-drop w x) (omega arith) in
      length-append (recode (take w x)) (recoded recode w n (drop w x))
      ∙ rw (sized (take w x) e, length_recoded n (drop w x) l) (add_comm sz (n * sz) ∙ sym (suc-mul n sz))

  -- a turn of a loop: one part is written, and writing the rest behind it writes all
  pub recode_turn : (x out us : List ℕ) (at to left : ℕ) → 0 < left → at + left * w ≤ length x → to + left * sz ≤ length out
      → us ≡ splice to (recode (take (at + w - at) (drop at x))) out
      → splice (to + sz) (recoded recode w (left - 1) (drop (at + w) x)) us ≡ splice to (recoded recode w left (drop at x)) out
  unfolding recoded
  recode_turn x out us at to zero p h k e = absurd (omega arith)
  recode_turn x out us at to (suc n) p h k e =
      let s : suc n - 1 ≡ n = omega arith in
      let o : at + w - at ≡ w = omega arith in
      let hw : at + (n * w + w) ≤ length x = rw (← suc-mul n w) h in
      let ho : to + (n * sz + sz) ≤ length out = rw (← suc-mul n sz) k in
      let l : length (recode (take w (drop at x))) ≡ sz = sized (take w (drop at x)) (length-take-le w (drop at x) (rw (length-drop at x) (omega arith))) in
      let m : length (recoded recode w n (drop (at + w) x)) ≡ n * sz = length_recoded n (drop (at + w) x) (rw (length-drop (at + w) x) (omega arith)) in
      rw (s, e, o)
      (ap (λ (j : ℕ). splice (to + j) (recoded recode w n (drop (at + w) x)) (splice to (recode (take w (drop at x))) out)) (sym l)
      ∙ splice_append to (recode (take w (drop at x))) (recoded recode w n (drop (at + w) x)) out (omega arith)
      ∙ ap (λ (z : List ℕ). splice to (recode (take w (drop at x)) ++ recoded recode w n z) out) (sym (drop-drop w at x)))

-- the end of the loop
pub recode_done : (recode : List ℕ → List ℕ) (w : ℕ) (x out : List ℕ) (to left : ℕ) → left ≡ 0 → splice to (recoded recode w left x) out ≡ out
unfolding recoded
recode_done recode w x out to left e = rw e (splice-none to out)

-- what is left of a list from a place on
pub from_place : (s : ℕ) (x : List ℕ) → take (length x - s) (drop s x) ≡ drop s x
from_place s x = take_all (length x - s) (drop s x) (rw (length-drop s x) (omega arith))

-- what stands past the parts does not matter
pub recoded_take : (recode : List ℕ → List ℕ) (w n : ℕ) (x : List ℕ) → recoded recode w n (take (n * w) x) ≡ recoded recode w n x
unfolding recoded
recoded_take recode w zero x = refl
recoded_take recode w (suc n) x =
    let e : suc n * w ≡ w + n * w = suc-mul n w ∙ add_comm (n * w) w in
    rw (e, take-take w (w + n * w) x (omega arith), drop_take w (n * w) x, recoded_take recode w n (drop w x))

-- a format whose values are written by `write` is recoded so: of each part that is read
module _ {A : Type 0} (f : Format ℕ A) (write : A → List ℕ) (recode : List ℕ → List ℕ)
    (each : (y : List ℕ) (a : A) → length y ≡ f.width → f.read y ≡ ok a → recode y ≡ write a) where
  -- values one after the other
  pub recoded_many : (n : ℕ) (x : List ℕ) (p : List A × List ℕ) → read_many f n x ≡ ok p → recoded recode f.width n x ≡ write_all write p.0
  unfolding recoded
  recoded_many zero x p r = let q : ([], x) ≡ p = cc in rw (← q)
  recoded_many (suc n) x p r =
      let s = bind_ok (read_first f x) (λ a. read_many f n a.1 >>= λ q. ok (a.0 ∷ q.0, q.1)) p r in
      let t = bind_ok (read_many f n s.0.1) (λ q. ok (s.0.0 ∷ q.0, q.1)) p s.2 in
      let q : (s.0.0 ∷ t.0.0, t.0.1) ≡ p = cc t.2 in
      let g = first-ok f x s.0 s.1 in
      let a : recode (take f.width x) ≡ write s.0.0 = each (take f.width x) s.0.0 (length-take-le f.width x g.0) g.1 in
      let b : recoded recode f.width n (drop f.width x) ≡ write_all write t.0.0 = ap (recoded recode f.width n) (sym g.2) ∙ recoded_many n s.0.1 t.0 t.1 in
      rw (← q) (ap₂ (λ (u v : List ℕ). u ++ v) a b)

  pub recoded-all : (n : ℕ) (x : List ℕ) (xs : List A) → read_all f n x ≡ ok xs → recoded recode f.width n x ≡ write_all write xs
  recoded-all n x xs r =
      let s = bind_ok (read_many f n x) (λ p. ok p.0) xs r in
      let e : s.0.0 ≡ xs = cc s.2 in
      recoded_many n x s.0 s.1 ∙ ap (write_all write) e

  -- values side by side
  pub recoded-copies : (n : ℕ) (x : List ℕ) (xs : List A) → n * f.width ≤ length x → read_copies f n x ≡ ok xs → recoded recode f.width n x ≡ write_all write xs
  unfolding recoded
  recoded-copies zero x xs h r = let q : [] ≡ xs = cc in rw (← q)
  recoded-copies (suc n) x xs h r =
      let w = f.width in
      let k : n * w + w ≤ length x = rw suc-mul at h in
      let s = bind_ok (beside (f.read (take w x)) (read_copies f n (drop w x))) (λ p. ok (p.0 ∷ p.1)) xs r in
      let t = beside-ok (f.read (take w x)) (read_copies f n (drop w x)) s.0 s.1 in
      let q : s.0.0 ∷ s.0.1 ≡ xs = cc s.2 in
      let a : recode (take w x) ≡ write s.0.0 = each (take w x) s.0.0 (length-take-le w x (omega arith)) t.0 in
      let b : recoded recode w n (drop w x) ≡ write_all write s.0.1 = recoded-copies n (drop w x) s.0.1 (rw (length-drop w x) (omega arith)) t.1 in
      rw (← q) (ap₂ (λ (u v : List ℕ). u ++ v) a b)
