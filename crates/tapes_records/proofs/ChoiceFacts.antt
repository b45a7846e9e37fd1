-- The tapes that a set leaves.
use Prim.Native.Nat.{ℕ, zero, suc, ◌+◌, ◌≤◌, ◌<◌}
use mathlib.Core.Path.{◌≡◌, refl, sym, ap, ap₂, ◌∙◌}
use mathlib.Core.Bool.{Bool, true, false}
use mathlib.Core.List.{List, [], ◌∷◌, ◌++◌}
use native.Mathlib.Omega.{arith}
use native.Mathlib.Numerals.{add-one}
use lib.ListN.{length, set, length-append}
use Rattle.automata.specs.Lists.{if}
use Rattle.table.specs.Region.{splice}
use Rattle.table.proofs.RegionFacts.{splice-none, splice_append, one_store}
use Rattle.tapes_records.specs.Choice.{tape_left, tapes_left}

-- at most one for each place
pub left_few : (d : ℕ → Bool) (k n : ℕ) → length (tapes_left d k n) ≤ n
left_few d k zero = omega arith
left_few d k (suc n) = go (d k) (left_few d (suc k) n)
  where
    go : (b : Bool) → length (tapes_left d (suc k) n) ≤ n → length (if b (tapes_left d (suc k) n) (suc k ∷ tapes_left d (suc k) n)) ≤ suc n
    go true h = omega arith
    go false h = omega arith

-- ---- one place

-- a place that is in the set
pub place_skipped : (b : Bool) (k used : ℕ) (out : List ℕ) → b ≡ true
    → (out ≡ splice used (tape_left b k) out) × (used ≡ used + length (tape_left b k)) × (used ≤ used + 1)
place_skipped b k used out e = rw e (sym (splice-none used out), omega arith, omega arith)

-- one that is not
pub place_kept : (b : Bool) (k used : ℕ) (out : List ℕ) → b ≡ false → used < length out
    → (set out used (k + 1) ≡ splice used (tape_left b k) out) × (used + 1 ≡ used + length (tape_left b k)) × (used + 1 ≤ used + 1)
place_kept b k used out e h = rw e (ap (set out used) (add-one k) ∙ one_store used (suc k) out h, omega arith, omega arith)

-- ---- the places in a loop

-- the first of several, and the others
left_cons : (d : ℕ → Bool) (k n : ℕ) → tapes_left d k (suc n) ≡ tape_left (d k) k ++ tapes_left d (k + 1) n
left_cons d k n = rw (add-one k) (go (d k))
  where
    go : (b : Bool) → if b (tapes_left d (suc k) n) (suc k ∷ tapes_left d (suc k) n) ≡ tape_left b k ++ tapes_left d (suc k) n
    go true = refl
    go false = refl

-- a turn: the tape at one place written if it is left, the others give the whole
pub left_turn : (d : ℕ → Bool) (k left rest used used2 : ℕ) (out out2 : List ℕ) → left ≡ suc rest → used + left ≤ length out
    → out2 ≡ splice used (tape_left (d k) k) out → used2 ≡ used + length (tape_left (d k) k)
    → (splice used2 (tapes_left d (k + 1) rest) out2 ≡ splice used (tapes_left d k left) out)
    × (used2 + length (tapes_left d (k + 1) rest) ≡ used + length (tapes_left d k left))
left_turn d k left rest used used2 out out2 s h e f =
    let y = tape_left (d k) k in
    let z = tapes_left d (k + 1) rest in
    let c : tapes_left d k left ≡ y ++ z = ap (tapes_left d k) s ∙ left_cons d k rest in
    let l : length (tapes_left d k left) ≡ length y + length z = ap length c ∙ length-append y z in
    let m = left_few d k left in (
      ap₂ (λ (j : ℕ) (o : List ℕ). splice j z o) f e ∙ splice_append used y z out (omega (arith, l, m, h)) ∙ ap (λ (x : List ℕ). splice used x out) (sym c),
      omega (arith, f, l),
    )

-- no place is left
pub left_end : (d : ℕ → Bool) (k left used n : ℕ) (out old : List ℕ) → left ≡ 0
    → splice used (tapes_left d k left) out ≡ splice 0 (tapes_left d 0 n) old → used + length (tapes_left d k left) ≡ length (tapes_left d 0 n)
    → (out ≡ splice 0 (tapes_left d 0 n) old) × (used ≡ length (tapes_left d 0 n))
left_end d k left used n out old e f g =
    let z : tapes_left d k left ≡ [] = rw e in
    (sym (splice-none used out) ∙ ap (λ (x : List ℕ). splice used x out) (sym z) ∙ f, omega (arith, g, ap length z))
