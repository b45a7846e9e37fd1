-- The states on successful paths, and those where cycles of both signs meet.
use Prim.Native.Nat.{ℕ, zero, suc, ◌+◌, ◌*◌, ◌<◌, ◌≤◌}
use mir.Val.{bool_byte}
use mathlib.Core.Path.{◌≡◌, refl, sym, ap, ◌∙◌}
use mathlib.Core.Bool.{Bool, true, false}
use mathlib.Core.List.{List}
use native.Mathlib.Omega.{arith}
use lib.ListN.{length, get_or}
use lib.Seq.{ext_get_or}
use Rattle.automata.specs.Lists.{if}
use Rattle.automata.specs.Trim.{rank}
use Rattle.automata.specs.Layout.{delays_size}
use Rattle.forecast_counts.specs.Counts.{on_path_at, marks_from, both_at, both_from}

-- ---- the marks of all states

-- there are as many as states
pub length_marks : (at n : ℕ) (w : List ℕ) → length (marks_from at n w) ≡ n
unfolding marks_from
length_marks at zero w = refl
length_marks at (suc n) w = ap suc (length_marks (at + delays_size) n w)

-- the mark of state q
pub marks_at : (at n : ℕ) (w : List ℕ) (q : ℕ) → q < n → get_or (marks_from at n w) q false ≡ on_path_at (at + delays_size * q) w
unfolding marks_from
marks_at at zero w q h = absurd (omega arith)
marks_at at (suc n) w zero h = ap (λ (k : ℕ). on_path_at k w) (omega arith)
marks_at at (suc n) w (suc q) h = marks_at (at + delays_size) n w q (omega arith) ∙ ap (λ (k : ℕ). on_path_at k w) (omega arith)

-- the same from the first place on
pub mark_of : (n : ℕ) (w : List ℕ) (q : ℕ) → q < n → get_or (marks_from 0 n w) q false ≡ on_path_at (delays_size * q) w
mark_of n w q h = marks_at 0 n w q h ∙ ap (λ (k : ℕ). on_path_at k w) (omega arith)

-- marks that are equal one by one
pub marks_are : (at n : ℕ) (w : List ℕ) (marks : List Bool) → length marks ≡ n → ((q : ℕ) → q < n → get_or marks q false ≡ on_path_at (at + delays_size * q) w)
    → marks_from at n w ≡ marks
marks_are at n w marks l f =
    ext_get_or false (marks_from at n w) marks (length_marks at n w ∙ sym l)
    (λ q h. let k : q < n = omega (arith, length_marks at n w) in marks_at at n w q k ∙ sym (f q k))

-- ---- the loops

-- a test as a number
pub test-le : (b : Bool) → bool_byte b ≤ 1
test-le true = omega arith
test-le false = omega arith

-- a turn counts one state more
pub path_turn : (at left rest found r : ℕ) (w : List ℕ) (on : Bool) → left ≡ suc rest → on ≡ on_path_at at w → r ≡ bool_byte on
    → (found + r) + rank (marks_from (at + delays_size) rest w) rest ≡ found + rank (marks_from at left w) left
unfolding marks_from rank
path_turn at left rest found r w on l e f = rw (l, ← e, f) (go on)
  where
    go : (b : Bool) → (found + bool_byte b) + rank (marks_from (at + delays_size) rest w) rest
        ≡ found + if b (suc (rank (marks_from (at + delays_size) rest w) rest)) (rank (marks_from (at + delays_size) rest w) rest)
    go true = omega arith
    go false = omega arith

-- at the end no state is left
pub path_end : (at left found : ℕ) (w : List ℕ) → left ≡ 0 → found ≡ found + rank (marks_from at left w) left
unfolding marks_from rank
path_end at left found w l = rw l (omega arith)

-- cycles of both signs meet at the first of the states left
pub both_found : (at left : ℕ) (w : List ℕ) (b : Bool) → 0 < left → b ≡ both_at at w → b ≡ true → true ≡ both_from at left w
unfolding both_from
both_found at zero w b l e f = absurd (omega arith)
both_found at (suc left) w b l e f = rw (← e, f)

-- they do not: on to the next state
pub both_turn : (at left rest : ℕ) (w : List ℕ) (b : Bool) → left ≡ suc rest → b ≡ both_at at w → b ≡ false → both_from (at + delays_size) rest w ≡ both_from at left w
unfolding both_from
both_turn at left rest w b l e f = rw (l, ← e, f)

-- no state is left
pub both_end : (at left : ℕ) (w : List ℕ) → left ≡ 0 → false ≡ both_from at left w
unfolding both_from
both_end at left w l = rw l
