-- Rows of configurations.
use Prim.Native.Nat.{ℕ, suc, ◌+◌, ◌*◌, ◌≤◌}
use mathlib.Core.Path.{◌≡◌, refl, sym, ap, ◌∙◌}
use mathlib.Core.Bool.{Bool, true, false, cond}
use mathlib.Core.List.{List, [], ◌∷◌, ◌++◌, map}
use native.Mathlib.Omega.{arith}
use lib.Dec.{eqb}
use mir.Val.{bool_byte}
use lib.ListN.{length, get_or, set, take, drop, length-take, length-map}
use Rattle.automata.specs.Lists.{and}
use Rattle.automata.specs.Layout.{config_size, state_size, final_place}
use Rattle.table.specs.Region.{part, splice, rows}
use Rattle.table.specs.Endian.{le}
use Rattle.table.proofs.RegionFacts.{get_d_part, part-part, one_store, splice_append, splice-none, splice_front}
use Rattle.table.proofs.RowFacts.{length_rows}
use Rattle.intersect_edges.specs.Marked.{bit, is_mark}
use Rattle.intersect_trim.specs.Rows.{row_state, row_plain, final_byte, Within}

-- a front of so many elements is there
pub front_fits : (k : ℕ) (xs ys : List ℕ) → take k xs ≡ ys → length ys ≡ k → k ≤ length xs
front_fits k xs ys e h = let l = length-take k xs in let m = ap length e in omega arith

-- the row at a place, by its bytes: no leftover, or one of four
pub plain_is : (at : ℕ) (w : List ℕ) → row_plain (part at config_size w)
    ≡ cond (eqb (get_or w (at + 3) 0) 0) (cond (eqb (get_or w (at + 77) 0) 0) (cond (eqb (get_or w (at + 151) 0) 0) (eqb (get_or w (at + 225) 0) 0) false) false) false
unfolding row_plain
plain_is at w =
    rw (get_d_part at config_size w 3 0 (omega arith), get_d_part at config_size w 77 0 (omega arith), get_d_part at config_size w 151 0 (omega arith), get_d_part at config_size w 225 0 (omega arith))
    (go (eqb (get_or w (at + 3) 0) 0) (eqb (get_or w (at + 77) 0) 0) (eqb (get_or w (at + 151) 0) 0) (eqb (get_or w (at + 225) 0) 0))
  where
    go : (a b c d : Bool) → and a (and b (and c (and d true))) ≡ cond a (cond b (cond c d false) false) false
    go true true true true = refl
    go true true true false = refl
    go true true false d = refl
    go true false c d = refl
    go false b c d = refl

-- its input state
pub row_state_lem : (at q : ℕ) (w : List ℕ) → q ≡ le (part at 2 w) → state_size * q ≡ state_size * row_state (part at config_size w)
unfolding row_state
row_state_lem at q w e =
    let z : at + 0 ≡ at = omega arith in
    ap (λ (k : ℕ). state_size * k) (e ∙ ap le (ap (λ (k : ℕ). part k 2 w) (sym z) ∙ sym (part-part 0 2 at config_size w (omega arith))))

-- ---- the mark of a row

-- a test as a byte is a mark
pub byte_bit : (b : Bool) → bool_byte b ≡ bit b
byte_bit true = refl
byte_bit false = refl

pub byte_small : (b : Bool) → bool_byte b ≤ 1
byte_small true = omega arith
byte_small false = omega arith

pub mark_leftover : (states row : List ℕ) → false ≡ row_plain row → 0 ≡ final_byte states row
unfolding final_byte
mark_leftover states row e = rw (← e)

pub mark_plain : (states row : List ℕ) (place : ℕ) → true ≡ row_plain row → place ≡ state_size * row_state row
    → bit (is_mark (get_or states (place + final_place) 0)) ≡ final_byte states row
unfolding final_byte
mark_plain states row place e g = rw (← e, g)

-- ---- one row after the other

-- the first row, and the others
pub within_turn : (n at left rest : ℕ) (w : List ℕ) → left ≡ suc rest → Within n (rows at config_size left w)
    → (state_size * row_state (part at config_size w) + state_size ≤ n) × Within n (rows (at + config_size) config_size rest w)
unfolding Within rows
within_turn n at left rest w s h = rw s at h

pub finals_turn : (at k left rest b : ℕ) (states w ms : List ℕ) → left ≡ suc rest → k + left ≤ length ms → b ≡ final_byte states (part at config_size w)
    → splice (k + 1) (map (final_byte states) (rows (at + config_size) config_size rest w)) (set ms k b) ≡ splice k (map (final_byte states) (rows at config_size left w)) ms
unfolding rows
finals_turn at k left rest b states w ms s l e =
    let f = map (final_byte states) (rows (at + config_size) config_size rest w) in
    let n : length f ≡ rest = length-map (rows (at + config_size) config_size rest w) (final_byte states) ∙ length_rows (at + config_size) config_size rest w in
    rw s (ap (splice (k + 1) f) (one_store k b ms (omega arith)) ∙ splice_append k (b ∷ []) f ms (omega arith) ∙ ap (λ (x : ℕ). splice k (x ∷ f) ms) e)

pub finals_end : (at k left count : ℕ) (states w ms ms0 : List ℕ) → left ≡ 0
    → splice k (map (final_byte states) (rows at config_size left w)) ms ≡ splice 0 (map (final_byte states) (rows 0 config_size count w)) ms0
    → ms ≡ map (final_byte states) (rows 0 config_size count w) ++ drop count ms0
unfolding rows
finals_end at k left count states w ms ms0 s e =
    let f = map (final_byte states) (rows 0 config_size count w) in
    let n : length f ≡ count = length-map (rows 0 config_size count w) (final_byte states) ∙ length_rows 0 config_size count w in
    sym (splice-none k ms) ∙ (rw s at e) ∙ splice_front f ms0 ∙ ap (λ (j : ℕ). f ++ drop j ms0) n
