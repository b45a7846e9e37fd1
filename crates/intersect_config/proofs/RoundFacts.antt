-- The record of a configuration determines it, and so does what the configuration stands for.
use Prim.Native.Nat.{ℕ, ◌+◌, ◌-◌, ◌≤◌, ◌<◌}
use mathlib.Core.Path.{◌≡◌, refl, sym, ap, ap₂, ◌∙◌}
use mathlib.Core.Bool.{Bool, true, false}
use mathlib.Core.List.{List, [], ◌∷◌, ◌++◌, map, append_assoc, append-nil}
use native.Mathlib.Omega.{arith}
use native.Mathlib.Nat.{add-zero, add_assoc}
use lib.Dec.{eqb}
use lib.ListN.{length, get_or, take, drop, replicate, length-append, take-append-drop}
use lib.Seq.{get_or-append-add}
use Rattle.automata.specs.Lists.{All}
use Rattle.table.specs.Region.{part}
use Rattle.table.specs.Endian.{le, to_le}
use Rattle.table.proofs.RegionFacts.{part-part, get_d_part, part_front, part_middle, part_append_right}
use Rattle.table.proofs.EndianFacts.{le-to_le}
use Rattle.intersect_config.specs.declared.leftover.Leftover.{Leftover}
use Rattle.intersect_config.specs.Leftovers.{flag, sided, leftover_as, blank, outside, Good, leftover_bytes, leftover_at, packed, leftover_of, leftover_room, leftover_size}
use Rattle.intersect_config.specs.Configs.{Config, config_as, GoodConfig, config_bytes, config_at, row_size, slot}
use Rattle.intersect_config.proofs.ListFacts.{four_elements, All_take}
use Rattle.intersect_config.proofs.TestFacts.{good_at, kept_length}

-- ---- a leftover in a record
flag_back : (b : Bool) → eqb (flag b) 1 ≡ b
flag_back true = refl
flag_back false = refl

leftover_back : (k : ℕ) (xs ys : List ℕ) (l : Leftover) → length xs ≡ k → Good l → leftover_at k (xs ++ (leftover_bytes l ++ ys)) ≡ l
unfolding leftover_at leftover_bytes
leftover_back k xs ys l e g =
    let b : List ℕ = flag l.second ∷ (l.len ∷ (l.symbols ++ ys)) in
    let p : eqb (get_or (xs ++ b) k 0) 1 ≡ l.second = ap (λ (n : ℕ). eqb (get_or (xs ++ b) n 0) 1) (sym e ∙ sym (add-zero (length xs))) ∙ ap (λ (n : ℕ). eqb n 1) (get_or-append-add xs b 0 0) ∙ flag_back l.second in
    let q : get_or (xs ++ b) (k + 1) 0 ≡ l.len = ap (λ (n : ℕ). get_or (xs ++ b) (n + 1) 0) (sym e) ∙ get_or-append-add xs b 1 0 in
    let r : part (k + 2) leftover_room (xs ++ b) ≡ l.symbols =
    ap (λ (n : ℕ). part (n + 2) leftover_room (xs ++ b)) (sym e) ∙ part_append_right 2 leftover_room xs b ∙ part_middle 2 leftover_room (flag l.second ∷ l.len ∷ []) l.symbols ys refl g.all_symbols in
    λ i. record { second = p i; len = q i; symbols = r i }

pub leftover_length : (l : Leftover) → Good l → length (leftover_bytes l) ≡ leftover_size
unfolding leftover_bytes
leftover_length l g = omega (arith, g.all_symbols)

-- ---- a configuration in its record
module _ (used : ℕ) (c : Config) (g : GoodConfig used c) where
  each_good : (i : ℕ) → i < 4 → Good (get_or c.leftovers i outside)
  each_good i h = good_at i c (g.four, g.each) h

  pub length_config : length (config_bytes c) ≡ row_size
  unfolding config_bytes
  length_config =
      simp length-append
      (omega (arith, leftover_length _ (each_good 0 (omega arith)), leftover_length _ (each_good 1 (omega arith)), leftover_length _ (each_good 2 (omega arith)), leftover_length _ (each_good 3 (omega arith))))

  -- the record alone
  pub config_back : config_at 0 (config_bytes c) ≡ c
  unfolding config_at config_bytes
  config_back =
      let z0 : List ℕ = to_le 2 c.state.0 in
      let l1 : Leftover = get_or c.leftovers 0 outside in
      let l2 : Leftover = get_or c.leftovers 1 outside in
      let l3 : Leftover = get_or c.leftovers 2 outside in
      let l4 : Leftover = get_or c.leftovers 3 outside in
      let z1 : List ℕ = leftover_bytes l1 in
      let z2 : List ℕ = leftover_bytes l2 in
      let z3 : List ℕ = leftover_bytes l3 in
      let z4 : List ℕ = leftover_bytes l4 in
      let g1 : Good l1 = each_good 0 (omega arith) in
      let g2 : Good l2 = each_good 1 (omega arith) in
      let g3 : Good l3 = each_good 2 (omega arith) in
      let g4 : Good l4 = each_good 3 (omega arith) in
      let m1 : length z1 ≡ leftover_size = leftover_length l1 g1 in
      let m2 : length z2 ≡ leftover_size = leftover_length l2 g2 in
      let m3 : length z3 ≡ leftover_size = leftover_length l3 g3 in
      let n1 : length (z0 ++ z1) ≡ slot 1 = simp length-append (omega (arith, m1)) in
      let n2 : length ((z0 ++ z1) ++ z2) ≡ slot 2 = simp length-append (omega (arith, m1, m2)) in
      let n3 : length (((z0 ++ z1) ++ z2) ++ z3) ≡ slot 3 = simp length-append (omega (arith, m1, m2, m3)) in
      let whole : List ℕ = z0 ++ (z1 ++ (z2 ++ (z3 ++ z4))) in
      let s : le (part 0 2 whole) ≡ c.state.0 = ap le (part_front 2 z0 (z1 ++ (z2 ++ (z3 ++ z4))) refl) ∙ le-to_le 2 c.state.0 g.state_fits in
      let a1 : leftover_at 2 whole ≡ l1 = leftover_back 2 z0 (z2 ++ (z3 ++ z4)) l1 refl g1 in
      let e2 : whole ≡ (z0 ++ z1) ++ (z2 ++ (z3 ++ z4)) = sym (append_assoc z0 z1 (z2 ++ (z3 ++ z4))) in
      let e3 : whole ≡ ((z0 ++ z1) ++ z2) ++ (z3 ++ z4) = e2 ∙ sym (append_assoc (z0 ++ z1) z2 (z3 ++ z4)) in
      let e4 : whole ≡ (((z0 ++ z1) ++ z2) ++ z3) ++ (z4 ++ []) =
      e3 ∙ sym (append_assoc ((z0 ++ z1) ++ z2) z3 z4) ∙ ap (λ (x : List ℕ). (((z0 ++ z1) ++ z2) ++ z3) ++ x) (sym (append-nil z4)) in
      let a2 : leftover_at (slot 1) whole ≡ l2 = ap (leftover_at (slot 1)) e2 ∙ leftover_back (slot 1) (z0 ++ z1) (z3 ++ z4) l2 n1 g2 in
      let a3 : leftover_at (slot 2) whole ≡ l3 = ap (leftover_at (slot 2)) e3 ∙ leftover_back (slot 2) ((z0 ++ z1) ++ z2) z4 l3 n2 g3 in
      let a4 : leftover_at (slot 3) whole ≡ l4 = ap (leftover_at (slot 3)) e4 ∙ leftover_back (slot 3) (((z0 ++ z1) ++ z2) ++ z3) [] l4 n3 g4 in
      let ls : leftover_at 2 whole ∷ leftover_at (slot 1) whole ∷ leftover_at (slot 2) whole ∷ leftover_at (slot 3) whole ∷ [] ≡ c.leftovers =
      (λ i. a1 i ∷ a2 i ∷ a3 i ∷ a4 i ∷ []) ∙ sym (four_elements outside c.leftovers g.four) in
      λ i. record { state = record { 0 = s i }; leftovers = ls i }

-- what stands in a record is what its bytes alone say
leftover_in : (at k : ℕ) (xs : List ℕ) → k + leftover_size ≤ row_size → leftover_at (at + k) xs ≡ leftover_at k (part at row_size xs)
unfolding leftover_at
leftover_in at k xs h =
    let p : get_or (part at row_size xs) k 0 ≡ get_or xs (at + k) 0 = get_d_part at row_size xs k 0 (omega arith) in
    let q : get_or (part at row_size xs) (k + 1) 0 ≡ get_or xs (at + k + 1) 0 = get_d_part at row_size xs (k + 1) 0 (omega arith) ∙ ap (λ (n : ℕ). get_or xs n 0) (sym (add_assoc at k 1)) in
    let r : part (k + 2) leftover_room (part at row_size xs) ≡ part (at + k + 2) leftover_room xs = part-part (k + 2) leftover_room at row_size xs (omega arith) ∙ ap (λ (n : ℕ). part n leftover_room xs) (sym (add_assoc at k 2)) in
    sym (λ i. record { second = eqb (p i) 1; len = q i; symbols = r i })

pub config_row : (at : ℕ) (xs : List ℕ) → config_at at xs ≡ config_at 0 (part at row_size xs)
unfolding config_at
config_row at xs =
    let s : le (part at 2 xs) ≡ le (part 0 2 (part at row_size xs)) = ap le (sym (part-part 0 2 at row_size xs (omega arith) ∙ ap (λ (n : ℕ). part n 2 xs) (add-zero at))) in
    let a = leftover_in at 2 xs (omega arith) in
    let b = leftover_in at (slot 1) xs (omega arith) in
    let c = leftover_in at (slot 2) xs (omega arith) in
    let d = leftover_in at (slot 3) xs (omega arith) in
    λ i. record { state = record { 0 = s i }; leftovers = a i ∷ b i ∷ c i ∷ d i ∷ [] }

-- a configuration is loaded from where its bytes stand
pub load_row : (used at : ℕ) (c : Config) (w : List ℕ) → GoodConfig used c → part at row_size w ≡ config_bytes c → config_at at w ≡ c
load_row used at c w g e = config_row at w ∙ ap (config_at 0) e ∙ config_back used c g

-- ---- a good configuration is determined by what it stands for

-- the one form of a leftover
packed_is : (b : Bool) (r : List ℕ) (l : Leftover) → Good l → l.second ≡ b → take l.len l.symbols ≡ r → packed b r ≡ l
unfolding packed blank
packed_is b [] l g e f =
    let n : l.len ≡ 0 = sym (kept_length l g) ∙ ap length f in
    let s : l.second ≡ false = g.first_side n in
    let z : l.symbols ≡ replicate leftover_room 0 = ap (λ (k : ℕ). drop k l.symbols) (sym n) ∙ g.zeros ∙ ap (λ (k : ℕ). replicate (leftover_room - k) 0) n in
    sym (λ i. record { second = s i; len = n i; symbols = z i })
packed_is b (x ∷ r) l g e f =
    let n : length (x ∷ r) ≡ l.len = sym (ap length f) ∙ kept_length l g in
    let z : (x ∷ r) ++ replicate (leftover_room - length (x ∷ r)) 0 ≡ l.symbols =
    ap₂ (λ (y : List ℕ) (k : ℕ). y ++ replicate (leftover_room - k) 0) (sym f) n ∙ ap (λ (y : List ℕ). take l.len l.symbols ++ y) (sym g.zeros) ∙ take-append-drop l.len l.symbols in
    λ i. record { second = sym e i; len = n i; symbols = z i }

sided-packed : (b : Bool) (r : List ℕ) → leftover_of (sided b r) ≡ packed b r
unfolding leftover_of packed
sided-packed true r = refl
sided-packed false [] = refl
sided-packed false (x ∷ r) = refl

leftover_form : (l : Leftover) → Good l → leftover_of (leftover_as l) ≡ l
leftover_form l g = sided-packed l.second (take l.len l.symbols) ∙ packed_is l.second (take l.len l.symbols) l g refl refl

leftovers_form : (ls : List Leftover) → All Good ls → map leftover_of (map leftover_as ls) ≡ ls
leftovers_form [] g = refl
leftovers_form (l ∷ ls) g = ap₂ (λ (x : Leftover) (xs : List Leftover). x ∷ xs) (leftover_form l g.0) (leftovers_form ls g.1)

module _ (used : ℕ) (c d : Config) (g : GoodConfig used c) (h : GoodConfig used d) where
  pub all_leftovers : (e : Config) → GoodConfig used e → map leftover_of (config_as used e).leftovers ++ replicate (4 - used) blank ≡ e.leftovers
  all_leftovers e k =
      ap₂ (λ (x y : List Leftover). x ++ y) (leftovers_form (take used e.leftovers) (All_take Good used e.leftovers k.each)) (sym k.blanks)
      ∙ take-append-drop used e.leftovers

  pub same_bytes : config_bytes c ≡ config_bytes d → c ≡ d
  same_bytes e = sym (config_back used c g) ∙ ap (config_at 0) e ∙ config_back used d h
