-- Records of configurations that agree in what counts of their parts are the same.
use Prim.Native.Nat.{ℕ, zero, suc, ◌+◌, ◌-◌, ◌*◌, ◌≤◌, ◌<◌}
use mathlib.Core.Path.{◌≡◌, sym, ap, ◌∙◌, subst}
use mathlib.Core.List.{List}
use native.Mathlib.Decide.{dec_lt}
use native.Mathlib.Omega.{arith}
use Rattle.automata.specs.Lists.{All}
use lib.Dec.{eqb}
use lib.ListN.{length, get_or, get_or-replicate}
use lib.Seq.{ext_get_or, get_or-drop}
use Rattle.table.specs.Region.{part}
use Rattle.table.specs.Endian.{le}
use Rattle.table.proofs.RegionFacts.{length_part, get_d_part}
use Rattle.search_chains.specs.Parts.{part_start, part_size, Shaped}
use Rattle.intersect_config.specs.declared.leftover.Leftover.{Leftover}
use Rattle.intersect_config.specs.Leftovers.{blank, outside, Good, leftover_at, leftover_room, leftover_size}
use Rattle.intersect_config.specs.Configs.{Config, GoodConfig, config_bytes, config_at, slot, Row, row_size}
use Rattle.intersect_config.proofs.RoundFacts.{length_config, config_back}
use Rattle.intersect_config.proofs.RowFacts.{leftover_in_slot, len_in_slot, good_in_slot, length_row}
use Rattle.intersect_head.specs.Searching.{shape_of}

-- every part of a record has room in it
pub row_shaped : (used : ℕ) (row : List ℕ) → Row used row → used ≤ 4 → Shaped (shape_of used) row
row_shaped used row r b zero h = omega (arith, length_row used row r)
row_shaped used row r b (suc p) h =
    let s : 2 + leftover_size * p + 1 ≡ 3 + leftover_size * p = omega arith in
    let l : Good (leftover_at (slot p) row) = good_in_slot p row r.good.each (omega (arith, h, b)) in
    let n : get_or row (2 + leftover_size * p + 1) 0 ≤ leftover_room = rw (ap (λ (k : ℕ). get_or row k 0) s ∙ len_in_slot p row (omega (arith, h, b)) ∙ ap (λ (z : Leftover). z.len) (leftover_in_slot p row (omega (arith, h, b)))) l.len_fits in
    omega (arith, n, h, b, length_row used row r)

-- the bytes of a configuration in its one form are its record
pub config_row_of : (used : ℕ) (d : Config) → GoodConfig used d → Row used (config_bytes d)
config_row_of used d g = record { good = subst (GoodConfig used) (sym (config_back used d g)) g; bytes = ap config_bytes (config_back used d g) }

-- ---- two leftovers

-- a symbol past the length is zero
symbol_past : (l : Leftover) (j : ℕ) → Good l → l.len ≤ j → j < leftover_room → get_or l.symbols j 0 ≡ 0
symbol_past l j g h b =
    let z : l.len + (j - l.len) ≡ j = omega arith in
    ap (λ (k : ℕ). get_or l.symbols k 0) (sym z) ∙ sym (get_or-drop l.len l.symbols (j - l.len) 0)
    ∙ ap (λ (ys : List ℕ). get_or ys (j - l.len) 0) g.zeros ∙ get_or-replicate (leftover_room - l.len) (j - l.len) 0 0 (omega arith)

-- leftovers in their one form that agree in side, length and symbols
same_leftover_lem : (l m : Leftover) → Good l → Good m → l.second ≡ m.second → l.len ≡ m.len → ((j : ℕ) → j < m.len → get_or l.symbols j 0 ≡ get_or m.symbols j 0) → l ≡ m
same_leftover_lem l m g k s n f =
    let e : l.symbols ≡ m.symbols = ext_get_or 0 l.symbols m.symbols (g.all_symbols ∙ sym k.all_symbols) (λ j b. go j (omega (arith, b, g.all_symbols)) (dec_lt j m.len)) in
    λ i. record { second = s i; len = n i; symbols = e i }
  where
    go : (j : ℕ) → j < leftover_room → Dec (j < m.len) → get_or l.symbols j 0 ≡ get_or m.symbols j 0
    go j b (yes c) = f j c
    go j b (no c) = symbol_past l j g (omega (arith, n)) b ∙ sym (symbol_past m j k (omega arith) b)

-- ---- two configurations
module _ (used : ℕ) (c d : Config) (few : used ≤ 4) (g : GoodConfig used c) (k : GoodConfig used d)
    (f : (p : ℕ) → p < 1 + used → (i : ℕ) → part_start (shape_of used) p ≤ i → i < part_start (shape_of used) p + part_size (shape_of used) p (config_bytes d)
    → get_or (config_bytes c) i 0 ≡ get_or (config_bytes d) i 0) where
  abbrev xs : List ℕ
  xs = config_bytes c

  abbrev ys : List ℕ
  ys = config_bytes d

  back : config_at 0 xs ≡ c
  back = config_back used c g

  other : config_at 0 ys ≡ d
  other = config_back used d k

  -- the states
  same_state : le (part 0 2 xs) ≡ le (part 0 2 ys)
  same_state =
      let l : length xs ≡ row_size = length_config used c g in
      let m : length ys ≡ row_size = length_config used d k in
      let a : length (part 0 2 xs) ≡ 2 = length_part 0 2 xs (omega (arith, l)) in
      let b : length (part 0 2 ys) ≡ 2 = length_part 0 2 ys (omega (arith, m)) in
      ap le (ext_get_or 0 (part 0 2 xs) (part 0 2 ys) (a ∙ sym b)
      (λ i h. let n : i < 2 = omega (arith, h, a) in get_d_part 0 2 xs i 0 n ∙ f 0 (omega arith) (0 + i) (omega arith) (omega arith) ∙ sym (get_d_part 0 2 ys i 0 n)))

  module _ (p : ℕ) (h : p < used) where
    abbrev l : Leftover
    l = leftover_at (slot p) xs

    abbrev m : Leftover
    m = leftover_at (slot p) ys

    good_left : Good l
    good_left = good_in_slot p xs (subst (λ (z : Config). All Good z.leftovers) (sym back) g.each) (omega arith)

    good_right : Good m
    good_right = good_in_slot p ys (subst (λ (z : Config). All Good z.leftovers) (sym other) k.each) (omega arith)

    -- a byte of the part
    byte : (i : ℕ) → i < 2 + get_or ys (slot p + 1) 0 → get_or xs (slot p + i) 0 ≡ get_or ys (slot p + i) 0
    byte i b = f (suc p) (omega arith) (slot p + i) (omega arith) (omega (arith, b))

    same_slot : l ≡ m
    unfolding leftover_at
    same_slot =
        let z : slot p + 0 ≡ slot p = omega arith in
        let x : length xs ≡ row_size = length_config used c g in
        let y : length ys ≡ row_size = length_config used d k in
        same_leftover_lem l m good_left good_right
        (ap (λ (n : ℕ). eqb n 1) (ap (λ (n : ℕ). get_or xs n 0) (sym z) ∙ byte 0 (omega arith) ∙ ap (λ (n : ℕ). get_or ys n 0) z))
        (byte 1 (omega arith))
        (λ j b.
        let w : j < leftover_room = omega (arith, b, good_right.len_fits) in
        let e : slot p + 2 + j ≡ slot p + (2 + j) = omega arith in
        get_d_part (slot p + 2) leftover_room xs j 0 w ∙ ap (λ (n : ℕ). get_or xs n 0) e ∙ byte (2 + j) (omega (arith, b)) ∙ ap (λ (n : ℕ). get_or ys n 0) (sym e) ∙ sym (get_d_part (slot p + 2) leftover_room ys j 0 w))

  -- a leftover past the pairs
  past : (e : Config) → GoodConfig used e → (i : ℕ) → used ≤ i → i < 4 → get_or e.leftovers i outside ≡ blank
  past e q i h b =
      let z : used + (i - used) ≡ i = omega arith in
      ap (λ (n : ℕ). get_or e.leftovers n outside) (sym z) ∙ sym (get_or-drop used e.leftovers (i - used) outside)
      ∙ ap (λ (ls : List Leftover). get_or ls (i - used) outside) q.blanks ∙ get_or-replicate (4 - used) (i - used) blank outside (omega arith)

  -- the leftovers
  same_leftovers : c.leftovers ≡ d.leftovers
  same_leftovers = ext_get_or outside c.leftovers d.leftovers (g.four ∙ sym k.four) (λ i b. go i (omega (arith, b, g.four)) (dec_lt i used))
    where
      go : (i : ℕ) → i < 4 → Dec (i < used) → get_or c.leftovers i outside ≡ get_or d.leftovers i outside
      go i b (yes h) =
          ap (λ (z : Config). get_or z.leftovers i outside) (sym back) ∙ leftover_in_slot i xs b ∙ same_slot i h ∙ sym (leftover_in_slot i ys b)
          ∙ ap (λ (z : Config). get_or z.leftovers i outside) other
      go i b (no h) = past c g i (omega arith) b ∙ sym (past d k i (omega arith) b)

  -- so they are the same
  pub same_configs : c ≡ d
  unfolding config_at
  same_configs =
      let s : c.state.0 ≡ d.state.0 = ap (λ (z : Config). z.state.0) (sym back) ∙ same_state ∙ ap (λ (z : Config). z.state.0) other in
      λ i. record { state = record { 0 = s i }; leftovers = same_leftovers i }
