-- A row that begins with the record of a configuration by value holds the configuration that it stands for.
use Prim.Native.Nat.{ℕ, zero, suc, ◌+◌, ◌-◌, ◌*◌, ◌≤◌, ◌<◌}
use mathlib.Core.Path.{◌≡◌, refl, sym, ap, ◌∙◌}
use mathlib.Core.Bool.{Bool, true, false}
use mathlib.Core.Option.{some}
use mathlib.Core.List.{List, [], ◌∷◌, ◌++◌}
use native.Mathlib.Omega.{arith}
use lib.Dec.{eqb}
use lib.ListN.{length, get_or, get_elem?, take, get_or-replicate}
use lib.Seq.{get_or-take, get_or-drop, take_at}
use borrow.Author.Tests.{ne_eqb}
use Rattle.automata.specs.Leftover as automata
use Rattle.automata.proofs.ListFacts.{place_bound, place_default}
use Rattle.automata.proofs.Membership.{place_map⁻¹}
use Rattle.table.specs.Region.{part}
use Rattle.intersect_config.specs.declared.leftover.Leftover.{Leftover}
use Rattle.intersect_config.specs.Leftovers.{sided, leftover_as, blank, outside, Good, leftover_at, leftover_size}
use Rattle.intersect_config.specs.Configs.{Config, config_as, GoodConfig, config_bytes, config_at, row_size}
use Rattle.intersect_config.proofs.RoundFacts.{length_config, load_row}
use Rattle.intersect_config.proofs.TestFacts.{kept_length, good_at, length_leftovers}
use Rattle.intersect_trim.specs.Rows.{RowOf}

-- a leftover is none where it has no symbols
sided-none : (b : Bool) (r : List ℕ) → eqb (length r) 0 ≡ automata.same_leftover (sided b r) automata.nothing
sided-none false [] = refl
sided-none true [] = refl
sided-none false (x ∷ r) = ne_eqb (suc (length r)) 0 (λ e. absurd (omega arith))
sided-none true (x ∷ r) = ne_eqb (suc (length r)) 0 (λ e. absurd (omega arith))

leftover_none : (l : Leftover) → Good l → eqb l.len 0 ≡ automata.same_leftover (leftover_as l) automata.nothing
leftover_none l g = ap (λ (n : ℕ). eqb n 0) (sym (kept_length l g)) ∙ sided-none l.second (take l.len l.symbols)

module _ (used : ℕ) (d : Config) (few : used ≤ 4) (g : GoodConfig used d) (rest : List ℕ) where
  -- the row
  abbrev row : List ℕ
  row = config_bytes d ++ rest

  loaded : config_at 0 row ≡ d
  unfolding part
  loaded = load_row used 0 d row g (take_at (config_bytes d) rest row_size (length_config used d g))

  -- the length bytes of its leftovers
  len_at : (h : ℕ) → h < 4 → get_or row (3 + leftover_size * h) 0 ≡ (get_or d.leftovers h outside).len
  unfolding config_at leftover_at
  len_at zero i = ap (λ (c : Config). (get_or c.leftovers 0 outside).len) loaded
  len_at (suc zero) i = ap (λ (c : Config). (get_or c.leftovers 1 outside).len) loaded
  len_at (suc (suc zero)) i = ap (λ (c : Config). (get_or c.leftovers 2 outside).len) loaded
  len_at (suc (suc (suc zero))) i = ap (λ (c : Config). (get_or c.leftovers 3 outside).len) loaded
  len_at (suc (suc (suc (suc h)))) i = absurd (omega arith)

  many : length (config_as used d).leftovers ≡ used
  many = length_leftovers used d g few

  used_at : (h : ℕ) (l : automata.Leftover) → get_elem? (config_as used d).leftovers h ≡ some l
      → eqb (get_or row (3 + leftover_size * h) 0) 0 ≡ automata.same_leftover l automata.nothing
  used_at h l e =
      let (x, p, q) = place_map⁻¹ leftover_as (take used d.leftovers) h e in
      let b : h < used = omega (arith, place_bound (config_as used d).leftovers h e, many) in
      let y : get_or d.leftovers h outside ≡ x = sym (get_or-take used d.leftovers h outside b) ∙ place_default (take used d.leftovers) h outside p in
      ap (λ (n : ℕ). eqb n 0) (len_at h (omega arith)) ∙ leftover_none (get_or d.leftovers h outside) (good_at h d (g.four, g.each) (omega arith))
      ∙ ap (λ (z : Leftover). automata.same_leftover (leftover_as z) automata.nothing) y ∙ ap (λ (z : automata.Leftover). automata.same_leftover z automata.nothing) q

  unused_at : (h : ℕ) → h < 4 → length (config_as used d).leftovers ≤ h → get_or row (3 + leftover_size * h) 0 ≡ 0
  unfolding blank
  unused_at h i k =
      let b : used ≤ h = omega (arith, many) in
      let s : h ≡ used + (h - used) = omega arith in
      let e : get_or d.leftovers h outside ≡ blank =
      ap (λ (n : ℕ). get_or d.leftovers n outside) s ∙ sym (get_or-drop used d.leftovers (h - used) outside)
      ∙ ap (λ (ls : List Leftover). get_or ls (h - used) outside) g.blanks ∙ get_or-replicate (4 - used) (h - used) blank outside (omega arith) in
      len_at h i ∙ ap (λ (l : Leftover). l.len) e

  -- The row, whatever stands behind the record.
  pub row_of_lem : RowOf (config_as used d) (config_bytes d ++ rest)
  unfolding part config_bytes
  row_of_lem = record { state = refl; few = omega (arith, many); used = used_at; unused = unused_at }
