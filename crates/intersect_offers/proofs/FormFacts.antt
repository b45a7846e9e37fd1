-- Configurations and their rows: a configuration in its one form comes back, rows tell configurations apart, and which
-- ones may be stored.
use Prim.Native.Nat.{ℕ, zero, suc, ◌-◌, ◌≤◌, ◌<◌}
use mathlib.Core.Path.{◌≡◌, sym, ap, ◌∙◌, subst}
use mathlib.Core.Bool.{Bool, true, false}
use mathlib.Core.List.{List, [], ◌∷◌, ◌++◌, map}
use native.Mathlib.Omega.{arith}
use lib.Dec.{ltb, leb}
use lib.ListN.{length, get_or, take, replicate, length-map}
use lib.Seq.{get_or-take, length-take-le}
use borrow.Author.Tests.{leb-true}
use Rattle.automata.specs.Lists.{All, or}
use Rattle.automata.specs.Limits.{max_delay}
use Rattle.automata.specs.TapePair.{TapePair, limits_fit}
use Rattle.automata.specs.Config as automata
use Rattle.automata.proofs.TestFacts
use Rattle.automata.proofs.Configurations.{configs_decided}
use Rattle.intersect_config.specs.declared.leftover.Leftover.{Leftover}
use Rattle.intersect_config.specs.Leftovers.{sided, leftover_as, leftover_of, blank, outside, Good}
use Rattle.intersect_config.specs.Configs.{Config, config_as, GoodConfig}
use Rattle.intersect_config.proofs.ListFacts.{All_take}
use Rattle.intersect_config.proofs.TestFacts.{kept_length}
use Rattle.intersect_config.proofs.RoundFacts.{all_leftovers, same_bytes}
use Rattle.search_rows.specs.Inserted.{Tells}
use Rattle.search_rows.proofs.CodeFacts.{codes_tell}
use Rattle.intersect_offers.specs.Held.{config_of, row_of, Stored}

-- ---- by value and back

-- A configuration in its one form is the one by value of what it stands for.
pub form_back : (used : ℕ) (d : Config) → used ≤ 4 → GoodConfig used d → config_of (config_as used d) ≡ d
form_back used d h g =
    let n : length (config_as used d).leftovers ≡ used = length-map (take used d.leftovers) leftover_as ∙ length-take-le used d.leftovers (omega (arith, g.four)) in
    let ls : (config_of (config_as used d)).leftovers ≡ d.leftovers =
    ap (λ (k : ℕ). map leftover_of (config_as used d).leftovers ++ replicate (4 - k) blank) n ∙ all_leftovers used d d g g d g in
    λ i. record { state = d.state; leftovers = ls i }

-- it may be stored where its state and its leftovers are within bounds
pub stored_form : (used n : ℕ) (d : Config) → used ≤ 4 → GoodConfig used d → d.state.0 < n
    → ((h : ℕ) → h < used → (get_or d.leftovers h outside).len ≤ max_delay) → Stored used n (config_as used d)
stored_form used n d h g s k =
    let e : config_of (config_as used d) ≡ d = form_back used d h g in
    record {
      state_fits = s;
      form = subst (GoodConfig used) (sym e) g;
      meaning = ap (config_as used) e;
      short = subst (λ (x : Config). (i : ℕ) → i < used → (get_or x.leftovers i outside).len ≤ max_delay) (sym e) k;
    }

-- ---- rows

-- rows with the same bytes are those of the same configuration
row_injective : (used n : ℕ) (c d : automata.Config) → Stored used n c → Stored used n d → row_of c ≡ row_of d → c ≡ d
unfolding row_of
row_injective used n c d s t e =
    sym s.meaning ∙ ap (config_as used) (same_bytes used (config_of c) (config_of d) s.form t.form e) ∙ t.meaning

-- so they tell one that may be stored from all that are
pub rows_tell : (used n : ℕ) (c : automata.Config) (cs : List automata.Config) → Stored used n c → All (Stored used n) cs → Tells row_of automata.same_config c cs
rows_tell used n c cs s t = codes_tell row_of automata.same_config configs_decided (Stored used n) (row_injective used n) c cs s t

-- ---- the limits

-- a leftover that is not longer than the limit on either tape
one-short : (D : ℕ) (l : Leftover) → Good l → or (ltb D (length (leftover_as l).first)) (ltb D (length (leftover_as l).second)) ≡ false → l.len ≤ D
one-short D l g t = go l.second t
  where
    r : List ℕ
    r = take l.len l.symbols

    go : (b : Bool) → or (ltb D (length (sided b r).first)) (ltb D (length (sided b r).second)) ≡ false → l.len ≤ D
    go true t = let k : length r ≤ D = TestFacts.ltb_false (TestFacts.or_false (ltb D 0) (ltb D (length r)) t).1 in omega (arith, kept_length l g)
    go false t = let k : length r ≤ D = TestFacts.ltb_false (TestFacts.or_false (ltb D (length r)) (ltb D 0) t).0 in omega (arith, kept_length l g)

-- all of several, none longer than the limit of its pair
each_short : (ps : List TapePair) (ls : List Leftover) → All Good ls → length ps ≡ length ls → limits_fit ps ≡ true → automata.too_long ps (map leftover_as ls) ≡ false
    → (h : ℕ) → h < length ls → (get_or ls h outside).len ≤ max_delay
each_short [] [] g e f t h b = absurd (omega arith)
each_short [] (l ∷ ls) g e f t h b = absurd (omega arith)
each_short (p ∷ ps) [] g e f t h b = absurd (omega arith)
each_short (p ∷ ps) (l ∷ ls) g e f t zero b =
    let k = one-short p.limit l g.0
    (TestFacts.or_false (or (ltb p.limit (length (leftover_as l).first)) (ltb p.limit (length (leftover_as l).second))) (automata.too_long ps (map leftover_as ls)) t).0 in
    let m : p.limit ≤ max_delay = leb-true p.limit max_delay (TestFacts.and_true (leb p.limit max_delay) (limits_fit ps) f).0 in
    omega (arith, k, m)
each_short (p ∷ ps) (l ∷ ls) g e f t (suc h) b = each_short ps ls g.1 (omega arith) (TestFacts.and_true (leb p.limit max_delay) (limits_fit ps) f).1
    (TestFacts.or_false (or (ltb p.limit (length (leftover_as l).first)) (ltb p.limit (length (leftover_as l).second))) (automata.too_long ps (map leftover_as ls)) t).1 h (omega arith)

-- A configuration of which no leftover is too long.
pub not_long : (used : ℕ) (ps : List TapePair) (d : Config) → used ≤ 4 → GoodConfig used d → length ps ≡ used → limits_fit ps ≡ true
    → automata.too_long ps (config_as used d).leftovers ≡ false → (h : ℕ) → h < used → (get_or d.leftovers h outside).len ≤ max_delay
not_long used ps d k g e f t h b =
    let n : length (take used d.leftovers) ≡ used = length-take-le used d.leftovers (omega (arith, g.four)) in
    let q : get_or (take used d.leftovers) h outside ≡ get_or d.leftovers h outside = get_or-take used d.leftovers h outside b in
    rw (← q) (each_short ps (take used d.leftovers) (All_take Good used d.leftovers g.each) (e ∙ sym n) f t h (omega arith))
