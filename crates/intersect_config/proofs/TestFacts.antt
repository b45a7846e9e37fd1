-- Facts of the start, and of the lengths of a configuration's leftovers.
use Prim.Native.Nat.{ℕ, zero, suc, ◌+◌, ◌≤◌, ◌<◌}
use mathlib.Core.Path.{◌≡◌, refl, sym, ap, ap₂, ◌∙◌}
use mathlib.Core.Bool.{Bool, true, false, false≢true, beq}
use mathlib.Core.Option.{some}
use mathlib.Core.List.{List, [], ◌∷◌, map}
use native.Mathlib.Omega.{arith}
use native.Mathlib.Numerals.{add-one}
use lib.Dec.{ltb}
use lib.ListN.{length, get_or, get_elem?, take, drop, replicate, drop_of_length-le, length-take, length-map}
use lib.Seq.{drop-cons, get_or-take, length-take-le}
use borrow.Author.Tests.{lt-ltb, le-ltb}
use Rattle.automata.specs.Lists.{or, All}
use Rattle.automata.specs.TapePair.{TapePair}
use Rattle.automata.specs.Leftover as automata
use Rattle.automata.specs.Config.{too_long}
use Rattle.automata.proofs.RecordFacts.{All_at}
use Rattle.table.specs.declared.record.InputState.{InputState}
use Rattle.table.specs.declared.pair.Pair.{Pair}
use Rattle.table.specs.declared.pair.PairList.{PairList}
use Rattle.table.specs.Pairs.{pair_as, pairs_as, no_pair}
use Rattle.intersect_config.specs.declared.leftover.Leftover.{Leftover}
use Rattle.intersect_config.specs.Leftovers.{sided, leftover_as, blank, outside, Good, on_tape}
use Rattle.intersect_config.specs.Configs.{Config, config_as, GoodConfig, Starts, lengths_on}
use Rattle.intersect_config.proofs.StripFacts.{blank_good}
use Rattle.intersect_config.proofs.ListFacts.{drop_replicate, four_elements}

-- ---- the start
blank_as : leftover_as blank ≡ automata.nothing
unfolding blank
blank_as = refl

blanks_as : (ps : List TapePair) (n : ℕ) → length ps ≤ n → map leftover_as (take (length ps) (replicate n blank)) ≡ map (λ p. automata.nothing) ps
blanks_as [] n h = refl
blanks_as (p ∷ ps) zero h = absurd (omega arith)
blanks_as (p ∷ ps) (suc n) h = ap₂ (λ (m : automata.Leftover) (ms : List automata.Leftover). m ∷ ms) blank_as (blanks_as ps n (omega arith))

pub starts-blank : (q : InputState) (l : Leftover) → q.0 < 65536 → l ≡ blank → Starts q.0 (record { state = q; leftovers = l ∷ l ∷ l ∷ l ∷ [] })
starts-blank q l h e = rw e (record {
  meaning = λ ps k. (λ i. record { state = q.0; leftovers = blanks_as ps 4 k i });
  good = λ used. record { state_fits = h; four = refl; each = (blank_good, (blank_good, (blank_good, (blank_good, tt)))); blanks = drop_replicate 4 used blank };
})

-- ---- leftovers longer than the limits of their pairs

-- how many symbols a good leftover stands for
pub kept_length : (l : Leftover) → Good l → length (take l.len l.symbols) ≡ l.len
kept_length l g = length-take-le l.len l.symbols (omega (arith, g.all_symbols, g.len_fits))

or-none : (b : Bool) → or b false ≡ b
or-none true = refl
or-none false = refl

longer_is : (D : ℕ) (l : Leftover) → Good l → or (ltb D (length (leftover_as l).first)) (ltb D (length (leftover_as l).second)) ≡ ltb D l.len
longer_is D l g = go l.second
  where
    go : (b : Bool) → or (ltb D (length (sided b (take l.len l.symbols)).first)) (ltb D (length (sided b (take l.len l.symbols)).second)) ≡ ltb D l.len
    go false = rw (kept_length l g, le-ltb D 0 (omega arith)) (or-none (ltb D l.len))
    go true = rw (kept_length l g, le-ltb D 0 (omega arith))

-- some leftover from place i on is longer
unfoldable pub long_from : ℕ → List Pair → List Leftover → Bool
long_from i ps ls = too_long (map pair_as (drop i ps)) (map leftover_as (drop i ls))

module _ (ps : PairList) (c : Config) (g : GoodConfig ps.used c) (h : ps.used ≤ 4) where
  -- all of them
  pub long_all : long_from 0 (take ps.used ps.pairs) (take ps.used c.leftovers) ≡ too_long (pairs_as ps) (config_as ps.used c).leftovers
  unfolding long_from
  long_all = refl

  pub long_none : (i : ℕ) → ps.used ≤ i → long_from i (take ps.used ps.pairs) (take ps.used c.leftovers) ≡ false
  unfolding long_from
  long_none i k =
      let m : length (take ps.used ps.pairs) ≤ i = let e = length-take ps.used ps.pairs in omega (arith, e) in
      ap (λ (z : List Pair). too_long (map pair_as z) (map leftover_as (drop i (take ps.used c.leftovers)))) (drop_of_length-le (take ps.used ps.pairs) m)

  module _ (four : length ps.pairs ≡ 4) (i : ℕ) (k : i < ps.used) where
    abbrev p : Pair
    p = get_or ps.pairs i no_pair

    abbrev l : Leftover
    l = get_or c.leftovers i outside

    next_is : long_from i (take ps.used ps.pairs) (take ps.used c.leftovers)
        ≡ or (ltb p.limit l.len) (long_from (i + 1) (take ps.used ps.pairs) (take ps.used c.leftovers))
    unfolding long_from
    next_is =
        let m : i < length (take ps.used ps.pairs) = omega (arith, length-take-le ps.used ps.pairs (omega (arith, four))) in
        let n : i < length (take ps.used c.leftovers) = omega (arith, length-take-le ps.used c.leftovers (omega (arith, g.four))) in
        let x : drop i (take ps.used ps.pairs) ≡ p ∷ drop (i + 1) (take ps.used ps.pairs)
        = drop-cons (take ps.used ps.pairs) i no_pair m ∙ rw (get_or-take, add-one i) in
        let y : drop i (take ps.used c.leftovers) ≡ l ∷ drop (i + 1) (take ps.used c.leftovers)
        = drop-cons (take ps.used c.leftovers) i outside n ∙ rw (get_or-take, add-one i) in
        ap₂ (λ (z : List Pair) (w : List Leftover). too_long (map pair_as z) (map leftover_as w)) x y
        ∙ ap (λ b. or b (long_from (i + 1) (take ps.used ps.pairs) (take ps.used c.leftovers)))
        (longer_is p.limit l (All_at Good c.leftovers outside i g.each (omega (arith, g.four))))

    -- the next leftover is longer, or is not
    pub long_found : p.limit < l.len → long_from i (take ps.used ps.pairs) (take ps.used c.leftovers) ≡ true
    long_found m = next_is ∙ rw (lt-ltb p.limit l.len m)

    pub long_next : l.len ≤ p.limit
        → long_from i (take ps.used ps.pairs) (take ps.used c.leftovers) ≡ long_from (i + 1) (take ps.used ps.pairs) (take ps.used c.leftovers)
    long_next m = next_is ∙ rw (le-ltb p.limit l.len m)

-- ---- the lengths of the leftovers

-- the length on one tape, by whether that tape is ahead
pub length_ahead : (b : Bool) (l : Leftover) → Good l → beq l.second b ≡ true → l.len ≡ length (on_tape b (leftover_as l))
length_ahead b l g e = go b l.second e
  where
    go : (b t : Bool) → beq t b ≡ true → l.len ≡ length (on_tape b (sided t (take l.len l.symbols)))
    go true true e = sym (kept_length l g)
    go true false e = absurd (false≢true e)
    go false true e = absurd (false≢true e)
    go false false e = sym (kept_length l g)

pub length_behind : (b : Bool) (l : Leftover) → beq l.second b ≡ false → 0 ≡ length (on_tape b (leftover_as l))
length_behind b l e = go b l.second e
  where
    go : (b t : Bool) → beq t b ≡ false → 0 ≡ length (on_tape b (sided t (take l.len l.symbols)))
    go true true e = absurd (false≢true (sym e))
    go true false e = refl
    go false true e = refl
    go false false e = absurd (false≢true (sym e))

pub good_at : (i : ℕ) (c : Config) → (length c.leftovers ≡ 4) × All Good c.leftovers → i < 4 → Good (get_or c.leftovers i outside)
good_at i c g h = All_at Good c.leftovers outside i g.1 (omega (arith, g.0))

-- the lengths of four
pub four_lengths : (b : Bool) (c : Config) (n0 n1 n2 n3 : ℕ) → length c.leftovers ≡ 4
    → n0 ≡ length (on_tape b (leftover_as (get_or c.leftovers 0 outside))) → n1 ≡ length (on_tape b (leftover_as (get_or c.leftovers 1 outside)))
    → n2 ≡ length (on_tape b (leftover_as (get_or c.leftovers 2 outside))) → n3 ≡ length (on_tape b (leftover_as (get_or c.leftovers 3 outside)))
    → n0 ∷ n1 ∷ n2 ∷ n3 ∷ [] ≡ lengths_on b c
four_lengths b c n0 n1 n2 n3 h e f g k =
    rw (e, f, g, k) (sym (ap (λ (ls : List Leftover). map (λ l. length (on_tape b l)) (map leftover_as (take 4 ls))) (four_elements outside c.leftovers h)))

-- each of the first so many lengths is that of the definitions' leftover
lengths_in : (b : Bool) (n used h : ℕ) (ls : List Leftover) (m : automata.Leftover) → used ≤ n → get_elem? (map leftover_as (take used ls)) h ≡ some m
    → get_or (map (λ l. length (on_tape b l)) (map leftover_as (take n ls))) h 0 ≡ length (on_tape b m)
lengths_in b n zero h ls m k e = let z : ◌≡◌ {A = ℕ} 0 1 = cc in absurd (omega arith)
lengths_in b n (suc used) h [] m k e = let z : ◌≡◌ {A = ℕ} 0 1 = cc in absurd (omega arith)
lengths_in b zero (suc used) h (l ∷ ls) m k e = absurd (omega arith)
lengths_in b (suc n) (suc used) zero (l ∷ ls) m k e = let q : leftover_as l ≡ m = cc in ap (λ (x : automata.Leftover). length (on_tape b x)) q
lengths_in b (suc n) (suc used) (suc h) (l ∷ ls) m k e = lengths_in b n used h ls m (omega arith) e

-- there are as many leftovers as pairs
pub length_leftovers : (used : ℕ) (c : Config) → GoodConfig used c → used ≤ 4 → length (config_as used c).leftovers ≡ used
length_leftovers used c g h = length-map (take used c.leftovers) leftover_as ∙ length-take-le used c.leftovers (omega (arith, g.four))

pub length_of : (b : Bool) (used h : ℕ) (c : Config) (m : automata.Leftover) → used ≤ 4 → get_elem? (config_as used c).leftovers h ≡ some m
    → get_or (lengths_on b c) h 0 ≡ length (on_tape b m)
length_of b used h c m k e = lengths_in b 4 used h c.leftovers m k e
