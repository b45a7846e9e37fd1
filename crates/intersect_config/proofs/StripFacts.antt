-- Facts of `agrees` and `strip`, and of what an arc leaves of two tapes.
use Prim.Native.Nat.{ℕ, ◌+◌, ◌-◌, ◌≤◌, ◌<◌, min}
use mathlib.Core.Path.{◌≡◌, refl, sym, ap, ap₂, ◌∙◌}
use mathlib.Core.Bool.{Bool, true, false, not, false≢true}
use mathlib.Core.Option.{none, some, map}
use mathlib.Core.List.{List, [], ◌∷◌, ◌++◌}
use native.Mathlib.Omega.{arith}
use native.Mathlib.Numerals.{add-one}
use native.Mathlib.Nat.{zero-add}
use lib.Dec.{eqb}
use lib.ListN.{length, get_or, take, drop, replicate, length-drop, length-append, length-replicate, length-take}
use lib.Seq.{drop-cons, take_all, take_at, drop_at}
use borrow.Author.Tests.{eq-eqb, ne_eqb, eqb-true, eqb-false}
use Rattle.automata.specs.Lists.{if}
use Rattle.automata.specs.Leftover as automata
use Rattle.automata.specs.Limits.{max_delay}
use Rattle.table.specs.Region.{splice}
use Rattle.table.proofs.RegionFacts.{take_splice_in}
use Rattle.table.specs.declared.record.Label.{Label}
use Rattle.intersect_config.specs.declared.leftover.Leftover.{Leftover}
use Rattle.std.specs.Prelude.{Some, None}
use Rattle.intersect_config.specs.Leftovers.{Advanced, sided, leftover_as, label_of, blank, Good, packed, leftover_of, advanced_of, exchanged, turned, agrees, Advances, leftover_room}
use Rattle.intersect_config.proofs.ListFacts.{drop_replicate}

-- ---- one step of the comparison
module _ (i : ℕ) (u v : List ℕ) (h : i < length u) (k : i < length v) where
  pub agrees-step : get_or u i 0 ≡ get_or v i 0 → agrees (drop i u) (drop i v) ≡ agrees (drop (i + 1) u) (drop (i + 1) v)
  unfolding agrees
  agrees-step e = ap₂ agrees (drop-cons u i 0 h) (drop-cons v i 0 k) ∙ rw (eq-eqb _ _ e, add-one i)

  pub agrees_differ : (get_or u i 0 ≡ get_or v i 0 → ⊥) → agrees (drop i u) (drop i v) ≡ false
  unfolding agrees
  agrees_differ e = ap₂ agrees (drop-cons u i 0 h) (drop-cons v i 0 k) ∙ rw (ne_eqb _ _ e)

-- where one of them ends, they agree
agrees_short : (u v : List ℕ) → min (length u) (length v) ≡ 0 → agrees u v ≡ true
unfolding agrees
agrees_short [] v h = refl
agrees_short (x ∷ u) [] h = refl
agrees_short (x ∷ u) (y ∷ v) h = absurd (omega arith)

pub agrees_end : (i : ℕ) (u v : List ℕ) → min (length u) (length v) ≤ i → agrees (drop i u) (drop i v) ≡ true
agrees_end i u v h = agrees_short (drop i u) (drop i v) (simp length-drop (omega arith))

-- ---- what is left, by whether one starts with the other
strip-first : (u v : List ℕ) → agrees u v ≡ true → length v ≤ length u → automata.strip u v ≡ some (sided false (drop (length v) u))
unfolding agrees
strip-first [] [] e h = refl
strip-first [] (y ∷ v) e h = absurd (omega arith)
strip-first (x ∷ u) [] e h = refl
strip-first (x ∷ u) (y ∷ v) e h = go (eqb x y) e (λ f. strip-first u v f (omega arith))
  where
    go : (b : Bool) → if b (agrees u v) false ≡ true → (agrees u v ≡ true → automata.strip u v ≡ some (sided false (drop (length v) u)))
        → if b (automata.strip u v) none ≡ some (sided false (drop (length v) u))
    go true f ih = ih f
    go false f ih = absurd (false≢true f)

strip_second : (u v : List ℕ) → agrees u v ≡ true → length u ≤ length v → automata.strip u v ≡ some (sided true (drop (length u) v))
unfolding agrees
strip_second [] v e h = refl
strip_second (x ∷ u) [] e h = absurd (omega arith)
strip_second (x ∷ u) (y ∷ v) e h = go (eqb x y) e (λ f. strip_second u v f (omega arith))
  where
    go : (b : Bool) → if b (agrees u v) false ≡ true → (agrees u v ≡ true → automata.strip u v ≡ some (sided true (drop (length u) v)))
        → if b (automata.strip u v) none ≡ some (sided true (drop (length u) v))
    go true f ih = ih f
    go false f ih = absurd (false≢true f)

strip-none : (u v : List ℕ) → agrees u v ≡ false → automata.strip u v ≡ none
unfolding agrees
strip-none [] v e = absurd (false≢true (sym e))
strip-none (x ∷ u) [] e = absurd (false≢true (sym e))
strip-none (x ∷ u) (y ∷ v) e = go (eqb x y) e (λ f. strip-none u v f)
  where
    go : (b : Bool) → if b (agrees u v) false ≡ false → (agrees u v ≡ false → automata.strip u v ≡ none) → if b (automata.strip u v) none ≡ none
    go true f ih = ih f
    go false f ih = refl

-- the strings exchanged
eqb_swap : (x y : ℕ) → eqb x y ≡ eqb y x
eqb_swap x y = go (eqb x y) refl
  where
    go : (b : Bool) → eqb x y ≡ b → b ≡ eqb y x
    go true e = sym (eq-eqb y x (sym (eqb-true x y e)))
    go false e = sym (ne_eqb y x (λ q. eqb-false x y e (sym q)))

strip_swap : (u v : List ℕ) → map exchanged (automata.strip u v) ≡ automata.strip v u
strip_swap [] [] = refl
strip_swap [] (y ∷ v) = refl
strip_swap (x ∷ u) [] = refl
strip_swap (x ∷ u) (y ∷ v) = rw (eqb_swap y x) (go (eqb x y) (strip_swap u v))
  where
    go : (b : Bool) → map exchanged (automata.strip u v) ≡ automata.strip v u
        → map exchanged (if b (automata.strip u v) none) ≡ if b (automata.strip v u) none
    go true ih = ih
    go false ih = refl

-- ---- a string kept as a leftover
pub packed_none : (b : Bool) (r : List ℕ) → length r ≡ 0 → packed b r ≡ blank
unfolding packed
packed_none b [] h = refl
packed_none b (x ∷ r) h = absurd (omega arith)

pub packed_some : (b : Bool) (r s : List ℕ) → (length r ≡ 0 → ⊥) → s ≡ splice 0 r (replicate leftover_room 0) → packed b r ≡ record { second = b; len = length r; symbols = s }
unfolding packed splice
packed_some b [] s f e = absurd (f refl)
packed_some b (x ∷ r) s f e = rw (e, zero-add (length (x ∷ r)), drop_replicate {A = ℕ} leftover_room (length (x ∷ r)) 0)

-- it stands for the string, and is in its one form
pub blank_good : Good blank
unfolding blank
blank_good = record { all_symbols = refl; len_fits = omega arith; zeros = refl; first_side = λ e. refl }

pub packed_good : (b : Bool) (r : List ℕ) → length r ≤ leftover_room → Good (packed b r)
unfolding packed
packed_good b [] h = blank_good
packed_good b (x ∷ r) h = record {
  all_symbols = simp (length-append, length-replicate) (omega arith);
  len_fits = h;
  zeros = drop_at (x ∷ r) (replicate (leftover_room - length (x ∷ r)) 0) (length (x ∷ r)) refl;
  first_side = λ e. absurd (omega arith);
}

pub packed_as : (b : Bool) (r : List ℕ) → leftover_as (packed b r) ≡ sided b r
unfolding packed blank
packed_as true [] = refl
packed_as false [] = refl
packed_as b (x ∷ r) = ap (sided b) (take_at (x ∷ r) (replicate (leftover_room - length (x ∷ r)) 0) (length (x ∷ r)) refl)

-- ---- what is left of two tapes, by which string is the longer one
kept_first : (t : Bool) (r : List ℕ) → advanced_of (turned t (some (sided false r))) ≡ Some (packed t r)
unfolding advanced_of turned leftover_of packed
kept_first true r = refl
kept_first false [] = refl
kept_first false (x ∷ r) = refl

kept_second : (t : Bool) (r : List ℕ) → advanced_of (turned t (some (sided true r))) ≡ Some (packed (not t) r)
unfolding advanced_of turned leftover_of packed
kept_second false r = refl
kept_second true [] = refl
kept_second true (x ∷ r) = refl

none-turned : (t : Bool) → advanced_of (turned t none) ≡ None
unfolding advanced_of turned
none-turned true = refl
none-turned false = refl

module _ (t : Bool) (u v : List ℕ) where
  pub stripped_none : agrees u v ≡ false → None ≡ advanced_of (turned t (automata.strip u v))
  stripped_none e = rw (strip-none u v e, none-turned t)

  pub stripped_first : (l : Leftover) → agrees u v ≡ true → length v < length u → l ≡ packed t (take (length u - length v) (drop (length v) u))
      → Some l ≡ advanced_of (turned t (automata.strip u v))
  stripped_first l e h k =
      let a : take (length u - length v) (drop (length v) u) ≡ drop (length v) u = take_all (length u - length v) (drop (length v) u) (simp length-drop (omega arith)) in
      rw (k, a, strip-first u v e (omega arith), kept_first t (drop (length v) u))

  pub stripped_second : (l : Leftover) → agrees u v ≡ true → length u ≤ length v → l ≡ packed (not t) (take (length v - length u) (drop (length u) v))
      → Some l ≡ advanced_of (turned t (automata.strip u v))
  stripped_second l e h k =
      let a : take (length v - length u) (drop (length u) v) ≡ drop (length u) v = take_all (length v - length u) (drop (length u) v) (simp length-drop (omega arith)) in
      rw (k, a, strip_second u v e h, kept_second t (drop (length u) v))

-- ---- a label behind a leftover
pub joined_is : (n k : ℕ) (xs ys b : List ℕ) → n ≤ max_delay → k ≤ 8 → length xs ≡ leftover_room → length ys ≡ 8 → b ≡ splice n ys xs → take (n + k) b ≡ take n xs ++ take k ys
joined_is n k xs ys b hn hk lx ly f = ap (take (n + k)) f ∙ take_splice_in n k ys xs (omega arith) (omega arith)

-- ---- the answer for what is left
pub strip_advances : (u v : List ℕ) → length u ≤ leftover_room → length v ≤ leftover_room → Advances (automata.strip u v) (advanced_of (automata.strip u v))
unfolding advanced_of leftover_of
strip_advances [] v h k = (ap some (sym (packed_as true v)), packed_good true v k)
strip_advances (x ∷ u) [] h k = (ap some (sym (packed_as false (x ∷ u))), packed_good false (x ∷ u) h)
strip_advances (x ∷ u) (y ∷ v) h k = go (eqb x y) (strip_advances u v (omega arith) (omega arith))
  where
    go : (b : Bool) → Advances (automata.strip u v) (advanced_of (automata.strip u v)) → Advances (if b (automata.strip u v) none) (advanced_of (if b (automata.strip u v) none))
    go true ih = ih
    go false ih = refl

module _ (l : Leftover) (x y : Label) (j : List ℕ) (r : Advanced) (hl : l.len ≤ max_delay) (hx : x.len ≤ 8) (hy : y.len ≤ 8) where
  pub advance_second : l.second ≡ true → take (l.len + y.len) j ≡ take l.len l.symbols ++ label_of y
      → r ≡ advanced_of (turned true (automata.strip (take (l.len + y.len) j) (label_of x))) → Advances (automata.advance (leftover_as l) (label_of x) (label_of y)) r
  unfolding turned
  advance_second e f g =
      let q : length (take l.len l.symbols ++ label_of y) ≤ leftover_room = simp (length-append, length-take) (omega arith) in
      let p : length (label_of x) ≤ leftover_room = simp length-take (omega arith) in
      let s : r ≡ advanced_of (automata.strip (label_of x) (take l.len l.symbols ++ label_of y)) =
      g ∙ ap (λ (w : List ℕ). advanced_of (map exchanged (automata.strip w (label_of x)))) f ∙ ap advanced_of (strip_swap _ (label_of x)) in
      rw (e, s) (strip_advances (label_of x) (take l.len l.symbols ++ label_of y) p q)

  pub advance-first : l.second ≡ false → take (l.len + x.len) j ≡ take l.len l.symbols ++ label_of x
      → r ≡ advanced_of (turned false (automata.strip (take (l.len + x.len) j) (label_of y))) → Advances (automata.advance (leftover_as l) (label_of x) (label_of y)) r
  unfolding turned
  advance-first e f g =
      let q : length (take l.len l.symbols ++ label_of x) ≤ leftover_room = simp (length-append, length-take) (omega arith) in
      let p : length (label_of y) ≤ leftover_room = simp length-take (omega arith) in
      let s : r ≡ advanced_of (automata.strip (take l.len l.symbols ++ label_of x) (label_of y)) = g ∙ ap (λ (w : List ℕ). advanced_of (automata.strip w (label_of y))) f in
      rw (e, s) (strip_advances (take l.len l.symbols ++ label_of x) (label_of y) q p)
