-- Facts of the step by an arc: pair after pair, from the labels in the arc's record.
use Prim.Native.Nat.{ℕ, zero, suc, ◌+◌, ◌-◌, ◌≤◌, ◌<◌}
use mathlib.Core.Path.{◌≡◌, refl, sym, ap, ap₂, subst₂, ◌∙◌}
use mathlib.Core.Bool.{true, false}
use mathlib.Core.Option
use mathlib.Core.Option.{Option, none, some}
use mathlib.Core.List.{List, [], ◌∷◌, ◌++◌, map, append_assoc, append-nil}
use native.Mathlib.Omega.{arith}
use native.Mathlib.Numerals.{add-one}
use lib.ListN.{length, get_or, set, take, drop, replicate, drop_of_length-le, length-set}
use lib.Seq.{set-get_or, drop-cons, get_or-take, length-take-le, take-suc-set, drop-set-lt, drop-drop}
use Rattle.automata.specs.Lists.{All, cons_both}
use Rattle.automata.specs.Automaton.{Arc, label_on}
use Rattle.automata.specs.TapePair.{reading}
use Rattle.automata.specs.Leftover as automata
use Rattle.automata.specs.Config.{advance_all}
use Rattle.automata.proofs.ListFacts.{map_append}
use Rattle.table.specs.Region.{part}
use Rattle.table.specs.Arcs.{target_at, label_place}
use Rattle.table.specs.Pairs.{pair_as, no_pair, Within}
use Rattle.table.proofs.PairFacts.{length_front, named-all}
use Rattle.table.specs.declared.pair.Pair.{Pair}
use Rattle.table.specs.declared.pair.PairList.{PairList}
use Rattle.table.specs.declared.record.Label.{Label}
use Rattle.intersect_config.specs.declared.leftover.Leftover.{Leftover}
use Rattle.intersect_config.specs.Leftovers.{Advanced, leftover_as, label_of, blank, outside, Good, Advances}
use Rattle.intersect_config.specs.Configs.{Config, GoodConfig, Starts}
use Rattle.intersect_config.specs.Steps.{label_at, read_to, read_label, pair_after, Reads, Followable, Follows}
use Rattle.intersect_config.proofs.ListFacts.{drop_replicate, All_set}

-- ---- the labels in a record
pub label_loaded : (at tape : ℕ) (xs y : List ℕ) (k n : ℕ) → k ≡ label_place at (tape - 1) → n ≡ get_or xs (label_place at (tape - 1)) 0 → y ≡ part (k + 1) 8 xs
    → ◌≡◌ {A = Label} (record { len = n; symbols = y }) (label_at at tape xs)
unfolding label_at
label_loaded at tape xs y k n d f e = rw (f, e, d)

pub label_length : (at tape : ℕ) (xs : List ℕ) (l : Label) → l ≡ label_at at tape xs → get_or xs (label_place at (tape - 1)) 0 ≤ 8 → l.len ≤ 8
unfolding label_at
label_length at tape xs l e h = rw e h

-- ---- labels as they are compared

-- none yet
pub read_start : (xs : List ℕ) → xs ≡ read_to 0 xs
unfolding read_to
read_start xs = refl

-- one byte more
pub read_turn : (xs : List ℕ) (i c : ℕ) → i < length xs → c ≡ reading (get_or (read_to i xs) i 0) → set (read_to i xs) i c ≡ read_to (i + 1) xs
unfolding read_to
read_turn xs i c h e = rw (add-one i, e) (go xs i h)
  where
    go : (xs : List ℕ) (i : ℕ) → i < length xs → set (read_to i xs) i (reading (get_or (read_to i xs) i 0)) ≡ read_to (suc i) xs
    go [] i h = absurd (omega arith)
    go (x ∷ xs) zero h = refl
    go (x ∷ xs) (suc i) h = ap {B = List ℕ} (λ z. reading x ∷ z) (go xs i (omega arith))

-- and where it is read as it is written, nothing changes
pub read_kept : (xs : List ℕ) (i : ℕ) → i < length xs → reading (get_or (read_to i xs) i 0) ≡ get_or (read_to i xs) i 0 → read_to i xs ≡ read_to (i + 1) xs
read_kept xs i h e = sym (set-get_or (read_to i xs) i 0) ∙ read_turn xs i (get_or (read_to i xs) i 0) h (sym e)

-- all symbols: the label is
pub label_is_read : (x : Label) (i : ℕ) (symbols : List ℕ) → i ≤ x.len → x.len ≤ i → symbols ≡ read_to i x.symbols
    → ◌≡◌ {A = Label} (record { len = x.len; symbols = symbols }) (read_label x)
unfolding read_label
label_is_read x i symbols h k e =
    let n : i ≡ x.len = omega arith in
    ap (λ z. record { len = x.len; symbols = z }) (e ∙ ap (λ j. read_to j x.symbols) n)

-- the string of a label that is read
take_read : (n : ℕ) (x : List ℕ) → take n (read_to n x) ≡ map reading (take n x)
unfolding read_to
take_read zero x = refl
take_read (suc n) [] = refl
take_read (suc n) (c ∷ x) = ap {B = List ℕ} (λ z. reading c ∷ z) (take_read n x)

pub read_length : (x : Label) (y : Label) → y ≡ read_label x → x.len ≤ 8 → y.len ≤ 8
unfolding read_label
read_length x y e h = rw e h

pub pair_advances : (at : ℕ) (arcs : List ℕ) (p : Pair) (l : Leftover) (x y x' y' : Label) (r : Advanced) → x ≡ label_at at p.first arcs → y ≡ label_at at p.second arcs
    → x' ≡ read_label x → y' ≡ read_label y
    → Advances (automata.advance (leftover_as l) (label_of x') (label_of y')) r → Advances (pair_after at arcs p l) r
unfolding read_label
pair_advances at arcs p l x y x' y' r e f e' f' t =
    subst₂ (λ a b. Advances (automata.advance (leftover_as l) a b) r)
    (ap label_of e' ∙ take_read x.len x.symbols ∙ ap (λ z. map reading (label_of z)) e)
    (ap label_of f' ∙ take_read y.len y.symbols ∙ ap (λ z. map reading (label_of z)) f) t

module _ (arcs : List ℕ) (at tapes : ℕ) (a : Arc ℕ) (r : Reads arcs at tapes a) where
  -- the label that is compared is the one in the record
  label_read : (tape : ℕ) → 1 ≤ tape → tape ≤ tapes → map reading (label_on (tape - 1) a) ≡ map reading (label_of (label_at at tape arcs))
  unfolding label_at
  label_read tape h k = ap (map reading) (r.label (tape - 1) (omega arith))

-- ---- the pairs one after the other
module _ (at : ℕ) (arcs : List ℕ) where
  -- what is left of all pairs, by their labels in the record
  unfoldable pub all_after : List Pair → List Leftover → Option (List automata.Leftover)
  all_after [] [] = some []
  all_after [] (l ∷ ls) = none
  all_after (p ∷ ps) [] = none
  all_after (p ∷ ps) (l ∷ ls) = cons_both (pair_after at arcs p l) (all_after ps ls)

  -- it is what the definitions leave
  all_after_lem : (tapes : ℕ) (a : Arc ℕ) → Reads arcs at tapes a → (ps : List Pair) (ls : List Leftover) → All (Within tapes) ps
      → advance_all (map pair_as ps) (map leftover_as ls) a ≡ all_after ps ls
  unfolding all_after
  all_after_lem tapes a r [] [] n = refl
  all_after_lem tapes a r [] (l ∷ ls) n = refl
  all_after_lem tapes a r (p ∷ ps) [] n = refl
  all_after_lem tapes a r (p ∷ ps) (l ∷ ls) n =
      let w = n.0 in
      ap₂ cons_both
      (ap₂ (automata.advance (leftover_as l)) (label_read arcs at tapes a r p.first w.first_from w.first_to) (label_read arcs at tapes a r p.second w.second_from w.second_to))
      (all_after_lem tapes a r ps ls n.1)

-- leftovers in front of those that are still to come
abbrev pub before : List automata.Leftover → Option (List automata.Leftover) → Option (List automata.Leftover)
before xs o = Option.map (λ ys. xs ++ ys) o

before_nil : (o : Option (List automata.Leftover)) → before [] o ≡ o
before_nil none = refl
before_nil (some ys) = refl

before_cons : (xs : List automata.Leftover) (m : automata.Leftover) (o : Option (List automata.Leftover)) → before xs (cons_both (some m) o) ≡ before (xs ++ (m ∷ [])) o
before_cons xs m none = refl
before_cons xs m (some ys) = ap some (sym (append_assoc xs (m ∷ []) ys))

-- no pair is still to come
ended : (at : ℕ) (arcs : List ℕ) (xs : List automata.Leftover) (ps : List Pair) (ls : List Leftover) → ps ≡ [] → ls ≡ [] → before xs (all_after at arcs ps ls) ≡ some xs
unfolding all_after
ended at arcs xs ps ls e f = rw (e, f) (ap some (append-nil xs))

-- ---- the loop over the pairs

-- what is left of the pairs from the i-th on
abbrev pub still : List ℕ → ℕ → Config → PairList → ℕ → Option (List automata.Leftover)
still arcs at c ps i = all_after at arcs (drop i (take ps.used ps.pairs)) (drop i (take ps.used c.leftovers))

pub record Progress (arcs : List ℕ) (at : ℕ) (c : Config) (ps : PairList) (next : Config) (i : ℕ) : Type 0 where
  pub within : i ≤ ps.used
  pub good : GoodConfig i next
  pub target : next.state.0 ≡ target_at at arcs
  pub rest : before (map leftover_as (take i next.leftovers)) (still arcs at c ps i)
      ≡ all_after at arcs (take ps.used ps.pairs) (take ps.used c.leftovers)

-- one leftover more
good_next : (c : Config) (i : ℕ) (l : Leftover) → i < 4 → GoodConfig i c → Good l → GoodConfig (i + 1) (record { state = c.state; leftovers = set c.leftovers i l })
good_next c i l h g k =
    let m : 4 - i - 1 ≡ 4 - (i + 1) = omega arith in
    record {
      state_fits = g.state_fits;
      four = length-set c.leftovers i l ∙ g.four;
      each = All_set Good c.leftovers i l g.each k;
      blanks =
          drop-set-lt (i + 1) c.leftovers i l (omega arith)
          ∙ sym (drop-drop 1 i c.leftovers) ∙ ap (drop 1) g.blanks ∙ drop_replicate (4 - i) 1 blank ∙ ap (λ (n : ℕ). replicate n blank) m;
    }

module _ (arcs : List ℕ) (at : ℕ) (c : Config) (ps : PairList) (f : Followable c arcs at ps) where
  pub progress_start : (q : ℕ) (next : Config) → q ≡ target_at at arcs → Starts q next → Progress arcs at c ps next 0
  progress_start q next e s = record { within = omega arith; good = s.good 0; target = ap (λ d. d.state) (s.meaning [] (omega arith)) ∙ e; rest = before_nil _ }

  module _ (next : Config) (i : ℕ) (r : Progress arcs at c ps next i) (h : i < ps.used) where
    -- what is left of the next pair
    abbrev pub next_left : Option automata.Leftover
    next_left = pair_after at arcs (get_or ps.pairs i no_pair) (get_or c.leftovers i outside)

    -- it stands in front of the others
    next-pair : still arcs at c ps i ≡ cons_both next_left (still arcs at c ps (i + 1))
    unfolding all_after
    next-pair =
        let m : i < length (take ps.used ps.pairs) = omega (arith, length_front 8 ps f.named) in
        let n : i < length (take ps.used c.leftovers) = omega (arith, length-take-le ps.used c.leftovers (omega (arith, f.named.used_fit, f.good.four))) in
        let p : drop i (take ps.used ps.pairs) ≡ get_or ps.pairs i no_pair ∷ drop (i + 1) (take ps.used ps.pairs) =
        drop-cons (take ps.used ps.pairs) i no_pair m ∙ rw (get_or-take, add-one i) in
        let q : drop i (take ps.used c.leftovers) ≡ get_or c.leftovers i outside ∷ drop (i + 1) (take ps.used c.leftovers) =
        drop-cons (take ps.used c.leftovers) i outside n ∙ rw (get_or-take, add-one i) in
        ap₂ (all_after at arcs) p q

    -- a pair that is not compatible
    stopped : next_left ≡ none → all_after at arcs (take ps.used ps.pairs) (take ps.used c.leftovers) ≡ none
    stopped z =
        let k : still arcs at c ps i ≡ none = next-pair ∙ ap (λ (o : Option automata.Leftover). cons_both o (still arcs at c ps (i + 1))) z in
        sym r.rest ∙ ap (before (map leftover_as (take i next.leftovers))) k

    -- a pair that is
    pub progress-next : (l : Leftover) → next_left ≡ some (leftover_as l) → Good l → (d : Config) → d ≡ record { state = next.state; leftovers = set next.leftovers i l }
        → Progress arcs at c ps d (i + 1)
    progress-next l z g d k = rw k (record {
      within = omega arith;
      good = good_next next i l (omega (arith, f.named.used_fit)) r.good g;
      target = r.target;
      rest =
          let n : i < length next.leftovers = omega (arith, r.good.four, f.named.used_fit) in
          let q : map leftover_as (take (i + 1) (set next.leftovers i l)) ≡ map leftover_as (take i next.leftovers) ++ (leftover_as l ∷ []) =
          ap (map leftover_as) (ap (λ (j : ℕ). take j (set next.leftovers i l)) (add-one i) ∙ take-suc-set next.leftovers i l n)
          ∙ map_append leftover_as (take i next.leftovers) (l ∷ []) in
          ap (λ (xs : List automata.Leftover). before xs (still arcs at c ps (i + 1))) q
          ∙ sym (before_cons (map leftover_as (take i next.leftovers)) (leftover_as l) (still arcs at c ps (i + 1)))
          ∙ ap (before (map leftover_as (take i next.leftovers))) (ap (λ (o : Option automata.Leftover). cons_both o (still arcs at c ps (i + 1))) (sym z) ∙ sym next-pair)
          ∙ r.rest;
    })

    pub follows_none : next_left ≡ none → (d : Config) → GoodConfig ps.used d → Follows c arcs at ps (record { compatible = false; config = d })
    follows_none e d s = record {
      meaning = λ tapes a n w.
          sym (ap (Option.map (λ ls. record { state = a.target; leftovers = ls }))
          (all_after_lem at arcs tapes a w (take ps.used ps.pairs) (take ps.used c.leftovers) (named-all tapes ps n) ∙ stopped e));
      good = s;
    }

  pub follows_some : (next : Config) (i : ℕ) → Progress arcs at c ps next i → ps.used ≤ i → Follows c arcs at ps (record { compatible = true; config = next })
  follows_some next i r h =
      let e : ps.used ≡ i = omega (arith, r.within) in
      record {
        meaning = λ tapes a n w.
            let m : length (take ps.used ps.pairs) ≤ i = omega (arith, length_front 8 ps f.named) in
            let k : length (take ps.used c.leftovers) ≤ i = omega (arith, length-take-le ps.used c.leftovers (omega (arith, f.named.used_fit, f.good.four))) in
            let p : a.target ≡ next.state.0 = w.target ∙ sym r.target in
            let all : all_after at arcs (take ps.used ps.pairs) (take ps.used c.leftovers) ≡ some (map leftover_as (take ps.used next.leftovers)) =
            sym r.rest ∙ ended at arcs (map leftover_as (take i next.leftovers)) _ _ (drop_of_length-le (take ps.used ps.pairs) m) (drop_of_length-le (take ps.used c.leftovers) k) ∙ rw e in
            sym (ap (Option.map (λ ls. record { state = a.target; leftovers = ls }))
            (all_after_lem at arcs tapes a w (take ps.used ps.pairs) (take ps.used c.leftovers) (named-all tapes ps n) ∙ all)
            ∙ (λ j. some (record { state = p j; leftovers = map leftover_as (take ps.used next.leftovers) })));
        good = rw e r.good;
      }
