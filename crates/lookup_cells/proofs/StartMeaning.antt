-- The cells with the final weights at the last combination of positions, and all others with the number for "none".
use mathlib.Core.Path.{◌≡◌, refl, sym, ap, subst, ◌∙◌}
use mathlib.Core.Bool.{true, false≢true}
use mathlib.Core.Option.{none, some, none-ne-some, some-injective}
use mathlib.Core.List.{List, [], ◌∷◌}
use Prim.Native.Nat.{ℕ, zero, suc, ◌+◌, ◌-◌, ◌*◌, ◌≤◌, ◌<◌}
use native.Mathlib.Nat.{suc-mul}
use native.Mathlib.Decide.{ℕ_discrete, dec_le}
use native.Mathlib.Omega.{arith}
use lib.ListN.{length, get_or, drop, replicate, length-drop, length-replicate, get_or-replicate, drop_of_length-le, get_or-eq_default}
use lib.Arith.{digits_lt}
use lib.Seq.{ext_get_or}
use Rattle.automata.specs.OrderedSum.{ℕ_sum}
use Rattle.automata.specs.Graph.{stop}
use Rattle.automata.specs.Automaton.{Automaton, size, final_of, Tuple}
use Rattle.automata.specs.Lookup.{all_empty}
use Rattle.automata.specs.Lists.{bind}
use Rattle.automata.specs.Calls.Work.{combinations}
use Rattle.automata.specs.Memory.{Sound, table_of}
use Rattle.automata.proofs.Finite.{digits-≡}
use Rattle.automata.proofs.SoundFacts.{sound_holds}
use Rattle.automata.proofs.Spelling.{Spells, all_empty_spells, spells_all_empty}
use Rattle.automata.proofs.LookupRuns.{Onward, onward_of}
use Rattle.automata.specs.Cells.{Positions, drop_all, place, cell}
use Rattle.automata.proofs.Cells.{moved, place_lt, cell_lt, left_quotients_drop}
use Rattle.automata.specs.Layout.{state_size}
use Rattle.table.specs.Region.{part}
use Rattle.table.specs.Endian.{le}
use Rattle.table.specs.Answers.{lent}
use Rattle.table.specs.Records.{Weight, option_of, state_at}
use Rattle.table.specs.declared.answer.Counts.{Counts}
use Rattle.std.specs.Prelude.{Some, None}
use Rattle.table.proofs.PartFacts.{length_part, get_d_part}
use Rattle.table.proofs.SoundFacts.{state_loaded}
use Rattle.lookup_moves.specs.Distances.{far, cells_of, lowered, far_byte}
use Rattle.lookup_cells.specs.Ends.{ended_by, started, started_from}
use Rattle.lookup_moves.proofs.CellFacts.{cells_get, length_cells}
use Rattle.lookup_cells.proofs.DistanceFacts.{val, Distances}
use Rattle.lookup_cells.proofs.PushFacts.{lowered-le, lowered_same, lowered_other, lowered_length}
use Rattle.lookup_cells.proofs.MoveMeaning.{combinations_positive}

-- ---- the last combination

-- at the last combination nothing is left
pub last_empty : (ps : List ℕ) (t : Tuple) → Positions ps t → suc (place ps t) ≡ combinations t → all_empty (drop_all ps t) ≡ true
last_empty [] [] h e = refl
last_empty [] (s ∷ t) h e = absurd h
last_empty (p ∷ ps) [] h e = absurd h
last_empty (p ∷ ps) (s ∷ t) (l, h) e =
    let c = combinations_positive t in
    let lt : combinations t - 1 < combinations t = omega (arith, c) in
    let f : p * combinations t + place ps t ≡ length s * combinations t + (combinations t - 1) = omega (arith, e, suc-mul (length s) (combinations t), c) in
    let (i, j) = digits-≡ (combinations t) p (place ps t) (length s) (combinations t - 1) (place_lt ps t h) lt f in
    ap (λ (z : List ℕ). all_empty (z ∷ drop_all ps t)) (drop_of_length-le s {i = p} (omega (arith, i))) ∙ last_empty ps t h (omega (arith, j, c))

-- and nothing is left only there
pub empty-last : (ps : List ℕ) (t : Tuple) → Positions ps t → all_empty (drop_all ps t) ≡ true → suc (place ps t) ≡ combinations t
empty-last [] [] h e = refl
empty-last [] (s ∷ t) h e = absurd h
empty-last (p ∷ ps) [] h e = absurd h
empty-last (p ∷ ps) (s ∷ t) (l, h) e = go (drop p s) (length-drop p s) e (empty-last ps t h)
  where
    go : (z : List ℕ) → length z ≡ length s - p → all_empty (z ∷ drop_all ps t) ≡ true → (all_empty (drop_all ps t) ≡ true → suc (place ps t) ≡ combinations t)
        → suc (p * combinations t + place ps t) ≡ suc (length s) * combinations t
    go (c ∷ z) n e ih = absurd (false≢true e)
    go [] n e ih =
        let i : p ≡ length s = omega (arith, n, l) in
        let f : p * combinations t ≡ length s * combinations t = ap (λ (k : ℕ). k * combinations t) i in
        omega (arith, f, ih e, suc-mul (length s) (combinations t))

-- ---- cleared cells

-- n bytes of 16
abbrev pub sixteens : ℕ → List ℕ
sixteens n = replicate n far_byte

cleared-part : (n k : ℕ) → 8 * k + 8 ≤ n → part (8 * k) 8 (sixteens n) ≡ sixteens 8
cleared-part n k h =
    let l : length (sixteens n) ≡ n = length-replicate n far_byte in
    let m : length (part (8 * k) 8 (sixteens n)) ≡ 8 = length_part (8 * k) 8 (sixteens n) (omega (arith, l)) in
    ext_get_or 0 (part (8 * k) 8 (sixteens n)) (sixteens 8) m
    (λ i lt. get_d_part (8 * k) 8 (sixteens n) i 0 (omega (arith, m)) ∙ get_or-replicate n (8 * k + i) far_byte 0 (omega (arith, m))
    ∙ sym (get_or-replicate 8 i far_byte 0 (omega (arith, m))))

pub cleared-cell : (n k : ℕ) → 8 * k + 8 ≤ n → get_or (cells_of (sixteens n)) k 0 ≡ far
cleared-cell n k h =
    let l : length (sixteens n) ≡ n = length-replicate n far_byte in
    sym (cells_get (sixteens n) k (omega (arith, l))) ∙ ap le (cleared-part n k h)

cleared_below : (n k : ℕ) → get_or (cells_of (sixteens n)) k 0 ≤ far
cleared_below n k = go (dec_le (8 * k + 8) n)
  where
    go : Dec (8 * k + 8 ≤ n) → get_or (cells_of (sixteens n)) k 0 ≤ far
    go (yes h) = omega (arith, cleared-cell n k h)
    go (no h) =
        let l : length (sixteens n) ≡ n = length-replicate n far_byte in
        let z = get_or-eq_default (cells_of (sixteens n)) 0 {n = k} (omega (arith, length_cells (sixteens n), l)) in
        omega (arith, z)

-- ---- final weights

module _ (c : Counts) (states arcs : List ℕ) (sound : Sound (lent c states arcs)) (t : Tuple) where
  abbrev table : Automaton ℕ
  table = table_of (lent c states arcs)

  -- what is known of the cells once the final weights of the states below q stand in them
  pub record Begun (q : ℕ) (xs : List ℕ) : Type 0 where
    pub room : size table * combinations t ≤ length xs
    pub below : (k : ℕ) → get_or xs k 0 ≤ far
    pub attained : (p : ℕ) (ps : List ℕ) → p < size table → Positions ps t → val table t xs p ps < far
        → (k : ℕ) × Onward ℕ_sum table k p (drop_all ps t) (val table t xs p ps)
    pub ends : (p : ℕ) (ps : List ℕ) (f : ℕ) → p < q → Positions ps t → Spells {W = ℕ} [] (drop_all ps t) → final_of table p ≡ some f → val table t xs p ps ≤ f

  pub begun_cleared : (n : ℕ) → 8 * (size table * combinations t) ≤ n → Begun 0 (cells_of (sixteens n))
  begun_cleared n fits =
      let l : length (sixteens n) ≡ n = length-replicate n far_byte in record {
        room = omega (arith, fits, l, length_cells (sixteens n));
        below = cleared_below n;
        attained = λ p ps lt h small.
            let i = cell_lt (size table) p ps t lt h in absurd (omega (arith, small, cleared-cell n (cell p ps t) (omega (arith, i, fits))));
        ends = λ p ps f lt h s e. absurd (omega arith);
      }

  module _ (q : ℕ) (lt : q < c.states) (xs : List ℕ) (b : Begun q xs) where
    final_is : final_of table q ≡ option_of (state_at (state_size * q) states).last
    final_is = ap (λ o. bind o (λ s. s.final)) (state_loaded (lent c states arcs) sound q lt)

    in_table : q < size table
    in_table = omega (arith, (sound_holds (lent c states arcs) sound).states)

    -- no final weight
    begun_none : final_of table q ≡ none → Begun (suc q) xs
    begun_none e = record {
      room = b.room;
      below = b.below;
      attained = b.attained;
      ends = λ p ps f lt' h s g. go p ps f lt' h s g (ℕ_discrete p q);
    }
      where
        go : (p : ℕ) (ps : List ℕ) (f : ℕ) → p < suc q → Positions ps t → Spells {W = ℕ} [] (drop_all ps t) → final_of table p ≡ some f → Dec (p ≡ q)
            → val table t xs p ps ≤ f
        go p ps f lt' h s g (yes same) = absurd (none-ne-some f (sym e ∙ ap (final_of table) (sym same) ∙ g))
        go p ps f lt' h s g (no ne) = b.ends p ps f (omega arith) h s g

    module _ (w : ℕ) (e : final_of table q ≡ some w) where
      after : List ℕ
      after = lowered (q * combinations t + (combinations t - 1)) w xs

      in_room : q * combinations t + (combinations t - 1) < length xs
      in_room =
          let l : combinations t - 1 < combinations t = omega (arith, combinations_positive t) in
          omega (arith, b.room, digits_lt {q = q} {m = size table} {r = combinations t - 1} {c = combinations t} in_table l)

      -- the cell is that of the last combination
      last_of : (p : ℕ) (ps : List ℕ) → Positions ps t → cell p ps t ≡ q * combinations t + (combinations t - 1) → (p ≡ q) × (all_empty (drop_all ps t) ≡ true)
      last_of p ps h same =
          let d = combinations_positive t in
          let (i, j) = digits-≡ (combinations t) p (place ps t) q (combinations t - 1) (place_lt ps t h) (omega (arith, d)) same in
          (i, last_empty ps t h (omega (arith, j, d)))

      begun_attained : (p : ℕ) (ps : List ℕ) → p < size table → Positions ps t → val table t after p ps < far
          → (k : ℕ) × Onward ℕ_sum table k p (drop_all ps t) (val table t after p ps)
      unfolding after
      begun_attained p ps lt' h = go (ℕ_discrete (cell p ps t) (q * combinations t + (combinations t - 1))) (dec_le (val table t xs p ps) w)
        where
          Shown : ℕ → Type 0
          Shown x = x < far → (k : ℕ) × Onward ℕ_sum table k p (drop_all ps t) x

          old : Shown (val table t xs p ps)
          old = b.attained p ps lt' h

          go : Dec (cell p ps t ≡ q * combinations t + (combinations t - 1)) → Dec (val table t xs p ps ≤ w) → Shown (val table t after p ps)
          go (no ne) d = subst Shown (sym (lowered_other (q * combinations t + (combinations t - 1)) w xs (cell p ps t) ne)) old
          go (yes same) (yes l) =
              let f : val table t xs p ps ≡ val table t after p ps
              = omega (
                arith,
                l,
                lowered_same (q * combinations t + (combinations t - 1)) w xs in_room,
                ap (λ (i : ℕ). get_or after i 0) same,
                ap (λ (i : ℕ). get_or xs i 0) same,
              ) in
              subst Shown f old
          go (yes same) (no l) =
              let (i, j) = last_of p ps h same in
              let f : w ≡ val table t after p ps
              = omega (
                arith,
                l,
                lowered_same (q * combinations t + (combinations t - 1)) w xs in_room,
                ap (λ (i : ℕ). get_or after i 0) same,
                ap (λ (i : ℕ). get_or xs i 0) same,
              ) in
              subst Shown f (λ small.
              (0, onward_of ℕ_sum table 0 (drop_all ps t) stop (ap (final_of table) i ∙ e) (all_empty_spells ℕ (drop_all ps t) j) (omega arith)))

      begun_some : Begun (suc q) after
      unfolding after
      begun_some = record {
        room = omega (arith, b.room, length_lowered);
        below = λ k. omega (arith, b.below k, lowered-le (q * combinations t + (combinations t - 1)) w xs k);
        attained = begun_attained;
        ends = λ p ps f lt' h s g. go p ps f lt' h s g (ℕ_discrete p q);
      }
        where
          length_lowered : length after ≡ length xs
          length_lowered = lowered_length (q * combinations t + (combinations t - 1)) w xs

          go : (p : ℕ) (ps : List ℕ) (f : ℕ) → p < suc q → Positions ps t → Spells {W = ℕ} [] (drop_all ps t) → final_of table p ≡ some f → Dec (p ≡ q)
              → val table t after p ps ≤ f
          go p ps f lt' h s g (no ne) =
              omega (arith, b.ends p ps f (omega arith) h s g, lowered-le (q * combinations t + (combinations t - 1)) w xs (cell p ps t))
          go p ps f lt' h s g (yes same) =
              let z : w ≡ f = some-injective w f (sym e ∙ ap (final_of table) (sym same) ∙ g) in
              let m = empty-last ps t h (spells_all_empty ℕ (drop_all ps t) s) in
              let i : p * combinations t ≡ q * combinations t = ap (λ (k : ℕ). k * combinations t) same in
              let j : cell p ps t ≡ q * combinations t + (combinations t - 1) = omega (arith, m, i) in
              omega (arith, z, lowered_same (q * combinations t + (combinations t - 1)) w xs in_room, ap (λ (k : ℕ). get_or after k 0) j)

    pub begun_next : (all : ℕ) → all ≡ combinations t → Begun (suc q) (started states all q xs)
    unfolding started after
    begun_next all a = go (state_at (state_size * q) states).last refl
      where
        go : (x : Weight) → (state_at (state_size * q) states).last ≡ x → Begun (suc q) (ended_by x (q * all + (all - 1)) xs)
        go None f = begun_none (final_is ∙ ap option_of f)
        go (Some w) f = subst (λ (k : ℕ). Begun (suc q) (lowered (q * k + (k - 1)) w xs)) (sym a) (begun_some w (final_is ∙ ap option_of f))

  begun_all : (n q : ℕ) (all : ℕ) → all ≡ combinations t → q + n ≡ c.states → (xs : List ℕ) → Begun q xs → Begun c.states (started_from n q states all xs)
  unfolding started_from
  begun_all zero q all a e xs b = let z : q ≡ c.states = omega (arith, e) in subst (λ (k : ℕ). Begun k xs) z b
  begun_all (suc n) q all a e xs b =
      let z : suc q ≡ q + 1 = omega arith in
      begun_all n (q + 1) all a (omega (arith, e)) (started states all q xs) (subst (λ (k : ℕ). Begun k (started states all q xs)) z (begun_next q (omega (arith, e)) xs b all a))

  -- Before any combination is worked off the cells are as they should be.
  pub begun_distances : (n all : ℕ) → all ≡ combinations t → 8 * (size table * combinations t) ≤ n
      → Distances table t (started_from c.states 0 states all (cells_of (sixteens n))) all
  begun_distances n all a fits =
      let b = begun_all c.states 0 all a (omega arith) (cells_of (sixteens n)) (begun_cleared n fits) in record {
        below = b.below;
        attained = b.attained;
        ends = λ q ps f lt h s g. b.ends q ps f (omega (arith, lt, (sound_holds (lent c states arcs) sound).states)) h s g;
        goes = λ q ps lt h e x at from rest g l.
            absurd (omega (arith, place_lt (moved ps x.labels) t (left_quotients_drop x.labels ps t rest h g).1, l, a));
      }

-- cells behind those of the states stay
pub started_rest : (n q : ℕ) (states : List ℕ) (all : ℕ) → 0 < all → (xs : List ℕ) (j : ℕ) → (q + n) * all ≤ j → get_or (started_from n q states all xs) j 0 ≡ get_or xs j 0
unfolding started_from started
started_rest zero q states all pos xs j out = refl
started_rest (suc n) q states all pos xs j out =
    let e : q + suc n ≡ q + 1 + n = omega arith in
    started_rest n (q + 1) states all pos (started states all q xs) j (subst (λ (k : ℕ). k * all ≤ j) e out) ∙ ended_rest (state_at (state_size * q) states).last
  where
    ended_rest : (w : Weight) → get_or (ended_by w (q * all + (all - 1)) xs) j 0 ≡ get_or xs j 0
    ended_rest None = refl
    ended_rest (Some w) = lowered_other (q * all + (all - 1)) w xs j
        (λ same. omega (arith, same, out, digits_lt {q = q} {m = q + suc n} {r = all - 1} {c = all} (omega arith) (omega arith)))
