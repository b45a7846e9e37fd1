-- One cell found: what it leaves of the marks and of the order, and that the numbers still hang together.
use mathlib.Core.Path.{◌≡◌, refl, sym, ap, subst, ◌∙◌}
use mathlib.Core.Logic.{◌⊎◌, inl, inr, ◌≢◌}
use mathlib.Core.Bool.{Bool}
use mathlib.Core.List.{List}
use Prim.Native.Nat.{ℕ, ◌+◌, ◌*◌, ◌≤◌, ◌<◌}
use native.Mathlib.Omega.{arith}
use native.Mathlib.Decide.{ℕ_discrete, dec_lt}
use lib.Dec.{ltb}
use lib.ListN.{length, get_or, set, take, length-set}
use lib.Seq.{get_or-set_same, get_or-set_other, take-set-le}
use Rattle.automata.specs.Lists.{if}
use Rattle.automata.proofs.TestFacts.{ltb_of_lt, ltb_of_le}
use Rattle.automata.proofs.Finite.{pigeonhole}
use Rattle.lookup_moves.specs.Distances.{far}
use Rattle.path_search.specs.Search.{Search, search_of, mark_at, order_at, enter}
use Rattle.path_search.specs.FirstPath.{Kept}

-- a number below n + 1 is below n or is n
pub below_suc : {i n : ℕ} → i < n + 1 → (i < n) ⊎ (i ≡ n)
below_suc {i} {n} h = go (dec_lt i n)
  where
    go : Dec (i < n) → (i < n) ⊎ (i ≡ n)
    go (yes l) = inl l
    go (no l) = inr (omega arith)

module _ (cells : ℕ) where
  -- where no cell has a mark, no cell is found
  pub none_found : (xs : List ℕ) → 3 * cells ≤ length xs → ((c : ℕ) → c < cells → far ≤ mark_at cells xs c)
      → Kept cells (search_of xs 0)
  none_found xs room clear = record {
    room = room;
    few = omega arith;
    cell = λ i l. absurd (omega (arith, l));
    found = λ i l. absurd (omega (arith, l));
    place = λ c l m. absurd (omega (arith, clear c l, m));
    once = λ i j l k e. absurd (omega (arith, l));
  }

  -- the search with cell c, found by arc e, behind those found before
  abbrev entered : ℕ → ℕ → Search → Search
  entered e c s = search_of (set (set s.numbers (cells + c) e) (2 * cells + s.tail) c) (s.tail + 1)

  -- a cell that is found changes nothing
  enter_found : (e c : ℕ) (s : Search) → mark_at cells s.numbers c < far → enter cells e c s ≡ s
  unfolding enter
  enter_found e c s h = ap (λ (b : Bool). if b s (entered e c s)) (ltb_of_lt h)

  -- one that is not comes behind those found before
  enter_unfound : (e c : ℕ) (s : Search) → far ≤ mark_at cells s.numbers c → enter cells e c s ≡ entered e c s
  unfolding enter
  enter_unfound e c s h = ap (λ (b : Bool). if b s (entered e c s)) (ltb_of_le h)

  -- what holds of the search before, and of the one with the cell behind the others, holds when a cell is found
  enter_by_lem : (P : Search → Type 0) (e c : ℕ) (s : Search) → P s → P (entered e c s) → P (enter cells e c s)
  enter_by_lem P e c s p q = go (dec_lt (mark_at cells s.numbers c) far)
    where
      go : Dec (mark_at cells s.numbers c < far) → P (enter cells e c s)
      go (yes h) = subst P (sym (enter_found e c s h)) p
      go (no h) = subst P (sym (enter_unfound e c s (omega arith))) q

  -- the first part stays when a cell is found
  pub enter_front : (e c : ℕ) (s : Search) → take cells (enter cells e c s).numbers ≡ take cells s.numbers
  enter_front e c s = enter_by_lem (λ (t : Search). take cells t.numbers ≡ take cells s.numbers) e c s refl
      (take-set-le cells (set s.numbers (cells + c) e) (2 * cells + s.tail) c (omega arith)
      ∙ take-set-le cells s.numbers (cells + c) e (omega arith))

  -- there are as many numbers as before
  enter_length : (e c : ℕ) (s : Search) → length (enter cells e c s).numbers ≡ length s.numbers
  enter_length e c s = enter_by_lem (λ (t : Search). length t.numbers ≡ length s.numbers) e c s refl
      (length-set (set s.numbers (cells + c) e) (2 * cells + s.tail) c ∙ length-set s.numbers (cells + c) e)

  -- where a cell is not found, there is room behind those found
  pub enter-room : (c : ℕ) (s : Search) → Kept cells s → c < cells → far ≤ mark_at cells s.numbers c → s.tail < cells
  enter-room c s k lt out = go (dec_lt s.tail cells)
    where
      -- the cells found, and c behind them
      at : ℕ → ℕ
      at i = if (ltb i s.tail) (order_at cells s.numbers i) c

      at_found : (i : ℕ) → i < s.tail → at i ≡ order_at cells s.numbers i
      at_found i l = ap (λ (b : Bool). if b (order_at cells s.numbers i) c) (ltb_of_lt l)

      at_last : (i : ℕ) → s.tail ≤ i → at i ≡ c
      at_last i l = ap (λ (b : Bool). if b (order_at cells s.numbers i) c) (ltb_of_le l)

      small : (i : ℕ) → Dec (i < s.tail) → at i < cells
      small i (yes l) = omega (arith, at_found i l, k.cell i l)
      small i (no l) = omega (arith, at_last i (omega arith))

      differ : (i j : ℕ) → i < j → i < s.tail → j ≤ cells → cells ≤ s.tail → at i ≡ at j → Dec (j < s.tail) → ⊥
      differ i j l in-i le full same (yes in-j) =
          omega (arith, k.once i j in-i in-j (sym (at_found i in-i) ∙ same ∙ at_found j in-j))
      differ i j l in-i le full same (no out-j) =
          let e : order_at cells s.numbers i ≡ c = sym (at_found i in-i) ∙ same ∙ at_last j (omega arith) in
          omega (arith, out, ap (mark_at cells s.numbers) e, k.found i in-i)

      go : Dec (s.tail < cells) → s.tail < cells
      go (yes l) = l
      go (no full) =
          let (i, j, l, le, same) = pigeonhole cells at (λ i le. small i (dec_lt i s.tail)) in
          absurd (differ i j l (omega arith) le (omega arith) same (dec_lt j s.tail))

  -- cell c, which was not found, is the last found of t, by arc e; all else is as in s
  pub record Entered (e c : ℕ) (s t : Search) : Type 0 where
    pub unfound : far ≤ mark_at cells s.numbers c
    pub more : t.tail ≡ s.tail + 1
    pub earlier : (i : ℕ) → i < s.tail → order_at cells t.numbers i ≡ order_at cells s.numbers i
    pub last : order_at cells t.numbers s.tail ≡ c
    pub own : mark_at cells t.numbers c ≡ e
    pub others : (b : ℕ) → b < cells → b ≢ c → mark_at cells t.numbers b ≡ mark_at cells s.numbers b

  module _ (e c : ℕ) (s : Search) (k : Kept cells s) (lt : c < cells) where
    -- so it is with the cell behind the others
    entered_is : far ≤ mark_at cells s.numbers c → Entered e c s (entered e c s)
    entered_is out =
        let room : s.tail < cells = enter-room c s k lt out in record {
          unfound = out;
          more = refl;
          earlier = λ i l. other (2 * cells + i) (λ same. omega (arith, same)) (λ same. omega (arith, same));
          last = get_or-set_same marked (2 * cells + s.tail) c 0 (omega (arith, size, k.room));
          own = get_or-set_other marked (2 * cells + s.tail) (cells + c) c 0 (λ same. omega (arith, same))
              ∙ get_or-set_same s.numbers (cells + c) e 0 (omega (arith, k.room));
          others = λ b l ne. other (cells + b) (λ same. omega (arith, same)) (λ same. ne (omega (arith, same)));
        }
      where
        marked : List ℕ
        marked = set s.numbers (cells + c) e

        size : length marked ≡ length s.numbers
        size = length-set s.numbers (cells + c) e

        other : (j : ℕ) → j ≢ 2 * cells + s.tail → j ≢ cells + c
            → get_or (set marked (2 * cells + s.tail) c) j 0 ≡ get_or s.numbers j 0
        other j a b = get_or-set_other marked (2 * cells + s.tail) j c 0 a ∙ get_or-set_other s.numbers (cells + c) j e 0 b

    -- either the cell was found and nothing changes, or it is put behind the others
    pub enter-cases : ((mark_at cells s.numbers c < far) × (enter cells e c s ≡ s)) ⊎ Entered e c s (enter cells e c s)
    enter-cases = go (dec_lt (mark_at cells s.numbers c) far)
      where
        go : Dec (mark_at cells s.numbers c < far)
            → ((mark_at cells s.numbers c < far) × (enter cells e c s ≡ s)) ⊎ Entered e c s (enter cells e c s)
        go (yes h) = inl (h, enter_found e c s h)
        go (no h) = inr (subst (Entered e c s) (sym (enter_unfound e c s (omega arith))) (entered_is (omega arith)))

  -- the numbers still hang together where the cell is put behind the others
  entered_kept : (e c : ℕ) (s t : Search) → Kept cells s → c < cells → e < far → length t.numbers ≡ length s.numbers
      → Entered e c s t → Kept cells t
  entered_kept e c s t k lt small size h = record {
    room = omega (arith, size, k.room);
    few = omega (arith, h.more, enter-room c s k lt h.unfound);
    cell = λ i l. cell_of i (below_suc (omega (arith, l, h.more)));
    found = λ i l. found_of_lem i (below_suc (omega (arith, l, h.more)));
    place = λ b l m. place_of b l m (ℕ_discrete b c);
    once = λ i j l m. once_of i j (below_suc (omega (arith, l, h.more))) (below_suc (omega (arith, m, h.more)));
  }
    where
      order : ℕ → ℕ
      order = order_at cells s.numbers

      order' : ℕ → ℕ
      order' = order_at cells t.numbers

      mark : ℕ → ℕ
      mark = mark_at cells s.numbers

      mark' : ℕ → ℕ
      mark' = mark_at cells t.numbers

      at_last : (i : ℕ) → i ≡ s.tail → order' i ≡ c
      at_last i p = ap order' p ∙ h.last

      -- what is found is another cell
      another : (i : ℕ) → i < s.tail → order i ≢ c
      another i l p = omega (arith, h.unfound, ap mark p, k.found i l)

      cell_of : (i : ℕ) → (i < s.tail) ⊎ (i ≡ s.tail) → order' i < cells
      cell_of i (inl l) = omega (arith, h.earlier i l, k.cell i l)
      cell_of i (inr p) = omega (arith, at_last i p)

      found_of_lem : (i : ℕ) → (i < s.tail) ⊎ (i ≡ s.tail) → mark' (order' i) < far
      found_of_lem i (inl l) =
          omega (arith, ap mark' (h.earlier i l), h.others (order i) (k.cell i l) (another i l), k.found i l)
      found_of_lem i (inr p) = omega (arith, ap mark' (at_last i p), h.own)

      place_of : (b : ℕ) → b < cells → mark' b < far → Dec (b ≡ c) → (i : ℕ) × (i < t.tail) × (order' i ≡ b)
      place_of b l m (yes p) = (s.tail, omega (arith, h.more), h.last ∙ sym p)
      place_of b l m (no ne) =
          let (i, in-s, p) = k.place b l (omega (arith, m, h.others b l ne)) in
          (i, omega (arith, in-s, h.more), h.earlier i in-s ∙ p)

      once_of : (i j : ℕ) → (i < s.tail) ⊎ (i ≡ s.tail) → (j < s.tail) ⊎ (j ≡ s.tail) → order' i ≡ order' j → i ≡ j
      once_of i j (inl l) (inl m) p = k.once i j l m (sym (h.earlier i l) ∙ p ∙ h.earlier j m)
      once_of i j (inl l) (inr q) p = absurd (another i l (sym (h.earlier i l) ∙ p ∙ at_last j q))
      once_of i j (inr q) (inl m) p = absurd (another j m (sym (h.earlier j m) ∙ sym p ∙ at_last i q))
      once_of i j (inr q) (inr r) p = q ∙ sym r

  -- the numbers still hang together when a cell is found
  pub enter_kept : (e c : ℕ) (s : Search) → Kept cells s → c < cells → e < far → Kept cells (enter cells e c s)
  enter_kept e c s k lt small = go (enter-cases e c s k lt)
    where
      go : ((mark_at cells s.numbers c < far) × (enter cells e c s ≡ s)) ⊎ Entered e c s (enter cells e c s)
          → Kept cells (enter cells e c s)
      go (inl (m, p)) = subst (Kept cells) (sym p) k
      go (inr h) = entered_kept e c s (enter cells e c s) k lt small (enter_length e c s) h

  -- the cells found in s are the first found in t
  pub record Longer (s t : Search) : Type 0 where
    pub no_fewer : s.tail ≤ t.tail
    pub same : (i : ℕ) → i < s.tail → order_at cells t.numbers i ≡ order_at cells s.numbers i

  -- in the same search they are
  pub longer_self : (s : Search) → Longer s s
  longer_self s = record { no_fewer = omega arith; same = λ i l. refl }

  -- they are when a cell is found
  pub enter_longer : (e c : ℕ) (s : Search) → Kept cells s → c < cells → Longer s (enter cells e c s)
  enter_longer e c s k lt = go (enter-cases e c s k lt)
    where
      go : ((mark_at cells s.numbers c < far) × (enter cells e c s ≡ s)) ⊎ Entered e c s (enter cells e c s)
          → Longer s (enter cells e c s)
      go (inl (m, p)) = subst (Longer s) (sym p) (longer_self s)
      go (inr h) = record { no_fewer = omega (arith, h.more); same = h.earlier }
