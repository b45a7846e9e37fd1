-- How far a search has come, with a path to each cell found: the paths are in order, and for each path looked at there
-- is one of them to the same cell that does not come after it. And how the next path takes the search on.
use mathlib.Core.Path.{◌≡◌, sym, ap, ◌∙◌}
use mathlib.Core.Logic.{◌⊎◌, inl, inr}
use mathlib.Core.Bool.{Bool, false}
use mathlib.Core.Option.{Option, some}
use mathlib.Core.List.{List, []}
use Prim.Native.Nat.{ℕ, ◌+◌, ◌≤◌, ◌<◌}
use native.Mathlib.Omega.{arith}
use lib.Dec.{ltb}
use lib.ListN.{length}
use Rattle.automata.specs.Lists.{if}
use Rattle.automata.specs.Paths.{Trace}
use Rattle.automata.specs.TraceOrder.{Before}
use Rattle.automata.proofs.TestFacts.{ltb_of_lt, ltb_of_le}
use Rattle.lookup_moves.specs.Distances.{far}
use Rattle.path_search.specs.Search.{Search, mark_at, order_at, enter}
use Rattle.path_search.specs.FirstPath.{Reaches, Back, Kept}
use Rattle.path_search.proofs.EnterFacts.{below_suc, Entered, enter-cases, enter_kept}
use Rattle.path_search.proofs.TraceFacts.{trace_of, and_arc, NotAfter}
use Rattle.path_search.proofs.FirstPathFacts.{MarksStay}

-- arc a of the i-th cell is followed before arc e of the h-th
abbrev pub Passed : ℕ → ℕ → ℕ → ℕ → Type 0
Passed h e i a = (i < h) ⊎ ((i ≡ h) × (a < e))

-- nothing comes before the first arc of the first cell
pub passed_none : {A : Type 0} (i a : ℕ) → Passed 0 0 i a → A
passed_none i a (inl l) = absurd (omega arith)
passed_none i a (inr (p, l)) = absurd (omega arith)

-- what comes before arc e + 1 comes before arc e or is that
passed_suc : (h e i a : ℕ) → Passed h (e + 1) i a → Passed h e i a ⊎ ((i ≡ h) × (a ≡ e))
passed_suc h e i a (inl l) = inl (inl l)
passed_suc h e i a (inr (p, l)) = go (below_suc l)
  where
    go : (a < e) ⊎ (a ≡ e) → Passed h e i a ⊎ ((i ≡ h) × (a ≡ e))
    go (inl k) = inl (inr (p, k))
    go (inr k) = inr (p, k)

-- what comes before arc e comes before arc e + 1
passed-more : (h e i a : ℕ) → Passed h e i a → Passed h (e + 1) i a
passed-more h e i a (inl l) = inl l
passed-more h e i a (inr (p, l)) = inr (p, omega arith)

-- the first n paths, and π behind them
with_last : (ℕ → Trace) → ℕ → Trace → ℕ → Trace
with_last paths n π i = if (ltb i n) (paths i) π

-- the first n
with_earlier : (paths : ℕ → Trace) (n : ℕ) (π : Trace) (i : ℕ) → i < n → with_last paths n π i ≡ paths i
unfolding with_last
with_earlier paths n π i l = ap (λ (b : Bool). if b (paths i) π) (ltb_of_lt l)

-- the one behind them
with_last_lem : (paths : ℕ → Trace) (n : ℕ) (π : Trace) → with_last paths n π n ≡ π
unfolding with_last
with_last_lem paths n π = ap (λ (b : Bool). if b (paths n) π) (ltb_of_le {m = n} {n = n} (omega arith))

-- of a search, and paths of which the i-th leads to the i-th cell found
module _ (next : ℕ → ℕ → Option ℕ) (start : ℕ → Option ℕ) (cells : ℕ) (s : Search) (paths : ℕ → Trace) where
  -- The numbers hang together; the paths lead to the cells, and the marks back along them; they are in order, and the
  -- i-th has at most i arcs.
  pub record Traced : Type 0 where
    pub kept : Kept cells s
    pub reaches : (i : ℕ) → i < s.tail → Reaches next start (paths i) (order_at cells s.numbers i)
    pub back : (i : ℕ) → i < s.tail
        → Back next start cells s.numbers (paths i).start (paths i).run (order_at cells s.numbers i)
    pub rising : (i j : ℕ) → i < j → j < s.tail → Before (paths i) (paths j)
    pub short : (i : ℕ) → i < s.tail → length (paths i).run ≤ i

  -- cell d is found, and its path does not come after π
  pub record Early (d : ℕ) (π : Trace) : Type 0 where
    pub place : ℕ
    pub within : place < s.tail
    pub there : order_at cells s.numbers place ≡ d
    pub not_after : NotAfter (paths place) π

  -- Path π to cell d has been looked at: it has no arc and starts at a state below q, or it goes on from the path of a
  -- cell found by an arc that comes before arc e of the h-th.
  pub data Seen (q h e d : ℕ) (π : Trace) : Type 0 where
    by_start : (p : ℕ) → p < q → start p ≡ some d → π ≡ trace_of p [] → Seen q h e d π
    by_arc : (i a : ℕ) → Passed h e i a → next (order_at cells s.numbers i) a ≡ some d → π ≡ and_arc (paths i) a
        → Seen q h e d π

  -- The search has come to state q and to arc e of the h-th cell: for each path looked at one is found that does not
  -- come after it, each path found was looked at, and none of the first h cells is an end.
  pub record Reached (end : ℕ → Bool) (q h e : ℕ) : Type 0 where
    pub traced : Traced
    pub early : (d : ℕ) (π : Trace) → Seen q h e d π → Early d π
    pub origin : (i : ℕ) → i < s.tail → Seen q h e (order_at cells s.numbers i) (paths i)
    pub no_end : (i : ℕ) → i < h → end (order_at cells s.numbers i) ≡ false

  -- Path π to cell c, by arc m, is the only one that is looked at as the search goes from q, h, e to q', h, e'. It
  -- comes after those found.
  pub record Next (q h e q' e' m c : ℕ) (π : Trace) : Type 0 where
    pub cell_lt : c < cells
    pub arc_lt : m < far
    pub seen : Seen q' h e' c π
    pub still : (d : ℕ) (ρ : Trace) → Seen q h e d ρ → Seen q' h e' d ρ
    pub only : (d : ℕ) (ρ : Trace) → Seen q' h e' d ρ → Seen q h e d ρ ⊎ ((d ≡ c) × (ρ ≡ π))
    pub bounded : (i a : ℕ) → Passed h e' i a → i < s.tail
    pub after : (i : ℕ) → i < s.tail → Before (paths i) π
    pub leads : Reaches next start π c
    pub leads_back : (ys : List ℕ) → MarksStay cells s.numbers ys → mark_at cells ys c ≡ m
        → Back next start cells ys π.start π.run c
    pub shallow : length π.run ≤ s.tail

module _ (next : ℕ → ℕ → Option ℕ) (start : ℕ → Option ℕ) (cells : ℕ) (s : Search) (paths : ℕ → Trace) where
  -- what was looked at before state q was before the next
  pub seen_start-more : (q h e d : ℕ) (π : Trace) → Seen next start cells s paths q h e d π → Seen next start cells s paths (q + 1) h e d π
  seen_start-more q h e d π (by_start p l k r) = by_start p (omega arith) k r
  seen_start-more q h e d π (by_arc i a l k r) = by_arc i a l k r

  -- what was looked at before arc e was before the next
  pub seen_arc-more : (q h e d : ℕ) (π : Trace) → Seen next start cells s paths q h e d π → Seen next start cells s paths q h (e + 1) d π
  seen_arc-more q h e d π (by_start p l k r) = by_start p l k r
  seen_arc-more q h e d π (by_arc i a l k r) = by_arc i a (passed-more h e i a l) k r

  -- besides, only the path of no arc that starts there is
  pub seen_start : (q h e d : ℕ) (π : Trace) → Seen next start cells s paths (q + 1) h e d π
      → Seen next start cells s paths q h e d π ⊎ ((start q ≡ some d) × (π ≡ trace_of q []))
  seen_start q h e d π (by_start p l k r) = go (below_suc l)
    where
      go : (p < q) ⊎ (p ≡ q) → Seen next start cells s paths q h e d π ⊎ ((start q ≡ some d) × (π ≡ trace_of q []))
      go (inl m) = inl (by_start p m k r)
      go (inr m) = inr (rw m at k, rw m at r)
  seen_start q h e d π (by_arc i a l k r) = inl (by_arc i a l k r)

  -- besides, only the path of the h-th cell with the arc is
  pub seen_arc : (q h e d : ℕ) (π : Trace) → Seen next start cells s paths q h (e + 1) d π
      → Seen next start cells s paths q h e d π ⊎ ((next (order_at cells s.numbers h) e ≡ some d) × (π ≡ and_arc (paths h) e))
  seen_arc q h e d π (by_start p l k r) = inl (by_start p l k r)
  seen_arc q h e d π (by_arc i a l k r) = go (passed_suc h e i a l)
    where
      go : Passed h e i a ⊎ ((i ≡ h) × (a ≡ e))
          → Seen next start cells s paths q h e d π ⊎ ((next (order_at cells s.numbers h) e ≡ some d) × (π ≡ and_arc (paths h) e))
      go (inl m) = inl (by_arc i a m k r)
      go (inr (m, n)) = inr (rw (m, n) at k, rw (m, n) at r)

module _ (next : ℕ → ℕ → Option ℕ) (start : ℕ → Option ℕ) (cells : ℕ) (end : ℕ → Bool) where
  -- a search has come as far with the same cells and paths, where the same was looked at
  pub reached_same : (q h e q' h' e' : ℕ) (s : Search) (paths : ℕ → Trace) → Reached next start cells s paths end q h e
      → ((d : ℕ) (π : Trace) → Seen next start cells s paths q h e d π → Seen next start cells s paths q' h' e' d π)
      → ((d : ℕ) (π : Trace) → Seen next start cells s paths q' h' e' d π → Seen next start cells s paths q h e d π)
      → ((i : ℕ) → i < h' → end (order_at cells s.numbers i) ≡ false) → Reached next start cells s paths end q' h' e'
  reached_same q h e q' h' e' s paths g still only no_end = record {
    traced = g.traced;
    early = λ d π u. g.early d π (only d π u);
    origin = λ i l. still (order_at cells s.numbers i) (paths i) (g.origin i l);
    no_end = no_end;
  }

  module _ (q h e q' e' m c : ℕ) (s : Search) (paths : ℕ → Trace) (π : Trace) (g : Reached next start cells s paths end q h e)
      (n : Next next start cells s paths q h e q' e' m c π) where
    -- where the cell was found, nothing is new
    next_found : mark_at cells s.numbers c < far → Reached next start cells s paths end q' h e'
    next_found marked = record {
      traced = g.traced;
      early = λ d ρ u. early_of d ρ (n.only d ρ u);
      origin = λ i l. n.still (order_at cells s.numbers i) (paths i) (g.origin i l);
      no_end = g.no_end;
    }
      where
        early_of : (d : ℕ) (ρ : Trace) → Seen next start cells s paths q h e d ρ ⊎ ((d ≡ c) × (ρ ≡ π))
            → Early next start cells s paths d ρ
        early_of d ρ (inl u) = g.early d ρ u
        early_of d ρ (inr (p, r)) =
            let (i, l, there) = g.traced.kept.place c n.cell_lt marked in
            record { place = i; within = l; there = there ∙ sym p; not_after = inr (rw r (n.after i l)) }

    -- where it was not, it is put behind the others, and the path behind theirs
    module _ (t : Search) (kept' : Kept cells t) (x : Entered cells m c s t) (paths' : ℕ → Trace)
        (same : (i : ℕ) → i < s.tail → paths' i ≡ paths i) (last : paths' s.tail ≡ π)
        (back_on : (xs ys : List ℕ) → MarksStay cells xs ys → (p b : ℕ) (r : List ℕ) → Back next start cells xs p r b
        → Back next start cells ys p r b) where
      -- a place of t is one of s or the last
      in_t : (i : ℕ) → i < t.tail → (i < s.tail) ⊎ (i ≡ s.tail)
      in_t i l = below_suc (omega (arith, l, x.more))

      -- the path at the last
      last-path : (i : ℕ) → i ≡ s.tail → paths' i ≡ π
      last-path i p = ap paths' p ∙ last

      -- the cell at the last
      last-cell : (i : ℕ) → i ≡ s.tail → order_at cells t.numbers i ≡ c
      last-cell i p = ap (order_at cells t.numbers) p ∙ x.last

      -- the marks of the cells found stay
      stays : MarksStay cells s.numbers t.numbers
      stays b l marked = x.others b l (λ p. omega (arith, x.unfound, marked, ap (mark_at cells s.numbers) p))

      -- the paths lead to the cells of t, and the marks back
      more-traced : Traced next start cells t paths'
      more-traced = record {
        kept = kept';
        reaches = λ i l. reaches_of i (in_t i l);
        back = λ i l. back_of i (in_t i l);
        rising = λ i j l k. rising_of i j l (in_t j k);
        short = λ i l. short_of i (in_t i l);
      }
        where
          reaches_of : (i : ℕ) → (i < s.tail) ⊎ (i ≡ s.tail) → Reaches next start (paths' i) (order_at cells t.numbers i)
          reaches_of i (inl l) = rw (same i l, x.earlier i l) (g.traced.reaches i l)
          reaches_of i (inr p) = rw (last-path i p, last-cell i p) n.leads

          back_of : (i : ℕ) → (i < s.tail) ⊎ (i ≡ s.tail)
              → Back next start cells t.numbers (paths' i).start (paths' i).run (order_at cells t.numbers i)
          back_of i (inl l) = rw (same i l, x.earlier i l) (back_on s.numbers t.numbers stays (paths i).start
              (order_at cells s.numbers i) (paths i).run (g.traced.back i l))
          back_of i (inr p) = rw (last-path i p, last-cell i p) (n.leads_back t.numbers stays x.own)

          rising_of : (i j : ℕ) → i < j → (j < s.tail) ⊎ (j ≡ s.tail) → Before (paths' i) (paths' j)
          rising_of i j l (inl k) = rw (same i (omega arith), same j k) (g.traced.rising i j l k)
          rising_of i j l (inr p) = rw (same i (omega arith), last-path j p) (n.after i (omega arith))

          short_of : (i : ℕ) → (i < s.tail) ⊎ (i ≡ s.tail) → length (paths' i).run ≤ i
          short_of i (inl l) = rw (same i l) (g.traced.short i l)
          short_of i (inr p) = rw (last-path i p, p) n.shallow

      -- what was looked at in s was looked at in t
      seen_to : (d : ℕ) (ρ : Trace) → Seen next start cells s paths q' h e' d ρ → Seen next start cells t paths' q' h e' d ρ
      seen_to d ρ (by_start p l k r) = by_start p l k r
      seen_to d ρ (by_arc i a l k r) =
          let b : i < s.tail = n.bounded i a l in
          by_arc i a l (rw (x.earlier i b) k) (rw (same i b) r)

      -- and the other way round
      seen_from : (d : ℕ) (ρ : Trace) → Seen next start cells t paths' q' h e' d ρ → Seen next start cells s paths q' h e' d ρ
      seen_from d ρ (by_start p l k r) = by_start p l k r
      seen_from d ρ (by_arc i a l k r) =
          let b : i < s.tail = n.bounded i a l in
          by_arc i a l (rw (x.earlier i b) at k) (rw (same i b) at r)

      -- so the search has come on
      next_unfound : Reached next start cells t paths' end q' h e'
      next_unfound = record {
        traced = more-traced;
        early = λ d ρ u. early_of d ρ (n.only d ρ (seen_from d ρ u));
        origin = λ i l. origin_of i (in_t i l);
        no_end = λ i l. rw (x.earlier i (n.bounded i 0 (inl l))) (g.no_end i l);
      }
        where
          early_of : (d : ℕ) (ρ : Trace) → Seen next start cells s paths q h e d ρ ⊎ ((d ≡ c) × (ρ ≡ π))
              → Early next start cells t paths' d ρ
          early_of d ρ (inl u) =
              let y = g.early d ρ u in record {
                place = y.place;
                within = omega (arith, y.within, x.more);
                there = x.earlier y.place y.within ∙ y.there;
                not_after = rw (same y.place y.within) y.not_after;
              }
          early_of d ρ (inr (p, r)) = record {
            place = s.tail;
            within = omega (arith, x.more);
            there = x.last ∙ sym p;
            not_after = inl (last ∙ sym r);
          }

          origin_of : (i : ℕ) → (i < s.tail) ⊎ (i ≡ s.tail)
              → Seen next start cells t paths' q' h e' (order_at cells t.numbers i) (paths' i)
          origin_of i (inl l) = rw (same i l, x.earlier i l) (seen_to (order_at cells s.numbers i) (paths i)
              (n.still (order_at cells s.numbers i) (paths i) (g.origin i l)))
          origin_of i (inr p) = rw (last-path i p, last-cell i p) (seen_to c π n.seen)

    -- the search has come on behind the path
    pub next-reached : ((xs ys : List ℕ) → MarksStay cells xs ys → (p b : ℕ) (r : List ℕ) → Back next start cells xs p r b
        → Back next start cells ys p r b)
        → (paths' : ℕ → Trace) × Reached next start cells (enter cells m c s) paths' end q' h e'
    next-reached back_on = go (enter-cases cells m c s g.traced.kept n.cell_lt)
      where
        go : ((mark_at cells s.numbers c < far) × (enter cells m c s ≡ s)) ⊎ Entered cells m c s (enter cells m c s)
            → (paths' : ℕ → Trace) × Reached next start cells (enter cells m c s) paths' end q' h e'
        go (inl (marked, same)) = (paths, rw same (next_found marked))
        go (inr x) = (
          with_last paths s.tail π,
          next_unfound (enter cells m c s) (enter_kept cells m c s g.traced.kept n.cell_lt n.arc_lt) x
              (with_last paths s.tail π) (with_earlier paths s.tail π) (with_last_lem paths s.tail π) back_on,
        )
