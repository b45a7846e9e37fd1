-- The search tells the first path that leads to an end, or that there is none.
use mathlib.Core.Path.{◌≡◌, refl, ap, subst, ◌∙◌}
use mathlib.Core.Logic.{◌⊎◌, inl, inr}
use mathlib.Core.Bool.{Bool, true, false}
use mathlib.Core.Option.{Option, none, some}
use mathlib.Core.List.{List, []}
use Prim.Native.Nat.{ℕ, zero, suc, ◌+◌, ◌*◌, ◌≤◌, ◌<◌}
use native.Mathlib.Omega.{arith}
use native.Mathlib.Decide.{dec_lt}
use lib.Dec.{ltb}
use lib.ListN.{length}
use Rattle.automata.specs.Lists.{if}
use Rattle.automata.specs.Paths.{Trace}
use Rattle.automata.specs.TraceOrder.{Before}
use Rattle.automata.proofs.TestFacts.{ltb_true, ltb_false, false_not_true}
use Rattle.automata.proofs.ListFacts.{none_not_some}
use Rattle.lookup_moves.specs.Distances.{far}
use Rattle.path_search.specs.Search.{Search, entered, search_of, no_arc, mark_at, order_at, enter_starts, follow, follow_arcs, search_from}
use Rattle.path_search.specs.FirstPath.{Reaches, Back, at_start, behind, FirstTo, Kept}
use Rattle.path_search.proofs.EnterFacts.{below_suc, none_found, Longer, longer_self, enter_longer}
use Rattle.path_search.proofs.TraceFacts.{trace_of, and_arc, arc_length, before_arc, before_last, NotAfter, not_after_trans, not_after_arc, not_after_longer}
use Rattle.path_search.proofs.FirstPathFacts.{reaches_start, reaches_arc, every-path, MarksStay, back_stays}
use Rattle.path_search.proofs.Progress.{Passed, passed_none, Early, Seen, by_start, by_arc, Reached, Next, seen_start-more, seen_arc-more, seen_start, seen_arc, reached_same, next-reached}

module _ (next : ℕ → ℕ → Option ℕ) (start : ℕ → Option ℕ) (end : ℕ → Bool) (cells arcs states : ℕ)
    (next-lt : (c e d : ℕ) → next c e ≡ some d → (e < arcs) × (d < cells))
    (start-lt : (q c : ℕ) → start q ≡ some c → (q < states) × (c < cells)) (arcs-few : arcs ≤ 65535) where
  -- with some paths the search has come to state q and to arc e of the h-th cell
  abbrev Came : ℕ → ℕ → ℕ → Search → Type 0
  Came q h e s = (paths : ℕ → Trace) × Reached next start cells s paths end q h e

  -- where the marks of the cells found stay, they lead back along the same runs
  back_on : (xs ys : List ℕ) → MarksStay cells xs ys → (q c : ℕ) (r : List ℕ) → Back next start cells xs q r c
      → Back next start cells ys q r c
  back_on = back_stays next start cells arcs states next-lt start-lt arcs-few

  -- ---- one state

  module _ (q : ℕ) (s : Search) (paths : ℕ → Trace) (g : Reached next start cells s paths end q 0 0) where
    -- the paths found come before the one that starts at the state
    after_starts : (i : ℕ) → i < s.tail → Before (paths i) (trace_of q [])
    after_starts i l = go (g.origin i l)
      where
        go : Seen next start cells s paths q 0 0 (order_at cells s.numbers i) (paths i) → Before (paths i) (trace_of q [])
        go (by_start p m k r) = rw r (inr (refl, inl m))
        go (by_arc j a m k r) = passed_none j a m

    -- the path that starts at the state is the next
    start-next : (c : ℕ) → start q ≡ some c → Next next start cells s paths q 0 0 (q + 1) 0 no_arc c (trace_of q [])
    start-next c k = record {
      cell_lt = (start-lt q c k).1;
      arc_lt = omega arith;
      seen = by_start q (omega arith) k refl;
      still = seen_start-more next start cells s paths q 0 0;
      only = λ d ρ u. only_of d ρ (seen_start next start cells s paths q 0 0 d ρ u);
      bounded = λ i a l. passed_none i a l;
      after = after_starts;
      leads = reaches_start next start q c k;
      leads_back = λ ys stay m. at_start k m;
      shallow = omega arith;
    }
      where
        only_of : (d : ℕ) (ρ : Trace) → Seen next start cells s paths q 0 0 d ρ ⊎ ((start q ≡ some d) × (ρ ≡ trace_of q []))
            → Seen next start cells s paths q 0 0 d ρ ⊎ ((d ≡ c) × (ρ ≡ trace_of q []))
        only_of d ρ (inl u) = inl u
        only_of d ρ (inr (p, r)) = let z : d ≡ c = cc in inr (z, r)

    -- the search comes to the next state
    start_came : (o : Option ℕ) → start q ≡ o → Came (q + 1) 0 0 (entered cells no_arc o s)
    start_came none k = (
      paths,
      reached_same next start cells end q 0 0 (q + 1) 0 0 s paths g
          (seen_start-more next start cells s paths q 0 0) (λ d ρ u. only_of d ρ (seen_start next start cells s paths q 0 0 d ρ u)) g.no_end,
    )
      where
        only_of : (d : ℕ) (ρ : Trace) → Seen next start cells s paths q 0 0 d ρ ⊎ ((start q ≡ some d) × (ρ ≡ trace_of q []))
            → Seen next start cells s paths q 0 0 d ρ
        only_of d ρ (inl u) = u
        only_of d ρ (inr (p, r)) = none_not_some k p
    start_came (some c) k = next-reached next start cells end q 0 0 (q + 1) 0 no_arc c s paths (trace_of q []) g (start-next c k) back_on

  -- it comes behind all states
  starts_came : (k q : ℕ) (s : Search) → q + k ≡ states → Came q 0 0 s → Came states 0 0 (enter_starts cells start k q s)
  unfolding enter_starts
  starts_came zero q s e g = let z : q ≡ states = omega arith in subst (λ (p : ℕ). Came p 0 0 s) z g
  starts_came (suc k) q s e (paths, g) =
      starts_came k (q + 1) (entered cells no_arc (start q) s) (omega arith) (start_came q s paths g (start q) refl)

  -- ---- one arc

  module _ (h e : ℕ) (s : Search) (paths : ℕ → Trace) (g : Reached next start cells s paths end states h e) (lt : h < s.tail) where
    -- the paths found come before the one with the arc
    after_arcs : (i : ℕ) → i < s.tail → Before (paths i) (and_arc (paths h) e)
    after_arcs i l = go (g.origin i l)
      where
        by_passed : (j a : ℕ) → Passed h e j a → Before (and_arc (paths j) a) (and_arc (paths h) e)
        by_passed j a (inl m) = before_arc (paths j) (paths h) a e (g.traced.rising j h m lt)
        by_passed j a (inr (p, m)) = rw p (before_last (paths h) a e m)

        go : Seen next start cells s paths states h e (order_at cells s.numbers i) (paths i) → Before (paths i) (and_arc (paths h) e)
        go (by_start p m k r) = rw r (inl (omega (arith, arc_length (paths h) e)))
        go (by_arc j a m k r) = rw r (by_passed j a m)

    -- the path with the arc is the next
    arc-next : (d : ℕ) → next (order_at cells s.numbers h) e ≡ some d
        → Next next start cells s paths states h e states (e + 1) e d (and_arc (paths h) e)
    arc-next d k = record {
      cell_lt = (next-lt (order_at cells s.numbers h) e d k).1;
      arc_lt = omega (arith, (next-lt (order_at cells s.numbers h) e d k).0);
      seen = by_arc h e (inr (refl, omega arith)) k refl;
      still = seen_arc-more next start cells s paths states h e;
      only = λ b ρ u. only_of b ρ (seen_arc next start cells s paths states h e b ρ u);
      bounded = bounded_of;
      after = after_arcs;
      leads = reaches_arc next start (paths h) (order_at cells s.numbers h) e d (g.traced.reaches h lt) k;
      leads_back = λ ys stay m. behind e (back_on s.numbers ys stay (paths h).start (order_at cells s.numbers h) (paths h).run
          (g.traced.back h lt)) k m;
      shallow = omega (arith, arc_length (paths h) e, g.traced.short h lt);
    }
      where
        only_of : (b : ℕ) (ρ : Trace)
            → Seen next start cells s paths states h e b ρ ⊎ ((next (order_at cells s.numbers h) e ≡ some b) × (ρ ≡ and_arc (paths h) e))
            → Seen next start cells s paths states h e b ρ ⊎ ((b ≡ d) × (ρ ≡ and_arc (paths h) e))
        only_of b ρ (inl u) = inl u
        only_of b ρ (inr (p, r)) = let z : b ≡ d = cc in inr (z, r)

        bounded_of : (i a : ℕ) → Passed h (e + 1) i a → i < s.tail
        bounded_of i a (inl l) = omega arith
        bounded_of i a (inr (p, l)) = omega arith

    -- the search comes to the next arc
    arc_came : (o : Option ℕ) → next (order_at cells s.numbers h) e ≡ o → Came states h (e + 1) (entered cells e o s)
    arc_came none k = (
      paths,
      reached_same next start cells end states h e states h (e + 1) s paths g
          (seen_arc-more next start cells s paths states h e) (λ d ρ u. only_of d ρ (seen_arc next start cells s paths states h e d ρ u)) g.no_end,
    )
      where
        only_of : (d : ℕ) (ρ : Trace)
            → Seen next start cells s paths states h e d ρ ⊎ ((next (order_at cells s.numbers h) e ≡ some d) × (ρ ≡ and_arc (paths h) e))
            → Seen next start cells s paths states h e d ρ
        only_of d ρ (inl u) = u
        only_of d ρ (inr (p, r)) = none_not_some k p
    arc_came (some d) k =
        next-reached next start cells end states h e states (e + 1) e d s paths (and_arc (paths h) e) g (arc-next d k) back_on

  -- ---- the arcs of a cell

  -- the cells found stay the first
  entered_longer : (e : ℕ) (o : Option ℕ) (s : Search) → Kept cells s → ((d : ℕ) → o ≡ some d → d < cells)
      → Longer cells s (entered cells e o s)
  entered_longer e none s k lt = longer_self cells s
  entered_longer e (some d) s k lt = enter_longer cells e d s k (lt d refl)

  -- the search comes behind all arcs of the h-th cell
  arcs_came : (k c e h : ℕ) (s : Search) → e + k ≡ arcs → h < s.tail → order_at cells s.numbers h ≡ c → Came states h e s
      → Came states h arcs (follow_arcs cells next k c e s) × (order_at cells (follow_arcs cells next k c e s).numbers h ≡ c)
  unfolding follow_arcs follow
  arcs_came zero c e h s p lt there g = let z : e ≡ arcs = omega arith in (subst (λ (a : ℕ). Came states h a s) z g, there)
  arcs_came (suc k) c e h s p lt there (paths, g) =
      let l = entered_longer e (next c e) s g.traced.kept (λ d m. (next-lt c e d m).1) in
      arcs_came k c (e + 1) h (entered cells e (next c e) s) (omega arith) (omega (arith, l.no_fewer)) (l.same h lt ∙ there)
      (arc_came h e s paths g lt (next c e) (ap (λ (b : ℕ). next b e) there))

  -- where that is no end, it comes to the next cell
  cell_came : (h : ℕ) (s : Search) → Came states h arcs s → end (order_at cells s.numbers h) ≡ false → Came states (h + 1) 0 s
  cell_came h s (paths, g) other = (
    paths,
    reached_same next start cells end states h arcs states (h + 1) 0 s paths g still_of only_of
        (λ i l. no_end_of i (below_suc l)),
  )
    where
      passed_on : (i a : ℕ) → Passed h arcs i a → Passed (h + 1) 0 i a
      passed_on i a (inl l) = inl (omega arith)
      passed_on i a (inr (p, l)) = inl (omega arith)

      passed_back : (i a : ℕ) → Passed (h + 1) 0 i a → a < arcs → Passed h arcs i a
      passed_back i a (inr (p, l)) small = absurd (omega arith)
      passed_back i a (inl l) small = go (below_suc l)
        where
          go : (i < h) ⊎ (i ≡ h) → Passed h arcs i a
          go (inl m) = inl m
          go (inr m) = inr (m, small)

      still_of : (d : ℕ) (π : Trace) → Seen next start cells s paths states h arcs d π → Seen next start cells s paths states (h + 1) 0 d π
      still_of d π (by_start p l k r) = by_start p l k r
      still_of d π (by_arc i a l k r) = by_arc i a (passed_on i a l) k r

      only_of : (d : ℕ) (π : Trace) → Seen next start cells s paths states (h + 1) 0 d π → Seen next start cells s paths states h arcs d π
      only_of d π (by_start p l k r) = by_start p l k r
      only_of d π (by_arc i a l k r) = by_arc i a (passed_back i a l (next-lt (order_at cells s.numbers i) a d k).0) k r

      no_end_of : (i : ℕ) → (i < h) ⊎ (i ≡ h) → end (order_at cells s.numbers i) ≡ false
      no_end_of i (inl l) = g.no_end i l
      no_end_of i (inr p) = rw p other

  -- ---- what the search tells

  module _ (h : ℕ) (s : Search) (paths : ℕ → Trace) (g : Reached next start cells s paths end states h 0) where
    -- A path found does not come after path ρ to cell d; it is that of cell d, or that of a cell from the h-th on.
    record Met (ρ : Trace) (d : ℕ) : Type 0 where
      place : ℕ
      within : place < s.tail
      where-at : ((place < h) × (order_at cells s.numbers place ≡ d)) ⊎ (h ≤ place)
      not_after : NotAfter (paths place) ρ

    -- there is such a path where one to d is found that does not come after ρ
    met_early : (ρ σ : Trace) (d : ℕ) → Early next start cells s paths d σ → NotAfter σ ρ → Met ρ d
    met_early ρ σ d y n = record {
      place = y.place;
      within = y.within;
      where-at = go (dec_lt y.place h);
      not_after = not_after_trans (paths y.place) σ ρ y.not_after n;
    }
      where
        go : Dec (y.place < h) → ((y.place < h) × (order_at cells s.numbers y.place ≡ d)) ⊎ (h ≤ y.place)
        go (yes l) = inl (l, y.there)
        go (no l) = inr (omega arith)

    -- there is such a path for every path
    all-met : (ρ : Trace) (d : ℕ) → Reaches next start ρ d → Met ρ d
    all-met = every-path next start Met begins goes_on
      where
        begins : (q c : ℕ) → start q ≡ some c → Met (trace_of q []) c
        begins q c k = met_early (trace_of q []) (trace_of q []) c
            (g.early c (trace_of q []) (by_start q (start-lt q c k).0 k refl)) (inl refl)

        goes_on : (ρ : Trace) (b e d : ℕ) → Met ρ b → next b e ≡ some d → Met (and_arc ρ e) d
        goes_on ρ b e d m k = go m.where-at
          where
            go : ((m.place < h) × (order_at cells s.numbers m.place ≡ b)) ⊎ (h ≤ m.place) → Met (and_arc ρ e) d
            go (inl (l, p)) = met_early (and_arc ρ e) (and_arc (paths m.place) e) d
                (g.early d (and_arc (paths m.place) e) (by_arc m.place e (inl l) (rw p k) refl))
                (not_after_arc (paths m.place) ρ e m.not_after)
            go (inr l) = record {
              place = m.place;
              within = m.within;
              where-at = inr l;
              not_after = not_after_longer (paths m.place) ρ e m.not_after;
            }

    -- for a path to an end it is that of a cell from the h-th on
    end_met : (ρ : Trace) (d : ℕ) → Reaches next start ρ d → end d ≡ true → (j : ℕ) × (h ≤ j) × (j < s.tail) × NotAfter (paths j) ρ
    end_met ρ d r t = let m = all-met ρ d r in go m m.where-at
      where
        go : (m : Met ρ d) → ((m.place < h) × (order_at cells s.numbers m.place ≡ d)) ⊎ (h ≤ m.place)
            → (j : ℕ) × (h ≤ j) × (j < s.tail) × NotAfter (paths j) ρ
        go m (inl (l, p)) = false_not_true (g.no_end m.place l) (rw p t)
        go m (inr l) = (m.place, l, m.within, m.not_after)

    -- the h-th cell is an end: its path is the first
    told : h < s.tail → end (order_at cells s.numbers h) ≡ true → FirstTo next start end cells s (order_at cells s.numbers h)
    told lt t = record {
      path = paths h;
      reaches = g.traced.reaches h lt;
      ends = t;
      first = λ ρ d r u. let (j, l, k, n) = end_met ρ d r u in not_after_trans (paths h) (paths j) ρ (no_later j k (below_suc (omega arith))) n;
      back = g.traced.back h lt;
      short = omega (arith, g.traced.short h lt);
    }
      where
        no_later : (j : ℕ) → j < s.tail → (h < j) ⊎ (h ≡ j) → NotAfter (paths h) (paths j)
        no_later j k (inl l) = inr (g.traced.rising h j l k)
        no_later j k (inr e) = inl (ap paths e)

    -- no cell is left: no path leads to an end
    none_left : s.tail ≤ h → (ρ : Trace) (d : ℕ) → Reaches next start ρ d → end d ≡ true → ⊥
    none_left le ρ d r t = let (j, l, k, n) = end_met ρ d r t in omega arith

  -- what an answer means
  abbrev Means : Option ℕ × Search → Type 0
  Means (o, s) = elim o [
    | none ↦ ((ρ : Trace) (d : ℕ) → Reaches next start ρ d → end d ≡ true → ⊥)
    | some c ↦ FirstTo next start end cells s c
  ]

  -- from the h-th cell on the search answers so
  search_means : (k h : ℕ) (s : Search) → h + k ≡ cells → Came states h 0 s → Means (search_from cells next arcs end k h s)
  unfolding search_from
  search_means zero h s p (paths, g) = none_left h s paths g (omega (arith, g.traced.kept.few))
  search_means (suc k) h s p (paths, g) =
      go (ltb h s.tail) refl (end c) refl
      (λ came. search_means k (h + 1) (follow_arcs cells next arcs c 0 s) (omega arith) came)
    where
      c : ℕ
      c = order_at cells s.numbers h

      onward : Option ℕ × Search
      onward = search_from cells next arcs end k (h + 1) (follow_arcs cells next arcs c 0 s)

      go : (a : Bool) → ltb h s.tail ≡ a → (b : Bool) → end c ≡ b
          → (Came states (h + 1) 0 (follow_arcs cells next arcs c 0 s) → Means onward) → Means (if a (if b (some c, s) onward) (none, s))
      go true l true t ih = told h s paths g (ltb_true l) t
      go true l false t ih =
          let (came, there) = arcs_came arcs c 0 h s (omega arith) (ltb_true l) refl (paths, g) in
          ih (cell_came h (follow_arcs cells next arcs c 0 s) came (rw there t))
      go false l true t ih = none_left h s paths g (ltb_false l)
      go false l false t ih = none_left h s paths g (ltb_false l)

  -- ---- the whole search

  module _ (xs : List ℕ) (room : 3 * cells ≤ length xs) (clear : (c : ℕ) → c < cells → far ≤ mark_at cells xs c) where
    -- it has come to the first state where no cell has a mark
    none_came : Came 0 0 0 (search_of xs 0)
    none_came = (
      λ i. trace_of 0 [],
      record {
        traced = record {
          kept = none_found cells xs room clear;
          reaches = λ i l. absurd (omega (arith, l));
          back = λ i l. absurd (omega (arith, l));
          rising = λ i j l k. absurd (omega (arith, k));
          short = λ i l. absurd (omega (arith, l));
        };
        early = λ d π u. none_seen d π u;
        origin = λ i l. absurd (omega (arith, l));
        no_end = λ i l. absurd (omega (arith, l));
      },
    )
      where
        none_seen : {A : Type 0} (d : ℕ) (π : Trace) → Seen next start cells (search_of xs 0) (λ i. trace_of 0 []) 0 0 0 d π → A
        none_seen d π (by_start p l k r) = absurd (omega arith)
        none_seen d π (by_arc i a l k r) = passed_none i a l

    -- so is what the whole search answers
    answer_means : Means (search_from cells next arcs end cells 0 (enter_starts cells start states 0 (search_of xs 0)))
    answer_means = search_means cells 0 (enter_starts cells start states 0 (search_of xs 0)) (omega arith)
        (starts_came states 0 (search_of xs 0) (omega arith) none_came)

    -- the first path that leads to an end leads to the cell that is told, and the marks lead back along it
    pub search_first : (c : ℕ) (s : Search) → search_from cells next arcs end cells 0 (enter_starts cells start states 0 (search_of xs 0)) ≡ (some c, s)
        → FirstTo next start end cells s c
    search_first c s e = subst Means e answer_means

    -- where none is told, no path leads to an end
    pub search_none : (s : Search) → search_from cells next arcs end cells 0 (enter_starts cells start states 0 (search_of xs 0)) ≡ (none, s)
        → (ρ : Trace) (d : ℕ) → Reaches next start ρ d → end d ≡ true → ⊥
    search_none s e = subst Means e answer_means
