-- One arc, the arcs into a state, and the states of the queue one after the other, from what each call gave.
use mathlib.Core.Path.{◌≡◌, refl, sym, ap, subst, ◌∙◌}
use mathlib.Core.Logic.{◌⊎◌, inl, inr, ◌≢◌, ⊎_elim}
use mathlib.Core.Bool.{Bool, true, false, false≢true}
use mathlib.Core.Option.{Option, none, some}
use mathlib.Core.List.{List}
use Prim.Native.Nat.{ℕ, ◌+◌, ◌-◌, ◌*◌, ◌≤◌, ◌<◌, min}
use native.Mathlib.Omega.{arith}
use native.Mathlib.Decide.{ℕ_discrete, dec_le}
use lib.Arith.{digits_lt}
use lib.ListN.{length, get_or, set, length-set, get_or-eq_default}
use lib.Seq.{get_or-set_same, get_or-set_other, set_out}
use Rattle.automata.proofs.Finite.{digits-≡}
use Rattle.table.specs.Endian.{le}
use Rattle.table.specs.declared.answer.Counts.{Counts}
use Rattle.lookup_moves.specs.declared.spot.Spot.{Spot}
use Rattle.lookup_moves.specs.Distances.{far, cells_of, lowered, sum, Trend, Lowers}
use Rattle.lookup_cells.specs.Chains.{first_of, next_of, Chained}
use Rattle.lookup_cells.specs.Queues.{count_of, Queue, Enqueues, Dequeues}
use Rattle.table.specs.Arcs.{source_of, target_of, arc_weight}
use Rattle.lookup_cells.specs.Pushes.{back_by, cell_at, cell_back, passed, pushed, Pushed, start, more, Still, Done, to_do, AllDone, Spaced, Ready, Marking, Visits, Spreads, Pushes, PushesAll, Marks, Settles}
use Rattle.lookup_cells.proofs.QueueFacts.{queue_done}

-- ---- weights only become less

pub lowered-le : (k v : ℕ) (xs : List ℕ) (j : ℕ) → get_or (lowered k v xs) j 0 ≤ get_or xs j 0
unfolding lowered
lowered-le k v xs j = go (ℕ_discrete j k) (dec_le (length xs) k)
  where
    go : Dec (j ≡ k) → Dec (length xs ≤ k) → get_or (set xs k (min (get_or xs k 0) v)) j 0 ≤ get_or xs j 0
    go d (yes out) = rw (set_out xs k (min (get_or xs k 0) v) out) (omega arith)
    go (no ne) (no h) = rw (get_or-set_other xs k j (min (get_or xs k 0) v) 0 ne) (omega arith)
    go (yes e) (no h) = rw (e, get_or-set_same xs k (min (get_or xs k 0) v) 0 (omega arith)) (omega arith)

-- the number found, where it is less than the one there
pub lowered_same : (k v : ℕ) (xs : List ℕ) → k < length xs → get_or (lowered k v xs) k 0 ≡ min (get_or xs k 0) v
unfolding lowered
lowered_same k v xs h = get_or-set_same xs k (min (get_or xs k 0) v) 0 h

pub lowered_other : (k v : ℕ) (xs : List ℕ) (j : ℕ) → j ≢ k → get_or (lowered k v xs) j 0 ≡ get_or xs j 0
unfolding lowered
lowered_other k v xs j h = get_or-set_other xs k j (min (get_or xs k 0) v) 0 h

pub lowered_length : (k v : ℕ) (xs : List ℕ) → length (lowered k v xs) ≡ length xs
unfolding lowered
lowered_length k v xs = length-set xs k (min (get_or xs k 0) v)

-- no more than what was found
lowered_found : (k v : ℕ) (xs : List ℕ) → get_or (lowered k v xs) k 0 ≤ v
lowered_found k v xs = go (dec_le (length xs) k)
  where
    go : Dec (length xs ≤ k) → get_or (lowered k v xs) k 0 ≤ v
    go (yes out) = omega (arith, get_or-eq_default (lowered k v xs) 0 {n = k} (omega (arith, lowered_length k v xs)))
    go (no h) = omega (arith, lowered_same k v xs (omega arith))

pub pushed-le : (tapes e : ℕ) (arcs text : List ℕ) (s : Spot) (xs : List ℕ) (j : ℕ) → get_or (pushed tapes e arcs text s xs) j 0 ≤ get_or xs j 0
unfolding pushed
pushed-le tapes e arcs text s xs j = go (back_by tapes e arcs text s)
  where
    go : (o : Option ℕ) → get_or (passed o (source_of arcs e) (target_of arcs e) (arc_weight arcs e) s xs) j 0 ≤ get_or xs j 0
    go none = omega arith
    go (some k) = lowered-le _ _ xs j

pub pushed_length : (tapes e : ℕ) (arcs text : List ℕ) (s : Spot) (xs : List ℕ) → length (pushed tapes e arcs text s xs) ≡ length xs
unfolding pushed
pushed_length tapes e arcs text s xs = go (back_by tapes e arcs text s)
  where
    go : (o : Option ℕ) → length (passed o (source_of arcs e) (target_of arcs e) (arc_weight arcs e) s xs) ≡ length xs
    go none = refl
    go (some k) = lowered_length _ _ xs

-- an arc that was taken can lower nothing
pushed-still : (tapes e : ℕ) (arcs text : List ℕ) (s : Spot) (xs : List ℕ) → Still tapes e arcs text s (pushed tapes e arcs text s xs)
unfolding pushed
pushed-still tapes e arcs text s xs k b =
    subst (λ (o : Option ℕ). get_or (passed o source target weight s xs) i 0 ≤ weight + get_or (passed o source target weight s xs) j 0) (sym b) (go (ℕ_discrete j i))
  where
    source : ℕ
    source = source_of arcs e

    target : ℕ
    target = target_of arcs e

    weight : ℕ
    weight = arc_weight arcs e

    i : ℕ
    i = cell_back s source k

    j : ℕ
    j = cell_at s target

    go : Dec (j ≡ i) → get_or (passed (some k) source target weight s xs) i 0 ≤ weight + get_or (passed (some k) source target weight s xs) j 0
    go (yes same) = omega (arith, ap (λ (n : ℕ). get_or (lowered i (weight + get_or xs j 0) xs) n 0) same)
    go (no ne) = omega (arith, lowered_found i (weight + get_or xs j 0) xs, lowered_other i (weight + get_or xs j 0) xs j ne)

-- one that can lower nothing stays so where the number of its target stays
still_kept : (tapes e : ℕ) (arcs text : List ℕ) (s : Spot) (xs ys : List ℕ) → ((j : ℕ) → get_or ys j 0 ≤ get_or xs j 0)
    → get_or ys (cell_at s (target_of arcs e)) 0 ≡ get_or xs (cell_at s (target_of arcs e)) 0 → Still tapes e arcs text s xs → Still tapes e arcs text s ys
still_kept tapes e arcs text s xs ys le same h k b = omega (arith, h k b, le (cell_back s (source_of arcs e) k), same)

-- one whose target has no weight can lower nothing
still-far : (tapes e : ℕ) (arcs text : List ℕ) (s : Spot) (xs : List ℕ) → ((j : ℕ) → get_or xs j 0 ≤ far) → far ≤ get_or xs (cell_at s (target_of arcs e)) 0
    → Still tapes e arcs text s xs
still-far tapes e arcs text s xs below out k b = omega (arith, below (cell_back s (source_of arcs e) k), out)

-- ---- one arc

-- the cell of a state and a combination lies in the work space
pub cell_fits : (n q j : ℕ) (s : Spot) (w : List ℕ) → Spaced n s w → q < n → j < s.all → 8 * (q * s.all + j) + 8 ≤ length w
cell_fits n q j s w h lt small = omega (arith, h.fits, digits_lt {q = q} {m = n} {r = j} {c = s.all} lt small)

-- so does one further back
pub cell_fits_back : (n q by : ℕ) (s : Spot) (w : List ℕ) → Spaced n s w → q < n → by ≤ s.number → 8 * (q * s.all + (s.number - by)) + 8 ≤ length w
cell_fits_back n q by s w h lt le = cell_fits n q (s.number - by) s w h lt (omega (arith, h.number_is))

module _ (tapes e : ℕ) (arcs text : List ℕ) (s : Spot) where
  pub visits_stuck : (w : List ℕ) → back_by tapes e arcs text s ≡ none → Visits tapes e arcs text s false w w
  unfolding pushed
  visits_stuck w k =
      record { cells_are = rw k; same_length = refl; no_more = omega arith; less = λ c. absurd (false≢true c); stays = λ q c. refl }

  module _ (by k₁ k₂ source target weight x : ℕ) (changed : Bool) (u w : List ℕ) (k : back_by tapes e arcs text s ≡ some by) (c₁ : k₁ ≡ source_of arcs e) (c₂ : source ≡ k₁ * s.all + (s.number - by))
      (c₃ : k₂ ≡ target_of arcs e) (c₄ : target ≡ k₂ * s.all + s.number) (c₅ : weight ≡ arc_weight arcs e) (c₆ : x ≡ get_or (cells_of w) target 0)
      (l : Lowers source (weight + x) changed u w) where
    moved_cells : cells_of u ≡ pushed tapes e arcs text s (cells_of w)
    unfolding pushed
    moved_cells = l.cells_are ∙ rw (k, c₂, c₁, c₆, c₄, c₃, c₅)

    no_more_of : (b₂ : Bool) → Trend b₂ (cells_of u) (cells_of w) → sum (cells_of u) ≤ sum (cells_of w)
    no_more_of true t = omega (arith, t.less refl)
    no_more_of false t = omega (arith, ap sum (t.still refl))

    other_stays : (j : ℕ) → j ≢ source → get_or (cells_of u) j 0 ≡ get_or (cells_of w) j 0
    other_stays j ne = ap (λ (xs : List ℕ). get_or xs j 0) l.cells_are ∙ lowered_other source (weight + x) (cells_of w) j ne

    -- one with a symbol leaves the numbers at the combination
    pub visits_back : by ≢ 0 → by ≤ s.number → s.number < s.all → Visits tapes e arcs text s false u w
    visits_back some-by le small = record {
      cells_are = moved_cells;
      same_length = l.same_length;
      no_more = no_more_of changed l.trend;
      less = λ c. absurd (false≢true c);
      stays = λ q c. other_stays (cell_at s q) (λ same.
          let (i, j) = digits-≡ s.all q s.number k₁ (s.number - by) small (omega arith) (same ∙ c₂) in some-by (omega (arith, j)));
    }

    -- one without
    pub visits_here : by ≡ 0 → s.number < s.all → Visits tapes e arcs text s changed u w
    visits_here no-by small = record {
      cells_are = moved_cells;
      same_length = l.same_length;
      no_more = no_more_of changed l.trend;
      less = l.trend.less;
      stays = λ q. ⊎_elim (λ z. ap (λ (xs : List ℕ). get_or xs (cell_at s q) 0) (l.trend.still z)) (λ ne.
          other_stays (cell_at s q) (λ same.
          let (i, j) = digits-≡ s.all q s.number k₁ (s.number - by) small (omega arith) (same ∙ c₂) in ne (i ∙ c₁)));
    }

-- ---- the queue after one arc

module _ (c : Counts) (arcs text : List ℕ) (s : Spot) (e : ℕ) (lt : e < c.arcs) (u w : List ℕ) where
  cells_le : (near : Bool) → Visits c.tapes e arcs text s near u w → (j : ℕ) → get_or (cells_of u) j 0 ≤ get_or (cells_of w) j 0
  cells_le near v j = subst (λ (xs : List ℕ). get_or xs j 0 ≤ get_or (cells_of w) j 0) (sym v.cells_are) (pushed-le c.tapes e arcs text s (cells_of w) j)

  reach_one : (near : Bool) → Visits c.tapes e arcs text s near u w → Pushed c arcs text s (cells_of w) (cells_of u)
  reach_one near v = subst (Pushed c arcs text s (cells_of w)) (sym v.cells_are) (more e lt start)

  still_one : (near : Bool) → Visits c.tapes e arcs text s near u w → Still c.tapes e arcs text s (cells_of u)
  still_one near v = subst (Still c.tapes e arcs text s) (sym v.cells_are) (pushed-still c.tapes e arcs text s (cells_of w))

  -- it stays
  pub pushes_far : (near : Bool) (m : List ℕ) → Queue m → Visits c.tapes e arcs text s near u w → near ≡ false → Pushes c arcs text s e u w m m
  pushes_far near m g v f = record {
    spreads = record { reach = reach_one near v; same_length = v.same_length; same_queue = refl; lined = g; no_more = omega (arith, v.no_more) };
    keeps = λ g in_all. ⊎_elim inl (λ h. inr (still_kept c.tapes g arcs text s (cells_of w) (cells_of u) (cells_le near v) (v.stays (target_of arcs g) (inl f)) h));
    settles = still_one near v;
  }

  -- the source waits
  pub pushes_near : (near : Bool) (p : ℕ) (m n : List ℕ) → Visits c.tapes e arcs text s near u w → near ≡ true → p ≡ source_of arcs e → Ready c arcs text s
      → Enqueues p n m → Pushes c arcs text s e u w n m
  pushes_near near p m n v f own ready q = record {
    spreads = record {
      reach = reach_one near v;
      same_length = v.same_length;
      same_queue = q.same_length;
      lined = q.queue;
      no_more = omega (arith, v.less f, q.at_most);
    };
    keeps = λ g in_all d. keep g (omega (arith, (ready.each g in_all).target, ready.few_states)) d (ℕ_discrete (target_of arcs g) p);
    settles = still_one near v;
  }
    where
      keep : (g : ℕ) → target_of arcs g < 1024 → Done c.tapes g arcs text s m (cells_of w) → Dec (target_of arcs g ≡ p) → Done c.tapes g arcs text s n (cells_of u)
      keep g below d (yes same) = inl (omega (arith, ap (λ (k : ℕ). get_or n k 0) same, q.own))
      keep g below d (no ne) = ⊎_elim (λ h. inl (q.keeps (target_of arcs g) below h))
          (λ h. inr (still_kept c.tapes g arcs text s (cells_of w) (cells_of u) (cells_le near v) (v.stays (target_of arcs g) (inr (λ z. ne (z ∙ sym own)))) h)) d

-- ---- one after the other

-- the chains are as before
pub marking_kept : (c : Counts) (arcs index m n : List ℕ) → Queue n → Marking c arcs index m → Marking c arcs index n
marking_kept c arcs index m n g p = record { chained = p.chained; lined = g }

module _ (c : Counts) (arcs text : List ℕ) (s : Spot) where
  pushed-join : (xs ys zs : List ℕ) → Pushed c arcs text s xs ys → Pushed c arcs text s ys zs → Pushed c arcs text s xs zs
  pushed-join xs ys zs p start = p
  pushed-join xs ys zs p (more {ys = vs} e lt q) = more e lt (pushed-join xs ys vs p q)

  pub pushed-all-le : (xs ys : List ℕ) → Pushed c arcs text s xs ys → (j : ℕ) → get_or ys j 0 ≤ get_or xs j 0
  pushed-all-le xs ys start j = omega arith
  pushed-all-le xs ys (more {ys = vs} e lt q) j = omega (arith, pushed-all-le xs vs q j, pushed-le c.tapes e arcs text s vs j)

  -- cells behind those of the states stay
  pub reach_rest : Ready c arcs text s → s.number < s.all → (xs ys : List ℕ) → Pushed c arcs text s xs ys → (j : ℕ) → c.states * s.all ≤ j → get_or ys j 0 ≡ get_or xs j 0
  unfolding pushed
  reach_rest ready small xs ys start j out = refl
  reach_rest ready small xs ys (more {ys = vs} e lt q) j out = pushed_rest (back_by c.tapes e arcs text s) ∙ reach_rest ready small xs vs q j out
    where
      pushed_rest : (o : Option ℕ) → get_or (passed o (source_of arcs e) (target_of arcs e) (arc_weight arcs e) s vs) j 0 ≡ get_or vs j 0
      pushed_rest none = refl
      pushed_rest (some k) = lowered_other (cell_back s (source_of arcs e) k) (arc_weight arcs e + get_or vs (cell_at s (target_of arcs e)) 0) vs j
          (λ same. omega (arith, same, out, digits_lt {q = source_of arcs e} {m = c.states} {r = s.number - k} {c = s.all} (ready.each e lt).source (omega arith)))

  pub spreads_none : (w m : List ℕ) → Queue m → Spreads c arcs text s w w m m
  spreads_none w m g = record { reach = start; same_length = refl; same_queue = refl; lined = g; no_more = omega arith }

  pub spreads_join : (w₁ w₂ w₃ m₁ m₂ m₃ : List ℕ) → Spreads c arcs text s w₂ w₁ m₂ m₁ → Spreads c arcs text s w₃ w₂ m₃ m₂ → Spreads c arcs text s w₃ w₁ m₃ m₁
  spreads_join w₁ w₂ w₃ m₁ m₂ m₃ p q = record {
    reach = pushed-join (cells_of w₁) (cells_of w₂) (cells_of w₃) p.reach q.reach;
    same_length = q.same_length ∙ p.same_length;
    same_queue = q.same_queue ∙ p.same_queue;
    lined = q.lined;
    no_more = omega (arith, p.no_more, q.no_more);
  }

  -- the work space is as before
  pub spaced_kept : (n : ℕ) (v w : List ℕ) → length w ≡ length v → Pushed c arcs text s (cells_of v) (cells_of w) → Spaced n s v → Spaced n s w
  spaced_kept n v w l r p =
      record { number_is = p.number_is; fits = omega (arith, p.fits, l); below = λ k. omega (arith, pushed-all-le (cells_of v) (cells_of w) r k, p.below k) }

  -- ---- the arcs into a state

  -- those before e in the chain of q took the work space from v to w and the queue from a to m
  pub record Chaining (q : ℕ) (v a : List ℕ) (e : ℕ) (w m : List ℕ) : Type 0 where
    pub spreads : Spreads c arcs text s w v m a
    pub in_chain : e < c.arcs → target_of arcs e ≡ q
    pub settles : ((f : ℕ) → f < c.arcs → target_of arcs f ≢ q → Done c.tapes f arcs text s a (cells_of v))
        → (f : ℕ) → f < c.arcs → (Done c.tapes f arcs text s m (cells_of w)) ⊎ ((e ≤ f) × (target_of arcs f ≡ q))

  module _ (index : List ℕ) (ch : Chained (target_of arcs) c.arcs index) (q : ℕ) (small : q < 1024) (v a : List ℕ) where
    pub chaining_start : (e : ℕ) → Queue a → e ≡ first_of index q → Chaining q v a e v a
    chaining_start e lined i = record {
      spreads = spreads_none v a lined;
      in_chain = λ lt. ap (target_of arcs) i ∙ ch.first_is q small (omega (arith, i));
      settles = λ h f lt. go h f lt (ℕ_discrete (target_of arcs f) q) (dec_le e f);
    }
      where
        go : ((f : ℕ) → f < c.arcs → target_of arcs f ≢ q → Done c.tapes f arcs text s a (cells_of v)) → (f : ℕ) → f < c.arcs → Dec (target_of arcs f ≡ q) → Dec (e ≤ f)
            → (Done c.tapes f arcs text s a (cells_of v)) ⊎ ((e ≤ f) × (target_of arcs f ≡ q))
        go h f lt (no other) d = inl (h f lt other)
        go h f lt (yes own) (yes le) = inr (le, own)
        go h f lt (yes own) (no gt) = absurd (ch.first-none q small f (omega arith) lt (omega (arith, i)) own)

    module _ (e : ℕ) (w m : List ℕ) (g : Chaining q v a e w m) where
      pub chaining_turn : (x : ℕ) (u n : List ℕ) → e < c.arcs → x ≡ next_of index e → Pushes c arcs text s e u w n m → Chaining q v a x u n
      chaining_turn x u n lt i p = record {
        spreads = spreads_join v w u a m n g.spreads p.spreads;
        in_chain = λ more_left. ap (target_of arcs) i ∙ ch.next_is e (omega arith) lt (omega (arith, i)) ∙ g.in_chain lt;
        settles = λ h f in_all. go f in_all (ℕ_discrete f e) (dec_le x f) (g.settles h f in_all);
      }
        where
          go : (f : ℕ) → f < c.arcs → Dec (f ≡ e) → Dec (x ≤ f) → (Done c.tapes f arcs text s m (cells_of w)) ⊎ ((e ≤ f) × (target_of arcs f ≡ q))
              → (Done c.tapes f arcs text s n (cells_of u)) ⊎ ((x ≤ f) × (target_of arcs f ≡ q))
          go f in_all (yes own) d k = inl (inr (subst (λ (z : ℕ). Still c.tapes z arcs text s (cells_of u)) (sym own) p.settles))
          go f in_all (no other) d (inl k) = inl (p.keeps f in_all k)
          go f in_all (no other) (yes le) (inr k) = inr (le, k.1)
          go f in_all (no other) (no gt) (inr k) =
              absurd (ch.next_none e (omega arith) lt f (omega (arith, k.0, other)) in_all (omega (arith, i)) (k.1 ∙ sym (g.in_chain lt)))

      pub chaining_end : c.arcs ≤ e → PushesAll c arcs text s q w v m a
      chaining_end out = record {
        spreads = g.spreads;
        settles = λ h f lt. ⊎_elim (λ d. d) (λ k. absurd (omega (arith, k.0))) (g.settles h f lt);
      }

  -- ---- until no state waits

  -- arcs took the work space from v to w and the queue from a to m, and each can lower nothing or its target waits
  pub record Settling (v a w m : List ℕ) : Type 0 where
    pub reach : Pushed c arcs text s (cells_of v) (cells_of w)
    pub same_length : length w ≡ length v
    pub same_queue : length m ≡ length a
    pub lined : Queue m
    pub settles : AllDone c arcs text s m w

  module _ (v a : List ℕ) where
    pub settling_start : Queue a → AllDone c arcs text s a v → Settling v a v a
    settling_start g h = record { reach = start; same_length = refl; same_queue = refl; lined = g; settles = h }

    module _ (w m : List ℕ) (g : Settling v a w m) (ready : Ready c arcs text s) where
      -- the first state and the arcs into it
      pub settling_turn : (p : ℕ) (n₁ u n : List ℕ) → Dequeues p n₁ m → PushesAll c arcs text s p u w n n₁ → Settling v a u n
      settling_turn p n₁ u n d k = record {
        reach = pushed-join (cells_of v) (cells_of w) (cells_of u) g.reach k.spreads.reach;
        same_length = k.spreads.same_length ∙ g.same_length;
        same_queue = k.spreads.same_queue ∙ d.same_length ∙ g.same_queue;
        lined = k.spreads.lined;
        settles = k.settles (λ f lt other. keep f (omega (arith, (ready.each f lt).target, ready.few_states)) other (g.settles f lt));
      }
        where
          keep : (f : ℕ) → target_of arcs f < 1024 → target_of arcs f ≢ p → Done c.tapes f arcs text s m (cells_of w) → Done c.tapes f arcs text s n₁ (cells_of w)
          keep f below other = ⊎_elim (λ h. inl (d.keeps (target_of arcs f) below other h)) inr

      pub settling_less : (p : ℕ) (n₁ u n : List ℕ) → Dequeues p n₁ m → PushesAll c arcs text s p u w n n₁ → to_do n (cells_of u) < to_do m (cells_of w)
      settling_less p n₁ u n d k = omega (arith, k.spreads.no_more, d.one_less)

      pub settling_end : count_of m ≡ 0 → Settles c arcs text s w v
      settling_end none-wait = record {
        reach = g.reach;
        same_length = g.same_length;
        still = λ f lt.
            let z = queue_done m g.lined none-wait (target_of arcs f) (omega (arith, (ready.each f lt).target, ready.few_states)) in
            ⊎_elim (λ h. absurd (omega (arith, h, z))) (λ h. h) (g.settles f lt);
      }

  -- where the states with a weight wait, an arc into another can lower nothing
  pub marks_done : (v n m : List ℕ) → Ready c arcs text s → Spaced c.states s v → Marks c.states s v n m → AllDone c arcs text s n v
  marks_done v n m ready p k f lt = ⊎_elim inl (λ z. inr (still-far c.tapes f arcs text s (cells_of v) p.below z)) (k.each (target_of arcs f) (ready.each f lt).target)

-- ---- putting the states with a weight into the queue

-- the states before q are seen
pub record Reaching (states : ℕ) (s : Spot) (work a : List ℕ) (q : ℕ) (m : List ℕ) : Type 0 where
  pub same_queue : length m ≡ length a
  pub lined : Queue m
  pub in_all : q ≤ states
  pub each : (p : ℕ) → p < q → (0 < get_or m p 0) ⊎ (far ≤ get_or (cells_of work) (cell_at s p) 0)

module _ (states : ℕ) (s : Spot) (work a : List ℕ) where
  pub reaching-start : Queue a → Reaching states s work a 0 a
  reaching-start g = record { same_queue = refl; lined = g; in_all = omega arith; each = λ p lt. absurd (omega arith) }

  module _ (q : ℕ) (m : List ℕ) (g : Reaching states s work a q m) (lt : q < states) where
    pub reaching_skip : (k x : ℕ) → k ≡ cell_at s q → x ≡ get_or (cells_of work) k 0 → far ≤ x → Reaching states s work a (q + 1) m
    reaching_skip k x i j le = record { same_queue = g.same_queue; lined = g.lined; in_all = omega arith; each = λ p l. go p l (ℕ_discrete p q) }
      where
        go : (p : ℕ) → p < q + 1 → Dec (p ≡ q) → (0 < get_or m p 0) ⊎ (far ≤ get_or (cells_of work) (cell_at s p) 0)
        go p l (yes same) = inr (omega (arith, le, j ∙ ap (λ (z : ℕ). get_or (cells_of work) z 0) i, ap (λ (z : ℕ). get_or (cells_of work) (cell_at s z) 0) same))
        go p l (no other) = g.each p (omega arith)

    pub reaching_take : (n : List ℕ) → states ≤ 1024 → Enqueues q n m → Reaching states s work a (q + 1) n
    reaching_take n few e = record {
      same_queue = e.same_length ∙ g.same_queue;
      lined = e.queue;
      in_all = omega arith;
      each = λ p l. go p l (ℕ_discrete p q);
    }
      where
        go : (p : ℕ) → p < q + 1 → Dec (p ≡ q) → (0 < get_or n p 0) ⊎ (far ≤ get_or (cells_of work) (cell_at s p) 0)
        go p l (yes same) = inl (omega (arith, ap (λ (z : ℕ). get_or n z 0) same, e.own))
        go p l (no other) = ⊎_elim (λ h. inl (e.keeps p (omega arith) h)) inr (g.each p (omega arith))

  pub reaching_end : (q : ℕ) (m : List ℕ) → Reaching states s work a q m → states ≤ q → Marks states s work m a
  reaching_end q m g out = record { same_queue = g.same_queue; lined = g.lined; each = λ p lt. g.each p (omega arith) }
