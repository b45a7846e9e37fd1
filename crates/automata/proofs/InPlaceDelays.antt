-- Relaxation in place, and then divergence in place, find the least closing delays, from all delays that stand for runs
-- and are no greater than those of the empty run: `in-place-least`. In place a delay may be that of a run of any
-- length, also one that goes round a cycle; where it is below those of all short runs, delays are endless.
use mathlib.Core.Path.{◌≡◌, refl, sym, ap, ◌∙◌}
use mathlib.Core.Logic.{◌≢◌, ◌⊎◌, inl, inr}
use mathlib.Core.Bool.{Bool, true, false}
use mathlib.Core.Option.{some}
use mathlib.Core.List.{List, [], ◌∷◌, ◌++◌}
use Prim.Native.Nat.{ℕ, zero, suc, ◌+◌, ◌-◌, ◌≤◌, ◌<◌, min}
use native.Mathlib.Decide.{ℕ_discrete, dec_le, dec_lt}
use native.Mathlib.Omega.{arith}
use lib.Dec.{eqb, ltb}
use lib.ListN.{length, get_or, get_elem?, take, drop, length-append, length-map}
use lib.Seq.{ext_get_or}
use borrow.Author.Tests.{ltb-true, ltb-false, eqb-true}
use Rattle.automata.specs.Lists.{if, is_some}
use Rattle.automata.specs.Graph.{Walk, Leads, stop, step, vertex_at}
use Rattle.automata.specs.Rounds.{iterate}
use Rattle.automata.specs.InPlace.{round_in_place}
use Rattle.automata.specs.Automaton.{Automaton, Arc, size, label_on, graph, Final, Formed, length_on, Closes}
use Rattle.automata.specs.Closing.{origin, endless, missing, start_delays, through, relax, diverge, least_delays}
use Rattle.automata.proofs.Finite.{pigeonhole, Marking, marks_stable}
use Rattle.automata.proofs.Walks.{vertex_at_lt, Cycle, cycle_at, walk_append}
use Rattle.automata.proofs.AutomatonFacts.{length_on_nil, length_on_cons, length_on_append}
use Rattle.automata.proofs.RelaxedDelays.{Through, through-cases, from-missing, from-endless, from_finite, start_attained, length_on-le, delay_after, relaxed_below, Endless, negative_cycle, endless_before}
use Rattle.automata.proofs.ClosingDelays.{LeastDelay, least_delays_least, relaxed-range, diverged-range, length_diverged}
use Rattle.automata.proofs.InPlaceFacts.{length_in_place, length_rounds_in_place, in_place_keeps, rounds_keep, in_place_brings, in_place_below}

-- ---- through an arc

-- x is at most z, a number that comes up
abbrev Below : ℕ → ℕ → Type 0
Below x z = (x ≤ z) × (z ≤ missing)

-- what is less stays so when the same is added and taken off, and where the lesser of two is taken
sum_less : (u v up down : ℕ) → u ≤ v → u + up - down ≤ v + up - down
sum_less u v up down h = omega arith

min_less : (x y m z : ℕ) → x ≤ m → y ≤ z → min x y ≤ min m z
min_less x y m z h l = omega arith

module _ {W : Type 0} (i j : ℕ) where
  -- the least delay through an arc, or missing where it is greater
  abbrev via : Arc W → ℕ → ℕ
  via a v = min missing (through i j a v)

  -- a lesser delay of the target gives a lesser one through the arc
  through_less : (a : Arc W) (x u v y z : ℕ) → x ≤ missing → Below u v → Through i j a u y → Through i j a v z → min x y ≤ min missing z
  through_less a x u v y z h l s (from-missing m t) = omega arith
  through_less a x u v y z h l (from-missing n s) (from-endless m t) = absurd (omega arith)
  through_less a x u v y z h l (from-endless n s) (from-endless m t) = omega arith
  through_less a x u v y z h l (from_finite n₁ n₂ s) (from-endless m t) = absurd (n₂ (omega arith))
  through_less a x u v y z h l (from-missing n s) (from_finite m₁ m₂ t) = absurd (m₁ (omega arith))
  through_less a x u v y z h l (from-endless n s) (from_finite m₁ m₂ t) = omega arith
  through_less a x u v y z h l (from_finite n₁ n₂ s) (from_finite m₁ m₂ t) =
      min_less x y missing z h (rw (s, t) (sum_less u v (length (label_on i a)) (length (label_on j a)) l.0))

  relax_falls : (a : Arc W) (old : List ℕ) (x z : ℕ) → Below x z → Below (relax i j a old x) z
  relax_falls a old x z h = (omega arith, h.1)

  relax_brings : (a : Arc W) (old : List ℕ) (x z v : ℕ) → Below x z → Below (get_or old a.target missing) v → Below (relax i j a old x) (via a v)
  relax_brings a old x z v h l =
      let u = get_or old a.target missing in
      (through_less a x u v (through i j a u) (through i j a v) (omega arith) l (through-cases i j a u) (through-cases i j a v), omega arith)

  relax_meets : (a : Arc W) (old : List ℕ) (x z : ℕ) → Below z x → Below z (via a (get_or old a.target missing)) → Below z (relax i j a old x)
  relax_meets a old x z h g = (omega arith, omega arith)

  diverge_falls : (a : Arc W) (old : List ℕ) (x z : ℕ) → Below x z → Below (diverge i j a old x) z
  diverge_falls a old x z h = go (ltb (through i j a (get_or old a.target missing)) x)
    where
      go : (b : Bool) → Below (if b endless x) z
      go true = (omega arith, h.1)
      go false = h

  diverge_brings : (a : Arc W) (old : List ℕ) (x z v : ℕ) → Below x z → Below (get_or old a.target missing) v → Below (diverge i j a old x) (via a v)
  diverge_brings a old x z v h l = go (ltb (through i j a u) x) refl
    where
      u : ℕ
      u = get_or old a.target missing

      go : (b : Bool) → ltb (through i j a u) x ≡ b → Below (if b endless x) (via a v)
      go true e = (omega arith, omega arith)
      go false e =
          let k : x ≤ through i j a u = ltb-false (through i j a u) x e in
          let m = through_less a x u v (through i j a u) (through i j a v) (omega arith) l (through-cases i j a u) (through-cases i j a v) in (omega arith, omega arith)

module _ {W : Type 0} (A : Automaton W) (ok : Formed A) (i j : ℕ) where
  -- the delay of q after as many rounds as there are states: the least over short runs
  abbrev short : ℕ → ℕ
  short q = (delay_after A ok i j) (size A) q

  -- ---- long runs

  -- a run of at most as many arcs as there are states that closes as well, and has no greater delay unless delays are
  -- endless
  abbrev Shortened : ℕ → List (Arc W) → Type 0
  Shortened q es = (fs : List (Arc W)) × Closes A q fs × (length fs ≤ size A) × ((Endless A ok i j) q ⊎ (length_on i fs + length_on j es ≤ length_on i es + length_on j fs))

  -- a run is shortened by one cycle after the other
  shortened : (k q : ℕ) {r : List ℕ} {es : List (Arc W)} {p : ℕ} → length es ≤ k → q < size A → Walk (graph A) q r es p → Final A p → Shortened q es
  shortened zero q {r} {es} {p} le lt w f = (es, (p, (r, w), f), omega arith, inr (omega arith))
  shortened (suc k) q {r} {es} {p} le lt w f = go (λ r' fs l v. shortened k q {r = r'} {es = fs} {p = p} l lt v f) (dec_le (length es) (size A))
    where
      without : ((r' : List ℕ) (fs : List (Arc W)) → length fs ≤ k → Walk (graph A) q r' fs p → Shortened q fs) → (x y : ℕ) → Cycle (graph A) q es p x y → Shortened q es
      without ih x y c = turn (ih _ (take x es ++ drop y es) fewer (walk_append c.to.1 c.on.1)) (dec_lt (length_on i c.cycle) (length_on j c.cycle))
        where
          arcs : length es ≡ length (take x es) + (length c.cycle + length (drop y es))
          arcs = ap length c.parts ∙ simp length-append

          tape : (t : ℕ) → length_on t es ≡ length_on t (take x es) + (length_on t c.cycle + length_on t (drop y es))
          tape t = ap (length_on t) c.parts ∙ simp length_on_append

          fewer : length (take x es ++ drop y es) ≤ k
          fewer = simp length-append (omega (arith, arcs, c.some_arc, le))

          turn : Shortened q (take x es ++ drop y es) → Dec (length_on i c.cycle < length_on j c.cycle) → Shortened q es
          turn (fs, d, s, h) (yes neg) =
              (fs, d, s, inl ((negative_cycle A ok i j) q (vertex_at (graph A) q es x) p (take x es) c.cycle (drop y es) c.to c.around c.on f neg))
          turn (fs, d, s, inl h) (no neg) = (fs, d, s, inl h)
          turn (fs, d, s, inr h) (no neg) =
              (fs, d, s, inr (omega (arith, h, tape i, tape j, length_on_append i (take x es) (drop y es), length_on_append j (take x es) (drop y es))))

      go : ((r' : List ℕ) (fs : List (Arc W)) → length fs ≤ k → Walk (graph A) q r' fs p → Shortened q fs) → Dec (length es ≤ size A) → Shortened q es
      go ih (yes h) = (es, (p, (r, w), f), h, inr (omega arith))
      go ih (no h) =
          let (x, y, x<y, y≤n, same) = pigeonhole (size A) (vertex_at (graph A) q es) (λ m l. vertex_at_lt (size A) ok.within m w lt) in
          without ih x y (cycle_at w x y x<y (omega arith) same)

  -- a run below all short ones makes delays endless
  below_endless : (q : ℕ) (es : List (Arc W)) → q < size A → Closes A q es → origin + length_on i es < short q + length_on j es → (Endless A ok i j) q
  below_endless q es lt (p, (r, w), f) less = go (shortened (length es) q (omega arith) lt w f)
    where
      go : Shortened q es → (Endless A ok i j) q
      go (fs, d, s, inl h) = h
      go (fs, (p', (r', w'), f'), s, inr h) = absurd (omega (arith, less, h, (relaxed_below A ok i j) (size A) (omega arith) w' f' lt s))

  -- where a run closes, a short one does
  closes_short : (q : ℕ) (es : List (Arc W)) → q < size A → Closes A q es → short q ≤ 24576
  closes_short q es lt (p, (r, w), f) = go (shortened (length es) q (omega arith) lt w f)
    where
      go : Shortened q es → short q ≤ 24576
      go (fs, (p', (r', w'), f'), s, h) = omega (arith, (relaxed_below A ok i j) (size A) (omega arith) w' f' lt s, length_on-le A ok i w', ok.few)

  short-range : (q : ℕ) → q < size A → (short q ≡ missing) ⊎ ((8192 ≤ short q) × (short q ≤ 24576))
  unfolding delay_after
  short-range q lt = (relaxed-range A ok i j) (size A) (omega arith) q lt

  short_positive : (q : ℕ) → q < size A → 0 < short q
  short_positive q lt = go (short-range q lt)
    where
      go : (short q ≡ missing) ⊎ ((8192 ≤ short q) × (short q ≤ 24576)) → 0 < short q
      go (inl e) = omega arith
      go (inr e) = omega arith

  -- ---- what a delay in place stands for

  -- v is missing, or endless and is so, or the delay of a run that closes
  abbrev pub Held : ℕ → ℕ → Type 0
  Held q v = (v ≡ missing) ⊎ (((v ≡ endless) × (Endless A ok i j) q)
      ⊎ ((v ≢ endless) × (v < missing) × ((es : List (Arc W)) × Closes A q es × (origin + length_on i es ≡ v + length_on j es))))

  held_fits : (q v : ℕ) → Held q v → v ≤ missing
  held_fits q v (inl e) = omega arith
  held_fits q v (inr (inl e)) = omega arith
  held_fits q v (inr (inr (m, l, e))) = omega arith

  module _ (e : ℕ) (a : Arc W) (at : get_elem? A.arcs e ≡ some a) where
    source_lt : a.source < size A
    source_lt = (ok.within e a at).0

    -- a delay through an arc that is below those of all short runs is that of a long one
    arc-endless : (v y : ℕ) → Through i j a v y → Held a.target v → y < missing → y < short a.source → (Endless A ok i j) a.source
    arc-endless v y (from-missing m t) h l less = absurd (omega arith)
    arc-endless v y (from-endless m t) (inl h) l less = absurd (omega arith)
    arc-endless v y (from-endless m t) (inr (inl h)) l less = (endless_before A ok i j) a.source e a at refl h.1
    arc-endless v y (from-endless m t) (inr (inr h)) l less = absurd (h.0 m)
    arc-endless v y (from_finite m₁ m₂ t) (inl h) l less = absurd (m₁ h)
    arc-endless v y (from_finite m₁ m₂ t) (inr (inl h)) l less = absurd (m₂ h.0)
    arc-endless v y (from_finite m₁ m₂ t) (inr (inr (h, b, (es, (p, (r, w), f), eq)))) l less =
        below_endless a.source (a ∷ es) source_lt (p, (e ∷ r, step at refl w), f) (omega (arith, eq, t, less, length_on_cons i a es, length_on_cons j a es))

    pub arc-held : (v y : ℕ) → Through i j a v y → Held a.target v → y < missing → Held a.source y
    arc-held v y t h l = go (ℕ_discrete y endless) t h
      where
        go : Dec (y ≡ endless) → Through i j a v y → Held a.target v → Held a.source y
        go (yes z) t h = inr (inl (z, arc-endless v y t h l (omega (arith, short_positive a.source source_lt))))
        go (no z) (from-missing m t) h = inl t
        go (no z) (from-endless m t) h = absurd (z t)
        go (no z) (from_finite m₁ m₂ t) (inl h) = absurd (m₁ h)
        go (no z) (from_finite m₁ m₂ t) (inr (inl h)) = absurd (m₂ h.0)
        go (no z) (from_finite m₁ m₂ t) (inr (inr (h, b, (es, (p, (r, w), f), eq)))) =
            let pos : 0 < y = positive y z in
            inr (inr (z, l, (a ∷ es, (p, (e ∷ r, step at refl w), f), omega (arith, eq, t, pos, length_on_cons i a es, length_on_cons j a es))))
          where
            positive : (y : ℕ) → y ≢ endless → 0 < y
            positive zero z = absurd (z refl)
            positive (suc y) z = omega arith

  -- a cycle of negative delay makes a delay that is not missing endless
  pub cycle_held : (q v : ℕ) (c : List (Arc W)) → Leads (graph A) q c q → length_on i c < length_on j c → v ≢ missing → Held q v → Held q endless
  cycle_held q v c around neg m (inl e) = absurd (m e)
  cycle_held q v c around neg m (inr (inl (e, b))) = inr (inl (refl, b))
  cycle_held q v c around neg m (inr (inr (z, l, (es, (p, on, f), eq)))) = inr (inl (refl, (negative_cycle A ok i j) q q p [] c es ([], stop) around on f neg))

  length_start : length (start_delays A) ≡ size A
  length_start = length-map A.states (λ s. if (is_some s.final) origin missing)

  pub start-held : (q : ℕ) → Held q (get_or (start_delays A) q missing)
  start-held q = go (ℕ_discrete (get_or (start_delays A) q missing) missing)
    where
      go : Dec (get_or (start_delays A) q missing ≡ missing) → Held q (get_or (start_delays A) q missing)
      go (yes m) = inl m
      go (no m) =
          let (f, e) = start_attained A q m in
          inr (inr (λ z. absurd (omega arith), omega arith, ([], (q, ([], stop), f), omega (arith, e, length_on_nil W i, length_on_nil W j))))

  relax-held : (e : ℕ) (a : Arc W) → get_elem? A.arcs e ≡ some a → (x v y : ℕ) → Through i j a v y → Held a.source x → Held a.target v → Held a.source (min x y)
  relax-held e a at x v y t h g = go (dec_le x y)
    where
      go : Dec (x ≤ y) → Held a.source (min x y)
      go (yes l) = let z : min x y ≡ x = omega arith in rw z h
      go (no l) = let z : min x y ≡ y = omega arith in rw z (arc-held e a at v y t g (omega (arith, held_fits a.source x h)))

  -- ys: delays that stand for runs, none greater than that of the empty run
  module _ (ys : List ℕ) (all : length ys ≡ size A) (held : (q : ℕ) → q < size A → Held q (get_or ys q missing))
      (less : (q : ℕ) → q < size A → get_or ys q missing ≤ get_or (start_delays A) q missing) where
    -- ---- relaxation in place

    abbrev pub relaxed_in_place : ℕ → List ℕ
    relaxed_in_place k = iterate k (round_in_place (graph A) missing (relax i j)) ys

    relaxed-held : (k q : ℕ) → q < size A → Held q (get_or (relaxed_in_place k) q missing)
    relaxed-held k = rounds_keep (graph A) missing (relax i j) (size A) Held k ys all held
        (λ e a at ys h. relax-held e a at (get_or ys a.source missing) (get_or ys a.target missing) (through i j a (get_or ys a.target missing))
        (through-cases i j a (get_or ys a.target missing)) (h a.source (ok.within e a at).0) (h a.target (ok.within e a at).1))

    relaxed-short : (q : ℕ) → q < size A → get_or (relaxed_in_place (size A)) q missing ≤ short q
    unfolding delay_after
    relaxed-short q lt = (in_place_below (graph A) missing (relax i j) (size A) ok.within Below (via i j) (relax_falls i j) (relax_brings i j) (relax_meets i j)
        (size A) ys (start_delays A) all length_start (λ q lt. (less q lt, held_fits q (get_or (start_delays A) q missing) (start-held q))) q lt).0

    -- ---- divergence in place

    abbrev pub diverged_in_place : ℕ → List ℕ
    diverged_in_place k = iterate k (round_in_place (graph A) missing (diverge i j)) (relaxed_in_place (size A))

    length_relaxed_in_place : length (relaxed_in_place (size A)) ≡ size A
    length_relaxed_in_place = length_rounds_in_place (graph A) missing (relax i j) (size A) ys ∙ all

    -- a delay stands for what it did, and is at most that of all short runs
    abbrev HeldShort : ℕ → ℕ → Type 0
    HeldShort q v = Held q v × (v ≤ short q)

    diverge-held : (e : ℕ) (a : Arc W) → get_elem? A.arcs e ≡ some a → (x v y : ℕ) → Through i j a v y → HeldShort a.source x → Held a.target v
        → (b : Bool) → ltb y x ≡ b → HeldShort a.source (if b endless x)
    diverge-held e a at x v y t h g true l =
        let k : y < x = ltb-true y x l in
        (inr (inl (refl, arc-endless e a at v y t g (omega (arith, held_fits a.source x h.0)) (omega (arith, h.1)))), omega arith)
    diverge-held e a at x v y t h g false l = h

    diverged-held : (k q : ℕ) → q < size A → HeldShort q (get_or (diverged_in_place k) q missing)
    diverged-held k = rounds_keep (graph A) missing (diverge i j) (size A) HeldShort k (relaxed_in_place (size A)) length_relaxed_in_place
        (λ q lt. (relaxed-held (size A) q lt, relaxed-short q lt))
        (λ e a at ys h. diverge-held e a at (get_or ys a.source missing) (get_or ys a.target missing) (through i j a (get_or ys a.target missing))
        (through-cases i j a (get_or ys a.target missing)) (h a.source (ok.within e a at).0) (h a.target (ok.within e a at).1).0
        (ltb (through i j a (get_or ys a.target missing)) (get_or ys a.source missing)) refl)

    diverge_marking : (xs : List ℕ) → length xs ≡ size A → (q : ℕ) → q < size A
        → Marking (λ x. eqb x endless) (get_or xs q missing) (get_or (round_in_place (graph A) missing (diverge i j) xs) q missing)
    diverge_marking xs len =
        in_place_keeps (graph A) missing (diverge i j) (size A) (λ q y. Marking (λ x. eqb x endless) (get_or xs q missing) y) xs A.arcs len (λ q lt. inl refl)
        (λ e a at ys h. go (get_or xs a.source missing) (get_or ys a.source missing) (h a.source (ok.within e a at).0)
        (ltb (through i j a (get_or ys a.target missing)) (get_or ys a.source missing)) (eqb (get_or xs a.source missing) endless) refl)
      where
        go : (z x : ℕ) → Marking (λ x. eqb x endless) z x → (b d : Bool) → eqb z endless ≡ d → Marking (λ x. eqb x endless) z (if b endless x)
        go z x before false d m = before
        go z x before true true m = inl (sym (eqb-true z endless m))
        go z x before true false m = inr (m, refl)

    -- the last round changes nothing
    diverged_stable : round_in_place (graph A) missing (diverge i j) (diverged_in_place (size A)) ≡ diverged_in_place (size A)
    diverged_stable = marks_stable (λ x. eqb x endless) missing (size A) (round_in_place (graph A) missing (diverge i j))
        (λ xs len. length_in_place (graph A) missing (diverge i j) xs A.arcs ∙ len) diverge_marking (relaxed_in_place (size A)) length_relaxed_in_place

    length_diverged_in_place : length (diverged_in_place (size A)) ≡ size A
    length_diverged_in_place = length_rounds_in_place (graph A) missing (diverge i j) (size A) (relaxed_in_place (size A)) ∙ length_relaxed_in_place

    -- ---- the delays found

    found_in_place : ℕ → ℕ
    found_in_place q = get_or (diverged_in_place (size A)) q missing

    found_held : (q : ℕ) → q < size A → HeldShort q (found_in_place q)
    unfolding found_in_place
    found_held = diverged-held (size A)

    -- no arc makes a delay less
    found_through : (e : ℕ) (a : Arc W) → get_elem? A.arcs e ≡ some a → found_in_place a.source ≤ through i j a (found_in_place a.target)
    unfolding found_in_place
    found_through e a at =
        let b = in_place_brings (graph A) missing (diverge i j) (size A) ok.within Below (via i j) (diverge_falls i j) (diverge_brings i j)
        (λ q. get_or (diverged_in_place (size A)) q missing) (diverged_in_place (size A)) length_diverged_in_place
        (λ q lt. (omega arith, held_fits q (get_or (diverged_in_place (size A)) q missing) (found_held q lt).0)) e a at in
        omega (arith, rw diverged_stable at b.0)

    -- no run that closes has a delay below the one found
    found_below : {q : ℕ} {r : List ℕ} {es : List (Arc W)} {p : ℕ} → Walk (graph A) q r es p → Final A p → q < size A
        → (found_in_place q ≡ endless) ⊎ (found_in_place q + length_on j es ≤ origin + length_on i es)
    found_below {q} stop f lt = inr (omega (arith, (found_held q lt).1, (relaxed_below A ok i j) (size A) (omega arith) stop f lt (omega arith)))
    found_below (step {q} {e} {a} {r} {es} {p} at from w) f lt =
        let n : a.target < size A = (ok.within e a at).1 in
        go (through i j a (found_in_place a.target)) (rw from at (found_through e a at)) (through-cases i j a (found_in_place a.target))
        (omega (arith, (found_held a.target n).1, closes_short a.target es n (p, (r, w), f))) (found_below w f n)
      where
        go : (y : ℕ) → found_in_place q ≤ y → Through i j a (found_in_place a.target) y → found_in_place a.target ≤ 24576
            → (found_in_place a.target ≡ endless) ⊎ (found_in_place a.target + length_on j es ≤ origin + length_on i es)
            → (found_in_place q ≡ endless) ⊎ (found_in_place q + length_on j (a ∷ es) ≤ origin + length_on i (a ∷ es))
        go y le (from-missing m t) few ih = absurd (omega arith)
        go y le (from-endless m t) few ih = inl (omega arith)
        go y le (from_finite m₁ m₂ t) few (inl d) = absurd (m₂ d)
        go y le (from_finite m₁ m₂ t) few (inr d) = near (dec_le (length (label_on j a)) (found_in_place a.target + length (label_on i a)))
          where
            near : Dec (length (label_on j a) ≤ found_in_place a.target + length (label_on i a))
                → (found_in_place q ≡ endless) ⊎ (found_in_place q + length_on j (a ∷ es) ≤ origin + length_on i (a ∷ es))
            near (yes h) = inr (omega (arith, length_on_cons i a es, length_on_cons j a es))
            near (no h) = inl (omega arith)

    -- one delay, by what the definition says of it
    found_is : (q v : ℕ) → q < size A → LeastDelay A i j q v → (v ≡ short q) ⊎ (v ≡ endless) → found_in_place q ≡ v
    found_is q v lt d (inl e) = go (found_held q lt).0 (ℕ_discrete v endless) (short-range q lt)
      where
        low : v ≡ endless → found_in_place q ≡ v
        low z = absurd (omega (arith, z, e, short_positive q lt))

        go : Held q (found_in_place q) → Dec (v ≡ endless) → (short q ≡ missing) ⊎ ((8192 ≤ short q) × (short q ≤ 24576)) → found_in_place q ≡ v
        go h (yes z) s = low z
        go (inl m) (no z) (inl s) = m ∙ sym (e ∙ s)
        go (inl m) (no z) (inr s) = absurd (omega (arith, m, s, (found_held q lt).1))
        go (inr (inl (m, b))) (no z) s = absurd (z (d.endless_iff.1 b))
        go (inr (inr (m, l, (es, c, eq)))) (no z) s =
            let k : v + length_on j es ≤ origin + length_on i es = d.least (λ g. d.missing_iff.0 g es c) z es c in
            omega (arith, k, eq, e, (found_held q lt).1)
    found_is q v lt d (inr e) =
        let (es, (p, (r, w), f), h) = d.endless_iff.0 e (suc origin) in go es h (found_below w f lt) ∙ sym e
      where
        go : (es : List (Arc W)) → length_on i es + suc origin ≤ length_on j es → (found_in_place q ≡ endless) ⊎ (found_in_place q + length_on j es ≤ origin + length_on i es)
            → found_in_place q ≡ endless
        go es h (inl z) = z
        go es h (inr z) = absurd (omega arith)

    -- Relaxation and divergence in place find the least closing delays.
    pub in_place_least : diverged_in_place (size A) ≡ least_delays A i j
    unfolding found_in_place delay_after
    in_place_least =
        let l = length_diverged_in_place in
        ext_get_or missing (diverged_in_place (size A)) (least_delays A i j) (l ∙ sym ((length_diverged A ok i j) (size A)))
        (λ q k. let lt : q < size A = omega (arith, l, k) in
        found_is q (get_or (least_delays A i j) q missing) lt ((least_delays_least A ok i j) q lt) ((diverged-range A ok i j) (size A) q lt))
