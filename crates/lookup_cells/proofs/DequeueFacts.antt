-- The first state of a queue taken away.
use mathlib.Core.Path.{◌≡◌, sym, ap, subst, ◌∙◌}
use mathlib.Core.Logic.{◌≢◌}
use mathlib.Core.List.{List}
use Prim.Native.Nat.{ℕ, zero, suc, ◌+◌, ◌-◌, ◌%◌, ◌≤◌, ◌<◌}
use native.Mathlib.Omega.{arith}
use native.Mathlib.Decide.{ℕ_discrete}
use lib.ListN.{length, get_or, set, length-set}
use lib.Seq.{get_or-set_same, get_or-set_other}
use Rattle.lookup_cells.specs.Queues.{begin_of, count_of, place_of, marked, Waits, Queue, Dequeues}
use Rattle.lookup_cells.proofs.QueueFacts.{marked-above, marked_in}

-- the queue without the first, state p
abbrev pub shifted : ℕ → List ℕ → List ℕ
shifted p m = set (set (set m 2048 ((begin_of m + 1) % 1024)) 2049 (count_of m - 1)) p 0

module _ (p : ℕ) (m : List ℕ) (g : Queue m) (some-wait : 0 < count_of m) (first : p ≡ get_or m (1024 + begin_of m) 0) where
  pub first-state : p < 1024
  first-state = omega (arith, first, g.states (begin_of m) g.begins)

  abbrev n₁ : List ℕ
  n₁ = set m 2048 ((begin_of m + 1) % 1024)

  abbrev n₂ : List ℕ
  n₂ = set n₁ 2049 (count_of m - 1)

  abbrev n : List ℕ
  n = set n₂ p 0

  size₁ : length n₁ ≡ 2050
  size₁ = length-set m 2048 ((begin_of m + 1) % 1024) ∙ g.size_is

  size₂ : length n₂ ≡ 2050
  size₂ = length-set n₁ 2049 (count_of m - 1) ∙ size₁

  other : (j : ℕ) → j ≢ p → j ≢ 2048 → j ≢ 2049 → get_or n j 0 ≡ get_or m j 0
  other j a b c = get_or-set_other n₂ p j 0 0 a ∙ get_or-set_other n₁ 2049 j (count_of m - 1) 0 c ∙ get_or-set_other m 2048 j ((begin_of m + 1) % 1024) 0 b

  begin_is : begin_of n ≡ (begin_of m + 1) % 1024
  begin_is = get_or-set_other n₂ p 2048 0 0 (λ same. omega (arith, same, first-state)) ∙ get_or-set_other n₁ 2049 2048 (count_of m - 1) 0 (λ same. omega (arith, same))
      ∙ get_or-set_same m 2048 ((begin_of m + 1) % 1024) 0 (omega (arith, g.size_is))

  count_is : count_of n ≡ count_of m - 1
  count_is = get_or-set_other n₂ p 2049 0 0 (λ same. omega (arith, same, first-state)) ∙ get_or-set_same n₁ 2049 (count_of m - 1) 0 (omega (arith, size₁))

  own_is : get_or n p 0 ≡ 0
  own_is = get_or-set_same n₂ p 0 0 (omega (arith, size₂, first-state))

  mark_other : (q : ℕ) → q < 1024 → q ≢ p → get_or n q 0 ≡ get_or m q 0
  mark_other q l ne = other q ne (λ same. omega (arith, same)) (λ same. omega (arith, same))

  marked_less : marked 1024 m ≤ marked 1024 n + 1
  marked_less = omega (
    arith,
    marked_in 1024 p 0 n₂ first-state (omega (arith, size₂, first-state)),
    marked-above 1024 2049 (count_of m - 1) n₁ (omega arith),
    marked-above 1024 2048 ((begin_of m + 1) % 1024) m (omega arith),
    get_or-set_other n₁ 2049 p (count_of m - 1) 0 (λ same. omega (arith, same, first-state)),
    get_or-set_other m 2048 p ((begin_of m + 1) % 1024) 0 (λ same. omega (arith, same, first-state)),
    g.one p first-state,
  )

  -- the others move up
  place-next : (i : ℕ) → place_of n i ≡ place_of m (suc i)
  place-next i = ap (λ (b : ℕ). 1024 + (b + i) % 1024) begin_is ∙ omega arith

  waits_next : (q : ℕ) → q < 1024 → 0 < get_or n q 0 → Dec (q ≡ p) → Waits n q
  waits_next q l h (yes same) = absurd (omega (arith, h, ap (λ (j : ℕ). get_or n j 0) same, own_is))
  waits_next q l h (no ne) = go (g.waits q l (omega (arith, h, mark_other q l ne)))
    where
      by_turn : (t : ℕ) → t < count_of m → get_or m (place_of m t) 0 ≡ q → Waits n q
      by_turn zero w there =
          let z : place_of m 0 ≡ 1024 + begin_of m = omega (arith, g.begins) in
          absurd (ne (sym there ∙ ap (λ (j : ℕ). get_or m j 0) z ∙ sym first))
      by_turn (suc i) w there = record {
        turn = i;
        within = omega (arith, w, count_is);
        there = ap (λ (j : ℕ). get_or n j 0) (place-next i)
            ∙ other (place_of m (suc i)) (λ same. omega (arith, same, first-state)) (λ same. omega (arith, same)) (λ same. omega (arith, same)) ∙ there;
      }

      go : Waits m q → Waits n q
      go w = by_turn w.turn w.within w.there

  one_each : (q : ℕ) → q < 1024 → Dec (q ≡ p) → get_or n q 0 ≤ 1
  one_each q l (yes same) = omega (arith, ap (λ (j : ℕ). get_or n j 0) same, own_is)
  one_each q l (no ne) = omega (arith, mark_other q l ne, g.one q l)

  pub dequeues_shifted : (z : List ℕ) → z ≡ shifted p m → Dequeues p z m
  dequeues_shifted z i = subst (λ (y : List ℕ). Dequeues p y m) (sym i) (record {
    queue = record {
      size_is = length-set n₂ p 0 ∙ size₂;
      begins = omega (arith, begin_is);
      one = λ q l. one_each q l (ℕ_discrete q p);
      few = omega (arith, count_is, marked_less, g.few);
      states = λ i l. omega (arith, other (1024 + i) (λ same. omega (arith, same, first-state)) (λ same. omega (arith, same)) (λ same. omega (arith, same)), g.states i l);
      waits = λ q l h. waits_next q l h (ℕ_discrete q p);
    };
    same_length = length-set n₂ p 0 ∙ size₂ ∙ sym g.size_is;
    state = first-state;
    keeps = λ q l ne h. omega (arith, h, mark_other q l ne);
    one_less = omega (arith, count_is);
  })
