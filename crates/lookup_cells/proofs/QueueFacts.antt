-- A state put behind the last of a queue, and a queue without any.
use mathlib.Core.Path.{◌≡◌, refl, sym, ap, subst, ◌∙◌}
use mathlib.Core.Logic.{◌≢◌}
use mathlib.Core.List.{List}
use Prim.Native.Nat.{ℕ, zero, suc, ◌+◌, ◌%◌, ◌≤◌, ◌<◌}
use native.Mathlib.Omega.{arith}
use native.Mathlib.Decide.{ℕ_discrete}
use lib.ListN.{length, get_or, set, length-set, replicate}
use lib.Seq.{get_or-set_same, get_or-set_other}
use Rattle.lookup_cells.specs.Queues.{begin_of, count_of, place_of, marked, Waits, Queue, Enqueues}

-- ---- the marks, added up

-- a store behind them
pub marked-above : (n k v : ℕ) (m : List ℕ) → n ≤ k → marked n (set m k v) ≡ marked n m
unfolding marked
marked-above zero k v m h = refl
marked-above (suc n) k v m h = omega (arith, marked-above n k v m (omega arith), get_or-set_other m k n v 0 (λ same. omega (arith, same)))

-- one among them
pub marked_in : (n k v : ℕ) (m : List ℕ) → k < n → k < length m → marked n (set m k v) + get_or m k 0 ≡ marked n m + v
unfolding marked
marked_in zero k v m h fits = absurd (omega arith)
marked_in (suc n) k v m h fits = go (ℕ_discrete k n) (λ less. marked_in n k v m less fits)
  where
    go : Dec (k ≡ n) → (k < n → marked n (set m k v) + get_or m k 0 ≡ marked n m + v) → marked n (set m k v) + get_or (set m k v) n 0 + get_or m k 0 ≡ marked n m + get_or m n 0 + v
    go (yes same) ih = omega (arith, marked-above n k v m (omega arith), get_or-set_same m k v 0 fits, ap (λ (j : ℕ). get_or (set m k v) j 0) same, ap (λ (j : ℕ). get_or m j 0) same)
    go (no other) ih = omega (arith, ih (omega arith), get_or-set_other m k n v 0 (λ same. other (sym same)))

-- where one has none, there are fewer marks than states
marked_all : (n : ℕ) (m : List ℕ) → ((q : ℕ) → q < n → get_or m q 0 ≤ 1) → marked n m ≤ n
unfolding marked
marked_all zero m h = omega arith
marked_all (suc n) m h = omega (arith, marked_all n m (λ q lt. h q (omega arith)), h n (omega arith))

marked-room : (n k : ℕ) (m : List ℕ) → ((q : ℕ) → q < n → get_or m q 0 ≤ 1) → k < n → get_or m k 0 ≡ 0 → marked n m < n
unfolding marked
marked-room zero k m h lt out = absurd (omega arith)
marked-room (suc n) k m h lt out = go (ℕ_discrete k n) (λ less. marked-room n k m (λ q l. h q (omega arith)) less out)
  where
    go : Dec (k ≡ n) → (k < n → marked n m < n) → marked n m + get_or m n 0 < suc n
    go (yes same) ih = omega (arith, marked_all n m (λ q l. h q (omega arith)), out, ap (λ (j : ℕ). get_or m j 0) same)
    go (no other) ih = omega (arith, ih (omega arith), h n (omega arith))

-- no more states wait than there are
pub queue_few : (m : List ℕ) → Queue m → count_of m ≤ 1024
queue_few m g = omega (arith, g.few, marked_all 1024 m g.one)

-- ---- a state behind the last

-- the queue with state p behind the last
abbrev pub appended : ℕ → List ℕ → List ℕ
appended p m = set (set (set m (place_of m (count_of m)) p) p 1) 2049 (count_of m + 1)

module _ (p : ℕ) (m : List ℕ) (g : Queue m) (lt : p < 1024) where
  -- it stands there
  pub enqueues_none : get_or m p 0 ≢ 0 → Enqueues p m m
  enqueues_none there = record { queue = g; same_length = refl; own = omega (arith, there); keeps = λ q l h. h; at_most = omega arith }

  module _ (out : get_or m p 0 ≡ 0) where
    pub queue_room : count_of m < 1024
    queue_room = omega (arith, marked-room 1024 p m g.one lt out, g.few)

    abbrev at : ℕ
    at = place_of m (count_of m)

    abbrev n₁ : List ℕ
    n₁ = set m at p

    abbrev n₂ : List ℕ
    n₂ = set n₁ p 1

    abbrev n : List ℕ
    n = set n₂ 2049 (count_of m + 1)

    size₁ : length n₁ ≡ 2050
    size₁ = length-set m at p ∙ g.size_is

    size₂ : length n₂ ≡ 2050
    size₂ = length-set n₁ p 1 ∙ size₁

    other : (j : ℕ) → j ≢ at → j ≢ p → j ≢ 2049 → get_or n j 0 ≡ get_or m j 0
    other j a b c = get_or-set_other n₂ 2049 j (count_of m + 1) 0 c ∙ get_or-set_other n₁ p j 1 0 b ∙ get_or-set_other m at j p 0 a

    begin_is : begin_of n ≡ begin_of m
    begin_is = other 2048 (λ same. omega (arith, same)) (λ same. omega (arith, same)) (λ same. omega (arith, same))

    count_is : count_of n ≡ count_of m + 1
    count_is = get_or-set_same n₂ 2049 (count_of m + 1) 0 (omega (arith, size₂))

    own_is : get_or n p 0 ≡ 1
    own_is = get_or-set_other n₂ 2049 p (count_of m + 1) 0 (λ same. omega (arith, same)) ∙ get_or-set_same n₁ p 1 0 (omega (arith, size₁))

    last_is : get_or n at 0 ≡ p
    last_is = get_or-set_other n₂ 2049 at (count_of m + 1) 0 (λ same. omega (arith, same)) ∙ get_or-set_other n₁ p at 1 0 (λ same. omega (arith, same))
        ∙ get_or-set_same m at p 0 (omega (arith, g.size_is))

    mark_other : (q : ℕ) → q < 1024 → q ≢ p → get_or n q 0 ≡ get_or m q 0
    mark_other q l ne = other q (λ same. omega (arith, same)) ne (λ same. omega (arith, same))

    marked_more : marked 1024 n ≡ marked 1024 m + 1
    marked_more = omega (
      arith,
      marked-above 1024 2049 (count_of m + 1) n₂ (omega arith),
      marked_in 1024 p 1 n₁ lt (omega (arith, size₁)),
      get_or-set_other m at p p 0 (λ same. omega (arith, same)),
      out,
      marked-above 1024 at p m (omega (arith)),
    )

    place_same : (i : ℕ) → place_of n i ≡ place_of m i
    place_same i = ap (λ (b : ℕ). 1024 + (b + i) % 1024) begin_is

    waits_more : (q : ℕ) → q < 1024 → 0 < get_or n q 0 → Dec (q ≡ p) → Waits n q
    waits_more q l h (yes same) = record {
      turn = count_of m;
      within = omega (arith, count_is);
      there = ap (λ (j : ℕ). get_or n j 0) (place_same (count_of m)) ∙ last_is ∙ sym same;
    }
    waits_more q l h (no ne) =
        let w = g.waits q l (omega (arith, h, mark_other q l ne)) in record {
          turn = w.turn;
          within = omega (arith, w.within, count_is);
          there = ap (λ (j : ℕ). get_or n j 0) (place_same w.turn)
              ∙ other (place_of m w.turn) (λ same. omega (arith, same, w.within, queue_room)) (λ same. omega (arith, same)) (λ same. omega (arith, same)) ∙ w.there;
        }

    one_each : (q : ℕ) → q < 1024 → Dec (q ≡ p) → get_or n q 0 ≤ 1
    one_each q l (yes same) = omega (arith, ap (λ (j : ℕ). get_or n j 0) same, own_is)
    one_each q l (no ne) = omega (arith, mark_other q l ne, g.one q l)

    states_each : (i : ℕ) → i < 1024 → Dec (1024 + i ≡ at) → get_or n (1024 + i) 0 < 1024
    states_each i l (yes same) = omega (arith, ap (λ (j : ℕ). get_or n j 0) same, last_is)
    states_each i l (no ne) = omega (arith, other (1024 + i) ne (λ same. omega (arith, same)) (λ same. omega (arith, same)), g.states i l)

    keeps_each : (q : ℕ) → q < 1024 → 0 < get_or m q 0 → Dec (q ≡ p) → 0 < get_or n q 0
    keeps_each q l h (yes same) = omega (arith, ap (λ (j : ℕ). get_or n j 0) same, own_is)
    keeps_each q l h (no ne) = omega (arith, h, mark_other q l ne)

    pub enqueues_appended : (z : List ℕ) → z ≡ appended p m → Enqueues p z m
    enqueues_appended z i = subst (λ (y : List ℕ). Enqueues p y m) (sym i) (record {
      queue = record {
        size_is = length-set n₂ 2049 (count_of m + 1) ∙ size₂;
        begins = omega (arith, begin_is, g.begins);
        one = λ q l. one_each q l (ℕ_discrete q p);
        few = omega (arith, count_is, marked_more, g.few);
        states = λ i l. states_each i l (ℕ_discrete (1024 + i) at);
        waits = λ q l h. waits_more q l h (ℕ_discrete q p);
      };
      same_length = length-set n₂ 2049 (count_of m + 1) ∙ size₂ ∙ sym g.size_is;
      own = omega (arith, own_is);
      keeps = λ q l h. keeps_each q l h (ℕ_discrete q p);
      at_most = omega (arith, count_is);
    })

-- ---- none

-- where nobody waits no state has a mark
pub queue_done : (m : List ℕ) → Queue m → count_of m ≡ 0 → (q : ℕ) → q < 1024 → get_or m q 0 ≡ 0
queue_done m g none-wait q lt = go (ℕ_discrete (get_or m q 0) 0)
  where
    go : Dec (get_or m q 0 ≡ 0) → get_or m q 0 ≡ 0
    go (yes e) = e
    go (no ne) = absurd (omega (arith, (g.waits q lt (omega arith)).within, none-wait))

pub queue_none : (m : List ℕ) → m ≡ replicate 2050 0 → Queue m
queue_none m e = subst Queue (sym e) (record {
  size_is = refl;
  begins = omega arith;
  one = λ q l. omega (arith, zero_at 2050 q);
  few = omega arith;
  states = λ i l. omega (arith, zero_at 2050 (1024 + i));
  waits = λ q l h. absurd (omega (arith, h, zero_at 2050 q));
})
  where
    zero_at : (k q : ℕ) → get_or (replicate {A = ℕ} k 0) q 0 ≡ 0
    zero_at zero q = refl
    zero_at (suc k) zero = refl
    zero_at (suc k) (suc q) = zero_at k q
