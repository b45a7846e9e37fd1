-- Final weights and initial weights, state by state, from what each call gave.
use mathlib.Core.Path.{◌≡◌, refl, sym, ap, ap₂, ◌∙◌}
use mathlib.Core.Bool.{Bool}
use mathlib.Core.Option.{none, some}
use mathlib.Core.List.{List}
use Prim.Native.Nat.{ℕ, suc, ◌+◌, ◌-◌, ◌*◌, ◌≤◌, ◌<◌, min}
use native.Mathlib.Omega.{arith}
use lib.ListN.{length, get_or}
use borrow.Author.Tests.{lt-ltb, le-ltb}
use Rattle.table.specs.Records.{Weight, state_at}
use Rattle.std.specs.Prelude.{Some, None}
use Rattle.table.specs.declared.record.State.{State}
use Rattle.table.proofs.RowFacts.{mul_step}
use Rattle.lookup_moves.specs.Distances.{far, weight_of, cells_of, lowered, Lowers}
use Rattle.lookup_cells.specs.Ends.{ended_by, started, started_from, Starts, StartsAll, Stated, beginning, from_state, least_up_to}
use Rattle.automata.specs.Layout.{state_size}

-- ---- final weights

module _ (states : List ℕ) (all q : ℕ) (st : State) (e : st ≡ state_at (state_size * q) states) where
  pub starts_none : (w : List ℕ) → st.last ≡ None → Starts states all q w w
  unfolding started
  starts_none w f =
      let g : (state_at (state_size * q) states).last ≡ None = ap (λ (z : State). z.last) (sym e) ∙ f in
      record { cells_are = sym (ap (λ (z : Weight). ended_by z (q * all + (all - 1)) (cells_of w)) g); same_length = refl }

  pub starts_some : (x k : ℕ) (changed : Bool) (u w : List ℕ) → st.last ≡ Some x → k ≡ q * all + (all - 1) → Lowers k x changed u w → Starts states all q u w
  unfolding started
  starts_some x k changed u w f i l =
      let g : (state_at (state_size * q) states).last ≡ Some x = ap (λ (z : State). z.last) (sym e) ∙ f in
      record {
        cells_are = l.cells_are ∙ ap (λ (j : ℕ). lowered j x (cells_of w)) i ∙ sym (ap (λ (z : Weight). ended_by z (q * all + (all - 1)) (cells_of w)) g);
        same_length = l.same_length;
      }

-- what a state asks
pub state-room : (states : List ℕ) (n all q : ℕ) (v : List ℕ) (size : ℕ) → Stated states n all v → size ≡ length v → q < n
    → (state_size * q + state_size ≤ length states) × (0 < all) × (8 * (q * all + all) ≤ size)
state-room states n all q v size s l lt = (omega (arith, s.lent), s.some_combination, omega (arith, s.fits, l, mul_step q n all lt))

-- so many states took the work space from v to w
pub record Starting (states : List ℕ) (n all : ℕ) (v : List ℕ) (q left : ℕ) (w : List ℕ) : Type 0 where
  pub place_is : q + left ≡ n
  pub rest : started_from left q states all (cells_of w) ≡ started_from n 0 states all (cells_of v)
  pub same_length : length w ≡ length v

module _ (states : List ℕ) (n all : ℕ) (v : List ℕ) where
  pub start_first : Starting states n all v 0 n v
  start_first = record { place_is = omega arith; rest = refl; same_length = refl }

  module _ (q left rest : ℕ) (w : List ℕ) (h : Starting states n all v q left w) where
    pub start_turn : (u : List ℕ) → left ≡ suc rest → Starts states all q u w → Starting states n all v (q + 1) rest u
    unfolding started_from
    start_turn u d t = record {
      place_is = omega (arith, h.place_is, d);
      rest = ap (started_from rest (q + 1) states all) t.cells_are ∙ ap (λ (k : ℕ). started_from k q states all (cells_of w)) (sym d) ∙ h.rest;
      same_length = t.same_length ∙ h.same_length;
    }

    pub start_end : left ≡ 0 → StartsAll states all n w v
    unfolding started_from
    start_end d = record { cells_are = ap (λ (k : ℕ). started_from k q states all (cells_of w)) (sym d) ∙ h.rest; same_length = h.same_length }

-- ---- initial weights

module _ (states : List ℕ) (all q : ℕ) (w : List ℕ) (st : State) (e : st ≡ state_at (state_size * q) states) where
  pub from-none : st.initial ≡ None → far ≡ from_state states all (cells_of w) q
  unfolding from_state
  from-none f =
      let g : (state_at (state_size * q) states).initial ≡ None = ap (λ (z : State). z.initial) (sym e) ∙ f in
      sym (ap (λ (z : Weight). beginning z (get_or (cells_of w) (q * all + 0) 0)) g)

  pub from_some : (x k y : ℕ) → st.initial ≡ Some x → k ≡ q * all + 0 → y ≡ get_or (cells_of w) k 0 → x + y ≡ from_state states all (cells_of w) q
  unfolding from_state
  from_some x k y f i j =
      let g : (state_at (state_size * q) states).initial ≡ Some x = ap (λ (z : State). z.initial) (sym e) ∙ f in
      ap (λ (z : ℕ). x + z) (j ∙ ap (λ (z : ℕ). get_or (cells_of w) z 0) i) ∙ sym (ap (λ (z : Weight). beginning z (get_or (cells_of w) (q * all + 0) 0)) g)

pub least_turn : (states : List ℕ) (all : ℕ) (xs : List ℕ) (q l x r : ℕ) → l ≡ least_up_to q states all xs → x ≡ from_state states all xs q → r ≡ min l x
    → r ≡ least_up_to (q + 1) states all xs
unfolding least_up_to
least_turn states all xs q l x r e f g =
    let z : suc q ≡ q + 1 = omega arith in g ∙ ap₂ (λ (a b : ℕ). min a b) e f ∙ ap (λ (k : ℕ). least_up_to k states all xs) z

pub least_first : (states : List ℕ) (all : ℕ) (xs : List ℕ) → far ≡ least_up_to 0 states all xs
unfolding least_up_to
least_first states all xs = refl

pub answer_some : (states : List ℕ) (all : ℕ) (xs : List ℕ) (q n l : ℕ) → l ≡ least_up_to q states all xs → q ≡ n → l < far
    → some l ≡ weight_of (least_up_to n states all xs)
answer_some states all xs q n l e f h = let g = lt-ltb l far h in let k : l ≡ least_up_to n states all xs = e ∙ ap (λ (z : ℕ). least_up_to z states all xs) f in rw (← k, g)

pub answer_none : (states : List ℕ) (all : ℕ) (xs : List ℕ) (q n l : ℕ) → l ≡ least_up_to q states all xs → q ≡ n → far ≤ l
    → none ≡ weight_of (least_up_to n states all xs)
answer_none states all xs q n l e f h = let g = le-ltb l far h in let k : l ≡ least_up_to n states all xs = e ∙ ap (λ (z : ℕ). least_up_to z states all xs) f in rw (← k, g)
