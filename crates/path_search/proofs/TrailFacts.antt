-- Back along the marks of the cells found, one arc after the other, from what each call gave.
use mathlib.Core.Path.{◌≡◌, refl, sym, ap, ap₂, subst, ◌∙◌}
use mathlib.Core.Logic.{⊎_elim}
use mathlib.Core.List.{List, [], ◌∷◌}
use Prim.Native.Nat.{ℕ, zero, suc, ◌+◌, ◌-◌, ◌*◌, ◌%◌, ◌≤◌, ◌<◌}
use native.Mathlib.Omega.{arith}
use lib.ListN.{length}
use borrow.Author.Tests.{eq-eqb, ne_eqb}
use Rattle.automata.specs.Calls.LeastPath.{entries}
use Rattle.automata.specs.Calls.Outcome.{overwrite}
use Rattle.table.specs.Region.{splice}
use Rattle.table.specs.Endian.{to_le}
use Rattle.table.specs.declared.answer.Counts.{Counts}
use Rattle.table.proofs.SpliceFacts.{splice-none, splice_append, splice_swap, splice_front}
use Rattle.lookup_moves.specs.declared.spot.Spans.{Spans}
use Rattle.path_search.specs.Search.{no_arc}
use Rattle.table.specs.Arcs.{source_of}
use Rattle.path_search.specs.Tight.{shift_of, cell_before}
use Rattle.path_search.specs.Trail.{Behind, mark_of, found_from, count_back, run_back, CanCount, CanWalk}

-- ---- the cell before

-- it is the cell before
pub before_is : (c : Counts) (arcs : List ℕ) (spans : Spans) (e there source shift : ℕ) → source ≡ source_of arcs e
    → shift ≡ shift_of c arcs spans.spans e
    → source * spans.all + (there % spans.all - shift) ≡ cell_before c arcs spans e there
unfolding cell_before
before_is c arcs spans e there source shift p q = ap₂ (λ (a b : ℕ). a * spans.all + (there % spans.all - b)) p q

-- ---- the arcs counted

-- so many arcs were counted back from the end to a cell, and at most so many are left
pub record Counting (c : Counts) (arcs : List ℕ) (spans : Spans) (xs : List ℕ) (found end count at left : ℕ) : Type 0 where
  pub all_are : count + left ≡ found
  pub rest : count + count_back c arcs spans xs left at ≡ count_back c arcs spans xs found end
  pub can : CanCount c arcs spans xs left at

module _ {c : Counts} {arcs : List ℕ} {spans : Spans} {xs : List ℕ} {found end : ℕ} where
  module _ {count at left : ℕ} (h : Counting c arcs spans xs found end count at left) where
    -- no arc is left
    pub count_end : left ≤ 0 → count ≡ count_back c arcs spans xs found end
    unfolding count_back
    count_end n =
        let z : left ≡ 0 = omega arith in
        let e : count_back c arcs spans xs left at ≡ 0 = rw z in omega (arith, h.rest, e)

    module _ {mark : ℕ} (some_left : 0 < left) (m : mark ≡ mark_of c arcs spans xs at) where
      -- the cell has the mark of a start
      pub count_stop : mark ≡ 65535 → count ≡ count_back c arcs spans xs found end
      unfolding count_back
      count_stop s =
          let d : left ≡ suc (left - 1) = omega arith in
          let t = eq-eqb (mark_of c arcs spans xs at) no_arc (sym m ∙ s) in
          let e : count_back c arcs spans xs left at ≡ 0 = rw (d, t) in omega (arith, h.rest, e)

      module _ (s : mark ≡ 65535 → ⊥) where
        -- it has not: it was found by an arc, from a cell from which the count can go on
        found_by_lem : Behind c arcs spans (mark_of c arcs spans xs at) at
            × CanCount c arcs spans xs (left - 1) (found_from c arcs spans xs at)
        found_by_lem =
            let d : left ≡ suc (left - 1) = omega arith in
            let l = subst (λ (n : ℕ). CanCount c arcs spans xs n at) d h.can in
            ⊎_elim (λ e. absurd (s (m ∙ e))) (λ b. b) l.1

        -- the arc is its mark
        pub count_behind : Behind c arcs spans mark at
        count_behind = rw m found_by_lem.0

        -- the arc is counted
        pub count_turn : {b : ℕ} → b ≡ cell_before c arcs spans mark at
            → Counting c arcs spans xs found end (count + 1) b (left - 1)
        unfolding count_back
        count_turn {b} e =
            let d : left ≡ suc (left - 1) = omega arith in
            let f : b ≡ found_from c arcs spans xs at = e ∙ ap (λ (x : ℕ). cell_before c arcs spans x at) m in
            let t = ne_eqb (mark_of c arcs spans xs at) no_arc (λ q. s (m ∙ q)) in
            let g : count_back c arcs spans xs (suc (left - 1)) at ≡ suc (count_back c arcs spans xs (left - 1) b) = rw (f, t) in
            let r = ap (λ (n : ℕ). count_back c arcs spans xs n at) d ∙ g in
            record { all_are = omega (arith, h.all_are); rest = omega (arith, h.rest, r); can = rw f found_by_lem.1 }

-- ---- their numbers written

-- The numbers of the arcs behind a cell stand in a list, which was `old`, at the end of the places for all of them; so
-- many are left.
pub record Writing (c : Counts) (arcs : List ℕ) (spans : Spans) (xs : List ℕ) (count end : ℕ) (old list : List ℕ) (at left : ℕ) : Type 0 where
  pub done : List ℕ
  pub all_are : length done + left ≡ count
  pub rest : run_back c arcs spans xs left at done ≡ run_back c arcs spans xs count end []
  pub list_is : list ≡ splice (2 * left) (entries done) old
  pub can : CanWalk c arcs spans xs left at

-- the bytes of arc numbers are two each
length_entries : (run : List ℕ) → length (entries run) ≡ 2 * length run
length_entries [] = refl
length_entries (e ∷ run) = omega (arith, length_entries run)

module _ {c : Counts} {arcs : List ℕ} {spans : Spans} {xs : List ℕ} {count end : ℕ} {old : List ℕ} where
  -- no number was written
  pub write_first : CanWalk c arcs spans xs count end → Writing c arcs spans xs count end old old end count
  write_first h =
      record { done = []; all_are = omega arith; rest = refl; list_is = sym (splice-none (2 * count) old); can = h }

  module _ {list : List ℕ} {at left : ℕ} (h : Writing c arcs spans xs count end old list at left) where
    -- the cell is one of the table
    pub write_cell : at < c.states * spans.all
    write_cell = go left h.can
      where
        go : (n : ℕ) → CanWalk c arcs spans xs n at → at < c.states * spans.all
        go zero l = l
        go (suc n) l = l.0

    -- no number is left
    pub write_end : left ≤ 0 → (list ≡ overwrite (entries (run_back c arcs spans xs count end []).0) old)
        × (at ≡ (run_back c arcs spans xs count end []).1)
    unfolding run_back
    write_end n =
        let z : left ≡ 0 = omega arith in
        let e : run_back c arcs spans xs left at h.done ≡ (h.done, at) = rw z in
        let f : (h.done, at) ≡ run_back c arcs spans xs count end [] = sym e ∙ h.rest in
        let g : list ≡ splice 0 (entries h.done) old = rw (h.list_is, z) in
        (g ∙ splice_front (entries h.done) old ∙ ap (λ (p : List ℕ × ℕ). overwrite (entries p.0) old) f, ap (λ (p : List ℕ × ℕ). p.1) f)

    module _ (room : 2 * count ≤ length old) where
      -- the places of the numbers written are in the list
      in_list : 2 * left + length (entries h.done) ≤ length old
      in_list = omega (arith, h.all_are, length_entries h.done)

    module _ {mark : ℕ} (some_left : 0 < left) (m : mark ≡ mark_of c arcs spans xs at) where
      -- a cell before it can be reached
      one_back : CanWalk c arcs spans xs (suc (left - 1)) at
      one_back =
          let d : left ≡ suc (left - 1) = omega arith in subst (λ (n : ℕ). CanWalk c arcs spans xs n at) d h.can

      -- it was found by the arc that is its mark
      pub write_behind : Behind c arcs spans mark at
      write_behind = rw m one_back.1

      -- the arc's number is written
      pub write_turn : 2 * count ≤ length old → {new : List ℕ} → new ≡ splice (2 * (left - 1)) (to_le 2 mark) list
          → {b : ℕ} → b ≡ cell_before c arcs spans mark at → Writing c arcs spans xs count end old new b (left - 1)
      unfolding run_back
      write_turn room {new} n {b} e =
          let k = left - 1 in
          let ys = entries h.done in
          let d : left ≡ suc k = omega arith in
          let j : 2 * left ≡ 2 * k + 2 = omega arith in
          let i : 2 * k + 2 + length ys ≤ length old = omega (arith, in_list room) in
          let f : b ≡ found_from c arcs spans xs at = e ∙ ap (λ (x : ℕ). cell_before c arcs spans x at) m in
          record {
            done = mark ∷ h.done;
            all_are = omega (arith, h.all_are);
            rest = rw (f, m) (ap (λ (n : ℕ). run_back c arcs spans xs n at h.done) (sym d) ∙ h.rest);
            list_is = n ∙ ap (splice (2 * k) (to_le 2 mark)) (h.list_is ∙ ap (λ (p : ℕ). splice p ys old) j)
                ∙ sym (splice_swap (2 * k) (2 * k + 2) (to_le 2 mark) ys old (omega arith) i)
                ∙ splice_append (2 * k) (to_le 2 mark) ys old i;
            can = rw f one_back.2;
          }
