-- The search: the starts of paths, state by state, ends, and the cells that are taken up in the order found, from what
-- each call gave.
use mathlib.Core.Path.{◌≡◌, refl, sym, ap, subst, ◌∙◌}
use mathlib.Core.Bool.{Bool, true, false}
use mathlib.Core.Option.{Option, none, some}
use mathlib.Core.List.{List}
use Prim.Native.Nat.{ℕ, zero, suc, ◌+◌, ◌-◌, ◌*◌, ◌/◌, ◌%◌, ◌≤◌, ◌<◌}
use native.Mathlib.Omega.{arith}
use lib.Dec.{eqb, ltb}
use lib.ListN.{length, get_or, take}
use borrow.Author.Tests.{lt-ltb, le-ltb, eq-eqb, ne_eqb}
use Rattle.automata.specs.Lists.{and}
use Rattle.automata.specs.Layout.{state_size}
use Rattle.table.specs.Records.{state_at}
use Rattle.table.specs.declared.answer.Counts.{Counts}
use Rattle.table.specs.Records.{Weight}
use Rattle.std.specs.Prelude.{None, Some}
use Rattle.table.specs.declared.record.State.{State}
use Rattle.lookup_tuple.specs.declared.Strings.{Strings}
use Rattle.lookup_moves.specs.declared.spot.Spans.{Spans}
use Rattle.lookup_moves.specs.Distances.{cells_of}
use Rattle.path_search.specs.Search.{Search, no_arc, search_of, order_at, enter, entered, enter_starts, follow_arcs, search_from}
use Rattle.path_search.specs.FirstPath.{Kept}
use Rattle.path_search.proofs.FollowFacts.{starts_front, starts_kept, follow_arcs_front, follow_arcs_kept}
use Rattle.lookup_cells.specs.Ends.{from_state}
use Rattle.path_search.specs.Tight.{next_cell, start_cell, ends_by, end_cell}
use Rattle.path_search.specs.Searchable.{Searchable, Weights}
use Rattle.path_search.proofs.TightArcFacts.{next_lt, start_lt}
use Rattle.path_search.proofs.KeptFacts.{next_kept, start_kept, end_kept}
use Rattle.path_search.proofs.ReadFacts.{targets}
use Rattle.path_search.proofs.FollowArcsFacts.{follow_arcs_same}

-- ---- the starts of paths

module _ (n all : ℕ) (states : List ℕ) (least q : ℕ) (l : q < n) (ws : List ℕ) (x : ℕ) (e : x ≡ from_state states all ws q) where
  -- no least path starts at a state from which another weight is attained
  pub start_other : (cells : ℕ) (s : Search) → (x ≡ least → ⊥) → s ≡ entered cells no_arc (start_cell n states all ws least q) s
  unfolding start_cell
  start_other cells s k =
      let a : ltb q n ≡ true = lt-ltb q n l in
      let b : eqb (from_state states all ws q) least ≡ false = ne_eqb (from_state states all ws q) least (λ z. k (e ∙ z)) in
      rw (a, b)

  -- one starts where the least is
  pub start_here : (cells d : ℕ) (s u : Search) → x ≡ least → d ≡ q * all + 0 → u ≡ enter cells no_arc d s
      → u ≡ entered cells no_arc (start_cell n states all ws least q) s
  unfolding start_cell
  start_here cells d s u k z f =
      let a : ltb q n ≡ true = lt-ltb q n l in
      let b : eqb (from_state states all ws q) least ≡ true = eq-eqb (from_state states all ws q) least (sym e ∙ k) in
      rw (a, b, ← z) f

-- the states before q took the work space from v to w, with `found` cells found
pub record Starting (n all : ℕ) (states : List ℕ) (least : ℕ) (v : List ℕ) (q found : ℕ) (w : List ℕ) : Type 0 where
  pub rest : enter_starts (n * all) (start_cell n states all (cells_of v) least) (n - q) q (search_of (cells_of w) found)
      ≡ enter_starts (n * all) (start_cell n states all (cells_of v) least) n 0 (search_of (cells_of v) 0)
  pub front : take (n * all) (cells_of w) ≡ take (n * all) (cells_of v)
  pub kept : Kept (n * all) (search_of (cells_of w) found)
  pub same_length : length w ≡ length v

module _ (n all : ℕ) (states : List ℕ) (least : ℕ) (v : List ℕ) where
  module _ (q found : ℕ) (w : List ℕ) (i : Starting n all states least v q found w) where
    -- behind a state
    pub starting_turn : 0 < all → q < n → (r : ℕ) (u : List ℕ)
        → search_of (cells_of u) r ≡ entered (n * all) no_arc (start_cell n states all (cells_of w) least q) (search_of (cells_of w) found)
        → length u ≡ length w → Starting n all states least v (q + 1) r u
    unfolding enter_starts
    starting_turn p l r u g m =
        let a : n - q ≡ suc (n - (q + 1)) = omega arith in
        record {
          rest = ap (enter_starts (n * all) start (n - (q + 1)) (q + 1)) moved
              ∙ ap (λ (k : ℕ). enter_starts (n * all) start k q (search_of (cells_of w) found)) (sym a)
              ∙ i.rest;
          front = ap (λ (s : Search). take (n * all) s.numbers) moved
              ∙ starts_front (n * all) start (suc zero) q (search_of (cells_of w) found)
              ∙ i.front;
          kept = subst (Kept (n * all)) (sym moved)
              (starts_kept (n * all) start (start_lt n states all p (cells_of v) least) (suc zero) q (search_of (cells_of w) found) i.kept);
          same_length = m ∙ i.same_length;
        }
      where
        start : ℕ → Option ℕ
        start = start_cell n states all (cells_of v) least

        moved : search_of (cells_of u) r ≡ entered (n * all) no_arc (start q) (search_of (cells_of w) found)
        moved = g ∙ ap (λ (o : Option ℕ). entered (n * all) no_arc o (search_of (cells_of w) found))
            (start_kept n all (cells_of w) (cells_of v) i.front states p least q)

    -- no state is left
    pub starting_end : n ≤ q
        → search_of (cells_of w) found ≡ enter_starts (n * all) (start_cell n states all (cells_of v) least) n 0 (search_of (cells_of v) 0)
    unfolding enter_starts
    starting_end l =
        let a : n - q ≡ 0 = omega arith in
        sym (ap (λ (k : ℕ). enter_starts (n * all) (start_cell n states all (cells_of v) least) k q (search_of (cells_of w) found)) a) ∙ i.rest

-- ---- ends

module _ (states : List ℕ) (all here : ℕ) (ws : List ℕ) (st : State) (e : st ≡ state_at (state_size * (here / all)) states) where
  -- an end by the final weight that was read
  end_by : (x : Weight) → st.last ≡ x → end_cell states all ws here ≡ ends_by x all (here % all) (get_or ws here 0)
  unfolding end_cell
  end_by x f = ap (λ (y : Weight). ends_by y all (here % all) (get_or ws here 0)) (ap (λ (z : State). z.last) (sym e) ∙ f)

  -- a state that is not final
  pub end_absent : st.last ≡ None → false ≡ end_cell states all ws here
  end_absent f = sym (end_by None f)

  module _ (x : ℕ) (f : st.last ≡ Some x) where
    -- a combination that is not the last
    pub end_early : (here % all + 1 ≡ all → ⊥) → false ≡ end_cell states all ws here
    end_early k = sym (end_by (Some x) f ∙ ap (λ (b : Bool). and b (eqb x (get_or ws here 0))) (ne_eqb (here % all + 1) all k))

    -- the last
    pub end_last : (y : ℕ) → here % all + 1 ≡ all → y ≡ get_or ws here 0 → eqb x y ≡ end_cell states all ws here
    end_last y k g =
        ap (eqb x) g ∙ sym (end_by (Some x) f ∙ ap (λ (b : Bool). and b (eqb x (get_or ws here 0))) (eq-eqb (here % all + 1) all k))

-- ---- the cells in the order found

module _ (cells : ℕ) (next : ℕ → ℕ → Option ℕ) (arcs : ℕ) (end : ℕ → Bool) where
  -- no cell is left
  search_end : (k head : ℕ) (s : Search) → s.tail ≤ head → search_from cells next arcs end k head s ≡ (none, s)
  unfolding search_from
  search_end zero head s l = refl
  search_end (suc k) head s l = let a : ltb head s.tail ≡ false = le-ltb head s.tail l in rw a

  module _ (head : ℕ) (s : Search) (l : head < s.tail) (m : head < cells) where
    -- the next cell is an end
    search_found : end (order_at cells s.numbers head) ≡ true
        → search_from cells next arcs end (cells - head) head s ≡ (some (order_at cells s.numbers head), s)
    unfolding search_from
    search_found t =
        let a : cells - head ≡ suc (cells - (head + 1)) = omega arith in
        let b : ltb head s.tail ≡ true = lt-ltb head s.tail l in
        rw (a, b, t)

    -- it is none
    search_more : end (order_at cells s.numbers head) ≡ false
        → search_from cells next arcs end (cells - head) head s
        ≡ search_from cells next arcs end (cells - (head + 1)) (head + 1) (follow_arcs cells next arcs (order_at cells s.numbers head) 0 s)
    unfolding search_from
    search_more t =
        let a : cells - head ≡ suc (cells - (head + 1)) = omega arith in
        let b : ltb head s.tail ≡ true = lt-ltb head s.tail l in
        rw (a, b, t)

-- the cells before place `head` of the order took the work space from v to w, from `found` cells to `count`
pub record Searching (c : Counts) (states arcs text : List ℕ) (strings : Strings) (spans : Spans) (found : ℕ) (v : List ℕ)
    (head count : ℕ) (w : List ℕ) : Type 0 where
  pub rest : search_from (c.states * spans.all) (next_cell c arcs text strings spans (cells_of v)) c.arcs (end_cell states spans.all (cells_of v))
      (c.states * spans.all - head) head (search_of (cells_of w) count)
      ≡ search_from (c.states * spans.all) (next_cell c arcs text strings spans (cells_of v)) c.arcs (end_cell states spans.all (cells_of v))
      (c.states * spans.all) 0 (search_of (cells_of v) found)
  pub front : take (c.states * spans.all) (cells_of w) ≡ take (c.states * spans.all) (cells_of v)
  pub kept : Kept (c.states * spans.all) (search_of (cells_of w) count)
  pub same_length : length w ≡ length v

module _ (c : Counts) (states arcs text : List ℕ) (strings : Strings) (spans : Spans) (found : ℕ) (v : List ℕ) where
  module _ (head count : ℕ) (w : List ℕ) (i : Searching c states arcs text strings spans found v head count w) where
    -- no cell is left
    pub searching_none : count ≤ head
        → (none, search_of (cells_of w) count)
        ≡ search_from (c.states * spans.all) (next_cell c arcs text strings spans (cells_of v)) c.arcs (end_cell states spans.all (cells_of v))
        (c.states * spans.all) 0 (search_of (cells_of v) found)
    searching_none l =
        sym (search_end (c.states * spans.all) (next_cell c arcs text strings spans (cells_of v)) c.arcs (end_cell states spans.all (cells_of v))
        (c.states * spans.all - head) head (search_of (cells_of w) count) l)
        ∙ i.rest

    -- where the numbers of the order lie
    pub order_room : Weights (c.states * spans.all) v → head < count
        → (24 * (c.states * spans.all) ≤ length w) × (head < c.states * spans.all)
        × (8 * (2 * (c.states * spans.all) + head) + 8 ≤ length w)
    order_room h l =
        let r : 24 * (c.states * spans.all) ≤ length w = omega (arith, h.room, i.same_length) in
        (r, omega (arith, i.kept.few), omega (arith, i.kept.few))

    module _ (h : Searchable c arcs text strings spans) (l : head < count) (here : ℕ)
        (p : here ≡ get_or (cells_of w) (2 * (c.states * spans.all) + head) 0) where
      -- the next cell is one of the cells
      pub here_lt : here < c.states * spans.all
      here_lt = omega (arith, i.kept.cell head l)

      -- what the test tells, by the weights at first
      end_told : (b : Bool) → b ≡ end_cell states spans.all (cells_of w) here → (t : Bool) → b ≡ t
          → end_cell states spans.all (cells_of v) (order_at (c.states * spans.all) (cells_of w) head) ≡ t
      end_told b e t k =
          ap (end_cell states spans.all (cells_of v)) (sym p)
          ∙ sym (end_kept c.states spans.all (cells_of w) (cells_of v) i.front states here here_lt) ∙ sym e ∙ k

      -- it is an end
      pub searching_found : (b : Bool) → b ≡ end_cell states spans.all (cells_of w) here → b ≡ true
          → (some here, search_of (cells_of w) count)
          ≡ search_from (c.states * spans.all) (next_cell c arcs text strings spans (cells_of v)) c.arcs (end_cell states spans.all (cells_of v))
          (c.states * spans.all) 0 (search_of (cells_of v) found)
      searching_found b e k =
          ap (λ (d : ℕ). (some d, search_of (cells_of w) count)) p
          ∙ sym (search_found (c.states * spans.all) (next_cell c arcs text strings spans (cells_of v)) c.arcs (end_cell states spans.all (cells_of v))
          head (search_of (cells_of w) count) l (omega (arith, i.kept.few)) (end_told b e true k))
          ∙ i.rest

      -- behind a cell that is none
      pub searching_turn : (b : Bool) → b ≡ end_cell states spans.all (cells_of w) here → b ≡ false → (r : ℕ) (u : List ℕ)
          → search_of (cells_of u) r ≡ follow_arcs (c.states * spans.all) (next_cell c arcs text strings spans (cells_of w)) c.arcs here 0 (search_of (cells_of w) count)
          → length u ≡ length w → Searching c states arcs text strings spans found v (head + 1) r u
      searching_turn b e k r u g m = record {
        rest = ap (search_from cells next c.arcs end (cells - (head + 1)) (head + 1)) (moved ∙ ap (λ (d : ℕ). follow_arcs cells next c.arcs d 0 s) p)
            ∙ sym (search_more cells next c.arcs end head s l (omega (arith, i.kept.few)) (end_told b e false k))
            ∙ i.rest;
        front = ap (λ (x : Search). take cells x.numbers) moved ∙ follow_arcs_front cells next c.arcs here 0 s ∙ i.front;
        kept = subst (Kept cells) (sym moved)
            (follow_arcs_kept cells next (next_lt c arcs text (targets c arcs text strings spans h) strings spans (cells_of v)) (omega (arith, few)) c.arcs here 0 s i.kept);
        same_length = m ∙ i.same_length;
      }
        where
          cells : ℕ
          cells = c.states * spans.all

          next : ℕ → ℕ → Option ℕ
          next = next_cell c arcs text strings spans (cells_of v)

          end : ℕ → Bool
          end = end_cell states spans.all (cells_of v)

          s : Search
          s = search_of (cells_of w) count

          few : c.arcs ≤ 8192
          few = (h.ready 0 h.some_combination).few_arcs

          moved : search_of (cells_of u) r ≡ follow_arcs cells next c.arcs here 0 s
          moved = g ∙ follow_arcs_same cells (next_cell c arcs text strings spans (cells_of w)) next here
              (λ a. next_kept c arcs text (targets c arcs text strings spans h) strings spans (cells_of w) (cells_of v) i.front here a here_lt) c.arcs 0 s
