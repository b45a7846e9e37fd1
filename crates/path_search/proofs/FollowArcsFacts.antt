-- The arcs from a cell that is taken up: one arc from what each call gave, and all that leave a state by its chain.
use mathlib.Core.Path.{◌≡◌, refl, sym, ap, subst, ◌∙◌}
use mathlib.Core.Bool.{Bool, true, false}
use mathlib.Core.Option.{Option, none, some}
use mathlib.Core.List.{List}
use Prim.Native.Nat.{ℕ, zero, suc, ◌+◌, ◌-◌, ◌*◌, ◌/◌, ◌%◌, ◌≤◌, ◌<◌}
use native.Mathlib.Omega.{arith}
use native.Mathlib.Nat.{mul-le-mul}
use lib.Dec.{eqb, ltb}
use lib.ListN.{length, get_or, take}
use borrow.Author.Tests.{lt-ltb, eq-eqb, ne_eqb}
use Rattle.automata.specs.Lists.{if}
use Rattle.automata.specs.Layout.{arc_size, label_size}
use Rattle.table.specs.declared.answer.Counts.{Counts}
use Rattle.lookup_tuple.specs.declared.Strings.{Strings}
use Rattle.lookup_moves.specs.declared.spot.Spans.{Spans}
use Rattle.lookup_moves.specs.Distances.{cells_of}
use Rattle.lookup_moves.specs.Moves.{Labelled}
use Rattle.table_adjacency.specs.Chains.{Chained}
use Rattle.table_adjacency.proofs.ChainFacts.{First, first-arc, next-arc}
use Rattle.path_search.specs.Search.{Search, search_of, enter, entered, follow, follow_arcs}
use Rattle.path_search.specs.FirstPath.{Kept}
use Rattle.path_search.proofs.FollowFacts.{follow_front, follow_kept}
use Rattle.table.specs.Arcs.{source_of, labels_start}
use Rattle.path_search.specs.Tight.{shift_by, shift_of, tight_to, next_cell}
use Rattle.path_search.specs.Searchable.{Spannable, Searchable}
use Rattle.path_search.proofs.TightArcFacts.{next_lt}
use Rattle.path_search.proofs.KeptFacts.{next_kept}
use Rattle.path_search.proofs.ReadFacts.{state_lt, targets, tight_lt}

-- ---- how far labels move

-- labels of at most eight symbols move the number of a combination by no more than that
shift_small : (arcs : List ℕ) (at : ℕ) (spans : Spans) → Labelled arcs at → Spannable spans → (n h : ℕ) → h + n ≤ 8
    → shift_by n h (at + label_size * h) arcs spans.spans ≤ n * 2549158503125000
unfolding shift_by
shift_small arcs at spans l s zero h le = omega arith
shift_small arcs at spans l s (suc n) h le =
    let here : get_or arcs (at + label_size * h) 0 * get_or spans.spans h 0 ≤ 8 * 318644812890625 = mul-le-mul (l.short h (omega arith)) (s.small h) in
    let place : at + label_size * (h + 1) ≡ at + label_size * h + label_size = omega arith in
    let rest : shift_by n (h + 1) (at + label_size * h + label_size) arcs spans.spans ≤ n * 2549158503125000 =
    subst (λ (k : ℕ). shift_by n (h + 1) k arcs spans.spans ≤ n * 2549158503125000) place
    (shift_small arcs at spans l s n (h + 1) (omega arith)) in
    omega arith

-- ---- arcs that lead nowhere, and arcs that lead to the same cells

module _ (cells : ℕ) (next : ℕ → ℕ → Option ℕ) where
  -- an arc that leads nowhere finds no cell
  follow-none : (here e : ℕ) (s : Search) → next here e ≡ none → follow cells next here e s ≡ s
  unfolding follow
  follow-none here e s p = ap (λ (o : Option ℕ). entered cells e o s) p

  -- arcs that lead nowhere are passed over
  skip : (here n k i : ℕ) (s : Search) → k + i ≤ n → ((j : ℕ) → k ≤ j → j < k + i → next here j ≡ none)
      → follow_arcs cells next (n - k) here k s ≡ follow_arcs cells next (n - (k + i)) here (k + i) s
  unfolding follow_arcs
  skip here n k zero s le z = let e : k + 0 ≡ k = omega arith in rw e
  skip here n k (suc i) s le z =
      let a : n - k ≡ suc (n - (k + 1)) = omega arith in
      let b : k + suc i ≡ k + 1 + i = omega arith in
      ap (λ (m : ℕ). follow_arcs cells next m here k s) a
      ∙ ap (follow_arcs cells next (n - (k + 1)) here (k + 1)) (follow-none here k s (z k (omega arith) (omega arith)))
      ∙ skip here n (k + 1) i s (omega arith) (λ j l m. z j (omega arith) (omega arith))
      ∙ ap (λ (m : ℕ). follow_arcs cells next (n - m) here m s) (sym b)

  -- the same up to arc j
  skip_to : (here n k j : ℕ) (s : Search) → k ≤ j → j ≤ n → ((i : ℕ) → k ≤ i → i < j → next here i ≡ none)
      → follow_arcs cells next (n - k) here k s ≡ follow_arcs cells next (n - j) here j s
  skip_to here n k j s le l z =
      let e : k + (j - k) ≡ j = omega arith in
      skip here n k (j - k) s (omega arith) (λ i a b. z i a (omega arith))
      ∙ ap (λ (m : ℕ). follow_arcs cells next (n - m) here m s) e

  -- one arc more is done
  follow-more : (here n e : ℕ) (s : Search) → e < n
      → follow_arcs cells next (n - (e + 1)) here (e + 1) (follow cells next here e s) ≡ follow_arcs cells next (n - e) here e s
  unfolding follow_arcs
  follow-more here n e s l =
      let a : n - e ≡ suc (n - (e + 1)) = omega arith in sym (ap (λ (m : ℕ). follow_arcs cells next m here e s) a)

  -- no arc is left
  follow_end : (here n e : ℕ) (s : Search) → n ≤ e → follow_arcs cells next (n - e) here e s ≡ s
  unfolding follow_arcs
  follow_end here n e s l = let a : n - e ≡ 0 = omega arith in ap (λ (m : ℕ). follow_arcs cells next m here e s) a

module _ (cells : ℕ) (next other : ℕ → ℕ → Option ℕ) where
  -- an arc that leads to the same cell finds it
  follow_same : (here e : ℕ) (s : Search) → next here e ≡ other here e → follow cells next here e s ≡ follow cells other here e s
  unfolding follow
  follow_same here e s p = ap (λ (o : Option ℕ). entered cells e o s) p

  -- and so do all arcs of a cell
  pub follow_arcs_same : (here : ℕ) → ((e : ℕ) → next here e ≡ other here e) → (k e : ℕ) (s : Search)
      → follow_arcs cells next k here e s ≡ follow_arcs cells other k here e s
  unfolding follow_arcs
  follow_arcs_same here p zero e s = refl
  follow_arcs_same here p (suc k) e s =
      ap (follow_arcs cells next k here (e + 1)) (follow_same here e s (p e)) ∙ follow_arcs_same here p k (e + 1) (follow cells other here e s)

-- Arcs before e took the work space from v to w, from `found` cells to `count`; e leaves the state of the cell, or no
-- arc is left.
pub record Following (c : Counts) (arcs text : List ℕ) (strings : Strings) (spans : Spans) (here found : ℕ) (v : List ℕ)
    (e count : ℕ) (w : List ℕ) : Type 0 where
  pub rest : follow_arcs (c.states * spans.all) (next_cell c arcs text strings spans (cells_of v)) (c.arcs - e) here e (search_of (cells_of w) count)
      ≡ follow_arcs (c.states * spans.all) (next_cell c arcs text strings spans (cells_of v)) c.arcs here 0 (search_of (cells_of v) found)
  pub front : take (c.states * spans.all) (cells_of w) ≡ take (c.states * spans.all) (cells_of v)
  pub kept : Kept (c.states * spans.all) (search_of (cells_of w) count)
  pub same_length : length w ≡ length v
  pub leaves : e < c.arcs → source_of arcs e ≡ here / spans.all

module _ (c : Counts) (arcs text : List ℕ) (strings : Strings) (spans : Spans) (h : Searchable c arcs text strings spans) where
  -- ---- one arc

  -- what its labels ask
  pub shift_requires : (e : ℕ) → e < c.arcs → Labelled arcs (labels_start (arc_size * e)) × (c.tapes ≤ 8) × Spannable spans
  shift_requires e l = let r = h.ready 0 h.some_combination in ((r.each e l).labelled, r.laid.few, h.spannable)

  -- they move by less than a number of 64 bits has room for
  pub shift_fits : (e x : ℕ) → e < c.arcs → x ≡ shift_of c arcs spans.spans e → x ≤ 20393268025000000
  shift_fits e x l p =
      let r = shift_requires e l in
      let z : labels_start (arc_size * e) + label_size * 0 ≡ labels_start (arc_size * e) = omega arith in
      let m : shift_by c.tapes 0 (labels_start (arc_size * e)) arcs spans.spans ≤ c.tapes * 2549158503125000 =
      subst (λ (k : ℕ). shift_by c.tapes 0 k arcs spans.spans ≤ c.tapes * 2549158503125000) z
      (shift_small arcs (labels_start (arc_size * e)) spans r.0 r.2 c.tapes 0 (omega (arith, r.1))) in
      omega (arith, p, m, r.1)

  module _ (ws : List ℕ) (here e : ℕ) (l : e < c.arcs) (p : source_of arcs e ≡ here / spans.all)
      (x to : ℕ) (q : x ≡ shift_of c arcs spans.spans e) (t : to ≡ here % spans.all + x) where
    -- it leads from a cell of its source where it is tight
    next_tight : next_cell c arcs text strings spans ws here e ≡ tight_to c arcs text strings spans ws to here e
    unfolding next_cell
    next_tight =
        let a : ltb e c.arcs ≡ true = lt-ltb e c.arcs l in
        let b : eqb (source_of arcs e) (here / spans.all) ≡ true = eq-eqb (source_of arcs e) (here / spans.all) p in
        let d : here % spans.all + shift_of c arcs spans.spans e ≡ to = ap (λ (k : ℕ). here % spans.all + k) (sym q) ∙ sym t in
        rw (a, b, d)

    -- nowhere: no cell is found
    pub follow_nowhere : (cells : ℕ) (s : Search) → none ≡ tight_to c arcs text strings spans ws to here e
        → s ≡ follow cells (next_cell c arcs text strings spans ws) here e s
    follow_nowhere cells s k = sym (follow-none cells (next_cell c arcs text strings spans ws) here e s (next_tight ∙ sym k))

    -- to a cell, which is one of the cells
    pub reached_lt : (d : ℕ) → some d ≡ tight_to c arcs text strings spans ws to here e → d < c.states * spans.all
    reached_lt d k = tight_lt c arcs text strings spans h ws to here e d l (sym k)

    -- which is found
    pub follow_there : (cells : ℕ) (s u : Search) (d : ℕ) → some d ≡ tight_to c arcs text strings spans ws to here e
        → u ≡ enter cells e d s → u ≡ follow cells (next_cell c arcs text strings spans ws) here e s
    unfolding follow
    follow_there cells s u d k f = f ∙ sym (ap (λ (o : Option ℕ). entered cells e o s) (next_tight ∙ sym k))

  -- ---- the arcs that leave the state of a cell

  -- arcs that leave another state lead nowhere
  next_away : (ws : List ℕ) (here e : ℕ) → (source_of arcs e ≡ here / spans.all → ⊥) → next_cell c arcs text strings spans ws here e ≡ none
  unfolding next_cell
  next_away ws here e n = go (ltb e c.arcs)
    where
      next : Option ℕ
      next = tight_to c arcs text strings spans ws (here % spans.all + shift_of c arcs spans.spans e) here e

      go : (b : Bool) → if b (if (eqb (source_of arcs e) (here / spans.all)) next none) none ≡ none
      go true = ap (λ (b : Bool). if b next none) (ne_eqb (source_of arcs e) (here / spans.all) n)
      go false = refl

  module _ (here found : ℕ) (v : List ℕ) (lt : here < c.states * spans.all) (firsts nexts : List ℕ)
      (chained : Chained c.states c.arcs arcs firsts nexts) where
    -- the arcs between two that leave the state are passed over
    passed : (k j : ℕ) (s : Search) → First arcs (here / spans.all) c.arcs k j
        → follow_arcs (c.states * spans.all) (next_cell c arcs text strings spans (cells_of v)) (c.arcs - j) here j s
        ≡ follow_arcs (c.states * spans.all) (next_cell c arcs text strings spans (cells_of v)) (c.arcs - k) here k s
    passed k j s f =
        sym (skip_to (c.states * spans.all) (next_cell c arcs text strings spans (cells_of v)) here c.arcs k j s f.behind f.within
        (λ i l m. next_away (cells_of v) here i (f.between i l m)))

    -- before the first arc
    pub following_start : Kept (c.states * spans.all) (search_of (cells_of v) found) → (e : ℕ) → e ≡ get_or firsts (here / spans.all) 0
        → Following c arcs text strings spans here found v e found v
    following_start k e p = record {
      rest = passed 0 e (search_of (cells_of v) found) first ∙ ap from_first all_left;
      front = refl;
      kept = k;
      same_length = refl;
      leaves = first.leaves;
    }
      where
        first : First arcs (here / spans.all) c.arcs 0 e
        first = subst (First arcs (here / spans.all) c.arcs 0) (sym p)
            (first-arc c.states c.arcs arcs firsts nexts chained (here / spans.all)
            (state_lt c.states spans.all here h.some_combination lt))

        from_first : ℕ → Search
        from_first n = follow_arcs (c.states * spans.all) (next_cell c arcs text strings spans (cells_of v)) n here 0 (search_of (cells_of v) found)

        all_left : c.arcs - 0 ≡ c.arcs
        all_left = omega arith

    module _ (e count : ℕ) (w : List ℕ) (i : Following c arcs text strings spans here found v e count w) where
      -- behind an arc
      pub following_turn : e < c.arcs → (j r : ℕ) (u : List ℕ) → j ≡ get_or nexts e 0
          → search_of (cells_of u) r ≡ follow (c.states * spans.all) (next_cell c arcs text strings spans (cells_of w)) here e (search_of (cells_of w) count)
          → length u ≡ length w → Following c arcs text strings spans here found v j r u
      following_turn l j r u p g n = record {
        rest = passed (e + 1) j (search_of (cells_of u) r) after
            ∙ ap (follow_arcs cells next (c.arcs - (e + 1)) here (e + 1)) moved
            ∙ follow-more cells next here c.arcs e s l
            ∙ i.rest;
        front = ap (λ (x : Search). take cells x.numbers) moved ∙ follow_front cells next here e s ∙ i.front;
        kept = subst (Kept cells) (sym moved) (follow_kept cells next (next_lt c arcs text (targets c arcs text strings spans h) strings spans (cells_of v)) (omega (arith, few)) here e s i.kept);
        same_length = n ∙ i.same_length;
        leaves = after.leaves;
      }
        where
          cells : ℕ
          cells = c.states * spans.all

          next : ℕ → ℕ → Option ℕ
          next = next_cell c arcs text strings spans (cells_of v)

          s : Search
          s = search_of (cells_of w) count

          few : c.arcs ≤ 8192
          few = (h.ready 0 h.some_combination).few_arcs

          after : First arcs (here / spans.all) c.arcs (e + 1) j
          after = subst (First arcs (here / spans.all) c.arcs (e + 1)) (sym p)
              (next-arc c.states c.arcs arcs firsts nexts chained (here / spans.all) e l (i.leaves l))

          moved : search_of (cells_of u) r ≡ follow cells next here e s
          moved = g ∙ follow_same cells (next_cell c arcs text strings spans (cells_of w)) next here e s
              (next_kept c arcs text (targets c arcs text strings spans h) strings spans (cells_of w) (cells_of v) i.front here e lt)

      -- the next arc comes behind
      pub following_up : e < c.arcs → (j : ℕ) → j ≡ get_or nexts e 0 → e < j
      following_up l j p =
          omega (arith, p, (next-arc c.states c.arcs arcs firsts nexts chained (here / spans.all) e l (i.leaves l)).behind)

      -- no arc is left
      pub following_end : c.arcs ≤ e
          → search_of (cells_of w) count
          ≡ follow_arcs (c.states * spans.all) (next_cell c arcs text strings spans (cells_of v)) c.arcs here 0 (search_of (cells_of v) found)
      following_end l =
          sym (follow_end (c.states * spans.all) (next_cell c arcs text strings spans (cells_of v)) here c.arcs e (search_of (cells_of w) count) l)
          ∙ i.rest
