-- Tight arcs on cells are arcs of the table whose labels lead from one cell to the other.
use mathlib.Core.Path.{◌≡◌, refl, sym, ap, ap₂, subst, ◌∙◌}
use mathlib.Core.Option.{some}
use mathlib.Core.List.{List, [], ◌∷◌}
use Prim.Native.Nat.{ℕ, zero, suc, ◌+◌, ◌*◌, ◌/◌, ◌%◌, ◌≤◌, ◌<◌}
use native.Mathlib.Nat.{zero-add}
use native.Mathlib.Omega.{arith}
use lib.Arith.{digits_div, digits_mod}
use lib.ListN.{length, get_or, drop}
use Rattle.automata.specs.Automaton.{Arc, Tuple}
use Rattle.automata.specs.Lookup.{left_quotients}
use Rattle.automata.specs.Calls.Work.{combinations}
use Rattle.automata.specs.Cells.{Positions, drop_all, place, cell}
use Rattle.automata.specs.Memory.{Sound}
use Rattle.automata.proofs.Cells.{moved, place_lt, place_inj}
use Rattle.automata.specs.Layout.{arc_size, label_size}
use Rattle.table.specs.Answers.{lent}
use Rattle.table.specs.Records.{arc_as, arc_at, content_at, labels_at}
use Rattle.table.specs.declared.answer.Counts.{Counts}
use Rattle.table.proofs.SoundFacts.{few_tapes}
use Rattle.lookup_tuple.specs.declared.Strings.{Strings}
use Rattle.lookup_tuple.specs.Strings.{Stands}
use Rattle.lookup_moves.specs.declared.spot.Spans.{Spans}
use Rattle.lookup_moves.specs.Spots.{Spanned, spot_of}
use Rattle.table.specs.Arcs.{target_of, labels_start}
use Rattle.lookup_cells.specs.Pushes.{back_by}
use Rattle.lookup_cells.proofs.MoveMeaning.{combinations_positive, label_length, first_short, next-short, labelled, shift, place-moved}
use Rattle.lookup_cells.proofs.PushMeaning.{AtSpot, ready, arc_labels, arc_before, arc_back}
use Rattle.lookup_cells.proofs.SpotMeaning.{digits, place_digits, span_at, all_at, at_spot}
use Rattle.path_search.specs.Tight.{shift_by, shift_of, end_there}
use Rattle.path_search.proofs.TightArcFacts.{ends_there, number_to, TightArc}

-- the lengths of the labels of n tapes, each times the combinations behind its string, are what the labels move by
shift_means : (n h at : ℕ) (arcs spans : List ℕ) (t : Tuple) → length t ≡ n → ((j : ℕ) → j < n → get_or spans (h + j) 0 ≡ combinations (drop (suc j) t))
    → at + label_size * n ≤ length arcs → ((i : ℕ) → i < n → get_or arcs (at + label_size * i) 0 ≤ 8) → shift_by n h at arcs spans ≡ shift (labelled n at arcs) t
unfolding shift_by labels_at
shift_means zero h at arcs spans t e behind lent short = refl
shift_means (suc n) h at arcs spans [] e behind lent short = absurd (omega (arith, e))
shift_means (suc n) h at arcs spans (x ∷ t) e behind lent short =
    let here : get_or spans h 0 ≡ combinations t = let z : h + 0 ≡ h = omega arith in ap (λ (k : ℕ). get_or spans k 0) (sym z) ∙ behind 0 (omega arith) in
    let next : (j : ℕ) → j < n → get_or spans (h + 1 + j) 0 ≡ combinations (drop (suc j) t)
    = λ j lt. (let z : h + 1 + j ≡ h + suc j = omega arith in ap (λ (k : ℕ). get_or spans k 0) z ∙ behind (suc j) (omega arith)) in
    ap₂ (λ (i j : ℕ). i + j) (ap₂ (λ (i j : ℕ). i * j) (sym (label_length arcs at (omega arith) (first_short n at arcs short))) here)
    (shift_means n (h + 1) (at + label_size) arcs spans t (omega (arith, e)) next (omega arith) (next-short n at arcs short))

-- arc e of the table
abbrev pub table_arc : Counts → List ℕ → ℕ → Arc ℕ
table_arc c arcs e = arc_as c.tapes (arc_at (arc_size * e) arcs)

-- An arc leads from the cell of a state and positions to cell d, and its weight is the difference of their numbers.
pub record ArcFrom (t : Tuple) (ws : List ℕ) (q : ℕ) (ps : List ℕ) (a : Arc ℕ) (d : ℕ) : Type 0 where
  pub from : a.source ≡ q
  pub positions : Positions (moved ps a.labels) t
  pub left : left_quotients a.labels (drop_all ps t) ≡ some (drop_all (moved ps a.labels) t)
  pub there_is : d ≡ cell a.target (moved ps a.labels) t
  pub weighs : a.weight + get_or ws d 0 ≡ get_or ws (cell q ps t) 0

module _ (text : List ℕ) (t : Tuple) (s : Strings) (stands : Stands text t s) (spans : Spans) (spanned : Spanned s.lengths spans) (q : ℕ) (ps : List ℕ)
    (pos : Positions ps t) where
  -- the state of a cell
  pub cell-state : cell q ps t / spans.all ≡ q
  cell-state = ap (λ (k : ℕ). cell q ps t / k) (all_at text t s stands spans spanned) ∙ digits_div q (place_lt ps t pos)

  -- the number of its combination
  pub cell-number : cell q ps t % spans.all ≡ place ps t
  cell-number = ap (λ (k : ℕ). cell q ps t % k) (all_at text t s stands spans spanned) ∙ digits_mod q (place_lt ps t pos)

module _ (c : Counts) (states arcs text : List ℕ) (sound : Sound (lent c states arcs)) (t : Tuple) (s : Strings) (stands : Stands text t s)
    (tapes-are : length t ≡ c.tapes) (spans : Spans) (spanned : Spanned s.lengths spans) where
  -- the combination with number b
  spot : (b : ℕ) → b < combinations t → AtSpot text t (spot_of s spans b) (digits b t)
  spot = at_spot text t s stands spans spanned

  module _ (e : ℕ) (lt : e < c.arcs) where
    -- the labels of an arc move the number of a combination by as much as is computed
    shift_is : shift_of c arcs spans.spans e ≡ shift (table_arc c arcs e).labels t
    shift_is =
        let at = spot 0 (combinations_positive t) in
        let ls = ((ready c states arcs text sound t tapes-are (spot_of s spans 0) (digits 0 t) at).each e lt).labelled in
        let few = few_tapes (lent c states arcs) sound in
        shift_means c.tapes 0 (labels_start (arc_size * e)) arcs spans.spans t tapes-are
        (λ j h. ap (λ (k : ℕ). get_or spans.spans k 0) (zero-add j) ∙ span_at text t s stands spans spanned j (omega (arith, few)))
        (omega (arith, ls.lent, few)) (λ i h. ls.short i (omega (arith, few)))
        ∙ ap (λ (l : List (List ℕ)). shift l t) (arc_labels c states arcs text sound t tapes-are (spot_of s spans 0) (digits 0 t) at e lt)

    -- so they lead from positions to those behind them
    number-to : (q : ℕ) (ps : List ℕ) → Positions ps t → number_to c arcs spans (cell q ps t) e ≡ place (moved ps (table_arc c arcs e).labels) t
    number-to q ps pos = omega (arith, cell-number text t s stands spans spanned q ps pos, shift_is, place-moved ps (table_arc c arcs e).labels t pos)

  module _ (ws : List ℕ) (q : ℕ) (ps : List ℕ) (pos : Positions ps t) (e d : ℕ) where
    -- a tight arc is an arc of the table that leads from one cell to the other
    pub tight_arc : TightArc c arcs text s spans ws (cell q ps t) e d → ArcFrom t ws q ps (table_arc c arcs e) d
    unfolding arc_at content_at
    tight_arc x =
        let n : ℕ = number_to c arcs spans (cell q ps t) e in
        let ls : List (List ℕ) = (table_arc c arcs e).labels in
        let small : n < combinations t = omega (arith, x.fits, all_at text t s stands spans spanned) in
        let at = spot n small in
        let (k, f) = ends_there (back_by c.tapes e arcs text (spot_of s spans n)) x.spells in
        let b = arc_before c states arcs text sound t tapes-are (spot_of s spans n) (digits n t) at e x.in_table k f in
        let led : place (moved b.earlier ls) t ≡ place (digits n t) t = ap (λ (z : List ℕ). place z t) b.leads in
        let same : place b.earlier t ≡ place ps t
        = omega (arith, led, place_digits n t small, place-moved b.earlier ls t b.positions, number-to e x.in_table q ps pos, place-moved ps ls t pos) in
        let here : b.earlier ≡ ps = place_inj b.earlier ps t b.positions pos same in
        let there : digits n t ≡ moved ps ls = sym b.leads ∙ ap (λ (z : List ℕ). moved z ls) here in record {
          from = x.from ∙ cell-state text t s stands spans spanned q ps pos;
          positions = subst (λ (z : List ℕ). Positions z t) there at.positions;
          left = ap (λ (z : List ℕ). left_quotients ls (drop_all z t)) (sym here) ∙ b.quotient ∙ ap (λ (z : List ℕ). some (drop_all z t)) there;
          there_is = x.there_is ∙ ap₂ (λ (i j : ℕ). target_of arcs e * i + j) (all_at text t s stands spans spanned) (number-to e x.in_table q ps pos);
          weighs = x.weighs;
        }

    -- and the other way round
    pub arc_tight : e < c.arcs → ArcFrom t ws q ps (table_arc c arcs e) d → TightArc c arcs text s spans ws (cell q ps t) e d
    unfolding arc_at content_at
    arc_tight lt x =
        let n : ℕ = number_to c arcs spans (cell q ps t) e in
        let ls : List (List ℕ) = (table_arc c arcs e).labels in
        let to = number-to e lt q ps pos in
        let small : n < combinations t = omega (arith, to, place_lt (moved ps ls) t x.positions) in
        let there : moved ps ls ≡ digits n t = place_inj (moved ps ls) (digits n t) t x.positions (spot n small).positions (sym to ∙ sym (place_digits n t small)) in
        let back = arc_back c states arcs text sound t tapes-are (spot_of s spans n) (digits n t) (spot n small) e lt ps (drop_all (moved ps ls) t) pos there x.left in record {
          in_table = lt;
          from = x.from ∙ sym (cell-state text t s stands spans spanned q ps pos);
          fits = omega (arith, small, all_at text t s stands spans spanned);
          weighs = x.weighs;
          spells = ap end_there back;
          there_is = x.there_is ∙ sym (ap₂ (λ (i j : ℕ). target_of arcs e * i + j) (all_at text t s stands spans spanned) to);
        }
