-- Tight arcs, from what each call gave.
use mathlib.Core.Path.{◌≡◌, refl, sym, ap, subst, ◌∙◌}
use mathlib.Core.Logic.{◌≢◌}
use mathlib.Core.Bool.{Bool, true, false}
use mathlib.Core.Option.{none, some}
use mathlib.Core.List.{List}
use Prim.Native.Nat.{ℕ, suc, ◌+◌, ◌*◌, ◌≤◌, ◌<◌}
use native.Mathlib.Nat.{mul-le-mul}
use native.Mathlib.Omega.{arith}
use borrow.Author.Tests.{lt-ltb, le-ltb}
use lib.Arith.{digits_lt}
use lib.Dec.{eqb, eqb_refl}
use lib.ListN.{length, get_or}
use Rattle.automata.proofs.TestFacts.{eqb_false, T_true}
use Rattle.automata.specs.Layout.{arc_size, label_size}
use Rattle.table.specs.declared.answer.Counts.{Counts}
use Rattle.lookup_tuple.specs.declared.Strings.{Strings}
use Rattle.lookup_moves.specs.declared.spot.Spot.{Spot}
use Rattle.lookup_moves.specs.declared.spot.Spans.{Spans}
use Rattle.std.specs.Prelude as rust
use Rattle.std.specs.Prelude.{Some, None, is_some}
use Rattle.table.specs.Records.{option_of}
use Rattle.lookup_moves.specs.Distances.{far, cells_of}
use Rattle.lookup_moves.specs.Moves.{moves_from, Laid, Labelled, spot_with}
use Rattle.lookup_moves.specs.Spots.{spot_of}
use Rattle.lookup_moves.proofs.MoveFacts.{laid_any, moves_any}
use Rattle.table.specs.Arcs.{target_of, arc_weight, labels_start}
use Rattle.lookup_cells.specs.Pushes.{back_by}
use Rattle.path_search.specs.Tight.{shift_by, end_there, tight_to}
use Rattle.path_search.specs.Searchable.{Spannable, Weights}

-- ---- by how much labels move a combination

module _ (arcs spans : List ℕ) (left h at shift : ℕ) where
  -- what is added for one tape, with the rest, is what all make
  pub shift_turn : (rest : ℕ) → left ≡ suc rest
      → shift + get_or arcs at 0 * get_or spans h 0 + shift_by rest (h + 1) (at + label_size) arcs spans ≡ shift + shift_by left h at arcs spans
  unfolding shift_by
  shift_turn rest d = rw d (omega arith)

  -- where no tape is left, nothing is added
  pub shift_end : left ≡ 0 → shift ≡ shift + shift_by left h at arcs spans
  unfolding shift_by
  shift_end d = rw d (omega arith)

-- a label has at most eight symbols
pub label_short : (arcs : List ℕ) (e h at : ℕ) → Labelled arcs (labels_start (arc_size * e)) → h < 8 → at ≡ labels_start (arc_size * e) + label_size * h → get_or arcs at 0 ≤ 8
label_short arcs e h at l lt is = omega (arith, l.short h lt, ap (λ (i : ℕ). get_or arcs i 0) is)

-- so what is added for it is not too much
pub shift_bound : (arcs : List ℕ) (spans : Spans) (e h at : ℕ) → Labelled arcs (labels_start (arc_size * e)) → Spannable spans → h < 8
    → at ≡ labels_start (arc_size * e) + label_size * h → get_or arcs at 0 * get_or spans.spans h 0 ≤ 2549158503125000
shift_bound arcs spans e h at l s lt is = omega (arith, mul-le-mul (label_short arcs e h at l lt is) (s.small h))

-- ---- whether labels end at a combination

module _ (s t : Spot) (is : s ≡ t) where
  -- the strings lie in the text, whatever the number of the combination
  pub laid_parts : (n size : ℕ) → Laid n size t → Laid n size (spot_with s.starts s.positions s.spans 0 0)
  laid_parts n size p =
      laid_any s.starts s.positions s.spans s.number s.all 0 0 n size (subst (Laid n size) (sym is) p)

  module _ (tapes e : ℕ) (arcs text : List ℕ) (r : rust.Option ℕ)
      (f : option_of r ≡ moves_from tapes 0 (labels_start (arc_size * e)) 0 arcs text (spot_with s.starts s.positions s.spans 0 0)) where
    -- the call tells how far back they lead from the combination
    back_is : option_of r ≡ back_by tapes e arcs text t
    back_is = f ∙ moves_any s.starts s.positions s.spans 0 0 s.number s.all tapes 0 (labels_start (arc_size * e)) 0 arcs text
        ∙ ap (back_by tapes e arcs text) is

    -- they end there where it tells a move
    pub ends_are : is_some r ≡ end_there (back_by tapes e arcs text t)
    ends_are = go r ∙ ap end_there back_is
      where
        go : (o : rust.Option ℕ) → is_some o ≡ end_there (option_of o)
        go None = refl
        go (Some k) = refl

-- ---- tight arcs

-- the cell of one of so many states and of a combination lies in the work space, and its weight is not above that for
-- "none"
pub weight_there : (states all q to there : ℕ) (work : List ℕ) → Weights (states * all) work → q < states → to < all
    → there ≡ q * all + to → (8 * there + 8 ≤ length work) × (get_or (cells_of work) there 0 ≤ far)
weight_there states all q to there work w lt in_all e =
    let d : there < states * all = omega (arith, e, digits_lt {q = q} {m = states} {r = to} {c = all} lt in_all) in
    (omega (arith, d, w.room), w.below there d)

module _ (c : Counts) (arcs text : List ℕ) (s : Strings) (spans : Spans) (ws : List ℕ) (to here e : ℕ) where
  -- no arc leads to a number that is no combination
  pub tight_out : spans.all ≤ to → none ≡ tight_to c arcs text s spans ws to here e
  unfolding tight_to
  tight_out out = rw (le-ltb to spans.all out)

  module _ (target there weight x y : ℕ) (in_all : to < spans.all) (c₁ : target ≡ target_of arcs e)
      (c₂ : there ≡ target * spans.all + to) (c₃ : weight ≡ arc_weight arcs e) (c₄ : x ≡ get_or ws there 0) (c₅ : y ≡ get_or ws here 0) where
    -- the cell that the call numbered is that of the arc's target
    there_is : there ≡ target_of arcs e * spans.all + to
    there_is = c₂ ∙ ap (λ (q : ℕ). q * spans.all + to) c₁

    -- an arc is not tight where the weights differ
    pub tight_differs : weight + x ≢ y → none ≡ tight_to c arcs text s spans ws to here e
    unfolding tight_to
    tight_differs ne =
        rw (lt-ltb to spans.all in_all, ← there_is, ← c₃, ← c₄, ← c₅, eqb_false (weight + x) y ne)

    module _ (same : weight + x ≡ y) (b : Bool) (spells : b ≡ end_there (back_by c.tapes e arcs text (spot_of s spans to))) where
      -- it is not where its labels do not end there
      pub tight_astray : b ≡ false → none ≡ tight_to c arcs text s spans ws to here e
      unfolding tight_to
      tight_astray n =
          rw (lt-ltb to spans.all in_all, ← there_is, ← c₃, ← c₄, ← c₅, same, T_true (eqb y y) (eqb_refl y), ← spells, n)

      -- it is where they do
      pub tight_leads : b ≡ true → some there ≡ tight_to c arcs text s spans ws to here e
      unfolding tight_to
      tight_leads n =
          rw (lt-ltb to spans.all in_all, ← there_is, ← c₃, ← c₄, ← c₅, same, T_true (eqb y y) (eqb_refl y), ← spells, n)
