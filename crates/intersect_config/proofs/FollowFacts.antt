-- The loop over the pairs in the step by an arc, whose results are written in a row.
use Prim.Native.Nat.{ℕ, ◌+◌, ◌≤◌, ◌<◌}
use mathlib.Core.Path.{◌≡◌, refl, sym, ap, ◌∙◌, subst}
use mathlib.Core.Bool.{Bool, true, false}
use mathlib.Core.List.{List, [], ◌∷◌}
use native.Mathlib.Omega.{arith}
use lib.ListN.{length, get_or}
use Rattle.table.specs.Region.{splice}
use Rattle.table.specs.Endian.{to_le}
use Rattle.table.specs.Arcs.{target_at}
use Rattle.table.specs.Pairs.{no_pair}
use Rattle.table.specs.declared.record.InputState.{InputState}
use Rattle.table.specs.declared.pair.PairList.{PairList}
use Rattle.intersect_config.specs.declared.leftover.Leftover.{Leftover}
use Rattle.intersect_config.specs.Leftovers.{blank, leftover_at, Good}
use Rattle.intersect_config.specs.Configs.{Config, config_at, slot, Row, Starts, row_size}
use Rattle.intersect_config.specs.Steps.{pair_after, Followable, Follows, FollowsIn, Advanceable, AdvancesAt}
use Rattle.intersect_config.proofs.TestFacts.{starts-blank}
use Rattle.intersect_config.proofs.StepFacts.{Progress, progress_start, progress-next, follows_none, follows_some}
use Rattle.intersect_config.proofs.RowFacts.{leftover_in_slot, four_in, length_row, state-written, slot-written, cut, cut-next, cut_end}

-- the row holds what the first i pairs came to
pub record Filling (own arcs : List ℕ) (at : ℕ) (ps : PairList) (row : List ℕ) (i : ℕ) : Type 0 where
  pub row_is : Row ps.used row
  pub progress : Progress arcs at (config_at 0 own) ps (cut i (config_at 0 row)) i

module _ (own arcs : List ℕ) (at : ℕ) (ps : PairList) (f : Followable (config_at 0 own) arcs at ps) (whole : length own ≡ row_size) where
  -- the target is written, and no pair yet
  pub filling_start : (row v : List ℕ) (q : ℕ) → q < 65536 → Row ps.used row → q ≡ target_at at arcs → v ≡ splice 0 (to_le 2 q) row → Filling own arcs at ps v 0
  filling_start row v q h r e g =
      let w = state-written ps.used row v (record { 0 = q }) h r g in
      record {
        row_is = w.0;
        progress = progress_start arcs at (config_at 0 own) ps f q (cut 0 (config_at 0 v)) e
            (subst (λ (s : InputState). Starts q (record { state = s; leftovers = blank ∷ blank ∷ blank ∷ blank ∷ [] })) (sym (ap (λ (d : Config). d.state) w.1))
            (starts-blank (record { 0 = q }) blank h refl));
      }

  module _ (row : List ℕ) (i : ℕ) (r : Filling own arcs at ps row i) (h : i < ps.used) where
    few : i < 4
    few = omega (arith, h, f.named.used_fit)

    -- the next pair may be advanced
    pub may_advance : Advanceable own arcs at (get_or ps.pairs i no_pair) i row
    may_advance = record {
      within = few;
      whole = whole;
      row_whole = length_row ps.used row r.row_is;
      arc_whole = f.whole;
      named = f.named.each i h;
      short = let s = f.short i h in rw (← leftover_in_slot i own few) s;
      first_fits = f.first_fits i h;
      second_fits = f.second_fits i h;
    }

    -- what the answer and the row are after the next pair
    abbrev After : Bool → List ℕ → Type 0
    After = AdvancesAt (pair_after at arcs (get_or ps.pairs i no_pair) (leftover_at (slot i) own)) (slot i) row

    -- a pair that is not compatible
    pub follows_not : (v : List ℕ) → After false v → FollowsIn own arcs at ps false v
    follows_not v a =
        let w : Row ps.used v = subst (Row ps.used) (sym a.1) r.row_is in
        record {
          step = follows_none arcs at (config_at 0 own) ps f (cut i (config_at 0 row)) i r.progress h (rw (leftover_in_slot i own few) a.0) (config_at 0 v) w.good;
          bytes = w.bytes;
        }

    -- a pair that is
    pub filling_next : (v : List ℕ) → After true v → Filling own arcs at ps v (i + 1)
    filling_next v a =
        let l : Leftover = a.0 in
        let g : Good l = a.1.0.1 in
        let w = slot-written ps.used i row v l h f.named.used_fit g r.row_is a.1.1 in
        record {
          row_is = w.0;
          progress = progress-next arcs at (config_at 0 own) ps f (cut i (config_at 0 row)) i r.progress h l (rw (leftover_in_slot i own few) a.1.0.0) g
              (cut (i + 1) (config_at 0 v)) (ap (cut (i + 1)) w.1 ∙ cut-next i (config_at 0 row) l few (four_in row));
        }

  -- all pairs
  pub follows_all : (row : List ℕ) (i : ℕ) → Filling own arcs at ps row i → ps.used ≤ i → FollowsIn own arcs at ps true row
  follows_all row i r h =
      let e : i ≡ ps.used = omega (arith, r.progress.within) in
      record {
        step = subst (λ (d : Config). Follows (config_at 0 own) arcs at ps (record { compatible = true; config = d }))
            (ap (λ (k : ℕ). cut k (config_at 0 row)) e ∙ cut_end ps.used (config_at 0 row) r.row_is.good)
            (follows_some arcs at (config_at 0 own) ps f (cut i (config_at 0 row)) i r.progress h);
        bytes = r.row_is.bytes;
      }
