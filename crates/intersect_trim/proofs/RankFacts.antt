-- The numbers of the kept configurations, one after the other.
use Prim.Native.Nat.{ℕ, suc, ◌+◌, ◌<◌, ◌≤◌}
use mathlib.Core.Path.{◌≡◌, ap, ◌∙◌}
use mathlib.Core.Bool.{Bool, true, false}
use mathlib.Core.List.{List}
use native.Mathlib.Omega.{arith}
use native.Mathlib.Numerals.{add-one}
use native.Mathlib.Decide.{ℕ_discrete}
use lib.ListN.{length, get_or, take, set}
use lib.Seq.{get_or-set_same, get_or-set_other, get_or-take}
use Rattle.automata.specs.Lists.{if}
use Rattle.automata.specs.Trim.{rank}
use Rattle.automata.proofs.RankFacts.{rank_suc}
use Rattle.intersect_edges.specs.Marked.{bit, is_mark, bools}
use Rattle.intersect_edges.proofs.MarkFacts.{mark_at_lem}
use Rattle.intersect_trim.specs.Ranks.{Numbered}

-- one place more
pub rank_step : (n i kept v : ℕ) (ms : List ℕ) → i < n → kept ≡ rank (bools (take n ms)) i → v ≡ bit (is_mark (get_or ms i 0))
    → kept + v ≡ rank (bools (take n ms)) (i + 1)
rank_step n i kept v ms l e f =
    let b : get_or (bools (take n ms)) i false ≡ is_mark (get_or ms i 0) = mark_at_lem (take n ms) i ∙ ap is_mark (get_or-take n ms i 0 l) in
    go (is_mark (get_or ms i 0)) f (ap (rank (bools (take n ms))) (add-one i) ∙ rank_suc (bools (take n ms)) i ∙ (rw b))
  where
    go : (b : Bool) → v ≡ bit b → rank (bools (take n ms)) (i + 1) ≡ if b (suc (rank (bools (take n ms)) i)) (rank (bools (take n ms)) i)
        → kept + v ≡ rank (bools (take n ms)) (i + 1)
    go true g h = omega arith
    go false g h = omega arith

-- one number more
pub number_step : (i kept : ℕ) (bs : List Bool) (rs : List ℕ) → i < length rs → kept ≡ rank bs i
    → ((k : ℕ) → k < i → get_or rs k 0 ≡ rank bs k) → (k : ℕ) → k < i + 1 → get_or (set rs i kept) k 0 ≡ rank bs k
number_step i kept bs rs l e h k g = elim (ℕ_discrete k i) [
  | yes p ↦ (rw p (get_or-set_same rs i kept 0 l ∙ e))
  | no p ↦ get_or-set_other rs i k kept 0 p ∙ h k (omega arith)
]

-- all numbers
pub numbered : (n i kept : ℕ) (bs : List Bool) (rs : List ℕ) → i ≤ n → n ≤ i → kept ≡ rank bs i → ((k : ℕ) → k < i → get_or rs k 0 ≡ rank bs k) → Numbered bs n rs kept
numbered n i kept bs rs l h e f =
    let z : i ≡ n = omega arith in
    record { number = λ k g. f k (omega arith); total = e ∙ ap (rank bs) z }
