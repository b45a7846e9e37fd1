-- Facts of a list of pairs lent as records: the loop over them, and its first four by value.
use Prim.Native.Nat.{◌≤◌}
use mathlib.Core.Path.{◌≡◌, refl, sym, ap, ◌∙◌}
use mathlib.Core.List.{List, [], ◌∷◌, map}
use native.Mathlib.Omega.{arith}
use lib.ListN.{length, get_or, length-map}
use Rattle.table.specs.declared.pair.Pair.{Pair}
use Rattle.table.specs.declared.pair.PairList.{PairList}
use Rattle.table.specs.Pairs.{pair_as, pairs_as, no_pair}
use Rattle.pairs.specs.Judgement.{FirstFour}
use Rattle.pairs_records.specs.Records.{four_of, read_of}

-- ---- the first four by value
pub read_is : (ps : List Pair) (a b c d : Pair) → a ≡ get_or ps 0 no_pair → b ≡ get_or ps 1 no_pair → c ≡ get_or ps 2 no_pair → d ≡ get_or ps 3 no_pair
    → four_of (length ps) a b c d ≡ read_of ps
unfolding read_of
read_is ps a b c d e f g h = rw (e, f, g, h)

-- at most four pairs are all of them
four-all : (ps : List Pair) → length ps ≤ 4 → pairs_as (read_of ps) ≡ map pair_as ps
unfolding read_of
four-all [] h = refl
four-all (a ∷ []) h = refl
four-all (a ∷ b ∷ []) h = refl
four-all (a ∷ b ∷ c ∷ []) h = refl
four-all (a ∷ b ∷ c ∷ d ∷ []) h = refl
four-all (a ∷ b ∷ c ∷ d ∷ e ∷ ps) h = absurd (omega arith)

read_used : (ps : List Pair) → (read_of ps).used ≡ length ps
unfolding read_of
read_used ps = refl

-- they are the first four of the list
pub read_first : (ps : List Pair) (l : PairList) → l ≡ read_of ps → FirstFour (map pair_as ps) l
read_first ps l is =
    let n = length-map ps pair_as in
    record {
      many = ap (λ (k : PairList). k.used) is ∙ read_used ps ∙ sym n;
      all_read = λ h. ap (λ (k : PairList). pairs_as k) is ∙ four-all ps (omega (arith, h, n));
    }
