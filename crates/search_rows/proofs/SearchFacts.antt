-- A search over vertices, some of them taken up: it grows, and where all are taken up it has come to the reached
-- vertices and their edges.
use Prim.Native.Nat.{ℕ, ◌+◌, ◌≤◌}
use mathlib.Core.Path.{◌≡◌, refl, sym, ap, ◌∙◌}
use mathlib.Core.Bool.{Bool}
use mathlib.Core.List.{List, [], ◌∷◌, ◌++◌}
use native.Mathlib.Omega.{arith}
use lib.ListN.{length, length-append}
use Rattle.automata.specs.Lists.{Decides}
use Rattle.automata.specs.Explore.{insert_all, edges, reached}
use Rattle.automata.specs.Search.{Search, note_all, search_from, searched}
use Rattle.automata.proofs.AppendFacts
use Rattle.automata.proofs.SearchFacts.{insert_all-begins, insert_all_append, note_all_append, note_all_length, searched-reached}
use Rattle.automata.proofs.SearchedEdges.{searched-edges}

-- one element more in a list that is counted
pub count_more : {A : Type 0} (n : ℕ) (xs : List A) (x : A) → n ≡ length xs → n + 1 ≡ length (xs ++ (x ∷ []))
count_more n xs x e = sym (length-append xs (x ∷ []) ∙ omega (arith, e))

-- more vertices inserted leave no fewer
pub inserted_longer : {C : Type 0} (same : C → C → Bool) (cs xs ys zs : List C) → zs ≡ xs ++ ys → length (insert_all same cs xs) ≤ length (insert_all same cs zs)
inserted_longer same cs xs ys zs e =
    let l = AppendFacts.begins_length (insert_all-begins same (insert_all same cs xs) ys) in
    let q = ap length (ap (insert_all same cs) e ∙ insert_all_append same cs xs ys) in
    omega (arith, l, q)

-- before a vertex is taken up
pub searched_begun : {C L : Type 0} (same : C → C → Bool) (out : C → List (L × C)) (starts : List C) → search_from same starts ≡ searched same out starts 0
unfolding searched
searched_begun same out starts = refl

module _ {C L : Type 0} (same : C → C → Bool) (decided : Decides same) where
  -- more steps noted leave no fewer vertices
  pub noted_longer : (k : ℕ) (s : Search C L) (xs ys zs : List (L × C)) → zs ≡ xs ++ ys → length (note_all same k s xs).vertices ≤ length (note_all same k s zs).vertices
  noted_longer k s xs ys zs e =
      let l = note_all_length same decided k (note_all same k s xs) ys in
      let q = ap (λ (z : Search C L). length z.vertices) (ap (note_all same k s) e ∙ note_all_append same decided k s xs ys) in
      omega (arith, l, q)

  -- where all are taken up and there is room for them, the search has come to the reached vertices and the edges
  -- between them
  pub searched_whole : (out : C → List (L × C)) (starts : List C) (cap k : ℕ) → length (searched same out starts k).vertices ≤ cap
      → length (searched same out starts k).vertices ≤ k
      → searched same out starts k ≡ record { vertices = reached same out cap starts; edges = edges same out (reached same out cap starts) }
  searched_whole out starts cap k small all =
      let e : reached same out cap starts ≡ (searched same out starts k).vertices = searched-reached same decided out starts cap k small all in
      let f : edges same out (searched same out starts k).vertices ≡ (searched same out starts k).edges = searched-edges same decided out starts k all in
      λ i. record { vertices = sym e i; edges = (sym f ∙ ap (edges same out) (sym e)) i }
