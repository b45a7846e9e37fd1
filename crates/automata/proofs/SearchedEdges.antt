-- The edges that exploration notes step by step are the edges between the vertices found, once all have been taken up.
use mathlib.Core.Path.{◌≡◌, refl, sym, ◌∙◌, ap, subst}
use mathlib.Core.Bool.{Bool}
use mathlib.Core.Option.{Option, none, some}
use mathlib.Core.List.{List, [], ◌∷◌, ◌++◌, map, append-nil}
use Prim.Native.Nat.{ℕ, zero, suc, ◌+◌, ◌≤◌}
use native.Mathlib.Omega.{arith}
use lib.ListN.{length, take, get_elem?}
use lib.Seq.{take_all}
use Rattle.automata.specs.Lists.{concat, ◌∈◌, here, there, numbered, map_maybe, Decides}
use Rattle.automata.specs.Explore.{Edge, insert_all, edge_to, edges, successors}
use Rattle.automata.specs.Search.{Search, note_all, search_from, searched}
use Rattle.automata.proofs.ListFacts
use Rattle.automata.proofs.AppendFacts
use Rattle.automata.proofs.AppendFacts.{Begins}
use Rattle.automata.proofs.Explored.{member_complete, insert_all_new}
use Rattle.automata.proofs.SearchFacts.{edge_in, note_all_vertices, note_all-edges_in, searched_some, searched-none, searched-begins, searched_stable}

-- steps whose ends are all in ds give an edge each
all_inside : {C L : Type 0} (same : C → C → Bool) (decided : Decides same) (ds : List C) (k : ℕ) (xs : List (L × C))
    → ((x : L × C) → x ∈ xs → x.1 ∈ ds) → map_maybe (edge_to same ds k) xs ≡ map (edge_in same decided ds k) xs
all_inside same decided ds k [] h = refl
all_inside same decided ds k (x ∷ xs) h =
    rw (member_complete same decided x.1 ds (h x (here refl)), all_inside same decided ds k xs (λ y m. h y (there m)))

module _ {C L : Type 0} (same : C → C → Bool) (decided : Decides same) (out : C → List (L × C)) (starts : List C) where
  -- the search when k vertices have been taken up, and its vertices
  abbrev at : ℕ → Search C L
  at k = searched same out starts k

  abbrev found : ℕ → List C
  found k = (at k).vertices

  -- the edges from a numbered vertex to the vertices ds
  abbrev edges_from : List C → ℕ × C → List (Edge L)
  edges_from ds v = map_maybe (edge_to same ds v.0) (out v.1)

  -- what one more vertex adds, by the places in a list that begins with the vertices after it
  one_more : (j : ℕ) (c : C) (ds : List C) → get_elem? (found j) j ≡ some c → Begins (found (suc j)) ds
      → (at (suc j)).edges ≡ (at j).edges ++ edges_from ds (j, c)
  one_more j c ds e b =
      ap (λ (s : Search C L). s.edges) next ∙ note_all-edges_in same decided j (at j) (out c) ds after
      ∙ ap {B = List (Edge L)} (λ r. (at j).edges ++ r) (sym (all_inside same decided ds j (out c) inside))
    where
      next : at (suc j) ≡ note_all same j (at j) (out c)
      next = searched_some same decided out starts j c e

      after : Begins (note_all same j (at j) (out c)).vertices ds
      after = subst (λ (s : Search C L). Begins s.vertices ds) next b

      inside : (x : L × C) → x ∈ out c → x.1 ∈ ds
      inside x m =
          let n : x.1 ∈ insert_all same (found j) (successors out c) =
          insert_all_new same decided (found j) (successors out c) x.1 (ListFacts.map_keeps (λ (y : L × C). y.1) (out c) m) in
          let (i, p) = ListFacts.place (note_all same j (at j) (out c)).vertices {a = x.1} (rw (note_all_vertices same decided j (at j) (out c)) n) in
          ListFacts.placed ds i (AppendFacts.begins-place after i p)

  -- the edges noted when j of the vertices have been taken up: those from the first j, by the places among all
  edges_taken : (k j m : ℕ) → j + m ≡ k → length (found k) ≤ k
      → (at j).edges ≡ concat (map (edges_from (found k)) (numbered zero (take j (found k))))
  unfolding searched search_from
  edges_taken k zero m e all = refl
  edges_taken k (suc j) m e all = go (get_elem? (found j) j) refl (edges_taken k j (suc m) (omega arith) all)
    where
      f : List C
      f = found k

      go : (o : Option C) → get_elem? (found j) j ≡ o → (at j).edges ≡ concat (map (edges_from f) (numbered zero (take j f)))
          → (at (suc j)).edges ≡ concat (map (edges_from f) (numbered zero (take (suc j) f)))
      go none h before =
          let short : length (found j) ≤ j = ListFacts.place_none (found j) j h in
          let stable : at k ≡ at j = searched_stable same decided out starts (suc m) j k (omega arith) short in
          let l : length f ≡ length (found j) = ap (λ (s : Search C L). length s.vertices) stable in
          ap (λ (s : Search C L). s.edges) (searched-none same decided out starts j h) ∙ before
          ∙ ap (λ (r : List C). concat (map (edges_from f) (numbered zero r))) (take_all j f (omega arith) ∙ sym (take_all (suc j) f (omega arith)))
      go (some c) h before =
          let b : Begins (found (suc j)) f = searched-begins same decided out starts m (suc j) k e in
          let there-still : get_elem? f j ≡ some c = AppendFacts.begins-place (searched-begins same decided out starts (suc m) j k (omega arith)) j h in
          one_more j c f h b ∙ ap (λ (r : List (Edge L)). r ++ edges_from f (j, c)) before
          ∙ sym (ap (λ (r : List (ℕ × C)). concat (map (edges_from f) r)) (AppendFacts.numbered-place f j there-still)
          ∙ ap concat (ListFacts.map_append (edges_from f) (numbered zero (take j f)) ((j, c) ∷ []))
          ∙ AppendFacts.concat_append (map (edges_from f) (numbered zero (take j f))) (edges_from f (j, c) ∷ [])
          ∙ ap {B = List (Edge L)} (λ r. concat (map (edges_from f) (numbered zero (take j f))) ++ r) (append-nil (edges_from f (j, c))))

  -- Once every vertex has been taken up, the edges noted are the edges between the vertices.
  pub searched-edges : (k : ℕ) → length (searched same out starts k).vertices ≤ k
      → edges same out (searched same out starts k).vertices ≡ (searched same out starts k).edges
  unfolding edges
  searched-edges k all =
      ap (λ (r : List C). concat (map (edges_from (found k)) (numbered zero r))) (sym (take_all k (found k) all))
      ∙ sym (edges_taken k k zero (omega arith) all)
