-- Exploration one step at a time comes to the exploration of Explore: what each step leaves, what is found when all
-- vertices have been taken up, and when there are too many.
use mathlib.Core.Path.{◌≡◌, refl, sym, ◌∙◌, ap, subst}
use mathlib.Core.Logic.{inl, inr}
use mathlib.Core.Bool.{Bool, true, false}
use mathlib.Core.Option.{Option, none, some}
use mathlib.Core.List.{List, [], ◌∷◌, ◌++◌, map, append_assoc, append-nil}
use Prim.Native.Nat.{ℕ, zero, suc, ◌+◌, ◌≤◌, ◌<◌}
use native.Mathlib.Omega.{arith}
use lib.Dec.{ltb}
use lib.ListN.{length, length-map, length-append, take, get_elem?}
use lib.Seq.{take_all}
use Rattle.automata.specs.Lists.{if, or, any, Decides}
use Rattle.automata.specs.Explore.{Edge, member, insert, insert_all, index_of, successors, explore, reached}
use Rattle.automata.specs.Search.{Search, note, note_all, search_from, take_up, searched}
use Rattle.automata.proofs.ListFacts
use Rattle.automata.proofs.TestFacts
use Rattle.automata.proofs.PairwiseFacts
use Rattle.automata.proofs.AppendFacts
use Rattle.automata.proofs.AppendFacts.{Begins}
use Rattle.automata.proofs.Explored.{explore_done, explore-cases, Progress, begin, take_up_lem, reached_explored}

-- ---- insertion and indexes

module _ {C : Type 0} (same : C → C → Bool) where
  -- inserting one vertex leaves what stands there in front
  pub insert-begins : (cs : List C) (c : C) → Begins cs (insert same cs c)
  insert-begins cs c = go (member same c cs)
    where
      go : (b : Bool) → Begins cs (if b cs (cs ++ (c ∷ [])))
      go true = AppendFacts.begins_self cs
      go false = record { rest = c ∷ []; joined = refl }

  -- so does inserting several
  pub insert_all-begins : (cs r : List C) → Begins cs (insert_all same cs r)
  insert_all-begins cs [] = AppendFacts.begins_self cs
  insert_all-begins cs (c ∷ r) = AppendFacts.begins_on (insert-begins cs c) (insert_all-begins (insert same cs c) r)

  -- two lists inserted in turn
  pub insert_all_append : (cs xs ys : List C) → insert_all same cs (xs ++ ys) ≡ insert_all same (insert_all same cs xs) ys
  insert_all_append cs [] ys = refl
  insert_all_append cs (x ∷ xs) ys = insert_all_append (insert same cs x) xs ys

  -- a vertex that stands in a list has the same index in a longer one
  pub index_of_begins : (c : C) (cs ds : List C) → Begins cs ds → member same c cs ≡ true → index_of same c ds ≡ index_of same c cs
  index_of_begins c cs ds b h = ap (index_of same c) b.joined ∙ joined cs h
    where
      r : List C
      r = b.rest

      joined : (xs : List C) → member same c xs ≡ true → index_of same c (xs ++ r) ≡ index_of same c xs
      joined [] h = TestFacts.false_not_true refl h
      joined (x ∷ xs) h = go (same c x) h (joined xs)
        where
          go : (b : Bool) → or b (member same c xs) ≡ true → (member same c xs ≡ true → index_of same c (xs ++ r) ≡ index_of same c xs)
              → if b zero (suc (index_of same c (xs ++ r))) ≡ if b zero (suc (index_of same c xs))
          go true h ih = refl
          go false h ih = ap suc (ih h)

-- ---- noting steps

module _ {C L : Type 0} (same : C → C → Bool) (decided : Decides same) where
  -- the edge from place k by a labelled step, to the place of its end in ds
  abbrev pub edge_in : List C → ℕ → L × C → Edge L
  edge_in ds k x = record { from = k; label = x.0; to = index_of same x.1 ds }

  -- the vertices after several steps: the ends are inserted in turn
  pub note_all_vertices : (k : ℕ) (s : Search C L) (xs : List (L × C))
      → (note_all same k s xs).vertices ≡ insert_all same s.vertices (map (λ x. x.1) xs)
  unfolding note_all note
  note_all_vertices k s [] = refl
  note_all_vertices k s (x ∷ xs) = note_all_vertices k (note same k s x) xs

  -- steps noted in two runs
  pub note_all_append : (k : ℕ) (s : Search C L) (xs ys : List (L × C)) → note_all same k s (xs ++ ys) ≡ note_all same k (note_all same k s xs) ys
  unfolding note_all
  note_all_append k s [] ys = refl
  note_all_append k s (x ∷ xs) ys = note_all_append k (note same k s x) xs ys

  -- one step more
  pub note_all_snoc : (k : ℕ) (s : Search C L) (xs : List (L × C)) (x : L × C) → note_all same k s (xs ++ (x ∷ [])) ≡ note same k (note_all same k s xs) x
  unfolding note_all
  note_all_snoc k s xs x = note_all_append k s xs (x ∷ [])

  -- the vertices before stand in front
  pub note_all-begins : (k : ℕ) (s : Search C L) (xs : List (L × C)) → Begins s.vertices (note_all same k s xs).vertices
  note_all-begins k s xs = rw (note_all_vertices k s xs) (insert_all-begins same s.vertices (map (λ x. x.1) xs))

  -- there are no fewer vertices than before
  pub note_all_length : (k : ℕ) (s : Search C L) (xs : List (L × C)) → length s.vertices ≤ length (note_all same k s xs).vertices
  note_all_length k s xs = AppendFacts.begins_length (note_all-begins k s xs)

  -- what stood at a place stays there
  pub note_all-place : (k : ℕ) (s : Search C L) (xs : List (L × C)) (i : ℕ) (c : C) → get_elem? s.vertices i ≡ some c
      → get_elem? (note_all same k s xs).vertices i ≡ some c
  note_all-place k s xs i c h = AppendFacts.begins-place (note_all-begins k s xs) i h

  -- the edges after several steps, by the places in any list that begins with the vertices after them
  pub note_all-edges_in : (k : ℕ) (s : Search C L) (xs : List (L × C)) (ds : List C) → Begins (note_all same k s xs).vertices ds
      → (note_all same k s xs).edges ≡ s.edges ++ map (edge_in ds k) xs
  unfolding note_all note
  note_all-edges_in k s [] ds b = sym (append-nil s.edges)
  note_all-edges_in k s (x ∷ xs) ds b =
      note_all-edges_in k (note same k s x) xs ds b
      ∙ ap (λ (n : ℕ). (s.edges ++ (record { from = k; label = x.0; to = n } ∷ [])) ++ map (edge_in ds k) xs) (sym kept)
      ∙ append_assoc s.edges (edge_in ds k x ∷ []) (map (edge_in ds k) xs)
    where
      more : List C
      more = insert same s.vertices x.1

      there_now : (v : Bool) → member same x.1 s.vertices ≡ v → member same x.1 (if v s.vertices (s.vertices ++ (x.1 ∷ []))) ≡ true
      there_now true e = e
      there_now false e =
          AppendFacts.any_snoc (same x.1) s.vertices x.1 ∙ TestFacts.or_right (member same x.1 s.vertices) (same x.1 x.1) (decided.complete x.1)

      kept : index_of same x.1 ds ≡ index_of same x.1 more
      kept = index_of_begins same x.1 more ds (AppendFacts.begins_on (note_all-begins k (note same k s x) xs) b)
          (there_now (member same x.1 s.vertices) refl)

  -- the edges before, then one for each step, to the places in the vertices after
  pub note_all-edges : (k : ℕ) (s : Search C L) (xs : List (L × C))
      → (note_all same k s xs).edges ≡ s.edges ++ map (edge_in (note_all same k s xs).vertices k) xs
  note_all-edges k s xs = note_all-edges_in k s xs (note_all same k s xs).vertices (AppendFacts.begins_self (note_all same k s xs).vertices)

  -- one edge more for each step
  pub note_all-edges_length : (k : ℕ) (s : Search C L) (xs : List (L × C)) → length (note_all same k s xs).edges ≡ length s.edges + length xs
  note_all-edges_length k s xs =
      let ds = (note_all same k s xs).vertices in
      ap length (note_all-edges k s xs) ∙ length-append s.edges (map (edge_in ds k) xs) ∙ ap (λ (n : ℕ). length s.edges + n) (length-map xs (edge_in ds k))

-- ---- taking up one vertex after the other

module _ {C L : Type 0} (same : C → C → Bool) (decided : Decides same) (out : C → List (L × C)) (starts : List C) where
  -- the search when k vertices have been taken up, its vertices and its edges
  abbrev at : ℕ → Search C L
  at k = searched same out starts k

  abbrev found : ℕ → List C
  found k = (at k).vertices

  -- one vertex more is taken up
  pub searched_some : (k : ℕ) (c : C) → get_elem? (found k) k ≡ some c → at (suc k) ≡ note_all same k (at k) (out c)
  unfolding searched take_up
  searched_some k c e = rw (e, take_up)

  -- there is none more to take up
  pub searched-none : (k : ℕ) → get_elem? (found k) k ≡ none → at (suc k) ≡ at k
  unfolding searched take_up
  searched-none k e = rw (e, take_up)

  -- a property of the search after one more vertex
  pub searched-cases : (k : ℕ) (P : Search C L → Type 0) → (get_elem? (found k) k ≡ none → P (at k))
      → ((c : C) → get_elem? (found k) k ≡ some c → P (note_all same k (at k) (out c))) → P (at (suc k))
  searched-cases k P f g = go (get_elem? (found k) k) refl
    where
      go : (o : Option C) → get_elem? (found k) k ≡ o → P (at (suc k))
      go none e = subst P (sym (searched-none k e)) (f e)
      go (some c) e = subst P (sym (searched_some k c e)) (g c e)

  -- the vertices found stay in front
  pub searched-begins : (m j k : ℕ) → j + m ≡ k → Begins (found j) (found k)
  searched-begins zero j k e = let z : j ≡ k = omega arith in rw z (AppendFacts.begins_self (found k))
  searched-begins (suc m) j k e = AppendFacts.begins_on
      (searched-cases j (λ s. Begins (found j) s.vertices) (λ n. AppendFacts.begins_self (found j)) (λ c h. note_all-begins same decided j (at j) (out c)))
      (searched-begins m (suc j) k (omega arith))

  -- once every vertex has been taken up nothing changes
  pub searched_stable : (m j k : ℕ) → j + m ≡ k → length (found j) ≤ j → at k ≡ at j
  searched_stable zero j k e h = let z : k ≡ j = omega arith in ap at z
  searched_stable (suc m) j k e h =
      let s : at (suc j) ≡ at j = searched-none j (ListFacts.place_beyond (found j) j h) in
      let l : length (found (suc j)) ≡ length (found j) = ap (λ (x : Search C L). length x.vertices) s in
      searched_stable m (suc j) k (omega arith) (omega arith) ∙ s

  -- taking up one more keeps what holds of the vertices found
  progress-next : (k : ℕ) → Progress out starts k (found k) → Progress out starts (suc k) (found (suc k))
  progress-next k p = searched-cases k (λ s. Progress out starts (suc k) s.vertices) all_taken
      (λ c e. rw (note_all_vertices same decided k (at k) (out c)) (take_up_lem same decided out starts k (found k) c e p))
    where
      all_taken : get_elem? (found k) k ≡ none → Progress out starts (suc k) (found k)
      all_taken e = record {
        distinct = p.distinct;
        accessible = p.accessible;
        begun = p.begun;
        taken = λ i c d h q m.
            let l : length (found k) ≤ k = ListFacts.place_none (found k) k e in
            let b : i < length (found k) = ListFacts.place_bound (found k) i q in
            p.taken i c d (omega arith) q m;
      }

  -- what holds when k vertices have been taken up
  pub searched-progress : (k : ℕ) → Progress out starts k (found k)
  unfolding searched search_from
  searched-progress zero = begin same decided out starts
  searched-progress (suc k) = progress-next k (searched-progress k)

  -- the vertices after one more vertex
  pub found_next : (k : ℕ) (c : C) → get_elem? (found k) k ≡ some c → found (suc k) ≡ insert_all same (found k) (successors out c)
  found_next k c e = ap (λ (s : Search C L). s.vertices) (searched_some k c e) ∙ note_all_vertices same decided k (at k) (out c)

  -- exploration from the j-th vertex on comes to the vertices found when all have been taken up
  explore_found : (fuel cap m j k : ℕ) → j + m ≡ k → cap < fuel + j → length (found k) ≤ cap → length (found k) ≤ k
      → explore same out fuel cap j (found j) ≡ found k
  explore_found zero cap m j k e f small all =
      let grown : length (found j) ≤ length (found k) = AppendFacts.begins_length (searched-begins m j k e) in
      ap (λ (s : Search C L). s.vertices) (sym (searched_stable m j k e (omega arith)))
  explore_found (suc fuel) cap zero j k e f small all =
      let z : j ≡ k = omega arith in
      rw z (explore_done same out fuel cap k (found k) (ListFacts.place_beyond (found k) k all))
  explore_found (suc fuel) cap (suc m) j k e f small all = explore-cases same out fuel cap j (found j) (λ r. r ≡ found k)
      (λ n. ap (λ (s : Search C L). s.vertices) (sym (searched_stable (suc m) j k e (ListFacts.place_none (found j) j n))))
      (λ c h over.
      let same_length : length (found (suc j)) ≡ length (insert_all same (found j) (successors out c)) = ap length (found_next j c h) in
      let grown : length (found (suc j)) ≤ length (found k) = AppendFacts.begins_length (searched-begins m (suc j) k (omega arith)) in
      absurd (omega arith))
      (λ c h within. ap (explore same out fuel cap (suc j)) (sym (found_next j c h)) ∙ explore_found fuel cap m (suc j) k (omega arith) (omega arith) small all)

  -- Once every vertex has been taken up, and they are at most cap, exploration finds the same.
  pub searched-reached : (cap k : ℕ) → length (searched same out starts k).vertices ≤ cap → length (searched same out starts k).vertices ≤ k
      → reached same out cap starts ≡ (searched same out starts k).vertices
  unfolding reached searched search_from
  searched-reached cap k small all = explore_found (suc cap) cap k zero k (omega arith) (omega arith) small all

  -- Where more than cap vertices are found at any stage, exploration finds more than cap.
  pub found_over : (cap k : ℕ) → cap < length (found k) → cap < length (reached same out cap starts)
  found_over cap k h = elim (TestFacts.decide (ltb cap (length (reached same out cap starts)))) [
    | inl t ↦ TestFacts.ltb_true t
    | inr t ↦
        (let few : length (reached same out cap starts) ≤ cap = TestFacts.ltb_false t in
        let p = searched-progress k in
        let within : length (found k) ≤ length (reached same out cap starts) = PairwiseFacts.distinct_bound (found k) (reached same out cap starts) p.distinct
        (λ c m. (reached_explored same decided out starts cap).complete few c (p.accessible c m)) in
        absurd (omega arith))
  ]

  -- a test of the vertices taken up, with one vertex more
  pub taken_any : (p : C → Bool) (k : ℕ) (c : C) → get_elem? (searched same out starts k).vertices k ≡ some c
      → any p (take (suc k) (searched same out starts (suc k)).vertices) ≡ or (any p (take k (searched same out starts k).vertices)) (p c)
  taken_any p k c e =
      let l : k < length (found k) = ListFacts.place_bound (found k) k e in
      ap (any p) (AppendFacts.begins_take (searched-begins 1 k (suc k) (omega arith)) (suc k) (omega arith) ∙ AppendFacts.take_place (found k) k e)
      ∙ AppendFacts.any_snoc p (take k (found k)) c

  -- and of all of them
  pub taken_all : (p : C → Bool) (k : ℕ) → length (searched same out starts k).vertices ≤ k
      → any p (take k (searched same out starts k).vertices) ≡ any p (searched same out starts k).vertices
  taken_all p k h = ap (any p) (take_all k (found k) h)
