-- The edges between the vertices that trimming keeps are the edges between marked vertices, by their places among those
-- kept.
use mathlib.Core.Path.{◌≡◌, refl, sym, ◌∙◌, ap, subst}
use mathlib.Core.Bool.{Bool, true, false}
use mathlib.Core.Option.{none, some}
use mathlib.Core.List.{List, [], ◌∷◌, ◌++◌, map}
use Prim.Native.Nat.{ℕ, zero, suc, ◌+◌, ◌≤◌, ◌<◌}
use native.Mathlib.Omega.{arith}
use lib.ListN.{length, drop, get_or}
use lib.Seq.{drop-cons}
use Rattle.automata.specs.Lists.{if, and, filter, concat, ◌∈◌, numbered, Distinct, guard, cons_maybe, map_maybe, Decides}
use Rattle.automata.specs.Explore.{Edge, member, index_of, edge_to, edges}
use Rattle.automata.specs.Trim.{at_marks, rank, both_marked, ranked, kept_edges}
use Rattle.automata.proofs.ListFacts
use Rattle.automata.proofs.TestFacts
use Rattle.automata.proofs.PairwiseFacts
use Rattle.automata.proofs.AppendFacts
use Rattle.automata.proofs.Explored.{member_sound, member_complete}
use Rattle.automata.proofs.Edges.{index_of_place}
use Rattle.automata.proofs.Trimmed.{at_marks_members, at_marks_keeps, at_marks-distinct}
use Rattle.automata.proofs.RankFacts.{rank_zero, rank-marked, rank_unmarked, at_marks_nil, at_marks-place}

module _ {L : Type 0} (marks : List Bool) where
  -- of two runs of edges
  pub kept_edges_append : (es fs : List (Edge L)) → kept_edges marks (es ++ fs) ≡ kept_edges marks es ++ kept_edges marks fs
  unfolding kept_edges
  kept_edges_append es fs = ap (map (ranked marks)) (AppendFacts.filter_append (both_marked marks) es fs)
      ∙ ListFacts.map_append (ranked marks) (filter (both_marked marks) es) (filter (both_marked marks) fs)

  -- with one edge more in front
  pub kept_edges_cons : (x : Edge L) (es : List (Edge L))
      → kept_edges marks (x ∷ es) ≡ if (both_marked marks x) (ranked marks x ∷ kept_edges marks es) (kept_edges marks es)
  unfolding kept_edges
  kept_edges_cons x es = go (both_marked marks x)
    where
      go : (b : Bool) → map (ranked marks) (if b (x ∷ filter (both_marked marks) es) (filter (both_marked marks) es))
          ≡ if b (ranked marks x ∷ map (ranked marks) (filter (both_marked marks) es)) (map (ranked marks) (filter (both_marked marks) es))
      go true = refl
      go false = refl

  -- no more than there are
  pub length_kept_edges : (es : List (Edge L)) → length (kept_edges marks es) ≤ length es
  unfolding kept_edges
  length_kept_edges [] = omega arith
  length_kept_edges (x ∷ es) = go (both_marked marks x) (kept_edges_cons x es) (length_kept_edges es)
    where
      go : (b : Bool) → kept_edges marks (x ∷ es) ≡ if b (ranked marks x ∷ kept_edges marks es) (kept_edges marks es)
          → length (kept_edges marks es) ≤ length es → length (kept_edges marks (x ∷ es)) ≤ suc (length es)
      go true e h = let l = ap length e in omega arith
      go false e h = let l = ap length e in omega arith

  -- an edge that is there where a test passes
  kept_edges_maybe : (m : Bool) (x : Edge L) (es : List (Edge L))
      → kept_edges marks (cons_maybe (guard m (some x)) es) ≡ cons_maybe (guard (and m (both_marked marks x)) (some (ranked marks x))) (kept_edges marks es)
  kept_edges_maybe false x es = refl
  kept_edges_maybe true x es = kept_edges_cons x es ∙ go (both_marked marks x)
    where
      go : (b : Bool) → if b (ranked marks x ∷ kept_edges marks es) (kept_edges marks es) ≡ cons_maybe (guard b (some (ranked marks x))) (kept_edges marks es)
      go true = refl
      go false = refl

module _ {C : Type 0} (same : C → C → Bool) (decided : Decides same) (cs : List C) (marks : List Bool) (distinct : Distinct cs) where
  -- the vertices that are kept
  abbrev kept : List C
  kept = at_marks marks cs

  -- a vertex is kept where it stands in the list and its place is marked ...
  pub member_kept : (d : C) → member same d kept ≡ and (member same d cs) (get_or marks (index_of same d cs) false)
  member_kept d = TestFacts.same_truth (member same d kept) (and (member same d cs) (get_or marks (index_of same d cs) false)) to from
    where
      to : member same d kept ≡ true → and (member same d cs) (get_or marks (index_of same d cs) false) ≡ true
      to t =
          let (k, at, m) = at_marks_members marks cs (member_sound same decided d kept t) in
          let within : d ∈ cs = ListFacts.placed cs k at in
          let z : k ≡ index_of same d cs = PairwiseFacts.distinct-place cs distinct k (index_of same d cs) at (index_of_place same decided d cs within) in
          rw (member_complete same decided d cs within) (subst (λ (n : ℕ). get_or marks n false ≡ true) z m)

      from : and (member same d cs) (get_or marks (index_of same d cs) false) ≡ true → member same d kept ≡ true
      from t =
          let b = TestFacts.and_true (member same d cs) (get_or marks (index_of same d cs) false) t in
          member_complete same decided d kept
          (at_marks_keeps marks cs (index_of same d cs) (index_of_place same decided d cs (member_sound same decided d cs b.0)) b.1)

  -- ... and its place among those kept is the number of marked places before it
  pub index_kept : (d : C) → member same d kept ≡ true → index_of same d kept ≡ rank marks (index_of same d cs)
  index_kept d t =
      let b = TestFacts.and_true (member same d cs) (get_or marks (index_of same d cs) false) (sym (member_kept d) ∙ t) in
      PairwiseFacts.distinct-place kept (at_marks-distinct marks cs distinct) (index_of same d kept) (rank marks (index_of same d cs))
      (index_of_place same decided d kept (member_sound same decided d kept t))
      (at_marks-place marks cs (index_of same d cs) d (index_of_place same decided d cs (member_sound same decided d cs b.0)) b.1)

  -- the edges from a vertex, marked or not
  from-marked : {L : Type 0} (n : ℕ) (ss : List (L × C)) → get_or marks n false ≡ true
      → kept_edges marks (map_maybe (edge_to same cs n) ss) ≡ map_maybe (edge_to same kept (rank marks n)) ss
  unfolding kept_edges
  from-marked n [] m = refl
  from-marked {L} n (s ∷ ss) m = kept_edges_maybe marks (member same s.1 cs) edge (map_maybe (edge_to same cs n) ss)
      ∙ (λ i. cons_maybe (first i) (from-marked n ss m i))
    where
      edge : Edge L
      edge = record { from = n; label = s.0; to = index_of same s.1 cs }

      go : (b : Bool) → member same s.1 kept ≡ b
          → guard b (some (ranked marks edge)) ≡ guard b (some (record { from = rank marks n; label = s.0; to = index_of same s.1 kept }))
      go true t = ap (λ (k : ℕ). some (record { from = rank marks n; label = s.0; to = k })) (sym (index_kept s.1 t))
      go false t = refl

      first : guard (and (member same s.1 cs) (both_marked marks edge)) (some (ranked marks edge)) ≡ edge_to same kept (rank marks n) s
      first = rw (m, ← (member_kept s.1)) (go (member same s.1 kept) refl)

  from_unmarked : {L : Type 0} (n : ℕ) (ss : List (L × C)) → get_or marks n false ≡ false → kept_edges marks (map_maybe (edge_to same cs n) ss) ≡ []
  unfolding kept_edges
  from_unmarked n [] m = refl
  from_unmarked {L} n (s ∷ ss) m = kept_edges_maybe marks (member same s.1 cs) edge (map_maybe (edge_to same cs n) ss)
      ∙ (λ i. cons_maybe (first (member same s.1 cs) i) (from_unmarked n ss m i))
    where
      edge : Edge L
      edge = record { from = n; label = s.0; to = index_of same s.1 cs }

      first : (b : Bool) → guard (and b (both_marked marks edge)) (some (ranked marks edge)) ≡ none
      first true = rw m
      first false = refl

module _ {C L : Type 0} (same : C → C → Bool) (decided : Decides same) (out : C → List (L × C)) where
  -- from the vertices rest, which stand from place n on
  kept_from : (cs : List C) (marks : List Bool) → Distinct cs → (n : ℕ) (rest : List C) → n + length rest ≡ length marks
      → concat (map (λ v. map_maybe (edge_to same (at_marks marks cs) v.0) (out v.1)) (numbered (rank marks n) (at_marks (drop n marks) rest)))
      ≡ kept_edges marks (concat (map (λ v. map_maybe (edge_to same cs v.0) (out v.1)) (numbered n rest)))
  unfolding kept_edges
  kept_from cs marks d n [] e = rw (at_marks_nil (drop n marks))
  kept_from cs marks d n (c ∷ rest) e =
      let l : n < length marks = omega arith in
      rw (drop-cons marks n false l) (go (get_or marks n false) refl (kept_from cs marks d (suc n) rest (omega arith)))
    where
      from : List C → ℕ × C → List (Edge L)
      from ds v = map_maybe (edge_to same ds v.0) (out v.1)

      behind : List C
      behind = at_marks (drop (suc n) marks) rest

      after : List (Edge L)
      after = concat (map (from cs) (numbered (suc n) rest))

      go : (b : Bool) → get_or marks n false ≡ b
          → concat (map (from (at_marks marks cs)) (numbered (rank marks (suc n)) behind)) ≡ kept_edges marks after
          → concat (map (from (at_marks marks cs)) (numbered (rank marks n) (if b (c ∷ behind) behind))) ≡ kept_edges marks (from cs (n, c) ++ after)
      go true m ih =
          ap {B = List (Edge L)} (λ k. from (at_marks marks cs) (rank marks n, c) ++ concat (map (from (at_marks marks cs)) (numbered k behind))) (sym (rank-marked marks n m))
          ∙ (λ i. sym (from-marked same decided cs marks d n (out c) m) i ++ ih i) ∙ sym (kept_edges_append marks (from cs (n, c)) after)
      go false m ih =
          ap {B = List (Edge L)} (λ k. concat (map (from (at_marks marks cs)) (numbered k behind))) (sym (rank_unmarked marks n m))
          ∙ ih ∙ ap {B = List (Edge L)} (λ r. r ++ kept_edges marks after) (sym (from_unmarked same decided cs marks d n (out c) m))
          ∙ sym (kept_edges_append marks (from cs (n, c)) after)

  -- The edges between the vertices that are kept are the kept ones of all edges, by their new numbers.
  pub kept_edges_lem : (cs : List C) (marks : List Bool) → Distinct cs → length marks ≡ length cs
      → edges same out (at_marks marks cs) ≡ kept_edges marks (edges same out cs)
  unfolding edges
  kept_edges_lem cs marks d h =
      ap (λ (k : ℕ). concat (map (λ v. map_maybe (edge_to same (at_marks marks cs) v.0) (out v.1)) (numbered k (at_marks marks cs)))) (sym (rank_zero marks))
      ∙ kept_from cs marks d zero cs (omega arith)
