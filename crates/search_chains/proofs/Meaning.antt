-- What an entry means where the records are the codes of vertices: it inserts the vertex.
use Prim.Native.Nat.{ℕ, zero, suc, ◌+◌, ◌*◌, ◌≤◌, ◌<◌}
use mathlib.Core.Path.{◌≡◌, refl, sym, ap, ap₂, ◌∙◌, subst}
use mathlib.Core.Bool.{Bool, true, false}
use mathlib.Core.Option.{some, some-injective}
use mathlib.Core.List.{List, [], ◌∷◌, ◌++◌, map}
use native.Mathlib.Omega.{arith}
use native.Mathlib.Nat.{zero-add}
use lib.Dec.{leb}
use lib.ListN.{length, get_or, get_elem?, length-append, length-map}
use borrow.Author.Tests.{leb-true, leb-false}
use Rattle.automata.specs.Lists.{if, or}
use Rattle.automata.specs.Explore.{member, insert, index_of}
use Rattle.automata.proofs.ListFacts
use Rattle.table.specs.Region.{part}
use Rattle.search_rows.specs.declared.Reached.{Reached}
use Rattle.search_rows.specs.declared.Entered.{Entered}
use Rattle.search_rows.specs.declared.Entered.TheVariants as E
use Rattle.std.specs.Prelude.{Some, None}
use Rattle.search_rows.specs.Find.{Found}
use Rattle.search_rows.specs.Inserted.{Tells}
use Rattle.search_rows.proofs.Meaning.{index_codes}
use Rattle.search_chains.specs.declared.Shape.{Shape}
use Rattle.search_chains.specs.Chain.{fronts, record_at, Chained, Searchable, Entry, entry, enter_by, enter_of, count_after, Enters}
use Rattle.search_chains.specs.Inserted.{Inserted}
use Rattle.search_chains.proofs.FrontFacts.{get_d_fronts}

-- the vertex v, whose code these bytes are, may be entered among the `count` vertices vs, whose rows stand in xs
pub record Entering {C : Type 0} (code : C → List ℕ) (same : C → C → Bool) (hash : List ℕ → ℕ) (stride size room : ℕ) (shape : Shape) (count bucket : ℕ) (vs : List C) (v : C) (bytes xs : List ℕ) : Type 0 where
  pub sized : length bytes ≡ size
  pub held : fronts 0 stride size (length vs) xs ≡ map code vs
  pub tells : Tells code same v vs
  pub reflexive : same v v ≡ true
  pub few : length vs ≤ room
  pub count_is : count ≡ length vs
  pub bytes_are : bytes ≡ code v
  pub searchable : Searchable hash stride room count bucket shape bytes xs

module _ {C : Type 0} {code : C → List ℕ} {same : C → C → Bool} {hash : List ℕ → ℕ} {stride size room : ℕ} {shape : Shape} {count bucket : ℕ} {vs : List C} {v : C} {bytes xs : List ℕ}
    (o : Entering code same hash stride size room shape count bucket vs v bytes xs) where
  -- what the search finds
  abbrev found : Bool → Found
  found b = if b (Some (record { 0 = 0 + index_of same v vs })) None

  module _ (r : Entered) (ys : List ℕ) (e : Enters stride count room bucket shape bytes xs r ys) where
    -- the answer and the records by whether the vertex stands in the list
    by_found : entry r (fronts 0 stride size (count_after count r) ys) ≡ enter_by room (code v) (map code vs) (found (member same v vs))
    unfolding enter_of
    by_found =
        ap (λ (n : ℕ). entry r (fronts 0 stride n (count_after count r) ys)) (sym o.sized) ∙ e.equation hash o.searchable
        ∙ ap₂ (λ (n k : ℕ). enter_of room bytes (fronts 0 stride n k xs)) o.sized o.count_is ∙ ap₂ (λ (b : List ℕ) (rs : List (List ℕ)). enter_of room b rs) o.bytes_are o.held
        ∙ ap (enter_by room (code v) (map code vs)) (index_codes code same 0 v vs o.tells)

    all_chained : Chained hash stride size room (count_after count r) ys
    all_chained = subst (λ (n : ℕ). Chained hash stride n room (count_after count r) ys) o.sized (e.chained hash o.searchable)

  -- the vertex stands in the list, or not
  stays : member same v vs ≡ true → insert same vs v ≡ vs
  stays e = rw e

  grows : member same v vs ≡ false → insert same vs v ≡ vs ++ (v ∷ [])
  grows e = rw e

  more : member same v vs ≡ false → length (insert same vs v) ≡ suc count
  more m = ap length (grows m) ∙ length-append vs (v ∷ []) ∙ omega (arith, o.count_is)

  -- a vertex that stands nowhere in a list has its length as its number once it is appended
  last-number : (us : List C) → member same v us ≡ false → index_of same v (us ++ (v ∷ [])) ≡ length us
  last-number [] e = rw o.reflexive
  last-number (u ∷ us) e = go (same v u) e (last-number us)
    where
      go : (b : Bool) → or b (member same v us) ≡ false → (member same v us ≡ false → index_of same v (us ++ (v ∷ [])) ≡ length us)
          → if b zero (suc (index_of same v (us ++ (v ∷ [])))) ≡ suc (length us)
      go true f ih = let z : ◌≡◌ {A = ℕ} 0 1 = cc in absurd (omega arith)
      go false f ih = ap suc (ih f)

  -- the entry where the vertex is new, by the test for room
  abbrev new_entry : Bool → Entry
  new_entry b = if b (entry E.Full (map code vs)) (entry (E.New (record { 0 = length (map code vs) })) (map code vs ++ (code v ∷ [])))

  map_snoc : (us : List C) → map code (us ++ (v ∷ [])) ≡ map code us ++ (code v ∷ [])
  map_snoc [] = refl
  map_snoc (u ∷ us) = ap (λ (r : List (List ℕ)). code u ∷ r) (map_snoc us)

  not_at : (s : Reached) (rs : List (List ℕ)) (b : Bool) → entry (E.At s) rs ≡ new_entry b → ⊥
  not_at s rs true e = let z : E.At s ≡ E.Full = ap (λ (r : Entry). r.answer) e in let y : ◌≡◌ {A = ℕ} 0 1 = cc in omega arith
  not_at s rs false e = let z : E.At s ≡ E.New (record { 0 = length (map code vs) }) = ap (λ (r : Entry). r.answer) e in let y : ◌≡◌ {A = ℕ} 0 1 = cc in omega arith

  -- it stood there, and there are as many as before
  pub inserted_at : (s : Reached) (ys : List ℕ) → Enters stride count room bucket shape bytes xs (E.At s) ys
      → Inserted code same hash stride size room vs v xs ys s × (count ≡ length (insert same vs v))
  inserted_at s ys e = go (member same v vs) refl (by_found (E.At s) ys e)
    where
      go : (b : Bool) → member same v vs ≡ b → entry (E.At s) (fronts 0 stride size count ys) ≡ enter_by room (code v) (map code vs) (found b)
          → Inserted code same hash stride size room vs v xs ys s × (count ≡ length (insert same vs v))
      go false m q = absurd (not_at s _ (leb room (length (map code vs))) q)
      go true m q =
          let p = stays m in
          let n : length (insert same vs v) ≡ count = ap length p ∙ sym o.count_is in
          let z : E.At s ≡ E.At (record { 0 = 0 + index_of same v vs }) = ap (λ (r : Entry). r.answer) q in
          let k : s ≡ record { 0 = 0 + index_of same v vs } = cc in (
            record {
              held = rw n (ap (λ (r : Entry). r.records) q) ∙ ap (map code) (sym p);
              chained = subst (λ (i : ℕ). Chained hash stride size room i ys) (sym n) (all_chained (E.At s) ys e);
              number = ap (λ (r : Reached). r.0) k ∙ zero-add (index_of same v vs) ∙ ap (index_of same v) (sym p);
              fits = omega (arith, n, o.count_is, o.few);
              same_length = e.same_length;
              kept = e.kept;
            },
            sym n,
          )

  -- it is new, and there is one more
  pub inserted_new : (s : Reached) (ys : List ℕ) → Enters stride count room bucket shape bytes xs (E.New s) ys
      → Inserted code same hash stride size room vs v xs ys s × (count + 1 ≡ length (insert same vs v))
  inserted_new s ys e = go (member same v vs) refl (by_found (E.New s) ys e)
    where
      new : member same v vs ≡ false → (b : Bool) → leb room (length (map code vs)) ≡ b → entry (E.New s) (fronts 0 stride size (suc count) ys) ≡ new_entry b
          → Inserted code same hash stride size room vs v xs ys s × (count + 1 ≡ length (insert same vs v))
      new m true t q = let z : E.New s ≡ E.Full = ap (λ (r : Entry). r.answer) q in let y : ◌≡◌ {A = ℕ} 0 1 = cc in absurd (omega arith)
      new m false t q =
          let p = grows m in
          let n = more m in
          let z : E.New s ≡ E.New (record { 0 = length (map code vs) }) = ap (λ (r : Entry). r.answer) q in
          let k : s ≡ record { 0 = length (map code vs) } = cc in
          let l = length-map vs code in
          let b = leb-false room (length (map code vs)) t in (
            record {
              held = rw n (ap (λ (r : Entry). r.records) q) ∙ sym (ap (map code) p ∙ map_snoc vs);
              chained = subst (λ (i : ℕ). Chained hash stride size room i ys) (sym n) (all_chained (E.New s) ys e);
              number = ap (λ (r : Reached). r.0) k ∙ l ∙ sym (ap (index_of same v) p ∙ last-number vs m);
              fits = omega (arith, n, o.count_is, l, b);
              same_length = e.same_length;
              kept = e.kept;
            },
            omega (arith, n),
          )

      go : (b : Bool) → member same v vs ≡ b → entry (E.New s) (fronts 0 stride size (suc count) ys) ≡ enter_by room (code v) (map code vs) (found b)
          → Inserted code same hash stride size room vs v xs ys s × (count + 1 ≡ length (insert same vs v))
      go true m q = let z : E.New s ≡ E.At (record { 0 = 0 + index_of same v vs }) = ap (λ (r : Entry). r.answer) q in let y : ◌≡◌ {A = ℕ} 0 1 = cc in absurd (omega arith)
      go false m q = new m (leb room (length (map code vs))) refl q

  -- there is no room for it
  pub not_inserted : (ys : List ℕ) → Enters stride count room bucket shape bytes xs E.Full ys → room < length (insert same vs v)
  not_inserted ys e = go (member same v vs) refl (by_found E.Full ys e)
    where
      full : member same v vs ≡ false → (b : Bool) → leb room (length (map code vs)) ≡ b → entry E.Full (fronts 0 stride size count ys) ≡ new_entry b → room < length (insert same vs v)
      full m true t q = omega (arith, more m, o.count_is, length-map vs code, leb-true room (length (map code vs)) t)
      full m false t q = let z : E.Full ≡ E.New (record { 0 = length (map code vs) }) = ap (λ (r : Entry). r.answer) q in let y : ◌≡◌ {A = ℕ} 0 1 = cc in absurd (omega arith)

      go : (b : Bool) → member same v vs ≡ b → entry E.Full (fronts 0 stride size count ys) ≡ enter_by room (code v) (map code vs) (found b) → room < length (insert same vs v)
      go true m q = let z : E.Full ≡ E.At (record { 0 = 0 + index_of same v vs }) = ap (λ (r : Entry). r.answer) q in let y : ◌≡◌ {A = ℕ} 0 1 = cc in absurd (omega arith)
      go false m q = full m (leb room (length (map code vs))) refl q

-- ---- a code at its place

module _ {C : Type 0} (code : C → List ℕ) where
  code_place : (cs : List C) (k : ℕ) (c : C) → get_elem? cs k ≡ some c → get_or (map code cs) k [] ≡ code c
  code_place [] k c e = ListFacts.none_not_some refl e
  code_place (d ∷ cs) zero c e = ap code (some-injective d c e)
  code_place (d ∷ cs) (suc k) c e = code_place cs k c e

  -- the record at the place of a vertex is its code
  pub code_at : (stride size : ℕ) (cs : List C) (xs : List ℕ) (k : ℕ) (c : C) → fronts 0 stride size (length cs) xs ≡ map code cs → get_elem? cs k ≡ some c
      → record_at stride size k xs ≡ code c
  code_at stride size cs xs k c o e =
      ap (λ (a : ℕ). part a size xs) (sym (zero-add (k * stride))) ∙ sym (get_d_fronts 0 stride size (length cs) xs k [] (ListFacts.place_bound cs k e))
      ∙ ap (λ (z : List (List ℕ)). get_or z k []) o ∙ code_place cs k c e
