-- What an entry comes to, by what the search found.
use Prim.Native.Nat.{ℕ, zero, suc, ◌+◌, ◌*◌, ◌≤◌, ◌<◌}
use mathlib.Core.Path.{◌≡◌, refl, sym, ap, ap₂, ◌∙◌, subst}
use mathlib.Core.List.{List, [], ◌∷◌, ◌++◌}
use native.Mathlib.Omega.{arith}
use native.Mathlib.Nat.{zero-add}
use lib.ListN.{length}
use borrow.Author.Tests.{le-leb, lt-leb}
use Rattle.table.specs.Region.{part}
use Rattle.search_rows.specs.declared.Reached.{Reached}
use Rattle.table.proofs.RowFacts.{mul_step}
use Rattle.search_rows.specs.declared.Entered.{Entered}
use Rattle.search_rows.specs.declared.Entered.TheVariants as E
use Rattle.std.specs.Prelude.{Some, None}
use Rattle.search_rows.specs.Find.{Found, index_from}
use Rattle.search_chains.specs.declared.Shape.{Shape}
use Rattle.search_chains.specs.Chain.{fronts, record_at, appended, Chained, Searchable, Finds, enter_of, Enters}
use Rattle.search_chains.proofs.FrontFacts.{length_fronts, get_d_fronts, fronts_same, fronts_snoc, index_absent}
use Rattle.search_chains.proofs.EntryFacts.{length_appended, record_old, record_new, beyond_kept, chained_appended}

-- where there is no room at all
pub enters_none : (stride count room bucket : ℕ) (shape : Shape) (w xs : List ℕ) → room ≡ 0 → count ≤ room → Enters stride count room bucket shape w xs E.Full xs
unfolding enter_of index_from fronts
enters_none stride zero room bucket shape w xs e h = record {
  fits = h;
  same_length = refl;
  kept = λ a n h. refl;
  equation = λ hash t. rw (le-leb room 0 (omega arith));
  chained = λ hash t. t.chained;
}
enters_none stride (suc count) room bucket shape w xs e h = absurd (omega arith)

-- a row that was made of a record is entered as the record
pub entered_row : (hash : List ℕ → ℕ) (stride count room bucket : ℕ) (shape : Shape) (row w xs ys : List ℕ) (r : Entered) → row ≡ w → bucket ≡ hash row
    → Enters stride count room bucket shape row xs r ys → Enters stride count room (hash w) shape w xs r ys
entered_row hash stride count room bucket shape row w xs ys r e b t =
    subst (λ (z : List ℕ). Enters stride count room (hash z) shape z xs r ys) e (subst (λ (k : ℕ). Enters stride count room k shape row xs r ys) b t)

module _ (stride count room bucket : ℕ) (shape : Shape) (w xs : List ℕ) (f : Found) (g : Finds stride count bucket shape w xs f) (b : bucket < room) (c : count ≤ room) where
  abbrev records : List (List ℕ)
  records = fronts 0 stride (length w) count xs

  -- it stood there
  pub enters_at : (s : Reached) → f ≡ Some s → Enters stride count room bucket shape w xs (E.At s) xs
  unfolding enter_of
  enters_at s e = record {
    fits = c;
    same_length = refl;
    kept = λ a n h. refl;
    equation = λ hash t. rw (← g hash room b t, e);
    chained = λ hash t. t.chained;
  }

  -- there is no room
  pub enters_full : f ≡ None → room ≤ count → Enters stride count room bucket shape w xs E.Full xs
  unfolding enter_of
  enters_full e h = record {
    fits = c;
    same_length = refl;
    kept = λ a n h. refl;
    equation = λ hash t. rw (← g hash room b t, e, length_fronts 0 stride (length w) count xs, le-leb room count h);
    chained = λ hash t. t.chained;
  }

  -- it is appended
  pub enters_new : f ≡ None → count < room → count < 65535 → room * stride ≤ length xs → length w + 4 ≤ stride → (ys : List ℕ)
      → ys ≡ appended stride count bucket w xs → Enters stride count room bucket shape w xs (E.New (record { 0 = count })) ys
  unfolding enter_of
  enters_new e h few l wide ys q =
      let m = mul_step count room stride h in
      let k = mul_step bucket room stride b in
      let i : count * stride + stride ≤ length xs = omega (arith, m) in
      let j : bucket * stride + stride ≤ length xs = omega (arith, k) in
      let more : fronts 0 stride (length w) (suc count) ys ≡ records ++ (w ∷ [])
      = fronts_snoc 0 stride (length w) count ys
      ∙ ap₂ (λ (rs : List (List ℕ)) (r : List ℕ). rs ++ (r ∷ []))
      (fronts_same 0 stride (length w) count xs ys (λ n z.
      at_zero n ys ∙ ap (record_at stride (length w) n) q ∙ record_old stride count bucket w xs wide i j n (λ y. omega arith) ∙ sym (at_zero n xs)))
      (at_zero count ys ∙ ap (record_at stride (length w) count) q ∙ record_new stride count bucket w xs wide i j) in
      record {
        fits = h;
        same_length = ap length q ∙ length_appended stride count bucket w xs wide i j;
        kept = λ a n z. ap (part a n) q ∙ beyond_kept stride count bucket w xs wide i j room a n h b z;
        equation = λ hash t. rw (← g hash room b t, e, length_fronts 0 stride (length w) count xs, lt-leb room count h, more);
        chained = λ hash t.
            subst (λ (v : List ℕ). Chained hash stride (length w) room (suc count) v) (sym q)
            (chained_appended stride count bucket w xs wide i j hash room t.hashed b few t.chained (absent hash t));
      }
    where
      at_zero : (n : ℕ) (v : List ℕ) → part (0 + n * stride) (length w) v ≡ record_at stride (length w) n v
      at_zero n v = ap (λ (a : ℕ). part a (length w) v) (zero-add (n * stride))

      absent : (hash : List ℕ → ℕ) → Searchable hash stride room count bucket shape w xs → (j : ℕ) → j < count → record_at stride (length w) j xs ≡ w → ⊥
      absent hash t j l z =
          index_absent 0 w records (sym (g hash room b t) ∙ e) j (omega (arith, l, length_fronts 0 stride (length w) count xs))
          (get_d_fronts 0 stride (length w) count xs j [] l ∙ at_zero j xs ∙ z)
