-- What is told in bytes: the four numbers one behind the other, and that they fit.
use mathlib.Core.Path.{◌≡◌, refl, sym, ap, ◌∙◌}
use mathlib.Core.Option.{Option, none, some}
use mathlib.Core.List.{List, ◌++◌}
use Prim.Native.Nat.{ℕ, ◌≤◌}
use native.Mathlib.Omega.{arith}
use lib.ListN.{length}
use Rattle.automata.specs.Answer.{Answer, ok, refused}
use Rattle.automata.specs.Memory.{Memory}
use Rattle.automata.specs.Calls.Outcome.{overwrite}
use Rattle.automata.specs.Calls.Work.{enough}
use Rattle.automata.specs.Calls.LeastPath.{Told, told_size, told_bytes, record_told, path_answer, path_found_of, list_path, PathFound, path_recorded_of, path_recorded}
use Rattle.table.specs.Region.{splice}
use Rattle.table.specs.Endian.{to_le}
use Rattle.table.proofs.RegionFacts.{splice-behind, splice_front}
use Rattle.laws.proofs.CallPath.{path_calls_lem}
use Rattle.path.specs.Answers.{Fitting, Recordable}

-- four numbers one behind the other
pub told_stored : (x : Told) (v₀ v₁ v₂ v₃ v₄ : List ℕ) → told_size ≤ length v₀ → v₁ ≡ splice 0 (to_le 8 x.weight) v₀ → v₂ ≡ splice 8 (to_le 8 0) v₁
    → v₃ ≡ splice 16 (to_le 4 x.start) v₂ → v₄ ≡ splice 20 (to_le 4 x.arcs) v₃ → v₄ ≡ overwrite (told_bytes x) v₀
told_stored x v₀ v₁ v₂ v₃ v₄ l e₁ e₂ e₃ e₄ =
    let w = to_le 8 x.weight in
    let f₂ = splice-behind 0 8 w (to_le 8 0) v₀ v₁ v₂ e₁ e₂ refl (omega arith) in
    let f₃ = splice-behind 0 16 (w ++ to_le 8 0) (to_le 4 x.start) v₀ v₂ v₃ f₂ e₃ refl (omega arith) in
    splice-behind 0 20 (w ++ to_le 8 0 ++ to_le 4 x.start) (to_le 4 x.arcs) v₀ v₃ v₄ f₃ e₄ refl (omega arith) ∙ splice_front (told_bytes x) v₀

module _ (m : Memory) (text result list work : List ℕ) where
  -- what the call without the result space answers and leaves
  abbrev found : PathFound
  found = list_path (path_answer m text (enough told_size result) list work) list work

  -- a path that it tells fits its bytes, and these the result space
  fits : (x : Told) → found.answer ≡ ok (some x) → Fitting x × (told_size ≤ length result)
  unfolding path_recorded
  fits x f =
      let (answered, bytes) = path_calls_lem.recorded m text result list work (some x) f in
      let told = answered.told x refl in
      (record { start = omega (arith, told.state); arcs = omega (arith, told.few_arcs) }, (bytes x refl).has_room)

  -- so does what it tells
  pub found_fits : (a : Answer (Option Told)) (left cleared : List ℕ) → path_found_of a left cleared ≡ found → Recordable a (length result)
  unfolding path_recorded
  found_fits a left cleared e = go a (sym (ap (λ (x : PathFound). x.answer) e))
    where
      go : (a : Answer (Option Told)) → found.answer ≡ a → Recordable a (length result)
      go (ok (some x)) f = fits x f
      go (ok none) f = tt
      go (refused n) f = tt

  -- so the whole outcome is that of the call
  pub call_recorded : (a : Answer (Option Told)) (left cleared told : List ℕ) → path_found_of a left cleared ≡ found → told ≡ record_told a result
      → path_recorded_of a told left cleared ≡ path_recorded m text result list work
  unfolding path_recorded
  call_recorded a left cleared told e f = λ i. record { found = e i; result = (f ∙ ap (λ (x : PathFound). record_told x.answer result) e) i }
