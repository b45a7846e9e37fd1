-- A state is coaccessible exactly where it has a closing delay on one tape taken twice, which is none: `least-held`.
use mathlib.Core.Path.{◌≡◌, refl, sym, subst, ◌∙◌}
use mathlib.Core.Logic.{◌≢◌}
use mathlib.Core.Bool.{Bool, true, false}
use mathlib.Core.List.{List, [], ◌∷◌, map}
use Prim.Native.Nat.{ℕ, zero, suc, ◌<◌}
use native.Mathlib.Decide.{ℕ_discrete}
use native.Mathlib.Omega.{arith}
use lib.ListN.{length, get_or, length-map}
use lib.Seq.{ext_get_or}
use Rattle.automata.specs.Lists.{if, is_some}
use Rattle.automata.specs.Graph.{Within}
use Rattle.automata.specs.Marks.{coaccessible}
use Rattle.automata.specs.Automaton.{Automaton, Arc, graph, size, Formed, Closes}
use Rattle.automata.specs.Closing.{origin, endless, missing, finals, least_delays}
use Rattle.automata.proofs.MarkFacts.{length_coaccessible, coaccessible_iff}
use Rattle.automata.proofs.RelaxedDelays.{finals_iff}
use Rattle.automata.proofs.ClosingDelays.{LeastDelay, least_delays_least, length_diverged}

-- a mark as a delay: none, or missing
abbrev pub held : Bool → ℕ
held b = if b origin missing

pub held_at : (xs : List Bool) (k : ℕ) → get_or (map held xs) k missing ≡ held (get_or xs k false)
held_at [] k = refl
held_at (x ∷ xs) zero = refl
held_at (x ∷ xs) (suc k) = held_at xs k

module _ {W : Type 0} (A : Automaton W) (ok : Formed A) (i : ℕ) where
  length_finals : length (finals A) ≡ size A
  length_finals = length-map A.states (λ s. is_some s.final)

  within : Within (graph A) (length (finals A))
  within = subst (Within (graph A)) (sym length_finals) ok.within

  -- a delay on one tape taken twice, by whether its state is coaccessible
  delay-held : (q v : ℕ) (b : Bool) → q < length (finals A) → LeastDelay A i i q v → get_or (coaccessible (graph A) (finals A)) q false ≡ b → v ≡ held b
  delay-held q v true lt d m = go (ℕ_discrete v missing) (ℕ_discrete v endless)
    where
      closes : (es : List (Arc W)) × Closes A q es
      closes = let (es, p, w, f) = (coaccessible_iff (graph A) (finals A) within q lt).0 m in (es, (p, w, (finals_iff A p).0 f))

      go : Dec (v ≡ missing) → Dec (v ≡ endless) → v ≡ origin
      go (yes e) z = absurd (d.missing_iff.0 e closes.0 closes.1)
      go (no e) (yes z) = let (es, c, h) = d.endless_iff.0 z 1 in absurd (omega arith)
      go (no e) (no z) = let (es, c, h) = d.attained e z in omega arith
  delay-held q v false lt d m = d.missing_iff.1 (λ es (p, w, f). absurd (none (sym m ∙ (coaccessible_iff (graph A) (finals A) within q lt).1 (es, p, w, (finals_iff A p).1 f))))
    where
      none : ◌≢◌ {A = Bool} false true
      none e = let z : ◌≡◌ {A = ℕ} 0 1 = cc in absurd (omega arith)

  -- The least closing delays on one tape taken twice tell the coaccessible states.
  pub least_held : least_delays A i i ≡ map held (coaccessible (graph A) (finals A))
  least_held =
      let marks = coaccessible (graph A) (finals A) in
      let l = (length_diverged A ok i i) (size A) in
      let n : length (map held marks) ≡ size A = length-map marks held ∙ length_coaccessible (graph A) (finals A) ∙ length_finals in
      ext_get_or missing (least_delays A i i) (map held marks) (l ∙ sym n)
      (λ q k. let lt : q < size A = omega (arith, l, k) in
      delay-held q (get_or (least_delays A i i) q missing) (get_or marks q false) (omega (arith, length_finals)) ((least_delays_least A ok i i) q lt) refl ∙ sym (held_at marks q))
