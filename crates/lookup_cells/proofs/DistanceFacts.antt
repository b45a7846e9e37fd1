-- A table of numbers that runs attain, and that no ending and no arc can lower, holds the least weights.
use mathlib.Core.Path.{◌≡◌, refl, sym, ap, subst, ◌∙◌}
use mathlib.Core.Option.{Option, none, some, none-ne-some, some-injective}
use mathlib.Core.List.{List, [], ◌∷◌}
use Prim.Native.Nat.{ℕ, ◌+◌, ◌≤◌, ◌<◌, suc-le-suc}
use native.Mathlib.Nat.{mul-le-mul}
use native.Mathlib.Decide.{dec_le}
use native.Mathlib.Omega.{arith}
use lib.Dec.{leb→le}
use lib.ListN.{length, get_or, get_elem?, length-drop}
use borrow.Author.Tests.{lt-ltb, le-ltb}
use Rattle.automata.specs.Lists.{total}
use Rattle.automata.specs.OrderedSum.{ℕ_sum}
use Rattle.automata.specs.Graph.{Within, Walk, stop, step}
use Rattle.automata.specs.Automaton.{Automaton, Arc, size, graph, final_of, Tuple}
use Rattle.automata.specs.Lookup.{left_quotients, best, arcs_enough}
use Rattle.automata.proofs.Spelling.{Spells, spells_tail}
use Rattle.automata.proofs.LookupRuns.{onward, Onward, best_least}
use Rattle.automata.proofs.LookupFacts.{short-enough}
use Rattle.automata.proofs.LookupBounds.{WeightsBounded, best-le}
use Rattle.automata.specs.Cells.{Positions, drop_all, place, cell}
use Rattle.automata.proofs.Cells.{moved, left_quotients_drop}
use Rattle.lookup_moves.specs.Distances.{far, weight_of}
use Rattle.lookup_cells.specs.Filled.{Filled}
use Rattle.lookup_cells.proofs.MoveMeaning.{place-moved}

module _ (A : Automaton ℕ) (t : Tuple) (xs : List ℕ) where
  -- the number of a state and positions
  abbrev pub val : ℕ → List ℕ → ℕ
  val q ps = get_or xs (cell q ps t) 0

  -- Every number is attained or that for "none", no ending lowers one, and no arc that leads to a combination of
  -- positions of at least b.
  pub record Distances (b : ℕ) : Type 0 where
    pub below : (k : ℕ) → get_or xs k 0 ≤ far
    pub attained : (q : ℕ) (ps : List ℕ) → q < size A → Positions ps t → val q ps < far → (k : ℕ) × Onward ℕ_sum A k q (drop_all ps t) (val q ps)
    pub ends : (q : ℕ) (ps : List ℕ) (f : ℕ) → q < size A → Positions ps t → Spells {W = ℕ} [] (drop_all ps t) → final_of A q ≡ some f → val q ps ≤ f
    pub goes : (q : ℕ) (ps : List ℕ) → q < size A → Positions ps t → (e : ℕ) (a : Arc ℕ) → get_elem? A.arcs e ≡ some a → a.source ≡ q
        → (rest : Tuple) → left_quotients a.labels (drop_all ps t) ≡ some rest → b ≤ place (moved ps a.labels) t → val q ps ≤ a.weight + val a.target (moved ps a.labels)

  -- From a combination of positions that is at least b, no run is lighter.
  pub distances_bound : Within (graph A) (size A) → (b : ℕ) → Distances b → {q : ℕ} {r : List ℕ} {es : List (Arc ℕ)} {p : ℕ} (f : ℕ) (ps : List ℕ) → q < size A → Positions ps t
      → b ≤ place ps t → Walk (graph A) q r es p → final_of A p ≡ some f → Spells es (drop_all ps t) → val q ps ≤ onward ℕ_sum A es f
  distances_bound within b d {q} f ps lt h le stop e s = d.ends q ps f lt h s e
  distances_bound within b d {q} f ps lt h le (step {e = n} {a} {es} at from w) e s =
      let (rest, g, s') = spells_tail a es (drop_all ps t) s in
      let (r, k) = left_quotients_drop a.labels ps t rest h g in
      let i : val a.target (moved ps a.labels) ≤ onward ℕ_sum A es f
      = distances_bound within b d f (moved ps a.labels) (within n a at).1 k (omega (arith, le, place-moved ps a.labels t h)) w e (subst (λ z. Spells es z) r s') in
      omega (arith, d.goes q ps lt h n a at from rest g (omega (arith, le, place-moved ps a.labels t h)), i)

-- what is left of strings has no more symbols
rests_short : (ps : List ℕ) (t : Tuple) → total length (drop_all ps t) ≤ total length t
rests_short [] t = omega arith
rests_short (p ∷ ps) [] = omega arith
rests_short (p ∷ ps) (s ∷ t) = omega (arith, length-drop p s, rests_short ps t)

-- what `best` finds is far below the number for "none"
pub best_small : (A : Automaton ℕ) → WeightsBounded A → size A ≤ 1024 → (rests : Tuple) → total length rests ≤ 512 → (q w : ℕ)
    → best ℕ_sum A (arcs_enough ℕ_sum A rests) q rests ≡ some w → w < 1000000000000000000
best_small A ok few rests short q w e = omega (arith, best-le A ok (arcs_enough ℕ_sum A rests) q rests w e, mul-le-mul few (suc-le-suc short))

module _ (A : Automaton ℕ) (t : Tuple) (xs : List ℕ) (within : Within (graph A) (size A)) (d : Distances A t xs 0) (ok : WeightsBounded A)
    (few : size A ≤ 1024) (short : total length t ≤ 512) where
  module _ (q : ℕ) (ps : List ℕ) (lt : q < size A) (h : Positions ps t) where
    -- what is left there, what `best` finds of it, and the number there
    abbrev rests : Tuple
    rests = drop_all ps t

    abbrev found : Option ℕ
    found = best ℕ_sum A (arcs_enough ℕ_sum A rests) q rests

    abbrev here : ℕ
    here = val A t xs q ps

    here_bound : (k w : ℕ) → Onward ℕ_sum A k q rests w → here ≤ w
    here_bound k w o =
        let i = distances_bound A t xs within 0 d o.final ps lt h (omega arith) o.leads.1 o.ends o.spells in omega (arith, i, o.weight)

    -- where the number is a weight, `best` finds one that is no more
    here_found : here < far → (w : ℕ) × (found ≡ some w) × (w ≤ here)
    here_found small =
        let (k, o) = d.attained q ps lt h small in
        let (u, o', g) = short-enough ℕ_sum A within rests (length o.arcs) o.final (omega arith) lt o.leads.1 o.ends o.spells in
        let (w, e, l) = (best_least ℕ_sum A (arcs_enough ℕ_sum A rests) q rests).bound u o' in
        (w, e, omega (arith, leb→le w u l, leb→le u (onward ℕ_sum A o.arcs o.final) g, o.weight))

    -- The number stands for what `best` finds with as many arcs as are enough.
    here_best : weight_of here ≡ found
    here_best = go found refl
      where
        none-far : found ≡ none → Dec (far ≤ here) → far ≤ here
        none-far e (yes l) = l
        none-far e (no l) = let (w, g, k) = here_found (omega arith) in absurd (none-ne-some w (sym e ∙ g))

        go : (o : Option ℕ) → found ≡ o → weight_of here ≡ o
        go none e = rw (le-ltb here far (none-far e (dec_le far here)))
        go (some w) e =
            let up : here ≤ w = here_bound (arcs_enough ℕ_sum A rests) w ((best_least ℕ_sum A (arcs_enough ℕ_sum A rests) q rests).holds w e) in
            let small : here < far = omega (arith, up, best_small A ok few rests (omega (arith, rests_short ps t)) q w e) in
            let (v, g, l) = here_found small in
            let same : w ≡ v = some-injective w v (sym e ∙ g) in
            let eq : here ≡ w = omega (arith, up, l, same) in
            rw (lt-ltb here far small) (ap some eq)

  -- Once all combinations are done, the cells are filled.
  pub distances_filled : Filled A t xs
  distances_filled = record { below = d.below; least = here_best }
