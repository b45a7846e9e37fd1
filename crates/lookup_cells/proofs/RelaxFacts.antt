-- Relaxation by an arc that leads to a combination of positions keeps what is known of the numbers; the combination is
-- done when no such arc can lower one.
use mathlib.Core.Path.{◌≡◌, refl, sym, ap, subst}
use mathlib.Core.Logic.{inr}
use mathlib.Core.Option.{some}
use mathlib.Core.List.{List}
use Prim.Native.Nat.{ℕ, suc, ◌+◌, ◌*◌, ◌≤◌, ◌<◌}
use native.Mathlib.Decide.{ℕ_discrete, dec_le}
use native.Mathlib.Omega.{arith}
use lib.ListN.{length, get_or, get_elem?}
use Rattle.automata.specs.OrderedSum.{ℕ_sum}
use Rattle.automata.specs.Graph.{Within}
use Rattle.automata.specs.Automaton.{Automaton, Arc, size, graph, Tuple}
use Rattle.automata.specs.Lookup.{left_quotients}
use Rattle.automata.specs.Calls.Work.{combinations}
use Rattle.automata.proofs.LookupRuns.{Onward, onward-join}
use Rattle.automata.specs.Cells.{Positions, drop_all, place, cell}
use Rattle.automata.proofs.Cells.{moved, place_inj, cell_lt, cell_inj, left_quotients_drop}
use Rattle.lookup_moves.specs.Distances.{far, lowered}
use Rattle.lookup_cells.proofs.DistanceFacts.{val, Distances}
use Rattle.lookup_cells.proofs.MoveMeaning.{place-moved}
use Rattle.lookup_cells.proofs.PushFacts.{lowered-le, lowered_same, lowered_other}

-- ---- one arc

module _ (A : Automaton ℕ) (within : Within (graph A) (size A)) (t : Tuple) (ps : List ℕ) (h : Positions ps t) (xs : List ℕ)
    (room : size A * combinations t ≤ length xs) (n : ℕ) (d : Distances A t xs n) (e : ℕ) (a : Arc ℕ) (at : get_elem? A.arcs e ≡ some a)
    (rest : Tuple) (b : left_quotients a.labels (drop_all ps t) ≡ some rest) (early : place (moved ps a.labels) t < n) where
  -- the cell of its source, the weight through it, and the numbers after it
  abbrev pub source_cell : ℕ
  source_cell = cell a.source ps t

  abbrev pub through : ℕ
  through = a.weight + val A t xs a.target (moved ps a.labels)

  abbrev pub after : List ℕ
  after = lowered source_cell through xs

  in_room : source_cell < length xs
  in_room = omega (arith, room, cell_lt (size A) a.source ps t (within e a at).0 h)

  -- the weight through it is attained
  through_attained : through < far → (k : ℕ) × Onward ℕ_sum A k a.source (drop_all ps t) through
  through_attained small =
      let (r, g) = left_quotients_drop a.labels ps t rest h b in
      let (k, o) = d.attained a.target (moved ps a.labels) (within e a at).1 g (omega arith) in (
        suc k,
        onward-join ℕ_sum A k a.source (drop_all ps t) through
            (inr (
              e,
              a,
              at,
              (
                refl,
                rest,
                b,
                val A t xs a.target (moved ps a.labels),
                subst (λ z. Onward ℕ_sum A k a.target z (val A t xs a.target (moved ps a.labels))) (sym r) o,
                refl,
              ),
            )),
      )

  -- numbers of later combinations stay
  later_stays : (q : ℕ) (ps₂ : List ℕ) → Positions ps₂ t → n ≤ place ps₂ t → val A t after q ps₂ ≡ val A t xs q ps₂
  later_stays q ps₂ h₂ le = lowered_other source_cell through xs (cell q ps₂ t) (λ same.
      let (i, j) = cell_inj q a.source ps₂ ps t h₂ h same in
      let z : place ps₂ t ≡ place ps t = ap (λ (x : List ℕ). place x t) j in omega (arith, z, le, early, place-moved ps a.labels t h))

  after_attained : (q : ℕ) (ps₂ : List ℕ) → q < size A → Positions ps₂ t → val A t after q ps₂ < far
      → (k : ℕ) × Onward ℕ_sum A k q (drop_all ps₂ t) (val A t after q ps₂)
  after_attained q ps₂ lt h₂ = go (ℕ_discrete (cell q ps₂ t) source_cell) (dec_le (get_or xs source_cell 0) through)
    where
      Shown : ℕ → List ℕ → ℕ → Type 0
      Shown q ps₂ w = w < far → (k : ℕ) × Onward ℕ_sum A k q (drop_all ps₂ t) w

      old : val A t xs q ps₂ < far → (k : ℕ) × Onward ℕ_sum A k q (drop_all ps₂ t) (val A t xs q ps₂)
      old = d.attained q ps₂ lt h₂

      go : Dec (cell q ps₂ t ≡ source_cell) → Dec (get_or xs source_cell 0 ≤ through) → Shown q ps₂ (val A t after q ps₂)
      go (no ne) c = subst (Shown q ps₂) (sym (lowered_other source_cell through xs (cell q ps₂ t) ne)) old
      go (yes same) (yes le) =
          let f : val A t xs q ps₂ ≡ val A t after q ps₂
          = omega (arith, le, lowered_same source_cell through xs in_room, ap (λ (i : ℕ). get_or after i 0) same, ap (λ (i : ℕ). get_or xs i 0) same) in
          subst (Shown q ps₂) f old
      go (yes same) (no gt) =
          let (i, j) = cell_inj q a.source ps₂ ps t h₂ h same in
          let f : through ≡ val A t after q ps₂ = omega (arith, gt, lowered_same source_cell through xs in_room, ap (λ (i : ℕ). get_or after i 0) same) in
          subst (Shown q ps₂) f (subst (λ (z : List ℕ). Shown q z through) (sym j) (subst (λ (z : ℕ). Shown z ps through) (sym i) through_attained))

  pub arc_keeps : Distances A t after n
  arc_keeps = record {
    below = λ k. omega (arith, lowered-le source_cell through xs k, d.below k);
    attained = after_attained;
    ends = λ q ps₂ f lt h₂ s g. omega (arith, lowered-le source_cell through xs (cell q ps₂ t), d.ends q ps₂ f lt h₂ s g);
    goes = λ q ps₂ lt h₂ e₂ a₂ at₂ from₂ rest₂ b₂ le.
        let g = (left_quotients_drop a₂.labels ps₂ t rest₂ h₂ b₂).1 in
        omega (
          arith,
          lowered-le source_cell through xs (cell q ps₂ t),
          later_stays a₂.target (moved ps₂ a₂.labels) g le,
          d.goes q ps₂ lt h₂ e₂ a₂ at₂ from₂ rest₂ b₂ le,
        );
  }

-- ---- all arcs

-- A combination is done when none of the arcs that lead to it lowers a number.
pub combination_done : (A : Automaton ℕ) (t : Tuple) (ps : List ℕ) → Positions ps t → (xs : List ℕ) → Distances A t xs (suc (place ps t))
    → ((e : ℕ) (a : Arc ℕ) → get_elem? A.arcs e ≡ some a → (ps₂ : List ℕ) → Positions ps₂ t → moved ps₂ a.labels ≡ ps
    → (rest : Tuple) → left_quotients a.labels (drop_all ps₂ t) ≡ some rest → val A t xs a.source ps₂ ≤ a.weight + val A t xs a.target ps)
    → Distances A t xs (place ps t)
combination_done A t ps h xs d each = record {
  below = d.below;
  attained = d.attained;
  ends = d.ends;
  goes = λ q ps₂ lt h₂ e a at from rest b le. go q ps₂ lt h₂ e a at from rest b le (ℕ_discrete (place (moved ps₂ a.labels) t) (place ps t));
}
  where
    go : (q : ℕ) (ps₂ : List ℕ) → q < size A → Positions ps₂ t → (e : ℕ) (a : Arc ℕ) → get_elem? A.arcs e ≡ some a
        → a.source ≡ q → (rest : Tuple) → left_quotients a.labels (drop_all ps₂ t) ≡ some rest → place ps t ≤ place (moved ps₂ a.labels) t
        → Dec (place (moved ps₂ a.labels) t ≡ place ps t) → val A t xs q ps₂ ≤ a.weight + val A t xs a.target (moved ps₂ a.labels)
    go q ps₂ lt h₂ e a at from rest b le (no ne) = d.goes q ps₂ lt h₂ e a at from rest b (omega arith)
    go q ps₂ lt h₂ e a at from rest b le (yes same) =
        let j : moved ps₂ a.labels ≡ ps = place_inj (moved ps₂ a.labels) ps t (left_quotients_drop a.labels ps₂ t rest h₂ b).1 h same in
        subst (λ (z : List ℕ). val A t xs q ps₂ ≤ a.weight + val A t xs a.target z) (sym j)
        (subst (λ (z : ℕ). val A t xs z ps₂ ≤ a.weight + val A t xs a.target ps) from (each e a at ps₂ h₂ j rest b))
