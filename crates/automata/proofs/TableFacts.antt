-- Facts about the ranges of a table, and the laws of the formats that text and memory share.
use mathlib.Core.Path.{◌≡◌, refl}
use mathlib.Core.Option.{Option}
use mathlib.Core.List.{List}
use Prim.Native.Nat.{ℕ, ◌≤◌, ◌<◌}
use native.Mathlib.Omega.{arith}
use lib.Dec.{T, leb, ltb, leb→le, le→leb, ltb→lt, lt→ltb}
use lib.ListN.{length}
use Rattle.automata.specs.Lists.{and, All, Each}
use Rattle.automata.specs.Automaton.{State, Arc}
use Rattle.automata.specs.Refusal.{size, state}
use Rattle.automata.specs.Format.{Format}
use Rattle.automata.specs.Limits.{max_tapes, max_states, max_arcs, max_weight}
use Rattle.automata.specs.Table.{Weight, Label, Counts, counts_fit, WellFormedState, WellFormedArc}
use Rattle.automata.specs.TableFormat.{state_format, state_number, weight_number, arc_format}
use Rattle.automata.proofs.TestFacts.{and_T, T_and}
use Rattle.automata.proofs.FormatFacts.{Lawful, pair_lawful, convert_lawful, restrict_lawful}

-- the test passes just where they are
pub counts_fit→Counts : (tapes states arcs : ℕ) → T (counts_fit tapes states arcs) → Counts tapes states arcs
counts_fit→Counts tapes states arcs t =
    let s = and_T (and (leb 1 tapes) (leb tapes max_tapes)) (and (leb states max_states) (leb arcs max_arcs)) t in
    let a = and_T (leb 1 tapes) (leb tapes max_tapes) s.0 in
    let b = and_T (leb states max_states) (leb arcs max_arcs) s.1 in
    record { some_tape = leb→le 1 tapes a.0; tapes_fit = leb→le tapes max_tapes a.1; states_fit = leb→le states max_states b.0; arcs_fit = leb→le arcs max_arcs b.1 }

pub Counts→counts_fit : (tapes states arcs : ℕ) → Counts tapes states arcs → T (counts_fit tapes states arcs)
Counts→counts_fit tapes states arcs c =
    T_and (and (leb 1 tapes) (leb tapes max_tapes)) (and (leb states max_states) (leb arcs max_arcs))
    (T_and (leb 1 tapes) (leb tapes max_tapes) (le→leb 1 tapes c.some_tape) (le→leb tapes max_tapes c.tapes_fit))
    (T_and (leb states max_states) (leb arcs max_arcs) (le→leb states max_states c.states_fit) (le→leb arcs max_arcs c.arcs_fit))

-- ---- the formats that text and memory share: each is given how a number, a weight or the labels of an arc are written

-- each is lawful where its parts are
pub state_format_lawful : {weight : Format ℕ (Option ℕ)} → Lawful weight (Each Weight) → Lawful (state_format weight) WellFormedState
state_format_lawful l = convert_lawful (pair_lawful l l) (record {
  reads = λ s v. ((v.initial, v.final), refl);
  only = λ p s v r.
      let q : ◌≡◌ {A = State ℕ} (record { initial = p.0; final = p.1 }) s = cc in
      rw (← q) (record { initial = v.0; final = v.1 }, refl);
})

module _ {number : Format ℕ ℕ} {bound : ℕ} where
  pub state_number_lawful : (states : ℕ) → Lawful number (λ n. n < bound) → states ≤ bound → Lawful (state_number states number) (λ q. q < states)
  state_number_lawful states l h = restrict_lawful (λ q. ltb q states) state l (λ q k. (omega arith, lt→ltb q states k)) (λ q v t. ltb→lt q states t)

  pub weight_number_lawful : Lawful number (λ n. n < bound) → max_weight < bound → Lawful (weight_number number) Weight
  weight_number_lawful l h = restrict_lawful (λ w. leb w max_weight) size l (λ w k. (omega arith, le→leb w max_weight k)) (λ w v t. leb→le w max_weight t)

module _ {number weight : Format ℕ ℕ} {labels : Format ℕ (List (List ℕ))} {tapes states : ℕ} where
  pub arc_format_lawful : Lawful number (λ q. q < states) → Lawful weight Weight → Lawful labels (λ x. (length x ≡ tapes) × All Label x)
      → Lawful (arc_format number weight labels) (WellFormedArc tapes states)
  arc_format_lawful n w l = convert_lawful (pair_lawful n (pair_lawful n (pair_lawful w l))) (record {
    reads = λ a v. ((v.source, (v.target, (v.weight, (v.width, v.labels)))), refl);
    only = λ p a v r.
        let e : ◌≡◌ {A = Arc ℕ} (record { source = p.0; target = p.1.0; weight = p.1.1.0; labels = p.1.1.1 }) a = cc in
        rw (← e) (record { source = v.0; target = v.1.0; weight = v.1.1.0; width = v.1.1.1.0; labels = v.1.1.1.1 }, refl);
  })
