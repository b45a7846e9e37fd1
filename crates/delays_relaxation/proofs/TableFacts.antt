-- The edges and the starting delays that the code reads are those of the table in memory, so its rounds are those of
-- the definition.
use Prim.Native.Nat.{ℕ, zero, suc, ◌+◌, ◌*◌, ◌%◌, ◌/◌, ◌<◌}
use mathlib.Core.Path.{◌≡◌, refl, sym, ap, subst, ◌∙◌}
use mathlib.Core.Bool.{Bool, true, false}
use mathlib.Core.Option.{Option, none, some}
use mathlib.Core.List.{List, [], ◌∷◌, ◌++◌, map}
use native.Mathlib.Omega.{arith}
use lib.ListN.{length, length-map, get_or, get_elem?, take, drop}
use lib.Seq.{ext_get_or, get_or-take, get_or-drop}
use Rattle.table.specs.Region.{part}
use Rattle.table.specs.Endian.{le}
use Rattle.table.specs.Arcs.{source_at, target_at, label_place}
use Rattle.automata.specs.Lists.{if, is_some}
use Rattle.automata.specs.Rounds.{iterate, visit}
use Rattle.automata.specs.InPlace.{sweep_in_place, round_in_place}
use Rattle.automata.specs.Graph.{Leads, stop, step}
use Rattle.automata.specs.Automaton.{Automaton, Arc, State, label_on, length_on, graph, size, Formed}
use Rattle.automata.specs.Closing.{origin, missing, start_delays, through, relax, diverge, least_delays}
use Rattle.automata.specs.Lists.{All}
use Rattle.automata.specs.Table.{WellFormed, WellFormedArc}
use Rattle.automata.specs.Memory.{Memory, Holds, flag, state_record}
use Rattle.automata.specs.Reversal.{turned, exchanged, directed}
use Rattle.automata.proofs.RecordFacts.{All_at}
use Rattle.automata.proofs.WellFormedFacts.{well_formed}
use Rattle.automata.proofs.RoundFacts.{iterate_same}
use Rattle.automata.proofs.Membership.{place_map⁻¹}
use Rattle.automata.proofs.Walks.{walk_append}
use Rattle.automata.proofs.AutomatonFacts.{length_on_nil, length_on_cons, length_on_append}
use Rattle.automata.proofs.RelaxedDelays.{through-cases}
use Rattle.automata.proofs.InPlaceDelays.{Held, start-held, arc-held, cycle_held, in_place_least}
use Rattle.automata.proofs.ReversalFacts.{size-directed, directed_formed}
use Rattle.automata.proofs.MemoryFacts.{arc_field, label_field, state_field}
use Rattle.automata.specs.Layout.{arc_size, target_place, state_size, final_place, label_size, labels_place}
use Rattle.delays_relaxation.specs.declared.Edge.{Edge}
use Rattle.delays_relaxation.specs.Edges.{edge_at, edges, edge_graph, Joined, through_edge, improve_edge, round_of, rounds_of, both_rounds, start_of, flag_place, starts}
use Rattle.delays_relaxation.specs.Lowered.{none, next, own, along, around, Run, Stands, Lowered, Least}

-- an arc as relaxation on the tapes i and j takes it
abbrev pub edge_of : ℕ → ℕ → Arc ℕ → Edge
edge_of i j a = record { source = a.source; target = a.target; up = length (label_on i a); down = length (label_on j a) }

-- one element of a mapped list
map_at : {X Y : Type 0} (f : X → Y) (xs : List X) (k : ℕ) (x : X) (y : Y) → k < length xs → get_or (map f xs) k y ≡ f (get_or xs k x)
map_at f [] k x y h = absurd (omega arith)
map_at f (z ∷ xs) zero x y h = refl
map_at f (z ∷ xs) (suc k) x y h = map_at f xs k x y (omega arith)

length_edges : (r : Bool) (i j at n : ℕ) (arcs : List ℕ) → length (edges r i j at n arcs) ≡ n
unfolding edges
length_edges r i j at zero arcs = refl
length_edges r i j at (suc n) arcs = ap suc (length_edges r i j (at + arc_size) n arcs)

edges_at : (r : Bool) (i j at n : ℕ) (arcs : List ℕ) (k : ℕ) (d : Edge) → k < n → get_or (edges r i j at n arcs) k d ≡ edge_at r i j (at + arc_size * k) arcs
unfolding edges
edges_at r i j at zero arcs k d h = absurd (omega arith)
edges_at r i j at (suc n) arcs zero d h = ap (λ (p : ℕ). edge_at r i j p arcs) (omega arith)
edges_at r i j at (suc n) arcs (suc k) d h = edges_at r i j (at + arc_size) n arcs k d (omega arith) ∙ ap (λ (p : ℕ). edge_at r i j p arcs) (omega arith)

length_starts : (r : Bool) (from n : ℕ) (bytes : List ℕ) → length (starts r from n bytes) ≡ n
unfolding starts
length_starts r from zero bytes = refl
length_starts r from (suc n) bytes = ap suc (length_starts r (from + state_size) n bytes)

starts_at : (r : Bool) (from n : ℕ) (bytes : List ℕ) (k d : ℕ) → k < n → get_or (starts r from n bytes) k d ≡ start_of (get_or bytes (from + state_size * k + flag_place r) 0)
unfolding starts
starts_at r from zero bytes k d h = absurd (omega arith)
starts_at r from (suc n) bytes zero d h = ap (λ (p : ℕ). start_of (get_or bytes p 0)) (omega arith)
starts_at r from (suc n) bytes (suc k) d h = starts_at r (from + state_size) n bytes k d (omega arith) ∙ ap (λ (p : ℕ). start_of (get_or bytes p 0)) (omega arith)

start-flag : (o : Option ℕ) → start_of (flag o).0 ≡ if (is_some o) origin missing
start-flag none = refl
start-flag (some w) = refl

two_bytes_lem : (n : ℕ) → n < 65536 → n % 256 + 256 * (n / 256 % 256 + 256 * 0) ≡ n
two_bytes_lem n h = omega arith

module _ (m : Memory) (t : Automaton ℕ) (w : WellFormed t) (h : Holds m t) where
  abbrev pub no_arc : Arc ℕ
  no_arc = record { source = 0; target = 0; weight = 0; labels = [] }

  abbrev pub no_state : State ℕ
  no_state = record { initial = none; final = none }

  -- the fields of the k-th arc
  module _ (k : ℕ) (l : k < m.arcs) where
    arc_is : WellFormedArc t.tapes (length t.states) (get_or t.arcs k no_arc)
    arc_is = All_at (WellFormedArc t.tapes (length t.states)) t.arcs no_arc k w.arcs (rw h.arcs at l)

    pub source_is : source_at (0 + arc_size * k) m.arc_bytes ≡ (get_or t.arcs k no_arc).source
    unfolding part
    source_is =
        let e : 0 + arc_size * k ≡ k * arc_size + 0 = omega arith in
        ap (λ (p : ℕ). le (take 2 (drop p m.arc_bytes))) e ∙ ap le (arc_field m t w h k no_arc l 0 2 (omega arith))
        ∙ two_bytes_lem (get_or t.arcs k no_arc).source (omega (arith, arc_is.source, w.counts.states_fit))

    pub target_is : target_at (0 + arc_size * k) m.arc_bytes ≡ (get_or t.arcs k no_arc).target
    unfolding part
    target_is =
        let e : 0 + arc_size * k + target_place ≡ k * arc_size + target_place = omega arith in
        ap (λ (p : ℕ). le (take 2 (drop p m.arc_bytes))) e ∙ ap le (arc_field m t w h k no_arc l target_place 2 (omega arith))
        ∙ two_bytes_lem (get_or t.arcs k no_arc).target (omega (arith, arc_is.target, w.counts.states_fit))

    pub label_is : (i : ℕ) → i < t.tapes → get_or m.arc_bytes (label_place (0 + arc_size * k) i) 0 ≡ length (label_on i (get_or t.arcs k no_arc))
    label_is i b =
        let p = k * arc_size + (labels_place + i * label_size) in
        let e : label_place (0 + arc_size * k) i ≡ p + 0 = omega arith in
        ap (λ (q : ℕ). get_or m.arc_bytes q 0) e ∙ sym (get_or-drop p m.arc_bytes 0 0) ∙ sym (get_or-take label_size (drop p m.arc_bytes) 0 0 (omega arith))
        ∙ ap (λ (x : List ℕ). get_or x 0 0) (label_field m t w h k no_arc l i b)

    -- the edge read of it is the arc of the table, or of its reversal
    edge_is : (r : Bool) (i j : ℕ) → i < t.tapes → j < t.tapes → edge_at r i j (0 + arc_size * k) m.arc_bytes ≡ edge_of i j (get_or (directed r t).arcs k no_arc)
    edge_is false i j a b = λ z. record { source = source_is z; target = target_is z; up = label_is i a z; down = label_is j b z }
    edge_is true i j a b =
        (λ z. record { source = target_is z; target = source_is z; up = label_is i a z; down = label_is j b z })
        ∙ ap (edge_of i j) (sym (map_at turned t.arcs k no_arc no_arc (omega (arith, h.arcs))))

  -- there are as many arcs either way
  arcs_count : (r : Bool) → m.arcs ≡ length (directed r t).arcs
  arcs_count false = h.arcs
  arcs_count true = h.arcs ∙ sym (length-map t.arcs turned)

  -- and as many states
  states_count : (r : Bool) → m.states ≡ size (directed r t)
  states_count r = h.states ∙ sym (size-directed r t)

  -- the edges are the arcs
  pub edges_are : (r : Bool) (i j : ℕ) → i < t.tapes → j < t.tapes → edges r i j 0 m.arcs m.arc_bytes ≡ map (edge_of i j) (directed r t).arcs
  edges_are r i j a b =
      let d = edge_of i j no_arc in
      let rs = (directed r t).arcs in
      let n = length_edges r i j 0 m.arcs m.arc_bytes in
      ext_get_or d (edges r i j 0 m.arcs m.arc_bytes) (map (edge_of i j) rs) (n ∙ arcs_count r ∙ sym (length-map rs (edge_of i j)))
      (λ k l.
      let c : k < m.arcs = omega (arith, n) in
      edges_at r i j 0 m.arcs m.arc_bytes k d c ∙ edge_is k c r i j a b ∙ sym (map_at (edge_of i j) rs k no_arc d (omega (arith, arcs_count r))))

  -- a flag of the k-th state, by its place in the record
  module _ (k : ℕ) (l : k < m.states) where
    flag-byte : (o : ℕ) → o < state_size → get_or m.state_bytes (0 + state_size * k + o) 0 ≡ get_or (take 1 (drop o (state_record.write (get_or t.states k no_state)))) 0 0
    flag-byte o b =
        let p = k * state_size + o in
        let e : 0 + state_size * k + o ≡ p + 0 = omega arith in
        ap (λ (q : ℕ). get_or m.state_bytes q 0) e ∙ sym (get_or-drop p m.state_bytes 0 0) ∙ sym (get_or-take 1 (drop p m.state_bytes) 0 0 (omega arith))
        ∙ ap (λ (x : List ℕ). get_or x 0 0) (state_field m t w h k no_state l o 1 (omega arith))

    -- the one read of it is for the final weight in the table, or in its reversal
    flag_is : (r : Bool) → get_or m.state_bytes (0 + state_size * k + flag_place r) 0 ≡ (flag (get_or (directed r t).states k no_state).final).0
    flag_is false = flag-byte final_place (omega arith)
    flag_is true =
        flag-byte 0 (omega arith) ∙ ap (λ (s : State ℕ). (flag s.final).0) (sym (map_at exchanged t.states k no_state no_state (omega (arith, h.states))))

  -- the starting delays are those of the states
  pub starts_are : (r : Bool) → starts r 0 m.states m.state_bytes ≡ start_delays (directed r t)
  starts_are r =
      let f : State ℕ → ℕ = λ s. if (is_some s.final) origin missing in
      let ss = (directed r t).states in
      let n = length_starts r 0 m.states m.state_bytes in
      ext_get_or 0 (starts r 0 m.states m.state_bytes) (start_delays (directed r t)) (n ∙ states_count r ∙ sym (length-map ss f))
      (λ k l.
      let c : k < m.states = omega (arith, n) in
      starts_at r 0 m.states m.state_bytes k 0 c ∙ ap start_of (flag_is k c r) ∙ start-flag (get_or ss k no_state).final
      ∙ sym (map_at f ss k no_state 0 (omega (arith, states_count r))))

-- the arcs join states of the table
pub joined_are : (tapes states i j : ℕ) (rs : List (Arc ℕ)) → All (WellFormedArc tapes states) rs → Joined states (map (edge_of i j) rs)
unfolding Joined
joined_are tapes states i j [] p = tt
joined_are tapes states i j (a ∷ rs) p = (p.0.source, p.0.target, joined_are tapes states i j rs p.1)

-- a round in place over the edges is one over the arcs
module _ (t : Automaton ℕ) (gs : List Edge) (i j : ℕ) where
  relax-sweep : (xs : List ℕ) (rs : List (Arc ℕ))
      → sweep_in_place (edge_graph gs) missing (improve_edge false) xs (map (edge_of i j) rs) ≡ sweep_in_place (graph t) missing (relax i j) xs rs
  relax-sweep xs [] = refl
  relax-sweep xs (a ∷ rs) = ap (λ (ys : List ℕ). visit (graph t) missing (relax i j) ys ys a) (relax-sweep xs rs)

  diverge-sweep : (xs : List ℕ) (rs : List (Arc ℕ))
      → sweep_in_place (edge_graph gs) missing (improve_edge true) xs (map (edge_of i j) rs) ≡ sweep_in_place (graph t) missing (diverge i j) xs rs
  diverge-sweep xs [] = refl
  diverge-sweep xs (a ∷ rs) = ap (λ (ys : List ℕ). visit (graph t) missing (diverge i j) ys ys a) (diverge-sweep xs rs)

-- a run of edges is one of arcs
run_leads : (t : Automaton ℕ) (i j : ℕ) {q p up down : ℕ} → Run (map (edge_of i j) t.arcs) q p up down
    → (rs : List (Arc ℕ)) × Leads (graph t) q rs p × (length_on i rs ≡ up) × (length_on j rs ≡ down)
run_leads t i j none = ([], ([], stop), length_on_nil ℕ i, length_on_nil ℕ j)
run_leads t i j {q} (next {p} {up} {down} k e at from r) =
    let (a, place, is) = place_map⁻¹ (edge_of i j) t.arcs k at in
    go a place is (run_leads t i j r)
  where
    go : (a : Arc ℕ) → get_elem? t.arcs k ≡ some a → edge_of i j a ≡ e → (rs : List (Arc ℕ)) × Leads (graph t) q rs p × (length_on i rs ≡ up) × (length_on j rs ≡ down)
        → (rs : List (Arc ℕ)) × Leads (graph t) q rs e.target × (length_on i rs ≡ up + e.up) × (length_on j rs ≡ down + e.down)
    go a place is (rs, (r', w), u, d) = rw (← is) (
      rs ++ (a ∷ []),
      (r' ++ (k ∷ []), walk_append w (step place (ap (λ (z : Edge). z.source) is ∙ from) stop)),
      omega (arith, u, length_on_append i rs (a ∷ []), length_on_cons i a [], length_on_nil ℕ i),
      omega (arith, d, length_on_append j rs (a ∷ []), length_on_cons j a [], length_on_nil ℕ j),
    )

-- a delay that stands for runs of edges stands for runs of arcs
module _ (t : Automaton ℕ) (ok : Formed t) (i j : ℕ) where
  stands_held : {q v : ℕ} → Stands (map (edge_of i j) t.arcs) (start_delays t) q v → (Held t ok i j) q v
  stands_held (own {q}) = (start-held t ok i j) q
  stands_held (along {v} k e at l s) =
      let (a, place, is) = place_map⁻¹ (edge_of i j) t.arcs k at in
      go a place is (stands_held s)
    where
      go : (a : Arc ℕ) → get_elem? t.arcs k ≡ some a → edge_of i j a ≡ e → (Held t ok i j) e.target v → (Held t ok i j) e.source (through_edge e.up e.down v)
      go a place is h = subst (λ (z : Edge). (Held t ok i j) z.source (through_edge z.up z.down v)) is
          ((arc-held t ok i j) k a place v (through i j a v) (through-cases i j a v) (subst (λ (z : Edge). (Held t ok i j) z.target v) (sym is) h)
          (subst (λ (z : Edge). through_edge z.up z.down v < missing) (sym is) l))
  stands_held (around {q} {v} c m s) =
      let (rs, w, u, d) = run_leads t i j c.closed in
      (cycle_held t ok i j) q v rs w (omega (arith, u, d, c.less)) m (stands_held s)

  -- what relaxation and divergence in place leave of lowered delays are the least ones of the definition
  lowered_least : (ys : List ℕ) → length ys ≡ size t → Lowered (map (edge_of i j) t.arcs) (size t) (start_delays t) ys
      → both_rounds (map (edge_of i j) t.arcs) (size t) ys ≡ least_delays t i j
  lowered_least ys all l =
      let es = map (edge_of i j) t.arcs in
      ap (rounds_of true es (size t)) (iterate_same (round_of false es) (round_in_place (graph t) missing (relax i j)) (λ x. relax-sweep t es i j x t.arcs) (size t) ys)
      ∙ iterate_same (round_of true es) (round_in_place (graph t) missing (diverge i j)) (λ x. diverge-sweep t es i j x t.arcs) (size t)
      (iterate (size t) (round_in_place (graph t) missing (relax i j)) ys)
      ∙ (in_place_least t ok i j) ys all (λ q lt. stands_held (l.stands q lt)) l.less

-- the least delays that the code finds are those of the definition, for the table and for its reversal
pub least_are : (m : Memory) (t : Automaton ℕ) → WellFormed t → Holds m t → (r : Bool) (i j : ℕ) → i < t.tapes → j < t.tapes
    → (zs : List ℕ) → Least r (edges r i j 0 m.arcs m.arc_bytes) m.states m.state_bytes zs → zs ≡ least_delays (directed r t) i j
least_are m t w h r i j a b zs l =
    let e = edges_are m t w h r i j a b in
    let n = states_count m t w h r in
    l.rounds
    ∙ (rw (e, n) (lowered_least (directed r t) (directed_formed r t (well_formed t w)) i j l.delays (l.all ∙ n) (rw (e, starts_are m t w h r, n) at l.lowered)))
