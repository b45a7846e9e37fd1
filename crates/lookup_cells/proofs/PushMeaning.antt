-- Relaxation by the arc records whose labels end at a combination of positions is relaxation by the arcs of the table.
use mathlib.Core.Path.{◌≡◌, refl, sym, ap, ap₂, subst, ◌∙◌}
use mathlib.Core.Option.{Option, none, some, some-injective}
use mathlib.Core.List.{List, ◌∷◌, map}
use Prim.Native.Nat.{ℕ, zero, suc, ◌+◌, ◌-◌, ◌*◌, ◌≤◌, ◌<◌}
use native.Mathlib.Nat.{add_assoc, zero-add}
use native.Mathlib.Omega.{arith}
use lib.ListN.{length, get_or, take, get_elem?}
use Rattle.automata.specs.Lists.{All}
use Rattle.automata.specs.Automaton.{Automaton, Arc, size, graph, Tuple}
use Rattle.automata.specs.Graph.{Within}
use Rattle.automata.specs.Lookup.{left_quotients}
use Rattle.automata.specs.Calls.Work.{combinations}
use Rattle.automata.specs.Memory.{Sound, table_of}
use Rattle.automata.proofs.SoundFacts.{sound_well_formed, sound_holds}
use Rattle.automata.proofs.WellFormedFacts.{well_formed, weights_bounded}
use Rattle.automata.proofs.ListFacts.{place_bound}
use Rattle.automata.specs.Cells.{Positions, drop_all, place, cell}
use Rattle.automata.proofs.Cells.{moved}
use Rattle.automata.specs.Layout.{arc_size, label_size}
use Rattle.table.specs.Answers.{lent}
use Rattle.table.specs.Records.{label_as, label_at, labels_at, content_at, arc_at, arc_as, Padded}
use Rattle.table.specs.declared.answer.Counts.{Counts}
use Rattle.table.proofs.SoundFacts.{few_tapes, few_states, few_arcs, arcs_lent, arc_loaded, arc_canonical, arc_source, arc_target}
use Rattle.table.specs.declared.record.Label.{Label}
use Rattle.lookup_moves.specs.declared.spot.Spot.{Spot}
use Rattle.lookup_moves.specs.Moves.{Laid, Labelled, Spotted}
use Rattle.lookup_moves.specs.Distances.{cells_of, lowered}
use Rattle.table.specs.Arcs.{source_of, target_of, arc_weight, labels_start}
use Rattle.lookup_cells.specs.Pushes.{back_by, cell_at, cell_back, passed, pushed, Pushed, start, more, Still, Passable, Ready, Settles}
use Rattle.lookup_cells.proofs.DistanceFacts.{val, Distances}
use Rattle.lookup_cells.proofs.MoveMeaning.{shift, place-moved, labelled, Before, moves_sound, moves_complete}
use Rattle.lookup_cells.proofs.PushFacts.{pushed_length}
use Rattle.lookup_cells.proofs.RelaxFacts.{arc_keeps, combination_done}

-- ---- the records of arcs

take_labels : (n k at : ℕ) (xs : List ℕ) → n ≤ k → take n (labels_at k at xs) ≡ labels_at n at xs
unfolding labels_at
take_labels zero k at xs h = refl
take_labels (suc n) zero at xs h = absurd (omega arith)
take_labels (suc n) (suc k) at xs h = ap (λ (ls : List Label). label_at at xs ∷ ls) (take_labels n k (at + label_size) xs (omega arith))

labels_short : (n at : ℕ) (xs : List ℕ) → All Padded (labels_at n at xs) → (i : ℕ) → i < n → get_or xs (at + label_size * i) 0 ≤ 8
unfolding labels_at label_at
labels_short zero at xs h i lt = absurd (omega arith)
labels_short (suc n) at xs h zero lt = let z : at ≡ at + label_size * 0 = omega arith in subst (λ (k : ℕ). get_or xs k 0 ≤ 8) z h.0.short
labels_short (suc n) at xs h (suc i) lt =
    let z : at + label_size + label_size * i ≡ at + label_size * suc i = omega arith in subst (λ (k : ℕ). get_or xs k 0 ≤ 8) z (labels_short n (at + label_size) xs h.1 i (omega arith))

-- the combination of positions ps in the strings t
pub record AtSpot (text : List ℕ) (t : Tuple) (s : Spot) (ps : List ℕ) : Type 0 where
  pub positions : Positions ps t
  pub number_is : s.number ≡ place ps t
  pub all_is : s.all ≡ combinations t
  pub spotted : Spotted text s 0 ps t
  pub laid : Laid (length t) (length text) s

module _ (c : Counts) (states arcs text : List ℕ) (sound : Sound (lent c states arcs)) (t : Tuple) (tapes-are : length t ≡ c.tapes)
    (s : Spot) (ps : List ℕ) (spot : AtSpot text t s ps) where
  -- the table
  abbrev table : Automaton ℕ
  table = table_of (lent c states arcs)

  table-within : Within (graph table) (size table)
  table-within = (well_formed table (sound_well_formed (lent c states arcs) sound)).within

  module _ (e : ℕ) (lt : e < c.arcs) where
    -- the arc
    abbrev arc : Arc ℕ
    arc = arc_as c.tapes (arc_at (arc_size * e) arcs)

    arc_at_lem : get_elem? table.arcs e ≡ some arc
    arc_at_lem = arc_loaded (lent c states arcs) sound e lt

    arc_labelled : Labelled arcs (labels_start (arc_size * e))
    unfolding arc_at content_at
    arc_labelled = record {
      lent = omega (arith, arcs_lent (lent c states arcs) sound);
      short = labels_short 8 (labels_start (arc_size * e)) arcs
          (subst (λ (k : ℕ). All Padded (labels_at 8 k arcs)) (add_assoc (arc_size * e) 4 4) (arc_canonical (lent c states arcs) sound e lt).padded);
    }

    pub arc_labels : labelled c.tapes (labels_start (arc_size * e)) arcs ≡ arc.labels
    unfolding arc_at content_at
    arc_labels =
        ap (map label_as) (sym (take_labels c.tapes 8 (labels_start (arc_size * e)) arcs (few_tapes (lent c states arcs) sound))
        ∙ ap (λ (k : ℕ). take c.tapes (labels_at 8 k arcs)) (sym (add_assoc (arc_size * e) 4 4)))

    arc_spotted : Positions ps t × Spotted text s 0 ps t × (labels_start (arc_size * e) + label_size * c.tapes ≤ length arcs) × ((i : ℕ) → i < c.tapes → get_or arcs (labels_start (arc_size * e) + label_size * i) 0 ≤ 8)
    arc_spotted =
        let f = few_tapes (lent c states arcs) sound in
        (spot.positions, spot.spotted, omega (arith, arc_labelled.lent, f), λ i h. arc_labelled.short i (omega (arith, f)))

    -- where its labels end at the combination, they lead there from an earlier one
    pub arc_before : (k : ℕ) → back_by c.tapes e arcs text s ≡ some k → Before arc.labels t ps k
    arc_before k f =
        let (pos, sp, room, short) = arc_spotted in
        let (i, j, b) = moves_sound c.tapes 0 (labels_start (arc_size * e)) 0 arcs text s ps t tapes-are pos sp room short k f in
        let z : i ≡ k = omega (arith, j) in
        subst (λ (n : ℕ). Before arc.labels t ps n) z (subst (λ (ls : List (List ℕ)). Before ls t ps i) arc_labels b)

    -- and the other way round
    pub arc_back : (ps' : List ℕ) (rest : Tuple) → Positions ps' t → moved ps' arc.labels ≡ ps → left_quotients arc.labels (drop_all ps' t) ≡ some rest
        → back_by c.tapes e arcs text s ≡ some (shift arc.labels t)
    arc_back ps' rest pos' m q =
        let (pos, sp, room, short) = arc_spotted in
        let z : 0 + shift (labelled c.tapes (labels_start (arc_size * e)) arcs) t ≡ shift arc.labels t
        = zero-add (shift (labelled c.tapes (labels_start (arc_size * e)) arcs) t) ∙ ap (λ (ls : List (List ℕ)). shift ls t) arc_labels in
        moves_complete c.tapes 0 (labels_start (arc_size * e)) 0 arcs text s ps t tapes-are pos sp room short ps' rest pos'
        (ap (moved ps') arc_labels ∙ m) (ap (λ (ls : List (List ℕ)). left_quotients ls (drop_all ps' t)) arc_labels ∙ q) ∙ ap some z

    module _ (k : ℕ) (b : Before arc.labels t ps k) where
      -- so far back is the earlier one
      number_back : s.number ≡ place b.earlier t + k
      number_back =
          let m : place (moved b.earlier arc.labels) t ≡ place ps t = ap (λ (z : List ℕ). place z t) b.leads in
          omega (arith, m, place-moved b.earlier arc.labels t b.positions, b.by_is, spot.number_is)

      cell_back_lem : cell_back s (source_of arcs e) k ≡ cell (source_of arcs e) b.earlier t
      cell_back_lem =
          let z : s.number - k ≡ place b.earlier t = omega (arith, number_back) in
          ap₂ (λ (x y : ℕ). source_of arcs e * x + y) spot.all_is z

    cell_here : (q : ℕ) → cell_at s q ≡ cell q ps t
    cell_here q = ap₂ (λ (x y : ℕ). q * x + y) spot.all_is spot.number_is

    arc_passable : Passable c.tapes c.states e arcs text s
    unfolding arc_at content_at
    arc_passable = record {
      labelled = arc_labelled;
      source = arc_source (lent c states arcs) sound e lt;
      target = arc_target (lent c states arcs) sound e lt;
      light = (weights_bounded table (sound_well_formed (lent c states arcs) sound)).weights e arc arc_at_lem;
      leads = λ k f. omega (arith, number_back k (arc_before k f));
    }

    -- the numbers after it
    pushed-through : (xs : List ℕ) (k : ℕ) → back_by c.tapes e arcs text s ≡ some k → (b : Before arc.labels t ps k)
        → pushed c.tapes e arcs text s xs
        ≡ lowered (cell arc.source b.earlier t) (arc.weight + val table t xs arc.target (moved b.earlier arc.labels)) xs
    unfolding pushed arc_at content_at
    pushed-through xs k f b =
        ap (λ (o : Option ℕ). passed o (source_of arcs e) (target_of arcs e) (arc_weight arcs e) s xs) f
        ∙ ap₂ (λ (i j : ℕ). lowered i (arc_weight arcs e + get_or xs j 0) xs) (cell_back_lem k b)
        (cell_here (target_of arcs e) ∙ ap (λ (z : List ℕ). cell (target_of arcs e) z t) (sym b.leads))

    pushed_not : (xs : List ℕ) → back_by c.tapes e arcs text s ≡ none → pushed c.tapes e arcs text s xs ≡ xs
    unfolding pushed
    pushed_not xs f = ap (λ (o : Option ℕ). passed o (source_of arcs e) (target_of arcs e) (arc_weight arcs e) s xs) f

    -- it can lower nothing
    still_means : (xs : List ℕ) → Still c.tapes e arcs text s xs → (ps' : List ℕ) (rest : Tuple) → Positions ps' t → moved ps' arc.labels ≡ ps
        → left_quotients arc.labels (drop_all ps' t) ≡ some rest → val table t xs arc.source ps' ≤ arc.weight + val table t xs arc.target ps
    unfolding arc_at content_at
    still_means xs h ps' rest pos' m q =
        let k : ℕ = shift arc.labels t in
        let f : place (moved ps' arc.labels) t ≡ place ps t = ap (λ (z : List ℕ). place z t) m in
        let z : s.number - k ≡ place ps' t = omega (arith, f, place-moved ps' arc.labels t pos', spot.number_is) in
        let i : cell_back s (source_of arcs e) k ≡ cell (source_of arcs e) ps' t = ap₂ (λ (x y : ℕ). source_of arcs e * x + y) spot.all_is z in
        omega (arith, h k (arc_back ps' rest pos' m q), ap (λ (j : ℕ). get_or xs j 0) i, ap (λ (j : ℕ). get_or xs j 0) (cell_here (target_of arcs e)))

  pub ready : Ready c arcs text s
  ready = record {
    laid = subst (λ (n : ℕ). Laid n (length text) s) tapes-are spot.laid;
    lent = arcs_lent (lent c states arcs) sound;
    few_arcs = few_arcs (lent c states arcs) sound;
    few_states = few_states (lent c states arcs) sound;
    each = arc_passable;
  }

  -- ---- arcs, one after the other

  -- what is known of the numbers while a combination is worked off
  Kept : List ℕ → Type 0
  Kept xs = (size table * combinations t ≤ length xs) × Distances table t xs (suc (place ps t))

  pushed_keeps : (e : ℕ) → e < c.arcs → (xs : List ℕ) → Kept xs → Kept (pushed c.tapes e arcs text s xs)
  unfolding Kept
  pushed_keeps e lt xs (room, d) = (omega (arith, room, pushed_length c.tapes e arcs text s xs), go (back_by c.tapes e arcs text s) refl)
    where
      go : (o : Option ℕ) → back_by c.tapes e arcs text s ≡ o → Distances table t (pushed c.tapes e arcs text s xs) (suc (place ps t))
      go none f = subst (λ (ys : List ℕ). Distances table t ys (suc (place ps t))) (sym (pushed_not e lt xs f)) d
      go (some k) f =
          let b = arc_before e lt k f in
          let m : place (moved b.earlier (arc e lt).labels) t ≡ place ps t = ap (λ (z : List ℕ). place z t) b.leads in
          subst (λ (ys : List ℕ). Distances table t ys (suc (place ps t))) (sym (pushed-through e lt xs k f b))
          (arc_keeps table table-within t b.earlier b.positions xs room (suc (place ps t)) d e (arc e lt) (arc_at_lem e lt) (drop_all ps t) b.quotient (omega (arith, m)))

  reach_keeps : (xs ys : List ℕ) → Pushed c arcs text s xs ys → Kept xs → Kept ys
  reach_keeps xs ys start k = k
  reach_keeps xs ys (more {ys = zs} e lt r) k = pushed_keeps e lt zs (reach_keeps xs zs r k)

  -- Once no arc that leads there can lower a number, the combination is done.
  pub settled_done : (u w : List ℕ) → Settles c arcs text s u w → size table * combinations t ≤ length (cells_of w)
      → Distances table t (cells_of w) (suc (place ps t)) → Distances table t (cells_of u) (place ps t)
  unfolding Kept
  settled_done u w st room d =
      combination_done table t ps spot.positions (cells_of u) (reach_keeps (cells_of w) (cells_of u) st.reach (room, d)).1 each
    where
      each : (e : ℕ) (a : Arc ℕ) → get_elem? table.arcs e ≡ some a → (ps₂ : List ℕ) → Positions ps₂ t → moved ps₂ a.labels ≡ ps
          → (rest : Tuple) → left_quotients a.labels (drop_all ps₂ t) ≡ some rest
          → val table t (cells_of u) a.source ps₂ ≤ a.weight + val table t (cells_of u) a.target ps
      each e a at ps₂ pos₂ m rest g =
          let lt : e < c.arcs = omega (arith, place_bound table.arcs e at, (sound_holds (lent c states arcs) sound).arcs) in
          let same : arc e lt ≡ a = some-injective (arc e lt) a (sym (arc_at_lem e lt) ∙ at) in
          subst (λ (z : Arc ℕ). val table t (cells_of u) z.source ps₂ ≤ z.weight + val table t (cells_of u) z.target ps) same
          (still_means e lt (cells_of u) (st.still e lt) ps₂ rest pos₂
          (subst (λ (z : Arc ℕ). moved ps₂ z.labels ≡ ps) (sym same) m)
          (subst (λ (z : Arc ℕ). left_quotients z.labels (drop_all ps₂ t) ≡ some rest) (sym same) g))
