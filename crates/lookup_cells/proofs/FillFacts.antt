-- Combinations of positions worked off from the last to the first, from what each call gave.
use mathlib.Core.Path.{◌≡◌, sym, ap, subst, ◌∙◌}
use mathlib.Core.Logic.{◌⊎◌, inl, inr}
use mathlib.Core.Option.{Option}
use mathlib.Core.List.{List}
use Prim.Native.Nat.{ℕ, suc, ◌+◌, ◌*◌, ◌≤◌, ◌<◌}
use native.Mathlib.Nat.{zero-add}
use native.Mathlib.Decide.{dec_le}
use native.Mathlib.Omega.{arith}
use lib.ListN.{length, get_or, length-replicate}
use Rattle.automata.specs.OrderedSum.{ℕ_sum}
use Rattle.automata.specs.Automaton.{size, Tuple}
use Rattle.automata.specs.Lookup.{lookup}
use Rattle.automata.specs.Calls.Work.{combinations, lookup_work}
use Rattle.automata.specs.Memory.{Memory, table_of}
use Rattle.automata.proofs.SoundFacts.{sound_well_formed, sound_holds}
use Rattle.automata.proofs.WellFormedFacts.{well_formed, weights_bounded}
use Rattle.table.specs.Answers.{lent}
use Rattle.table.specs.Records.{arc_at, content_at}
use Rattle.table.specs.declared.answer.Counts.{Counts}
use Rattle.table.proofs.SoundFacts.{states_lent, arcs_lent, few_states, few_arcs, arc_target}
use Rattle.automata.specs.Cells.{place}
use Rattle.automata.specs.Layout.{arc_size}
use Rattle.lookup_tuple.specs.declared.Strings.{Strings}
use Rattle.lookup_tuple.specs.Strings.{Stands}
use Rattle.lookup_moves.specs.declared.spot.Spot.{Spot}
use Rattle.lookup_moves.specs.declared.spot.Spans.{Spans}
use Rattle.lookup_moves.specs.Distances.{far, weight_of, cells_of, far_byte}
use Rattle.lookup_cells.specs.Ends.{started_from, StartsAll, Stated, least_up_to}
use Rattle.lookup_cells.specs.Fillable.{Fillable, CellsFilled}
use Rattle.lookup_moves.specs.Spots.{Spanned, spot_of, Placed, Positive}
use Rattle.table.specs.Arcs.{target_of}
use Rattle.lookup_cells.specs.Pushes.{Ready, Spaced, Settles}
use Rattle.lookup_moves.proofs.CellFacts.{length_cells}
use Rattle.lookup_cells.proofs.DistanceFacts.{Distances, distances_filled}
use Rattle.lookup_cells.proofs.PushFacts.{reach_rest}
use Rattle.lookup_cells.proofs.PushMeaning.{AtSpot, ready, settled_done}
use Rattle.lookup_cells.proofs.SpotMeaning.{digits, place_digits, all_at, spans_positive, at_spot}
use Rattle.lookup_cells.proofs.MoveMeaning.{combinations_positive}
use Rattle.lookup_cells.proofs.StartMeaning.{sixteens, cleared-cell, begun_distances, started_rest}
use Rattle.lookup_cells.proofs.LeastMeaning.{stands_short, lookup_means}

-- the combinations from a number on are done
pub record Filling (c : Counts) (states arcs text : List ℕ) (s : Strings) (spans : Spans) (room left : ℕ) (w : List ℕ) : Type 0 where
  pub spanned : Spanned s.lengths spans
  pub left_is : left ≤ spans.all
  pub same_length : length w ≡ room
  pub rest : (k : ℕ) → c.states * spans.all ≤ k → 8 * k + 8 ≤ room → get_or (cells_of w) k 0 ≡ far
  pub distances : (t : Tuple) → Stands text t s → length t ≡ c.tapes → Distances (table_of (lent c states arcs)) t (cells_of w) left

-- the number of a combination
pub spot_number : (s : Strings) (spans : Spans) (n : ℕ) (spot : Spot) → spot ≡ spot_of s spans n → spot.number ≡ n
unfolding spot_of
spot_number s spans n spot e = ap (λ (z : Spot). z.number) e

-- the work space is as long as before
pub fillable_kept : (m : Memory) (text : List ℕ) (s : Strings) (n k : ℕ) → k ≡ n → Fillable m text s n → Fillable m text s k
fillable_kept m text s n k e f = subst (λ (z : ℕ). Fillable m text s z) (sym e) f

module _ (c : Counts) (states arcs text : List ℕ) (s : Strings) (room : ℕ) (f : Fillable (lent c states arcs) text s room) where
  abbrev st : Stands text f.tuple s
  st = f.stands

  -- what the chains of the arcs ask
  pub chains_ask : (arc_size * c.arcs ≤ length arcs) × (c.arcs ≤ 8192) × ((e : ℕ) → e < c.arcs → target_of arcs e < 1024)
  unfolding arc_at content_at
  chains_ask = (
    arcs_lent (lent c states arcs) f.sound,
    few_arcs (lent c states arcs) f.sound,
    λ e lt. omega (arith, arc_target (lent c states arcs) f.sound e lt, few_states (lent c states arcs) f.sound),
  )

  -- the strings lie in the text
  pub placed : length text < 18446744073709551616 → Placed s
  placed small = record { short = st.short; fits = λ h lt. go h (dec_le (length f.tuple) h) }
    where
      go : (h : ℕ) → Dec (length f.tuple ≤ h) → (get_or s.lengths h 0 ≡ 0) ⊎ (get_or s.starts h 0 + get_or s.lengths h 0 < 18446744073709551616)
      go h (yes l) = inl (st.none_past h l)
      go h (no l) = inr (omega (arith, st.within h (omega arith), small))

  -- a cell for each state and combination of a tuple that stands there
  fits_all : (t : Tuple) (spans : Spans) → Stands text t s → Spanned s.lengths spans → combinations t ≡ combinations f.tuple
  fits_all t spans h sp = sym (all_at text t s h spans sp) ∙ all_at text f.tuple s st spans sp

  table-room : 8 * (c.states * combinations f.tuple) ≤ room
  unfolding lookup_work
  table-room = f.fits

  module _ (spans : Spans) (sp : Spanned s.lengths spans) where
    all_room : 8 * (c.states * spans.all) ≤ room
    all_room = subst (λ (n : ℕ). 8 * (c.states * n) ≤ room) (sym (all_at text f.tuple s st spans sp)) table-room

    all_positive : 0 < spans.all
    all_positive = omega (arith, all_at text f.tuple s st spans sp, combinations_positive f.tuple)

    pub stated : (w : List ℕ) → length w ≡ room → Stated states c.states spans.all w
    stated w l = record { lent = states_lent (lent c states arcs) f.sound; some_combination = all_positive; fits = omega (arith, l, all_room) }

    pub positive : Positive spans
    positive = spans_positive text f.tuple s st spans sp

    size_is : c.states ≡ size (table_of (lent c states arcs))
    size_is = (sound_holds (lent c states arcs) f.sound).states

    -- the cells of a tuple that stands there
    tuple-room : (t : Tuple) → Stands text t s → 8 * (size (table_of (lent c states arcs)) * combinations t) ≤ room
    tuple-room t h = subst (λ (n : ℕ). 8 * (n * combinations t) ≤ room) size_is
        (subst (λ (n : ℕ). 8 * (c.states * n) ≤ room) (sym (fits_all t spans h sp)) table-room)

    rest_of : (k : ℕ) → c.states * spans.all ≤ k → (0 + c.states) * spans.all ≤ k
    rest_of k = subst (λ (n : ℕ). n * spans.all ≤ k) (sym (zero-add c.states))

    pub fill_start : (v w : List ℕ) → v ≡ sixteens room → StartsAll states spans.all c.states w v → Filling c states arcs text s spans room spans.all w
    fill_start v w e a = record {
      spanned = sp;
      left_is = omega arith;
      same_length = a.same_length ∙ ap length e ∙ length-replicate room far_byte;
      rest = λ k out lt.
          ap (λ (xs : List ℕ). get_or xs k 0) a.cells_are ∙ started_rest c.states 0 states spans.all all_positive (cells_of v) k (rest_of k out)
          ∙ ap (λ (x : List ℕ). get_or (cells_of x) k 0) e ∙ cleared-cell room k lt;
      distances = λ t h tapes.
          subst (λ (xs : List ℕ). Distances (table_of (lent c states arcs)) t xs spans.all)
          (sym (a.cells_are ∙ ap (λ (x : List ℕ). started_from c.states 0 states spans.all (cells_of x)) e))
          (begun_distances c states arcs f.sound t room spans.all (all_at text t s h spans sp) (tuple-room t h));
    }

  module _ (spans : Spans) (left rest : ℕ) (w : List ℕ) (g : Filling c states arcs text s spans room left w) where
    -- what is known of the cells
    fill_below : (k : ℕ) → get_or (cells_of w) k 0 ≤ far
    fill_below = (g.distances f.tuple st f.tapes_are).below

    module _ (d : left ≡ suc rest) (spot : Spot) (e : spot ≡ spot_of s spans rest) where
      small : (t : Tuple) → Stands text t s → rest < combinations t
      small t h = omega (arith, all_at text t s h spans g.spanned, g.left_is, d)

      spot_at : (t : Tuple) → Stands text t s → AtSpot text t spot (digits rest t)
      spot_at t h = subst (λ (z : Spot). AtSpot text t z (digits rest t)) (sym e) (at_spot text t s h spans g.spanned rest (small t h))

      all_is : spot.all ≡ spans.all
      all_is = (spot_at f.tuple st).all_is ∙ sym (all_at text f.tuple s st spans g.spanned)

      pub fill_requires : Ready c arcs text spot × Spaced c.states spot w
      fill_requires =
          let a = spot_at f.tuple st in
          let n : spot.number ≡ rest = a.number_is ∙ place_digits rest f.tuple (small f.tuple st) in
          let r : 8 * (c.states * spot.all) ≤ room = subst (λ (n : ℕ). 8 * (c.states * n) ≤ room) (sym a.all_is) table-room in (
            ready c states arcs text f.sound f.tuple f.tapes_are spot (digits rest f.tuple) a,
            record { number_is = omega (arith, n, a.all_is, small f.tuple st); fits = omega (arith, r, g.same_length); below = fill_below },
          )

      pub fill_turn : (u : List ℕ) → Settles c arcs text spot u w → Filling c states arcs text s spans room rest u
      fill_turn u z = record {
        spanned = g.spanned;
        left_is = omega (arith, g.left_is, d);
        same_length = z.same_length ∙ g.same_length;
        rest = λ k out lt. reach_rest c arcs text spot fill_requires.0 fill_requires.1.number_is (cells_of w) (cells_of u) z.reach k
            (subst (λ (n : ℕ). c.states * n ≤ k) (sym all_is) out) ∙ g.rest k out lt;
        distances = λ t h tapes.
            let p = place_digits rest t (small t h) in
            let b : suc (place (digits rest t) t) ≡ left = omega (arith, p, d) in
            subst (λ (n : ℕ). Distances (table_of (lent c states arcs)) t (cells_of u) n) p
            (settled_done c states arcs text f.sound t tapes spot (digits rest t) (spot_at t h) u w z
            (omega (arith, length_cells w, g.same_length, tuple-room spans g.spanned t h))
            (subst (λ (n : ℕ). Distances (table_of (lent c states arcs)) t (cells_of w) n) (sym b) (g.distances t h tapes)));
      }

    -- all combinations are done
    pub fill_end : left ≡ 0 → CellsFilled (lent c states arcs) text s w
    fill_end d = record {
      filled = λ t h tapes.
          let wf = sound_well_formed (lent c states arcs) f.sound in
          distances_filled (table_of (lent c states arcs)) t (cells_of w) (well_formed (table_of (lent c states arcs)) wf).within
          (subst (λ (n : ℕ). Distances (table_of (lent c states arcs)) t (cells_of w) n) d (g.distances t h tapes))
          (weights_bounded (table_of (lent c states arcs)) wf)
          (omega (arith, few_states (lent c states arcs) f.sound, size_is spans g.spanned)) (stands_short text t s h);
      rest = λ t h k out lt. g.rest k (subst (λ (n : ℕ). c.states * n ≤ k) (sym (all_at text t s h spans g.spanned)) out) (omega (arith, lt, g.same_length));
    }

  -- the least over the initial states where the cells are filled
  module _ (spans : Spans) (sp : Spanned s.lengths spans) (w : List ℕ) (l : length w ≡ room) (g : CellsFilled (lent c states arcs) text s w) where
    pub weight_requires : Stated states c.states spans.all w × ((k : ℕ) → get_or (cells_of w) k 0 ≤ far)
    weight_requires = (stated spans sp w l, (g.filled f.tuple st f.tapes_are).below)

    pub weight_is : (o : Option ℕ) → o ≡ weight_of (least_up_to c.states states spans.all (cells_of w))
        → (t : Tuple) → Stands text t s → length t ≡ c.tapes → o ≡ lookup ℕ_sum (table_of (lent c states arcs)) t
    weight_is o e t h tapes =
        e ∙ lookup_means c states arcs f.sound t (stands_short text t s h) (cells_of w) (g.filled t h tapes) spans.all (all_at text t s h spans sp)
