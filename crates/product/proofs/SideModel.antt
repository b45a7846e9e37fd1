-- What a side of a product means: the places of a table in memory, its arcs, and what each adds to a move.
use mathlib.Core.Path.{◌≡◌, refl, sym, ap, subst, ◌∙◌}
use mathlib.Core.Option.{Option, none, some, some-injective, none-ne-some}
use mathlib.Core.List.{List, ◌++◌}
use Prim.Native.Nat.{ℕ, zero, suc, ◌+◌, ◌*◌, ◌≤◌, ◌<◌}
use native.Mathlib.Omega.{arith}
use lib.ListN.{length, get_elem?, get_or}
use lib.Seq.{take_at}
use Rattle.automata.specs.Lists.{Each}
use Rattle.automata.specs.Records.{write_all}
use Rattle.automata.specs.OrderedSum.{ℕ_sum}
use Rattle.automata.specs.Automaton.{Automaton, State, Arc}
use Rattle.automata.specs.System.{system, initial_at, final_at}
use Rattle.automata.specs.Tapes.{empty_tuple}
use Rattle.automata.specs.Table as table
use Rattle.automata.specs.Table.{WellFormedState, WellFormedArc}
use Rattle.automata.specs.Memory.{Memory, Sound, table_of, zeros, label_record, arc_record}
use Rattle.automata.proofs.ListFacts.{place_bound, place_default}
use Rattle.automata.proofs.TestFacts.{eqb_false}
use Rattle.automata.proofs.FormatFacts.{length_many}
use Rattle.automata.proofs.MemoryFacts.{label_record_lawful}
use Rattle.automata.proofs.SoundFacts.{sound_well_formed, sound_holds}
use Rattle.automata.proofs.WellFormedFacts.{all-place}
use Rattle.automata.specs.Layout.{arc_size, state_size, label_size, labels_place}
use Rattle.table.specs.Region.{part}
use Rattle.table.specs.Arcs.{arc_weight, labels_start}
use Rattle.std.specs.Prelude.{Some, None}
use Rattle.table.specs.Records.{Weight}
use Rattle.table.specs.Records.{option_of, state_as, state_at, arc_as, arc_at, content_at}
use Rattle.table.proofs.RegionFacts.{part-part}
use Rattle.table.proofs.LoadedFacts.{zeros_label}
use Rattle.table.proofs.SoundFacts.{few_tapes, few_states, few_arcs, states_lent, arcs_lent, state_loaded, arc-bytes, arc_loaded}
use Rattle.product_search.specs.Vertices.{ended, place_number, PlaceBelow}
use Rattle.product_search.specs.Moves.{no_arc}
use Rattle.product_records.specs.Sums.{place_state, amount, side_sum, side_labels, PlaceFits, SideFits}

-- zeros are the records of empty labels
blank_labels : (t : ℕ) → zeros (t * label_size) ≡ write_all label_record.write (empty_tuple t)
blank_labels zero = refl
blank_labels (suc t) = zeros_label t ∙ ap (λ (z : List ℕ). zeros label_size ++ z) (blank_labels t)

-- a weight that is there as a number
amount_is : (w : Weight) (f : ℕ) → option_of w ≡ some f → amount w ≡ f
amount_is None f e = absurd (none-ne-some f e)
amount_is (Some n) f e = some-injective n f e

weight_is : (o : Option ℕ) (f : ℕ) → Each table.Weight o → o ≡ some f → f ≤ 999999999
weight_is none f h e = absurd (none-ne-some f e)
weight_is (some n) f h e = let k = some-injective n f e in omega (arith, h, k)

-- a side adds this weight and these labels to a move
pub record SideOf (m : Memory) (i place weight : ℕ) (labels : List (List ℕ)) : Type 0 where
  pub fits : SideFits m.state_bytes m.arc_bytes i place
  pub sum : side_sum m.state_bytes m.arc_bytes i place ≡ weight
  pub written : side_labels m.arc_bytes m.tapes i ≡ write_all label_record.write labels

module _ (m : Memory) (s : Sound m) where
  -- the table in memory
  abbrev A : Automaton ℕ
  A = table_of m

  -- ---- places

  -- a state's number is none of an ended path
  not_ended : (q : ℕ) → q < m.states → q ≡ ended → ⊥
  not_ended q l e = omega (arith, e, l, few_states m s)

  below : (q : ℕ) → q < length A.states → q < m.states
  below q h = subst (λ (n : ℕ). q < n) (sym (sound_holds m s).states) h

  -- the state at a place
  pub place_model : (x : Option ℕ) → PlaceBelow (length A.states) x
      → state_as (place_state m.state_bytes (place_number x)) ≡ record { initial = initial_at (system A) x; final = final_at ℕ_sum (system A) x }
  unfolding place_state
  place_model none h = refl
  place_model (some q) h =
      let l = below q h in
      rw (eqb_false q ended (not_ended q l), state_loaded m s q l)

  place_there : (x : Option ℕ) → PlaceBelow (length A.states) x → (place_number x ≡ ended → ⊥) → state_size * place_number x + state_size ≤ length m.state_bytes
  place_there none h e = absurd (e refl)
  place_there (some q) h e = omega (arith, below q h, states_lent m s)

  place_small : (x : Option ℕ) → PlaceBelow (length A.states) x → WellFormedState (record { initial = initial_at (system A) x; final = final_at ℕ_sum (system A) x })
  place_small none h = record { initial = tt; final = omega arith }
  place_small (some q) h =
      let l = below q h in
      let e = state_loaded m s q l in
      rw e (all-place WellFormedState A.states (sound_well_formed m s).states q (state_as (state_at (state_size * q) m.state_bytes)) e)

  -- its record is within the bytes
  pub place_fits : (x : Option ℕ) → PlaceBelow (length A.states) x → PlaceFits m.state_bytes (place_number x)
  place_fits x h = record { there = place_there x h; small = rw (place_model x h) (place_small x h) }

  -- the number of a place takes two bytes
  pub place-number : (x : Option ℕ) → PlaceBelow (length A.states) x → place_number x < 65536
  place-number none h = omega arith
  place-number (some q) h = omega (arith, below q h, few_states m s)

  -- ---- arcs

  module _ (i : ℕ) (a : Arc ℕ) (at : get_elem? A.arcs i ≡ some a) where
    there : i < m.arcs
    there = subst (λ (n : ℕ). i < n) (sym (sound_holds m s).arcs) (place_bound A.arcs i at)

    arc-number : i ≡ no_arc → ⊥
    arc-number e = omega (arith, e, there, few_arcs m s)

    formed : WellFormedArc A.tapes (length A.states) a
    formed = all-place (WellFormedArc A.tapes (length A.states)) A.arcs (sound_well_formed m s).arcs i a at

    weight_model : arc_weight m.arc_bytes i ≡ a.weight
    unfolding arc_at content_at
    weight_model =
        ap (λ (x : Arc ℕ). x.weight) (some-injective (arc_as m.tapes (arc_at (arc_size * i) m.arc_bytes)) a (sym (arc_loaded m s i there) ∙ at))

    labels_model : part (labels_start (arc_size * i)) (label_size * m.tapes) m.arc_bytes ≡ write_all label_record.write a.labels
    unfolding part
    labels_model =
        let x = write_all label_record.write a.labels in
        let t : labels_place + label_size * m.tapes ≤ arc_size = omega (arith, few_tapes m s) in
        let l : length x ≡ label_size * m.tapes = length_many label_record_lawful a.labels formed.labels ∙ (omega (arith, formed.width, (sound_holds m s).tapes)) in
        let d : get_or A.arcs i a ≡ a = place_default A.arcs i a at in
        sym (part-part labels_place (label_size * m.tapes) (arc_size * i) arc_size m.arc_bytes t)
        ∙ ap (part labels_place (label_size * m.tapes)) (arc-bytes m s i there a)
        ∙ ap (λ (b : Arc ℕ). part labels_place (label_size * m.tapes) ((arc_record m.tapes m.states).write b)) d
        ∙ take_at x _ (label_size * m.tapes) l

    -- the side follows the arc
    pub side_follows : (x : Option ℕ) → PlaceBelow (length A.states) x → SideOf m i (place_number x) a.weight a.labels
    unfolding side_sum side_labels
    side_follows x h =
        let e = eqb_false i no_arc arc-number in
        let sum : side_sum m.state_bytes m.arc_bytes i (place_number x) ≡ a.weight = rw e weight_model in
        record {
          fits = record {
            place_there = place_there x h;
            arc_there = λ _. omega (arith, there, arcs_lent m s);
            small = omega (arith, sum, formed.weight);
          };
          sum = sum;
          written = rw e labels_model;
        }

  -- its path ends, or has ended
  pub side_stays : (x : Option ℕ) (f : ℕ) → PlaceBelow (length A.states) x → final_at ℕ_sum (system A) x ≡ some f → SideOf m no_arc (place_number x) f (empty_tuple A.tapes)
  unfolding side_sum side_labels
  side_stays x f h e =
      let k : final_at ℕ_sum (system A) x ≡ option_of (place_state m.state_bytes (place_number x)).last = sym (ap (λ (q : State ℕ). q.final) (place_model x h)) in
      let sum : amount (place_state m.state_bytes (place_number x)).last ≡ f = amount_is (place_state m.state_bytes (place_number x)).last f (sym k ∙ e) in
      let nine : label_size * m.tapes ≡ A.tapes * label_size = omega (arith, (sound_holds m s).tapes) in
      let small : Each table.Weight (final_at ℕ_sum (system A) x) = (place_small x h).final in
      record {
        fits = record {
          place_there = place_there x h;
          arc_there = λ d. absurd (d refl);
          small = omega (arith, sum, weight_is (final_at ℕ_sum (system A) x) f small e);
        };
        sum = sum;
        written = ap zeros nine ∙ blank_labels A.tapes;
      }
