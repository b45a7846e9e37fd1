-- The arcs of a table in memory stand in its bytes as following an arc asks.
use Prim.Native.Nat.{ℕ, ◌+◌, ◌-◌, ◌*◌, ◌/◌, ◌%◌, ◌≤◌, ◌<◌}
use mathlib.Core.Path.{◌≡◌, refl, sym, ap, ap₂, ◌∙◌}
use mathlib.Core.List.{List, [], ◌∷◌, ◌++◌}
use native.Mathlib.Omega.{arith}
use lib.ListN.{length, get_or, take, drop, length-take}
use native.Mathlib.Nat.{add-zero}
use lib.Seq.{take_at, take-take}
use Rattle.table.proofs.RegionFacts.{get_d_part, part-part}
use Rattle.automata.specs.Automaton.{Arc, label_on}
use Rattle.automata.specs.Format.{place}
use Rattle.automata.specs.Records.{write_all}
use Rattle.automata.specs.Table.{Label, WellFormedArc}
use Rattle.automata.specs.Memory.{Memory, Sound, table_of, zeros, label_record}
use Rattle.automata.proofs.SoundFacts.{sound_well_formed, sound_holds}
use Rattle.automata.proofs.RecordFacts.{All_at}
use Rattle.automata.proofs.MemoryFacts.{arc_field, label_field, length_encode_arcs}
use Rattle.automata.specs.Layout.{arc_size, target_place, label_size, labels_place}
use Rattle.automata.specs.Limits.{max_delay}
use Rattle.table.specs.Region.{part}
use Rattle.table.specs.Endian.{le}
use Rattle.table.specs.Arcs.{target_of, label_place}
use Rattle.table.specs.Pairs.{Named}
use Rattle.table.specs.declared.pair.PairList.{PairList}
use Rattle.intersect_config.specs.Leftovers.{outside}
use Rattle.intersect_config.specs.Configs.{Config, GoodConfig}
use Rattle.intersect_config.specs.Steps.{Reads, Followable}

-- single places one after the other
places_are : (xs : List ℕ) → write_all place.write xs ≡ xs
places_are [] = refl
places_are (x ∷ xs) = ap (λ (y : List ℕ). x ∷ y) (places_are xs)

-- a label from the bytes of its record
module _ (l : List ℕ) (p : ℕ) (xs : List ℕ) (h : length l ≤ 8) (e : part p label_size xs ≡ label_record.write l) where
  nine : part p label_size xs ≡ length l ∷ (l ++ zeros (8 - length l))
  nine = e ∙ ap (λ (y : List ℕ). length l ∷ y) (places_are (l ++ zeros (8 - length l)))

  label_len : get_or xs p 0 ≡ length l
  label_len = ap (λ (n : ℕ). get_or xs n 0) (sym (add-zero p)) ∙ sym (get_d_part p label_size xs 0 0 (omega arith)) ∙ ap (λ (y : List ℕ). get_or y 0 0) nine

  label_symbols : l ≡ take (get_or xs p 0) (part (p + 1) 8 xs)
  unfolding part
  label_symbols =
      let q : part (p + 1) 8 xs ≡ take 8 (l ++ zeros (8 - length l)) = sym (part-part 1 8 p label_size xs (omega arith)) ∙ ap (part 1 8) nine in
      sym (ap₂ take label_len q ∙ take-take (length l) 8 (l ++ zeros (8 - length l)) h ∙ take_at l (zeros (8 - length l)) (length l) refl)

-- a number of two bytes
two_bytes_lem : (n : ℕ) → n < 65536 → n ≡ le (n % 256 ∷ n / 256 % 256 ∷ [])
two_bytes_lem n h = omega arith

module _ (m : Memory) (s : Sound m) (k : ℕ) (h : k < m.arcs) (d : Arc ℕ) where
  -- the k-th arc
  arc_formed : WellFormedArc (table_of m).tapes (length (table_of m).states) (get_or (table_of m).arcs k d)
  arc_formed = All_at (WellFormedArc (table_of m).tapes (length (table_of m).states)) (table_of m).arcs d k (sound_well_formed m s).arcs (omega (arith, (sound_holds m s).arcs))

  -- its record is whole
  arc_whole : arc_size * k + arc_size ≤ length m.arc_bytes
  arc_whole =
      let t = sound_holds m s in
      let e : length (take (m.arcs * arc_size) m.arc_bytes) ≡ length (table_of m).arcs * arc_size = ap length t.arc_bytes ∙ length_encode_arcs (table_of m) (sound_well_formed m s) in
      omega (arith, t.arcs, simp length-take at e)

  arc_target : (get_or (table_of m).arcs k d).target ≡ target_of m.arc_bytes k
  unfolding part
  arc_target =
      let a = get_or (table_of m).arcs k d in
      let n : a.target < 65536 = omega (arith, arc_formed.target, (sound_well_formed m s).counts.states_fit) in
      let p : arc_size * k + target_place ≡ k * arc_size + target_place = omega arith in
      let f : take 2 (drop (k * arc_size + target_place) m.arc_bytes) ≡ a.target % 256 ∷ a.target / 256 % 256 ∷ [] = arc_field m (table_of m) (sound_well_formed m s) (sound_holds m s) k d h target_place 2 (omega arith) in
      two_bytes_lem a.target n ∙ ap le (sym f) ∙ ap (λ (j : ℕ). le (take 2 (drop j m.arc_bytes))) (sym p)

  module _ (i : ℕ) (l : i < m.tapes) where
    label_short : length (label_on i (get_or (table_of m).arcs k d)) ≤ 8
    label_short = (All_at Label (get_or (table_of m).arcs k d).labels [] i arc_formed.labels (omega (arith, arc_formed.width, (sound_holds m s).tapes))).0

    label_nine : part (label_place (arc_size * k) i) label_size m.arc_bytes ≡ label_record.write (label_on i (get_or (table_of m).arcs k d))
    unfolding part
    label_nine =
        let p : label_place (arc_size * k) i ≡ k * arc_size + (labels_place + i * label_size) = omega arith in
        ap (λ (j : ℕ). take label_size (drop j m.arc_bytes)) p ∙ label_field m (table_of m) (sound_well_formed m s) (sound_holds m s) k d h i (omega (arith, (sound_holds m s).tapes))

  -- the bytes of a judged table read as its k-th arc, one record behind the other
  pub reads_arc : Reads m.arc_bytes (arc_size * k) m.tapes (get_or (table_of m).arcs k d)
  reads_arc = record {
    whole = arc_whole;
    tapes_fit = omega (arith, (sound_holds m s).tapes, (sound_well_formed m s).counts.tapes_fit);
    target = arc_target;
    label = λ i l. label_symbols (label_on i (get_or (table_of m).arcs k d)) (label_place (arc_size * k) i) m.arc_bytes (label_short i l) (label_nine i l);
    label_fits = λ i l. omega (arith, label_len (label_on i (get_or (table_of m).arcs k d)) (label_place (arc_size * k) i) m.arc_bytes (label_short i l) (label_nine i l), label_short i l);
  }

-- what following an arc asks, from what its record reads as
pub followable : (c : Config) (arcs : List ℕ) (at tapes : ℕ) (ps : PairList) (a : Arc ℕ) → Reads arcs at tapes a → Named tapes ps → GoodConfig ps.used c
    → ((h : ℕ) → h < ps.used → (get_or c.leftovers h outside).len ≤ max_delay) → Followable c arcs at ps
followable c arcs at tapes ps a r n g short = record {
  whole = r.whole;
  named = record {
    used_fit = n.used_fit;
    each = λ h l. record {
      first_from = (n.each h l).first_from;
      first_to = omega (arith, (n.each h l).first_to, r.tapes_fit);
      second_from = (n.each h l).second_from;
      second_to = omega (arith, (n.each h l).second_to, r.tapes_fit);
    };
  };
  good = g;
  first_fits = λ h l. r.label_fits _ (omega (arith, (n.each h l).first_from, (n.each h l).first_to));
  second_fits = λ h l. r.label_fits _ (omega (arith, (n.each h l).second_from, (n.each h l).second_to));
  short = short;
}
