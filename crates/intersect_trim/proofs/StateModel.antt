-- What the rows and their records mean: the marks of accepting configurations, and the states of the result.
use Prim.Native.Nat.{ℕ, zero, suc, ◌+◌, ◌*◌, ◌<◌, ◌≤◌}
use mathlib.Core.Path.{◌≡◌, refl, sym, ap, ap₂, ◌∙◌}
use mathlib.Core.Bool.{Bool, true, false}
use mathlib.Core.Option.{Option, none, some}
use mathlib.Core.List.{List, [], ◌∷◌, ◌++◌, map}
use native.Mathlib.Omega.{arith}
use lib.Dec.{eqb}
use lib.ListN.{length, get_or, get_elem?, take, drop}
use lib.Seq.{get_or-take, get_or-drop}
use Rattle.automata.specs.Lists.{if, and, all, guard, is_some}
use Rattle.automata.specs.Records.{write_all}
use Rattle.automata.specs.Automaton.{State, Arc, Automaton, final_of}
use Rattle.automata.specs.Leftover.{Leftover, nothing, same_leftover}
use Rattle.automata.specs.Config.{Config, no_leftovers}
use Rattle.automata.specs.Memory.{Memory, Sound, Holds, table_of, state_record, encode_states, zeros}
use Rattle.automata.specs.Table.{WellFormed}
use Rattle.automata.specs.Explore.{Edge}
use Rattle.automata.specs.Trim.{at_marks}
use Rattle.automata.specs.Intersect.{accepting, state_of}
use Rattle.automata.proofs.ListFacts
use Rattle.automata.proofs.SoundFacts.{sound_well_formed, sound_holds}
use Rattle.automata.proofs.MemoryFacts.{state_field, length_encode_states}
use Rattle.automata.specs.Layout.{state_size, final_place}
use Rattle.intersect_config.specs.Leftovers.{leftover_size}
use Rattle.table.specs.Region.{part}
use Rattle.table.specs.Endian.{le}
use Rattle.table.proofs.EndianFacts.{le-to_le}
use Rattle.intersect_edges.specs.Marked.{bit, is_mark, bits, bools}
use Rattle.intersect_trim.specs.Rows.{row_state, plain_from, row_plain, final_byte, Within, RowOf, RowsOf}
use Rattle.intersect_trim.specs.Result.{row_record, kept_states}
use Rattle.intersect_trim.specs.Model.{result_of}
use Rattle.intersect_trim.proofs.RowFacts.{front_fits}

-- ---- a row and its configuration

plain_from_lem : (n h : ℕ) (ls : List Leftover) (row : List ℕ) → length ls ≤ n
    → ((j : ℕ) (l : Leftover) → get_elem? ls j ≡ some l → eqb (get_or row (3 + leftover_size * (h + j)) 0) 0 ≡ same_leftover l nothing)
    → ((j : ℕ) → j < n → length ls ≤ j → get_or row (3 + leftover_size * (h + j)) 0 ≡ 0) → plain_from h n row ≡ all (λ l. same_leftover l nothing) ls
plain_from_lem zero h [] row k u f = refl
plain_from_lem zero h (l ∷ ls) row k u f = absurd (omega arith)
plain_from_lem (suc n) h [] row k u f =
    let z : h + 0 ≡ h = omega arith in
    let e : get_or row (3 + leftover_size * h) 0 ≡ 0 = ap (λ (i : ℕ). get_or row (3 + leftover_size * i) 0) (sym z) ∙ f 0 (omega arith) (omega arith) in
    ap (λ (x : ℕ). and (eqb x 0) (plain_from (suc h) n row)) e
    ∙ plain_from_lem n (suc h) [] row (omega arith) (λ j l g. ListFacts.none_not_some refl g)
    (λ j g i. let s : suc h + j ≡ h + suc j = omega arith in ap (λ (i : ℕ). get_or row (3 + leftover_size * i) 0) s ∙ f (suc j) (omega arith) (omega arith))
plain_from_lem (suc n) h (l ∷ ls) row k u f =
    let z : h + 0 ≡ h = omega arith in
    ap₂ and (ap (λ (i : ℕ). eqb (get_or row (3 + leftover_size * i) 0) 0) (sym z) ∙ u 0 l refl)
    (plain_from_lem n (suc h) ls row (omega arith)
    (λ j m g. let s : suc h + j ≡ h + suc j = omega arith in ap (λ (i : ℕ). eqb (get_or row (3 + leftover_size * i) 0) 0) s ∙ u (suc j) m g)
    (λ j g i. let s : suc h + j ≡ h + suc j = omega arith in ap (λ (i : ℕ). get_or row (3 + leftover_size * i) 0) s ∙ f (suc j) (omega arith) (omega arith)))

-- the row is plain where the configuration has no leftovers
pub plain_model : (c : Config) (row : List ℕ) → RowOf c row → row_plain row ≡ no_leftovers c
unfolding row_plain
plain_model c row r =
    plain_from_lem 4 0 c.leftovers row r.few
    (λ j l g. let s : 0 + j ≡ j = omega arith in ap (λ (i : ℕ). eqb (get_or row (3 + leftover_size * i) 0) 0) s ∙ r.used j l g)
    (λ j g h. let s : 0 + j ≡ j = omega arith in ap (λ (i : ℕ). get_or row (3 + leftover_size * i) 0) s ∙ r.unused j g h)

-- its input state is the configuration's
pub state_model : (c : Config) (row : List ℕ) → RowOf c row → c.state < 65536 → row_state row ≡ c.state
unfolding row_state
state_model c row r h = ap le r.state ∙ le-to_le 2 c.state h

-- ---- the record of a state

-- its flag of the final weight
flag_of : (i f : Option ℕ) → is_mark (get_or (take 1 (drop final_place (state_record.write (record { initial = i; final = f })))) 0 0) ≡ is_some f
flag_of none none = refl
flag_of none (some w) = refl
flag_of (some v) none = refl
flag_of (some v) (some w) = refl

whole_record : (i f : Option ℕ) → take state_size (state_record.write (record { initial = i; final = f })) ≡ state_record.write (record { initial = i; final = f })
whole_record none none = refl
whole_record none (some w) = refl
whole_record (some v) none = refl
whole_record (some v) (some w) = refl

module _ (m : Memory) (s : Sound m) where
  -- the table in memory
  abbrev A : Automaton ℕ
  A = table_of m

  t : WellFormed A
  t = sound_well_formed m s

  h : Holds m A
  h = sound_holds m s

  -- a state of the table, and where its record stands
  module _ (q : ℕ) (known : State ℕ) (stands : get_elem? A.states q ≡ some known) where
    l : q < length A.states
    l = ListFacts.place_bound A.states q stands

    pub record_fits : state_size * q + state_size ≤ length m.state_bytes
    record_fits =
        let e = length_encode_states A t in
        let b = front_fits (m.states * state_size) m.state_bytes (encode_states A) h.state_bytes (omega (arith, h.states, e)) in
        omega (arith, h.states, l)

    blank : State ℕ
    blank = record { initial = none; final = none }

    field : (o n : ℕ) → o + n ≤ state_size → take n (drop (state_size * q + o) m.state_bytes) ≡ take n (drop o (state_record.write known))
    field o n e =
        let z : state_size * q + o ≡ q * state_size + o = omega arith in
        ap (λ (k : ℕ). take n (drop k m.state_bytes)) z ∙ state_field m A t h q blank (omega (arith, h.states, l)) o n e
        ∙ ap (λ (x : State ℕ). take n (drop o (state_record.write x))) (ListFacts.place_default A.states q blank stands)

    flag_model : is_mark (get_or m.state_bytes (state_size * q + final_place) 0) ≡ is_some (final_of A q)
    flag_model =
        let z : state_size * q + final_place ≡ state_size * q + final_place + 0 = omega arith in
        let e : get_or m.state_bytes (state_size * q + final_place) 0 ≡ get_or (take 1 (drop final_place (state_record.write known))) 0 0 =
        ap (λ (k : ℕ). get_or m.state_bytes k 0) z ∙ sym (get_or-drop (state_size * q + final_place) m.state_bytes 0 0)
        ∙ sym (get_or-take 1 (drop (state_size * q + final_place) m.state_bytes) 0 0 (omega arith)) ∙ ap (λ (x : List ℕ). get_or x 0 0) (field final_place 1 (omega arith)) in
        ap is_mark e ∙ flag_of known.initial known.final ∙ (rw stands)

    record_model : part (state_size * q) state_size m.state_bytes ≡ state_record.write known
    unfolding part
    record_model =
        let z : state_size * q ≡ state_size * q + 0 = omega arith in
        ap (λ (k : ℕ). take state_size (drop k m.state_bytes)) z ∙ field 0 state_size (omega arith) ∙ whole_record known.initial known.final

  -- ---- a configuration and its row

  module _ (c : Config) (row : List ℕ) (r : RowOf c row) (l : c.state < length A.states) where
    state_is : row_state row ≡ c.state
    state_is = state_model c row r (omega (arith, l, t.counts.states_fit))

    row_fits : state_size * row_state row + state_size ≤ length m.state_bytes
    row_fits = let e = ListFacts.place_exists A.states c.state l in let f = record_fits c.state e.0 e.1 in omega (arith, f, state_is)

    -- the mark of the row says whether the configuration is accepting
    pub final_model : final_byte m.state_bytes row ≡ bit (accepting A c)
    unfolding final_byte
    final_model =
        let e = ListFacts.place_exists A.states c.state l in
        ap₂ (λ (p f : Bool). bit (and p f)) (plain_model c row r)
        (ap (λ (q : ℕ). is_mark (get_or m.state_bytes (state_size * q + final_place) 0)) state_is ∙ flag_model c.state e.0 e.1)

    -- the record of the row is that of the configuration as a state
    pub row_model : row_record m.state_bytes row ≡ state_record.write (state_of A c)
    unfolding row_record
    row_model =
        let e = ListFacts.place_exists A.states c.state l in
        ap₂ (λ (p : Bool) (q : ℕ). if p (part (state_size * q) state_size m.state_bytes) (zeros state_size)) (plain_model c row r) state_is
        ∙ ap (λ (x : List ℕ). if (no_leftovers c) x (zeros state_size)) (record_model c.state e.0 e.1) ∙ (rw e.1 (go e.0 (no_leftovers c)))
      where
        go : (x : State ℕ) (b : Bool)
            → if b (state_record.write x) (zeros state_size) ≡ state_record.write (record { initial = guard b x.initial; final = guard b x.final })
        go x true = refl
        go x false = refl

  -- ---- all configurations

  -- the records of the rows' states stand in the bytes
  pub rows-within : (cs : List Config) (rs : List (List ℕ)) → RowsOf (length A.states) cs rs → Within (length m.state_bytes) rs
  unfolding Within
  rows-within [] [] r = tt
  rows-within [] (x ∷ rs) r = absurd r
  rows-within (c ∷ cs) [] r = absurd r
  rows-within (c ∷ cs) (x ∷ rs) r = (row_fits c x r.0.0 r.0.1, rows-within cs rs r.1)

  -- the marks of the rows are those of the accepting configurations
  pub finals_model : (cs : List Config) (rs : List (List ℕ)) → RowsOf (length A.states) cs rs → map (final_byte m.state_bytes) rs ≡ bits (map (accepting A) cs)
  finals_model [] [] r = refl
  finals_model [] (x ∷ rs) r = absurd r
  finals_model (c ∷ cs) [] r = absurd r
  finals_model (c ∷ cs) (x ∷ rs) r =
      ap₂ (λ (b : ℕ) (bs : List ℕ). b ∷ bs) (final_model c x r.0.0 r.0.1) (finals_model cs rs r.1)

  -- the records of the marked rows are the states of the result
  pub states_model : (bs : List Bool) (cs : List Config) (rs : List (List ℕ)) → RowsOf (length A.states) cs rs
      → write_all (row_record m.state_bytes) (at_marks bs rs) ≡ write_all state_record.write (map (state_of A) (at_marks bs cs))
  states_model [] cs rs r = refl
  states_model (b ∷ bs) [] [] r = refl
  states_model (b ∷ bs) [] (x ∷ rs) r = absurd r
  states_model (b ∷ bs) (c ∷ cs) [] r = absurd r
  states_model (b ∷ bs) (c ∷ cs) (x ∷ rs) r = go b (row_model c x r.0.0 r.0.1) (states_model bs cs rs r.1)
    where
      go : (b : Bool) → row_record m.state_bytes x ≡ state_record.write (state_of A c)
          → write_all (row_record m.state_bytes) (at_marks bs rs) ≡ write_all state_record.write (map (state_of A) (at_marks bs cs))
          → write_all (row_record m.state_bytes) (if b (x ∷ at_marks bs rs) (at_marks bs rs))
          ≡ write_all state_record.write (map (state_of A) (if b (c ∷ at_marks bs cs) (at_marks bs cs)))
      go true e f = ap₂ (λ (u v : List ℕ). u ++ v) e f
      go false e f = f

  -- The bytes of the marked rows are those of the result's states.
  pub kept_model : (marks : List ℕ) (cs : List Config) (rs : List (List ℕ)) (es : List (Edge (ℕ × Arc ℕ))) → RowsOf (length A.states) cs rs
      → kept_states m.state_bytes marks rs ≡ encode_states (result_of A (bools marks) cs es)
  unfolding kept_states
  kept_model marks cs rs es r = states_model (bools marks) cs rs r
