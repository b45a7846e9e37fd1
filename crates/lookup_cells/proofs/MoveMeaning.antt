-- The moves back from a combination of positions are left quotients from an earlier one on.
use mathlib.Core.Path.{◌≡◌, refl, sym, ap, ap₂, subst, ◌∙◌}
use mathlib.Core.Bool.{Bool, true, false, false≢true}
use mathlib.Core.Option.{Option, none, some, none-ne-some, some-injective}
use mathlib.Core.List.{List, [], ◌∷◌, map}
use Prim.Native.Nat.{ℕ, zero, suc, ◌+◌, ◌-◌, ◌*◌, ◌≤◌, ◌<◌}
use native.Mathlib.Nat.{add-mul, add-zero, add_assoc, mul-pos}
use native.Mathlib.Omega.{arith}
use borrow.Author.Tests.{ltb-true, ltb-false}
use lib.Dec.{eqb, ltb}
use lib.ListN.{length, get_or, take, drop}
use lib.Seq.{take-take, drop-drop}
use Rattle.automata.specs.Lists.{if, and, bind, same_list, cons_both}
use Rattle.automata.specs.Automaton.{Tuple}
use Rattle.automata.specs.Lookup.{left_quotient, left_quotients}
use Rattle.automata.specs.Calls.Work.{combinations}
use Rattle.automata.specs.Cells.{Positions, drop_all, place}
use Rattle.automata.proofs.Cells.{moved}
use Rattle.automata.specs.Layout.{label_size}
use Rattle.table.specs.Region.{part}
use Rattle.table.specs.Records.{label_as, label_at, labels_at}
use Rattle.table.proofs.PartFacts.{length_part}
use Rattle.lookup_moves.specs.declared.spot.Spot.{Spot}
use Rattle.lookup_moves.specs.Moves.{tape_move, moves_from, Spotted}

-- ---- left quotients by a comparison

quotient_differs : (x r : List ℕ) → same_list x (take (length x) r) ≡ false → left_quotient x r ≡ none
quotient_differs [] r h = absurd (false≢true (sym h))
quotient_differs (c ∷ x) [] h = refl
quotient_differs (c ∷ x) (d ∷ r) h = go (eqb c d) (quotient_differs x r) h
  where
    go : (b : Bool) → (same_list x (take (length x) r) ≡ false → left_quotient x r ≡ none) → and b (same_list x (take (length x) r)) ≡ false
        → if b (left_quotient x r) none ≡ none
    go true i h = i h
    go false i h = refl

quotient_same : (x r : List ℕ) → same_list x (take (length x) r) ≡ true → left_quotient x r ≡ some (drop (length x) r)
quotient_same [] r h = refl
quotient_same (c ∷ x) [] h = absurd (false≢true h)
quotient_same (c ∷ x) (d ∷ r) h = go (eqb c d) (quotient_same x r) h
  where
    go : (b : Bool) → (same_list x (take (length x) r) ≡ true → left_quotient x r ≡ some (drop (length x) r)) → and b (same_list x (take (length x) r)) ≡ true
        → if b (left_quotient x r) none ≡ some (drop (length x) r)
    go true i h = i h
    go false i h = absurd (false≢true h)

-- ---- one tape

-- the label at a place is its bytes
label_part : (arcs : List ℕ) (at : ℕ) → get_or arcs at 0 ≤ 8 → label_as (label_at at arcs) ≡ part (at + 1) (get_or arcs at 0) arcs
unfolding label_at part
label_part arcs at h = take-take (get_or arcs at 0) 8 (drop (at + 1) arcs) h

-- so long is it
pub label_length : (arcs : List ℕ) (at : ℕ) → at + label_size ≤ length arcs → get_or arcs at 0 ≤ 8 → length (label_as (label_at at arcs)) ≡ get_or arcs at 0
label_length arcs at lent short = ap length (label_part arcs at short) ∙ length_part (at + 1) (get_or arcs at 0) arcs (omega arith)

module _ (arcs : List ℕ) (at : ℕ) (text : List ℕ) (start p span : ℕ) (x : List ℕ) (lent : at + label_size ≤ length arcs) (short : get_or arcs at 0 ≤ 8)
    (before : (n : ℕ) → n ≤ p → part (start - n) n text ≡ part (p - n) n x) where
  abbrev label : List ℕ
  label = label_as (label_at at arcs)

  same_as : get_or arcs at 0 ≤ p → same_list label (take (length label) (drop (p - length label) x))
      ≡ same_list (part (at + 1) (get_or arcs at 0) arcs) (part (start - get_or arcs at 0) (get_or arcs at 0) text)
  unfolding part
  same_as le =
      ap (λ (n : ℕ). same_list label (take n (drop (p - n) x))) (label_length arcs at lent short)
      ∙ ap₂ same_list (label_part arcs at short) (sym (before (get_or arcs at 0) le))

  -- a move back is a left quotient from the earlier position on
  tape_sound : (m : ℕ) → tape_move arcs at text start p span ≡ some m
      → (length label ≤ p) × (left_quotient label (drop (p - length label) x) ≡ some (drop p x)) × (m ≡ length label * span)
  unfolding tape_move
  tape_sound m e = go (ltb p n) refl (same_list (part (at + 1) n arcs) (part (start - n) n text)) refl e
    where
      n : ℕ
      n = get_or arcs at 0

      go : (b : Bool) → ltb p n ≡ b → (c : Bool) → same_list (part (at + 1) n arcs) (part (start - n) n text) ≡ c → if b none (if c (some (n * span)) none) ≡ some m
          → (length label ≤ p) × (left_quotient label (drop (p - length label) x) ≡ some (drop p x)) × (m ≡ length label * span)
      go true f c g e = absurd (none-ne-some m e)
      go false f false g e = absurd (none-ne-some m e)
      go false f true g e =
          let l = label_length arcs at lent short in
          let le : n ≤ p = ltb-false p n f in
          let there : p - length label + length label ≡ p = omega (arith, l, le) in (
            omega (arith, l, le),
            quotient_same label (drop (p - length label) x) (same_as le ∙ g)
                ∙ ap some (drop-drop (length label) (p - length label) x ∙ ap (λ (k : ℕ). drop k x) there),
            sym (some-injective (n * span) m e) ∙ ap (λ (k : ℕ). k * span) (sym l),
          )

  -- and every one is found
  tape_complete : (p' : ℕ) (r : List ℕ) → p' + length label ≡ p → left_quotient label (drop p' x) ≡ some r → tape_move arcs at text start p span ≡ some (length label * span)
  unfolding tape_move
  tape_complete p' r q e = go (ltb p n) refl (same_list (part (at + 1) n arcs) (part (start - n) n text)) refl
    where
      n : ℕ
      n = get_or arcs at 0

      go : (b : Bool) → ltb p n ≡ b → (c : Bool) → same_list (part (at + 1) n arcs) (part (start - n) n text) ≡ c
          → if b none (if c (some (n * span)) none) ≡ some (length label * span)
      go true f c g = absurd (omega (arith, ltb-true p n f, q, label_length arcs at lent short))
      go false f false g =
          let there : p - length label ≡ p' = omega (arith, q) in
          let d : left_quotient label (drop p' x) ≡ none
          = ap (λ (k : ℕ). left_quotient label (drop k x)) (sym there) ∙ quotient_differs label (drop (p - length label) x) (same_as (ltb-false p n f) ∙ g) in
          absurd (none-ne-some r (sym d ∙ e))
      go false f true g = ap (λ (k : ℕ). some (k * span)) (sym (label_length arcs at lent short))

-- ---- all tapes

pub combinations_positive : (t : Tuple) → 0 < combinations t
combinations_positive [] = omega arith
combinations_positive (s ∷ t) = mul-pos {m = suc (length s)} {n = combinations t} (omega arith) (combinations_positive t)

-- by how much labels move the number of a combination
abbrev pub shift : List (List ℕ) → Tuple → ℕ
shift [] t = zero
shift (x ∷ xs) [] = zero
shift (x ∷ xs) (s ∷ t) = length x * combinations t + shift xs t

pub place-moved : (ps : List ℕ) (xs : List (List ℕ)) (t : Tuple) → Positions ps t → place (moved ps xs) t ≡ place ps t + shift xs t
place-moved [] [] [] h = refl
place-moved [] (x ∷ xs) [] h = refl
place-moved [] xs (s ∷ t) h = absurd h
place-moved (p ∷ ps) xs [] h = absurd h
place-moved (p ∷ ps) [] (s ∷ t) h = omega arith
place-moved (p ∷ ps) (x ∷ xs) (s ∷ t) (le, h) =
    let i = place-moved ps xs t h in
    let d = add-mul p (length x) (combinations t) in
    omega (arith, i, d)

-- the labels of n tapes from a place
abbrev pub labelled : ℕ → ℕ → List ℕ → List (List ℕ)
labelled n at arcs = map label_as (labels_at n at arcs)

spotted_next : (text : List ℕ) (s : Spot) (h p : ℕ) (ps x : List ℕ) (t : Tuple) → Spotted text s h (p ∷ ps) (x ∷ t) → Spotted text s (h + 1) ps t
spotted_next text s h p ps x t sp = record {
  span_is = λ j lt. ap (λ (i : ℕ). get_or s.spans i 0) (next j) ∙ sp.span_is (suc j) (omega arith);
  position_is = λ j lt. ap (λ (i : ℕ). get_or s.positions i 0) (next j) ∙ sp.position_is (suc j) (omega arith);
  before_is = λ j lt n le. ap (λ (i : ℕ). part (get_or s.starts i 0 - n) n text) (next j) ∙ sp.before_is (suc j) (omega arith) n le;
}
  where
    next : (j : ℕ) → h + 1 + j ≡ h + suc j
    next j = omega arith

-- the first string
module _ (text : List ℕ) (s : Spot) (h p : ℕ) (ps x : List ℕ) (t : Tuple) (sp : Spotted text s h (p ∷ ps) (x ∷ t)) where
  at_zero : h + 0 ≡ h
  at_zero = omega arith

  first_span : get_or s.spans h 0 ≡ combinations t
  first_span = ap (λ (i : ℕ). get_or s.spans i 0) (sym at_zero) ∙ sp.span_is 0 (omega arith)

  first_position : get_or s.positions h 0 ≡ p
  first_position = ap (λ (i : ℕ). get_or s.positions i 0) (sym at_zero) ∙ sp.position_is 0 (omega arith)

  first_before : (n : ℕ) → n ≤ p → part (get_or s.starts h 0 - n) n text ≡ part (p - n) n x
  first_before n le = ap (λ (i : ℕ). part (get_or s.starts i 0 - n) n text) (sym at_zero) ∙ sp.before_is 0 (omega arith) n le

  first_move : (arcs : List ℕ) (at : ℕ) → tape_move arcs at text (get_or s.starts h 0) (get_or s.positions h 0) (get_or s.spans h 0)
      ≡ tape_move arcs at text (get_or s.starts h 0) p (combinations t)
  first_move arcs at = ap₂ (λ (i j : ℕ). tape_move arcs at text (get_or s.starts h 0) i j) first_position first_span

-- the labels behind the first
pub next-short : (n at : ℕ) (arcs : List ℕ) → ((i : ℕ) → i < suc n → get_or arcs (at + label_size * i) 0 ≤ 8) → (i : ℕ) → i < n → get_or arcs (at + label_size + label_size * i) 0 ≤ 8
next-short n at arcs short i lt =
    let z : at + label_size * suc i ≡ at + label_size + label_size * i = omega arith in subst (λ (j : ℕ). get_or arcs j 0 ≤ 8) z (short (suc i) (omega arith))

pub first_short : (n at : ℕ) (arcs : List ℕ) → ((i : ℕ) → i < suc n → get_or arcs (at + label_size * i) 0 ≤ 8) → get_or arcs at 0 ≤ 8
first_short n at arcs short = let z : at + label_size * 0 ≡ at = omega arith in subst (λ (j : ℕ). get_or arcs j 0 ≤ 8) z (short 0 (omega arith))

-- the positions from which labels lead to the positions ps, by which they move the number of the combination
pub record Before (labels : List (List ℕ)) (t : Tuple) (ps : List ℕ) (k : ℕ) : Type 0 where
  pub earlier : List ℕ
  pub positions : Positions earlier t
  pub leads : moved earlier labels ≡ ps
  pub quotient : left_quotients labels (drop_all earlier t) ≡ some (drop_all ps t)
  pub by_is : k ≡ shift labels t

-- labels that end at a combination lead there from an earlier one
pub moves_sound : (n h at k : ℕ) (arcs text : List ℕ) (s : Spot) (ps : List ℕ) (t : Tuple) → length t ≡ n → Positions ps t → Spotted text s h ps t
    → at + label_size * n ≤ length arcs → ((i : ℕ) → i < n → get_or arcs (at + label_size * i) 0 ≤ 8) → (j : ℕ) → moves_from n h at k arcs text s ≡ some j
    → (i : ℕ) × (j ≡ k + i) × Before (labelled n at arcs) t ps i
unfolding moves_from labels_at
moves_sound zero h at k arcs text s [] [] e pos sp lent short j f =
    (0, omega (arith, some-injective k j f), record { earlier = []; positions = tt; leads = refl; quotient = refl; by_is = refl })
moves_sound zero h at k arcs text s ps (x ∷ t) e pos sp lent short j f = absurd (omega (arith, e))
moves_sound zero h at k arcs text s (p ∷ ps) [] e pos sp lent short j f = absurd pos
moves_sound (suc n) h at k arcs text s ps [] e pos sp lent short j f = absurd (omega (arith, e))
moves_sound (suc n) h at k arcs text s [] (x ∷ t) e pos sp lent short j f = absurd pos
moves_sound (suc n) h at k arcs text s (p ∷ ps) (x ∷ t) e pos sp lent short j f =
    go (tape_move arcs at text (get_or s.starts h 0) p (combinations t)) refl
    (ap (λ (o : Option ℕ). bind o next) (sym (first_move text s h p ps x t sp arcs at)) ∙ f)
    (λ m g. moves_sound n (h + 1) (at + label_size) (k + m) arcs text s ps t (omega (arith, e)) pos.1 (spotted_next text s h p ps x t sp) (omega arith) (next-short n at arcs short) j g)
  where
    l : List ℕ
    l = label_as (label_at at arcs)

    next : ℕ → Option ℕ
    next m = moves_from n (h + 1) (at + label_size) (k + m) arcs text s

    go : (o : Option ℕ) → tape_move arcs at text (get_or s.starts h 0) p (combinations t) ≡ o → bind o next ≡ some j
        → ((m : ℕ) → next m ≡ some j → (i : ℕ) × (j ≡ k + m + i) × Before (labelled n (at + label_size) arcs) t ps i)
        → (i : ℕ) × (j ≡ k + i) × Before (l ∷ labelled n (at + label_size) arcs) (x ∷ t) (p ∷ ps) i
    go none a g ih = absurd (none-ne-some j g)
    go (some m) a g ih =
        let (i, q, b) = ih m g in
        let (le, quotient, by) = tape_sound arcs at text (get_or s.starts h 0) p (combinations t) x (omega arith) (first_short n at arcs short) (first_before text s h p ps x t sp) m a in
        let there : p - length l + length l ≡ p = omega (arith, le) in (
          m + i,
          omega (arith, q),
          record {
            earlier = (p - length l) ∷ b.earlier;
            positions = (omega (arith, pos.0), b.positions);
            leads = ap₂ ◌∷◌ there b.leads;
            quotient = ap₂ cons_both quotient b.quotient;
            by_is = omega (arith, by, b.by_is);
          },
        )

-- and labels that lead there from an earlier one end there
pub moves_complete : (n h at k : ℕ) (arcs text : List ℕ) (s : Spot) (ps : List ℕ) (t : Tuple) → length t ≡ n → Positions ps t → Spotted text s h ps t
    → at + label_size * n ≤ length arcs → ((i : ℕ) → i < n → get_or arcs (at + label_size * i) 0 ≤ 8) → (ps' : List ℕ) (rest : Tuple) → Positions ps' t
    → moved ps' (labelled n at arcs) ≡ ps → left_quotients (labelled n at arcs) (drop_all ps' t) ≡ some rest
    → moves_from n h at k arcs text s ≡ some (k + shift (labelled n at arcs) t)
unfolding moves_from labels_at
moves_complete zero h at k arcs text s ps t e pos sp lent short ps' rest pos' m q = ap some (sym (add-zero k))
moves_complete (suc n) h at k arcs text s ps [] e pos sp lent short ps' rest pos' m q = absurd (omega (arith, e))
moves_complete (suc n) h at k arcs text s [] (x ∷ t) e pos sp lent short ps' rest pos' m q = absurd pos
moves_complete (suc n) h at k arcs text s (p ∷ ps) (x ∷ t) e pos sp lent short [] rest pos' m q = absurd pos'
moves_complete (suc n) h at k arcs text s (p ∷ ps) (x ∷ t) e pos sp lent short (p' ∷ ps') rest pos' m q =
    go (left_quotient l (drop p' x)) refl (left_quotients ls (drop_all ps' t)) refl q
    (λ rs b. moves_complete n (h + 1) (at + label_size) (k + length l * combinations t) arcs text s ps t (omega (arith, e)) pos.1 (spotted_next text s h p ps x t sp) (omega arith)
    (next-short n at arcs short) ps' rs pos'.1 behind b)
  where
    l : List ℕ
    l = label_as (label_at at arcs)

    ls : List (List ℕ)
    ls = labelled n (at + label_size) arcs

    next : ℕ → Option ℕ
    next j = moves_from n (h + 1) (at + label_size) (k + j) arcs text s

    here : p' + length l ≡ p
    here = ap (λ (z : List ℕ). get_or z 0 0) m

    behind : moved ps' ls ≡ ps
    behind = ap (λ (z : List ℕ). drop 1 z) m

    go : (o : Option (List ℕ)) → left_quotient l (drop p' x) ≡ o → (o' : Option Tuple) → left_quotients ls (drop_all ps' t) ≡ o' → cons_both o o' ≡ some rest
        → ((rs : Tuple) → left_quotients ls (drop_all ps' t) ≡ some rs → next (length l * combinations t) ≡ some (k + length l * combinations t + shift ls t))
        → bind (tape_move arcs at text (get_or s.starts h 0) (get_or s.positions h 0) (get_or s.spans h 0)) next
        ≡ some (k + (length l * combinations t + shift ls t))
    go none a o' b c ih = absurd (none-ne-some rest c)
    go (some r) a none b c ih = absurd (none-ne-some rest c)
    go (some r) a (some rs) b c ih =
        ap (λ (o : Option ℕ). bind o next) (first_move text s h p ps x t sp arcs at
        ∙ tape_complete arcs at text (get_or s.starts h 0) p (combinations t) x (omega arith) (first_short n at arcs short) (first_before text s h p ps x t sp) p' r here a)
        ∙ ih rs b
        ∙ ap some (add_assoc k (length l * combinations t) (shift ls t))
