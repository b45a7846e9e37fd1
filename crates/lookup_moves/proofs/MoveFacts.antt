-- Comparing bytes, turn by turn, and the labels of an arc, tape by tape.
use mathlib.Core.Path.{◌≡◌, refl, sym, ap, ap₂, ◌∙◌}
use mathlib.Core.Logic.{◌≢◌}
use mathlib.Core.Bool.{Bool, true, false}
use mathlib.Core.Option.{Option, none, some, none-ne-some, some-injective}
use mathlib.Core.List.{List}
use Prim.Native.Nat.{ℕ, zero, suc, ◌+◌, ◌-◌, ◌*◌, ◌≤◌, ◌<◌}
use native.Mathlib.Nat.{mul-le-mul}
use native.Mathlib.Omega.{arith}
use borrow.Author.Tests.{lt-ltb, le-ltb}
use lib.Dec.{eqb, ltb, eqb_refl}
use lib.ListN.{length, get_or}
use Rattle.automata.specs.Lists.{if, bind, same_list}
use Rattle.automata.proofs.TestFacts.{eqb_false, T_true}
use Rattle.automata.specs.Layout.{label_size}
use Rattle.table.specs.Region.{part}
use Rattle.table.proofs.PartFacts.{get_d_part, part_zero, part_suc, part-part}
use Rattle.lookup_moves.specs.declared.spot.Spot.{Spot}
use Rattle.lookup_moves.specs.Moves.{tape_move, moves_from, Laid, spot_with}

pub same_turn : (a b left rest : ℕ) (x y : List ℕ) → left ≡ suc rest → a < length x → b < length y → get_or x a 0 ≡ get_or y b 0
    → same_list (part (a + 1) rest x) (part (b + 1) rest y) ≡ same_list (part a left x) (part b left y)
same_turn a b left rest x y s f g h = rw (s, part_suc a rest x 0 f, part_suc b rest y 0 g, h, T_true (eqb (get_or y b 0) (get_or y b 0)) (eqb_refl (get_or y b 0)))

pub same_not : (a b left rest : ℕ) (x y : List ℕ) → left ≡ suc rest → a < length x → b < length y → get_or x a 0 ≢ get_or y b 0
    → false ≡ same_list (part a left x) (part b left y)
same_not a b left rest x y s f g h = rw (s, part_suc a rest x 0 f, part_suc b rest y 0 g, eqb_false (get_or x a 0) (get_or y b 0) h)

pub same_end : (a b left : ℕ) (x y : List ℕ) → left ≡ 0 → true ≡ same_list (part a left x) (part b left y)
same_end a b left x y s = rw (s, part_zero a x, part_zero b y)

-- ---- one tape

module _ (arcs : List ℕ) (at : ℕ) (text : List ℕ) (start size span : ℕ) where
  pub move_long : size < get_or arcs at 0 → none ≡ tape_move arcs at text start size span
  unfolding tape_move
  move_long h = rw (lt-ltb size (get_or arcs at 0) h)

  module _ (h : get_or arcs at 0 ≤ size) (b : Bool) (e : b ≡ same_list (part (at + 1) (get_or arcs at 0) arcs) (part (start - get_or arcs at 0) (get_or arcs at 0) text)) where
    pub move_differs : b ≡ false → none ≡ tape_move arcs at text start size span
    unfolding tape_move
    move_differs n = rw (le-ltb size (get_or arcs at 0) h, ← e, n)

    pub move_same : b ≡ true → some (get_or arcs at 0 * span) ≡ tape_move arcs at text start size span
    unfolding tape_move
    move_same n = rw (le-ltb size (get_or arcs at 0) h, ← e, n)

  -- a move on one tape is not too long
  pub move_bound : (m : ℕ) → get_or arcs at 0 ≤ 8 → span ≤ 318644812890625 → tape_move arcs at text start size span ≡ some m → m ≤ 2549158503125000
  unfolding tape_move
  move_bound m short small e = go (ltb size (get_or arcs at 0)) (same_list (part (at + 1) (get_or arcs at 0) arcs) (part (start - get_or arcs at 0) (get_or arcs at 0) text)) e
    where
      go : (b c : Bool) → if b none (if c (some (get_or arcs at 0 * span)) none) ≡ some m → m ≤ 2549158503125000
      go true c e = absurd (none-ne-some m e)
      go false true e = omega (arith, some-injective (get_or arcs at 0 * span) m e, mul-le-mul short small)
      go false false e = absurd (none-ne-some m e)

-- ---- all tapes

module _ (left rest h from total : ℕ) (arcs text : List ℕ) (s : Spot) (d : left ≡ suc rest) where
  pub moves_stuck : none ≡ tape_move arcs from text (get_or s.starts h 0) (get_or s.positions h 0) (get_or s.spans h 0) → none ≡ moves_from left h from total arcs text s
  unfolding moves_from
  moves_stuck e = rw (d, ← e)

  module _ (by : ℕ) (e : some by ≡ tape_move arcs from text (get_or s.starts h 0) (get_or s.positions h 0) (get_or s.spans h 0)) where
    pub moves_turn : moves_from rest (h + 1) (from + label_size) (total + by) arcs text s ≡ moves_from left h from total arcs text s
    unfolding moves_from
    moves_turn = rw (d, ← e)

    -- it is not too long
    pub turn_bound : get_or arcs from 0 ≤ 8 → get_or s.spans h 0 ≤ 318644812890625 → by ≤ 2549158503125000
    turn_bound short small = move_bound arcs from text (get_or s.starts h 0) (get_or s.positions h 0) (get_or s.spans h 0) by short small (sym e)

pub moves_end : (left h from total : ℕ) (arcs text : List ℕ) (s : Spot) → left ≡ 0 → some total ≡ moves_from left h from total arcs text s
unfolding moves_from
moves_end left h from total arcs text s d = rw d

-- ---- the number of a combination plays no role

module _ (starts positions spans : List ℕ) (i j k l : ℕ) where
  pub laid_any : (n size : ℕ) → Laid n size (spot_with starts positions spans i j) → Laid n size (spot_with starts positions spans k l)
  laid_any n size p = record {
    few = p.few;
    eight_starts = p.eight_starts;
    eight_positions = p.eight_positions;
    eight_spans = p.eight_spans;
    before = p.before;
    within = p.within;
    small = p.small;
  }

  pub moves_any : (n h at total : ℕ) (arcs text : List ℕ)
      → moves_from n h at total arcs text (spot_with starts positions spans i j) ≡ moves_from n h at total arcs text (spot_with starts positions spans k l)
  unfolding moves_from
  moves_any zero h at total arcs text = refl
  moves_any (suc n) h at total arcs text =
      go (tape_move arcs at text (get_or starts h 0) (get_or positions h 0) (get_or spans h 0)) (λ m. moves_any n (h + 1) (at + label_size) (total + m) arcs text)
    where
      go : (o : Option ℕ) → ((m : ℕ) → moves_from n (h + 1) (at + label_size) (total + m) arcs text (spot_with starts positions spans i j)
          ≡ moves_from n (h + 1) (at + label_size) (total + m) arcs text (spot_with starts positions spans k l))
          → bind o (λ m. moves_from n (h + 1) (at + label_size) (total + m) arcs text (spot_with starts positions spans i j))
          ≡ bind o (λ m. moves_from n (h + 1) (at + label_size) (total + m) arcs text (spot_with starts positions spans k l))
      go none r = refl
      go (some m) r = r m

-- ---- arcs with the same labels move alike

module _ (arcs text : List ℕ) where
  -- on one tape
  tape_alike : (a b start size span : ℕ) → get_or arcs a 0 ≡ get_or arcs b 0 → part (a + 1) (get_or arcs a 0) arcs ≡ part (b + 1) (get_or arcs b 0) arcs
      → tape_move arcs a text start size span ≡ tape_move arcs b text start size span
  unfolding tape_move
  tape_alike a b start size span e p =
      ap₂ (λ (n : ℕ) (l : List ℕ). if (ltb size n) none (if (same_list l (part (start - n) n text)) (some (n * span)) none)) e p

  -- on all
  pub moves_alike : (n h a b k : ℕ) (s : Spot) → a + label_size * n ≤ length arcs → b + label_size * n ≤ length arcs → ((j : ℕ) → j < n → get_or arcs (a + label_size * j) 0 ≤ 8)
      → part a (label_size * n) arcs ≡ part b (label_size * n) arcs → moves_from n h a k arcs text s ≡ moves_from n h b k arcs text s
  unfolding moves_from
  moves_alike zero h a b k s p q short e = refl
  moves_alike (suc n) h a b k s p q short e =
      ap (λ (o : Option ℕ). bind o (λ m. moves_from n (h + 1) (a + label_size) (k + m) arcs text s)) (tape_alike a b (get_or s.starts h 0) (get_or s.positions h 0) (get_or s.spans h 0) front label)
      ∙ go (tape_move arcs b text (get_or s.starts h 0) (get_or s.positions h 0) (get_or s.spans h 0)) (λ m. moves_alike n (h + 1) (a + label_size) (b + label_size) (k + m) s (omega arith) (omega arith) later rest)
    where
      front : get_or arcs a 0 ≡ get_or arcs b 0
      front =
          ap (λ (i : ℕ). get_or arcs i 0) (omega arith) ∙ sym (get_d_part a (label_size * suc n) arcs 0 0 (omega arith)) ∙ ap (λ (l : List ℕ). get_or l 0 0) e
          ∙ get_d_part b (label_size * suc n) arcs 0 0 (omega arith) ∙ ap (λ (i : ℕ). get_or arcs i 0) (omega arith)

      -- its length is at most eight
      bound : get_or arcs a 0 ≤ 8
      bound = omega (arith, short 0 (omega arith), ap (λ (i : ℕ). get_or arcs i 0) (addition a))
        where
          addition : (i : ℕ) → i + label_size * 0 ≡ i
          addition i = omega arith

      label : part (a + 1) (get_or arcs a 0) arcs ≡ part (b + 1) (get_or arcs b 0) arcs
      label =
          sym (part-part 1 (get_or arcs a 0) a (label_size * suc n) arcs (omega (arith, bound))) ∙ ap₂ (λ (m : ℕ) (l : List ℕ). part 1 m l) front e
          ∙ part-part 1 (get_or arcs b 0) b (label_size * suc n) arcs (omega (arith, bound, front))

      rest : part (a + label_size) (label_size * n) arcs ≡ part (b + label_size) (label_size * n) arcs
      rest =
          sym (part-part label_size (label_size * n) a (label_size * suc n) arcs (omega arith)) ∙ ap (part label_size (label_size * n)) e ∙ part-part label_size (label_size * n) b (label_size * suc n) arcs (omega arith)

      later : (j : ℕ) → j < n → get_or arcs (a + label_size + label_size * j) 0 ≤ 8
      later j lt = omega (arith, short (suc j) (omega arith), ap (λ (i : ℕ). get_or arcs i 0) (place j))
        where
          place : (i : ℕ) → a + label_size * suc i ≡ a + label_size + label_size * i
          place i = omega arith

      go : (o : Option ℕ) → ((m : ℕ) → moves_from n (h + 1) (a + label_size) (k + m) arcs text s ≡ moves_from n (h + 1) (b + label_size) (k + m) arcs text s)
          → bind o (λ m. moves_from n (h + 1) (a + label_size) (k + m) arcs text s) ≡ bind o (λ m. moves_from n (h + 1) (b + label_size) (k + m) arcs text s)
      go none r = refl
      go (some m) r = r m
