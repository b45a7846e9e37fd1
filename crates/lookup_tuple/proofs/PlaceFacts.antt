-- Facts of the strings of a text by their places: one line more, and all of them.
use mathlib.Core.Path.{◌≡◌, refl, sym, ap, subst, ◌∙◌}
use mathlib.Core.Logic.{◌⊎◌, inl, inr, ◌≢◌}
use mathlib.Core.Bool.{Bool, true, false}
use mathlib.Core.List.{List, [], ◌∷◌}
use Prim.Native.Nat.{ℕ, zero, suc, ◌+◌, ◌-◌, ◌≤◌, ◌<◌}
use native.Mathlib.Omega.{arith}
use native.Mathlib.Decide.{ℕ_discrete}
use native.Mathlib.Numerals.{add-one}
use lib.Dec.{leb, ltb}
use lib.ListN.{length, get_or, set, drop, replicate, length-set}
use lib.Seq.{drop-cons, get_or-set_same, get_or-set_other}
use borrow.Author.Tests.{leb-true, ltb-true, ltb-false}
use Rattle.automata.specs.Lists.{all}
use Rattle.automata.specs.Answer.{ok, forget}
use Rattle.automata.specs.Automaton.{Tuple}
use Rattle.automata.specs.Calls.Lookup.{lines}
use Rattle.automata.proofs.AnswerFacts.{ok_injective, bind_ok}
use Rattle.automata.proofs.TestFacts.{decide, and_true}
use Rattle.automata.specs.Limits.{max_string}
use Rattle.table.specs.Region.{part}
use Rattle.table.proofs.PartFacts.{length_part}
use Rattle.lookup_tuple.specs.Strings.{Stands}
use Rattle.lookup_tuple.specs.Lines.{lines_at, LineEnd}
use Rattle.lookup_tuple.specs.Judgement.{Placeable}
use Rattle.lookup_tuple.proofs.LineFacts.{lines_end, line-next, line_closed}

-- a list of zeros
pub zeros_at : (n h : ℕ) → ◌≡◌ {A = ℕ} (get_or (replicate n 0) h 0) 0
zeros_at zero h = refl
zeros_at (suc n) zero = refl
zeros_at (suc n) (suc h) = zeros_at n h

-- every string passes a test
all_passes : (p : List ℕ → Bool) (t : Tuple) (h : ℕ) → all p t ≡ true → h < length t → p (get_or t h []) ≡ true
all_passes p [] h e l = absurd (omega arith)
all_passes p (s ∷ t) zero e l = (and_true (p s) (all p t) e).0
all_passes p (s ∷ t) (suc h) e l = all_passes p t h (and_true (p s) (all p t) e).1 (omega arith)

module _ (text : List ℕ) (t : Tuple) where
  -- the string of this number stands at this place
  pub record PlacedAt (h start len : ℕ) : Type 0 where
    pub length_is : len ≡ length (get_or t h [])
    pub within : start + len ≤ length text
    pub string_is : part start len text ≡ get_or t h []

  -- the first so many strings stand at their places, and past them the lengths are 0
  pub record PlacedTo (i : ℕ) (starts lengths : List ℕ) : Type 0 where
    pub eight_starts : length starts ≡ 8
    pub eight_lengths : length lengths ≡ 8
    pub placed : (h : ℕ) → h < i → PlacedAt h (get_or starts h 0) (get_or lengths h 0)
    pub none_past : (h : ℕ) → i ≤ h → get_or lengths h 0 ≡ 0

  -- none yet
  pub placed-none : PlacedTo 0 (replicate 8 0) (replicate 8 0)
  placed-none = record { eight_starts = refl; eight_lengths = refl; placed = λ h l. absurd (omega arith); none_past = λ h l. zeros_at 8 h }

  -- ---- the next line
  module _ (i at : ℕ) (few : i < length t) (rest : lines_at at text ≡ ok (drop i t)) where
    -- it begins in the text
    pub next-begins : at < length text
    next-begins = go (decide (ltb at (length text)))
      where
        go : (ltb at (length text) ≡ true) ⊎ (ltb at (length text) ≡ false) → at < length text
        go (inl e) = ltb-true at (length text) e
        go (inr e) =
            let z : [] ≡ drop i t = ok_injective [] (drop i t) (sym (lines_end text at (ltb-false at (length text) e)) ∙ rest) in
            let n : 0 ≡ length (get_or t i [] ∷ drop (suc i) t) = ap (λ (u : Tuple). length u) (z ∙ drop-cons t i [] few) in
            absurd (omega (arith, n))

    module _ (r : ℕ) (e : LineEnd text at r) where
      -- it ends in the text
      pub next-ends : r < length text
      next-ends = line_closed text at r e next-begins (ap forget rest)

      -- its string, and what follows
      next_is : (part at (r - at) text ≡ get_or t i []) × (lines_at (r + 1) text ≡ ok (drop (i + 1) t))
      next_is =
          let b = bind_ok (lines_at (r + 1) text) (λ u. ok (part at (r - at) text ∷ u)) (get_or t i [] ∷ drop (suc i) t)
          (sym (line-next text at r e next-ends) ∙ rest ∙ ap ok (drop-cons t i [] few)) in
          let c : part at (r - at) text ∷ b.0 ≡ get_or t i [] ∷ drop (suc i) t = ok_injective _ _ b.2 in
          let s : part at (r - at) text ≡ get_or t i [] = cc in
          let u : b.0 ≡ drop (suc i) t = cc in
          (s, b.1 ∙ ap ok (u ∙ ap (λ (n : ℕ). drop n t) (sym (add-one i))))

      pub next_rest : lines_at (r + 1) text ≡ ok (drop (i + 1) t)
      next_rest = next_is.1

      -- the place of its string
      next_place : PlacedAt i at (r - at)
      next_place = record {
        length_is = sym (length_part at (r - at) text (omega (arith, e.starts, e.within))) ∙ ap (λ (s : List ℕ). length s) next_is.0;
        within = omega (arith, e.starts, e.within);
        string_is = next_is.0;
      }

      -- one string more
      pub placed-next : (starts lengths : List ℕ) → i < 8 → PlacedTo i starts lengths → PlacedTo (i + 1) (set starts i at) (set lengths i (r - at))
      placed-next starts lengths l p = record {
        eight_starts = length-set starts i at ∙ p.eight_starts;
        eight_lengths = length-set lengths i (r - at) ∙ p.eight_lengths;
        placed = λ h k. one h k (ℕ_discrete h i);
        none_past = λ h k. get_or-set_other lengths i h (r - at) 0 (λ q. absurd (omega (arith, q, k))) ∙ p.none_past h (omega (arith, k));
      }
        where
          one : (h : ℕ) → h < i + 1 → Dec (h ≡ i) → PlacedAt h (get_or (set starts i at) h 0) (get_or (set lengths i (r - at)) h 0)
          one h k (yes q) =
              let a : get_or (set starts i at) h 0 ≡ at = ap (λ (j : ℕ). get_or (set starts i at) j 0) q ∙ get_or-set_same starts i at 0 (omega (arith, p.eight_starts, l)) in
              let b : get_or (set lengths i (r - at)) h 0 ≡ r - at = ap (λ (j : ℕ). get_or (set lengths i (r - at)) j 0) q ∙ get_or-set_same lengths i (r - at) 0 (omega (arith, p.eight_lengths, l)) in
              subst (λ (x : ℕ). PlacedAt h x (get_or (set lengths i (r - at)) h 0)) (sym a)
              (subst (λ (y : ℕ). PlacedAt h at y) (sym b) (subst (λ (j : ℕ). PlacedAt j at (r - at)) (sym q) next_place))
          one h k (no q) =
              subst (λ (x : ℕ). PlacedAt h x (get_or (set lengths i (r - at)) h 0)) (sym (get_or-set_other starts i h at 0 q))
              (subst (λ (y : ℕ). PlacedAt h (get_or starts h 0) y) (sym (get_or-set_other lengths i h (r - at) 0 q)) (p.placed h (ne_lt h i k q)))
            where
              ne_lt : (h i : ℕ) → h < i + 1 → h ≢ i → h < i
              ne_lt h i k q = omega (arith, k, q)

  -- all of them, none too long
  pub placed-all : (count : ℕ) (starts lengths : List ℕ) → length t ≡ count → count ≤ 8 → all (λ s. leb (length s) max_string) t ≡ true → PlacedTo count starts lengths
      → Stands text t (record { count = count; starts = starts; lengths = lengths })
  placed-all count starts lengths n few fits p = record {
    eight_starts = p.eight_starts;
    eight_lengths = p.eight_lengths;
    count_is = sym n;
    few = omega (arith, n, few);
    length_is = λ h l. (p.placed h (omega (arith, n, l))).length_is;
    none_past = λ h l. p.none_past h (omega (arith, n, l));
    short = λ h. one h (decide (ltb h count));
    within = λ h l. (p.placed h (omega (arith, n, l))).within;
    string_is = λ h l. (p.placed h (omega (arith, n, l))).string_is;
  }
    where
      one : (h : ℕ) → (ltb h count ≡ true) ⊎ (ltb h count ≡ false) → get_or lengths h 0 ≤ max_string
      one h (inl e) =
          let l : h < count = ltb-true h count e in
          let k : h < length t = omega (arith, l, n) in
          let b : length (get_or t h []) ≤ max_string = leb-true (length (get_or t h [])) max_string (all_passes (λ s. leb (length s) max_string) t h fits k) in
          omega (arith, b, (p.placed h l).length_is)
      one h (inr e) = omega (arith, p.none_past h (ltb-false h count e))

-- a text has the strings of one tuple
pub same_tuple : (text : List ℕ) (t u : Tuple) → lines text ≡ ok t → lines text ≡ ok u → length t ≡ length u
same_tuple text t u e f = ap (λ (x : Tuple). length x) (ok_injective t u (sym e ∙ f))

-- the strings of a text that can be placed stand at the places found
pub placed_stands : (text : List ℕ) (t : Tuple) (count i : ℕ) (starts lengths : List ℕ) → Placeable text count → lines text ≡ ok t → i ≤ count → count ≤ i → PlacedTo text t i starts lengths
    → Stands text t (record { count = count; starts = starts; lengths = lengths })
placed_stands text t count i starts lengths p q a b w =
    let e : p.tuple ≡ t = ok_injective p.tuple t (sym p.lines_are ∙ q) in
    let k : i ≡ count = omega (arith, a, b) in
    placed-all text t count starts lengths (subst (λ (u : Tuple). length u ≡ count) e p.count_is) p.few
    (subst (λ (u : Tuple). all (λ s. leb (length s) max_string) u ≡ true) e p.sizes) (subst (λ (j : ℕ). PlacedTo text t j starts lengths) k w)
