-- Facts of the lines of a text: a byte of a line, its end, and what a line is to the number and the tests of all
-- strings.
use mathlib.Core.Path.{◌≡◌, refl, sym, ap, ap₂, ◌∙◌}
use mathlib.Core.Logic.{◌⊎◌, inl, inr}
use mathlib.Core.Bool.{Bool, true, false}
use mathlib.Core.List.{List, [], ◌∷◌, ◌++◌}
use Prim.Native.Nat.{ℕ, suc, ◌+◌, ◌-◌, ◌≤◌, ◌<◌}
use native.Mathlib.Omega.{arith}
use native.Mathlib.Numerals.{add-one}
use lib.Dec.{eqb, leb}
use lib.ListN.{length, get_or, drop, drop_of_length-le}
use lib.Seq.{drop-cons}
use borrow.Author.Tests.{eq-eqb, ne_eqb, eqb-true, eqb-false, le-leb, lt-leb}
use Rattle.automata.specs.Lists.{and, all}
use Rattle.automata.specs.Answer.{◌>>=◌, Answer, ok, refused, forget}
use Rattle.automata.specs.Automaton.{Tuple}
use Rattle.automata.specs.Calls.Lookup.{lines_from, lines}
use Rattle.automata.proofs.AnswerFacts.{refused≢ok}
use Rattle.automata.proofs.TestFacts.{decide}
use Rattle.automata.specs.Limits.{max_string}
use Rattle.automata.specs.Layout.{newline}
use Rattle.table.specs.Region.{part}
use Rattle.table.proofs.PartFacts.{length_part, part_zero, part_suc, part-add}
use Rattle.lookup_tuple.specs.Lines.{lines_at, LineEnd, counted, every}

-- all lines are those from the start on
pub lines_at_lem : (text : List ℕ) → lines_at 0 text ≡ lines text
unfolding lines_at lines
lines_at_lem text = refl

-- no line is left at the end
pub lines_end : (text : List ℕ) (at : ℕ) → length text ≤ at → lines_at at text ≡ ok []
unfolding lines_at
lines_end text at h = ap (lines_from []) (drop_of_length-le text h)

-- ---- the bytes of a line

-- a region and the byte behind it
part_snoc : (from i : ℕ) (text : List ℕ) → from ≤ i → i < length text → part from (i + 1 - from) text ≡ part from (i - from) text ++ (get_or text i 0 ∷ [])
part_snoc from i text h k =
    let e : i + 1 - from ≡ i - from + 1 = omega arith in
    let f : from + (i - from) ≡ i = omega arith in
    ap (λ (n : ℕ). part from n text) e
    ∙ part-add from (i - from) 1 text
    ∙ ap (λ (n : ℕ). part from (i - from) text ++ part n 1 text) f
    ∙ ap (λ (y : List ℕ). part from (i - from) text ++ y) (part_suc i 0 text 0 k ∙ ap (λ (y : List ℕ). get_or text i 0 ∷ y) (part_zero (i + 1) text))

-- a line that has just begun
pub line-starts : (text : List ℕ) (from : ℕ) → lines_from (part from (from - from) text) (drop from text) ≡ lines_at from text
unfolding lines_at
line-starts text from =
    let e : from - from ≡ 0 = omega arith in
    ap (λ (n : ℕ). lines_from (part from n text) (drop from text)) e ∙ ap (λ (s : List ℕ). lines_from s (drop from text)) (part_zero from text)

-- what is read where a byte does not end the line, and where it does
byte_on : (s : List ℕ) (b : ℕ) (x : List ℕ) → eqb b newline ≡ false → lines_from s (b ∷ x) ≡ lines_from (s ++ (b ∷ [])) x
byte_on s b x e = ap (λ (q : Bool). elim q as (λ _. Answer Tuple) [ true ↦ lines_from [] x >>= λ t. ok (s ∷ t) | false ↦ lines_from (s ++ (b ∷ [])) x ]) e

byte-ends : (s : List ℕ) (b : ℕ) (x : List ℕ) → eqb b newline ≡ true → lines_from s (b ∷ x) ≡ (lines_from [] x >>= λ t. ok (s ∷ t))
byte-ends s b x e = ap (λ (q : Bool). elim q as (λ _. Answer Tuple) [ true ↦ lines_from [] x >>= λ t. ok (s ∷ t) | false ↦ lines_from (s ++ (b ∷ [])) x ]) e

-- a byte that does not end it
pub line_turn : (text : List ℕ) (from i : ℕ) → from ≤ i → i < length text → (get_or text i 0 ≡ newline → ⊥)
    → lines_from (part from (i + 1 - from) text) (drop (i + 1) text) ≡ lines_from (part from (i - from) text) (drop i text)
line_turn text from i h k e =
    let n : i + 1 ≡ suc i = add-one i in
    ap₂ (λ (s x : List ℕ). lines_from s x) (part_snoc from i text h k) (ap (λ (j : ℕ). drop j text) n)
    ∙ sym (ap (lines_from (part from (i - from) text)) (drop-cons text i 0 k) ∙ byte_on (part from (i - from) text) (get_or text i 0) (drop (suc i) text) (ne_eqb (get_or text i 0) newline e))

-- ---- a line that has ended

module _ (text : List ℕ) (at r : ℕ) (e : LineEnd text at r) where
  -- its string stands before the others
  pub line-next : r < length text → lines_at at text ≡ (lines_at (r + 1) text >>= λ t. ok (part at (r - at) text ∷ t))
  unfolding lines_at
  line-next h =
      let b : eqb (get_or text r 0) newline ≡ true = eq-eqb (get_or text r 0) newline (e.ends h) in
      sym e.unbroken
      ∙ ap (lines_from (part at (r - at) text)) (drop-cons text r 0 h ∙ ap (λ (n : ℕ). get_or text r 0 ∷ drop n text) (sym (add-one r)))
      ∙ byte-ends (part at (r - at) text) (get_or text r 0) (drop (r + 1) text) b

  -- a line without byte 10
  pub line_open : at < length text → r ≡ length text → lines_at at text ≡ refused 1
  line_open h k =
      sym e.unbroken ∙ ap (lines_from (part at (r - at) text)) (drop_of_length-le text {i = r} (omega (arith, k)))
      ∙ go (part at (r - at) text) (length_part at (r - at) text (omega (arith, k, h)))
    where
      go : (s : List ℕ) → length s ≡ r - at → lines_from s [] ≡ refused 1
      go [] l = absurd (omega (arith, l, k, h))
      go (c ∷ s) l = refl

  -- where no line is refused there is none
  pub line_closed : at < length text → forget (lines_at at text) ≡ ok tt → r < length text
  line_closed h f = go (decide (eqb r (length text)))
    where
      go : (eqb r (length text) ≡ true) ⊎ (eqb r (length text) ≡ false) → r < length text
      go (inl k) = absurd (refused≢ok (ap forget (sym (line_open h (eqb-true r (length text) k))) ∙ f))
      go (inr k) = let n : r ≡ length text → ⊥ = eqb-false r (length text) k in omega (arith, n, e.within)

-- ---- one line more

module _ (a b : Answer Tuple) (s : List ℕ) (e : a ≡ (b >>= λ t. ok (s ∷ t))) where
  -- it is counted
  count_more : (n : ℕ) → counted b (n + 1) ≡ counted a n
  count_more n = go b ∙ ap (λ (x : Answer Tuple). counted x n) (sym e)
    where
      go : (b : Answer Tuple) → counted b (n + 1) ≡ counted (b >>= λ t. ok (s ∷ t)) n
      go (ok t) = ap ok (omega arith)
      go (refused k) = refl

  -- what follows a line is refused where the lines are
  closed_more : forget a ≡ ok tt → forget b ≡ ok tt
  closed_more f = go b (ap forget (sym e) ∙ f)
    where
      go : (b : Answer Tuple) → forget (b >>= λ t. ok (s ∷ t)) ≡ ok tt → forget b ≡ ok tt
      go (ok t) f = refl
      go (refused k) f = f

  module _ (p : List ℕ → Bool) where
    -- a string that passes
    every_more : p s ≡ true → every p b ≡ every p a
    every_more f = go b ∙ ap (every p) (sym e)
      where
        go : (b : Answer Tuple) → every p b ≡ every p (b >>= λ t. ok (s ∷ t))
        go (ok t) = ap (λ (x : Bool). ok (and x (all p t))) (sym f)
        go (refused k) = refl

    -- one that fails
    every_fails : p s ≡ false → forget a ≡ ok tt → ok false ≡ every p a
    every_fails f g = go b (ap forget (sym e) ∙ g) ∙ ap (every p) (sym e)
      where
        go : (b : Answer Tuple) → forget (b >>= λ t. ok (s ∷ t)) ≡ ok tt → ok false ≡ every p (b >>= λ t. ok (s ∷ t))
        go (ok t) g = ap (λ (x : Bool). ok (and x (all p t))) (sym f)
        go (refused k) g = absurd (refused≢ok g)

-- ---- a turn of a loop over lines

module _ (text : List ℕ) (at r : ℕ) (e : LineEnd text at r) where
  -- a line is counted
  pub count_turn : r < length text → (n : ℕ) → counted (lines_at (r + 1) text) (n + 1) ≡ counted (lines_at at text) n
  count_turn h n = count_more (lines_at at text) (lines_at (r + 1) text) (part at (r - at) text) (line-next text at r e h) n

  module _ (h : at < length text) (f : forget (lines_at at text) ≡ ok tt) where
    -- what follows is not refused either
    pub closed_turn : forget (lines_at (r + 1) text) ≡ ok tt
    closed_turn = closed_more (lines_at at text) (lines_at (r + 1) text) (part at (r - at) text) (line-next text at r e (line_closed text at r e h f)) f

    -- a string that passes a test
    pub every_turn : (p : List ℕ → Bool) → p (part at (r - at) text) ≡ true → every p (lines_at (r + 1) text) ≡ every p (lines_at at text)
    every_turn p g = every_more (lines_at at text) (lines_at (r + 1) text) (part at (r - at) text) (line-next text at r e (line_closed text at r e h f)) p g

    -- one that fails it
    pub every-stop : (p : List ℕ → Bool) → p (part at (r - at) text) ≡ false → ok false ≡ every p (lines_at at text)
    every-stop p g = every_fails (lines_at at text) (lines_at (r + 1) text) (part at (r - at) text) (line-next text at r e (line_closed text at r e h f)) p g f

-- ---- the start and the end of a loop over lines

-- none counted yet
pub count_start : (text : List ℕ) → counted (lines_at 0 text) 0 ≡ counted (lines text) 0
count_start text = ap (λ (a : Answer Tuple). counted a 0) (lines_at_lem text)

-- text after the last line
pub count_open : (text : List ℕ) (at r n : ℕ) → LineEnd text at r → at < length text → r ≡ length text → refused 1 ≡ counted (lines_at at text) n
count_open text at r n e h k = ap (λ (a : Answer Tuple). counted a n) (sym (line_open text at r e h k))

-- all counted
pub count_end : (text : List ℕ) (at n : ℕ) → length text ≤ at → ok n ≡ counted (lines_at at text) n
count_end text at n h = ap ok (omega arith) ∙ ap (λ (a : Answer Tuple). counted a n) (sym (lines_end text at h))

-- none tested yet
pub every-start : (text : List ℕ) (p : List ℕ → Bool) → every p (lines_at 0 text) ≡ every p (lines text)
every-start text p = ap (every p) (lines_at_lem text)

-- all passed
pub every_end : (text : List ℕ) (at : ℕ) (p : List ℕ → Bool) → length text ≤ at → ok true ≡ every p (lines_at at text)
every_end text at p h = ap (every p) (sym (lines_end text at h))

-- ---- the size of a line's string
module _ (text : List ℕ) (at r : ℕ) (e : LineEnd text at r) where
  line_length : length (part at (r - at) text) ≡ r - at
  line_length = length_part at (r - at) text (omega (arith, e.starts, e.within))

  pub size-over : max_string < r - at → leb (length (part at (r - at) text)) max_string ≡ false
  size-over h = lt-leb (length (part at (r - at) text)) max_string (omega (arith, line_length, h))

  pub size_fits : r - at ≤ max_string → leb (length (part at (r - at) text)) max_string ≡ true
  size_fits h = le-leb (length (part at (r - at) text)) max_string (omega (arith, line_length, h))
