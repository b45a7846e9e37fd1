-- Facts of the parts of a first line.
use mathlib.Core.Path.{◌≡◌, sym, ap, ◌∙◌}
use mathlib.Core.List.{List}
use Prim.Native.Nat.{ℕ, ◌+◌, ◌-◌, ◌*◌, ◌≤◌, ◌<◌}
use native.Mathlib.Omega.{arith}
use lib.Dec.{eqb, leb, leb→le}
use lib.ListN.{length, take, drop, get_or, length-drop}
use lib.Seq.{length-take-le}
use borrow.Author.Tests.{le-leb, lt-leb}
use Rattle.automata.specs.Answer.{◌>>=◌, Answer, ok, refused, require, beside, forget}
use Rattle.automata.specs.Refusal.{size, short, form}
use Rattle.automata.specs.TapePair.{TapePair}
use Rattle.automata.specs.Decimal.{decimal}
use Rattle.automata.specs.Sequence.{read_first}
use Rattle.automata.specs.AgreeText.{input_limit, shortest_line, pair_line}
use Rattle.automata.proofs.AnswerFacts.{require-ok, forget_map, forget_unit, refused_map}
use Rattle.automata.proofs.NumberFacts.{decimal_lawful}
use Rattle.automata.specs.Layout.{newline, entry_width, pairs_column, pair_width}
use Rattle.table.specs.Answers.{Judged, judged_as}
use Rattle.table.proofs.AnswerFacts.{both_judged, forget-ok}
use Rattle.table.proofs.SequenceFacts.{first_short, first_value}
use Rattle.text_columns.specs.Columns.{Number, number_as, read_decimal}
use Rattle.text_lines.proofs.LineFacts.{line_end_is}
use Rattle.agree_line.specs.PairColumns.{pairs_read}
use Rattle.agree_line.specs.LineParts.{count_read, line_read, rest_read, parts_read}
use Rattle.agree_line.proofs.PairFacts.{decimal_at}

-- ---- the number of pairs
module _ (x : List ℕ) where
  -- too long an input
  pub count_long : 65536 < length x → refused 3 ≡ count_read x
  unfolding count_read
  count_long h = rw (lt-leb (length x) 65536 h)

  module _ (g : length x ≤ 65536) where
    -- an input too short for a first line
    pub count_short : length x < shortest_line → refused 1 ≡ count_read x
    unfolding count_read
    count_short h = rw (le-leb (length x) 65536 g, lt-leb shortest_line (length x) h)

    -- otherwise the first three columns
    pub count_value : (r : Number) → shortest_line ≤ length x → number_as r ≡ read_decimal (take entry_width x) → number_as r ≡ count_read x
    unfolding count_read
    count_value r h e = rw (le-leb (length x) 65536 g, le-leb shortest_line (length x) h) (e ∙ decimal_at entry_width (take entry_width x) (length-take-le entry_width x (omega arith)))

  -- a number of pairs fits its columns, and then there are the bytes of the shortest line
  pub count_known : (n : ℕ) → count_read x ≡ ok n → (n < 1000) × (shortest_line ≤ length x)
  unfolding count_read
  count_known n e =
      let s = require-ok (leb (length x) input_limit) size (λ s. require (leb shortest_line (length x)) short >>= λ l. (decimal entry_width).read (take entry_width x)) n e in
      let l = require-ok (leb shortest_line (length x)) short (λ l. (decimal entry_width).read (take entry_width x)) n s.1 in
      let h : shortest_line ≤ length x = leb→le shortest_line (length x) l.0 in
      (((decimal_lawful entry_width).only (take entry_width x) n (length-take-le entry_width x (omega arith)) l.1).0, h)

-- ---- the line behind it

-- the pairs and the end, side by side
pub line_is : (n : ℕ) (x : List ℕ) → length x ≡ 1 + n * pair_width
    → line_read n x ≡ (beside (pairs_read n (take (n * pair_width) x)) (require (eqb (get_or x (n * pair_width) 0) newline) form) >>= λ p. ok p.0)
unfolding line_read pairs_read
line_is n x l = rw (line_end_is (n * pair_width) x (omega arith))

module _ (n : ℕ) (x : List ℕ) (l : length x ≡ 1 + n * pair_width) (jp je j : Judged) (pp : judged_as jp ≡ forget (pairs_read n (take (n * pair_width - 0) x)))
    (pe : judged_as je ≡ require (eqb (get_or x (n * pair_width) 0) newline) form) (q : judged_as j ≡ forget (beside (judged_as jp) (judged_as je))) where
  -- the parts judged side by side are the line judged
  pub line_judged : judged_as j ≡ forget (line_read n x)
  line_judged =
      let B = pairs_read n (take (n * pair_width) x) in
      let E = require (eqb (get_or x (n * pair_width) 0) newline) form in
      let w : n * pair_width - 0 ≡ n * pair_width = omega arith in
      let b : judged_as jp ≡ forget B = pp ∙ ap (λ (k : ℕ). forget (pairs_read n (take k x))) w in
      both_judged (judged_as jp) (judged_as je) (judged_as j) B E b (pe ∙ sym (forget_unit E)) q
      ∙ sym (ap forget (line_is n x l) ∙ forget_map (beside B E) (λ p. p.0))

-- ---- the rest of a line of n pairs

abbrev pub to_parts : ℕ → List TapePair × List ℕ → ℕ × ℕ
to_parts n p = (n, shortest_line + n * pair_width)

module _ (n : ℕ) (x : List ℕ) (h : shortest_line ≤ length x) where
  line-width : (pair_line n).width ≡ 1 + n * pair_width
  line-width = omega arith

  behind : length (drop pairs_column x) ≡ length x - pairs_column
  behind = length-drop pairs_column x

  -- an input too short for so many pairs
  pub rest_short : length x < shortest_line + n * pair_width → refused 1 ≡ rest_read n x
  unfolding rest_read
  rest_short k =
      let w = line-width in
      let b = behind in
      refused_map (read_first (pair_line n) (drop pairs_column x)) (to_parts n) 1 (sym (first_short (pair_line n) (drop pairs_column x) (omega arith)))

  module _ (k : shortest_line + n * pair_width ≤ length x) where
    -- the places of the line behind the number of pairs
    pub places : length (take (1 + n * pair_width) (drop pairs_column x)) ≡ 1 + n * pair_width
    places = let b = behind in length-take-le (1 + n * pair_width) (drop pairs_column x) (omega arith)

    line_first : forget (line_read n (take (1 + n * pair_width) (drop pairs_column x))) ≡ forget (read_first (pair_line n) (drop pairs_column x))
    unfolding line_read
    line_first =
        let w = line-width in
        let b = behind in
        ap (λ (m : ℕ). forget ((pair_line n).read (take m (drop pairs_column x)))) (sym w) ∙ first_value (pair_line n) (drop pairs_column x) (omega arith)

    module _ (j : Answer (Unit {0})) (q : j ≡ forget (line_read n (take (shortest_line + n * pair_width - pairs_column) (drop pairs_column x)))) where
      judged_first : j ≡ forget (read_first (pair_line n) (drop pairs_column x))
      judged_first =
          let w : shortest_line + n * pair_width - pairs_column ≡ 1 + n * pair_width = omega arith in
          q ∙ ap (λ (m : ℕ). forget (line_read n (take m (drop pairs_column x)))) w ∙ line_first

      -- a line that is refused
      pub rest_refused : (r : ℕ) → j ≡ refused r → refused r ≡ rest_read n x
      unfolding rest_read
      rest_refused r f = refused_map (read_first (pair_line n) (drop pairs_column x)) (to_parts n) r (sym judged_first ∙ f)

      -- a line that is read
      pub rest_fine : j ≡ ok tt → ok (n, shortest_line + n * pair_width) ≡ rest_read n x
      unfolding rest_read
      rest_fine f =
          let g = forget-ok (read_first (pair_line n) (drop pairs_column x)) (sym judged_first ∙ f) in
          sym (ap (λ (i : Answer (List TapePair × List ℕ)). i >>= λ a. ok (to_parts n a)) g.1)

-- ---- the first line
module _ (x : List ℕ) where
  -- a number of pairs that is refused decides
  pub parts_refused : (k : ℕ) → refused k ≡ count_read x → refused k ≡ parts_read x
  unfolding parts_read
  parts_refused k e = rw (← e)

  -- the bounds of a number of pairs
  pub parts_counted : (n : ℕ) → ok n ≡ count_read x → (n < 1000) × (shortest_line ≤ length x)
  parts_counted n e = count_known x n (sym e)

  -- otherwise the rest of the line decides
  pub parts_value : (n : ℕ) → ok n ≡ count_read x → rest_read n x ≡ parts_read x
  unfolding parts_read
  parts_value n e = rw (← e)
