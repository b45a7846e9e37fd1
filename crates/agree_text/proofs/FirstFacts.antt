-- Facts of the first line as a whole: its parts and the bytes of its pairs are what is read.
use mathlib.Core.Path.{◌≡◌, refl, sym, ap, ap₂, subst, ◌∙◌}
use mathlib.Core.Bool.{Bool, true, false}
use mathlib.Core.List.{List}
use Prim.Native.Nat.{ℕ, ◌+◌, ◌-◌, ◌*◌, ◌≤◌, ◌<◌}
use native.Mathlib.Omega.{arith}
use lib.Dec.{eqb, leb, leb→le}
use lib.ListN.{length, take, drop, get_or, length-drop}
use lib.Seq.{drop-drop, length-take-le}
use Rattle.automata.specs.Answer.{◌>>=◌, Answer, ok, refused, require, beside}
use Rattle.automata.specs.Refusal.{size, short, form}
use Rattle.automata.specs.TapePair.{TapePair}
use Rattle.automata.specs.Decimal.{decimal}
use Rattle.automata.specs.Sequence.{read_first}
use Rattle.automata.specs.AgreeText.{input_limit, shortest_line, pair_line, read_pairs}
use Rattle.automata.proofs.AnswerFacts.{bind_ok, beside-ok, bind-bind, refused≢ok}
use Rattle.automata.proofs.SequenceFacts.{first-enough, first-ok}
use Rattle.automata.specs.Layout.{entry_width, newline, pairs_column, pair_width}
use Rattle.table.specs.Answers.{refusal_number}
use Rattle.table.specs.Region.{splice}
use Rattle.table.specs.declared.answer.Refusal.{Refusal}
use Rattle.table.proofs.RegionFacts.{length_splice, take_splice_end}
use Rattle.text_store.specs.Recode.{recoded}
use Rattle.text_store.proofs.RecodeFacts.{recoded_take, length_recoded}
use Rattle.agree_line.specs.declared.line.LineParts.{LineParts}
use Rattle.agree_line.specs.LineParts.{PairLine}
use Rattle.std.specs.Prelude.{Ok, Err}
use Rattle.agree_line.specs.PairBytes.{pair_bytes}
use Rattle.agree_line.specs.PairColumns.{pairs_read, bytes_of_columns}
use Rattle.agree_line.specs.LineParts.{count_read, line_read, rest_read, parts_read, parts_as}
use Rattle.agree_text.specs.FirstLine.{line_bytes, FirstLine}
use Rattle.agree_line.proofs.PairFacts.{pair_sized, pairs_kept}
use Rattle.agree_line.proofs.LineFacts.{to_parts, line_is, count_known, places}

-- the number of pairs first, then the rest of the line
pub pairs_by_count : (x : List ℕ) → read_pairs x ≡ (count_read x >>= λ n. read_first (pair_line n) (drop pairs_column x))
unfolding read_pairs count_read
pairs_by_count x = go (leb (length x) input_limit) (leb shortest_line (length x)) refl
  where
    go : (a b : Bool) → leb shortest_line (length x) ≡ b
        → (require a size >>= λ s. require b short >>= λ l. read_first (decimal entry_width) x >>= λ n. read_first (pair_line n.0) n.1)
        ≡ ((require a size >>= λ s. require b short >>= λ l. (decimal entry_width).read (take entry_width x)) >>= λ n. read_first (pair_line n) (drop pairs_column x))
    go true true e =
        let h : shortest_line ≤ length x = leb→le shortest_line (length x) (rw e tt) in
        ap (λ (z : Answer (ℕ × List ℕ)). z >>= λ n. read_first (pair_line n.0) n.1) (first-enough (decimal entry_width) x (omega arith))
        ∙ bind-bind ((decimal entry_width).read (take entry_width x)) (λ a. ok (a, drop pairs_column x)) (λ n. read_first (pair_line n.0) n.1)
    go true false e = refl
    go false b e = refl

-- the bytes of the pairs, what follows
abbrev pub to_bytes : List TapePair × List ℕ → List ℕ × List ℕ
to_bytes p = (pair_bytes p.0, p.1)

bytes_by_count : (x : List ℕ) → line_bytes x ≡ (count_read x >>= (λ n. read_first (pair_line n) (drop pairs_column x)) >>= λ p. ok (to_bytes p))
unfolding line_bytes
bytes_by_count x = ap (λ (z : Answer (List TapePair × List ℕ)). z >>= λ p. ok (to_bytes p)) (pairs_by_count x)

-- where a part is refused, so is the line
first-refused : (x : List ℕ) (m : ℕ) → parts_read x ≡ refused m → line_bytes x ≡ refused m
unfolding parts_read rest_read
first-refused x m e = bytes_by_count x ∙ go (count_read x) e
  where
    inner : (n : ℕ) (r : Answer (List TapePair × List ℕ)) → (r >>= λ p. ok (to_parts n p)) ≡ refused m → (r >>= λ p. ok (to_bytes p)) ≡ refused m
    inner n (ok p) e = absurd (refused≢ok (sym e))
    inner n (refused j) e = let i : j ≡ m = cc in ap refused i

    go : (c : Answer ℕ) → (c >>= λ n. read_first (pair_line n) (drop pairs_column x) >>= λ p. ok (to_parts n p)) ≡ refused m
        → (c >>= (λ n. read_first (pair_line n) (drop pairs_column x)) >>= λ p. ok (to_bytes p)) ≡ refused m
    go (ok n) e = inner n (read_first (pair_line n) (drop pairs_column x)) e
    go (refused j) e = let i : j ≡ m = cc in ap refused i

-- ---- a line that is given

module _ (x : List ℕ) (n : ℕ) (p : List TapePair × List ℕ) (a : count_read x ≡ ok n) (b : read_first (pair_line n) (drop pairs_column x) ≡ ok p) where
  width_is : (pair_line n).width ≡ 1 + n * pair_width
  width_is = omega arith

  line_fits : shortest_line + n * pair_width ≤ length x
  line_fits =
      let f = first-ok (pair_line n) (drop pairs_column x) p b in
      let k = count_known x n a in
      let d = length-drop pairs_column x in
      let w = width_is in
      omega (arith, f.0, k, d, w)

  -- what follows the line
  rest_is : p.1 ≡ drop (shortest_line + n * pair_width) x
  rest_is =
      let w : pairs_column + (pair_line n).width ≡ shortest_line + n * pair_width = omega arith in
      (first-ok (pair_line n) (drop pairs_column x) p b).2 ∙ drop-drop (pair_line n).width pairs_column x ∙ ap (λ (i : ℕ). drop i x) w

  -- the places of the line behind the number of pairs
  abbrev line_places : List ℕ
  line_places = take (1 + n * pair_width) (drop pairs_column x)

  line_length : length line_places ≡ 1 + n * pair_width
  line_length = places n x (count_known x n a).1 line_fits

  pairs_read_lem : pairs_read n (take (n * pair_width) line_places) ≡ ok p.0
  unfolding line_read
  pairs_read_lem =
      let B = pairs_read n (take (n * pair_width) line_places) in
      let E = require (eqb (get_or line_places (n * pair_width) 0) newline) form in
      let r : line_read n line_places ≡ ok p.0 = ap (λ (i : ℕ). (pair_line n).read (take i (drop pairs_column x))) (sym width_is) ∙ (first-ok (pair_line n) (drop pairs_column x) p b).1 in
      let s = bind_ok (beside B E) (λ z. ok z.0) p.0 (sym (line_is n line_places line_length) ∙ r) in
      let t = beside-ok B E s.0 s.1 in
      let z : s.0.0 ≡ p.0 = cc s.2 in
      t.0 ∙ ap ok z

  -- the bytes of its pairs
  bytes_are : pair_bytes p.0 ≡ recoded bytes_of_columns pair_width n (take (shortest_line + n * pair_width - pairs_column) (drop pairs_column x))
  bytes_are =
      let i : shortest_line + n * pair_width - pairs_column ≡ 1 + n * pair_width = omega arith in
      let l = line_length in
      let o : n * pair_width ≤ length (take (n * pair_width) line_places) = let q = length-take-le (n * pair_width) line_places (omega arith) in omega arith in
      sym (pairs_kept n (take (n * pair_width) line_places) p.0 o pairs_read_lem) ∙ recoded_take bytes_of_columns pair_width n line_places
      ∙ ap (λ (k : ℕ). recoded bytes_of_columns pair_width n (take k (drop pairs_column x))) (sym i)

  line_of : line_bytes x ≡ ok (recoded bytes_of_columns pair_width n (take (shortest_line + n * pair_width - pairs_column) (drop pairs_column x)), drop (shortest_line + n * pair_width) x)
  line_of =
      bytes_by_count x
      ∙ ap (λ (c : Answer ℕ). c >>= (λ n. read_first (pair_line n) (drop pairs_column x)) >>= λ p. ok (to_bytes p)) a
      ∙ ap (λ (r : Answer (List TapePair × List ℕ)). r >>= λ p. ok (to_bytes p)) b
      ∙ ap₂ (λ (u v : List ℕ). ok (u, v)) bytes_are rest_is

-- what is told of a line that is given: its bounds, and what is read
pub record Told (x : List ℕ) (q : ℕ × ℕ) : Type 0 where
  pub few : q.0 < 1000
  pub next_is : q.1 ≡ shortest_line + q.0 * pair_width
  pub next_fits : q.1 ≤ length x
  pub bytes : line_bytes x ≡ ok (recoded bytes_of_columns pair_width q.0 (take (q.1 - pairs_column) (drop pairs_column x)), drop q.1 x)

-- the parts of a line that are given say what was read
pub told : (x : List ℕ) (q : ℕ × ℕ) → parts_read x ≡ ok q → Told x q
unfolding parts_read rest_read
told x q e =
    let s = bind_ok (count_read x) (λ n. read_first (pair_line n) (drop pairs_column x) >>= λ p. ok (to_parts n p)) q e in
    let t = bind_ok (read_first (pair_line s.0) (drop pairs_column x)) (λ p. ok (to_parts s.0 p)) q s.2 in
    let z : to_parts s.0 t.0 ≡ q = cc t.2 in
    subst (Told x) z (record {
      few = (count_known x s.0 s.1).0;
      next_is = refl;
      next_fits = line_fits x s.0 t.0 s.1 t.1;
      bytes = line_of x s.0 t.0 s.1 t.1;
    })

-- ---- what is answered

-- a refusal is told as it is
pub line_refused : (x bytes : List ℕ) (r : PairLine) (k : Refusal) → parts_as r ≡ parts_read x → r ≡ Err k → FirstLine x bytes r
line_refused x bytes r k e f = subst (FirstLine x bytes) (sym f) (record {
  answer = sym (first-refused x (refusal_number k) (sym e ∙ ap parts_as f));
  count_fits = omega arith;
  bytes_fit = omega arith;
  next_fits = omega arith;
})

module _ (x : List ℕ) (r : PairLine) (p : LineParts) (e : parts_as r ≡ parts_read x) (f : r ≡ Ok p) where
  -- what is told of the line
  pub line-told : Told x (p.count, p.next)
  line-told = told x (p.count, p.next) (sym e ∙ ap parts_as f)

  module _ (bytes : List ℕ) (l : length bytes ≡ 2997) where
    -- the pairs stand in the line and fit the bytes
    pub line-room : (p.count * pair_width ≤ length (take (p.next - pairs_column) (drop pairs_column x))) × (p.count * 3 ≤ length bytes)
    line-room =
        let t = line-told in
        let d = length-drop pairs_column x in
        let q = length-take-le (p.next - pairs_column) (drop pairs_column x) (omega (arith, t.next_fits, t.next_is, d)) in
        (omega (arith, q, t.next_is), omega (arith, t.few, l))

    -- with the bytes of its pairs stored, the line is told as it is read
    pub line-given : (after : List ℕ) → after ≡ splice 0 (recoded bytes_of_columns pair_width p.count (take (p.next - pairs_column) (drop pairs_column x))) bytes → FirstLine x after (Ok p)
    line-given after g =
        let t = line-told in
        let ys = recoded bytes_of_columns pair_width p.count (take (p.next - pairs_column) (drop pairs_column x)) in
        let m : length ys ≡ p.count * 3 = length_recoded bytes_of_columns pair_width 3 pair_sized p.count (take (p.next - pairs_column) (drop pairs_column x)) line-room.0 in
        let c : 3 * p.count ≡ 0 + length ys = omega arith in
        let k : take (3 * p.count) after ≡ ys = ap (take (3 * p.count)) g ∙ ap (λ (i : ℕ). take i (splice 0 ys bytes)) c ∙ take_splice_end 0 ys bytes (omega arith) in
        record {
          answer = ap (λ (z : List ℕ). ok (z, drop p.next x)) k ∙ sym t.bytes;
          count_fits = let h = t.few in omega arith;
          bytes_fit = let h = t.few in let o = ap length g ∙ length_splice 0 ys bytes (omega arith) in omega arith;
          next_fits = t.next_fits;
        }
