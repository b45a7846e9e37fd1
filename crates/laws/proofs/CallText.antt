-- Round trips of the calls `write` and `read`: a written table reads back the same, and no other text is read as that
-- table.
use mathlib.Core.Path.{◌≡◌, refl, sym, ◌∙◌, ap}
use mathlib.Core.List.{List}
use Prim.Native.Nat.{ℕ, ◌≤◌}
use lib.Dec.{le→leb}
use lib.ListN.{length, take, drop}
use lib.Seq.{take_at}
use Rattle.automata.specs.Answer.{ok}
use Rattle.automata.specs.Memory.{Memory, decode_table, table_of}
use Rattle.automata.specs.TableText.{write_table}
use Rattle.automata.specs.Calls.Outcome.{Slices, space_of, overwrite, print, given, held}
use Rattle.automata.specs.Calls.Work.{enough}
use Rattle.automata.specs.Calls.Read.{read_answer, read_outcome}
use Rattle.automata.specs.Calls.Write.{write_answer, write_outcome}
use Rattle.laws.specs.RoundTrips.{Wrote, WasRead, RoundTrips}
use Rattle.automata.proofs.AnswerFacts.{bind_pass, judge_pass, ok_injective}
use Rattle.laws.proofs.RoundTrip.{text-only}
use Rattle.laws.proofs.CallRoundTrip.{write_left, write_read}
use Rattle.laws.proofs.Lemmas.CallTables.{gave_table, read_fits}

-- a text from which the call gave a table is the text of that table, which stands in the bytes left
pub read_text : (x : List ℕ) (s : Slices) (r : Memory) → given (read_outcome x s) ≡ ok r → (decode_table r ≡ ok (table_of r)) × (x ≡ write_table (table_of r))
unfolding read_outcome read_answer
read_text x s r e =
    let (d, q, _) = gave_table (read_answer x (space_of s)) s r (read_fits x (space_of s)) e in
    (d, (text-only (space_of s).states (space_of s).arcs x (table_of r) q).1)

-- the text of the table that a text was read as
was_read : (x : List ℕ) (r : Memory) → WasRead x r → (decode_table r ≡ ok (table_of r)) × (x ≡ write_table (table_of r))
was_read x r h = read_text x h.space r h.gave

wrote : (m : Memory) (x : List ℕ) → Wrote m x → (decode_table m ≡ ok (table_of m)) × (x ≡ write_table (table_of m))
wrote m x h = let (d, p) = write_left m h.output h.count h.told in (d, sym h.left ∙ p)

-- memories that hold the same table
same_text : (m k : Memory) → decode_table m ≡ ok (table_of m) → decode_table k ≡ ok (table_of k) → decode_table m ≡ decode_table k
    → write_table (table_of m) ≡ write_table (table_of k)
same_text m k d f e = ap write_table (ok_injective (table_of m) (table_of k) (sym d ∙ e ∙ f))

-- the text of a table that fits is written
write_fits : (r : Memory) (x output : List ℕ) → decode_table r ≡ ok (table_of r) → x ≡ write_table (table_of r) → length x ≤ length output
    → ((write_outcome r output).answer ≡ ok (length x)) × (take (length x) (write_outcome r output).output ≡ x)
unfolding write_outcome write_answer print
write_fits r x output d p h =
    let fits : write_answer r output ≡ ok x = bind_pass (decode_table r) _ (table_of r) x d
    (judge_pass (enough (length (write_table (table_of r))) output) 13 (ok (write_table (table_of r))) x
    (le→leb (length (write_table (table_of r))) (length output) (rw (← p) h)) (ap ok (sym p))) in
    let whole : write_outcome r output ≡ record { answer = ok (length x); output = overwrite x output } = ap (λ z. print z output) fits in
    (ap (λ o. o.answer) whole, ap (λ o. take (length x) o.output) whole ∙ take_at x (drop (length x) output) (length x) refl)

-- the theorem
pub round_trips : RoundTrips
round_trips = record {
  back = λ m x s h hs ha.
      ap (λ y. held (read_outcome y s)) (sym h.left) ∙ write_read m h.output h.count s h.told hs ha ∙ sym (wrote m x h).0;
  no_other = λ m x y r h k e.
      let (d, p) = wrote m x h in
      let (f, q) = was_read y r k in
      q ∙ same_text r m f d e ∙ sym p;
  one_text = λ x y r k h i e.
      let (d, p) = was_read x r h in
      let (f, q) = was_read y k i in
      p ∙ same_text r k d f e ∙ sym q;
  again = λ x r output h l. let (d, p) = was_read x r h in write_fits r x output d p l;
}
