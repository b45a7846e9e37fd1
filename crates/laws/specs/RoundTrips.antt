-- Round trips of the calls `write` and `read`, as one claim.
use Rattle.std.specs.Prelude.{◌≡◌, List, ℕ, ◌≤◌, length, take}
use Rattle.automata.specs.Answer.{ok}
use Rattle.automata.specs.Memory.{Memory, decode_table}
use Rattle.automata.specs.Calls.Outcome.{Slices, space_of, given, held}
use Rattle.automata.specs.Calls.Read.{read_outcome}
use Rattle.automata.specs.Calls.Write.{write_outcome}

-- the text that `write` left of the table m: so many bytes of the output
pub record Wrote (m : Memory) (x : List ℕ) : Type 0 where
  pub output : List ℕ
  pub count : ℕ
  pub told : (write_outcome m output).answer ≡ ok count
  pub left : take count (write_outcome m output).output ≡ x

-- the table that `read` gave of the text x
pub record WasRead (x : List ℕ) (r : Memory) : Type 0 where
  pub space : Slices
  pub gave : given (read_outcome x space) ≡ ok r

-- Writing and reading are inverse to each other.
pub record RoundTrips : Type 0 where
  -- a written table reads back the same, where there is space for it
  pub back : (m : Memory) (x : List ℕ) (s : Slices) → Wrote m x → m.states ≤ (space_of s).states → m.arcs ≤ (space_of s).arcs
      → held (read_outcome x s) ≡ decode_table m
  -- no other text is read as that table
  pub no_other : (m : Memory) (x y : List ℕ) (r : Memory) → Wrote m x → WasRead y r → decode_table r ≡ decode_table m → y ≡ x
  -- two texts that are read as the same table are the same
  pub one_text : (x y : List ℕ) (r k : Memory) → WasRead x r → WasRead y k → decode_table r ≡ decode_table k → x ≡ y
  -- a table that was read is written as the text that was read, into any output as long
  pub again : (x : List ℕ) (r : Memory) (output : List ℕ) → WasRead x r → length x ≤ length output
      → ((write_outcome r output).answer ≡ ok (length x)) × (take (length x) (write_outcome r output).output ≡ x)
