-- The call `drop_tapes` (document 01: dropping), whose set of tapes is the mask of a byte.
use Rattle.std.specs.Prelude.{Bool, ℕ, zero, suc, ◌+◌, ◌*◌, ◌/◌, ◌%◌, ◌^◌, eqb}
use Rattle.automata.specs.Limits.{max_tapes}
use Rattle.automata.specs.Lists.{if}
use Rattle.automata.specs.Answer.{◌>>=◌, Answer}
use Rattle.automata.specs.Space.{Space}
use Rattle.automata.specs.Automaton.{Automaton}
use Rattle.automata.specs.Memory.{Memory, decode_table}
use Rattle.automata.specs.Projection.{drop_tapes}
use Rattle.automata.specs.Calls.Outcome.{Slices, space_of, Made, put}

-- "the set is a u8 mask": place k, that is tape k + 1, is in the set where bit k is 1
abbrev pub in_mask : ℕ → ℕ → Bool
in_mask mask k = eqb (mask / 2 ^ k % 2) 1

-- the number whose bits mark a set of the first n places
abbrev pub mask_bits : ℕ → (ℕ → Bool) → ℕ
mask_bits zero d = 0
mask_bits (suc n) d = if (d zero) 1 0 + 2 * mask_bits n (λ k. d (suc k))

-- the mask of a set: eight places
unfoldable pub mask_of : (ℕ → Bool) → ℕ
mask_of d = mask_bits max_tapes d

-- the table; then "a tape not in 1..n" or "none left" (5), 8, 9
unfoldable pub drop_answer : Memory → ℕ → Space → Answer (Automaton ℕ)
drop_answer table mask space = do
  A ← decode_table table
  drop_tapes space (in_mask mask) A

-- the whole outcome
unfoldable pub drop_outcome : Memory → ℕ → Slices → Made
drop_outcome table mask result = put (drop_answer table mask (space_of result)) result
