-- Numbers in a fixed number of bytes, the lowest byte first.
use Rattle.std.specs.Prelude.{ℕ, zero, suc, ◌+◌, ◌*◌, ◌/◌, ◌%◌, ltb}
use Rattle.automata.specs.Answer.{ok}
use Rattle.automata.specs.Refusal.{form}
use Rattle.automata.specs.Format.{place, Format, pair, convert, restrict, zero_places}

-- one byte; an element above 255 is form
abbrev pub byte : Format ℕ ℕ
byte = restrict (λ b. ltb b 256) form place

-- k bytes, the lowest first
abbrev pub little : ℕ → Format ℕ ℕ
little zero = zero_places
little (suc k) = convert (λ p. ok (p.1 * 256 + p.0)) (λ n. (n % 256, n / 256)) (pair byte (little k))
