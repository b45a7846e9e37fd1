-- The symbols of labels and strings (document 01): A to Z and 0 to 9, as text bytes, numbered 0 to 35 in that order.
use Rattle.std.specs.Prelude.{Bool, ℕ, ◌+◌, ◌-◌, leb}
use Rattle.std.proofs.Math.Option.{Option, none, some}
use Rattle.automata.specs.Lists.{if, and, or}

-- the bytes of A to Z, and of 0 to 9
abbrev pub is_letter : ℕ → Bool
is_letter b = and (leb 65 b) (leb b 90)

abbrev pub is_digit : ℕ → Bool
is_digit b = and (leb 48 b) (leb b 57)

-- a byte that is a symbol
abbrev pub is_symbol : ℕ → Bool
is_symbol b = or (is_letter b) (is_digit b)

-- the number of a byte's symbol, or none
unfoldable pub symbol_number : ℕ → Option ℕ
symbol_number b = if (is_letter b) (some (b - 65)) (if (is_digit b) (some (26 + (b - 48))) none)
