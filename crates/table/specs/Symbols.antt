-- What the number of a symbol by value stands for.
use Rattle.std.proofs.Math.Option.{Option, none, some}
use Rattle.std.specs.Prelude.{ℕ}
use Rattle.automata.specs.Symbols.{symbol_number}

-- the entry of the table for a symbol number, 255 for none
abbrev pub entry_of : Option ℕ → ℕ
entry_of none = 255
entry_of (some n) = n

-- the entry for a byte
abbrev pub symbol_entry : ℕ → ℕ
symbol_entry b = entry_of (symbol_number b)
