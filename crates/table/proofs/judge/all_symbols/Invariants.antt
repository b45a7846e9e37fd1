use mathlib.Core.Path.{◌≡◌}
use lib.ListN.{drop}
use Rattle.automata.specs.Lists.{all}
use Rattle.automata.specs.Symbols.{is_symbol}
use Rattle.table.proofs.judge.all_symbols.Given as goal

abbrev pub invariant-loop-b : goal.invariant-loop-b
invariant-loop-b l = all is_symbol (drop l.b-index l.bytes) ≡ all is_symbol l.bytes
