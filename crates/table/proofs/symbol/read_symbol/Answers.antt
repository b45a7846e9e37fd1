use native.Mathlib.Omega.{arith}
use Rattle.table.proofs.SymbolFacts.{read_I, read_O, read_other}
use Rattle.table.proofs.symbol.read_symbol.Goals as goal

pub returns-in-73 : goal.returns-in-73
returns-in-73 c = read_I _ c.in-73.is

pub returns-in-79 : goal.returns-in-79
returns-in-79 c = read_O _ c.in-79.is

pub returns-in_default : goal.returns-in_default
returns-in_default c = read_other _ (omega arith) (omega arith)
