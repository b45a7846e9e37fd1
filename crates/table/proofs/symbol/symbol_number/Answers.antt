use Rattle.table.proofs.SymbolFacts.{no_symbol}
use Rattle.table.proofs.symbol.symbol_number.Goals as goal

pub returns-in-255 : goal.returns-in-255
returns-in-255 c = no_symbol c.args.b _ c.entry.ensures c.in-255.is
