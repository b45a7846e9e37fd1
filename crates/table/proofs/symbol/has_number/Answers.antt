use Rattle.table.proofs.SymbolFacts.{symbol_test}
use Rattle.table.proofs.symbol.has_number.Goals as goal

pub returns : goal.returns
returns c = symbol_test c.args.b _ c.entry.ensures
