use Rattle.forecast_counts.proofs.SymbolFacts.{symbols-counted}
use native.Mathlib.Omega.{arith}
use Rattle.forecast_counts.proofs.symbols_used.Goals as goal

pub returns : goal.returns
returns c =
    let s = c in
    symbols-counted s.args.first s.args.second s.args.count s.args.arcs.now _ _ (λ i. omega (arith, c.type_inv.arcs i)) c.note_arcs.ensures c.count_marks.ensures
