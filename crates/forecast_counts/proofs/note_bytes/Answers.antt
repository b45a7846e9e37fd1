use mathlib.Core.Path.{◌∙◌}
use native.Mathlib.Omega.{arith}
use Rattle.forecast_counts.proofs.SymbolFacts.{bytes_turn, bytes_end}
use Rattle.forecast_counts.proofs.note_bytes.Goals as goal

pub loop-b-preserved : goal.loop-b-preserved
loop-b-preserved c = bytes_turn _ _ c.loop-b.b-index _ (omega arith) (c.from.ensures ∙ c.read_symbol.ensures) ∙ c.loop-b.invariant

pub returns : goal.returns
returns c = bytes_end _ _ c.loop-b.b-index (omega arith) ∙ c.loop-b.invariant
