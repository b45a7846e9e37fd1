use mathlib.Core.Path.{◌∙◌}
use Rattle.forecast_counts.proofs.SymbolFacts.{label_noted}
use Rattle.forecast_counts.proofs.note_label.Goals as goal

pub returns : goal.returns
returns c = label_noted _ _ _ _ _ _ _ (c.from-count.ensures ∙ c.label_length_at.ensures) c.label_place-from.ensures c.note_bytes.ensures
