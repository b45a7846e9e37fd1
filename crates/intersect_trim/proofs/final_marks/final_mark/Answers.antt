use mathlib.Core.Path.{sym, ap, ◌∙◌}
use mir.Val.{bool_byte}
use Rattle.intersect_trim.proofs.RowFacts.{byte_bit, mark_leftover, mark_plain}
use Rattle.intersect_trim.proofs.final_marks.final_mark.Goals as goal
use Rattle.intersect_trim.proofs.final_marks.final_mark.Goals.{then-row_plain, else-row_plain}

pub returns : goal.returns
returns c = c.from.ensures ∙ elim c.if-row_plain.branch [
  | then-row_plain w ↦ ap bool_byte w.from-is ∙ byte_bit _ ∙ mark_plain _ _ _ (sym w.if-row_plain.true ∙ c.row_plain.ensures) w.record_place.ensures
  | else-row_plain w ↦ ap bool_byte (w.from-is ∙ w.if-row_plain.false) ∙ mark_leftover _ _ (sym w.if-row_plain.false ∙ c.row_plain.ensures)
]
