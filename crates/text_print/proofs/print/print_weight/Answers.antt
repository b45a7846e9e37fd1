use Rattle.text_print.proofs.PrintedFacts.{absent_printed, present_printed}
use Rattle.text_print.proofs.print.print_weight.Goals as goal

pub returns-then-weight-eq-ABSENT : goal.returns-then-weight-eq-ABSENT
returns-then-weight-eq-ABSENT c = let s = c in absent_printed s.args.at s.args.weight.now _ _ c.if-weight-eq-ABSENT.true c.copy_into.ensures

pub returns-else-weight-eq-ABSENT : goal.returns-else-weight-eq-ABSENT
returns-else-weight-eq-ABSENT c = let s = c in present_printed s.args.at _ s.args.weight.now _ _ c.if-weight-eq-ABSENT.false c.get32.ensures c.write_decimal.ensures
