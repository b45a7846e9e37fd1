use Rattle.text_print.proofs.PrintedFacts.{label_sized}
use Rattle.text_print.specs.Printed.{columns_of_label}
use Rattle.text_print.proofs.print.print_labels.Goals as goal

pub returns : goal.returns
returns c = c.write_parts.ensures columns_of_label (record { sized = label_sized; gives = λ part out left at p. p })
