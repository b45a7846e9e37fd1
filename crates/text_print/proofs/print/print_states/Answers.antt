use Rattle.text_print.proofs.PrintedFacts.{state_sized}
use Rattle.text_print.specs.Printed.{line_of_state}
use Rattle.text_print.proofs.print.print_states.Goals as goal

pub returns : goal.returns
returns c = c.write_parts.ensures line_of_state (record { sized = state_sized; gives = λ part out left at p. p })
