use Rattle.text_print.proofs.PrintedFacts.{arc_sized}
use Rattle.text_print.specs.Printed.{line_of_arc}
use Rattle.text_print.proofs.print.print_arcs.Goals as goal

pub returns : goal.returns
returns c = c.write_parts.ensures (line_of_arc c.args.tapes) (record { sized = λ y e. arc_sized c.args.tapes y e c.requires.0.1; gives = λ part out left at p. p })
