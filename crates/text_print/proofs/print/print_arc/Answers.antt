use Rattle.text_print.proofs.PrintedFacts.{arc_printed}
use Rattle.text_print.proofs.print.print_arc.Goals as goal

pub returns : goal.returns
returns c = let s = c in arc_printed s.args.tapes s.args.bytes.now s.requires.0.0 s.requires.0.1 s.args.at _ _ _ s.requires.1 c.print_numbers.ensures c.print_labels.ensures
