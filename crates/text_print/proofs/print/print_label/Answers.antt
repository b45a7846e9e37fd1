use Rattle.text_print.proofs.PrintedFacts.{label_printed}
use Rattle.text_print.proofs.print.print_label.Goals as goal

pub returns : goal.returns
returns c = let s = c in let n = c.label_length-n in
    label_printed _ s.requires.0 _ s.args.at _ _ _ n.ensures.0 n.ensures.1 c.copy_into.ensures c.copy_into-2.ensures
