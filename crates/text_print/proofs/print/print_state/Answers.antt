use Rattle.text_print.proofs.PrintedFacts.{state_printed}
use Rattle.text_print.proofs.print.print_state.Goals as goal

pub returns : goal.returns
returns c = let s = c in state_printed s.args.at s.args.bytes.now _ _ _ s.requires.0 s.requires.1 c.print_weight.ensures c.print_weight-2.ensures
