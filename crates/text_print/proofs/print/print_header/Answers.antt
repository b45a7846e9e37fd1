use Rattle.text_print.proofs.PrintedFacts.{header_printed}
use Rattle.text_print.proofs.print.print_header.Goals as goal

pub returns : goal.returns
returns c = let s = c in header_printed s.args.counts _ _ _ _ s.requires c.write_decimal.ensures c.write_decimal-2.ensures c.write_decimal-3.ensures
