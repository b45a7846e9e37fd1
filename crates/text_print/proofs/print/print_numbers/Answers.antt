use Rattle.text_print.proofs.PrintedFacts.{numbers_printed}
use Rattle.text_print.proofs.print.print_numbers.Goals as goal

pub returns : goal.returns
returns c = let s = c in numbers_printed s.args.at _ _ _ s.args.bytes.now _ _ _ _ s.requires.1 c.source_at.ensures c.target_at.ensures c.arc_weight_at.ensures c.write_decimal.ensures c.write_decimal-2.ensures c.write_decimal-3.ensures
