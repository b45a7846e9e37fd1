use Rattle.text_columns.proofs.WriteFacts.{decimal-written}
use Rattle.text_columns.proofs.decimal.write_decimal.Goals as goal

pub returns : goal.returns
returns c = let s = c in decimal-written s.args.at s.args.width s.args.n _ _ s.requires.0 s.requires.1 c.write_leading.ensures
