use Rattle.agree_line.specs.PairColumns.{bytes_of_columns}
use Rattle.agree_line.proofs.PairFacts.{pair_sized}
use Rattle.agree_line.proofs.pair.store_pairs.Goals as goal

pub returns : goal.returns
returns c = c.write_parts.ensures bytes_of_columns (record { sized = pair_sized; gives = λ part out left at p. p })
