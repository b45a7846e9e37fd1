use mathlib.Core.Path.{sym, ap, ◌∙◌}
use native.Mathlib.Omega.{arith}
use Rattle.search_chains.specs.Hash.{bucket_of}
use Rattle.search_chains.proofs.EnterFacts.{enters_none, entered_row}
use Rattle.intersect_config.proofs.RowFacts.{length_row}
use Rattle.intersect_head.specs.Searching.{bucket_by}
use Rattle.intersect_head.proofs.AgreeFacts.{row_shaped}
use Rattle.intersect_head.proofs.entry.enter_config.Goals as goal

pub returns-then-room-eq0 : goal.returns-then-room-eq0
returns-then-room-eq0 c = enters_none _ _ _ _ _ _ _ c.if-room-eq0.true c.requires.1

pub enter-requires : goal.enter-requires
enter-requires c =
    (omega (arith, c.requires.0), omega (arith, c.requires.1), c.bucket_of-bucket.ensures.1, omega (arith, length_row _ _ c.requires.3.row_is), row_shaped _ _ c.requires.3.row_is c.requires.3.four)

pub returns : goal.returns
returns c =
    entered_row (bucket_by c.args.used c.args.room) _ _ _ _ _ _ _ _ _ _ (sym c.requires.3.row_is.bytes) (c.bucket_of-bucket.ensures.0 ∙ ap (bucket_of c.args.room) c.hash_row.ensures.0) c.enter.ensures
