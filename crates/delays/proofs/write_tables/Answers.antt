use Rattle.delays.proofs.ClosingFacts.{sound_readable, sound_within, writes_closing}
use Rattle.table.specs.Answers.{memory}
use mathlib.Core.Path.{◌≡◌}
use lib.ListN.{length}
use native.Mathlib.Omega.{arith}
use borrow.Author.Rules.{rules}
use Rattle.delays.proofs.write_tables.Goals as goal

pub mark_reaching-requires : goal.mark_reaching-requires
mark_reaching-requires c =
    (sound_readable (memory c.args.table.now) c.requires.0, omega (arith, c.requires.1))

pub close_pairs-requires : goal.close_pairs-requires
close_pairs-requires c =
    let m = memory c.args.table.now in
    let l : length c.args.pairs.pairs ≡ 4 = search rules in
    let k = c.mark_reaching.ensures.frame.same_length in (
      sound_readable m c.requires.0,
      c.requires.2.used_fit,
      sound_within m c.requires.0 c.args.pairs l c.requires.2,
      omega (arith, c.requires.1, k),
    )

pub returns : goal.returns
returns c =
    let m = memory c.args.table.now in
    let l : length c.args.pairs.pairs ≡ 4 = search rules in
    writes_closing m c.requires.0 c.args.pairs _ _ _ _ l c.requires.2 c.requires.1
    c.mark_reaching.ensures c.close_pairs.ensures
