use mathlib.Core.Path.{sym, ap, ◌∙◌}
use native.Mathlib.Omega.{arith}
use lib.ListN.{length}
use Rattle.intersect_config.specs.declared.leftover.Leftover.{Leftover}
use Rattle.intersect_config.specs.Leftovers.{on_tape, leftover_as}
use Rattle.intersect_config.specs.Configs.{config_at}
use Rattle.intersect_config.proofs.TestFacts.{four_lengths}
use Rattle.intersect_config.proofs.RowFacts.{leftover_in_slot, four_in, good_in_slot}
use Rattle.intersect_config.proofs.config.lengths_on.Goals as goal

pub length_on-requires : goal.length_on-requires
length_on-requires c = (omega (arith, c.requires.0), good_in_slot 0 _ c.requires.1 (omega arith))

pub length_on-requires-2 : goal.length_on-requires-2
length_on-requires-2 c = (omega (arith, c.requires.0), good_in_slot 1 _ c.requires.1 (omega arith))

pub length_on-requires-3 : goal.length_on-requires-3
length_on-requires-3 c = (omega (arith, c.requires.0), good_in_slot 2 _ c.requires.1 (omega arith))

pub length_on-requires-4 : goal.length_on-requires-4
length_on-requires-4 c = (omega (arith, c.requires.0), good_in_slot 3 _ c.requires.1 (omega arith))

pub returns : goal.returns
returns c =
    four_lengths c.args.second (config_at 0 c.args.row.now) _ _ _ _ (four_in _)
    (c.length_on.ensures ∙ ap (λ (l : Leftover). length (on_tape c.args.second (leftover_as l))) (sym (leftover_in_slot 0 _ (omega arith))))
    (c.length_on-2.ensures ∙ ap (λ (l : Leftover). length (on_tape c.args.second (leftover_as l))) (sym (leftover_in_slot 1 _ (omega arith))))
    (c.length_on-3.ensures ∙ ap (λ (l : Leftover). length (on_tape c.args.second (leftover_as l))) (sym (leftover_in_slot 2 _ (omega arith))))
    (c.length_on-4.ensures ∙ ap (λ (l : Leftover). length (on_tape c.args.second (leftover_as l))) (sym (leftover_in_slot 3 _ (omega arith))))
