use Rattle.text_print.proofs.TablePrinted.{table_printed}
use Rattle.table.proofs.SoundFacts.{few_tapes, states_lent, arcs_lent}
use Rattle.table.specs.Answers.{memory}
use native.Mathlib.Omega.{arith}
use Rattle.text_print.proofs.print.write_table.Goals as goal

pub print_states-requires : goal.print_states-requires
print_states-requires c = let m = memory c.args.table.now in (omega (arith, states_lent m c.requires.0), omega (arith, c.requires.1, c.print_header.auto.out))

pub print_arcs-requires : goal.print_arcs-requires
print_arcs-requires c = let m = memory c.args.table.now in ((omega (arith, arcs_lent m c.requires.0), few_tapes m c.requires.0), omega (arith, c.requires.1, c.print_header.auto.out, c.print_states.auto.out))

pub returns : goal.returns
returns c = table_printed c.args.table.now.counts c.args.table.now.states.now c.args.table.now.arcs.now _ _ _ _ c.requires.0 c.requires.1 c.print_header.ensures c.print_states.ensures c.print_arcs.ensures
