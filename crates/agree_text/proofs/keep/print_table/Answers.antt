use mathlib.Core.Path.{refl}
use Rattle.std.specs.Prelude.{Ok, Err}
use Rattle.table.specs.Answers.{memory}
use Rattle.agree_text.proofs.PrintFacts.{print_done, print-refused}
use Rattle.agree_text.proofs.keep.print_table.Goals as goal

pub returns-in-Ok : goal.returns-in-Ok
returns-in-Ok c = let m = memory c.args.table.now in print_done m c.requires.0.0 c.requires.0.1 _ c.requires.1 (Ok _) _ c.in-Ok.ensures _ refl

pub returns-in-Err : goal.returns-in-Err
returns-in-Err c = let m = memory c.args.table.now in print-refused m c.requires.0.0 c.requires.0.1 _ c.requires.1 (Err _) _ c.in-Err.ensures _ refl _ _ c.write_refusal.ensures
