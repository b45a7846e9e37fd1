use mathlib.Core.Path.{◌≡◌}
use Prim.Native.Nat.{◌-◌, ◌*◌}
use lib.ListN.{drop}
use Rattle.automata.specs.Answer.{beside, forget}
use Rattle.table.specs.Answers.{judged_as}
use Rattle.agree_line.specs.PairColumns.{pairs_read}
use Rattle.automata.specs.Layout.{pair_width}
use Rattle.agree_line.proofs.pair.judge_pairs.Given as goal

abbrev pub invariant-loop-i : goal.invariant-loop-i
invariant-loop-i l = forget (beside (judged_as l.judged) (pairs_read (l.count - l.i) (drop (pair_width * l.i) l.columns))) ≡ forget (pairs_read l.count l.columns)
