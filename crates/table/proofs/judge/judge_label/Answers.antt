use Rattle.table.proofs.JudgeFacts.{label_symbols, label_padding, label_length}
use mathlib.Core.Path.{ap}
use mathlib.Core.Bool.{not}
use Rattle.table.proofs.judge.judge_label.Goals as goal

pub returns-then-not-all_symbols : goal.returns-then-not-all_symbols
returns-then-not-all_symbols c = let s = c in label_symbols s.args.label.now s.requires _ c.within-end.ensures _ c.all_symbols.ensures (ap not c.if-not-all_symbols.true)

pub returns-then-not-all_zero : goal.returns-then-not-all_zero
returns-then-not-all_zero c = let s = c in label_padding s.args.label.now s.requires _ c.within-end.ensures _ c.all_symbols.ensures _ c.all_zero.ensures (ap not c.if-not-all_symbols.false) (ap not c.if-not-all_zero.true)

pub returns : goal.returns
returns c = let s = c in label_length s.args.label.now s.requires _ c.within-end.ensures _ c.all_symbols.ensures _ c.all_zero.ensures (ap not c.if-not-all_symbols.false) (ap not c.if-not-all_zero.false) _ c.demand.ensures
