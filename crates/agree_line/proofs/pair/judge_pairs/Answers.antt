use mathlib.Core.Path.{◌≡◌, ◌∙◌}
use Prim.Native.Nat.{◌+◌, ◌-◌, ◌*◌, ◌<◌}
use native.Mathlib.Omega.{arith}
use Rattle.automata.specs.Layout.{pair_width}
use Rattle.agree_line.proofs.PairFacts.{pairs_turn, pairs_end}
use Rattle.agree_line.proofs.pair.judge_pairs.Goals as goal

pub loop-i-preserved : goal.loop-i-preserved
loop-i-preserved c =
    let l = c.loop-i in
    let more : 0 < c.args.count - l.i = omega arith in
    let at : pair_width * (l.i + 1) ≡ pair_width * l.i + pair_width = omega arith in
    let left : c.args.count - (l.i + 1) ≡ c.args.count - l.i - 1 = omega arith in
    rw (at, left) (pairs_turn _ (pair_width * l.i) (c.args.count - l.i) l.judged _ _ more c.judge_pair.ensures c.both-judged.ensures ∙ l.invariant)

pub returns : goal.returns
returns c = let l = c.loop-i in pairs_end _ (pair_width * l.i) (c.args.count - l.i) l.judged (omega arith) ∙ l.invariant
