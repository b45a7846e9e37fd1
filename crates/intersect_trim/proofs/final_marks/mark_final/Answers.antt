use mathlib.Core.Path.{◌≡◌, ◌∙◌}
use Prim.Native.Nat.{◌-◌, ◌+◌, ◌*◌, suc}
use native.Mathlib.Omega.{arith}
use Rattle.automata.specs.Layout.{config_size}
use Rattle.intersect_trim.proofs.RowFacts.{within_turn, finals_turn, finals_end}
use Rattle.intersect_trim.proofs.final_marks.mark_final.Goals as goal

pub final_mark-requires : goal.final_mark-requires
final_mark-requires c =
    let l = c.loop-k in
    (omega arith, (within_turn _ _ (c.args.count - l.k) (c.args.count - (l.k + 1)) _ (omega arith) l.invariant.0).0)

pub loop-k-preserved : goal.loop-k-preserved
loop-k-preserved c =
    let l = c.loop-k in
    let s : c.args.count - l.k ≡ suc (c.args.count - (l.k + 1)) = omega arith in
    let at : config_size * (l.k + 1) ≡ config_size * l.k + config_size = omega arith in
    rw at ((within_turn _ _ (c.args.count - l.k) (c.args.count - (l.k + 1)) _ s l.invariant.0).1, finals_turn _ _ (c.args.count - l.k) (c.args.count - (l.k + 1)) _ _ _ _ s (omega arith) c.final_mark.ensures ∙ l.invariant.1)

pub returns : goal.returns
returns c = finals_end _ _ (c.args.count - c.loop-k.k) _ _ _ _ _ (omega arith) c.loop-k.invariant.1
