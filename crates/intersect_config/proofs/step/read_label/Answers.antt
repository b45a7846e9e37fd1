use Prim.Native.Nat.{◌<◌}
use mathlib.Core.Path.{◌≡◌, sym, ap, ◌∙◌}
use native.Mathlib.Omega.{arith}
use lib.ListN.{length, get_or, set}
use Rattle.automata.specs.TapePair.{reading}
use Rattle.intersect_config.specs.Steps.{read_to}
use Rattle.intersect_config.proofs.StepFacts.{read_start, read_turn, read_kept, label_is_read}
use borrow.Author.Rules.{rules}
use Rattle.intersect_config.proofs.step.read_label.Goals as goal
use Rattle.intersect_config.proofs.step.read_label.Goals.{then-read-written, else-read-written}

pub loop-i-init : goal.loop-i-init
loop-i-init c = (search rules, read_start _)

pub loop-i-preserved : goal.loop-i-preserved
loop-i-preserved c =
    let l = c.loop-i in
    let xs = c.args.x.symbols in
    let h : l.i < length xs = omega arith in
    let r : c.read_symbol-read.result ≡ reading (get_or (read_to l.i xs) l.i 0) =
    c.read_symbol-read.ensures ∙ ap (λ z. reading (get_or z l.i 0)) l.invariant.1 in (
      l.invariant.0,
      elim c.if-read-written.branch [
        | then-read-written w ↦ w.symbols-is ∙ ap (λ z. set z l.i c.read_symbol-read.result) l.invariant.1 ∙ read_turn xs l.i _ h r
        | else-read-written w ↦ w.symbols-is ∙ l.invariant.1 ∙ read_kept xs l.i h (sym r ∙ w.if-read-written.false ∙ ap (λ z. get_or z l.i 0) l.invariant.1)
      ],
    )

pub returns : goal.returns
returns c = label_is_read c.args.x c.loop-i.i _ (omega arith) (omega arith) c.loop-i.invariant.1
