use native.Mathlib.Omega.{arith}
use lib.ListN.{length-set}
use Rattle.product_records.proofs.RecordFacts.{label_copied}
use Rattle.product_records.proofs.record.copy_label.Goals as goal

pub put64-requires : goal.put64-requires
put64-requires c = simp length-set (omega arith)

pub returns : goal.returns
returns c =
    let s = c in
    label_copied _ s.args.from s.args.to _ _ _ (λ i. omega (arith, c.type_inv.arcs i)) s.requires.0 s.requires.1 c.get64-symbols.ensures c.put64.ensures
