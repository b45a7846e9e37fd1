use native.Mathlib.Omega.{arith}
use lib.ListN.{length-set}
use Rattle.cases_table.proofs.sample.arc_records.Goals as goal

pub copy_into-requires-2 : goal.copy_into-requires-2
copy_into-requires-2 c = let k = c.copy_into.auto.dst in simp length-set (omega (arith, k))

pub copy_into-requires-3 : goal.copy_into-requires-3
copy_into-requires-3 c =
    let k = c.copy_into-2.auto.dst in
    let l = c.copy_into.auto.dst in
    simp length-set (omega (arith, k, l))
