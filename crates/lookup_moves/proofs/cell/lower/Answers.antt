use Rattle.lookup_moves.proofs.CellFacts.{lowers_stored, lowers_kept}
use native.Mathlib.Omega.{arith}
use borrow.Author.Rules.{rules}
use Rattle.lookup_moves.proofs.cell.lower.Goals as goal

pub returns-then-v-weight_at : goal.returns-then-v-weight_at
returns-then-v-weight_at c =
    let s = c in
    lowers_stored _ _ _ _ s.requires c.weight_at.ensures _ c.if-v-weight_at.true (search rules) c.put64.ensures

pub returns-else-v-weight_at : goal.returns-else-v-weight_at
returns-else-v-weight_at c =
    let s = c in
    lowers_kept _ _ _ _ s.requires c.weight_at.ensures (omega (arith, c.if-v-weight_at.false))
