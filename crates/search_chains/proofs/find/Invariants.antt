use mathlib.Core.Path.{◌≡◌}
use Prim.Native.Nat.{ℕ, ◌+◌, ◌≤◌, ◌<◌}
use lib.ListN.{get_or}
use Rattle.search_chains.specs.Parts.{part_start}
use Rattle.search_chains.proofs.FindFacts.{Passes, AgreesTo}
use Rattle.search_chains.proofs.find.Given as goal

abbrev pub invariant-loop-i : goal.invariant-loop-i
invariant-loop-i l = (k : ℕ) → part_start l.shape l.p ≤ k → k < l.i → get_or l.work (l.at + k) 0 ≡ get_or l.wanted k 0

abbrev pub invariant-loop-p : goal.invariant-loop-p
invariant-loop-p l = AgreesTo l.shape l.p l.at l.wanted l.work

abbrev pub invariant-records : goal.invariant-records
invariant-records l = (l.link ≤ l.count) × Passes l.stride l.count l.bucket l.shape l.wanted l.work l.link

abbrev pub decreases-records : goal.decreases-records
decreases-records l = l.link
