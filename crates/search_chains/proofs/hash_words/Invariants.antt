use mathlib.Core.Path.{◌≡◌}
use Prim.Native.Nat.{◌+◌, ◌-◌, ◌*◌, ◌<◌}
use Rattle.search_chains.specs.Hash.{hash_from}
use Rattle.search_chains.proofs.hash_words.Given as goal

abbrev pub invariant-loop-i : goal.invariant-loop-i
invariant-loop-i l = (l.hash < 8589934592) × (hash_from (l.n - l.i) (l.at + 8 * l.i) l.hash l.bytes ≡ hash_from l.n l.at l.h l.bytes)
