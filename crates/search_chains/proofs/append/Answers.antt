use mathlib.Core.Path.{ap, ap₂, ◌∙◌}
use mathlib.Core.List.{List}
use Prim.Native.Nat.{ℕ, ◌+◌, ◌*◌}
use lib.ListN.{length}
use Rattle.table.specs.Region.{splice}
use Rattle.table.specs.Endian.{to_le}
use Rattle.search_chains.specs.Chain.{appended}
use Rattle.search_chains.proofs.append.Goals as goal

pub returns : goal.returns
unfolding appended
returns c =
    let s = c in
    c.put16-2.ensures
    ∙ ap (λ (v : List ℕ). splice (s.args.bucket * s.args.stride + length s.args.wanted.now) (to_le 2 (s.args.count + 1)) v)
    (c.put16.ensures
    ∙ ap₂ (λ (l : ℕ) (v : List ℕ). splice (s.args.count * s.args.stride + length s.args.wanted.now + 2) (to_le 2 l) v) c.get16-link.ensures c.copy_into.ensures)
