use mathlib.Core.Path.{refl}
use Rattle.table.specs.Answers.{memory}
use Rattle.tapes.proofs.UnionCall.{first-copies, second_copies, raise_ready, union-made}
use Rattle.tapes.proofs.union.append.Goals as goal

pub copy_table-requires : goal.copy_table-requires
copy_table-requires c = first-copies (memory c.args.first.now) (memory c.args.second.now) _ _ c.requires

pub copy_table-requires-2 : goal.copy_table-requires-2
copy_table-requires-2 c =
    let k = c.copy_table.auto in
    second_copies (memory c.args.first.now) (memory c.args.second.now) _ _ c.requires _ _ _ _ refl refl k.out_states k.out_arcs

pub raise_arcs-requires : goal.raise_arcs-requires
raise_arcs-requires c = raise_ready (memory c.args.first.now) (memory c.args.second.now) _ _ c.requires _ _ _ _ c.copy_table.ensures c.copy_table-2.ensures _ refl

pub returns : goal.returns
returns c = union-made (memory c.args.first.now) (memory c.args.second.now) _ _ c.requires _ _ _ _ c.copy_table.ensures c.copy_table-2.ensures _ _ refl c.raise_arcs.ensures
