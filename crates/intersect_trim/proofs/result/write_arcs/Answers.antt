use mathlib.Core.Path.{◌≡◌, ◌∙◌}
use Prim.Native.Nat.{◌-◌, ◌+◌, ◌*◌, suc}
use native.Mathlib.Omega.{arith}
use Rattle.automata.specs.Layout.{step_size}
use Rattle.intersect_edges.proofs.MarkFacts.{joined_turn}
use Rattle.intersect_trim.proofs.ResultFacts.{arcs_room, arcs_onward, arcs_turn, count_cons, arcs_written}
use Rattle.intersect_trim.proofs.result.write_arcs.Goals as goal

pub put_arc-n-requires : goal.put_arc-n-requires
put_arc-n-requires c =
    let l = c.loop-i in
    let s : c.args.arcs - l.i ≡ suc (c.args.arcs - (l.i + 1)) = omega arith in
    let e = c.load_edge-e.ensures in
    let j = joined_turn _ _ (c.args.arcs - l.i) (c.args.arcs - (l.i + 1)) _ _ s e l.invariant.1 in (
      j.0.0,
      j.0.1,
      c.requires.1,
      (arcs_turn _ _ (c.args.arcs - l.i) (c.args.arcs - (l.i + 1)) _ _ s e l.invariant.2).0,
      arcs_room _ _ _ (c.args.base + step_size * l.i) (c.args.arcs - l.i) (c.args.arcs - (l.i + 1)) l.to _ _ s e _ l.invariant.3,
    )

pub loop-i-preserved : goal.loop-i-preserved
loop-i-preserved c =
    let l = c.loop-i in
    let from = c.args.base + step_size * l.i in
    let left = c.args.arcs - l.i in
    let rest = c.args.arcs - (l.i + 1) in
    let s : left ≡ suc rest = omega arith in
    let at : c.args.base + step_size * (l.i + 1) ≡ from + step_size = omega arith in
    let e = c.load_edge-e.ensures in
    let p = c.put_arc-n in
    let a = arcs_turn _ _ left rest _ _ s e l.invariant.2 in
    let w = arcs_onward c.args.marks.now _ _ from left rest l.to _ _ s e _ _ _ a.0 p.ensures.0 p.ensures.1 p.auto.out l.invariant.3 in
    rw at (
      omega (arith, p.ensures.2),
      (joined_turn _ _ left rest _ _ s e l.invariant.1).1,
      a.1,
      w.0,
      w.1 ∙ l.invariant.4,
      count_cons c.args.marks.now from left rest l.kept _ _ _ _ s e p.ensures.1 l.invariant.5,
    )

pub returns : goal.returns
returns c = let l = c.loop-i in arcs_written _ _ _ _ _ (c.args.base + step_size * l.i) (c.args.arcs - l.i) _ _ _ _ _ (omega arith) l.invariant.4 l.invariant.5
