use mathlib.Core.Path.{refl}
use Prim.Native.Nat.{◌<◌}
use native.Mathlib.Omega.{arith}
use Rattle.table.specs.Answers.{lent}
use Rattle.table.proofs.SoundFacts.{few_tapes, arcs_lent}
use Rattle.tapes.proofs.DropFacts.{left_choice, fewer_marks, dropped_in_place}
use borrow.Author.Rules.{rules}
use Rattle.tapes.proofs.drop.drop_in_place.Goals as goal

pub tapes_left-used-requires : goal.tapes_left-used-requires
tapes_left-used-requires c = (few_tapes (lent c.args.counts c.args.states.now c.args.arcs.now) c.requires.sound, refl)

pub choose_arcs-requires : goal.choose_arcs-requires
choose_arcs-requires c = let k = c.tapes_left-used in ((left_choice _ _ _ _ _ (few_tapes (lent c.args.counts c.args.states.now c.args.arcs.now) c.requires.sound) refl k.ensures.0 k.ensures.1).0, arcs_lent (lent c.args.counts c.args.states.now c.args.arcs.now) c.requires.sound)

pub overflow_cast-result : goal.overflow_cast-result
overflow_cast-result c = let y : c.args.mask < 256 = search rules in let q = fewer_marks (lent c.args.counts c.args.states.now c.args.arcs.now) _ c.requires y in omega (arith, q)

pub overflow_sub-result : goal.overflow_sub-result
overflow_sub-result c = let y : c.args.mask < 256 = search rules in let q = fewer_marks (lent c.args.counts c.args.states.now c.args.arcs.now) _ c.requires y in omega (arith, q)

pub returns : goal.returns
returns c =
    let y : c.args.mask < 256 = search rules in
    let k = c.tapes_left-used in
    dropped_in_place (lent c.args.counts c.args.states.now c.args.arcs.now) _ _ _ _ c.requires y (left_choice _ _ _ _ _ (few_tapes (lent c.args.counts c.args.states.now c.args.arcs.now) c.requires.sound) refl k.ensures.0 k.ensures.1).1 refl c.choose_arcs.ensures
