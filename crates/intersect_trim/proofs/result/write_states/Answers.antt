use mathlib.Core.Path.{◌≡◌, refl, ◌∙◌}
use Prim.Native.Nat.{◌-◌, ◌+◌, ◌*◌, suc}
use native.Mathlib.Omega.{arith}
use Rattle.automata.specs.Layout.{config_size}
use Rattle.intersect_trim.proofs.ResultFacts.{states_room, states_turn, kept_room, kept_written}
use Rattle.intersect_trim.proofs.RowFacts.{within_turn}
use Rattle.intersect_trim.proofs.result.write_states.Goals as goal

pub loop-k-init : goal.loop-k-init
loop-k-init c =
    let r = c.requires in
    let z : c.args.count - 0 ≡ c.args.count = omega arith in
    rw z (r.2, kept_room _ _ _ _ _ r.3, refl)

pub put_state-to-requires : goal.put_state-to-requires
put_state-to-requires c =
    let l = c.loop-k in
    let s : c.args.count - l.k ≡ suc (c.args.count - (l.k + 1)) = omega arith in (
      omega arith,
      (within_turn _ _ (c.args.count - l.k) (c.args.count - (l.k + 1)) _ s l.invariant.0).0,
      states_room l.k (config_size * l.k) (c.args.count - l.k) (c.args.count - (l.k + 1)) l.to _ _ _ s (omega arith) _ l.invariant.1,
    )

pub loop-k-preserved : goal.loop-k-preserved
loop-k-preserved c =
    let l = c.loop-k in
    let s : c.args.count - l.k ≡ suc (c.args.count - (l.k + 1)) = omega arith in
    let at : config_size * (l.k + 1) ≡ config_size * l.k + config_size = omega arith in
    let p = c.put_state-to in
    let t = states_turn l.k (config_size * l.k) (c.args.count - l.k) (c.args.count - (l.k + 1)) l.to _ _ _ s (omega arith) _ _ _ p.ensures.0 p.ensures.1 p.auto.out l.invariant.1 in
    rw at ((within_turn _ _ (c.args.count - l.k) (c.args.count - (l.k + 1)) _ s l.invariant.0).1, t.0, t.1 ∙ l.invariant.2)

pub returns : goal.returns
returns c = let l = c.loop-k in kept_written _ _ _ (c.args.count - l.k) _ _ _ _ _ _ (omega arith) l.invariant.2
