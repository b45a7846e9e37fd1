use Prim.Native.Nat.{◌-◌}
use native.Mathlib.Omega.{arith}
use Rattle.search_chains.proofs.FindFacts.{finds_nothing}
use Rattle.product_search.proofs.KeyFacts.{key_found, key_passed}
use borrow.Author.Rules.{rules}
use Rattle.product_search.proofs.vertex.find_vertex.Goals as goal

pub returns-then-get32-key : goal.returns-then-get32-key
returns-then-get32-key c =
    let l = c.loop-link in
    key_found _ _ _ _ c.requires.0 (l.link - 1) _ (omega (arith, c.loop-link-test.true, l.invariant.0)) c.get32.ensures (λ i. omega (arith, c.type_inv.work i)) c.if-get32-key.true

pub loop-link-preserved : goal.loop-link-preserved
loop-link-preserved c =
    let l = c.loop-link in (
      search rules,
      key_passed _ _ _ _ c.requires.0 l.link _ c.loop-link-test.true l.invariant.0 c.get32.ensures (search rules) c.if-get32-key.false l.invariant.1 _ c.link_below-link-in-loop-link.ensures.0,
    )

pub returns : goal.returns
returns c = let l = c.loop-link in finds_nothing _ _ _ _ _ _ l.link c.loop-link-test.false l.invariant.1
