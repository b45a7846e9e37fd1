use native.Mathlib.Omega.{arith}
use Rattle.intersect_config.proofs.RowFacts.{length_row}
use Rattle.intersect_offers.proofs.OfferFacts.{state_read}
use Rattle.intersect_head.proofs.TurnFacts.{load_fits, few_arcs, own_loaded, own_whole, state_fits, chain_begin, chain-goes, chain_next, turn_requires, turn_full, turn_end}
use borrow.Author.Rules.{rules}
use Rattle.intersect_head.proofs.head.Head.take_up.Goals as goal

pub overflow_mul-self : goal.overflow_mul-self
overflow_mul-self c = omega (arith, load_fits _ _ _ _ c.requires.0)

pub load_row-own-requires : goal.load_row-own-requires
load_row-own-requires c = load_fits _ _ _ _ c.requires.0

pub bounds-first-state : goal.bounds-first-state
bounds-first-state c = omega (arith, c.requires.1.states_fit, state_fits _ _ _ _ c.requires.0 _ (own_loaded _ _ _ _ c.requires.0 _ c.load_row-own.ensures), (state_read _ _ c.get16-state.ensures))

pub loop-j-init : goal.loop-j-init
loop-j-init c = (chain_begin _ _ _ _ c.requires.0 _ (own_loaded _ _ _ _ c.requires.0 _ c.load_row-own.ensures) _ _ c.requires.1 _ (state_read _ _ c.get16-state.ensures), record { good = c.start_row-row.ensures.0.good _; bytes = c.start_row-row.ensures.1 })

pub slice_bounds-visit-end-in-loop-j : goal.slice_bounds-visit-end-in-loop-j
slice_bounds-visit-end-in-loop-j c = let l = length_row _ _ c.loop-j.invariant.1 in search (rules, l)

pub visit-self-requires : goal.visit-self-requires
visit-self-requires c = (turn_requires _ _ _ _ c.requires.0 _ (own_loaded _ _ _ _ c.requires.0 _ c.load_row-own.ensures) _ _ _ c.loop-j.invariant.0.turning c.loop-j-test.true, own_whole _ _ _ _ c.requires.0 _ c.load_row-own.ensures, c.loop-j.invariant.1)

pub returns-then-self : goal.returns-then-self
returns-then-self c = turn_full _ _ _ _ c.requires.0 _ (own_loaded _ _ _ _ c.requires.0 _ c.load_row-own.ensures) _ _ _ c.loop-j.invariant.0.turning c.loop-j-test.true _ _ c.visit-self.ensures.0 c.if-self.true

pub offset_bounds-next-j : goal.offset_bounds-next-j
offset_bounds-next-j c = omega (arith, few_arcs _ _ _ _ c.requires.0, c.loop-j-test.true)

pub bounds-next-j : goal.bounds-next-j
bounds-next-j c = omega (arith, c.requires.1.arcs_fit, c.loop-j-test.true)

pub loop-j-smaller : goal.loop-j-smaller
loop-j-smaller c = omega (arith, c.loop-j-test.true, chain-goes _ _ _ _ c.requires.0 _ (own_loaded _ _ _ _ c.requires.0 _ c.load_row-own.ensures) _ _ c.requires.1 _ c.loop-j-test.true (c.loop-j.invariant.0.leaves c.loop-j-test.true))

pub loop-j-preserved : goal.loop-j-preserved
loop-j-preserved c = (chain_next _ _ _ _ c.requires.0 _ (own_loaded _ _ _ _ c.requires.0 _ c.load_row-own.ensures) _ _ c.requires.1 _ _ _ c.loop-j.invariant.0 c.loop-j-test.true _ _ c.visit-self.ensures.0 c.if-self.false, c.visit-self.ensures.1)

pub returns : goal.returns
returns c = turn_end _ _ _ _ c.requires.0 _ (own_loaded _ _ _ _ c.requires.0 _ c.load_row-own.ensures) _ _ _ c.loop-j.invariant.0.turning c.loop-j-test.false
