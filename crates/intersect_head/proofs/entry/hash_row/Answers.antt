use mathlib.Core.Path.{ap, ◌∙◌}
use Prim.Native.Nat.{ℕ, ◌+◌, ◌/◌}
use native.Mathlib.Omega.{arith}
use Rattle.intersect_config.proofs.RowFacts.{length_row}
use Rattle.intersect_head.proofs.EntryFacts.{slots_start, slots_step, slots_end, words_fit}
use Rattle.intersect_head.proofs.entry.hash_row.Goals as goal

pub hash_words-hash-requires : goal.hash_words-hash-requires
hash_words-hash-requires c = (omega (arith, length_row _ _ c.requires.row_is), omega arith)

pub loop-i-init : goal.loop-i-init
loop-i-init c = (c.hash_words-hash.ensures.1, slots_start c.args.used _ _ c.args.row.now c.hash_words-hash.ensures.0)

pub overflow_mul-at : goal.overflow_mul-at
overflow_mul-at c = omega (arith, c.requires.four)

pub overflow_add-at : goal.overflow_add-at
overflow_add-at c = omega (arith, c.requires.four)

pub overflow_add-at-in-loop-i : goal.overflow_add-at-in-loop-i
overflow_add-at-in-loop-i c = omega (arith, c.requires.four)

pub bounds-row-at : goal.bounds-row-at
bounds-row-at c = omega (arith, c.requires.four, length_row _ _ c.requires.row_is, c.loop-i-test.true)

pub hash_words-hash-requires-in-loop-i : goal.hash_words-hash-requires-in-loop-i
hash_words-hash-requires-in-loop-i c = (words_fit _ _ _ _ c.requires c.loop-i-test.true (ap (λ (n : ℕ). (n + 9) / 8) c.from.ensures), c.loop-i.invariant.0)

pub loop-i-preserved : goal.loop-i-preserved
loop-i-preserved c =
    let l = c.loop-i in
    (c.hash_words-hash-in-loop-i.ensures.1, slots_step c.args.used l.i l.hash _ _ c.args.row.now c.loop-i-test.true (ap (λ (n : ℕ). (n + 9) / 8) c.from.ensures) c.hash_words-hash-in-loop-i.ensures.0 ∙ l.invariant.1)

pub returns : goal.returns
returns c = let l = c.loop-i in (slots_end c.args.used l.i l.hash c.args.row.now (omega arith) ∙ l.invariant.1, l.invariant.0)
