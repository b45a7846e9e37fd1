use mathlib.Core.Path.{refl}
use native.Mathlib.Omega.{arith}
use Rattle.table.proofs.AnswerFacts.{handed_on}
use Rattle.agree_text.proofs.FirstFacts.{line_refused, line-told, line-room, line-given}
use borrow.Author.Rules.{rules}
use Rattle.std.specs.Prelude.{Ok, Err}
use Rattle.agree_text.proofs.read_pair_line.Goals as goal

pub returns-in_err-p : goal.returns-in_err-p
returns-in_err-p c = rw (handed_on _ _ c.from_residual.ensures.1) (line_refused _ _ (Err _) _ c.in_err-p.ensures refl)

pub slice_bounds-store_pairs-start : goal.slice_bounds-store_pairs-start
slice_bounds-store_pairs-start c = let t = line-told _ (Ok _) _ c.in_ok-p.ensures refl in omega (arith, t.next_is)

pub slice_bounds-store_pairs-end : goal.slice_bounds-store_pairs-end
slice_bounds-store_pairs-end c = let t = line-told _ (Ok _) _ c.in_ok-p.ensures refl in omega (arith, t.next_is, t.next_fits)

pub slice_bounds-store_pairs-count : goal.slice_bounds-store_pairs-count
slice_bounds-store_pairs-count c = let t = line-told _ (Ok _) _ c.in_ok-p.ensures refl in omega (arith, t.next_is)

pub store_pairs-requires : goal.store_pairs-requires
store_pairs-requires c = line-room _ (Ok _) _ c.in_ok-p.ensures refl c.args.pairs.now (search rules)

pub returns : goal.returns
returns c = line-given _ (Ok _) _ c.in_ok-p.ensures refl c.args.pairs.now (search rules) _ c.store_pairs.ensures
