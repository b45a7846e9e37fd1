use lib.ListN.{get_or}
use mathlib.Core.Path.{◌∙◌}
use native.Mathlib.Omega.{arith}
use Rattle.table.proofs.WordFacts.{Tested}
use Rattle.table.proofs.GoodFacts.{label_room, label_good}
use Rattle.table.proofs.good.good_label.Goals as goal

pub overflow_add-word : goal.overflow_add-word
overflow_add-word c =
    let s = c in
    let r = label_room s.args.labels.now s.args.at s.requires (λ i. omega (arith, c.type_inv.labels i)) _ c.get64-word.ensures c.if-word-ne0.false in
    omega (arith, r)

pub overflow_add-word-2 : goal.overflow_add-word-2
overflow_add-word-2 c =
    let s = c in
    let r = label_room s.args.labels.now s.args.at s.requires (λ i. omega (arith, c.type_inv.labels i)) _ c.get64-word.ensures c.if-word-ne0.false in
    omega (arith, r)

pub overflow_add-word-3 : goal.overflow_add-word-3
overflow_add-word-3 c =
    let s = c in
    let r = label_room s.args.labels.now s.args.at s.requires (λ i. omega (arith, c.type_inv.labels i)) _ c.get64-word.ensures c.if-word-ne0.false in
    omega (arith, r)

pub overflow_add-word-4 : goal.overflow_add-word-4
overflow_add-word-4 c =
    let s = c in
    let r = label_room s.args.labels.now s.args.at s.requires (λ i. omega (arith, c.type_inv.labels i)) _ c.get64-word.ensures c.if-word-ne0.false in
    omega (arith, r)

pub overflow_add-word-5 : goal.overflow_add-word-5
overflow_add-word-5 c =
    let s = c in
    let r = label_room s.args.labels.now s.args.at s.requires (λ i. omega (arith, c.type_inv.labels i)) _ c.get64-word.ensures c.if-word-ne0.false in
    omega (arith, r)

pub returns : goal.returns
returns c =
    let s = c in
    let m = c.first_highest-within.ensures in
    let t : Tested 8 (get_or s.args.labels.now s.args.at 0) _ = record {
      low = c.if-word-ne0.false;
      used = c.if-word-within.false ∙ m;
      from48 = c.if-word-within-2.false ∙ m;
      below91 = c.if-word-ne0-2.false;
      gap = c.if-word.false;
    } in
    λ e. label_good s.args.labels.now s.args.at s.requires (λ i. omega (arith, c.type_inv.labels i)) _ c.get64-word.ensures c.if-len-gt8.false t
