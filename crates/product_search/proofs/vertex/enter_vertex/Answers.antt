use Prim.Native.Nat.{ℕ}
use mathlib.Core.Path.{ap, ◌∙◌}
use mathlib.Core.List.{List}
use native.Mathlib.Omega.{arith}
use Rattle.automata.specs.Layout.{vertex_size}
use Rattle.search_chains.specs.Chain.{appended}
use Rattle.search_chains.proofs.EnterFacts.{enters_none, enters_at, enters_full, enters_new}
use Rattle.product_search.proofs.KeyFacts.{key_entered, key_written}
use borrow.Author.Rules.{rules}
use Rattle.product_search.proofs.vertex.enter_vertex.Goals as goal

pub returns-then-room-eq0 : goal.returns-then-room-eq0
returns-then-room-eq0 c = enters_none _ _ _ _ _ _ _ c.if-room-eq0.true c.requires.1

pub returns-in-Some : goal.returns-in-Some
returns-in-Some c =
    let b = c.bucket_of-bucket.ensures in
    key_entered _ _ _ _ _ _ _ _ _ c.key_of-key.ensures (search rules) b.0 c.from.ensures
    (enters_at _ _ _ _ _ _ _ _ c.find_vertex.ensures b.1 c.requires.1 _ c.in-Some.is)

pub returns-in-None : goal.returns-in-None
returns-in-None c =
    let b = c.bucket_of-bucket.ensures in
    key_entered _ _ _ _ _ _ _ _ _ c.key_of-key.ensures (search rules) b.0 c.from.ensures
    (enters_full _ _ _ _ _ _ _ _ c.find_vertex.ensures b.1 c.requires.1 c.in-None.is c.if-room-reached.true)

pub returns-in-None-2 : goal.returns-in-None-2
returns-in-None-2 c =
    let b = c.bucket_of-bucket.ensures in
    key_entered _ _ _ _ _ _ _ _ _ c.key_of-key.ensures (search rules) b.0 c.from.ensures
    (enters_new _ _ _ _ _ _ _ _ c.find_vertex.ensures b.1 c.requires.1 c.in-None-2.is c.if-room-reached.false (omega (arith, c.requires)) (omega (arith, c.requires)) (omega arith) _
    (c.append.ensures
    ∙ ap (λ (bytes : List ℕ). appended vertex_size c.args.reached c.bucket_of-bucket.result bytes c.args.work.now) (c.to_le_bytes.ensures ∙ key_written c.key_of-key.result)))
