-- The call by its steps: what each way out of it answers, and what it leaves.
use Prim.Native.Nat.{ℕ, ◌≤◌}
use Rattle.std.specs.Prelude.{Ok, Err}
use mathlib.Core.Path.{◌≡◌, refl, sym, ap, subst, ◌∙◌}
use mathlib.Core.List.{List}
use native.Mathlib.Omega.{arith}
use lib.Dec.{T}
use lib.ListN.{length}
use Rattle.automata.specs.Answer.{Answer, refused}
use Rattle.automata.specs.Automaton.{Automaton}
use Rattle.automata.specs.Space.{Space}
use Rattle.automata.specs.TapePair.{TapePair, tapes_of, limits_fit}
use Rattle.automata.specs.Memory.{Memory, table_of, zeros}
use Rattle.automata.specs.Join.{within}
use Rattle.automata.specs.Calls.Outcome.{Slices, TableCounts, space_of, put, conclude, made_of, joined_of}
use Rattle.automata.specs.Calls.Work.{product_work, join_work}
use Rattle.automata.specs.Calls.Join.{join_answer, join_outcome}
use Rattle.automata.specs.Calls.JoinSteps.{join_by_calls}
use Rattle.automata.proofs.CallFacts.{put_refused}
use Rattle.automata.proofs.SoundFacts.{sound_well_formed, sound_holds}
use Rattle.laws.proofs.JoinCalls.{join_by_calls_lem}
use Rattle.table.specs.declared.answer.Refusal.{Refusal}
use Rattle.table.specs.Answers.{refusal_number}
use Rattle.table.specs.Pairs.{pairs_as}
use Rattle.join.specs.declared.judge.Prepared.{Prepared}
use Rattle.join.specs.Judged.{Prepares}
use Rattle.join_steps.specs.Steps.{Joinable}

-- what a join needs is enough for its product
product-part : (product result : Space) (work : ℕ) → join_work product result ≤ work → product_work product ≤ work
unfolding join_work
product-part product result work h = omega (arith, h)

module _ (a b : Memory) (ps : List TapePair) (product result : Slices) (work : List ℕ) where
  -- what the call answers
  abbrev answer : Answer (Automaton ℕ)
  answer = join_answer a b ps (space_of product) (space_of result) work

  -- a refusal before any step
  pub call_refused : (y : Refusal) → Prepares a b ps (space_of product) (space_of result) (length work) (Err y)
      → made_of (refused (refusal_number y)) result.states result.arcs ≡ put answer result
  call_refused y p = sym (put_refused result (refusal_number y)) ∙ ap (λ (r : Answer (Automaton ℕ)). put r result) (sym (p.answer work refl))

  module _ (v : Prepared) (p : Prepares a b ps (space_of product) (space_of result) (length work) (Ok v)) where
    -- the steps can be made
    pub call_joinable : Joinable a b v.pairs v.room (length product.states) (length product.arcs) (length result.states) (length result.arcs) (length work)
    call_joinable = record {
      first = p.ready.first;
      second = p.ready.second;
      narrow = p.ready.narrow;
      sided = p.ready.sided;
      inside = subst (λ (qs : List TapePair). T (within a.tapes b.tapes (tapes_of qs))) (sym p.ready.pairs) p.ready.inside;
      within_limits = ap limits_fit p.ready.pairs ∙ p.ready.fit;
      work_fits = product-part (space_of product) (space_of result) (length work) p.ready.enough;
      divides = p.ready.divides;
    }

    -- and what they leave is the call's
    pub call_stepped : (r : Answer TableCounts) (states arcs : List ℕ)
        → made_of r states arcs ≡ join_by_calls (table_of a) (table_of b) (pairs_as v.pairs) product result → made_of r states arcs ≡ put answer result
    call_stepped r states arcs z =
        let wA = sound_well_formed a p.ready.first in
        let wB = sound_well_formed b p.ready.second in
        let n = (sound_holds a p.ready.first).tapes in
        let m = (sound_holds b p.ready.second).tapes in
        z ∙ ap (λ (qs : List TapePair). join_by_calls (table_of a) (table_of b) qs product result) p.ready.pairs
        ∙ sym (join_by_calls_lem (table_of a) (table_of b) wA wB (omega (arith, p.ready.narrow, n, m)) ps
        (subst (λ (i : ℕ). T (within i (table_of b).tapes (tapes_of ps))) n (subst (λ (i : ℕ). T (within a.tapes i (tapes_of ps))) m p.ready.inside)) product result work)
        ∙ ap (λ (x : Answer (Automaton ℕ)). put x result) (sym (p.answer work refl))

-- The product's space and the work space are zero afterwards.
pub call_cleared : (a b : Memory) (ps : List TapePair) (product result : Slices) (work : List ℕ) (r : Answer TableCounts) (states arcs zero_states zero_arcs zero_work : List ℕ)
    (n m l : ℕ) → made_of r states arcs ≡ put (join_answer a b ps (space_of product) (space_of result) work) result
    → n ≡ length product.states → zero_states ≡ zeros n → m ≡ length product.arcs → zero_arcs ≡ zeros m → l ≡ length work → zero_work ≡ zeros l
    → joined_of r states arcs zero_states zero_arcs zero_work ≡ join_outcome a b ps product result work
unfolding join_outcome conclude
call_cleared a b ps product result work r states arcs zero_states zero_arcs zero_work n m l e n-is states-zero m-is arcs-zero l-is work-zero =
    λ i. record {
      made = e i;
      product = record { states = (states-zero ∙ ap zeros n-is) i; arcs = (arcs-zero ∙ ap zeros m-is) i };
      work = (work-zero ∙ ap zeros l-is) i;
    }
