-- The call by its steps: what each way out of it answers.
use Prim.Native.Nat.{ℕ, ◌/◌}
use mathlib.Core.Path.{◌≡◌, refl, sym, ap, ap₂, ◌∙◌}
use mathlib.Core.List.{List}
use lib.ListN.{length}
use Rattle.std.specs.Prelude.{Ok, Err}
use Rattle.automata.specs.Answer.{Answer, refused}
use Rattle.automata.specs.Automaton.{Automaton}
use Rattle.automata.specs.TapePair.{TapePair}
use Rattle.automata.specs.Memory.{Memory, table_of, zeros}
use Rattle.automata.specs.Closing.{closing_tables, viable}
use Rattle.automata.specs.Intersect.{intersect}
use Rattle.automata.specs.IntersectCall.{intersect_on}
use Rattle.automata.specs.Calls.Outcome.{Slices, TableCounts, space_of, put, build, made_of, built_of, slices_of}
use Rattle.automata.specs.Calls.Intersect.{intersect_answer, intersect_outcome}
use Rattle.automata.proofs.CallFacts.{put_refused}
use Rattle.automata.specs.Layout.{arc_size, state_size}
use Rattle.table.specs.declared.answer.Refusal.{Refusal}
use Rattle.table.specs.declared.answer.Counts.{Counts}
use Rattle.table.specs.Answers.{lent, refusal_number}
use Rattle.table.specs.Pairs.{pairs_as}
use Rattle.intersect_offers.specs.declared.plan.Plan.{Plan}
use Rattle.intersect.specs.Prepared.{Prepared, Prepares}
use Rattle.intersect_result.specs.Searched.{table_by}

module _ (c : Counts) (states arcs : List ℕ) (listed : List TapePair) (old_states old_arcs work : List ℕ) where
  -- the table, the slices, and what the call answers
  abbrev m : Memory
  m = lent c states arcs

  abbrev slices : Slices
  slices = slices_of old_states old_arcs

  abbrev answer : Answer (Automaton ℕ)
  answer = intersect_answer m listed (space_of slices) work

  abbrev PreparesThis : Prepared → Type 0
  PreparesThis = Prepares c states arcs listed (length old_states / state_size) (length old_arcs / arc_size) (length work)

  -- a refusal before any configuration is reached
  pub call_refused : (why : Refusal) → PreparesThis (Err why) → made_of (refused (refusal_number why)) old_states old_arcs ≡ put answer slices
  call_refused why p = sym (put_refused slices (refusal_number why)) ∙ ap (λ (a : Answer (Automaton ℕ)). put a slices) (sym (p.answer work refl))

  -- the answer of the search is the call's
  pub call_answered : (plan : Plan) → PreparesThis (Ok plan) → (a : Answer TableCounts) (new_states new_arcs : List ℕ)
      → (let n = lent plan.counts states arcs in
      let ps = pairs_as plan.pairs in
      made_of a new_states new_arcs ≡ put (table_by n ps (viable (closing_tables (table_of n) ps)) (space_of slices)) slices)
      → made_of a new_states new_arcs ≡ put answer slices
  unfolding intersect_on intersect
  call_answered plan p a new_states new_arcs z =
      z ∙ ap₂ (λ (k : Counts) (ps : List TapePair). put (table_by (lent k states arcs) ps (viable (closing_tables (table_of (lent k states arcs)) ps)) (space_of slices)) slices)
      p.plan.counts_are p.plan.pairs_are
      ∙ ap (λ (x : Answer (Automaton ℕ)). put x slices) (sym (p.answer work refl))

-- Work space is zero afterwards.
pub call_cleared : (m : Memory) (ps : List TapePair) (s : Slices) (work zeroed : List ℕ) (n : ℕ) (a : Answer TableCounts) (states arcs : List ℕ)
    → made_of a states arcs ≡ put (intersect_answer m ps (space_of s) work) s → n ≡ length work → zeroed ≡ zeros n
    → built_of a states arcs zeroed ≡ intersect_outcome m ps s work
unfolding intersect_outcome build
call_cleared m ps s work zeroed n a states arcs e l z =
    λ i. record { made = e i; work = (z ∙ ap zeros l) i }
