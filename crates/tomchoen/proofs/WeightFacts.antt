-- The weight that a lookup tells is below 2 to the 56, so that one number of 64 bits holds it above its low byte.
use mathlib.Core.Path.{◌≡◌, refl, sym, ap, subst}
use mathlib.Core.Option.{Option, none, some}
use mathlib.Core.Bool.{Bool}
use mathlib.Core.List.{List}
use Prim.Native.Nat.{ℕ, ◌≤◌, ◌<◌, suc-le-suc}
use native.Mathlib.Nat.{mul-le-mul}
use native.Mathlib.Omega.{arith}
use lib.Dec.{eqb, eqb→eq, leb}
use lib.ListN.{length}
use Rattle.automata.specs.Limits.{max_string}
use Rattle.automata.specs.Lists.{all, total}
use Rattle.automata.specs.OrderedSum.{ℕ_sum}
use Rattle.automata.specs.Symbols.{is_symbol}
use Rattle.automata.specs.Answer.{Answer, ok, refused}
use Rattle.automata.specs.Automaton.{Automaton, Tuple}
use Rattle.automata.specs.Table.{WellFormed}
use Rattle.automata.specs.Memory.{Memory, decode_table}
use Rattle.automata.specs.Lookup.{lookup}
use Rattle.automata.specs.LookupCall.{lookup_call}
use Rattle.automata.specs.Calls.Outcome.{Found, found_of}
use Rattle.automata.specs.Calls.Lookup.{lines, lookup_answer, lookup_outcome}
use Rattle.automata.proofs.AnswerFacts.{bind_ok, judge-ok, ok_injective}
use Rattle.automata.proofs.LookupBounds.{lookup-le}
use Rattle.automata.proofs.MemoryFacts.{decode_only}
use Rattle.automata.proofs.WellFormedFacts.{well_formed, weights_bounded}
use Rattle.laws.proofs.Lookup.{short-total}
use Rattle.c_answers.specs.Words.{WeightFits}

-- of a table and eight strings of at most 64 symbols
weight_small : (A : Automaton ℕ) → WellFormed A → (t : Tuple) → total length t ≤ 512 → (w : ℕ) → lookup ℕ_sum A t ≡ some w → w < 72057594037927936
weight_small A wf t short w e =
    let f = well_formed A wf in
    let b = mul-le-mul f.few (suc-le-suc short) in
    omega (arith, lookup-le A (weights_bounded A wf) f.within t w e, b)

-- of the call
call_small : (enough : Bool) (A : Automaton ℕ) → WellFormed A → (t : Tuple) (w : ℕ) → lookup_call enough A t ≡ ok (some w) → w < 72057594037927936
unfolding lookup_call
call_small enough A wf t w e =
    let (a, e₁) = judge-ok (eqb (length t) A.tapes) _ _ (some w) e in
    let (b, e₂) = judge-ok (all (λ s. leb (length s) max_string) t) _ _ (some w) e₁ in
    let (_, e₃) = judge-ok (all (λ s. all is_symbol s) t) _ _ (some w) e₂ in
    let (_, e₄) = judge-ok enough _ _ (some w) e₃ in
    let width = eqb→eq (length t) A.tapes a in
    weight_small A wf t (omega (arith, width, wf.counts.tapes_fit, short-total t b)) w (ok_injective (lookup ℕ_sum A t) (some w) e₄)

-- an answer whose weights are below
answer_fits : (r : Answer (Option ℕ)) → ((w : ℕ) → r ≡ ok (some w) → w < 72057594037927936) → WeightFits r
answer_fits (ok (some w)) h = h w refl
answer_fits (ok none) h = tt
answer_fits (refused n) h = tt

-- of the call's outcome
pub lookup-weight : (a : Answer (Option ℕ)) (after : List ℕ) (m : Memory) (text work : List ℕ) → found_of a after ≡ lookup_outcome m text work → WeightFits a
unfolding lookup_outcome lookup_answer
lookup-weight a after m text work e = subst WeightFits (sym (ap (λ (o : Found). o.answer) e)) (answer_fits (lookup_answer m text work) small)
  where
    small : (w : ℕ) → lookup_answer m text work ≡ ok (some w) → w < 72057594037927936
    small w g =
        let (A, d, e₁) = bind_ok (decode_table m) _ (some w) g in
        let (t, _, e₂) = bind_ok (lines text) _ (some w) e₁ in
        call_small _ A (decode_only m A d).0 t w e₂
