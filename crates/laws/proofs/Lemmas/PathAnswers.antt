-- The lookup that tells the path, by the steps of its judging: what is known where it is not refused, and what is
-- enough for it; and the bytes that it writes.
use mathlib.Core.Path.{◌≡◌, refl, sym, ◌∙◌, ap, subst}
use mathlib.Core.Bool.{Bool}
use mathlib.Core.Option.{Option, none, some, map, some-injective}
use mathlib.Core.List.{List, [], ◌∷◌}
use Prim.Native.Nat.{ℕ, ◌*◌, ◌≤◌}
use native.Mathlib.Omega.{arith}
use lib.Dec.{T, leb, leb→le, le→leb}
use lib.ListN.{length, drop, length-append}
use lib.Seq.{drop_at}
use Rattle.automata.specs.Lists.{and}
use Rattle.automata.specs.Refusal
use Rattle.automata.specs.Answer.{Answer, ok, refused, judge}
use Rattle.automata.specs.OrderedSum.{ℕ_sum}
use Rattle.automata.specs.Automaton.{Automaton, Tuple, size}
use Rattle.automata.specs.Memory.{Memory, Sound, table_of, decode_table}
use Rattle.automata.specs.LittleEndian.{little}
use Rattle.automata.specs.LeastPath.{Account, least_path}
use Rattle.automata.specs.LeastPathCall.{listed, least_path_call}
use Rattle.automata.specs.Calls.Outcome.{overwrite}
use Rattle.automata.specs.Calls.Work.{path_work, enough}
use Rattle.automata.specs.Calls.Lookup.{lines}
use Rattle.automata.specs.Calls.LeastPath.{entry_size, places_in, entries, path_answer, Told, told_of, list_path}
use Rattle.automata.proofs.TestFacts.{and_T, T_and}
use Rattle.automata.proofs.ListFacts.{none_not_some}
use Rattle.automata.proofs.AnswerFacts.{refused≢ok, bind_ok, bind_pass, judge-ok, judge_pass, ok_injective, then_goes_on}
use Rattle.automata.proofs.SoundFacts.{sound, sound_decoded}
use Rattle.laws.proofs.Lemmas.Tests.{GoodTuple, tuple_passes, tuple-passed}

-- ---- the answer

-- what is known of an answer o that is no refusal, and is enough for it
pub record PathParts (m : Memory) (text : List ℕ) (room : Bool) (list work : List ℕ) (o : Option (Account ℕ)) : Type 0 where
  pub tuple : Tuple
  pub reads : lines text ≡ ok tuple
  pub judged : Sound m
  pub good : GoodTuple (table_of m).tapes tuple
  pub roomy : T room
  pub worked : path_work (size (table_of m)) tuple ≤ length work
  pub is : least_path ℕ_sum (table_of m) tuple ≡ o
  pub places : (x : Account ℕ) → o ≡ some x → length x.path.run ≤ places_in list

-- the list has a place for each arc
listed_ok : (places : ℕ) (p o : Option (Account ℕ)) → listed places p ≡ ok o → (p ≡ o) × ((x : Account ℕ) → o ≡ some x → length x.path.run ≤ places)
listed_ok places none o e = let q = ok_injective none o e in (q, λ x k. none_not_some (sym q) k)
listed_ok places (some y) o e =
    let (h, e) = judge-ok (leb (length y.path.run) places) _ _ o e in
    let q = ok_injective (some y) o e in
    (q, λ x k. subst (λ (z : Account ℕ). length z.path.run ≤ places) (some-injective y x (q ∙ k)) (leb→le (length y.path.run) places h))

ok-listed : (places : ℕ) (o : Option (Account ℕ)) → ((x : Account ℕ) → o ≡ some x → length x.path.run ≤ places) → listed places o ≡ ok o
ok-listed places none h = refl
ok-listed places (some x) h = judge_pass (leb (length x.path.run) places) _ _ (some x) (le→leb (length x.path.run) places (h x refl)) refl

module _ (m : Memory) (text : List ℕ) (room : Bool) (list work : List ℕ) (o : Option (Account ℕ)) where
  -- the answer for the tuple t on the table A, once the tuple is judged good
  abbrev found : Automaton ℕ → Tuple → Answer (Option (Account ℕ))
  found A t = judge (and room (enough (path_work (size A) t) work)) Refusal.space (listed (places_in list) (least_path ℕ_sum A t))

  pub path_parts : path_answer m text room list work ≡ ok o → PathParts m text room list work o
  unfolding path_answer least_path_call
  path_parts e =
      let (A, d, _) = bind_ok (decode_table m) _ o e in
      let s = sound m A d in
      let B = table_of m in
      let (t, l, e₁) = bind_ok (lines text) _ o (sym (then_goes_on (decode_table m) _ B (sound_decoded m s)) ∙ e) in
      let (g, e₂) = tuple-passed B.tapes t (found B t) o e₁ in
      let (h, e₃) = judge-ok (and room (enough (path_work (size B) t) work)) _ _ o e₂ in
      let (r, w) = and_T room (enough (path_work (size B) t) work) h in
      let (q, f) = listed_ok (places_in list) (least_path ℕ_sum B t) o e₃ in
      record { tuple = t; reads = l; judged = s; good = g; roomy = r; worked = leb→le (path_work (size B) t) (length work) w; is = q; places = f }

  pub path-answered : PathParts m text room list work o → path_answer m text room list work ≡ ok o
  unfolding path_answer least_path_call
  path-answered p =
      let B = table_of m in
      let t = p.tuple in
      bind_pass (decode_table m) _ B o (sound_decoded m p.judged) (bind_pass (lines text) _ t o p.reads
      (tuple_passes B.tapes t (found B t) p.good
      ∙ judge_pass (and room (enough (path_work (size B) t) work)) _ _ o (T_and room (enough (path_work (size B) t) work) p.roomy (le→leb (path_work (size B) t) (length work) p.worked))
      (ap (listed (places_in list)) p.is ∙ ok-listed (places_in list) o p.places)))

-- what is told by value is told of an answer that is no refusal
pub told_answer_lem : (a : Answer (Option (Account ℕ))) (list work : List ℕ) (o : Option Told) → (list_path a list work).answer ≡ ok o
    → (p : Option (Account ℕ)) × (a ≡ ok p) × (map told_of p ≡ o)
told_answer_lem (ok (some x)) list work o e = (some x, refl, ok_injective (some (told_of x)) o e)
told_answer_lem (ok none) list work o e = (none, refl, ok_injective none o e)
told_answer_lem (refused n) list work o e = absurd (refused≢ok e)

-- ---- the bytes

-- two for each arc number
pub length_entries : (run : List ℕ) → length (entries run) ≡ length run * entry_size
length_entries [] = refl
length_entries (e ∷ run) = omega (arith, length-append ((little entry_size).write e) (entries run), length_entries run)

-- behind bytes that stand over the front of a slice it is as it was
pub overwrite-behind : (bytes old : List ℕ) (k : ℕ) → length bytes ≡ k → drop k (overwrite bytes old) ≡ drop k old
overwrite-behind bytes old k e = drop_at bytes (drop (length bytes) old) k e ∙ ap (λ (n : ℕ). drop n old) e
