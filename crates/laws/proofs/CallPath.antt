-- The lookup that tells the path behind a weight, on bytes: by value and in lent bytes, what it tells is the first of
-- the least paths for the tuple in its text, and it is told again where nothing lent is shorter.
use mathlib.Core.Path.{◌≡◌, refl, sym, ◌∙◌, ap, subst}
use mathlib.Core.Bool.{Bool, true}
use mathlib.Core.Option.{Option, none, some, map, some-injective}
use mathlib.Core.List.{List}
use Prim.Native.Nat.{ℕ, ◌*◌, ◌^◌, ◌≤◌, ◌<◌, suc-le-suc}
use native.Mathlib.Nat.{mul-le-mul}
use native.Mathlib.Omega.{arith}
use lib.Dec.{T, leb→le, le→leb}
use lib.ListN.{length, drop}
use lib.Seq.{take_at}
use Rattle.automata.specs.Lists.{All, total}
use Rattle.automata.specs.Refusal
use Rattle.automata.specs.Answer.{Answer, ok, judge}
use Rattle.automata.specs.OrderedSum.{ℕ_sum}
use Rattle.automata.specs.Graph.{stop, step}
use Rattle.automata.specs.Automaton.{Automaton, Arc, Walk, size}
use Rattle.automata.specs.Table.{WellFormed}
use Rattle.automata.specs.Paths.{Trace, SuccessfulPath, weight}
use Rattle.automata.specs.Lookup.{lookup}
use Rattle.automata.specs.LookupCall.{lookup_call}
use Rattle.automata.specs.LeastPath.{FirstLeast, Account}
use Rattle.automata.specs.Memory.{Memory, table_of, decode_table}
use Rattle.automata.specs.Calls.Outcome.{overwrite}
use Rattle.automata.specs.Calls.Work.{lookup_work, enough}
use Rattle.automata.specs.Calls.Lookup.{lines, lookup_answer, lookup_outcome}
use Rattle.automata.specs.Calls.LeastPath.{entry_size, places_in, entries, path_answer, Told, told_of, PathFound, list_path, path_outcome, told_size, told_bytes, record_told, path_recorded}
use Rattle.automata.proofs.TestFacts.{T_true}
use Rattle.automata.proofs.ListFacts.{none_not_some, place_bound}
use Rattle.automata.proofs.RecordFacts.{All_map}
use Rattle.automata.proofs.AnswerFacts.{bind_pass, judge_pass}
use Rattle.automata.proofs.AutomatonFacts.{initial_of_lt}
use Rattle.automata.proofs.SequenceFacts.{first_reads, many_reads}
use Rattle.automata.proofs.FormatFacts.{pair_lawful}
use Rattle.automata.proofs.NumberFacts.{little_lawful}
use Rattle.automata.proofs.WellFormedFacts.{well_formed}
use Rattle.automata.proofs.SoundFacts.{sound_decoded, sound_well_formed, sound_holds}
use Rattle.laws.specs.LeastPath.{LeastPaths}
use Rattle.laws.specs.CallPath.{PathTold, PathAnswered, ToldInBytes, SameFront, PathCalls}
use Rattle.laws.proofs.Lookup.{lookup_64, few_symbols}
use Rattle.laws.proofs.LeastPath.{least_paths}
use Rattle.laws.proofs.CallLookup.{lines-only}
use Rattle.laws.proofs.Lemmas.Tests.{tuple_passes}
use Rattle.laws.proofs.Lemmas.PathAnswers.{PathParts, path_parts, path-answered, told_answer_lem, length_entries}

-- ---- a path that is told

-- the arc numbers of a walk name arcs
pub walk_numbers : (A : Automaton ℕ) {q p : ℕ} {r : List ℕ} {es : List (Arc ℕ)} → Walk A q r es p → All (λ e. e < length A.arcs) r
walk_numbers A stop = tt
walk_numbers A (step {e} at from w) = (place_bound A.arcs e at, walk_numbers A w)

module _ (m : Memory) (text : List ℕ) (room : Bool) (list work : List ℕ) where
  -- the table
  abbrev A : Automaton ℕ
  A = table_of m

  module _ (o : Option (Account ℕ)) (p : PathParts m text room list work o) where
    -- what holds of the table and the tuple once they are judged
    formed : WellFormed A
    formed = sound_well_formed m p.judged

    least : LeastPaths ℕ_sum A p.tuple
    least = least_paths ℕ_sum A (well_formed A formed) p.tuple p.good.width

    symbols : total length p.tuple ≤ 512
    symbols = few_symbols A formed p.tuple p.good

    -- the lookup's weight is the one told
    weighs : lookup ℕ_sum A p.tuple ≡ map (λ x. x.weight) o
    weighs = sym least.weight_told ∙ ap (map (λ x. x.weight)) p.is

  -- a path by its weight, start and number of arcs
  path-told : (x : Account ℕ) (p : PathParts m text room list work (some x)) → PathTold m p.tuple list (overwrite (entries x.path.run) list) (told_of x)
  path-told x p =
      let (π, q, w, f) = ((least (some x) p).told x).0 p.is in
      subst (λ (τ : Trace). length τ.run ≤ places_in list → PathTold m p.tuple list (overwrite (entries τ.run) list)
      (record { weight = x.weight; start = τ.start; arcs = length τ.run })) q (of π w f) (p.places x refl)
    where
      of : (π : SuccessfulPath A) → weight ℕ_sum π ≡ x.weight → FirstLeast ℕ_sum A p.tuple π → length π.run ≤ places_in list
          → PathTold m p.tuple list (overwrite (entries π.run) list) (record { weight = x.weight; start = π.start; arcs = length π.run })
      of π w f h = record {
        path = π;
        first = f;
        weight_told = sym w;
        start_told = refl;
        arcs_told = refl;
        has_places = h;
        listed = refl;
        read_again = many_reads (little_lawful entry_size) π.run (drop (length (entries π.run)) list) numbers
            ∙ ap {B = Answer (List ℕ × List ℕ)} (λ (n : ℕ). ok (π.run, drop n list)) (length_entries π.run);
        small = lookup_64 A wf p.tuple (symbols (some x) p) x.weight (weighs (some x) p);
        state = omega (arith, initial_of_lt A π.start π.initial π.successful.starts, wf.counts.states_fit);
        few_arcs = omega (arith, (least (some x) p).few_arcs π f, mul-le-mul wf.counts.states_fit (suc-le-suc (symbols (some x) p)));
      }
        where
          wf : WellFormed A
          wf = formed (some x) p

          numbers : All (λ e. e < 256 ^ entry_size) π.run
          numbers = All_map (λ e. e < length A.arcs) (λ e. e < 256 ^ entry_size) (λ e l. omega (arith, l, wf.counts.arcs_fit)) π.run (walk_numbers A π.successful.walk)

  -- a lookup of the same text
  looked_up : (o : Option (Account ℕ)) (p : PathParts m text room list work o) (space : List ℕ) → lookup_work m.states p.tuple ≤ length space
      → (lookup_outcome m text space).answer ≡ ok (map (λ x. x.weight) o)
  unfolding lookup_outcome lookup_answer lookup_call
  looked_up o p space h =
      let t = p.tuple in
      let e : m.states ≡ size A = (sound_holds m p.judged).states in
      bind_pass (decode_table m) _ A _ (sound_decoded m p.judged) (bind_pass (lines text) _ t _ p.reads
      (tuple_passes A.tapes t (judge (enough (lookup_work (size A) t) space) Refusal.space (ok (lookup ℕ_sum A t))) p.good
      ∙ judge_pass (enough (lookup_work (size A) t) space) _ _ _ (le→leb (lookup_work (size A) t) (length space) (subst (λ (n : ℕ). lookup_work n t ≤ length space) e h))
      (ap ok (weighs o p))))

  -- what is told of an answer that is no refusal
  parts_answered : (o : Option (Account ℕ)) → PathParts m text room list work o → PathAnswered m text list (list_path (ok o) list work).list (map told_of o)
  parts_answered none p = record {
    tuple = p.tuple;
    text_is = lines-only text p.tuple p.reads;
    judged = p.judged;
    width = p.good.width;
    told = λ x e. none_not_some refl e;
    nothing = (λ e. (least none p).nothing.0 p.is, λ n. refl);
    looked_up = looked_up none p;
  }
  parts_answered (some y) p = record {
    tuple = p.tuple;
    text_is = lines-only text p.tuple p.reads;
    judged = p.judged;
    width = p.good.width;
    told = λ x e. subst (PathTold m p.tuple list (overwrite (entries y.path.run) list)) (some-injective (told_of y) x e) (path-told y p);
    nothing = (λ e. none_not_some e refl, λ n. none_not_some ((least (some y) p).nothing.1 n) p.is);
    looked_up = looked_up (some y) p;
  }

  -- the whole outcome by value, whatever room there is for what is told
  abbrev found : PathFound
  found = list_path (path_answer m text room list work) list work

  answered : (o : Option Told) → found.answer ≡ ok o → PathAnswered m text list found.list o
  answered o e =
      let (p, a, q) = told_answer_lem (path_answer m text room list work) list work o e in
      subst (λ b. PathAnswered m text list (list_path b list work).list o) (sym a)
      (subst (PathAnswered m text list (list_path (ok p) list work).list) q (parts_answered p (path_parts m text room list work p a)))

-- ---- told again

-- an account is told by value
answer_of : (o : Option (Account ℕ)) (list work : List ℕ) → (list_path (ok o) list work).answer ≡ ok (map told_of o)
answer_of none list work = refl
answer_of (some x) list work = refl

-- its arc numbers stand over the front of any list
same_entries : (o : Option (Account ℕ)) (list list' work work' : List ℕ)
    → SameFront (λ x. x.arcs * entry_size) (map told_of o) (list_path (ok o) list work).list (list_path (ok o) list' work').list
same_entries none list list' work work' x e = none_not_some refl e
same_entries (some y) list list' work work' x e =
    let run = y.path.run in
    let q : length (entries run) ≡ x.arcs * entry_size
    = length_entries run ∙ ap (λ (z : Told). z.arcs * entry_size) (some-injective (told_of y) x e) in
    take_at (entries run) (drop (length (entries run)) list') _ q ∙ sym (take_at (entries run) (drop (length (entries run)) list) _ q)

-- where there is room again and neither list nor work space is shorter
again : (m : Memory) (text : List ℕ) (room room' : Bool) (list list' work work' : List ℕ) (o : Option Told)
    → (T room → T room') → length list ≤ length list' → length work ≤ length work' → (found m text room list work).answer ≡ ok o
    → ((found m text room' list' work').answer ≡ ok o) × SameFront (λ x. x.arcs * entry_size) o (found m text room list work).list (found m text room' list' work').list
again m text room room' list list' work work' o r l w e = let (p, a, q) = told_answer_lem (path_answer m text room list work) list work o e in go p a q
  where
    wider : (p : Option (Account ℕ)) → PathParts m text room list work p → PathParts m text room' list' work' p
    wider p t = record {
      tuple = t.tuple;
      reads = t.reads;
      judged = t.judged;
      good = t.good;
      roomy = r t.roomy;
      worked = omega (arith, t.worked, w);
      is = t.is;
      places = λ x k. let h = t.places x k in omega (arith, h, l);
    }

    go : (p : Option (Account ℕ)) → path_answer m text room list work ≡ ok p → map told_of p ≡ o
        → ((found m text room' list' work').answer ≡ ok o) × SameFront (λ x. x.arcs * entry_size) o (found m text room list work).list (found m text room' list' work').list
    go p a q =
        let a' = path-answered m text room' list' work' p (wider p (path_parts m text room list work p a)) in
        rw (a, a', ← q) (answer_of p list' work', same_entries p list list' work work')

-- ---- in bytes

-- 8, 8, 4 and 4 bytes hold these numbers
told_in_bytes : (x : Told) (result : List ℕ) → told_size ≤ length result → x.weight < 18446744073709551616 → x.start < 1024 → x.arcs ≤ 525312
    → ToldInBytes x result (overwrite (told_bytes x) result)
told_in_bytes x result h w s a = record {
  has_room = h;
  written = refl;
  read_again = first_reads (pair_lawful (little_lawful 8) (pair_lawful (little_lawful 8) (pair_lawful (little_lawful 4) (little_lawful 4))))
      (x.weight, (0, (x.start, x.arcs))) (drop told_size result) (w, (omega arith, (omega arith, omega arith)));
}

module _ (m : Memory) (text result list work : List ℕ) (o : Option Told) where
  recorded : (path_recorded m text result list work).found.answer ≡ ok o
      → PathAnswered m text list (path_recorded m text result list work).found.list o
      × ((x : Told) → o ≡ some x → ToldInBytes x result (path_recorded m text result list work).result)
  unfolding path_recorded
  recorded e =
      let room = enough told_size result in
      let told = answered m text room list work o e in
      let (p, a, _) = told_answer_lem (path_answer m text room list work) list work o e in
      let h = leb→le told_size (length result) (path_parts m text room list work p a).roomy in (
        told,
        λ x k.
            let t = told.told x k in
            subst (λ b. ToldInBytes x result (record_told b result)) (sym (e ∙ ap ok k)) (told_in_bytes x result h t.small t.state t.few_arcs),
      )

-- the same bytes over the front of any result space
same_told : (o : Option Told) (result result' : List ℕ) → SameFront (λ x. told_size) o (record_told (ok o) result) (record_told (ok o) result')
same_told none result result' x e = none_not_some refl e
same_told (some y) result result' x e = refl

-- the theorem
pub path_calls_lem : PathCalls
unfolding path_outcome path_recorded
path_calls_lem = record {
  path = λ m text list work o e. answered m text true list work o e;
  recorded = recorded;
  alike = λ m text result list work h. ap (λ b. found m text b list work) (T_true (enough told_size result) (le→leb told_size (length result) h));
  path_again = λ m text list list' work work' o l w e. again m text true true list list' work work' o (λ t. t) l w e;
  recorded_again = λ m text result result' list list' work work' o h l w e.
      let room : T (enough told_size result) → T (enough told_size result')
      = λ t. le→leb told_size (length result') (let k = leb→le told_size (length result) t in omega arith) in
      let (e', front) = again m text (enough told_size result) (enough told_size result') list list' work work' o room l w e in
      (e', front, rw (e, e') (same_told o result result'));
}
