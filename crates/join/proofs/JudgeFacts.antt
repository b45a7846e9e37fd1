-- The judgements before any step of a join, and the call that they are made for.
use Prim.Native.Nat.{ℕ, ◌+◌, ◌≤◌}
use Rattle.std.specs.Prelude.{Result, Ok, Err, Some, None}
use mathlib.Core.Path.{◌≡◌, refl, sym, ap, ap₂, ◌∙◌}
use mathlib.Core.Bool.{Bool, true, false}
use mathlib.Core.List.{List}
use lib.Dec.{T, leb, leb→le}
use lib.ListN.{length}
use Rattle.automata.specs.Limits.{max_tapes}
use Rattle.automata.specs.Refusal as refusal
use Rattle.automata.specs.Answer.{◌>>=◌, Answer, ok, refused, judge, forget}
use Rattle.automata.specs.OrderedSum.{ℕ_sum}
use Rattle.automata.specs.Space.{Space}
use Rattle.automata.specs.Automaton.{Automaton}
use Rattle.automata.specs.Table.{weight_fits}
use Rattle.automata.specs.TapePair.{TapePair, tapes_of}
use Rattle.automata.specs.Memory.{Memory, Sound, table_of, decode_table}
use Rattle.automata.specs.Join.{within, join_steps, join}
use Rattle.automata.specs.Calls.Work.{join_work, enough}
use Rattle.automata.specs.Calls.Join.{lent_to, join_answer}
use Rattle.automata.proofs.AnswerFacts.{judge-ok}
use Rattle.automata.proofs.TestFacts.{true_T}
use Rattle.automata.proofs.SoundFacts.{sound, table_of_is, sound_holds}
use Rattle.automata.proofs.CallTests.{join-width}
use Rattle.table.specs.declared.answer.Refusal.{Refusal}
use Rattle.table.specs.declared.answer.Refusal.TheVariants as why
use Rattle.table.specs.declared.pair.PairList.{PairList}
use Rattle.table.specs.Answers.{refusal_number}
use Rattle.table.proofs.TableFacts.{judged_sound}
use Rattle.pairs.specs.PairTests.{join_pairs_answer}
use Rattle.pairs.specs.Judgement.{JoinJudged}
use Rattle.pairs.proofs.CallFacts.{join_then}
use Rattle.pairs.proofs.TestFacts.{join_limits}
use Rattle.pairs.proofs.TurnFacts.{turn_then}
use Rattle.intersect_room.specs.declared.room.Room.{Room}
use Rattle.join.specs.declared.judge.Prepared.{Prepared}
use Rattle.join.specs.Judged.{in_turn, JoinRoom, judgement, Prepares}

-- ---- the call
module _ (a b : Memory) (ps : List TapePair) (product result : Space) (work : ℕ) (t u p j : Answer (Unit {0})) (n e : Bool)
    (is-t : t ≡ forget (decode_table a)) (is-u : u ≡ forget (decode_table b)) (is-n : n ≡ leb (a.tapes + b.tapes) max_tapes)
    (is-p : p ≡ join_pairs_answer a.tapes b.tapes ps) (is-e : e ≡ leb (join_work product result) work) (is-j : j ≡ in_turn t u n p e)
    (w : List ℕ) (l : length w ≡ work) where
  -- the steps of the call
  abbrev rest : Answer (Automaton ℕ)
  rest = join_steps ℕ_sum weight_fits (lent_to product result w) ps (table_of a) (table_of b)

  abbrev after : Answer (Unit {0}) → Answer (Automaton ℕ)
  after x = x >>= λ (v : Unit {0}). rest

  -- the call on tables that stand in memory
  abbrev next : Automaton ℕ → Automaton ℕ → Answer (Automaton ℕ)
  next A B = join ℕ_sum weight_fits (lent_to product result w) ps A B

  -- the tests behind the tables
  tests_then : Sound a → Sound b → (c : Bool) → n ≡ c → next (table_of a) (table_of b) ≡ after (in_turn (ok tt) (ok tt) n p e)
  tests_then s z false q =
      let d : leb ((table_of a).tapes + (table_of b).tapes) max_tapes ≡ false =
      ap₂ (λ (x y : ℕ). leb (x + y) max_tapes) (sym (sound_holds a s).tapes) (sym (sound_holds b z).tapes) ∙ sym is-n ∙ q in
      join-width (lent_to product result w) ps (table_of a) (table_of b) d ∙ sym (ap (λ (c : Bool). after (in_turn (ok tt) (ok tt) c p e)) q)
  tests_then s z true q =
      let few : a.tapes + b.tapes ≤ max_tapes = leb→le (a.tapes + b.tapes) max_tapes (true_T (leb (a.tapes + b.tapes) max_tapes) (sym is-n ∙ q)) in
      let long : enough (join_work product result) w ≡ e = ap (leb (join_work product result)) l ∙ sym is-e in
      join_then ℕ_sum weight_fits (lent_to product result w) ps (table_of a) (table_of b) a.tapes b.tapes (sym (sound_holds a s).tapes) (sym (sound_holds b z).tapes) few
      ∙ ap (λ (x : Answer (Unit {0})). x >>= λ (v : Unit {0}). judge (enough (join_work product result) w) refusal.space rest) (sym is-p)
      ∙ ap (λ (c : Bool). p >>= λ (v : Unit {0}). judge c refusal.space rest) long
      ∙ turn_then p e refusal.space rest
      ∙ sym (ap (λ (c : Bool). after (in_turn (ok tt) (ok tt) c p e)) q)

  -- the call by the judgements
  by_tables : (x y : Answer (Automaton ℕ)) → decode_table a ≡ x → decode_table b ≡ y → join_answer a b ps product result w ≡ after j
  unfolding join_answer
  by_tables (refused k) y d f =
      ap (λ (r : Answer (Automaton ℕ)). r >>= λ A. decode_table b >>= λ B. next A B) d
      ∙ sym (ap after (is-j ∙ ap (λ (x : Answer (Unit {0})). in_turn x u n p e) (is-t ∙ ap forget d)))
  by_tables (ok A) (refused k) d f =
      ap (λ (r : Answer (Automaton ℕ)). r >>= λ A. decode_table b >>= λ B. next A B) d ∙ ap (λ (r : Answer (Automaton ℕ)). r >>= λ B. next A B) f
      ∙ sym (ap after (is-j ∙ ap (λ (x : Answer (Unit {0})). in_turn x u n p e) (is-t ∙ ap forget d) ∙ ap (λ (x : Answer (Unit {0})). in_turn (ok tt) x n p e) (is-u ∙ ap forget f)))
  by_tables (ok A) (ok B) d f =
      ap (λ (r : Answer (Automaton ℕ)). r >>= λ A. decode_table b >>= λ B. next A B) d ∙ ap (λ (r : Answer (Automaton ℕ)). r >>= λ B. next A B) f
      ∙ ap₂ next (sym (table_of_is a A d)) (sym (table_of_is b B f))
      ∙ tests_then (sound a A d) (sound b B f) n refl
      ∙ sym (ap after (is-j ∙ ap (λ (x : Answer (Unit {0})). in_turn x u n p e) (is-t ∙ ap forget d) ∙ ap (λ (x : Answer (Unit {0})). in_turn (ok tt) x n p e) (is-u ∙ ap forget f)))

-- pairs that are not refused name tapes that are there
pairs-within : (n m : ℕ) (ps : List TapePair) → join_pairs_answer n m ps ≡ ok tt → T (within n m (tapes_of ps))
unfolding join_pairs_answer
pairs-within n m ps e = (judge-ok (within n m (tapes_of ps)) _ _ tt e).0

-- ---- what the preparation answers
module _ (a b : Memory) (ps : List TapePair) (product result : Space) (work : ℕ) where
  -- the parts that are judged, in turn: the first table, the second, their width, the pairs, the work space
  abbrev one : Answer (Unit {0})
  one = forget (decode_table a)

  abbrev two : Answer (Unit {0})
  two = forget (decode_table b)

  abbrev narrow : Bool
  narrow = leb (a.tapes + b.tapes) max_tapes

  abbrev pairs : Answer (Unit {0})
  pairs = join_pairs_answer a.tapes b.tapes ps

  abbrev long : Bool
  long = leb (join_work product result) work

  -- the call, by an answer that is the judgements' as they are known
  told : (r : Result Prepared Refusal) (t u : Answer (Unit {0})) (n : Bool) (p : Answer (Unit {0})) (e : Bool) → one ≡ t → two ≡ u → narrow ≡ n → pairs ≡ p → long ≡ e
      → in_turn t u n p e ≡ judgement r → (w : List ℕ) → length w ≡ work → join_answer a b ps product result w
      ≡ (judgement r >>= λ (v : Unit {0}). join_steps ℕ_sum weight_fits (lent_to product result w) ps (table_of a) (table_of b))
  told r t u n p e f g h k l z w m =
      by_tables a b ps product result work one two pairs (judgement r) narrow long refl refl refl refl refl (sym ((λ i. in_turn (f i) (g i) (h i) (k i) (l i)) ∙ z)) w m
      (decode_table a) (decode_table b) refl refl

  -- the first table is refused
  pub first_stops : (y : Refusal) → refused (refusal_number y) ≡ one → Prepares a b ps product result work (Err y)
  first_stops y f = record { answer = told (Err y) (refused (refusal_number y)) two narrow pairs long (sym f) refl refl refl refl refl; ready = tt }

  module _ (f : ok tt ≡ one) where
    -- the second
    pub second_stops : (y : Refusal) → refused (refusal_number y) ≡ two → Prepares a b ps product result work (Err y)
    second_stops y g = record { answer = told (Err y) (ok tt) (refused (refusal_number y)) narrow pairs long (sym f) (sym g) refl refl refl refl; ready = tt }

    module _ (g : ok tt ≡ two) where
      -- their width
      pub width_stops : narrow ≡ false → Prepares a b ps product result work (Err why.Width)
      width_stops n = record { answer = told (Err why.Width) (ok tt) (ok tt) false pairs long (sym f) (sym g) n refl refl refl; ready = tt }

      module _ (n : narrow ≡ true) where
        -- the pairs
        pub pairs_stop : (y : Refusal) → JoinJudged ps a.tapes b.tapes (Err y) → Prepares a b ps product result work (Err y)
        pairs_stop y k = record { answer = told (Err y) (ok tt) (ok tt) true (refused (refusal_number y)) long (sym f) (sym g) n (sym k.answer) refl refl; ready = tt }

        module _ (l : PairList) (k : JoinJudged ps a.tapes b.tapes (Ok l)) where
          -- the work space
          pub space_stops : JoinRoom product result work None → Prepares a b ps product result work (Err why.Space)
          space_stops r = record { answer = told (Err why.Space) (ok tt) (ok tt) true (ok tt) false (sym f) (sym g) n (sym k.answer) (sym r.enough) refl; ready = tt }

          -- no refusal
          pub goes_on : (room : Room) → JoinRoom product result work (Some room) → Prepares a b ps product result work (Ok (record { pairs = l; room = room }))
          goes_on room r = record {
            answer = told (Ok (record { pairs = l; room = room })) (ok tt) (ok tt) true (ok tt) true (sym f) (sym g) n (sym k.answer) (sym r.enough) refl;
            ready = record {
              first = judged_sound a (sym f);
              second = judged_sound b (sym g);
              narrow = leb→le (a.tapes + b.tapes) max_tapes (true_T narrow n);
              pairs = k.pairs;
              sided = k.tapes_named;
              fit = join_limits ps a.tapes b.tapes l k;
              inside = pairs-within a.tapes b.tapes ps (sym k.answer);
              enough = leb→le (join_work product result) work (true_T long (sym r.enough));
              divides = r.divides;
            };
          }
