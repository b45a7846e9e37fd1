-- The judgements before any configuration is reached, and the call that they are made for.
use Prim.Native.Nat.{ℕ}
use mathlib.Core.Path.{◌≡◌, refl, sym, ap, ◌∙◌}
use mathlib.Core.Bool.{Bool}
use mathlib.Core.List.{List}
use lib.Dec.{leb}
use lib.ListN.{length}
use Rattle.std.specs.Prelude.{Ok, Err, Some, None}
use Rattle.automata.specs.Refusal as refusal
use Rattle.automata.specs.Answer.{◌>>=◌, Answer, ok, refused, require, judge, forget}
use Rattle.automata.specs.Automaton.{Automaton, size}
use Rattle.automata.specs.TapePair.{TapePair}
use Rattle.automata.specs.Memory.{Memory, Sound, table_of, decode_table}
use Rattle.automata.specs.IntersectCall.{intersect_on, intersect_call}
use Rattle.automata.specs.Calls.Work.{build_work, enough}
use Rattle.automata.specs.Calls.Intersect.{intersect_answer}
use Rattle.automata.proofs.SoundFacts.{sound, table_of_is, sound_holds}
use Rattle.table.specs.declared.answer.Refusal.{Refusal}
use Rattle.table.specs.declared.answer.Refusal.TheVariants.{Space}
use Rattle.table.specs.declared.answer.Counts.{Counts}
use Rattle.table.specs.declared.pair.PairList.{PairList}
use Rattle.table.specs.Answers.{lent, judged_as, refusal_number}
use Rattle.table.proofs.TableFacts.{judged_sound}
use Rattle.pairs.specs.PairTests.{pairs_answer, in_turn}
use Rattle.pairs.specs.Judgement.{KeepJudged}
use Rattle.pairs.proofs.TestFacts.{keep_limits}
use Rattle.pairs.proofs.CallFacts.{intersect_then}
use Rattle.pairs.proofs.TurnFacts.{by_turns}
use Rattle.intersect_room.specs.declared.room.Room.{Room}
use Rattle.intersect_room.specs.Room.{lent_space, RoomFor}
use Rattle.intersect.specs.Prepared.{Prepares}

module _ (c : Counts) (states arcs : List ℕ) (ps : List TapePair) (for_states for_arcs work : ℕ) where
  -- the table, and whether the work space is enough
  abbrev m : Memory
  m = lent c states arcs

  abbrev fits : Bool
  fits = leb (build_work (lent_space for_states for_arcs) m.states) work

  -- the call by the judgements
  call_in_turn : (j : Answer (Unit {0})) → j ≡ in_turn (forget (decode_table m)) (pairs_answer m.tapes ps) fits → (w : List ℕ) → length w ≡ work
      → intersect_answer m ps (lent_space for_states for_arcs) w ≡ (j >>= λ (u : Unit {0}). intersect_on (lent_space for_states for_arcs) ps (table_of m))
  unfolding intersect_answer
  call_in_turn j h w l = by_turns m (pairs_answer m.tapes ps) j fits next rest h (λ A d.
      let s : Sound m = sound m A d in
      let y : enough (build_work (lent_space for_states for_arcs) (size (table_of m))) w ≡ fits
      = ap (λ (n : ℕ). leb (build_work (lent_space for_states for_arcs) n) (length w)) (sym (sound_holds m s).states) ∙ ap (leb (build_work (lent_space for_states for_arcs) m.states)) l in
      ap next (sym (table_of_is m A d))
      ∙ intersect_then (enough (build_work (lent_space for_states for_arcs) (size (table_of m))) w) (lent_space for_states for_arcs) ps (table_of m) m.tapes (sym (sound_holds m s).tapes)
      ∙ ap (λ (b : Bool). pairs_answer m.tapes ps >>= λ (u : Unit {0}). judge b refusal.space rest) y)
    where
      rest : Answer (Automaton ℕ)
      rest = intersect_on (lent_space for_states for_arcs) ps (table_of m)

      next : Automaton ℕ → Answer (Automaton ℕ)
      next A = intersect_call (enough (build_work (lent_space for_states for_arcs) (size A)) w) (lent_space for_states for_arcs) ps A

  -- the table is refused
  pub table_refused : (e : Refusal) → judged_as (Err e) ≡ forget (decode_table m) → Prepares c states arcs ps for_states for_arcs work (Err e)
  table_refused e t = record {
    answer = call_in_turn (refused (refusal_number e)) (ap (λ (a : Answer (Unit {0})). in_turn a (pairs_answer m.tapes ps) fits) t);
    plan = tt;
  }

  module _ (t : judged_as (Ok tt) ≡ forget (decode_table m)) where
    -- it is not, so the pairs and the space are judged
    table_fine : in_turn (ok tt) (pairs_answer m.tapes ps) fits ≡ in_turn (forget (decode_table m)) (pairs_answer m.tapes ps) fits
    table_fine = ap (λ (a : Answer (Unit {0})). in_turn a (pairs_answer m.tapes ps) fits) t

    -- the pairs are refused
    pub pairs_refused : (e : Refusal) → KeepJudged ps m.tapes (Err e) → Prepares c states arcs ps for_states for_arcs work (Err e)
    pairs_refused e k = record {
      answer = call_in_turn (refused (refusal_number e)) (ap (λ (a : Answer (Unit {0})). in_turn (ok tt) a fits) k.answer ∙ table_fine);
      plan = tt;
    }

    module _ (l : PairList) (k : KeepJudged ps m.tapes (Ok l)) where
      -- they are not, so the space is judged
      pairs_fine : require fits refusal.space ≡ in_turn (forget (decode_table m)) (pairs_answer m.tapes ps) fits
      pairs_fine = ap (λ (a : Answer (Unit {0})). in_turn (ok tt) a fits) k.answer ∙ table_fine

      -- the work space is too short
      pub space_refused : RoomFor for_states for_arcs m.states work None → Prepares c states arcs ps for_states for_arcs work (Err Space)
      space_refused r = record {
        answer = call_in_turn (refused refusal.space) (ap (λ (b : Bool). require b refusal.space) r.enough ∙ pairs_fine);
        plan = tt;
      }

      -- nothing is refused
      pub prepared : (r : Room) → RoomFor for_states for_arcs m.states work (Some r)
          → Prepares c states arcs ps for_states for_arcs work (Ok (record { counts = c; pairs = l; room = r }))
      prepared r f = record {
        answer = call_in_turn (ok tt) (ap (λ (b : Bool). require b refusal.space) f.enough ∙ pairs_fine);
        plan = record {
          counts_are = refl;
          sound = judged_sound m (sym t);
          pairs_are = k.pairs;
          four = k.four;
          named = k.tapes_named;
          within_limits = keep_limits ps m.tapes l k;
          divides = f.divides;
        };
      }
