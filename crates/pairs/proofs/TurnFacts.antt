-- Facts of judgements in turn: a table, the pairs, the work space.
use Prim.Native.Nat.{ℕ}
use mathlib.Core.Path.{◌≡◌, refl, sym, ap, ◌∙◌}
use mathlib.Core.Bool.{Bool, true, false}
use Rattle.automata.specs.Refusal as refusal
use Rattle.automata.specs.Answer.{◌>>=◌, Answer, ok, refused, require, judge, forget}
use Rattle.automata.specs.Automaton.{Automaton}
use Rattle.automata.specs.Memory.{Memory, decode_table}
use Rattle.automata.proofs.AnswerFacts.{refused≢ok}
use Rattle.std.specs.Prelude.{Ok, Err}
use Rattle.table.specs.Answers.{Judged, judged_as}
use Rattle.pairs.specs.PairTests.{in_turn}

-- the tests before an answer, and the answer
pub turn_then : {A : Type 0} (p : Answer (Unit {0})) (b : Bool) (n : ℕ) (rest : Answer A)
    → (p >>= λ (u : Unit {0}). judge b n rest) ≡ ((p >>= λ (u : Unit {0}). require b n) >>= λ (u : Unit {0}). rest)
turn_then (refused k) b n rest = refl
turn_then (ok u) true n rest = refl
turn_then (ok u) false n rest = refl

-- a judgement that is no refusal
pub judged_fine : (j : Judged) (u : Unit {0}) → judged_as j ≡ ok u → j ≡ Ok tt
judged_fine (Ok t) u e = refl
judged_fine (Err why) u e = absurd (refused≢ok e)

-- a test that is no refusal
pub require_true : (b : Bool) (n : ℕ) (u : Unit {0}) → require b n ≡ ok u → b ≡ true
require_true true n u e = refl
require_true false n u e = absurd (refused≢ok e)

-- A call that judges its table, then the pairs and the space, and then goes on is its judgements in turn, and then the
-- rest.
pub by_turns : {X : Type 0} (m : Memory) (p j : Answer (Unit {0})) (space : Bool) (next : Automaton ℕ → Answer X) (rest : Answer X)
    → j ≡ in_turn (forget (decode_table m)) p space
    → ((A : Automaton ℕ) → decode_table m ≡ ok A → next A ≡ (p >>= λ (u : Unit {0}). judge space refusal.space rest))
    → (decode_table m >>= next) ≡ (j >>= λ (u : Unit {0}). rest)
by_turns {X} m p j space next rest h f = go (decode_table m) refl
  where
    judged : (r : Answer (Automaton ℕ)) → decode_table m ≡ r → (j >>= λ (u : Unit {0}). rest) ≡ (in_turn (forget r) p space >>= λ (u : Unit {0}). rest)
    judged r d = ap (λ (a : Answer (Unit {0})). a >>= λ (u : Unit {0}). rest) (h ∙ ap (λ (a : Answer (Automaton ℕ)). in_turn (forget a) p space) d)

    go : (r : Answer (Automaton ℕ)) → decode_table m ≡ r → (decode_table m >>= next) ≡ (j >>= λ (u : Unit {0}). rest)
    go (refused n) d = ap (λ (r : Answer (Automaton ℕ)). r >>= next) d ∙ sym (judged (refused n) d)
    go (ok A) d = ap (λ (r : Answer (Automaton ℕ)). r >>= next) d ∙ f A d ∙ turn_then p space refusal.space rest ∙ sym (judged (ok A) d)
