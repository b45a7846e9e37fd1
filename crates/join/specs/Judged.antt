-- What is judged before any step of a join.
use Rattle.std.specs.Prelude.{Option, Result, Ok, Err, is_some, IfSome, IfOk, ℕ, ◌+◌, ◌≤◌, ◌≡◌, Bool, true, List, T, leb, length}
use Rattle.automata.specs.Limits.{max_tapes}
use Rattle.automata.specs.Refusal
use Rattle.automata.specs.Answer.{◌>>=◌, Answer, ok, refused, require}
use Rattle.automata.specs.OrderedSum.{ℕ_sum}
use Rattle.automata.specs.Space.{Space}
use Rattle.automata.specs.Table.{weight_fits}
use Rattle.automata.specs.TapePair.{TapePair, tapes_of, limits_fit}
use Rattle.automata.specs.Memory.{Memory, Sound, table_of}
use Rattle.automata.specs.Join.{within, join_steps}
use Rattle.automata.specs.Calls.Work.{join_work}
use Rattle.automata.specs.Calls.Join.{lent_to, join_answer}
use Rattle.table.specs.Answers.{refusal_number}
use Rattle.table.specs.declared.answer.Refusal.{Refusal}
use Rattle.table.specs.Pairs.{pairs_as}
use Rattle.pairs.specs.Judgement.{PairsJudged, JoinJudged, Sided}
use Rattle.intersect_room.specs.declared.room.Room.{Room}
use Rattle.intersect_room.specs.Room.{Divides}
use Rattle.join.specs.declared.judge.Prepared.{Prepared}

-- two tables, their width, the pairs with their limits, and the work space, judged in turn
abbrev pub in_turn : Answer (Unit {0}) → Answer (Unit {0}) → Bool → Answer (Unit {0}) → Bool → Answer (Unit {0})
in_turn first second narrow pairs enough =
    first >>= λ a. second >>= λ b. require narrow Refusal.width >>= λ w. pairs >>= λ p. require enough Refusal.space

-- the answer on the work space: there is room exactly where it is as long as document 01 calls for (else 13), and it is
-- the room of the build, for as many states read as the product's space has
pub record JoinRoom (product result : Space) (work : ℕ) (r : Option Room) : Type 0 where
  pub enough : is_some r ≡ leb (join_work product result) work
  pub divides : IfSome r (Divides result.states result.arcs product.states work)

-- What is known of the parts of a call that goes on to its steps.
pub record Ready (a b : Memory) (ps : List TapePair) (product result : Space) (work : ℕ) (p : Prepared) : Type 0 where
  pub first : Sound a
  pub second : Sound b
  pub narrow : a.tapes + b.tapes ≤ max_tapes
  pub pairs : pairs_as p.pairs ≡ ps
  pub sided : Sided a.tapes b.tapes p.pairs
  pub fit : limits_fit ps ≡ true
  pub inside : T (within a.tapes b.tapes (tapes_of ps))
  pub enough : join_work product result ≤ work
  pub divides : Divides result.states result.arcs product.states work p.room

-- what the preparation answers, as a judgement
abbrev pub judgement : Result Prepared Refusal → Answer (Unit {0})
judgement (Ok p) = ok tt
judgement (Err r) = refused (refusal_number r)

-- The first refusal is the call's, and where there is none the call goes on to its steps.
pub record Prepares (a b : Memory) (ps : List TapePair) (product result : Space) (work : ℕ) (r : Result Prepared Refusal) : Type 0 where
  pub answer : (w : List ℕ) → length w ≡ work → join_answer a b ps product result w
      ≡ (judgement r >>= λ (u : Unit {0}). join_steps ℕ_sum weight_fits (lent_to product result w) ps (table_of a) (table_of b))
  pub ready : IfOk r (Ready a b ps product result work)

-- so for whatever pairs the list was judged, and a call goes on only with the list that was not refused
abbrev pub PreparesFor : Memory → Memory → PairsJudged → Space → Space → ℕ → Result Prepared Refusal → Type 0
PreparesFor a b listed product result work r =
    IfOk r (λ p. listed ≡ Ok p.pairs)
    × ((ps : List TapePair) → JoinJudged ps a.tapes b.tapes listed → Prepares a b ps product result work r)

-- pairs were judged for tables with n and m tapes
pub record Listed (n m : ℕ) (listed : PairsJudged) : Type 0 where
  pub pairs : List TapePair
  pub judged : JoinJudged pairs n m listed
