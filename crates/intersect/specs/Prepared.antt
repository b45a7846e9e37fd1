-- What is judged before any configuration is reached.
use Rattle.std.specs.Prelude.{Result, Ok, Err, IfOk, ℕ, ◌≡◌, true, List, length}
use Rattle.automata.specs.Answer.{◌>>=◌, Answer, ok, refused}
use Rattle.automata.specs.Memory.{Sound, table_of}
use Rattle.automata.specs.TapePair.{TapePair, limits_fit}
use Rattle.automata.specs.IntersectCall.{intersect_on}
use Rattle.automata.specs.Calls.Intersect.{intersect_answer}
use Rattle.table.specs.declared.answer.Refusal.{Refusal}
use Rattle.table.specs.declared.answer.Counts.{Counts}
use Rattle.table.specs.Answers.{lent, refusal_number}
use Rattle.table.specs.Pairs.{pairs_as, Named}
use Rattle.pairs.specs.Judgement.{PairsJudged, KeepJudged}
use Rattle.intersect_room.specs.Room.{lent_space, Divides}
use Rattle.intersect_offers.specs.declared.plan.Plan.{Plan}

-- what is prepared: what the search reads, or a refusal
abbrev pub Prepared : Type 0
Prepared = Result Plan Refusal

-- what it stands for as a judgement: nothing, or the number of the refusal
abbrev pub judgement : Prepared → Answer (Unit {0})
judgement (Ok p) = ok tt
judgement (Err r) = refused (refusal_number r)

-- what the search reads is the table with these counts and bytes, the pairs, and the parts of the work space
pub record Ready (c : Counts) (states arcs : List ℕ) (ps : List TapePair) (for_states for_arcs work : ℕ) (p : Plan) : Type 0 where
  pub counts_are : p.counts ≡ c
  pub sound : Sound (lent c states arcs)
  pub pairs_are : pairs_as p.pairs ≡ ps
  pub four : length p.pairs.pairs ≡ 4
  pub named : Named c.tapes p.pairs
  pub within_limits : limits_fit ps ≡ true
  pub divides : Divides for_states for_arcs c.states work p.room

-- The first refusal is the call's, and where there is none the call goes on to reach configurations; what then is known
-- of its parts.
pub record Prepares (c : Counts) (states arcs : List ℕ) (ps : List TapePair) (for_states for_arcs work : ℕ) (r : Prepared) : Type 0 where
  pub answer : (w : List ℕ) → length w ≡ work → intersect_answer (lent c states arcs) ps (lent_space for_states for_arcs) w
      ≡ (judgement r >>= λ (u : Unit {0}). intersect_on (lent_space for_states for_arcs) ps (table_of (lent c states arcs)))
  pub plan : IfOk r (Ready c states arcs ps for_states for_arcs work)

-- so for whatever pairs the list was judged
abbrev pub PreparesFor : Counts → List ℕ → List ℕ → PairsJudged → ℕ → ℕ → ℕ → Prepared → Type 0
PreparesFor c states arcs listed for_states for_arcs work r =
    (ps : List TapePair) → KeepJudged ps c.tapes listed → Prepares c states arcs ps for_states for_arcs work r
