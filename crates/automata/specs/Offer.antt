-- The steps out of a configuration arc by arc: what each arc of the source offers it, and what the first arcs offer
-- together. What all of them offer is Intersect's `out`, and its steps that are too long (proofs/IntersectSteps).
use Rattle.std.specs.Prelude.{Bool, true, false, List, ℕ, zero, eqb, take}
use Rattle.std.proofs.Math.Option.{Option, none, some, map}
use Rattle.automata.specs.Lists.{if, any, numbered, map_maybe}
use Rattle.automata.specs.Automaton.{Arc, Automaton}
use Rattle.automata.specs.TapePair.{TapePair}
use Rattle.automata.specs.Config.{Config, too_long, follow}

-- what an arc offers a configuration: no step, a compatible and viable step that is too long, or a step to a successor
pub data Offer (C : Type 0) : Type 0 where
  nothing : Offer C
  late : Offer C
  to : C → Offer C

module _ {C : Type 0} where
  -- the successor, where one is offered
  abbrev pub successor : Offer C → Option C
  successor nothing = none
  successor late = none
  successor (to d) = some d

  -- the step is too long
  abbrev pub is_late : Offer C → Bool
  is_late nothing = false
  is_late late = true
  is_late (to d) = false

module _ (ps : List TapePair) (viable : Config → Bool) where
  -- what is offered where the arc leaves the configuration's state, by the configuration after it
  abbrev pub offer_to : Option Config → Offer Config
  offer_to none = nothing
  offer_to (some d) = if (viable d) (if (too_long ps d.leftovers) late (to d)) nothing

  -- what an arc offers a configuration
  unfoldable pub offer : {W : Type 0} → Config → Arc W → Offer Config
  offer c a = if (eqb a.source c.state) (offer_to (follow ps c a)) nothing

module _ {W : Type 0} (A : Automaton W) (ps : List TapePair) (viable : Config → Bool) where
  -- the step by a numbered arc, where it leads to a successor
  abbrev pub step_by : Config → ℕ × Arc W → Option ((ℕ × Arc W) × Config)
  step_by c e = map (λ d. (e, d)) (successor (offer ps viable c e.1))

  -- the steps to successors by the first j arcs, in arc order
  unfoldable pub out_up_to : ℕ → Config → List ((ℕ × Arc W) × Config)
  out_up_to j c = map_maybe (step_by c) (numbered zero (take j A.arcs))

  -- a step by one of the first j arcs is too long
  unfoldable pub late_up_to : ℕ → Config → Bool
  late_up_to j c = any (λ a. is_late (offer ps viable c a)) (take j A.arcs)
