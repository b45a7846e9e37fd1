-- The arcs behind a weight (document 02, 2.3): of the successful paths that spell a tuple at its weight, the one with
-- the fewest arcs, then the lower starting state, then the lower arc number at the first difference. As it is computed,
-- a number of arcs stands beside each weight; the path is then followed from its start by the lowest arc that keeps
-- both.
use Rattle.std.specs.Prelude.{◌≡◌, ◌⊎◌, Bool, false, List, [], ◌∷◌, map, ℕ, zero, suc}
use Rattle.std.proofs.Math.Option
use Rattle.std.proofs.Math.Option.{Option, none, some}
use Rattle.automata.specs.First.{find_first, first_below}
use Rattle.automata.specs.OrderedSum.{OrderedSum, ℕ_sum, ◌≼◌}
use Rattle.automata.specs.Lexicographic.{lexicographic}
use Rattle.automata.specs.Least.{plus}
use Rattle.automata.specs.Automaton.{Tuple, Automaton, State, Arc, size, initial_of}
use Rattle.automata.specs.Paths.{Trace, SuccessfulPath, tuple, trace, weight}
use Rattle.automata.specs.TraceOrder.{Before}
use Rattle.automata.specs.Lookup.{left_quotients, via, best, arcs_enough, lookup}

-- ---- in terms of paths

-- π spells t, no path that spells t weighs less, and of those of its weight it comes first
pub record FirstLeast (S : OrderedSum) (A : Automaton S.W) (t : Tuple) (π : SuccessfulPath A) : Type 0 where
  pub spells : tuple π ≡ t
  pub least : (ρ : SuccessfulPath A) → tuple ρ ≡ t → ◌≼◌ S (weight S π) (weight S ρ)
  pub first : (ρ : SuccessfulPath A) → tuple ρ ≡ t → weight S ρ ≡ weight S π → (trace π ≡ trace ρ) ⊎ Before (trace π) (trace ρ)

-- ---- as it is computed

module _ (S : OrderedSum) where
  -- weights with a number of arcs: the lesser weight, then the fewer arcs
  abbrev pub counting : OrderedSum
  counting = lexicographic S ℕ_sum

  -- both are there and the first is at most the second
  abbrev pub at_most : Option S.W → Option S.W → Bool
  at_most none o = false
  at_most (some u) none = false
  at_most (some u) (some v) = S.leq u v

module _ (S : OrderedSum) (A : Automaton S.W) where
  open S use {W}

  -- the least weight to the end, from a state with these rests to be spelled: what a work cell of a lookup holds
  abbrev pub least_onward : ℕ → Tuple → Option W
  least_onward q rests = best S A (arcs_enough S A rests) q rests

  -- the same from the start at q, its initial weight included
  abbrev pub from_start : Tuple → ℕ → Option W
  from_start t q = elim (initial_of A q) [ none ↦ none | some i ↦ plus S i (least_onward q t) ]

  -- arc a begins a least run from q that spells the rests
  abbrev pub begins : ℕ → Tuple → Arc W → Bool
  begins q rests a = at_most S (via S A least_onward q rests a) (least_onward q rests)

  -- what is left to be spelled behind an arc
  abbrev pub rest_after : Arc W → Tuple → Tuple
  rest_after a rests = elim (left_quotients a.labels rests) [ none ↦ [] | some rest ↦ rest ]

  -- the run of n arcs from q that spells the rests, by the lowest arc that begins a least run each time
  abbrev pub follow : ℕ → ℕ → Tuple → List ℕ
  follow zero q rests = []
  follow (suc n) q rests = elim (find_first (begins q rests) zero A.arcs)
      [ none ↦ [] | some s ↦ s.0 ∷ follow n s.1.target (rest_after s.1 rests) ]

  -- the lowest state at which a least path starts
  abbrev pub lowest_start : Tuple → Option ℕ
  lowest_start t = first_below (λ q. at_most S (from_start t q) (lookup S A t)) (size A)

module _ {W : Type 0} where
  -- a weight with no arc, and the states and arcs with a number of arcs beside each weight
  abbrev pub still : Option W → Option (W × ℕ)
  still = Option.map (λ w. (w, 0))

  abbrev pub counted_arc : Arc W → Arc (W × ℕ)
  counted_arc a = record { source = a.source; target = a.target; weight = (a.weight, 1); labels = a.labels }

  abbrev pub counted_state : State W → State (W × ℕ)
  counted_state s = record { initial = still s.initial; final = still s.final }

  -- the automaton whose weights count the arcs
  abbrev pub counted : Automaton W → Automaton (W × ℕ)
  counted A = record { tapes = A.tapes; states = map counted_state A.states; arcs = map counted_arc A.arcs }

-- a weight and the path behind it
pub record Account (W : Type 0) : Type 0 where
  pub weight : W
  pub path : Trace

module _ (S : OrderedSum) (A : Automaton S.W) where
  open S use {W}

  -- the path of n arcs from q behind a least weight
  abbrev pub path_from : Tuple → ℕ → ℕ → Trace
  path_from t n q = record { start = q; run = follow (counting S) (counted A) n q t }

  -- the weight of a tuple with the path behind it, or none
  unfoldable pub least_path : Tuple → Option (Account W)
  least_path t = elim (lookup (counting S) (counted A) t)
      [ none ↦ none | some u ↦ Option.map (λ q. record { weight = u.0; path = path_from t u.1 q }) (lowest_start (counting S) (counted A) t) ]
