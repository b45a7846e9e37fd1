-- Request 2.4 of document 02: "With equal limits every earlier table must come out again, and raising any one of them
-- must not alter a table already given." Document 01's calls, in which one limit D holds for all pairs, stand here too.
use Rattle.std.specs.Prelude.{◌≡◌, Bool, List, ◌∷◌, ◌++◌, map, ℕ, ◌+◌, ◌≤◌, leb, length}
use Rattle.automata.specs.Limits.{max_tapes, max_pairs, max_delay}
use Rattle.automata.specs.Refusal
use Rattle.automata.specs.Lists.{and, all}
use Rattle.automata.specs.Answer.{◌>>=◌, Answer, ok, judge}
use Rattle.automata.specs.Space.{Space}
use Rattle.automata.specs.OrderedSum.{OrderedSum, ℕ_sum}
use Rattle.automata.specs.Automaton.{Automaton, Formed, size}
use Rattle.automata.specs.Table.{weight_fits}
use Rattle.automata.specs.TapePair.{Pair, TapePair}
use Rattle.automata.specs.Tapes.{seconds, moved}
use Rattle.automata.specs.Intersect.{intersect}
use Rattle.automata.specs.IntersectCall.{distinct, named, intersect_call}
use Rattle.automata.specs.Product.{cross_product}
use Rattle.automata.specs.Projection.{is_tape, without}
use Rattle.automata.specs.Join.{within, separate, Lent, join}
use Rattle.automata.specs.Memory.{Memory, decode_table}
use Rattle.automata.specs.Calls.Outcome.{Slices, space_of, Built, build, Joined, conclude, given}
use Rattle.automata.specs.Calls.Work.{build_work, enough}
use Rattle.automata.specs.Calls.Intersect.{intersect_outcome}
use Rattle.automata.specs.Calls.Join.{lent_to, join_outcome}

-- pairs of tapes that all have the limit D
abbrev pub limited : ℕ → List Pair → List TapePair
limited D ps = map (λ p. record { first = p.first; second = p.second; limit = D }) ps

-- the pair with another limit
abbrev pub raised : TapePair → ℕ → TapePair
raised p l = record { first = p.first; second = p.second; limit = l }

-- ---- document 01's calls

module _ {W : Type 0} where
  -- the auto-intersection on pairs that all have the limit D, without its configurations
  abbrev pub kept_one_limit : ℕ → Space → List Pair → Automaton W → Answer (Automaton W)
  kept_one_limit D space ps A = intersect A (limited D ps) space >>= λ I. ok I.automaton

  -- the call `intersect` with one limit D
  abbrev pub intersect_one_limit : ℕ → Bool → Space → List Pair → Automaton W → Answer (Automaton W)
  intersect_one_limit D enough space ps A =
      let answer = kept_one_limit D space ps A in
      judge (all (is_tape A.tapes) (named ps)) Refusal.tape
      (judge (and (leb (length ps) max_pairs) (distinct (named ps))) Refusal.pairs
      (judge (leb D max_delay) Refusal.limit (judge enough Refusal.space answer)))

module _ (S : OrderedSum) (fits : S.W → Bool) where
  open S use {W}

  -- the join with one limit D
  abbrev pub join_one_limit : ℕ → Lent → List Pair → Automaton W → Automaton W → Answer (Automaton W)
  join_one_limit D lent ps A B =
      let kept = moved (λ j. A.tapes + j) ps in
      let answer = cross_product S fits lent.product A B >>= λ P. kept_one_limit D lent.result kept P >>= λ K. ok (without (seconds kept) K) in
      judge (leb (A.tapes + B.tapes) max_tapes) Refusal.width
      (judge (within A.tapes B.tapes ps) Refusal.tape
      (judge (separate ps) Refusal.pairs
      (judge (leb D max_delay) Refusal.limit
      (judge lent.enough Refusal.space answer))))

-- their whole outcomes on bytes
abbrev pub intersect_one_limit_outcome : ℕ → Memory → List Pair → Slices → List ℕ → Built
intersect_one_limit_outcome D m ps s work =
    build (decode_table m >>= λ A. intersect_one_limit D (enough (build_work (space_of s) (size A)) work) (space_of s) ps A) s work

abbrev pub join_one_limit_outcome : ℕ → Memory → Memory → List Pair → Slices → Slices → List ℕ → Joined
join_one_limit_outcome D a b ps p s work =
    conclude (decode_table a >>= λ A. decode_table b >>= λ B. join_one_limit ℕ_sum weight_fits D (lent_to (space_of p) (space_of s) work) ps A B) s p work

-- ---- the claim

module _ (S : OrderedSum) (fits : S.W → Bool) where
  open S use {W}

  -- on automata
  pub record EqualLimits : Type 0 where
    -- equal limits in range: the whole answer of the call with that one limit, its table or its refusal
    pub equal_intersect : (D : ℕ) (enough : Bool) (space : Space) (ps : List Pair) (A : Automaton W) → D ≤ max_delay
        → intersect_call enough space (limited D ps) A ≡ intersect_one_limit D enough space ps A
    pub equal_join : (D : ℕ) (lent : Lent) (ps : List Pair) (A B : Automaton W) → D ≤ max_delay
        → join S fits lent (limited D ps) A B ≡ join_one_limit S fits D lent ps A B
    -- every earlier table comes out again
    pub earlier_intersect : (D : ℕ) (enough : Bool) (space : Space) (ps : List Pair) (A R : Automaton W)
        → intersect_one_limit D enough space ps A ≡ ok R → intersect_call enough space (limited D ps) A ≡ ok R
    pub earlier_join : (D : ℕ) (lent : Lent) (ps : List Pair) (A B J : Automaton W)
        → join_one_limit S fits D lent ps A B ≡ ok J → join S fits lent (limited D ps) A B ≡ ok J
    -- raising any one limit does not alter a table
    pub raised_intersect : (enough : Bool) (space : Space) (ps qs : List TapePair) (p : TapePair) (l : ℕ) (A R : Automaton W) → Formed A
        → p.limit ≤ l → l ≤ max_delay → intersect_call enough space (ps ++ (p ∷ qs)) A ≡ ok R
        → intersect_call enough space (ps ++ (raised p l ∷ qs)) A ≡ ok R
    pub raised_join : (lent : Lent) (ps qs : List TapePair) (p : TapePair) (l : ℕ) (A B J : Automaton W) → Formed A → Formed B
        → p.limit ≤ l → l ≤ max_delay → join S fits lent (ps ++ (p ∷ qs)) A B ≡ ok J → join S fits lent (ps ++ (raised p l ∷ qs)) A B ≡ ok J

-- of the public calls, on bytes: answers, result space, work space and the product's space
pub record EqualLimitCalls : Type 0 where
  pub equal_intersect : (D : ℕ) (m : Memory) (ps : List Pair) (s : Slices) (work : List ℕ) → D ≤ max_delay
      → intersect_outcome m (limited D ps) s work ≡ intersect_one_limit_outcome D m ps s work
  pub equal_join : (D : ℕ) (a b : Memory) (ps : List Pair) (p s : Slices) (work : List ℕ) → D ≤ max_delay
      → join_outcome a b (limited D ps) p s work ≡ join_one_limit_outcome D a b ps p s work
  pub earlier_intersect : (D : ℕ) (m : Memory) (ps : List Pair) (s : Slices) (work : List ℕ) (r : Memory)
      → given (intersect_one_limit_outcome D m ps s work).made ≡ ok r → intersect_outcome m (limited D ps) s work ≡ intersect_one_limit_outcome D m ps s work
  pub earlier_join : (D : ℕ) (a b : Memory) (ps : List Pair) (p s : Slices) (work : List ℕ) (r : Memory)
      → given (join_one_limit_outcome D a b ps p s work).made ≡ ok r → join_outcome a b (limited D ps) p s work ≡ join_one_limit_outcome D a b ps p s work
  pub raised_intersect : (m : Memory) (ps qs : List TapePair) (p : TapePair) (l : ℕ) (s : Slices) (work : List ℕ) (r : Memory)
      → p.limit ≤ l → l ≤ max_delay → given (intersect_outcome m (ps ++ (p ∷ qs)) s work).made ≡ ok r
      → intersect_outcome m (ps ++ (raised p l ∷ qs)) s work ≡ intersect_outcome m (ps ++ (p ∷ qs)) s work
  pub raised_join : (a b : Memory) (ps qs : List TapePair) (p : TapePair) (l : ℕ) (product result : Slices) (work : List ℕ) (r : Memory)
      → p.limit ≤ l → l ≤ max_delay → given (join_outcome a b (ps ++ (p ∷ qs)) product result work).made ≡ ok r
      → join_outcome a b (ps ++ (raised p l ∷ qs)) product result work ≡ join_outcome a b (ps ++ (p ∷ qs)) product result work
