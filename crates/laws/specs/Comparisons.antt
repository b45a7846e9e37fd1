-- Demand 3 as one claim over lists of calls: which lists are compared, and what is said of each. Weights are compared
-- after reading every tape (document 02, 2.5).
use Rattle.std.specs.Prelude.{◌≡◌, List, [], ◌∷◌, ℕ, length}
use Rattle.automata.specs.Lists.{All}
use Rattle.automata.specs.OrderedSum.{ℕ_sum}
use Rattle.automata.specs.Automaton.{Tuple}
use Rattle.automata.specs.TapePair.{Pair, TapePair, tapes_of}
use Rattle.automata.specs.Tapes.{chosen, seconds, turned}
use Rattle.automata.specs.Paths.{SameWeight}
use Rattle.automata.specs.Calls.Outcome.{Slices}
use Rattle.automata.specs.Calls.Drop.{mask_of}
use Rattle.laws.specs.JoinTapes.{exchanged_tapes, SharedOut, later_on}
use Rattle.laws.specs.JoinLaws.{GivesLeast, GivesWritten, LesserWeight}
use Rattle.laws.specs.CallLaws.{JoinLent}
use Rattle.laws.specs.CallTrees.{Calls, keeping, joining, uniting, choosing, dropping, Gave, table, NoLess, Again}

-- ---- what is said of two or three tables

-- the tables that c and d give have as many tapes, and every tuple has the same weight in both
pub record Alike (c d : Calls) : Type 0 where
  pub tapes : (table c).tapes ≡ (table d).tapes
  pub weights : (t : Tuple) → SameWeight ℕ_sum (table c) t (table d) t

-- c gives every tuple the lesser of the weights that d and e give it, none counting above every weight
abbrev pub Lesser : Calls → Calls → Calls → Type 0
Lesser c d e = (t : Tuple) → LesserWeight ℕ_sum (table c) (table d) (table e) t

-- c gives every tuple the least sum over all tuples of a and b that meet in it, and no weight exactly when none meet
abbrev pub LeastSums : List Pair → Calls → Calls → Calls → Type 0
LeastSums ps a b c = GivesLeast ℕ_sum ps (table a) (table b) (table c)

-- and so it does of tuples as they are written
abbrev pub WrittenSums : List Pair → Calls → Calls → Calls → Type 0
WrittenSums ps a b c = GivesWritten ℕ_sum ps (table a) (table b) (table c)

-- every tuple of c has the weight that it has in d once its tapes stand in the order js
abbrev pub Reordered : List ℕ → Calls → Calls → Type 0
Reordered js c d = (t : Tuple) → length t ≡ (table c).tapes → SameWeight ℕ_sum (table c) t (table d) (chosen js t)

-- ---- the lists of calls

-- the tapes of the join of a and b in the order of the exchanged join
abbrev pub other_order : List Pair → Calls → Calls → List ℕ
other_order ps a b = exchanged_tapes (table a).tapes (table b).tapes ps

-- a join by the first pairs, then the auto-intersection on the later ones, then their second tapes dropped
abbrev pub stepwise : JoinLent → Slices → Slices → List ℕ → List TapePair → List TapePair → Calls → Calls → Calls
stepwise l s s₁ work first later a b =
    let qs = later_on (table a).tapes (tapes_of first) later in dropping (keeping (joining l first a b) qs s work) (mask_of (seconds (tapes_of qs))) s₁

-- The lists of calls that demand 3 compares, and what it says of them. Each call has space of its own (l, s, work) and
-- names its pairs by records of its own (ps, ps₁ ..), each pair with a limit of its own; only the tapes named are the
-- same. Where a comparison uses a table in two calls, each of them has calls of its own that give it (a and a₁, b and
-- b₁ ..), and the two need only be alike; a table that is lent is a list without a call.
pub data Compared : List Calls → Type 0 → Type 1 where
  -- the join law: the least sum over all tuples that meet
  met : (l : JoinLent) (ps : List TapePair) (a b : Calls) → Compared (joining l ps a b ∷ []) (LeastSums (tapes_of ps) a b (joining l ps a b))
  -- the same of tuples as they are written
  met-written : (l : JoinLent) (ps : List TapePair) (a b : Calls)
      → Compared (joining l ps a b ∷ []) (WrittenSums (tapes_of ps) a b (joining l ps a b))
  -- exchanged: the second table first, the tapes of each pair exchanged
  exchanged : (l l₁ : JoinLent) (ps ps₁ : List TapePair) (a a₁ b b₁ : Calls) → tapes_of ps₁ ≡ turned (tapes_of ps) → Alike a a₁ → Alike b b₁
      → Compared (joining l ps a b ∷ joining l₁ ps₁ b₁ a₁ ∷ []) (Reordered (other_order (tapes_of ps) a b) (joining l ps a b) (joining l₁ ps₁ b₁ a₁))
  -- the same, the join's tapes chosen in that order by a call
  exchanged-chosen : (l l₁ : JoinLent) (s : Slices) (ps ps₁ : List TapePair) (a a₁ b b₁ : Calls) → tapes_of ps₁ ≡ turned (tapes_of ps) → Alike a a₁ → Alike b b₁
      → Compared (choosing (joining l ps a b) (other_order (tapes_of ps) a b) s ∷ joining l₁ ps₁ b₁ a₁ ∷ [])
      (Alike (choosing (joining l ps a b) (other_order (tapes_of ps) a b) s) (joining l₁ ps₁ b₁ a₁))
  -- part by part, the first table a union: the lesser of the weights in the joins of its parts
  first_in_parts : (s : Slices) (l l₁ l₂ : JoinLent) (ps ps₁ ps₂ : List TapePair) (a a₁ c c₂ b b₁ b₂ : Calls)
      → tapes_of ps₁ ≡ tapes_of ps → tapes_of ps₂ ≡ tapes_of ps → Alike a a₁ → Alike c c₂ → Alike b b₁ → Alike b b₂
      → Compared (joining l ps (uniting a c s) b ∷ joining l₁ ps₁ a₁ b₁ ∷ joining l₂ ps₂ c₂ b₂ ∷ [])
      (Lesser (joining l ps (uniting a c s) b) (joining l₁ ps₁ a₁ b₁) (joining l₂ ps₂ c₂ b₂))
  -- and the same weights as in a union of these two joins
  first_united : (s s₃ : Slices) (l l₁ l₂ : JoinLent) (ps ps₁ ps₂ : List TapePair) (a a₁ c c₂ b b₁ b₂ : Calls)
      → tapes_of ps₁ ≡ tapes_of ps → tapes_of ps₂ ≡ tapes_of ps → Alike a a₁ → Alike c c₂ → Alike b b₁ → Alike b b₂
      → Compared (joining l ps (uniting a c s) b ∷ uniting (joining l₁ ps₁ a₁ b₁) (joining l₂ ps₂ c₂ b₂) s₃ ∷ [])
      (Alike (joining l ps (uniting a c s) b) (uniting (joining l₁ ps₁ a₁ b₁) (joining l₂ ps₂ c₂ b₂) s₃))
  -- part by part, the second table a union
  second_in_parts : (s : Slices) (l l₁ l₂ : JoinLent) (ps ps₁ ps₂ : List TapePair) (a a₁ c c₂ b b₁ b₂ : Calls)
      → tapes_of ps₁ ≡ tapes_of ps → tapes_of ps₂ ≡ tapes_of ps → Alike a a₁ → Alike c c₂ → Alike b b₁ → Alike b b₂
      → Compared (joining l ps b (uniting a c s) ∷ joining l₁ ps₁ b₁ a₁ ∷ joining l₂ ps₂ b₂ c₂ ∷ [])
      (Lesser (joining l ps b (uniting a c s)) (joining l₁ ps₁ b₁ a₁) (joining l₂ ps₂ b₂ c₂))
  -- and the same weights as in a union of these two joins
  second_united : (s s₃ : Slices) (l l₁ l₂ : JoinLent) (ps ps₁ ps₂ : List TapePair) (a a₁ c c₂ b b₁ b₂ : Calls)
      → tapes_of ps₁ ≡ tapes_of ps → tapes_of ps₂ ≡ tapes_of ps → Alike a a₁ → Alike c c₂ → Alike b b₁ → Alike b b₂
      → Compared (joining l ps b (uniting a c s) ∷ uniting (joining l₁ ps₁ b₁ a₁) (joining l₂ ps₂ b₂ c₂) s₃ ∷ [])
      (Alike (joining l ps b (uniting a c s)) (uniting (joining l₁ ps₁ b₁ a₁) (joining l₂ ps₂ b₂ c₂) s₃))
  -- some pairs first: any of the join's pairs, in any order, also none of them or all
  some_pairs-first : (l l₁ : JoinLent) (s s₁ : Slices) (work : List ℕ) (ps first later : List TapePair) (a a₁ b b₁ : Calls)
      → SharedOut (tapes_of ps) (tapes_of first) (tapes_of later) → Alike a a₁ → Alike b b₁
      → Compared (joining l ps a b ∷ stepwise l₁ s s₁ work first later a₁ b₁ ∷ []) (Alike (joining l ps a b) (stepwise l₁ s s₁ work first later a₁ b₁))
  -- given again: any list of calls that gave a table, made again with no less, gives the same bytes of records
  given-again : (c c' : Calls) → NoLess c c' → Compared (c ∷ []) (Again c c')

-- Demand 3: whatever is said of lists of calls holds where none of them is refused.
abbrev pub DemandThree : Type 1
DemandThree = (cs : List Calls) (says : Type 0) → Compared cs says → All Gave cs → says
