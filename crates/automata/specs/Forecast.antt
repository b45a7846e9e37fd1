-- What a build on a pair of tapes can need, told from the table alone (document 02, 2.1). Nothing here reads a pair's
-- limit.
use Rattle.std.specs.Prelude.{Bool, false, List, [], ◌∷◌, ◌++◌, map, ℕ, zero, suc, ◌+◌, ◌-◌, ◌*◌, max, eqb, ltb, length, get_or}
use Rattle.automata.specs.Lists.{if, and, or, any, concat, numbered}
use Rattle.automata.specs.Marks.{coaccessible}
use Rattle.automata.specs.Explore.{insert_all}
use Rattle.automata.specs.Trim.{rank}
use Rattle.automata.specs.Automaton.{Automaton, Arc, size, graph, label_on}
use Rattle.automata.specs.TapePair.{TapePair, first_label, second_label}
use Rattle.automata.specs.Closing.{Closing, endless, missing, finals, closing}
use Rattle.automata.specs.Reversal.{reversal}

-- ---- states and arcs on successful paths

-- marked in both lists
abbrev pub both_marks : List Bool → List Bool → List Bool
both_marks [] ys = []
both_marks (x ∷ xs) [] = []
both_marks (x ∷ xs) (y ∷ ys) = and x y ∷ both_marks xs ys

module _ {W : Type 0} where
  -- the states that lead to a final weight
  abbrev pub reaching : Automaton W → List Bool
  reaching A = coaccessible (graph A) (finals A)

  -- the states on successful paths: those that are accessible, coaccessible in the reversal, and coaccessible
  unfoldable pub on_paths : Automaton W → List Bool
  on_paths A = both_marks (reaching (reversal A)) (reaching A)

  -- how many they are
  unfoldable pub path_states : Automaton W → ℕ
  path_states A = rank (on_paths A) (size A)

  -- the size of an arc's delay on the tapes i and j, counted from 0
  abbrev pub arc_delay : ℕ → ℕ → Arc W → ℕ
  arc_delay i j a = max (length (label_on i a) - length (label_on j a)) (length (label_on j a) - length (label_on i a))

  -- the greatest such size among the arcs between marked states
  abbrev pub greatest_delay : List Bool → ℕ → ℕ → List (Arc W) → ℕ
  greatest_delay marks i j [] = zero
  greatest_delay marks i j (a ∷ es) =
      let rest = greatest_delay marks i j es in
      if (and (get_or marks a.source false) (get_or marks a.target false)) (max (arc_delay i j a) rest) rest

  -- the delay that a pair can need: (states on successful paths less one, or 0) × the greatest size of an arc's delay
  -- on them
  unfoldable pub needed_delay : Automaton W → TapePair → ℕ
  needed_delay A p = (path_states A - 1) * greatest_delay (on_paths A) (p.first - 1) (p.second - 1) A.arcs

-- ---- cycles of both signs

-- Some walk from an initial state comes to state q by a cycle of positive delay, and some walk from q comes to a final
-- state by one of negative delay, or the other way round: of the closing delays of q in the reversal and of those in
-- the automaton, opposite ones are endless.
abbrev pub meets_both : Closing → Closing → ℕ → Bool
meets_both before after q =
    or (and (eqb (get_or before.opposite q missing) endless) (eqb (get_or after.least q missing) endless))
    (and (eqb (get_or before.least q missing) endless) (eqb (get_or after.opposite q missing) endless))

module _ {W : Type 0} where
  -- some state does so: a successful path touches a cycle of positive and one of negative delay
  unfoldable pub mixed_on : Automaton W → TapePair → Bool
  mixed_on A p =
      let before = closing (reversal A) p in
      let after = closing A p in
      any (λ q. meets_both before after q.0) (numbered zero A.states)

  -- ---- how many leftovers

  -- the symbols on a pair's two tapes on any arc, as they are compared, each once
  unfoldable pub symbols_on : Automaton W → TapePair → List ℕ
  symbols_on A p = insert_all eqb [] (concat (map (λ a. first_label p a ++ second_label p a) A.arcs))

-- s to the power n
abbrev pub to_the : ℕ → ℕ → ℕ
to_the s zero = 1
to_the s (suc n) = s * to_the s n

-- s + s² + .. + s^D
abbrev pub power_sum : ℕ → ℕ → ℕ
power_sum s zero = zero
power_sum s (suc D) = power_sum s D + to_the s (suc D)

-- document 01's bound on the leftovers of a state and a pair: 1 + 2(s + s² + .. + s^D)
unfoldable pub leftover_bound : ℕ → ℕ → ℕ
leftover_bound s D = 1 + 2 * power_sum s D

-- ---- the forecast

-- the greatest number that is told
abbrev pub max_told : ℕ
max_told = 65535

-- a number, or that it is over
pub data Told : Type 0 where
  number : ℕ → Told
  over : Told

-- a number as it is told
abbrev pub told : ℕ → Told
told n = if (ltb max_told n) over (number n)

-- of a pair: cycles of both signs are touched, or the delay and the number of configurations that it can need
pub data Forecast : Type 0 where
  mixed : Forecast
  needs : ℕ → Told → Forecast

module _ {W : Type 0} where
  -- the bound on leftovers of a pair, with its delay and its symbols
  unfoldable pub leftovers_of : Automaton W → TapePair → ℕ
  leftovers_of A p = leftover_bound (length (symbols_on A p)) (needed_delay A p)

  -- the forecast of a pair; its limit is not read
  unfoldable pub forecast : Automaton W → TapePair → Forecast
  forecast A p = if (mixed_on A p) mixed (needs (needed_delay A p) (told (size A * leftovers_of A p)))

-- ---- without large numbers

-- s + s² + .. + s^D, or the cap where that is less: a turn multiplies and adds once
abbrev pub capped_sum : ℕ → ℕ → ℕ → ℕ
capped_sum cap s zero = zero
capped_sum cap s (suc D) = let next = s * (1 + capped_sum cap s D) in if (ltb cap next) cap next

-- the number that is told, from a sum that is cut at 65,536
unfoldable pub told_capped : ℕ → ℕ → ℕ → Told
told_capped n s D = told (n * (1 + 2 * capped_sum (suc max_told) s D))
