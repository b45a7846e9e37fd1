-- Closing delays as document 01 defines them, the least and the greatest delay over the runs to a final weight, and the
-- viable configurations by its condition d + least ≤ 0 ≤ d + greatest. Closing has the test that computes them.
use Rattle.std.specs.Prelude.{◌≡◌, ◌⊎◌, List, ℕ, zero, ◌-◌, length, ℤ, pos, ◌+ℤ◌, ◌≤ℤ◌}
use Rattle.std.proofs.Math.IntN.{sub_ℕ}
use Rattle.automata.specs.Automaton.{Automaton, Arc, length_on, Closes}
use Rattle.automata.specs.Leftover.{Leftover}
use Rattle.automata.specs.TapePair.{TapePair}
use Rattle.automata.specs.Config.{Config}
use Rattle.automata.specs.Viable.{EachPair}

module _ {W : Type 0} where
  -- the delay of a run of arcs on a pair of tapes: its length on the first less its length on the second, signed
  abbrev pub delay : ℕ → ℕ → List (Arc W) → ℤ
  delay i j es = sub_ℕ (length_on i es) (length_on j es)

  -- The closing delays of state q on the tapes i and j: m is the least, or the greatest, delay of the runs that close;
  -- or there are delays below, or above, every bound.
  module _ (A : Automaton W) (i j q : ℕ) where
    pub record IsLeast (m : ℤ) : Type 0 where
      pub attained : (es : List (Arc W)) × Closes A q es × (delay i j es ≡ m)
      pub bound : (es : List (Arc W)) → Closes A q es → m ≤ℤ delay i j es

    -- m is the greatest delay
    pub record IsGreatest (m : ℤ) : Type 0 where
      pub attained : (es : List (Arc W)) × Closes A q es × (delay i j es ≡ m)
      pub bound : (es : List (Arc W)) → Closes A q es → delay i j es ≤ℤ m

    -- delays below every bound
    abbrev pub EndlessBelow : Type 0
    EndlessBelow = (z : ℤ) → (es : List (Arc W)) × Closes A q es × (delay i j es ≤ℤ z)

    -- delays above every bound
    abbrev pub EndlessAbove : Type 0
    EndlessAbove = (z : ℤ) → (es : List (Arc W)) × Closes A q es × (z ≤ℤ delay i j es)

    -- d + least ≤ 0, and 0 ≤ d + greatest
    abbrev pub LeastAllows : ℤ → Type 0
    LeastAllows d = EndlessBelow ⊎ ((m : ℤ) × IsLeast m × ((d +ℤ m) ≤ℤ pos zero))

    abbrev pub GreatestAllows : ℤ → Type 0
    GreatestAllows d = EndlessAbove ⊎ ((m : ℤ) × IsGreatest m × (pos zero ≤ℤ (d +ℤ m)))

  -- d + least ≤ 0 ≤ d + greatest, on a pair with the leftover l, whose delay is d
  pub record DelaysAdmit (A : Automaton W) (q : ℕ) (p : TapePair) (l : Leftover) : Type 0 where
    pub low : LeastAllows A (p.first - 1) (p.second - 1) q (sub_ℕ (length l.first) (length l.second))
    pub high : GreatestAllows A (p.first - 1) (p.second - 1) q (sub_ℕ (length l.first) (length l.second))

  -- The configuration is viable (document 01: hopeful): a path leads to a final weight, and on every pair the closing
  -- delays admit its delay.
  pub record ViableByDelays (A : Automaton W) (ps : List TapePair) (c : Config) : Type 0 where
    pub closes : (es : List (Arc W)) × Closes A c.state es
    pub each : EachPair ps c.leftovers (DelaysAdmit A c.state)
