-- When what is told of a path fits its bytes.
use Rattle.std.proofs.Math.Option.{Option, none, some}
use Rattle.std.specs.Prelude.{ℕ, ◌≤◌, ◌<◌}
use Rattle.automata.specs.Answer.{Answer, ok, refused}
use Rattle.automata.specs.Calls.LeastPath.{Told, told_size}

-- the starting state and the number of arcs fit four bytes each
pub record Fitting (x : Told) : Type 0 where
  pub start : x.start < 4294967296
  pub arcs : x.arcs < 4294967296

-- what is told fits its bytes, and these the result space of so many
abbrev pub Recordable : Answer (Option Told) → ℕ → Type 0
Recordable (ok (some x)) size = Fitting x × (told_size ≤ size)
Recordable (ok none) size = Unit {0}
Recordable (refused n) size = Unit {0}
