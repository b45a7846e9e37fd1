-- A text that was written.
use Rattle.std.specs.Prelude.{◌≡◌, List, ℕ, length}
use Rattle.automata.specs.Calls.Outcome.{overwrite}

-- a text stands over the front of what was there before, and its length is told
abbrev pub Wrote : List ℕ → List ℕ → List ℕ → ℕ → Type 0
Wrote text before after n = (after ≡ overwrite text before) × (n ≡ length text)
