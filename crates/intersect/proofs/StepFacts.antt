-- The auto-intersection as a step: what it asks for is what the search asks for, and the answer of the search is the
-- step's.
use Prim.Native.Nat.{ℕ}
use mathlib.Core.Path.{◌≡◌, sym, ap, ◌∙◌}
use mathlib.Core.List.{List}
use Rattle.automata.specs.Answer.{◌>>=◌, Answer}
use Rattle.automata.specs.Automaton.{Automaton}
use Rattle.automata.specs.TapePair.{TapePair}
use Rattle.automata.specs.Memory.{Memory, Sound, table_of}
use Rattle.automata.specs.Closing.{closing_tables, viable}
use Rattle.automata.specs.Intersect.{intersect}
use Rattle.automata.specs.IntersectCall.{intersect_on}
use Rattle.automata.specs.Calls.Outcome.{Slices, TableCounts, space_of, put, made_of}
use Rattle.automata.specs.Calls.JoinSteps.{intersect_step}
use Rattle.automata.proofs.SoundFacts.{sound_decoded}
use Rattle.intersect_result.specs.Searched.{table_by}

-- the answer of the search is the step's
pub step-answered : (m : Memory) → Sound m → (ps : List TapePair) (s : Slices) (a : Answer TableCounts) (states arc_bytes : List ℕ)
    → made_of a states arc_bytes ≡ put (table_by m ps (viable (closing_tables (table_of m) ps)) (space_of s)) s
    → made_of a states arc_bytes ≡ intersect_step m ps s
unfolding intersect_step intersect_on intersect
step-answered m h ps s a states arc_bytes z =
    z ∙ ap (λ (t : Answer (Automaton ℕ)). put (t >>= λ P. intersect_on (space_of s) ps P) s) (sym (sound_decoded m h))
