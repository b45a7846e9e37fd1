-- The lookup that gives the path behind the weight, as it is called (document 02, 2.3): judged as the lookup is, and
-- last whether the lent list holds the arcs of the path.
use Rattle.std.specs.Prelude.{Bool, ℕ, eqb, leb, length}
use Rattle.std.proofs.Math.Option.{Option, none, some}
use Rattle.automata.specs.Limits.{max_string}
use Rattle.automata.specs.Lists.{all}
use Rattle.automata.specs.Refusal
use Rattle.automata.specs.Answer.{Answer, ok, judge}
use Rattle.automata.specs.OrderedSum.{ℕ_sum}
use Rattle.automata.specs.Automaton.{Automaton, Tuple}
use Rattle.automata.specs.Symbols.{is_symbol}
use Rattle.automata.specs.LeastPath.{Account, least_path}

-- the answer, where the list of so many places holds the arcs of the path; no path needs no list
abbrev pub listed : ℕ → Option (Account ℕ) → Answer (Option (Account ℕ))
listed places none = ok none
listed places (some x) = judge (leb (length x.path.run) places) Refusal.path (ok (some x))

-- The call: the number of strings (5), the size of each (3), their bytes (2), space shorter than needed (13), a list
-- shorter than the path (14, "judged last"); then the weight and the path, or none.
unfoldable pub least_path_call : Bool → ℕ → Automaton ℕ → Tuple → Answer (Option (Account ℕ))
least_path_call enough places A t =
    let answer = listed places (least_path ℕ_sum A t) in
    judge (eqb (length t) A.tapes) Refusal.tape
    (judge (all (λ s. leb (length s) max_string) t) Refusal.size
    (judge (all (λ s. all is_symbol s) t) Refusal.form (judge enough Refusal.space answer)))
