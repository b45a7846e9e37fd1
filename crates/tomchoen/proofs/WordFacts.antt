-- An outcome whose answer is told as a number: by the outcome of the call and the number of its answer.
use mathlib.Core.Path.{◌≡◌, ap, ◌∙◌}
use mathlib.Core.Option.{Option}
use mathlib.Core.List.{List}
use Prim.Native.Nat.{ℕ}
use Rattle.automata.specs.Answer.{Answer}
use Rattle.automata.specs.Calls.Outcome.{TableCounts, Made, Built, Joined, Written, Found, made_of, built_of, joined_of, found_of}
use Rattle.automata.specs.Calls.Forecast.{Recorded, recorded_of}
use Rattle.automata.specs.Calls.LeastPath.{Told, PathRecorded, path_recorded_of}
use Rattle.text.specs.Answers.{written_of}
use Rattle.c_answers.specs.Words.{table_word, bytes_word, weight_word, path_word, tells_made, told_made, tells_built, told_built, tells_joined, told_joined, tells_written, told_written, tells_found, told_found, tells_recorded, told_recorded, tells_path, told_path}

-- calls that make a table
pub made_told : (r : ℕ) (a : Answer TableCounts) (states arcs : List ℕ) (o : Made) → made_of a states arcs ≡ o → r ≡ table_word a
    → tells_made r states arcs ≡ told_made o
made_told r a states arcs o e w = ap (λ (n : ℕ). tells_made n states arcs) w ∙ ap told_made e

-- calls with work space
pub built_told : (r : ℕ) (a : Answer TableCounts) (states arcs work : List ℕ) (o : Built) → built_of a states arcs work ≡ o → r ≡ table_word a
    → tells_built r states arcs work ≡ told_built o
built_told r a states arcs work o e w = ap (λ (n : ℕ). tells_built n states arcs work) w ∙ ap told_built e

-- writing
pub written-told : (r : ℕ) (a : Answer ℕ) (output : List ℕ) (o : Written) → written_of a output ≡ o → r ≡ bytes_word a → tells_written r output ≡ told_written o
written-told r a output o e w = ap (λ (n : ℕ). tells_written n output) w ∙ ap told_written e

-- a join
pub joined-told : (r : ℕ) (a : Answer TableCounts) (states arcs product_states product_arcs work : List ℕ) (o : Joined)
    → joined_of a states arcs product_states product_arcs work ≡ o → r ≡ table_word a → tells_joined r states arcs product_states product_arcs work ≡ told_joined o
joined-told r a states arcs product_states product_arcs work o e w =
    ap (λ (n : ℕ). tells_joined n states arcs product_states product_arcs work) w ∙ ap told_joined e

-- a lookup
pub found_told : (r : ℕ) (a : Answer (Option ℕ)) (work : List ℕ) (o : Found) → found_of a work ≡ o → r ≡ weight_word a → tells_found r work ≡ told_found o
found_told r a work o e w = ap (λ (n : ℕ). tells_found n work) w ∙ ap told_found e

-- a forecast
pub recorded-told : (r : ℕ) (a : Answer ℕ) (result work : List ℕ) (o : Recorded) → recorded_of a result work ≡ o → r ≡ bytes_word a
    → tells_recorded r result work ≡ told_recorded o
recorded-told r a result work o e w = ap (λ (n : ℕ). tells_recorded n result work) w ∙ ap told_recorded e

-- a path
pub path-told : (r : ℕ) (a : Answer (Option Told)) (result list work : List ℕ) (o : PathRecorded) → path_recorded_of a result list work ≡ o → r ≡ path_word a
    → tells_path r result list work ≡ told_path o
path-told r a result list work o e w = ap (λ (n : ℕ). tells_path n result list work) w ∙ ap told_path e
