-- Whether the labels of an arc end at a combination of positions of the strings, and from which one they lead there.
use Rattle.std.specs.Prelude.{◌≡◌, List, [], ℕ, zero, suc, ◌+◌, ◌-◌, ◌*◌, ◌≤◌, ◌<◌, ltb, length, get_or, drop}
use Rattle.std.proofs.Math.Option.{Option, none, some}
use Rattle.automata.specs.Lists.{if, bind, same_list}
use Rattle.automata.specs.Automaton.{Tuple}
use Rattle.automata.specs.Calls.Work.{combinations}
use Rattle.automata.specs.Layout.{label_size, labels_size, symbols_place}
use Rattle.table.specs.Region.{part}
use Rattle.lookup_moves.specs.declared.spot.Spot.{Spot}

-- the combination of these places in the text, positions, numbers of combinations behind each, number, and number of
-- all
abbrev pub spot_with : List ℕ → List ℕ → List ℕ → ℕ → ℕ → Spot
spot_with starts positions spans number all = record { starts = starts; positions = positions; spans = spans; number = number; all = all }

-- on one tape: the label at place at, the place in the text of a position of the string, the position, and the number
-- of combinations behind it
unfoldable pub tape_move : List ℕ → ℕ → List ℕ → ℕ → ℕ → ℕ → Option ℕ
tape_move arcs at text start size span =
    let n = get_or arcs at 0 in
    if (ltb size n) none (if (same_list (part (at + symbols_place) n arcs) (part (start - n) n text)) (some (n * span)) none)

-- on n tapes from tape h on, its label at place at, where it has moved by k before
unfoldable pub moves_from : ℕ → ℕ → ℕ → ℕ → List ℕ → List ℕ → Spot → Option ℕ
moves_from zero h at k arcs text s = some k
moves_from (suc n) h at k arcs text s =
    bind (tape_move arcs at text (get_or s.starts h 0) (get_or s.positions h 0) (get_or s.spans h 0)) (λ m. moves_from n (h + 1) (at + label_size) (k + m) arcs text s)

-- n strings lie in a text of so many bytes, and there are not too many combinations
pub record Laid (n size : ℕ) (s : Spot) : Type 0 where
  pub few : n ≤ 8
  pub eight_starts : length s.starts ≡ 8
  pub eight_positions : length s.positions ≡ 8
  pub eight_spans : length s.spans ≡ 8
  pub before : (h : ℕ) → h < n → get_or s.positions h 0 ≤ get_or s.starts h 0
  pub within : (h : ℕ) → h < n → get_or s.starts h 0 ≤ size
  pub small : (h : ℕ) → get_or s.spans h 0 ≤ 318644812890625

-- eight labels from place at, each of at most eight symbols
pub record Labelled (arcs : List ℕ) (at : ℕ) : Type 0 where
  pub lent : at + labels_size ≤ length arcs
  pub short : (h : ℕ) → h < 8 → get_or arcs (at + label_size * h) 0 ≤ 8

-- the strings t from tape h on, at the positions ps
pub record Spotted (text : List ℕ) (s : Spot) (h : ℕ) (ps : List ℕ) (t : Tuple) : Type 0 where
  pub span_is : (j : ℕ) → j < length t → get_or s.spans (h + j) 0 ≡ combinations (drop (suc j) t)
  pub position_is : (j : ℕ) → j < length t → get_or s.positions (h + j) 0 ≡ get_or ps j 0
  pub before_is : (j : ℕ) → j < length t → (n : ℕ) → n ≤ get_or ps j 0 → part (get_or s.starts (h + j) 0 - n) n text ≡ part (get_or ps j 0 - n) n (get_or t j [])
