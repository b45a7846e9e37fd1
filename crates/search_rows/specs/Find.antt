-- Where a record stands in a list of records.
use Rattle.std.specs.Prelude.{Option, Some, None, ℕ, ◌+◌, List, [], ◌∷◌}
use Rattle.automata.specs.Lists.{if, same_list}
use Rattle.search_rows.specs.declared.Reached.{Reached}

-- what a search comes to: the number of the record, where it is found
abbrev pub Found : Type 0
Found = Option Reached

-- the number of the first of the records rs that is w, where the first of rs has the number i
unfoldable pub index_from : ℕ → List ℕ → List (List ℕ) → Found
index_from i w [] = None
index_from i w (r ∷ rs) = let rest : Found = index_from (i + 1) w rs in if (same_list w r) (Some (record { 0 = i })) rest

-- the number of the first of the records rs that is w
abbrev pub index_of : List ℕ → List (List ℕ) → Found
index_of w rs = index_from 0 w rs
