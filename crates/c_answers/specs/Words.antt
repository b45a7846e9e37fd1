-- Answers as one number, and outcomes with their answer so told.
use Rattle.std.proofs.Math.Option.{Option, none, some}
use Rattle.std.specs.Prelude.{List, ℕ, ◌+◌, ◌*◌, ◌≤◌, ◌<◌}
use Rattle.automata.specs.Answer.{Answer, ok, refused}
use Rattle.automata.specs.Calls.Forecast.{Recorded}
use Rattle.automata.specs.Calls.LeastPath.{Told, PathRecorded}
use Rattle.automata.specs.Calls.Outcome.{Slices, TableCounts, Made, Built, Joined, Written, Found, slices_of}

-- ---- the numbers

-- the counts of a table: tapes from bit 8 on, states from bit 16 on, arcs from bit 32 on; or the refusal's number
abbrev pub table_word : Answer TableCounts → ℕ
table_word (ok c) = 256 * c.tapes + 65536 * c.states + 4294967296 * c.arcs
table_word (refused n) = n

-- the number of bytes written, from bit 8 on, or the refusal's number
abbrev pub bytes_word : Answer ℕ → ℕ
bytes_word (ok n) = 256 * n
bytes_word (refused n) = n

-- a weight, from bit 8 on, 255 for none, or the refusal's number
abbrev pub weight_word : Answer (Option ℕ) → ℕ
weight_word (ok (some w)) = 256 * w
weight_word (ok none) = 255
weight_word (refused n) = n

-- 0 for a path, which stands in lent bytes, 255 for none, or the refusal's number
abbrev pub path_word : Answer (Option Told) → ℕ
path_word (ok (some x)) = 0
path_word (ok none) = 255
path_word (refused n) = n

-- ---- when they are numbers of 64 bits from which the parts can be told

-- the counts are those of a table
abbrev pub CountsFit : Answer TableCounts → Type 0
CountsFit (ok c) = (c.tapes ≤ 8) × (c.states ≤ 1024) × (c.arcs ≤ 8192)
CountsFit (refused n) = Unit {0}

-- so many bytes are below 2 to the 32
abbrev pub BytesFit : Answer ℕ → Type 0
BytesFit (ok n) = n < 4294967296
BytesFit (refused n) = Unit {0}

-- a weight is below 2 to the 56
abbrev pub WeightFits : Answer (Option ℕ) → Type 0
WeightFits (ok (some w)) = w < 72057594037927936
WeightFits (ok none) = Unit {0}
WeightFits (refused n) = Unit {0}

-- ---- outcomes

-- a number for the answer, and the result's slices
pub record ToldMade : Type 0 where
  pub word : ℕ
  pub result : Slices

-- the same by its parts
abbrev pub tells_made : ℕ → List ℕ → List ℕ → ToldMade
tells_made word states arcs = record { word = word; result = slices_of states arcs }

-- of an outcome
abbrev pub told_made : Made → ToldMade
told_made o = record { word = table_word o.answer; result = o.result }

-- and work space
pub record ToldBuilt : Type 0 where
  pub made : ToldMade
  pub work : List ℕ

-- the same by its parts
abbrev pub tells_built : ℕ → List ℕ → List ℕ → List ℕ → ToldBuilt
tells_built word states arcs work = record { made = tells_made word states arcs; work = work }

-- of an outcome
abbrev pub told_built : Built → ToldBuilt
told_built o = record { made = told_made o.made; work = o.work }

-- a number for the answer, and the output
pub record ToldWritten : Type 0 where
  pub word : ℕ
  pub output : List ℕ

-- the same by its parts
abbrev pub tells_written : ℕ → List ℕ → ToldWritten
tells_written word output = record { word = word; output = output }

-- of an outcome
abbrev pub told_written : Written → ToldWritten
told_written o = record { word = bytes_word o.answer; output = o.output }

-- a join: the product's slices too
pub record ToldJoined : Type 0 where
  pub made : ToldMade
  pub product : Slices
  pub work : List ℕ

-- the same by its parts
abbrev pub tells_joined : ℕ → List ℕ → List ℕ → List ℕ → List ℕ → List ℕ → ToldJoined
tells_joined word states arcs product_states product_arcs work =
    record { made = tells_made word states arcs; product = slices_of product_states product_arcs; work = work }

-- of an outcome
abbrev pub told_joined : Joined → ToldJoined
told_joined o = record { made = told_made o.made; product = o.product; work = o.work }

-- a number for the answer of a lookup, and work space
pub record ToldFound : Type 0 where
  pub word : ℕ
  pub work : List ℕ

-- the same by its parts
abbrev pub tells_found : ℕ → List ℕ → ToldFound
tells_found word work = record { word = word; work = work }

-- of an outcome
abbrev pub told_found : Found → ToldFound
told_found o = record { word = weight_word o.answer; work = o.work }

-- a number for the answer of a forecast, the result space and work space
pub record ToldRecorded : Type 0 where
  pub written : ToldWritten
  pub work : List ℕ

-- the same by its parts
abbrev pub tells_recorded : ℕ → List ℕ → List ℕ → ToldRecorded
tells_recorded word result work = record { written = tells_written word result; work = work }

-- of an outcome
abbrev pub told_recorded : Recorded → ToldRecorded
told_recorded o = record { written = told_written o.written; work = o.work }

-- a number for the answer of a path, the result space, the list and work space
pub record ToldPath : Type 0 where
  pub word : ℕ
  pub result : List ℕ
  pub list : List ℕ
  pub work : List ℕ

-- the same by its parts
abbrev pub tells_path : ℕ → List ℕ → List ℕ → List ℕ → ToldPath
tells_path word result list work = record { word = word; result = result; list = list; work = work }

-- of an outcome
abbrev pub told_path : PathRecorded → ToldPath
told_path o = tells_path (path_word o.found.answer) o.result o.found.list o.found.work
