-- What the answers of a column stand for, and what a list holds that is a column.
use Rattle.std.specs.Prelude.{Result, Ok, Err, Bool, true, List, [], ◌∷◌, ℕ, suc, ◌+◌, ◌*◌, ◌%◌, eqb, length, drop, get_or}
use Rattle.std.proofs.Math.Option.{Option, none, some}
use Rattle.automata.specs.Lists.{if, and, or, same_list}
use Rattle.automata.specs.Answer.{Answer, ok, refused, check}
use Rattle.automata.specs.Refusal.{form}
use Rattle.automata.specs.Format.{read_copies}
use Rattle.automata.specs.Symbols.{is_digit, is_symbol}
use Rattle.automata.specs.Decimal.{blank, with_digit, decimal, leading}
use Rattle.automata.specs.TableFormat.{weight_number, state_number}
use Rattle.automata.specs.TableText.{absent, weight_columns, label_columns}
use Rattle.automata.specs.Layout.{amount_width, number_width}
use Rattle.table.specs.Answers.{refusal_number}
use Rattle.table.specs.declared.answer.Refusal.{Refusal}

-- ---- decimal numbers

-- a number read from its columns, or a refusal
abbrev pub Number : Type 0
Number = Result ℕ Refusal

-- what it stands for: the number, or the number of the refusal
abbrev pub number_as : Number → Answer ℕ
number_as (Ok n) = ok n
number_as (Err r) = refused (refusal_number r)

-- the last column of a decimal number
abbrev pub last_column : ℕ → ℕ → Answer ℕ
last_column n c = check (is_digit c) form (with_digit n c)

-- the decimal number that fills a list
unfoldable pub read_decimal : List ℕ → Answer ℕ
read_decimal x = (decimal (length x)).read x

-- the number of a state, of so many, in the six places of a list
unfoldable pub read_state_number : ℕ → List ℕ → Answer ℕ
read_state_number states x = (state_number states (decimal number_width)).read x

-- what columns come to behind the number n where they were judged: of each byte its last four bits, which are a digit's
-- value, and 0 for a blank
unfoldable pub columns_value : ℕ → List ℕ → ℕ
columns_value n [] = n
columns_value n (c ∷ x) = columns_value (n * 10 + c % 16) x

-- the bytes of a decimal number in w columns, and of what stands before its last digit
unfoldable pub decimal_text : ℕ → ℕ → List ℕ
decimal_text w n = (decimal w).write n

unfoldable pub leading_text : ℕ → ℕ → List ℕ
leading_text w n = (leading w).write n

-- the byte of a column before the last
abbrev pub leading_byte : ℕ → ℕ
leading_byte n = if (eqb n 0) blank (48 + n % 10)

-- ---- weights

-- how many blanks a list starts with
unfoldable pub blank_count : List ℕ → ℕ
blank_count [] = 0
blank_count (c ∷ x) = let r = suc (blank_count x) in if (eqb c blank) r 0

-- a list is the mark of an absent weight
unfoldable pub absent_mark : List ℕ → Bool
absent_mark x = same_list x absent

-- a weight that is there, and one that may be absent, in the ten places of a list
unfoldable pub read_present : List ℕ → Answer ℕ
read_present x = (weight_number (decimal amount_width)).read x

unfoldable pub read_weight : List ℕ → Answer (Option ℕ)
read_weight x = weight_columns.read x

-- the weight in ten places that were judged, in four bytes
unfoldable pub columns_weight : List ℕ → Option ℕ
columns_weight x = if (eqb (get_or x 9 0) 45) none (some (columns_value 0 x % 4294967296))

-- ---- labels

-- a column of a label may follow another: a symbol, or a blank behind a blank
abbrev pub may_follow : ℕ → ℕ → Bool
may_follow before c = or (is_symbol c) (and (eqb before blank) (eqb c blank))

-- each may follow the one before it
unfoldable pub follow_from : ℕ → List ℕ → Bool
follow_from before [] = true
follow_from before (c ∷ x) = and (may_follow before c) (follow_from c x)

-- a list is a label: a blank, and columns that may follow
unfoldable pub label_fits : List ℕ → Bool
label_fits x = and (eqb (get_or x 0 0) blank) (follow_from (get_or x 0 0) (drop 1 x))

-- a label in the nine places of a list, and so many of them
unfoldable pub read_label : List ℕ → Answer (List ℕ)
read_label x = label_columns.read x

unfoldable pub labels_read : ℕ → List ℕ → Answer (List (List ℕ))
labels_read tapes x = read_copies label_columns tapes x
