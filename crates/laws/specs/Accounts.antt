-- The accounts of a table, each once: its successful paths, with what they spell and weigh. And the worked cases whose
-- result is a table: the whole table, and all its accounts.
use Rattle.std.specs.Prelude.{◌≡◌, true, List, [], ◌∷◌, ◌++◌, map, ℕ}
use Rattle.automata.specs.Lists.{◌∈◌, Distinct, All}
use Rattle.automata.specs.Answer.{Answer, ok}
use Rattle.automata.specs.Space.{Space}
use Rattle.automata.specs.OrderedSum.{ℕ_sum}
use Rattle.automata.specs.Automaton.{Automaton, Tuple}
use Rattle.automata.specs.Table.{weight_fits}
use Rattle.automata.specs.TapePair.{TapePair}
use Rattle.automata.specs.Paths.{Trace, SuccessfulPath, tuple, trace, weight}
use Rattle.automata.specs.IntersectCall.{intersect_call}
use Rattle.automata.specs.Product.{product}
use Rattle.automata.specs.Join.{join}
use Rattle.automata.specs.Cases.{P, Q, S, lagging, untrimmed, twice, trailing, stuck, no_states, wide, five, onward, two, first, between, last, arc, empty, A, B, X, Y, Z, tape_pair, four}
use Rattle.laws.specs.CallCases.{parted}

-- a successful path by its start and its run of arcs, what it spells on each tape, and what it weighs
pub record Account : Type 0 where
  pub path : Trace
  pub spells : Tuple
  pub weighs : ℕ

-- the account of a path
abbrev pub account_of : {A : Automaton ℕ} → SuccessfulPath A → Account
account_of π = record { path = trace π; spells = tuple π; weighs = weight ℕ_sum π }

-- the accounts of the table are those of the list, and no path stands there twice
pub record HasAccounts (A : Automaton ℕ) (xs : List Account) : Type 0 where
  pub every : (π : SuccessfulPath A) → account_of π ∈ xs
  pub real : (x : Account) → x ∈ xs → (π : SuccessfulPath A) × (account_of π ≡ x)
  pub once : Distinct (map (λ x. x.path) xs)

-- ---- the worked cases

-- calls that give a table: pairs with their limits and the space of the result; a product; a join
pub data TableCall : Type 0 where
  keeping : Automaton ℕ → List TapePair → ℕ → ℕ → TableCall
  multiplying : Automaton ℕ → Automaton ℕ → TableCall
  joining : Automaton ℕ → Automaton ℕ → List TapePair → TableCall

-- what the definitions answer
abbrev pub answered : TableCall → Answer (Automaton ℕ)
answered (keeping A ps states arcs) = intersect_call true (record { states = states; arcs = arcs }) ps A
answered (multiplying A B) = product ℕ_sum weight_fits true (record { states = 64; arcs = 512 }) A B
answered (joining A B ps) =
    let space : Space = record { states = 64; arcs = 512 } in
    join ℕ_sum weight_fits (record { enough = true; product = space; result = space }) ps A B

-- a call, the whole table that it gives, and the accounts of that table
pub record WholeCase : Type 0 where
  pub call : TableCall
  pub gives : Automaton ℕ
  pub accounts : List Account

abbrev pub Whole : WholeCase → Type 0
Whole c = (answered c.call ≡ ok c.gives) × HasAccounts c.gives c.accounts

abbrev account : ℕ → List ℕ → Tuple → ℕ → Account
account q run t w = record { path = record { start = q; run = run }; spells = t; weighs = w }

-- P on tapes 1 and 3
abbrev kept_p : Automaton ℕ
kept_p = record {
  tapes = 3;
  states = first ∷ between ∷ between ∷ last ∷ [];
  arcs = arc 0 1 1 (A ∷ X ∷ empty ∷ []) ∷ arc 1 2 2 (B ∷ Y ∷ A ∷ []) ∷ arc 2 3 3 (empty ∷ Z ∷ B ∷ []) ∷ [];
}

-- Q on tapes 1 and 2
abbrev kept_q : Automaton ℕ
kept_q = record { tapes = 2; states = first ∷ between ∷ last ∷ []; arcs = arc 0 1 0 (A ∷ empty ∷ []) ∷ arc 1 2 0 (empty ∷ A ∷ []) ∷ [] }

-- no states
abbrev none_left : ℕ → Automaton ℕ
none_left n = record { tapes = n; states = []; arcs = [] }

-- without pairs: the source, trimmed
abbrev trimmed_source : Automaton ℕ
trimmed_source = record { tapes = 2; states = first ∷ last ∷ []; arcs = arc 0 1 0 (A ∷ B ∷ []) ∷ arc 0 1 0 (B ∷ A ∷ []) ∷ [] }

-- a leftover at a final state is no end
abbrev kept_trailing : Automaton ℕ
kept_trailing = record { tapes = 2; states = first ∷ between ∷ last ∷ []; arcs = arc 0 1 0 ((A ++ A) ∷ A ∷ []) ∷ arc 1 2 0 (empty ∷ A ∷ []) ∷ [] }

-- a final weight is added to the next arc of the longer path
abbrev five_onward : Automaton ℕ
five_onward = record { tapes = 2; states = first ∷ last ∷ []; arcs = arc 0 1 6 (empty ∷ A ∷ []) ∷ [] }

-- a join keeps the tape of the first table
abbrev joined_two : Automaton ℕ
joined_two = record { tapes = 2; states = first ∷ last ∷ []; arcs = arc 0 1 3 (A ∷ X ∷ []) ∷ [] }

-- pairs with limits of their own: `lagging` on tapes 1 and 3, and 2 and 4, ...
abbrev kept_lagging : Automaton ℕ
kept_lagging = record {
  tapes = 4;
  states = first ∷ between ∷ between ∷ last ∷ [];
  arcs = arc 0 1 1 (A ∷ X ∷ empty ∷ X ∷ []) ∷ arc 1 2 2 (B ∷ Y ∷ A ∷ Y ∷ []) ∷ arc 2 3 3 (empty ∷ Z ∷ B ∷ Z ∷ []) ∷ [];
}

-- ... and a join by two pairs
abbrev joined_parted : Automaton ℕ
joined_parted = record { tapes = 2; states = first ∷ between ∷ last ∷ []; arcs = arc 0 1 4 (A ∷ X ∷ []) ∷ arc 1 2 3 (empty ∷ empty ∷ []) ∷ [] }

-- the cases
abbrev pub whole_cases : List WholeCase
whole_cases =
    record { call = keeping P (tape_pair 1 3 1 ∷ []) 64 512; gives = kept_p; accounts = account 0 (0 ∷ 1 ∷ 2 ∷ []) ((A ++ B) ∷ (X ++ Y ++ Z) ∷ (A ++ B) ∷ []) 6 ∷ [] }
    ∷ record { call = keeping P (tape_pair 3 1 1 ∷ []) 64 512; gives = kept_p; accounts = account 0 (0 ∷ 1 ∷ 2 ∷ []) ((A ++ B) ∷ (X ++ Y ++ Z) ∷ (A ++ B) ∷ []) 6 ∷ [] }
    ∷ record { call = keeping Q (tape_pair 1 2 1 ∷ []) 3 2; gives = kept_q; accounts = account 0 (0 ∷ 1 ∷ []) (A ∷ A ∷ []) 0 ∷ [] }
    ∷ record { call = keeping S (tape_pair 1 2 64 ∷ []) 64 512; gives = none_left 2; accounts = [] }
    ∷ record { call = keeping no_states (tape_pair 1 2 64 ∷ []) 64 512; gives = none_left 2; accounts = [] }
    ∷ record { call = keeping untrimmed [] 64 512; gives = trimmed_source; accounts = account 0 (0 ∷ []) (A ∷ B ∷ []) 0 ∷ account 0 (1 ∷ []) (B ∷ A ∷ []) 0 ∷ [] }
    ∷ record { call = keeping wide four 64 512; gives = none_left 8; accounts = [] }
    -- two equal arcs are two
    ∷ record { call = keeping twice (tape_pair 1 2 0 ∷ []) 2 2; gives = twice; accounts = account 0 (0 ∷ []) (A ∷ A ∷ []) 0 ∷ account 0 (1 ∷ []) (A ∷ A ∷ []) 0 ∷ [] }
    ∷ record { call = keeping trailing (tape_pair 1 2 1 ∷ []) 3 2; gives = kept_trailing; accounts = account 0 (0 ∷ 1 ∷ []) ((A ++ A) ∷ (A ++ A) ∷ []) 0 ∷ [] }
    ∷ record { call = keeping stuck (tape_pair 1 2 2 ∷ []) 2 1; gives = none_left 2; accounts = [] }
    ∷ record { call = multiplying five onward; gives = five_onward; accounts = account 0 (0 ∷ []) (empty ∷ A ∷ []) 6 ∷ [] }
    ∷ record { call = joining onward two (tape_pair 1 1 0 ∷ []); gives = joined_two; accounts = account 0 (0 ∷ []) (A ∷ X ∷ []) 3 ∷ [] }
    ∷ record {
      call = keeping lagging (tape_pair 1 3 1 ∷ tape_pair 2 4 0 ∷ []) 64 512;
      gives = kept_lagging;
      accounts = account 0 (0 ∷ 1 ∷ 2 ∷ []) ((A ++ B) ∷ (X ++ Y ++ Z) ∷ (A ++ B) ∷ (X ++ Y ++ Z) ∷ []) 6 ∷ [];
    }
    ∷ record { call = joining two parted (tape_pair 1 1 1 ∷ tape_pair 2 2 0 ∷ []); gives = joined_parted; accounts = account 0 (0 ∷ 1 ∷ []) (A ∷ X ∷ []) 7 ∷ [] }
    ∷ []

-- every one of them
abbrev pub WholeCases : Type 0
WholeCases = All Whole whole_cases
