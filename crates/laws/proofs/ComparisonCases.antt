-- Comparisons of each kind of which no call is refused, by computation: demand 3 speaks of such lists of calls.
use mathlib.Core.Path.{◌≡◌, refl}
use mathlib.Core.Logic.{inr, ⊎_elim}
use mathlib.Core.List.{List, [], ◌∷◌}
use Prim.Native.Nat.{◌≤◌}
use native.Mathlib.Omega.{arith}
use lib.Dec.{leb→le}
use lib.ListN.{length}
use Rattle.automata.specs.Lists.{here, there, ◌∈◌, All}
use Rattle.automata.specs.TapePair.{Pair, TapePair, tapes_of, reading as reading_of}
use Rattle.automata.specs.Explore.{reached, edges}
use Rattle.automata.specs.Trim.{trimmed}
use Rattle.automata.specs.Closing.{closing_tables, viable}
use Rattle.automata.specs.Intersect.{starts, candidate, candidates, out, reached_configs, delayed, assemble, intersect_by, intersect}
use Rattle.automata.specs.IntersectCall.{intersect_on, intersect_call}
use Rattle.automata.specs.Product.{cross_product, product}
use Rattle.automata.specs.Join.{join}
use Rattle.automata.specs.Union.{fitted, union}
use Rattle.automata.specs.Projection.{project, drop_tapes}
use Rattle.automata.specs.TableText.{read_table}
use Rattle.automata.specs.Memory.{zeros, encode_table, decode_table, table_of}
use Rattle.automata.specs.Calls.Outcome.{space_of, put, build, conclude, given}
use Rattle.automata.specs.Calls.Work.{build_work, product_work, join_work}
use Rattle.automata.specs.Calls.Read.{read_answer, read_outcome}
use Rattle.automata.specs.Calls.Intersect.{intersect_answer, intersect_outcome}
use Rattle.automata.specs.Calls.Product.{product_answer, product_outcome}
use Rattle.automata.specs.Calls.Join.{join_answer, join_outcome}
use Rattle.automata.specs.Calls.Union.{union_answer, union_outcome}
use Rattle.automata.specs.Calls.Project.{project_answer, project_outcome}
use Rattle.automata.specs.Calls.Drop.{mask_of, drop_answer, drop_outcome}
use Rattle.automata.specs.Cases.{bytes, pair, tape_pair, onward, two, letter, written}
use Rattle.laws.specs.GivenAgain.{NoLower}
use Rattle.laws.specs.CallLaws.{JoinLent, WiderSlices}
use Rattle.laws.specs.CallCases.{slices}
use Rattle.laws.specs.CallTrees.{Calls, lent, reading, joining, made, Gave, given-table, no_less_table, no_less_joining}
use Rattle.laws.specs.JoinTapes.{exchanged_tapes, SharedOut}
use Rattle.laws.specs.Comparisons.{
  Alike,
  Compared,
  met,
  met-written,
  exchanged,
  exchanged-chosen,
  first_in_parts,
  first_united,
  second_in_parts,
  second_united,
  some_pairs-first,
  given-again,
}
use Rattle.laws.proofs.DemandThree.{same_table, alike_refl}

-- what is lent to a join
abbrev pub ample : JoinLent
ample = record { product = slices 8 8; result = slices 8 8; work = zeros 4000 }

-- the table `onward`, and its text read by the call; the table `two`
abbrev pub one-tape : Calls
one-tape = lent (encode_table onward)

abbrev pub from-text : Calls
from-text = reading (bytes "  1     2     1\n         0         -\n         -         0\n     0     1         1        A\n") (slices 3 2)

abbrev pub two_tapes : Calls
two_tapes = lent (encode_table two)

-- the tables `letter` and `written`, which write one mark otherwise
abbrev pub with_letter : Calls
with_letter = lent (encode_table letter)

abbrev pub with_digit_lem : Calls
with_digit_lem = lent (encode_table written)

-- tape 1 of each, with the limit 0 and with a higher one
abbrev pub on : List TapePair
on = tape_pair 1 1 0 ∷ []

abbrev pub on_higher : List TapePair
on_higher = tape_pair 1 1 64 ∷ []

-- the same table, lent and read
pub same_tables : Alike one-tape from-text
unfolding made given-table given read_table read_answer read_outcome put decode_table
same_tables = same_table one-tape from-text _ _ onward refl refl refl refl

-- no space smaller
pub wider : WiderSlices (slices 8 8) (slices 8 8)
wider = record { states = omega arith; arcs = omega arith }

-- no limit lower
pub no_lower : NoLower on on_higher
no_lower = record { wider = (refl, refl, omega arith, tt); fit = λ q m. low m }
  where
    low : {q : TapePair} → q ∈ on_higher → q.limit ≤ 64
    low (here e) = rw e (omega arith)
    low (there m) = elim m [ ]

pub enough_work : join_work (space_of (slices 8 8)) (space_of (slices 8 8)) ≤ length (zeros 4000)
unfolding join_work product_work build_work
enough_work = leb→le 3456 4000 tt

-- all pairs later
pub later-all : SharedOut (tapes_of on) [] (tapes_of on_higher)
later-all = record { all = λ p. (inr, ⊎_elim (λ m. absurd (no_member m)) (λ m. m)); apart = λ p m. absurd (no_member m) }
  where
    no_member : {p : Pair} → p ∈ [] → ⊥
    no_member m = elim m [ ]

-- lists of calls that are compared, none of them refused
pub record Example : Type 1 where
  pub calls : List Calls
  pub says : Type 0
  pub compared : Compared calls says
  pub gave : All Gave calls

-- a comparison of each kind; of an exchanged join also one of tables that write a mark otherwise
pub examples : List Example
unfolding reading_of reached edges trimmed starts candidate candidates out reached_configs delayed assemble intersect_by intersect intersect_on intersect_call
    cross_product product closing_tables viable join fitted union project drop_tapes read_table decode_table table_of put build conclude given build_work product_work join_work
    read_answer read_outcome intersect_answer intersect_outcome product_answer product_outcome join_answer join_outcome union_answer union_outcome
    project_answer project_outcome mask_of drop_answer drop_outcome made given-table
examples =
    record { calls = _; says = _; compared = met ample on from-text two_tapes; gave = ((_, refl), tt) }
    ∷ record { calls = _; says = _; compared = met-written ample on with_letter with_digit_lem; gave = ((_, refl), tt) }
    ∷ record {
      calls = _;
      says = _;
      compared = exchanged ample ample on on_higher from-text from-text two_tapes two_tapes refl (alike_refl from-text) (alike_refl two_tapes);
      gave = ((_, refl), ((_, refl), tt));
    }
    ∷ record {
      calls = _;
      says = _;
      compared = exchanged ample ample on on_higher with_letter with_letter with_digit_lem with_digit_lem refl (alike_refl with_letter) (alike_refl with_digit_lem);
      gave = ((_, refl), ((_, refl), tt));
    }
    ∷ record {
      calls = _;
      says = _;
      compared = exchanged-chosen ample ample (slices 8 8) on on_higher from-text from-text two_tapes two_tapes refl (alike_refl from-text) (alike_refl two_tapes);
      gave = ((_, refl), ((_, refl), tt));
    }
    ∷ record {
      calls = _;
      says = _;
      compared = first_in_parts (slices 4 4) ample ample ample on on_higher on one-tape one-tape from-text from-text two_tapes two_tapes two_tapes
          refl refl (alike_refl one-tape) (alike_refl from-text) (alike_refl two_tapes) (alike_refl two_tapes);
      gave = ((_, refl), ((_, refl), ((_, refl), tt)));
    }
    ∷ record {
      calls = _;
      says = _;
      compared = first_united (slices 4 4) (slices 8 8) ample ample ample on on_higher on one-tape one-tape from-text from-text two_tapes two_tapes two_tapes
          refl refl (alike_refl one-tape) (alike_refl from-text) (alike_refl two_tapes) (alike_refl two_tapes);
      gave = ((_, refl), ((_, refl), tt));
    }
    ∷ record {
      calls = _;
      says = _;
      compared = second_in_parts (slices 4 4) ample ample ample on on on_higher two_tapes two_tapes two_tapes two_tapes one-tape one-tape one-tape
          refl refl (alike_refl two_tapes) (alike_refl two_tapes) (alike_refl one-tape) (alike_refl one-tape);
      gave = ((_, refl), ((_, refl), ((_, refl), tt)));
    }
    ∷ record {
      calls = _;
      says = _;
      compared = second_united (slices 4 4) (slices 8 8) ample ample ample on on on_higher two_tapes two_tapes two_tapes two_tapes one-tape one-tape one-tape
          refl refl (alike_refl two_tapes) (alike_refl two_tapes) (alike_refl one-tape) (alike_refl one-tape);
      gave = ((_, refl), ((_, refl), tt));
    }
    ∷ record {
      calls = _;
      says = _;
      compared = some_pairs-first ample ample (slices 8 8) (slices 8 8) (zeros 4000) on [] on_higher one-tape from-text two_tapes two_tapes later-all
          same_tables (alike_refl two_tapes);
      gave = ((_, refl), ((_, refl), tt));
    }
    ∷ record {
      calls = _;
      says = _;
      compared = given-again (joining ample on one-tape two_tapes) (joining ample on_higher from-text two_tapes)
          (no_less_joining ample ample on on_higher one-tape from-text two_tapes two_tapes (no_less_table one-tape from-text _ _ refl refl refl)
          (no_less_table two_tapes two_tapes _ _ refl refl refl) no_lower wider wider enough_work);
      gave = ((_, refl), tt);
    }
    ∷ []

-- tape 3 of the second table is kept as tape 2 of the first, so it counts as that; tape 1 of the first stands last
pub order_example : exchanged_tapes 2 3 (pair 2 3 ∷ []) ≡ 3 ∷ 4 ∷ 2 ∷ 1 ∷ []
order_example = refl
