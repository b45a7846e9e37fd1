-- A path in the lent list: it is told where the list has places for its arcs, and else refused by 14.
use mathlib.Core.Path.{◌≡◌, sym, ap, ◌∙◌}
use mathlib.Core.Bool.{Bool}
use mathlib.Core.Option.{Option, some}
use mathlib.Core.List.{List, [], ◌∷◌}
use Prim.Native.Nat.{ℕ, zero, suc, ◌+◌, ◌/◌, ◌≤◌, ◌<◌}
use native.Mathlib.Omega.{arith}
use lib.ListN.{length}
use borrow.Author.Tests.{le-leb, lt-leb}
use Rattle.automata.specs.Answer.{Answer, ok, refused, judge}
use Rattle.automata.specs.LeastPath.{Account}
use Rattle.automata.specs.LeastPathCall.{listed}
use Rattle.automata.specs.Calls.Outcome.{overwrite}
use Rattle.automata.specs.Calls.LeastPath.{places_in, entries, Told, told_of, told_answer, path_in}
use Rattle.table.specs.declared.answer.Counts.{Counts}
use Rattle.lookup_moves.specs.declared.spot.Spans.{Spans}
use Rattle.path_search.specs.declared.answer.PathTold.{PathTold}
use Rattle.std.specs.Prelude.{Ok, Some}
use Rattle.path_search.specs.Answers.{path_as}
use Rattle.path_search.specs.Trail.{mark_of, found_from, count_back, run_back}
use Rattle.path_search.specs.Traced.{traced}

module _ (c : Counts) (arcs : List ℕ) (spans : Spans) (xs : List ℕ) where
  -- a run of n arcs before another
  run_length : (n at : ℕ) (run : List ℕ) → length (run_back c arcs spans xs n at run).0 ≡ n + length run
  unfolding run_back
  run_length zero at run = omega arith
  run_length (suc n) at run = omega (arith, run_length n (found_from c arcs spans xs at) (mark_of c arcs spans xs at ∷ run))

  module _ (list : List ℕ) (weight found end n : ℕ) (n-is : n ≡ count_back c arcs spans xs found end) where
    -- the account of the path
    abbrev account : Account ℕ
    account = traced c arcs spans xs weight found end

    -- it has n arcs
    arcs_are : length account.path.run ≡ n
    arcs_are = omega (arith, run_length (count_back c arcs spans xs found end) end [], n-is)

    -- the list is too short
    listed-short : places_in list < n → listed (places_in list) (some account) ≡ refused 14
    listed-short h = ap (λ (b : Bool). judge b 14 (ok (some account))) (lt-leb (length account.path.run) (places_in list) (omega (arith, arcs_are, h)))

    pub short-told : places_in list < n
        → (refused 14 ≡ told_answer (listed (places_in list) (some account))) × (list ≡ path_in (listed (places_in list) (some account)) list)
    short-told h = (sym (ap told_answer (listed-short h)), sym (ap (λ (a : Answer (Option (Account ℕ))). path_in a list) (listed-short h)))

    -- it is long enough
    listed_long : n ≤ places_in list → listed (places_in list) (some account) ≡ ok (some account)
    listed_long h = ap (λ (b : Bool). judge b 14 (ok (some account))) (le-leb (length account.path.run) (places_in list) (omega (arith, arcs_are, h)))

    module _ (first : ℕ) (left : List ℕ) (l : left ≡ overwrite (entries (run_back c arcs spans xs n end []).0) list)
        (f : first ≡ (run_back c arcs spans xs n end []).1) where
      abbrev told : PathTold
      told = record { weight = weight; start = first / spans.all; arcs = n }

      pub path-told : n ≤ places_in list
          → (path_as (Ok (Some told)) ≡ told_answer (listed (places_in list) (some account))) × (left ≡ path_in (listed (places_in list) (some account)) list)
      path-told h = (
        ap {B = Answer (Option Told)} (λ (x : Told). ok (some x)) same ∙ sym (ap told_answer (listed_long h)),
        l ∙ ap (λ (k : ℕ). overwrite (entries (run_back c arcs spans xs k end []).0) list) n-is
            ∙ sym (ap (λ (a : Answer (Option (Account ℕ))). path_in a list) (listed_long h)),
      )
        where
          state : first / spans.all ≡ account.path.start
          state = ap (λ (k : ℕ). k / spans.all) (f ∙ ap (λ (k : ℕ). (run_back c arcs spans xs k end []).1) n-is)

          same : record { weight = weight; start = first / spans.all; arcs = n } ≡ told_of account
          same i = record { weight = weight; start = state i; arcs = sym arcs_are i }
