-- What request 2.3 of document 02 promises: the arcs behind a weight.
use Rattle.std.specs.Prelude.{◌≡◌, ◌↔◌, suc, ◌*◌, ◌≤◌, length}
use Rattle.std.proofs.Math.Option.{none, some, map}
use Rattle.automata.specs.Lists.{total}
use Rattle.automata.specs.OrderedSum.{OrderedSum}
use Rattle.automata.specs.Automaton.{Automaton, Tuple, size}
use Rattle.automata.specs.Paths.{SuccessfulPath, trace, weight, Weighs, NoWeight}
use Rattle.automata.specs.Lookup.{lookup}
use Rattle.automata.specs.LeastPath.{FirstLeast, Account, least_path}

module _ (S : OrderedSum) (A : Automaton S.W) (t : Tuple) where
  open S use {W}

  -- what is told with a path: it has the weight told and is the first of the least ones
  abbrev pub Tells : Account W → Type 0
  Tells x = (π : SuccessfulPath A) × (trace π ≡ x.path) × (weight S π ≡ x.weight) × FirstLeast S A t π

  -- 2.3, of an automaton and a tuple of one string a tape. Which of the paths that spell the tuple at its weight comes
  -- first is said by `FirstLeast` and `Before`: fewest arcs, lower starting state, lower arc at the first difference.
  pub record LeastPaths : Type 0 where
    -- a path is told exactly where it is the first of the least ones, with its weight
    pub told : (x : Account W) → (least_path S A t ≡ some x) ↔ Tells x
    -- none is told exactly where no successful path spells the tuple
    pub nothing : (least_path S A t ≡ none) ↔ NoWeight S A t
    -- the weight told is that of the lookup
    pub weight_told : map (λ x. x.weight) (least_path S A t) ≡ lookup S A t
    -- where the tuple has a weight there is exactly one such path
    pub exists : (w : W) → Weighs S A t w → (π : SuccessfulPath A) × FirstLeast S A t π
    pub unique : (π ρ : SuccessfulPath A) → FirstLeast S A t π → FirstLeast S A t ρ → trace π ≡ trace ρ
    -- it has no more arcs than there are pairs of a state and a number of symbols left
    pub few_arcs : (π : SuccessfulPath A) → FirstLeast S A t π → length π.run ≤ size A * suc (total length t)
