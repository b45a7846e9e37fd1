-- The weights of tuples after reading: what follows from the weights of tuples as they are written.
use mathlib.Core.Path.{◌≡◌, sym, ◌∙◌}
use mathlib.Core.Logic.{◌↔◌, ◌⊎◌, inl, inr, ⊎_elim}
use lib.ListN.{length}
use Rattle.automata.specs.OrderedSum.{OrderedSum}
use Rattle.automata.specs.Automaton.{Automaton, Tuple, Formed}
use Rattle.automata.specs.Tapes.{read_tuple, ReadAlike}
use Rattle.automata.specs.Paths.{Weighs, AfterReading, WeighsRead, LeastRead}
use Rattle.automata.specs.Projection.{relabelled}
use Rattle.laws.specs.JoinLaws.{ReadLeast}
use Rattle.automata.proofs.PathFacts.{weighs_length}
use Rattle.automata.proofs.ReadingFacts.{read_blank, read_spell, read_length, read_short, alike_length}
use Rattle.automata.proofs.TupleWeight.{has_least}
use Rattle.laws.proofs.Lemmas.ProjectionPaths.{relabelled_weighs, relabelled_formed}

module _ (S : OrderedSum) where
  open S use {W, leq_trans}

  -- tuples that fall together have the same properties after reading
  pub read_alike : (X : Tuple → W → Type 0) (s t : Tuple) → ReadAlike s t → (w : W) → AfterReading S X s w → AfterReading S X t w
  read_alike X s t e w (r, p, x) = (r, p ∙ e, x)

  -- a tuple that is weighed after reading has the automaton's width
  pub read_width : (A : Automaton W) (t : Tuple) (w : W) → WeighsRead S A t w → length t ≡ A.tapes
  read_width A t w (s, e, x) = sym (alike_length s t e) ∙ weighs_length S A s w x

  -- either of two properties
  pub read_either : (X Y Z : Tuple → W → Type 0) → ((t : Tuple) (w : W) → X t w ↔ (Y t w ⊎ Z t w))
      → (t : Tuple) (w : W) → AfterReading S X t w ↔ (AfterReading S Y t w ⊎ AfterReading S Z t w)
  read_either X Y Z h t w = (
    λ (s, r, x). ⊎_elim (λ y. inl (s, r, y)) (λ y. inr (s, r, y)) ((h s w).0 x),
    ⊎_elim (λ (s, r, x). (s, r, (h s w).1 (inl x))) (λ (s, r, x). (s, r, (h s w).1 (inr x))),
  )

  module _ (A : Automaton W) (fA : Formed A) where
    -- the automaton with every label read: it weighs a tuple as some tuple that is read so
    abbrev as_read : Automaton W
    as_read = relabelled read_tuple A.tapes A

    read_weighs : (t : Tuple) (w : W) → Weighs S as_read (read_tuple t) w ↔ WeighsRead S A t w
    read_weighs t w = relabelled_weighs S read_tuple A.tapes A fA (read_blank A.tapes) (λ l t p q. read_spell l t) (read_tuple t) w

    read_formed : Formed as_read
    read_formed = relabelled_formed S read_tuple A.tapes A fA (read_blank A.tapes) (λ l t p q. read_spell l t) (λ l e. read_length l ∙ e) (read_short 8)

    -- so where some tuple is weighed that falls together with t, there is a least such weight
    pub has_least_read : (t : Tuple) (w : W) → WeighsRead S A t w → (v : W) × LeastRead S A t v
    has_least_read t w x =
        let (v, (y, m)) = has_least S as_read read_formed (read_tuple t) w ((read_weighs t w).1 x) in
        (v, ((read_weighs t v).0 y, λ u z. m u ((read_weighs t u).1 z)))

    -- it is the least of the weights, as written, of the tuples that fall together with t
    pub read_least : (t : Tuple) → ReadLeast S A t
    read_least t = record {
      least = λ w. (
        λ ((s, r, x), m). ((s, r, (x, λ v y. m v (s, r, y))), λ v (s', r', (x', _)). m v (s', r', x')),
        λ ((s, r, (x, n)), m). (
          (s, r, x),
          λ v (s', r', x'). let (v', (y, n')) = has_least S A fA s' v x' in leq_trans w v' v (m v' (s', r', (y, n'))) (n' v x'),
        ),
      );
      nothing = (λ n s r w x. n w (s, r, x), λ n w (s, r, x). n s r w x);
    }
