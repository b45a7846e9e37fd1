-- The auto-intersection as it is computed: the steps out of a configuration arc by arc, and the result by the marks of
-- the configurations.
use mathlib.Core.Path.{◌≡◌, refl, sym, ◌∙◌, ap}
use mathlib.Core.Bool.{Bool, true, false, not}
use mathlib.Core.Option
use mathlib.Core.Option.{Option, none, some}
use mathlib.Core.List.{List, [], ◌∷◌, ◌++◌, map, append-nil}
use Prim.Native.Nat.{ℕ, zero, suc}
use lib.Dec.{eqb}
use lib.ListN.{length, length-map, take, get_elem?}
use lib.Seq.{take-length}
use Rattle.automata.specs.Lists.{if, or, any, filter, Distinct, numbered, guard, bind, cons_maybe, map_maybe}
use Rattle.automata.specs.Automaton.{Arc, Automaton}
use Rattle.automata.specs.TapePair.{TapePair}
use Rattle.automata.specs.Config.{Config, same_config, too_long, follow}
use Rattle.automata.specs.Explore.{Edge, edges, edge_graph}
use Rattle.automata.specs.Search.{Search, note, note_all}
use Rattle.automata.specs.Marks.{coaccessible}
use Rattle.automata.specs.Trim.{at_marks, trimmed, kept_edges}
use Rattle.automata.specs.Intersect.{arc_of, accepting, state_of, starts, candidate, candidates, out, reached_configs, delayed, assemble}
use Rattle.automata.specs.Offer.{nothing, late, to, successor, is_late, offer_to, offer, step_by, out_up_to, late_up_to}
use Rattle.automata.proofs.AppendFacts
use Rattle.automata.proofs.AppendFacts.{Begins}
use Rattle.automata.proofs.MarkFacts.{length_coaccessible}
use Rattle.automata.proofs.Explored.{reached_explored}
use Rattle.automata.proofs.Configurations.{configs_decided}
use Rattle.automata.proofs.KeptEdges.{kept_edges_lem}
use Rattle.automata.proofs.SearchFacts.{note_all_snoc}

-- ---- the steps out of a configuration

module _ {W : Type 0} (A : Automaton W) (ps : List TapePair) (viable : Config → Bool) where
  -- a step's end is too long
  abbrev long : (ℕ × Arc W) × Config → Bool
  long s = too_long ps s.1.leftovers

  -- what an arc offers, against the candidate step by it
  offer-step : (c : Config) (e : ℕ × Arc W) (rest : List ((ℕ × Arc W) × Config))
      → filter (λ s. not (long s)) (cons_maybe (candidate A ps viable c e) rest) ≡ cons_maybe (step_by A ps viable c e) (filter (λ s. not (long s)) rest)
  unfolding candidate offer
  offer-step c e rest = leaves (eqb e.1.source c.state)
    where
      tail : List ((ℕ × Arc W) × Config)
      tail = filter (λ s. not (long s)) rest

      ends : (d : Config) (b : Bool) → if (not b) ((e, d) ∷ tail) tail
          ≡ cons_maybe (Option.map (λ d. (e, d)) (successor (if b late (to d)))) tail
      ends d true = refl
      ends d false = refl

      viably : (d : Config) (b : Bool) → filter (λ s. not (long s)) (cons_maybe (guard b (some (e, d))) rest)
          ≡ cons_maybe (Option.map (λ d. (e, d)) (successor (if b (if (too_long ps d.leftovers) late (to d)) nothing))) tail
      viably d true = ends d (too_long ps d.leftovers)
      viably d false = refl

      follows : (o : Option Config) → filter (λ s. not (long s)) (cons_maybe (bind o (λ d. guard (viable d) (some (e, d)))) rest)
          ≡ cons_maybe (Option.map (λ d. (e, d)) (successor (offer_to ps viable o))) tail
      follows none = refl
      follows (some d) = viably d (viable d)

      leaves : (b : Bool) → filter (λ s. not (long s)) (cons_maybe (guard b (bind (follow ps c e.1) (λ d. guard (viable d) (some (e, d))))) rest)
          ≡ cons_maybe (Option.map (λ d. (e, d)) (successor (if b (offer_to ps viable (follow ps c e.1)) nothing))) tail
      leaves true = follows (follow ps c e.1)
      leaves false = refl

  offer-late : (c : Config) (e : ℕ × Arc W) (rest : List ((ℕ × Arc W) × Config))
      → any long (cons_maybe (candidate A ps viable c e) rest) ≡ or (is_late (offer ps viable c e.1)) (any long rest)
  unfolding candidate offer
  offer-late c e rest = leaves (eqb e.1.source c.state)
    where
      ends : (d : Config) (b : Bool) → or b (any long rest) ≡ or (is_late (if b late (to d))) (any long rest)
      ends d true = refl
      ends d false = refl

      viably : (d : Config) (b : Bool) → any long (cons_maybe (guard b (some (e, d))) rest)
          ≡ or (is_late (if b (if (too_long ps d.leftovers) late (to d)) nothing)) (any long rest)
      viably d true = ends d (too_long ps d.leftovers)
      viably d false = refl

      follows : (o : Option Config) → any long (cons_maybe (bind o (λ d. guard (viable d) (some (e, d)))) rest)
          ≡ or (is_late (offer_to ps viable o)) (any long rest)
      follows none = refl
      follows (some d) = viably d (viable d)

      leaves : (b : Bool) → any long (cons_maybe (guard b (bind (follow ps c e.1) (λ d. guard (viable d) (some (e, d))))) rest)
          ≡ or (is_late (if b (offer_to ps viable (follow ps c e.1)) nothing)) (any long rest)
      leaves true = follows (follow ps c e.1)
      leaves false = refl

  -- over several arcs
  offers_steps : (c : Config) (es : List (ℕ × Arc W))
      → filter (λ s. not (long s)) (map_maybe (candidate A ps viable c) es) ≡ map_maybe (step_by A ps viable c) es
  offers_steps c [] = refl
  offers_steps c (e ∷ es) =
      offer-step c e (map_maybe (candidate A ps viable c) es) ∙ ap (cons_maybe (step_by A ps viable c e)) (offers_steps c es)

  offers_late : (c : Config) (k : ℕ) (arcs : List (Arc W))
      → any long (map_maybe (candidate A ps viable c) (numbered k arcs)) ≡ any (λ a. is_late (offer ps viable c a)) arcs
  offers_late c k [] = refl
  offers_late c k (a ∷ arcs) =
      offer-late c (k, a) (map_maybe (candidate A ps viable c) (numbered (suc k) arcs)) ∙ ap (or (is_late (offer ps viable c a))) (offers_late c (suc k) arcs)

  -- The successors of a configuration are those that the arcs offer, in arc order.
  pub out_offers : (c : Config) → out A ps viable c ≡ map_maybe (step_by A ps viable c) (numbered zero A.arcs)
  unfolding out candidates
  out_offers c = offers_steps c (numbered zero A.arcs)

  -- A candidate step is too long where some arc's offer is.
  pub late_offers : (c : Config) → any (λ s. too_long ps s.1.leftovers) (candidates A ps viable c) ≡ any (λ a. is_late (offer ps viable c a)) A.arcs
  unfolding candidates
  late_offers c = offers_late c zero A.arcs

  -- no arc offers nothing
  pub out_up_to_zero : (c : Config) → out_up_to A ps viable zero c ≡ []
  unfolding out_up_to
  out_up_to_zero c = refl

  -- one arc more
  pub out_up_to_suc : (j : ℕ) (a : Arc W) (c : Config) → get_elem? A.arcs j ≡ some a
      → out_up_to A ps viable (suc j) c ≡ out_up_to A ps viable j c ++ cons_maybe (step_by A ps viable c (j, a)) []
  unfolding out_up_to
  out_up_to_suc j a c e = AppendFacts.first_values_suc (step_by A ps viable c) A.arcs j e

  -- one arc more that leads to a successor
  pub out_up_to-to : (j : ℕ) (a : Arc W) (c d : Config) → get_elem? A.arcs j ≡ some a → offer ps viable c a ≡ to d
      → out_up_to A ps viable (suc j) c ≡ out_up_to A ps viable j c ++ (((j, a), d) ∷ [])
  out_up_to-to j a c d e h = out_up_to_suc j a c e ∙ ap (λ o. out_up_to A ps viable j c ++ cons_maybe (Option.map (λ d. ((j, a), d)) (successor o)) []) h

  -- one arc more that does not
  pub out_up_to-none : (j : ℕ) (a : Arc W) (c : Config) → get_elem? A.arcs j ≡ some a → successor (offer ps viable c a) ≡ none
      → out_up_to A ps viable (suc j) c ≡ out_up_to A ps viable j c
  out_up_to-none j a c e h = out_up_to_suc j a c e ∙ ap (λ o. out_up_to A ps viable j c ++ cons_maybe (Option.map (λ d. ((j, a), d)) o) []) h
      ∙ append-nil (out_up_to A ps viable j c)

  -- all arcs
  pub out_up_to-all : (c : Config) → out_up_to A ps viable (length A.arcs) c ≡ out A ps viable c
  unfolding out_up_to
  out_up_to-all c = ap (λ (arcs : List (Arc W)). map_maybe (step_by A ps viable c) (numbered zero arcs)) (take-length A.arcs) ∙ sym (out_offers c)

  -- the steps by the first arcs come first
  pub out_up_to-begins : (j : ℕ) (c : Config) → Begins (out_up_to A ps viable j c) (out A ps viable c)
  unfolding out_up_to
  out_up_to-begins j c = rw (out_offers c) (AppendFacts.first_values_begin (step_by A ps viable c) A.arcs j)

  -- the search after one arc more that leads to a successor
  pub noted-to : (k : ℕ) (s : Search Config (ℕ × Arc W)) (j : ℕ) (a : Arc W) (c d : Config) → get_elem? A.arcs j ≡ some a → offer ps viable c a ≡ to d
      → note_all same_config k s (out_up_to A ps viable (suc j) c) ≡ note same_config k (note_all same_config k s (out_up_to A ps viable j c)) ((j, a), d)
  noted-to k s j a c d e h = ap (note_all same_config k s) (out_up_to-to j a c d e h) ∙ note_all_snoc same_config configs_decided k s (out_up_to A ps viable j c) ((j, a), d)

  -- the search after one arc more that does not
  pub noted-none : (k : ℕ) (s : Search Config (ℕ × Arc W)) (j : ℕ) (a : Arc W) (c : Config) → get_elem? A.arcs j ≡ some a
      → successor (offer ps viable c a) ≡ none
      → note_all same_config k s (out_up_to A ps viable (suc j) c) ≡ note_all same_config k s (out_up_to A ps viable j c)
  noted-none k s j a c e h = ap (note_all same_config k s) (out_up_to-none j a c e h)

  -- no step by no arc is too long
  pub late_up_to_zero : (c : Config) → late_up_to A ps viable zero c ≡ false
  unfolding late_up_to
  late_up_to_zero c = refl

  -- whether a step is too long, with one arc more
  pub late_up_to_suc : (j : ℕ) (a : Arc W) (c : Config) → get_elem? A.arcs j ≡ some a
      → late_up_to A ps viable (suc j) c ≡ or (late_up_to A ps viable j c) (is_late (offer ps viable c a))
  unfolding late_up_to
  late_up_to_suc j a c e = ap (any (λ a. is_late (offer ps viable c a))) (AppendFacts.take_place A.arcs j e)
      ∙ AppendFacts.any_snoc (λ a. is_late (offer ps viable c a)) (take j A.arcs) a

  -- and with all arcs
  pub late_up_to-all : (c : Config)
      → late_up_to A ps viable (length A.arcs) c ≡ any (λ s. too_long ps s.1.leftovers) (candidates A ps viable c)
  unfolding late_up_to
  late_up_to-all c = ap (any (λ a. is_late (offer ps viable c a))) (take-length A.arcs) ∙ sym (late_offers c)

  -- Some step from one of the configurations is too long where some arc's offer to one of them is.
  pub delayed-late : (cs : List Config) → delayed A ps viable cs ≡ any (late_up_to A ps viable (length A.arcs)) cs
  unfolding delayed
  delayed-late [] = refl
  delayed-late (c ∷ cs) = rw (late_up_to-all c) (ap (or (any long (candidates A ps viable c))) (delayed-late cs))

-- ---- the result

module _ {W : Type 0} (A : Automaton W) (ps : List TapePair) (viable : Config → Bool) where
  -- the edges between configurations
  abbrev pub config_edges : List Config → List (Edge (ℕ × Arc W))
  config_edges cs = edges same_config (out A ps viable) cs

  -- the marks of the configurations from which an accepting one is reached
  abbrev pub config_marks : List Config → List Bool
  config_marks cs = coaccessible (edge_graph (config_edges cs)) (map (accepting A) cs)

  -- The result has the marked configurations as states, and the edges between them as arcs.
  pub assembled : (cs : List Config) → Distinct cs
      → (assemble A ps viable cs).automaton
      ≡ record { tapes = A.tapes; states = map (state_of A) (at_marks (config_marks cs) cs); arcs = map arc_of (kept_edges (config_marks cs) (config_edges cs)) }
  unfolding assemble trimmed
  assembled cs d =
      let many : length (config_marks cs) ≡ length cs =
      length_coaccessible (edge_graph (config_edges cs)) (map (accepting A) cs) ∙ length-map cs (accepting A) in
      ap (λ (es : List (Edge (ℕ × Arc W))). record { tapes = A.tapes; states = map (state_of A) (at_marks (config_marks cs) cs); arcs = map arc_of es })
      (kept_edges_lem same_config configs_decided (out A ps viable) cs (config_marks cs) d many)

  -- every reached configuration stands once
  pub reached_configs-distinct : (cap : ℕ) → Distinct (reached_configs A ps viable cap)
  unfolding reached_configs
  reached_configs-distinct cap = (reached_explored same_config configs_decided (out A ps viable) (starts A ps viable) cap).distinct
