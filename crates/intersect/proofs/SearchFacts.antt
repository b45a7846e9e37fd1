-- The search of a plan, as it is answered.
use Prim.Native.Nat.{ℕ, ◌+◌, ◌/◌, ◌≤◌}
use mathlib.Core.Path.{◌≡◌, sym, ap, ◌∙◌, subst}
use mathlib.Core.List.{List, [], ◌∷◌, ◌++◌, map}
use native.Mathlib.Omega.{arith}
use lib.ListN.{length, get_or, drop}
use Rattle.automata.specs.Lists.{All}
use Rattle.automata.specs.Config.{Config}
use Rattle.automata.proofs.SoundFacts.{sound_holds}
use Rattle.automata.specs.Layout.{arc_size, config_size, state_size}
use Rattle.table.specs.Region.{part, rows}
use Rattle.table.specs.Answers.{lent}
use Rattle.table.proofs.RegionFacts.{part-add}
use Rattle.search_chains.specs.Chain.{fronts}
use Rattle.intersect_config.specs.Configs.{config_bytes, row_size}
use Rattle.intersect_trim.specs.Rows.{RowOf, RowsOf}
use Rattle.intersect_room.specs.Room.{Divides}
use Rattle.intersect_offers.specs.declared.plan.Plan.{Plan}
use Rattle.intersect_offers.specs.Held.{config_of, row_of, Stored}
use Rattle.intersect_offers.specs.Plans.{Explorable, table_in, pairs_in, viable_in}
use Rattle.intersect_head.specs.declared.head.Head.{Head}
use Rattle.intersect_search.specs.Exploring.{reached_in, Explored}
use Rattle.intersect_result.specs.Searched.{Searched, Answerable}
use Rattle.intersect.proofs.ConfigRows.{row_of_lem}

-- a row that begins with the record of a configuration that is stored holds it
stored_row : (used n : ℕ) (c : Config) (a : ℕ) (w : List ℕ) → used ≤ 4 → Stored used n c → part a row_size w ≡ row_of c → RowOf c (part a config_size w)
unfolding row_of
stored_row used n c a w h s e =
    let q : config_bytes (config_of c) ++ part (a + row_size) 22 w ≡ part a config_size w = ap (λ (r : List ℕ). r ++ part (a + row_size) 22 w) (sym e) ∙ sym (part-add a row_size 22 w) in
    subst (RowOf c) q (subst (λ (x : Config). RowOf x (config_bytes (config_of c) ++ part (a + row_size) 22 w)) s.meaning (row_of_lem used (config_of c) h s.form (part (a + row_size) 22 w)))

-- so do all rows, where the records are at their fronts
stored_rows : (used n k : ℕ) (cs : List Config) (a : ℕ) (w : List ℕ) → used ≤ 4 → n ≡ k → All (Stored used n) cs
    → fronts a config_size row_size (length cs) w ≡ map row_of cs → RowsOf k cs (rows a config_size (length cs) w)
unfolding fronts rows
stored_rows used n k [] a w h e s q = tt
stored_rows used n k (c ∷ cs) a w h e s q =
    let r : part a row_size w ≡ row_of c = ap (λ (z : List (List ℕ)). get_or z 0 []) q in
    let t : fronts (a + config_size) config_size row_size (length cs) w ≡ map row_of cs = ap (λ (z : List (List ℕ)). drop 1 z) q in
    ((stored_row used n c a w h s.0 r, omega (arith, s.0.state_fits)), stored_rows used n k cs (a + config_size) w h e s.1 t)

module _ (p : Plan) (states arcs : List ℕ) (size : ℕ) (x : Explorable p states arcs size) (h : Head) (v w : List ℕ) (e : Explored p states arcs v h w) where
  -- what the search tells
  pub searched : Searched (lent p.counts states arcs) (pairs_in p) (viable_in p states arcs) p.room h w
  searched = record {
    over = e.comes.over;
    within = λ f. let d = e.comes.held f in record {
      few = d.fits;
      many = d.reached;
      number = d.arc_count;
      delay = d.late_is;
      placed =
          stored_rows p.pairs.used p.counts.states (length (table_in p states arcs).states) (reached_in p states arcs) 0 w x.named.used_fit
          (sound_holds (lent p.counts states arcs) x.sound).states d.stored d.configs;
      held = d.edges;
    };
  }

  -- so that it can be answered
  pub answerable : (for_states for_arcs : ℕ) → Divides (for_states / state_size) (for_arcs / arc_size) p.counts.states (length v) p.room
      → Answerable p h states arcs w for_states for_arcs
  answerable for_states for_arcs d = record {
    sound = x.sound;
    divides = subst (λ (k : ℕ). Divides (for_states / state_size) (for_arcs / arc_size) p.counts.states k p.room) (sym e.same_length) d;
    pairs = pairs_in p;
    test = viable_in p states arcs;
    searched = searched;
  }
