-- The configurations in which paths start, one input state after the other.
use Prim.Native.Nat.{ℕ, zero, suc, ◌+◌, ◌≤◌, ◌<◌}
use mathlib.Core.Path.{◌≡◌, refl, sym, ap, ◌∙◌, subst}
use mathlib.Core.Bool.{true, false}
use mathlib.Core.List.{List, [], ◌++◌}
use native.Mathlib.Omega.{arith}
use lib.ListN.{length, take}
use lib.Seq.{take_all}
use Rattle.automata.specs.Lists.{cons_maybe, map_maybe, numbered}
use Rattle.automata.specs.Automaton.{State}
use Rattle.automata.specs.Config as automata
use Rattle.automata.specs.Config.{same_config}
use Rattle.automata.specs.Explore.{insert_all}
use Rattle.automata.specs.Search.{search_from}
use Rattle.automata.specs.Intersect.{starts}
use Rattle.automata.proofs.ListFacts
use Rattle.automata.proofs.TestFacts
use Rattle.automata.proofs.AppendFacts
use Rattle.automata.proofs.SearchFacts.{insert_all_append}
use Rattle.automata.specs.Layout.{config_size}
use Rattle.intersect_config.specs.Configs.{row_size}
use Rattle.delays.specs.ClosingRegion.{HoldsClosing}
use Rattle.search_rows.proofs.SearchFacts.{inserted_longer}
use Rattle.search_chains.specs.Chain.{fronts, Chained}
use Rattle.intersect_edges.proofs.EdgeFacts.{holds_none}
use Rattle.intersect_offers.specs.declared.plan.Plan.{Plan}
use Rattle.intersect_head.specs.declared.head.Head.{Head}
use Rattle.intersect_offers.specs.Plans.{Explorable, table_in, pairs_in, tables_in, viable_in}
use Rattle.intersect_head.specs.Searching.{bucket_by, ConfigSearch, Holds, Comes}
use Rattle.intersect_head.specs.Starting.{with_configs, start_by, starts_up_to, Startable, Enters, Beginnable, Begun}
use Rattle.intersect_head.proofs.StartFacts.{state_count}

-- the configurations in which paths start in the first q states
abbrev firsts : Plan → List ℕ → List ℕ → ℕ → List automata.Config
firsts p states arcs q = starts_up_to (table_in p states arcs) (pairs_in p) (viable_in p states arcs) q

-- the first q states were looked at, from the work space v to the head g and the work space w
pub record Beginning (p : Plan) (states : List ℕ) (v : List ℕ) (g : Head) (w : List ℕ) (q : ℕ) : Type 0 where
  pub within : q ≤ p.counts.states
  pub taken : g.taken ≡ 0
  pub arcs : g.arcs ≡ 0
  pub same_length : length w ≡ length v
  pub meaning : (arcs : List ℕ) → Explorable p states arcs (length v) → HoldsClosing (tables_in p states arcs) p.room.delays p.counts.states v
      → Chained (bucket_by p.pairs.used p.room.states) config_size row_size p.room.states 0 v
      → Holds p states arcs g (with_configs (record { vertices = []; edges = [] }) (starts_up_to (table_in p states arcs) (pairs_in p) (viable_in p states arcs) q)) false w

pub begin_start : (p : Plan) (states : List ℕ) (v : List ℕ) → Beginning p states v (record { taken = 0; reached = 0; arcs = 0; late = false; full = false }) v 0
unfolding fronts
begin_start p states v = record {
  within = omega arith;
  taken = refl;
  arcs = refl;
  same_length = refl;
  meaning = λ arcs x c e. record {
    configs = refl;
    chained = e;
    edges = holds_none p.room.edges p.room.arcs v;
    closing = c;
    reached = refl;
    fits = omega arith;
    arc_count = refl;
    late_is = refl;
    not_full = refl;
    stored = tt;
  };
}

-- all of them together are the starts
all-starts : (p : Plan) (states arcs : List ℕ) → with_configs (record { vertices = []; edges = [] }) (map_maybe (start_by (pairs_in p) (viable_in p states arcs)) (numbered zero (table_in p states arcs).states))
    ≡ search_from same_config (starts (table_in p states arcs) (pairs_in p) (viable_in p states arcs))
unfolding search_from starts
all-starts p states arcs = refl

module _ (p : Plan) (states : List ℕ) (v : List ℕ) (k : Beginnable p states v) (g : Head) (w : List ℕ) (q : ℕ) (t : Beginning p states v g w q) where
  wider : (arcs : List ℕ) → Explorable p states arcs (length v) → Explorable p states arcs (length w)
  wider arcs x = subst (Explorable p states arcs) (sym t.same_length) x

  pub begin_requires : q < p.counts.states → Startable p g states q w
  begin_requires b = record {
    arcs = k.arcs;
    search = _;
    late = _;
    explorable = wider k.arcs k.explorable;
    holds = t.meaning k.arcs k.explorable k.closing k.chained;
    state_fits = b;
  }

  module _ (b : q < p.counts.states) (r : Head) (u : List ℕ) (z : Enters p g states q w r u) where
    begin_comes : (arcs : List ℕ) → Explorable p states arcs (length v) → HoldsClosing (tables_in p states arcs) p.room.delays p.counts.states v
        → Chained (bucket_by p.pairs.used p.room.states) config_size row_size p.room.states 0 v
        → Comes p states arcs r (with_configs (record { vertices = []; edges = [] }) (firsts p states arcs (q + 1))) false u
    begin_comes arcs x c m =
        let A = table_in p states arcs in
        let f = start_by (pairs_in p) (viable_in p states arcs) in
        let y = ListFacts.place_exists A.states q (omega (arith, state_count p states arcs (length v) x)) in
        let a : State ℕ = y.0 in
        let n : suc q ≡ q + 1 = omega arith in
        let one : firsts p states arcs (suc q) ≡ firsts p states arcs q ++ cons_maybe (f (q, a)) [] = AppendFacts.first_values_suc f A.states q y.1 in
        let e : insert_all same_config [] (firsts p states arcs (suc q)) ≡ insert_all same_config (insert_all same_config [] (firsts p states arcs q)) (cons_maybe (f (q, a)) [])
        = ap (insert_all same_config []) one ∙ insert_all_append same_config [] (firsts p states arcs q) (cons_maybe (f (q, a)) []) in
        let c0 = z.meaning arcs _ false a (wider arcs x) (t.meaning arcs x c m) y.1 in
        let c1 = subst (λ (vs : List automata.Config). Comes p states arcs r (record { vertices = vs; edges = [] }) false u) (sym e) c0 in
        subst (λ (i : ℕ). Comes p states arcs r (with_configs (record { vertices = []; edges = [] }) (firsts p states arcs i)) false u) n c1

    pub begin_next : r.full ≡ false → Beginning p states v r u (q + 1)
    begin_next f = record {
      within = omega arith;
      taken = z.widens.taken ∙ t.taken;
      arcs = z.widens.arcs ∙ t.arcs;
      same_length = z.widens.same_length ∙ t.same_length;
      meaning = λ arcs x c m. (begin_comes arcs x c m).held f;
    }

    pub begin_full : r.full ≡ true → Begun p states v r u
    begin_full f = record {
      taken = z.widens.taken ∙ t.taken;
      arcs = z.widens.arcs ∙ t.arcs;
      same_length = z.widens.same_length ∙ t.same_length;
      meaning = λ arcs x c z. record {
        held = λ n. TestFacts.false_not_true n f;
        over = λ n.
            let A = table_in p states arcs in
            let st = start_by (pairs_in p) (viable_in p states arcs) in
            let whole : List automata.Config = map_maybe st (numbered zero A.states) in
            let m = (begin_comes arcs x c z).over f in
            let y = AppendFacts.first_values_begin st A.states (q + 1) in
            let l = inserted_longer same_config [] (firsts p states arcs (q + 1)) y.rest whole y.joined in
            subst (λ (s : ConfigSearch). p.room.states < length s.vertices) (all-starts p states arcs) (omega (arith, m, l));
      };
    }

  pub begin_end : p.counts.states ≤ q → Begun p states v g w
  begin_end b = record {
    taken = t.taken;
    arcs = t.arcs;
    same_length = t.same_length;
    meaning = λ arcs x c z.
        let A = table_in p states arcs in
        let st = start_by (pairs_in p) (viable_in p states arcs) in
        let m = t.meaning arcs x c z in
        let e : take q A.states ≡ A.states = take_all q A.states (omega (arith, state_count p states arcs (length v) x)) in
        let m1 = subst (λ (xs : List (State ℕ)). Holds p states arcs g (with_configs (record { vertices = []; edges = [] }) (map_maybe st (numbered zero xs))) false w) e m in
        let m2 = subst (λ (s : ConfigSearch). Holds p states arcs g s false w) (all-starts p states arcs) m1 in
        record { held = λ f. m2; over = λ f. TestFacts.false_not_true m2.not_full f };
  }
