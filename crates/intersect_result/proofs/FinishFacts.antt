-- From the bytes that are written to the result on the configurations that stand in work space.
use Prim.Native.Nat.{ℕ, ◌*◌, ◌≤◌}
use mathlib.Core.Path.{◌≡◌, sym, ap, subst, ◌∙◌}
use mathlib.Core.Bool.{Bool}
use mathlib.Core.List.{List, map}
use native.Mathlib.Omega.{arith}
use lib.ListN.{length, take}
use Rattle.automata.specs.Lists.{All}
use Rattle.automata.specs.Answer.{ok}
use Rattle.automata.specs.Automaton.{Arc, Automaton}
use Rattle.automata.specs.TapePair.{TapePair}
use Rattle.automata.specs.Config.{Config, same_config}
use Rattle.automata.specs.Memory.{Memory, Sound, table_of}
use Rattle.automata.specs.Marks.{coaccessible}
use Rattle.automata.specs.Explore.{Edge, edges}
use Rattle.automata.specs.Intersect.{accepting, out, assemble}
use Rattle.automata.specs.Calls.Outcome.{overwrite, put, made_of, slices_of}
use Rattle.automata.proofs.ListFacts
use Rattle.automata.proofs.Edges.{edges_members}
use Rattle.automata.proofs.Configurations.{configs_decided, out_lead}
use Rattle.automata.proofs.IntersectSteps.{config_marks, assembled}
use Rattle.automata.proofs.IntersectTable.{place-all}
use Rattle.automata.proofs.SoundFacts.{sound_holds}
use Rattle.automata.specs.Layout.{arc_size, config_size, state_size}
use Rattle.table.specs.Answers.{lent}
use Rattle.table.specs.Region.{rows}
use Rattle.intersect_edges.specs.Edges.{edges_at, record_graph, Joined}
use Rattle.intersect_edges.specs.Marked.{bools}
use Rattle.intersect_edges.proofs.EdgeFacts.{coaccessible-held, joined_wider}
use Rattle.intersect_edges.proofs.MarkFacts.{bools-bits}
use Rattle.intersect_trim.specs.Ranks.{Numbered}
use Rattle.intersect_trim.specs.Rows.{final_byte, Within}
use Rattle.intersect_trim.specs.Result.{kept_states, kept_arcs, ArcsWithin, ArcsWritten}
use Rattle.intersect_trim.specs.Model.{EdgeOf, result_of}
use Rattle.intersect_trim.proofs.StateModel.{finals_model}
use Rattle.intersect_trim.proofs.Meaning.{within_states, within_arcs, joins, states_fit, arcs_fit, result_put}
use Rattle.intersect_room.specs.declared.room.Room.{Room}
use Rattle.intersect_offers.specs.declared.plan.Plan.{Plan}
use Rattle.intersect_head.specs.declared.head.Head.{Head}
use Rattle.intersect_result.specs.Standing.{Laid, Kept, edges_of, Stands, Finishable}

-- every edge between configurations joins two of them by an arc of the table
edges_are : (A : Automaton ℕ) (ps : List TapePair) (v : Config → Bool) (cs : List Config) → All (EdgeOf A (length cs)) (edges same_config (out A ps v) cs)
edges_are A ps v cs = place-all (EdgeOf A (length cs)) (edges same_config (out A ps v) cs) (λ j x at.
    let (c, d, from, l, to) = edges_members same_config configs_decided (out A ps v) cs (ListFacts.placed (edges same_config (out A ps v) cs) j at) in
    record {
      from = ListFacts.place_bound cs x.from from;
      to = ListFacts.place_bound cs x.to to;
      arc = (out_lead A ps v c x.label d l).numbered_arc;
    })

module _ (m : Memory) (s : Sound m) (ps : List TapePair) (v : Config → Bool) (cs : List Config) (room : Room) (hd : Head) (w : List ℕ)
    (p : Stands m ps v cs room hd w) where
  -- the edges
  abbrev es : List (Edge (ℕ × Arc ℕ))
  es = edges_of m ps v cs

  all_fit : length es ≤ length es
  all_fit = omega arith

  joined : All (EdgeOf (table_of m) (length cs)) es
  joined = edges_are (table_of m) ps v cs

  -- the edges in work space join the rows
  pub stands_joined : Joined hd.reached (edges_at room.edges hd.arcs w)
  stands_joined =
      subst (λ (k : ℕ). Joined k (edges_at room.edges hd.arcs w)) (sym p.many)
      (subst (λ (k : ℕ). Joined (length cs) (edges_at room.edges k w)) (sym p.number) (joins m s cs es room.edges (length es) w p.placed p.held all_fit joined))

  -- their hd.arcs stand in the bytes lent
  pub stands_arcs : ArcsWithin (length m.arc_bytes) (edges_at room.edges hd.arcs w)
  stands_arcs =
      subst (λ (k : ℕ). ArcsWithin (length m.arc_bytes) (edges_at room.edges k w)) (sym p.number)
      (within_arcs m s cs es room.edges (length es) w p.placed p.held all_fit joined)

  -- the records of the rows' states stand in the bytes lent
  pub stands_states : Within (length m.state_bytes) (rows 0 config_size hd.reached w)
  stands_states =
      subst (λ (k : ℕ). Within (length m.state_bytes) (rows 0 config_size k w)) (sym p.many)
      (within_states m s cs es room.edges (length es) w p.placed p.held all_fit joined)

  module _ (marks ranks : List ℕ) (kept : ℕ) (keeps : Kept room hd m.state_bytes w marks ranks kept) where
    numbers : Numbered (bools (take (length cs) marks)) (length cs) ranks kept
    numbers = subst (λ (k : ℕ). Numbered (bools (take k marks)) k ranks kept) p.many keeps.numbers

    -- the records of the kept rows take up no more bytes than those of all
    pub states_room : length (kept_states m.state_bytes (take hd.reached marks) (rows 0 config_size hd.reached w)) ≤ state_size * hd.reached
    states_room =
        subst (λ (k : ℕ). length (kept_states m.state_bytes (take k marks) (rows 0 config_size k w)) ≤ state_size * k) (sym p.many)
        (states_fit m s cs es room.edges (length es) w p.placed p.held all_fit joined marks ranks kept numbers)

    -- and those of the hd.arcs between them no more than those of all edges
    pub arcs_room : length (kept_arcs marks ranks m.arc_bytes (edges_at room.edges hd.arcs w)) ≤ arc_size * hd.arcs
    arcs_room =
        subst (λ (k : ℕ). length (kept_arcs marks ranks m.arc_bytes (edges_at room.edges k w)) ≤ arc_size * k) (sym p.number)
        (arcs_fit m s cs es room.edges (length es) w p.placed p.held all_fit joined marks ranks kept numbers)

    -- the marks are those of the configurations from which an accepting one is reached
    marks_are : bools (take (length cs) marks) ≡ config_marks (table_of m) ps v cs
    marks_are =
        let e : bools (take (length cs) marks) ≡ coaccessible (record_graph (edges_at room.edges (length es) w)) (bools (map (final_byte m.state_bytes) (rows 0 config_size (length cs) w))) =
        subst (λ (k : ℕ). bools (take (length cs) marks) ≡ coaccessible (record_graph (edges_at room.edges k w)) (bools (map (final_byte m.state_bytes) (rows 0 config_size (length cs) w)))) p.number
        (subst (λ (k : ℕ). bools (take k marks) ≡ coaccessible (record_graph (edges_at room.edges hd.arcs w)) (bools (map (final_byte m.state_bytes) (rows 0 config_size k w)))) p.many keeps.marked) in
        e ∙ ap (λ (fs : List ℕ). coaccessible (record_graph (edges_at room.edges (length es) w)) (bools fs)) (finals_model m s cs (rows 0 config_size (length cs) w) p.placed)
        ∙ ap (coaccessible (record_graph (edges_at room.edges (length es) w))) (bools-bits (map (accepting (table_of m)) cs))
        ∙ coaccessible-held room.edges (length es) es w (map (accepting (table_of m)) cs) p.held all_fit

    -- The bytes written are those of the result on the configurations.
    pub finished : (tapes number : ℕ) (states arc_bytes old_states old_arcs : List ℕ) → tapes ≡ m.tapes
        → states ≡ overwrite (kept_states m.state_bytes (take hd.reached marks) (rows 0 config_size hd.reached w)) old_states
        → ArcsWritten marks ranks m.arc_bytes (edges_at room.edges hd.arcs w) number arc_bytes old_arcs
        → made_of (ok (record { tapes = tapes; states = kept; arcs = number })) states arc_bytes ≡ put (ok (assemble (table_of m) ps v cs).automaton) (slices_of old_states old_arcs)
    finished tapes number states arc_bytes old_states old_arcs t e f =
        let x : states ≡ overwrite (kept_states m.state_bytes (take (length cs) marks) (rows 0 config_size (length cs) w)) old_states =
        subst (λ (k : ℕ). states ≡ overwrite (kept_states m.state_bytes (take k marks) (rows 0 config_size k w)) old_states) p.many e in
        let y : ArcsWritten marks ranks m.arc_bytes (edges_at room.edges (length es) w) number arc_bytes old_arcs =
        subst (λ (k : ℕ). ArcsWritten marks ranks m.arc_bytes (edges_at room.edges k w) number arc_bytes old_arcs) p.number f in
        ap (λ (k : ℕ). made_of (ok (record { tapes = k; states = kept; arcs = number })) states arc_bytes) (t ∙ (sound_holds m s).tapes)
        ∙ result_put m s cs es room.edges (length es) w p.placed p.held all_fit joined marks ranks kept numbers number states arc_bytes old_states old_arcs x y
        ∙ ap (λ (b : List Bool). put (ok (result_of (table_of m) b cs es)) (slices_of old_states old_arcs)) marks_are
        ∙ ap (λ (A : Automaton ℕ). put (ok A) (slices_of old_states old_arcs)) (sym (assembled (table_of m) ps v cs p.distinct))

-- ---- what the calls ask for
module _ (p : Plan) (hd : Head) (states inputs w : List ℕ) (for_states for_arcs : ℕ) (f : Finishable p hd states inputs w for_states for_arcs) where
  -- the table that was read
  abbrev m : Memory
  m = lent p.counts states inputs

  -- the rows and the records of the edges are laid out
  pub laid : Laid p.room hd states w
  laid = record {
    few = f.few;
    rows_fit = f.rows_fit;
    edges_fit = f.edges_fit;
    within = stands_states m f.sound f.pairs f.test f.configs p.room hd w f.stands;
    joined = stands_joined m f.sound f.pairs f.test f.configs p.room hd w f.stands;
  }

  module _ (marks ranks : List ℕ) (kept : ℕ) (keeps : Kept p.room hd states w marks ranks kept) where
    -- the states of the result fit
    pub states_writable : length (kept_states states (take hd.reached marks) (rows 0 config_size hd.reached w)) ≤ for_states
    states_writable =
        omega (arith, states_room m f.sound f.pairs f.test f.configs p.room hd w f.stands marks ranks kept keeps, f.states_lent)

    -- and its arcs
    pub arcs_writable : hd.reached ≤ length marks
        → Joined (length marks) (edges_at p.room.edges hd.arcs w) × ArcsWithin (length inputs) (edges_at p.room.edges hd.arcs w)
        × (length (kept_arcs marks ranks inputs (edges_at p.room.edges hd.arcs w)) ≤ for_arcs)
    arcs_writable h = (
      joined_wider hd.reached (length marks) (edges_at p.room.edges hd.arcs w) h laid.joined,
      stands_arcs m f.sound f.pairs f.test f.configs p.room hd w f.stands,
      omega (arith, arcs_room m f.sound f.pairs f.test f.configs p.room hd w f.stands marks ranks kept keeps, f.arcs_lent),
    )
