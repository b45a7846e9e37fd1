-- What the calls leave one after the other: the marks of the configurations on a successful path, and the bytes of the
-- result.
use Prim.Native.Nat.{ℕ, ◌*◌, ◌≤◌}
use mathlib.Core.Path.{◌≡◌, refl, sym, ap, ◌∙◌}
use mathlib.Core.Bool.{Bool, true, false}
use mathlib.Core.List.{List, [], ◌∷◌, map}
use native.Mathlib.Omega.{arith}
use lib.ListN.{length, take, length-append, length-map}
use Rattle.automata.specs.Lists.{if, filter, All}
use Rattle.automata.specs.Records.{write_all}
use Rattle.automata.specs.Answer.{ok}
use Rattle.automata.specs.Automaton.{Arc, Automaton}
use Rattle.automata.specs.Config.{Config}
use Rattle.automata.specs.Memory.{Memory, Sound, table_of, encode_states, encode_arcs}
use Rattle.automata.specs.Explore.{Edge}
use Rattle.automata.specs.Trim.{at_marks, kept_edges}
use Rattle.automata.specs.Intersect.{state_of, arc_of}
use Rattle.automata.specs.Calls.Outcome.{overwrite, put, made_of, slices_of}
use Rattle.automata.proofs.RankFacts.{length_at_marks, rank-le}
use Rattle.automata.proofs.KeptEdges.{length_kept_edges}
use Rattle.automata.specs.Layout.{arc_size, config_size, state_size}
use Rattle.table.specs.Region.{rows}
use Rattle.table.proofs.RowFacts.{length_rows}
use Rattle.intersect_edges.specs.declared.edge.EdgeRecord.{EdgeRecord}
use Rattle.intersect_edges.specs.Edges.{edges_at, Joined, record_of, HoldsEdges}
use Rattle.intersect_edges.specs.Marked.{bools}
use Rattle.intersect_edges.proofs.EdgeFacts.{edges-held}
use Rattle.intersect_trim.specs.Ranks.{Numbered}
use Rattle.intersect_trim.specs.Rows.{Within, RowsOf}
use Rattle.intersect_trim.specs.Result.{row_record, kept_states, both_marks, arc_bytes, kept_arcs, ArcsWithin, ArcsWritten}
use Rattle.intersect_trim.specs.Model.{result_of, EdgeOf}
use Rattle.intersect_trim.proofs.ResultFacts.{length_row, length_arc}
use Rattle.intersect_trim.proofs.StateModel.{rows-within, kept_model}
use Rattle.intersect_trim.proofs.ArcModel.{edges-joined, arcs_within, count_model, kept_arcs_model}

-- ---- how many bytes the records take up

pub length_states : (states : List ℕ) (bs : List Bool) (rs : List (List ℕ)) → Within (length states) rs
    → length (write_all (row_record states) (at_marks bs rs)) ≡ state_size * length (at_marks bs rs)
unfolding Within
length_states states [] rs i = refl
length_states states (b ∷ bs) [] i = refl
length_states states (b ∷ bs) (r ∷ rs) i = go b (length_states states bs rs i.1)
  where
    go : (b : Bool) → length (write_all (row_record states) (at_marks bs rs)) ≡ state_size * length (at_marks bs rs)
        → length (write_all (row_record states) (if b (r ∷ at_marks bs rs) (at_marks bs rs))) ≡ state_size * length (if b (r ∷ at_marks bs rs) (at_marks bs rs))
    go true e = let l = length_row states r i.0 in length-append (row_record states r) (write_all (row_record states) (at_marks bs rs)) ∙ omega arith
    go false e = e

pub length_arcs : (marks ranks inputs : List ℕ) (es : List EdgeRecord) → ArcsWithin (length inputs) es
    → length (kept_arcs marks ranks inputs es) ≡ arc_size * length (filter (both_marks marks) es)
unfolding ArcsWithin kept_arcs
length_arcs marks ranks inputs [] i = refl
length_arcs marks ranks inputs (e ∷ es) i = go (both_marks marks e) (length_arcs marks ranks inputs es i.1)
  where
    go : (b : Bool) → length (write_all (arc_bytes ranks inputs) (filter (both_marks marks) es)) ≡ arc_size * length (filter (both_marks marks) es)
        → length (write_all (arc_bytes ranks inputs) (if b (e ∷ filter (both_marks marks) es) (filter (both_marks marks) es)))
        ≡ arc_size * length (if b (e ∷ filter (both_marks marks) es) (filter (both_marks marks) es))
    go true f =
        let l = length_arc ranks inputs e i.0 in
        length-append (arc_bytes ranks inputs e) (write_all (arc_bytes ranks inputs) (filter (both_marks marks) es)) ∙ omega arith
    go false f = f

-- ---- Configurations cs in the rows of w, and edges es between them from place base on.
module _ (m : Memory) (s : Sound m) (cs : List Config) (es : List (Edge (ℕ × Arc ℕ))) (base room : ℕ) (w : List ℕ)
    (placed : RowsOf (length (table_of m).states) cs (rows 0 config_size (length cs) w)) (held : HoldsEdges base room es w) (fits : length es ≤ room)
    (joined : All (EdgeOf (table_of m) (length cs)) es) where
  -- the edges in work space
  records : edges_at base (length es) w ≡ map record_of es
  records = edges-held base room es w held fits

  -- what the calls ask for
  pub within_states : Within (length m.state_bytes) (rows 0 config_size (length cs) w)
  within_states = rows-within m s cs (rows 0 config_size (length cs) w) placed

  pub within_arcs : ArcsWithin (length m.arc_bytes) (edges_at base (length es) w)
  within_arcs = rw records (arcs_within m s (length cs) es joined)

  pub joins : Joined (length cs) (edges_at base (length es) w)
  joins = rw records (edges-joined (table_of m) (length cs) es joined)

  module _ (marks ranks : List ℕ) (count : ℕ) (numbers : Numbered (bools (take (length cs) marks)) (length cs) ranks count) where
    -- the result, by the marks
    abbrev result : Automaton ℕ
    result = result_of (table_of m) (bools (take (length cs) marks)) cs es

    -- there is room for the states where there is room for as many as there are configurations, ...
    pub states_fit : length (kept_states m.state_bytes (take (length cs) marks) (rows 0 config_size (length cs) w)) ≤ state_size * length cs
    unfolding kept_states
    states_fit =
        let bs : List Bool = bools (take (length cs) marks) in
        let rs : List (List ℕ) = rows 0 config_size (length cs) w in
        let a = length_states m.state_bytes bs rs within_states in
        let b = length_at_marks bs rs in
        let c = rank-le bs (length rs) in
        let d = length_rows 0 config_size (length cs) w in
        omega (arith, a, b, c, d)

    -- ... and for the arcs where there is room for as many as there are edges
    pub arcs_fit : length (kept_arcs marks ranks m.arc_bytes (edges_at base (length es) w)) ≤ arc_size * length es
    arcs_fit =
        let a = length_arcs marks ranks m.arc_bytes (edges_at base (length es) w) within_arcs in
        let b : length (filter (both_marks marks) (edges_at base (length es) w)) ≡ length (kept_edges (bools (take (length cs) marks)) es) =
        ap (λ (x : List EdgeRecord). length (filter (both_marks marks) x)) records ∙ count_model (length cs) marks (table_of m) es joined in
        let c = length_kept_edges (bools (take (length cs) marks)) es in
        omega (arith, a, b, c)

    -- The slices of the result are what the call that gives it leaves, and the counts are its counts.
    pub result_put : (number : ℕ) (states arcs old_states old_arcs : List ℕ)
        → states ≡ overwrite (kept_states m.state_bytes (take (length cs) marks) (rows 0 config_size (length cs) w)) old_states
        → ArcsWritten marks ranks m.arc_bytes (edges_at base (length es) w) number arcs old_arcs
        → made_of (ok (record { tapes = (table_of m).tapes; states = count; arcs = number })) states arcs ≡ put (ok result) (slices_of old_states old_arcs)
    unfolding put
    result_put number states arcs old_states old_arcs e f =
        let bs : List Bool = bools (take (length cs) marks) in
        let p : count ≡ length (map (state_of (table_of m)) (at_marks bs cs)) =
        numbers.total ∙ sym (length_at_marks bs cs) ∙ sym (length-map (at_marks bs cs) (state_of (table_of m))) in
        let q : number ≡ length (map (arc_of {W = ℕ}) (kept_edges bs es)) =
        f.number ∙ ap (λ (x : List EdgeRecord). length (filter (both_marks marks) x)) records ∙ count_model (length cs) marks (table_of m) es joined
        ∙ sym (length-map (kept_edges bs es) arc_of) in
        let x : states ≡ overwrite (encode_states result) old_states =
        e ∙ ap (λ (b : List ℕ). overwrite b old_states) (kept_model m s (take (length cs) marks) cs (rows 0 config_size (length cs) w) es placed) in
        let y : arcs ≡ overwrite (encode_arcs result) old_arcs =
        f.bytes ∙ ap (λ (b : List ℕ). overwrite b old_arcs)
        (ap (kept_arcs marks ranks m.arc_bytes) records ∙ kept_arcs_model m s (length cs) count marks ranks numbers cs es joined) in
        λ i. made_of (ok (record { tapes = (table_of m).tapes; states = p i; arcs = q i })) (x i) (y i)
