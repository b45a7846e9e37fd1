-- The records of the result, written one after the other.
use Prim.Native.Nat.{ℕ, suc, ◌+◌, ◌-◌, ◌*◌, ◌<◌, ◌≤◌}
use mathlib.Core.Path.{◌≡◌, refl, sym, ap, ap₂, ◌∙◌}
use mathlib.Core.Bool.{Bool, true, false}
use mathlib.Core.Logic.{◌≢◌}
use mathlib.Core.List.{List, [], ◌∷◌, ◌++◌}
use native.Mathlib.Omega.{arith}
use lib.ListN.{length, get_or, take, drop, length-append}
use Rattle.automata.specs.Lists.{if, filter}
use Rattle.automata.specs.Records.{write_all}
use Rattle.automata.specs.Memory.{zeros}
use Rattle.automata.specs.Trim.{at_marks}
use Rattle.automata.specs.Calls.Outcome.{overwrite}
use Rattle.automata.proofs.TestFacts.{eqb_false}
use Rattle.automata.specs.Layout.{arc_size, config_size, state_size, step_size, content_place, content_size}
use Rattle.table.specs.Region.{part, splice, rows}
use Rattle.table.specs.Endian.{to_le}
use Rattle.table.proofs.RegionFacts.{part_suc, part_zero, length_part, splice-none, splice_append, splice_front, splice-behind}
use Rattle.intersect_edges.specs.declared.edge.EdgeRecord.{EdgeRecord}
use Rattle.intersect_edges.specs.Edges.{edge_at, edges_at}
use Rattle.intersect_edges.specs.Marked.{bit, is_mark, bools}
use Rattle.intersect_trim.specs.Rows.{row_state, row_plain}
use Rattle.intersect_trim.specs.Result.{row_record, marked_state, kept_states, both_marks, arc_bytes, marked_arc, kept_arcs, ArcsWithin, ArcsWritten}

-- ---- bytes written one after the other

-- there is room for the next bytes
pub write_room : (to n : ℕ) (ys zs all : List ℕ) → all ≡ ys ++ zs → to + length all ≤ n → to + length ys ≤ n
write_room to n ys zs all e h = let l : length all ≡ length ys + length zs = ap length e ∙ length-append ys zs in omega arith

-- the next bytes written, the rest has room and gives the whole
pub write_turn : (to to2 : ℕ) (ys zs all out out2 : List ℕ) → all ≡ ys ++ zs → out2 ≡ splice to ys out → to2 ≡ to + length ys → length out2 ≡ length out
    → to + length all ≤ length out → (to2 + length zs ≤ length out2) × (splice to2 zs out2 ≡ splice to all out)
write_turn to to2 ys zs all out out2 e f g n h =
    let l : length all ≡ length ys + length zs = ap length e ∙ length-append ys zs in
    (omega arith, ap₂ (λ (k : ℕ) (o : List ℕ). splice k zs o) g f ∙ splice_append to ys zs out (omega arith) ∙ ap (λ (r : List ℕ). splice to r out) (sym e))

-- nothing is left to write
pub write_end : (to : ℕ) (zs all out out0 : List ℕ) → zs ≡ [] → splice to zs out ≡ splice 0 all out0 → out ≡ overwrite all out0
write_end to zs all out out0 e f = sym (splice-none to out) ∙ ap (λ (r : List ℕ). splice to r out) (sym e) ∙ f ∙ splice_front all out0

-- ---- states

-- the size of the record of a row
pub length_row : (states row : List ℕ) → state_size * row_state row + state_size ≤ length states → length (row_record states row) ≡ state_size
unfolding row_record
length_row states row h = go (row_plain row)
  where
    go : (b : Bool) → length (if b (part (state_size * row_state row) state_size states) (zeros state_size)) ≡ state_size
    go true = length_part (state_size * row_state row) state_size states h
    go false = refl

-- a row without leftovers, and one with some
pub row_copied : (states row : List ℕ) (p : Bool) (place to : ℕ) (out out2 : List ℕ) → p ≡ row_plain row → p ≡ true → place ≡ state_size * row_state row
    → out2 ≡ splice to (take (place + state_size - place) (drop place states)) out → out2 ≡ splice to (row_record states row) out
unfolding row_record part
row_copied states row p place to out out2 e f g h =
    let n : place + state_size - place ≡ state_size = omega arith in
    h ∙ ap₂ (λ (k d : ℕ). splice to (take k (drop d states)) out) n g ∙ (rw (← e, f))

pub row_blank : (states row : List ℕ) (p : Bool) (to : ℕ) (out out2 : List ℕ) → p ≡ row_plain row → p ≡ false → out2 ≡ splice to (zeros state_size) out
    → out2 ≡ splice to (row_record states row) out
unfolding row_record
row_blank states row p to out out2 e f h = h ∙ (rw (← e, f))

-- a row that is not marked, and one that is
pub state_skipped : (m to : ℕ) (states row out : List ℕ) → m ≢ 1
    → (out ≡ splice to (marked_state m states row) out) × (to ≡ to + length (marked_state m states row))
unfolding marked_state
state_skipped m to states row out h = rw (eqb_false m 1 h) (sym (splice-none to out), omega arith)

pub state-room : (m to n : ℕ) (states row : List ℕ) → m ≡ 1 → state_size * row_state row + state_size ≤ length states → to + length (marked_state m states row) ≤ n → to + state_size ≤ n
unfolding marked_state
state-room m to n states row e h k = let l = length_row states row h in let j = rw e at k in omega arith

pub state-put : (m to : ℕ) (states row out out2 : List ℕ) → m ≡ 1 → state_size * row_state row + state_size ≤ length states → out2 ≡ splice to (row_record states row) out
    → (out2 ≡ splice to (marked_state m states row) out) × (to + state_size ≡ to + length (marked_state m states row))
unfolding marked_state
state-put m to states row out out2 e h f = let l = length_row states row h in rw e (f, omega arith)

-- the first of several rows, and the others
pub kept_cons : (k at left rest : ℕ) (states ms w : List ℕ) → left ≡ suc rest → k < length ms
    → kept_states states (part k left ms) (rows at config_size left w)
    ≡ marked_state (get_or ms k 0) states (part at config_size w) ++ kept_states states (part (k + 1) rest ms) (rows (at + config_size) config_size rest w)
unfolding kept_states marked_state rows
kept_cons k at left rest states ms w s l =
    rw (s, part_suc k rest ms 0 l) (go (is_mark (get_or ms k 0)) (at_marks (bools (part (k + 1) rest ms)) (rows (at + config_size) config_size rest w)))
  where
    go : (b : Bool) (rs : List (List ℕ)) → write_all (row_record states) (if b (part at config_size w ∷ rs) rs)
        ≡ if b (row_record states (part at config_size w)) [] ++ write_all (row_record states) rs
    go true rs = refl
    go false rs = refl

pub kept_none : (k at left : ℕ) (states ms w : List ℕ) → left ≡ 0 → kept_states states (part k left ms) (rows at config_size left w) ≡ []
unfolding kept_states rows
kept_none k at left states ms w s = rw (s, part_zero k ms)

-- ---- arcs

-- the size of the record of an arc
pub length_arc : (ranks inputs : List ℕ) (e : EdgeRecord) → arc_size * e.arc + arc_size ≤ length inputs → length (arc_bytes ranks inputs e) ≡ arc_size
unfolding arc_bytes
length_arc ranks inputs e h = let l = length_part (arc_size * e.arc + content_place) content_size inputs (omega arith) in omega arith

-- a record written in two parts
pub arc_stored : (ranks inputs : List ℕ) (e : EdgeRecord) (to : ℕ) (out out1 out2 : List ℕ) → arc_size * e.arc + arc_size ≤ length inputs → to + arc_size ≤ length out
    → out1 ≡ splice to (to_le 2 (get_or ranks e.from.0 0) ++ to_le 2 (get_or ranks e.to.0 0)) out
    → out2 ≡ splice (to + content_place) (part (arc_size * e.arc + content_place) content_size inputs) out1 → out2 ≡ splice to (arc_bytes ranks inputs e) out
unfolding arc_bytes
arc_stored ranks inputs e to out out1 out2 h k a b =
    let x = to_le 2 (get_or ranks e.from.0 0) in
    let y = to_le 2 (get_or ranks e.to.0 0) in
    let z = part (arc_size * e.arc + content_place) content_size inputs in
    let l : length z ≡ content_size = length_part (arc_size * e.arc + content_place) content_size inputs (omega arith) in
    splice-behind to (to + content_place) (x ++ y) z out out1 out2 a b (omega arith) (omega arith)

module _ (marks ranks inputs : List ℕ) (e : EdgeRecord) (to : ℕ) (out : List ℕ) where
  -- an edge from a configuration that is not marked, to one that is not, and one between marked ones
  pub arc-from : get_or marks e.from.0 0 ≢ 1 → (out ≡ splice to (marked_arc marks ranks inputs e) out) × (0 ≡ bit (both_marks marks e)) × (0 < 2)
  unfolding marked_arc
  arc-from h = rw (eqb_false (get_or marks e.from.0 0) 1 h) (sym (splice-none to out), refl, omega arith)

  pub arc-to : get_or marks e.from.0 0 ≡ 1 → get_or marks e.to.0 0 ≢ 1
      → (out ≡ splice to (marked_arc marks ranks inputs e) out) × (0 ≡ bit (both_marks marks e)) × (0 < 2)
  unfolding marked_arc
  arc-to g h = rw (g, eqb_false (get_or marks e.to.0 0) 1 h) (sym (splice-none to out), refl, omega arith)

  pub arc-put : (out2 : List ℕ) → get_or marks e.from.0 0 ≡ 1 → get_or marks e.to.0 0 ≡ 1 → out2 ≡ splice to (arc_bytes ranks inputs e) out
      → (out2 ≡ splice to (marked_arc marks ranks inputs e) out) × (1 ≡ bit (both_marks marks e)) × (1 < 2)
  unfolding marked_arc
  arc-put out2 g h f = rw (g, h) (f, refl, omega arith)

  pub arc-room : (n : ℕ) → get_or marks e.from.0 0 ≡ 1 → get_or marks e.to.0 0 ≡ 1 → arc_size * e.arc + arc_size ≤ length inputs
      → to + length (marked_arc marks ranks inputs e) ≤ n → to + arc_size ≤ n
  unfolding marked_arc
  arc-room n g h l k = let m = length_arc ranks inputs e l in let j = rw (g, h) at k in omega arith

-- the bytes of an edge, by how many records they are
pub length_marked : (marks ranks inputs : List ℕ) (e : EdgeRecord) (to n : ℕ) → arc_size * e.arc + arc_size ≤ length inputs → n ≡ bit (both_marks marks e)
    → to + arc_size * n ≡ to + length (marked_arc marks ranks inputs e)
unfolding marked_arc
length_marked marks ranks inputs e to n h f = go (both_marks marks e) f
  where
    go : (b : Bool) → n ≡ bit b → to + arc_size * n ≡ to + length (if b (arc_bytes ranks inputs e) [])
    go true f = let l = length_arc ranks inputs e h in omega arith
    go false f = omega arith

-- the first of several edges, and the others
edges_cons : (from left rest : ℕ) (w : List ℕ) (e : EdgeRecord) → left ≡ suc rest → e ≡ edge_at from w → edges_at from left w ≡ e ∷ edges_at (from + step_size) rest w
unfolding edges_at
edges_cons from left rest w e s f = rw s (ap (λ (x : EdgeRecord). x ∷ edges_at (from + step_size) rest w) (sym f))

pub arcs_cons : (marks ranks inputs : List ℕ) (from left rest : ℕ) (w : List ℕ) (e : EdgeRecord) → left ≡ suc rest → e ≡ edge_at from w
    → kept_arcs marks ranks inputs (edges_at from left w) ≡ marked_arc marks ranks inputs e ++ kept_arcs marks ranks inputs (edges_at (from + step_size) rest w)
unfolding kept_arcs marked_arc
arcs_cons marks ranks inputs from left rest w e s f =
    ap (kept_arcs marks ranks inputs) (edges_cons from left rest w e s f) ∙ go (both_marks marks e) (filter (both_marks marks) (edges_at (from + step_size) rest w))
  where
    go : (b : Bool) (es : List EdgeRecord) → write_all (arc_bytes ranks inputs) (if b (e ∷ es) es) ≡ if b (arc_bytes ranks inputs e) [] ++ write_all (arc_bytes ranks inputs) es
    go true es = refl
    go false es = refl

pub arcs_none : (marks ranks inputs : List ℕ) (from left : ℕ) (w : List ℕ) → left ≡ 0 → kept_arcs marks ranks inputs (edges_at from left w) ≡ []
unfolding kept_arcs edges_at
arcs_none marks ranks inputs from left w s = rw s

-- how many they are
pub count_cons : (marks : List ℕ) (from left rest kept n all : ℕ) (w : List ℕ) (e : EdgeRecord) → left ≡ suc rest → e ≡ edge_at from w → n ≡ bit (both_marks marks e)
    → kept + length (filter (both_marks marks) (edges_at from left w)) ≡ all → kept + n + length (filter (both_marks marks) (edges_at (from + step_size) rest w)) ≡ all
count_cons marks from left rest kept n all w e s f g h =
    go (both_marks marks e) g (filter (both_marks marks) (edges_at (from + step_size) rest w))
    (ap (λ (es : List EdgeRecord). kept + length (filter (both_marks marks) es)) (sym (edges_cons from left rest w e s f)) ∙ h)
  where
    go : (b : Bool) → n ≡ bit b → (es : List EdgeRecord) → kept + length (if b (e ∷ es) es) ≡ all → kept + n + length es ≡ all
    go true g es h = omega arith
    go false g es h = omega arith

pub count_none : (marks : List ℕ) (from left kept all : ℕ) (w : List ℕ) → left ≡ 0 → kept + length (filter (both_marks marks) (edges_at from left w)) ≡ all → kept ≡ all
unfolding edges_at
count_none marks from left kept all w s h = let k = rw s at h in omega arith

-- the first edge's arc, and those of the others
pub arcs_turn : (n from left rest : ℕ) (w : List ℕ) (e : EdgeRecord) → left ≡ suc rest → e ≡ edge_at from w → ArcsWithin n (edges_at from left w)
    → (arc_size * e.arc + arc_size ≤ n) × ArcsWithin n (edges_at (from + step_size) rest w)
unfolding ArcsWithin edges_at
arcs_turn n from left rest w e s f j = let k = rw s at j in rw f k

-- the room for the states, and the whole of them
pub kept_room : (n m : ℕ) (states ms : List ℕ) (rs : List (List ℕ)) → length (kept_states states (take n ms) rs) ≤ m → 0 + length (kept_states states (part 0 n ms) rs) ≤ m
unfolding part
kept_room n m states ms rs h = omega arith

pub kept_written : (n k at left to : ℕ) (states ms w out out0 : List ℕ) → left ≡ 0
    → splice to (kept_states states (part k left ms) (rows at config_size left w)) out ≡ splice 0 (kept_states states (part 0 n ms) (rows 0 config_size n w)) out0
    → out ≡ overwrite (kept_states states (take n ms) (rows 0 config_size n w)) out0
unfolding part
kept_written n k at left to states ms w out out0 s e = write_end to _ _ out out0 (kept_none k at left states ms w s) e

-- the arcs, when all edges are looked at
pub arcs_written : (marks ranks inputs : List ℕ) (base arcs from left to kept : ℕ) (w out out0 : List ℕ) → left ≡ 0
    → splice to (kept_arcs marks ranks inputs (edges_at from left w)) out ≡ splice 0 (kept_arcs marks ranks inputs (edges_at base arcs w)) out0
    → kept + length (filter (both_marks marks) (edges_at from left w)) ≡ length (filter (both_marks marks) (edges_at base arcs w))
    → ArcsWritten marks ranks inputs (edges_at base arcs w) kept out out0
arcs_written marks ranks inputs base arcs from left to kept w out out0 s e f =
    record { bytes = write_end to _ _ out out0 (arcs_none marks ranks inputs from left w s) e; number = count_none marks from left kept _ w s f }

-- ---- a turn of each loop

module _ (k at left rest to : ℕ) (states ms w : List ℕ) (s : left ≡ suc rest) (l : k < length ms) where
  -- there is room for the next state
  pub states_room : (n : ℕ) → to + length (kept_states states (part k left ms) (rows at config_size left w)) ≤ n
      → to + length (marked_state (get_or ms k 0) states (part at config_size w)) ≤ n
  states_room n h =
      write_room to n (marked_state (get_or ms k 0) states (part at config_size w)) (kept_states states (part (k + 1) rest ms) (rows (at + config_size) config_size rest w)) _
      (kept_cons k at left rest states ms w s l) h

  -- the next state written, the rest has room and gives the whole
  pub states_turn : (to2 : ℕ) (out out2 : List ℕ) → out2 ≡ splice to (marked_state (get_or ms k 0) states (part at config_size w)) out
      → to2 ≡ to + length (marked_state (get_or ms k 0) states (part at config_size w)) → length out2 ≡ length out
      → to + length (kept_states states (part k left ms) (rows at config_size left w)) ≤ length out
      → (to2 + length (kept_states states (part (k + 1) rest ms) (rows (at + config_size) config_size rest w)) ≤ length out2)
      × (splice to2 (kept_states states (part (k + 1) rest ms) (rows (at + config_size) config_size rest w)) out2
      ≡ splice to (kept_states states (part k left ms) (rows at config_size left w)) out)
  states_turn to2 out out2 f g n h = write_turn to to2 _ _ _ out out2 (kept_cons k at left rest states ms w s l) f g n h

module _ (marks ranks inputs : List ℕ) (from left rest to : ℕ) (w : List ℕ) (e : EdgeRecord) (s : left ≡ suc rest) (f : e ≡ edge_at from w) where
  -- there is room for the next arc
  pub arcs_room : (n : ℕ) → to + length (kept_arcs marks ranks inputs (edges_at from left w)) ≤ n → to + length (marked_arc marks ranks inputs e) ≤ n
  arcs_room n h =
      write_room to n (marked_arc marks ranks inputs e) (kept_arcs marks ranks inputs (edges_at (from + step_size) rest w)) _
      (arcs_cons marks ranks inputs from left rest w e s f) h

  -- the next arc written, the rest has room and gives the whole
  pub arcs_onward : (n : ℕ) (out out2 : List ℕ) → arc_size * e.arc + arc_size ≤ length inputs → out2 ≡ splice to (marked_arc marks ranks inputs e) out
      → n ≡ bit (both_marks marks e) → length out2 ≡ length out → to + length (kept_arcs marks ranks inputs (edges_at from left w)) ≤ length out
      → (to + arc_size * n + length (kept_arcs marks ranks inputs (edges_at (from + step_size) rest w)) ≤ length out2)
      × (splice (to + arc_size * n) (kept_arcs marks ranks inputs (edges_at (from + step_size) rest w)) out2 ≡ splice to (kept_arcs marks ranks inputs (edges_at from left w)) out)
  arcs_onward n out out2 i g b m h =
      write_turn to (to + arc_size * n) _ _ _ out out2 (arcs_cons marks ranks inputs from left rest w e s f) g (length_marked marks ranks inputs e to n i b) m h
