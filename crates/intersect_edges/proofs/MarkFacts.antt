-- Marks as bytes: what a round in place does to them, and that the rounds give the marks of the definition.
use Prim.Native.Nat.{ℕ, zero, suc, ◌+◌, ◌-◌, ◌*◌, ◌<◌, ◌≤◌}
use mathlib.Core.Path.{◌≡◌, refl, sym, ap, ap₂, subst, ◌∙◌}
use mathlib.Core.Logic.{◌≢◌}
use mathlib.Core.Bool.{Bool, true, false, false≢true}
use mathlib.Core.List.{List, [], ◌∷◌, ◌++◌, map}
use native.Mathlib.Omega.{arith}
use lib.ListN.{length, get_or, take, drop, set, length-map, take-append-drop, get_or-map}
use lib.Seq.{set-get_or, take-set-lt, drop-set-lt, get_or-take, length-take-le}
use Rattle.automata.specs.Lists.{if, or}
use Rattle.automata.specs.Graph.{Within}
use Rattle.automata.specs.Rounds.{visit, iterate}
use Rattle.automata.specs.InPlace.{sweep_in_place, Becomes}
use Rattle.automata.specs.Marks.{mark, coaccessible}
use Rattle.automata.proofs.RoundFacts.{iterate_inner, iterate-still}
use Rattle.automata.proofs.TestFacts.{eqb_false}
use Rattle.automata.proofs.WellFormedFacts.{all-place}
use Rattle.automata.proofs.InPlaceMarks.{marked_in_place, in_place-coaccessible}
use Rattle.automata.specs.Layout.{step_size}
use Rattle.intersect_edges.specs.declared.edge.EdgeRecord.{EdgeRecord}
use Rattle.intersect_edges.specs.Edges.{edge_at, edges_at, record_graph, Joins, Joined}
use Rattle.intersect_edges.specs.Marked.{bit, is_mark, bits, bools, Bits, mark_byte, visited_marks, swept_marks, round_bytes}

-- ---- marks and bytes

-- what was a mark is one again
pub bools-bits : (bs : List Bool) → bools (bits bs) ≡ bs
bools-bits [] = refl
bools-bits (true ∷ bs) = ap (λ (r : List Bool). true ∷ r) (bools-bits bs)
bools-bits (false ∷ bs) = ap (λ (r : List Bool). false ∷ r) (bools-bits bs)

-- bytes 0 and 1 are marks
pub bits-bools : (ms : List ℕ) → Bits ms → bits (bools ms) ≡ ms
unfolding Bits
bits-bools [] h = refl
bits-bools (m ∷ ms) h = ap₂ (λ (x : ℕ) (r : List ℕ). x ∷ r) (one m (h zero)) (bits-bools ms (λ i. h (suc i)))
  where
    one : (m : ℕ) → m < 2 → bit (is_mark m) ≡ m
    one zero l = refl
    one (suc zero) l = refl
    one (suc (suc m)) l = absurd (omega arith)

-- what a byte says
pub mark_at_lem : (ms : List ℕ) (i : ℕ) → get_or (bools ms) i false ≡ is_mark (get_or ms i 0)
mark_at_lem ms i = get_or-map is_mark ms i 0

-- ---- edges

-- the first edge's ends, and those of the others
pub joined_turn : (n from left rest : ℕ) (w : List ℕ) (e : EdgeRecord) → left ≡ suc rest → e ≡ edge_at from w → Joined n (edges_at from left w)
    → ((e.from.0 < n) × (e.to.0 < n)) × Joined n (edges_at (from + step_size) rest w)
unfolding Joined edges_at
joined_turn n from left rest w e s f j = let k = rw s at j in rw f k

-- one of the edges
pub joined_at : (n at left k from : ℕ) (w : List ℕ) (e : EdgeRecord) → Joined n (edges_at at left w) → k < left → from ≡ at + step_size * k → e ≡ edge_at from w
    → (e.from.0 < n) × (e.to.0 < n)
unfolding Joined edges_at
joined_at n at zero k from w e j l f g = absurd (omega arith)
joined_at n at (suc left) zero from w e j l f g = let z : from ≡ at = omega arith in rw (g, z) j.0
joined_at n at (suc left) (suc k) from w e j l f g = joined_at n (at + step_size) left k from w e j.1 (omega arith) (omega arith) g

-- the edges join vertices of their graph
joined-within : (n : ℕ) (es : List EdgeRecord) → Joined n es → Within (record_graph es) n
unfolding Joined
joined-within n es j = all-place (Joins n) es j

-- an edge whose target is not marked, one whose source is marked already, and one that marks its source
pub visit_unmarked : (e : EdgeRecord) (ms : List ℕ) → get_or ms e.to.0 0 ≢ 1 → Becomes (visited_marks e ms) true ms ms
unfolding visited_marks
visit_unmarked e ms h = record { is = rw (eqb_false (get_or ms e.to.0 0) 1 h, set-get_or ms e.from.0 0); still = λ t. refl }

pub visit-marked : (e : EdgeRecord) (ms : List ℕ) → get_or ms e.to.0 0 ≡ 1 → get_or ms e.from.0 0 ≡ 1 → Becomes (visited_marks e ms) true ms ms
unfolding visited_marks
visit-marked e ms h k = record { is = rw h (sym (set-get_or ms e.from.0 0) ∙ ap (set ms e.from.0) k); still = λ t. refl }

pub visit_marks : (e : EdgeRecord) (ms : List ℕ) → get_or ms e.to.0 0 ≡ 1 → Becomes (visited_marks e ms) false (set ms e.from.0 1) ms
unfolding visited_marks
visit_marks e ms h = record { is = rw h; still = λ t. absurd (false≢true t) }

-- ---- a round

-- a round that has left edges before it: those behind are done, and nothing changed where same is told
pub record Sweeping (base arcs : ℕ) (w v ms : List ℕ) (left : ℕ) (same : Bool) : Type 0 where
  pub is : ms ≡ swept_marks (edges_at (base + step_size * left) (arcs - left) w) v
  pub still : same ≡ true → ms ≡ v

pub sweep-start : (base arcs : ℕ) (w v : List ℕ) → Sweeping base arcs w v v arcs true
unfolding swept_marks edges_at
sweep-start base arcs w v = let z : arcs - arcs ≡ 0 = omega arith in record { is = rw z; still = λ h. refl }

swept-more : (at k : ℕ) (w v : List ℕ) → visited_marks (edge_at at w) (swept_marks (edges_at (at + step_size) k w) v) ≡ swept_marks (edges_at at (suc k) w) v
unfolding swept_marks visited_marks edges_at
swept-more at k w v = refl

module _ (base arcs : ℕ) (w v ms : List ℕ) (left : ℕ) (same : Bool) (s : Sweeping base arcs w v ms left same) where
  -- one edge more
  pub sweep_turn : (ms2 : List ℕ) (kept same2 : Bool) → 0 < left → left ≤ arcs → Becomes (visited_marks (edge_at (base + step_size * (left - 1)) w) ms) kept ms2 ms
      → (same2 ≡ true → (same ≡ true) × (kept ≡ true)) → Sweeping base arcs w v ms2 (left - 1) same2
  sweep_turn ms2 kept same2 l m b h =
      let at = base + step_size * (left - 1) in
      let z : suc (arcs - left) ≡ arcs - (left - 1) = omega arith in
      let y : base + step_size * left ≡ at + step_size = omega arith in
      record {
        is = b.is ∙ ap (visited_marks (edge_at at w)) (s.is ∙ ap (λ (k : ℕ). swept_marks (edges_at k (arcs - left) w) v) y) ∙ swept-more at (arcs - left) w v
            ∙ ap (λ (k : ℕ). swept_marks (edges_at at k w) v) z;
        still = λ t. b.still (h t).1 ∙ s.still (h t).0;
      }

  -- no edge more
  pub sweep_end : left ≡ 0 → Becomes (swept_marks (edges_at base arcs w) v) same ms v
  sweep_end l =
      let z : arcs - left ≡ arcs = omega arith in
      let y : base + step_size * left ≡ base = omega arith in
      record { is = rw (z, y) at s.is; still = s.still }

-- what is behind the marks is not looked at and not changed
take_swept : (n : ℕ) (es : List EdgeRecord) (ms : List ℕ) → Joined n es → take n (swept_marks es ms) ≡ swept_marks es (take n ms)
unfolding swept_marks Joined
take_swept n [] ms j = refl
take_swept n (e ∷ es) ms j =
    let rs = swept_marks es ms in
    take-set-lt n rs e.from.0 _ j.0.0
    ∙ ap₂ (λ (o x : ℕ). set (take n rs) e.from.0 (if (is_mark o) 1 x)) (sym (get_or-take n rs e.to.0 0 j.0.1)) (sym (get_or-take n rs e.from.0 0 j.0.0))
    ∙ ap (λ (r : List ℕ). visit (record_graph []) 0 mark_byte r r e) (take_swept n es ms j.1)

drop_swept : (n : ℕ) (es : List EdgeRecord) (ms : List ℕ) → Joined n es → drop n (swept_marks es ms) ≡ drop n ms
unfolding swept_marks Joined
drop_swept n [] ms j = refl
drop_swept n (e ∷ es) ms j = drop-set-lt n (swept_marks es ms) e.from.0 _ j.0.0 ∙ drop_swept n es ms j.1

-- the graph in which the edges are visited does not matter
swept-graph : (gs es : List EdgeRecord) (ms : List ℕ) → swept_marks es ms ≡ sweep_in_place (record_graph gs) 0 mark_byte ms es
unfolding swept_marks
swept-graph gs [] ms = refl
swept-graph gs (e ∷ es) ms = ap (λ (r : List ℕ). visit (record_graph gs) 0 mark_byte r r e) (swept-graph gs es ms)

-- the first n bytes after a round
round-first : (es : List EdgeRecord) (n : ℕ) (same : Bool) (w v : List ℕ) → Joined n es → Becomes (swept_marks es v) same w v → take n w ≡ round_bytes es (take n v)
round-first es n same w v j s = ap (take n) s.is ∙ take_swept n es v j ∙ swept-graph es es (take n v)

-- ---- the rounds

-- the first n bytes after k rounds
abbrev pub rounds_bytes : List EdgeRecord → ℕ → List ℕ → List ℕ
rounds_bytes es k ms = iterate k (round_bytes es) ms

-- a turn of the rounds, of which there were left
pub rounds_turn : (es : List EdgeRecord) (n left rest : ℕ) (same : Bool) (w u v : List ℕ) → left ≡ suc rest → Joined n es → Becomes (swept_marks es u) same w u
    → drop n u ≡ drop n v → rounds_bytes es left (take n u) ≡ rounds_bytes es n (take n v)
    → (drop n w ≡ drop n v) × (rounds_bytes es rest (take n w) ≡ rounds_bytes es n (take n v))
rounds_turn es n left rest same w u v s j r d e = (
  ap (drop n) r.is ∙ drop_swept n es u j ∙ d,
  ap (rounds_bytes es rest) (round-first es n same w u j r) ∙ sym (iterate_inner rest (round_bytes es) (take n u)) ∙ ap (λ (k : ℕ). rounds_bytes es k (take n u)) (sym s) ∙ e,
)

map_set : {A B : Type 0} (f : A → B) (xs : List A) (i : ℕ) (x : A) → map f (set xs i x) ≡ set (map f xs) i (f x)
map_set f [] i x = refl
map_set f (y ∷ xs) zero x = refl
map_set f (y ∷ xs) (suc i) x = ap (λ r. f y ∷ r) (map_set f xs i x)

-- a round on bytes is the round on marks
sweep-bits : (gs es : List EdgeRecord) (bs : List Bool)
    → sweep_in_place (record_graph gs) 0 mark_byte (bits bs) es ≡ bits (sweep_in_place (record_graph gs) false (mark (record_graph gs)) bs es)
sweep-bits gs [] bs = refl
sweep-bits gs (e ∷ es) bs =
    let cs = sweep_in_place (record_graph gs) false (mark (record_graph gs)) bs es in
    ap (λ (r : List ℕ). visit (record_graph gs) 0 mark_byte r r e) (sweep-bits gs es bs)
    ∙ ap₂ (λ (o x : ℕ). set (bits cs) e.from.0 (if (is_mark o) 1 x)) (get_or-map bit cs e.to.0 false) (get_or-map bit cs e.from.0 false)
    ∙ ap (set (bits cs) e.from.0) (one (get_or cs e.to.0 false) (get_or cs e.from.0 false))
    ∙ sym (map_set bit cs e.from.0 (or (get_or cs e.from.0 false) (get_or cs e.to.0 false)))
  where
    one : (o x : Bool) → if (is_mark (bit o)) 1 (bit x) ≡ bit (or x o)
    one true true = refl
    one true false = refl
    one false true = refl
    one false false = refl

rounds_bits : (es : List EdgeRecord) (k : ℕ) (bs : List Bool) → rounds_bytes es k (bits bs) ≡ bits (marked_in_place (record_graph es) bs k)
rounds_bits es zero bs = refl
rounds_bits es (suc k) bs = ap (round_bytes es) (rounds_bits es k bs) ∙ sweep-bits es es (marked_in_place (record_graph es) bs k)

-- what all rounds give
all_rounds : (es : List EdgeRecord) (n : ℕ) (v : List ℕ) → Joined n es → n ≤ length v → Bits (take n v)
    → rounds_bytes es n (take n v) ≡ bits (coaccessible (record_graph es) (bools (take n v)))
all_rounds es n v j l b =
    let m : length (bools (take n v)) ≡ n = length-map (take n v) is_mark ∙ length-take-le n v l in
    ap (rounds_bytes es n) (sym (bits-bools (take n v) b)) ∙ rounds_bits es n (bools (take n v))
    ∙ ap (λ (k : ℕ). bits (marked_in_place (record_graph es) (bools (take n v)) k)) (sym m)
    ∙ ap bits (in_place-coaccessible (record_graph es) (bools (take n v)) (subst (Within (record_graph es)) (sym m) (joined-within n es j)))

-- The marks when the last round is done, ...
pub rounds_end : (es : List EdgeRecord) (n left : ℕ) (w v : List ℕ) → left ≡ 0 → Joined n es → n ≤ length v → Bits (take n v) → drop n w ≡ drop n v
    → rounds_bytes es left (take n w) ≡ rounds_bytes es n (take n v) → w ≡ bits (coaccessible (record_graph es) (bools (take n v))) ++ drop n v
rounds_end es n left w v s j l b d e =
    sym (take-append-drop n w) ∙ ap₂ (λ (x y : List ℕ). x ++ y) (ap (λ (k : ℕ). rounds_bytes es k (take n w)) (sym s) ∙ e ∙ all_rounds es n v j l b) d

-- ... and when a round changes nothing.
pub rounds_still : (es : List EdgeRecord) (n left : ℕ) (same : Bool) (w u v : List ℕ) → same ≡ true → Joined n es → Becomes (swept_marks es u) same w u → n ≤ length v
    → Bits (take n v) → drop n u ≡ drop n v → rounds_bytes es left (take n u) ≡ rounds_bytes es n (take n v)
    → w ≡ bits (coaccessible (record_graph es) (bools (take n v))) ++ drop n v
rounds_still es n left same w u v s j r l b d e =
    let q : w ≡ u = r.still s in
    let f : round_bytes es (take n u) ≡ take n u = sym (round-first es n same w u j r) ∙ ap (take n) q in
    rounds_end es n 0 w v refl j l b (ap (drop n) q ∙ d) (ap (take n) q ∙ sym (iterate-still left (round_bytes es) (take n u) f) ∙ e)

-- the mark that a byte says
pub bit-one : (b : ℕ) → b ≡ 1 → 1 ≡ bit (is_mark b)
bit-one b e = rw e

pub bit-none : (b : ℕ) → b ≢ 1 → 0 ≡ bit (is_mark b)
bit-none b e = rw (eqb_false b 1 e)
