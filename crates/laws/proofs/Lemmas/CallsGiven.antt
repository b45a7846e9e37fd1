-- Calls that gave a table: the tables that were lent and the one that is left stand in their bytes, and the operation
-- on them gave it.
use mathlib.Core.Path.{◌≡◌}
use mathlib.Core.Bool.{false}
use mathlib.Core.List.Memᴰ
use mathlib.Core.List.{List, map}
use Prim.Native.Nat.{ℕ, suc, ◌≤◌}
use native.Mathlib.Omega.{arith}
use lib.Dec.{T, eqb, leb, leb→le}
use Rattle.automata.specs.Lists.{all}
use Rattle.automata.specs.Answer.{ok}
use Rattle.automata.specs.Space.{Space}
use Rattle.automata.specs.OrderedSum.{ℕ_sum}
use Rattle.automata.specs.Automaton.{Automaton, Formed}
use Rattle.automata.specs.Table.{weight_fits}
use Rattle.automata.specs.TapePair.{Pair, TapePair, tapes_of}
use Rattle.automata.specs.Tapes.{seconds}
use Rattle.automata.specs.Memory.{Memory, Sound, decode_table, table_of}
use Rattle.automata.specs.IntersectCall.{named, intersect_on}
use Rattle.automata.specs.Union.{union}
use Rattle.automata.specs.Projection.{is_tape, project, drop_tapes}
use Rattle.automata.specs.Join.{join}
use Rattle.automata.specs.Calls.Outcome.{Slices, space_of, build, conclude, given}
use Rattle.automata.specs.Calls.Read.{read_answer, read_outcome}
use Rattle.automata.specs.Calls.Intersect.{intersect_answer, intersect_outcome}
use Rattle.automata.specs.Calls.Product.{product_answer, product_outcome}
use Rattle.automata.specs.Calls.Join.{lent_to, join_answer, join_outcome}
use Rattle.automata.specs.Calls.Union.{union_answer, union_outcome}
use Rattle.automata.specs.Calls.Project.{project_answer, project_outcome}
use Rattle.automata.specs.Calls.Drop.{in_mask, drop_answer, drop_outcome}
use Rattle.laws.specs.CallLaws.{JoinLent, join_made}
use Rattle.automata.proofs.ListFacts
use Rattle.automata.proofs.TestFacts.{and_T, all_∈, eqb_false}
use Rattle.automata.proofs.SoundFacts.{table_of_is, sound, sound_decoded}
use Rattle.automata.proofs.MemoryFacts.{decode_only}
use Rattle.laws.proofs.Results.{memory_formed, kept_on}
use Rattle.laws.proofs.Lemmas.CallTables.{
  gave_table,
  read_fits,
  intersect_parts,
  intersect_fits,
  product_parts,
  product_fits,
  join_parts,
  join_fits,
  union_parts,
  union_fits,
  project_parts,
  project_fits,
  drop_parts,
  drop_fits,
}

-- a table that was judged good
pub record Judged (m : Memory) : Type 0 where
  pub there : Sound m
  pub formed : Formed (table_of m)
  pub few : (table_of m).tapes ≤ 8

judged : (m : Memory) (A : Automaton ℕ) → decode_table m ≡ ok A → Judged m
judged m A e =
    let s = sound m A e in
    let d = sound_decoded m s in
    record { there = s; formed = memory_formed m (table_of m) d; few = (decode_only m (table_of m) d).0.counts.tapes_fit }

-- reading
pub read_given : (x : List ℕ) (s : Slices) (r : Memory) → given (read_outcome x s) ≡ ok r → Judged r
unfolding read_outcome
read_given x s r e = let (d, _, _) = gave_table (read_answer x (space_of s)) s r (read_fits x (space_of s)) e in judged r (table_of r) d

-- the auto-intersection
pub record KeptCall (m r : Memory) (ps : List TapePair) (space : Space) : Type 0 where
  pub source : Judged m
  pub result : Judged r
  pub tapes : T (all (is_tape (table_of m).tapes) (named (tapes_of ps)))
  pub gave : intersect_on space ps (table_of m) ≡ ok (table_of r)

pub kept_call : (m : Memory) (ps : List TapePair) (s : Slices) (work : List ℕ) (r : Memory)
    → given (intersect_outcome m ps s work).made ≡ ok r → KeptCall m r ps (space_of s)
unfolding intersect_outcome build
kept_call m ps s work r e =
    let (d, q, _) = gave_table (intersect_answer m ps (space_of s) work) s r (intersect_fits m ps (space_of s) work) e in
    let (A, a, g) = intersect_parts m ps (space_of s) work (table_of r) q in
    let (t, k) = kept_on _ (space_of s) ps A (table_of r) g in
    record { source = judged m A a; result = judged r (table_of r) d; tapes = rw (table_of_is m A a) t; gave = rw (table_of_is m A a) k }

-- the product
pub product-given : (a b : Memory) (s : Slices) (work : List ℕ) (r : Memory) → given (product_outcome a b s work).made ≡ ok r → Judged a × Judged b × Judged r
unfolding product_outcome build
product-given a b s work r e =
    let (d, q, _) = gave_table (product_answer a b (space_of s) work) s r (product_fits a b (space_of s) work) e in
    let (A, B, x, y, _) = product_parts a b (space_of s) work (table_of r) q in
    (judged a A x, judged b B y, judged r (table_of r) d)

-- the join
pub record JoinedCall (l : JoinLent) (ps : List TapePair) (a b j : Memory) : Type 0 where
  pub first : Judged a
  pub second : Judged b
  pub result : Judged j
  pub gave : join ℕ_sum weight_fits (lent_to (space_of l.product) (space_of l.result) l.work) ps (table_of a) (table_of b) ≡ ok (table_of j)

pub joined_call : (l : JoinLent) (ps : List TapePair) (a b j : Memory) → given (join_made l ps a b) ≡ ok j → JoinedCall l ps a b j
unfolding join_outcome conclude
joined_call l ps a b j e =
    let p = space_of l.product in
    let s = space_of l.result in
    let (d, q, _) = gave_table (join_answer a b ps p s l.work) l.result j (join_fits a b ps p s l.work) e in
    let (A, B, x, y, g) = join_parts a b ps p s l.work (table_of j) q in
    record { first = judged a A x; second = judged b B y; result = judged j (table_of j) d; gave = rw (table_of_is a A x, table_of_is b B y) g }

-- the union
pub record UnitedCall (a b u : Memory) (space : Space) : Type 0 where
  pub first : Judged a
  pub second : Judged b
  pub result : Judged u
  pub gave : union space (table_of a) (table_of b) ≡ ok (table_of u)

pub united_call : (a b : Memory) (s : Slices) (u : Memory) → given (union_outcome a b s) ≡ ok u → UnitedCall a b u (space_of s)
unfolding union_outcome
united_call a b s u e =
    let (d, q, _) = gave_table (union_answer a b (space_of s)) s u (union_fits a b (space_of s)) e in
    let (A, B, x, y, g) = union_parts a b (space_of s) (table_of u) q in
    record { first = judged a A x; second = judged b B y; result = judged u (table_of u) d; gave = rw (table_of_is a A x, table_of_is b B y) g }

-- choosing
pub record ChosenCall (m : Memory) (js : List ℕ) (r : Memory) (space : Space) : Type 0 where
  pub source : Judged m
  pub result : Judged r
  pub gave : project space js (table_of m) ≡ ok (table_of r)

pub chosen_call : (m : Memory) (js : List ℕ) (s : Slices) (r : Memory) → given (project_outcome m js s) ≡ ok r → ChosenCall m js r (space_of s)
unfolding project_outcome
chosen_call m js s r e =
    let (d, q, _) = gave_table (project_answer m js (space_of s)) s r (project_fits m js (space_of s)) e in
    let (A, a, g) = project_parts m js (space_of s) (table_of r) q in
    record { source = judged m A a; result = judged r (table_of r) d; gave = rw (table_of_is m A a) g }

-- dropping
pub record DroppedCall (m : Memory) (mask : ℕ) (r : Memory) (space : Space) : Type 0 where
  pub source : Judged m
  pub result : Judged r
  pub gave : drop_tapes space (in_mask mask) (table_of m) ≡ ok (table_of r)

pub dropped_call : (m : Memory) (mask : ℕ) (s : Slices) (r : Memory) → given (drop_outcome m mask s) ≡ ok r → DroppedCall m mask r (space_of s)
unfolding drop_outcome
dropped_call m mask s r e =
    let (d, q, _) = gave_table (drop_answer m mask (space_of s)) s r (drop_fits m mask (space_of s)) e in
    let (A, a, g) = drop_parts m mask (space_of s) (table_of r) q in
    record { source = judged m A a; result = judged r (table_of r) d; gave = rw (table_of_is m A a) g }

-- of at most eight tapes, so that the second ones are marked in a byte
pub no_second : (n : ℕ) (ps : List Pair) → n ≤ 8 → T (all (is_tape n) (named ps)) → (k : ℕ) → 8 ≤ k → seconds ps k ≡ false
no_second n ps h t k l = ListFacts.any_of_none (λ p. eqb p.second (suc k)) ps (λ p m.
    let i = Memᴰ.append_right (map (λ (p : Pair). p.first) ps) (ListFacts.map_keeps (λ (p : Pair). p.second) ps m) in
    let (_, u) = and_T (leb 1 p.second) (leb p.second n) (all_∈ (is_tape n) (named ps) p.second t i) in
    let b = leb→le p.second n u in
    eqb_false p.second (suc k) (λ e. absurd (omega arith)))
