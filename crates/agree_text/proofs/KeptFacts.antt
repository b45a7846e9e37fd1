-- Reading, keeping and printing one after the other on bytes, in whatever slices of the program's size.
use mathlib.Core.Path.{◌≡◌, refl, sym, ap, ap₂, subst, ◌∙◌}
use mathlib.Core.Bool.{true}
use mathlib.Core.List.{List}
use Prim.Native.Nat.{ℕ, ◌-◌, ◌*◌, ◌/◌, ◌≤◌}
use native.Mathlib.Omega.{arith}
use lib.ListN.{length, take, drop, replicate, length-drop, length-replicate}
use lib.Seq.{take_all}
use borrow.Author.Tests.{le-leb}
use Rattle.automata.specs.Answer.{◌>>=◌, Answer, ok, refused}
use Rattle.automata.specs.Automaton.{Automaton, size}
use Rattle.automata.specs.TapePair.{TapePair}
use Rattle.automata.specs.Space.{Space}
use Rattle.automata.specs.Memory.{Memory, decode_table}
use Rattle.automata.specs.Layout.{state_size, arc_size}
use Rattle.automata.specs.TableText.{read_table}
use Rattle.automata.specs.IntersectCall.{intersect_call}
use Rattle.automata.specs.AgreeText.{Input, state_space, arc_space, read_pairs, read_input, write_output}
use Rattle.automata.specs.Agree.{agree}
use Rattle.automata.specs.Calls.Outcome.{Slices, space_of, Built, slices_of, made_of, built_of, put, build, given, held}
use Rattle.automata.specs.Calls.Work.{build_work, enough}
use Rattle.automata.specs.Calls.Read.{read_answer, read_outcome}
use Rattle.automata.specs.Calls.Intersect.{intersect_outcome}
use Rattle.automata.proofs.AnswerFacts.{bind-bind, bind_ok, refused≢ok, ok_injective}
use Rattle.automata.proofs.MemoryFacts.{decode_only}
use Rattle.automata.proofs.SoundFacts.{sound, sound_states_lent}
use Rattle.automata.proofs.TextFacts.{read_only}
use Rattle.automata.proofs.CallSteps.{intersect-table-refused, intersect_judged}
use Rattle.laws.proofs.Results
use Rattle.laws.proofs.AgreeCalls.{held_answer}
use Rattle.table.specs.declared.answer.Refusal.{Refusal}
use Rattle.table.specs.Answers.{TableAnswer}
use Rattle.table.specs.declared.answer.Counts.{Counts}
use Rattle.table.specs.Answers.{refusal_number, table_as, lent}
use Rattle.pairs.specs.PairBytes.{pairs_of}
use Rattle.agree_line.specs.declared.line.LineParts.{LineParts}
use Rattle.agree_line.specs.LineParts.{PairLine}
use Rattle.std.specs.Prelude.{Ok, Err}
use Rattle.agree_line.specs.PairBytes.{pair_bytes}
use Rattle.agree_text.specs.FirstLine.{line_as, line_bytes, count_of, next_of, FirstLine}
use Rattle.agree_text.specs.Wrote.{Wrote}
use Rattle.agree_text.specs.Kept.{arcs_lent, room, kept_of, kept_text, states_lent, work_lent}
use Rattle.agree_text.proofs.FirstFacts.{to_bytes}
use Rattle.agree_text.proofs.CutFacts.{cut_harmless}

-- ---- keeping

module _ (m : Memory) (hs : length m.state_bytes ≤ states_lent) (ps : List TapePair) (s : Slices) (work : List ℕ)
    (room-is : space_of s ≡ room) (hw : work_lent ≤ length work) where
  -- what the slices hold after the call is what is kept
  kept_held : (a : Answer (Automaton ℕ)) → decode_table m ≡ a → held (intersect_outcome m ps s work).made ≡ (a >>= λ A. intersect_call true room ps A)
  unfolding build build_work held given put
  kept_held (refused n) e = ap (λ (o : Built). held o.made) (intersect-table-refused m n e ps s work)
  kept_held (ok A) e =
      let d = decode_only m A e in
      let few : size A ≤ state_space = omega (arith, sound_states_lent m (sound m A e), d.1.states, hs) in
      let passes : enough (build_work room (size A)) work ≡ true = le-leb (build_work room (size A)) (length work) (omega arith) in
      ap (λ (o : Built). held o.made) (intersect_judged m A e ps s work)
      ∙ held_answer (intersect_call (enough (build_work (space_of s) (size A)) work) (space_of s) ps A) s (λ R g. (Results.called _ (space_of s) ps A R d.0 g).well_formed)
      ∙ ap (λ z. intersect_call (enough (build_work z (size A)) work) z ps A) room-is
      ∙ ap (λ b. intersect_call b room ps A) passes

  kept_is : held (intersect_outcome m ps s work).made ≡ kept_of m ps
  unfolding kept_of
  kept_is = kept_held (decode_table m) refl

  module _ (r : TableAnswer) (states arcs w : List ℕ) (q : built_of (table_as r) states arcs w ≡ intersect_outcome m ps s work) where
    -- a refusal is what is kept
    pub kept_refused : (k : Refusal) → r ≡ Err k → refused (refusal_number k) ≡ kept_of m ps
    unfolding held given
    kept_refused k f = ap (λ (z : TableAnswer). held (made_of (table_as z) states arcs)) (sym f) ∙ ap (λ (o : Built). held o.made) q ∙ kept_is

    -- the table in the slices is what is kept
    pub kept_table : (c : Counts) → r ≡ Ok c → decode_table (lent c states arcs) ≡ kept_of m ps
    unfolding held given
    kept_table c f = ap (λ (z : TableAnswer). held (made_of (table_as z) states arcs)) (sym f) ∙ ap (λ (o : Built). held o.made) q ∙ kept_is

-- ---- reading

module _ (text : List ℕ) (s : Slices) (room-is : space_of s ≡ room) where
  read_held : held (read_outcome text s) ≡ read_table state_space arc_space text
  unfolding read_outcome read_answer
  read_held = held_answer (read_table (space_of s).states (space_of s).arcs text) s (λ A e. (Results.read (space_of s) text A e).well_formed)
      ∙ ap (λ z. read_table z.states z.arcs text) room-is

  module _ (r : TableAnswer) (states arcs : List ℕ) (q : made_of (table_as r) states arcs ≡ read_outcome text s) (ps : List TapePair) where
    -- a text that is refused
    pub text-refused : (k : Refusal) → r ≡ Err k → refused (refusal_number k) ≡ kept_text text ps
    unfolding held given kept_text
    text-refused k f = ap (λ (a : Answer (Automaton ℕ)). a >>= λ A. intersect_call true room ps A)
        (ap (λ (z : TableAnswer). held (made_of (table_as z) states arcs)) (sym f) ∙ ap held q ∙ read_held)

    -- what is kept of the table in the slices is what is kept of the text
    pub text-table : (c : Counts) → r ≡ Ok c → kept_of (lent c states arcs) ps ≡ kept_text text ps
    unfolding held given kept_text kept_of
    text-table c f = ap (λ (a : Answer (Automaton ℕ)). a >>= λ A. intersect_call true room ps A)
        (ap (λ (z : TableAnswer). held (made_of (table_as z) states arcs)) (sym f) ∙ ap held q ∙ read_held)

-- ---- the whole program

abbrev input_of : List TapePair × List ℕ → Automaton ℕ → Input
input_of p t = record { pairs = p.0; table = t }

abbrev keep : Input → Answer (Automaton ℕ)
keep i = intersect_call true room i.pairs i.table

-- the first line, then what is kept of the table behind it
agree_is : (x : List ℕ) → agree x ≡ write_output (read_pairs x >>= λ p. kept_text p.1 p.0)
unfolding agree read_input kept_text
agree_is x = ap write_output (go (read_pairs x))
  where
    go : (r : Answer (List TapePair × List ℕ))
        → (r >>= (λ p. read_table state_space arc_space p.1 >>= λ t. ok (input_of p t)) >>= keep)
        ≡ (r >>= λ p. read_table state_space arc_space p.1 >>= λ A. intersect_call true room p.0 A)
    go (ok p) = bind-bind (read_table state_space arc_space p.1) (λ t. ok (input_of p t)) keep
    go (refused n) = refl

-- the bytes of pairs do as well as the pairs
kept_cut : (text : List ℕ) (ps : List TapePair) → kept_text text (pairs_of (pair_bytes ps)) ≡ kept_text text ps
unfolding kept_text
kept_cut text ps = go (read_table state_space arc_space text) refl
  where
    go : (a : Answer (Automaton ℕ)) → read_table state_space arc_space text ≡ a
        → (a >>= λ A. intersect_call true room (pairs_of (pair_bytes ps)) A) ≡ (a >>= λ A. intersect_call true room ps A)
    go (ok A) e = cut_harmless true room ps A (read_only state_space arc_space text A e).0.counts.tapes_fit
    go (refused n) e = refl

module _ (x bytes : List ℕ) (r : PairLine) (t : FirstLine x bytes r) where
  -- a first line that is refused decides
  pub agree-refused : (k : Refusal) → r ≡ Err k → write_output (refused (refusal_number k)) ≡ agree x
  unfolding line_bytes
  agree-refused k f = sym (agree_is x ∙ ap write_output (go (read_pairs x) (ap (line_as x bytes) (sym f) ∙ t.answer)))
    where
      go : (a : Answer (List TapePair × List ℕ)) → refused (refusal_number k) ≡ (a >>= λ p. ok (to_bytes p))
          → (a >>= λ p. kept_text p.1 p.0) ≡ refused (refusal_number k)
      go (ok p) e = absurd (refused≢ok e)
      go (refused n) e = let i : n ≡ refusal_number k = cc in ap refused i

  -- behind a first line that is told, what is kept of the rest decides
  pub agree-line : (p : LineParts) → r ≡ Ok p → write_output (kept_text (take (length x - p.next) (drop p.next x)) (pairs_of (take (3 * p.count) bytes))) ≡ agree x
  unfolding line_bytes
  agree-line p f =
      let w : List ℕ × List ℕ = (take (3 * p.count) bytes, drop p.next x) in
      let b = bind_ok (read_pairs x) (λ q. ok (to_bytes q)) w (sym (ap (line_as x bytes) (sym f) ∙ t.answer)) in
      let q = b.0 in
      let z : to_bytes q ≡ w = ok_injective (to_bytes q) w b.2 in
      let e : take (length x - p.next) (drop p.next x) ≡ drop p.next x = take_all (length x - p.next) (drop p.next x) (simp length-drop (omega arith)) in
      ap write_output (ap (λ (i : List ℕ). kept_text i (pairs_of (take (3 * p.count) bytes))) e ∙ ap (λ (i : List ℕ × List ℕ). kept_text i.1 (pairs_of i.0)) (sym z) ∙ kept_cut q.1 q.0)
      ∙ sym (agree_is x ∙ ap (λ (a : Answer (List TapePair × List ℕ)). write_output (a >>= λ p. kept_text p.1 p.0)) b.1)

  -- the bounds of a line that is told
  pub line_bounds : (p : LineParts) → r ≡ Ok p → (p.count ≤ 999) × (p.next ≤ length x) × (3 * p.count ≤ length bytes)
  line_bounds p f =
      let c : count_of r ≡ p.count = ap count_of f in
      let n : next_of r ≡ p.next = ap next_of f in
      (omega (arith, c, t.count_fits), omega (arith, n, t.next_fits), omega (arith, c, t.bytes_fit))

-- ---- what the program lends

-- the slices for the records of a table
abbrev pub lent_slices : Slices
lent_slices = slices_of (replicate states_lent 0) (replicate arcs_lent 0)

abbrev space_in : ℕ → ℕ → Space
space_in a b = record { states = a / state_size; arcs = b / arc_size }

-- they have its space
pub room-lent : space_of lent_slices ≡ room
room-lent = ap₂ space_in (length-replicate {A = ℕ} states_lent 0) (length-replicate {A = ℕ} arcs_lent 0)

-- the work space, which is enough
abbrev pub lent_work : List ℕ
lent_work = replicate work_lent 0

-- it is as long as a build needs
pub work_lent_lem : work_lent ≤ length lent_work
work_lent_lem = let l = length-replicate {A = ℕ} work_lent 0 in omega arith

-- a text that was written, under another name
pub wrote_as : (t u before after : List ℕ) (n : ℕ) → t ≡ u → Wrote t before after n → Wrote u before after n
wrote_as t u before after n e w = subst (λ (z : List ℕ). Wrote z before after n) e w
