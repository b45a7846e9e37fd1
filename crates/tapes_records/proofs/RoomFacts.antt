-- The space of a result: what fits it, and the records of a table copied into it.
use Prim.Native.Nat.{ℕ, ◌*◌, ◌≤◌, ◌<◌}
use mathlib.Core.Path.{◌≡◌, refl, sym, ap, ◌∙◌}
use mathlib.Core.Bool.{Bool, true, false}
use mathlib.Core.List.{List}
use native.Mathlib.Omega.{arith}
use borrow.Author.Tests.{le-leb, lt-leb}
use lib.Dec.{leb}
use lib.ListN.{length, take, drop}
use lib.Seq.{take_at}
use Rattle.automata.specs.Refusal as refusal
use Rattle.automata.specs.Answer.{◌>>=◌, Answer, ok, refused, judge, forget}
use Rattle.automata.specs.Space.{Space, state_cap, arc_cap}
use Rattle.automata.specs.Automaton.{Automaton}
use Rattle.automata.specs.Table.{WellFormed}
use Rattle.automata.specs.Memory.{Memory, Sound, Holds, memory_of, encode_states, encode_arcs}
use Rattle.automata.specs.Union.{fitted}
use Rattle.automata.specs.Calls.Outcome.{overwrite, counts_of, put, made_of, slices_of}
use Rattle.automata.proofs.AnswerFacts.{refused≢ok}
use Rattle.automata.proofs.MemoryFacts.{length_encode_states, length_encode_arcs}
use Rattle.automata.proofs.CallFacts.{put-ok}
use Rattle.automata.specs.Layout.{arc_size, state_size}
use Rattle.table.specs.Region.{splice}
use Rattle.table.proofs.SoundFacts.{states_lent, arcs_lent}
use Rattle.table.proofs.RegionFacts.{splice_front, splice-twice}
use Rattle.tapes_records.specs.Results.{fitting, Copies, Copied}

-- ---- judgements

-- a refusal is told of what is judged
pub forget-refused : {A : Type 0} (a : Answer A) (n : ℕ) → forget a ≡ refused n → a ≡ refused n
forget-refused (ok v) n e = absurd (refused≢ok (sym e))
forget-refused (refused k) n e = let i : k ≡ n = cc in ap refused i

-- what is refused is refused whatever would come next
pub next-refused : {A B : Type 0} (a : Answer A) (f : A → Answer B) (n : ℕ) → refused n ≡ forget a → refused n ≡ forget (a >>= f)
next-refused a f n e = let r = forget-refused a n (sym e) in ap (λ x. forget (x >>= f)) (sym r)

-- ---- the space lent

module _ (states arcs : ℕ) (space : Space) where
  -- too many states
  pub states_over_lem : state_cap space < states → refused refusal.states_full ≡ fitting states arcs space
  unfolding fitting
  states_over_lem h = rw (lt-leb states (state_cap space) h)

  -- too many arcs
  pub arcs_over_lem : states ≤ state_cap space → arc_cap space < arcs → refused refusal.arcs_full ≡ fitting states arcs space
  unfolding fitting
  arcs_over_lem k h = rw (le-leb states (state_cap space) k, lt-leb arcs (arc_cap space) h)

  -- neither
  pub both_fit : states ≤ state_cap space → arcs ≤ arc_cap space → ok tt ≡ fitting states arcs space
  unfolding fitting
  both_fit k h = rw (le-leb states (state_cap space) k, le-leb arcs (arc_cap space) h)

-- an automaton fits where its counts do
pub fitted_counts : (space : Space) (A : Automaton ℕ) → fitting (length A.states) (length A.arcs) space ≡ forget (fitted space A)
unfolding fitting fitted
fitted_counts space A = go (leb (length A.states) (state_cap space)) (leb (length A.arcs) (arc_cap space))
  where
    go : (b c : Bool) → judge {A = Unit {0}} b refusal.states_full (judge c refusal.arcs_full (ok tt)) ≡ forget (judge b refusal.states_full (judge c refusal.arcs_full (ok A)))
    go true true = refl
    go true false = refl
    go false c = refl

-- ---- records copied

-- a table that was judged may be copied to where it fits
pub copy_ready : (m : Memory) → Sound m → (states arcs : ℕ) → state_size * m.states ≤ states → arc_size * m.arcs ≤ arcs → Copies m 0 0 states arcs
copy_ready m s states arcs e f = record { states_lent = states_lent m s; arcs_lent = arcs_lent m s; states_fit = omega (arith, e); arcs_fit = omega (arith, f) }

-- bytes over the front of bytes of the same length
over-twice : (x y old : List ℕ) → length x ≡ length y → length y ≤ length old → overwrite x (splice 0 y old) ≡ overwrite x old
over-twice x y old e h =
    sym (splice_front x (splice 0 y old)) ∙ splice-twice 0 y x old (sym e) (omega arith) ∙ splice_front x old

module _ (m : Memory) (T : Automaton ℕ) (w : WellFormed T) (h : Holds m T) where
  -- a table's records, wherever they are copied
  module _ (state_at arc_at : ℕ) (old_states old_arcs new_states new_arcs : List ℕ) (c : Copied m state_at arc_at old_states old_arcs new_states new_arcs) where
    pub states_copied : new_states ≡ splice state_at (encode_states T) old_states
    states_copied = c.states ∙ ap (λ (x : List ℕ). splice state_at x old_states) h.state_bytes

    pub arcs_copied : new_arcs ≡ splice arc_at (encode_arcs T) old_arcs
    arcs_copied = c.arcs ∙ ap (λ (x : List ℕ). splice arc_at x old_arcs) h.arc_bytes

  pub states_length : length (encode_states T) ≡ state_size * m.states
  states_length = length_encode_states T w ∙ omega (arith, h.states)

  pub arcs_length : length (encode_arcs T) ≡ arc_size * m.arcs
  arcs_length = length_encode_arcs T w ∙ omega (arith, h.arcs)

  -- a table copied over the front of two slices
  module _ (old_states old_arcs new_states new_arcs : List ℕ) (c : Copied m 0 0 old_states old_arcs new_states new_arcs) where
    -- it stands there
    pub copied_holds : Holds (memory_of m.tapes m.states m.arcs new_states new_arcs) T
    copied_holds = record {
      tapes = h.tapes;
      states = h.states;
      arcs = h.arcs;
      state_bytes = ap (take (m.states * state_size)) (states_copied 0 0 old_states old_arcs new_states new_arcs c ∙ splice_front (encode_states T) old_states)
          ∙ take_at (encode_states T) (drop (length (encode_states T)) old_states) (m.states * state_size) (omega (arith, states_length));
      arc_bytes = ap (take (m.arcs * arc_size)) (arcs_copied 0 0 old_states old_arcs new_states new_arcs c ∙ splice_front (encode_arcs T) old_arcs)
          ∙ take_at (encode_arcs T) (drop (length (encode_arcs T)) old_arcs) (m.arcs * arc_size) (omega (arith, arcs_length));
    }

    -- a table of the same size that is put there is put as if nothing had been copied
    pub copied_put : (R : Automaton ℕ) → encode_states R ≡ encode_states T → length (encode_arcs R) ≡ arc_size * m.arcs → state_size * m.states ≤ length old_states → arc_size * m.arcs ≤ length old_arcs
        → put (ok R) (slices_of new_states new_arcs) ≡ put (ok R) (slices_of old_states old_arcs)
    copied_put R e l s a =
        let x : overwrite (encode_states R) new_states ≡ overwrite (encode_states R) old_states =
        ap (overwrite (encode_states R)) (states_copied 0 0 old_states old_arcs new_states new_arcs c)
        ∙ over-twice (encode_states R) (encode_states T) old_states (ap length e) (omega (arith, states_length)) in
        let y : overwrite (encode_arcs R) new_arcs ≡ overwrite (encode_arcs R) old_arcs =
        ap (overwrite (encode_arcs R)) (arcs_copied 0 0 old_states old_arcs new_states new_arcs c)
        ∙ over-twice (encode_arcs R) (encode_arcs T) old_arcs (omega (arith, l, arcs_length)) (omega (arith, arcs_length)) in
        put-ok (slices_of new_states new_arcs) R ∙ (λ i. made_of (ok (counts_of R)) (x i) (y i)) ∙ sym (put-ok (slices_of old_states old_arcs) R)
