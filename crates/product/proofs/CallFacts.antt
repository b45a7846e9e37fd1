-- The call by its steps: what is judged first, the plan, and what each way out of it answers.
use mathlib.Core.Path.{◌≡◌, refl, sym, ap, subst, ◌∙◌}
use mathlib.Core.Bool.{Bool, true, false}
use mathlib.Core.List.{List}
use Prim.Native.Nat.{ℕ, ◌+◌, ◌-◌, ◌*◌, ◌/◌, ◌≤◌, ◌<◌}
use native.Mathlib.Omega.{arith}
use lib.Dec.{leb, leb→le, nleb→lt}
use lib.ListN.{length}
use borrow.Author.Tests.{le-leb, lt-leb}
use Rattle.automata.specs.Answer.{◌>>=◌, Answer, ok, refused, forget}
use Rattle.automata.specs.OrderedSum.{ℕ_sum}
use Rattle.automata.specs.Automaton.{Automaton}
use Rattle.automata.specs.Table.{weight_fits}
use Rattle.automata.specs.Memory.{Memory, Sound, table_of, decode_table, zeros}
use Rattle.automata.specs.Product.{cross_product, product}
use Rattle.automata.specs.Calls.Work.{product_work, enough}
use Rattle.automata.specs.Calls.Outcome.{Slices, Made, TableCounts, space_of, put, build, made_of, built_of, slices_of}
use Rattle.automata.specs.Calls.Product.{product_answer, product_outcome}
use Rattle.automata.specs.Calls.JoinSteps.{product_step}
use Rattle.automata.proofs.AnswerFacts.{refused≢ok}
use Rattle.automata.proofs.CallFacts.{put_refused}
use Rattle.automata.proofs.CallTests.{product-width, product-space, product-passed}
use Rattle.automata.proofs.TestFacts.{true_T}
use Rattle.automata.proofs.SoundFacts.{sound_decoded, sound_holds}
use Rattle.automata.specs.Layout.{arc_size, state_size, step_size, vertex_size}
use Rattle.table.specs.declared.answer.Counts.{Counts}
use Rattle.table.specs.declared.answer.Refusal.{Refusal}
use Rattle.table.specs.declared.answer.Refusal.TheVariants.{Width, Space}
use Rattle.std.specs.Prelude.{Ok, Err}
use Rattle.table.specs.Answers.{Judged, judged_as, refusal_number, lent}
use Rattle.table.proofs.TableFacts.{judged_sound}
use Rattle.table.proofs.SoundFacts.{few_tapes}
use Rattle.product_search.specs.declared.plan.Plan.{Plan}
use Rattle.product_search.specs.declared.head.Head.{Head}
use Rattle.product_search.specs.Plans.{Explorable}
use Rattle.product_search.specs.Exploring.{Explored}
use Rattle.product.specs.Answered.{Answerable}
use Rattle.product.specs.Multiplied.{Multipliable}
use Rattle.product.specs.Prepared.{space_for, plan_of, Prepares}

-- ---- work space

-- a test of numbers that fails
leb_less : (m n : ℕ) → leb m n ≡ false → n < m
leb_less m n e = nleb→lt m n (rw e tt)

-- too short for the states, or for both
pub short_states : (states arcs work : ℕ) → work / vertex_size < states → false ≡ leb (product_work (space_for states arcs)) work
unfolding product_work
short_states states arcs work h = sym (lt-leb (product_work (space_for states arcs)) work (omega arith))

pub work_tested : (states arcs work : ℕ) → states ≤ work / vertex_size → leb arcs ((work - vertex_size * states) / step_size) ≡ leb (product_work (space_for states arcs)) work
unfolding product_work
work_tested states arcs work h = go (leb arcs ((work - vertex_size * states) / step_size)) refl
  where
    go : (b : Bool) → leb arcs ((work - vertex_size * states) / step_size) ≡ b → b ≡ leb (product_work (space_for states arcs)) work
    go true e = let k = leb→le arcs ((work - vertex_size * states) / step_size) (true_T (leb arcs ((work - vertex_size * states) / step_size)) e) in sym (le-leb (product_work (space_for states arcs)) work (omega arith))
    go false e = let k = leb_less arcs ((work - vertex_size * states) / step_size) e in sym (lt-leb (product_work (space_for states arcs)) work (omega arith))

-- ---- what is judged first

module _ (a b : Memory) (states arcs work : ℕ) where
  -- a table that is refused
  refused-table : (m : Memory) (j : Judged) (why : Refusal) → judged_as j ≡ forget (decode_table m) → j ≡ Err why → decode_table m ≡ refused (refusal_number why)
  refused-table m j why e f = go (decode_table m) (ap judged_as (sym f) ∙ e)
    where
      go : (d : Answer (Automaton ℕ)) → refused (refusal_number why) ≡ forget d → d ≡ refused (refusal_number why)
      go (ok A) g = absurd (refused≢ok g)
      go (refused n) g = let k : refusal_number why ≡ n = cc in ap (λ (i : ℕ). refused i) (sym k)

  fine_table : (m : Memory) (j : Judged) → judged_as j ≡ forget (decode_table m) → j ≡ Ok tt → Sound m
  fine_table m j e f = judged_sound m (sym e ∙ ap judged_as f)

  -- a refusal before the product
  refused-first : (j : Judged) (why : Refusal) → j ≡ Err why → ((w : List ℕ) → length w ≡ work → product_answer a b (space_for states arcs) w ≡ refused (refusal_number why)) → Prepares a b states arcs work j
  refused-first j why e h = record {
    answer = λ w l. h w l ∙ sym (ap (λ (i : Judged). judged_as i >>= λ (u : Unit {0}). cross_product ℕ_sum weight_fits (space_for states arcs) (table_of a) (table_of b)) e);
    first = λ f. not_fine f;
    second = λ f. not_fine f;
    tapes_fit = λ f. not_fine f;
    work_fits = λ f. not_fine f;
  }
    where
      not_fine : {X : Type 0} → j ≡ Ok tt → X
      not_fine f = absurd (refused≢ok (ap judged_as (sym e ∙ f)))

  pub first-refused : (j : Judged) (why : Refusal) → judged_as j ≡ forget (decode_table a) → j ≡ Err why → Prepares a b states arcs work j
  unfolding product_answer
  first-refused j why e f = refused-first j why f (λ w l. rw (refused-table a j why e f))

  module _ (i : Judged) (d : judged_as i ≡ forget (decode_table a)) (g : i ≡ Ok tt) where
    one : Sound a
    one = fine_table a i d g

    pub second_refused : (j : Judged) (why : Refusal) → judged_as j ≡ forget (decode_table b) → j ≡ Err why → Prepares a b states arcs work j
    unfolding product_answer
    second_refused j why e f = refused-first j why f (λ w l. rw (sound_decoded a one, refused-table b j why e f))

    module _ (j : Judged) (e : judged_as j ≡ forget (decode_table b)) (f : j ≡ Ok tt) where
      two : Sound b
      two = fine_table b j e f

      -- their tapes are few, so that they can be counted together
      pub tapes_few : a.tapes + b.tapes ≤ 16
      tapes_few = omega (arith, few_tapes a one, few_tapes b two)

      called : (w : List ℕ) → product_answer a b (space_for states arcs) w
          ≡ product ℕ_sum weight_fits (enough (product_work (space_for states arcs)) w) (space_for states arcs) (table_of a) (table_of b)
      unfolding product_answer
      called w = rw (sound_decoded a one, sound_decoded b two)

      tapes_are : (table_of a).tapes + (table_of b).tapes ≡ a.tapes + b.tapes
      tapes_are = omega (arith, (sound_holds a one).tapes, (sound_holds b two).tapes)

      pub too_wide : 8 < a.tapes + b.tapes → Prepares a b states arcs work (Err Width)
      too_wide h = refused-first (Err Width) Width refl (λ w l. called w
          ∙ product-width (enough (product_work (space_for states arcs)) w) (space_for states arcs) (table_of a) (table_of b) (lt-leb ((table_of a).tapes + (table_of b).tapes) 8 (omega (arith, h, tapes_are))))

      module _ (h : a.tapes + b.tapes ≤ 8) (t : Bool) (k : t ≡ leb (product_work (space_for states arcs)) work) where
        narrow : leb ((table_of a).tapes + (table_of b).tapes) 8 ≡ true
        narrow = le-leb ((table_of a).tapes + (table_of b).tapes) 8 (omega (arith, h, tapes_are))

        pub too_short : t ≡ false → Prepares a b states arcs work (Err Space)
        too_short z = refused-first (Err Space) Space refl (λ w l. called w
            ∙ product-space (enough (product_work (space_for states arcs)) w) (space_for states arcs) (table_of a) (table_of b) narrow (ap (leb (product_work (space_for states arcs))) l ∙ sym k ∙ z))

        pub all_fine : t ≡ true → Prepares a b states arcs work (Ok tt)
        all_fine z = record {
          answer = λ w l. called w
              ∙ product-passed (enough (product_work (space_for states arcs)) w) (space_for states arcs) (table_of a) (table_of b) narrow (ap (leb (product_work (space_for states arcs))) l ∙ sym k ∙ z);
          first = λ _. one;
          second = λ _. two;
          tapes_fit = λ _. h;
          work_fits = λ _. leb→le (product_work (space_for states arcs)) work (true_T (leb (product_work (space_for states arcs)) work) (sym k ∙ z));
        }

-- ---- the plan

module _ (first second : Counts) (s1 a1 s2 a2 : List ℕ) (for_states for_arcs size : ℕ) (m : Multipliable (lent first s1 a1) (lent second s2 a2) for_states for_arcs size)
    (p : Plan) (e : p ≡ plan_of first second (for_states / state_size) (for_arcs / arc_size)) where
  -- the search can be made
  planned : Explorable (plan_of first second (for_states / state_size) (for_arcs / arc_size)) s1 a1 s2 a2 size
  unfolding product_work
  planned = record {
    first_sound = m.first;
    second_sound = m.second;
    vertices_fit = omega arith;
    moves_fit = omega (arith, m.work_fits);
    few_states = omega arith;
    few_arcs = omega arith;
  }

  explorable : Explorable p s1 a1 s2 a2 size
  explorable = rw e planned

  -- no more arcs are looked for than there is room for
  pub limited : (Explorable p s1 a1 s2 a2 size) × (p.limit ≡ p.arcs)
  limited = (explorable, rw e)

  -- and can be answered
  pub answerable : (v w : List ℕ) (r : Head) → size ≡ length v → Explored p s1 a1 s2 a2 v r w → Answerable p s1 a1 s2 a2 r w for_states for_arcs
  answerable v w r l x = record {
    explorable = subst (λ (n : ℕ). Explorable p s1 a1 s2 a2 n) (l ∙ sym x.same_length) explorable;
    tapes_fit = rw e m.tapes_fit;
    state_cap_is = rw e;
    arc_cap_is = rw e;
    over = x.over;
    more = x.more;
    held = x.held;
  }

-- ---- the whole call

module _ (a b : Memory) (old_states old_arcs work : List ℕ) (r : Judged) (p : Prepares a b (length old_states / state_size) (length old_arcs / arc_size) (length work) r) where
  -- the slices, and what the call answers
  abbrev slices : Slices
  slices = slices_of old_states old_arcs

  abbrev answer : Answer (Automaton ℕ)
  answer = product_answer a b (space_of slices) work

  -- a refusal before the product
  pub call_refused : (why : Refusal) → r ≡ Err why → made_of (refused (refusal_number why)) old_states old_arcs ≡ put answer slices
  call_refused why e =
      sym (put_refused slices (refusal_number why))
      ∙ ap (λ (x : Answer (Automaton ℕ)). put x slices)
      (sym (p.answer work refl ∙ ap (λ (j : Judged). judged_as j >>= λ (u : Unit {0}). cross_product ℕ_sum weight_fits (space_of slices) (table_of a) (table_of b)) e))

  -- and is the call's
  pub call_made : r ≡ Ok tt → (o : Made) → o ≡ product_step (table_of a) (table_of b) slices → o ≡ put answer slices
  unfolding product_step
  call_made e o h =
      h ∙ ap (λ (x : Answer (Automaton ℕ)). put x slices)
      (sym (p.answer work refl ∙ ap (λ (j : Judged). judged_as j >>= λ (u : Unit {0}). cross_product ℕ_sum weight_fits (space_of slices) (table_of a) (table_of b)) e))

-- Work space is zero afterwards.
pub call_cleared : (a b : Memory) (s : Slices) (work zeroed : List ℕ) (n : ℕ) (x : Answer TableCounts) (states arcs : List ℕ)
    → made_of x states arcs ≡ put (product_answer a b (space_of s) work) s → n ≡ length work → zeroed ≡ zeros n
    → built_of x states arcs zeroed ≡ product_outcome a b s work
unfolding product_outcome build
call_cleared a b s work zeroed n x states arcs e l z = λ i. record { made = e i; work = (z ∙ ap zeros l) i }
