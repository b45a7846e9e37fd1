-- Lists of calls: made again with no less they give the same tables; and every table that they take or give stands in
-- its bytes.
use mathlib.Core.Path.{◌≡◌, refl, sym, ◌∙◌, ap, subst}
use mathlib.Core.List.{List}
use Prim.Native.Nat.{ℕ}
use Rattle.automata.specs.Answer.{Answer, ok, ◌>>=◌}
use Rattle.automata.specs.OrderedSum.{ℕ_sum}
use Rattle.automata.specs.Automaton.{size}
use Rattle.automata.specs.Table.{weight_fits}
use Rattle.automata.specs.TapePair.{TapePair}
use Rattle.automata.specs.IntersectCall.{intersect_call}
use Rattle.automata.specs.Product.{product}
use Rattle.automata.specs.Join.{join}
use Rattle.automata.specs.Union.{union}
use Rattle.automata.specs.Projection.{project, drop_tapes}
use Rattle.automata.specs.Memory.{Memory, decode_table, Sound, trim}
use Rattle.automata.specs.Calls.Outcome.{Made, Built, Slices, space_of, put, build, conclude, given}
use Rattle.automata.specs.Calls.Work.{build_work, product_work, enough}
use Rattle.automata.specs.Calls.Read.{read_outcome}
use Rattle.automata.specs.Calls.Intersect.{intersect_answer, intersect_outcome}
use Rattle.automata.specs.Calls.Product.{product_answer, product_outcome}
use Rattle.automata.specs.Calls.Join.{lent_to, join_answer, join_outcome}
use Rattle.automata.specs.Calls.Union.{union_answer, union_outcome}
use Rattle.automata.specs.Calls.Project.{project_answer, project_outcome}
use Rattle.automata.specs.Calls.Drop.{in_mask, drop_answer, drop_outcome}
use Rattle.laws.specs.CallLaws.{Same, JoinLent, join_made}
use Rattle.laws.specs.CallTrees.{
  Calls,
  lent,
  reading,
  keeping,
  multiplying,
  joining,
  uniting,
  choosing,
  dropping,
  made,
  Gave,
  Stands,
  AllStand,
  IsCall,
  Again,
  NoLess,
  no_less_table,
  no_less_reading,
  no_less_keeping,
  no_less_multiplying,
  no_less_joining,
  no_less_uniting,
  no_less_choosing,
  no_less_dropping,
}
use Rattle.automata.proofs.AnswerFacts.{bind_ok, bind_pass, ok_injective}
use Rattle.laws.proofs.Lemmas.CallTables.{same_decoded}
use Rattle.laws.proofs.Lemmas.CallAgain.{calls_given-again}
use Rattle.laws.proofs.Lemmas.CallsGiven.{read_given, kept_call, product-given, joined_call, united_call, chosen_call, dropped_call}

-- an outcome that is the same gives the same records
given_same : (o o' : Made) (r : Memory) → Same o o' → given o ≡ ok r → (r' : Memory) × (given o' ≡ ok r') × (trim r' ≡ trim r)
given_same o o' r h e =
    let (r', g, q) = bind_ok (given o') (λ m. ok (trim m)) (trim r) (h ∙ ap (λ x. x >>= λ m. ok (trim m)) e) in
    (r', g, ok_injective (trim r') (trim r) q)

-- outcomes depend on what the memory lent decodes to alone
keep_alike : (m m' : Memory) (ps : List TapePair) (s : Slices) (w : List ℕ) → decode_table m' ≡ decode_table m
    → intersect_outcome m' ps s w ≡ intersect_outcome m ps s w
unfolding intersect_outcome intersect_answer
keep_alike m m' ps s w e = ap (λ r. build (r >>= λ A. intersect_call (enough (build_work (space_of s) (size A)) w) (space_of s) ps A) s w) e

multiply_alike : (m m' k k' : Memory) (s : Slices) (w : List ℕ) → decode_table m' ≡ decode_table m → decode_table k' ≡ decode_table k
    → product_outcome m' k' s w ≡ product_outcome m k s w
unfolding product_outcome product_answer
multiply_alike m m' k k' s w e f =
    ap (λ r. build (r >>= λ A. decode_table k' >>= λ B. product ℕ_sum weight_fits (enough (product_work (space_of s)) w) (space_of s) A B) s w) e
    ∙ ap (λ q. build (decode_table m >>= λ A. q >>= λ B. product ℕ_sum weight_fits (enough (product_work (space_of s)) w) (space_of s) A B) s w) f

join_alike : (m m' k k' : Memory) (l : JoinLent) (ps : List TapePair) → decode_table m' ≡ decode_table m → decode_table k' ≡ decode_table k
    → join_made l ps m' k' ≡ join_made l ps m k
unfolding join_outcome join_answer conclude
join_alike m m' k k' l ps e f =
    let t = lent_to (space_of l.product) (space_of l.result) l.work in
    ap (λ r. put (r >>= λ A. decode_table k' >>= λ B. join ℕ_sum weight_fits t ps A B) l.result) e
    ∙ ap (λ q. put (decode_table m >>= λ A. q >>= λ B. join ℕ_sum weight_fits t ps A B) l.result) f

unite_alike : (m m' k k' : Memory) (s : Slices) → decode_table m' ≡ decode_table m → decode_table k' ≡ decode_table k
    → union_outcome m' k' s ≡ union_outcome m k s
unfolding union_outcome union_answer
unite_alike m m' k k' s e f =
    ap (λ r. put (r >>= λ A. decode_table k' >>= λ B. union (space_of s) A B) s) e
    ∙ ap (λ q. put (decode_table m >>= λ A. q >>= λ B. union (space_of s) A B) s) f

choose_alike : (m m' : Memory) (js : List ℕ) (s : Slices) → decode_table m' ≡ decode_table m → project_outcome m' js s ≡ project_outcome m js s
unfolding project_outcome project_answer
choose_alike m m' js s e = ap (λ r. put (r >>= λ A. project (space_of s) js A) s) e

drop_alike : (m m' : Memory) (mask : ℕ) (s : Slices) → decode_table m' ≡ decode_table m → drop_outcome m' mask s ≡ drop_outcome m mask s
unfolding drop_outcome drop_answer
drop_alike m m' mask s e = ap (λ r. put (r >>= λ A. drop_tapes (space_of s) (in_mask mask) A) s) e

-- one claim over all lists of calls
pub calls_again : (c c' : Calls) → NoLess c c' → Again c c'
unfolding made
calls_again _ _ (no_less_table _ _ m m' em em' h) r e = (m', em', h ∙ ap trim (ok_injective m r (sym em ∙ e)))
calls_again _ _ (no_less_reading x s s' h) r e = given_same (read_outcome x s) (read_outcome x s') r (calls_given-again.read x s s' r h e) e
calls_again _ _ (no_less_keeping c c' ps qs s s' w w' h k hs hw) r e =
    let (m, em, g) = bind_ok (made c) _ r e in
    let (m', em', t₀) = calls_again c c' h m em in
    let t = same_decoded m m' t₀ in
    let g' : given (intersect_outcome m' ps s w).made ≡ ok r = ap (λ (o : Built). given o.made) (keep_alike m m' ps s w t) ∙ g in
    let (r', q, u) = given_same (intersect_outcome m' ps s w).made (intersect_outcome m' qs s' w').made r
    (calls_given-again.intersect m' ps qs s s' w w' r k hs (hw m' em') g') g' in
    (r', bind_pass (made c') _ m' r' em' q, u)
calls_again _ _ (no_less_multiplying c c' d d' s s' w w' h i hs hw) r e =
    let (m, em, g₀) = bind_ok (made c) _ r e in
    let (k, ek, g) = bind_ok (made d) _ r g₀ in
    let (m', em', t₀) = calls_again c c' h m em in
    let t = same_decoded m m' t₀ in
    let (k', ek', v₀) = calls_again d d' i k ek in
    let v = same_decoded k k' v₀ in
    let g' : given (product_outcome m' k' s w).made ≡ ok r = ap (λ (o : Built). given o.made) (multiply_alike m m' k k' s w t v) ∙ g in
    let (r', q, u) = given_same (product_outcome m' k' s w).made (product_outcome m' k' s' w').made r
    (calls_given-again.product m' k' s s' w w' r hs hw g') g' in
    (r', bind_pass (made c') _ m' r' em' (bind_pass (made d') _ k' r' ek' q), u)
calls_again _ _ (no_less_joining l l' ps qs c c' d d' h i hl hp hr hw) r e =
    let (m, em, g₀) = bind_ok (made c) _ r e in
    let (k, ek, g) = bind_ok (made d) _ r g₀ in
    let (m', em', t₀) = calls_again c c' h m em in
    let t = same_decoded m m' t₀ in
    let (k', ek', v₀) = calls_again d d' i k ek in
    let v = same_decoded k k' v₀ in
    let g' : given (join_made l ps m' k') ≡ ok r = ap given (join_alike m m' k k' l ps t v) ∙ g in
    let (r', q, u) = given_same (join_made l ps m' k') (join_made l' qs m' k') r (calls_given-again.join l l' ps qs m' k' r hl hp hr hw g') g' in
    (r', bind_pass (made c') _ m' r' em' (bind_pass (made d') _ k' r' ek' q), u)
calls_again _ _ (no_less_uniting c c' d d' s s' h i hs) r e =
    let (m, em, g₀) = bind_ok (made c) _ r e in
    let (k, ek, g) = bind_ok (made d) _ r g₀ in
    let (m', em', t₀) = calls_again c c' h m em in
    let t = same_decoded m m' t₀ in
    let (k', ek', v₀) = calls_again d d' i k ek in
    let v = same_decoded k k' v₀ in
    let g' : given (union_outcome m' k' s) ≡ ok r = ap given (unite_alike m m' k k' s t v) ∙ g in
    let (r', q, u) = given_same (union_outcome m' k' s) (union_outcome m' k' s') r (calls_given-again.union m' k' s s' r hs g') g' in
    (r', bind_pass (made c') _ m' r' em' (bind_pass (made d') _ k' r' ek' q), u)
calls_again _ _ (no_less_choosing c c' js s s' h hs) r e =
    let (m, em, g) = bind_ok (made c) _ r e in
    let (m', em', t₀) = calls_again c c' h m em in
    let t = same_decoded m m' t₀ in
    let g' : given (project_outcome m' js s) ≡ ok r = ap given (choose_alike m m' js s t) ∙ g in
    let (r', q, u) = given_same (project_outcome m' js s) (project_outcome m' js s') r (calls_given-again.project m' js s s' r hs g') g' in
    (r', bind_pass (made c') _ m' r' em' q, u)
calls_again _ _ (no_less_dropping c c' mask s s' h hs) r e =
    let (m, em, g) = bind_ok (made c) _ r e in
    let (m', em', t₀) = calls_again c c' h m em in
    let t = same_decoded m m' t₀ in
    let g' : given (drop_outcome m' mask s) ≡ ok r = ap given (drop_alike m m' mask s t) ∙ g in
    let (r', q, u) = given_same (drop_outcome m' mask s) (drop_outcome m' mask s') r (calls_given-again.drop_tapes m' mask s s' r hs g') g' in
    (r', bind_pass (made c') _ m' r' em' q, u)

-- ---- the tables stand in their bytes

-- a value that an answer gives is the only one
one_value : {X : Type 0} (P : X → Type 0) {r : Answer X} (x y : X) → r ≡ ok x → P x → r ≡ ok y → P y
one_value P x y e p q = subst P (ok_injective x y (sym e ∙ q)) p

-- of the tables that calls took, where the last gives one
stand : (c : Calls) → Gave c → Stands c → AllStand c
unfolding made
stand (lent m) g h = h m refl
stand (reading x s) g h = h
stand (keeping c ps s w) (r, e) h =
    let (m, em, g) = bind_ok (made c) _ r e in
    (stand c (m, em) (λ k. one_value Sound m k em (kept_call m ps s w r g).source.there), h)
stand (multiplying c d s w) (r, e) h =
    let (m, em, g₀) = bind_ok (made c) _ r e in
    let (k, ek, g) = bind_ok (made d) _ r g₀ in
    let (a, b, _) = product-given m k s w r g in
    (stand c (m, em) (λ n. one_value Sound m n em a.there), stand d (k, ek) (λ n. one_value Sound k n ek b.there), h)
stand (joining l ps c d) (r, e) h =
    let (m, em, g₀) = bind_ok (made c) _ r e in
    let (k, ek, g) = bind_ok (made d) _ r g₀ in
    let j = joined_call l ps m k r g in
    (stand c (m, em) (λ n. one_value Sound m n em j.first.there), stand d (k, ek) (λ n. one_value Sound k n ek j.second.there), h)
stand (uniting c d s) (r, e) h =
    let (m, em, g₀) = bind_ok (made c) _ r e in
    let (k, ek, g) = bind_ok (made d) _ r g₀ in
    let u = united_call m k s r g in
    (stand c (m, em) (λ n. one_value Sound m n em u.first.there), stand d (k, ek) (λ n. one_value Sound k n ek u.second.there), h)
stand (choosing c js s) (r, e) h =
    let (m, em, g) = bind_ok (made c) _ r e in
    (stand c (m, em) (λ k. one_value Sound m k em (chosen_call m js s r g).source.there), h)
stand (dropping c mask s) (r, e) h =
    let (m, em, g) = bind_ok (made c) _ r e in
    (stand c (m, em) (λ k. one_value Sound m k em (dropped_call m mask s r g).source.there), h)

-- what a call gives is a table
result_stands : (c : Calls) → IsCall c → Stands c
unfolding made
result_stands (lent m) t r e = absurd (t m refl)
result_stands (reading x s) t r e = (read_given x s r e).there
result_stands (keeping c ps s w) t r e = let (m, _, g) = bind_ok (made c) _ r e in (kept_call m ps s w r g).result.there
result_stands (multiplying c d s w) t r e =
    let (m, _, g₀) = bind_ok (made c) _ r e in
    let (k, _, g) = bind_ok (made d) _ r g₀ in
    (product-given m k s w r g).2.there
result_stands (joining l ps c d) t r e =
    let (m, _, g₀) = bind_ok (made c) _ r e in
    let (k, _, g) = bind_ok (made d) _ r g₀ in
    (joined_call l ps m k r g).result.there
result_stands (uniting c d s) t r e =
    let (m, _, g₀) = bind_ok (made c) _ r e in
    let (k, _, g) = bind_ok (made d) _ r g₀ in
    (united_call m k s r g).result.there
result_stands (choosing c js s) t r e = let (m, _, g) = bind_ok (made c) _ r e in (chosen_call m js s r g).result.there
result_stands (dropping c mask s) t r e = let (m, _, g) = bind_ok (made c) _ r e in (dropped_call m mask s r g).result.there

-- Where no call is refused, every table that was lent or given stands in its bytes.
pub tables_stand : (c : Calls) → IsCall c → Gave c → AllStand c
tables_stand c t g = stand c g (result_stands c t)
