-- Paths over numbered cells: one arc more, what holds of all of them, and marks that lead back along them.
use mathlib.Core.Path.{◌≡◌, sym, subst, ◌∙◌}
use mathlib.Core.Option.{Option, some}
use mathlib.Core.List.{List, [], ◌∷◌, ◌++◌, append-nil, append_assoc}
use Prim.Native.Nat.{ℕ, ◌≤◌, ◌<◌}
use native.Mathlib.Omega.{arith}
use Rattle.automata.specs.Paths.{Trace}
use Rattle.lookup_moves.specs.Distances.{far}
use Rattle.path_search.specs.Search.{mark_at}
use Rattle.path_search.specs.FirstPath.{Follows, stop, step, Reaches, Back, at_start, behind}
use Rattle.path_search.proofs.TraceFacts.{trace_of, onward, and_arc}

-- the marks of cells found are the same in ys as in xs
abbrev pub MarksStay : ℕ → List ℕ → List ℕ → Type 0
MarksStay cells xs ys = (c : ℕ) → c < cells → mark_at cells xs c < far → mark_at cells ys c ≡ mark_at cells xs c

module _ (next : ℕ → ℕ → Option ℕ) (start : ℕ → Option ℕ) where
  -- a path of no arc leads to the cell at which it starts
  pub reaches_start : (q c : ℕ) → start q ≡ some c → Reaches next start (trace_of q []) c
  reaches_start q c e = record { first = c; starts = e; follows = stop }

  -- the arcs of a run and one more
  follows_arc : {c b d : ℕ} {r : List ℕ} (e : ℕ) → Follows next start c r b → next b e ≡ some d
      → Follows next start c (r ++ (e ∷ [])) d
  follows_arc e stop n = step e n stop
  follows_arc e (step f m h) n = step f m (follows_arc e h n)

  -- a path with one arc more leads where the arc leads
  pub reaches_arc : (π : Trace) (c e d : ℕ) → Reaches next start π c → next c e ≡ some d → Reaches next start (and_arc π e) d
  reaches_arc π c e d h n = record { first = h.first; starts = h.starts; follows = follows_arc e h.follows n }

  -- P holds of a path of no arc, and of a path with one arc more where it holds of the path.
  module _ (P : Trace → ℕ → Type 0) (begins : (q c : ℕ) → start q ≡ some c → P (trace_of q []) c)
      (goes_on : (π : Trace) (c e d : ℕ) → P π c → next c e ≡ some d → P (and_arc π e) d) where
    -- so it holds of a path and a run behind it, where it holds of the path
    along : {c b : ℕ} {r : List ℕ} → Follows next start c r b → (π : Trace) → P π c → P (onward π r) b
    along {c} stop π p = subst (λ (r : List ℕ). P (trace_of π.start r) c) (sym (append-nil π.run)) p
    along {c} {b} (step {d = d} {r = r} e n h) π p =
        subst (λ (l : List ℕ). P (trace_of π.start l) b) (append_assoc π.run (e ∷ []) r)
        (along h (and_arc π e) (goes_on π c e d p n))

    -- so it holds of every path
    pub every-path : (π : Trace) (c : ℕ) → Reaches next start π c → P π c
    every-path π c h = along h.follows (trace_of π.start []) (begins π.start h.first h.starts)

  -- where the marks of the cells found stay, they lead back along the same runs
  pub back_stays : (cells arcs states : ℕ) → ((c e d : ℕ) → next c e ≡ some d → (e < arcs) × (d < cells))
      → ((q c : ℕ) → start q ≡ some c → (q < states) × (c < cells)) → arcs ≤ 65535 → (xs ys : List ℕ) → MarksStay cells xs ys
      → (q c : ℕ) (r : List ℕ) → Back next start cells xs q r c → Back next start cells ys q r c
  back_stays cells arcs states next-lt start-lt few xs ys stay q c r (at_start e m) =
      at_start e (stay c (start-lt q c e).1 (omega arith) ∙ m)
  back_stays cells arcs states next-lt start-lt few xs ys stay q c r' (behind {r = r} {b = b} e h n m) =
      let (l, k) = next-lt b e c n in
      behind e (back_stays cells arcs states next-lt start-lt few xs ys stay q b r h) n (stay c k (omega arith) ∙ m)
