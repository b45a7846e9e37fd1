-- The four bytes of a state as a number: what comparing it tells, and what the search by it finds.
use Prim.Native.Nat.{ℕ, zero, suc, ◌+◌, ◌-◌, ◌*◌, ◌/◌, ◌%◌, ◌≤◌, ◌<◌}
use mathlib.Core.Path.{◌≡◌, sym, ap, ◌∙◌}
use mathlib.Core.List.{List, [], ◌∷◌}
use native.Mathlib.Nat.{add-mul-mod_self_left}
use native.Mathlib.Omega.{arith}
use lib.ListN.{length, get_or}
use Rattle.table.specs.Region.{part}
use Rattle.table.specs.Endian.{le, to_le}
use Rattle.table.proofs.RegionFacts.{get_d_part}
use Rattle.table.proofs.EndianFacts.{Bytes, le-to_le, to_le-part}
use Rattle.search_rows.specs.declared.Entered.{Entered}
use Rattle.std.specs.Prelude.{Some}
use Rattle.search_chains.specs.Hash.{bucket_of}
use Rattle.search_chains.specs.Parts.{Agrees}
use Rattle.search_chains.specs.Chain.{link_below, Enters}
use Rattle.search_chains.proofs.FindFacts.{Passes, passes_next, finds_record}
use Rattle.search_chains.proofs.EnterFacts.{entered_row}
use Rattle.product_search.specs.declared.vertex.Vertex.{Vertex}
use Rattle.product_search.specs.Vertices.{vertex_bytes, vertex_shape, bucket_by, FindsVertex, EntersVertex}
use Rattle.automata.specs.Layout.{vertex_size}

-- the bytes of a state are those of its number
pub key_bytes : (v : Vertex) → v.first.0 < 65536 → v.second.0 < 65536 → to_le 4 (v.first.0 + 65536 * v.second.0) ≡ vertex_bytes v
unfolding vertex_bytes
key_bytes v f g =
    let x = v.first.0 in
    let y = v.second.0 in
    let k = x + 65536 * y in
    let e : k ≡ x + 256 * (256 * y) = omega arith in
    let p : k % 256 ≡ x % 256 = ap (λ (n : ℕ). n % 256) e ∙ add-mul-mod_self_left x 256 (256 * y) in
    let a : k / 256 ≡ x / 256 + 256 * y = omega arith in
    let q : k / 256 % 256 ≡ x / 256 % 256 = ap (λ (n : ℕ). n % 256) a ∙ add-mul-mod_self_left (x / 256) 256 y in
    let b : k / 256 / 256 ≡ y = omega (arith, a) in
    λ i. p i ∷ q i ∷ b i % 256 ∷ b i / 256 % 256 ∷ []

-- an entry by this number is one of the state
pub key_entered : (count room bucket key hash : ℕ) (v : Vertex) (xs ys : List ℕ) (r : Entered) → to_le 4 key ≡ vertex_bytes v → key < 4294967296 → bucket ≡ bucket_of room hash → hash ≡ key
    → Enters vertex_size count room bucket vertex_shape (to_le 4 key) xs r ys → EntersVertex count room v xs r ys
unfolding part
key_entered count room bucket key hash v xs ys r e h b k t =
    entered_row (bucket_by room) vertex_size count room bucket vertex_shape (to_le 4 key) (vertex_bytes v) xs ys r e (b ∙ ap (bucket_of room) (k ∙ sym (le-to_le 4 key h))) t

-- ---- four bytes and their number

module _ (at n key : ℕ) (xs : List ℕ) (within : at + 4 ≤ length xs) (read : n ≡ le (part at 4 xs)) where
  -- bytes whose number is this
  pub key_same : Bytes xs → n ≡ key → part at 4 xs ≡ to_le 4 key
  key_same bytes e = sym (to_le-part at 4 xs within bytes) ∙ ap (to_le 4) (sym read ∙ e)

  -- bytes whose number is another
  pub key_other : key < 4294967296 → (n ≡ key → ⊥) → part at 4 xs ≡ to_le 4 key → ⊥
  key_other h f e = f (read ∙ ap le e ∙ le-to_le 4 key h)

-- ---- along the chain

module _ (count bucket key : ℕ) (xs : List ℕ) (rows : count * vertex_size ≤ length xs) where
  -- the state is found
  pub key_found : (k n : ℕ) → k < count → n ≡ le (part (k * vertex_size) 4 xs) → Bytes xs → n ≡ key → FindsVertex count bucket key xs (Some (record { 0 = k }))
  key_found k n h read bytes e =
      finds_record vertex_size count bucket vertex_shape (to_le 4 key) xs k h agrees
    where
      agrees : Agrees vertex_shape (k * vertex_size) (to_le 4 key) xs
      agrees zero p i a b = sym (get_d_part (k * vertex_size) 4 xs i 0 (omega (arith, b))) ∙ ap (λ (ys : List ℕ). get_or ys i 0) (key_same (k * vertex_size) n key xs (omega arith) read bytes e)
      agrees (suc q) p i a b = absurd (omega (arith, p))

  -- another stands there, and the chain goes on
  pub key_passed : (l n : ℕ) → (l ≡ 0 → ⊥) → l ≤ count → n ≡ le (part ((l - 1) * vertex_size) 4 xs) → key < 4294967296 → (n ≡ key → ⊥)
      → Passes vertex_size count bucket vertex_shape (to_le 4 key) xs l → (m : ℕ) → m ≡ link_below (l - 1) (le (part ((l - 1) * vertex_size + 6) 2 xs))
      → Passes vertex_size count bucket vertex_shape (to_le 4 key) xs m
  key_passed l n z h read fits f p m e =
      let a : (l - 1) * vertex_size + 6 ≡ (l - 1) * vertex_size + 4 + 2 = omega arith in
      passes_next vertex_size count bucket vertex_shape (to_le 4 key) xs l (l - 1) (omega arith) h p (key_other ((l - 1) * vertex_size) n key xs (omega arith) read fits f) m
      (e ∙ ap (λ (i : ℕ). link_below (l - 1) (le (part i 2 xs))) a)

-- ---- the row behind the last

-- the four bytes written by the library are those of the number
pub key_written : (key : ℕ) → ◌≡◌ {A = List ℕ} (key % 256 ∷ key / 256 % 256 ∷ key / 65536 % 256 ∷ key / 16777216 % 256 ∷ []) (to_le 4 key)
key_written key =
    let a : key / 65536 ≡ key / 256 / 256 = omega arith in
    let b : key / 16777216 ≡ key / 256 / 256 / 256 = omega arith in
    rw (a, b)
