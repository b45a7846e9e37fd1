-- Records of configurations that are read and written in place.
use Prim.Native.Nat.{ℕ, zero, suc, ◌+◌, ◌-◌, ◌*◌, ◌≤◌, ◌<◌}
use mathlib.Core.Path.{◌≡◌, refl, sym, ap, ap₂, ◌∙◌, subst}
use mathlib.Core.List.{List, [], ◌∷◌, ◌++◌, append_assoc, append-nil}
use native.Mathlib.Omega.{arith}
use lib.ListN.{length, get_or, set, take, drop, replicate, length-set, length-append, take-append-drop}
use lib.Seq.{take_at, drop_at, drop-drop, drop-set-lt, get_or-set_same, get_or-set_other}
use Rattle.automata.specs.Lists.{All}
use Rattle.table.specs.Region.{splice}
use Rattle.table.specs.Endian.{to_le}
use Rattle.table.proofs.EndianFacts.{length_to_le}
use Rattle.table.specs.declared.record.InputState.{InputState}
use Rattle.intersect_config.specs.declared.leftover.Leftover.{Leftover}
use Rattle.intersect_config.specs.Leftovers.{blank, outside, Good, leftover_bytes, leftover_at, leftover_size}
use Rattle.intersect_config.specs.Configs.{Config, GoodConfig, config_bytes, config_at, slot, Row, Starts, row_size}
use Rattle.intersect_config.proofs.ListFacts.{four_elements, All_set}
use Rattle.intersect_config.proofs.TestFacts.{good_at, starts-blank}
use Rattle.intersect_config.proofs.RoundFacts.{leftover_length, length_config, config_back}

-- ---- reading

-- the leftover of a pair, by its place
pub leftover_in_slot : (i : ℕ) (xs : List ℕ) → i < 4 → get_or (config_at 0 xs).leftovers i outside ≡ leftover_at (slot i) xs
unfolding config_at
leftover_in_slot zero xs h = refl
leftover_in_slot (suc zero) xs h = refl
leftover_in_slot (suc (suc zero)) xs h = refl
leftover_in_slot (suc (suc (suc zero))) xs h = refl
leftover_in_slot (suc (suc (suc (suc i)))) xs h = absurd (omega arith)

-- there are four
pub four_in : (xs : List ℕ) → length (config_at 0 xs).leftovers ≡ 4
unfolding config_at
four_in xs = refl

-- its length
pub len_in_slot : (i : ℕ) (xs : List ℕ) → i < 4 → get_or xs (3 + leftover_size * i) 0 ≡ (get_or (config_at 0 xs).leftovers i outside).len
unfolding leftover_at
len_in_slot i xs h =
    let e : 2 + leftover_size * i + 1 ≡ 3 + leftover_size * i = omega arith in
    sym (ap (λ (l : Leftover). l.len) (leftover_in_slot i xs h) ∙ ap (λ (n : ℕ). get_or xs n 0) e)

-- in its one form
pub good_in_slot : (i : ℕ) (xs : List ℕ) → All Good (config_at 0 xs).leftovers → i < 4 → Good (leftover_at (slot i) xs)
good_in_slot i xs g h = subst Good (leftover_in_slot i xs h) (good_at i (config_at 0 xs) (four_in xs, g) h)

-- a record is as long as all
pub length_row : (used : ℕ) (row : List ℕ) → Row used row → length row ≡ row_size
length_row used row r = ap length (sym r.bytes) ∙ length_config used (config_at 0 row) r.good

-- ---- writing over a part

-- what stands between two parts is written over
over_middle : (a : ℕ) (p z q ys : List ℕ) → length p ≡ a → length ys ≡ length z → splice a ys (p ++ (z ++ q)) ≡ p ++ (ys ++ q)
unfolding splice
over_middle a p z q ys e f =
    let d : drop (a + length ys) (p ++ (z ++ q)) ≡ q =
    sym (drop-drop (length ys) a (p ++ (z ++ q))) ∙ ap (drop (length ys)) (drop_at p (z ++ q) a e) ∙ drop_at z q (length ys) (sym f) in
    ap₂ (λ (u v : List ℕ). u ++ (ys ++ v)) (take_at p (z ++ q) a e) d

module _ (used : ℕ) (c : Config) (g : GoodConfig used c) where
  abbrev z : ℕ → List ℕ
  z i = leftover_bytes (get_or c.leftovers i outside)

  abbrev s : List ℕ
  s = to_le 2 c.state.0

  long : (i : ℕ) → i < 4 → length (z i) ≡ leftover_size
  long i h = leftover_length (get_or c.leftovers i outside) (good_at i c (g.four, g.each) h)

  -- the state written anew
  pub state-bytes : (q : InputState) → splice 0 (to_le 2 q.0) (config_bytes c) ≡ config_bytes (record { state = q; leftovers = c.leftovers })
  unfolding config_bytes
  state-bytes q = over_middle 0 [] s (z 0 ++ (z 1 ++ (z 2 ++ z 3))) (to_le 2 q.0) refl (length_to_le 2 q.0 ∙ sym (length_to_le 2 c.state.0))

  module _ (l : Leftover) (k : Good l) where
    abbrev x : List ℕ
    x = leftover_bytes l

    -- the configuration with another leftover of one pair
    abbrev pub with : ℕ → Config
    with i = record { state = c.state; leftovers = set c.leftovers i l }

    same : (i : ℕ) → i < 4 → leftover_bytes (get_or (set c.leftovers i l) i outside) ≡ x
    same i h = ap leftover_bytes (get_or-set_same c.leftovers i l outside (omega (arith, g.four)))

    other : (i j : ℕ) → (j ≡ i → ⊥) → leftover_bytes (get_or (set c.leftovers i l) j outside) ≡ z j
    other i j h = ap leftover_bytes (get_or-set_other c.leftovers i j l outside h)

    even : (i : ℕ) → i < 4 → length x ≡ length (z i)
    even i h = leftover_length l k ∙ sym (long i h)

    -- its bytes: those of the leftover written at its place
    pub slot-bytes : (i : ℕ) → i < 4 → splice (slot i) x (config_bytes c) ≡ config_bytes (with i)
    unfolding config_bytes
    slot-bytes zero h =
        over_middle 2 s (z 0) (z 1 ++ (z 2 ++ z 3)) x (length_to_le 2 c.state.0) (even 0 (omega arith))
        ∙ ap₂ (λ (a r : List ℕ). s ++ (a ++ r)) (sym (same 0 (omega arith)))
        (ap₂ (λ (b r : List ℕ). b ++ r) (sym (other 0 1 (λ e. absurd (omega arith)))) (ap₂ (λ (b r : List ℕ). b ++ r) (sym (other 0 2 (λ e. absurd (omega arith)))) (sym (other 0 3 (λ e. absurd (omega arith))))))
    slot-bytes (suc zero) h =
        let n : length (s ++ z 0) ≡ slot 1 = simp length-append (omega (arith, long 0 (omega arith), length_to_le 2 c.state.0)) in
        ap (splice (slot 1) x) (sym (append_assoc s (z 0) (z 1 ++ (z 2 ++ z 3))))
        ∙ over_middle (slot 1) (s ++ z 0) (z 1) (z 2 ++ z 3) x n (even 1 (omega arith)) ∙ append_assoc s (z 0) (x ++ (z 2 ++ z 3))
        ∙ ap₂ (λ (a r : List ℕ). s ++ (a ++ r)) (sym (other 1 0 (λ e. absurd (omega arith))))
        (ap₂ (λ (b r : List ℕ). b ++ r) (sym (same 1 (omega arith))) (ap₂ (λ (b r : List ℕ). b ++ r) (sym (other 1 2 (λ e. absurd (omega arith)))) (sym (other 1 3 (λ e. absurd (omega arith))))))
    slot-bytes (suc (suc zero)) h =
        let n : length ((s ++ z 0) ++ z 1) ≡ slot 2 = simp length-append (omega (arith, long 0 (omega arith), long 1 (omega arith), length_to_le 2 c.state.0)) in
        ap (splice (slot 2) x) (sym (append_assoc s (z 0) (z 1 ++ (z 2 ++ z 3))) ∙ sym (append_assoc (s ++ z 0) (z 1) (z 2 ++ z 3)))
        ∙ over_middle (slot 2) ((s ++ z 0) ++ z 1) (z 2) (z 3) x n (even 2 (omega arith)) ∙ append_assoc (s ++ z 0) (z 1) (x ++ z 3) ∙ append_assoc s (z 0) (z 1 ++ (x ++ z 3))
        ∙ ap₂ (λ (a r : List ℕ). s ++ (a ++ r)) (sym (other 2 0 (λ e. absurd (omega arith))))
        (ap₂ (λ (b r : List ℕ). b ++ r) (sym (other 2 1 (λ e. absurd (omega arith)))) (ap₂ (λ (b r : List ℕ). b ++ r) (sym (same 2 (omega arith))) (sym (other 2 3 (λ e. absurd (omega arith))))))
    slot-bytes (suc (suc (suc zero))) h =
        let n : length (((s ++ z 0) ++ z 1) ++ z 2) ≡ slot 3 =
        simp length-append (omega (arith, long 0 (omega arith), long 1 (omega arith), long 2 (omega arith), length_to_le 2 c.state.0)) in
        ap (splice (slot 3) x)
        (sym (append_assoc s (z 0) (z 1 ++ (z 2 ++ z 3))) ∙ sym (append_assoc (s ++ z 0) (z 1) (z 2 ++ z 3)) ∙ sym (append_assoc ((s ++ z 0) ++ z 1) (z 2) (z 3))
        ∙ ap (λ (r : List ℕ). (((s ++ z 0) ++ z 1) ++ z 2) ++ r) (sym (append-nil (z 3))))
        ∙ over_middle (slot 3) (((s ++ z 0) ++ z 1) ++ z 2) (z 3) [] x n (even 3 (omega arith)) ∙ ap (λ (r : List ℕ). (((s ++ z 0) ++ z 1) ++ z 2) ++ r) (append-nil x)
        ∙ append_assoc ((s ++ z 0) ++ z 1) (z 2) x ∙ append_assoc (s ++ z 0) (z 1) (z 2 ++ x) ∙ append_assoc s (z 0) (z 1 ++ (z 2 ++ x))
        ∙ ap₂ (λ (a r : List ℕ). s ++ (a ++ r)) (sym (other 3 0 (λ e. absurd (omega arith))))
        (ap₂ (λ (b r : List ℕ). b ++ r) (sym (other 3 1 (λ e. absurd (omega arith)))) (ap₂ (λ (b r : List ℕ). b ++ r) (sym (other 3 2 (λ e. absurd (omega arith)))) (sym (same 3 (omega arith)))))
    slot-bytes (suc (suc (suc (suc i)))) h = absurd (omega arith)

    -- it is in its one form where the pair is one of those used
    with_good : (i : ℕ) → i < used → used ≤ 4 → GoodConfig used (with i)
    with_good i h b = record {
      state_fits = g.state_fits;
      four = length-set c.leftovers i l ∙ g.four;
      each = All_set Good c.leftovers i l g.each k;
      blanks = drop-set-lt used c.leftovers i l h ∙ g.blanks;
    }

-- the bytes of a configuration in its one form are its record
row_of_lem : (used : ℕ) (c : Config) (row : List ℕ) → GoodConfig used c → row ≡ config_bytes c → Row used row × (config_at 0 row ≡ c)
row_of_lem used c row g e =
    let b : config_at 0 row ≡ c = ap (config_at 0) e ∙ config_back used c g in
    (record { good = subst (GoodConfig used) (sym b) g; bytes = ap config_bytes b ∙ sym e }, b)

-- a state is written over the one in a record
pub state-written : (used : ℕ) (row v : List ℕ) (q : InputState) → q.0 < 65536 → Row used row → v ≡ splice 0 (to_le 2 q.0) row
    → Row used v × (config_at 0 v ≡ record { state = q; leftovers = (config_at 0 row).leftovers })
state-written used row v q h r e =
    let g = r.good in
    row_of_lem used (record { state = q; leftovers = (config_at 0 row).leftovers }) v (record { state_fits = h; four = g.four; each = g.each; blanks = g.blanks })
    (e ∙ ap (splice 0 (to_le 2 q.0)) (sym r.bytes) ∙ state-bytes used (config_at 0 row) g q)

-- a leftover is written over the one of a pair
pub slot-written : (used i : ℕ) (row v : List ℕ) (l : Leftover) → i < used → used ≤ 4 → Good l → Row used row → v ≡ splice (slot i) (leftover_bytes l) row
    → Row used v × (config_at 0 v ≡ record { state = (config_at 0 row).state; leftovers = set (config_at 0 row).leftovers i l })
slot-written used i row v l h b k r e =
    row_of_lem used (with used (config_at 0 row) r.good l k i) v (with_good used (config_at 0 row) r.good l k i h b)
    (e ∙ ap (splice (slot i) (leftover_bytes l)) (sym r.bytes) ∙ slot-bytes used (config_at 0 row) r.good l k i (omega arith))

-- zeros are the record of the start in the first state
zero_bytes : config_bytes (record { state = record { 0 = 0 }; leftovers = blank ∷ blank ∷ blank ∷ blank ∷ [] }) ≡ replicate row_size 0
unfolding config_bytes leftover_bytes blank
zero_bytes = refl

-- the start: zeros behind the state
pub start-written : (q : InputState) (row : List ℕ) → q.0 < 65536 → row ≡ splice 0 (to_le 2 q.0) (replicate row_size 0) → Starts q.0 (config_at 0 row) × (config_bytes (config_at 0 row) ≡ row)
start-written q row h e =
    let t = starts-blank q blank h refl in
    let z : InputState = record { 0 = 0 } in
    let y = starts-blank z blank (omega arith) refl in
    let d : Config = record { state = q; leftovers = blank ∷ blank ∷ blank ∷ blank ∷ [] } in
    let f : config_bytes (record { state = z; leftovers = blank ∷ blank ∷ blank ∷ blank ∷ [] }) ≡ replicate row_size 0 = zero_bytes in
    let w = row_of_lem 4 d row (t.good 4) (e ∙ ap (splice 0 (to_le 2 q.0)) (sym f) ∙ state-bytes 4 (record { state = z; leftovers = blank ∷ blank ∷ blank ∷ blank ∷ [] }) (y.good 4) q) in
    (subst (Starts q.0) (sym w.1) t, w.0.bytes)

-- ---- the pairs one after the other

-- a configuration of which only the first i leftovers count
abbrev pub cut : ℕ → Config → Config
cut i d = record { state = d.state; leftovers = take i d.leftovers ++ replicate (4 - i) blank }

-- one leftover more
pub cut-next : (i : ℕ) (d : Config) (l : Leftover) → i < 4 → length d.leftovers ≡ 4
    → cut (i + 1) (record { state = d.state; leftovers = set d.leftovers i l }) ≡ record { state = d.state; leftovers = set (cut i d).leftovers i l }
cut-next i d l h e =
    ap (λ (ls : List Leftover). record { state = d.state; leftovers = ls })
    (subst (λ (ls : List Leftover). take (i + 1) (set ls i l) ++ replicate (4 - (i + 1)) blank ≡ set (take i ls ++ replicate (4 - i) blank) i l) (sym (four_elements outside d.leftovers e))
    (go i (get_or d.leftovers 0 outside) (get_or d.leftovers 1 outside) (get_or d.leftovers 2 outside) (get_or d.leftovers 3 outside) h))
  where
    go : (i : ℕ) (a b f k : Leftover) → i < 4
        → take (i + 1) (set (a ∷ b ∷ f ∷ k ∷ []) i l) ++ replicate (4 - (i + 1)) blank ≡ set (take i (a ∷ b ∷ f ∷ k ∷ []) ++ replicate (4 - i) blank) i l
    go zero a b f k h = refl
    go (suc zero) a b f k h = refl
    go (suc (suc zero)) a b f k h = refl
    go (suc (suc (suc zero))) a b f k h = refl
    go (suc (suc (suc (suc i)))) a b f k h = absurd (omega arith)

-- all of them
pub cut_end : (used : ℕ) (d : Config) → GoodConfig used d → cut used d ≡ d
cut_end used d g =
    ap (λ (ls : List Leftover). record { state = d.state; leftovers = ls })
    (ap (λ (r : List Leftover). take used d.leftovers ++ r) (sym g.blanks) ∙ take-append-drop used d.leftovers)
