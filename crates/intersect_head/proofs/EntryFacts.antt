-- The hash of a record, leftover by leftover, and which rows may be entered.
use Prim.Native.Nat.{ℕ, zero, suc, ◌+◌, ◌-◌, ◌*◌, ◌/◌, ◌≤◌, ◌<◌}
use mathlib.Core.Path.{◌≡◌, sym, ap, ap₂, ◌∙◌, subst}
use mathlib.Core.List.{List}
use native.Mathlib.Omega.{arith}
use native.Mathlib.Nat.{sub-zero}
use mathlib.Core.Bool.{Bool}
use lib.ListN.{length, get_or}
use Rattle.automata.specs.Limits.{max_delay}
use Rattle.automata.specs.Layout.{config_size}
use Rattle.search_chains.specs.Hash.{hash_from}
use Rattle.intersect_config.specs.Leftovers.{outside, leftover_size}
use Rattle.intersect_config.specs.Configs.{Config, config_as, GoodConfig, config_bytes, config_at}
use Rattle.intersect_config.proofs.RowFacts.{len_in_slot, length_row}
use Rattle.intersect_offers.specs.declared.plan.Plan.{Plan}
use Rattle.intersect_offers.specs.Plans.{Explorable, StoredIn}
use Rattle.intersect_offers.proofs.FormFacts.{form_back}
use Rattle.intersect_head.specs.Searching.{ConfigSearch, Holds, hash_slots, Enterable}
use Rattle.intersect_head.specs.declared.head.Head.{Head}

-- before the first leftover
pub slots_start : (n x h : ℕ) (row : List ℕ) → x ≡ h → hash_slots (n - 0) (2 + leftover_size * 0) x row ≡ hash_slots n 2 h row
slots_start n x h row e = ap₂ (λ (k y : ℕ). hash_slots k 2 y row) (sub-zero n) e

-- one leftover more
pub slots_step : (n i h words x : ℕ) (row : List ℕ) → i < n → words ≡ (get_or row (2 + leftover_size * i + 1) 0 + 9) / 8 → x ≡ hash_from words (2 + leftover_size * i) h row
    → hash_slots (n - (i + 1)) (2 + leftover_size * (i + 1)) x row ≡ hash_slots (n - i) (2 + leftover_size * i) h row
unfolding hash_slots
slots_step n i h words x row l e f =
    let z : n - i ≡ suc (n - (i + 1)) = omega arith in
    let a : 2 + leftover_size * (i + 1) ≡ 2 + leftover_size * i + leftover_size = omega arith in
    ap₂ (λ (k y : ℕ). hash_slots (n - (i + 1)) k y row) a (f ∙ ap (λ (w : ℕ). hash_from w (2 + leftover_size * i) h row) e) ∙ sym (ap (λ (k : ℕ). hash_slots k (2 + leftover_size * i) h row) z)

-- after the last
pub slots_end : (n i h : ℕ) (row : List ℕ) → n ≤ i → h ≡ hash_slots (n - i) (2 + leftover_size * i) h row
unfolding hash_slots
slots_end n i h row l = let z : n - i ≡ zero = omega arith in sym (ap (λ (k : ℕ). hash_slots k (2 + leftover_size * i) h row) z)

-- the words of a leftover are within the record
pub words_fit : (used i words : ℕ) (row : List ℕ) → Enterable used row → i < used → words ≡ (get_or row (2 + leftover_size * i + 1) 0 + 9) / 8 → 2 + leftover_size * i + 8 * words ≤ length row
words_fit used i words row e h w =
    let s : 2 + leftover_size * i + 1 ≡ 3 + leftover_size * i = omega arith in
    let l = e.short i h in
    let n : get_or row (2 + leftover_size * i + 1) 0 ≤ max_delay = rw (ap (λ (k : ℕ). get_or row k 0) s ∙ len_in_slot i row (omega (arith, h, e.four))) l in
    let m : words ≤ 9 = omega (arith, w, n) in
    omega (arith, m, h, e.four, length_row used row e.row_is)

-- a configuration that may be stored may be entered
may_enter_row : (p : Plan) (states arcs row : List ℕ) (size : ℕ) → Explorable p states arcs size → GoodConfig p.pairs.used (config_at 0 row)
    → StoredIn p (config_as p.pairs.used (config_at 0 row)) → config_bytes (config_at 0 row) ≡ row → Enterable p.pairs.used row
may_enter_row p states arcs row size x g s b =
    let e = form_back p.pairs.used (config_at 0 row) x.named.used_fit g in
    record {
      row_is = record { good = g; bytes = b };
      four = x.named.used_fit;
      short = λ i h.
          let l = subst (λ (c : Config). (get_or c.leftovers i outside).len ≤ max_delay) e (s.short i h) in
          omega (arith, l);
    }

-- what entering it asks
pub enter_fits : (p : Plan) (h : Head) (states arcs row v : List ℕ) (s : ConfigSearch) (late : Bool) → Explorable p states arcs (length v) → Holds p states arcs h s late v
    → GoodConfig p.pairs.used (config_at 0 row) → StoredIn p (config_as p.pairs.used (config_at 0 row)) → config_bytes (config_at 0 row) ≡ row
    → (config_size * p.room.states ≤ length v) × (h.reached ≤ p.room.states) × (p.room.states ≤ 1024) × Enterable p.pairs.used row
enter_fits p h states arcs row v s late x o g m b = (
  omega (arith, x.configs_fit, x.edges_fit, x.delays_fit),
  omega (arith, o.reached, o.fits),
  x.few_states,
  may_enter_row p states arcs row (length v) x g m b,
)
