-- The step of a configuration by an arc, read from its record in a table's bytes.
use Rattle.std.specs.Prelude.{◌≡◌, Bool, true, false, List, [], ◌∷◌, map, ℕ, zero, suc, ◌+◌, ◌-◌, ◌≤◌, ◌<◌, length, get_or, take}
use Rattle.std.proofs.Math.Option.{Option, none, some}
use Rattle.automata.specs.Lists.{guard}
use Rattle.automata.specs.Automaton.{Arc, label_on}
use Rattle.automata.specs.TapePair.{reading}
use Rattle.automata.specs.Leftover as leftover
use Rattle.automata.specs.Config as automata
use Rattle.automata.specs.Layout.{arc_size}
use Rattle.automata.specs.Limits.{max_delay}
use Rattle.table.specs.Region.{part, splice}
use Rattle.table.specs.Arcs.{target_at, label_place}
use Rattle.table.specs.Pairs.{Named, Within, no_pair, pairs_as}
use Rattle.table.specs.declared.record.Label.{Label}
use Rattle.table.specs.declared.pair.Pair.{Pair}
use Rattle.table.specs.declared.pair.PairList.{PairList}
use Rattle.intersect_config.specs.declared.leftover.Leftover.{Leftover}
use Rattle.intersect_config.specs.Leftovers.{outside, leftover_as, label_of, leftover_bytes, leftover_at, Good}
use Rattle.intersect_config.specs.Configs.{Config, config_as, GoodConfig, config_at, config_bytes, slot, row_size}

-- the label on a tape, counted from 1, in the record of an arc
unfoldable pub label_at : ℕ → ℕ → List ℕ → Label
label_at at tape xs = record { len = get_or xs (label_place at (tape - 1)) 0; symbols = part (label_place at (tape - 1) + 1) 8 xs }

-- the first bytes read
unfoldable pub read_to : ℕ → List ℕ → List ℕ
read_to zero xs = xs
read_to (suc i) [] = []
read_to (suc i) (x ∷ xs) = reading x ∷ read_to i xs

-- a label as it is compared: its symbols read
unfoldable pub read_label : Label → Label
read_label x = record { len = x.len; symbols = read_to x.len x.symbols }

-- what is left of one pair after the arc whose record stands at a place: its labels are read, and so are leftovers
abbrev pub pair_after : ℕ → List ℕ → Pair → Leftover → Option leftover.Leftover
pair_after at arcs p l =
    leftover.advance (leftover_as l) (map reading (label_of (label_at at p.first arcs))) (map reading (label_of (label_at at p.second arcs)))

-- the bytes at a place are the record of the arc a of a table with so many tapes
pub record Reads (arcs : List ℕ) (at tapes : ℕ) (a : Arc ℕ) : Type 0 where
  pub whole : at + arc_size ≤ length arcs
  pub tapes_fit : tapes ≤ 8
  pub target : a.target ≡ target_at at arcs
  pub label : (i : ℕ) → i < tapes → label_on i a ≡ take (get_or arcs (label_place at i) 0) (part (label_place at i + 1) 8 arcs)
  pub label_fits : (i : ℕ) → i < tapes → get_or arcs (label_place at i) 0 ≤ 8

-- what following an arc asks: its record is whole, the pairs name tapes, their labels and the leftovers are no longer
-- than allowed
pub record Followable (c : Config) (arcs : List ℕ) (at : ℕ) (ps : PairList) : Type 0 where
  pub whole : at + arc_size ≤ length arcs
  pub named : Named 8 ps
  pub good : GoodConfig ps.used c
  pub first_fits : (h : ℕ) → h < ps.used → get_or arcs (label_place at ((get_or ps.pairs h no_pair).first - 1)) 0 ≤ 8
  pub second_fits : (h : ℕ) → h < ps.used → get_or arcs (label_place at ((get_or ps.pairs h no_pair).second - 1)) 0 ≤ 8
  pub short : (h : ℕ) → h < ps.used → (get_or c.leftovers h outside).len ≤ max_delay

-- the configuration after an arc, if the tapes of every pair are still compatible
pub record Followed : Type 0 where
  pub compatible : Bool
  pub config : Config

-- what an answer stands for, of so many pairs
abbrev pub followed_as : ℕ → Followed → Option automata.Config
followed_as used r = guard r.compatible (some (config_as used r.config))

-- the answer stands for the configuration after the arc, whichever table it is of, and is in its one form
pub record Follows (c : Config) (arcs : List ℕ) (at : ℕ) (ps : PairList) (r : Followed) : Type 0 where
  pub meaning : (tapes : ℕ) (a : Arc ℕ) → Named tapes ps → Reads arcs at tapes a
      → followed_as ps.used r ≡ automata.follow (pairs_as ps) (config_as ps.used c) a
  pub good : GoodConfig ps.used r.config

-- ---- in records

-- what advancing pair i asks of the bytes of a configuration, of an arc and of the row
pub record Advanceable (own arcs : List ℕ) (at : ℕ) (p : Pair) (i : ℕ) (row : List ℕ) : Type 0 where
  pub within : i < 4
  pub whole : length own ≡ row_size
  pub row_whole : length row ≡ row_size
  pub arc_whole : at + arc_size ≤ length arcs
  pub named : Within 8 p
  pub short : (leftover_at (slot i) own).len ≤ max_delay
  pub first_fits : get_or arcs (label_place at (p.first - 1)) 0 ≤ 8
  pub second_fits : get_or arcs (label_place at (p.second - 1)) 0 ≤ 8

-- o is what is left of a pair: written at its place where the tapes are compatible, else nothing is
abbrev pub AdvancesAt : Option leftover.Leftover → ℕ → List ℕ → Bool → List ℕ → Type 0
AdvancesAt o at v false w = (o ≡ none) × (w ≡ v)
AdvancesAt o at v true w = (l : Leftover) × (((o ≡ some (leftover_as l)) × Good l) × (w ≡ splice at (leftover_bytes l) v))

-- the row holds the configuration after the arc of the one in own, if the tapes of every pair are still compatible, and
-- some configuration anyway
pub record FollowsIn (own arcs : List ℕ) (at : ℕ) (ps : PairList) (r : Bool) (row : List ℕ) : Type 0 where
  pub step : Follows (config_at 0 own) arcs at ps (record { compatible = r; config = config_at 0 row })
  pub bytes : config_bytes (config_at 0 row) ≡ row
