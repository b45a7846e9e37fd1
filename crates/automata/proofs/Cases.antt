-- Document 01's worked cases: what the definitions answer in every case of the table is what the paper says.
use mathlib.Core.Path.{◌≡◌, refl}
use mathlib.Core.List.{List, map}
use Prim.Native.Nat.{ℕ, ◌-◌}
use Rattle.automata.specs.Automaton.{Automaton}
use Rattle.automata.specs.TapePair.{Pair, reading}
use Rattle.automata.specs.Closing.{least_delays, closing_tables, viable}
use Rattle.automata.specs.Explore.{reached, edges}
use Rattle.automata.specs.Trim.{trimmed}
use Rattle.automata.specs.Intersect.{starts, candidate, candidates, out, reached_configs, delayed, assemble, intersect_by, intersect}
use Rattle.automata.specs.IntersectCall.{intersect_on, intersect_call}
use Rattle.automata.specs.Product.{cross_product, product}
use Rattle.automata.specs.TableText.{read_table, write_table}
use Rattle.automata.specs.AgreeText.{read_pairs, read_input, write_output}
use Rattle.automata.specs.Agree.{agree}
use Rattle.automata.specs.Join.{join}
use Rattle.automata.specs.Lookup.{lookup}
use Rattle.automata.specs.LookupCall.{lookup_call}
use Rattle.automata.specs.Cases.{Case, cases, given, delays}

-- every case of the table comes out as expected, by computation
pub cases_hold : map (λ (c : Case). given c.0) cases ≡ map (λ (c : Case). c.1) cases
unfolding reading reached edges trimmed starts candidate candidates out reached_configs delayed assemble intersect_by intersect
    closing_tables viable intersect_on intersect_call cross_product product read_table write_table read_pairs read_input write_output agree
    join lookup lookup_call
cases_hold = refl

-- and so do the closing delays of these tables
pub delays_hold : map (λ (d : Automaton ℕ × Pair × List ℕ). least_delays d.0 (d.1.first - 1) (d.1.second - 1)) delays
    ≡ map (λ (d : Automaton ℕ × Pair × List ℕ). d.2) delays
delays_hold = refl
