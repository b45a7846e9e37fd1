use Rattle.cases_delays.proofs.TableFacts.{four_arcs, sound_lent}
use Rattle.cases_delays.specs.Tables.{arcs_bytes, counts_of}
use native.Mathlib.Omega.{arith}
use Rattle.cases_delays.proofs.show.Goals as goal

pub closing_tables-requires : goal.closing_tables-requires
closing_tables-requires c =
    let s = c in (
      sound_lent (counts_of s.args.size) _ (arcs_bytes s.args.a s.args.b s.args.c s.args.d) _ _ c.state_records-states.ensures
          (four_arcs s.args.a s.args.b s.args.c s.args.d _ _ _ _ c.put_arc.ensures c.put_arc-2.ensures c.put_arc-3.ensures c.put_arc-4.ensures) s.requires.1,
      omega (arith, s.requires.0),
      s.requires.2,
    )
