use Rattle.table.proofs.RecordFacts.{weight-absent, weight_present}
use Rattle.table.proofs.record.load_weight.Goals as goal

pub returns-then-bytes-at-eq-ABSENT : goal.returns-then-bytes-at-eq-ABSENT
returns-then-bytes-at-eq-ABSENT c = weight-absent c.args.at c.args.bytes.now c.if-bytes-at-eq-ABSENT.true

pub returns-else-bytes-at-eq-ABSENT : goal.returns-else-bytes-at-eq-ABSENT
returns-else-bytes-at-eq-ABSENT c = weight_present c.args.at c.args.bytes.now _ c.if-bytes-at-eq-ABSENT.false c.get32.ensures
