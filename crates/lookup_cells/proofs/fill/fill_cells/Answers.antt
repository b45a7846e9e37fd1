use Rattle.lookup_cells.proofs.FillFacts.{chains_ask}
use Rattle.lookup_cells.proofs.RecallFacts.{fresh_none}
use Rattle.lookup_cells.proofs.QueueFacts.{queue_none}
use Rattle.table.specs.Answers.{memory}
use Rattle.table.proofs.SoundFacts.{few_tapes}
use Rattle.lookup_cells.proofs.fill.fill_cells.Goals as goal

pub chain_arcs-requires : goal.chain_arcs-requires
chain_arcs-requires c =
    let k = chains_ask _ _ _ _ _ _ c.requires in
    (k.0, k.1, k.2, c.no_chains-index.ensures)

pub number_labels-requires : goal.number_labels-requires
number_labels-requires c =
    let k = chains_ask _ _ _ _ _ _ c.requires in
    (k.0, k.1, few_tapes (memory c.args.table.now) c.requires.sound, c.no_numbers-numbers.ensures)

pub fill-requires : goal.fill-requires
fill-requires c = (
  c.requires,
  record { chained = c.chain_arcs.ensures; lined = queue_none _ c.no_states-queue.ensures },
  c.number_labels.ensures,
  fresh_none _ c.no_memo-memo.ensures,
)
