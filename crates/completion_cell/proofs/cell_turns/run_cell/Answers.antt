use Rattle.completion_cell.proofs.CellDraws.{fits}
use Rattle.completion_cell.proofs.cell_turns.run_cell.Goals as goal

pub pause-looks-requires : goal.pause-looks-requires
pause-looks-requires g c = record {
  head = fits c.args.cell c.head_of-head.result c.requires.there c.head_of-head.ensures;
}
