use Rattle.swait_queue.proofs.SwakeHolds.{fits}
use Rattle.swait_queue.proofs.wakes.swake.Goals as goal

pub pause-looks-requires : goal.pause-looks-requires
pause-looks-requires g c = record {
  head = fits c.args.cond c.head_of-head.result c.requires.simple c.head_of-head.ensures;
}
