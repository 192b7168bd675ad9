use Rattle.wait_pipe.proofs.Peeked.{peeks_so}
use Rattle.wait_pipe.proofs.peeks.peek_read.Goals as goal

pub returns-clause-goes : goal.returns-clause-goes
returns-clause-goes c = peeks_so c.args.pipe c.args.task.now c.load_over-look.new.task c.load_over-look.result
    c.load_over-look.ensures.seen (c.load_over-look.ensures.looked.settled c.requires.settled) c.between-cells.result
    c.between-cells.ensures c.load_over-look.ensures.loads
