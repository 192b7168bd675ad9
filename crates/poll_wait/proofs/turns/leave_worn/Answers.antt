use Rattle.std.proofs.Common.{refl, subst, sym}
use Rattle.poll_wait.specs.Polls.{EndsLast, ready_of}
use Rattle.poll_wait.proofs.{Polled.still_has, Sleeping.done_by, Sleeping.worn_goes}
use Rattle.poll_wait.proofs.turns.leave_worn.Goals as goal

pub leave_both-requires-clause-has : goal.leave_both-requires-clause-has
leave_both-requires-clause-has g c = still_has c.args.poll c.requires.poll (λ σ. σ) c.args.task.now
    c.load_both-seen.new.task c.load_both-seen.ensures.carries c.requires.has

pub returns-clause-goes : goal.returns-clause-goes
returns-clause-goes g c old none = subst (EndsLast c.args.poll old c.leave_both.new.task) (sym c.worn_end.ensures)
    (worn_goes c.args.poll c.args.task.now c.load_both-seen.new.task c.leave_both.new.task c.load_both-seen.result
    c.load_both-seen.ensures.loaded c.args.worn c.leave_both.ensures.left old none
    (ready_of c.args.poll c.load_both-seen.result) refl)

pub returns-clause-ends : goal.returns-clause-ends
returns-clause-ends g c = done_by c.args.task.now c.load_both-seen.new.task c.leave_both.new.task
    c.load_both-seen.ensures.carries c.leave_both.ensures.up c.leave_both.ensures.out c.leave_both.ensures.out_second
    c.leave_both.ensures.carries
