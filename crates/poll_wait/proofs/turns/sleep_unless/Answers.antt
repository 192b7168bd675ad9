use Rattle.std.proofs.Common.{◌∙◌, sym}
use Rattle.poll_wait.proofs.{Polled.still_has, Sleeping.done_by, Sleeping.ready_goes}
use Rattle.poll_wait.proofs.turns.sleep_unless.Goals as goal

pub leave_both-requires-clause-has : goal.leave_both-requires-clause-has
leave_both-requires-clause-has g c = still_has c.args.poll c.requires.poll (λ σ. σ) c.args.task.now
    c.load_both-loads.new.task c.load_both-loads.ensures.carries c.requires.has

pub returns-in-Some-clause-goes : goal.returns-in-Some-clause-goes
returns-in-Some-clause-goes g c = ready_goes c.args.poll c.args.task.now c.load_both-loads.new.task
    c.leave_both.new.task c.load_both-loads.result c.load_both-loads.ensures.loaded c.in-Some.ready
    (sym c.ready.ensures ∙ c.in-Some.is) c.leave_both.ensures.left

pub returns-in-Some-clause-ends : goal.returns-in-Some-clause-ends
returns-in-Some-clause-ends g c = done_by c.args.task.now c.load_both-loads.new.task c.leave_both.new.task
    c.load_both-loads.ensures.carries c.leave_both.ensures.up c.leave_both.ensures.out c.leave_both.ensures.out_second
    c.leave_both.ensures.carries
