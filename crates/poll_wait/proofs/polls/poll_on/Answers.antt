use Rattle.std.proofs.Common.{◌∙◌}
use Rattle.poll_wait.proofs.Turning.{polling_done, polling_ends, polling_none, polling_on}
use Rattle.poll_wait.proofs.polls.poll_on.Goals as goal

pub loop-init : goal.loop-init
loop-init g c = polling_none c.args.poll c.args.task.now c.requires.may

pub turn-requires-clause-of : goal.turn-requires-clause-of
turn-requires-clause-of g c = c.loop.invariant.carries.domain ∙ c.requires.of

pub turn-requires-clause-may : goal.turn-requires-clause-may
turn-requires-clause-may g c = c.loop.invariant.may

pub loop-preserved : goal.loop-preserved
loop-preserved g c = polling_on c.args.poll c.args.task.now c.loop.task c.turn.new.task c.loop.invariant
    c.in-None-turn.ensures.goes c.in-None-turn.ensures.ends

pub returns-in-Some-turn-clause-goes : goal.returns-in-Some-turn-clause-goes
returns-in-Some-turn-clause-goes g c = polling_ends c.args.poll c.args.task.now c.loop.task c.turn.new.task
    c.in-Some-turn.end c.loop.invariant c.in-Some-turn.ensures.goes

pub returns-in-Some-turn-clause-ends : goal.returns-in-Some-turn-clause-ends
returns-in-Some-turn-clause-ends g c = polling_done c.args.poll c.args.task.now c.loop.task c.turn.new.task
    c.loop.invariant c.in-Some-turn.ensures.ends
