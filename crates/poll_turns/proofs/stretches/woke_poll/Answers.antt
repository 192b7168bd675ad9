use Rattle.poll_turns.proofs.Sleeping.{woke_as, woke_stands}
use Rattle.poll_turns.proofs.stretches.woke_poll.Goals as goal

pub returns-clause-looked : goal.returns-clause-looked
returns-clause-looked c = let s = c.awake.ensures.step in (s.0, s.2, s.3)

pub returns-clause-came : goal.returns-clause-came
returns-clause-came c b start x =
    let s = c.awake.ensures.step in
    woke_as b c.args.poll c.requires.poll start c.args.task.now c.awake.new.task c.args.stage s.0 s.2 c.awake.result s.3 x

pub returns-clause-stands : goal.returns-clause-stands
returns-clause-stands c =
    let x = c.requires.asleep in
    woke_stands x.0 c.args.poll x.1 c.awake.new.task c.args.stage c.awake.result (returns-clause-came c x.0 x.1 x.2)
