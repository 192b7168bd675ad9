use Rattle.poll_turns.proofs.stretches.stretch_poll.Goals as goal

pub returns-clause-stands : goal.returns-clause-stands
returns-clause-stands c =
    let x = c.requires.at in
    (x.0, x.1, c.go_on.ensures.goes.came x.0 x.1 x.2)

pub returns-clause-came : goal.returns-clause-came
returns-clause-came c = c.go_on.ensures.goes.came

pub returns-clause-did : goal.returns-clause-did
returns-clause-did c = c.go_on.ensures.goes.did
