use Rattle.std.proofs.Common.{subst}
use Rattle.poll_turns.specs.PollSteps.{IsAtHold, JoinsFirst}
use Rattle.poll_turns.proofs.Serving.{join_head, join_home, join_second_head, join_second_home, join_store, pare_home}
use Rattle.poll_turns.proofs.Serving.{pare_second_home, works_as, works_over, works_pared, works_queued, works_tried, works_worn}
use Rattle.poll_turns.proofs.tickets.work_held.Goals as goal

pub join_first-requires-clause-head : goal.join_first-requires-clause-head
join_first-requires-clause-head c = join_head c.args.poll c.requires.poll c.args.task.now c.in-HoldFirst.field-0
    (subst (IsAtHold c.args.poll c.args.task.now) c.in-HoldFirst.is c.requires.at)

pub join_first-requires-clause-may : goal.join_first-requires-clause-may
join_first-requires-clause-may c = join_store c.args.poll c.requires.poll c.args.task.now c.in-HoldFirst.field-0
    (subst (IsAtHold c.args.poll c.args.task.now) c.in-HoldFirst.is c.requires.at)

pub join_first-requires-clause-home : goal.join_first-requires-clause-home
join_first-requires-clause-home c = join_home c.args.poll c.requires.poll c.args.task.now c.in-HoldFirst.field-0
    (subst (IsAtHold c.args.poll c.args.task.now) c.in-HoldFirst.is c.requires.at)

pub returns-in-Ok-clause-works : goal.returns-in-Ok-clause-works
returns-in-Ok-clause-works c = works_as c.args.poll c.args.task.now c.join_first.new.task c.args.stage _ _ c.in-HoldFirst.is
    (works_queued c.args.poll c.requires.poll c.args.task.now c.in-HoldFirst.field-0
    (subst (IsAtHold c.args.poll c.args.task.now) c.in-HoldFirst.is c.requires.at) c.join_first.new.task c.in-Ok.field-0
    (subst (JoinsFirst c.args.poll c.args.task.now c.join_first.new.task) c.in-Ok.is c.join_first.ensures.joins))

pub returns-in-Err-clause-works : goal.returns-in-Err-clause-works
returns-in-Err-clause-works c = works_as c.args.poll c.args.task.now c.join_first.new.task c.args.stage _ _ c.in-HoldFirst.is
    (works_worn c.args.poll c.requires.poll c.args.task.now c.in-HoldFirst.field-0
    (subst (IsAtHold c.args.poll c.args.task.now) c.in-HoldFirst.is c.requires.at) c.join_first.new.task c.in-Err.worn
    (subst (JoinsFirst c.args.poll c.args.task.now c.join_first.new.task) c.in-Err.is c.join_first.ensures.joins))

pub join_held-queued-requires-clause-head : goal.join_held-queued-requires-clause-head
join_held-queued-requires-clause-head c = join_second_head c.args.poll c.requires.poll c.args.task.now
    c.in-HoldSecond.field-0 (subst (IsAtHold c.args.poll c.args.task.now) c.in-HoldSecond.is c.requires.at)

pub join_held-queued-requires-clause-home : goal.join_held-queued-requires-clause-home
join_held-queued-requires-clause-home c = join_second_home c.args.poll c.requires.poll c.args.task.now
    c.in-HoldSecond.field-0 (subst (IsAtHold c.args.poll c.args.task.now) c.in-HoldSecond.is c.requires.at)

pub returns-in-HoldSecond-clause-works : goal.returns-in-HoldSecond-clause-works
returns-in-HoldSecond-clause-works c = works_as c.args.poll c.args.task.now c.join_held-queued.new.task c.args.stage _ _
    c.in-HoldSecond.is
    (works_tried c.args.poll c.requires.poll c.args.task.now c.in-HoldSecond.field-0
    (subst (IsAtHold c.args.poll c.args.task.now) c.in-HoldSecond.is c.requires.at) c.join_held-queued.new.task
    c.join_held-queued.result c.join_held-queued.ensures.joins)

pub pare_first-requires-clause-home : goal.pare_first-requires-clause-home
pare_first-requires-clause-home c = pare_home c.args.poll c.requires.poll c.args.task.now c.in-HoldTakeFirst.end
    c.in-HoldTakeFirst.field-1 c.in-HoldTakeFirst.field-2
    (subst (IsAtHold c.args.poll c.args.task.now) c.in-HoldTakeFirst.is c.requires.at)

pub returns-in-HoldTakeFirst-clause-works : goal.returns-in-HoldTakeFirst-clause-works
returns-in-HoldTakeFirst-clause-works c = works_as c.args.poll c.args.task.now c.pare_first.new.task c.args.stage _ _
    c.in-HoldTakeFirst.is
    (works_pared c.args.poll c.requires.poll c.args.task.now c.in-HoldTakeFirst.end c.in-HoldTakeFirst.field-1
    c.in-HoldTakeFirst.field-2 (subst (IsAtHold c.args.poll c.args.task.now) c.in-HoldTakeFirst.is c.requires.at)
    c.pare_first.new.task c.pare_first.result c.pare_first.ensures.pares)

pub pare_second-requires-clause-home : goal.pare_second-requires-clause-home
pare_second-requires-clause-home c = pare_second_home c.args.poll c.requires.poll c.args.task.now c.in-HoldTakeSecond.end
    c.in-HoldTakeSecond.field-1 c.in-HoldTakeSecond.field-2
    (subst (IsAtHold c.args.poll c.args.task.now) c.in-HoldTakeSecond.is c.requires.at)

pub returns-in-HoldTakeSecond-clause-works : goal.returns-in-HoldTakeSecond-clause-works
returns-in-HoldTakeSecond-clause-works c = works_as c.args.poll c.args.task.now c.pare_second.new.task c.args.stage _ _
    c.in-HoldTakeSecond.is
    (works_over c.args.poll c.requires.poll c.args.task.now c.in-HoldTakeSecond.end c.in-HoldTakeSecond.field-1
    c.in-HoldTakeSecond.field-2 (subst (IsAtHold c.args.poll c.args.task.now) c.in-HoldTakeSecond.is c.requires.at)
    c.pare_second.new.task c.pare_second.result c.pare_second.ensures.pares)
