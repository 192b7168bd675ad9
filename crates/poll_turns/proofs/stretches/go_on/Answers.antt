use Rattle.std.proofs.Common.{refl, rules}
use Rattle.poll_turns.specs.declared.stages.PollStage.TheVariants as stage
use Rattle.poll_turns.proofs.Holding.{low_head}
use Rattle.poll_turns.proofs.Serving.{first_goes, first_stands, goes_as, passes_none, second_goes, second_stands, stands_as}
use Rattle.poll_turns.proofs.stretches.go_on.Goals as goal

pub load_first-requires-clause-at : goal.load_first-requires-clause-at
load_first-requires-clause-at c = stands_as c.args.poll c.args.task.now c.args.stage _ c.in-First.is c.requires.at

pub returns-in-First-clause-goes : goal.returns-in-First-clause-goes
returns-in-First-clause-goes c = passes_none c.args.poll c.args.task.now c.load_first.new.task c.args.passing.now.head
    c.args.stage _ c.load_first.result c.requires.passes c.in-First.is c.load_first.ensures.goes

pub draw_lock-ticket-requires : goal.draw_lock-ticket-requires
draw_lock-ticket-requires c =
    let x = stands_as c.args.poll c.args.task.now c.args.stage stage.QueueFirst c.in-QueueFirst.is c.requires.at in record {
      of = search rules;
      up = x.2.may.has.up;
      free = x.2.may.has.free;
      head = low_head c.args.poll.first c.head_of-head.result c.head_of-head.ensures c.requires.poll.first;
    }

pub hold-requires-clause-at : goal.hold-requires-clause-at
hold-requires-clause-at c =
    let d = c.draw_lock-ticket in
    first_stands c.args.poll c.args.task.now d.new.task c.head_of-head.result d.result
    c.head_of-head.ensures c.told.ensures d.ensures.awaits
    (stands_as c.args.poll c.args.task.now c.args.stage stage.QueueFirst c.in-QueueFirst.is c.requires.at)

pub hold-requires-clause-awaits : goal.hold-requires-clause-awaits
hold-requires-clause-awaits c = (c.head_of-head.ensures, refl)

pub returns-in-QueueFirst-clause-goes : goal.returns-in-QueueFirst-clause-goes
returns-in-QueueFirst-clause-goes c =
    let d = c.draw_lock-ticket in
    let h = c.hold in
    goes_as c.args.poll c.args.task.now h.new.task h.new.passing.head c.args.stage stage.QueueFirst h.result c.in-QueueFirst.is
    (first_goes c.args.poll c.args.task.now d.new.task h.new.task c.head_of-head.result d.result
    h.new.passing.head h.result c.head_of-head.ensures c.told.ensures d.ensures.awaits h.ensures.goes)

pub hold-requires-in-HoldFirst-clause-awaits : goal.hold-requires-in-HoldFirst-clause-awaits
hold-requires-in-HoldFirst-clause-awaits c = (c.head_of-head-in-HoldFirst.ensures, refl)

pub draw_lock-ticket-requires-in-QueueSecond : goal.draw_lock-ticket-requires-in-QueueSecond
draw_lock-ticket-requires-in-QueueSecond c =
    let x = stands_as c.args.poll c.args.task.now c.args.stage stage.QueueSecond c.in-QueueSecond.is c.requires.at in record {
      of = search rules;
      up = x.2.within.has.up;
      free = x.2.within.has.free;
      head = low_head c.args.poll.second c.head_of-head-in-QueueSecond.result c.head_of-head-in-QueueSecond.ensures c.requires.poll.second;
    }

pub hold-requires-in-QueueSecond-clause-at : goal.hold-requires-in-QueueSecond-clause-at
hold-requires-in-QueueSecond-clause-at c =
    let d = c.draw_lock-ticket-in-QueueSecond in
    second_stands c.args.poll c.args.task.now d.new.task c.head_of-head-in-QueueSecond.result d.result
    c.head_of-head-in-QueueSecond.ensures c.told.ensures d.ensures.awaits
    (stands_as c.args.poll c.args.task.now c.args.stage stage.QueueSecond c.in-QueueSecond.is c.requires.at)

pub hold-requires-in-QueueSecond-clause-awaits : goal.hold-requires-in-QueueSecond-clause-awaits
hold-requires-in-QueueSecond-clause-awaits c = (c.head_of-head-in-QueueSecond.ensures, refl)

pub returns-in-QueueSecond-clause-goes : goal.returns-in-QueueSecond-clause-goes
returns-in-QueueSecond-clause-goes c =
    let d = c.draw_lock-ticket-in-QueueSecond in
    let h = c.hold-in-QueueSecond in
    goes_as c.args.poll c.args.task.now h.new.task h.new.passing.head c.args.stage stage.QueueSecond h.result c.in-QueueSecond.is
    (second_goes c.args.poll c.args.task.now d.new.task h.new.task c.head_of-head-in-QueueSecond.result d.result
    h.new.passing.head h.result c.head_of-head-in-QueueSecond.ensures c.told.ensures d.ensures.awaits h.ensures.goes)

pub hold-requires-in-HoldSecond-clause-awaits : goal.hold-requires-in-HoldSecond-clause-awaits
hold-requires-in-HoldSecond-clause-awaits c = (c.head_of-head-in-HoldSecond.ensures, refl)

pub load_queued-requires-clause-at : goal.load_queued-requires-clause-at
load_queued-requires-clause-at c = stands_as c.args.poll c.args.task.now c.args.stage _ c.in-Load.is c.requires.at

pub returns-in-Load-clause-goes : goal.returns-in-Load-clause-goes
returns-in-Load-clause-goes c = passes_none c.args.poll c.args.task.now c.load_queued.new.task c.args.passing.now.head
    c.args.stage _ c.load_queued.result c.requires.passes c.in-Load.is c.load_queued.ensures.goes

pub ask-requires-clause-at : goal.ask-requires-clause-at
ask-requires-clause-at c = stands_as c.args.poll c.args.task.now c.args.stage _ c.in-Ask.is c.requires.at

pub returns-in-Ask-clause-goes : goal.returns-in-Ask-clause-goes
returns-in-Ask-clause-goes c = passes_none c.args.poll c.args.task.now c.ask.new.task c.args.passing.now.head
    c.args.stage _ c.ask.result c.requires.passes c.in-Ask.is c.ask.ensures.goes

pub sleep-requires-clause-at : goal.sleep-requires-clause-at
sleep-requires-clause-at c = stands_as c.args.poll c.args.task.now c.args.stage _ c.in-Sleep.is c.requires.at

pub returns-in-Sleep-clause-goes : goal.returns-in-Sleep-clause-goes
returns-in-Sleep-clause-goes c = passes_none c.args.poll c.args.task.now c.sleep.new.task c.args.passing.now.head
    c.args.stage _ c.sleep.result c.requires.passes c.in-Sleep.is c.sleep.ensures.goes

pub take_first-requires-clause-at : goal.take_first-requires-clause-at
take_first-requires-clause-at c = stands_as c.args.poll c.args.task.now c.args.stage _ c.in-TakeFirst.is c.requires.at

pub returns-in-TakeFirst-clause-goes : goal.returns-in-TakeFirst-clause-goes
returns-in-TakeFirst-clause-goes c = passes_none c.args.poll c.args.task.now c.take_first.new.task c.args.passing.now.head
    c.args.stage _ c.take_first.result c.requires.passes c.in-TakeFirst.is c.take_first.ensures.goes

pub take_second-requires-clause-at : goal.take_second-requires-clause-at
take_second-requires-clause-at c = stands_as c.args.poll c.args.task.now c.args.stage _ c.in-TakeSecond.is c.requires.at

pub returns-in-TakeSecond-clause-goes : goal.returns-in-TakeSecond-clause-goes
returns-in-TakeSecond-clause-goes c = passes_none c.args.poll c.args.task.now c.take_second.new.task c.args.passing.now.head
    c.args.stage _ c.take_second.result c.requires.passes c.in-TakeSecond.is c.take_second.ensures.goes
