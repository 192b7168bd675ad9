use Rattle.std.proofs.Common.{refl}
use Rattle.page_lock.proofs.PageQueues.{join_advances, worn_advances, worn_owes}
use Rattle.std.proofs.Common.{◌∙◌, false}
use Rattle.wait_model.specs.declared.layout.TheConstants.{HEADS}
use Rattle.wait_class.proofs.Handed.{given_added, given_as, given_member_looks, given_on, given_unlocked}
use Rattle.wait_class.proofs.AwakeSteps.{awake_looked, awake_stored, awake_unlocked, sleeps_not_on}
use Rattle.page_lock.proofs.waits.queue_event.Goals as goal

pub returns-in-Ok-clause-turned : goal.returns-in-Ok-clause-turned
returns-in-Ok-clause-turned c = join_advances c.args.task.now c.add_for_page.new.task c.args.run.now c.requires.at
    c.in-Ok.ensures.held c.in-Ok.ensures.queued

pub give_back-requires-clause-permits : goal.give_back-requires-clause-permits
give_back-requires-clause-permits c = worn_owes c.args.task.now c.add_for_page.new.task c.args.run.now c.requires.at
    c.add_for_page.ensures.at

pub returns-in-Err-clause-turned : goal.returns-in-Err-clause-turned
returns-in-Err-clause-turned c = worn_advances c.args.task.now c.add_for_page.new.task c.give_back.new.task
    c.args.run.now c.requires.at c.in-Err.worn c.in-Err.ensures.worn c.in-Err.ensures.held c.in-Err.ensures.asks
    c.give_back.ensures.given c.in-Err.ensures.noted

pub returns-in-Ok-clause-given : goal.returns-in-Ok-clause-given
returns-in-Ok-clause-given c =
    let a = c.in-Ok.ensures.queued in
    given_as c.args.task.now c.add_for_page.new.task HEADS c.args.passing.now.head c.requires.passes
    (given_added c.args.task.now a.seen c.add_for_page.new.task a.looks _ _ a.is)

pub returns-in-Err-clause-given : goal.returns-in-Err-clause-given
returns-in-Err-clause-given c = given_as c.args.task.now c.give_back.new.task c.add_for_page.new.task.at
    c.put.new.self.head (c.put.ensures ∙ c.give_back.ensures.head)
    (given_on c.args.task.now c.add_for_page.new.task c.give_back.new.task c.add_for_page.new.task.at
    (given_member_looks c.args.task.now c.add_for_page.new.task c.in-Err.ensures.worn.0)
    (given_unlocked c.add_for_page.new.task c.give_back.new.task c.add_for_page.new.task.at false
    c.give_back.ensures.given))

pub returns-in-Ok-clause-awake : goal.returns-in-Ok-clause-awake
returns-in-Ok-clause-awake c =
    let a = c.in-Ok.ensures.queued in
    sleeps_not_on c.args.task.now a.seen c.add_for_page.new.task (awake_looked c.args.task.now a.seen a.looks)
    (awake_stored a.seen c.add_for_page.new.task _ a.is refl)

pub returns-in-Err-clause-awake : goal.returns-in-Err-clause-awake
returns-in-Err-clause-awake c = sleeps_not_on c.args.task.now c.add_for_page.new.task c.give_back.new.task
    (awake_looked c.args.task.now c.add_for_page.new.task c.in-Err.ensures.worn.0)
    (awake_unlocked c.add_for_page.new.task c.give_back.new.task c.give_back.ensures.given)
