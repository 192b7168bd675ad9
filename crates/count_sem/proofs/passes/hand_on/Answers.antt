use Rattle.std.proofs.Common.{◌∙◌, ◌-◌, true, false, subst, sym}
use Rattle.wq_head.specs.Roused.{RousesNone}
use Rattle.wq_head.proofs.RousedTasks.{none_looked, none_unlocked, rousing_from, rousing_none, rousing_on}
use Rattle.completion_cell.proofs.CellRousing.{none_set}
use Rattle.wait_class.specs.declared.stages.Turn.TheVariants as turn
use Rattle.wait_leave.proofs.Ways.{under_way_is}
use Rattle.count_sem.specs.{DownLeaves.down_exits, Downs.down_table}
use Rattle.count_sem.specs.declared.downs.DownOutcome.TheVariants as outcome
use Rattle.count_sem.proofs.{DownLeaving.ends_until, DownLeaving.on_way_clean, DownPasses.passed_down}
use Rattle.count_sem.proofs.{FoundWaiters.nobody_in, FoundWaiters.waiter_in}
use Rattle.count_sem.proofs.HandingOn.{alone_owes, given_owes, given_rises, kept_alone, looking_counted, lowered_holds}
use Rattle.count_sem.proofs.HandingOn.{pass_high, passed_on}
use Rattle.count_sem.proofs.passes.hand_on.Goals as goal

pub finds_waiter-requires-clause-simple : goal.finds_waiter-requires-clause-simple
finds_waiter-requires-clause-simple c = pass_high c.args.task.now c.args.wait.now c.requires.ended c.head_of-head.result
    c.head_of-head.ensures

pub lower_one-requires-clause-counted : goal.lower_one-requires-clause-counted
lower_one-requires-clause-counted c = looking_counted c.args.task.now c.args.wait.now c.requires.ended
    c.finds_waiter.new.task c.finds_waiter.ensures.looks c.finds_waiter.ensures.whole
    (waiter_in c.finds_waiter.new.task c.finds_waiter.result c.if-finds_waiter.true c.finds_waiter.ensures.tells)

pub select_tries-requires-clause-held : goal.select_tries-requires-clause-held
select_tries-requires-clause-held c = lowered_holds c.args.task.now c.args.wait.now c.requires.ended
    c.finds_waiter.new.task c.finds_waiter.ensures.looks c.finds_waiter.ensures.whole
    (waiter_in c.finds_waiter.new.task c.finds_waiter.result c.if-finds_waiter.true c.finds_waiter.ensures.tells)
    c.lower_one.new.task c.lower_one.ensures

pub select_tries-requires-clause-simple : goal.select_tries-requires-clause-simple
select_tries-requires-clause-simple c = pass_high c.args.task.now c.args.wait.now c.requires.ended c.head_of-head.result
    c.head_of-head.ensures

pub give_back-requires-clause-rise : goal.give_back-requires-clause-rise
give_back-requires-clause-rise c = given_rises c.args.task.now c.args.wait.now c.requires.ended c.finds_waiter.new.task
    c.finds_waiter.ensures.looks c.finds_waiter.ensures.whole
    (waiter_in c.finds_waiter.new.task c.finds_waiter.result c.if-finds_waiter.true c.finds_waiter.ensures.tells)
    c.lower_one.new.task c.lower_one.ensures
    c.select_tries.new.task
    c.in_ok-select_tries.field-0 c.in_ok-select_tries.ensures.selected c.select_tries.ensures.hold
    c.in_ok-select_tries.ensures.rises

pub give_back-requires-clause-permits : goal.give_back-requires-clause-permits
give_back-requires-clause-permits c = given_owes c.args.task.now c.args.wait.now c.requires.ended
    c.finds_waiter.new.task c.finds_waiter.ensures.looks c.finds_waiter.ensures.whole
    (waiter_in c.finds_waiter.new.task c.finds_waiter.result c.if-finds_waiter.true c.finds_waiter.ensures.tells)
    c.lower_one.new.task c.lower_one.ensures
    c.select_tries.new.task
    c.in_ok-select_tries.field-0 c.in_ok-select_tries.ensures.selected c.select_tries.ensures.hold

passed_then : goal.returns-then-finds_waiter-clause-passed
passed_then c = passed_on c.args.task.now c.args.wait.now c.requires.ended c.finds_waiter.new.task
    c.finds_waiter.ensures.looks c.finds_waiter.ensures.whole
    (waiter_in c.finds_waiter.new.task c.finds_waiter.result c.if-finds_waiter.true c.finds_waiter.ensures.tells)
    c.lower_one.new.task c.lower_one.ensures
    c.select_tries.new.task
    c.in_ok-select_tries.field-0 c.in_ok-select_tries.ensures.selected c.select_tries.ensures.hold
    c.give_back.new.task c.give_back.ensures.given

pub returns-then-finds_waiter-clause-passed : goal.returns-then-finds_waiter-clause-passed
returns-then-finds_waiter-clause-passed c = passed_then c

pub returns-then-finds_waiter-clause-rouses : goal.returns-then-finds_waiter-clause-rouses
returns-then-finds_waiter-clause-rouses c = rousing_from c.args.task.now c.lower_one.new.task c.give_back.new.task
    c.select_tries.new.rousing
    (none_set c.args.wait.now.of.cell (c.args.wait.now.of.count - 1) c.finds_waiter.new.task c.lower_one.new.task
    c.lower_one.ensures ∙ none_looked c.args.task.now c.finds_waiter.new.task c.finds_waiter.ensures.looks)
    (rousing_on c.lower_one.new.task c.select_tries.new.task c.give_back.new.task c.select_tries.new.rousing
    (subst (RousesNone c.select_tries.new.task) (sym c.give_back.ensures.given)
    (none_unlocked c.select_tries.new.task c.select_tries.new.task.at true)) c.select_tries.ensures.rouses)

pub returns-in_err-select_tries-clause-rouses : goal.returns-in_err-select_tries-clause-rouses
returns-in_err-select_tries-clause-rouses c = rousing_from c.args.task.now c.lower_one.new.task c.select_tries.new.task
    c.select_tries.new.rousing
    (none_set c.args.wait.now.of.cell (c.args.wait.now.of.count - 1) c.finds_waiter.new.task c.lower_one.new.task
    c.lower_one.ensures ∙ none_looked c.args.task.now c.finds_waiter.new.task c.finds_waiter.ensures.looks)
    c.select_tries.ensures.rouses

pub returns-then-finds_waiter-clause-clean : goal.returns-then-finds_waiter-clause-clean
returns-then-finds_waiter-clause-clean c = λ p i. on_way_clean (Unit {0}) p c.args.task.now c.give_back.new.task
    c.args.wait.now outcome.Passing
    (under_way_is (Unit {0}) down_table down_exits p c.args.task.now c.args.wait.now (turn.Done outcome.Passing) i)
    (passed_then c)

pub returns-then-finds_waiter-clause-ends : goal.returns-then-finds_waiter-clause-ends
returns-then-finds_waiter-clause-ends c = λ start f cell state fresh a. passed_down start c.args.task.now
    c.give_back.new.task f c.args.wait.now cell state fresh a (passed_then c)

pub returns-then-finds_waiter-clause-clean_out : goal.returns-then-finds_waiter-clause-clean_out
returns-then-finds_waiter-clause-clean_out c = λ p i. on_way_clean (Unit {0}) p c.args.task.now c.give_back.new.task
    c.args.wait.now outcome.Passing i (passed_then c)

pub returns-then-finds_waiter-clause-ends_out : goal.returns-then-finds_waiter-clause-ends_out
returns-then-finds_waiter-clause-ends_out c = λ start f cell state fresh w. ends_until (Unit {0}) start c.args.task.now
    c.give_back.new.task f c.args.wait.now cell state fresh outcome.Passing w (passed_then c)

pub give_back-requires-2-clause-permits : goal.give_back-requires-2-clause-permits
give_back-requires-2-clause-permits c = alone_owes c.args.task.now c.args.wait.now c.requires.ended
    c.finds_waiter.new.task c.finds_waiter.ensures.looks c.finds_waiter.ensures.whole
    (nobody_in c.finds_waiter.new.task c.finds_waiter.result c.if-finds_waiter.false c.finds_waiter.ensures.tells)

alone : goal.returns-clause-passed
alone c = kept_alone c.args.task.now c.args.wait.now c.requires.ended c.finds_waiter.new.task
    c.finds_waiter.ensures.looks c.finds_waiter.ensures.whole
    (nobody_in c.finds_waiter.new.task c.finds_waiter.result c.if-finds_waiter.false c.finds_waiter.ensures.tells)
    c.give_back-2.new.task c.give_back-2.ensures.given

pub returns-clause-passed : goal.returns-clause-passed
returns-clause-passed c = alone c

pub returns-clause-rouses : goal.returns-clause-rouses
returns-clause-rouses c = rousing_on c.args.task.now c.args.task.now c.give_back-2.new.task c.args.rousing.now
    (subst (RousesNone c.finds_waiter.new.task) (sym c.give_back-2.ensures.given)
    (none_unlocked c.finds_waiter.new.task c.finds_waiter.new.task.at false)
    ∙ none_looked c.args.task.now c.finds_waiter.new.task c.finds_waiter.ensures.looks)
    (rousing_none c.args.task.now c.args.rousing.now c.requires.none)

pub returns-clause-clean : goal.returns-clause-clean
returns-clause-clean c = λ p i. on_way_clean (Unit {0}) p c.args.task.now c.give_back-2.new.task
    c.args.wait.now outcome.Passing
    (under_way_is (Unit {0}) down_table down_exits p c.args.task.now c.args.wait.now (turn.Done outcome.Passing) i)
    (alone c)

pub returns-clause-ends : goal.returns-clause-ends
returns-clause-ends c = λ start f cell state fresh a. passed_down start c.args.task.now c.give_back-2.new.task f
    c.args.wait.now cell state fresh a (alone c)

pub returns-clause-clean_out : goal.returns-clause-clean_out
returns-clause-clean_out c = λ p i. on_way_clean (Unit {0}) p c.args.task.now c.give_back-2.new.task
    c.args.wait.now outcome.Passing i (alone c)

pub returns-clause-ends_out : goal.returns-clause-ends_out
returns-clause-ends_out c = λ start f cell state fresh w. ends_until (Unit {0}) start c.args.task.now
    c.give_back-2.new.task f c.args.wait.now cell state fresh outcome.Passing w (alone c)
