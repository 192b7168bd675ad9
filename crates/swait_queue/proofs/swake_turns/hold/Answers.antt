use Rattle.std.proofs.Common.{◌∙◌, ◌≤◌, ℕ, ap, subst, sym}
use Rattle.wait_model.specs.declared.layout.TheConstants.{FIRST_SIMPLE_HEAD}
use Rattle.wait_rule.specs.Says.{unlocked_with}
use Rattle.wq_head.specs.{Roused.RousesNone, Selects.HasSelected}
use Rattle.wq_head.proofs.{PermitHeads.owes_low, RousedTasks.none_unlocked, RousedTasks.rousing_on}
use Rattle.swait_queue.specs.SwakeTurns.{swake_head}
use Rattle.swait_queue.proofs.{SimpleWakeEnds.cond_low, SimpleWakeEnds.may_rise, SwakeHolds.high, SwakeHolds.is_over}
use Rattle.swait_queue.proofs.swake_turns.hold.Goals as goal

pub select_tries-requires-clause-simple : goal.select_tries-requires-clause-simple
select_tries-requires-clause-simple c = subst (λ (n : ℕ). FIRST_SIMPLE_HEAD ≤ n) (sym c.head_of-head.ensures)
    (high c.args.run c.requires.holds.1.simple)

pub give_back-requires-clause-rise : goal.give_back-requires-clause-rise
give_back-requires-clause-rise c =
    let i = c.requires.holds.1 in
    may_rise c.select_tries.new.task c.args.run.all c.in_ok-selected.selected
    (λ some. c.in_ok-selected.ensures.rises some (i.took.simple (high c.args.run i.simple)))
    c.is_swake_spent.result c.is_swake_spent.ensures

-- the head is none of a completion
pub give_back-requires-clause-permits : goal.give_back-requires-clause-permits
give_back-requires-clause-permits c =
    let i = c.requires.holds.1 in
    owes_low c.select_tries.new.task (swake_head c.args.run)
    (c.select_tries.ensures.carries.at ∙ i.took.carries.at) (cond_low c.args.run.cond i.simple)

pub returns-clause-over : goal.returns-clause-over
returns-clause-over c start i =
    let last = c.select_tries.new.task in
    is_over start c.args.task.now last c.give_back.new.task c.args.run c.in_ok-selected.selected i
    (subst (λ (n : ℕ). HasSelected c.args.task.now last n c.in_ok-selected.selected) c.most_of.ensures
    c.in_ok-selected.ensures.selected) c.select_tries.ensures.hold c.select_tries.ensures.keeps
    (c.give_back.ensures.given ∙ ap (unlocked_with last last.at) c.is_swake_spent.ensures)

pub returns-clause-rouses : goal.returns-clause-rouses
returns-clause-rouses c =
    let last = c.select_tries.new.task in
    rousing_on c.args.task.now last c.give_back.new.task c.select_tries.new.rousing
    (subst (RousesNone last) (sym c.give_back.ensures.given) (none_unlocked last last.at c.is_swake_spent.result))
    c.select_tries.ensures.rouses
