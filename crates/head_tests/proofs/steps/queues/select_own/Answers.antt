use Rattle.std.proofs.Common.{◌≡◌, ◌<◌, ◌∙◌, ℕ, true, refl, sym, ap, arith}
use Rattle.std.specs.Prelude.{Some}
use Rattle.wait_model.specs.{declared.layout.TheConstants.TASKS, declared.layout.TheConstants.FIRST_PLAIN_HEAD}
use Rattle.wait_model.specs.{declared.watches.Entry.Entry, Fold.met_task}
use Rattle.wait_model.specs.declared.steps.Step.TheVariants as step
use Rattle.wait_rule.specs.declared.journal.Item.TheVariants as item
use Rattle.wait_rule.specs.{Known.Known, Says.added, Queues.index}
use Rattle.wait_rule.proofs.KnownLaws.MemberBits.{may_store}
use Rattle.wait_rule.proofs.WorkedTests.SelectedEntry.{chosen, shown_chosen, may_queue_chosen, may_rise}
use Rattle.head_tests.proofs.steps.queues.select_own.Goals as goal

few_tasks : (u n : ℕ) → u ≡ n → u < TASKS → n < TASKS
few_tasks u n is small = omega arith

pub queue_store-requires-clause-may : goal.queue_store-requires-clause-may
queue_store-requires-clause-may g c =
    let n = c.number-me.ensures in
    let k = c.args.task.now in (
      chosen,
      c.of.ensures,
      may_queue_chosen k c.requires.none c.requires.at (few_tasks c.number-me.result k.view.number n.number n.small),
    )

pub returns-clause-rise : goal.returns-clause-rise
returns-clause-rise g c met =
    let n = c.number-me.ensures in
    let k = c.args.task.now in
    let e = c.queue_store.ensures.step in
    let a = c.wake_exchange.ensures.step in
    may_rise k c.queue_store.new.task c.member_store.new.task c.set_state.new.task c.wake_exchange.new.task
    (few_tasks c.number-me.result k.view.number n.number n.small) c.requires.none c.requires.selecting
    (e.2 ∙ ap (λ (d : Entry). added k (item.Made (step.Queue (index k.view.number 0) d)))
    (shown_chosen c.of.result.0 e.0 c.of.ensures e.1)) c.member_store.ensures.step
    c.set_state.ensures.step c.number-me.result a.0 n.number
    (a.2 ∙ ap (λ (m : ℕ). added c.set_state.new.task (item.Made (step.Wake c.number-me.result m a.0))) c.mask.ensures)
    (sym (a.3 ∙ ap (λ (m : ℕ). met_task m a.0) c.mask.ensures) ∙ met)

pub member_store-requires-clause-may : goal.member_store-requires-clause-may
member_store-requires-clause-may g c =
    let e = c.queue_store.ensures.step in
    let n = c.number-me.ensures in
    may_store c.args.task.now c.queue_store.new.task FIRST_PLAIN_HEAD _ true _ e.2
    (c.requires.held ∙ ap (λ (h : ℕ). Some h) c.requires.at)
    (ap (λ (x : ℕ). Some x) (omega arith)) refl

pub returns-clause-at : goal.returns-clause-at
returns-clause-at g c =
    let e = c.queue_store.ensures.step in
    let a = c.wake_exchange.ensures.step in
    let at : (k j : Known) → j ≡ k → j.at ≡ k.at = λ k j. ap (λ (i : Known). i.at) in
    at _ _ a.2 ∙ (at _ _ c.set_state.ensures.step ∙ (at _ _ c.member_store.ensures.step ∙ (at _ _ e.2 ∙ c.requires.at)))
