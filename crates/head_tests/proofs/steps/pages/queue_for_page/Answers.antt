use Rattle.std.proofs.Common.{◌∙◌, ap, inl}
use Rattle.wait_model.specs.declared.watches.Entry.{Entry}
use Rattle.wait_model.specs.declared.steps.Step.TheVariants as step
use Rattle.wait_rule.specs.{Looking.page_entry, Queues.index, Says.stored_with}
use Rattle.wait_rule.proofs.WorkedTests.HandedPage.{may_queue_page, page_head_low, shown_page}
use Rattle.head_tests.proofs.steps.pages.queue_for_page.Goals as goal

pub queue_member-requires-clause-may : goal.queue_member-requires-clause-may
queue_member-requires-clause-may c = (
  page_entry c.args.word,
  c.of.ensures,
  may_queue_page c.args.task.now c.args.word c.requires.word c.requires.asks c.requires.none c.requires.at
      c.requires.few,
)

pub queue_member-requires-clause-permits : goal.queue_member-requires-clause-permits
queue_member-requires-clause-permits c = inl (page_head_low c.args.word c.args.task.now.at c.requires.at)

pub returns : goal.returns
returns c =
    let k = c.args.task.now in
    let e = c.queue_member.ensures.step in
    e.2 ∙ ap (λ (d : Entry). stored_with k (step.Queue (index k.view.number 0) d))
    (shown_page c.args.word c.of.result.0 e.0 c.requires.word c.of.ensures e.1)
