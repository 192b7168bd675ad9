use Rattle.std.proofs.Common.{◌∙◌, ◌≡◌, ℕ, Some, ap, inl, refl, subst, sym}
use Rattle.wait_rule.specs.declared.journal.Item.TheVariants as item
use Rattle.wait_rule.specs.{Asked.waits_at, Known.Known, Queues.index, Says.asks_for}
use Rattle.wait_rule.proofs.WorkedTests.HandedPage.{come_idle, locked_asks, page_head_fits, page_head_low, waits_on}
use Rattle.wait_rule.proofs.WorkedTests.HandedPage.{waits_queued}
use Rattle.head_tests.proofs.steps.pages.come_for_page.Goals as goal

pub take_turn-requires-clause-head : goal.take_turn-requires-clause-head
take_turn-requires-clause-head c = page_head_fits c.args.word c.head_of-head.result c.head_of-head.ensures

pub lock_step-requires-clause-head : goal.lock_step-requires-clause-head
lock_step-requires-clause-head c = page_head_fits c.args.word c.head_of-head.result c.head_of-head.ensures

pub queue_for_page-requires-clause-asks : goal.queue_for_page-requires-clause-asks
queue_for_page-requires-clause-asks c =
    let t = c.take_turn.ensures.steps in
    let l = c.lock_step.ensures.step in
    c.see_marks.ensures.asks ∙ c.see_entries.ensures.asks (locked_asks c.args.task.now c.take_turn.new.task
    c.lock_step.new.task c.head_of-head.result t.0 t.1 l.0 _ t.2 l.3 c.requires.asks)

pub unlock_step-requires-clause-permits : goal.unlock_step-requires-clause-permits
unlock_step-requires-clause-permits c = inl (page_head_low c.args.word c.bit_set-found.new.task.at
    (ap (λ (k : Known). k.at) c.bit_set-found.ensures.step ∙ (ap (λ (k : Known). k.at) c.queue_for_page.ensures
    ∙ (c.see_marks.ensures.at ∙ (c.see_entries.ensures.at ∙ (ap (λ (k : Known). k.at) c.lock_step.ensures.step.3
    ∙ c.head_of-head.ensures))))))

pub returns-clause-waits : goal.returns-clause-waits
returns-clause-waits c set =
    let t = c.take_turn.ensures.steps in
    let l = c.lock_step.ensures.step in
    come_idle c.args.task.now c.take_turn.new.task c.lock_step.new.task c.head_of-head.result t.0 t.1 l.0 _ t.2 l.3
    c.see_entries.new.task c.see_marks.new.task c.queue_for_page.new.task c.bit_set-found.new.task
    c.unlock_step.new.task c.serve.new.task c.see_entries.result c.see_marks.result _ c.args.word _ _
    c.see_entries.ensures c.see_marks.ensures c.queue_for_page.ensures c.bit_set-found.ensures.sets.stays
    c.unlock_step.ensures.step c.serve.ensures.served c.requires.up c.requires.idle

pub returns-clause-asks : goal.returns-clause-asks
returns-clause-asks c set =
    let q = c.queue_for_page.new.task in
    let b = c.bit_set-found.new.task in
    let u = c.unlock_step.new.task in
    let s = c.serve.new.task in
    let w = c.args.word in
    let x = index c.see_marks.new.task.view.number 0 in
    let same : s.view.number ≡ c.see_marks.new.task.view.number = ap (λ (k : Known). k.view.number) c.serve.ensures.served
    ∙ (ap (λ (k : Known). k.view.number) c.unlock_step.ensures.step
    ∙ (c.bit_set-found.ensures.sets.stays.number ∙ ap (λ (k : Known). k.view.number) c.queue_for_page.ensures)) in
    subst (λ (n : ℕ). waits_at (index n 0) (asks_for s) ≡ Some w) (sym same)
    (waits_on u s item.Served x w c.serve.ensures.served (λ a. refl)
    (waits_on b u _ x w c.unlock_step.ensures.step (λ a. refl)
    (waits_on q b _ x w c.bit_set-found.ensures.step (λ a. refl)
    (waits_queued c.see_marks.new.task q x w c.queue_for_page.ensures))))
