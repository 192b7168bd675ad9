use Rattle.std.proofs.Common.{◌∙◌, ap, inl}
use Rattle.wait_rule.specs.Known.{Known}
use Rattle.wait_rule.proofs.WorkedTests.HandedPage.{page_head_fits, page_head_low}
use Rattle.head_tests.proofs.steps.pages.hand_page.Goals as goal

pub take_turn-requires-clause-head : goal.take_turn-requires-clause-head
take_turn-requires-clause-head g c = page_head_fits c.args.word c.head_of-head.result c.head_of-head.ensures

pub lock_step-requires-clause-head : goal.lock_step-requires-clause-head
lock_step-requires-clause-head g c = page_head_fits c.args.word c.head_of-head.result c.head_of-head.ensures

pub unlock_step-requires-clause-permits : goal.unlock_step-requires-clause-permits
unlock_step-requires-clause-permits g c = inl (page_head_low c.args.word c.give_page-given.new.task.at
    (c.give_page-given.ensures.at ∙ (ap (λ (k : Known). k.at) c.lock_step.ensures.step.3 ∙ c.head_of-head.ensures)))
