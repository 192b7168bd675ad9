use Rattle.std.proofs.Common.{sym}
use Rattle.std.proofs.lemmas.Result.{IfErr-weaker, IfOk-weaker}
use Rattle.wait_rule.proofs.KnownLaws.AskedPages.{asks_no_page}
use Rattle.wq_head.proofs.{AskedHolds.looks_unasked, HashedAdds.added_for_page, PermitHeads.found_low}
use Rattle.wq_head.proofs.PermitHeads.{page_low}
use Rattle.wq_head.proofs.adds.add_for_page.Goals as goal

pub add-requires-clause-permits : goal.add-requires-clause-permits
add-requires-clause-permits c = found_low c.args.task.now 0 _ (sym c.requires.head) (page_low c.args.word)

pub returns-clause-queued : goal.returns-clause-queued
returns-clause-queued c = IfOk-weaker c.add.result _ _ (λ _ h. added_for_page c.args.task.now c.add.new.task
    c.args.word h) c.add.ensures.queued

pub returns-clause-asks : goal.returns-clause-asks
returns-clause-asks c = IfErr-weaker c.add.result _ _ (λ w worn. looks_unasked c.args.task.now c.add.new.task worn.0
    (asks_no_page c.args.task.now c.requires.asks)) c.add.ensures.worn
