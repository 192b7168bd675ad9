use Rattle.flow_copy.proofs.Counting.{counted_all}
use Rattle.flow_copy.proofs.parts.count.Goals as goal

pub returns-clause-counts : goal.returns-clause-counts
returns-clause-counts g c = counted_all c.args.task.now c.lock_counted.new.task c.add_tally.new.task c.args.amount
    c.add_tally.result c.requires.work c.in_ok-lock_counted.ensures.locks c.add_tally.ensures.step
    c.add_tally.ensures.carries c.unlock_page.new.task c.unlock_page.result c.told.ensures
    c.unlock_page.ensures.cleared c.unlock_page.ensures.up c.unlock_page.ensures.idle c.unlock_page.ensures.gives
