use Rattle.std.proofs.Common.{◌∙◌, subst, sym}
use Rattle.std.specs.Prelude.{true}
use Rattle.wait_leave.proofs.Ways.{way_domain, way_lands}
use Rattle.count_sem.specs.DownLeaves.{EndsDownUntil}
use Rattle.count_sem.proofs.DownLaws.{down_lawful}
use Rattle.count_sem.proofs.DownLeaving.{down_may_leave, ends_until, way_carried, way_idle, way_off, way_out_of, way_up}
use Rattle.count_sem.proofs.leaves.down_until.Goals as goal

pub close-requires-clause-ended : goal.close-requires-clause-ended
close-requires-clause-ended g c = way_lands _ _ _ down_may_leave down_lawful _ _ _ _ _ _ c.run_asked-outcome.ensures

pub returns-clause-downed : goal.returns-clause-downed
returns-clause-downed g c = subst (EndsDownUntil (g.Q.Fn.post c.args.asks tt true) c.args.task.now c.close.new.task
    c.args.cell c.args.state) (sym c.close.ensures.answer)
    (ends_until _ _ _ _ _ _ _ _ c.begin_down-wait.ensures.fresh _ c.run_asked-outcome.ensures c.close.ensures.closes)

pub returns-clause-up : goal.returns-clause-up
returns-clause-up g c = way_up _ _ _ _ _ _ _ _ c.run_asked-outcome.ensures c.close.ensures.closes

pub returns-clause-idle : goal.returns-clause-idle
returns-clause-idle g c = way_idle _ _ _ _ _ _ _ _ c.run_asked-outcome.ensures c.close.ensures.closes
    c.requires.idle.unmarked

pub returns-clause-out : goal.returns-clause-out
returns-clause-out g c = way_out_of _ _ _ _ _ _ _ _ c.run_asked-outcome.ensures c.close.ensures.closes

pub returns-clause-carries : goal.returns-clause-carries
returns-clause-carries g c = way_carried _ _ _ _ _ _ _ _ c.run_asked-outcome.ensures c.close.ensures.closes
    c.requires.up c.requires.idle (c.begin_down-wait.ensures.told.head ∙ c.requires.idle.free.head)

pub returns-clause-off : goal.returns-clause-off
returns-clause-off g c = way_off _ _ _ _ _ _ _ _ c.run_asked-outcome.ensures c.close.ensures.closes
    (c.begin_down-wait.ensures.told.head ∙ c.requires.idle.free.head)

pub close-requires-clause-of : goal.close-requires-clause-of
close-requires-clause-of g c = way_domain _ _ _ down_may_leave down_lawful _ _ _ _ _ _ c.run_asked-outcome.ensures
    ∙ c.requires.of
