use Rattle.std.proofs.Common.{sym}
use Rattle.wq_checked.specs.Begins.{is_unlisted, numbers_fit, keeping_reason}
use Rattle.wq_checked.specs.Reasons.{busy_reason}
use Rattle.wq_checked.proofs.{Readiness.ready_of, Within.none_busy}
use Rattle.wq_checked.proofs.tasks.CheckedTask.begin.Goals as goal

pub begin_call-next-requires-clause-ready : goal.begin_call-next-requires-clause-ready
begin_call-next-requires-clause-ready c =
    let t = c.self.inside in
    ready_of t.kept t.task t.running (none_busy (numbers_fit c.args.call) (is_unlisted c.args.call)
    (busy_reason t.running) (keeping_reason c.args.call t.kept) (sym c.in-None.ensures)) c.self.invariant.1
