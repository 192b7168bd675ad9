use Rattle.std.proofs.Common.{◌∙◌, subst, sym}
use Rattle.std.specs.Prelude.{◌+◌, ◌*◌}
use Rattle.wait_model.specs.declared.layout.TheConstants.{PIPE_ENDS}
use Rattle.wait_rule.specs.Stays.{with_end}
use Rattle.wait_pipe.specs.Pieces.{LeavesAside}
use Rattle.wait_pipe.proofs.{Asides.quiet_on, Asides.quiet_publish, PieceChanges.leaves_made}
use Rattle.wait_pipe.proofs.ends.close_end.Goals as goal

pub returns-clause-ends : goal.returns-clause-ends
returns-clause-ends g c =
    let made = c.close.ensures.step in
    leaves_made (with_end (PIPE_ENDS * c.args.pipe + c.args.end)) (PIPE_ENDS * c.args.pipe + c.args.end)
    c.args.task.now c.close.new.task c.rouse.new.task c.rouse.ensures.roused.up c.requires.ready.idle
    c.rouse.ensures.roused.idle
    c.requires.ready.out (c.told.ensures.head ∙ c.requires.ready.idle.free.head) c.close.ensures.carries
    c.rouse.ensures.roused.carries
    (quiet_on c.args.task.now c.close.new.task c.rouse.new.task (subst (LeavesAside c.args.task.now) (sym made.1)
    (quiet_publish c.args.task.now (PIPE_ENDS * c.args.pipe + c.args.end) 0 _ made.0)) c.rouse.ensures.roused.quiet)
