use Rattle.std.proofs.Common.{◌≡◌, ◌≤◌, ◌+◌, ◌∙◌, arith, length, refl, subst, sym}
use Rattle.std.specs.Prelude.{◌*◌}
use Rattle.wait_model.specs.declared.watches.Watch.TheVariants as watch
use Rattle.wait_rule.specs.{Pipes.read_end, Stays.publish_change}
use Rattle.wait_rule.proofs.KnownLaws.CarriedTasks.{unchanged_first}
use Rattle.wait_pipe.specs.Pieces.{LeavesAside}
use Rattle.wait_pipe.proofs.Asides.{quiet_on, quiet_publish}
use Rattle.wait_pipe.proofs.Fills.{drain_all, drain_ends, drain_goes, drain_loads}
use Rattle.wait_pipe.proofs.PieceChanges.{leaves_made}
use Rattle.wait_pipe.proofs.pieces.drain.Goals.{then-loop-left-test+else-done-buf, else-loop-left-test}
use Rattle.wait_pipe.proofs.pieces.drain.Goals as goal

pub loop-left-preserved : goal.loop-left-preserved
loop-left-preserved c =
    let room = c.if-done-buf.true in
    let most = c.unpack-done.ensures.most in
    let size = c.loop-left.invariant.size_is in
    drain_goes c.args.pipe c.args.task.now c.loop-left.task c.cell_load-word.new.task (length c.args.buf.now)
    c.loop-left.buf c.unpack-done.new.buf c.loop-left.at c.loop-left.left c.loop-left.done c.unpack-done.result
    c.cell_load-word.result c.loop-left.invariant c.loop-left-test.true c.unpack-done.ensures.more (omega arith)
    c.unpack-done.ensures.same c.unpack-done.ensures.bytes c.cell_load-word.ensures.step
    c.cell_load-word.ensures.becomes
    c.cell_load-word.ensures.carries

pub returns-clause-drained : goal.returns-clause-drained
returns-clause-drained c = λ last r.
    let made = c.advance.ensures.step in
    let size = c.loop-left.invariant.size_is in
    let none : c.loop-left.done + 7 ≤ length c.loop-left.buf → c.loop-left.left ≡ 0 = λ room.
    elim c.loop-left-test.branch [
      | then-loop-left-test+else-done-buf w ↦ let all = w.if-done-buf in absurd (omega arith)
      | else-loop-left-test w ↦ let none = w.loop-left-test in omega arith
    ] in
    let passes = subst (LeavesAside c.loop-left.task) (sym made.1)
    (quiet_publish c.loop-left.task (read_end c.args.pipe) 0 (2 * c.loop-left.at) made.0) in record {
      moved = drain_ends c.args.pipe c.args.task.now c.loop-left.task c.advance.new.task last (length c.args.buf.now)
          c.loop-left.buf c.loop-left.at c.loop-left.left c.loop-left.done c.requires.settled c.loop-left.invariant
          c.advance.ensures.becomes r.others r.own;
      all = λ room. drain_all c.args.pipe c.args.task.now c.loop-left.task c.advance.new.task last
          (length c.args.buf.now) c.loop-left.buf c.loop-left.at c.loop-left.left c.loop-left.done
          c.loop-left.invariant c.advance.ensures.becomes r.own (none room);
      rests = leaves_made (λ x. x) (read_end c.args.pipe) c.args.task.now c.advance.new.task last
          r.up c.requires.ready.idle r.idle c.requires.ready.out
          (c.told.ensures.head ∙ c.requires.ready.idle.free.head)
          (unchanged_first (publish_change (watch.Var (read_end c.args.pipe) 0)) c.args.task.now c.loop-left.task c.advance.new.task
          c.loop-left.invariant.same c.advance.ensures.carries) r.carries
          (quiet_on c.args.task.now c.loop-left.task last c.loop-left.invariant.quiet
          (quiet_on c.loop-left.task c.advance.new.task last passes r.quiet));
      loads = drain_loads c.args.pipe (read_end c.args.pipe) c.args.task.now c.loop-left.task c.advance.new.task
          last (length c.args.buf.now) c.loop-left.buf c.loop-left.at c.loop-left.left c.loop-left.done made.0
          r.walked c.requires.settled c.loop-left.invariant made.1 refl none r.wakes;
    }
