use Rattle.std.proofs.Common.{refl, subst, sym}
use Rattle.wait_class.specs.declared.frame_stages.Framed.{Framed}
use Rattle.wait_class.specs.declared.frame_stages.Stage.TheVariants as stage
use Rattle.wait_class.proofs.{Framing.framed_lawful, UnderWay.begun_here}
use Rattle.bit_wait.specs.LockTables.{IsRunningLock, lock_frame, lock_table}
use Rattle.bit_wait.specs.declared.lock_runs.LockBit.{LockBit}
use Rattle.bit_wait.specs.declared.lock_runs.LockTest.TheVariants as test
use Rattle.bit_wait.proofs.{LockEndings.begins_at, LockLaws.lock_lawful}
use Rattle.bit_wait.proofs.lock_calls.begin_lock.Goals as goal

pub returns-clause-at : goal.returns-clause-at
returns-clause-at c = begins_at c.args.task.now c.new.result
    (subst (λ (f : Framed LockBit). IsRunningLock f.wait) (sym c.new.ensures)
    (record { word = c.requires.word; bit = c.requires.bit }))
    c.told.ensures c.requires.up c.requires.idle c.requires.out

pub returns-clause-under : goal.returns-clause-under
returns-clause-under c clean = begun_here lock_table (framed_lawful lock_frame lock_lawful)
    (lock_table.plan_of c.new.result.of) c.args.task.now c.new.result (stage.Test test.First) clean c.told.ensures refl
    refl (returns-clause-at c)
