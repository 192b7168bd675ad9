use Rattle.std.proofs.Common.{refl, subst, sym}
use Rattle.wait_class.specs.declared.frame_stages.Framed.{Framed}
use Rattle.wait_class.specs.declared.frame_stages.Stage.TheVariants as stage
use Rattle.wait_class.proofs.{UnderWay.begun_here, Framing.framed_lawful}
use Rattle.bit_wait.specs.BitTables.{IsRunningBitWait, bit_frame, bit_table}
use Rattle.bit_wait.specs.declared.waits.BitTest.TheVariants as test
use Rattle.bit_wait.specs.declared.waits.WaitBit.{WaitBit}
use Rattle.bit_wait.proofs.BitLaws.{begins_at, bit_lawful}
use Rattle.bit_wait.proofs.wait_calls.begin_bit.Goals as goal

pub returns-clause-at : goal.returns-clause-at
returns-clause-at c = begins_at c.args.task.now c.new.result
    (subst (λ (f : Framed WaitBit). IsRunningBitWait f.wait) (sym c.new.ensures)
    (record { word = c.requires.word; bit = c.requires.bit }))
    c.told.ensures c.requires.up c.requires.idle c.requires.out

pub returns-clause-under : goal.returns-clause-under
returns-clause-under c clean = begun_here bit_table (framed_lawful bit_frame bit_lawful) (bit_table.plan_of c.new.result.of)
    c.args.task.now c.new.result (stage.Test test.First) clean c.told.ensures refl refl (returns-clause-at c)
