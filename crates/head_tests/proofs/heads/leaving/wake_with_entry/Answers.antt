use Rattle.wait_model.specs.declared.watches.Kind.TheVariants as kind
use Rattle.head_tests.proofs.LeavingTask.{back_idle, entry_woken}
use Rattle.head_tests.proofs.heads.leaving.wake_with_entry.Goals as goal

pub wake-requires-clause-idle : goal.wake-requires-clause-idle
wake-requires-clause-idle g c = back_idle c.args.task.now kind.Default c.requires.back

pub returns-clause-back : goal.returns-clause-back
returns-clause-back g c =
    let w = c.wake.ensures in record {
      running = w.idle.running;
      queued = record {
        up = w.up;
        free = w.idle.free;
        entry = entry_woken c.args.task.now c.wake.new.task _ c.requires.back w.ended;
      };
    }
