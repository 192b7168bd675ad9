use Rattle.std.proofs.Common.{rules}
use Rattle.wait_model.specs.declared.watches.Watch.TheVariants as watch
use Rattle.wait_rule.specs.Says.{no_excuse}
use Rattle.wait_rule.proofs.KnownLaws.CarriedCounts.{excused_more}
use Rattle.bench_threads.proofs.futexes.mutexes.wake_one.Goals as goal

-- who owed nothing owes no more behind a wake
pub returns : goal.returns
returns g c = let woken = c.futex_wake.ensures in record {
  rests = record {
    of = search rules;
    clean = record {
      up = woken.up;
      running = woken.idle.running;
      free = woken.idle.free;
      settled = woken.carries.owes no_excuse
          (excused_more (watch.Plain 5) no_excuse c.args.task.now c.requires.rests.clean.settled);
    };
  };
}
