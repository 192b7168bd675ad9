use Rattle.std.proofs.Common.{◌∙◌, ap}
use Rattle.wait_rule.specs.Known.{Known}
use Rattle.head_tests.proofs.LeavingTask.{entry_slept}
use Rattle.head_tests.proofs.heads.leaving.sleep.Goals as goal

pub returns-clause-back : goal.returns-clause-back
returns-clause-back g c =
    let s = c.schedule.ensures.step in record {
      running = ap (λ (k : Known). k.book.state) s.is;
      queued = record {
        up = ap (λ (k : Known). k.book.awake) s.is;
        free = record {
          head = ap (λ (k : Known). k.book.head) s.is ∙ c.requires.queued.free.head;
          ticket = ap (λ (k : Known). k.book.ticket) s.is ∙ c.requires.queued.free.ticket;
        };
        entry = entry_slept c.args.task.now c.schedule.new.task c.args.kind c.schedule.result s c.requires.queued.entry;
      };
    }
