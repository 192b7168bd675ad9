use Rattle.std.proofs.Common.{rules}
use Rattle.wait_tests.proofs.Hearers.{clean_leaves}
use Rattle.wait_event.proofs.Hearing.Entries.{woken_leaves}
use Rattle.wait_tests.proofs.events.flags.leave.Goals as goal

pub remove_entry-requires-clause-may : goal.remove_entry-requires-clause-may
remove_entry-requires-clause-may g c =
    let h = c.requires.hearer.hearer in
    woken_leaves c.args.task.now h.up h.free h.entry

pub returns : goal.returns
returns g c = record {
  rests = record {
    of = search rules;
    clean = clean_leaves c.args.task.now c.remove_entry.new.task c.requires.hearer
        c.remove_entry.ensures.up c.remove_entry.ensures.free c.remove_entry.ensures.carries;
  };
}
