use Rattle.std.proofs.Common.{refl}
use Rattle.wait_model.specs.declared.watches.Mode.TheVariants as mode
use Rattle.wait_model.specs.declared.watches.Watch.TheVariants as watch
use Rattle.wait_rule.specs.{Says.no_excuse, Stays.wake_all_change, Stays.with_entry}
use Rattle.wait_rule.proofs.KnownLaws.CarriedCounts.{excused_more}
use Rattle.wait_class.specs.Posts.{own_of}
use Rattle.wait_tests.proofs.Hearers.{hearer_on, owes_own}
use Rattle.wait_tests.proofs.in_order.entries.wake_own.Goals as goal

pub returns-clause-hearer : goal.returns-clause-hearer
returns-clause-hearer g c =
    let old = c.args.task.now in
    let new = c.wake.new.task in
    let carries = c.wake.ensures.carries in
    let h = c.requires.hearer in record {
      hearer = hearer_on (wake_all_change (watch.Plain 0) mode.Normal new.at) old new carries refl c.wake.ensures.up
          c.wake.ensures.idle.free c.wake.ensures.idle.running h.hearer;
      owes = owes_own old new carries.number (carries.owes (with_entry (own_of old) no_excuse)
          (excused_more (watch.Plain 0) (with_entry (own_of old) no_excuse) old h.owes));
    }
