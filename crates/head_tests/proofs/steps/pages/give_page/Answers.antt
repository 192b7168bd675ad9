use Rattle.std.proofs.Common.{◌∙◌, ap, sym}
use Rattle.wait_model.specs.Watches.{head_of}
use Rattle.wait_rule.specs.Queues.{index}
use Rattle.wait_rule.proofs.WorkedTests.HandedPage.{shows_page, tried_shows}
use Rattle.head_tests.proofs.steps.pages.give_page.Goals as goal

pub bit_set_for-requires-clause-may : goal.bit_set_for-requires-clause-may
bit_set_for-requires-clause-may g c =
    let k = c.args.task.now in
    record {
      entry = c.in-Some.entry;
      shows = shows_page k c.entry_load.new.task (index c.args.who 0) c.entry_load.result.0 k.at c.in-Some.entry
          c.entry_load.ensures.step c.requires.held (c.told.ensures.head ∙ c.requires.held)
          (sym c.entry.ensures ∙ c.in-Some.is)
          (ap head_of (c.is_for.ensures.watch c.if-not-is_for.false) ∙ sym c.requires.at);
      kind = c.is_for.ensures.kind c.if-not-is_for.false;
      watch = c.is_for.ensures.watch c.if-not-is_for.false;
    }

pub hand_over-requires-clause-entry : goal.hand_over-requires-clause-entry
hand_over-requires-clause-entry g c =
    let k = c.args.task.now in (
      c.in-Some.entry,
      tried_shows c.entry_load.new.task c.bit_set_for.new.task (index c.args.who 0) c.args.word c.bit_set_for.result
          c.bit_set_for.ensures.step c.in-Some.entry
          (shows_page k c.entry_load.new.task (index c.args.who 0) c.entry_load.result.0 k.at c.in-Some.entry
          c.entry_load.ensures.step c.requires.held (c.told.ensures.head ∙ c.requires.held)
          (sym c.entry.ensures ∙ c.in-Some.is)
          (ap head_of (c.is_for.ensures.watch c.if-not-is_for.false) ∙ sym c.requires.at)),
    )
