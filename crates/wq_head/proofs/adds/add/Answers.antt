use Rattle.std.proofs.Common.{◌≡◌, subst, sym, true}
use Rattle.wait_model.specs.{declared.watches.Entry.Entry}
use Rattle.wait_rule.specs.Pages.{uses_flag}
use Rattle.wait_rule.proofs.KnownLaws.AskedPages.{asks_no_page}
use Rattle.wq_head.specs.Adds.{IsFormPlace}
use Rattle.wq_head.proofs.{AddedEntries.added_holds, AddedEntries.form_queued, AskedHolds.looks_unasked}
use Rattle.wq_head.proofs.{OneMoreLook.holding_on, PermitHeads.looks_found, WornNotes.form_note}
use Rattle.wq_head.proofs.adds.add.Goals as goal

pub enqueue-requires-clause-asks : goal.enqueue-requires-clause-asks
enqueue-requires-clause-asks c uses = looks_unasked c.args.task.now c.spot.new.task c.spot.ensures.looks
    (asks_no_page c.args.task.now (c.requires.asks
    (subst (λ (e : Entry). uses_flag e.kind ≡ true) c.entry_by.ensures uses)))

pub enqueue-requires-clause-permits : goal.enqueue-requires-clause-permits
enqueue-requires-clause-permits c = looks_found c.args.task.now c.spot.new.task c.args.slot c.spot.ensures.looks
    c.requires.permits

pub returns-in-Ok-clause-queued : goal.returns-in-Ok-clause-queued
returns-in-Ok-clause-queued c = let s = c.spot.ensures in record {
  place = c.in-Ok.place;
  mid = c.spot.new.task;
  made = c.entry_by.result;
  looks = s.looks;
  low = s.low;
  seen = s.seen;
  counts = s.counts;
  by = c.entry_by.ensures;
  put = c.enqueue.ensures;
  sort = form_queued c.args.form c.spot.new.task c.enqueue.new.task c.args.slot c.entry_by.result c.enqueue.ensures
      (subst (λ (e : Entry). IsFormPlace c.args.form c.spot.new.task e.place) (sym c.entry_by.ensures)
      c.in-Ok.ensures.place);
}

pub returns-in-Ok-clause-held : goal.returns-in-Ok-clause-held
returns-in-Ok-clause-held c = added_holds c.args.task.now c.spot.new.task c.enqueue.new.task c.args.slot
    c.entry_by.result c.spot.ensures.looks c.enqueue.ensures c.requires.held

pub returns-in-Err-clause-held : goal.returns-in-Err-clause-held
returns-in-Err-clause-held c = holding_on c.args.task.now c.spot.new.task c.spot.ensures.looks c.requires.held

pub returns-in-Err-clause-noted : goal.returns-in-Err-clause-noted
returns-in-Err-clause-noted c = form_note c.args.form c.args.task.now c.spot.new.task c.in-Err.worn
    (returns-in-Err-clause-held c) c.in-Err.ensures.worn
