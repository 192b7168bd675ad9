use Rattle.std.proofs.Common.{◌≡◌, ◌+◌, ◌<◌, ◌∙◌, ap, sym, subst, arith, None}
use Rattle.wait_model.specs.{declared.layout.TheConstants.TASKS, declared.layout.TheConstants.ENTRIES, Queues.stand_by}
use Rattle.wait_model.specs.Functions.{put}
use Rattle.wait_model.specs.Locations.{Entry, Bookmark, position_of}
use Rattle.wait_core.specs.{Scan.shown_stand, Index.IsClass}
use Rattle.wait_core.proofs.IndexChanges.{entry_changed, mark_changed, entry_stood, mark_stood, emptied, entry_class}
use Rattle.wait_core.proofs.IndexChanges.{mark_class}
use Rattle.wait_core.proofs.index.reindex.Goals as goal

pub put_in-requires-clause-index : goal.put_in-requires-clause-index
put_in-requires-clause-index c =
    let small : c.in-Entry.at < ENTRIES = subst IsClass c.in-Entry.is c.requires.class in
    (c.take_out.ensures.index (shown_stand c.args.words.now) c.requires.index
    (entry_stood c.args.words.now c.in-Entry.at small ∙ ap stand_by (sym c.entry_in.ensures.entry)
    ∙ sym c.entry_stand.ensures.stand)).order

pub returns-in-Entry-clause-index : goal.returns-in-Entry-clause-index
returns-in-Entry-clause-index c = λ l there is.
    let x = c.in-Entry.at in
    let small : x < ENTRIES = subst IsClass c.in-Entry.is c.requires.class in
    let out = c.take_out.ensures.index (shown_stand c.args.words.now) c.requires.index
    (entry_stood c.args.words.now x small ∙ ap stand_by (sym c.entry_in.ensures.entry)
    ∙ sym c.entry_stand.ensures.stand) in
    let new = c.put_in.ensures.index (put (shown_stand c.args.words.now) x None) out
    (emptied (shown_stand c.args.words.now) x) in
    rw (entry_class l x (is ∙ c.in-Entry.is)) (entry_changed c.args.words.now c.requires.count
    (position_of (Entry x)) c.args.left c.put_in.new.index.items x (omega arith) small
    (rw (c.entry_stand-in-Entry.ensures.stand, c.entry_by.ensures.entry) at new))

pub put_in-requires-in-Bookmark-clause-index : goal.put_in-requires-in-Bookmark-clause-index
put_in-requires-in-Bookmark-clause-index c =
    (c.take_out-in-Bookmark.ensures.index (shown_stand c.args.words.now) c.requires.index
    (mark_stood c.args.words.now (ENTRIES + c.from-number.result) c.in-Bookmark.task
    (omega (arith, c.from-number.ensures)) ∙ sym c.mark_in.ensures.mark)).order

pub returns-in-Bookmark-clause-index : goal.returns-in-Bookmark-clause-index
returns-in-Bookmark-clause-index c = λ l there is.
    let t = c.in-Bookmark.task in
    let n = ENTRIES + c.from-number.result in
    let number : n ≡ ENTRIES + t = omega (arith, c.from-number.ensures) in
    let small : t < TASKS = subst IsClass c.in-Bookmark.is c.requires.class in
    let out = c.take_out-in-Bookmark.ensures.index (shown_stand c.args.words.now) c.requires.index
    (mark_stood c.args.words.now n t number ∙ sym c.mark_in.ensures.mark) in
    let new = c.put_in-in-Bookmark.ensures.index (put (shown_stand c.args.words.now) n None) out
    (emptied (shown_stand c.args.words.now) n) in
    rw (mark_class l t (is ∙ c.in-Bookmark.is)) (mark_changed c.args.words.now c.requires.count
    (position_of (Bookmark t)) c.args.left c.put_in-in-Bookmark.new.index.items n (omega arith)
    (omega arith) (omega arith) (rw c.mark_by.ensures.mark at new))
