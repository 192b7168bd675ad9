use Rattle.std.proofs.Common.{rules}
use Rattle.wait_rule.specs.Known.{Known}
use Rattle.count_sem.specs.Ups.{FoundNobody}
use Rattle.count_sem.proofs.Raising.{found_counted, full_by, full_owes, raised_by, raised_owes}
use Rattle.count_sem.proofs.ups.raise.Goals as goal

pub unlock-requires-clause-permits : goal.unlock-requires-clause-permits
unlock-requires-clause-permits g c =
    let l = c.done_load-count in
    full_owes c.args.cell c.requires.found.0 c.args.task.now c.requires.found.1 l.new.task l.result l.ensures.step
    l.ensures.finds l.ensures.carries c.if-count-ge-FULL.true

pub returns-then-count-ge-FULL : goal.returns-then-count-ge-FULL
returns-then-count-ge-FULL g c =
    let l = c.done_load-count in
    let e = λ (start : Known) (f : FoundNobody start c.args.task.now c.args.cell). full_by c.args.cell start
    c.args.task.now f l.new.task l.result l.ensures.step l.ensures.finds l.ensures.carries c.if-count-ge-FULL.true
    c.unlock.new.task c.unlock.ensures.unlocked.is in record {
      raised = λ start f. (e start f).raised;
      up = search rules;
      free = search rules;
      carries = λ start f. (e start f).carries;
      off = λ start f. (e start f).off;
    }

pub add_one-requires-clause-counted : goal.add_one-requires-clause-counted
add_one-requires-clause-counted g c =
    let l = c.done_load-count in
    found_counted c.args.cell c.requires.found.0 c.args.task.now c.requires.found.1 l.new.task l.result l.ensures.step
    l.ensures.finds l.ensures.carries

pub unlock-requires-2-clause-permits : goal.unlock-requires-2-clause-permits
unlock-requires-2-clause-permits g c =
    let l = c.done_load-count in
    raised_owes c.args.cell c.requires.found.0 c.args.task.now c.requires.found.1 l.new.task l.result l.ensures.step
    l.ensures.finds l.ensures.carries c.if-count-ge-FULL.false c.add_one.new.task c.add_one.ensures

pub returns : goal.returns
returns g c =
    let l = c.done_load-count in
    let e = λ (start : Known) (f : FoundNobody start c.args.task.now c.args.cell). raised_by c.args.cell start
    c.args.task.now f l.new.task l.result l.ensures.step l.ensures.finds l.ensures.carries c.if-count-ge-FULL.false
    c.add_one.new.task c.add_one.ensures c.unlock-2.new.task c.unlock-2.ensures.unlocked.is in record {
      raised = λ start f. (e start f).raised;
      up = search rules;
      free = search rules;
      carries = λ start f. (e start f).carries;
      off = λ start f. (e start f).off;
    }
