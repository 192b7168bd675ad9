use Rattle.std.proofs.Common.{◌∙◌, ◌<◌, ap, subst, sym}
use Rattle.wait_model.specs.{declared.layout.TheConstants.FIRST_DONE_HEAD, Watches.head_of}
use Rattle.wait_rule.specs.Known.{Known}
use Rattle.wait_rule.proofs.KnownLaws.AskedPages.{asks_no_page, no_page_asked}
use Rattle.wq_head.proofs.{AskedHolds.looks_unasked, OneMoreLook.looks_on}
use Rattle.wait_class.proofs.Ground.Standing.{bare_head}
use Rattle.wait_event.proofs.Conditions.{suits_low}
use Rattle.wait_event.proofs.PartSteps.{joins_by, off_later, own_looks, stays_by, wears_by}
use Rattle.wait_event.proofs.prepares.join.Goals as goal

pub is_first-first-requires-clause-head : goal.is_first-first-requires-clause-head
is_first-first-requires-clause-head c = c.head_of.ensures ∙ (ap head_of c.bare-watch.ensures
    ∙ (bare_head c.args.part.watch ∙ (c.requires.head ∙ sym c.own_entry.ensures.carries.at)))

pub add_by-requires-clause-head : goal.add_by-requires-clause-head
add_by-requires-clause-head c = ap head_of c.bare-watch.ensures
    ∙ (bare_head c.args.part.watch ∙ (c.requires.head ∙ (sym c.own_entry.ensures.carries.at
    ∙ sym (ap (λ (k : Known). k.at) c.is_first-first.ensures.looks.is))))

pub add_by-requires-clause-low : goal.add_by-requires-clause-low
add_by-requires-clause-low c = subst (λ (h : _). h < FIRST_DONE_HEAD)
    (sym (ap head_of c.bare-watch.ensures ∙ bare_head c.args.part.watch))
    (suits_low c.args.part.watch c.args.part.kind c.args.part.how c.requires.suits)

pub add_by-requires-clause-asks : goal.add_by-requires-clause-asks
add_by-requires-clause-asks c woken = no_page_asked c.is_first-first.new.task
    (looks_unasked c.args.task.now c.is_first-first.new.task
    (looks_on c.args.task.now c.own_entry.new.task c.is_first-first.new.task
    (own_looks c.args.task.now c.own_entry.new.task c.own_entry.result c.own_entry.ensures c.requires.held)
    c.is_first-first.ensures.looks) (asks_no_page c.args.task.now (c.requires.asks woken)))

pub add_by-requires-clause-out : goal.add_by-requires-clause-out
add_by-requires-clause-out c = off_later c.args.part c.args.task.now c.own_entry.new.task c.own_entry.result
    c.own_entry.ensures c.requires.held c.requires.head c.requires.home c.is_some.result c.is_some.ensures
    c.if-is_some.false c.is_first-first.new.task c.is_first-first.ensures.looks

pub returns-then-is_some-clause-joins : goal.returns-then-is_some-clause-joins
returns-then-is_some-clause-joins c = stays_by c.args.part c.args.task.now c.own_entry.new.task c.own_entry.result
    c.own_entry.ensures c.requires.held c.requires.head c.requires.home c.is_some.result c.is_some.ensures
    c.if-is_some.true c.set_state.new.task c.mask.result c.mask.ensures c.set_state.ensures.step
    c.set_state.ensures.carries

pub returns-in-Ok-clause-joins : goal.returns-in-Ok-clause-joins
returns-in-Ok-clause-joins c = joins_by c.args.part c.args.task.now c.own_entry.new.task c.own_entry.result
    c.own_entry.ensures c.requires.held c.requires.head c.requires.home c.is_some.result c.is_some.ensures
    c.if-is_some.false c.is_first-first.new.task c.is_first-first.ensures.looks c.answers_first.result
    c.answers_first.ensures c.wait_form.result c.wait_form.ensures c.bare-watch.result c.bare-watch.ensures
    c.add_by.new.task c.set_state-in-Ok.new.task c.mask-in-Ok.result c.mask-in-Ok.ensures c.is_first-first.result
    c.is_first-first.ensures.tells c.in-Ok.ensures.queued c.set_state-in-Ok.ensures.step
    c.set_state-in-Ok.ensures.carries

pub returns-in-Err-clause-joins : goal.returns-in-Err-clause-joins
returns-in-Err-clause-joins c = wears_by c.args.part c.args.task.now c.own_entry.new.task c.own_entry.result
    c.own_entry.ensures c.requires.held c.requires.head c.requires.home c.is_some.result c.is_some.ensures
    c.if-is_some.false c.is_first-first.new.task c.is_first-first.ensures.looks c.answers_first.result
    c.answers_first.ensures c.wait_form.result c.wait_form.ensures c.bare-watch.result c.bare-watch.ensures
    c.in-Err.worn c.add_by.new.task c.own_entry-in-Err.new.task c.in-Err.ensures.worn c.in-Err.ensures.noted
    c.in-Err.ensures.held c.own_entry-in-Err.result c.own_entry-in-Err.ensures
