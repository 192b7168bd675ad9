use Rattle.std.proofs.Common.{◌∙◌, ◌<◌, ap, false, refl, subst, sym}
use Rattle.wait_model.specs.{declared.layout.TheConstants.FIRST_DONE_HEAD, declared.watches.Kind.Kind, Watches.head_of}
use Rattle.wait_model.specs.Watches.{kind_for}
use Rattle.wait_rule.specs.Known.{Known}
use Rattle.wq_head.specs.Adds.{HasAdded, IsFormPlace}
use Rattle.wq_head.proofs.OneMoreLook.{holding_on}
use Rattle.wait_class.specs.Queueing.{IsForBy, form_entry}
use Rattle.wait_class.proofs.Ground.Standing.{bare_head}
use Rattle.wait_event.proofs.Conditions.{suits_for}
use Rattle.wait_event.proofs.PartSteps.{joins_by, off_later, own_looks, stays_by, wears_by}
use Rattle.poll_wait.specs.Polls.{front_in}
use Rattle.poll_wait.proofs.Polled.{polled_low, suits_by}
use Rattle.poll_turns.proofs.entries.join_first.Goals as goal

pub is_first-first-requires-clause-held : goal.is_first-first-requires-clause-held
is_first-first-requires-clause-held c = holding_on c.args.task.now c.own_entry.new.task
    (own_looks c.args.task.now c.own_entry.new.task c.own_entry.result c.own_entry.ensures c.requires.held)
    c.requires.held

pub is_first-first-requires-clause-head : goal.is_first-first-requires-clause-head
is_first-first-requires-clause-head c = c.head_of.ensures ∙ (ap head_of c.bare-bare.ensures
    ∙ (bare_head c.args.poll.first ∙ (c.requires.head ∙ sym c.own_entry.ensures.carries.at)))

pub add_by-requires-clause-head : goal.add_by-requires-clause-head
add_by-requires-clause-head c = ap head_of c.bare-bare.ensures
    ∙ (bare_head c.args.poll.first ∙ (c.requires.head ∙ (sym c.own_entry.ensures.carries.at
    ∙ sym (ap (λ (k : Known). k.at) c.is_first-first.ensures.looks.is))))

pub add_by-requires-clause-plain : goal.add_by-requires-clause-plain
add_by-requires-clause-plain c = subst (λ (k : Kind). IsForBy c.wait_form.result c.bare-bare.result k) (sym c.kind.ensures)
    (suits_for c.args.poll.first (kind_for c.args.poll.first) (front_in c.args.poll.state)
    (suits_by c.args.poll.first (front_in c.args.poll.state) refl c.requires.poll.first) c.wait_form.result
    c.wait_form.ensures c.bare-bare.result c.bare-bare.ensures)

pub add_by-requires-clause-low : goal.add_by-requires-clause-low
add_by-requires-clause-low c = subst (λ (h : _). h < FIRST_DONE_HEAD)
    (sym (ap head_of c.bare-bare.ensures ∙ bare_head c.args.poll.first))
    (polled_low c.args.poll.first c.requires.poll.first)

pub add_by-requires-clause-out : goal.add_by-requires-clause-out
add_by-requires-clause-out c = off_later
    (record { kind = kind_for c.args.poll.first; watch = c.args.poll.first; how = front_in c.args.poll.state; asks = false })
    c.args.task.now c.own_entry.new.task c.own_entry.result
    c.own_entry.ensures c.requires.held c.requires.head c.requires.home c.is_some.result c.is_some.ensures
    c.if-is_some.false c.is_first-first.new.task c.is_first-first.ensures.looks

pub returns-then-is_some-clause-joins : goal.returns-then-is_some-clause-joins
returns-then-is_some-clause-joins c = stays_by
    (record { kind = kind_for c.args.poll.first; watch = c.args.poll.first; how = front_in c.args.poll.state; asks = false })
    c.args.task.now c.own_entry.new.task c.own_entry.result
    c.own_entry.ensures c.requires.held c.requires.head c.requires.home c.is_some.result c.is_some.ensures
    c.if-is_some.true c.set_state.new.task c.mask.result c.mask.ensures c.set_state.ensures.step
    c.set_state.ensures.carries

pub returns-in-Ok-clause-joins : goal.returns-in-Ok-clause-joins
returns-in-Ok-clause-joins c = joins_by
    (record { kind = kind_for c.args.poll.first; watch = c.args.poll.first; how = front_in c.args.poll.state; asks = false })
    c.args.task.now c.own_entry.new.task c.own_entry.result
    c.own_entry.ensures c.requires.held c.requires.head c.requires.home c.is_some.result c.is_some.ensures
    c.if-is_some.false c.is_first-first.new.task c.is_first-first.ensures.looks false
    refl c.wait_form.result c.wait_form.ensures c.bare-bare.result c.bare-bare.ensures
    c.add_by.new.task c.set_state-in-Ok.new.task c.mask-in-Ok.result c.mask-in-Ok.ensures c.is_first-first.result
    c.is_first-first.ensures.tells
    (subst (λ (k : Kind). HasAdded (IsFormPlace c.wait_form.result) c.is_first-first.new.task c.add_by.new.task 0
    (form_entry c.wait_form.result c.bare-bare.result k)) c.kind.ensures c.in-Ok.ensures.queued)
    c.set_state-in-Ok.ensures.step c.set_state-in-Ok.ensures.carries

pub returns-in-Err-clause-joins : goal.returns-in-Err-clause-joins
returns-in-Err-clause-joins c = wears_by
    (record { kind = kind_for c.args.poll.first; watch = c.args.poll.first; how = front_in c.args.poll.state; asks = false })
    c.args.task.now c.own_entry.new.task c.own_entry.result
    c.own_entry.ensures c.requires.held c.requires.head c.requires.home c.is_some.result c.is_some.ensures
    c.if-is_some.false c.is_first-first.new.task c.is_first-first.ensures.looks false
    refl c.wait_form.result c.wait_form.ensures c.bare-bare.result c.bare-bare.ensures
    c.in-Err.worn c.add_by.new.task c.own_entry-in-Err.new.task c.in-Err.ensures.worn c.in-Err.ensures.noted
    c.in-Err.ensures.held c.own_entry-in-Err.result c.own_entry-in-Err.ensures
