use Rattle.std.proofs.Common.{ℕ, ◌≡◌, ◌<◌, Bool, IfOk, Result, ap, arith, refl, subst, sym, true}
use Rattle.wait_model.specs.{Watches.head_of, declared.watches.Entry.Entry, declared.watches.Watch.Watch}
use Rattle.wait_model.specs.{declared.layout.TheConstants.FIRST_DONE_HEAD, declared.queues.Form.Form}
use Rattle.wait_model.specs.declared.watches.Watch.TheVariants as watch
use Rattle.wait_rule.specs.{Known.Known, Queues.IsPriorityPlace, Queues.IsTailPlace}
use Rattle.wq_head.specs.declared.adds.Worn.{Worn}
use Rattle.wq_head.specs.Adds.{HasAdded, HasAddedTail, tail_entry, IsFormPlace}
use Rattle.wait_class.specs.Queueing.{IsForBy, form_entry}
use Rattle.wait_class.proofs.EntryForms.{for_flags}
use Rattle.wait_class.proofs.queueing.add_by.Goals as goal

no_done : (w : Watch) → head_of w < FIRST_DONE_HEAD → (d : ℕ) → w ≡ watch.Done d → ⊥
unfolding head_of
no_done w low d is = let at = ap head_of is in omega (arith, low, at)

plain_tail : (w : Watch) (old new : Known) (entry : ℕ → Entry) (r : Result (Unit {0}) Worn)
    → ((d : ℕ) → w ≡ watch.Done d → ⊥) → IfOk r (λ _. HasAddedTail w old new 0 entry)
    → IfOk r (λ _. HasAdded IsTailPlace old new 0 entry)
plain_tail (watch.Done d) old new entry r other added = absurd (other d refl)
plain_tail (watch.Plain c) old new entry r other added = added
plain_tail (watch.Bit n b) old new entry r other added = added
plain_tail (watch.Var v o) old new entry r other added = added

pub returns-in-Front-clause-queued : goal.returns-in-Front-clause-queued
returns-in-Front-clause-queued c = subst (λ (f : Form). IfOk c.add_front.result (λ _. HasAdded (IsFormPlace f)
    c.args.task.now c.add_front.new.task 0 (form_entry f c.args.watch c.args.kind))) (sym c.in-Front.is)
    c.add_front.ensures.queued

pub returns-in-Tail-clause-queued : goal.returns-in-Tail-clause-queued
returns-in-Tail-clause-queued c = subst (λ (f : Form). IfOk c.add_tail.result (λ _. HasAdded (IsFormPlace f)
    c.args.task.now c.add_tail.new.task 0 (form_entry f c.args.watch c.args.kind))) (sym c.in-Tail.is)
    (subst (λ (b : Bool). IfOk c.add_tail.result (λ _. HasAdded IsTailPlace c.args.task.now c.add_tail.new.task 0
    (tail_entry b c.args.watch c.args.kind))) c.has_flags.ensures
    (plain_tail c.args.watch c.args.task.now c.add_tail.new.task _ c.add_tail.result
    (no_done c.args.watch c.requires.low) c.add_tail.ensures.queued))

pub returns-in-Priority-clause-queued : goal.returns-in-Priority-clause-queued
returns-in-Priority-clause-queued c = subst (λ (f : Form). IfOk c.add_priority.result (λ _. HasAdded (IsFormPlace f)
    c.args.task.now c.add_priority.new.task 0 (form_entry f c.args.watch c.args.kind))) (sym c.in-Priority.is)
    (subst (λ (b : Bool). IfOk c.add_priority.result (λ _. HasAdded IsPriorityPlace c.args.task.now
    c.add_priority.new.task 0 (λ place. record {
      watch = c.args.watch;
      place = place;
      exclusive = b;
      priority = true;
      kind = c.args.kind;
    }))) (for_flags c.args.watch c.args.kind (subst (λ (f : Form). IsForBy f c.args.watch c.args.kind) c.in-Priority.is
    c.requires.plain)) c.add_priority.ensures.queued)
