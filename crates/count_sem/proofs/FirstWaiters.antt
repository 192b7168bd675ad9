-- The first who waits is woken and taken off, as transitions of any program that gives a permit so.
use Rattle.std.proofs.Common.{◌∙◌, ap, sym, refl, subst, arith}
use Rattle.std.proofs.lemmas.Bool.Decides.{nat_tests}
use Rattle.std.specs.Prelude.{ℕ, ◌≡◌, Some, [], ◌∷◌}
use Rattle.wait_model.specs.{declared.layout.TheConstants.MEMBERS, declared.points.Next.Next}
use Rattle.wait_model.specs.{declared.points.Planned.Planned, declared.points.Point.Point, declared.points.Seen.Seen}
use Rattle.wait_model.specs.{declared.queues.CalledEntry.CalledEntry, declared.watches.Entry.Entry, Programs.go}
use Rattle.wait_model.specs.{Queues.is_entry, Queues.entry_from, Tasks.task_of, Watches.mask_of, Watches.owner}
use Rattle.wait_model.specs.Runs.{called_as, called_by, called_of}
use Rattle.wait_model.specs.declared.calls.Event.TheVariants as event
use Rattle.wait_model.specs.declared.points.Next.TheVariants as next
use Rattle.wait_model.specs.declared.points.Point.TheVariants as at
use Rattle.wait_model.specs.declared.points.SelectPoint.TheVariants as selecting
use Rattle.wait_model.specs.declared.steps.Step.TheVariants as step
use Rattle.wait_model.specs.declared.watches.Mode.TheVariants as mode
use Rattle.wait_model.proofs.QueueLaws.QueueOrder.{IsFirstFrom, first_is}
use Rattle.wait_rule.specs.declared.journal.Item.TheVariants as item
use Rattle.wait_rule.specs.{Known.Known, Says.added}
use Rattle.wait_rule.specs.Shown.{shown_entry, shown_queue, queue_below}
use Rattle.wait_rule.specs.Transitions.{Goes, IsMadeFor, IsTransition, OnlyLooks, Program, Transition, by_step}
use Rattle.wait_rule.proofs.KnownLaws.MemberBits.{bit_looks}
use Rattle.wait_rule.proofs.KnownLaws.Transitions.{looks_first, only_none}
use Rattle.wq_head.specs.Selects.{HasSelected, SelectsFirst, simple_aim}
use Rattle.wq_head.proofs.{EntryWakes.blank_seen, FirstEntries.wake_book, FirstEntries.wake_notes}
use Rattle.wq_head.proofs.{LookingHold.looks_only, MemberStands.entry_shown, ShownMembers.place_same}
use Rattle.wq_head.proofs.{ShownQueue.queue_in_order, ShownQueue.queue_has}
use Rattle.wait_class.specs.Posts.{Runs}
use Rattle.count_sem.specs.SemPrograms.{gives_to}

module _ (f : Program) (from : ℕ) (behind_it : Point)
    (wakes : (c : CalledEntry) (seen : Seen) → seen.called ≡ Some c
    → f.plan (at.Select (selecting.Next from)) seen ≡ gives_to c seen)
    (offs : (who : ℕ) (seen : Seen)
    → f.plan (at.Select (selecting.Off 1 who)) seen ≡ go (event.Unqueue who) behind_it)
    (mask : (f.given (at.Select (selecting.Next from))).mask ≡ mask_of mode.Normal) where
  module _ (old new : Known) (s : SelectsFirst old new) where
    abbrev x : ℕ
    x = s.member.at

    first : IsFirstFrom is_entry 0 (shown_queue s.seen) (Some s.member)
    first = subst (IsFirstFrom is_entry 0 (shown_queue s.seen)) s.first
        (first_is is_entry 0 (shown_queue s.seen) (queue_in_order s.seen))

    found : (e : Entry) × (shown_entry s.seen x ≡ Some e) × (e.place ≡ s.member.place)
    found = let is = first.1 in entry_shown s.seen x s.member.place (grind (arith, nat_tests))
        (queue_has s.seen s.member first.0).1

    abbrev c : CalledEntry
    c = called_of (owner x) found.0

    abbrev finds_it : Seen
    finds_it = record (blank_seen (task_of s.found)) { called = Some c }

    planned : f.plan (at.Select (selecting.Next from)) finds_it ≡ gives_to c finds_it
    planned = wakes c finds_it refl

    abbrev woke : Known
    woke = added s.seen (item.Made (step.Wake (owner x) (mask_of mode.Normal) s.found))

    abbrev wake_transition : Transition
    wake_transition = record {
      seen = finds_it;
      knew = s.seen;
      did = by_step (step.Wake (owner x) (mask_of mode.Normal) s.found);
    }

    wake_is : IsTransition f (at.Select (selecting.Next from)) old wake_transition
    wake_is = record {
      looks = looks_only (simple_aim old.at) old s.seen s.looks;
      is = subst (λ (p : Planned). IsMadeFor s.seen f.own (f.given (at.Select (selecting.Next from))) p.event
          (by_step (step.Wake (owner x) (mask_of mode.Normal) s.found))) (sym planned) (refl, sym mask);
      finds = (
        refl,
        (s.whole, sym (ap (called_by (shown_entry s.seen)) s.first ∙ ap (called_as (owner x)) found.1)),
        tt,
      );
    }

    abbrev off_seen : Seen
    off_seen = blank_seen (task_of 0)

    abbrev off_transition : Transition
    off_transition = record { seen = off_seen; knew = woke; did = by_step (step.Unqueue x) }

    still_first : entry_from 0 (shown_queue woke) ≡ Some s.member
    unfolding shown_queue
    still_first = (λ i. entry_from 0 (queue_below (λ m. place_same s.seen woke
        (wake_book s.seen (owner x) (mask_of mode.Normal) s.found)
        (wake_notes s.seen (owner x) (mask_of mode.Normal) s.found) refl m i) MEMBERS)) ∙ s.first

    off_is : IsTransition f (at.Select (selecting.Off 1 (owner x))) woke off_transition
    off_is = record {
      looks = only_none woke;
      is = subst (λ (p : Planned). IsMadeFor woke f.own (f.given (at.Select (selecting.Off 1 (owner x)))) p.event
          (by_step (step.Unqueue x))) (sym (offs (owner x) off_seen)) refl;
      finds = (tt, tt, (s.member, still_first, refl));
    }

    behind : OnlyLooks (added woke (item.Made (step.Unqueue x))) new
    behind = subst (OnlyLooks (added woke (item.Made (step.Unqueue x)))) (sym s.is) (bit_looks woke (step.Unqueue x))

    pub first_runs : Runs f old new (next.Go (at.Select (selecting.Next from))) (next.Go behind_it)
    first_runs = record {
      transitions = wake_transition ∷ off_transition ∷ [];
      goes = (
        wake_is,
        subst (λ (m : Next). Goes f woke m (off_transition ∷ []) new (next.Go behind_it))
            (sym (ap (λ (p : Planned). p.next) planned))
            (off_is, (behind, sym (ap (λ (p : Planned). p.next) (offs (owner x) off_seen)))),
      );
    }

  -- a selection of one
  pub gives_runs : (old new : Known) → HasSelected old new 1 1
      → Runs f old new (next.Go (at.Select (selecting.Next from))) (next.Go behind_it)
  gives_runs old new s =
      let one = first_runs s.selects.0 new s.selects.2 in
      let seen = subst (λ (k : Known). OnlyLooks old k) (sym s.selects.1)
      (looks_only (simple_aim old.at) old s.seen s.looks) in record {
        transitions = one.transitions;
        goes = looks_first f old s.selects.0 new (next.Go (at.Select (selecting.Next from))) (next.Go behind_it)
            one.transitions seen one.goes;
      }
