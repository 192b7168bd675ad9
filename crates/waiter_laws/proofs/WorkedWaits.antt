-- The worked list of a wait, computed.
use Rattle.std.proofs.Common.{refl, sym, ◌∙◌, ap, subst, arith}
use Rattle.std.specs.Prelude.{ℕ, zero, suc, ◌≡◌, ◌+◌, ◌<◌, Option, None, Some, List, [], ◌∷◌, false}
use Rattle.wait_model.specs.{declared.points.Seen.Seen, declared.queues.Member.Member, declared.steps.Step.Step}
use Rattle.wait_model.specs.{Fold.view_of, Points.form_of, Points.given_at, Queues.place_for, Readings.FailedLoad}
use Rattle.wait_model.specs.{Runs.entry_for, Tasks.task_of, Views.Look, Watches.head_of}
use Rattle.wait_model.specs.declared.layout.TheConstants.{FIRST_PLAIN_HEAD, MEMBERS, RUNNABLE, UNINTERRUPTIBLE}
use Rattle.wait_model.specs.declared.points.Point.TheVariants as at
use Rattle.wait_model.specs.declared.points.PreparePoint.TheVariants as preparing
use Rattle.wait_model.specs.declared.steps.Step.TheVariants as step
use Rattle.wait_model.proofs.HistoryLaws.PlainReadings.{failed_told}
use Rattle.wait_rule.specs.{Known.Known, Looking.ShowsEmpty, Queues.IsWholeBook, Queues.place_by, Says.newcomer}
use Rattle.wait_rule.specs.Says.{told_of}
use Rattle.wait_rule.specs.Shown.{queue_below, queue_with, shown_queue}
use Rattle.wait_rule.specs.Transitions.{IsSeenAs, IsTransition, OnlyLooks, Transition, after_transition, by_step}
use Rattle.wait_rule.specs.Transitions.{call_program, is_worn}
use Rattle.wait_rule.proofs.KnownLaws.Transitions.{only_none}
use Rattle.wait_rule.proofs.WorkedTests.QueuedEntry.{none_by, not_unknown, not_unseen}
use Rattle.wait_class.specs.Findings.{saw_nothing, saw_entry, with_own, with_value}
use Rattle.waiter_laws.specs.Asleep.{EndsAsleep}
use Rattle.waiter_laws.specs.WorkedWaits.{WorkedWaits, from_hold, the_entry, the_wait, the_watch, untested, up_to_hold}
use Rattle.waiter_laws.specs.WorkedWaits.{with_steps}

-- a queue of nobody
none_at : (o : Option ℕ) → ((p : ℕ) → o ≡ Some p → ⊥) → o ≡ None
none_at None absent = refl
none_at (Some p) absent = absurd (absent p refl)

empty_below : (at : ℕ → Option ℕ) (n : ℕ) → ((m : ℕ) → m < n → at m ≡ None) → queue_below at n ≡ []
empty_below at zero absent = refl
empty_below at (suc n) absent = ap (λ (o : Option ℕ). queue_with n o (queue_below at n)) (absent n (omega arith))
    ∙ empty_below at n (λ m small. absent m (omega arith))

empty_queue : (k : Known) → ShowsEmpty k → shown_queue k ≡ []
unfolding shown_queue
empty_queue k s = empty_below (place_by k) MEMBERS (λ m small. none_at (place_by k m)
    (λ p is. none_by k s m p small is))

module _ (k : Known) (l : OnlyLooks (with_steps up_to_hold (newcomer k.domain 0 1 1)) k) (none : ShowsEmpty k) where
  abbrev first : Known
  first = newcomer k.domain 0 1 1

  abbrev made : Seen → Known → Step → Transition
  made seen knew e = record { seen = seen; knew = knew; did = by_step e }

  abbrev loads : Transition
  loads = made (with_value 0) first (step.Load the_watch 0)

  abbrev locks : Transition
  locks = made saw_nothing (after_transition loads) (step.Lock FIRST_PLAIN_HEAD None 0)

  abbrev queues : Transition
  queues = made (saw_entry None) k (step.Queue 0 the_entry)

  abbrev stores : Transition
  stores = made saw_nothing (after_transition queues) (step.State UNINTERRUPTIBLE)

  abbrev gives : Transition
  gives = made saw_nothing (after_transition stores) (step.Unlock FIRST_PLAIN_HEAD false)

  abbrev tests : Transition
  tests = made (with_value 0) (after_transition gives) (step.Load the_watch 0)

  abbrev sleeps : Transition
  sleeps = made (with_own (task_of (RUNNABLE + UNINTERRUPTIBLE))) (after_transition tests)
      (step.Sleep (RUNNABLE + UNINTERRUPTIBLE))

  whole : IsWholeBook k
  whole = record {
    entries = λ x small. not_unseen ((told_of k).hold.book x) (none.entries x small);
    marks = λ t small. not_unknown _ (none.marks t small);
  }

  at_head : FIRST_PLAIN_HEAD ≡ k.at
  at_head = sym (ap (λ (j : Known). j.at) l.is)

  placed : the_entry ≡ entry_for (given_at the_wait (at.Prepare preparing.Queue)) (form_of the_wait)
      (place_for (form_of the_wait) (shown_queue k))
  placed = ap (λ (q : List Member). entry_for (given_at the_wait (at.Prepare preparing.Queue)) (form_of the_wait)
      (place_for (form_of the_wait) q)) (sym (empty_queue k none))

  queued : IsTransition (call_program 0 0 the_wait) (at.Prepare preparing.Queue) (after_transition locks) queues
  unfolding head_of
  queued = record {
    looks = l;
    is = (refl, at_head, whole, placed);
    finds = (
      tt,
      (
        subst (λ (o : Look). IsSeenAs o None) (sym (none.entries 0 (omega arith))) refl,
        λ out. (whole, ap (λ (q : List Member). is_worn (form_of the_wait) q) (sym (empty_queue k none))),
      ),
      tt,
    );
  }

  is_asleep : EndsAsleep the_wait first (with_steps from_hold k)
  unfolding head_of
  is_asleep = record {
    up = refl;
    out = refl;
    before = loads ∷ locks ∷ queues ∷ stores ∷ gives ∷ tests ∷ [];
    came = after_transition tests;
    comes = (
      record { looks = only_none first; is = refl; finds = (refl, tt, tt) },
      (
        record { looks = only_none (after_transition loads); is = (refl, refl); finds = (tt, tt, tt) },
        (
          queued,
          (
            record { looks = only_none (after_transition queues); is = refl; finds = (tt, tt, tt) },
            (
              record { looks = only_none (after_transition stores); is = (refl, refl); finds = (tt, tt, tt) },
              (
                record { looks = only_none (after_transition gives); is = refl; finds = (refl, tt, tt) },
                (only_none (after_transition tests), refl),
              ),
            ),
          ),
        ),
      ),
    );
    sleep = sleeps;
    sleeps = record { looks = only_none (after_transition tests); is = tt; finds = (refl, tt, tt) };
    looked = only_none (after_transition sleeps);
  }

-- a task that tested nothing since it stored its state
not_failed : FailedLoad untested 0 the_watch → ⊥
unfolding head_of
not_failed l = let z : None ≡ Some ((view_of l.before).checks.found (head_of the_watch)) =
    (failed_told untested 0 the_watch).1 l in absurd (cc)

pub worked_waits : WorkedWaits
worked_waits = record { asleep = is_asleep; not_failed = not_failed }
