-- The two entries are taken off, each in a hold that is taken by looks at its ticket.
use Rattle.std.proofs.Common.{◌∙◌, sym, refl, subst, inl, inr}
use Rattle.std.specs.Prelude.{ℕ, ◌≡◌, ◌<◌, Bool, Option, Some, None, Result}
use Rattle.wait_model.specs.{declared.layout.TheConstants.FIRST_DONE_HEAD, declared.layout.TheConstants.HEADS}
use Rattle.wait_model.specs.{declared.watches.Entry.Entry, Watches.head_of}
use Rattle.wait_model.specs.declared.steps.Step.TheVariants as step
use Rattle.wait_rule.specs.declared.journal.Item.TheVariants as item
use Rattle.wait_rule.specs.{HandedPermits.OwesNoPermit, Known.Known, Queues.IsTold, Stays.Carries, Stays.state_change}
use Rattle.wait_rule.specs.Says.{IsFree, IsUp, added}
use Rattle.wq_head.specs.LockTurns.{AwaitsLock, TookLock}
use Rattle.wait_class.specs.Posts.{HasSeenOwn}
use Rattle.wait_event.specs.PartSteps.{IsAtHead, ParesPart}
use Rattle.wait_event.specs.Prepares.{HasFinished, MayFinish, leave_change}
use Rattle.wait_event.proofs.{Conditions.low_fits, PartSteps.pares_at, Preparing.left_carried}
use Rattle.wait_event.proofs.Finishing.{finish_free, finish_home, finish_low, finish_off, finish_on, finish_owes}
use Rattle.poll_wait.specs.{declared.turns.Poll.Poll, declared.turns.PollEnd.PollEnd, declared.turns.Ready.Ready}
use Rattle.poll_wait.specs.{Polls.EndsPoll, Polls.IsPoll, TurnSteps.HasDone}
use Rattle.poll_wait.specs.Seconds.{HasLeftSecond, MayLeave, second_of}
use Rattle.poll_wait.specs.SecondSteps.{HasSeenSecond, IsSecondAtHead, ParesSecond}
use Rattle.poll_wait.proofs.Leaving.{leave_free, leave_home, leave_low, leave_off, leave_on, leave_owes, leave_up}
use Rattle.poll_wait.proofs.Leaving.{off_carried, on_carried, pares_second}
use Rattle.poll_wait.proofs.Pairing.{done_then, leave_pair, out_stays}
use Rattle.poll_wait.proofs.Queueing.{may_finish, may_leave}
use Rattle.poll_wait.proofs.Turning.{done_carried, done_idle, same_carries}
use Rattle.poll_turns.specs.declared.stages.PollUntil.{PollUntil}
use Rattle.poll_turns.specs.declared.stages.PollUntil.TheVariants as until
use Rattle.poll_turns.specs.PollSteps.{GivesHoldBack}
use Rattle.poll_turns.specs.PollTurns.{AwaitsTakeFirst, AwaitsTakeSecond, EndsPollUntil, HasPolled, HasTakenFirst, IsEnding}
use Rattle.poll_turns.proofs.{Holding.took_as, Parting.until_stays}

-- a ticket of this head may be drawn
pub record MayDraw (k : Known) (h : ℕ) : Type 0 where
  pub fits : h < HEADS
  pub free : IsFree k
  pub up : IsUp k

-- the first entry
module _ (A : Type 0) (p : Poll) (is : IsPoll p) (start before : Known) (end : PollUntil) (e : IsEnding A p start before end)
    (told : IsTold before) where
  may : MayFinish before
  may = may_finish p is before e.has

  taken : (now : Known) → IsTold now → HasFinished before now → HasTakenFirst A p start now end
  taken now known finished = record {
    before = before;
    ending = e;
    finished = finished;
    carries = left_carried before now e.has.up e.has.free told known finished.keeps finished.up finished.free (λ s. 0)
        finished.running finished.out;
  }

  module _ (stored : Known) (stores : stored ≡ added before (item.Made (step.State 0)))
      (c : Carries (state_change 0) before stored) (seen : Known) (o : Option Entry) (looks : HasSeenOwn stored seen o) where
    pub first_off : o ≡ None → IsTold seen → HasTakenFirst A p start seen end
    first_off none known = taken seen known (finish_off before stored may stores c seen o looks none)

    module _ (entry : Entry) (some : o ≡ Some entry) (h : ℕ) (is_head : h ≡ head_of entry.watch) where
      pub first_draws : MayDraw seen h
      first_draws = record {
        fits = low_fits h (subst (λ (n : ℕ). n < FIRST_DONE_HEAD) (sym is_head)
            (finish_low before stored may stores c seen o looks entry some));
        free = finish_free before stored may stores c seen o looks entry some;
        up = looks.carries.awake ∙ (c.awake ∙ e.has.up);
      }

      pub first_awaits : (now : Known) (t : ℕ) → AwaitsLock seen now h t → AwaitsTakeFirst A p start now end h t
      first_awaits now t waits = record {
        before = before;
        ending = e;
        told = told;
        stored = stored;
        stores = stores;
        carries = c;
        seen = seen;
        entry = entry;
        looks = subst (HasSeenOwn stored seen) some looks;
        is_head = is_head;
        waits = waits;
      }

-- in its hold
module _ (A : Type 0) (p : Poll) (is : IsPoll p) (start old : Known) (end : PollUntil) (h t : ℕ)
    (w : AwaitsTakeFirst A p start old end h t) where
  pub take_fits : h < HEADS
  take_fits = (first_draws A p is start w.before end w.ending w.told w.stored w.stores w.carries w.seen (Some w.entry)
      w.looks w.entry refl h w.is_head).fits

  module _ (a : Known) (named : TookLock w.seen a h) where
    took : TookLock w.seen a (head_of w.entry.watch)
    took = took_as w.seen a h (head_of w.entry.watch) w.is_head named

    fin : MayFinish w.before
    fin = may_finish p is w.before w.ending.has

    pub take_home : IsAtHead a
    take_home = finish_home w.before w.stored fin w.stores w.carries w.seen (Some w.entry) w.looks w.entry refl a took.locked
        took.carries

    module _ (b : Known) (found : Bool) (pares : ParesPart a b found) where
      pub take_owes : OwesNoPermit b
      take_owes = finish_owes w.before w.stored fin w.stores w.carries w.seen (Some w.entry) w.looks w.entry refl a
          took.locked took.carries b (pares_at a b found pares)

      pub take_on : (new : Known) → GivesHoldBack b new → IsTold new → HasTakenFirst A p start new end
      take_on new gives known = taken A p is start w.before end w.ending w.told new known
          (finish_on w.before w.stored fin w.stores w.carries w.seen (Some w.entry) w.looks w.entry refl a took.locked
          took.carries took.held b found pares new gives.unlocked gives.carries)

-- it is over
module _ (A : Type 0) (p : Poll) (is : IsPoll p) (start between : Known) (end : PollUntil)
    (had : HasTakenFirst A p start between end) where
  pub second_may : MayLeave between
  second_may = may_leave p is had.before between had.ending.has had.finished had.carries.number

  over : (new : Known) → HasLeftSecond between new → Carries (leave_change (second_of between) new.at) between new
      → HasPolled A p start new end
  over new left c =
      let b = had.ending.begins in
      let done : HasDone start new = done_then (λ _. had.ending.carries.state) start had.before new
      had.ending.carries.carries (record {
        up = left.up;
        out = out_stays had.before between new had.carries.number had.finished.out c;
        out_second = left.out;
        carries = leave_pair had.before between new had.carries c;
      }) in
      let ends = had.ending.ends new (record { between = between; first = had.finished; second = left }) in
      record {
        ends = ends;
        up = done.up;
        idle = done_idle p is start start (same_carries start) b.up b.idle b.out b.out_second new done;
        out = done.out;
        out_second = done.out_second;
        carries = done_carried p is start start (same_carries start) b.up b.idle b.out b.out_second new done;
        beside = until_stays p is A start new end (b.told.head ∙ b.idle.free.head) done.carries.number ends;
      }

  module _ (told : IsTold between) (seen : Known) (o : Option Entry) (looks : HasSeenSecond between seen o) where
    pub second_off : o ≡ None → HasPolled A p start seen end
    second_off none = over seen (leave_off between seen o second_may told looks none)
        (off_carried between seen o second_may told looks none)

    module _ (entry : Entry) (some : o ≡ Some entry) (h : ℕ) (is_head : h ≡ head_of entry.watch) where
      pub second_draws : MayDraw seen h
      second_draws = record {
        fits = low_fits h (subst (λ (n : ℕ). n < FIRST_DONE_HEAD) (sym is_head)
            (leave_low between seen o second_may told looks entry some));
        free = leave_free between seen o second_may told looks entry some;
        up = leave_up between seen o second_may told looks entry some;
      }

      pub second_awaits : (now : Known) (t : ℕ) → AwaitsLock seen now h t → AwaitsTakeSecond A p start now end h t
      second_awaits now t waits = record {
        between = between;
        taken = had;
        told = told;
        seen = seen;
        entry = entry;
        looks = subst (HasSeenSecond between seen) some looks;
        is_head = is_head;
        waits = waits;
      }

      module _ (a : Known) (named : TookLock seen a h) where
        took_second : TookLock seen a (head_of entry.watch)
        took_second = took_as seen a h (head_of entry.watch) is_head named

        pub second_home : IsSecondAtHead a
        second_home = leave_home between seen o second_may told looks entry some a took_second.locked took_second.carries

        module _ (b : Known) (found : Bool) (pares : ParesSecond a b found) where
          pub second_owes : OwesNoPermit b
          second_owes = leave_owes between seen o second_may told looks entry some a took_second.locked took_second.carries b
              (pares_second a b found pares).at

          pub second_on : (new : Known) → GivesHoldBack b new → HasPolled A p start new end
          second_on new gives = over new
              (leave_on between seen o second_may told looks entry some a took_second.locked took_second.carries
              took_second.held b found pares new gives.unlocked gives.carries)
              (on_carried between seen o second_may told looks entry some a took_second.locked took_second.carries
              took_second.held b found pares new gives.unlocked gives.carries)

-- one that nobody asked to leave
pub plain_end : (p : Poll) (start new : Known) (r : Result Ready PollEnd) → EndsPollUntil ⊥ p start new (until.Over r)
    → EndsPoll p start new r
plain_end p start new r (inl x) = x
plain_end p start new r (inr x) = absurd x.0
