-- Turns one after the other, and the whole call.
use Rattle.std.proofs.Common.{◌∙◌, ap, sym, refl, subst}
use Rattle.std.specs.Prelude.{ℕ, ◌≡◌, true, false, Option, Result, List, [], ◌∷◌, ◌++◌}
use Rattle.wait_rule.specs.{Known.Known, Queues.IsIdle, Queues.index, Says.IsUp, Says.told_of}
use Rattle.wait_rule.specs.Stays.{Carries, no_entries, unchanged, with_entry}
use Rattle.wait_rule.proofs.{KnownLaws.CarriedTasks.unchanged_none, KnownLaws.StayingParts.owes_also}
use Rattle.wait_class.specs.Posts.{IsOut}
use Rattle.wait_event.specs.Prepares.{IsPart}
use Rattle.wait_event.proofs.Changes.{idle_on, out_on}
use Rattle.wait_model.specs.Watches.{kind_for}
use Rattle.poll_wait.specs.{declared.turns.Loads.Loads, declared.turns.Poll.Poll, declared.turns.PollEnd.PollEnd}
use Rattle.poll_wait.specs.{declared.turns.Ready.Ready, Seconds.IsSecondOut, Seconds.second_of}
use Rattle.poll_wait.specs.Polls.{EndsLast, EndsPoll, EndsTurns, PollGoesOn, IsPoll, MayTurn, SleepsTurn, SleepsTurns}
use Rattle.poll_wait.specs.Polls.{is_either, loaded, poll_change, ready_of, with_both}
use Rattle.poll_wait.specs.TurnSteps.{GoesAgain, HasDone, PairCarries}
use Rattle.poll_wait.proofs.{Carrying.carries_more, Polled.still_has}
use Rattle.poll_wait.proofs.Pairing.{done_then, pairs_on, state_as, still_pair}

-- turns in which the task slept, so far
pub record Polling (p : Poll) (start now : Known) : Type 0 where
  pub turns : List Known
  pub sleeps : SleepsTurns p start turns now
  pub may : MayTurn p now
  pub carries : PairCarries (λ _. 0) start now

pub same_carries : (k : Known) → Carries unchanged k k
same_carries = unchanged_none

pub polling_none : (p : Poll) (k : Known) → MayTurn p k → Polling p k k
polling_none p k may = record {
  turns = [];
  sleeps = refl;
  may = may;
  carries = state_as (with_both k.view.number) (with_both k.view.number) k.view.number (λ σ. σ) (λ _. 0) k k
      (sym may.running) (still_pair (λ σ. σ) k k (unchanged_none k));
}

sleeps_more : (p : Poll) (turns : List Known) (start now new : Known) → SleepsTurns p start turns now
    → SleepsTurn p now new → SleepsTurns p start (turns ++ new ∷ []) new
sleeps_more p [] start now new was t = (subst (λ (k : Known). SleepsTurn p k new) was t, refl)
sleeps_more p (next ∷ more) start now new was t = (was.0, sleeps_more p more next now new was.1 t)

pub polling_on : (p : Poll) (start now new : Known) → Polling p start now → SleepsTurn p now new → GoesAgain p now new
    → Polling p start new
polling_on p start now new was t again = record {
  turns = was.turns ++ new ∷ [];
  sleeps = sleeps_more p was.turns start now new was.sleeps t;
  may = again.may;
  carries = pairs_on (λ _. 0) (λ _. 0) start now new was.carries again.carries;
}

pub polling_ends : (p : Poll) (start now new : Known) (r : Result Ready PollEnd) → Polling p start now
    → EndsLast p now new r → EndsTurns p start new r
polling_ends p start now new r was last = record {
  turns = was.turns;
  last = now;
  sleeps = was.sleeps;
  ends = last;
}

pub polling_done : (p : Poll) (start now new : Known) → Polling p start now → HasDone now new → HasDone start new
polling_done p start now new was done = done_then (λ _. 0) start now new was.carries done

-- the whole call
pub ends_poll : (p : Poll) (l : Loads) (old mid new : Known) (r : Result Ready PollEnd) (o : Option Ready)
    → mid ≡ loaded p l old → ready_of p l ≡ o → PollGoesOn p o mid new r → EndsPoll p old new r
ends_poll p l old mid new r o is set goes = record {
  loads = l;
  goes = subst (λ (k : Known). PollGoesOn p (ready_of p l) k new r) is
      (subst (λ (q : Option Ready). PollGoesOn p q mid new r) (sym set) goes);
}

module _ (p : Poll) (is : IsPoll p) (old mid : Known) (c : Carries unchanged old mid) (up : IsUp old) (idle : IsIdle old)
    (out : IsOut old) (out_second : IsSecondOut old) where
  pub first_turn : MayTurn p mid
  first_turn = record {
    has = still_has p is (λ σ. σ) old mid c (record {
      up = up;
      free = idle.free;
      first = subst (IsPart p.first (kind_for p.first)) (sym out) tt;
      second = subst (IsPart p.second (kind_for p.second)) (sym out_second) tt;
    });
    running = c.state ∙ idle.running;
  }

  -- over the loads alone
  pub loads_idle : IsIdle mid
  loads_idle = idle_on unchanged c idle

  pub loads_out : IsOut mid
  loads_out = out_on c refl out

  pub loads_second : IsSecondOut mid
  loads_second = ap (λ (n : ℕ). (told_of mid).bits.stored (index n 1)) c.number ∙ c.out (second_of old) refl out_second

  pub loads_carried : Carries (poll_change old.view.number mid.at) old mid
  loads_carried = carries_more (λ x. x) (λ x. x) no_entries false (λ σ. σ) (λ h. h) (λ x. x) (λ x. x)
      (is_either old.view.number) old mid c (λ x other. refl) (λ x. c.owes x)

  -- and over turns
  module _ (new : Known) (done : HasDone mid new) where
    all : HasDone old new
    all = done_then (λ σ. σ) old mid new (still_pair (λ σ. σ) old mid c) done

    pub done_idle : IsIdle new
    done_idle =
        let d = all.carries in record {
          running = d.state;
          free = record { head = d.head ∙ idle.free.head; ticket = d.ticket ∙ idle.free.ticket };
          unmarked = d.mark ∙ idle.unmarked;
        }

    pub done_carried : Carries (poll_change old.view.number new.at) old new
    done_carried =
        let me = old.view.number in
        let i = index me 0 in
        let j = index me 1 in
        state_as (λ x. x) (λ x. x) me (λ _. 0) (λ σ. σ) old new idle.running
        (carries_more (with_both me) (λ x. x) (is_either me) true (λ _. 0) (λ _. new.at) (λ x. x) (λ x. x) (is_either me) old new
        all.carries (λ x other. other)
        (λ x o. all.carries.owes x (owes_also i (with_entry j x) old (owes_also j x old o))))
