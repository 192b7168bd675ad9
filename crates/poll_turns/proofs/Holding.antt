-- The two entries are queued, each in a hold that is taken by looks at its ticket.
use Rattle.std.proofs.Common.{sym, refl, subst, inl}
use Rattle.std.specs.Prelude.{ℕ, ◌≡◌, ◌<◌, Bool, false, Some, Result, Ok, Err}
use Rattle.wait_model.specs.{declared.layout.TheConstants.FIRST_DONE_HEAD, declared.layout.TheConstants.HEADS}
use Rattle.wait_model.specs.{declared.watches.Watch.Watch, Tasks.state_mask, Watches.head_of, Watches.kind_for}
use Rattle.wait_rule.specs.{HandedPermits.OwesNoPermit, Known.Known, Queues.IsTold, Says.MayStore, Says.told_of}
use Rattle.wq_head.specs.{declared.adds.Worn.Worn, LockTurns.AwaitsLock, LockTurns.TookLock}
use Rattle.wait_class.specs.Posts.{own_of}
use Rattle.wait_event.specs.PartSteps.{Heeds}
use Rattle.wait_event.specs.Prepares.{EndsPrepare, IsPart, MayPrepare, SuitsWait, with_signal}
use Rattle.wait_event.proofs.{Conditions.low_fits, PartSteps.heeds_none, PartSteps.joins_at}
use Rattle.wait_event.proofs.Preparing.{ends_carried, join_ends as prepared_ends, prepare_home, prepare_low}
use Rattle.wait_event.proofs.Preparing.{prepare_may}
use Rattle.poll_wait.specs.{declared.turns.Poll.Poll, Polls.IsPoll, Polls.front_in, SecondSteps.JoinsHeld}
use Rattle.poll_wait.specs.TurnSteps.{TurnCarries}
use Rattle.poll_wait.specs.Seconds.{IsPolled, MayJoinSecond, second_of}
use Rattle.poll_wait.proofs.Joining.{held_at, join_carries, join_ends, join_may, joins_home, joins_low}
use Rattle.poll_wait.proofs.Pairing.{join_pair, prepare_pair, queue_pair}
use Rattle.poll_wait.proofs.Polled.{join_has, polled_low, prepare_has, suits_by}
use Rattle.poll_wait.proofs.Queueing.{may_join, queue_ends}
use Rattle.poll_turns.specs.PollSteps.{GivesHoldBack, JoinsFirst}
use Rattle.poll_turns.specs.PollTurns.{AwaitsFirst, AwaitsSecond, HasFirst, HasTriedQueueing, HasMadeTurns, IsWithin}

-- the first entry
module _ (p : Poll) (is : IsPoll p) (start last a : Known) (turned : HasMadeTurns p start last) (was : IsTold last)
    (took : TookLock last a (head_of p.first)) where
  may : MayPrepare last p.first (kind_for p.first) p.state
  may = record {
    up = turned.may.has.up;
    free = turned.may.has.free;
    state = inl turned.may.running;
    home = turned.may.has.first;
  }

  suits : SuitsWait p.first (kind_for p.first) (front_in p.state)
  suits = suits_by p.first (front_in p.state) refl is.first

  heed : Heeds (record { kind = kind_for p.first; watch = p.first; how = front_in p.state; asks = false }) a a false
  heed = heeds_none (record { kind = kind_for p.first; watch = p.first; how = front_in p.state; asks = false }) a refl

  pub first_head : head_of p.first ≡ a.at
  first_head = sym took.carries.at

  pub first_may : MayStore (state_mask p.state) a
  first_may = prepare_may
      (record { kind = kind_for p.first; watch = p.first; how = front_in p.state; asks = false }) last a a false may was suits
      took.locked took.carries heed

  pub first_home : IsPart p.first (kind_for p.first) ((told_of a).bits.stored (own_of a))
  first_home = prepare_home
      (record { kind = kind_for p.first; watch = p.first; how = front_in p.state; asks = false }) last a a false may was suits
      took.locked took.carries heed

  pub first_low : (b : Known) (r : Result Bool Worn) → JoinsFirst p a b r → OwesNoPermit b
  first_low b r joins = prepare_low
      (record { kind = kind_for p.first; watch = p.first; how = front_in p.state; asks = false }) last a a false may was suits
      took.locked took.carries heed b
      (joins_at (record { kind = kind_for p.first; watch = p.first; how = front_in p.state; asks = false }) a b r joins)

  module _ (b new : Known) (gives : GivesHoldBack b new) (now : IsTold new) where
    -- as a prepare, whatever it answers
    within : (q : Result (Unit {0}) Worn) → new.view.number ≡ last.view.number
        → EndsPrepare last new p.first (kind_for p.first) (front_in p.state) false (with_signal q) → TurnCarries last new
        → IsWithin p start last new
    within q number ends carries = record {
      turned = turned;
      has = prepare_has p is last new q number turned.may.has ends;
      carries = carries;
    }

    pub first_queued : (first : Bool) → JoinsFirst p a b (Ok first) → HasFirst p start new
    first_queued first joins =
        let e = prepared_ends
        (record { kind = kind_for p.first; watch = p.first; how = front_in p.state; asks = false }) last a a may was suits
        took.locked took.carries took.held b new gives.unlocked gives.carries false refl heed (Ok first) joins in
        record {
          last = last;
          within = within (Ok tt) e.0.keeps.number (e.0, e.1)
              (prepare_pair last new p.state (Ok tt) (ends_carried
              (record { kind = kind_for p.first; watch = p.first; how = front_in p.state; asks = false }) last new may was now
              suits (Ok (Some first)) e));
          first = (e.0, e.1);
        }

    pub first_worn : (w : Worn) → JoinsFirst p a b (Err w) → HasTriedQueueing p start new (Err w)
    first_worn w joins =
        let e = prepared_ends
        (record { kind = kind_for p.first; watch = p.first; how = front_in p.state; asks = false }) last a a may was suits
        took.locked took.carries took.held b new gives.unlocked gives.carries false refl heed (Err w) joins in
        record {
          last = last;
          within = within (Err w) e.0.keeps.number e
              (prepare_pair last new p.state (Err w) (ends_carried
              (record { kind = kind_for p.first; watch = p.first; how = front_in p.state; asks = false }) last new may was now
              suits (Err w) e));
          queues = inl e;
        }

-- the second
module _ (p : Poll) (is : IsPoll p) (start queued a : Known) (has : HasFirst p start queued) (was : IsTold queued)
    (took : TookLock queued a (head_of p.second)) where
  join : MayJoinSecond queued p.second
  join = may_join p queued has.within.has

  pub second_head : head_of p.second ≡ a.at
  second_head = sym took.carries.at

  pub second_home : IsPart p.second (kind_for p.second) ((told_of a).bits.stored (second_of a))
  second_home = joins_home p.second queued a join took.carries

  module _ (b : Known) (r : Result (Unit {0}) Worn) (joins : JoinsHeld p.second a b r) where
    pub second_low : OwesNoPermit b
    second_low = joins_low p.second queued a took.carries (polled_low p.second is.second) b (held_at p.second a b r joins)

    pub second_tried : (new : Known) → GivesHoldBack b new → HasTriedQueueing p start new r
    second_tried new gives =
        let carries = join_carries p.second queued a b new join was took.locked took.carries gives.unlocked gives.carries r
        joins in
        let ends = join_ends p.second queued a b new join was took.locked took.carries gives.unlocked gives.carries r joins in
        record {
          last = has.last;
          within = record {
            turned = has.within.turned;
            has = join_has p is queued new r carries.number has.within.has
                (join_may p.second queued a b new join was took.locked took.carries gives.unlocked gives.carries r joins) ends;
            carries = queue_pair has.last queued new has.within.carries (join_pair queued new carries);
          };
          queues = queue_ends p has.last queued new r has.first ends;
        }

-- behind a draw
pub first_drawn : (p : Poll) (start last now : Known) (h t : ℕ) → h ≡ head_of p.first → HasMadeTurns p start last → IsTold last
    → AwaitsLock last now h t → AwaitsFirst p start now t
first_drawn p start last now h t is turned told waits = record {
  last = last;
  turned = turned;
  told = told;
  waits = subst (λ (n : ℕ). AwaitsLock last now n t) is waits;
}

pub second_drawn : (p : Poll) (start queued now : Known) (h t : ℕ) → h ≡ head_of p.second → HasFirst p start queued
    → IsTold queued → AwaitsLock queued now h t → AwaitsSecond p start now t
second_drawn p start queued now h t is has told waits = record {
  queued = queued;
  has = has;
  told = told;
  waits = subst (λ (n : ℕ). AwaitsLock queued now n t) is waits;
}

pub low_head : (w : Watch) (h : ℕ) → h ≡ head_of w → IsPolled w → h < HEADS
low_head w h is polled = low_fits h (subst (λ (n : ℕ). n < FIRST_DONE_HEAD) (sym is) (polled_low w polled))

-- a lock whose head has another name
pub took_as : (old new : Known) (h n : ℕ) → h ≡ n → TookLock old new h → TookLock old new n
took_as old new h n is = subst (TookLock old new) is

pub awaits_as : (old new : Known) (h n t : ℕ) → n ≡ h → AwaitsLock old new h t → AwaitsLock old new n t
awaits_as old new h n t is = subst (λ (m : ℕ). AwaitsLock old new m t) (sym is)
