-- A wait that is asked to leave: where it stands on a turn, and what its last loads make of it.
use Rattle.std.proofs.Common.{refl, sym, subst, inr}
use Rattle.std.specs.Prelude.{◌≡◌, true, Option, Some, None, Ok, Err}
use Rattle.wait_rule.specs.{Known.Known, Stays.Carries, Stays.unchanged}
use Rattle.poll_wait.specs.{declared.turns.Loads.Loads, declared.turns.Poll.Poll, declared.turns.Ready.Ready}
use Rattle.poll_wait.specs.Polls.{IsPoll, LeavesBoth, loaded, ready_of, with_both}
use Rattle.poll_wait.proofs.Pairing.{pairs_on, state_as, still_pair}
use Rattle.poll_wait.proofs.Turning.{same_carries}
use Rattle.poll_turns.specs.{declared.stages.PollStage.PollStage, declared.stages.PollUntil.PollUntil}
use Rattle.poll_turns.specs.PollTurns.{EndsPollUntil, HasBegunTurn, HasFirst, HasLoadedBoth, HasTriedQueueing}
use Rattle.poll_turns.specs.PollTurns.{HasMadeTurns, IsEnding, IsOnTurn, IsPollAt, IsToSleep, LeavesPart}
use Rattle.poll_turns.specs.PollTurns.{found_no_signal, found_unset, leaves_at, made_nothing, queued_both, queued_first}
use Rattle.poll_turns.specs.declared.stages.PollStage.TheVariants as stage
use Rattle.poll_turns.specs.declared.stages.PollUntil.TheVariants as until
use Rattle.poll_turns.proofs.Loading.{turn_within}

-- where it stands
on_none : (p : Poll) (start now : Known) → HasMadeTurns p start now → IsOnTurn p start now
on_none p start now t = record {
  last = now;
  within = record {
    turned = t;
    has = t.may.has;
    carries = record {
      state = now.book.state;
      carries = state_as (with_both now.view.number) (with_both now.view.number) now.view.number (λ σ. σ)
          (λ _. now.book.state) now now refl (still_pair (λ σ. σ) now now (same_carries now));
    };
  };
  part = made_nothing;
}

on_first : (p : Poll) (start now : Known) → HasFirst p start now → IsOnTurn p start now
on_first p start now x = record { last = x.last; within = x.within; part = queued_first now x.first }

on_both : (p : Poll) (start now : Known) → HasTriedQueueing p start now (Ok tt) → IsOnTurn p start now
on_both p start now x = record { last = x.last; within = x.within; part = queued_both now x.queues }

on_loads : (p : Poll) (start now : Known) (l : Loads) → HasLoadedBoth p start now l → IsOnTurn p start now
on_loads p start now l x = record {
  last = x.last;
  within = x.within;
  part = subst (HasBegunTurn p x.last) (sym x.is) (found_unset x.queued l x.queues x.unset);
}

on_sleep : (p : Poll) (start now : Known) → IsToSleep p start now → IsOnTurn p start now
on_sleep p start now x = record {
  last = x.last;
  within = x.within;
  part = found_no_signal x.queued x.loads now x.queues x.unset x.asks;
}

-- its last loads
module _ (p : Poll) (is : IsPoll p) (start old new : Known) (on : IsOnTurn p start old) (l : Loads)
    (loads : new ≡ loaded p l old) (c : Carries unchanged old new) where
  left : (o : Option Ready) → ready_of p l ≡ o → (n : Known) → LeavesBoth new n → LeavesPart p start n l o
  left o finds n leaves =
      let t = on.within.turned in record {
        began = t.loads;
        unset = t.unset;
        turns = t.turns;
        last = on.last;
        sleeps = t.sleeps;
        there = old;
        part = on.part;
        finds = finds;
        leaves = subst (λ (k : Known). LeavesBoth k n) loads leaves;
      }

  ending : (end : PollUntil) → ((n : Known) → LeavesBoth new n → EndsPollUntil (Unit {0}) p start n end)
      → IsEnding (Unit {0}) p start new end
  ending end ends =
      let w = turn_within p is start on.last old new on.within c in record {
        begins = w.turned.begins;
        has = w.has;
        carries = record {
          state = w.carries.state;
          carries = pairs_on (λ _. 0) (λ _. w.carries.state) start on.last new w.turned.carries w.carries.carries;
        };
        ends = ends;
      }

  pub quits_ready : (r : Ready) → ready_of p l ≡ Some r → IsEnding (Unit {0}) p start new (until.Over (Ok r))
  quits_ready r set = ending (until.Over (Ok r)) (λ n leaves. inr (tt, (l, left (Some r) set n leaves)))

  pub quits_left : ready_of p l ≡ None → IsEnding (Unit {0}) p start new (until.Left l.first l.second)
  quits_left unset = ending (until.Left l.first l.second) (λ n leaves. (tt, left None unset n leaves))

-- by the stage
pub on_turn : (A : Type 0) (p : Poll) (start now : Known) (s : PollStage) → leaves_at s ≡ true → IsPollAt A p start now s
    → IsOnTurn p start now
on_turn A p start now stage.QueueFirst is x = on_none p start now x
on_turn A p start now stage.QueueSecond is x = on_first p start now x
on_turn A p start now (stage.Load (Ok u)) is x = on_both p start now x
on_turn A p start now (stage.Load (Err w)) is x = absurd (cc)
on_turn A p start now (stage.Ask l) is x = on_loads p start now l x
on_turn A p start now (stage.Sleep f) is x = on_sleep p start now x
on_turn A p start now s is x = absurd (cc)
