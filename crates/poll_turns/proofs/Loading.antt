-- The loads of both conditions and the look for a signal, and what the wait comes to by what they find.
use Rattle.std.proofs.Common.{◌∙◌, ap, sym, refl, subst, inl}
use Rattle.std.specs.Prelude.{ℕ, ◌≡◌, Bool, true, false, Some, None, Result, Ok, Err, []}
use Rattle.wait_model.specs.declared.steps.Step.TheVariants as step
use Rattle.wait_model.specs.Tasks.{looks_in, pending, state_mask, task_of}
use Rattle.wait_rule.specs.declared.journal.Item.TheVariants as item
use Rattle.wait_rule.specs.{Known.Known, Says.added, Stays.Carries, Stays.unchanged}
use Rattle.wq_head.specs.declared.adds.Worn.{Worn}
use Rattle.poll_wait.specs.{declared.turns.Loads.Loads, declared.turns.Poll.Poll, declared.turns.PollEnd.PollEnd}
use Rattle.poll_wait.specs.{declared.turns.Ready.Ready, TurnSteps.TurnCarries}
use Rattle.poll_wait.specs.Polls.{AsksIf, AsksSignal, EndsLast, EndsPoll, EndsQueueing, IsPoll, LeavesBoth, QueuesBoth}
use Rattle.poll_wait.specs.Polls.{loaded, ready_of, with_both}
use Rattle.poll_wait.specs.declared.turns.PollEnd.TheVariants as poll_end
use Rattle.poll_wait.proofs.Pairing.{pairs_on, state_as, still_pair}
use Rattle.poll_wait.proofs.Polled.{still_has}
use Rattle.poll_wait.proofs.Turning.{ends_poll, first_turn, loads_carried, loads_idle, loads_out, loads_second}
use Rattle.poll_turns.specs.declared.stages.PollUntil.TheVariants as until
use Rattle.poll_turns.specs.PollTurns.{CanPoll, HasLoadedBoth, HasPolled, HasTriedQueueing, HasMadeTurns, IsEnding, IsToSleep, IsWithin}
use Rattle.poll_turns.proofs.Parting.{until_stays}

-- over steps that are about no entry
pub still_turn : (s : ℕ → ℕ) (old mid new : Known) → TurnCarries old mid → Carries (record unchanged { state = s }) mid new
    → TurnCarries old new
still_turn s old mid new one two = record {
  state = s one.state;
  carries = pairs_on (λ _. one.state) s old mid new one.carries (still_pair s mid new two);
}

pub turn_within : (p : Poll) → IsPoll p → (start last mid new : Known) → IsWithin p start last mid
    → Carries unchanged mid new → IsWithin p start last new
turn_within p is start last mid new w c = record {
  turned = w.turned;
  has = still_has p is (λ σ. σ) mid new c w.has;
  carries = still_turn (λ σ. σ) last mid new w.carries c;
}

-- the loads before the first turn
module _ (p : Poll) (is : IsPoll p) (start new : Known) (can : CanPoll start) (l : Loads)
    (loads : new ≡ loaded p l start) (c : Carries unchanged start new) where
  pub first_unset : ready_of p l ≡ None → HasMadeTurns p start new
  first_unset none = record {
    begins = can;
    loads = l;
    unset = none;
    turns = [];
    sleeps = loads;
    may = first_turn p is start new c can.up can.idle can.out can.out_second;
    carries = state_as (with_both start.view.number) (with_both start.view.number) start.view.number (λ σ. σ) (λ _. 0)
        start new (sym can.idle.running) (still_pair (λ σ. σ) start new c);
  }

  pub first_ready : (A : Type 0) (r : Ready) → ready_of p l ≡ Some r → HasPolled A p start new (until.Over (Ok r))
  first_ready A r set =
      let ends : EndsPoll p start new (Ok r) = ends_poll p l start new new (Ok r) (Some r) loads set (refl, refl) in record {
        ends = inl ends;
        up = c.awake ∙ can.up;
        idle = loads_idle p is start new c can.up can.idle can.out can.out_second;
        out = loads_out p is start new c can.up can.idle can.out can.out_second;
        out_second = loads_second p is start new c can.up can.idle can.out can.out_second;
        carries = loads_carried p is start new c can.up can.idle can.out can.out_second;
        beside = until_stays p is A start new (until.Over (Ok r)) (can.told.head ∙ can.idle.free.head) c.number (inl ends);
      }

-- an end of the present turn is one of the whole call
pub last_ends : (p : Poll) (start last new : Known) (r : Result Ready PollEnd) → HasMadeTurns p start last
    → EndsLast p last new r → EndsPoll p start new r
last_ends p start last new r turned ends = ends_poll p turned.loads start (loaded p turned.loads start) new r None refl
    turned.unset (record { turns = turned.turns; last = last; sleeps = turned.sleeps; ends = ends })

-- what is known of an end once its answer is
pub is_ending : (A : Type 0) (p : Poll) (start last now : Known) (r : Result Ready PollEnd) → IsWithin p start last now
    → ((new : Known) → LeavesBoth now new → EndsLast p last new r) → IsEnding A p start now (until.Over r)
is_ending A p start last now r w ends = record {
  begins = w.turned.begins;
  has = w.has;
  carries = record {
    state = w.carries.state;
    carries = pairs_on (λ _. 0) (λ _. w.carries.state) start last now w.turned.carries w.carries.carries;
  };
  ends = λ new leaves. inl (last_ends p start last new r w.turned (ends new leaves));
}

-- the loads behind a queueing
module _ (A : Type 0) (p : Poll) (is : IsPoll p) (start old new : Known) (q : Result (Unit {0}) Worn)
    (tried : HasTriedQueueing p start old q) (l : Loads) (loads : new ≡ loaded p l old) (c : Carries unchanged old new) where
  abbrev last : Known
  last = tried.last

  within : IsWithin p start last new
  within = turn_within p is start last old new tried.within c

  pub loads_ready : (r : Ready) → ready_of p l ≡ Some r → IsEnding A p start new (until.Over (Ok r))
  loads_ready r set = is_ending A p start last new (Ok r) within (λ n leaves. record {
    queued = old;
    outcome = q;
    queues = tried.queues;
    loads = l;
    set = set;
    leaves = subst (λ (k : Known). LeavesBoth k n) loads leaves;
  })

  module _ (unset : ready_of p l ≡ None) where
    pub loads_worn : (w : Worn) → q ≡ Err w → IsEnding A p start new (until.Over (Err (poll_end.Worn w.head w.place)))
    loads_worn w is_worn = is_ending A p start last new (Err (poll_end.Worn w.head w.place)) within (λ n leaves. record {
      queued = old;
      queues = subst (λ (d : Result (Unit {0}) Worn). EndsQueueing p last old d) is_worn tried.queues;
      loads = l;
      unset = unset;
      leaves = subst (λ (k : Known). LeavesBoth k n) loads leaves;
    })

    module _ (both : q ≡ Ok tt) where
      queues : QueuesBoth p last old
      queues = subst (λ (d : Result (Unit {0}) Worn). EndsQueueing p last old d) both tried.queues

      pub loads_looks : looks_in p.state ≡ true → HasLoadedBoth p start new l
      loads_looks looks = record {
        looks = looks;
        last = last;
        within = within;
        queued = old;
        queues = queues;
        unset = unset;
        is = loads;
      }

      pub loads_blind : looks_in p.state ≡ false → IsToSleep p start new
      loads_blind blind = record {
        last = last;
        within = within;
        queued = old;
        queues = queues;
        loads = l;
        unset = unset;
        asks = subst (λ (b : Bool). AsksIf b p.state (loaded p l old) new false) (sym blind) (loads, refl);
      }

-- the look for a signal
module _ (A : Type 0) (p : Poll) (is : IsPoll p) (start old new : Known) (l : Loads) (had : HasLoadedBoth p start old l) (w : ℕ)
    (looked : new ≡ added old (item.Made (step.Look w))) (c : Carries unchanged old new) (hit : Bool)
    (shows : hit ≡ pending (state_mask p.state) (task_of w)) where
  ask_within : IsWithin p start had.last new
  ask_within = turn_within p is start had.last old new had.within c

  asks : (b : Bool) → hit ≡ b → AsksSignal p.state (loaded p l had.queued) new b
  asks b so = subst (λ (d : Bool). AsksIf d p.state (loaded p l had.queued) new b) (sym had.looks)
      (w, looked ∙ ap (λ (k : Known). added k (item.Made (step.Look w))) had.is, sym so ∙ shows)

  pub ask_hit : hit ≡ true → IsEnding A p start new (until.Over (Err (poll_end.Signal l.first l.second)))
  ask_hit so = is_ending A p start had.last new (Err (poll_end.Signal l.first l.second)) ask_within (λ n leaves. record {
    queued = had.queued;
    queues = had.queues;
    unset = had.unset;
    asked = new;
    asks = asks true so;
    leaves = leaves;
  })

  pub ask_miss : hit ≡ false → IsToSleep p start new
  ask_miss so = record {
    last = had.last;
    within = ask_within;
    queued = had.queued;
    queues = had.queues;
    loads = l;
    unset = had.unset;
    asks = asks false so;
  }
