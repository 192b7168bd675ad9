-- What calls on mutexes and condition variables leave of a task that leaves their waits.
use Rattle.std.proofs.Common.{◌∙◌, ap, refl, sym, subst}
use Rattle.std.specs.Prelude.{ℕ, suc, ◌≡◌, ◌||◌, Bool, false, Option, Some, None, Result, Ok, Err}
use Rattle.wait_model.specs.declared.tasks.SleepState.TheVariants as states
use Rattle.wait_rule.specs.{Known.Known, Queues.IsIdle, Queues.index, Says.IsUp, Stays.Carries, Stays.unchanged}
use Rattle.wq_head.specs.declared.adds.Worn.{Worn}
use Rattle.wait_class.specs.Posts.{IsOut}
use Rattle.wait_event.specs.Ends.{wait_change}
use Rattle.wait_leave.specs.declared.exits.Until.{Until}
use Rattle.wait_leave.specs.declared.exits.Until.TheVariants as until
use Rattle.futex_table.specs.{declared.futexes.FutexEnd.FutexEnd, FutexLeaves.EndsFutexUntil}
use Rattle.futex_table.specs.Holding.{OthersStayHeld, StayHeld, holds_mutex}
use Rattle.futex_table.specs.LockLeaves.{AsksRound, HasAskedRounds, LocksMutexUntil, cond_until_answer, is_held_until}
use Rattle.futex_table.specs.LockLeaves.{is_locked_until, round_end, worn_until}
use Rattle.futex_table.specs.Mutexes.{HasTriedMutex, is_locked, worn_in}
use Rattle.futex_table.proofs.CondVaring.{answer_held}
use Rattle.futex_table.proofs.Mutexing.{IsBetween, again_between, again_carries, again_held, again_unlocked}

-- What a task is while it waits for a mutex and may be asked to leave: as it began, and it has made rounds.
pub record IsAsking (A : Type 0) (old now : Known) (m : ℕ) : Type 0 where
  pub asked : HasAskedRounds A m old now
  pub between : IsBetween old now

-- a lock that ends with a wait has not taken the mutex
never_none : (o : Option Worn) (x : Until (Result (Unit {0}) Worn)) → worn_until o ≡ Some x → is_locked_until x ≡ false
never_none (Some w) x is =
    let same : until.Over (Err w) ≡ x = cc in ap is_locked_until (sym same)
never_none None x is = absurd (cc)

pub round_unlocks : (end : Until (Result (Unit {0}) FutexEnd)) (x : Until (Result (Unit {0}) Worn))
    → round_end end ≡ Some x → is_locked_until x ≡ false
round_unlocks (until.Over end) x is = never_none (worn_in end) x is
round_unlocks (until.Left seen) x is =
    let same : until.Left seen ≡ x = cc in ap is_locked_until (sym same)

pub locks_by : (A : Type 0) (old new : Known) (m : ℕ) (mid : Known) (end : Until (Result (Unit {0}) FutexEnd))
    → HasAskedRounds A m old mid → AsksRound A m mid new end → (x : Until (Result (Unit {0}) Worn))
    → round_end end ≡ Some x → is_locked_until x ≡ false → LocksMutexUntil A old new m x
locks_by A old new m mid end rounds last (until.Over (Ok u)) is unlocked = absurd (cc)
locks_by A old new m mid end rounds last (until.Over (Err w)) is unlocked = record {
  mid = mid;
  end = end;
  rounds = rounds;
  last = last;
  answers = is;
}
locks_by A old new m mid end rounds last (until.Left seen) is unlocked = record {
  mid = mid;
  end = end;
  rounds = rounds;
  last = last;
  answers = is;
}

-- a try and a wait behind the rounds
module _ (A : Type 0) (old now tried : Known) (m : ℕ) (w : IsAsking A old now m) (still : Carries unchanged now tried)
    (hit : Bool) (none : hit ≡ false) (found : HasTriedMutex now tried m hit)
    (is : holds_mutex tried m ≡ (holds_mutex now m || hit)) (others : OthersStayHeld m now tried) (new : Known)
    (end : Until (Result (Unit {0}) FutexEnd)) (ends : EndsFutexUntil A tried new m 0 states.Uninterruptible end)
    (stays : StayHeld tried new) (carries : Carries (wait_change (index tried.view.number 0) new.at) tried new) where
  asks_round : AsksRound A m now new end
  asks_round = record {
    tried = tried;
    found = subst (HasTriedMutex now tried m) none found;
    waited = ends;
  }

  pub asks_carries : Carries (wait_change (index old.view.number 0) new.at) old new
  asks_carries = again_carries old now tried m w.between still hit none is others new stays carries

  pub asks_held : StayHeld old new
  asks_held = again_held old now tried m w.between still hit none is others new stays carries

  pub asks_more : IsUp new → IsIdle new → IsOut new → round_end end ≡ None → IsAsking A old new m
  asks_more up idle out on = record {
    asked = record { count = suc w.asked.count; rounds = (now, end, w.asked.rounds, asks_round, on) };
    between = again_between old now tried m w.between still hit none is others new stays carries up idle out;
  }

  module _ (x : Until (Result (Unit {0}) Worn)) (answers : round_end end ≡ Some x) where
    pub asks_ends : LocksMutexUntil A old new m x
    asks_ends = locks_by A old new m now end w.asked asks_round x answers (round_unlocks end x answers)

    pub asks_unlocked : holds_mutex new m ≡ (holds_mutex old m || is_locked_until x)
    asks_unlocked = again_unlocked old now tried m w.between still hit none is others new stays carries
        ∙ ap (λ (b : Bool). holds_mutex old m || b) (sym (round_unlocks end x answers))

-- whether the mutex is held behind a wait for a condition variable
until_held : (end : Until (Result (Unit {0}) FutexEnd)) (lock : Result (Unit {0}) Worn)
    → is_held_until (cond_until_answer end lock) ≡ is_locked lock
until_held (until.Over end) lock = answer_held end lock
until_held (until.Left seen) (Ok u) = refl
until_held (until.Left seen) (Err w) = refl

pub cond_until_held : (b : Bool) (end : Until (Result (Unit {0}) FutexEnd)) (lock : Result (Unit {0}) Worn) (k : Known)
    (m : ℕ) → b ≡ false → holds_mutex k m ≡ (b || is_locked lock)
    → holds_mutex k m ≡ is_held_until (cond_until_answer end lock)
cond_until_held b end lock k m free is = is
    ∙ (ap (λ (c : Bool). c || is_locked lock) free ∙ sym (until_held end lock))
