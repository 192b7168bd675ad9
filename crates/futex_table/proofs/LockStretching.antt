-- Locks of mutexes that go on by stretches: what a stretch comes to, and what a lock says at its end.
use Rattle.std.proofs.Common.{◌∙◌, ap, refl, sym, subst}
use Rattle.std.specs.Prelude.{ℕ, zero, suc, ◌≡◌, ◌||◌, Bool, true, false, Option, Some, None, MatchBool, Result, Ok, Err, [], ◌∷◌}
use Rattle.wait_model.specs.declared.tasks.SleepState.{SleepState}
use Rattle.wait_model.specs.declared.tasks.SleepState.TheVariants as states
use Rattle.wait_rule.specs.{Known.Known, Queues.IsIdle, Queues.index, Says.IsUp, Says.added, Stays.Carries}
use Rattle.wait_rule.specs.Stays.{unchanged}
use Rattle.wait_rule.specs.declared.journal.Item.TheVariants as item
use Rattle.wq_head.specs.declared.adds.Worn.{Worn}
use Rattle.wait_class.specs.{Posts.IsOut, declared.stages.Run.Run}
use Rattle.wait_class.specs.Tables.{Advances, Lands, SleepsNot}
use Rattle.wait_class.specs.declared.stages.Turn.TheVariants as turn
use Rattle.wait_class.proofs.{AwakeSteps.only_awake, AwakeSteps.sleeps_not_on, UnderWay.woke_on}
use Rattle.wait_event.specs.Ends.{wait_change}
use Rattle.wait_leave.specs.declared.exits.Until.{Until}
use Rattle.wait_leave.specs.declared.exits.Until.TheVariants as until
use Rattle.wait_leave.specs.Leaves.{GoesOut, Leaves, asked_run}
use Rattle.wait_leave.specs.OnTheWay.{OnTheWay, left_at, straight}
use Rattle.wait_leave.proofs.Ways.{way_again, way_as, way_lands, way_risen, way_then}
use Rattle.futex_table.specs.{declared.futexes.FutexEnd.FutexEnd, declared.lock_stretches.LockStage.LockStage}
use Rattle.futex_table.specs.{declared.waits.FutexOutcome.FutexOutcome, declared.waits.FutexStage.FutexStage}
use Rattle.futex_table.specs.{declared.waits.FutexWait.FutexWait, FutexEnds.EndsFutexWait, FutexEnds.futex_end_in}
use Rattle.futex_table.specs.{FutexTables.futex_table, TallyUses.LeavesTallies}
use Rattle.futex_table.specs.FutexLeaves.{EndsFutexUntil, futex_exits, futex_until_in}
use Rattle.futex_table.specs.Holding.{OthersStayHeld, StayHeld, holds_mutex}
use Rattle.futex_table.specs.LockLeaves.{AsksRound, AsksRounds, HasAskedRounds, LocksMutexUntil, is_locked_until}
use Rattle.futex_table.specs.LockLeaves.{round_end, worn_until}
use Rattle.futex_table.specs.LockStretches.{AskedIf, IsInRound, IsLockAsleep, IsLockAt, IsLockUnderWay, IsMutexLocking}
use Rattle.futex_table.specs.LockStretches.{LeavesLock, FutexWaitTurn, ended_to, waited_to}
use Rattle.futex_table.specs.Mutexes.{HasWaitedRounds, LocksMutex, WaitsRound, WaitsRounds, worn_in}
use Rattle.futex_table.specs.declared.waits.FutexOutcome.TheVariants as outcome
use Rattle.futex_table.specs.declared.waits.FutexStage.TheVariants as stage
use Rattle.futex_table.proofs.{FutexEndings.ends_futex, FutexLaws.futex_lawful, LeftTallies.until_leaves}
use Rattle.futex_table.proofs.{LockLeaving.locks_by, LockLeaving.round_unlocks, Tallying.leaves_none}
use Rattle.futex_table.proofs.Tallying.{leaves_on}
use Rattle.futex_table.proofs.FutexLeaving.{ends_until, futex_may_leave, until_as, left_carried, left_held, left_idle}
use Rattle.futex_table.proofs.FutexLeaving.{left_out, left_up}
use Rattle.futex_table.proofs.Mutexing.{out_still, still_waits, waits_on}

or_none : (b : Bool) → (b || false) ≡ b
or_none true = refl
or_none false = refl

-- a lock that has made nothing yet
pub lock_begins : (m : ℕ) (k : Known) → IsUp k → IsIdle k → IsOut k → Carries unchanged k k → LeavesLock m k k false
lock_begins m k up idle out none = record {
  up = up;
  idle = idle;
  out = out;
  carries = still_waits k k none (index k.view.number 0);
  held = sym (or_none (holds_mutex k m));
  others = λ n ne. refl;
  tallies = leaves_none m k;
}

-- a take behind what it left
pub left_tried : (m : ℕ) (old now tried : Known) → LeavesLock m old now false → Carries unchanged now tried → (hit : Bool)
    → holds_mutex tried m ≡ (holds_mutex now m || hit) → OthersStayHeld m now tried → LeavesTallies m now tried
    → IsUp tried → IsIdle tried → LeavesLock m old tried hit
left_tried m old now tried l still hit held others tallies up idle =
    let i = index old.view.number 0 in record {
      up = up;
      idle = idle;
      out = out_still now tried still l.out;
      carries = waits_on i old now tried l.carries (still_waits now tried still i);
      held = held ∙ ap (λ (b : Bool). b || hit) (l.held ∙ or_none (holds_mutex old m));
      others = λ n ne. others n ne ∙ l.others n ne;
      tallies = leaves_on m old now tried l.tallies tallies;
    }

-- and a wait behind that, which takes nothing
pub left_waited : (m : ℕ) (old tried new : Known) → LeavesLock m old tried false
    → Carries (wait_change (index tried.view.number 0) new.at) tried new → StayHeld tried new → LeavesTallies m tried new
    → IsUp new → IsIdle new → IsOut new → (took : Bool) → took ≡ false → LeavesLock m old new took
left_waited m old tried new l carries stays tallies up idle out took none = record {
  up = up;
  idle = idle;
  out = out;
  carries = waits_on (index old.view.number 0) old tried new l.carries
      (subst (λ (n : ℕ). Carries (wait_change (index n 0) new.at) tried new) l.carries.number carries);
  held = stays m ∙ (l.held ∙ ap (λ (b : Bool). holds_mutex old m || b) (sym none));
  others = λ n ne. stays n ∙ l.others n ne;
  tallies = leaves_on m old tried new l.tallies tallies;
}

-- the wait of a round is over
module _ (b : Bool) (m : ℕ) (old new : Known) (q : Run FutexWait) (o : FutexOutcome)
    (x : IsInRound (AskedIf b) m old new q (turn.Done o)) where
  abbrev end : Until (Result (Unit {0}) FutexEnd)
  end = futex_until_in q.of o

  waited : EndsFutexUntil (AskedIf b) x.tried new m 0 states.Uninterruptible end
  waited = ends_until x.fresh x.came

  round : AsksRound (AskedIf b) m x.mid new end
  round = record { tried = x.tried; found = x.found; waited = waited }

  over_left : (took : Bool) → took ≡ false → LeavesLock m old new took
  over_left = left_waited m old x.tried new x.left
      (left_carried x.came x.left.up x.left.idle (x.told.head ∙ x.left.idle.free.head)) (left_held x.came)
      (until_leaves m x.tried new waited) (left_up x.came) (left_idle x.came x.left.idle.unmarked) (left_out x.came)

  over_to : (z : Option (Until (Result (Unit {0}) Worn))) → round_end end ≡ z → IsMutexLocking b m old new (ended_to z)
  over_to (Some result) is = record {
    locked = locks_by (AskedIf b) old new m x.mid end x.rounds round result is (round_unlocks end result is);
    left = over_left (is_locked_until result) (round_unlocks end result is);
  }
  over_to None is = record {
    rounds = record { count = suc x.rounds.count; rounds = (x.mid, end, x.rounds.rounds, round, is) };
    left = over_left false refl;
  }

  pub round_over : IsMutexLocking b m old new (ended_to (round_end (futex_until_in q.of o)))
  round_over = over_to (round_end end) refl

-- a look at the own word is no sleep
pub looked_awake : (old new : Known) (w : ℕ) → new ≡ added old (item.Awake w) → SleepsNot old new
looked_awake old new w is = only_awake old new (record { items = item.Awake w ∷ []; looks = (tt, tt); is = is })

-- a wait that was put asleep, looked, and is asleep still
out_dozed : (e : FutexWaitTurn) (n : FutexStage) (k mid new : Known) (r q : Run FutexWait)
    → GoesOut futex_table k mid r q e (turn.Asleep n) → Advances futex_table mid new q q n (turn.Asleep n)
    → GoesOut futex_table k new r q e (turn.Asleep n)
out_dozed (turn.Again s) n k mid new r q b a = woke_on futex_table futex_lawful k mid new r q q s n (turn.Asleep n) b a
out_dozed (turn.Asleep s) n k mid new r q b a = absurd b
out_dozed (turn.Locked s) n k mid new r q b a = absurd b
out_dozed (turn.Done o) n k mid new r q b a = absurd (let no = b.to in cc)

leaves_dozed : (old mid new : Known) (r q : Run FutexWait) (s n : FutexStage) → SleepsNot mid new
    → Leaves futex_table futex_exits old mid r q s (turn.Asleep n) → Advances futex_table mid new q q n (turn.Asleep n)
    → Leaves futex_table futex_exits old new r q s (turn.Asleep n)
leaves_dozed old mid new r q s n calm l a = record {
  exit = l.exit;
  is = l.is;
  rested = l.rested;
  rests = l.rests;
  keeps = l.keeps;
  on = out_dozed l.exit.to n l.rested mid new (asked_run futex_exits r) q l.on a;
  awake = λ here. sleeps_not_on old mid new (l.awake here) calm;
}

pub way_dozed : (A : Type 0) (old : Known) (r : Run FutexWait) (s : FutexStage) (mid new : Known) (q : Run FutexWait)
    (n : FutexStage) → SleepsNot mid new → OnTheWay A futex_table futex_exits old r s mid q (turn.Asleep n)
    → Advances futex_table mid new q q n (turn.Asleep n) → OnTheWay A futex_table futex_exits old r s new q (turn.Asleep n)
way_dozed A old r s _ new _ n calm (straight mid q _ b) a = straight new q (turn.Asleep n)
    (woke_on futex_table futex_lawful old mid new r q q s n (turn.Asleep n) b a)
way_dozed A old r s _ new _ n calm (left_at k j i mid q _ cause w l) a = left_at k j i new q (turn.Asleep n) cause w
    (leaves_dozed k mid new j q i n calm l a)

-- a wait that went on to here
with_way : (b : Bool) (m : ℕ) (old mid new : Known) (q p : Run FutexWait) (u v : FutexWaitTurn)
    (x : IsInRound (AskedIf b) m old mid q u)
    → OnTheWay (AskedIf b) futex_table futex_exits x.tried x.first stage.First new p v
    → IsInRound (AskedIf b) m old new p v
with_way b m old mid new q p u v x came = record {
  mid = x.mid;
  rounds = x.rounds;
  tried = x.tried;
  found = x.found;
  left = x.left;
  told = x.told;
  first = x.first;
  fresh = x.fresh;
  came = came;
}

pub in_round : (b : Bool) (m : ℕ) (old new : Known) (q : Run FutexWait) (u : FutexWaitTurn)
    → IsInRound (AskedIf b) m old new q u → IsMutexLocking b m old new (waited_to q u)
in_round b m old new q (turn.Again s) x = x
in_round b m old new q (turn.Asleep s) x = x
in_round b m old new q (turn.Locked s) x = with_way b m old new new q q (turn.Locked s) (turn.Again s) x
    (way_again (AskedIf b) futex_table futex_exits futex_may_leave futex_lawful x.tried x.first stage.First new q s
    x.came)
in_round b m old new q (turn.Done o) x = round_over b m old new q o x

module _ (b : Bool) (m : ℕ) (old mid new : Known) (q : Run FutexWait) (s : FutexStage) where
  pub round_on : (p : Run FutexWait) (u : FutexWaitTurn) → IsInRound (AskedIf b) m old mid q (turn.Again s)
      → OnTheWay (AskedIf b) futex_table futex_exits mid q s new p u → IsMutexLocking b m old new (waited_to p u)
  round_on p u x w = in_round b m old new p u (with_way b m old mid new q p (turn.Again s) u x
      (way_then (AskedIf b) futex_table futex_exits futex_may_leave futex_lawful x.tried x.first stage.First mid new q p
      s u x.came w))

  -- and one that was put asleep, and looked
  risen : IsInRound (AskedIf b) m old mid q (turn.Asleep s) → Advances futex_table mid new q q s (turn.Again s)
      → IsInRound (AskedIf b) m old new q (turn.Again s)
  risen x a = with_way b m old mid new q q (turn.Asleep s) (turn.Again s) x
      (way_risen (AskedIf b) futex_table futex_exits futex_may_leave futex_lawful x.tried x.first stage.First mid new q
      s x.came a)

  dozed : SleepsNot mid new → IsInRound (AskedIf b) m old mid q (turn.Asleep s)
      → Advances futex_table mid new q q s (turn.Asleep s) → IsInRound (AskedIf b) m old new q (turn.Asleep s)
  dozed calm x a = with_way b m old mid new q q (turn.Asleep s) (turn.Asleep s) x
      (way_dozed (AskedIf b) x.tried x.first stage.First mid new q s calm x.came a)

  pub round_woke : SleepsNot mid new → (c : Bool) → MatchBool c (Advances futex_table mid new q q s (turn.Again s))
      (Advances futex_table mid new q q s (turn.Asleep s)) → IsInRound (AskedIf b) m old mid q (turn.Asleep s)
      → MatchBool c (IsInRound (AskedIf b) m old new q (turn.Again s))
      (IsInRound (AskedIf b) m old new q (turn.Asleep s))
  round_woke calm true a x = risen x a
  round_woke calm false a x = dozed calm x a

pub round_asked : (m : ℕ) (old mid new : Known) (q p : Run FutexWait) (s : FutexStage) (u : FutexWaitTurn)
    → IsInRound (Unit {0}) m old mid q (turn.Again s) → Leaves futex_table futex_exits mid new q p s u
    → IsMutexLocking true m old new (waited_to p u)
round_asked m old mid new q p s u x l = in_round true m old new p u (with_way true m old mid new q p (turn.Again s) u x
    (left_at mid q s new p u tt x.came l))

pub either_stands : (c b : Bool) (m : ℕ) (old k : Known) (s : LockStage)
    → MatchBool c (IsLockAt (AskedIf b) m old k s) (IsLockAsleep (AskedIf b) m old k s)
    → MatchBool c (IsLockUnderWay m k (turn.Again s)) (IsLockUnderWay m k (turn.Asleep s))
either_stands true b m old k s x = (b, old, x)
either_stands false b m old k s x = (b, old, x)

-- a lock that may have been asked, for each that has not
rounds_as : (b : Bool) (n m : ℕ) (old new : Known) → AsksRounds (AskedIf b) n m old new
    → AsksRounds (Unit {0}) n m old new
rounds_as b zero m old new x = x
rounds_as b (suc n) m old new x = (
  x.0,
  x.1,
  rounds_as b n m old x.0 x.2,
  record {
    tried = x.3.tried;
    found = x.3.found;
    waited = until_as (λ a. tt) x.3.tried new m 0 states.Uninterruptible x.1 x.3.waited;
  },
  x.4,
)

pub may_be_asked : (b : Bool) (m : ℕ) (old new : Known) (q : Run FutexWait) (u : FutexWaitTurn)
    → IsInRound (AskedIf b) m old new q u → IsInRound (Unit {0}) m old new q u
may_be_asked b m old new q u x = record {
  mid = x.mid;
  rounds = record { count = x.rounds.count; rounds = rounds_as b x.rounds.count m old x.mid x.rounds.rounds };
  tried = x.tried;
  found = x.found;
  left = x.left;
  told = x.told;
  first = x.first;
  fresh = x.fresh;
  came = way_as (λ a. tt) new q u x.came;
}

-- how the task stands
pub round_lands : (b : Bool) (m : ℕ) (old k : Known) (q : Run FutexWait) (u : FutexWaitTurn)
    → IsInRound (AskedIf b) m old k q u → Lands futex_table k q u
round_lands b m old k q u x = way_lands (AskedIf b) futex_table futex_exits futex_may_leave futex_lawful x.tried x.first
    stage.First k q u x.came

-- A lock that nobody asked to leave says at its end what one says that can't be left.
straight_only : (old : Known) (r : Run FutexWait) (s : FutexStage) (new : Known) (q : Run FutexWait) (u : FutexWaitTurn)
    → OnTheWay ⊥ futex_table futex_exits old r s new q u → Advances futex_table old new r q s u
straight_only old r s _ _ _ (straight new q u a) = a
straight_only old r s _ _ _ (left_at mid m n new q u cause w l) = absurd cause

plain_answer : (q : FutexWait) (o : FutexOutcome) (end : Result (Unit {0}) FutexEnd)
    → until.Over end ≡ futex_until_in q o → futex_end_in q o ≡ end
plain_answer q (outcome.Left off) end is = absurd (cc)
plain_answer q outcome.Over end is = cc
plain_answer q outcome.Again end is = cc
plain_answer q outcome.Interrupted end is = cc
plain_answer q outcome.Worn end is = cc

pub plain_wait : (old new : Known) (f v : ℕ) (st : SleepState) (end : Result (Unit {0}) FutexEnd)
    → EndsFutexUntil ⊥ old new f v st (until.Over end) → EndsFutexWait old new f v st end
plain_wait old new f v st end x =
    let l = x.leaves in
    subst (EndsFutexWait old new f v st) (plain_answer l.at.of l.outcome end l.answer)
    (ends_futex old new x.first l.at f v st x.fresh l.outcome
    (straight_only old x.first stage.First new l.at (turn.Done l.outcome) l.came))

worn_none : (o : Option Worn) → worn_until o ≡ None → o ≡ None
worn_none (Some w) is = absurd (cc)
worn_none None is = refl

worn_some : (o : Option Worn) (w : Worn) → worn_until o ≡ Some (until.Over (Err w)) → o ≡ Some w
worn_some (Some v) w is = cc
worn_some None w is = absurd (cc)

plain_round : (m : ℕ) (mid new : Known) (end : Result (Unit {0}) FutexEnd) → AsksRound ⊥ m mid new (until.Over end)
    → WaitsRound m mid new end
plain_round m mid new end x = record {
  tried = x.tried;
  found = x.found;
  waited = plain_wait x.tried new m 0 states.Uninterruptible end x.waited;
}

plain_on : (m : ℕ) (mid new : Known) (end : Until (Result (Unit {0}) FutexEnd)) → AsksRound ⊥ m mid new end
    → round_end end ≡ None → (e : Result (Unit {0}) FutexEnd) × WaitsRound m mid new e × (worn_in e ≡ None)
plain_on m mid new (until.Over e) x is = (e, plain_round m mid new e x, worn_none (worn_in e) is)
plain_on m mid new (until.Left seen) x is = absurd (cc)

plain_rounds : (n m : ℕ) (old new : Known) → AsksRounds ⊥ n m old new → WaitsRounds n m old new
plain_rounds zero m old new x = x
plain_rounds (suc n) m old new x =
    let y = plain_on m x.0 new x.1 x.3 x.4 in (x.0, y.0, plain_rounds n m old x.0 x.2, y.1, y.2)

plain_many : (m : ℕ) (old new : Known) → HasAskedRounds ⊥ m old new → HasWaitedRounds m old new
plain_many m old new x = record { count = x.count; rounds = plain_rounds x.count m old new x.rounds }

plain_last : (m : ℕ) (old mid new : Known) (end : Until (Result (Unit {0}) FutexEnd)) (w : Worn)
    → HasWaitedRounds m old mid → AsksRound ⊥ m mid new end → round_end end ≡ Some (until.Over (Err w))
    → LocksMutex old new m (Err w)
plain_last m old mid new (until.Over e) w rounds x is =
    (mid, e, rounds, plain_round m mid new e x, worn_some (worn_in e) w is)
plain_last m old mid new (until.Left seen) w rounds x is = absurd (cc)

pub plain_locks : (m : ℕ) (old new : Known) (r : Result (Unit {0}) Worn) → LocksMutexUntil ⊥ old new m (until.Over r)
    → LocksMutex old new m r
plain_locks m old new (Ok u) x = (x.0, plain_many m old x.0 x.1, x.2)
plain_locks m old new (Err w) x = plain_last m old x.mid new x.end w (plain_many m old x.mid x.rounds) x.last x.answers
