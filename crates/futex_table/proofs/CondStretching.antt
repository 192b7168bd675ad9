-- Waits for condition variables that go on by stretches: what a stretch comes to, and what such a wait says at its end.
use Rattle.std.proofs.Common.{◌∙◌, refl, sym, subst}
use Rattle.std.specs.Prelude.{ℕ, ◌≡◌, ◌<◌, ◌^◌, Bool, true, false, MatchBool, Result}
use Rattle.wait_model.specs.{declared.layout.TheConstants.FIRST_SIMPLE, declared.queues.Walked.Walked}
use Rattle.wait_model.specs.{declared.tasks.SleepState.SleepState, declared.watches.Aim.Aim}
use Rattle.wait_model.specs.declared.steps.Step.TheVariants as step
use Rattle.wait_model.specs.declared.watches.Mode.TheVariants as mode
use Rattle.wait_model.specs.declared.watches.Watch.TheVariants as watch
use Rattle.wait_rule.specs.declared.journal.Item.TheVariants as item
use Rattle.wait_rule.specs.{Known.Known, Queues.IsIdle, Queues.index, Says.IsUp, Says.added, Stays.Carries}
use Rattle.wait_rule.specs.Stays.{unchanged}
use Rattle.wait_rule.proofs.KnownLaws.CarriedTasks.{unchanged_none}
use Rattle.wq_head.specs.{declared.adds.Worn.Worn, declared.wakes.WakeRun.WakeRun, declared.wakes.WakeStage.WakeStage}
use Rattle.wq_head.specs.{Turns.IsAtWake, Turns.IsWakeOver, Walks.IsFull, Walks.MayWake}
use Rattle.wq_head.specs.declared.wakes.WakeStage.TheVariants as wakes
use Rattle.wait_class.specs.{Posts.IsOut, declared.stages.Run.Run}
use Rattle.wait_class.specs.Tables.{Advances, Lands, SleepsNot}
use Rattle.wait_class.specs.declared.stages.Turn.TheVariants as turn
use Rattle.wait_event.specs.{Conds.set_change, Ends.wait_change}
use Rattle.wait_event.proofs.Setting.{has_set, set_carries}
use Rattle.wait_leave.specs.{declared.exits.Until.Until, OnTheWay.OnTheWay}
use Rattle.wait_leave.specs.declared.exits.Until.TheVariants as until
use Rattle.wait_leave.proofs.Ways.{way_again, way_as, way_lands, way_risen, way_then}
use Rattle.futex_table.specs.{declared.cond_stretches.CondStage.CondStage, declared.cond_stretches.CondWait.CondWait}
use Rattle.futex_table.specs.{declared.cond_vars.CondEnd.CondEnd, declared.futexes.FutexEnd.FutexEnd}
use Rattle.futex_table.specs.{declared.lock_stretches.LockStage.LockStage, declared.waits.FutexOutcome.FutexOutcome}
use Rattle.futex_table.specs.{declared.waits.FutexStage.FutexStage, declared.waits.FutexWait.FutexWait}
use Rattle.futex_table.specs.{FutexEnds.futex_aim, FutexTables.futex_table, Holding.OthersStayHeld, Holding.holds_mutex}
use Rattle.futex_table.specs.{TallyUses.LeavesTallies, TallyUses.StoresWord}
use Rattle.futex_table.specs.CondStretches.{EndsCond, IsCondWaiting, IsCondAsleep, IsCondAt, IsCondUnderWay, IsForCond}
use Rattle.futex_table.specs.CondStretches.{IsGivingBack, IsRelocking, LeavesCond, awaited_to}
use Rattle.futex_table.specs.CondVars.{WaitsForCond, cond_answer, cond_change}
use Rattle.futex_table.specs.FutexLeaves.{EndsFutexUntil, futex_exits, futex_until_in}
use Rattle.futex_table.specs.LockLeaves.{WaitsForCondUntil, cond_until_answer, is_held_until}
use Rattle.futex_table.specs.LockStretches.{AskedIf, IsLockAsleep, IsLockAt, IsMutexLocking, LeavesLock, MutexTurn}
use Rattle.futex_table.specs.LockStretches.{FutexWaitTurn}
use Rattle.futex_table.specs.Mutexes.{HasFreedMutex, LocksMutex, is_locked}
use Rattle.futex_table.specs.declared.waits.FutexStage.TheVariants as stage
use Rattle.futex_table.proofs.{FutexLaws.futex_lawful, LeftTallies.until_leaves, LockLeaving.cond_until_held}
use Rattle.futex_table.proofs.CondVaring.{cond_on, load_held, of_set, of_unchanged, of_wait, sets_out}
use Rattle.futex_table.proofs.FutexLeaving.{ends_until, futex_may_leave, left_carried, left_held, left_idle, left_out}
use Rattle.futex_table.proofs.FutexLeaving.{left_up}
use Rattle.futex_table.proofs.LockStretching.{lock_begins, plain_wait, way_dozed}
use Rattle.futex_table.proofs.Mutexing.{idle_still, out_still, set_frees, set_others}
use Rattle.futex_table.proofs.Tallying.{freed_leaves, leaves_on, load_leaves, woken_adds}

-- one part after another
leaves_then : (m : ℕ) (old mid new : Known) (had has : Bool) → LeavesCond m old mid had → IsUp new → IsIdle new
    → IsOut new → Carries (cond_change m (index old.view.number 0) new.at) mid new → holds_mutex new m ≡ has
    → OthersStayHeld m mid new → LeavesTallies m mid new → LeavesCond m old new has
leaves_then m old mid new had has l up idle out carries held others tallies = record {
  up = up;
  idle = idle;
  out = out;
  carries = cond_on m (index old.view.number 0) old mid new l.carries carries;
  held = held;
  others = λ n ne. others n ne ∙ l.others n ne;
  tallies = leaves_on m old mid new l.tallies tallies;
}

-- behind the load of the condition's word
pub cond_loaded : (c v m : ℕ) (old now loaded : Known) → LeavesCond m old now true
    → loaded ≡ added now (item.Made (step.Load (watch.Plain c) v)) → Carries unchanged now loaded
    → LeavesCond m old loaded true
cond_loaded c v m old now loaded l is still = leaves_then m old now loaded true true l (still.awake ∙ l.up)
    (idle_still now loaded still l.idle) (out_still now loaded still l.out)
    (of_unchanged m (index old.view.number 0) now loaded still) (load_held c v now loaded is m ∙ l.held)
    (λ n ne. load_held c v now loaded is n) (load_leaves m c v now loaded is)

-- a wake of the mutex that begins
pub give_begins : (m : ℕ) (k : Known) (r : WakeRun) → r.aim ≡ futex_aim m 1 → r.aim.count < 2 ^ 32 → m < FIRST_SIMPLE
    → IsUp k → IsIdle k → IsAtWake k k r wakes.First
give_begins m k r aim small low up idle = record {
  up = up;
  idle = idle;
  full = subst (λ (a : Aim). IsFull a.watch) (sym aim) low;
  tries = subst (λ (a : Aim). MayWake a.watch k) (sym aim) (λ is. absurd (cc));
  small = small;
  stands = refl;
}

-- in the wake that gives the mutex back
module _ (w : CondWait) (old now new : Known) (seen : ℕ) (r p : WakeRun) (s : WakeStage)
    (x : IsGivingBack w old now seen r s) (aim : p.aim ≡ r.aim) where
  pub gives_on : (n : WakeStage) → IsAtWake x.stored new p n → IsGivingBack w old new seen p n
  gives_on n walks = record {
    loaded = x.loaded;
    loads = x.loads;
    left = x.left;
    told = x.told;
    found = x.found;
    stored = x.stored;
    stores = x.stores;
    owes = x.owes;
    aim = aim ∙ x.aim;
    walks = walks;
  }

  -- and behind it
  module _ (walked : Walked) (ended : IsWakeOver p.aim x.stored new walked) where
    over : IsWakeOver (futex_aim w.lock 1) x.stored new walked
    over = subst (λ (a : Aim). IsWakeOver a x.stored new walked) (aim ∙ x.aim) ended

    pub given_freed : HasFreedMutex x.loaded new w.lock
    given_freed = record {
      walked = walked;
      set = has_set x.loaded x.stored new w.lock 1 x.found mode.Normal 1 walked x.stores over.woken over.ended;
    }

    given_carries : Carries (set_change (watch.Plain w.lock) mode.Normal new.at) x.loaded new
    given_carries = set_carries (watch.Plain w.lock) mode.Normal x.loaded x.stored new x.left.idle over.idle
        (x.told.head ∙ x.left.idle.free.head) x.owes over.carries

    given_stores : StoresWord x.loaded new w.lock 1
    given_stores = record {
      found = x.found;
      stored = x.stored;
      is = x.stores;
      behind = woken_adds x.stored new (futex_aim w.lock 1) walked over.woken;
    }

    pub given_left : LeavesCond w.lock old new false
    given_left = leaves_then w.lock old x.loaded new true false x.left over.up over.idle
        (sets_out (watch.Plain w.lock) x.loaded new given_carries x.left.out)
        (of_set w.lock (index old.view.number 0) x.loaded new given_carries)
        (set_frees w.lock 1 x.found x.loaded x.stored new (futex_aim w.lock 1) walked x.stores over.woken)
        (set_others w.lock 1 x.found x.loaded x.stored new (futex_aim w.lock 1) walked x.stores over.woken)
        (freed_leaves w.lock x.loaded new given_stores x.left.held)

-- a wait behind that, or a lock
leaves_waited : (m : ℕ) (old mid new : Known) (had has : Bool) → LeavesCond m old mid had
    → Carries (wait_change (index mid.view.number 0) new.at) mid new → IsUp new → IsIdle new → IsOut new
    → holds_mutex new m ≡ has → OthersStayHeld m mid new → LeavesTallies m mid new → LeavesCond m old new has
leaves_waited m old mid new had has l carries up idle out = leaves_then m old mid new had has l up idle out
    (of_wait m (index old.view.number 0) mid new
    (subst (λ (n : ℕ). Carries (wait_change (index n 0) new.at) mid new) l.carries.number carries))

module _ (b : Bool) (w : CondWait) (old new : Known) (q : Run FutexWait) (o : FutexOutcome)
    (x : IsForCond (AskedIf b) w old new q (turn.Done o)) where
  abbrev end : Until (Result (Unit {0}) FutexEnd)
  end = futex_until_in q.of o

  waited : EndsFutexUntil (AskedIf b) x.let_go.unlocked new w.cond x.let_go.seen w.state end
  waited = ends_until x.fresh x.came

  over_left : LeavesCond w.lock old new false
  over_left = leaves_waited w.lock old x.let_go.unlocked new false false x.left
      (left_carried x.came x.left.up x.left.idle (x.told.head ∙ x.left.idle.free.head)) (left_up x.came)
      (left_idle x.came x.left.idle.unmarked) (left_out x.came) (left_held x.came w.lock ∙ x.left.held)
      (λ n ne. left_held x.came n) (until_leaves w.lock x.let_go.unlocked new waited)

  cond_over : IsCondWaiting b w old new (awaited_to q (turn.Done o))
  cond_over = record {
    let_go = x.let_go;
    waited = new;
    waits = waited;
    left = over_left;
    locks = record {
      rounds = record { count = 0; rounds = refl };
      left = lock_begins w.lock new over_left.up over_left.idle over_left.out (unchanged_none new);
    };
  }

-- a wait that went on to here
with_way : (b : Bool) (w : CondWait) (old mid new : Known) (q p : Run FutexWait) (u v : FutexWaitTurn)
    (x : IsForCond (AskedIf b) w old mid q u)
    → OnTheWay (AskedIf b) futex_table futex_exits x.let_go.unlocked x.first stage.First new p v
    → IsForCond (AskedIf b) w old new p v
with_way b w old mid new q p u v x came = record {
  let_go = x.let_go;
  left = x.left;
  told = x.told;
  first = x.first;
  fresh = x.fresh;
  came = came;
}

in_wait : (b : Bool) (w : CondWait) (old new : Known) (q : Run FutexWait) (u : FutexWaitTurn)
    → IsForCond (AskedIf b) w old new q u → IsCondWaiting b w old new (awaited_to q u)
in_wait b w old new q (turn.Again s) x = x
in_wait b w old new q (turn.Asleep s) x = x
in_wait b w old new q (turn.Locked s) x = with_way b w old new new q q (turn.Locked s) (turn.Again s) x
    (way_again (AskedIf b) futex_table futex_exits futex_may_leave futex_lawful x.let_go.unlocked x.first stage.First
    new q s
    x.came)
in_wait b w old new q (turn.Done o) x = cond_over b w old new q o x

module _ (b : Bool) (w : CondWait) (old mid new : Known) (q : Run FutexWait) (s : FutexStage) where
  pub wait_on : (p : Run FutexWait) (u : FutexWaitTurn) → IsForCond (AskedIf b) w old mid q (turn.Again s)
      → OnTheWay (AskedIf b) futex_table futex_exits mid q s new p u → IsCondWaiting b w old new (awaited_to p u)
  wait_on p u x v = in_wait b w old new p u (with_way b w old mid new q p (turn.Again s) u x
      (way_then (AskedIf b) futex_table futex_exits futex_may_leave futex_lawful x.let_go.unlocked x.first stage.First
      mid new
      q p s u x.came v))

  pub wait_woke : SleepsNot mid new → (c : Bool) → MatchBool c (Advances futex_table mid new q q s (turn.Again s))
      (Advances futex_table mid new q q s (turn.Asleep s)) → IsForCond (AskedIf b) w old mid q (turn.Asleep s)
      → MatchBool c (IsForCond (AskedIf b) w old new q (turn.Again s))
      (IsForCond (AskedIf b) w old new q (turn.Asleep s))
  wait_woke calm true a x = with_way b w old mid new q q (turn.Asleep s) (turn.Again s) x
      (way_risen (AskedIf b) futex_table futex_exits futex_may_leave futex_lawful x.let_go.unlocked x.first stage.First
      mid new
      q s x.came a)
  wait_woke calm false a x = with_way b w old mid new q q (turn.Asleep s) (turn.Asleep s) x
      (way_dozed (AskedIf b) x.let_go.unlocked x.first stage.First mid new q s calm x.came a)

pub wait_lands : (b : Bool) (w : CondWait) (old k : Known) (q : Run FutexWait) (u : FutexWaitTurn)
    → IsForCond (AskedIf b) w old k q u → Lands futex_table k q u
wait_lands b w old k q u x = way_lands (AskedIf b) futex_table futex_exits futex_may_leave futex_lawful
    x.let_go.unlocked
    x.first stage.First k q u x.came

pub cond_may_be_asked : (b : Bool) (w : CondWait) (old new : Known) (q : Run FutexWait) (u : FutexWaitTurn)
    → IsForCond (AskedIf b) w old new q u → IsForCond (Unit {0}) w old new q u
cond_may_be_asked b w old new q u x = record {
  let_go = x.let_go;
  left = x.left;
  told = x.told;
  first = x.first;
  fresh = x.fresh;
  came = way_as (λ a. tt) new q u x.came;
}

pub either_awaits : (c b : Bool) (w : CondWait) (old k : Known) (s : CondStage)
    → MatchBool c (IsCondAt (AskedIf b) w old k s) (IsCondAsleep (AskedIf b) w old k s)
    → MatchBool c (IsCondUnderWay w k (turn.Again s)) (IsCondUnderWay w k (turn.Asleep s))
either_awaits true b w old k s x = (b, old, x)
either_awaits false b w old k s x = (b, old, x)

-- in the lock behind it
module _ (A : Type 0) (w : CondWait) (old mid new : Known) (end : Until (Result (Unit {0}) FutexEnd)) where
  pub relock_on : (s n : MutexTurn) (x : IsRelocking A w old mid end s) → IsMutexLocking false w.lock x.waited new n
      → IsRelocking A w old new end n
  relock_on s n x locks = record {
    let_go = x.let_go;
    waited = x.waited;
    waits = x.waits;
    left = x.left;
    locks = locks;
  }

  pub relock_woke : (c : Bool) (s : LockStage) (x : IsRelocking A w old mid end (turn.Asleep s))
      → MatchBool c (IsLockAt ⊥ w.lock x.waited new s) (IsLockAsleep ⊥ w.lock x.waited new s)
      → MatchBool c (IsRelocking A w old new end (turn.Again s)) (IsRelocking A w old new end (turn.Asleep s))
  relock_woke true s x locks = relock_on (turn.Asleep s) (turn.Again s) x locks
  relock_woke false s x locks = relock_on (turn.Asleep s) (turn.Asleep s) x locks

  pub relock_ends : (s : MutexTurn) (x : IsRelocking A w old mid end s) (locked : Result (Unit {0}) Worn)
      → LocksMutex x.waited new w.lock locked → LeavesLock w.lock x.waited new (is_locked locked)
      → EndsCond A w old new (cond_until_answer end locked)
  relock_ends s x locked locks l = record {
    waited = record {
      let_go = x.let_go;
      waited = x.waited;
      end = end;
      waits = x.waits;
      lock = locked;
      locks = locks;
      answers = refl;
    };
    left = leaves_waited w.lock old x.waited new false (is_held_until (cond_until_answer end locked)) x.left l.carries
        l.up l.idle l.out (cond_until_held (holds_mutex x.waited w.lock) end locked new w.lock x.left.held l.held)
        l.others l.tallies;
  }

-- A wait that nobody asked to leave says at its end what one says that can't be left.
over_same : (a b : Result (Unit {0}) CondEnd) → until.Over a ≡ until.Over b → a ≡ b
over_same a b is = cc

plain_end : (old new : Known) (c m : ℕ) (st : SleepState) (r : Result (Unit {0}) CondEnd)
    (x : WaitsForCondUntil ⊥ old new c m st (until.Over r)) (end : Until (Result (Unit {0}) FutexEnd))
    → EndsFutexUntil ⊥ x.let_go.unlocked x.waited c x.let_go.seen st end → until.Over r ≡ cond_until_answer end x.lock
    → WaitsForCond old new c m st r
plain_end old new c m st r x (until.Over e) waits answers = record {
  let_go = x.let_go;
  waited = x.waited;
  end = e;
  waits = plain_wait x.let_go.unlocked x.waited c x.let_go.seen st e waits;
  lock = x.lock;
  locks = x.locks;
  answers = over_same r (cond_answer e x.lock) answers;
}
plain_end old new c m st r x (until.Left seen) waits answers = absurd waits.asked

pub plain_cond : (old new : Known) (c m : ℕ) (st : SleepState) (r : Result (Unit {0}) CondEnd)
    → WaitsForCondUntil ⊥ old new c m st (until.Over r) → WaitsForCond old new c m st r
plain_cond old new c m st r x = plain_end old new c m st r x x.end x.waits x.answers
