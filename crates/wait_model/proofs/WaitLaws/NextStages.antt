-- A task's own event takes its wait to the next stage.
use Rattle.std.proofs.lemmas.Option.{none-some}
use Rattle.wait_model.proofs.{WordLaws.CondWords.head_of_bare, Functions.put_same, RunLaws.OthersEvents.goes_not_stands}
use Rattle.wait_model.proofs.WaitLaws.OutsideStages.{unset}
use Rattle.wait_model.proofs.WaitLaws.LeavingStages.{failed_more, slept_down, then_by, Takes, Stores, IsGood, calm}
use Rattle.wait_model.proofs.WaitLaws.LeavingStages.{either, onward_good, off_good, next_good, awake_good}
use Rattle.wait_model.proofs.WaitLaws.WaitStages.{Stage, outside, tested, dozing, stage, IsTested, IsAt, IsStaged}
use Rattle.wait_model.proofs.WaitLaws.WaitStages.{FitsStage, IsAwake, own_up, napping, low_woken}
use Rattle.wait_model.specs.{Tables.value_of, Counts.taken_done, declared.watches.Watch.Watch}
use Rattle.wait_model.specs.{declared.watches.Entry.Entry, declared.tasks.TaskRecord.TaskRecord}
use Rattle.wait_model.specs.{declared.queues.CalledEntry.CalledEntry, declared.steps.Step.Step}
use Rattle.wait_model.specs.{declared.calls.Call.Call, declared.calls.Event.Event}
use Rattle.wait_model.specs.{declared.points.SelectPoint.SelectPoint, declared.points.AwaitPoint.AwaitPoint}
use Rattle.wait_model.specs.{declared.points.CountPoint.CountPoint, declared.points.BitPoint.BitPoint}
use Rattle.wait_model.specs.{declared.points.Seen.Seen, declared.points.Given.Given, declared.points.Point.Point}
use Rattle.wait_model.specs.{declared.points.PreparePoint.PreparePoint, declared.points.LeavePoint.LeavePoint}
use Rattle.wait_model.specs.{declared.points.FinishPoint.FinishPoint, declared.points.WalkPoint.WalkPoint}
use Rattle.wait_model.specs.{declared.points.AddPoint.AddPoint, declared.points.RemovePoint.RemovePoint}
use Rattle.wait_model.specs.{declared.points.WokenPoint.WokenPoint, Functions.put, Readings.FailedLoad}
use Rattle.wait_model.specs.{Queues.place_for, declared.points.PagePoint.PagePoint, declared.points.PageStage.PageStage}
use Rattle.wait_model.specs.{Words.flag, Words.bit_at, declared.queues.Walking.Walking}
use Rattle.wait_model.specs.Tasks.{IsLawful, sleep_of, meets, pending, slept, task_word, state_mask, looks_in}
use Rattle.wait_model.specs.Watches.{head_of, bare, mask_of, misses, failing, word_of, bit_of, is_page}
use Rattle.wait_model.specs.Points.{call_number, is_bit_wait, is_lock, call_watch, call_head, form_of, state_in}
use Rattle.wait_model.specs.Points.{mode_of, called_task, given_at}
use Rattle.wait_model.specs.Programs.{signalled_at, prepared_at, slept_at, signalled, finished, exchange, ask}
use Rattle.wait_model.specs.Programs.{publishing_event, active_event, is_enough, is_at_end, done_in, select_from}
use Rattle.wait_model.specs.Programs.{select_next, reached, go, ends_with, zero_answer, load, look_event, past}
use Rattle.wait_model.specs.Runs.{State, own, entry_for, called_at, seen_by, planned}
use Rattle.wait_model.specs.Reached.{held_at, taken_off, HomeAt, IsHome, pages}
use Rattle.std.proofs.lemmas.Bool.Decides.{nat_tests}
use Rattle.std.proofs.Common.{refl, sym, ◌∙◌, ap, subst, arith, inl, inr}
use Rattle.std.specs.Prelude.{ℕ, ◌≡◌, ◌≢◌, Bool, true, false, not, ◌&&◌, ◌==◌, if◌then◌else◌, is_some, Option, Some}
use Rattle.std.specs.Prelude.{None, List, [], ◌∷◌, ◌++◌}
use Rattle.wait_model.specs.declared.watches.Watch.TheVariants as watch
use Rattle.wait_model.specs.declared.steps.Step.TheVariants as step
use Rattle.wait_model.specs.declared.calls.Event.TheVariants as event
use Rattle.wait_model.specs.declared.points.SelectPoint.TheVariants as selecting
use Rattle.wait_model.specs.declared.points.AwaitPoint.TheVariants as awaiting
use Rattle.wait_model.specs.declared.points.CountPoint.TheVariants as counting
use Rattle.wait_model.specs.declared.points.BitPoint.TheVariants as biting
use Rattle.wait_model.specs.declared.calls.Answer.TheVariants as answer
use Rattle.wait_model.specs.declared.calls.Call.TheVariants as calls
use Rattle.wait_model.specs.declared.watches.Mode.TheVariants as mode
use Rattle.wait_model.specs.declared.points.Point.TheVariants as at
use Rattle.wait_model.specs.declared.points.PreparePoint.TheVariants as preparing
use Rattle.wait_model.specs.declared.points.LeavePoint.TheVariants as leaving
use Rattle.wait_model.specs.declared.points.FinishPoint.TheVariants as finishing
use Rattle.wait_model.specs.declared.points.WalkPoint.TheVariants as walking
use Rattle.wait_model.specs.declared.points.AddPoint.TheVariants as adding
use Rattle.wait_model.specs.declared.points.RemovePoint.TheVariants as removing
use Rattle.wait_model.specs.declared.points.WokenPoint.TheVariants as hearing
use Rattle.wait_model.specs.declared.points.Progress.TheVariants as now
use Rattle.wait_model.specs.declared.points.PageStage.TheVariants as staging
use Rattle.wait_model.specs.declared.points.PagePoint.TheVariants as paging

-- where a wait stores a state that is not RUNNING it holds its entry's head
store_held : (s : State) (me : ℕ) (call : Call) (e : Entry)
    → (s.table.view me).hold.head ≡ Some (call_head call)
    → e.watch ≡ bare (call_watch call) → (s.table.view me).hold.head ≡ Some (head_of e.watch)
store_held s me call e held is = held ∙ ap (λ n. Some n) (sym (head_of_bare (call_watch call))
    ∙ ap head_of (sym is))

-- where a call goes after its look, its unlock and its sleep
signalled_goes : (c : Call) → (stage (signalled_at c) ≡ outside) × (taken_off (signalled_at c) ≡ None)
    × FitsStage (now.Open c (signalled_at c))
signalled_goes (calls.WaitFor d st) = (refl, refl, tt)
signalled_goes c = (refl, refl, tt)

-- after its preparation a wait loads its condition, and one for a completion has done so
prepared_staged : (c : Call) (t : TaskRecord) (o : Option Entry) (es : List Step) (x : ℕ) → t.runnable ≡ true
    → is_some o ≡ true → IsAt (stage (prepared_at c)) t o es x c
prepared_staged (calls.WaitFor d st) t o es x up i = (up, λ d. i, λ w. absurd (cc))
prepared_staged c t o es x up i = (up, λ d. i)

prepared_goes : (c : Call) → (taken_off (prepared_at c) ≡ None) × FitsStage (now.Open c (prepared_at c))
prepared_goes (calls.WaitFor d st) = (refl, tt)
prepared_goes c = (refl, tt)

slept_goes : (c : Call) → (stage (slept_at c) ≡ dozing) × (taken_off (slept_at c) ≡ None)
    × FitsStage (now.Open c (slept_at c))
slept_goes (calls.WaitFor d st) = (refl, refl, tt)
slept_goes c = (refl, refl, tt)

-- a load that found the condition not set is a failed load
pub misses_fails : (c : Watch) (v : ℕ) → misses c v ≡ true → failing c v c ≡ true
misses_fails (watch.Plain c) v h = let z : (c == c) ≡ true = grind (arith, nat_tests) in rw z h
misses_fails (watch.Done d) v h = let z : (d == d) ≡ true = grind (arith, nat_tests) in rw z h
misses_fails (watch.Bit w b) v h = let z : (w == w) ≡ true = grind (arith, nat_tests) in rw z h
misses_fails (watch.Var i o) v h = let z : (i == i) ≡ true = grind (arith, nat_tests) in rw z h

load_failed : (es : List Step) (x : ℕ) (c : Watch) (v : ℕ) → misses c v ≡ true
    → FailedLoad (es ++ step.Load c v ∷ []) x c
load_failed es x c v h = record {
  before = es;
  load = step.Load c v;
  later = [];
  split = refl;
  is_load = misses_fails c v h;
  is_no_store = refl;
  quiet = tt;
}

-- a publish takes nobody off and stores no state
published_awake : (s : State) (me : ℕ) (g : Given) (c : Call) → IsAwake s me g (publishing_event c)
published_awake s me g (calls.ClearBit w b) = tt
published_awake s me g c = tt

published_takes : (s : State) (me : ℕ) (call : Call) (p : Point) (c : Call) → Takes s me call p (publishing_event c)
published_takes s me call p (calls.ClearBit w b) = tt
published_takes s me call p c = tt

published_stores : (s : State) (me : ℕ) (call : Call) (p : Point) (c : Call) → Stores s me call p (publishing_event c)
published_stores s me call p (calls.ClearBit w b) = tt
published_stores s me call p c = tt

select_takes : (c : Call) → taken_off (at.Select (select_from c)) ≡ None
select_takes (calls.Complete d) = refl
select_takes c = refl

module _ (s : State) (me : ℕ) (call : Call) where
  -- what is known of the task at a point
  pub record Known (p : Point) : Type 0 where
    pub up : (s.table.task me).runnable ≡ true
    pub lawful : (t : ℕ) → IsLawful (s.table.task t)
    pub home : HomeAt (now.Open call p) (s.table.entry (own me))
    pub held : (s.table.view me).hold.head ≡ held_at (now.Open call p)
    pub fits : FitsStage (now.Open call p)
    pub old : IsStaged (now.Open call p) (s.table.task me) (s.table.entry (own me)) (s.table.history me)
        (own me)

  -- preparing to wait
  state_good : (p : Point) (o : Option Entry) → s.table.entry (own me) ≡ o
      → (s.table.task me).runnable ≡ true
      → is_some o ≡ true → HomeAt (now.Open call (at.Prepare preparing.Queue)) o
      → (s.table.view me).hold.head ≡ Some (call_head call)
      → IsGood s me call p (go (event.State (state_mask (state_in call))) (at.Prepare preparing.Unlock))
  state_good p None is up h home held = absurd (cc)
  state_good p (Some d) is up h home held = record {
    staged = (
      own_up s me (given_at call p) (event.State (state_mask (state_in call))) tt up,
      ap (λ (k : Option Entry). is_some k) is,
    );
    taken = λ who some. absurd (cc);
    takes = tt;
    stores = inr (λ e q k _. store_held s me call e held
        (let z : Some d ≡ Some e = sym is ∙ q in let y : d ≡ e = cc in
        subst (λ (g : Entry). g.watch ≡ bare (call_watch call)) y home.0));
    fits = tt;
  }

  queue_good : (p : Point) (o : Option Entry) → s.table.entry (own me) ≡ o
      → (s.table.task me).runnable ≡ true
      → HomeAt (now.Open call (at.Prepare preparing.Queue)) o
      → (s.table.view me).hold.head ≡ Some (call_head call)
      → IsGood s me call p (if is_some o
      then go (event.State (state_mask (state_in call))) (at.Prepare preparing.Unlock)
      else go (event.Queue (call_head call) (form_of call)) (at.Prepare preparing.State))
  queue_good p (Some d) is up home held = state_good p (Some d) is up refl home held
  queue_good p None is up home held = record {
    staged = (
      own_up s me (given_at call p) (event.Queue (call_head call) (form_of call)) tt up,
      ap (λ (k : Option Entry). is_some k)
          (put_same s.table.entry (own me) (Some (entry_for (given_at call p)
          (form_of call) (place_for (form_of call) (s.queue (call_head call)))))),
    );
    taken = λ who some. absurd (cc);
    takes = tt;
    stores = tt;
    fits = tt;
  }

  -- the load of a wait, and its sleep
  loaded_good : (p q : Point) (v : ℕ) → misses (call_watch call) v ≡ true → (s.table.task me).runnable ≡ true
      → ((s.table.task me).state ≢ 0 → is_some (s.table.entry (own me)) ≡ true)
      → stage q ≡ tested → taken_off q ≡ None → FitsStage (now.Open call q)
      → IsGood s me call p (go (event.Load (call_number call) v) q)
  loaded_good p q v h up old st none f = record {
    staged = subst (λ (i : Stage). IsAt i (s.table.task me) (s.table.entry (own me))
        ((then_by s me call p (event.Load (call_number call) v)).table.history me) (own me) call) (sym st) (
          up,
          old,
          λ w. subst (λ (t : List Step). FailedLoad t (own me) (call_watch call))
              (sym (put_same s.table.history me (s.table.history me ++ step.Load (call_watch call) v ∷ [])))
              (load_failed (s.table.history me) (own me) (call_watch call) v h),
        );
    taken = λ who some. absurd (none-some who (sym none ∙ some));
    takes = tt;
    stores = tt;
    fits = f;
  }

  doze_good : (p q : Point) → Known p → stage p ≡ tested → stage q ≡ dozing → taken_off q ≡ None
      → FitsStage (now.Open call q) → IsGood s me call p (go (event.Sleep (sleep_of (s.table.task me))) q)
  doze_good p q k at doze none f = record {
    staged = subst (λ (i : Stage). IsAt i ((then_by s me call p e).table.task me)
        ((then_by s me call p e).table.entry (own me)) ((then_by s me call p e).table.history me)
        (own me) call) (sym doze)
        (λ d. by (slept_down (s.table.task me) k.up
        (ap (λ (t : TaskRecord). t.runnable) (sym (put_same s.table.task me (slept (s.table.task me)))) ∙ d)));
    taken = λ who some. absurd (none-some who (sym none ∙ some));
    takes = tt;
    stores = tt;
    fits = f;
  }
    where
      e : Event
      e = event.Sleep (sleep_of (s.table.task me))

      old : IsAt tested (s.table.task me) (s.table.entry (own me)) (s.table.history me) (own me) call
      old = subst (λ (i : Stage). IsAt i (s.table.task me) (s.table.entry (own me)) (s.table.history me) (own me)
          call) at k.old

      by : ((s.table.task me).state ≢ 0) × ((slept (s.table.task me)).state ≡ (s.table.task me).state)
          → (is_some (s.table.entry (own me)) ≡ true) × IsTested call (put s.table.history me
          (s.table.history me ++ step.Sleep (task_word (s.table.task me)) ∷ []) me) (own me)
      by h = (
        old.1 h.0,
        λ w. subst (λ (t : List Step). FailedLoad t (own me) (call_watch call))
            (sym (put_same s.table.history me (s.table.history me
            ++ step.Sleep (task_word (s.table.task me)) ∷ [])))
            (failed_more (s.table.history me) (own me) (call_watch call) (task_word (s.table.task me))
            (old.2 w)),
      )

  test_good : (b : Bool) → unset s call ≡ b → Known at.Test → IsGood s me call at.Test
      (go (event.Load (call_number call) (value_of s.table.words (call_watch call))) (if b then at.Sleep
      else at.Finish finishing.State false))
  test_good true h k = loaded_good at.Test at.Sleep _ h k.up k.old.1 refl refl tt
  test_good false h k = calm s me call at.Test k.up _ tt tt tt refl refl tt

  first_good : (k : Known at.First) (b : Bool) (v : ℕ) → IsGood s me call at.First
      (if b then go (event.Load (call_number call) v) (at.Prepare preparing.Lock)
      else ends_with (event.Load (call_number call) v) zero_answer)
  first_good k true v = awake_good s me call at.First k.up _ _ tt tt tt refl refl tt
  first_good k false v = calm s me call at.First k.up _ tt tt tt refl refl tt

  lock_good : (k : Known (at.Prepare preparing.Lock)) (b : Bool)
      → IsGood s me call (at.Prepare preparing.Lock)
      (go (event.Lock (call_head call)) (at.Prepare (if b then preparing.Look else preparing.Queue)))
  lock_good k true = calm s me call (at.Prepare preparing.Lock) k.up _ tt tt tt refl refl tt
  lock_good k false = calm s me call (at.Prepare preparing.Lock) k.up _ tt tt tt refl refl tt

  look_good : (k : Known (at.Prepare preparing.Look)) (b : Bool)
      → IsGood s me call (at.Prepare preparing.Look) (look_event call b)
  look_good k true = calm s me call (at.Prepare preparing.Look) k.up _ tt tt tt (signalled_goes call).0
      (signalled_goes call).1 (signalled_goes call).2
  look_good k false = calm s me call (at.Prepare preparing.Look) k.up _ tt tt tt refl refl tt

  prepare_good : (p : PreparePoint) → Known (at.Prepare p)
      → IsGood s me call (at.Prepare p) (planned s me call (at.Prepare p))
  prepare_good preparing.Lock k = lock_good k (not (is_bit_wait call) && looks_in (state_in call))
  prepare_good preparing.Look k = look_good k (pending (state_mask (state_in call)) (s.table.task me))
  prepare_good preparing.Queue k = queue_good (at.Prepare preparing.Queue) (s.table.entry (own me)) refl
      k.up k.home
      k.held
  prepare_good preparing.State k = record {
    staged = (
      own_up s me (given_at call (at.Prepare preparing.State))
          (event.State (state_mask (state_in call))) tt k.up,
      k.old.1,
    );
    taken = λ who some. absurd (cc);
    takes = tt;
    stores = inr (λ e q g _. store_held s me call e k.held
        (subst (λ (o : Option Entry). HomeAt (now.Open call (at.Prepare preparing.State)) o) q k.home).0);
    fits = tt;
  }
  prepare_good preparing.Unlock k = record {
    staged = prepared_staged call (s.table.task me) (s.table.entry (own me))
        ((then_by s me call (at.Prepare preparing.Unlock) (event.Unlock (call_head call) false)).table.history me)
        (own me) k.up k.old.1;
    taken = λ who some. absurd (none-some who (sym (prepared_goes call).0 ∙ some));
    takes = tt;
    stores = tt;
    fits = (prepared_goes call).1;
  }

  leave_good : (p : LeavePoint) → Known (at.Leave p)
      → IsGood s me call (at.Leave p) (planned s me call (at.Leave p))
  leave_good leaving.Queue k = either s me call (at.Leave leaving.Queue) k.up
      (is_some (s.table.entry (own me))) _ _
      (calm s me call (at.Leave leaving.Queue) k.up _ tt (inl refl) tt refl refl tt)
      (calm s me call (at.Leave leaving.Queue) k.up _ tt tt tt refl refl tt)
  leave_good leaving.Unlock k = calm s me call (at.Leave leaving.Unlock) k.up _ tt tt tt refl refl tt
  leave_good leaving.Load k = either s me call (at.Leave leaving.Load) k.up (unset s call) _ _
      (calm s me call (at.Leave leaving.Load) k.up _ tt tt tt refl refl tt)
      (calm s me call (at.Leave leaving.Load) k.up _ tt tt tt refl refl tt)

  finished_good : (p : Point) (e : Event) (failed : Bool) → (s.table.task me).runnable ≡ true
      → IsAwake s me (given_at call p) e → Takes s me call p e → Stores s me call p e
      → IsGood s me call p (finished call failed e)
  finished_good p e failed up a t st = either s me call p up (failed && is_lock call) _ _
      (calm s me call p up _ a t st refl refl tt) (calm s me call p up _ a t st refl refl tt)

  finish_good : (p : FinishPoint) (failed : Bool) → Known (at.Finish p failed)
      → IsGood s me call (at.Finish p failed) (planned s me call (at.Finish p failed))
  finish_good finishing.State failed k = calm s me call (at.Finish finishing.State failed) k.up _ tt tt
      (inl refl) refl refl tt
  finish_good finishing.Look failed k = either s me call (at.Finish finishing.Look failed) k.up
      (is_some (s.table.entry (own me))) _ _
      (calm s me call (at.Finish finishing.Look failed) k.up _ tt tt tt refl refl tt)
      (finished_good (at.Finish finishing.Look failed) _ failed k.up tt tt tt)
  finish_good finishing.Lock failed k = calm s me call (at.Finish finishing.Lock failed) k.up _ tt tt tt refl refl tt
  finish_good finishing.Queue failed k = either s me call (at.Finish finishing.Queue failed) k.up
      (is_some (s.table.entry (own me))) _ _
      (calm s me call (at.Finish finishing.Queue failed) k.up _ tt (inl refl) tt refl refl tt)
      (finished_good (at.Finish finishing.Queue failed) _ failed k.up tt tt tt)
  finish_good finishing.Unlock failed k = finished_good (at.Finish finishing.Unlock failed) _ failed k.up tt tt tt

  -- a wait for a bit
  ask_good : (p : Point) (seen : Seen) (Q : Event → Type 0) → Q (exchange call seen) → Q (load call seen)
      → Q (ask call seen)
  ask_good p seen Q h k = by (is_lock call)
    where
      by : (b : Bool) → Q (if b then exchange call seen else load call seen)
      by true = h
      by false = k

  bit_good : (p : BitPoint) → Known (at.Bit p) → IsGood s me call (at.Bit p) (planned s me call (at.Bit p))
  bit_good biting.Try k = calm s me call (at.Bit biting.Try) k.up _ tt tt tt refl refl tt
  bit_good biting.First k = ask_good (at.Bit biting.First) (seen_by s me call (at.Bit biting.First))
      (λ e. IsGood s me call (at.Bit biting.First) (if unset s call then go e (at.Prepare preparing.Lock)
      else ends_with e zero_answer)) (by _ tt tt tt) (by _ tt tt tt)
    where
      by : (e : Event) → IsAwake s me (given_at call (at.Bit biting.First)) e
          → Takes s me call (at.Bit biting.First) e → Stores s me call (at.Bit biting.First) e
          → IsGood s me call (at.Bit biting.First) (if unset s call then go e (at.Prepare preparing.Lock)
          else ends_with e zero_answer)
      by e a t st = either s me call (at.Bit biting.First) k.up (unset s call) _ _
          (awake_good s me call (at.Bit biting.First) k.up e _ a t st refl refl tt)
          (calm s me call (at.Bit biting.First) k.up _ a t st refl refl tt)
  bit_good biting.Load k = by (unset s call) refl
    where
      by : (b : Bool) → unset s call ≡ b → IsGood s me call (at.Bit biting.Load)
          (go (event.Load (call_number call) (value_of s.table.words (call_watch call)))
          (at.Bit (if b then biting.Sleep else biting.Again false)))
      by true h = loaded_good (at.Bit biting.Load) (at.Bit biting.Sleep) _ h k.up k.old.1 refl refl tt
      by false h = awake_good s me call (at.Bit biting.Load) k.up _ _ tt tt tt refl refl tt
  bit_good biting.Sleep k = by (looks_in (state_in call))
    where
      by : (b : Bool) → IsGood s me call (at.Bit biting.Sleep) (go (event.Sleep (sleep_of (s.table.task me)))
          (at.Bit (if b then biting.Look else biting.Again false)))
      by true = doze_good (at.Bit biting.Sleep) (at.Bit biting.Look) k refl refl refl tt
      by false = doze_good (at.Bit biting.Sleep) (at.Bit (biting.Again false)) k refl refl refl tt
  bit_good biting.Look k = by (pending (state_mask (state_in call)) (s.table.task me)) (is_lock call)
    where
      by : (b l : Bool) → IsGood s me call (at.Bit biting.Look) (go (event.Look b)
          (if b && l then at.Finish finishing.State true else at.Bit (biting.Again b)))
      by true true = calm s me call (at.Bit biting.Look) k.up _ tt tt tt refl refl tt
      by true false = awake_good s me call (at.Bit biting.Look) k.up _ _ tt tt tt refl refl tt
      by false l = awake_good s me call (at.Bit biting.Look) k.up _ _ tt tt tt refl refl tt
  bit_good (biting.Again failed) k = ask_good (at.Bit (biting.Again failed))
      (seen_by s me call (at.Bit (biting.Again failed)))
      (λ e. IsGood s me call (at.Bit (biting.Again failed)) (go e
      (if unset s call && not failed then at.Prepare preparing.Lock else at.Finish finishing.State failed)))
      (by _ (unset s call && not failed) tt tt tt) (by _ (unset s call && not failed) tt tt tt)
    where
      by : (e : Event) (b : Bool) → IsAwake s me (given_at call (at.Bit (biting.Again failed))) e
          → Takes s me call (at.Bit (biting.Again failed)) e → Stores s me call (at.Bit (biting.Again failed)) e
          → IsGood s me call (at.Bit (biting.Again failed)) (go e (if b then at.Prepare preparing.Lock
          else at.Finish finishing.State failed))
      by e true a t st = awake_good s me call (at.Bit (biting.Again failed)) k.up e _ a t st refl refl tt
      by e false a t st = calm s me call (at.Bit (biting.Again failed)) k.up _ a t st refl refl tt
  bit_good biting.Last k = calm s me call (at.Bit biting.Last) k.up _ tt tt tt refl refl tt

  -- a publish, and the look for members after it
  active_good : (b : Bool) → Known at.Active → IsGood s me call at.Active (active_event call b)
  active_good true k = calm s me call at.Active k.up _ tt tt tt refl refl tt
  active_good false k = calm s me call at.Active k.up _ tt tt tt refl refl tt

  hands_good : (st : PageStage) (w : Walking) (c : CalledEntry) → Known (at.Walk (walking.Page st w c))
      → IsGood s me call (at.Walk (walking.Page st w c)) (planned s me call (at.Walk (walking.Page st w c)))
  hands_good staging.Try w c k = by (misses (call_watch call) (value_of s.table.words (call_watch call)))
    where
      by : (b : Bool) → IsGood s me call (at.Walk (walking.Page staging.Try w c)) (go
          (event.TasFor (word_of (call_watch call)) c.who
          (flag (bit_at (value_of s.table.words (call_watch call)) (bit_of (call_watch call)))))
          (at.Walk (if b then walking.Stopped w else walking.Page staging.Hand w c)))
      by true = calm s me call (at.Walk (walking.Page staging.Try w c)) k.up _ tt tt tt refl refl tt
      by false = calm s me call (at.Walk (walking.Page staging.Try w c)) k.up _ tt tt tt refl refl tt
  hands_good staging.Hand w c k = calm s me call (at.Walk (walking.Page staging.Hand w c)) k.up _ tt tt tt refl refl tt
  hands_good staging.Wake w c k = calm s me call (at.Walk (walking.Page staging.Wake w c)) k.up _ tt tt tt refl refl tt
  hands_good staging.Off w c k =
      onward_good s me call (at.Walk (walking.Page staging.Off w c)) k.up _ (past w c true) tt
      (inr (inr refl)) tt

  -- a wait for a page listens to its flag
  listens : (p : PagePoint) (e : Event) (q : PagePoint) → Known (at.Page p)
      → Takes s me call (at.Page p) e → Stores s me call (at.Page p) e → stage (at.Page q) ≡ napping
      → IsGood s me call (at.Page p) (go e (at.Page q))
  listens p e q k t st nap = record {
    staged = subst (λ (g : Stage). IsAt g ((then_by s me call (at.Page p) e).table.task me)
        ((then_by s me call (at.Page p) e).table.entry (own me)) ((then_by s me call (at.Page p) e).table.history me)
        (own me) call) (sym nap) tt;
    taken = λ who some. absurd (cc);
    takes = t;
    stores = st;
    fits = k.fits;
  }

  page_finish_good : (p : FinishPoint) → Known (at.Page (paging.Finish p))
      → IsGood s me call (at.Page (paging.Finish p)) (planned s me call (at.Page (paging.Finish p)))
  page_finish_good finishing.State k = listens (paging.Finish finishing.State) _ (paging.Finish finishing.Look) k tt
      (inl refl) refl
  page_finish_good finishing.Look k = either s me call (at.Page (paging.Finish finishing.Look)) k.up
      (is_some (s.table.entry (own me))) _ _
      (listens (paging.Finish finishing.Look) _ (paging.Finish finishing.Lock) k tt tt refl)
      (listens (paging.Finish finishing.Look) _ paging.Last k tt tt refl)
  page_finish_good finishing.Lock k = listens (paging.Finish finishing.Lock) _ (paging.Finish finishing.Queue) k tt tt
      refl
  page_finish_good finishing.Queue k = either s me call (at.Page (paging.Finish finishing.Queue)) k.up
      (is_some (s.table.entry (own me))) _ _
      (listens (paging.Finish finishing.Queue) _ (paging.Finish finishing.Unlock) k (inl refl) tt refl)
      (listens (paging.Finish finishing.Queue) _ paging.Last k tt tt refl)
  page_finish_good finishing.Unlock k = listens (paging.Finish finishing.Unlock) _ paging.Last k tt tt refl

  page_good : (p : PagePoint) → Known (at.Page p) → IsGood s me call (at.Page p) (planned s me call (at.Page p))
  page_good paging.First k = either s me call (at.Page paging.First) k.up (unset s call) _ _
      (listens paging.First _ paging.Unflag k tt tt refl)
      (calm s me call (at.Page paging.First) k.up _ tt tt tt refl refl tt)
  page_good paging.Unflag k = listens paging.Unflag _ paging.Lock k tt tt refl
  page_good paging.Lock k = listens paging.Lock _ paging.Queue k tt tt refl
  page_good paging.Queue k = listens paging.Queue _ paging.Try k tt tt refl
  page_good paging.Try k = by (unset s call)
    where
      by : (b : Bool) → IsGood s me call (at.Page paging.Try)
          (go (exchange call (seen_by s me call (at.Page paging.Try)))
          (at.Page (if b then paging.Unlock false else paging.Off)))
      by true = listens paging.Try _ (paging.Unlock false) k tt tt refl
      by false = listens paging.Try _ paging.Off k tt tt refl
  page_good paging.Off k = listens paging.Off _ (paging.Unlock true) k (inl refl) tt refl
  page_good (paging.Unlock true) k = calm s me call (at.Page (paging.Unlock true)) k.up _ tt tt tt refl refl tt
  page_good (paging.Unlock false) k = listens (paging.Unlock false) _ paging.State k tt tt refl
  page_good paging.State k = listens paging.State _ paging.Flag k tt (inr (λ e q g np. absurd (paged e q np))) refl
    where
      paged : (e : Entry) → s.table.entry (own me) ≡ Some e → is_page e.kind ≡ false → ⊥
      paged e q np =
          let h : IsHome pages (call_watch call) (Some e) = subst (IsHome pages (call_watch call)) q k.home in
          let z : is_page e.kind ≡ true = ap is_page h.1 in cc
  page_good paging.Flag k = by (s.table.flag (own me)) (looks_in (state_in call))
    where
      by : (b l : Bool) → IsGood s me call (at.Page paging.Flag) (go (event.Flag b)
          (at.Page (if b then paging.Finish finishing.State else if l then paging.Look else paging.Sleep)))
      by true l = listens paging.Flag _ (paging.Finish finishing.State) k tt tt refl
      by false true = listens paging.Flag _ paging.Look k tt tt refl
      by false false = listens paging.Flag _ paging.Sleep k tt tt refl
  page_good paging.Look k = by (pending (state_mask (state_in call)) (s.table.task me))
    where
      by : (b : Bool) → IsGood s me call (at.Page paging.Look) (go (event.Look b)
          (at.Page (if b then paging.Finish finishing.State else paging.Sleep)))
      by true = listens paging.Look _ (paging.Finish finishing.State) k tt tt refl
      by false = listens paging.Look _ paging.Sleep k tt tt refl
  page_good paging.Sleep k = listens paging.Sleep _ paging.State k tt tt refl
  page_good (paging.Finish p) k = page_finish_good p k
  page_good paging.Last k = either s me call (at.Page paging.Last) k.up (s.table.flag (own me)) _ _
      (listens paging.Last _ paging.Clear k tt tt refl)
      (calm s me call (at.Page paging.Last) k.up _ tt tt tt refl refl tt)
  page_good paging.Clear k = calm s me call (at.Page paging.Clear) k.up _ tt tt tt refl refl tt

  walk_good : (p : WalkPoint) → Known (at.Walk p)
      → IsGood s me call (at.Walk p) (planned s me call (at.Walk p))
  walk_good walking.Lock k = calm s me call (at.Walk walking.Lock) k.up _ tt tt tt refl refl tt
  walk_good (walking.Call w) k = either s me call (at.Walk (walking.Call w)) k.up seen.breaks _ _
      (calm s me call (at.Walk (walking.Call w)) k.up _ tt tt tt refl refl tt)
      (next_good s me call (at.Walk (walking.Call w)) k.up (reached w seen.calls)
      (called_at s call (at.Walk (walking.Call w))) (mask_of (mode_of call)) refl seen)
    where
      seen : Seen
      seen = seen_by s me call (at.Walk (walking.Call w))
  walk_good (walking.Bit w c) k = off_good s me call (at.Walk (walking.Bit w c)) k.up w c
      (mask_of (mode_of call)) refl
  walk_good (walking.Wake w c) k = onward_good s me call (at.Walk (walking.Wake w c)) k.up _
      (past w c (meets (mask_of (mode_of call)) (s.table.task c.who).state)) tt tt tt
  walk_good (walking.Unqueue w who) k = onward_good s me call (at.Walk (walking.Unqueue w who)) k.up _ w tt
      (inr (inl refl)) tt
  walk_good (walking.Page st w c) k = hands_good st w c k
  walk_good (walking.Stopped w) k = calm s me call (at.Walk (walking.Stopped w)) k.up _ tt tt tt refl refl tt
  walk_good (walking.Spent w) k = calm s me call (at.Walk (walking.Spent w)) k.up _ tt tt tt refl refl tt
  walk_good (walking.BreakUnlock w) k = calm s me call (at.Walk (walking.BreakUnlock w)) k.up _ tt tt tt refl
      refl tt
  walk_good (walking.BreakLock w) k = calm s me call (at.Walk (walking.BreakLock w)) k.up _ tt tt tt refl refl tt
  walk_good (walking.Unmark w) k = calm s me call (at.Walk (walking.Unmark w)) k.up _ tt tt tt refl refl tt

  add_good : (p : AddPoint) → Known (at.Add p) → IsGood s me call (at.Add p) (planned s me call (at.Add p))
  add_good adding.Lock k = calm s me call (at.Add adding.Lock) k.up _ tt tt tt refl refl tt
  add_good adding.Queue k = calm s me call (at.Add adding.Queue) k.up _ tt tt tt refl refl tt
  add_good adding.Unlock k = calm s me call (at.Add adding.Unlock) k.up _ tt tt tt refl refl tt

  remove_good : (p : RemovePoint) → Known (at.Remove p)
      → IsGood s me call (at.Remove p) (planned s me call (at.Remove p))
  remove_good removing.Lock k = calm s me call (at.Remove removing.Lock) k.up _ tt tt tt refl refl tt
  remove_good (removing.Queue c) k = calm s me call (at.Remove (removing.Queue c)) k.up _ tt
      (inl refl) tt refl refl tt
  remove_good (removing.Unlock c) k = calm s me call (at.Remove (removing.Unlock c)) k.up _ tt tt tt refl
      refl tt

  -- a selection: its task is RUNNING after the wake, whatever that answered
  chosen_good : (j : ℕ) (k : Known (at.Select (selecting.Next j))) (o : Option CalledEntry)
      → IsGood s me call (at.Select (selecting.Next j)) (select_next call j o
      (meets (mask_of mode.Normal) (s.table.task (called_task o)).state))
  chosen_good j k None = calm s me call (at.Select (selecting.Next j)) k.up _ tt tt tt refl refl tt
  chosen_good j k (Some c) = record {
    staged = own_up s me (given_at call (at.Select (selecting.Next j))) (event.Wake c.who hit) tt k.up;
    taken = λ who some. let z : c.who ≡ who = cc in
        subst (λ (i : ℕ). ((then_by s me call (at.Select (selecting.Next j))
        (event.Wake c.who hit)).table.task i).state ≡ 0) z
        (ap (λ (x : TaskRecord). x.state) (put_same s.table.task c.who _)
        ∙ low_woken (s.table.task c.who) (k.lawful c.who));
    takes = tt;
    stores = tt;
    fits = tt;
  }
    where
      hit : Bool
      hit = meets (mask_of mode.Normal) (s.table.task c.who).state

  select_good : (p : SelectPoint) → Known (at.Select p)
      → IsGood s me call (at.Select p) (planned s me call (at.Select p))
  select_good selecting.Lock k = calm s me call (at.Select selecting.Lock) k.up _ tt tt tt refl
      (select_takes call) tt
  select_good selecting.Load k = by (is_at_end (value_of s.table.words (call_watch call)))
    where
      by : (b : Bool) → IsGood s me call (at.Select selecting.Load)
          (go (event.Load (call_number call) (value_of s.table.words (call_watch call)))
          (at.Select (if b then selecting.Next 0 else selecting.Store)))
      by true = calm s me call (at.Select selecting.Load) k.up _ tt tt tt refl refl tt
      by false = calm s me call (at.Select selecting.Load) k.up _ tt tt tt refl refl tt
  select_good selecting.Store k = calm s me call (at.Select selecting.Store) k.up _ tt tt tt refl refl tt
  select_good (selecting.Next j) k = either s me call (at.Select (selecting.Next j)) k.up (is_enough call j) _ _
      (calm s me call (at.Select (selecting.Next j)) k.up _ tt tt tt refl refl tt)
      (chosen_good j k (called_at s call (at.Select (selecting.Next j))))
  select_good (selecting.Off j who) k = calm s me call (at.Select (selecting.Off j who)) k.up _ tt (inr (inl refl)) tt
      refl refl tt

  -- a wait for a completion
  ends_good : (p : Point) → (s.table.task me).runnable ≡ true → (b e : Bool) → IsGood s me call p (if b
      then ends_with (event.Unlock (call_head call) false) signalled
      else (if e then ends_with (event.Unlock (call_head call) false) zero_answer
      else go (event.Set (call_number call) (taken_done (done_in (value_of s.table.words (call_watch call)))))
      (at.Await awaiting.Unlock)))
  ends_good p up true e = calm s me call p up _ tt tt tt refl refl tt
  ends_good p up false true = calm s me call p up _ tt tt tt refl refl tt
  ends_good p up false false = calm s me call p up _ tt tt tt refl refl tt

  await_load_good : (waited zero b : Bool) → Known (at.Await (awaiting.Load waited))
      → IsGood s me call (at.Await (awaiting.Load waited))
      (go (event.Load (call_number call) (value_of s.table.words (call_watch call))) (if zero
      then at.Prepare (if b then preparing.Look else preparing.Queue)
      else at.Await (if waited then awaiting.Run false else awaiting.Last false)))
  await_load_good waited true true k = calm s me call (at.Await (awaiting.Load waited)) k.up _ tt tt tt refl refl tt
  await_load_good waited true false k = calm s me call (at.Await (awaiting.Load waited)) k.up _ tt tt tt refl refl tt
  await_load_good true false b k = calm s me call (at.Await (awaiting.Load true)) k.up _ tt tt tt refl refl tt
  await_load_good false false b k = calm s me call (at.Await (awaiting.Load false)) k.up _ tt tt tt refl refl tt

  await_good : (p : AwaitPoint) → Known (at.Await p)
      → IsGood s me call (at.Await p) (planned s me call (at.Await p))
  await_good (awaiting.Lock waited) k = calm s me call (at.Await (awaiting.Lock waited)) k.up _ tt tt tt refl refl
      tt
  await_good (awaiting.Load waited) k = await_load_good waited
      (value_of s.table.words (call_watch call) == 0) (not (is_bit_wait call) && looks_in (state_in call)) k
  await_good (awaiting.Run stopped) k = calm s me call (at.Await (awaiting.Run stopped)) k.up _ tt tt (inl refl)
      refl refl tt
  await_good (awaiting.Off true) k = either s me call (at.Await (awaiting.Off true)) k.up
      (is_some (s.table.entry (own me))) _ _
      (calm s me call (at.Await (awaiting.Off true)) k.up _ tt (inl refl) tt refl refl tt)
      (ends_good (at.Await (awaiting.Off true)) k.up true (is_at_end (value_of s.table.words (call_watch call))))
  await_good (awaiting.Off false) k = either s me call (at.Await (awaiting.Off false)) k.up
      (is_some (s.table.entry (own me))) _ _
      (calm s me call (at.Await (awaiting.Off false)) k.up _ tt (inl refl) tt refl refl tt)
      (ends_good (at.Await (awaiting.Off false)) k.up false (is_at_end (value_of s.table.words (call_watch call))))
  await_good (awaiting.Last true) k = ends_good (at.Await (awaiting.Last true)) k.up true
      (is_at_end (value_of s.table.words (call_watch call)))
  await_good (awaiting.Last false) k = ends_good (at.Await (awaiting.Last false)) k.up false
      (is_at_end (value_of s.table.words (call_watch call)))
  await_good awaiting.Unlock k = calm s me call (at.Await awaiting.Unlock) k.up _ tt tt tt refl refl tt

  -- a look at a done count
  count_good : (p : CountPoint) → Known (at.Count p)
      → IsGood s me call (at.Count p) (planned s me call (at.Count p))
  count_good counting.Peek k = either s me call (at.Count counting.Peek) k.up
      (value_of s.table.words (call_watch call) == 0) _ _
      (calm s me call (at.Count counting.Peek) k.up _ tt tt tt refl refl tt)
      (calm s me call (at.Count counting.Peek) k.up _ tt tt tt refl refl tt)
  count_good counting.Lock k = calm s me call (at.Count counting.Lock) k.up _ tt tt tt refl refl tt
  count_good counting.Load k = calm s me call (at.Count counting.Load) k.up _ tt tt tt refl refl tt
  count_good counting.Store k = calm s me call (at.Count counting.Store) k.up _ tt tt tt refl refl tt
  count_good (counting.Unlock hit) k = calm s me call (at.Count (counting.Unlock hit)) k.up _ tt tt tt refl refl tt

  flag_good : (k : Known (at.Woken hearing.Flag)) (b : Bool) → IsGood s me call (at.Woken hearing.Flag)
      (go (event.Flag b) (at.Woken (if b then hearing.Run else hearing.Sleep)))
  flag_good k true = record {
    staged = tt;
    taken = λ who some. absurd (cc);
    takes = tt;
    stores = tt;
    fits = k.fits;
  }
  flag_good k false = calm s me call (at.Woken hearing.Flag) k.up _ tt tt tt refl refl k.fits

  woken_good : (p : WokenPoint) → Known (at.Woken p)
      → IsGood s me call (at.Woken p) (planned s me call (at.Woken p))
  woken_good hearing.State k = calm s me call (at.Woken hearing.State) k.up _ tt tt
      (inr (λ e q g np. absurd (goes_not_stands e.kind g
      (subst (λ (o : Option Entry). HomeAt (now.Open call (at.Woken hearing.State)) o) q k.home)))) refl
      refl k.fits
  woken_good hearing.Flag k = flag_good k (s.table.flag (own me))
  woken_good hearing.Sleep k = record {
    staged = tt;
    taken = λ who some. absurd (cc);
    takes = tt;
    stores = tt;
    fits = k.fits;
  }
  woken_good hearing.Run k = calm s me call (at.Woken hearing.Run) k.up _ tt tt (inl refl) refl refl k.fits
  woken_good hearing.Clear k = calm s me call (at.Woken hearing.Clear) k.up _ tt tt tt refl refl tt

  -- a wait that could not be queued
  worn_good : Known at.Worn → IsGood s me call at.Worn (planned s me call at.Worn)
  worn_good k = ask_good at.Worn (seen_by s me call at.Worn) (λ e. IsGood s me call at.Worn (if unset s call
      then ends_with e answer.Worn
      else if is_lock call then ends_with e zero_answer else go e (at.Finish finishing.State false)))
      (by _ tt tt tt) (by _ tt tt tt)
    where
      by : (e : Event) → IsAwake s me (given_at call at.Worn) e → Takes s me call at.Worn e
          → Stores s me call at.Worn e
          → IsGood s me call at.Worn (if unset s call then ends_with e answer.Worn
          else if is_lock call then ends_with e zero_answer else go e (at.Finish finishing.State false))
      by e a t st = either s me call at.Worn k.up (unset s call) _ _
          (calm s me call at.Worn k.up _ a t st refl refl tt)
          (either s me call at.Worn k.up (is_lock call) _ _ (calm s me call at.Worn k.up _ a t st refl refl tt)
          (calm s me call at.Worn k.up _ a t st refl refl tt))

  pub good : (p : Point) → Known p → IsGood s me call p (planned s me call p)
  good at.First k = first_good k (unset s call) (value_of s.table.words (call_watch call))
  good (at.Prepare p) k = prepare_good p k
  good at.Test k = test_good (unset s call) refl k
  good at.Sleep k = doze_good at.Sleep (slept_at call) k refl (slept_goes call).0 (slept_goes call).1 (slept_goes call).2
  good (at.Leave p) k = leave_good p k
  good (at.Finish p failed) k = finish_good p failed k
  good (at.Bit p) k = bit_good p k
  good (at.Page p) k = page_good p k
  good at.Worn k = worn_good k
  good at.Publish k = calm s me call at.Publish k.up _ (published_awake s me (given_at call at.Publish) call)
      (published_takes s me call at.Publish call) (published_stores s me call at.Publish call) refl refl tt
  good at.Active k = active_good (seen_by s me call at.Active).members k
  good (at.Walk p) k = walk_good p k
  good (at.Add p) k = add_good p k
  good (at.Remove p) k = remove_good p k
  good (at.Woken p) k = woken_good p k
  good (at.Select p) k = select_good p k
  good (at.Await p) k = await_good p k
  good (at.Count p) k = count_good p k
  good at.Raise k = calm s me call at.Raise k.up _ tt tt tt refl refl tt
  good p k = calm s me call p k.up _ tt tt tt refl refl tt
