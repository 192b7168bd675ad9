-- Waits for the other end of a pipe that their task leaves: what stays of the task, whatever way it went.
use Rattle.std.proofs.Common.{refl, sym, ◌∙◌, ap, subst, append-nil, append_assoc}
use Rattle.std.specs.Prelude.{ℕ, ◌≡◌, ◌≢◌, ◌<◌, ◌/◌, ◌++◌, Bool, true, false, None, Result, Ok, Err, List, [], ◌∷◌}
use Rattle.wait_model.specs.{declared.layout.TheConstants.FIRST_DONE_HEAD, declared.layout.TheConstants.PIPE_ENDS}
use Rattle.wait_model.specs.{declared.calls.Event.Event, declared.points.Next.Next, declared.points.Point.Point}
use Rattle.wait_model.specs.{declared.steps.Step.Step, declared.tasks.How.How, declared.tasks.SleepState.SleepState}
use Rattle.wait_model.specs.{declared.watches.Entry.Entry, declared.watches.Watch.Watch, Watches.bare, Watches.head_of}
use Rattle.wait_model.specs.declared.calls.Event.TheVariants as event
use Rattle.wait_model.specs.declared.points.Next.TheVariants as next
use Rattle.wait_model.specs.declared.points.Point.TheVariants as at
use Rattle.wait_model.specs.declared.steps.Step.TheVariants as step
use Rattle.wait_model.specs.declared.tasks.SleepState.TheVariants as state
use Rattle.wait_model.specs.declared.watches.Watch.TheVariants as watch
use Rattle.wait_rule.specs.{declared.journal.Item.Item, Aside.GrowsAside, Aside.raises_none, Known.Known, Pipes.no_end}
use Rattle.wait_rule.specs.{Pipes.other_end, Queues.IsIdle, Queues.index, Stays.Carries}
use Rattle.wait_rule.specs.PipeSays.{EndsKept, KeepsEnd, end_at}
use Rattle.wait_rule.specs.Says.{IsUp, added, history_of, told_of}
use Rattle.wait_rule.specs.Transitions.{Goes, IsStepFor, Program, Transition}
use Rattle.wait_rule.specs.declared.journal.Item.TheVariants as item
use Rattle.wait_rule.proofs.{KnownLaws.CalledPermits.left_on, KnownLaws.CarriedEnds.programs_keep_ends}
use Rattle.wait_rule.proofs.{KnownLaws.HandedSteps.AddsLow, KnownLaws.HandedSteps.AllAddLow}
use Rattle.wait_rule.proofs.{KnownLaws.PipeItems.end_append, KnownLaws.TaskHistories.history_after}
use Rattle.wait_rule.proofs.KnownLaws.AsideCalls.{aside_join, calls_grow_aside, more_aside}
use Rattle.wait_rule.proofs.KnownLaws.OtherCalls.{Adding, AddsBy, AllAddBy, goes_adding}
use Rattle.wait_class.specs.{Posts.IsOut, Tables.next_in, Tables.plan_program, Wholes.HasRested}
use Rattle.wait_class.specs.{declared.stages.Run.Run, declared.stages.Turn.Turn}
use Rattle.wait_class.specs.declared.stages.Turn.TheVariants as turn
use Rattle.wait_leave.specs.Leaves.{GoesOut, asked_run}
use Rattle.wait_leave.specs.OnTheWay.{OnTheWay, left_at, straight}
use Rattle.wait_event.specs.{Ends.wait_change, WaitPlans.IsWaitFor, WaitPlans.call_for}
use Rattle.wait_event.specs.{declared.wait_events.WaitEnd.WaitEnd, declared.wait_leaves.WaitUntil.WaitUntil}
use Rattle.wait_event.specs.{declared.waits.WaitCall.WaitCall, declared.waits.WaitOutcome.WaitOutcome}
use Rattle.wait_event.specs.declared.waits.WaitStage.{WaitStage}
use Rattle.wait_event.specs.WaitLeaves.{FoundUnset, IsAskedWait, IsWaitCause, wait_exits}
use Rattle.wait_event.specs.Waits.{SameCall, wait_point_at, wait_table}
use Rattle.wait_event.specs.declared.wait_leaves.WaitUntil.TheVariants as wait_until
use Rattle.wait_event.specs.declared.waits.WaitStage.TheVariants as stage
use Rattle.wait_event.proofs.{Plans.program_is, Changes.keeps_join, Changes.keeps_same}
use Rattle.var_wait.specs.{VarLeaves.EndsVarUntil, VarLeaves.until_loaded, VarWaits.shared_in}
use Rattle.wait_pipe.specs.PieceLeaves.{IsPieceUntil, end_of_until}
use Rattle.wait_pipe.specs.Pieces.{ShowsNoCell, WaitsAtPipe}
use Rattle.wait_pipe.proofs.Asides.{quiet_none, var_low}
use Rattle.wait_pipe.proofs.Looking.{end_cause, none_kept, waits_by}

-- An entry at no completion, and steps that queue no other.
abbrev IsLow : Entry → Type 0
IsLow e = head_of e.watch < FIRST_DONE_HEAD

low_step : (e : Step) → AddsBy IsLow e → AddsLow e
low_step (step.Queue x e) low = low
low_step e low = tt

low_steps : (es : List Step) → AllAddBy IsLow es → AllAddLow es
low_steps [] low = tt
low_steps (e ∷ es) low = (low_step e low.0, low_steps es low.1)

both_add : (es fs : List Step) → AllAddBy IsLow es → AllAddBy IsLow fs → AllAddBy IsLow (es ++ fs)
both_add [] fs one two = two
both_add (e ∷ es) fs one two = (one.0, both_add es fs one.1 two)

-- What stays of a task over a part of a wait for variable v: of ends, and of all else that the wait is not about.
pub record Stills (v : ℕ) (old new : Known) : Type 0 where
  pub ends : EndsKept v old new
  pub aside : GrowsAside old new
  pub adds : Adding IsLow old new

stills_on : (v : ℕ) (x y z : Known) → Stills v x y → Stills v y z → Stills v x z
stills_on v x y z a b = record {
  ends = record {
    keeps = λ k ne. keeps_join (a.ends.keeps k ne) (b.ends.keeps k ne);
    others = λ k ne. b.ends.others k ne ∙ a.ends.others k ne;
  };
  aside = aside_join x y z a.aside b.aside;
  adds = record {
    made = a.adds.made ++ b.adds.made;
    is = b.adds.is ∙ (ap (λ (l : List Step). l ++ b.adds.made) a.adds.is
        ∙ append_assoc (history_of x) a.adds.made b.adds.made);
    adds = both_add a.adds.made b.adds.made a.adds.adds b.adds.adds;
    number = b.adds.number ∙ a.adds.number;
  };
}

stills_none : (v : ℕ) (k : Known) → Stills v k k
stills_none v k = record {
  ends = record { keeps = λ j ne. keeps_same refl; others = λ j ne. refl };
  aside = (quiet_none k).aside;
  adds = record { made = []; is = sym (append-nil (history_of k)); adds = tt; number = refl };
}

-- a store of the state
abbrev stored_state : Item
stored_state = item.Made (step.State 0)

stills_state : (v : ℕ) (k : Known) → Stills v k (added k stored_state)
stills_state v k = record {
  ends = record {
    keeps = λ j ne. subst (KeepsEnd (end_at j k)) (sym (end_append j no_end k.view.items (stored_state ∷ [])))
        (keeps_same refl);
    others = λ j ne. end_append j no_end k.view.items (stored_state ∷ []);
  };
  aside = more_aside k (added k stored_state) (stored_state ∷ []) refl (tt, tt) refl (λ j e. refl);
  adds = record {
    made = step.State 0 ∷ [];
    is = history_after k (added k stored_state) (step.State 0) refl;
    adds = (tt, tt);
    number = refl;
  };
}

stills_rest : (v : ℕ) (old new : Known) (b : Bool) → HasRested old new b → Stills v old new
stills_rest v old new true is = subst (Stills v old) (sym is) (stills_state v old)
stills_rest v old new false is = subst (Stills v old) (sym is) (stills_none v old)

-- no stage of a wait raises a signal
is_raising : Next → Bool
is_raising (next.Go at.Raise) = true
is_raising n = false

unraised : (s : WaitStage) → is_raising (next.Go (wait_point_at s)) ≡ false
unfolding is_raising
unraised stage.First = refl
unraised stage.PrepareLock = refl
unraised stage.PrepareTurn = refl
unraised stage.PrepareLook = refl
unraised stage.PrepareQueue = refl
unraised stage.PrepareState = refl
unraised stage.PrepareUnlock = refl
unraised stage.Test = refl
unraised stage.Sleep = refl
unraised stage.Worn = refl
unraised stage.LeaveQueue = refl
unraised stage.LeaveUnlock = refl
unraised (stage.LeaveLoad found) = refl
unraised stage.FinishState = refl
unraised stage.FinishLook = refl
unraised stage.FinishLock = refl
unraised stage.FinishTurn = refl
unraised stage.FinishQueue = refl
unraised stage.FinishUnlock = refl

not_raise : (s : WaitStage) → next.Go (wait_point_at s) ≢ next.Go at.Raise
unfolding is_raising
not_raise s is = absurd (let no : true ≡ false = sym (ap is_raising is) ∙ unraised s in cc)

-- the call waits for variable v to have another value than this, at the front of its head
record IsFor (v word : ℕ) (c : WaitCall) : Type 0 where
  watch_is : c.watch ≡ watch.Var v word
  front : c.how.exclusive ≡ false

for_same : (v word : ℕ) (c d : WaitCall) → SameCall c d → IsFor v word c → IsFor v word d
for_same v word c d same is = record {
  watch_is = same.watch_is ∙ is.watch_is;
  front = ap (λ (h : How). h.exclusive) same.how ∙ is.front;
}

abbrev asks : Run WaitCall → Run WaitCall
asks m = asked_run wait_exits m

module _ (v word : ℕ) where
  queues_low : (me : ℕ) (c : WaitCall) → IsFor v word c → (p : Point) (k : Known) (e : Event) (s : Step)
      → IsStepFor k (plan_program me 0 (wait_table.plan_of c)).own ((wait_table.plan_of c).given p) e s
      → AddsBy IsLow s
  queues_low me c is p k (event.Queue h form) (step.Queue x e) q =
      subst (λ (d : Entry). head_of d.watch < FIRST_DONE_HEAD) (sym q.3)
      (subst (λ (w : Watch). head_of (bare w) < FIRST_DONE_HEAD) (sym is.watch_is) (var_low v 0))
  queues_low me c is p k e (step.Queue x d) q = absurd q
  queues_low me c is p k e s q = tt

  -- by its program, from a stage on
  stills_goes : (c : WaitCall) → IsFor v word c → (old new : Known) (s : WaitStage) (to : Next) (ts : List Transition)
      → Goes (plan_program old.view.number 0 (wait_table.plan_of c)) old (next.Go (wait_point_at s)) ts new to
      → Stills v old new
  stills_goes c is old new s to ts goes = record {
    ends = programs_keep_ends (plan_program old.view.number 0 (wait_table.plan_of c)) v (λ p. (word, is.watch_is)) old
        (next.Go (wait_point_at s)) ts new to goes;
    aside = calls_grow_aside old.view.number 0 (call_for c.watch c.how) old new (next.Go (wait_point_at s)) to ts
        (subst (λ (w : Watch). raises_none (call_for w c.how)) (sym is.watch_is) tt) (not_raise s)
        (subst (λ (f : Program). Goes f old (next.Go (wait_point_at s)) ts new to)
        (program_is old.view.number c.watch c.how
        (subst (λ (w : Watch). IsWaitFor w c.how) (sym is.watch_is) is.front)) goes);
    adds = goes_adding IsLow (plan_program old.view.number 0 (wait_table.plan_of c))
        (queues_low old.view.number c is) old new (next.Go (wait_point_at s)) to ts goes;
  }

  -- out of a stage
  out_for : (e u : Turn WaitStage WaitOutcome) (k new : Known) (m q : Run WaitCall) → IsFor v word m.of
      → GoesOut wait_table k new (asks m) q e u → IsFor v word q.of
  out_for (turn.Again s) u k new m q is a = for_same v word (asks m).of q.of a.went.tells.same
      (record { watch_is = is.watch_is; front = is.front })
  out_for (turn.Asleep s) u k new m q is a = absurd a
  out_for (turn.Locked s) u k new m q is a = absurd a
  out_for (turn.Done o) u k new m q is a = subst (λ (r : Run WaitCall). IsFor v word r.of) (sym a.same)
      (record { watch_is = is.watch_is; front = is.front })

  out_stills : (e u : Turn WaitStage WaitOutcome) (k new : Known) (m q : Run WaitCall) → IsFor v word m.of
      → GoesOut wait_table k new (asks m) q e u → Stills v k new
  out_stills (turn.Again s) u k new m q is a = stills_goes (asks m).of
      (record { watch_is = is.watch_is; front = is.front }) k new s (next_in wait_table u) a.went.runs.transitions
      a.went.runs.goes
  out_stills (turn.Asleep s) u k new m q is a = absurd a
  out_stills (turn.Locked s) u k new m q is a = absurd a
  out_stills (turn.Done o) u k new m q is a = subst (Stills v k) (sym a.still) (stills_none v k)

  module _ (A : Type 0) (old : Known) (r : Run WaitCall) (s : WaitStage) (is : IsFor v word r.of) where
    way_for : (new : Known) (q : Run WaitCall) (u : Turn WaitStage WaitOutcome)
        → OnTheWay A wait_table wait_exits old r s new q u → IsFor v word q.of
    way_for _ _ _ (straight new q u a) = for_same v word r.of q.of a.went.tells.same is
    way_for _ _ _ (left_at mid m n new q u cause w l) = out_for l.exit.to u l.rested new m q
        (way_for mid m (turn.Again n) w) l.on

    way_stills : (new : Known) (q : Run WaitCall) (u : Turn WaitStage WaitOutcome)
        → OnTheWay A wait_table wait_exits old r s new q u → Stills v old new
    way_stills _ _ _ (straight new q u a) = stills_goes r.of is old new s (next_in wait_table u)
        a.went.runs.transitions a.went.runs.goes
    way_stills _ _ _ (left_at mid m n new q u cause w l) = stills_on v old mid new
        (way_stills mid m (turn.Again n) w)
        (stills_on v mid l.rested new (stills_rest v mid l.rested l.exit.rests l.rests)
        (out_stills l.exit.to u l.rested new m q (way_for mid m (turn.Again n) w) l.on))

-- a wait for the other end's word
pub until_waits : (A : Type 0) (k v word : ℕ) (st : SleepState) (old new : Known) (result : WaitUntil (Result ℕ WaitEnd))
    → v ≢ k → v / PIPE_ENDS ≡ k / PIPE_ENDS → EndsVarUntil A old new v word st result
    → (told_of old).hold.head ≡ None → IsUp new → IsIdle new → IsOut new
    → Carries (wait_change (index old.view.number 0) new.at) old new → WaitsAtPipe k old new
until_waits A k v word st old new result apart pipe w free up idle out carries =
    let first = w.waited.first in
    let is : IsFor v word first.of = record {
      watch_is = w.waited.fresh.watch_is;
      front = ap (λ (h : How). h.exclusive) w.waited.fresh.how_is;
    } in
    let l = w.waited.leaves in
    let s = way_stills v word A old first stage.First is new l.at (turn.Done l.outcome) l.came in
    waits_by apart pipe s.ends (record {
      aside = s.aside;
      off = left_on old new s.adds.made s.adds.number s.adds.is (low_steps s.adds.made s.adds.adds) free;
    }) up idle out carries

-- why it ended
module _ (A : Type 0) (k word : ℕ) (new : Known) (none : ShowsNoCell k (end_at k new) word) where
  cause_at : (last : ℕ) (queued : Bool) (answer : WaitUntil (Result (Unit {0}) WaitEnd))
      → IsWaitCause new (watch.Var (other_end k) word) (shared_in state.Interruptible) last queued answer
      → IsAskedWait A answer → IsPieceUntil A k new (end_of_until (until_loaded last answer))
  cause_at last queued (wait_until.Over (Ok u)) cause asked = tt
  cause_at last queued (wait_until.Over (Err e)) cause asked = end_cause k new word queued e cause none
  cause_at last queued (wait_until.Left seen selected) cause asked = record {
    asked = asked;
    selected = selected;
    queued = queued;
    ends = subst (λ (o : ℕ). FoundUnset new (watch.Var (other_end k) o) seen selected queued) (sym cause.unset) cause;
    none = subst (ShowsNoCell k (end_at k new)) (sym cause.unset) none;
  }

pub until_caused : (A : Type 0) (k v word : ℕ) (old new : Known) (result : WaitUntil (Result ℕ WaitEnd))
    → v ≡ other_end k → EndsVarUntil A old new v word state.Interruptible result → WaitsAtPipe k old new
    → ShowsNoCell k (end_at k old) word → IsPieceUntil A k new (end_of_until result)
until_caused A k v word old new result is w waits none =
    let l = w.waited.leaves in
    let how = shared_in state.Interruptible in
    let cause : IsWaitCause new (watch.Var (other_end k) word) how l.at.of.seen l.at.of.queued w.answer =
    subst (λ (c : Watch). IsWaitCause new c how l.at.of.seen l.at.of.queued w.answer)
    (w.waited.fresh.watch_is ∙ ap (λ (u : ℕ). watch.Var u word) is)
    (subst (λ (h : How). IsWaitCause new w.waited.first.of.watch h l.at.of.seen l.at.of.queued w.answer)
    w.waited.fresh.how_is l.cause) in
    subst (λ (r : WaitUntil (Result ℕ WaitEnd)). IsPieceUntil A k new (end_of_until r)) (sym w.loads)
    (cause_at A k word new (none_kept k word (end_at k old) (end_at k new) waits.keeps none) l.at.of.seen
    l.at.of.queued w.answer cause w.waited.asked)
