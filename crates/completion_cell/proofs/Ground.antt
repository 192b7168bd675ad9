-- Events of a completion's calls, and what holds of a completion's head carry on.
use Rattle.std.proofs.Common.{◌∙◌, ap, sym, refl, subst, arith, eq-eqb}
use Rattle.std.specs.Prelude.{ℕ, ◌≡◌, ◌<◌, ◌||◌, ◌==◌, if◌then◌else◌, Bool, true, false, pos, Option, Some, None, List, []}
use Rattle.std.specs.Prelude.{◌∷◌, ◌++◌}
use Rattle.wait_model.specs.{declared.layout.TheConstants.COMPLETIONS, declared.layout.TheConstants.HEADS}
use Rattle.wait_model.specs.{declared.calls.Call.Call, declared.calls.Event.Event, declared.points.Next.Next}
use Rattle.wait_model.specs.{declared.points.Planned.Planned, declared.points.Point.Point, declared.points.Seen.Seen}
use Rattle.wait_model.specs.{declared.steps.Step.Step, declared.watches.Watch.Watch, Points.call_watch}
use Rattle.wait_model.specs.{Points.call_head, Runs.is_publishing, Runs.set_step, Watches.head_of}
use Rattle.wait_model.specs.Programs.{count_from, count_after, ends_with, go, load, zero_answer}
use Rattle.wait_model.specs.declared.calls.Event.TheVariants as event
use Rattle.wait_model.specs.declared.calls.Answer.TheVariants as answer
use Rattle.wait_model.specs.declared.points.CountPoint.TheVariants as counting
use Rattle.wait_model.specs.declared.points.Next.TheVariants as next
use Rattle.wait_model.specs.declared.points.Point.TheVariants as at
use Rattle.wait_model.specs.declared.steps.Step.TheVariants as step
use Rattle.wait_model.specs.declared.watches.Watch.TheVariants as watch
use Rattle.wait_rule.specs.{declared.journal.Item.Item, Known.Known, Items.steps_of, Queues.at_head}
use Rattle.wait_rule.specs.Queues.{walk_of_hold}
use Rattle.wait_rule.specs.Says.{added, history_of, told_of, unlocked_with}
use Rattle.wait_rule.specs.HeldValues.{count_in, value_after, value_from}
use Rattle.wait_rule.specs.Stays.{Carries, only_looks, unchanged}
use Rattle.wait_rule.specs.Transitions.{AreLooks, OnlyLooks, Program, FindsAt, Finds, IsAbout, IsMadeFor, IsStepFor}
use Rattle.wait_rule.specs.Transitions.{StepOrLook, after_step_or_look, by_step, call_program}
use Rattle.wait_rule.specs.declared.journal.Item.TheVariants as item
use Rattle.wait_rule.proofs.{KnownLaws.HeldCounts.value_snoc, KnownLaws.Transitions.only_none}
use Rattle.wait_rule.proofs.{TableSteps.ItemLists.steps_append, KnownLaws.TaskHistories.history_after}
use Rattle.wq_head.specs.Holds.{HasLocked, IsHolding}
use Rattle.wq_head.proofs.LockWaits.{turn_looks, turn_of}
use Rattle.wait_event.specs.{Entries.hold_change, Waits.is_queue, Waits.has_queued_in}
use Rattle.wait_class.specs.{Posts.Runs, Findings.saw_nothing, Findings.with_value}
use Rattle.wait_event.proofs.{Entering.runs_lock, Entering.unlock_looks, LookedSteps.looks_all}
use Rattle.wait_class.proofs.{Ways.either_event, Ground.Going.runs_one}

-- the head of a completion is there
pub head_there : (d : ℕ) → d < COMPLETIONS → head_of (watch.Done d) < HEADS
unfolding head_of
head_there d small = omega (arith, small)

-- a step is followed by nothing
pub step_behind : (old new : Known) (e : Step) → new ≡ added old (item.Made e)
    → OnlyLooks (added old (item.Made e)) new
step_behind old new e is = subst (OnlyLooks (added old (item.Made e))) (sym is) (only_none (added old (item.Made e)))

-- what a hold has of a count after one more step
pub count_after_step : (d : ℕ) (old new : Known) (e : Step) → history_of new ≡ history_of old ++ e ∷ []
    → count_in d (history_of new) ≡ value_after (watch.Done d) e (count_in d (history_of old))
count_after_step d old new e more = ap (count_in d) more ∙ value_snoc (watch.Done d) None (history_of old) e

pub loaded_count : (d n : ℕ) (old new : Known) → new ≡ added old (item.Made (step.Load (watch.Done d) n))
    → count_in d (history_of new) ≡ Some n
loaded_count d n old new is =
    count_after_step d old new (step.Load (watch.Done d) n) (history_after old new (step.Load (watch.Done d) n) is)
    ∙ ap (λ (b : Bool). if b then Some n else count_in d (history_of old)) (eq-eqb d d refl)

-- a hold goes on over what changes nothing of it
pub holding_on : (old new : Known) → new.book.head ≡ old.book.head
    → (told_of new).hold.head ≡ (told_of old).hold.head → new.at ≡ old.at → new.book.differs ≡ old.book.differs
    → IsHolding old → IsHolding new
holding_on old new head hold at differs g = record {
  locked = head ∙ (g.locked ∙ ap Some (sym at));
  agreed = differs ∙ g.agreed;
  told = hold ∙ (g.told ∙ ap Some (sym at));
}

-- a run in which nothing is queued
abbrev pub QuietRuns : Program → Known → Known → Point → Next → Type 0
QuietRuns f old new p n = (runs : Runs f old new (next.Go p) n) × (has_queued_in runs.transitions ≡ false)

-- one event, by what the program plans
pub quiet_runs : (f : Program) (p : Point) (old knew new : Known) (seen : Seen) (did : StepOrLook) (plan : Planned)
    → f.plan p seen ≡ plan → OnlyLooks old knew → IsMadeFor knew f.own (f.given p) plan.event did
    → Finds knew f p did seen → OnlyLooks (after_step_or_look did knew) new → is_queue did ≡ false
    → QuietRuns f old new p plan.next
quiet_runs f p old knew new seen did plan plans before made finds behind quiet =
    subst (λ (x : Planned). QuietRuns f old new p x.next) plans (
      runs_one f p old knew new seen did before
          (subst (λ (x : Planned). IsMadeFor knew f.own (f.given p) x.event did) (sym plans) made) finds behind,
      ap (λ (b : Bool). b || false) quiet,
    )

-- a store of a count as one of a program's events
module _ (f : Program) (p : Point) (knew new : Known) (seen : Seen) (d n found c v : ℕ) (plan : Planned)
    (plans : f.plan p seen ≡ plan) (sets : plan.event ≡ event.Set c v) (about : watch.Done d ≡ (f.given p).watch)
    (same : n ≡ v) (finds : seen.value ≡ found) (knows : FindsAt knew f.own f.form (f.given p) p seen)
    (publishing : IsAbout knew f.own p (step.Publish (watch.Done d) n found) seen)
    (consuming : IsAbout knew f.own p (step.Consume (watch.Done d) n found) seen) where
  pub quiet_store : (old : Known) → OnlyLooks old knew
      → new ≡ added knew (item.Made (set_step (watch.Done d) n found)) → QuietRuns f old new p plan.next
  quiet_store old before is = by (is_publishing (watch.Done d) found n) refl is
    where
      by : (b : Bool) → is_publishing (watch.Done d) found n ≡ b
          → new ≡ added knew (item.Made (if b then step.Publish (watch.Done d) n found
          else step.Consume (watch.Done d) n found)) → QuietRuns f old new p plan.next
      by true tells made = quiet_runs f p old knew new seen (by_step (step.Publish (watch.Done d) n found)) plan plans
          before
          (subst (λ (e : Event). IsStepFor knew f.own (f.given p) e (step.Publish (watch.Done d) n found)) (sym sets)
          (about, same, tells)) (finds, knows, publishing)
          (step_behind knew new (step.Publish (watch.Done d) n found) made) refl
      by false tells made = quiet_runs f p old knew new seen (by_step (step.Consume (watch.Done d) n found)) plan plans
          before
          (subst (λ (e : Event). IsStepFor knew f.own (f.given p) e (step.Consume (watch.Done d) n found)) (sym sets)
          (about, same, tells)) (finds, knows, consuming)
          (step_behind knew new (step.Consume (watch.Done d) n found) made) refl

-- the events of the calls that ask a count, of any call for this completion
module _ (me : ℕ) (call : Call) (d : ℕ) (about : watch.Done d ≡ call_watch call) where
  abbrev f : Program
  f = call_program me 0 call

  abbrev h : ℕ
  h = head_of (watch.Done d)

  here : h ≡ call_head call
  here = ap head_of about

  abbrev peeked : ℕ → Planned × Planned
  peeked v = (ends_with (load call (with_value v)) zero_answer, go (load call (with_value v)) (at.Count counting.Lock))

  pub count_peeks : (old new : Known) (v : ℕ) → new ≡ added old (item.Made (step.Load (watch.Done d) v))
      → Runs f old new (next.Go (at.Count counting.Peek))
      (if v == 0 then ends_with (load call (with_value v)) zero_answer
      else go (load call (with_value v)) (at.Count counting.Lock)).next
  count_peeks old new v is = runs_one f (at.Count counting.Peek) old old new (with_value v)
      (by_step (step.Load (watch.Done d) v)) (only_none old)
      (either_event (λ (e : Event). IsStepFor old f.own (f.given (at.Count counting.Peek)) e
      (step.Load (watch.Done d) v)) (v == 0) (peeked v).0 (peeked v).1 about about) (refl, tt, tt)
      (step_behind old new (step.Load (watch.Done d) v) is)

  pub count_locks : (old a : Known) → HasLocked old a h (walk_of_hold h None)
      → Runs f old a (next.Go (at.Count counting.Lock)) (next.Go (at.Count (count_from call)))
  count_locks old a l =
      let turn = turn_of old a h (walk_of_hold h None) l in
      let locked = at_head h (added turn (item.Made (step.Lock h (walk_of_hold h None) l.found))) in
      runs_lock f (next.Go (at.Count counting.Lock)) (next.Go (at.Count (count_from call))) old a h l
      (runs_one f (at.Count counting.Lock) old turn locked saw_nothing
      (by_step (step.Lock h (walk_of_hold h None) l.found)) (turn_looks old a h (walk_of_hold h None) l)
      (here, ap (λ (i : ℕ). walk_of_hold i None) here) (tt, tt, tt) (only_none locked))

  pub count_loads : (old new : Known) (v : ℕ) → new ≡ added old (item.Made (step.Load (watch.Done d) v))
      → Runs f old new (next.Go (at.Count counting.Load)) (next.Go (at.Count (count_after v)))
  count_loads old new v is = runs_one f (at.Count counting.Load) old old new (with_value v)
      (by_step (step.Load (watch.Done d) v)) (only_none old) about (refl, tt, tt)
      (step_behind old new (step.Load (watch.Done d) v) is)

  pub count_unlocks : (hit : Bool) (old new : Known) → old.at ≡ h → new ≡ unlocked_with old old.at false
      → Runs f old new (next.Go (at.Count (counting.Unlock hit)))
      (next.Ends (answer.Number (if hit then pos 1 else pos 0)))
  count_unlocks hit old new there is = runs_one f (at.Count (counting.Unlock hit)) old old new saw_nothing
      (by_step (step.Unlock old.at false)) (only_none old) (there ∙ here, refl) (tt, tt, tt)
      (unlock_looks old new is)

-- what changes nothing looks, at this head
quiet_at : (at : ℕ → ℕ) (old new : Known) → new.at ≡ at old.at → Carries unchanged old new
    → Carries (record unchanged { looks = true; at = at }) old new
quiet_at at old new here k = record {
  domain = k.domain;
  number = k.number;
  awake = k.awake;
  state = k.state;
  head = k.head;
  ticket = k.ticket;
  hold = k.hold;
  at = here;
  mark = k.mark;
  fewer = k.fewer;
  stored = λ x none _. absurd (cc);
  out = k.out;
  stands = k.stands;
  owes = k.owes;
  keeps = k.keeps;
}

-- and takes no lock
pub as_looks : (old new : Known) → Carries unchanged old new → Carries only_looks old new
as_looks old new k = quiet_at (λ h. h) old new k.at k

pub as_hold : (old new : Known) → Carries unchanged old new → Carries (hold_change new.at) old new
as_hold old new k = quiet_at (λ _. new.at) old new refl k

-- looks say nothing of a count
pub value_append : (c : Watch) (o : Option ℕ) (es fs : List Step)
    → value_from c o (es ++ fs) ≡ value_from c (value_from c o es) fs
value_append c o [] fs = refl
value_append c o (e ∷ es) fs = value_append c (value_after c e o) es fs

looks_value : (c : Watch) (o : Option ℕ) (xs : List Item) → AreLooks xs → value_from c o (steps_of xs) ≡ o
looks_value c o = looks_all (λ es. value_from c o es ≡ o) refl (λ x w es is. is)

pub looked_count : (d : ℕ) (old new : Known) → OnlyLooks old new
    → count_in d (history_of new) ≡ count_in d (history_of old)
looked_count d old new l = ap (λ (k : Known). count_in d (history_of k)) l.is
    ∙ (ap (count_in d) (steps_append old.view.items l.items)
    ∙ (value_append (watch.Done d) None (history_of old) (steps_of l.items)
    ∙ looks_value (watch.Done d) (count_in d (history_of old)) l.items l.looks))
