-- To be believed.
-- The second entry of a task, of slot 1: what queueing it says, and taking it off.
use Rattle.std.specs.Prelude.{ℕ, ◌≡◌, ◌<◌, true, false, if◌then◌else◌, is_some, Some, None, Result, Ok, Err}
use Rattle.wait_model.specs.{declared.layout.TheConstants.FIRST_SIMPLE, declared.layout.TheConstants.VARIABLES}
use Rattle.wait_model.specs.{declared.calls.Answer.Answer, declared.points.Planned.Planned, declared.points.Point.Point}
use Rattle.wait_model.specs.{declared.points.Seen.Seen, declared.watches.Entry.Entry, declared.watches.Watch.Watch}
use Rattle.wait_model.specs.{Programs.go, Programs.zero_answer, Watches.head_of, Watches.kind_for}
use Rattle.wait_model.specs.declared.calls.Answer.TheVariants as answer
use Rattle.wait_model.specs.declared.calls.Event.TheVariants as event
use Rattle.wait_model.specs.declared.points.FinishPoint.TheVariants as finishing
use Rattle.wait_model.specs.declared.points.Next.TheVariants as next
use Rattle.wait_model.specs.declared.points.Point.TheVariants as at
use Rattle.wait_model.specs.declared.points.PreparePoint.TheVariants as preparing
use Rattle.wait_model.specs.declared.queues.Form.TheVariants as forms
use Rattle.wait_model.specs.declared.watches.Watch.TheVariants as watch
use Rattle.wait_rule.specs.{Ends.WasWorn, Known.Known, Queues.index, Transitions.Program}
use Rattle.wait_rule.specs.Says.{IsFree, IsUp, told_of}
use Rattle.wait_rule.specs.Stays.{Change, only, unchanged, with_entry}
use Rattle.wait_class.specs.{Posts.Runs, Tables.Plan, Tables.plan_program}
use Rattle.wait_event.specs.Prepares.{IsNoWaiter, IsPart, any_how}
use Rattle.wait_event.specs.WaitPlans.{gives_lock_back, part_plan}
use Rattle.wq_head.specs.declared.adds.Worn.{Worn}

-- what each of the two may be: a plain condition with a full head, or a variable
abbrev pub IsPolled : Watch → Type 0
IsPolled (watch.Plain c) = c < FIRST_SIMPLE
IsPolled (watch.Var v old) = v < VARIABLES
IsPolled _ = ⊥

-- the own entry of slot 1, and that it is off
abbrev pub second_of : Known → ℕ
second_of k = index k.view.number 1

abbrev pub IsSecondOut : Known → Type 0
IsSecondOut k = (told_of k).bits.stored (second_of k) ≡ None

-- The program of the add, point by point: one hold of the watch's head, in which the entry is queued at the front, unless
-- it is, and no state is stored.
abbrev pub join_points : Watch → Point → Seen → Planned
join_points w (at.Prepare preparing.Lock) seen = go (event.Lock (head_of w)) (at.Prepare preparing.Queue)
join_points w (at.Prepare preparing.Queue) seen =
    if is_some seen.entry
    then gives_lock_back w (next.Ends zero_answer)
    else if seen.worn
    then gives_lock_back w (next.Ends answer.Worn)
    else go (event.Queue (head_of w) forms.Front) (at.Prepare preparing.Unlock)
join_points w p seen = gives_lock_back w (next.Ends zero_answer)

abbrev pub join_plan : Watch → Plan
join_plan w = record (part_plan true w (kind_for w) any_how) { makes = λ me. join_points w }

abbrev pub join_program : ℕ → Watch → Program
join_program me w = plan_program me 1 (join_plan w)

-- the program of a finish (`wait_event/specs/Prepares`), with the entry of slot 1
abbrev pub leave_program : ℕ → Watch → Program
leave_program me w = plan_program me 1 (part_plan true w (kind_for w) any_how)

-- the task is awake and holds no lock, and its entry of slot 1 is off, or one for this watch; its state is any
pub record MayJoinSecond (k : Known) (w : Watch) : Type 0 where
  pub up : IsUp k
  pub free : IsFree k
  pub home : IsPart w (kind_for w) ((told_of k).bits.stored (second_of k))

-- the task went through the add to its end
abbrev pub JoinsSecond : Known → Known → Watch → Answer → Type 0
JoinsSecond old new w a = Runs (join_program old.view.number w) old new (next.Go (at.Prepare preparing.Lock)) (next.Ends a)

-- it has stored an entry for this watch, or no place was left for it
pub record HasSecond (k : Known) (w : Watch) : Type 0 where
  pub entry : Entry
  pub stored : (told_of k).bits.stored (second_of k) ≡ Some entry
  pub part : IsPart w (kind_for w) (Some entry)

abbrev pub EndsJoin : Known → Known → Watch → Result (Unit {0}) Worn → Type 0
EndsJoin old new w (Ok u) = JoinsSecond old new w zero_answer × HasSecond new w
EndsJoin old new w (Err e) = JoinsSecond old new w answer.Worn × IsSecondOut new × (e.head ≡ head_of w)
    × WasWorn new.view.number new.view.items e.head e.place

-- the same with an entry of slot 1 for any watch but a completion
pub record MayLeave (k : Known) : Type 0 where
  pub up : IsUp k
  pub free : IsFree k
  pub home : IsNoWaiter ((told_of k).bits.stored (second_of k))

-- The task went through the finish of a wait for the watch of that entry, where it had one, but for the store of the
-- state. The entry is off.
pub record HasLeftSecond (old new : Known) : Type 0 where
  pub watch : Watch
  pub about : (e : Entry) → (told_of old).bits.stored (second_of old) ≡ Some e → watch ≡ e.watch
  pub runs : Runs (leave_program old.view.number watch) old new (next.Go (at.Finish finishing.Look false))
      (next.Ends zero_answer)
  pub up : IsUp new
  pub free : IsFree new
  pub out : IsSecondOut new

-- what the add changes: the entry of this index may be queued; and what changes where it is taken off
abbrev pub join_change : ℕ → ℕ → Change
join_change i h = record unchanged {
  from = with_entry i;
  to = with_entry i;
  but = only i;
  looks = true;
  at = λ _. h;
}
