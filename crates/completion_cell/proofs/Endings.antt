-- Whole waits for completions: how they begin, and what they say at their end.
use Rattle.std.proofs.Common.{◌∙◌, ap, sym, refl, subst}
use Rattle.std.specs.Prelude.{ℕ, ◌≡◌, ◌<◌, ◌||◌, ◌&&◌, not, Bool, false, None}
use Rattle.wait_model.specs.{declared.layout.TheConstants.COMPLETIONS, declared.tasks.SleepState.SleepState}
use Rattle.wait_model.specs.Watches.{head_of}
use Rattle.wait_model.specs.Tasks.{pending, state_mask, task_of}
use Rattle.wait_model.specs.declared.calls.Call.TheVariants as calls
use Rattle.wait_model.specs.declared.points.AwaitPoint.TheVariants as awaiting
use Rattle.wait_model.specs.declared.points.Next.TheVariants as next
use Rattle.wait_model.specs.declared.points.Point.TheVariants as at
use Rattle.wait_model.specs.declared.watches.Watch.TheVariants as watch
use Rattle.wait_rule.specs.{HandedPermits.StaysOff, HeldValues.count_in, Known.Known, LeftEntries.LeftOff}
use Rattle.wait_rule.specs.Stays.{Carries}
use Rattle.wait_rule.specs.Queues.{IsIdle, IsTold, index}
use Rattle.wait_rule.specs.Says.{IsClean, IsUp, history_of, told_of}
use Rattle.wait_rule.specs.Transitions.{Goes, Program, call_program}
use Rattle.wait_class.specs.Posts.{IsOut, EndsWith, own_of}
use Rattle.wait_class.specs.Tables.{Advances, IsAt, IsEnded, Plan}
use Rattle.wait_class.specs.declared.stages.Run.{Run}
use Rattle.wait_event.specs.{Ends.wait_change, Waits.has_queued_in}
use Rattle.wait_event.proofs.Behind.{StandsOver, behind_at, over_behind}
use Rattle.wait_class.proofs.Wholes.{begins}
use Rattle.completion_cell.specs.{declared.awaits.AwaitOutcome.AwaitOutcome, declared.awaits.AwaitCall.AwaitCall}
use Rattle.completion_cell.specs.declared.awaits.AwaitStage.{AwaitStage}
use Rattle.completion_cell.specs.AwaitEnds.{EndsAwait, HasAwaited, await_end_in}
use Rattle.completion_cell.specs.Awaits.{CellKeeps, FoundNoPlaceForCell, HasGivenBack, IsFreshAwait, AwaitTrailEnd}
use Rattle.completion_cell.specs.Awaits.{WasAwaitSignalled, WhyStopped, answer_to_await, await_table, await_end_post}
use Rattle.completion_cell.specs.Awaits.{await_left_by}
use Rattle.wait_class.specs.declared.stages.Turn.TheVariants as turn
use Rattle.completion_cell.specs.declared.awaits.AwaitOutcome.TheVariants as outcome
use Rattle.completion_cell.specs.declared.awaits.AwaitStage.TheVariants as stage
use Rattle.completion_cell.proofs.Behind.{StandsBehind, behind_carried, behind_clean}
use Rattle.completion_cell.proofs.OtherCells.{wait_stays_off}

-- a task that is idle, with its entry off, may begin
pub begins_at : (k : Known) (r : Run AwaitCall) (d : ℕ) (st : SleepState) → IsFreshAwait r.of d st → d < COMPLETIONS
    → LeftOff d k → IsTold k → IsUp k → IsIdle k → IsOut k → IsAt await_table k r stage.First
begins_at k r d st fresh small left told up idle out = begins await_table k r stage.First
    (subst (λ (n : ℕ). n < COMPLETIONS) (sym fresh.cell) small) refl refl refl refl
    (subst (λ (n : ℕ). LeftOff n k) (sym fresh.cell) left) told up idle out

pub given_back : (k : Known) (r : AwaitCall) (o : AwaitOutcome) → AwaitTrailEnd k r o → HasGivenBack k r
given_back k r outcome.Over u = u
given_back k r (outcome.Signalled found) u = u.0
given_back k r outcome.Worn u = u.0

-- A wait that ended; it was asked to leave on its way or not.
module _ (old new : Known) (q : Run AwaitCall) (o : AwaitOutcome) (ended : IsEnded await_table new q o)
    (keeps : CellKeeps (own_of old) old new) where
  behind : StandsBehind old new
  behind = behind_at (await_end_post q.of o) (record { head = refl; ticket = refl; stirs = refl; zone = refl }) old new
      ended.up ended.stands keeps

  pub over_by : StandsOver old new
  over_by = over_behind old new behind

  pub carried_by : StaysOff old new → IsUp old → IsIdle old → (told_of old).hold.head ≡ None
      → Carries (wait_change (index old.view.number 0) new.at) old new
  carried_by = behind_carried old new behind

  pub clean_by : StaysOff old new → IsClean old → IsClean new
  clean_by = behind_clean old new behind

module _ (old new : Known) (r q : Run AwaitCall) (s : AwaitStage) (o : AwaitOutcome)
    (a : Advances await_table old new r q s (turn.Done o)) where
  pub ends_over : StandsOver old new
  ends_over = over_by old new q o a.lands a.went.keeps

  -- it leaves no entry at a completion
  pub ends_off : (told_of old).hold.head ≡ None → StaysOff old new
  ends_off free = wait_stays_off old new q.of r.of.cell r.of.state _ _ a.went.tells.cell a.went.runs free
      (given_back new q.of o a.lands.trail) ends_over.out

  pub ends_carried : IsUp old → IsIdle old → (told_of old).hold.head ≡ None
      → Carries (wait_change (index old.view.number 0) new.at) old new
  ends_carried up idle held = carried_by old new q o a.lands a.went.keeps (ends_off held) up idle held

-- who began owing nothing
pub ends_clean : (old new : Known) (r q : Run AwaitCall) (s : AwaitStage) (o : AwaitOutcome)
    → Advances await_table old new r q s (turn.Done o) → IsClean old → IsTold old → IsClean new
ends_clean old new r q s o a clean told = clean_by old new q o a.lands a.went.keeps
    (ends_off old new r q s o a (told.head ∙ clean.free.head)) clean

-- what it says at its end
module _ (old new : Known) (r q : Run AwaitCall) (d : ℕ) (st : SleepState) (fresh : IsFreshAwait r.of d st) where
  begun : (o : AwaitOutcome) (a : Advances await_table old new r q stage.First (turn.Done o))
      → HasAwaited old new d st (answer_to_await o) (has_queued_in a.went.runs.transitions)
  begun o a = record {
    runs = record {
      transitions = a.went.runs.transitions;
      goes = subst (λ (f : Program). Goes f old (next.Go (at.Await (awaiting.Lock false))) a.went.runs.transitions new
          (next.Ends (answer_to_await o)))
          (λ i. call_program old.view.number 0 (calls.WaitFor (fresh.cell i) (fresh.state_is i))) a.went.runs.goes;
    };
    tells = refl;
    ranged = a.went.tells.ranged;
  }

  queued_is : (o : AwaitOutcome) (a : Advances await_table old new r q stage.First (turn.Done o))
      → q.of.queued ≡ has_queued_in a.went.runs.transitions
  queued_is o a = a.went.tells.queued ∙ ap (λ (b : Bool). b || has_queued_in a.went.runs.transitions) fresh.queued

  cell_is : (o : AwaitOutcome) → Advances await_table old new r q stage.First (turn.Done o) → q.of.cell ≡ d
  cell_is o a = a.went.tells.cell ∙ fresh.cell

  state_is : (o : AwaitOutcome) → Advances await_table old new r q stage.First (turn.Done o) → q.of.state ≡ st
  state_is o a = a.went.tells.state ∙ fresh.state_is

  pub ends_await : (o : AwaitOutcome) → Advances await_table old new r q stage.First (turn.Done o)
      → EndsAwait old new d st (await_end_in q.of o)
  ends_await outcome.Over a = record {
    queued = has_queued_in a.went.runs.transitions;
    awaited = begun outcome.Over a;
    cause = tt;
  }
  ends_await (outcome.Signalled found) a =
      let t : WasAwaitSignalled new q.of found = subst (λ (b : Bool). WhyStopped b new q.of found)
      (ap (λ (x : Plan). x.asked) a.same ∙ fresh.unasked) a.lands.trail.1 in record {
        queued = has_queued_in a.went.runs.transitions;
        awaited = begun (outcome.Signalled found) a;
        cause = record {
          look = t.look;
          entry = t.entry;
          showed = ap (λ (x : SleepState). pending (state_mask x) (task_of t.look))
              (sym (state_is (outcome.Signalled found) a)) ∙ t.pends;
          ends = subst (λ (c : ℕ). EndsWith new (await_left_by c (own_of new) t.look t.entry))
              (cell_is (outcome.Signalled found) a) t.ends;
          unset = refl;
          selects = λ i. queued_is (outcome.Signalled found) a i && not (t.queued i);
        };
      }
  ends_await outcome.Worn a =
      let t : FoundNoPlaceForCell new q.of = a.lands.trail.1 in record {
        queued = has_queued_in a.went.runs.transitions;
        awaited = begun outcome.Worn a;
        cause = record {
          head = ap (λ (c : ℕ). head_of (watch.Done c)) (cell_is outcome.Worn a);
          noted = t.noted;
          zero = ap (λ (c : ℕ). count_in c (history_of new)) (sym (cell_is outcome.Worn a)) ∙ t.zero;
        };
      }
