-- Whole waits: how they begin, and what they say at their end.
use Rattle.std.proofs.Common.{◌∙◌, ap, sym, refl, subst}
use Rattle.std.specs.Prelude.{ℕ, ◌≡◌, ◌||◌, ◌&&◌, not, Bool, false, None, [], ◌∷◌, ◌++◌}
use Rattle.wait_model.specs.{declared.tasks.How.How, declared.watches.Watch.Watch, Watches.head_of}
use Rattle.wait_model.specs.Tasks.{pending, state_mask, task_of}
use Rattle.wait_model.specs.declared.points.Next.TheVariants as next
use Rattle.wait_model.specs.declared.steps.Step.TheVariants as step
use Rattle.wait_model.specs.declared.watches.Watch.TheVariants as watch
use Rattle.wait_rule.specs.{Ends.WasWorn, Known.Known, Stays.Carries}
use Rattle.wait_rule.specs.Says.{IsClean, IsUp, told_of}
use Rattle.wait_rule.specs.Queues.{IsIdle, IsTold, index}
use Rattle.wait_rule.specs.Transitions.{Goes, Program, call_program}
use Rattle.wait_event.specs.{WaitPlans.call_for, declared.waits.WaitOutcome.WaitOutcome}
use Rattle.wait_event.specs.{declared.waits.WaitCall.WaitCall, declared.waits.WaitStage.WaitStage}
use Rattle.wait_event.specs.Waits.{IsFreshWait, IsRunningWait, IsUnset, LeftQueue, LeftSo, SameCall, answer_to_wait}
use Rattle.wait_event.specs.Waits.{last_load, wait_left_by, wait_end_post, wait_point_at, has_queued_in, wait_table}
use Rattle.wait_event.specs.Ends.{EndsWait, FoundNoPlace, HasWaitedFor, WasSignalled, wait_end_in, wait_change}
use Rattle.wait_class.specs.Posts.{EndsWith, own_of, IsOut, Keeps}
use Rattle.wait_class.specs.declared.stages.Run.{Run}
use Rattle.wait_class.specs.Tables.{Advances, IsAt, IsEnded, Plan}
use Rattle.wait_event.specs.declared.waits.WaitOutcome.TheVariants as outcome
use Rattle.wait_event.specs.declared.waits.WaitStage.TheVariants as stage
use Rattle.wait_class.specs.declared.stages.Turn.TheVariants as turn
use Rattle.wait_class.proofs.Wholes.{begins}
use Rattle.wait_event.proofs.Behind.{IsBehind, StandsOver, behind_at, carried_behind, clean_behind, over_behind, owes_behind}
use Rattle.wait_event.proofs.Plans.{program_is}

-- a task that is idle, with its entry off, may begin
pub begins_at : (k : Known) (r : Run WaitCall) → IsRunningWait r.of → IsTold k → IsUp k → IsIdle k → IsOut k
    → IsAt wait_table k r stage.First
begins_at k r runs = begins wait_table k r stage.First runs refl refl refl refl tt

-- how a task stands whose wait has ended, whatever way it came there
module _ (old new : Known) (q : Run WaitCall) (o : WaitOutcome) (over : IsEnded wait_table new q o)
    (keeps : Keeps (index old.view.number 0) old new) where
  pub wait_behind : IsBehind (λ x. x) old new
  wait_behind = behind_at (wait_end_post q.of o) (record { head = refl; ticket = refl; stirs = refl; zone = refl }) old new
      over.up over.stands keeps

module _ (old new : Known) (r q : Run WaitCall) (s : WaitStage) (o : WaitOutcome)
    (a : Advances wait_table old new r q s (turn.Done o)) where
  ended : IsBehind (λ x. x) old new
  ended = wait_behind old new q o a.lands a.went.keeps

  pub ends_over : StandsOver old new
  ends_over = over_behind old new ended

  pub ends_carried : IsUp old → IsIdle old → (told_of old).hold.head ≡ None
      → Carries (wait_change (index old.view.number 0) new.at) old new
  ends_carried = carried_behind old new ended (owes_behind old new ended)

pub ends_clean : (old new : Known) (r q : Run WaitCall) (s : WaitStage) (o : WaitOutcome)
    → Advances wait_table old new r q s (turn.Done o) → IsClean old → IsTold old → IsClean new
ends_clean old new r q s o a clean told =
    clean_behind old new (ended old new r q s o a) (owes_behind old new (ended old new r q s o a)) clean

-- what it says at its end
module _ (old new : Known) (r q : Run WaitCall) (w : Watch) (how : How) (fresh : IsFreshWait r.of w how)
    (runs : IsRunningWait r.of) where
  abbrev pub begun : (s : WaitStage) (o : WaitOutcome) (a : Advances wait_table old new r q s (turn.Done o))
      → HasWaitedFor old new w how (next.Go (wait_point_at s)) (next.Ends (answer_to_wait o)) (has_queued_in a.went.runs.transitions)
  begun s o a = record {
    runs = record {
      transitions = a.went.runs.transitions;
      goes = subst (λ (f : Program). Goes f old (next.Go (wait_point_at s)) a.went.runs.transitions new
          (next.Ends (answer_to_wait o)))
          (program_is old.view.number r.of.watch r.of.how runs.suits
          ∙ (λ i. call_program old.view.number 0 (call_for (fresh.watch_is i) (fresh.how_is i)))) a.went.runs.goes;
    };
    tells = refl;
  }

  queued_is : (s : WaitStage) (o : WaitOutcome) (a : Advances wait_table old new r q s (turn.Done o))
      → q.of.queued ≡ has_queued_in a.went.runs.transitions
  queued_is s o a = a.went.tells.queued ∙ ap (λ (b : Bool). b || has_queued_in a.went.runs.transitions) fresh.queued

  same_watch : SameCall r.of q.of → q.of.watch ≡ w
  same_watch same = same.watch_is ∙ fresh.watch_is

  how_is : SameCall r.of q.of → q.of.how ≡ how
  how_is same = same.how ∙ fresh.how_is

  -- it was not asked to leave
  signal_left : (found : Bool) → Advances wait_table old new r q stage.First (turn.Done (outcome.Signalled found))
      → LeftSo q.of.asked new q.of found (last_load q.of) → LeftQueue new q.of found (last_load q.of)
  signal_left found a = subst (λ (b : Bool). LeftSo b new q.of found (last_load q.of)
      → LeftQueue new q.of found (last_load q.of)) (sym (ap (λ (p : Plan). p.asked) a.same ∙ fresh.unasked)) (λ l. l)

  -- it was signalled, and it found no place
  pub was_signalled : (found : Bool) (a : Advances wait_table old new r q stage.First (turn.Done (outcome.Signalled found)))
      → (selected : Bool) → selected ≡ (q.of.queued && not found)
      → WasSignalled new w how q.of.seen selected (has_queued_in a.went.runs.transitions)
  was_signalled found a selected tells =
      let t : LeftQueue new q.of found (last_load q.of) × IsUnset q.of.watch q.of.seen
      = (signal_left found a a.lands.trail.0, a.lands.trail.1) in record {
        look = t.0.look;
        entry = t.0.entry;
        showed = ap (λ (h : How). pending (state_mask h.state) (task_of t.0.look)) (sym (how_is a.went.tells.same))
            ∙ t.0.showed;
        ends = subst (λ (u : Watch). EndsWith new (wait_left_by (own_of new) (head_of u) t.0.look t.0.entry
            ++ step.Load u q.of.seen ∷ [])) (same_watch a.went.tells.same) t.0.ends;
        unset = subst (λ (u : Watch). IsUnset u q.of.seen) (same_watch a.went.tells.same) t.1;
        selects = tells ∙ (λ i. queued_is stage.First (outcome.Signalled found) a i && not (t.0.found i));
      }

  pub found_worn : (a : Advances wait_table old new r q stage.First (turn.Done outcome.Worn)) → (h : ℕ)
      → h ≡ head_of q.of.watch → FoundNoPlace new w h q.of.place
  found_worn a h here =
      let t = a.lands.trail in record {
        head = here ∙ ap head_of (same_watch a.went.tells.same);
        noted = subst (λ (i : ℕ). WasWorn new.view.number new.view.items i q.of.place) (sym here) t.0.noted;
        seen = q.of.seen;
        ends = subst (λ (i : ℕ). EndsWith new (step.Unlock i false ∷ step.Load w q.of.seen ∷ [])) (sym here)
            (subst (λ (u : Watch). EndsWith new (step.Unlock (head_of q.of.watch) false ∷ step.Load u q.of.seen ∷ []))
            (same_watch a.went.tells.same) t.0.ends);
        unset = subst (λ (u : Watch). IsUnset u q.of.seen) (same_watch a.went.tells.same) t.1;
      }

-- for a plain condition
module _ (old new : Known) (r q : Run WaitCall) (c : ℕ) (how : How) (fresh : IsFreshWait r.of (watch.Plain c) how)
    (runs : IsRunningWait r.of) where
  pub ends_wait : (o : WaitOutcome) → Advances wait_table old new r q stage.First (turn.Done o)
      → EndsWait old new c how (wait_end_in q.of o)
  ends_wait outcome.Over a = record {
    queued = has_queued_in a.went.runs.transitions;
    waited = begun old new r q (watch.Plain c) how fresh runs stage.First outcome.Over a;
    cause = tt;
  }
  ends_wait (outcome.Signalled found) a = record {
    queued = has_queued_in a.went.runs.transitions;
    waited = begun old new r q (watch.Plain c) how fresh runs stage.First (outcome.Signalled found) a;
    cause = was_signalled old new r q (watch.Plain c) how fresh runs found a (q.of.queued && not found) refl;
  }
  ends_wait outcome.Worn a = record {
    queued = has_queued_in a.went.runs.transitions;
    waited = begun old new r q (watch.Plain c) how fresh runs stage.First outcome.Worn a;
    cause = found_worn old new r q (watch.Plain c) how fresh runs a (head_of q.of.watch) refl;
  }
