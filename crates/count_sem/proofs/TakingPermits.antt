-- A permit is taken where one is there, in one hold.
use Rattle.std.proofs.Common.{◌∙◌, ap, sym, refl, subst, append_assoc}
use Rattle.std.specs.Prelude.{ℕ, ◌≡◌, ◌-◌, ◌==◌, not, Bool, false, Some, None, List, [], ◌∷◌, ◌++◌}
use Rattle.std.specs.Prelude.{MatchBool}
use Rattle.wait_model.specs.declared.calls.Call.TheVariants as calls
use Rattle.wait_model.specs.declared.points.CountPoint.TheVariants as counting
use Rattle.wait_model.specs.declared.points.Next.TheVariants as next
use Rattle.wait_model.specs.declared.points.Point.TheVariants as at
use Rattle.wait_model.specs.{declared.steps.Step.Step, Programs.count_after, Watches.head_of}
use Rattle.wait_model.specs.declared.steps.Step.TheVariants as step
use Rattle.wait_model.specs.declared.watches.Watch.TheVariants as watch
use Rattle.wait_rule.specs.declared.journal.Item.TheVariants as item
use Rattle.wait_rule.specs.{Counts.FindsCount, Counts.StoresCount, HandedPermits.OwesNoPermit, HandedPermits.StaysOff}
use Rattle.wait_rule.specs.{Known.Known, LeftEntries.LeftOff, Queues.IsTold, Queues.walk_of_hold}
use Rattle.wait_rule.specs.Transitions.{call_program}
use Rattle.wait_rule.specs.Says.{IsFree, added, history_of, unlocked_with}
use Rattle.wait_rule.specs.Stays.{Carries, lock_change, unchanged, unlock_change}
use Rattle.wait_rule.proofs.{KnownLaws.CarriedTasks.unchanged_on, KnownLaws.TaskHistories.history_after}
use Rattle.wq_head.specs.Holds.{HasLocked, IsHolding}
use Rattle.wait_event.specs.Entries.{hold_change}
use Rattle.wait_class.specs.Posts.{Runs}
use Rattle.wait_class.proofs.{Ground.Going.runs_on, Histories.unlocked_history}
use Rattle.completion_cell.specs.Asks.{HasCountedDone, TakesOne, hit_answer}
use Rattle.completion_cell.proofs.{CallPermits.try_hold, Completing.count_agreed}
use Rattle.completion_cell.proofs.Asking.{locked_history, none_held, steps_on, take_carried, take_history, take_runs}
use Rattle.completion_cell.proofs.Asking.{counted_after, whole_carried}
use Rattle.completion_cell.proofs.Ground.{count_loads, count_locks, count_unlocks, holding_on}
use Rattle.completion_cell.proofs.Permits.{MayEndHold, ends_off, ends_owing_none}
use Rattle.count_sem.specs.Ups.{HasTakenPermit}

-- what a try says
pub record PermitTried (old new : Known) (d : ℕ) (hit : Bool) : Type 0 where
  pub tried : HasTakenPermit old new d hit
  pub carries : Carries (hold_change new.at) old new
  pub off : StaysOff old new

module _ (d n h : ℕ) (old a b : Known) (same : h ≡ head_of (watch.Done d)) (free : IsFree old) (told : IsTold old)
    (l : HasLocked old a h (walk_of_hold h None)) (lock : Carries (lock_change h) old a) (held : IsHolding a)
    (is : b ≡ added a (item.Made (step.Load (watch.Done d) n))) (finds : FindsCount a d n)
    (loaded : Carries unchanged a b) where
  pub permit_counted : HasCountedDone b d n
  permit_counted = counted_after d n a b (ap (λ (k : Known). k.book.head) l.is ∙ ap Some same) is finds loaded

  module _ (c : Known) (took : Bool) (takes : TakesOne n took)
      (made : MatchBool took (StoresCount b c d (n - 1)) (c ≡ b)) where
    carries : Carries unchanged a c
    carries = unchanged_on a b c loaded (take_carried b c d n permit_counted took takes made)

    pub permit_holds : IsHolding c
    permit_holds = holding_on a c carries.head carries.hold carries.at
        (count_agreed b c d (n - 1) took made ∙ ap (λ (k : Known). k.book.differs) is) held

    may : MayEndHold d old c
    may = try_hold old a b c d n h same (none_held old told free) l lock is loaded permit_counted took made

    pub permit_owes : LeftOff d old → OwesNoPermit c
    permit_owes left = ends_owing_none d old c may left

    module _ (new : Known) (gave : new ≡ unlocked_with c c.at false) where
      permit_carried : Carries unlock_change c new → Carries (hold_change new.at) old new
      permit_carried back = whole_carried old a c new free (none_held old told free) h lock carries back

      locked : HasLocked old a (head_of (watch.Done d)) (walk_of_hold (head_of (watch.Done d)) None)
      locked = subst (λ (i : ℕ). HasLocked old a i (walk_of_hold i None)) same l

      at_c : c.at ≡ head_of (watch.Done d)
      at_c = carries.at ∙ (ap (λ (k : Known). k.at) l.is ∙ same)

      abbrev rest : List Step
      rest = (take_history b c d n permit_counted took takes made).0 ++ step.Unlock c.at false ∷ []

      after_lock : history_of new ≡ history_of a ++ step.Load (watch.Done d) n ∷ rest
      after_lock =
          let t = take_history b c d n permit_counted took takes made in
          unlocked_history c new gave
          ∙ (ap (λ (es : List Step). es ++ step.Unlock c.at false ∷ []) t.1
          ∙ (append_assoc (history_of b) t.0 (step.Unlock c.at false ∷ [])
          ∙ (ap (λ (es : List Step). es ++ rest) (history_after a b (step.Load (watch.Done d) n) is)
          ∙ append_assoc (history_of a) (step.Load (watch.Done d) n ∷ []) rest)))

      has_taken_permit : (hit : Bool) → hit ≡ not (n == 0) → HasTakenPermit old new d hit
      has_taken_permit hit tells =
          let me = old.view.number in
          let f = call_program me 0 (calls.TryWait d) in
          let over = next.Ends (hit_answer (not (n == 0))) in
          let runs : Runs f old new (next.Go (at.Count counting.Lock)) over =
          runs_on f old a new (next.Go (at.Count counting.Lock)) (next.Go (at.Count counting.Load)) over
          (count_locks me (calls.TryWait d) d refl old a locked)
          (runs_on f a b new (next.Go (at.Count counting.Load)) (next.Go (at.Count (count_after n))) over
          (count_loads me (calls.TryWait d) d refl a b n is)
          (runs_on f b c new (next.Go (at.Count (count_after n))) (next.Go (at.Count (counting.Unlock (not (n == 0)))))
          over
          (subst (λ (m : ℕ). Runs (call_program m 0 (calls.TryWait d)) b c (next.Go (at.Count (count_after n)))
          (next.Go (at.Count (counting.Unlock (not (n == 0)))))) (loaded.number ∙ lock.number)
          (take_runs b c d n permit_counted took takes made))
          (count_unlocks me (calls.TryWait d) d refl (not (n == 0)) c new at_c gave))) in record {
            runs = subst (λ (b : Bool). Runs f old new (next.Go (at.Count counting.Lock)) (next.Ends (hit_answer b)))
                (sym tells) runs;
            count = n;
            decides = (
              walk_of_hold (head_of (watch.Done d)) None,
              locked.found,
              rest,
              steps_on old a new _ (step.Load (watch.Done d) n ∷ rest)
                  (locked_history old a (head_of (watch.Done d)) locked) after_lock,
            );
            tells = tells;
          }

      pub permit_ends : Carries unlock_change c new → (hit : Bool) → hit ≡ not (n == 0) → PermitTried old new d hit
      permit_ends back hit tells = record {
        tried = has_taken_permit hit tells;
        carries = permit_carried back;
        off = ends_off d old c new false may gave;
      }
