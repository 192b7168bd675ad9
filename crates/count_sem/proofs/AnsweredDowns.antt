-- What a `down` takes, by its answer.
use Rattle.std.proofs.Common.{refl, subst, arith, inl, inr}
use Rattle.std.specs.Prelude.{ℕ, false, Result, Ok, Err}
use Rattle.wait_model.specs.declared.points.AwaitPoint.TheVariants as awaiting
use Rattle.wait_model.specs.{declared.points.Next.Next, declared.tasks.SleepState.SleepState}
use Rattle.wait_model.specs.declared.points.Next.TheVariants as next
use Rattle.wait_model.specs.declared.points.Point.TheVariants as at
use Rattle.wait_rule.specs.{Known.Known, LeftEntries.Order, Says.history_of, Transitions.Program}
use Rattle.wait_rule.proofs.KnownLaws.HandedSteps.{order_front}
use Rattle.wait_rule.proofs.SaidEvents.Fronts.{history_grows, number_stays}
use Rattle.wait_class.specs.Posts.{Runs}
use Rattle.count_sem.specs.{declared.down_calls.SemEnd.SemEnd, DownEnds.end_answer, SemAnswers.DownCounts}
use Rattle.count_sem.specs.{SemAnswers.DownsAreCounted, SemPrograms.down_program}
use Rattle.count_sem.specs.SemPermits.{FindsNoEnd, permits_given, permits_taken}
use Rattle.count_sem.specs.declared.down_calls.SemEnd.TheVariants as sem_end
use Rattle.count_sem.proofs.{AnswerRuns.run_holds, DownEvents.down_points, DownPermits.DownPlace}
use Rattle.count_sem.proofs.DownPermits.{down_looks}

-- what a run of the program makes of the account
pub run_counts : (c me g t : ℕ) (st : SleepState) (old new : Known) (from to : Next)
    → Runs (down_program me c st) old new from to → Order me (history_of new)
    → DownPlace c me g t from (history_of old) → DownPlace c me g t to (history_of new)
run_counts c me g t st old new from to runs order q = run_holds me (down_program me c st) (DownPlace c me g t)
    (down_looks c me g t st) (down_points c me g t st) runs.transitions from to old new runs.goes order q

-- the order before a run
pub order_before : (me : ℕ) (f : Program) (old new : Known) (from to : Next) → Runs f old new from to
    → Order me (history_of new) → Order me (history_of old)
order_before me f old new from to runs order =
    let grows = history_grows f old new from to runs.transitions runs.goes in
    order_front me (history_of old) grows.0 (subst (Order me) grows.1 order)

module _ (old new : Known) (c : ℕ) (never : FindsNoEnd c (history_of new)) where
  abbrev me : ℕ
  me = old.view.number

  abbrev gave : ℕ
  gave = permits_given c me (history_of old)

  abbrev took : ℕ
  took = permits_taken c me (history_of old)

  pub counts_by : (r : Result (Unit {0}) SemEnd) → DownPlace c me gave took (next.Ends (end_answer r)) (history_of new)
      → DownCounts old new c r
  counts_by r (inr l) = absurd (l.many (never l.count l.front l.rest l.is))
  counts_by (Ok u) (inl q) = (q.0, q.1, record { gave = q.3.gave; took = q.3.took })
  counts_by (Err sem_end.Interrupted) (inl q) = record {
    gave = let one = q.1.gave in omega (arith, one);
    took = let two = q.1.took in omega (arith, two);
  }
  counts_by (Err (sem_end.Worn h place)) (inl q) = record {
    gave = let one = q.1.gave in omega (arith, one);
    took = let two = q.1.took in omega (arith, two);
  }

pub downs_counted : DownsAreCounted
downs_counted old new c st result o left never ends =
    let me = old.view.number in
    let f = down_program me c st in
    let from = next.Go (at.Await (awaiting.Lock false)) in
    let to = next.Ends (end_answer result) in
    let number = number_stays f old new from to ends.runs.transitions ends.runs.goes in
    let order : Order me (history_of new) = subst (λ (n : ℕ). Order n (history_of new)) number o in
    counts_by old new c never result
    (run_counts c me (permits_given c me (history_of old)) (permits_taken c me (history_of old)) st old new from to
    ends.runs
    order (inl (left (order_before me f old new from to ends.runs order), record { gave = refl; took = refl })))
