-- A `down` that hands a permit on in its last hold does not sleep in it.
use Rattle.std.proofs.Common.{refl}
use Rattle.std.specs.Prelude.{ℕ, zero, suc, ◌≡◌, Bool, true, false, Option, Some, None}
use Rattle.wait_model.specs.{declared.points.Planned.Planned, declared.points.Point.Point, declared.points.Seen.Seen}
use Rattle.wait_model.specs.{declared.queues.CalledEntry.CalledEntry, declared.tasks.SleepState.SleepState}
use Rattle.wait_model.specs.Programs.{zero_answer}
use Rattle.wait_model.specs.declared.points.Point.TheVariants as at
use Rattle.wait_model.specs.declared.points.Next.TheVariants as next
use Rattle.wait_model.specs.declared.points.SelectPoint.TheVariants as selecting
use Rattle.wait_rule.specs.Known.{Known}
use Rattle.wait_class.specs.Tables.{SleepsNot}
use Rattle.wait_class.proofs.AwakeSteps.{sleeps_not_on, sleeps_not_same}
use Rattle.wait_leave.specs.ExitLaws.{AwakeOn}
use Rattle.wait_leave.proofs.Awake.{goes_awake}
use Rattle.count_sem.specs.{DownLeaves.ClosesDown, Passes.HasPassedOn, declared.downs.DownCall.DownCall}
use Rattle.count_sem.specs.declared.downs.DownOutcome.{DownOutcome}
use Rattle.count_sem.specs.SemPrograms.{down_program, joined, pass_gives, pass_next, pass_point}
use Rattle.count_sem.specs.declared.downs.DownOutcome.TheVariants as outcome

abbrev pass_awake : Point → Bool
pass_awake (at.Select p) = true
pass_awake _ = false

abbrev joins_one : Planned → Planned
joins_one x = record { event = x.event; next = joined x.next }

next_awake : (c : ℕ) (o : Option CalledEntry) (seen : Seen) → AwakeOn pass_awake (joins_one (pass_next c o seen))
next_awake c None seen = (refl, refl)
next_awake c (Some called) seen = (refl, refl)

gives_awake : (c : ℕ) (o : Option CalledEntry) (seen : Seen) → AwakeOn pass_awake (joins_one (pass_gives c o seen))
gives_awake c None seen = (refl, refl)
gives_awake c (Some called) seen = (refl, refl)

pass_stays : (me c : ℕ) (st : SleepState) (p : Point) (seen : Seen) → pass_awake p ≡ true
    → AwakeOn pass_awake ((down_program me c st).plan p seen)
pass_stays me c st (at.Select (selecting.Next zero)) seen here = next_awake c seen.called seen
pass_stays me c st (at.Select (selecting.Next (suc n))) seen here = gives_awake c seen.called seen
pass_stays me c st (at.Select (selecting.Off n who)) seen here = (refl, refl)
pass_stays me c st (at.Select p) seen here = (refl, refl)
pass_stays me c st p seen here = absurd (cc)

passed_awake : (old new : Known) (r : DownCall) → HasPassedOn old new r → SleepsNot old new
passed_awake old new r passed = goes_awake (down_program old.view.number r.cell r.state) pass_awake
    (λ p seen here. pass_stays old.view.number r.cell r.state p seen here) old (next.Go pass_point)
    passed.runs.transitions new (next.Ends zero_answer) refl passed.runs.goes

closes_awake : (ended new : Known) (r : DownCall) (o : DownOutcome) → ClosesDown ended new r o → SleepsNot ended new
closes_awake ended new r outcome.Passing is = passed_awake ended new r is
closes_awake ended new r outcome.Over is = sleeps_not_same ended new is
closes_awake ended new r outcome.Interrupted is = sleeps_not_same ended new is
closes_awake ended new r outcome.Worn is = sleeps_not_same ended new is

pub left_awake : (old ended new : Known) (r : DownCall) (o : DownOutcome) → SleepsNot old ended
    → ClosesDown ended new r o → SleepsNot old new
left_awake old ended new r o awake is = sleeps_not_on old ended new awake (closes_awake ended new r o is)
