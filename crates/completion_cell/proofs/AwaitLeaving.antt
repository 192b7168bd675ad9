-- A wait for a completion that its task leaves.
use Rattle.std.proofs.Common.{◌∙◌, ap, append-nil, sym, refl, subst, inl, inr}
use Rattle.std.proofs.lemmas.Bool.Decides.{eqb_tells}
use Rattle.std.specs.Prelude.{ℕ, ◌≡◌, ◌≢◌, ◌⊎◌, ◌&&◌, ◌==◌, not, Bool, true, false, is_some, None}
use Rattle.std.specs.Prelude.{Result, [], ◌∷◌}
use Rattle.wait_model.specs.declared.points.AwaitPoint.TheVariants as awaiting
use Rattle.wait_model.specs.{declared.points.Point.Point, declared.points.Seen.Seen}
use Rattle.wait_model.specs.{declared.tasks.SleepState.SleepState, declared.watches.Watch.Watch, Programs.is_at_end}
use Rattle.wait_model.specs.declared.points.Point.TheVariants as at
use Rattle.wait_model.specs.declared.steps.Step.TheVariants as step
use Rattle.wait_model.specs.declared.watches.Watch.TheVariants as watch
use Rattle.wait_rule.specs.{HandedPermits.StaysOff, Known.Known, LeftEntries.LeftOff, Queues.IsIdle, Queues.index}
use Rattle.wait_rule.specs.Stays.{Carries}
use Rattle.wait_rule.specs.Says.{IsClean, IsUp, history_of, told_of}
use Rattle.wait_rule.proofs.{KnownLaws.OtherCalls.Adding, KnownLaws.TaskHistories.history_after}
use Rattle.wait_class.specs.{Posts.own_of, declared.stages.Run.Run, declared.stages.Turn.Turn, Tables.IsEnded}
use Rattle.wait_class.specs.{Tables.Plan, Wholes.HasRested}
use Rattle.wait_class.specs.declared.stages.Doing.TheVariants as doing
use Rattle.wait_class.specs.declared.stages.Turn.TheVariants as turn
use Rattle.wait_class.proofs.Histories.{unmoved_by}
use Rattle.wait_event.specs.{Ends.wait_change, declared.wait_events.WaitEnd.WaitEnd}
use Rattle.wait_event.proofs.Behind.{StandsOver}
use Rattle.wait_leave.specs.{declared.exits.Until.Until, ExitLaws.AreLawfulExits, ExitLaws.AwakeOn, Leaves.with_asked}
use Rattle.wait_leave.specs.{OnTheWay.IsOnWay, OnTheWay.OnTheWay}
use Rattle.wait_leave.proofs.ExitForms.{AskLaw, LawAt, either_awake, if_asked, lawful_exits, out_at_once, out_rested}
use Rattle.wait_leave.proofs.Ways.{way_asked, way_keeps, way_lands, way_makes, way_plan}
use Rattle.completion_cell.specs.{HeldPermits.Knows, declared.awaits.AwaitCall.AwaitCall}
use Rattle.completion_cell.specs.{declared.awaits.AwaitOutcome.AwaitOutcome, declared.awaits.AwaitStage.AwaitStage}
use Rattle.completion_cell.specs.AwaitLeaves.{EndsAwaitUntil, IsAwaitLeftFor, IsAwaitUntil, LeavesAwait, await_exit}
use Rattle.completion_cell.specs.AwaitLeaves.{await_exits, await_stopped, await_until, leave_awake}
use Rattle.completion_cell.specs.Awaits.{CellKeeps, IsFreshAwait, LeavesFor, AwaitTrailEnd, WhyStopped, await_table}
use Rattle.completion_cell.specs.declared.awaits.AwaitOutcome.TheVariants as outcome
use Rattle.completion_cell.specs.declared.awaits.AwaitStage.TheVariants as stage
use Rattle.completion_cell.proofs.{AwaitLaws.await_lawful, AwaitTrails.still_by}
use Rattle.completion_cell.proofs.Endings.{carried_by, clean_by, given_back, over_by}
use Rattle.completion_cell.proofs.OtherCells.{IsAside, aside_on, aside_stays, given_off, wait_adds}

-- the exits: out of a hold that has loaded 0; before its sleep it stores RUNNING
asks_law : AskLaw await_table await_exits
asks_law = record { same = λ r. refl; fits = λ r f. f }

out_trail : (r : AwaitCall) (k : Known) → Knows k r.cell 0 → LeavesFor true k (await_exits.asks r) []
out_trail r k u = (u, (history_of k, sym (append-nil (history_of k))))

exit_law : (r : AwaitCall) (s : AwaitStage) → LawAt await_table await_exits r s
exit_law r stage.Look = out_at_once asks_law refl refl (λ σ s. s) (λ o h. h)
    (λ old new calm u. out_trail r new (still_by old new (unmoved_by old new calm) r stage.Look u).0)
exit_law r stage.Queue = out_at_once asks_law refl refl (λ σ s. s) (λ o h. h)
    (λ old new calm u. out_trail r new (still_by old new (unmoved_by old new calm) r stage.Queue u))
exit_law r stage.Sleep = out_rested asks_law refl refl refl (λ o h. h) (λ old new calm u. tt)
exit_law r s = tt

-- the program sleeps no more from there on
awake_on : (r : AwaitCall) (me : ℕ) (p : Point) (seen : Seen) → leave_awake p ≡ true
    → AwakeOn leave_awake ((await_table.plan_of r).makes me p seen)
awake_on r me (at.Await (awaiting.Run true)) seen is = (refl, refl)
awake_on r me (at.Await (awaiting.Run false)) seen is = (refl, refl)
awake_on r me (at.Await (awaiting.Off true)) seen is = either_awake leave_awake (is_some seen.entry) _ _ (refl, refl)
    (refl, refl)
awake_on r me (at.Await (awaiting.Off false)) seen is = either_awake leave_awake (is_some seen.entry) _ _ (refl, refl)
    (either_awake leave_awake (is_at_end seen.value) _ _ (refl, refl) (refl, refl))
awake_on r me (at.Await (awaiting.Last true)) seen is = (refl, refl)
awake_on r me (at.Await (awaiting.Last false)) seen is =
    either_awake leave_awake (is_at_end seen.value) _ _ (refl, refl) (refl, refl)
awake_on r me (at.Await awaiting.Unlock) seen is = (refl, refl)
awake_on r me p seen is = absurd (cc)

sleeps_out : (r : AwaitCall) (s : AwaitStage) → await_table.doing s ≡ doing.Sleep → await_exit s ≡ None → ⊥
sleeps_out r stage.Sleep here none = absurd (cc)
sleeps_out r s here none = absurd (cc)

pub await_may_leave : AreLawfulExits await_table await_exits
await_may_leave = lawful_exits await_table await_exits exit_law sleeps_out awake_on

-- the answer and its cause
stopped_cause : (k : Known) (e : AwaitCall) (found b : Bool) → WhyStopped b k e found
    → IsAwaitUntil k e.cell e.state e.queued (await_stopped b e found)
stopped_cause k e found true x = record { found = found; was = x; unset = refl }
stopped_cause k e found false x = record {
  look = x.look;
  entry = x.entry;
  showed = x.pends;
  ends = x.ends;
  unset = refl;
  selects = λ i. e.queued && not (x.queued i);
}

cause_of : (k : Known) (e : AwaitCall) (o : AwaitOutcome) → AwaitTrailEnd k e o
    → IsAwaitUntil k e.cell e.state e.queued (await_until e o)
cause_of k e outcome.Over x = tt
cause_of k e (outcome.Signalled found) x = stopped_cause k e found e.asked x.1
cause_of k e outcome.Worn x = record { head = refl; noted = x.1.noted; zero = x.1.zero }

abbrev CauseFor : Known → Plan → Bool → Until (Result (Unit {0}) WaitEnd) → Type 0
CauseFor k p queued x = CauseAt p.watch
  where
    CauseAt : Watch → Type 0
    CauseAt (watch.Done d) = IsAwaitUntil k d p.state queued x
    CauseAt _ = ⊥

left_for : (A : Type 0) (e : AwaitCall) (o : AwaitOutcome) → (e.asked ≡ true → A) → IsAwaitLeftFor A (await_until e o)
left_for A e outcome.Over asked = tt
left_for A e (outcome.Signalled found) asked =
    if_asked (λ b. IsAwaitLeftFor A (await_stopped b e found)) e.asked asked tt
left_for A e outcome.Worn asked = tt

abbrev pub cell_in : Watch → ℕ
cell_in (watch.Done d) = d
cell_in _ = 0

-- what a rest and a program queue: nothing at another completion
pub rest_adds : (c : ℕ) (old new : Known) (b : Bool) → HasRested old new b → Adding (IsAside c) old new
rest_adds c old new false is = record {
  made = [];
  is = ap history_of is ∙ sym (append-nil (history_of old));
  adds = tt;
  number = ap (λ (k : Known). k.view.number) is;
}
rest_adds c old new true is = record {
  made = step.State 0 ∷ [];
  is = history_after old new (step.State 0) is;
  adds = (tt, tt);
  number = ap (λ (k : Known). k.view.number) is;
}

way_adds : (A : Type 0) (old : Known) (r : Run AwaitCall) (s : AwaitStage) (c : ℕ) → c ≢ r.of.cell → (new : Known)
    (q : Run AwaitCall) (u : Turn AwaitStage AwaitOutcome) → OnTheWay A await_table await_exits old r s new q u
    → Adding (IsAside c) old new
way_adds A old r s c ne = way_makes A await_table await_exits await_may_leave await_lawful old r s (Adding (IsAside c))
    (aside_on c) (rest_adds c) (λ k new m q n u same a.
    wait_adds c m.of.cell m.of.state (λ is. ne (is ∙ ap (λ (p : Plan). cell_in p.watch) same)) k new _ _ a.went.runs)

module _ (A : Type 0) (old new : Known) (r q : Run AwaitCall) (s : AwaitStage) (o : AwaitOutcome)
    (w : OnTheWay A await_table await_exits old r s new q (turn.Done o)) where
  lands : IsEnded await_table new q o
  lands = way_lands A await_table await_exits await_may_leave await_lawful old r s new q (turn.Done o) w

  pub left_kept : CellKeeps (own_of old) old new
  left_kept = way_keeps A await_table await_exits await_may_leave await_lawful old r s new q (turn.Done o) w

  same_plan : with_asked false (await_table.plan_of q.of) ≡ with_asked false (await_table.plan_of r.of)
  same_plan = way_plan A await_table await_exits await_may_leave await_lawful old r s new q (turn.Done o) w

  pub left_over : StandsOver old new
  left_over = over_by old new q o lands left_kept

  pub left_up : IsUp new
  left_up = lands.up

  pub left_idle : (told_of old).mark ≡ None → IsIdle new
  left_idle = left_over.idle

  pub left_here : LeftOff r.of.cell new
  left_here = subst (λ (d : ℕ). LeftOff d new) (ap (λ (p : Plan). cell_in p.watch) same_plan)
      (given_off new q.of (given_back new q.of o lands.trail) left_over.out)

  pub left_off : (told_of old).hold.head ≡ None → StaysOff old new
  left_off free c left = by (eqb_tells c r.of.cell)
    where
      by : (((c == r.of.cell) ≡ true) × (c ≡ r.of.cell)) ⊎ (((c == r.of.cell) ≡ false) × (c ≢ r.of.cell))
          → LeftOff c new
      by (inl e) = subst (λ (d : ℕ). LeftOff d new) (sym e.1) left_here
      by (inr e) = aside_stays c old new (way_adds A old r s c e.1 new q (turn.Done o) w) free left

  pub left_carried : IsUp old → IsIdle old → (told_of old).hold.head ≡ None
      → Carries (wait_change (index old.view.number 0) new.at) old new
  left_carried up idle held = carried_by old new q o lands left_kept (left_off held) up idle held

  pub left_clean : IsClean old → (told_of old).hold.head ≡ None → IsClean new
  left_clean clean held = clean_by old new q o lands left_kept (left_off held) clean

  pub leaves_await : LeavesAwait A old new r s (await_until q.of o)
  leaves_await = record {
    at = q;
    outcome = o;
    came = w;
    answer = refl;
    cause = subst (λ (p : Plan). CauseFor new p q.of.queued (await_until q.of o)) same_plan
        (cause_of new q.of o lands.trail);
  }

  pub left_asked : r.of.asked ≡ false → IsAwaitLeftFor A (await_until q.of o)
  left_asked unasked = left_for A q.of o
      (way_asked A await_table await_exits await_may_leave await_lawful old r s new q (turn.Done o) w unasked)

-- a whole call
pub ends_until : (A : Type 0) (old new : Known) (r q : Run AwaitCall) (d : ℕ) (st : SleepState) → IsFreshAwait r.of d st
    → (o : AwaitOutcome) → OnTheWay A await_table await_exits old r stage.First new q (turn.Done o)
    → EndsAwaitUntil A old new d st (await_until q.of o)
ends_until A old new r q d st fresh o w = record {
  first = r;
  fresh = fresh;
  leaves = leaves_await A old new r q stage.First o w;
  asked = left_asked A old new r q stage.First o w fresh.unasked;
}

-- of a call that went on by stretches, and whose task owed nothing
pub way_clean : (A : Type 0) (c : Plan) (k : Known) (q : Run AwaitCall) (o : AwaitOutcome)
    → IsOnWay A await_table await_exits c k q (turn.Done o) → IsClean k
way_clean A c k q o i = left_clean A i.old k i.began q i.start o i.came i.clean (i.told.head ∙ i.clean.free.head)
