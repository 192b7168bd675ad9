-- A `down` that its task leaves; one that nobody asked to leave is such a one.
use Rattle.std.proofs.Common.{◌∙◌, ap, sym, refl, subst}
use Rattle.std.specs.Prelude.{ℕ, ◌≡◌, ◌≢◌, Bool, true, false, is_some, None, Result, List}
use Rattle.std.specs.Prelude.{[]}
use Rattle.wait_model.specs.declared.points.FinishPoint.TheVariants as finishing
use Rattle.wait_model.specs.{declared.points.Point.Point, declared.points.Seen.Seen, declared.steps.Step.Step}
use Rattle.wait_model.specs.{declared.tasks.SleepState.SleepState, declared.watches.Watch.Watch}
use Rattle.wait_model.specs.declared.points.Point.TheVariants as at
use Rattle.wait_model.specs.declared.watches.Watch.TheVariants as watch
use Rattle.wait_rule.specs.{HandedPermits.StaysOff, Known.Known, LeftEntries.LeftOff, Queues.IsIdle, Queues.index}
use Rattle.wait_rule.specs.Stays.{Carries}
use Rattle.wait_rule.specs.Says.{IsClean, IsUp, told_of}
use Rattle.wait_rule.proofs.KnownLaws.OtherCalls.{Adding}
use Rattle.wait_class.specs.{Posts.IsOut, Posts.own_of, declared.stages.Run.Run, declared.stages.Turn.Turn}
use Rattle.wait_class.specs.{Tables.IsEnded, Tables.Plan}
use Rattle.wait_class.specs.declared.stages.Doing.TheVariants as doing
use Rattle.wait_class.specs.declared.stages.Turn.TheVariants as turn
use Rattle.wait_class.proofs.Histories.{unmoved_by}
use Rattle.wait_event.specs.Ends.{wait_change}
use Rattle.wait_leave.specs.{declared.exits.Until.Until, ExitLaws.AreLawfulExits, ExitLaws.AwakeOn, Leaves.with_asked}
use Rattle.wait_leave.specs.{OnTheWay.IsOnWay, OnTheWay.OnTheWay}
use Rattle.wait_leave.proofs.ExitForms.{AskLaw, LawAt, either_awake, if_asked, lawful_exits, out_at_once, out_rested}
use Rattle.wait_leave.proofs.Ways.{way_asked, way_keeps, way_lands, way_makes, way_plan}
use Rattle.completion_cell.proofs.AwaitLeaving.{cell_in, rest_adds}
use Rattle.completion_cell.proofs.OtherCells.{IsAside, aside_on}
use Rattle.count_sem.specs.{declared.down_calls.SemEnd.SemEnd, declared.downs.DownCall.DownCall}
use Rattle.count_sem.specs.{declared.downs.DownOutcome.DownOutcome, declared.downs.DownStage.DownStage}
use Rattle.count_sem.specs.DownLeaves.{ClosesDown, EndsDownUntil, IsDownLeftFor, IsDownUntil, LeavesDown, down_exit}
use Rattle.count_sem.specs.DownLeaves.{down_exits, end_until, out_awake, stopped_until}
use Rattle.count_sem.specs.Downs.{DownKeeps, DownTrailEnd, FoundZero, GaveBack, IsFreshDown, OutFor, down_table}
use Rattle.count_sem.specs.Downs.{left_queue, looked_by}
use Rattle.count_sem.specs.declared.downs.DownOutcome.TheVariants as outcome
use Rattle.count_sem.specs.declared.downs.DownStage.TheVariants as stage
use Rattle.count_sem.proofs.{DownLaws.down_lawful, DownTrails.still_down}
use Rattle.count_sem.proofs.DownEndings.{StandsBehind, behind_carried, behind_clean, behind_idle, down_adds, part_runs}
use Rattle.count_sem.proofs.DownEndings.{plain_behind, stays_off_by}
use Rattle.count_sem.proofs.DownPasses.{given_by, passed_adds, passed_behind, passed_here}

-- what it has found stays where it is asked
asked_zero : (k : Known) (r : DownCall) (more : List Step) → FoundZero k r more → FoundZero k (down_exits.asks r) more
asked_zero k r more u = record { word = u.word; ends = u.ends; stood = u.stood }

-- the exits: out of a hold that has loaded 0; before its sleep it stores RUNNING
asks_law : AskLaw down_table down_exits
asks_law = record { same = λ r. refl; fits = λ r f. f }

exit_law : (r : DownCall) (s : DownStage) → LawAt down_table down_exits r s
exit_law r stage.Look = out_at_once asks_law refl refl (λ σ s. s) (λ o h. h) (λ old new calm u.
    let v = still_down old new (unmoved_by old new calm) r stage.Look u in
    (v.0, record { look = None; zero = asked_zero new r [] v.1 }))
exit_law r stage.Queue = out_at_once asks_law refl refl (λ σ s. s) (λ o h. h) (λ old new calm u.
    let v = still_down old new (unmoved_by old new calm) r stage.Queue u in
    (v.0, record { look = v.1.look; zero = asked_zero new r (looked_by v.1.look []) v.1.zero }))
exit_law r stage.Sleep = out_rested asks_law refl refl refl (λ o h. h) (λ old new calm u. tt)
exit_law r s = tt

-- the program sleeps no more from there on
awake_on : (r : DownCall) (me : ℕ) (p : Point) (seen : Seen) → out_awake p ≡ true
    → AwakeOn out_awake ((down_table.plan_of r).makes me p seen)
awake_on r me (at.Finish finishing.Queue failed) seen is = either_awake out_awake (is_some seen.entry) _ _ (refl, refl)
    (refl, refl)
awake_on r me (at.Finish p failed) seen is = (refl, refl)
awake_on r me p seen is = absurd (cc)

sleeps_out : (r : DownCall) (s : DownStage) → down_table.doing s ≡ doing.Sleep → down_exit s ≡ None → ⊥
sleeps_out r stage.Sleep here none = absurd (cc)
sleeps_out r s here none = absurd (cc)

pub down_may_leave : AreLawfulExits down_table down_exits
down_may_leave = lawful_exits down_table down_exits exit_law sleeps_out awake_on

-- the answer and its cause
stopped_cause : (k : Known) (e : DownCall) (b : Bool) (entry : ℕ) → OutFor b k e (left_queue (own_of k) e.cell entry)
    → IsDownUntil k e.cell e.state e.queued (stopped_until b e)
stopped_cause k e true entry u = record {
  again = e.again;
  word = u.zero.word;
  stood = u.zero.stood;
  look = u.look;
  entry = entry;
  ends = u.zero.ends;
  unset = refl;
}
stopped_cause k e false entry u = record {
  again = e.again;
  word = u.zero.word;
  stood = u.zero.stood;
  look = u.look;
  pends = u.pends;
  entry = entry;
  ends = u.zero.ends;
}

cause_of : (ended new : Known) (e : DownCall) (o : DownOutcome) → DownTrailEnd ended e o → ClosesDown ended new e o
    → IsDownUntil new e.cell e.state e.queued (end_until e o)
cause_of ended new e outcome.Over x is = tt
cause_of ended new e outcome.Passing x is = tt
cause_of ended new e outcome.Interrupted x is =
    subst (λ (k : Known). IsDownUntil k e.cell e.state e.queued (stopped_until e.asked e)) (sym is)
    (stopped_cause ended e e.asked x.1.entry x.1.why)
cause_of ended new e outcome.Worn x is =
    subst (λ (k : Known). IsDownUntil k e.cell e.state e.queued (end_until e outcome.Worn)) (sym is)
    (record { head = refl; noted = x.1.noted; zero = x.1.zero })

abbrev CauseFor : Known → Plan → Bool → Until (Result (Unit {0}) SemEnd) → Type 0
CauseFor k p queued x = CauseAt p.watch
  where
    CauseAt : Watch → Type 0
    CauseAt (watch.Done d) = IsDownUntil k d p.state queued x
    CauseAt _ = ⊥

left_for : (A : Type 0) (e : DownCall) (o : DownOutcome) → (e.asked ≡ true → A) → IsDownLeftFor A (end_until e o)
left_for A e outcome.Over asked = tt
left_for A e outcome.Passing asked = tt
left_for A e outcome.Worn asked = tt
left_for A e outcome.Interrupted asked = if_asked (λ b. IsDownLeftFor A (stopped_until b e)) e.asked asked tt

way_adds : (A : Type 0) (old : Known) (r : Run DownCall) (s : DownStage) (c : ℕ) → c ≢ r.of.cell → (new : Known)
    (q : Run DownCall) (u : Turn DownStage DownOutcome) → OnTheWay A down_table down_exits old r s new q u
    → Adding (IsAside c) old new
way_adds A old r s c ne = way_makes A down_table down_exits down_may_leave down_lawful old r s (Adding (IsAside c))
    (aside_on c) (rest_adds c) (λ k new m q n u same a. down_adds c m.of.cell m.of.state
    (λ is. ne (is ∙ ap (λ (p : Plan). cell_in p.watch) same)) k new _ _ (part_runs k new m q n u a))

-- how a task stands behind one that has ended, with what comes behind that, and where it has left its entry
module _ (ended new : Known) (q : Run DownCall) where
  behind_by : (old : Known) (o : DownOutcome) → IsEnded down_table ended q o → DownKeeps (own_of old) old ended
      → ClosesDown ended new q.of o → StandsBehind old new
  behind_by old outcome.Passing e k x = passed_behind ended new q e x old k
  behind_by old outcome.Over e k x = subst (StandsBehind old) (sym x) (plain_behind old ended q outcome.Over tt e k)
  behind_by old outcome.Interrupted e k x =
      subst (StandsBehind old) (sym x) (plain_behind old ended q outcome.Interrupted tt e k)
  behind_by old outcome.Worn e k x = subst (StandsBehind old) (sym x) (plain_behind old ended q outcome.Worn tt e k)

  here_given : GaveBack ended q.of → new ≡ ended → IsOut new → LeftOff q.of.cell new
  here_given back is out = given_by new q.of.cell false (subst (λ (k : Known). GaveBack k q.of) (sym is) back) out

  here_by : (o : DownOutcome) → IsEnded down_table ended q o → ClosesDown ended new q.of o → IsOut new
      → LeftOff q.of.cell new
  here_by outcome.Passing e x out = passed_here ended new q e x
  here_by outcome.Over e x out = here_given e.trail x out
  here_by outcome.Interrupted e x out = here_given e.trail.0 x out
  here_by outcome.Worn e x out = here_given e.trail.0 x out

  closes_adds : (o : DownOutcome) → IsEnded down_table ended q o → ClosesDown ended new q.of o → (c : ℕ)
      → c ≢ q.of.cell → Adding (IsAside c) ended new
  closes_adds outcome.Passing e x c ne = passed_adds ended new q e x c ne
  closes_adds outcome.Over e x c ne = rest_adds c ended new false x
  closes_adds outcome.Interrupted e x c ne = rest_adds c ended new false x
  closes_adds outcome.Worn e x c ne = rest_adds c ended new false x

-- one that hands on nothing ends as it stands
pub plain_closes : (k : Known) (r : DownCall) (o : DownOutcome) → (o ≡ outcome.Passing → ⊥) → ClosesDown k k r o
plain_closes k r outcome.Passing other = absurd (other refl)
plain_closes k r outcome.Over other = refl
plain_closes k r outcome.Interrupted other = refl
plain_closes k r outcome.Worn other = refl

module _ (A : Type 0) (old ended new : Known) (r q : Run DownCall) (s : DownStage) (o : DownOutcome)
    (w : OnTheWay A down_table down_exits old r s ended q (turn.Done o)) (x : ClosesDown ended new q.of o) where
  lands : IsEnded down_table ended q o
  lands = way_lands A down_table down_exits down_may_leave down_lawful old r s ended q (turn.Done o) w

  behind : StandsBehind old new
  behind = behind_by ended new q old o lands
      (way_keeps A down_table down_exits down_may_leave down_lawful old r s ended q (turn.Done o) w) x

  same_plan : with_asked false (down_table.plan_of q.of) ≡ with_asked false (down_table.plan_of r.of)
  same_plan = way_plan A down_table down_exits down_may_leave down_lawful old r s ended q (turn.Done o) w

  same_cell : q.of.cell ≡ r.of.cell
  same_cell = ap (λ (p : Plan). cell_in p.watch) same_plan

  pub way_up : IsUp new
  way_up = behind.up

  pub way_out_of : IsOut new
  way_out_of = behind.out

  pub way_kept : DownKeeps (own_of old) old new
  way_kept = behind.keeps

  pub way_idle : (told_of old).mark ≡ None → IsIdle new
  way_idle = behind_idle old new behind

  pub way_here : LeftOff r.of.cell new
  way_here = subst (λ (d : ℕ). LeftOff d new) same_cell (here_by ended new q o lands x way_out_of)

  pub way_off : (told_of old).hold.head ≡ None → StaysOff old new
  way_off free = stays_off_by old new r.of.cell (λ c ne. aside_on c old ended new
      (way_adds A old r s c ne ended q (turn.Done o) w)
      (closes_adds ended new q o lands x c (λ is. ne (is ∙ same_cell)))) free way_here

  pub way_carried : IsUp old → IsIdle old → (told_of old).hold.head ≡ None
      → Carries (wait_change (index old.view.number 0) new.at) old new
  way_carried up idle held = behind_carried old new behind (way_off held) up idle held

  pub way_clean : IsClean old → (told_of old).hold.head ≡ None → IsClean new
  way_clean clean held = behind_clean old new behind (way_off held) clean

  pub leaves_down : LeavesDown A old new r s (end_until q.of o)
  leaves_down = record {
    at = q;
    outcome = o;
    ended = ended;
    came = w;
    closes = x;
    answer = refl;
    cause = subst (λ (p : Plan). CauseFor new p q.of.queued (end_until q.of o)) same_plan
        (cause_of ended new q.of o lands.trail x);
  }

  pub left_asked : r.of.asked ≡ false → IsDownLeftFor A (end_until q.of o)
  left_asked unasked = left_for A q.of o
      (way_asked A down_table down_exits down_may_leave down_lawful old r s ended q (turn.Done o) w unasked)

-- a whole call
pub ends_until : (A : Type 0) (old ended new : Known) (r q : Run DownCall) (d : ℕ) (st : SleepState)
    → IsFreshDown r.of d st → (o : DownOutcome)
    → OnTheWay A down_table down_exits old r stage.First ended q (turn.Done o) → ClosesDown ended new q.of o
    → EndsDownUntil A old new d st (end_until q.of o)
ends_until A old ended new r q d st fresh o w x = record {
  first = r;
  fresh = fresh;
  leaves = leaves_down A old ended new r q stage.First o w x;
  asked = left_asked A old ended new r q stage.First o w x fresh.unasked;
}

-- of a call that went on by stretches, and whose task owed nothing
pub on_way_clean : (A : Type 0) (c : Plan) (k new : Known) (q : Run DownCall) (o : DownOutcome)
    → IsOnWay A down_table down_exits c k q (turn.Done o) → ClosesDown k new q.of o → IsClean new
on_way_clean A c k new q o i x = way_clean A i.old k new i.began q i.start o i.came x i.clean
    (i.told.head ∙ i.clean.free.head)
