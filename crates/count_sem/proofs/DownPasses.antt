-- A whole `down` that handed a permit on.
use Rattle.std.proofs.Common.{◌∙◌, ap, refl, subst}
use Rattle.std.specs.Prelude.{ℕ, ◌≢◌, false, Ok}
use Rattle.wait_model.specs.declared.points.AwaitPoint.TheVariants as awaiting
use Rattle.wait_model.specs.declared.points.Next.TheVariants as next
use Rattle.wait_model.specs.declared.points.Point.TheVariants as at
use Rattle.wait_model.specs.{declared.tasks.SleepState.SleepState, Programs.zero_answer}
use Rattle.wait_rule.specs.{Known.Known, LeftEntries.LeftOff, Queues.index, Says.told_of, Stays.with_entry}
use Rattle.wait_rule.specs.Stays.{with_left_entry}
use Rattle.wait_rule.proofs.KnownLaws.OtherCalls.{Adding}
use Rattle.wait_class.specs.{Tables.Advances, Tables.IsEnded, declared.stages.Run.Run}
use Rattle.wait_class.specs.Posts.{IsOut, Runs, own_of}
use Rattle.wait_class.specs.declared.stages.Turn.TheVariants as turn
use Rattle.wait_class.proofs.{Ground.Going.runs_on, Ground.Keeping.keeps_of, Ground.Keeping.keeps_on, Wholes.none_of}
pub use Rattle.completion_cell.proofs.OtherCells.{given_by}
use Rattle.completion_cell.proofs.OtherCells.{IsAside}
use Rattle.count_sem.specs.{SemPrograms.down_program, SemPrograms.pass_point, DownEnds.EndsDown, Passes.HasPassedOn}
use Rattle.count_sem.specs.{Passes.pass_change, declared.downs.DownCall.DownCall, declared.downs.DownStage.DownStage}
use Rattle.count_sem.specs.Downs.{DownKeeps, IsFreshDown, down_table, down_watch}
use Rattle.count_sem.specs.declared.downs.DownOutcome.TheVariants as outcome
use Rattle.count_sem.specs.declared.downs.DownStage.TheVariants as stage
use Rattle.count_sem.proofs.DownEndings.{StandsBehind, down_adds, part_runs}
use Rattle.count_sem.proofs.DownTrails.{own_same}

-- how the task stands behind one that handed on, and where it has left its entry
module _ (mid new : Known) (q : Run DownCall) (ended : IsEnded down_table mid q outcome.Passing)
    (p : HasPassedOn mid new q.of) where
  passed_out : IsOut new
  passed_out = ap (told_of new).bits.stored (own_same mid new p.carries.number)
      ∙ p.carries.out (own_of mid) refl
      (none_of (down_watch q.of) ((told_of mid).bits.stored (index mid.view.number 0)) ended.stands.home)

  pub passed_behind : (old : Known) → DownKeeps (own_of old) old mid → StandsBehind old new
  passed_behind old keeps = record {
    up = p.carries.awake ∙ ended.up;
    running = p.carries.state ∙ ended.stands.state;
    free = record { head = p.carries.head; ticket = p.carries.ticket };
    told = p.carries.hold;
    out = passed_out;
    keeps = keeps_on (own_of old) old mid new keeps (keeps_of (own_of old) pass_change mid new p.carries (λ w. refl)
        (λ x away. refl) (λ x. p.carries.owes (with_entry (own_of old) (with_left_entry x))));
  }

  pub passed_here : LeftOff q.of.cell new
  passed_here = given_by new q.of.cell p.spent p.back passed_out

  pub passed_adds : (c : ℕ) → c ≢ q.of.cell → Adding (IsAside c) mid new
  passed_adds c ne = down_adds c q.of.cell q.of.state ne mid new _ _ p.runs

-- a part of a call that ended as one that hands on, and what came behind it
module _ (old mid new : Known) (r q : Run DownCall) (s : DownStage)
    (a : Advances down_table old mid r q s (turn.Done outcome.Passing)) (p : HasPassedOn mid new q.of) where
  rest_runs : Runs (down_program old.view.number r.of.cell r.of.state) mid new (next.Go pass_point)
      (next.Ends zero_answer)
  rest_runs = subst (λ (n : ℕ). Runs (down_program n r.of.cell r.of.state) mid new (next.Go pass_point)
      (next.Ends zero_answer)) a.went.keeps.number
      (subst (λ (c : ℕ). Runs (down_program mid.view.number c r.of.state) mid new (next.Go pass_point)
      (next.Ends zero_answer)) a.went.tells.cell
      (subst (λ (t : SleepState). Runs (down_program mid.view.number q.of.cell t) mid new (next.Go pass_point)
      (next.Ends zero_answer)) a.went.tells.state p.runs))

  all_runs : Runs (down_program old.view.number r.of.cell r.of.state) old new (next.Go (down_table.point_of s))
      (next.Ends zero_answer)
  all_runs = runs_on (down_program old.view.number r.of.cell r.of.state) old mid new
      (next.Go (down_table.point_of s)) (next.Go pass_point) (next.Ends zero_answer)
      (part_runs old mid r q s (turn.Done outcome.Passing) a) rest_runs

-- what it says at its end
pub passed_down : (old mid new : Known) (r q : Run DownCall) (d : ℕ) (st : SleepState) → IsFreshDown r.of d st
    → Advances down_table old mid r q stage.First (turn.Done outcome.Passing) → HasPassedOn mid new q.of
    → EndsDown old new d st (Ok tt)
passed_down old mid new r q d st fresh a p = record {
  runs = subst (λ (c : ℕ). Runs (down_program old.view.number c st) old new
      (next.Go (at.Await (awaiting.Lock false))) (next.Ends zero_answer)) fresh.cell
      (subst (λ (t : SleepState). Runs (down_program old.view.number r.of.cell t) old new
      (next.Go (at.Await (awaiting.Lock false))) (next.Ends zero_answer)) fresh.state_is
      (all_runs old mid new r q stage.First a p));
  cause = tt;
}
