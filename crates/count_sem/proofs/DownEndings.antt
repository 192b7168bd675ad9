-- Whole calls of `down`: how they begin, how a task stands behind them, and what they say at their end.
use Rattle.std.proofs.Common.{◌∙◌, ap, sym, refl, subst}
use Rattle.std.specs.Prelude.{ℕ, ◌≡◌, ◌≢◌, ◌<◌, ◌||◌, Bool, false, List, [], ◌∷◌}
use Rattle.wait_model.specs.{declared.layout.TheConstants.COMPLETIONS, declared.points.Next.Next}
use Rattle.wait_model.specs.declared.tasks.SleepState.{SleepState}
use Rattle.wait_model.specs.Tasks.{pending, state_mask, task_of}
use Rattle.wait_model.specs.declared.points.AwaitPoint.TheVariants as awaiting
use Rattle.wait_model.specs.declared.points.Next.TheVariants as next
use Rattle.wait_model.specs.declared.points.Point.TheVariants as at
use Rattle.wait_model.specs.declared.steps.Step.TheVariants as step
use Rattle.wait_rule.specs.{HeldValues.count_in, Known.Known, LeftEntries.LeftOff, Queues.IsIdle, Queues.IsTold}
use Rattle.wait_rule.specs.{Says.IsUp, Says.history_of}
use Rattle.wait_rule.specs.Transitions.{Goes, Program, Transition, after_transition}
use Rattle.wait_rule.proofs.KnownLaws.OtherCalls.{Adding, goes_adding}
use Rattle.wait_class.specs.{declared.stages.Run.Run, declared.stages.Turn.Turn}
use Rattle.wait_class.specs.Posts.{EndsWith, IsOut, Post, Runs, Stands, own_of}
use Rattle.wait_class.specs.Tables.{Advances, IsAt, IsEnded, Plan, next_in, plan_program}
use Rattle.wait_class.specs.declared.stages.Turn.TheVariants as turn
use Rattle.wait_event.proofs.Behind.{behind_at}
use Rattle.wait_class.proofs.Wholes.{begins}
use Rattle.wait_event.specs.Waits.{has_queued_in}
pub use Rattle.completion_cell.proofs.Behind.{StandsBehind, behind_carried, behind_clean, behind_idle}
pub use Rattle.completion_cell.proofs.OtherCells.{stays_off_by}
use Rattle.completion_cell.proofs.OtherCells.{IsAside, asks_aside}
use Rattle.count_sem.specs.{DownEnds.EndsDown, DownEnds.down_end_in, declared.downs.DownCall.DownCall}
use Rattle.count_sem.specs.{declared.downs.DownOutcome.DownOutcome, declared.downs.DownStage.DownStage}
use Rattle.count_sem.specs.SemPrograms.{down_plan, down_program, joined, joins, sem_head}
use Rattle.count_sem.specs.Downs.{DownKeeps, FoundNoSeat, FoundDownSignal, IsFreshDown, OutFor, StoodThere}
use Rattle.count_sem.specs.Downs.{WentOutOfDown, down_answer, down_post, down_table, found_zero, left_queue}
use Rattle.count_sem.specs.declared.downs.DownOutcome.TheVariants as outcome
use Rattle.count_sem.specs.declared.downs.DownStage.TheVariants as stage

-- a task that is idle, with its entry off, may begin
pub begins_at : (k : Known) (r : Run DownCall) (d : ℕ) (st : SleepState) → IsFreshDown r.of d st → d < COMPLETIONS
    → LeftOff d k → IsTold k → IsUp k → IsIdle k → IsOut k → IsAt down_table k r stage.First
begins_at k r d st fresh small left told up idle out = begins down_table k r stage.First
    (subst (λ (n : ℕ). n < COMPLETIONS) (sym fresh.cell) small) refl refl refl refl
    (subst (λ (n : ℕ). LeftOff n k) (sym fresh.cell) left, fresh.queued) told up idle out

-- a part of the call goes through the whole program
pub joined_goes : (f : Program) (old : Known) (n : Next) (ts : List Transition) (new : Known) (m : Next)
    → Goes f old n ts new m → Goes (joins f) old (joined n) ts new (joined m)
joined_goes f old n [] new m g = (g.0, ap joined g.1)
joined_goes f old (next.Ends a) (t ∷ ts) new m g = absurd g
joined_goes f old (next.Go p) (t ∷ ts) new m g = (
  record { looks = g.0.looks; is = g.0.is; finds = g.0.finds },
  joined_goes f (after_transition t) (f.plan p t.seen).next ts new m g.1,
)

-- at the completions that are not the semaphore
pub down_adds : (c d : ℕ) (st : SleepState) → c ≢ d → (old new : Known) (from to : Next)
    → Runs (down_program old.view.number d st) old new from to → Adding (IsAside c) old new
down_adds c d st ne old new from to runs = goes_adding (IsAside c) (down_program old.view.number d st)
    (asks_aside c d st ne old.view.number) old new from to runs.transitions runs.goes

-- one that has not found more permits than its own
abbrev pub IsPlainEnd : DownOutcome → Type 0
IsPlainEnd outcome.Passing = ⊥
IsPlainEnd o = Unit {0}

pub plain_end : (o : DownOutcome) → (o ≡ outcome.Passing → ⊥) → IsPlainEnd o
plain_end outcome.Passing other = absurd (other refl)
plain_end outcome.Over other = tt
plain_end outcome.Interrupted other = tt
plain_end outcome.Worn other = tt

abbrev plain_post : DownCall → Post
plain_post r = down_post r outcome.Over

stands_plain : (k : Known) (r : DownCall) (o : DownOutcome) → IsPlainEnd o → Stands k (down_post r o)
    → Stands k (plain_post r)
stands_plain k r outcome.Over p u = u
stands_plain k r outcome.Passing p u = absurd p
stands_plain k r outcome.Interrupted p u = u
stands_plain k r outcome.Worn p u = u

-- so it stands that has ended
pub plain_behind : (old new : Known) (q : Run DownCall) (o : DownOutcome) → IsPlainEnd o → IsEnded down_table new q o
    → DownKeeps (own_of old) old new → StandsBehind old new
plain_behind old new q o plain ended keeps = behind_at (plain_post q.of)
    (record { head = refl; ticket = refl; stirs = refl; zone = refl }) old new ended.up
    (stands_plain new q.of o plain ended.stands) keeps

-- a part of a call, in its whole program
pub part_runs : (old new : Known) (r q : Run DownCall) (s : DownStage) (u : Turn DownStage DownOutcome)
    → Advances down_table old new r q s u
    → Runs (down_program old.view.number r.of.cell r.of.state) old new (next.Go (down_table.point_of s))
    (joined (next_in down_table u))
part_runs old new r q s u a = record {
  transitions = a.went.runs.transitions;
  goes = joined_goes (plan_program old.view.number 0 (down_plan r.of.cell r.of.state)) old
      (next.Go (down_table.point_of s)) a.went.runs.transitions new (next_in down_table u) a.went.runs.goes;
}

-- the numbers of a call that has begun with these
module _ (old new : Known) (r q : Run DownCall) (d : ℕ) (st : SleepState) (fresh : IsFreshDown r.of d st)
    (o : DownOutcome) (a : Advances down_table old new r q stage.First (turn.Done o)) where
  abbrev pub begun_runs : Runs (down_program old.view.number d st) old new (next.Go (at.Await (awaiting.Lock false)))
      (joined (next.Ends (down_answer o)))
  begun_runs = record {
    transitions = a.went.runs.transitions;
    goes = subst (λ (f : Program). Goes f old (next.Go (at.Await (awaiting.Lock false))) a.went.runs.transitions new
        (joined (next.Ends (down_answer o))))
        (λ i. down_program old.view.number (fresh.cell i) (fresh.state_is i))
        (joined_goes (plan_program old.view.number 0 (down_plan r.of.cell r.of.state)) old
        (next.Go (at.Await (awaiting.Lock false))) a.went.runs.transitions new (next.Ends (down_answer o))
        a.went.runs.goes);
  }

  queued_is : q.of.queued ≡ has_queued_in a.went.runs.transitions
  queued_is = a.went.tells.queued ∙ ap (λ (b : Bool). b || has_queued_in a.went.runs.transitions) fresh.queued

  pub cell_is : q.of.cell ≡ d
  cell_is = a.went.tells.cell ∙ fresh.cell

  pub state_is : q.of.state ≡ st
  state_is = a.went.tells.state ∙ fresh.state_is

-- what it says at its end
pub ends_down : (old new : Known) (r q : Run DownCall) (d : ℕ) (st : SleepState) → IsFreshDown r.of d st
    → (o : DownOutcome) → IsPlainEnd o → Advances down_table old new r q stage.First (turn.Done o)
    → EndsDown old new d st (down_end_in q.of o)
ends_down old new r q d st fresh outcome.Passing plain a = absurd plain
ends_down old new r q d st fresh outcome.Over plain a = record {
  runs = begun_runs old new r q d st fresh outcome.Over a;
  cause = tt;
}
ends_down old new r q d st fresh outcome.Interrupted plain a =
    let t : WentOutOfDown new q.of = a.lands.trail.1 in
    let f : FoundDownSignal new q.of (left_queue (own_of new) q.of.cell t.entry) =
    subst (λ (b : Bool). OutFor b new q.of (left_queue (own_of new) q.of.cell t.entry))
    (ap (λ (x : Plan). x.asked) a.same ∙ fresh.unasked) t.why in record {
      runs = begun_runs old new r q d st fresh outcome.Interrupted a;
      cause = record {
        again = q.of.again;
        word = f.zero.word;
        stood = subst (λ (b : Bool). StoodThere q.of.again b f.zero.word)
            (queued_is old new r q d st fresh outcome.Interrupted a) f.zero.stood;
        look = f.look;
        pends = ap (λ (x : SleepState). pending (state_mask x) (task_of f.look))
            (sym (state_is old new r q d st fresh outcome.Interrupted a)) ∙ f.pends;
        entry = t.entry;
        ends = subst (λ (c : ℕ). EndsWith new (found_zero q.of.again c (own_of new) f.zero.word
            (step.Look f.look ∷ left_queue (own_of new) c t.entry)))
            (cell_is old new r q d st fresh outcome.Interrupted a) f.zero.ends;
      };
    }
ends_down old new r q d st fresh outcome.Worn plain a =
    let t : FoundNoSeat new q.of = a.lands.trail.1 in record {
      runs = begun_runs old new r q d st fresh outcome.Worn a;
      cause = record {
        head = ap sem_head (cell_is old new r q d st fresh outcome.Worn a);
        noted = t.noted;
        zero = ap (λ (c : ℕ). count_in c (history_of new)) (sym (cell_is old new r q d st fresh outcome.Worn a)) ∙
            t.zero;
      };
    }
