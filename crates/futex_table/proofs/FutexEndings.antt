-- Whole waits on futexes: how they begin, and what they say at their end.
use Rattle.std.proofs.Common.{◌∙◌, ap, sym, refl, subst}
use Rattle.std.specs.Prelude.{ℕ, ◌≡◌, ◌==◌, Bool, true, false, None, [], ◌∷◌}
use Rattle.wait_model.specs.declared.steps.Step.TheVariants as step
use Rattle.wait_model.specs.declared.tasks.SleepState.{SleepState}
use Rattle.wait_model.specs.Tasks.{pending, state_mask, task_of}
use Rattle.wait_rule.specs.{Known.Known, Stays.Carries}
use Rattle.wait_rule.specs.Queues.{IsIdle, IsTold, index}
use Rattle.wait_rule.specs.Says.{IsClean, IsUp, told_of}
use Rattle.wait_event.specs.Ends.{wait_change}
use Rattle.wait_event.proofs.Behind.{IsBehind, behind_at, carried_behind, clean_behind, idle_behind, owes_behind}
use Rattle.wait_class.specs.declared.stages.Run.{Run}
use Rattle.wait_class.specs.declared.stages.Turn.TheVariants as turn
use Rattle.wait_class.specs.Posts.{EndsWith, FoundWorn, IsOut, Keeps, own_of}
use Rattle.wait_class.specs.Tables.{Advances, IsAt, IsEnded, Plan}
use Rattle.wait_class.proofs.Wholes.{begins, ended_runs}
use Rattle.wait_leave.specs.Leaves.{with_asked}
use Rattle.futex_table.specs.{declared.waits.FutexOutcome.FutexOutcome, declared.waits.FutexStage.FutexStage}
use Rattle.futex_table.specs.declared.waits.FutexWait.{FutexWait}
use Rattle.futex_table.specs.FutexTables.{FoundOff, FutexTrailEnd, HasLoadedWord, IsFreshFutexWait, IsFutex}
use Rattle.futex_table.specs.FutexTables.{futex_answer, futex_end, futex_head, futex_plan, futex_table, futex_word}
use Rattle.futex_table.specs.FutexEnds.{EndsFutexWait, IsFutexCause, futex_answer_of, futex_end_in}
use Rattle.futex_table.specs.declared.waits.FutexOutcome.TheVariants as outcome
use Rattle.futex_table.specs.declared.waits.FutexStage.TheVariants as stage

-- a task that is idle, with its entry off, may begin
pub begins_at : (k : Known) (r : Run FutexWait) → IsFutex r.of → IsTold k → IsUp k → IsIdle k → IsOut k
    → IsAt futex_table k r stage.First
begins_at k r fits told up idle out = begins futex_table k r stage.First fits refl refl refl refl out told up idle out

-- how a task stands whose wait has ended, whatever way it came there
module _ (old new : Known) (q : Run FutexWait) (o : FutexOutcome) (over : IsEnded futex_table new q o)
    (keeps : Keeps (index old.view.number 0) old new) where
  pub over_behind : IsBehind (λ x. x) old new
  over_behind = behind_at (futex_end q.of o) (record { head = refl; ticket = refl; stirs = refl; zone = refl }) old new
      over.up over.stands keeps

module _ (old new : Known) (r q : Run FutexWait) (s : FutexStage) (o : FutexOutcome)
    (a : Advances futex_table old new r q s (turn.Done o)) where
  ended : IsBehind (λ x. x) old new
  ended = over_behind old new q o a.lands a.went.keeps

  pub ends_up : IsUp new
  ends_up = a.lands.up

  pub ends_idle : (told_of old).mark ≡ None → IsIdle new
  ends_idle = idle_behind old new ended

  pub ends_out : IsOut new
  ends_out = ended.out

  pub ends_carried : IsUp old → IsIdle old → (told_of old).hold.head ≡ None
      → Carries (wait_change (index old.view.number 0) new.at) old new
  ends_carried = carried_behind old new ended (owes_behind old new ended)

  pub ends_clean : IsClean old → IsTold old → IsClean new
  ends_clean clean told = clean_behind old new ended (owes_behind old new ended) clean

-- what it says at its end, by the numbers that it began with
pub plain_is : (a b : ℕ) → futex_word a ≡ futex_word b → a ≡ b
plain_is a b is = cc

pub first_is : (a b : ℕ) → a ∷ [] ≡ b ∷ [] → a ≡ b
first_is a b is = cc

-- nobody left it who was not asked
never_left : {A : Type 0} (b : Bool) → b ≡ false → b ≡ true → A
never_left b unasked asked = absurd (let no : true ≡ false = sym asked ∙ unasked in cc)

answers : (k : Known) (r : FutexWait) (o : FutexOutcome) → r.asked ≡ false → FutexTrailEnd k r o
    → futex_answer o ≡ futex_answer_of (futex_end_in r o)
answers k r outcome.Over unasked u = refl
answers k r outcome.Again unasked u = refl
answers k r outcome.Interrupted unasked u = refl
answers k r outcome.Worn unasked u = refl
answers k r (outcome.Left off) unasked u = never_left r.asked unasked u.0

module _ (new : Known) (q : FutexWait) (f v : ℕ) (st : SleepState) (futex : q.futex ≡ f) (expected : q.expected ≡ v)
    (state : q.state ≡ st) where
  pub cause : (o : FutexOutcome) → ((off : Bool) → o ≡ outcome.Left off → q.asked ≡ false) → FutexTrailEnd new q o
      → IsFutexCause new f v st (futex_end_in q o)
  cause (outcome.Left off) unasked u = never_left q.asked (unasked off refl) u.0
  cause outcome.Over unasked u = subst (FoundOff new) futex u
  cause outcome.Again unasked u = record {
    loaded = subst (λ (n : ℕ). HasLoadedWord new n q.seen (step.Unlock (futex_head n) false ∷ [])) futex u.0;
    other = subst (λ (n : ℕ). (q.seen == n) ≡ false) expected u.1;
  }
  cause outcome.Interrupted unasked u = record {
    look = u.look;
    entry = u.entry;
    showed = subst (λ (s : SleepState). pending (state_mask s) (task_of u.look) ≡ true) state u.showed;
    stood = u.stood;
    ends = subst (λ (n : ℕ). EndsWith new (step.Look u.look ∷ step.Saw (own_of new) u.entry ∷ step.Unqueue (own_of new)
        ∷ step.Unlock (futex_head n) false ∷ [])) futex u.ends;
  }
  cause outcome.Worn unasked u = record {
    head = ap futex_head futex;
    worn = subst (λ (n : ℕ). FoundWorn new (futex_head n) q.place []) futex u;
  }

module _ (old new : Known) (r q : Run FutexWait) (f v : ℕ) (st : SleepState) (fresh : IsFreshFutexWait r.of f v st) where
  began : futex_table.plan_of r.of ≡ futex_plan f v st
  began i = with_asked (fresh.unasked i) (futex_plan (fresh.futex i) (fresh.expected i) (fresh.state i))

  pub ends_futex : (o : FutexOutcome) → Advances futex_table old new r q stage.First (turn.Done o)
      → EndsFutexWait old new f v st (futex_end_in q.of o)
  ends_futex o a =
      let same = a.same ∙ began in
      let unasked = ap (λ (p : Plan). p.asked) same in
      record {
        runs = ended_runs futex_table old new r q stage.First o a (futex_plan f v st) began
            (futex_answer_of (futex_end_in q.of o)) (answers new q.of o unasked a.lands.trail);
        cause = cause new q.of f v st (plain_is q.of.futex f (ap (λ (p : Plan). p.watch) same))
            (first_is q.of.expected v (ap (λ (p : Plan). p.numbers) same)) (ap (λ (p : Plan). p.state) same) o
            (λ off left. unasked) a.lands.trail;
      }
