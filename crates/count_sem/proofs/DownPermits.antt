-- The points of a `down`: how many permits its task has given and taken there.
use Rattle.std.proofs.Common.{refl, ◌∙◌, inl, inr}
use Rattle.std.specs.Prelude.{ℕ, zero, suc, ◌≡◌, ◌+◌, ◌<◌, ◌≤◌, ◌⊎◌, ◌==◌, pos, true, false, List}
use Rattle.wait_model.specs.{declared.layout.TheConstants.ENTRIES, declared.calls.Answer.Answer}
use Rattle.wait_model.specs.{declared.points.Next.Next, declared.points.Point.Point, declared.steps.Step.Step}
use Rattle.wait_model.specs.{declared.tasks.SleepState.SleepState, Fold.view_of, Runs.own}
use Rattle.wait_model.specs.Permits.{done_head, is_in, shows_at}
use Rattle.wait_model.specs.declared.calls.Answer.TheVariants as answer
use Rattle.wait_model.specs.declared.points.AwaitPoint.TheVariants as awaiting
use Rattle.wait_model.specs.declared.points.FinishPoint.TheVariants as finishing
use Rattle.wait_model.specs.declared.points.LeavePoint.TheVariants as leaving
use Rattle.wait_model.specs.declared.points.Next.TheVariants as next
use Rattle.wait_model.specs.declared.points.Point.TheVariants as at
use Rattle.wait_model.specs.declared.points.PreparePoint.TheVariants as preparing
use Rattle.wait_model.specs.declared.points.SelectPoint.TheVariants as selecting
use Rattle.wait_model.specs.declared.steps.Step.TheVariants as step
use Rattle.wait_rule.specs.Transitions.{Program}
use Rattle.wait_rule.proofs.KnownLaws.HandedSteps.{IsAwayAt, away_next}
use Rattle.count_sem.specs.SemPrograms.{down_program}
use Rattle.count_sem.proofs.{AnswerRuns.LooksHold, LoadedEnds.HasLoadedEnd, LoadedEnds.loaded_on}
use Rattle.count_sem.proofs.AnsweredUps.{Has, has_still, unleft_look}
use Rattle.count_sem.proofs.DownHolds.{HasCome, IsAsleep, IsGone, IsPast, IsSpent, IsThere, IsWaiting, asleep_saw}
use Rattle.count_sem.proofs.DownHolds.{come_saw, gone_saw, gone_spent, has_left, has_past, has_saw, left_more, past_saw}
use Rattle.count_sem.proofs.DownHolds.{saw_shows, spent_saw, there_saw, there_spent, waiting_saw, waiting_spent}
use Rattle.count_sem.proofs.SemPoints.{FoundLow, IsIn, in_on, low_on, saw_keeps}

module _ (c me g t : ℕ) where
  -- the hold shows somebody queued
  abbrev pub Waiter : List Step → Type 0
  Waiter es = (x : ℕ) × (x < ENTRIES) × (shows_at (done_head c) ((view_of es).hold.book x) ≡ true)

  -- The task has taken nothing while it waits. It takes its permit of the count, or by a look that finds its own entry
  -- off; one that hands on takes one more, and gives it.
  abbrev pub DownHolds : Point → List Step → Type 0
  DownHolds (at.Await (awaiting.Lock false)) es = (has_left c me es ≡ false) × Has c me es g t
  DownHolds (at.Await (awaiting.Lock true)) es = IsAsleep c me es × Has c me es g t
  DownHolds (at.Await (awaiting.Load waited)) es = (IsAwayAt c me es × IsIn c es) × Has c me es g t
  DownHolds (at.Await (awaiting.Off stopped)) es = IsThere c me es × FoundLow c es × Has c me es g t
  DownHolds (at.Await (awaiting.Last stopped)) es = IsSpent c me es × FoundLow c es × Has c me es g t
  DownHolds (at.Await awaiting.Unlock) es = IsSpent c me es × Has c me es g (t + 1)
  DownHolds (at.Prepare preparing.Look) es = IsWaiting c me es × Has c me es g t
  DownHolds (at.Prepare preparing.Queue) es = IsWaiting c me es × Has c me es g t
  DownHolds (at.Prepare preparing.State) es = IsThere c me es × Has c me es g t
  DownHolds (at.Prepare preparing.Unlock) es = IsThere c me es × Has c me es g t
  DownHolds at.Sleep es = IsAsleep c me es × Has c me es g t
  DownHolds (at.Leave leaving.Queue) es = (HasCome c me es × Has c me es g t)
      ⊎ ((IsThere c me es × Has c me es g t) ⊎ (IsGone c me es × Has c me es g (t + 1)))
  DownHolds (at.Finish finishing.Queue failed) es = IsWaiting c me es × Has c me es g t
  DownHolds (at.Finish finishing.Unlock failed) es = IsSpent c me es × Has c me es g t
  DownHolds (at.Select (selecting.Next zero)) es = IsGone c me es × FoundLow c es × Has c me es g (t + 1)
  DownHolds (at.Select (selecting.Next (suc n))) es = IsGone c me es × Waiter es × Has c me es g ((t + 1) + 1)
  DownHolds (at.Select (selecting.Off n who)) es = IsGone c me es × Has c me es g ((t + 1) + 1)
  DownHolds (at.Select selecting.Store) es = IsSpent c me es × Has c me es (g + 1) ((t + 1) + 1)
  DownHolds p es = ⊥

  abbrev pub DownEnded : Answer → List Step → Type 0
  DownEnded (answer.Number (pos zero)) es = (p : ℕ) × (p ≤ 1) × IsPast c me es × Has c me es (g + p) (t + (p + 1))
  DownEnded a es = IsPast c me es × Has c me es g t

  abbrev pub DownIs : Next → List Step → Type 0
  DownIs (next.Go p) es = DownHolds p es
  DownIs (next.Ends a) es = DownEnded a es

  -- or a load has found the count at its end
  abbrev pub DownPlace : Next → List Step → Type 0
  DownPlace n es = DownIs n es ⊎ HasLoadedEnd c es

module _ (c me g t : ℕ) (st : SleepState) where
  abbrev pub downer : Program
  downer = down_program me c st

  looks_are : LooksHold me downer (DownIs c me g t)
  looks_are (next.Go (at.Await (awaiting.Lock false))) es y w o q = (
    left_more c me es (step.Saw y w) ∙ q.0,
    has_still c me es (step.Saw y w) g t q.1 refl
        (unleft_look (is_in c (view_of es)) (y == own me) (has_left c me es) _ q.0),
  )
  looks_are (next.Go (at.Await (awaiting.Lock true))) es y w o q =
      (asleep_saw c me es y w o q.0, has_past c me es y w o g t q.1 q.0.past)
  looks_are (next.Go (at.Await (awaiting.Load waited))) es y w o q = (
    (away_next c me es (step.Saw y w) o tt q.0.0, in_on c es (step.Saw y w) refl q.0.1),
    has_saw c me es y w o g t q.1 (waiting_spent c me es (inl q.0)),
  )
  looks_are (next.Go (at.Await (awaiting.Off stopped))) es y w o q = (
    there_saw c me es y w o q.0,
    low_on c es (step.Saw y w) (saw_keeps me c es y w o) q.1,
    has_saw c me es y w o g t q.2 (there_spent c me es q.0),
  )
  looks_are (next.Go (at.Await (awaiting.Last stopped))) es y w o q = (
    spent_saw c me es y w o q.0,
    low_on c es (step.Saw y w) (saw_keeps me c es y w o) q.1,
    has_saw c me es y w o g t q.2 q.0,
  )
  looks_are (next.Go (at.Await awaiting.Unlock)) es y w o q =
      (spent_saw c me es y w o q.0, has_saw c me es y w o g (t + 1) q.1 q.0)
  looks_are (next.Go (at.Prepare preparing.Look)) es y w o q =
      (waiting_saw c me es y w o q.0, has_saw c me es y w o g t q.1 (waiting_spent c me es q.0))
  looks_are (next.Go (at.Prepare preparing.Queue)) es y w o q =
      (waiting_saw c me es y w o q.0, has_saw c me es y w o g t q.1 (waiting_spent c me es q.0))
  looks_are (next.Go (at.Prepare preparing.State)) es y w o q =
      (there_saw c me es y w o q.0, has_saw c me es y w o g t q.1 (there_spent c me es q.0))
  looks_are (next.Go (at.Prepare preparing.Unlock)) es y w o q =
      (there_saw c me es y w o q.0, has_saw c me es y w o g t q.1 (there_spent c me es q.0))
  looks_are (next.Go at.Sleep) es y w o q =
      (asleep_saw c me es y w o q.0, has_past c me es y w o g t q.1 q.0.past)
  looks_are (next.Go (at.Leave leaving.Queue)) es y w o (inl q) = come_saw c me es y w o g t q.1 q.0
  looks_are (next.Go (at.Leave leaving.Queue)) es y w o (inr (inl q)) =
      inr (inl (there_saw c me es y w o q.0, has_saw c me es y w o g t q.1 (there_spent c me es q.0)))
  looks_are (next.Go (at.Leave leaving.Queue)) es y w o (inr (inr q)) =
      inr (inr (gone_saw c me es y w o q.0, has_saw c me es y w o g (t + 1) q.1 (gone_spent c me es q.0)))
  looks_are (next.Go (at.Finish finishing.Queue failed)) es y w o q =
      (waiting_saw c me es y w o q.0, has_saw c me es y w o g t q.1 (waiting_spent c me es q.0))
  looks_are (next.Go (at.Finish finishing.Unlock failed)) es y w o q =
      (spent_saw c me es y w o q.0, has_saw c me es y w o g t q.1 q.0)
  looks_are (next.Go (at.Select (selecting.Next zero))) es y w o q = (
    gone_saw c me es y w o q.0,
    low_on c es (step.Saw y w) (saw_keeps me c es y w o) q.1,
    has_saw c me es y w o g (t + 1) q.2 (gone_spent c me es q.0),
  )
  looks_are (next.Go (at.Select (selecting.Next (suc n)))) es y w o q = (
    gone_saw c me es y w o q.0,
    (q.1.0, q.1.1, saw_shows c me es y w o q.0.held q.1.0 q.1.2),
    has_saw c me es y w o g ((t + 1) + 1) q.2 (gone_spent c me es q.0),
  )
  looks_are (next.Go (at.Select (selecting.Off n who))) es y w o q =
      (gone_saw c me es y w o q.0, has_saw c me es y w o g ((t + 1) + 1) q.1 (gone_spent c me es q.0))
  looks_are (next.Go (at.Select selecting.Store)) es y w o q =
      (spent_saw c me es y w o q.0, has_saw c me es y w o (g + 1) ((t + 1) + 1) q.1 q.0)
  looks_are (next.Go p) es y w o q = absurd q
  looks_are (next.Ends (answer.Number (pos zero))) es y w o q =
      (q.0, q.1, past_saw c me es y w o q.2, has_past c me es y w o (g + q.0) (t + (q.0 + 1)) q.3 q.2)
  looks_are (next.Ends a) es y w o q = (past_saw c me es y w o q.0, has_past c me es y w o g t q.1 q.0)

  pub down_looks : LooksHold me downer (DownPlace c me g t)
  down_looks n es y w o (inl q) = inl (looks_are n es y w o q)
  down_looks n es y w o (inr l) = inr (loaded_on c es (step.Saw y w) l)
