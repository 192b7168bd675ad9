-- A check of the definitions.
-- Worked lists of one task that sleeps in a poll for condition 0 and variable 20: one that queued both of its entries and
-- then loaded both, one that loaded before it queued the second, and one that queued one entry alone.
use Rattle.std.specs.Prelude.{◌≡◌, ◌+◌, false, None, List, [], ◌∷◌, ◌++◌}
use Rattle.wait_model.specs.{declared.steps.Step.Step, declared.watches.Watch.Watch, Fold.view_of, Readings.FailedLoad}
use Rattle.wait_model.specs.Watches.{head_of}
use Rattle.wait_model.specs.declared.layout.TheConstants.{FIRST_PLAIN_HEAD, MIDDLE, RUNNABLE, UNINTERRUPTIBLE}
use Rattle.wait_model.specs.declared.steps.Step.TheVariants as step
use Rattle.wait_model.specs.declared.watches.Kind.TheVariants as kind
use Rattle.wait_model.specs.declared.watches.Watch.TheVariants as watch
use Rattle.wait_rule.specs.{Known.Known, Says.history_of}
use Rattle.wq_head.specs.Adds.{front_entry}
use Rattle.poll_wait.specs.{declared.turns.Poll.Poll, Polls.IsPoll, Waiting.IsInTurn}

abbrev pub the_first : Watch
the_first = watch.Plain 0

abbrev pub the_second : Watch
the_second = watch.Var 20 0

-- task 0 queues its entry of slot 0, and stores its state; it queues that of slot 1; it loads both, and sleeps
abbrev pub queue_first : List Step
queue_first = step.Lock FIRST_PLAIN_HEAD None 0 ∷ step.Queue 0 (front_entry the_first kind.Autoremove MIDDLE)
    ∷ step.State UNINTERRUPTIBLE ∷ step.Unlock FIRST_PLAIN_HEAD false ∷ []

abbrev pub queue_second : List Step
queue_second = step.Lock (head_of the_second) None 0 ∷ step.Queue 1 (front_entry the_second kind.Var MIDDLE)
    ∷ step.Unlock (head_of the_second) false ∷ []

abbrev pub loads_both : List Step
loads_both = step.Load the_first 0 ∷ step.Load the_second 0 ∷ []

abbrev pub the_sleep : List Step
the_sleep = step.Sleep (RUNNABLE + UNINTERRUPTIBLE) ∷ []

-- The turn; the same with the loads before the second entry is queued; and without that.
abbrev pub turned : List Step
turned = queue_first ++ queue_second ++ loads_both ++ the_sleep

abbrev pub loaded_early : List Step
loaded_early = queue_first ++ loads_both ++ queue_second ++ the_sleep

abbrev pub queued_one : List Step
queued_one = queue_first ++ loads_both ++ the_sleep

-- The first has failed on both watches. The second has not on that of the entry that it queued last, and no task in a
-- turn of this poll has made it. The third has no entry of slot 1 stored.
pub record WorkedPolls : Type 0 where
  pub first : FailedLoad turned 0 the_first
  pub second : FailedLoad turned 1 the_second
  pub not_failed : FailedLoad loaded_early 1 the_second → ⊥
  pub no_turn : (p : Poll) → IsPoll p → p.second ≡ the_second → (k : Known) → IsInTurn p k → k.view.number ≡ 0
      → history_of k ≡ loaded_early → ⊥
  pub one : (view_of queued_one).bits.stored 1 ≡ None
