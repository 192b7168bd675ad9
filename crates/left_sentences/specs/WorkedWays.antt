-- A check of the definitions.
-- Words of a task that left its wait for condition 0, asked once and twice, and two that are none: who is gone with the
-- lock held, and who is gone with its entry queued.
use Rattle.std.specs.Prelude.{false, List, [], ◌∷◌}
use Rattle.wait_model.specs.declared.layout.TheConstants.{FIRST_PLAIN_HEAD}
use Rattle.wait_model.specs.{declared.layout.TheConstants.UNINTERRUPTIBLE, declared.calls.Answer.Answer}
use Rattle.wait_model.specs.{declared.calls.Call.Call, declared.calls.Event.Event, SentenceSteps.minus_512}
use Rattle.wait_model.specs.declared.calls.Call.TheVariants as calls
use Rattle.wait_model.specs.declared.calls.Event.TheVariants as event
use Rattle.wait_model.specs.declared.queues.Form.TheVariants as forms
use Rattle.wait_model.specs.declared.tasks.SleepState.TheVariants as states
use Rattle.left_sentences.specs.{CondWays.cond_ways, LeftWords.IsLeftWord}

abbrev pub waits_plainly : Call
waits_plainly = calls.Wait 0 (record { state = states.Uninterruptible; exclusive = false })

-- asked in its first hold
abbrev pub gone_at_first : List Event
gone_at_first = event.Load 0 0 ∷ event.Lock FIRST_PLAIN_HEAD ∷ event.Unlock FIRST_PLAIN_HEAD false
    ∷ event.Load 0 0 ∷ []

-- asked before its sleep, and again in its next hold
abbrev pub gone_unslept : List Event
gone_unslept = event.Load 0 0 ∷ event.Lock FIRST_PLAIN_HEAD ∷ event.Queue FIRST_PLAIN_HEAD forms.Front
    ∷ event.State UNINTERRUPTIBLE ∷ event.Unlock FIRST_PLAIN_HEAD false ∷ event.Load 0 0 ∷ event.State 0
    ∷ event.Lock FIRST_PLAIN_HEAD ∷ event.Unqueue 1 ∷ event.Unlock FIRST_PLAIN_HEAD false ∷ event.Load 0 0 ∷ []

abbrev pub gone_locked : List Event
gone_locked = event.Load 0 0 ∷ event.Lock FIRST_PLAIN_HEAD ∷ []

abbrev pub gone_queued : List Event
gone_queued = event.Load 0 0 ∷ event.Lock FIRST_PLAIN_HEAD ∷ event.Queue FIRST_PLAIN_HEAD forms.Front
    ∷ event.State UNINTERRUPTIBLE ∷ event.Unlock FIRST_PLAIN_HEAD false ∷ event.Load 0 0 ∷ event.State 0 ∷ []

abbrev pub IsGone : List Event → Answer → Type 0
IsGone w a = IsLeftWord 1 waits_plainly (cond_ways 1 waits_plainly) w a

pub record WorkedWays : Type 0 where
  pub once : IsGone gone_at_first minus_512
  pub twice : IsGone gone_unslept minus_512
  pub locked : (a : Answer) → IsGone gone_locked a → ⊥
  pub queued : (a : Answer) → IsGone gone_queued a → ⊥
