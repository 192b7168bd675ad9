-- To be believed.
-- Waits for pages that are left: the ways out.
use Rattle.std.specs.Prelude.{ℕ, ◌≡◌, ◌⊎◌, true, false, Result, List, [], ◌∷◌}
use Rattle.wait_model.specs.{declared.calls.Answer.Answer, declared.calls.Event.Event}
use Rattle.wait_model.specs.{declared.tasks.SleepState.SleepState, Watches.page}
use Rattle.wait_model.specs.SentenceSteps.{finishes, minus_4, number}
use Rattle.wait_model.specs.declared.calls.Call.TheVariants as calls
use Rattle.wait_model.specs.declared.calls.Event.TheVariants as event
use Rattle.wait_model.specs.Phrases.{Phrase, ◌>>=◌, ◌>>◌, finds, gives, makes, when◌then◌otherwise◌}
use Rattle.wait_rule.specs.{Known.Known, Says.MeetsLaw}
use Rattle.wait_class.specs.declared.stages.Turn.TheVariants as turn
use Rattle.wait_class.specs.Posts.{IsOut}
use Rattle.wait_leave.specs.declared.exits.Until.{Until}
use Rattle.wait_leave.specs.declared.exits.Until.TheVariants as until
use Rattle.bit_wait.specs.declared.wait_calls.BitEnd.{BitEnd}
use Rattle.page_lock.specs.{PageLeaves.EndsPageUntil, PageLeaves.page_exits, PageTables.page_table}
use Rattle.page_lock.specs.declared.waits.PageStage.TheVariants as stage
use Rattle.left_sentences.specs.LeftWords.{IsLeftWord, WaysOut, holds_lock}
use Rattle.left_sentences.specs.WaySays.{way_says}

-- Who has queued nothing is over at once. Who may have its entry queued finishes, and takes the page that was handed to
-- it until then.
abbrev pub finishes_and_takes : ℕ → ℕ → Phrase Answer
finishes_and_takes me p = do
  finishes me (page p) true
  flagged ← finds event.Flag
  when flagged then (do makes event.Unflag; gives (number 0)) otherwise gives minus_4

pub data PageWay : Type 0 where
  at_once : PageWay
  by_finish : PageWay

abbrev pub page_phrase : ℕ → ℕ → PageWay → Phrase Answer
page_phrase me p at_once = gives minus_4
page_phrase me p by_finish = finishes_and_takes me p

-- It has found the page set, and at most cleared its flag; or it holds no lock.
abbrev pub PageFrom : ℕ → PageWay → List Event → Type 0
PageFrom p at_once trail = (trail ≡ event.Tas p 0 1 ∷ []) ⊎ (trail ≡ event.Unflag ∷ event.Tas p 0 1 ∷ [])
PageFrom p by_finish trail = holds_lock trail ≡ false

abbrev pub page_ways : ℕ → ℕ → WaysOut PageWay
page_ways me p = record { phrase = page_phrase me p; From = PageFrom p }

-- what such a wait made
abbrev pub page_says : {A : Type 0} (old new : Known) (p : ℕ) (st : SleepState)
    (result : Until (Result (Unit {0}) BitEnd)) → EndsPageUntil A old new p st result → List Event
page_says old new p st result e = way_says page_table page_exits old e.first stage.First new e.leaves.at
    (turn.Done e.leaves.outcome) e.leaves.came

-- A wait for a page that was left, for this cause, made such a word; a load of the base word after it (`Task::witness`)
-- shows the table that is asked for.
abbrev pub LeftPagesFollow : Type 0 → Type 0
LeftPagesFollow A = (old new : Known) (p : ℕ) (st : SleepState) (seen : ℕ) → MeetsLaw new.view → IsOut old
    → (e : EndsPageUntil A old new p st (until.Left seen))
    → IsLeftWord old.view.number (calls.LockPage p st) (page_ways old.view.number p)
    (page_says old new p st (until.Left seen) e) minus_4
