-- The sleep at the end of a turn, and the looks whether the task was woken.
use Rattle.std.proofs.Common.{◌∙◌, ap, sym, refl, subst, append-nil, inl, inr}
use Rattle.std.specs.Prelude.{ℕ, ◌≡◌, ◌⊎◌, Bool, true, false, MatchBool, List, [], ◌∷◌, ◌++◌}
use Rattle.wait_model.specs.declared.steps.Step.TheVariants as step
use Rattle.wait_model.specs.declared.tasks.Sleep.{Sleep}
use Rattle.wait_model.specs.declared.tasks.Sleep.TheVariants as sleep
use Rattle.wait_model.specs.Tasks.{IsLawfulWord, sleep_of, task_of}
use Rattle.wait_rule.specs.{declared.journal.Item.Item, Known.Known, Stays.Carries, Stays.state_change}
use Rattle.wait_rule.specs.Transitions.{OnlyLooks}
use Rattle.wait_rule.specs.Items.{Book, after_sleep, risen}
use Rattle.wait_rule.specs.Says.{HasLooked, HasSlept, IsUp, added, grown}
use Rattle.wait_rule.specs.declared.journal.Item.TheVariants as item
use Rattle.wait_rule.proofs.{KnownLaws.CarriedTasks.risen_carried, TableSteps.ItemLists.adds_append}
use Rattle.wait_rule.proofs.KnownLaws.SleepLooks.{listed, looked_on, none_counted, none_more}
use Rattle.wait_rule.proofs.KnownLaws.Transitions.{grown_more, only_none, only_on}
use Rattle.poll_wait.specs.declared.turns.Poll.{Poll}
use Rattle.poll_wait.specs.Polls.{IsPoll, SleepsTurn, SleepsTurns}
use Rattle.poll_wait.proofs.{Pairing.pairs_on, Pairing.still_pair, Polled.still_has}
use Rattle.wait_class.specs.declared.stages.Turn.TheVariants as turn
use Rattle.poll_turns.specs.declared.stages.PollStage.{PollStage}
use Rattle.poll_turns.specs.declared.stages.PollStage.TheVariants as stage
use Rattle.poll_turns.specs.PollTurns.{HasMadeTurns, IsPollAsleep, IsPollUnderWay, IsPolling, IsToSleep}

-- one turn more
sleeps_more : (p : Poll) (turns : List Known) (start now new : Known) → SleepsTurns p start turns now
    → SleepsTurn p now new → SleepsTurns p start (turns ++ new ∷ []) new
sleeps_more p [] start now new was t = (subst (λ (k : Known). SleepsTurn p k new) was t, refl)
sleeps_more p (next ∷ more) start now new was t = (was.0, sleeps_more p more next now new was.1 t)

pub turned_more : (p : Poll) → IsPoll p → (start asked new : Known) (b : IsToSleep p start asked) (answer : Sleep)
    → HasSlept asked new answer → Carries (state_change 0) asked new → HasMadeTurns p start new
turned_more p is start asked new b answer slept c =
    let t = b.within.turned in record {
      begins = t.begins;
      loads = t.loads;
      unset = t.unset;
      turns = t.turns ++ new ∷ [];
      sleeps = sleeps_more p t.turns _ b.last new t.sleeps (record {
        queued = b.queued;
        queues = b.queues;
        loads = b.loads;
        unset = b.unset;
        asked = asked;
        asks = b.asks;
        answer = answer;
        sleeps = slept;
      });
      may = record { has = still_has p is (λ _. 0) asked new c b.within.has; running = c.state };
      carries = pairs_on (λ _. 0) (λ _. 0) start b.last new t.carries
          (pairs_on (λ _. b.within.carries.state) (λ _. 0) b.last asked new b.within.carries.carries
          (still_pair (λ _. 0) asked new c));
    }

-- a sleep that left it awake
up_again : (x : Sleep) (b : Book) → b.awake ≡ true → (x ≡ sleep.Stay) ⊎ (x ≡ sleep.Signal) → after_sleep x b ≡ risen b
up_again x b up (inl is) = ap (λ (y : Sleep). after_sleep y b) is ∙ ap (λ (a : Bool). record b { state = 0; awake = a }) up
up_again x b up (inr is) = ap (λ (y : Sleep). after_sleep y b) is ∙ ap (λ (a : Bool). record b { state = 0; awake = a }) up

pub slept_awake : (old new : Known) (w : ℕ) (x : Sleep) → IsUp old → IsLawfulWord w
    → new ≡ added old (item.Made (step.Sleep w)) → x ≡ sleep_of (task_of w) → (x ≡ sleep.Stay) ⊎ (x ≡ sleep.Signal)
    → HasSlept old new x
slept_awake old new w x up lawful is tells stays = record {
  found = w;
  looks = [];
  lawful = lawful;
  is = is ∙ ap (grown old (item.Made (step.Sleep w) ∷ []))
      (ap (λ (y : Sleep). after_sleep y old.book) (sym tells) ∙ up_again x old.book up stays);
  no_steps = refl;
  no_adds = tt;
  uncounted = λ n. refl;
  answers = tells;
}

-- a sleep that put it asleep
pub falls_asleep : (p : Poll) (start old new : Known) (w : ℕ) (x : Sleep) → IsToSleep p start old → IsLawfulWord w
    → new ≡ added old (item.Made (step.Sleep w)) → x ≡ sleep_of (task_of w) → x ≡ sleep.Asleep → IsPollAsleep p start new
falls_asleep p start old new w x b lawful is tells down = record {
  asked = old;
  before = b;
  found = w;
  lawful = lawful;
  asleep = sym tells ∙ down;
  looked = record {
    looks = [];
    is = is ∙ ap (λ (l : List Item). listed (added old (item.Made (step.Sleep w))) l (added old (item.Made (step.Sleep w))).book)
        (sym (append-nil (added old (item.Made (step.Sleep w))).view.items));
    no_steps = refl;
    no_adds = tt;
    uncounted = λ n. refl;
  };
  only = subst (OnlyLooks (added old (item.Made (step.Sleep w)))) (sym is)
      (only_none (added old (item.Made (step.Sleep w))));
}

-- a look at the own word
module _ (p : Poll) (is : IsPoll p) (start old : Known) (z : IsPollAsleep p start old) (new : Known) (w : ℕ)
    (looks : new ≡ added old (item.Awake w)) where
  abbrev slept : Known
  slept = added z.asked (item.Made (step.Sleep z.found))

  book : slept.book ≡ after_sleep sleep.Asleep z.asked.book
  book = ap (λ (y : Sleep). after_sleep y z.asked.book) z.asleep

  down : slept.book.awake ≡ false
  down = ap (λ (b : Book). b.awake) book

  looked : (runs : Bool) → (task_of w).runnable ≡ runs → HasLooked slept new runs
  looked runs shows = record {
    looks = z.looked.looks ++ item.Awake w ∷ [];
    is = looked_on slept old new z.looked.looks w runs
        z.looked.is
        looks down shows;
    no_steps = none_more z.looked.looks w z.looked.no_steps;
    no_adds = adds_append z.looked.looks (item.Awake w ∷ []) z.looked.no_adds (tt, tt);
    uncounted = none_counted z.looked.looks w z.looked.uncounted;
  }

  rose : (task_of w).runnable ≡ true → HasSlept z.asked new sleep.Asleep
  rose shows =
      let l = looked true shows in record {
        found = z.found;
        looks = l.looks;
        lawful = z.lawful;
        is = l.is ∙ (grown_more z.asked (item.Made (step.Sleep z.found) ∷ []) l.looks slept.book (risen slept.book)
            ∙ ap (grown z.asked (item.Made (step.Sleep z.found) ∷ l.looks)) (ap risen book));
        no_steps = l.no_steps;
        no_adds = l.no_adds;
        uncounted = l.uncounted;
        answers = sym z.asleep;
      }

  pub woken_on : (task_of w).runnable ≡ true → HasMadeTurns p start new
  woken_on shows = turned_more p is start z.asked new z.before sleep.Asleep (rose shows)
      (risen_carried z.asked slept new z.found z.before.within.has.up refl (looked true shows))

  pub dozes_on : (task_of w).runnable ≡ false → IsPollAsleep p start new
  dozes_on shows = record {
    asked = z.asked;
    before = z.before;
    found = z.found;
    lawful = z.lawful;
    asleep = z.asleep;
    looked = looked false shows;
    only = only_on slept old new z.only (record { items = item.Awake w ∷ []; looks = (tt, tt); is = looks });
  }

-- by what the look answers
pub woke_as : (b : Bool) (p : Poll) → IsPoll p → (start old new : Known) (s : PollStage) (w : ℕ)
    → new ≡ added old (item.Awake w) → (runs : Bool) → runs ≡ (task_of w).runnable
    → IsPolling b p start old (turn.Asleep s)
    → MatchBool runs (IsPolling b p start new (turn.Again s)) (IsPolling b p start new (turn.Asleep s))
woke_as b p is start old new stage.QueueFirst w looks true shows x = woken_on p is start old x new w looks (sym shows)
woke_as b p is start old new stage.QueueFirst w looks false shows x = dozes_on p is start old x new w looks (sym shows)
woke_as b p is start old new s w looks runs shows x = absurd x

pub woke_stands : (b : Bool) (p : Poll) (start new : Known) (s : PollStage) (runs : Bool)
    → MatchBool runs (IsPolling b p start new (turn.Again s)) (IsPolling b p start new (turn.Asleep s))
    → MatchBool runs (IsPollUnderWay p new (turn.Again s)) (IsPollUnderWay p new (turn.Asleep s))
woke_stands b p start new s true x = (b, start, x)
woke_stands b p start new s false x = (b, start, x)
