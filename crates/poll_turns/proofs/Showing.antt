-- What the stretches show: events, looks, no sleep but at its stage, and the lock that was given back.
use Rattle.std.proofs.Common.{◌∙◌, ap, sym, refl, subst, inl, inr, append-nil, append_assoc}
use Rattle.std.specs.Prelude.{ℕ, ◌≡◌, Bool, true, false, Option, Some, None, Result, Ok, Err, List, [], ◌∷◌, ◌++◌}
use Rattle.wait_model.specs.{declared.layout.TheConstants.HEADS, declared.steps.Step.Step, declared.watches.Entry.Entry}
use Rattle.wait_model.specs.{declared.watches.Watch.Watch, Watches.kind_for}
use Rattle.wait_model.specs.declared.points.Next.TheVariants as next
use Rattle.wait_model.specs.declared.points.Point.TheVariants as at
use Rattle.wait_model.specs.declared.points.PreparePoint.TheVariants as preparing
use Rattle.wait_model.specs.declared.steps.Step.TheVariants as step
use Rattle.wait_rule.specs.declared.journal.Item.TheVariants as item
use Rattle.wait_rule.specs.{Items.steps_of, Known.Known, Says.added, Says.history_of}
use Rattle.wait_rule.specs.{declared.tries.FailedTries.FailedTries, Tried.IsOneMore}
use Rattle.wait_rule.specs.Queues.{index, saw, walk_of_hold}
use Rattle.wait_rule.specs.Transitions.{after_step_or_look, by_step, with_lock}
use Rattle.wait_rule.proofs.{KnownLaws.TaskHistories.history_after, TableSteps.ItemLists.steps_append}
use Rattle.wq_head.specs.{declared.adds.Worn.Worn, Holds.HasWaited}
use Rattle.wq_head.specs.LockTurns.{AwaitsLock, FindsOther, TookLock}
use Rattle.wait_class.specs.Handing.{LastGiven, given_back_by, last_given_back}
use Rattle.wait_class.specs.Posts.{HasSeenOwn}
use Rattle.wait_class.specs.Tables.{MadeEvent, SleepsNot, is_sleep}
use Rattle.wait_class.specs.declared.stages.Turn.TheVariants as turn
use Rattle.wait_class.proofs.AwakeSteps.{awake_seen, awake_step, awake_still, awake_stored, only_awake, sleeps_not_on, sleeps_not_same}
use Rattle.wait_class.proofs.Handed.{given_on, given_seen, given_step, given_still}
use Rattle.wait_class.proofs.Histories.{awake_more, unlocked_history}
use Rattle.wait_event.specs.PartSteps.{ParesPart}
use Rattle.poll_wait.specs.{declared.turns.Loads.Loads, declared.turns.Poll.Poll, Seconds.IsPolled}
use Rattle.poll_wait.specs.Polls.{IsPoll, front_in, loaded}
use Rattle.poll_wait.specs.SecondSteps.{HasSeenSecond, JoinsHeld, ParesSecond, joined_at}
use Rattle.poll_wait.proofs.{Near.IsNearStep, Near.goes_near, Polled.polled_low}
use Rattle.poll_wait.proofs.Programs.{OnPrepare, join_near, prepare_near}
use Rattle.poll_turns.specs.{declared.stages.PollStage.PollStage, declared.stages.PollUntil.PollUntil}
use Rattle.poll_turns.specs.{PollSteps.GivesHoldBack, PollSteps.JoinsFirst, PollTurns.PollTurn, PollTurns.leaves_at}
use Rattle.poll_turns.specs.PollShows.{DidStretch, HasFailedSleep, FindsOtherServed, PollShows, SleepsAt}
use Rattle.poll_turns.specs.declared.stages.PollStage.TheVariants as stage

-- steps one after another
last_on : (es fs : List Step) (h : ℕ) → last_given_back (es ++ fs) h ≡ last_given_back fs (last_given_back es h)
last_on [] fs h = refl
last_on (e ∷ es) fs h = last_on es fs (given_back_by e h)

-- the task made steps that are no sleep and give no lock back
pub record Quiet (old new : Known) : Type 0 where
  pub awake : SleepsNot old new
  pub given : LastGiven old new HEADS

pub quiet_on : (old mid new : Known) → Quiet old mid → Quiet mid new → Quiet old new
quiet_on old mid new a b = record {
  awake = sleeps_not_on old mid new a.awake b.awake;
  given = given_on old mid new HEADS a.given b.given;
}

pub quiet_same : (old new : Known) → history_of new ≡ history_of old → Quiet old new
quiet_same old new is = record { awake = awake_still old new is; given = given_still old new is }

-- an event, and then more
pub made_then : (old mid new : Known) (e : Step) → mid ≡ added old (item.Made e) → SleepsNot mid new → MadeEvent old new
made_then old mid new e is more = record {
  before = [];
  event = e;
  behind = more.steps;
  is = more.history ∙ (ap (λ (l : List Step). l ++ more.steps) (history_after old mid e is)
      ∙ append_assoc (history_of old) (e ∷ []) more.steps);
}

-- both loads
pub loads_quiet : (p : Poll) (l : Loads) (old new : Known) → new ≡ loaded p l old → Quiet old new
loads_quiet p l old new is =
    let mid = added old (item.Made (step.Load p.first l.first)) in
    quiet_on old mid new
    (record {
      awake = awake_step old mid (step.Load p.first l.first) refl refl;
      given = given_step old mid (step.Load p.first l.first) refl;
    })
    (record {
      awake = awake_step mid new (step.Load p.second l.second) is refl;
      given = given_step mid new (step.Load p.second l.second) is;
    })

pub loads_made : (p : Poll) (l : Loads) (old new : Known) → new ≡ loaded p l old → MadeEvent old new
loads_made p l old new is =
    let mid = added old (item.Made (step.Load p.first l.first)) in
    made_then old mid new (step.Load p.first l.first) refl (awake_step mid new (step.Load p.second l.second) is refl)

-- looks at the own entries
pub first_quiet : (old new : Known) (o : Option Entry) → HasSeenOwn old new o → Quiet old new
first_quiet old new o own = record { awake = awake_seen old new o own; given = given_seen old new o own }

saw_awake : (h : Option ℕ) (x w : ℕ) → is_sleep (saw h x w) ≡ false
saw_awake None x w = refl
saw_awake (Some h) x w = refl

saw_gives : (h : Option ℕ) (x w n : ℕ) → n ≡ last_given_back (saw h x w ∷ []) n
saw_gives None x w n = refl
saw_gives (Some h) x w n = refl

pub second_quiet : (old new : Known) (o : Option Entry) → HasSeenSecond old new o → Quiet old new
second_quiet old new o own =
    let e = saw old.book.head (index old.view.number 1) own.word in record {
      awake = awake_step old new e own.is (saw_awake old.book.head (index old.view.number 1) own.word);
      given = record {
        steps = e ∷ [];
        history = history_after old new e own.is;
        last = saw_gives old.book.head (index old.view.number 1) own.word HEADS;
      };
    }

pub second_made : (old mid new : Known) (o : Option Entry) → HasSeenSecond old mid o → Quiet mid new → MadeEvent old new
second_made old mid new o own q = made_then old mid new (saw old.book.head (index old.view.number 1) own.word) own.is q.awake

-- a draw, and looks at the served number
waited_still : (start now : Known) (h t : ℕ) → HasWaited (added start (item.Drawn h t)) now
    → history_of now ≡ history_of start
waited_still start now h t w = ap history_of w.is ∙ (steps_append (start.view.items ++ item.Drawn h t ∷ []) w.tries
    ∙ (ap (λ (l : List Step). steps_of (start.view.items ++ item.Drawn h t ∷ []) ++ l) w.no_steps
    ∙ (append-nil (steps_of (start.view.items ++ item.Drawn h t ∷ []))
    ∙ (steps_append start.view.items (item.Drawn h t ∷ []) ∙ append-nil (history_of start)))))

pub waits_still : (start now : Known) (h t : ℕ) → AwaitsLock start now h t → history_of now ≡ history_of start
waits_still start now h t x = waited_still start now h t x.waits

served_still : (old new : Known) (h w : ℕ) → new ≡ added old (item.Serving h w) → history_of new ≡ history_of old
served_still old new h w is = ap history_of is
    ∙ (steps_append old.view.items (item.Serving h w ∷ []) ∙ append-nil (history_of old))

locked_history : (start a : Known) (h : ℕ) (took : TookLock start a h)
    → history_of a ≡ history_of start ++ step.Lock h (walk_of_hold h None) took.locked.found ∷ []
locked_history start a h took =
    let l = took.locked in
    let e = step.Lock h (walk_of_hold h None) l.found in
    let turn = added l.waited (item.Serving h l.ticket) in
    ap history_of l.is ∙ (history_after turn (added turn (item.Made e)) e refl
    ∙ ap (λ (z : List Step). z ++ e ∷ []) (served_still l.waited turn h l.ticket refl
    ∙ waited_still start l.waited h l.ticket l.waits))

-- the steps of a program in a hold
near_awake : (own : Option ℕ) (e : Step) → IsNearStep own e → is_sleep e ≡ false
near_awake own (step.State s) near = refl
near_awake own (step.Lock h aim w) near = refl
near_awake own (step.Unlock h used) near = refl
near_awake own (step.Queue x e) near = refl
near_awake own (step.Peek x w) near = refl
near_awake own (step.Unqueue x) near = refl
near_awake own e near = absurd near

placed : (e : Step) (k : Known) → history_of (with_lock e k) ≡ history_of k
placed (step.Lock h aim w) k = refl
placed e k = refl

near_steps : (own : Option ℕ) (k : Known) (e : Step) → IsNearStep own e → SleepsNot k (after_step_or_look (by_step e) k)
near_steps own k e near = sleeps_not_on k (added k (item.Made e)) (after_step_or_look (by_step e) k)
    (awake_step k (added k (item.Made e)) e refl (near_awake own e near))
    (awake_still (added k (item.Made e)) (after_step_or_look (by_step e) k) (placed e (added k (item.Made e))))

pub join_first_awake : (p : Poll) → IsPoll p → (old new : Known) (r : Result Bool Worn) → JoinsFirst p old new r
    → SleepsNot old new
join_first_awake p is old new (Ok first) x = goes_near _ OnPrepare
    (prepare_near old.view.number p.first (polled_low p.first is.first) (kind_for p.first) (front_in p.state)) SleepsNot
    sleeps_not_on only_awake (near_steps _) x.runs.transitions old (next.Go (at.Prepare preparing.Queue)) new
    (next.Go (at.Prepare preparing.Unlock)) tt x.runs.goes
join_first_awake p is old new (Err w) x = only_awake old new x.looks

pub join_second_awake : (w : Watch) → IsPolled w → (old new : Known) (r : Result (Unit {0}) Worn) → JoinsHeld w old new r
    → SleepsNot old new
join_second_awake w is old new (Ok u) x = goes_near _ OnPrepare (join_near old.view.number w (polled_low w is)) SleepsNot
    sleeps_not_on only_awake (near_steps _) x.runs.transitions old (next.Go (at.Prepare preparing.Queue)) new
    (next.Go (joined_at x.still)) tt x.runs.goes
join_second_awake w is old new (Err v) x = only_awake old new x.looks

pub pare_first_awake : (old new : Known) (found : Bool) → ParesPart old new found → SleepsNot old new
pare_first_awake old new true x = sleeps_not_on old x.seen new (awake_seen old x.seen x.entry x.looked)
    (awake_stored x.seen new (step.Unqueue (index x.seen.view.number 0)) x.takes.is refl)
pare_first_awake old new false x = sleeps_not_on old x.seen new (awake_seen old x.seen x.entry x.looked)
    (sleeps_not_same x.seen new x.takes)

pub pare_second_awake : (old new : Known) (found : Bool) → ParesSecond old new found → SleepsNot old new
pare_second_awake old new true x = sleeps_not_on old x.seen new (second_quiet old x.seen x.entry x.looked).awake
    (awake_stored x.seen new (step.Unqueue (index x.seen.view.number 1)) x.takes.is refl)
pare_second_awake old new false x = sleeps_not_on old x.seen new (second_quiet old x.seen x.entry x.looked).awake
    (sleeps_not_same x.seen new x.takes)

-- A hold: the lock, what is done there, and the unlock.
module _ (start old a b new : Known) (h t : ℕ) (waits : AwaitsLock start old h t) (took : TookLock start a h)
    (did : SleepsNot a b) (gives : GivesHoldBack b new) where
  abbrev locks : Step
  locks = step.Lock h (walk_of_hold h None) took.locked.found

  lock_step : history_of a ≡ history_of old ++ locks ∷ []
  lock_step = locked_history start a h took ∙ ap (λ (l : List Step). l ++ locks ∷ []) (sym (waits_still start old h t waits))

  abbrev steps : List Step
  steps = locks ∷ (did.steps ++ step.Unlock b.at false ∷ [])

  history : history_of new ≡ history_of old ++ steps
  history = unlocked_history b new gives.is ∙ (ap (λ (l : List Step). l ++ step.Unlock b.at false ∷ [])
      (did.history ∙ (ap (λ (l : List Step). l ++ did.steps) lock_step
      ∙ append_assoc (history_of old) (locks ∷ []) did.steps))
      ∙ append_assoc (history_of old) (locks ∷ did.steps) (step.Unlock b.at false ∷ []))

  pub hold_made : MadeEvent old new
  hold_made = record { before = []; event = locks; behind = did.steps ++ step.Unlock b.at false ∷ []; is = history }

  pub hold_awake : SleepsNot old new
  hold_awake = record {
    steps = steps;
    history = history;
    awake = awake_more did.steps (step.Unlock b.at false ∷ []) did.awake refl;
  }

  pub hold_given : LastGiven old new b.at
  hold_given = record {
    steps = steps;
    history = history;
    last = sym (last_on did.steps (step.Unlock b.at false ∷ []) HEADS);
  }

-- by the stage
pub sleeps_by : (s : PollStage) (old new : Known) → SleepsNot old new → SleepsAt s old new
sleeps_by (stage.Sleep f) old new x = tt
sleeps_by s old new x = x

pub hold_did : (p : Poll) (start old a b new : Known) (h t : ℕ) → AwaitsLock start old h t → TookLock start a h
    → SleepsNot a b → GivesHoldBack b new → (s : PollStage) (u : PollTurn)
    → ((k l : Known) → MadeEvent k l → PollShows p k l s u) → (head : ℕ) → head ≡ b.at → DidStretch p old new head s u
hold_did p start old a b new h t waits took did gives s u shows head is_head = record {
  shows = shows old new (hold_made start old a b new h t waits took did gives);
  sleeps = sleeps_by s old new (hold_awake start old a b new h t waits took did gives);
  given = subst (LastGiven old new) (sym is_head) (hold_given start old a b new h t waits took did gives);
}

pub hold_waits : (p : Poll) (old new : Known) (h t served head : ℕ) → FindsOther old new h t served → head ≡ HEADS
    → (s n : PollStage) → FindsOtherServed p new n → DidStretch p old new head s (turn.Locked n)
hold_waits p old new h t served head x is_head s n found =
    let q = quiet_same old new (served_still old new h served x.looked) in record {
      shows = found;
      sleeps = sleeps_by s old new q.awake;
      given = subst (LastGiven old new) (sym is_head) q.given;
    }

-- outside of holds
pub quiet_again : (p : Poll) (old new : Known) (s n : PollStage) → Quiet old new → MadeEvent old new
    → DidStretch p old new HEADS s (turn.Again n)
quiet_again p old new s n q made = record { shows = inl made; sleeps = sleeps_by s old new q.awake; given = q.given }

pub loads_again : (p : Poll) (l : Loads) (old new : Known) → new ≡ loaded p l old → (s n : PollStage)
    → DidStretch p old new HEADS s (turn.Again n)
loads_again p l old new is s n = quiet_again p old new s n (loads_quiet p l old new is) (loads_made p l old new is)

pub quiet_done : (p : Poll) (old new : Known) (s : PollStage) (end : PollUntil) → Quiet old new
    → DidStretch p old new HEADS s (turn.Done end)
quiet_done p old new s end q = record { shows = tt; sleeps = sleeps_by s old new q.awake; given = q.given }

pub step_quiet : (old new : Known) (e : Step) → new ≡ added old (item.Made e) → is_sleep e ≡ false
    → given_back_by e HEADS ≡ HEADS → Quiet old new
step_quiet old new e is none same = record {
  awake = awake_step old new e is none;
  given = record { steps = e ∷ []; history = history_after old new e is; last = sym same };
}

pub step_made : (old new : Known) (e : Step) → new ≡ added old (item.Made e) → MadeEvent old new
step_made old new e is = made_then old new new e is (sleeps_not_same new new refl)

-- a sleep
pub sleep_failed : (p : Poll) (old new : Known) (f g : FailedTries) → new ≡ old → IsOneMore f g
    → DidStretch p old new HEADS (stage.Sleep f) (turn.Again (stage.Sleep g))
sleep_failed p old new f g same more = record {
  shows = inr (more, ap history_of same);
  sleeps = tt;
  given = given_still old new (ap history_of same);
}

pub slept_again : (p : Poll) (old new : Known) (f : FailedTries) (w : ℕ) → new ≡ added old (item.Made (step.Sleep w))
    → DidStretch p old new HEADS (stage.Sleep f) (turn.Again stage.QueueFirst)
slept_again p old new f w is = record {
  shows = inl (step_made old new (step.Sleep w) is);
  sleeps = tt;
  given = given_step old new (step.Sleep w) is;
}

pub slept_last : (p : Poll) (old new : Known) (f : FailedTries) (w : ℕ) → new ≡ added old (item.Made (step.Sleep w))
    → DidStretch p old new HEADS (stage.Sleep f) (turn.Asleep stage.QueueFirst)
slept_last p old new f w is = record {
  shows = record {
    before = [];
    found = w;
    is = history_after old new (step.Sleep w) is
        ∙ ap (λ (l : List Step). l ++ step.Sleep w ∷ []) (sym (append-nil (history_of old)));
  };
  sleeps = tt;
  given = given_step old new (step.Sleep w) is;
}

-- behind a draw
drawn_made : (old mid new : Known) → history_of mid ≡ history_of old → MadeEvent mid new → MadeEvent old new
drawn_made old mid new same m = record {
  before = m.before;
  event = m.event;
  behind = m.behind;
  is = m.is ∙ ap (λ (l : List Step). l ++ (m.before ++ m.event ∷ m.behind)) same;
}

drawn_shows : (p : Poll) (old mid new : Known) (s r : PollStage) → history_of mid ≡ history_of old
    → ((n : PollStage) → HasFailedSleep mid new s n → ⊥) → (u : PollTurn) → PollShows p mid new s u
    → PollShows p old new r u
drawn_shows p old mid new s r same none (turn.Again n) (inl m) = inl (drawn_made old mid new same m)
drawn_shows p old mid new s r same none (turn.Again n) (inr f) = absurd (none n f)
drawn_shows p old mid new s r same none (turn.Locked n) x = x
drawn_shows p old mid new s r same none (turn.Asleep n) x = record {
  before = x.before;
  found = x.found;
  is = x.is ∙ ap (λ (l : List Step). (l ++ x.before) ++ step.Sleep x.found ∷ []) same;
}
drawn_shows p old mid new s r same none (turn.Done end) x = tt

drawn_quiet : (old mid new : Known) (h : ℕ) → history_of mid ≡ history_of old → LastGiven mid new h → LastGiven old new h
drawn_quiet old mid new h same g = given_on old mid new h (given_still old mid same) g

pub drawn_did : (p : Poll) (old mid new : Known) (h : ℕ) (s r : PollStage) (u : PollTurn)
    → history_of mid ≡ history_of old → ((n : PollStage) → HasFailedSleep mid new s n → ⊥) → SleepsNot mid new
    → DidStretch p mid new h s u → DidStretch p old new h r u
drawn_did p old mid new h s r u same none awake d = record {
  shows = drawn_shows p old mid new s r same none u d.shows;
  sleeps = sleeps_by r old new (sleeps_not_on old mid new (awake_still old mid same) awake);
  given = drawn_quiet old mid new h same d.given;
}

-- no sleep where it is asked to leave
pub out_awake : (s : PollStage) (old new : Known) → leaves_at s ≡ false → SleepsAt s old new → SleepsNot old new
out_awake (stage.Sleep f) old new never x = absurd (cc)
out_awake stage.First old new never x = x
out_awake stage.QueueFirst old new never x = x
out_awake (stage.HoldFirst t) old new never x = x
out_awake stage.QueueSecond old new never x = x
out_awake (stage.HoldSecond t) old new never x = x
out_awake (stage.Load q) old new never x = x
out_awake (stage.Ask l) old new never x = x
out_awake (stage.TakeFirst e) old new never x = x
out_awake (stage.HoldTakeFirst e h t) old new never x = x
out_awake (stage.TakeSecond e) old new never x = x
out_awake (stage.HoldTakeSecond e h t) old new never x = x
