-- What a poll leaves alone, part by part.
use Rattle.std.proofs.Common.{◌∙◌, ap, sym, refl, subst, inl, inr}
use Rattle.std.specs.Prelude.{◌≡◌, ◌<◌, Bool, true, false, Option, Some, None, Result, Ok, Err, List, [], ◌∷◌}
use Rattle.wait_model.specs.{declared.layout.TheConstants.FIRST_DONE_HEAD, declared.calls.Answer.Answer}
use Rattle.wait_model.specs.{declared.tasks.How.How, declared.tasks.Sleep.Sleep, declared.tasks.SleepState.SleepState}
use Rattle.wait_model.specs.{declared.watches.Kind.Kind, declared.watches.Watch.Watch, Programs.zero_answer}
use Rattle.wait_model.specs.{Tasks.looks_in, Watches.head_of, Watches.kind_for}
use Rattle.wait_model.specs.declared.points.FinishPoint.TheVariants as finishing
use Rattle.wait_model.specs.declared.points.Next.TheVariants as next
use Rattle.wait_model.specs.declared.points.Point.TheVariants as at
use Rattle.wait_model.specs.declared.points.PreparePoint.TheVariants as preparing
use Rattle.wait_model.specs.declared.steps.Step.TheVariants as step
use Rattle.wait_rule.specs.declared.journal.Item.TheVariants as item
use Rattle.wait_rule.specs.{declared.journal.Journal.Journal, Aside.signals_of, Items.book_from, Items.steps_of}
use Rattle.wait_rule.specs.{Known.Known, Pipes.end_of, PipeSays.KeepsEnd, Tallies.amounts_of}
use Rattle.wait_rule.specs.Says.{HasSlept, added, grown, told_of}
use Rattle.wait_rule.proofs.KnownLaws.CalledPermits.{left_on}
use Rattle.wait_rule.proofs.KnownLaws.Transitions.{grown_more, looks_of, only_none}
use Rattle.wait_event.specs.Prepares.{HasFinished, Prepares}
use Rattle.wq_head.specs.declared.adds.Worn.{Worn}
use Rattle.poll_wait.specs.{declared.turns.Loads.Loads, declared.turns.Poll.Poll, declared.turns.PollEnd.PollEnd}
use Rattle.poll_wait.specs.{declared.turns.Ready.Ready, Seconds.HasLeftSecond, Seconds.JoinsSecond}
use Rattle.poll_wait.specs.Polls.{AsksIf, AsksSignal, EndsLast, EndsPoll, EndsQueueing, FindsNoPlace, PollGoesOn}
use Rattle.poll_wait.specs.Polls.{IsPoll, LeavesBoth, QueuesBoth, SleepsTurn, SleepsTurns, StaysBesidePoll, front_in}
use Rattle.poll_wait.specs.Polls.{loaded, ready_of}
use Rattle.poll_wait.specs.declared.turns.PollEnd.TheVariants as poll_end
use Rattle.poll_wait.proofs.{Near.goes_near, Polled.polled_low}
use Rattle.poll_wait.proofs.Beside.{Beside, beside_join, looks_beside, near_steps, step_beside}
use Rattle.poll_wait.proofs.Programs.{OnFinish, OnPrepare, finish_near, join_near, leave_near, prepare_near}

-- the parts
pub prepares_beside : (old new : Known) (w : Watch) (k : Kind) (how : How) (a : Answer) → head_of w < FIRST_DONE_HEAD
    → Prepares old new w k how false a → Beside old new
prepares_beside old new w k how a low x = goes_near _ OnPrepare (prepare_near old.view.number w low k how) Beside
    beside_join looks_beside (near_steps _) x.runs.transitions old (next.Go (at.Prepare preparing.Lock)) new (next.Ends a)
    tt x.runs.goes

pub joins_beside : (old new : Known) (w : Watch) (a : Answer) → head_of w < FIRST_DONE_HEAD → JoinsSecond old new w a
    → Beside old new
joins_beside old new w a low x = goes_near _ OnPrepare (join_near old.view.number w low) Beside beside_join looks_beside
    (near_steps _) x.transitions old (next.Go (at.Prepare preparing.Lock)) new (next.Ends a) tt x.goes

pub finish_beside : (old new : Known) → HasFinished old new → Beside old new
finish_beside old new x = goes_near _ OnFinish (finish_near old.view.number x.watch) Beside beside_join looks_beside
    (near_steps _) x.runs.transitions old (next.Go (at.Finish finishing.State false)) new (next.Ends zero_answer) tt
    x.runs.goes

pub leave_beside : (old new : Known) → HasLeftSecond old new → Beside old new
leave_beside old new x = goes_near _ OnFinish (leave_near old.view.number x.watch) Beside beside_join looks_beside
    (near_steps _) x.runs.transitions old (next.Go (at.Finish finishing.Look false)) new (next.Ends zero_answer) tt
    x.runs.goes

pub leaves_beside : (old new : Known) → LeavesBoth old new → Beside old new
leaves_beside old new x = beside_join old x.between new (finish_beside old x.between x.first)
    (leave_beside x.between new x.second)

pub loads_beside : (p : Poll) (l : Loads) (k : Known) → Beside k (loaded p l k)
loads_beside p l k =
    let j = added k (item.Made (step.Load p.first l.first)) in
    beside_join k j (loaded p l k) (step_beside k (step.Load p.first l.first) tt)
    (step_beside j (step.Load p.second l.second) tt)

-- loads behind a queueing, and then both are taken off
pub rest_beside : (p : Poll) (queued new : Known) (l : Loads) → LeavesBoth (loaded p l queued) new → Beside queued new
rest_beside p queued new l x = beside_join queued (loaded p l queued) new (loads_beside p l queued)
    (leaves_beside (loaded p l queued) new x)

pub none_beside : (k : Known) → Beside k k
none_beside k = looks_beside k k (only_none k)

pub asks_beside : (σ : SleepState) (old new : Known) (hit : Bool) → AsksSignal σ old new hit → Beside old new
asks_beside σ old new hit = by (looks_in σ)
  where
    by : (b : Bool) → AsksIf b σ old new hit → Beside old new
    by false x = subst (Beside old) (sym x.0) (none_beside old)
    by true x = subst (Beside old) (sym x.1) (step_beside old (step.Look x.0) tt)

-- what is known of the own word is no part of it
view_beside : (a b c : Known) → c.view ≡ b.view → Beside a b → Beside a c
view_beside a b c same x = record {
  aside = record {
    grows = record { items = x.aside.grows.items; view = same ∙ x.aside.grows.view };
    sums = λ p. ap (λ (v : Journal). amounts_of p v.items) same ∙ x.aside.sums p;
    signals = ap (λ (v : Journal). signals_of v.items) same ∙ x.aside.signals;
    claims = λ k. ap (λ (v : Journal). (end_of k v.items).mine) same ∙ x.aside.claims k;
  };
  ends = λ k. subst (λ (v : Journal). KeepsEnd (end_of k a.view.items) (end_of k v.items)) (sym same) (x.ends k);
  steps = x.steps;
  history = ap (λ (v : Journal). steps_of v.items) same ∙ x.history;
  low = x.low;
}

slept_beside : (old new : Known) (answer : Sleep) → HasSlept old new answer → Beside old new
slept_beside old new answer x =
    let slept = added old (item.Made (step.Sleep x.found)) in
    let behind = grown slept x.looks (book_from slept.book x.looks) in
    view_beside old behind new
    (ap (λ (k : Known). k.view) x.is
    ∙ sym (ap (λ (k : Known). k.view) (grown_more old (item.Made (step.Sleep x.found) ∷ []) x.looks slept.book
    (book_from slept.book x.looks))))
    (beside_join old slept behind (step_beside old (step.Sleep x.found) tt)
    (looks_beside slept behind (record {
      items = x.looks;
      looks = looks_of x.looks x.no_steps x.no_adds;
      is = refl;
    })))

module _ (p : Poll) (is : IsPoll p) where
  pub low_first : head_of p.first < FIRST_DONE_HEAD
  low_first = polled_low p.first is.first

  low_second : head_of p.second < FIRST_DONE_HEAD
  low_second = polled_low p.second is.second

  pub queues_beside : (old new : Known) → QueuesBoth p old new → Beside old new
  queues_beside old new x = beside_join old x.between new
      (prepares_beside old x.between p.first (kind_for p.first) (front_in p.state) zero_answer low_first x.first.0)
      (joins_beside x.between new p.second zero_answer low_second x.second.0)

  none_found : (old new : Known) (v : Worn) → FindsNoPlace p old new v → Beside old new
  none_found old new v (inl x) = prepares_beside old new p.first (kind_for p.first) (front_in p.state) _ low_first x.0
  none_found old new v (inr x) = beside_join old x.between new
      (prepares_beside old x.between p.first (kind_for p.first) (front_in p.state) zero_answer low_first x.first.0)
      (joins_beside x.between new p.second _ low_second x.second.0)

  queueing_beside : (old new : Known) (r : Result (Unit {0}) Worn) → EndsQueueing p old new r → Beside old new
  queueing_beside old new (Ok u) x = queues_beside old new x
  queueing_beside old new (Err v) x = none_found old new v x

  turn_beside : (old new : Known) → SleepsTurn p old new → Beside old new
  turn_beside old new x =
      let seen = loaded p x.loads x.queued in
      beside_join old x.queued new (queues_beside old x.queued x.queues)
      (beside_join x.queued seen new (loads_beside p x.loads x.queued)
      (beside_join seen x.asked new (asks_beside p.state seen x.asked false x.asks)
      (slept_beside x.asked new x.answer x.sleeps)))

  pub turns_beside : (turns : List Known) (old new : Known) → SleepsTurns p old turns new → Beside old new
  turns_beside [] old new same = subst (Beside old) (sym same) (none_beside old)
  turns_beside (mid ∷ more) old new x = beside_join old mid new (turn_beside old mid x.0)
      (turns_beside more mid new x.1)

  last_beside : (old new : Known) (r : Result Ready PollEnd) → EndsLast p old new r → Beside old new
  last_beside old new (Ok r) x = beside_join old x.queued new (queueing_beside old x.queued x.outcome x.queues)
      (rest_beside p x.queued new x.loads x.leaves)
  last_beside old new (Err (poll_end.Signal first second)) x =
      let l : Loads = record { first = first; second = second } in
      let seen = loaded p l x.queued in
      beside_join old x.queued new (queues_beside old x.queued x.queues)
      (beside_join x.queued seen new (loads_beside p l x.queued)
      (beside_join seen x.asked new (asks_beside p.state seen x.asked true x.asks) (leaves_beside x.asked new x.leaves)))
  last_beside old new (Err (poll_end.Worn head place)) x = beside_join old x.queued new
      (none_found old x.queued (record { head = head; place = place }) x.queues)
      (rest_beside p x.queued new x.loads x.leaves)

  goes_beside : (o : Option Ready) (old new : Known) (r : Result Ready PollEnd) → PollGoesOn p o old new r → Beside old new
  goes_beside (Some q) old new r x = subst (Beside old) (sym x.0) (none_beside old)
  goes_beside None old new r x = beside_join old x.last new (turns_beside x.turns old x.last x.sleeps)
      (last_beside x.last new r x.ends)

  pub stays_beside : (old new : Known) (r : Result Ready PollEnd) → (told_of old).hold.head ≡ None
      → new.view.number ≡ old.view.number → EndsPoll p old new r → StaysBesidePoll old new
  stays_beside old new r none number x =
      let seen = loaded p x.loads old in
      let b = beside_join old seen new (loads_beside p x.loads old) (goes_beside (ready_of p x.loads) seen new r x.goes) in
      record {
        grows = b.aside;
        ends = b.ends;
        off = left_on old new b.steps number b.history b.low none;
      }
