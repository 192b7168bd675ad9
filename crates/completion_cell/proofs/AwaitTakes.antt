-- A wait takes one of its count, and before it the own entry off where it is queued.
use Rattle.std.proofs.Common.{◌∙◌, ap, sym, refl, subst, arith, inl}
use Rattle.std.proofs.lemmas.Bool.Decides.{nat_tests}
use Rattle.std.specs.Prelude.{ℕ, ◌≡◌, ◌≢◌, ◌<◌, ◌≤◌, ◌+◌, ◌-◌, ◌==◌, ◌||◌, not, if◌then◌else◌, Bool, true, false}
use Rattle.std.specs.Prelude.{is_some, Option, Some, None, [], ◌∷◌, ◌++◌, MatchBool}
use Rattle.wait_model.specs.{declared.points.Given.Given, declared.points.Planned.Planned, declared.steps.Step.Step}
use Rattle.wait_model.specs.{declared.watches.Entry.Entry, declared.watches.Watch.Watch, Counts.taken_done}
use Rattle.wait_model.specs.{Permits.after_store, Points.call_head, Views.Look, Views.off as gone, Watches.head_of}
use Rattle.wait_model.specs.Words.{entry_of}
use Rattle.wait_model.specs.declared.layout.TheConstants.{ALL_DONE, COMPLETIONS, HEADS}
use Rattle.wait_model.specs.PointFacts.{IsHome, absent, waits}
use Rattle.wait_model.specs.Programs.{done_in, ends_with, go, is_at_end, store, zero_answer}
use Rattle.wait_model.specs.Runs.{is_publishing, own, set_step}
use Rattle.wait_model.specs.declared.calls.Event.TheVariants as event
use Rattle.wait_model.specs.declared.points.AwaitPoint.TheVariants as awaiting
use Rattle.wait_model.specs.declared.points.Point.TheVariants as at
use Rattle.wait_model.specs.declared.steps.Step.TheVariants as step
use Rattle.wait_model.specs.declared.watches.Watch.TheVariants as watch
use Rattle.wait_model.proofs.SentenceLaws.SentenceAwaits.{shown_count}
use Rattle.wait_rule.specs.declared.journal.Item.TheVariants as item
use Rattle.wait_rule.specs.{Counts.StoresCount, HandedPermits.OwesNoPermit, Items.Book, Known.Known}
use Rattle.wait_rule.specs.Queues.{IsAgreed, IsLocked, MayUnqueue, index}
use Rattle.wait_rule.specs.Says.{IsUp, added, history_of, stored_with, told_of, unlocked_with}
use Rattle.wait_rule.specs.Stays.{Carries, take_off_change, unchanged}
use Rattle.wait_rule.specs.Transitions.{FindsValue, IsMadeFor, IsSeenAs, OnlyLooks, Transition, by_step}
use Rattle.wait_rule.proofs.{KnownLaws.MemberBits.bit_looks, KnownLaws.TaskHistories.history_after}
use Rattle.wait_rule.proofs.KnownLaws.Transitions.{only_none}
use Rattle.wait_class.specs.{Handing.LastGiven, Handing.given_back_by, Findings.saw_nothing, Findings.with_value}
use Rattle.wait_class.specs.declared.stages.Run.{Run}
use Rattle.wait_class.specs.Posts.{HasSeenOwn, Post, Stands, own_of}
use Rattle.wait_class.specs.Tables.{IsAt, SleepsNot, Turned, is_sleep, post_of, run_post}
use Rattle.wait_class.specs.Laws.{Calm, IsPlainTurn, is_quiet_event, turn_post}
use Rattle.wait_class.proofs.{AwakeSteps.awake_step, Handed.given_as, Handed.given_step, Histories.unlocked_history}
use Rattle.wait_class.proofs.{OwnSteps.own_goes, Turns.GoesOn, Turns.advance_by}
use Rattle.wait_class.proofs.Ground.Keeping.{keeps_none, keeps_on, keeps_taken, own_keeps}
use Rattle.wait_class.proofs.Ground.Standing.{carried_stands, finds_own, owner_own, seen_book, seen_home, seen_looks}
use Rattle.wait_class.proofs.Ground.Standing.{seen_off, seen_shows, seen_stands}
use Rattle.wait_class.proofs.CalmSteps.{calm_on, calm_removed, calm_saw, calm_unlock}
use Rattle.wait_class.proofs.Locks.{back_looks, back_stands, back_up}
use Rattle.wq_head.specs.{Adds.HasRemoved, Holds.IsHolding}
use Rattle.wait_class.specs.declared.stages.Turn.TheVariants as turn
use Rattle.wait_event.specs.Waits.{is_queue}
use Rattle.wait_event.proofs.Tellings.{quiet_queues}
use Rattle.completion_cell.specs.{Asks.HasCountedDone, Asks.TakesOne, LoadedCounts.InRange}
use Rattle.completion_cell.specs.{declared.awaits.AwaitCall.AwaitCall, declared.awaits.AwaitOutcome.AwaitOutcome}
use Rattle.completion_cell.specs.declared.awaits.AwaitStage.{AwaitStage}
use Rattle.completion_cell.specs.Awaits.{AwaitTurn, CellKeeps, FoundSome, HasGivenBack, IsUnqueued, ParesAwait}
use Rattle.completion_cell.specs.Awaits.{QuitsFrom, TakesFrom, AwaitTells, AwaitTrail, WhyStopped, await_call}
use Rattle.completion_cell.specs.Awaits.{await_head, await_table, await_watch, await_end_post, last_stage, off_stage}
use Rattle.completion_cell.specs.Awaits.{await_point_at, quit_stage, take_stage}
use Rattle.completion_cell.specs.HeldPermits.{Deals, Knows, WaitsIn}
use Rattle.completion_cell.specs.declared.awaits.AwaitOutcome.TheVariants as outcome
use Rattle.completion_cell.specs.declared.awaits.AwaitStage.TheVariants as stage
use Rattle.completion_cell.proofs.{AwaitCounts.keeps_unchanged, AwaitCounts.still_stands_at, AwaitLaws.await_lawful}
use Rattle.completion_cell.proofs.{AwaitLaws.told_by, Completing.stored_agreed, Ground.step_behind, HeldSteps.held_by}
use Rattle.completion_cell.proofs.{HeldSteps.store_deals, RangedLoads.quiet_ranged, WaitFronts.waits_may_end}
use Rattle.completion_cell.proofs.WaitFronts.{waits_on}
use Rattle.completion_cell.proofs.Asking.{lowers, one_less, take_carried}
use Rattle.completion_cell.proofs.AwaitTrails.{has_quit, knows_for, knows_none, knows_off, knows_saw, left_off}
use Rattle.completion_cell.proofs.AwaitTrails.{left_queued}

-- one is taken of a count that is there
at_the_end : (n : ℕ) → n ≢ 0 → false ≡ not ((n == 0) || (n == ALL_DONE)) → ALL_DONE ≤ n
at_the_end n some took = grind (arith, nat_tests, took, some)

pub takes_owed : (n r k : ℕ) → r ≡ n → k ≤ 1 → after_store (n - 1) r k ≡ 0
takes_owed n r k same few = by (n - 1 == 0) refl
  where
    by : (b : Bool) → (n - 1 == 0) ≡ b → (if b then 0 else k + (n - 1) - r) ≡ 0
    by true is = refl
    by false is = let ne : n - 1 ≢ 0 = grind (arith, nat_tests, is) in omega (arith, same, few, ne)

pub waits_less : (d n : ℕ) (old new : Known) (known : Knows old d n) (made : StoresCount old new d (n - 1))
    → made.found ≡ n → new.view.number ≡ old.view.number → WaitsIn d new (Some (n - 1)) 0
waits_less d n old new known made same number =
    let e = set_step (watch.Done d) (n - 1) made.found in
    let owes = known.loaded.owes in
    waits_on d old new (Some n) (Some (n - 1)) owes 0
    (held_by d old new (e ∷ []) (Some n) (Some (n - 1)) owes 0 (history_after old new e made.is) number
    (subst (λ (m : ℕ). Deals d (own old.view.number) (e ∷ []) (Some n) owes (Some (n - 1)) m)
    (takes_owed n made.found owes same known.loaded.settled.0)
    (store_deals d (own old.view.number) (n - 1) made.found (Some n) owes))) known.loaded.waits

gone_seen : (look : Look) → look ≡ gone → IsSeenAs look None
gone_seen look q = subst (λ (l : Look). IsSeenAs l None) (sym q) refl

-- with a count that is there, whether it is at its end
end_is : (n : ℕ) (took : Bool) → n ≢ 0 → TakesOne n took → (n == ALL_DONE) ≡ not took
end_is n true some takes = grind (arith, nat_tests, takes, some)
end_is n false some takes = grind (arith, nat_tests, takes, some)

-- the head is given back at the end of a wait
module _ (start k : Known) (run : Run AwaitCall) (found : Bool) (off : IsUnqueued start k run found) (new : Known)
    (is : new ≡ unlocked_with k k.at false) where
  back_kept : CellKeeps (own_of start) start new
  back_kept = keeps_on (own_of start) start k new off.keeps
      (await_lawful.keeps.unlock (own_of start) (await_watch run.of) false k new is)

  back_stood : (o : AwaitOutcome) → Stands new (await_end_post run.of o)
  back_stood o = back_stands await_table await_lawful k new is (post_of await_table run.of stage.TakeStore)
      (await_end_post run.of o) off.stands refl refl off.stands.state (λ f h. h)

  back_last : HasGivenBack new run.of
  back_last = (
    history_of k,
    unlocked_history k new is
        ∙ ap (λ (h : ℕ). history_of k ++ step.Unlock h false ∷ []) (off.stands.at (await_head run.of) refl),
  )

module _ (start k : Known) (run : Run AwaitCall) (found : Bool) (off : IsUnqueued start k run found) where
  pub off_locked : IsLocked k
  off_locked = off.stands.head ∙ ap Some (sym (off.stands.at (await_head run.of) refl))

  pub off_agreed : IsAgreed k
  off_agreed = off.stands.agreed (await_head run.of) refl

-- One is taken of the count, or the head is given back.
module _ (start k : Known) (run : Run AwaitCall) (found : Bool) (t : TakesFrom start k run found) where
  abbrev r : AwaitCall
  r = run.of

  abbrev d : ℕ
  d = r.cell

  abbrev n : ℕ
  n = r.count

  abbrev p : Post
  p = post_of await_table r stage.TakeStore

  abbrev off : IsUnqueued start k run found
  off = t.off

  abbrev stands : Stands k p
  stands = off.stands

  abbrev some : FoundSome k r
  some = t.some

  at_k : k.at ≡ await_head r
  at_k = stands.at (await_head r) refl

  pub counted : HasCountedDone k d n
  counted = record { held = stands.head; loaded = some.0.counts.0; small = some.0.counts.1 }

  not_none : (n == 0) ≡ false
  not_none = let ne = some.1 in grind (arith, nat_tests, ne)

  at_end : (e : Bool) → (n == ALL_DONE) ≡ e → is_at_end n ≡ e
  at_end e end = ap (λ (m : ℕ). m == ALL_DONE) (shown_count n some.0.counts.1) ∙ end

  -- what the program plans there, by whether the count is at its end
  abbrev plan_over : Bool → Planned
  plan_over e = if e then ends_with (event.Unlock (call_head (await_call r)) false) zero_answer
      else go (store (await_call r) (taken_done (done_in n))) (at.Await awaiting.Unlock)

  abbrev own_x : Option ℕ
  own_x = Some (own_of start)

  abbrev given_at : AwaitStage → Given
  given_at z = (await_table.plan_of r).given (await_point_at z)

  none_told : (e : Step) → is_quiet_event (by_step e) ≡ true → (x : Transition) → x.did ≡ by_step e → AwaitTells r r (x ∷ [])
  none_told e quiet x did = told_by r r x refl refl refl (ap is_queue did ∙ quiet_queues (by_step e) quiet)
      (subst InRange (sym did) (quiet_ranged (by_step e) quiet))

  -- one is taken
  module _ (new : Known) (made : StoresCount k new d (n - 1)) (end : (n == ALL_DONE) ≡ false) where
    takes : TakesOne n true
    takes = sym (λ i. not (not_none i || end i))

    same : made.found ≡ n
    same = made.finds.1 stands.head n some.0.counts.0

    lower : is_publishing (watch.Done d) made.found (n - 1) ≡ false
    lower = lowers k new d n counted true takes made not_none made.found same

    abbrev e : Step
    e = step.Consume (watch.Done d) (n - 1) made.found

    is : new ≡ added k (item.Made e)
    is = made.is ∙ ap (λ (b : Bool). added k (item.Made (if b then step.Publish (watch.Done d) (n - 1) made.found
        else e))) lower

    carries : Carries unchanged k new
    carries = take_carried k new d n counted true takes made

    waits_new : WaitsIn d new (Some (n - 1)) 0
    waits_new = waits_less d n k new some.0 made same carries.number

    kept : CellKeeps (own_of start) start new
    kept = keeps_on (own_of start) start k new off.keeps (keeps_unchanged (own_of start) k new carries)

    stood : Stands new (turn_post await_table r (turn.Again stage.TakeUnlock))
    stood = still_stands_at k new carries (stored_agreed k new d (n - 1) made.found made.is) p _ stands refl refl refl
        refl (λ o h. h)

    abbrev after_take : AwaitTurn
    after_take = turn.Again stage.TakeUnlock

    plan_made : (q : Option ℕ) (g : Given) → g.watch ≡ await_watch r
        → IsMadeFor k q g (plan_over (is_at_end n)).event (by_step e)
    plan_made q g about = subst (λ (b : Bool). IsMadeFor k q g (plan_over b).event (by_step e))
        (sym (at_end false end)) (sym about, one_less k new d n counted true takes made end, lower)

    stores : (b : Bool) → (b ≡ false → (told_of k).hold.book (own_of start) ≡ gone)
        → GoesOn await_table start new r r (take_stage b) after_take
    stores false seen = own_goes await_table start k new r r stage.TakeQueue after_take e (with_value n) off.looks
        (step_behind k new e is) (none_told e refl) kept (ap (λ (b : Bool). (plan_over b).next) (at_end false end))
        (plan_made own_x (given_at stage.TakeQueue) refl) (sym same, (gone_seen _ (seen refl), some.0.counts.0), tt) (carries.awake ∙ off.up) stood
        (Some (n - 1), waits_new)
    stores true seen = own_goes await_table start k new r r stage.TakeStore after_take e (with_value n) off.looks
        (step_behind k new e is) (none_told e refl) kept (ap (λ (b : Bool). (plan_over b).next) (at_end false end))
        (plan_made own_x (given_at stage.TakeStore) refl) (sym same, some.0.counts.0, tt) (carries.awake ∙ off.up) stood (Some (n - 1), waits_new)

  -- the count is at its end: the head is given back
  module _ (new : Known) (is : new ≡ unlocked_with k k.at false) (end : (n == ALL_DONE) ≡ true) where
    abbrev u : Step
    u = step.Unlock k.at false

    over_made : (q : Option ℕ) (g : Given) → IsMadeFor k q g (plan_over (is_at_end n)).event (by_step u)
    over_made q g = subst (λ (b : Bool). IsMadeFor k q g (plan_over b).event (by_step u))
        (sym (at_end true end)) (at_k, refl)

    ends : (b : Bool) → (b ≡ false → (told_of k).hold.book (own_of start) ≡ gone)
        → GoesOn await_table start new r r (take_stage b) (turn.Done outcome.Over)
    ends false seen = own_goes await_table start k new r r stage.TakeQueue (turn.Done outcome.Over) u (with_value n)
        off.looks (back_looks await_table await_lawful k new is) (none_told u refl) (back_kept start k run found off new is)
        (ap (λ (b : Bool). (plan_over b).next) (at_end true end)) (over_made own_x (given_at stage.TakeQueue))
        (tt, (gone_seen _ (seen refl), some.0.counts.0), tt) (back_up await_table await_lawful k new is off.up)
        (back_stood start k run found off new is outcome.Over) (back_last start k run found off new is)
    ends true seen = own_goes await_table start k new r r stage.TakeStore (turn.Done outcome.Over) u (with_value n)
        off.looks (back_looks await_table await_lawful k new is) (none_told u refl) (back_kept start k run found off new is)
        (ap (λ (b : Bool). (plan_over b).next) (at_end true end)) (over_made own_x (given_at stage.TakeStore)) (tt, some.0.counts.0, tt)
        (back_up await_table await_lawful k new is off.up) (back_stood start k run found off new is outcome.Over)
        (back_last start k run found off new is)

  take_turned : (new : Known) → StoresCount k new d (n - 1) → TakesOne n true
      → Turned await_table start new run run (take_stage found) (turn.Again stage.TakeUnlock)
  take_turned new made takes = advance_by await_table start new run run (take_stage found) (turn.Again stage.TakeUnlock)
      refl off.there refl (stores new made (end_is n true some.1 takes) found off.shows)

  over_turned : (new : Known) → TakesOne n false → new ≡ unlocked_with k k.at false
      → Turned await_table start new run run (take_stage found) (turn.Done outcome.Over)
  over_turned new takes is = advance_by await_table start new run run (take_stage found) (turn.Done outcome.Over) refl
      off.there tt (ends new is (end_is n false some.1 takes) found off.shows)

  over_owes : TakesOne n false → OwesNoPermit k
  over_owes takes = waits_may_end d k (Some n) at_k
      (subst (WaitsIn d k (Some n)) (some.0.loaded.settled.1 (at_the_end n some.1 takes)) some.0.loaded.waits)

  -- for the code
  pub taken_turned : (new : Known) (took : Bool) → TakesOne n took → took ≡ true
      → MatchBool took (StoresCount k new d (n - 1)) (new ≡ k)
      → Turned await_table start new run run (take_stage found) (turn.Again stage.TakeUnlock)
  taken_turned new true takes hit made = take_turned new made takes
  taken_turned new false takes hit made = absurd (cc)

  pub ended_turned : (mid new : Known) (took : Bool) → TakesOne n took → took ≡ false
      → MatchBool took (StoresCount k mid d (n - 1)) (mid ≡ k) → new ≡ unlocked_with mid mid.at false
      → Turned await_table start new run run (take_stage found) (turn.Done outcome.Over)
  ended_turned mid new true takes miss made is = absurd (cc)
  ended_turned mid new false takes miss made is = over_turned new takes
      (subst (λ (j : Known). new ≡ unlocked_with j j.at false) made is)

  -- what the hold still is that took none
  pub ended_may : (P : Known → Type 0) (mid : Known) (took : Bool) → took ≡ false
      → MatchBool took (StoresCount k mid d (n - 1)) (mid ≡ k) → P k → P mid
  ended_may P mid true miss made u = absurd (cc)
  ended_may P mid false miss made u = subst P (sym made) u

  pub ended_owes : (took : Bool) → TakesOne n took → took ≡ false → OwesNoPermit k
  ended_owes true takes miss = absurd (cc)
  ended_owes false takes miss = over_owes takes

-- a wait that was signalled
module _ (start k : Known) (run : Run AwaitCall) (found : Bool) (q : QuitsFrom start k run found) where
  abbrev qr : AwaitCall
  qr = run.of

  abbrev qo : IsUnqueued start k run found
  qo = q.off

  known : Knows k qr.cell 0
  known = knows_for k qr _ qr.asked q.left.leaves

  pub quit_owes : OwesNoPermit k
  quit_owes = knows_none qr.cell k (qo.stands.at (await_head qr) refl) known

  module _ (new : Known) (is : new ≡ unlocked_with k k.at false) where
    abbrev qu : Step
    qu = step.Unlock k.at false

    quit_told : (x : Transition) → x.did ≡ by_step qu → AwaitTells qr qr (x ∷ [])
    quit_told x did = told_by qr qr x refl refl refl (ap is_queue did) (subst InRange (sym did) tt)

    zero_is : FindsValue k (await_watch qr) saw_nothing
    zero_is = known.counts.0

    quits : (b : Bool) → (b ≡ false → (told_of k).hold.book (own_of start) ≡ gone) → WhyStopped qr.asked new qr b
        → GoesOn await_table start new qr qr (quit_stage b) (turn.Done (outcome.Signalled b))
    quits false seen was = own_goes await_table start k new qr qr stage.LeaveQueue (turn.Done (outcome.Signalled false))
        qu saw_nothing qo.looks (back_looks await_table await_lawful k new is) quit_told (back_kept start k run found qo new is)
        refl (qo.stands.at (await_head qr) refl, refl) (tt, (gone_seen _ (seen refl), zero_is), tt)
        (back_up await_table await_lawful k new is qo.up) (back_stood start k run found qo new is (outcome.Signalled false))
        (back_last start k run found qo new is, was)
    quits true seen was = own_goes await_table start k new qr qr stage.LeaveUnlock (turn.Done (outcome.Signalled true))
        qu saw_nothing qo.looks (back_looks await_table await_lawful k new is) quit_told (back_kept start k run found qo new is)
        refl (qo.stands.at (await_head qr) refl, refl) (tt, zero_is, tt) (back_up await_table await_lawful k new is qo.up)
        (back_stood start k run found qo new is (outcome.Signalled true)) (back_last start k run found qo new is, was)

    back_calm : Calm (step.Unlock (await_head qr) false ∷ []) k new
    back_calm = subst (λ (h : ℕ). Calm (step.Unlock h false ∷ []) k new) (qo.stands.at (await_head qr) refl)
        (calm_unlock k new is)

    pub quit_turned : Turned await_table start new run run (quit_stage found) (turn.Done (outcome.Signalled found))
    quit_turned = advance_by await_table start new run run (quit_stage found) (turn.Done (outcome.Signalled found)) refl
        qo.there tt (quits found qo.shows (has_quit k new qr back_calm found q.left))

-- The own entry is looked at in a hold that is about to end.
module _ (old mid : Known) (run : Run AwaitCall) (stopped : Bool) (a : IsAt await_table old run (off_stage stopped))
    (o : Option Entry) (h : HasSeenOwn old mid o) where
  abbrev c : AwaitCall
  c = run.of

  abbrev x : ℕ
  x = own_of old

  abbrev hd : ℕ
  hd = await_head c

  abbrev z : Post
  z = post_of await_table c stage.TakeQueue

  -- both stages say the same of the task
  stood_old : Stands old z
  stood_old = by stopped a.stands
    where
      by : (b : Bool) → Stands old (run_post await_table run (off_stage b)) → Stands old z
      by true w = w
      by false w = w

  here : (f : Entry) → o ≡ Some f → head_of f.watch ≡ hd
  here f is = ap head_of (seen_home old mid o h z stood_old f is).0

  saw_calm : Calm (step.Saw x h.word ∷ []) old mid
  saw_calm = calm_saw old mid o h hd stood_old.head

  entry_shows : (b : Bool) → is_some o ≡ b → is_some (entry_of h.word) ≡ b
  entry_shows b is = ap (λ (f : Option Entry). is_some f) (sym h.reads) ∙ is

  -- it is off
  off_none : o ≡ None → IsUnqueued old mid run false
  off_none is = record {
    there = a.fits;
    up = h.carries.awake ∙ a.up;
    stands = seen_stands old mid o h z absent stood_old (subst (IsHome absent z.watch) (sym is) tt);
    looks = seen_looks old mid o h hd stood_old.head;
    keeps = own_keeps old mid o h;
    shows = λ none. seen_off old mid o h hd stood_old.head stood_old.told is;
  }

  pub pares_none : is_some o ≡ false → ParesAwait old mid run stopped false
  pares_none none = by stopped a.trail
    where
      gone_is : (f : Option Entry) → is_some f ≡ false → f ≡ None
      gone_is None out = refl
      gone_is (Some f) out = absurd (cc)

      by : (b : Bool) → AwaitTrail old c (off_stage b) → ParesAwait old mid run b false
      by true u = record {
        off = off_none (gone_is o none);
        left = left_off old mid c h.word u saw_calm (entry_shows false none);
      }
      by false u = record {
        off = off_none (gone_is o none);
        some = (knows_saw c.cell old mid c.count x h.word saw_calm u.0, u.1);
      }

  -- it is taken off
  pub off_may : is_some o ≡ true → (me : ℕ) → me ≡ old.view.number → MayUnqueue mid me 0
  off_may some me mine = by o refl some
    where
      by : (f : Option Entry) → o ≡ f → is_some f ≡ true → MayUnqueue mid me 0
      by None is on = absurd (cc)
      by (Some f) is on = record {
        entry = f;
        shows = ap (λ (m : ℕ). (told_of mid).hold.book (index m 0)) mine
            ∙ seen_shows old mid o h hd stood_old.head stood_old.told f is (here f is);
        may = inl (mine ∙ sym h.carries.number);
      }

  pub off_holds : IsHolding mid
  off_holds = record {
    locked = h.carries.head ∙ (stood_old.head ∙ ap Some (sym (h.carries.at ∙ stood_old.at hd refl)));
    agreed = ap (λ (b : Book). b.differs) (seen_book old mid o h) ∙ stood_old.agreed hd refl;
    told = h.carries.hold ∙ (stood_old.told ∙ ap Some (sym (h.carries.at ∙ stood_old.at hd refl)));
  }

  module _ (new : Known) (me : ℕ) (mine : me ≡ old.view.number) (removes : HasRemoved mid new me 0)
      (holds : IsHolding new) where
    removed : new ≡ stored_with mid (step.Unqueue x)
    removed = removes.is ∙ ap (λ (m : ℕ). stored_with mid (step.Unqueue (index m 0))) mine

    taken : Carries (take_off_change x) mid new
    taken = subst (λ (m : ℕ). Carries (take_off_change (index m 0)) mid new) mine removes.carries

    off_calm : Calm (step.Saw x h.word ∷ step.Unqueue x ∷ []) old new
    off_calm = calm_on (step.Saw x h.word ∷ []) (step.Unqueue x ∷ []) old mid new saw_calm (calm_removed mid new x removed)

    stood_new : (f : Entry) → o ≡ Some f → Stands new (post_of await_table c stage.TakeStore)
    stood_new f is =
        let seen = seen_stands old mid o h z waits stood_old
        (subst (IsHome waits z.watch) (sym is) (seen_home old mid o h z stood_old f is)) in
        carried_stands (take_off_change x) mid new (record z { zone = waits })
        (post_of await_table c stage.TakeStore) taken seen (λ j at. holds.agreed) refl seen.at refl
        seen.state (subst (IsHome absent z.watch) (sym (ap (λ (m : ℕ). (told_of new).bits.stored (index m 0))
        (h.carries.number ∙ sym mine) ∙ removes.out)) tt)

    -- by what the hold knows of the count, at one of the two stages
    goes : (b : Bool) (n : ℕ) (f : Entry) → o ≡ Some f → Knows mid c.cell n → AwaitTrail new c (last_stage b)
        → GoesOn await_table old new c c (off_stage b) (turn.Again (last_stage b))
    goes true n f is known trail = own_goes await_table old mid new c c stage.LeaveQueue
        (turn.Again stage.LeaveUnlock) (step.Unqueue x) (record saw_nothing { entry = Some f; value = n })
        (seen_looks old mid o h hd stood_old.head)
        (subst (OnlyLooks (added mid (item.Made (step.Unqueue x)))) (sym removed) (bit_looks mid (step.Unqueue x)))
        (λ y did. told_by c c y refl refl refl (ap is_queue did) (subst InRange (sym did) tt))
        (keeps_on x old mid new (own_keeps old mid o h) (keeps_taken x mid new taken)) refl (owner_own old.view.number)
        (tt, (finds_own old mid o h hd stood_old.head stood_old.told here (Some f) is, known.counts.0), refl)
        (taken.awake ∙ (h.carries.awake ∙ a.up)) (stood_new f is) trail
    goes false n f is known trail = own_goes await_table old mid new c c stage.TakeQueue
        (turn.Again stage.TakeStore) (step.Unqueue x) (record saw_nothing { entry = Some f; value = n })
        (seen_looks old mid o h hd stood_old.head)
        (subst (OnlyLooks (added mid (item.Made (step.Unqueue x)))) (sym removed) (bit_looks mid (step.Unqueue x)))
        (λ y did. told_by c c y refl refl refl (ap is_queue did) (subst InRange (sym did) tt))
        (keeps_on x old mid new (own_keeps old mid o h) (keeps_taken x mid new taken)) refl (owner_own old.view.number)
        (tt, (finds_own old mid o h hd stood_old.head stood_old.told here (Some f) is, known.counts.0), refl)
        (taken.awake ∙ (h.carries.awake ∙ a.up)) (stood_new f is) trail

    plain_last : (b : Bool) → IsPlainTurn await_table (turn.Again (last_stage b))
    plain_last true = refl
    plain_last false = refl

    on_from : (b : Bool) (f : Entry) → o ≡ Some f → AwaitTrail old c (off_stage b)
        → GoesOn await_table old new c c (off_stage b) (turn.Again (last_stage b))
    on_from true f is u = goes true 0 f is (knows_saw c.cell old mid 0 x h.word saw_calm
        (knows_for old c (step.State 0 ∷ []) c.asked u))
        (left_queued old new c h.word u off_calm (entry_shows true (ap (λ (g : Option Entry). is_some g) is)))
    on_from false f is u = goes false c.count f is (knows_saw c.cell old mid c.count x h.word saw_calm u.0)
        (knows_off c.cell old new c.count h.word off_calm u.0, u.1)

    pub pares_some : is_some o ≡ true → ParesAwait old new run stopped true
    pares_some some = by o refl some
      where
        by : (f : Option Entry) → o ≡ f → is_some f ≡ true → ParesAwait old new run stopped true
        by None is on = absurd (cc)
        by (Some f) is on = advance_by await_table old new run run (off_stage stopped) (turn.Again (last_stage stopped))
            refl a.fits (plain_last stopped) (on_from stopped f is a.trail)

-- a wait that stands behind its entry that was taken off
stands_off : (k : Known) (run : Run AwaitCall) → Stands k (post_of await_table run.of stage.TakeStore) → IsUp k
    → run.of.cell < COMPLETIONS → IsUnqueued k k run true
stands_off k run stands up there = record {
  there = there;
  up = up;
  stands = stands;
  looks = only_none k;
  keeps = keeps_none (own_of k) k;
  shows = λ no. absurd (cc);
}

-- the ends of a hold that looked at the own entry and found it off
pub quit_off : (old mid new : Known) (run : Run AwaitCall) (stopped : Bool) (u : AwaitTurn) → stopped ≡ true
    → ParesAwait old mid run stopped false
    → ((start : Known) → QuitsFrom start mid run false → Turned await_table start new run run (quit_stage false) u)
    → Turned await_table old new run run (off_stage stopped) u
quit_off old mid new run true u is p ends = ends old p
quit_off old mid new run false u is p ends = absurd (cc)

pub take_off : (old mid new : Known) (run : Run AwaitCall) (stopped : Bool) (u : AwaitTurn) → stopped ≡ false
    → ParesAwait old mid run stopped false
    → ((start : Known) → TakesFrom start mid run false → Turned await_table start new run run (take_stage false) u)
    → Turned await_table old new run run (off_stage stopped) u
take_off old mid new run true u is p ends = absurd (cc)
take_off old mid new run false u is p ends = ends old p

-- and the ends of one that stands behind its entry that was taken off
pub quit_here : (k new : Known) (run : Run AwaitCall) (s : AwaitStage) (u : AwaitTurn) → s ≡ stage.LeaveUnlock
    → IsAt await_table k run s
    → ((start : Known) → QuitsFrom start k run true → Turned await_table start new run run stage.LeaveUnlock u)
    → Turned await_table k new run run s u
quit_here k new run s u is a ends =
    let b = subst (λ (z : AwaitStage). IsAt await_table k run z) is a in
    subst (λ (z : AwaitStage). Turned await_table k new run run z u) (sym is)
    (ends k (record { off = stands_off k run b.stands b.up b.fits; left = b.trail }))

pub take_here : (k new : Known) (run : Run AwaitCall) (s : AwaitStage) (u : AwaitTurn) → s ≡ stage.TakeStore
    → IsAt await_table k run s
    → ((start : Known) → TakesFrom start k run true → Turned await_table start new run run stage.TakeStore u)
    → Turned await_table k new run run s u
take_here k new run s u is a ends =
    let b = subst (λ (z : AwaitStage). IsAt await_table k run z) is a in
    subst (λ (z : AwaitStage). Turned await_table k new run run z u) (sym is)
    (ends k (record { off = stands_off k run b.stands b.up b.fits; some = b.trail }))

-- the lock that is given back: a store of the count gives none back
set_gives : (b : Bool) (w : Watch) (n found : ℕ)
    → given_back_by (if b then step.Publish w n found else step.Consume w n found) HEADS ≡ HEADS
set_gives true w n found = refl
set_gives false w n found = refl

pub store_gives : (old new : Known) (d n : ℕ) → StoresCount old new d n → LastGiven old new HEADS
store_gives old new d n s = given_as old new _ HEADS (sym (set_gives _ (watch.Done d) n s.found))
    (given_step old new (set_step (watch.Done d) n s.found) s.is)

pub stored_count : (old new : Known) (d n : ℕ) (took : Bool) → took ≡ true
    → MatchBool took (StoresCount old new d n) (new ≡ old) → LastGiven old new HEADS
stored_count old new d n true is s = store_gives old new d n s
stored_count old new d n false is s = absurd (cc)

pub stays_count : (old new : Known) (d n : ℕ) (took : Bool) → took ≡ false
    → MatchBool took (StoresCount old new d n) (new ≡ old) → new ≡ old
stays_count old new d n true is s = absurd (cc)
stays_count old new d n false is s = s

set_awake : (b : Bool) (w : Watch) (n found : ℕ)
    → is_sleep (if b then step.Publish w n found else step.Consume w n found) ≡ false
set_awake true w n found = refl
set_awake false w n found = refl

pub store_awake : (old new : Known) (d n : ℕ) → StoresCount old new d n → SleepsNot old new
store_awake old new d n s = awake_step old new (set_step (watch.Done d) n s.found) s.is
    (set_awake _ (watch.Done d) n s.found)

pub stored_awake : (old new : Known) (d n : ℕ) (took : Bool) → took ≡ true
    → MatchBool took (StoresCount old new d n) (new ≡ old) → SleepsNot old new
stored_awake old new d n true is s = store_awake old new d n s
stored_awake old new d n false is s = absurd (cc)
