-- The own flag is cleared, loaded, and cleared again to take note of the page.
use Rattle.std.proofs.Common.{◌∙◌, ap, sym, refl, subst, inl, inr, eq-eqb}
use Rattle.std.specs.Prelude.{ℕ, ◌≡◌, ◌&&◌, ◌||◌, ◌==◌, Bool, true, false, if◌then◌else◌}
use Rattle.std.specs.Prelude.{Some, None, [], ◌∷◌, ◌++◌}
use Rattle.wait_model.specs.{declared.layout.TheConstants.HANDED, declared.calls.Event.Event, declared.points.Next.Next}
use Rattle.wait_model.specs.{declared.steps.Step.Step, declared.watches.Watch.Watch, Fold.is_off, PointFacts.IsHome}
use Rattle.wait_model.specs.{PointFacts.absent, Points.given_at as given_for, Tasks.looks_in, Watches.page}
use Rattle.wait_model.specs.Words.{flag_of}
use Rattle.wait_model.specs.Programs.{ends_with, go, interrupted}
use Rattle.wait_model.specs.declared.calls.Event.TheVariants as event
use Rattle.wait_model.specs.declared.points.FinishPoint.TheVariants as finishing
use Rattle.wait_model.specs.declared.points.Next.TheVariants as next
use Rattle.wait_model.specs.declared.points.PagePoint.TheVariants as paging
use Rattle.wait_model.specs.declared.points.Point.TheVariants as at
use Rattle.wait_model.specs.declared.steps.Step.TheVariants as step
use Rattle.wait_rule.specs.declared.journal.Item.TheVariants as item
use Rattle.wait_rule.specs.{Bits.KeepsBitOf, Known.Known, Queues.index, Quiet.is_quiet_at}
use Rattle.wait_rule.specs.{Quiet.is_told, Transitions.IsMadeFor, Transitions.by_step}
use Rattle.wait_rule.specs.Asked.{ask_step, was_given_at, nothing_asked, was_given}
use Rattle.wait_rule.specs.PageCalls.{QueuesNoPage, ShowsGiven, ShowsNoFlag}
use Rattle.wait_rule.specs.Says.{added, asks_for, history_of, told_of}
use Rattle.wait_rule.specs.Stays.{Carries, unchanged, with_entry}
use Rattle.wait_rule.proofs.{KnownLaws.AskedPages.asked_added, KnownLaws.QuietFlags.quiet_more}
use Rattle.wait_rule.proofs.{KnownLaws.ToldFlags.told_more, KnownLaws.TaskHistories.history_after}
use Rattle.wait_rule.proofs.KnownLaws.Transitions.{only_none}
use Rattle.wait_class.specs.{Posts.own_of, Findings.saw_nothing, declared.stages.Run.Run, Laws.IsPlainTurn}
use Rattle.wait_class.specs.Laws.{turn_post}
use Rattle.wait_class.specs.Tables.{IsAt, Turned, post_of}
use Rattle.wait_class.proofs.{Ground.Keeping.keeps_of, Histories.ends_more, OwnSteps.own_goes, OwnSteps.stands_same}
use Rattle.wait_class.proofs.{Turns.GoesOn, Turns.advance_by, Wholes.none_of}
use Rattle.wait_class.specs.declared.stages.Turn.TheVariants as turn
use Rattle.page_lock.specs.{PageStays.PageKeeps, declared.waits.LockPage.LockPage, declared.waits.PageStage.PageStage}
use Rattle.page_lock.specs.PageTables.{FlagsAt, FoundPageSignal, IsQuiet, IsUnasked, PageTurn, WhyOut, WhyPageFailed}
use Rattle.page_lock.specs.PageTables.{flagged_to, page_call, page_in, page_table, tries_page, with_flag}
use Rattle.page_lock.specs.declared.waits.PageOutcome.TheVariants as outcome
use Rattle.page_lock.specs.declared.waits.PageStage.TheVariants as stage
use Rattle.page_lock.proofs.{PageGround.page_keeps_noted, PageGround.page_keeps_of, PageTries.either_event}
use Rattle.page_lock.proofs.PageTrails.{over_end, set_on, signal_on, waiting_on, why_out}

same_number : (n : ℕ) → (n == n) ≡ true
same_number n = eq-eqb n n refl

queues_none : (k : Known) (c : Watch) → IsHome absent c ((told_of k).bits.stored (own_of k))
    → QueuesNoPage k (own_of k)
queues_none k c home e is =
    let no : None ≡ Some e = sym (none_of c ((told_of k).bits.stored (own_of k)) home) ∙ is in absurd (cc)

-- a step that changes nothing that is owed
step_keeps : (old new : Known) (c : Watch) → Carries unchanged old new → PageKeeps (own_of old) c false false old new
step_keeps old new c carries = page_keeps_of (own_of old) c false old new (keeps_of (own_of old) unchanged old new carries
    (λ w. refl) (λ x away. refl) (λ x. carries.owes (with_entry (own_of old) x)))

or_right : (a b : Bool) → b ≡ true → (a || b) ≡ true
or_right true b is = refl
or_right false b is = is

module _ (old : Known) (run : Run LockPage) where
  abbrev cleared : Known
  cleared = added old (item.Made (step.Unflag (own_of old) None))

  clear_quiet : (told_of old).bits.stored (own_of old) ≡ None → IsQuiet cleared
  clear_quiet out =
      let x = own_of old in
      let b = is_quiet_at x (history_of old) in
      ap (is_quiet_at x) (history_after old cleared (step.Unflag x None) refl)
      ∙ (quiet_more x (history_of old) (step.Unflag x None ∷ [])
      ∙ (ap (λ (s : Bool). if s then b || is_off ((told_of old).bits.stored x) else b) (same_number x)
      ∙ or_right b (is_off ((told_of old).bits.stored x)) (ap is_off out)))

  clear_from : Carries unchanged old cleared → IsAt page_table old run stage.Unflag
      → GoesOn page_table old cleared run.of run.of stage.Unflag (turn.Again stage.QueueLock)
  clear_from carries a = own_goes page_table old old cleared run.of run.of stage.Unflag (turn.Again stage.QueueLock)
      (step.Unflag (own_of old) None) saw_nothing (only_none old) (only_none cleared) (λ x did. tt)
      (step_keeps old cleared (page_in run.of) carries) refl (refl, inl refl) (tt, tt, tt) a.up
      (stands_same old (step.Unflag (own_of old) None) (post_of page_table run.of stage.Unflag)
      (turn_post page_table run.of (turn.Again stage.QueueLock)) a.stands refl refl refl refl a.stands.state
      a.stands.home) (
        (
          asked_added old (item.Made (step.Unflag (own_of old) None))
              ∙ ap (ask_step (step.Unflag (own_of old) None)) a.trail.0,
          clear_quiet (none_of (page_in run.of) ((told_of old).bits.stored (own_of old)) a.stands.home),
        ),
        record {
          tried = ends_more old cleared (tries_page run.of) (step.Unflag (own_of old) None ∷ []) a.trail.1.tried
              (history_after old cleared (step.Unflag (own_of old) None) refl);
          set = a.trail.1.set;
        },
      )

pub clear_advances : (old new : Known) (r : Run LockPage)
    → new ≡ added old (item.Made (step.Unflag (own_of old) None)) → Carries unchanged old new
    → IsAt page_table old r stage.Unflag → Turned page_table old new r r stage.Unflag (turn.Again stage.QueueLock)
clear_advances old new r is carries a =
    let cleared = added old (item.Made (step.Unflag (own_of old) None)) in
    subst (λ (k : Known). Turned page_table old k r r stage.Unflag (turn.Again stage.QueueLock)) (sym is)
    (advance_by page_table old cleared r r stage.Unflag (turn.Again stage.QueueLock) refl a.fits refl
    (clear_from old r (subst (Carries unchanged old) is carries) a))

-- the flag is loaded
no_flag : flag_of 0 ≡ false
unfolding flag_of
no_flag = refl

handed_flag : flag_of HANDED ≡ true
unfolding flag_of
handed_flag = refl

not_both : {A : Type 0} (b : Bool) → b ≡ true → b ≡ false → A
not_both b one two = let both : true ≡ false = sym one ∙ two in absurd (cc)

told_true : (q f b : Bool) → q ≡ true → f ≡ true → ((q && f) || b) ≡ true
told_true true true b one two = refl
told_true false f b one two = absurd (cc)
told_true true false b one two = absurd (cc)

module _ (old : Known) (run : Run LockPage) (w : ℕ) where
  abbrev r : LockPage
  r = run.of

  abbrev e : Step
  e = step.Flag (own_of old) w

  abbrev loaded : Known
  loaded = added old (item.Made e)

  flag_asks : asks_for loaded ≡ asks_for old
  flag_asks = asked_added old (item.Made e)

  flag_history : history_of loaded ≡ history_of old ++ e ∷ []
  flag_history = history_after old loaded e refl

  flag_told : IsQuiet old → flag_of w ≡ true → is_told (own_of old) (history_of loaded) ≡ true
  flag_told quiet set =
      let x = own_of old in
      let q = is_quiet_at x (history_of old) in
      let b = is_told x (history_of old) in
      ap (is_told x) flag_history ∙ (told_more x (history_of old) (e ∷ [])
      ∙ (ap (λ (s : Bool). if s then (q && flag_of w) || b else b) (same_number x)
      ∙ told_true q (flag_of w) b quiet set))

  module _ (carries : Carries unchanged old loaded) where
    kept : PageKeeps (own_of old) (page_in r) false false old loaded
    kept = step_keeps old loaded (page_in r) carries

    -- while it waits
    abbrev turns : Bool → Bool → Next
    turns hit looks = next.Go (at.Page (if hit then paging.Finish finishing.State
        else if looks then paging.Look else paging.Sleep))

    module _ (a : IsAt page_table old run stage.Flag) where
      turn_from : (hit : Bool) → flag_of w ≡ hit → (looks : Bool) → looks_in r.state ≡ looks
          → GoesOn page_table old loaded r r stage.Flag (if hit then turn.Again stage.FinishState
          else if looks then turn.Again stage.Look else turn.Again stage.Sleep)
      turn_from true set looks is = own_goes page_table old old loaded r r stage.Flag (turn.Again stage.FinishState) e
          (with_flag (flag_of w)) (only_none old) (only_none loaded) (λ x did. tt) kept
          (λ i. turns (set i) (looks_in r.state)) refl (refl, tt, tt) a.up
          (stands_same old e (post_of page_table r stage.Flag) (turn_post page_table r (turn.Again stage.FinishState))
          a.stands refl refl refl refl a.stands.state a.stands.home) (
            waiting_on old loaded r (e ∷ []) refl flag_history refl refl a.trail,
            why_out loaded r (inl (flag_told a.trail.quiet set)) r.asked,
          )
      turn_from false set true is = own_goes page_table old old loaded r r stage.Flag (turn.Again stage.Look) e
          (with_flag (flag_of w)) (only_none old) (only_none loaded) (λ x did. tt) kept
          (λ i. turns (set i) (is i)) refl (refl, tt, tt) a.up
          (stands_same old e (post_of page_table r stage.Flag) (turn_post page_table r (turn.Again stage.Look))
          a.stands refl refl refl refl a.stands.state a.stands.home)
          (waiting_on old loaded r (e ∷ []) refl flag_history refl refl a.trail)
      turn_from false set false is = own_goes page_table old old loaded r r stage.Flag (turn.Again stage.Sleep) e
          (with_flag (flag_of w)) (only_none old) (only_none loaded) (λ x did. tt) kept
          (λ i. turns (set i) (is i)) refl (refl, tt, tt) a.up
          (stands_same old e (post_of page_table r stage.Flag) (turn_post page_table r (turn.Again stage.Sleep))
          a.stands refl refl refl refl a.stands.state a.stands.home)
          (waiting_on old loaded r (e ∷ []) refl flag_history refl refl a.trail)

    -- and after its entry is off
    module _ (a : IsAt page_table old run stage.Last) (given : ShowsGiven old (own_of old) w)
        (none : ShowsNoFlag old (own_of old) w) where
      given_set : asks_for old ≡ was_given (own_of old) r.page → flag_of w ≡ true
      given_set asks = ap flag_of (given r.page
          (ap (was_given_at (own_of old)) asks
          ∙ ap (λ (b : Bool). if b then Some r.page else None) (same_number (own_of old)))
          (queues_none old (page_in r) a.stands.home)) ∙ handed_flag

      unasked_none : IsUnasked old → flag_of w ≡ false
      unasked_none asks = ap flag_of ((none asks).1 a.trail.0.quiet) ∙ no_flag

      is_given : flag_of w ≡ true → asks_for old ≡ was_given (own_of old) r.page
      is_given set = elim a.trail.0.asks [
        | inl asks ↦ asks
        | inr asks ↦ not_both (flag_of w) set (unasked_none asks)
      ]

      is_unasked : flag_of w ≡ false → IsUnasked old
      is_unasked set = elim a.trail.0.asks [
        | inl asks ↦ not_both (flag_of w) (given_set asks) set
        | inr asks ↦ asks
      ]

      signal : WhyOut false old r → flag_of w ≡ false → FoundPageSignal old r
      signal why set = elim why [
        | inl told ↦ not_both (is_told (own_of old) (history_of old)) told (none (is_unasked set)).0
        | inr found ↦ found
      ]

      -- why it failed: it was asked to leave, or a signal ended it
      failed : flag_of w ≡ false → (b : Bool) → WhyOut b old r → WhyPageFailed b loaded r
      failed set true why =
          let f = set_on old loaded r (e ∷ []) refl flag_history refl a.trail.0.found in
          inr (record {
            before = f.before;
            entry = f.entry;
            more = f.more;
            tried = f.ends;
            set = f.set;
            calm = f.calm;
            flag = w;
            last = (history_of old, flag_history);
            unset = set;
          })
      failed set false why =
          let t = signal_on old loaded r (e ∷ []) refl flag_history refl refl (signal why set) in
          record {
            before = t.found.before;
            entry = t.found.entry;
            more = t.found.more;
            tried = t.found.ends;
            set = t.found.set;
            calm = t.found.calm;
            front = t.front;
            look = t.look;
            later = t.later;
            looked = t.looked;
            pends = t.pends;
            awake = t.awake;
            flag = w;
            last = (history_of old, flag_history);
            unset = set;
          }

      last_made : IsMadeFor old (Some (index old.view.number 0)) (given_for (page_call r) (at.Page paging.Last))
          (if flag_of w then go (event.Flag true) (at.Page paging.Clear) else ends_with (event.Flag false) interrupted).event
          (by_step e)
      last_made = either_event (λ (x : Event). IsMadeFor old (Some (index old.view.number 0))
          (given_for (page_call r) (at.Page paging.Last)) x (by_step e)) (flag_of w)
          (go (event.Flag true) (at.Page paging.Clear)) (ends_with (event.Flag false) interrupted) refl refl

      last_from : (hit : Bool) → flag_of w ≡ hit → GoesOn page_table old loaded r r stage.Last
          (if hit then turn.Again stage.Clear else turn.Done outcome.Interrupted)
      last_from true set = own_goes page_table old old loaded r r stage.Last (turn.Again stage.Clear) e
          (with_flag (flag_of w)) (only_none old) (only_none loaded) (λ x did. tt) kept
          (ap (λ (c : Bool). (if c then go (event.Flag true) (at.Page paging.Clear)
          else ends_with (event.Flag false) interrupted).next) set) last_made (refl, tt, tt) a.up
          (stands_same old e (post_of page_table r stage.Last) (turn_post page_table r (turn.Again stage.Clear))
          a.stands refl refl refl refl a.stands.state a.stands.home)
          (flag_asks ∙ is_given set)
      last_from false set = own_goes page_table old old loaded r r stage.Last (turn.Done outcome.Interrupted) e
          (with_flag (flag_of w)) (only_none old) (only_none loaded) (λ x did. tt) kept
          (ap (λ (c : Bool). (if c then go (event.Flag true) (at.Page paging.Clear)
          else ends_with (event.Flag false) interrupted).next) set) last_made (refl, tt, tt) a.up
          (stands_same old e (post_of page_table r stage.Last) (turn_post page_table r (turn.Done outcome.Interrupted))
          a.stands refl refl refl refl a.stands.state a.stands.home)
          (record {
            cause = failed set r.asked a.trail.1;
            keeps = λ is. absurd (cc);
            asks = flag_asks ∙ is_unasked set;
          })

    flag_from : ShowsGiven old (own_of old) w → ShowsNoFlag old (own_of old) w → (s : PageStage) → FlagsAt s
        → IsAt page_table old run s → GoesOn page_table old loaded r r s (flagged_to r s (flag_of w))
    flag_from given none stage.Flag own a = turn_from a (flag_of w) refl (looks_in r.state) refl
    flag_from given none stage.Last own a = last_from a given none (flag_of w) refl
    flag_from given none s own a = absurd own

plain_turns : (hit looks : Bool) → IsPlainTurn page_table (if hit then turn.Again stage.FinishState
    else if looks then turn.Again stage.Look else turn.Again stage.Sleep)
plain_turns true looks = refl
plain_turns false true = refl
plain_turns false false = refl

plain_last : (hit : Bool) → IsPlainTurn page_table (if hit then turn.Again stage.Clear else turn.Done outcome.Interrupted)
plain_last true = refl
plain_last false = tt

plain_flags : (r : LockPage) (s : PageStage) → FlagsAt s → (hit : Bool) → IsPlainTurn page_table (flagged_to r s hit)
plain_flags r stage.Flag own hit = plain_turns hit (looks_in r.state)
plain_flags r stage.Last own hit = plain_last hit
plain_flags r s own hit = absurd own

pub flag_advances : (old new : Known) (r : Run LockPage) (s : PageStage) → FlagsAt s → IsAt page_table old r s → (w : ℕ)
    → new ≡ added old (item.Made (step.Flag (own_of old) w)) → Carries unchanged old new
    → ShowsGiven old (own_of old) w → ShowsNoFlag old (own_of old) w → (hit : Bool) → hit ≡ flag_of w → (u : PageTurn)
    → u ≡ flagged_to r.of s hit → Turned page_table old new r r s u
flag_advances old new r s own a w is carries given none hit tells u to =
    let loaded = added old (item.Made (step.Flag (own_of old) w)) in
    subst (λ (n : PageTurn). Turned page_table old new r r s n) (sym (to ∙ ap (flagged_to r.of s) tells))
    (subst (λ (k : Known). Turned page_table old k r r s (flagged_to r.of s (flag_of w))) (sym is)
    (advance_by page_table old loaded r r s (flagged_to r.of s (flag_of w)) refl a.fits
    (plain_flags r.of s own (flag_of w))
    (flag_from old r w (subst (Carries unchanged old) is carries) given none s own a)))

-- the task takes note of the page
pub note_given : (old : Known) (r : Run LockPage) → IsAt page_table old r stage.Clear
    → was_given_at (own_of old) (asks_for old) ≡ Some r.of.page
note_given old r a = ap (was_given_at (own_of old)) a.trail
    ∙ ap (λ (b : Bool). if b then Some r.of.page else None) (same_number (own_of old))

module _ (old : Known) (run : Run LockPage) (a : IsAt page_table old run stage.Clear) where
  abbrev n : Step
  n = step.Unflag (own_of old) (Some run.of.page)

  abbrev noted : Known
  noted = added old (item.Made n)

  note_asks : IsUnasked noted
  note_asks = asked_added old (item.Made n) ∙ (ap (ask_step n) a.trail
      ∙ ap (λ (b : Bool). if b then nothing_asked else was_given (own_of old) run.of.page) (same_number (own_of old)))

  note_from : KeepsBitOf noted (page run.of.page)
      → GoesOn page_table old noted run.of run.of stage.Clear (turn.Done outcome.Over)
  note_from keeps = own_goes page_table old old noted run.of run.of stage.Clear (turn.Done outcome.Over) n saw_nothing
      (only_none old) (only_none noted) (λ x did. tt)
      (page_keeps_noted (own_of old) (own_of old) run.of.page old noted refl) refl
      (refl, inr (sym (note_given old run a))) (tt, tt, tt) a.up
      (stands_same old n (post_of page_table run.of stage.Clear) (turn_post page_table run.of (turn.Done outcome.Over))
      a.stands refl refl refl refl a.stands.state a.stands.home)
      (over_end noted run.of keeps note_asks)

pub note_advances : (old new : Known) (r : Run LockPage)
    → new ≡ added old (item.Made (step.Unflag (own_of old) (Some r.of.page))) → KeepsBitOf new (page r.of.page)
    → IsAt page_table old r stage.Clear → Turned page_table old new r r stage.Clear (turn.Done outcome.Over)
note_advances old new r is keeps a =
    let noted = added old (item.Made (step.Unflag (own_of old) (Some r.of.page))) in
    subst (λ (k : Known). Turned page_table old k r r stage.Clear (turn.Done outcome.Over)) (sym is)
    (advance_by page_table old noted r r stage.Clear (turn.Done outcome.Over) refl a.fits tt
    (note_from old r a (subst (λ (k : Known). KeepsBitOf k (page r.of.page)) is keeps)))
