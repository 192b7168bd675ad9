-- Whoever a wait for a flag has put asleep has heard nothing since it tested its watch.
use Rattle.std.proofs.lemmas.Bool.Decides.{nat_tests}
use Rattle.std.proofs.Common.{refl, sym, ◌∙◌, ap, subst, append_assoc, arith, inr}
use Rattle.std.specs.Prelude.{ℕ, ◌≡◌, ◌≢◌, ◌<◌, ◌==◌, Bool, true, false, if◌then◌else◌, Some, List, [], ◌∷◌, ◌++◌}
use Rattle.wait_model.specs.{declared.layout.TheConstants.SLOTS, declared.points.Next.Next, declared.points.Point.Point}
use Rattle.wait_model.specs.{declared.points.Seen.Seen, declared.steps.Step.Step, declared.tasks.SleepState.SleepState}
use Rattle.wait_model.specs.{declared.watches.Kind.Kind, declared.watches.Watch.Watch, Histories.Since, Points.given_at}
use Rattle.wait_model.specs.{Programs.program, Programs.zero_answer, Tasks.sleep_of, Tasks.state_mask, Views.View}
use Rattle.wait_model.specs.{Fold.view_of, Wakes.Sleeps, Words.flag_of}
use Rattle.wait_model.specs.Readings.{FailedBy, HasTestedUnheard, UnheardLoad, clears_flag, fails, outdates, reads_no}
use Rattle.wait_model.specs.Watches.{is_done, is_page, is_woken, owner}
use Rattle.wait_model.specs.declared.calls.Call.TheVariants as calls
use Rattle.wait_model.specs.declared.calls.Event.TheVariants as event
use Rattle.wait_model.specs.declared.points.Next.TheVariants as next
use Rattle.wait_model.specs.declared.points.Point.TheVariants as at
use Rattle.wait_model.specs.declared.points.WokenPoint.TheVariants as hearing
use Rattle.wait_model.specs.declared.steps.Step.TheVariants as step
use Rattle.wait_model.specs.declared.watches.Kind.TheVariants as kind
use Rattle.wait_model.proofs.{HistoryLaws.NoLostWake.no_wake_is_lost, HistoryLaws.Stretches.lacks_append}
use Rattle.wait_rule.specs.{Items.steps_of, Known.Known, Queues.index, Says.history_of, Says.told_of}
use Rattle.wait_rule.specs.Transitions.{FindsStep, Goes, IsMadeFor, IsStepFor, IsTransition, OnlyLooks, Program}
use Rattle.wait_rule.specs.Transitions.{StepOrLook, Transition, after_step_or_look, after_transition, by_look, by_step}
use Rattle.wait_rule.specs.Transitions.{call_program}
use Rattle.wait_event.specs.WokenWaits.{woken_program}
use Rattle.wait_event.proofs.Hearing.Endings.{hears_on}
use Rattle.wait_rule.proofs.TableSteps.MemberMoves.{own_index}
use Rattle.waiter_laws.proofs.HistoryRuns.{IsLed, Leads, only_still, run, step_history}
use Rattle.waiter_laws.specs.Listening.{EndsListening, HearingsAreOne, ListenersAreKept, StretchesEndListening}

-- a step after which the test is still unheard, and one after which the flag is still read as not set
tested_on : (es : List Step) (x : ℕ) (c : Watch) (e : Step) → clears_flag x e ≡ false → fails e c ≡ false
    → HasTestedUnheard es x c → HasTestedUnheard (es ++ e ∷ []) x c
tested_on es x c e quiet calm h = record {
  before = h.before;
  load = h.load;
  later = h.later ++ e ∷ [];
  split = ap (λ (l : List Step). l ++ e ∷ []) h.split ∙ append_assoc h.before (h.load ∷ h.later) (e ∷ []);
  is_load = h.is_load;
  uncleared = lacks_append (clears_flag x) h.later (e ∷ []) h.uncleared (quiet, tt);
  is_last = lacks_append (λ f. fails f c) h.later (e ∷ []) h.is_last (calm, tt);
}

asked_on : (es : List Step) (x : ℕ) (e : Step) → outdates x e ≡ false → Since (reads_no x) (outdates x) es
    → Since (reads_no x) (outdates x) (es ++ e ∷ [])
asked_on es x e quiet h = record {
  earlier = h.earlier;
  it = h.it;
  later = h.later ++ e ∷ [];
  split = ap (λ (l : List Step). l ++ e ∷ []) h.split ∙ append_assoc h.earlier (h.it ∷ h.later) (e ∷ []);
  passes = h.passes;
  none_since = lacks_append (outdates x) h.later (e ∷ []) h.none_since (quiet, tt);
}

-- what the points of the wait say of the history
module _ (me slot : ℕ) (st : SleepState) (c : Watch) where
  abbrev x : ℕ
  x = index me slot

  abbrev ListensAt : Point → List Step → Type 0
  ListensAt (at.Woken hearing.State) es = HasTestedUnheard es x c
  ListensAt (at.Woken hearing.Flag) es = HasTestedUnheard es x c
  ListensAt (at.Woken hearing.Sleep) es = UnheardLoad es x c
  ListensAt (at.Woken p) es = Unit {0}
  ListensAt _ es = ⊥

  saw_still : (p : Point) (es : List Step) (y w : ℕ) → ListensAt p es → ListensAt p (es ++ step.Saw y w ∷ [])
  saw_still (at.Woken hearing.State) es y w h = tested_on es x c (step.Saw y w) refl refl h
  saw_still (at.Woken hearing.Flag) es y w h = tested_on es x c (step.Saw y w) refl refl h
  saw_still (at.Woken hearing.Sleep) es y w h = (
    tested_on es x c (step.Saw y w) refl refl h.0,
    asked_on es x (step.Saw y w) refl h.1,
  )
  saw_still (at.Woken p) es y w h = tt
  saw_still p es y w h = absurd h

  module _ (k : Known) where
    stores : (p : Point) (σ : ℕ) (e : Step) → IsStepFor k (Some x) (given_at (calls.Woken st) p) (event.State σ) e
        → HasTestedUnheard (history_of k) x c → HasTestedUnheard (history_of k ++ e ∷ []) x c
    stores p σ (step.State τ) made h = tested_on (history_of k) x c (step.State τ) refl refl h
    stores p σ e made h = absurd made

    reads : (p : Point) (hit : Bool) (e : Step)
        → IsStepFor k (Some x) (given_at (calls.Woken st) p) (event.Flag hit) e → (seen : Seen) → FindsStep e seen
        → seen.flag ≡ false → HasTestedUnheard (history_of k) x c
        → ListensAt (at.Woken hearing.Sleep) (history_of k ++ e ∷ [])
    reads p hit (step.Flag y w) made seen found none h = (
      tested_on (history_of k) x c (step.Flag y w) refl refl h,
      record {
        earlier = history_of k;
        it = step.Flag y w;
        later = [];
        split = refl;
        passes = let same : x ≡ y = let z : Some x ≡ Some y = made in cc in
            let own : (x == y) ≡ true = grind (arith, nat_tests) in
            let no_flag : flag_of w ≡ false = sym found ∙ none in rw (own, no_flag) refl;
        none_since = tt;
      },
    )
    reads p hit e made seen found none h = absurd made

    flag_to : (seen : Seen) (hit : Bool) → seen.flag ≡ hit → (e : Step)
        → IsStepFor k (Some x) (given_at (calls.Woken st) (at.Woken hearing.Flag)) (event.Flag seen.flag) e
        → FindsStep e seen → HasTestedUnheard (history_of k) x c
        → ListensAt (at.Woken (if hit then hearing.Run else hearing.Sleep)) (history_of k ++ e ∷ [])
    flag_to seen true is e made found h = tt
    flag_to seen false is e made found h = reads (at.Woken hearing.Flag) seen.flag e made seen found is h

    leads : (p : Point) (seen : Seen) → ListensAt p (history_of k)
        → Leads (call_program me slot (calls.Woken st)) ListensAt k p seen (program me (calls.Woken st) p seen)
    leads (at.Woken hearing.State) seen h =
        (λ e made found. stores (at.Woken hearing.State) (state_mask st) e made h, refl)
    leads (at.Woken hearing.Flag) seen h = (λ e made found. flag_to seen seen.flag refl e made found.0 h, refl)
    leads (at.Woken hearing.Sleep) seen h = (λ e made found. tt, refl)
    leads (at.Woken hearing.Run) seen h = (λ e made found. tt, refl)
    leads (at.Woken hearing.Clear) seen h = (λ e made found. tt, refl)
    leads p seen h = absurd h

  listening_led : IsLed (call_program me slot (calls.Woken st)) ListensAt
  listening_led = record { still = saw_still; leads = leads }

-- the sleep, and the looks behind it
module _ (me slot : ℕ) (st : SleepState) (c : Watch) (k : Known) (seen : Seen) where
  slept_on : (e : Step) → IsStepFor k (Some (index me slot)) (given_at (calls.Woken st) (at.Woken hearing.Sleep))
      (event.Sleep (sleep_of seen.own)) e → ListensAt me slot st c (at.Woken hearing.Sleep) (history_of k)
      → ListensAt me slot st c (at.Woken hearing.Sleep) (history_of k ++ e ∷ [])
  slept_on (step.Sleep w) made h = (
    tested_on (history_of k) (index me slot) c (step.Sleep w) refl refl h.0,
    asked_on (history_of k) (index me slot) (step.Sleep w) refl h.1,
  )
  slept_on e made h = absurd made

  behind : (s : StepOrLook) → IsMadeFor k (Some (index me slot)) (given_at (calls.Woken st) (at.Woken hearing.Sleep))
      (event.Sleep (sleep_of seen.own)) s → ListensAt me slot st c (at.Woken hearing.Sleep) (history_of k)
      → ListensAt me slot st c (at.Woken hearing.Sleep) (history_of (after_step_or_look s k))
  behind (by_step e) made h = subst (ListensAt me slot st c (at.Woken hearing.Sleep))
      (sym (step_history k e)) (slept_on e made h)
  behind (by_look xs) made h = absurd made

unheard : (slot : ℕ) (st : SleepState) (old new : Known) (c : Watch) → EndsListening slot st old new
    → HasTestedUnheard (history_of old) (index old.view.number slot) c
    → UnheardLoad (history_of new) (index old.view.number slot) c
unheard slot st old new c z tested = last
  where
    came : ListensAt old.view.number slot st c (at.Woken hearing.Sleep) (history_of z.came)
    came = run (call_program old.view.number slot (calls.Woken st)) (ListensAt old.view.number slot st c)
        (listening_led old.view.number slot st c) z.before (next.Go (at.Woken hearing.State))
        (at.Woken hearing.Sleep) old z.came
        z.comes tested

    last : ListensAt old.view.number slot st c (at.Woken hearing.Sleep) (history_of new)
    last = only_still (call_program old.view.number slot (calls.Woken st)) (ListensAt old.view.number slot st c)
        (listening_led old.view.number slot st c) (at.Woken hearing.Sleep) (after_transition z.sleep) new z.looked
        (behind old.view.number slot st c z.sleep.knew z.sleep.seen z.sleep.did z.sleeps.is
        (only_still (call_program old.view.number slot (calls.Woken st)) (ListensAt old.view.number slot st c)
        (listening_led old.view.number slot st c) (at.Woken hearing.Sleep) z.came z.sleep.knew z.sleeps.looks came))

by_flag : (k : Kind) (p d : Bool) (es : List Step) (x : ℕ) (c : Watch) → k ≡ kind.Woken → UnheardLoad es x c
    → FailedBy (is_woken k) p d es x c
by_flag k p d es x c is l = rw is l

pub listeners_are_kept : ListenersAreKept
listeners_are_kept slot st old new e c small z tested stored woken is s items ruled list down =
    record {
      sleeps = sleeps;
      woken = no_wake_is_lost s ruled.whole.told ruled.whole.kept.no_lost_wake at_own e c sleeps;
    }
  where
    at_own : ℕ
    at_own = index old.view.number slot

    own_is : owner at_own ≡ old.view.number
    own_is = own_index old.view.number slot (let few : slot < SLOTS = small in omega arith)

    history : s.history old.view.number ≡ history_of new
    history = ruled.histories old.view.number ∙ ap steps_of list

    view_is : s.view (owner at_own) ≡ told_of new
    view_is = ap (λ (i : ℕ). s.view i) own_is ∙ (ruled.whole.told old.view.number ∙ ap view_of history)

    low : (s.task old.view.number).state ≢ 0
    low zero = let t : (s.task old.view.number).runnable ≡ true = (ruled.lawful.tasks old.view.number).runnable zero
        in absurd (cc)

    sleeps : Sleeps s at_own e c
    sleeps = record {
      queued = ruled.own at_own e (ap (λ (v : View). v.bits.stored at_own) view_is ∙ stored) (inr woken);
      watches = is;
      down = subst (λ (i : ℕ). (s.task i).state ≢ 0) (sym own_is) low;
      failed = subst (λ (i : ℕ). FailedBy (is_woken e.kind) (is_page e.kind) (is_done c) (s.history i) at_own c)
          (sym own_is) (subst (λ (es : List Step). FailedBy (is_woken e.kind) (is_page e.kind) (is_done c) es at_own c)
          (sym history) (by_flag e.kind (is_page e.kind) (is_done c) (history_of new) at_own c woken
          (unheard slot st old new c z tested)));
    }

-- by stretches: behind the sleep nothing leads back to the place where a task goes on
module _ (me : ℕ) (st : SleepState) (mid new : Known) where
  abbrev f : Program
  f = woken_program me st

  abbrev run_point : Next
  run_point = next.Go (at.Woken hearing.Run)

  -- the sleep and looks behind it
  abbrev Slept : Type 0
  Slept = (t : Transition) × IsTransition f (at.Woken hearing.Sleep) mid t × OnlyLooks (after_transition t) new

  from_run : (k : Known) (us : List Transition) → Goes f k run_point us new run_point → OnlyLooks k new
  from_run k [] g = g.0
  from_run k (u ∷ []) g = absurd (let z : run_point ≡ next.Go (at.Woken hearing.Clear) = g.1.1 in cc)
  from_run k (u ∷ v ∷ []) g = absurd (let z : run_point ≡ next.Ends zero_answer = g.1.1.1 in cc)
  from_run k (u ∷ v ∷ w ∷ ws) g = absurd g.1.1

  slept_in : (ts : List Transition) → Goes f mid (next.Go (at.Woken hearing.Sleep)) ts new run_point → Slept
  slept_in [] g = absurd (let z : run_point ≡ next.Go (at.Woken hearing.Sleep) = g.1 in cc)
  slept_in (t ∷ ts) g = (t, g.0, from_run (after_transition t) ts g.1)

pub stretches_end_listening : StretchesEndListening
stretches_end_listening st old new z =
    let runs = z.slept.went.runs in
    let slept = slept_in old.view.number st z.mid new runs.transitions
    (subst (λ (n : ℕ). Goes (woken_program n st) z.mid (next.Go (at.Woken hearing.Sleep)) runs.transitions new
    (next.Go (at.Woken hearing.Run))) z.came.went.keeps.number runs.goes) in record {
      before = z.came.went.runs.transitions;
      came = z.mid;
      comes = z.came.went.runs.goes;
      sleep = slept.0;
      sleeps = slept.1;
      looked = slept.2;
    }

pub hearings_are_one : HearingsAreOne
hearings_are_one old mid new st s n u a b = hears_on old mid new st s n u a.went b
