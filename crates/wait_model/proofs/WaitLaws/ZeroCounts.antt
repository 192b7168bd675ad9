-- A wait for a completion found the count 0 in the hold in which it prepared, and its view keeps that after its
-- store of a state.
use Rattle.std.proofs.lemmas.Bool.{both_ways}
use Rattle.std.proofs.lemmas.Bool.Decides.{nat_tests}
use Rattle.std.proofs.Common.{refl, sym, ◌∙◌, ap, subst, arith}
use Rattle.std.specs.Prelude.{ℕ, ◌≡◌, ◌+◌, ◌≤◌, Bool, true, false, not, ◌&&◌, ◌==◌, if◌then◌else◌, is_some}
use Rattle.std.specs.Prelude.{Some, List, [], ◌∷◌}
use Rattle.wait_model.specs.{declared.layout.TheConstants.EVENTS, declared.calls.Call.Call, declared.calls.Event.Event}
use Rattle.wait_model.specs.{declared.calls.Ran.Ran, declared.steps.Step.Step, declared.points.Planned.Planned}
use Rattle.wait_model.specs.{declared.points.Progress.Progress, declared.points.Point.Point, Tables.value_of}
use Rattle.wait_model.specs.{Tables.steps, Views.View, Fold.after_all, Fold.holding}
use Rattle.wait_model.specs.Tasks.{pending, state_mask, looks_in}
use Rattle.wait_model.specs.Watches.{head_of, misses, failing}
use Rattle.wait_model.specs.Points.{call_watch, call_head, call_number, is_await, is_bit_wait, is_lock, state_in}
use Rattle.wait_model.specs.Points.{given_at}
use Rattle.wait_model.specs.Programs.{program_start, signalled_at, prepared_at, slept_at, ask, acted, finished}
use Rattle.wait_model.specs.Programs.{look_event}
use Rattle.wait_model.specs.Runs.{State, own, given_by, seen_by, event_steps, planned, progress_at, progress_after}
use Rattle.wait_model.specs.Runs.{happens, start_state, state_after, state_of, Continues, IsRunFrom, IsRun, made_in}
use Rattle.wait_model.specs.Reached.{IsFitted, IsSoundCall, IsSound, held_at}
use Rattle.wait_model.specs.declared.calls.Call.TheVariants as calls
use Rattle.wait_model.specs.declared.calls.Event.TheVariants as event
use Rattle.wait_model.specs.declared.calls.Ran.TheVariants as ran
use Rattle.wait_model.specs.declared.points.Progress.TheVariants as now
use Rattle.wait_model.specs.declared.points.Point.TheVariants as at
use Rattle.wait_model.specs.declared.points.PreparePoint.TheVariants as preparing
use Rattle.wait_model.specs.declared.points.LeavePoint.TheVariants as leaving
use Rattle.wait_model.specs.declared.points.FinishPoint.TheVariants as finishing
use Rattle.wait_model.specs.declared.points.AwaitPoint.TheVariants as awaiting
use Rattle.wait_model.specs.declared.points.BitPoint.TheVariants as biting
use Rattle.wait_model.proofs.{Functions.put_at, HistoryLaws.HoldLooks.steps_own, HistoryLaws.HoldLooks.steps_other}
use Rattle.wait_model.proofs.{WaitLaws.NextStages.misses_fails, StepLaws.UnlockSteps.unlock_checks}
use Rattle.wait_model.proofs.RunLaws.EveryRun.{opened_sound, made_sound, start_sound}
use Rattle.wait_model.proofs.WaitLaws.OutsideStages.{either, both, unset, is_aside}

-- in its hold the view has a load of the count that found 0, and after the store of a state it keeps it
abbrev pub FoundZero : Call → View → Type 0
FoundZero call v = is_await call ≡ true → (n : ℕ) × (v.hold.zero (call_watch call) ≡ Some n)

abbrev pub ZeroKept : Call → View → ℕ → Type 0
ZeroKept call v x = is_await call ≡ true → (n : ℕ) × (v.checks.zero_failed x (call_watch call) ≡ Some n)

abbrev pub IsZero : Call → Point → View → ℕ → Type 0
IsZero call (at.Prepare preparing.Lock) v x = Unit {0}
IsZero call (at.Prepare preparing.Unlock) v x = ZeroKept call v x
IsZero call (at.Prepare p) v x = FoundZero call v
IsZero call at.Test v x = is_await call ≡ false
IsZero call at.Sleep v x = ZeroKept call v x
IsZero call (at.Await (awaiting.Lock true)) v x = ZeroKept call v x
IsZero call _ v x = Unit {0}

abbrev pub ZeroAt : Progress → View → ℕ → Type 0
ZeroAt (now.Open call p) v x = IsZero call p v x
ZeroAt now.Idle v x = Unit {0}
ZeroAt now.Fresh v x = Unit {0}

-- such a wait loads a count, and fails where that is 0
await_misses : (call : Call) (r : ℕ) → is_await call ≡ true → (r == 0) ≡ true → misses (call_watch call) r ≡ true
await_misses (calls.WaitFor d st) r w z = z
await_misses call r w z = absurd (cc)

module _ (s : State) (me : ℕ) (call : Call) where
  abbrev v : View
  v = s.table.view me

  module _ (p : Point) where
    -- the view after an event, and what it says at the place to which the event leads
    abbrev then_view : Event → View
    then_view e = after_all v (event_steps s me (given_at call p) e)

    abbrev Led : Event → Point → Type 0
    Led e q = IsZero call q (then_view e) (own me)

    abbrev Z : Planned → Type 0
    Z x = ZeroAt (progress_at call x.next) (then_view x.event) (own me)

    zero_aside : (q : Point) (e : Event) → is_aside q ≡ true → Led e q
    zero_aside (at.Prepare preparing.Lock) e h = tt
    zero_aside (at.Await (awaiting.Lock false)) e h = tt
    zero_aside q e h = grind arith

    zero_finished : (failed : Bool) (e : Event) → Z (finished call failed e)
    zero_finished failed e = either Z (failed && is_lock call) _ _ tt tt

  zero_signalled : (c : Call) (u : View) (x : ℕ) → IsZero c (signalled_at c) u x
  zero_signalled (calls.WaitFor d st) u x = tt
  zero_signalled c u x = tt

  zero_prepared : (c : Call) (u : View) (x : ℕ) → ZeroKept c u x → IsZero c (prepared_at c) u x
  zero_prepared (calls.WaitFor d st) u x h = h
  zero_prepared (calls.WaitBit w b st) u x h = tt
  zero_prepared (calls.LockBit w b st) u x h = tt
  zero_prepared c u x h = refl

  zero_slept : (c : Call) (u : View) (x : ℕ) → ZeroKept c u x → IsZero c (slept_at c) u x
  zero_slept (calls.WaitFor d st) u x h = h
  zero_slept c u x h = tt

  -- the load of the count in the hold
  zero_load : (waited zero look : Bool) (r : ℕ) → (r == 0) ≡ zero → v.hold.head ≡ Some (call_head call)
      → Led (at.Await (awaiting.Load waited)) (event.Load (call_number call) r)
      (if zero then at.Prepare (if look then preparing.Look else preparing.Queue)
      else at.Await (if waited then awaiting.Run false else awaiting.Last false))
  zero_load waited true look r z held = either
      (λ q. Led (at.Await (awaiting.Load waited)) (event.Load (call_number call) r) (at.Prepare q)) look _ _ now_found
      now_found
    where
      now_found : FoundZero call (then_view (at.Await (awaiting.Load waited)) (event.Load (call_number call) r))
      now_found w = (v.checks.found (head_of (call_watch call)), is)
        where
          h : holding v.hold.head (call_head call) ≡ true
          h = rw held (grind (arith, nat_tests))

          f : failing (call_watch call) r (call_watch call) ≡ true
          f = misses_fails (call_watch call) r (await_misses call r w z)

          is : (if holding v.hold.head (call_head call) && failing (call_watch call) r (call_watch call)
              then Some (v.checks.found (call_head call)) else v.hold.zero (call_watch call))
              ≡ Some (v.checks.found (call_head call))
          is = rw (h, f) refl
  zero_load true false look r z held = tt
  zero_load false false look r z held = tt

  pub zero_step : (p : Point) → IsFitted call p → v.hold.head ≡ held_at (now.Open call p)
      → IsZero call p v (own me) → Z p (planned s me call p)
  zero_step (at.Prepare preparing.Lock) f held h = either
      (λ q. Led (at.Prepare preparing.Lock) (event.Lock (call_head call)) (at.Prepare q))
      (not (is_bit_wait call) && looks_in (state_in call)) _ _
      (λ w. absurd (both_ways false refl (sym f ∙ w))) (λ w. absurd (both_ways false refl (sym f ∙ w)))
  zero_step (at.Prepare preparing.Look) f held h = both (λ b. Z (at.Prepare preparing.Look) (look_event call b))
      (pending (state_mask (state_in call)) (s.table.task me)) (zero_signalled call _ _) h
  zero_step (at.Prepare preparing.Queue) f held h = either (Z (at.Prepare preparing.Queue))
      (is_some (s.table.entry (own me))) _ _ h h
  zero_step (at.Prepare preparing.State) f held h = h
  zero_step (at.Prepare preparing.Unlock) f held h = zero_prepared call _ (own me)
      (λ w. let k = h w in (
        k.0,
        ap (λ c. c.zero_failed (own me) (call_watch call)) (unlock_checks v v.walk false)
            ∙ k.1,
      ))
  zero_step at.Test f held h = either
      (Led at.Test (event.Load (call_number call) (value_of s.table.words (call_watch call)))) (unset s call) _ _
      (λ w. absurd (both_ways false refl (sym h ∙ w))) tt
  zero_step at.Sleep f held h = zero_slept call _ (own me) h
  zero_step (at.Leave leaving.Queue) f held h = either (Z (at.Leave leaving.Queue))
      (is_some (s.table.entry (own me))) _ _ tt tt
  zero_step (at.Finish finishing.Look true) f held h = either (Z (at.Finish finishing.Look true))
      (is_some (s.table.entry (own me))) _ _ tt (zero_finished (at.Finish finishing.Look true) true _)
  zero_step (at.Finish finishing.Queue true) f held h = either (Z (at.Finish finishing.Queue true))
      (is_some (s.table.entry (own me))) _ _ tt (zero_finished (at.Finish finishing.Queue true) true _)
  zero_step (at.Finish finishing.Unlock true) f held h = zero_finished (at.Finish finishing.Unlock true) true _
  zero_step (at.Bit biting.Look) f held h = both
      (λ b. Led (at.Bit biting.Look) (event.Look b) (acted call b))
      (pending (state_mask (state_in call)) (s.table.task me))
      (either (Led (at.Bit biting.Look) (event.Look true)) (is_lock call) _ _ tt tt) tt
  zero_step (at.Bit (biting.Again failed)) f held h = either
      (Led (at.Bit (biting.Again failed)) (ask call (seen_by s me call (at.Bit (biting.Again failed)))))
      (unset s call && not failed) _ _ tt tt
  zero_step (at.Await (awaiting.Load waited)) f held h = zero_load waited
      (value_of s.table.words (call_watch call) == 0) (not (is_bit_wait call) && looks_in (state_in call))
      (value_of s.table.words (call_watch call)) refl held
  zero_step (at.Await (awaiting.Off true)) f held h = either (Z (at.Await (awaiting.Off true)))
      (is_some (s.table.entry (own me))) _ _ tt tt
  zero_step p f held h = grind arith

pub start_zero : (call : Call) (v : View) (x : ℕ) → IsZero call (program_start call) v x
start_zero calls.Remove v x = tt
start_zero call v x = tt

-- in every state of a run
abbrev pub AllZero : State → Type 0
AllZero s = (t : ℕ) → ZeroAt (s.progress t) (s.table.view t) (own t)

opened_zero : (s : State) (me : ℕ) (call : Call) → AllZero s → AllZero (happens s (ran.Opened me call))
opened_zero s me call h = λ t. put_at (λ q. ZeroAt q (s.table.view t) (own t)) s.progress me _ t
    (λ _. start_zero call (s.table.view t) (own t)) (λ _. h t)

module _ (s : State) (n me : ℕ) (e : Event) (found : ℕ) (sound : IsSound s n) where
  own_zero : (q : Progress) → s.progress me ≡ q → Continues s me q e found → ZeroAt q (s.table.view me) (own me)
      → ZeroAt (progress_after s me q) (after_all (s.table.view me) (event_steps s me (given_by q) e)) (own me)
  own_zero now.Fresh is c h = absurd c
  own_zero now.Idle is c h = absurd c
  own_zero (now.Open call p) is c h =
      subst (λ (x : Event). ZeroAt (progress_after s me (now.Open call p))
      (after_all (s.table.view me) (event_steps s me (given_at call p) x)) (own me)) (sym c.0)
      (zero_step s me call p (subst (IsSoundCall n) is (sound.calls me)).fitted
      ((sound.placed me).head ∙ ap held_at is) h)

  abbrev es : List Step
  es = event_steps s me (given_by (s.progress me)) e

  made_zero : Continues s me (s.progress me) e found → AllZero s → AllZero (happens s (ran.Made me e found))
  made_zero c h = λ t. put_at (λ q. ZeroAt q ((steps s.table me es).view t) (own t)) s.progress me _ t
      (λ q. subst (λ (i : ℕ). ZeroAt (progress_after s me (s.progress me)) ((steps s.table me es).view i) (own i))
      (sym q)
      (subst (λ (u : View). ZeroAt (progress_after s me (s.progress me)) u (own me)) (sym (steps_own s.table me es))
      (own_zero (s.progress me) refl c (h me))))
      (λ ne. subst (λ (u : View). ZeroAt (s.progress t) u (own t)) (sym (steps_other s.table me t es ne)) (h t))

zero_after : (s : State) (items : List Ran) (n : ℕ) → IsRunFrom s items → IsSound s n → n + made_in items ≤ EVENTS
    → AllZero s → AllZero (state_after s items)
zero_after s [] n r sound few h = h
zero_after s (ran.Opened me call ∷ items) n r sound few h = zero_after (happens s (ran.Opened me call)) items n r.1
    (opened_sound s n me call sound r.0) few (opened_zero s me call h)
zero_after s (ran.Made me e found ∷ items) n r sound few h =
    zero_after (happens s (ran.Made me e found)) items (n + 1) r.1
    (made_sound s n me e found sound (omega arith) r.0) (omega arith) (made_zero s n me e found sound r.0.1 h)

pub zero_of : (run : List Ran) → IsRun run → made_in run ≤ EVENTS → AllZero (state_of run)
zero_of run r few = zero_after start_state run 0 r start_sound (omega arith) (λ t. tt)
