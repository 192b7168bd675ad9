-- What an account that fits its state says of selections and of interrupted waits.
use Rattle.std.proofs.lemmas.Bool.{both_ways}
use Rattle.std.proofs.Common.{refl, sym, ◌∙◌, ap, subst, arith, inl, inr}
use Rattle.std.specs.Prelude.{ℕ, ◌≡◌, ◌<◌, ◌≤◌, ◌≢◌, ◌⊎◌, Bool, true, false, if◌then◌else◌, is_some, List, Option, Some}
use Rattle.std.specs.Prelude.{None}
use Rattle.wait_model.specs.{declared.calls.Call.Call, declared.calls.Event.Event, declared.queues.Walking.Walking}
use Rattle.wait_model.specs.{declared.queues.Walked.Walked, declared.queues.CalledEntry.CalledEntry}
use Rattle.wait_model.specs.{declared.watches.Kind.Kind, declared.points.Planned.Planned, declared.points.Next.Next}
use Rattle.wait_model.specs.{declared.points.Progress.Progress, declared.points.Point.Point}
use Rattle.wait_model.specs.{declared.points.FinishPoint.FinishPoint, declared.points.WalkPoint.WalkPoint, Tasks.meets}
use Rattle.wait_model.specs.{Watches.mask_of, Tables.value_of, declared.points.Seen.Seen, Accounts.Account}
use Rattle.wait_model.specs.Accounts.{account_of}
use Rattle.wait_model.specs.Points.{call_aim, call_watch, call_number, call_head, is_lock, mode_of, count_of}
use Rattle.wait_model.specs.Programs.{go, ends_with, signalled, interrupted, zero_answer, call_entry, call_next}
use Rattle.wait_model.specs.Programs.{reached, past, page_last}
use Rattle.wait_model.specs.Runs.{State, own, seen_by, planned, state_of, made_in}
use Rattle.wait_model.specs.Reached.{HomeAt, IsSoundCall, IsSound}
use Rattle.wait_model.specs.Selections.{IsSignalledHold, IsStopped, IsInterrupted, RunsAreOrderly}
use Rattle.wait_model.specs.declared.calls.Event.TheVariants as event
use Rattle.wait_model.specs.declared.calls.Answer.TheVariants as answer
use Rattle.wait_model.specs.declared.watches.Kind.TheVariants as kind
use Rattle.wait_model.specs.declared.points.Next.TheVariants as next
use Rattle.wait_model.specs.declared.points.Progress.TheVariants as now
use Rattle.wait_model.specs.declared.points.Point.TheVariants as at
use Rattle.wait_model.specs.declared.points.LeavePoint.TheVariants as leaving
use Rattle.wait_model.specs.declared.points.FinishPoint.TheVariants as finishing
use Rattle.wait_model.specs.declared.points.WalkPoint.TheVariants as walking
use Rattle.wait_model.proofs.{RunLaws.FineEvents.none_there, RunLaws.EveryRun.sound_of}
use Rattle.wait_model.proofs.{AccountLaws.Selections.IsAccounted, AccountLaws.Selections.accounted_of}
use Rattle.wait_model.proofs.{AccountLaws.Refusals.refusal, AccountLaws.Refusals.not_signalled}
use Rattle.wait_model.proofs.{AccountLaws.PageTrails.PageTrailAt, AccountLaws.PageTrails.trails_of}
use Rattle.wait_model.proofs.{WaitLaws.WaitStages.FitsStage, WaitLaws.Waiters.fits_of}
use Rattle.wait_model.proofs.WaitLaws.OutsideStages.{either, unset, both}
use Rattle.wait_model.proofs.AccountLaws.RunAccounts.{IsTurn, TurnAt, IsSum, IsChosen, ChosenAt, on_sum, after_sum}
use Rattle.wait_model.proofs.AccountLaws.TakenEntries.{OffAt, off_below, off_told}
use Rattle.wait_model.proofs.AccountLaws.GivenUpWaits.{BrokenAt, is_off, given_up}
use Rattle.wait_model.specs.declared.points.AwaitPoint.TheVariants as awaiting
use Rattle.wait_model.specs.declared.points.BitPoint.TheVariants as biting
use Rattle.wait_model.specs.declared.points.PagePoint.TheVariants as paging
use Rattle.wait_model.specs.declared.points.PageStage.TheVariants as staging

-- how many a walk selected by its answer
abbrev walked_of : Next → ℕ
walked_of (next.Ends (answer.Walk w)) = w.selected
walked_of _ = 0

abbrev is_walk_end : Next → Bool
is_walk_end (next.Ends (answer.Walk w)) = true
is_walk_end _ = false

sum_below : (call : Call) (w : Walking) → IsSum call w → 0 < count_of call → w.selected ≤ count_of call
sum_below call w (inl z) h = absurd (omega arith)
sum_below call w (inr z) h = omega arith

chosen_below : (call : Call) (p : WalkPoint) (k : ℕ) → IsChosen call (at.Walk p) k → 0 < count_of call
    → k ≤ count_of call
chosen_below call walking.Lock k h c = omega arith
chosen_below call (walking.Call w) k h c = let b : w.selected ≤ count_of call =
    sum_below call w (on_sum call w h.1) c in omega (arith, h.0)
chosen_below call (walking.Wake w d) k h c = let b : w.selected ≤ count_of call =
    sum_below call w (on_sum call w h.1) c in omega (arith, h.0)
chosen_below call (walking.Bit w d) k h c = let b : w.selected ≤ count_of call =
    sum_below call w (on_sum call w h.1) c in omega (arith, h.0)
chosen_below call (walking.Page staging.Try w d) k h c = let b : w.selected ≤ count_of call =
    sum_below call w (on_sum call w h.1) c in omega (arith, h.0)
chosen_below call (walking.Page staging.Hand w d) k h c = let b : w.selected ≤ count_of call =
    sum_below call w (on_sum call w h.1) c in omega (arith, h.0)
chosen_below call (walking.Page staging.Wake w d) k h c = let b : (past w d true).selected ≤ count_of call =
    sum_below call (past w d true) (after_sum call (past w d true) h.1) c in
    subst (λ (i : ℕ). i ≤ count_of call) (sym h.0) b
chosen_below call (walking.Page staging.Off w d) k h c = let b : (past w d true).selected ≤ count_of call =
    sum_below call (past w d true) (after_sum call (past w d true) h.1) c in
    subst (λ (i : ℕ). i ≤ count_of call) (sym h.0) b
chosen_below call (walking.Stopped w) k h c = let b : w.selected ≤ count_of call =
    sum_below call w (on_sum call w h.1) c in omega (arith, h.0)
chosen_below call (walking.Unqueue w who) k h c = let b : w.selected ≤ count_of call =
    sum_below call w (after_sum call w h.1) c in omega (arith, h.0)
chosen_below call (walking.BreakUnlock w) k h c = let b : w.selected ≤ count_of call =
    sum_below call w (on_sum call w h.1) c in omega (arith, h.0)
chosen_below call (walking.BreakLock w) k h c = let b : w.selected ≤ count_of call =
    sum_below call w (on_sum call w h.1) c in omega (arith, h.0)
chosen_below call (walking.Unmark w) k h c = let b : w.selected ≤ count_of call =
    sum_below call w (on_sum call w h.1) c in omega (arith, h.0)
chosen_below call (walking.Spent w) k h c = let b : w.selected ≤ count_of call =
    sum_below call w h.1 c in omega (arith, h.0)

-- a walk that goes on answers nothing
goes_on : (x : Next) (w : Walked) → is_walk_end x ≡ false → x ≡ next.Ends (answer.Walk w) → ⊥
goes_on x w h e = absurd (both_ways false refl (sym h ∙ ap is_walk_end e))

entry_goes_on : (call : Call) (w : Walking) (c : CalledEntry) (j : Kind) (seen : Seen) (hit : Bool)
    → is_walk_end (call_entry (call_aim call) w c j seen hit).next ≡ false
entry_goes_on call w c kind.Autoremove seen hit = refl
entry_goes_on call w c j seen hit = refl

next_told : (call : Call) (w : Walking) (o : Option CalledEntry) (seen : Seen) (hit : Bool) (x : Walked)
    → (call_next (call_aim call) w o seen hit).next ≡ next.Ends (answer.Walk x) → x.selected ≡ w.selected
next_told call w None seen hit x e = sym (ap walked_of e)
next_told call w (Some c) seen hit x e = absurd (goes_on _ x (entry_goes_on call w c c.kind seen hit) e)

-- a walk that breaks goes on
call_told : (call : Call) (w : Walking) (b : Bool) (o : Option CalledEntry) (seen : Seen) (hit : Bool) (x : Walked)
    → (if b then go (event.Mark (call_head call)) (at.Walk (walking.BreakUnlock w))
    else call_next (call_aim call) w o seen hit).next ≡ next.Ends (answer.Walk x) → x.selected ≡ w.selected
call_told call w true o seen hit x e = absurd (goes_on _ x refl e)
call_told call w false o seen hit x e = next_told call w o seen hit x e

walk_told : (s : State) (me : ℕ) (call : Call) (p : WalkPoint) (k : ℕ) (x : Walked) → IsChosen call (at.Walk p) k
    → (planned s me call (at.Walk p)).next ≡ next.Ends (answer.Walk x) → x.selected ≡ k
walk_told s me call (walking.Call w) k x h e = call_told call (reached w seen.calls) seen.breaks seen.called seen
    (meets (mask_of (mode_of call)) seen.other.state) x e ∙ sym h.0
  where
    seen : Seen
    seen = seen_by s me call (at.Walk (walking.Call w))
walk_told s me call (walking.Page staging.Try w c) k x h e = absurd (goes_on _ x refl e)
walk_told s me call (walking.Stopped w) k x h e = sym (ap walked_of e) ∙ sym h.0
walk_told s me call (walking.Spent w) k x h e = sym (ap walked_of e) ∙ sym h.0
walk_told s me call _ k x h e = absurd (goes_on _ x refl e)

module _ (s : State) (me : ℕ) (call : Call) (a : Account) where
  abbrev Interrupts : Planned → Type 0
  Interrupts x = x.next ≡ next.Ends signalled
      → IsStopped s a me call x.event ⊎ IsInterrupted s a me call x.event

  -- an event after which the call goes on, or answers something else
  interrupts_not : (x : Planned) → refusal x.next ≢ refusal (next.Ends signalled) → Interrupts x
  interrupts_not x h z = absurd (h (ap refusal z))

  interrupts_on : (e : Event) (p : Point) → Interrupts (go e p)
  interrupts_on e p = interrupts_not (go e p) (λ z. omega (arith, z))

  -- the last load of a signalled turn
  loaded : (b : Bool) → unset s call ≡ b → IsTurn call (at.Leave leaving.Load) me (a.trail me)
      → s.table.entry (own me) ≡ None
      → Interrupts (if b then ends_with (event.Load (call_number call) (value_of s.table.words (call_watch call)))
      signalled
      else go (event.Load (call_number call) (value_of s.table.words (call_watch call)))
      (at.Finish finishing.State false))
  loaded true q turn off = λ z. inr (record { turn = turn; off = off; load = refl; unset = q })
  loaded false q turn off = interrupts_on _ _

  -- the unlock of a hold in which a wait for a completion was signalled
  stopped : (b : Bool) → is_some (s.table.entry (own me)) ≡ b
      → IsTurn call (at.Await (awaiting.Off true)) me (a.trail me)
      → Interrupts (if b then go (event.Unqueue me) (at.Await (awaiting.Last true))
      else ends_with (event.Unlock (call_head call) false) signalled)
  stopped true there turn = interrupts_on _ _
  stopped false there turn = λ z. inl (record {
    hold = record { earlier = turn.0; hold = inl turn.1 };
    off = none_there (s.table.entry (own me)) there;
    unlock = refl;
  })

  stopped_off : (l : List Event) → IsTurn call (at.Await (awaiting.Last true)) me l
      → IsSignalledHold me (call_head call) (call_number call) l
  stopped_off l t = record { earlier = t.0; hold = inr t.1 }

  -- an interrupted wait for a bit answers otherwise
  interrupts_finished : (e : Event) → Interrupts (if is_lock call then go e (at.Bit biting.Last)
      else ends_with e interrupted)
  interrupts_finished e = either Interrupts (is_lock call) _ _ (interrupts_on _ _)
      (interrupts_not _ (λ z. omega (arith, z)))

  interrupts_finish : (p : FinishPoint) → Interrupts (planned s me call (at.Finish p true))
  interrupts_finish finishing.State = interrupts_on _ _
  interrupts_finish finishing.Look = either Interrupts (is_some (s.table.entry (own me))) _ _ (interrupts_on _ _)
      (interrupts_finished _)
  interrupts_finish finishing.Lock = interrupts_on _ _
  interrupts_finish finishing.Queue = either Interrupts (is_some (s.table.entry (own me))) _ _ (interrupts_on _ _)
      (interrupts_finished _)
  interrupts_finish finishing.Unlock = interrupts_finished _

  interrupts_last : (e : Event) (b : Bool) → Interrupts (ends_with e (if b then interrupted else zero_answer))
  interrupts_last e true = interrupts_not _ (λ z. omega (arith, z))
  interrupts_last e false = interrupts_not _ (λ z. omega (arith, z))

  interrupts : (p : Point) → IsTurn call p me (a.trail me) → HomeAt (now.Open call p) (s.table.entry (own me))
      → Interrupts (planned s me call p)
  interrupts (at.Leave leaving.Load) turn home = loaded (unset s call) refl turn
      (is_off (s.table.entry (own me)) (call_watch call) home)
  interrupts (at.Await (awaiting.Off true)) turn home = stopped (is_some (s.table.entry (own me))) refl turn
  interrupts (at.Await (awaiting.Last true)) turn home = λ z. inl (record {
    hold = stopped_off (a.trail me) turn;
    off = is_off (s.table.entry (own me)) (call_watch call) home;
    unlock = refl;
  })
  interrupts (at.Finish p true) turn home = interrupts_finish p
  interrupts (at.Bit biting.Last) turn home = interrupts_last _ (unset s call)
  interrupts (at.Page paging.Last) turn home = both (λ b. Interrupts (page_last b))
      (seen_by s me call (at.Page paging.Last)).flag (interrupts_on _ _) (interrupts_not _ (λ z. omega (arith, z)))
  interrupts at.Worn turn home = either Interrupts (unset s call) _ _ (interrupts_not _ (λ z. omega (arith, z)))
      (either Interrupts (is_lock call) _ _ (interrupts_not _ (λ z. omega (arith, z))) (interrupts_on _ _))
  interrupts at.First turn home = λ z. absurd (not_signalled s me call at.First tt z)
  interrupts p turn home = λ z. absurd (not_signalled s me call p tt z)

pub orderly : RunsAreOrderly
orderly run r few =
    let h : IsAccounted (state_of run) (account_of run) = accounted_of run r few in
    let sound : IsSound (state_of run) (made_in run) = sound_of run r few in
    record {
      selections = record {
        at_most = λ me call p is c. chosen_below call p ((account_of run).selected me)
            (subst (λ (q : Progress). ChosenAt q ((account_of run).selected me)) is (h.chosen me)) c;
        off_at_most = λ me call p is. off_below (state_of run) me call ((account_of run).unqueued me) p
            (subst (λ (q : Progress). OffAt q ((account_of run).unqueued me)) is (h.off me));
        off_told = λ me c all p x is. off_told (state_of run) me c all ((account_of run).unqueued me) p x
            (subst (λ (q : Progress). OffAt q ((account_of run).unqueued me)) is (h.off me));
        told = λ me call p w is e. walk_told (state_of run) me call p ((account_of run).selected me) w
            (subst (λ (q : Progress). ChosenAt q ((account_of run).selected me)) is (h.chosen me)) e;
      };
      interrupts = λ me call p is. interrupts (state_of run) me call (account_of run) p
          (subst (λ (q : Progress). TurnAt q me ((account_of run).trail me)) is (h.turn me))
          (subst (λ (q : Progress). HomeAt q ((state_of run).table.entry (own me))) is (sound.placed me).home);
      gives_up = λ me call p is. given_up (state_of run) me call (account_of run) p
          (subst (IsSoundCall (made_in run)) is (sound.calls me)).fitted
          (subst FitsStage is (fits_of run r few me))
          (subst (λ (q : Progress). BrokenAt q ((account_of run).trail me)) is (h.broken me))
          (subst (λ (q : Progress). PageTrailAt q ((state_of run).table.flag (own me)) ((account_of run).trail me)) is
          (trails_of run r few me))
          (subst (λ (q : Progress). HomeAt q ((state_of run).table.entry (own me))) is (sound.placed me).home);
      signals = h.signals;
    }
