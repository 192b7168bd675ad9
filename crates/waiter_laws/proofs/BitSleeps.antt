-- The waits for bits sleep at one point alone.
use Rattle.std.proofs.Common.{refl, sym, ◌∙◌}
use Rattle.std.specs.Prelude.{ℕ, ◌≡◌, Bool, true, false, not, ◌&&◌, is_some}
use Rattle.wait_model.specs.{declared.calls.Call.Call, declared.calls.Event.Event, declared.points.Planned.Planned}
use Rattle.wait_model.specs.{declared.points.Point.Point, declared.points.Seen.Seen, Tasks.pending, Tasks.state_mask}
use Rattle.wait_model.specs.Points.{call_head, is_bit_wait, is_lock, state_in}
use Rattle.wait_model.specs.Programs.{ask, call_fails, finished, go, look_event, prepared_at, program, signalled_at}
use Rattle.wait_model.specs.Programs.{worn_next}
use Rattle.wait_model.specs.declared.calls.Call.TheVariants as calls
use Rattle.wait_model.specs.declared.calls.Event.TheVariants as event
use Rattle.wait_model.specs.declared.points.BitPoint.TheVariants as biting
use Rattle.wait_model.specs.declared.points.FinishPoint.TheVariants as finishing
use Rattle.wait_model.specs.declared.points.LeavePoint.TheVariants as leaving
use Rattle.wait_model.specs.declared.points.Point.TheVariants as at
use Rattle.wait_model.specs.declared.points.PreparePoint.TheVariants as preparing
use Rattle.wait_model.proofs.WaitLaws.OutsideStages.{either}
use Rattle.waiter_laws.proofs.{LastSleeps.Stays, LastSleeps.goes_within, PointRuns.is_active, PointRuns.is_sleep_event}

-- the points of such a wait, and some more
abbrev pub is_biting : Point → Bool
is_biting (at.Prepare p) = true
is_biting at.Worn = true
is_biting (at.Leave p) = true
is_biting (at.Finish p failed) = true
is_biting (at.Bit p) = true
is_biting _ = false

abbrev Fits : Point → Planned → Type 0
Fits p u = Stays is_biting (at.Bit biting.Sleep) p u

module _ (me : ℕ) (call : Call) (is : is_bit_wait call ≡ true) where
  -- what depends on the call
  goes_on : (is_biting (prepared_at call) ≡ true) × (is_biting (signalled_at call) ≡ true)
      × (goes_within is_biting (worn_next call) ≡ true)
  goes_on = by call is
    where
      by : (a : Call) → is_bit_wait a ≡ true → (is_biting (prepared_at a) ≡ true)
          × (is_biting (signalled_at a) ≡ true) × (goes_within is_biting (worn_next a) ≡ true)
      by (calls.WaitBit w b st) t = (refl, refl, refl)
      by (calls.LockBit w b st) t = (refl, refl, refl)
      by a t = absurd (cc)

  asks_none : (seen : Seen) → is_active (ask call seen) ≡ false
  asks_none seen = either (λ v. is_active v ≡ false) (is_lock call) _ _ refl refl

  asks_awake : (p : Point) (seen : Seen) → is_sleep_event (ask call seen) ≡ true → p ≡ at.Bit biting.Sleep
  asks_awake p seen = either (λ v. is_sleep_event v ≡ true → p ≡ at.Bit biting.Sleep) (is_lock call) _ _
      (λ s. absurd (cc)) (λ s. absurd (cc))

  finished_fits : (p : Point) (failed : Bool) (v : Event) → is_active v ≡ false → is_sleep_event v ≡ false
      → Fits p (finished call failed v)
  finished_fits p failed v quiet awake = either (Fits p) (failed && is_lock call) _ _ (refl, quiet, none)
      (refl, quiet, none)
    where
      none : is_sleep_event v ≡ true → p ≡ at.Bit biting.Sleep
      none s = absurd (let z : true ≡ false = sym s ∙ awake in cc)

  pub bit_stays : (p : Point) (seen : Seen) → is_biting p ≡ true → Fits p (program me call p seen)
  bit_stays (at.Prepare preparing.Lock) seen h = (refl, refl, λ s. absurd (cc))
  bit_stays (at.Prepare preparing.Look) seen h = by (pending (state_mask (state_in call)) seen.own)
    where
      by : (hit : Bool) → Fits (at.Prepare preparing.Look) (look_event call hit)
      by true = (goes_on.1, refl, λ s. absurd (cc))
      by false = (refl, refl, λ s. absurd (cc))
  bit_stays (at.Prepare preparing.Queue) seen h = either (Fits (at.Prepare preparing.Queue)) (is_some seen.entry) _ _
      (refl, refl, λ s. absurd (cc))
      (either (Fits (at.Prepare preparing.Queue)) seen.worn _ _ (goes_on.2, refl, λ s. absurd (cc))
      (refl, refl, λ s. absurd (cc)))
  bit_stays (at.Prepare preparing.State) seen h = (refl, refl, λ s. absurd (cc))
  bit_stays (at.Prepare preparing.Unlock) seen h = (goes_on.0, refl, λ s. absurd (cc))
  bit_stays at.Worn seen h = either (Fits at.Worn) (call_fails call seen) _ _
      (refl, asks_none seen, asks_awake at.Worn seen)
      (either (Fits at.Worn) (is_lock call) _ _ (refl, asks_none seen, asks_awake at.Worn seen)
      (refl, asks_none seen, asks_awake at.Worn seen))
  bit_stays (at.Leave leaving.Queue) seen h = either (Fits (at.Leave leaving.Queue)) (is_some seen.entry) _ _
      (refl, refl, λ s. absurd (cc)) (refl, refl, λ s. absurd (cc))
  bit_stays (at.Leave leaving.Unlock) seen h = (refl, refl, λ s. absurd (cc))
  bit_stays (at.Leave leaving.Load) seen h = either (Fits (at.Leave leaving.Load)) (call_fails call seen) _ _
      (refl, refl, λ s. absurd (cc)) (refl, refl, λ s. absurd (cc))
  bit_stays (at.Finish finishing.State failed) seen h = (refl, refl, λ s. absurd (cc))
  bit_stays (at.Finish finishing.Look failed) seen h = either (Fits (at.Finish finishing.Look failed))
      (is_some seen.entry) _ _ (refl, refl, λ s. absurd (cc))
      (finished_fits (at.Finish finishing.Look failed) failed (event.Queued false) refl refl)
  bit_stays (at.Finish finishing.Lock failed) seen h = (refl, refl, λ s. absurd (cc))
  bit_stays (at.Finish finishing.Queue failed) seen h = either (Fits (at.Finish finishing.Queue failed))
      (is_some seen.entry) _ _ (refl, refl, λ s. absurd (cc))
      (finished_fits (at.Finish finishing.Queue failed) failed (event.Unlock (call_head call) false) refl refl)
  bit_stays (at.Finish finishing.Unlock failed) seen h =
      finished_fits (at.Finish finishing.Unlock failed) failed (event.Unlock (call_head call) false) refl refl
  bit_stays (at.Bit biting.Try) seen h = (refl, refl, λ s. absurd (cc))
  bit_stays (at.Bit biting.First) seen h = either (Fits (at.Bit biting.First)) (call_fails call seen) _ _
      (refl, asks_none seen, asks_awake (at.Bit biting.First) seen)
      (refl, asks_none seen, asks_awake (at.Bit biting.First) seen)
  bit_stays (at.Bit biting.Load) seen h = (refl, refl, λ s. absurd (cc))
  bit_stays (at.Bit biting.Sleep) seen h = (refl, refl, λ s. refl)
  bit_stays (at.Bit biting.Look) seen h = either (λ q. Fits (at.Bit biting.Look) (go (event.Look
      (pending (state_mask (state_in call)) seen.own)) q))
      (pending (state_mask (state_in call)) seen.own && is_lock call) _ _ (refl, refl, λ s. absurd (cc))
      (refl, refl, λ s. absurd (cc))
  bit_stays (at.Bit (biting.Again failed)) seen h = either
      (λ q. Fits (at.Bit (biting.Again failed)) (go (ask call seen) q)) (call_fails call seen && not failed) _ _
      (refl, asks_none seen, asks_awake (at.Bit (biting.Again failed)) seen)
      (refl, asks_none seen, asks_awake (at.Bit (biting.Again failed)) seen)
  bit_stays (at.Bit biting.Last) seen h = (refl, refl, λ s. absurd (cc))
  bit_stays p seen h = absurd (cc)
