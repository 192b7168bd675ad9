-- A wait that tests its condition outside of its holds sleeps behind a load that found it not set.
use Rattle.std.proofs.Common.{refl, sym, ◌∙◌, ap}
use Rattle.std.specs.Prelude.{ℕ, ◌≡◌, Bool, true, false, not, ◌&&◌, if◌then◌else◌, is_some, Some}
use Rattle.wait_model.specs.{declared.calls.Call.Call, declared.calls.Event.Event, declared.points.Next.Next}
use Rattle.wait_model.specs.{declared.points.Planned.Planned, declared.points.Point.Point, declared.points.Seen.Seen}
use Rattle.wait_model.specs.{declared.steps.Step.Step, declared.tasks.Sleep.Sleep, declared.watches.Watch.Watch}
use Rattle.wait_model.specs.{Calls.call_watch, Calls.program_start, Fold.after, Views.View}
use Rattle.wait_model.specs.Points.{given_at, is_bit_wait, is_lock, state_in}
use Rattle.wait_model.specs.Programs.{ask, call_fails, finished, load, look_event, prepared_at, program, signalled_at}
use Rattle.wait_model.specs.Programs.{slept_at, worn_next}
use Rattle.wait_model.specs.Tasks.{looks_in, pending, sleep_of, state_mask}
use Rattle.wait_model.specs.Watches.{failing, head_of, kind_for, misses}
use Rattle.wait_model.specs.declared.calls.Call.TheVariants as calls
use Rattle.wait_model.specs.declared.calls.Event.TheVariants as event
use Rattle.wait_model.specs.declared.points.BitPoint.TheVariants as biting
use Rattle.wait_model.specs.declared.points.FinishPoint.TheVariants as finishing
use Rattle.wait_model.specs.declared.points.LeavePoint.TheVariants as leaving
use Rattle.wait_model.specs.declared.points.Point.TheVariants as at
use Rattle.wait_model.specs.declared.points.PreparePoint.TheVariants as preparing
use Rattle.wait_model.specs.declared.steps.Step.TheVariants as step
use Rattle.wait_model.proofs.{WaitLaws.NextStages.misses_fails, WaitLaws.OutsideStages.either}
use Rattle.wait_rule.specs.{Items.learn_step, Known.Known, Queues.index, Says.told_of}
use Rattle.wait_rule.specs.Transitions.{FindsStep, IsStepFor, call_program}
use Rattle.waiter_laws.proofs.PointRuns.{AtNext, IsLed, Leads, awake_kept, is_active, is_sleep_event}

-- the calls that do
abbrev pub is_tested : Call → Bool
is_tested (calls.Wait c how) = true
is_tested (calls.SimpleWait c st) = true
is_tested (calls.WaitBit w b st) = true
is_tested (calls.LockBit w b st) = true
is_tested (calls.WaitVar v old st) = true
is_tested _ = false

-- since its last store of a state and of the entry the task loaded the watch, and the test failed
abbrev pub HasFailed : ℕ → Watch → View → Type 0
HasFailed x c v = (n : ℕ) × (v.checks.failed x c ≡ Some n)

-- The points of these calls; where one that waits for no bit goes on behind its sleep, who is asleep has failed so.
abbrev pub TestedAt : Bool → ℕ → Watch → Point → Bool → View → Type 0
TestedAt bit x c at.First b v = b ≡ true
TestedAt bit x c (at.Prepare preparing.Lock) b v = bit ≡ false → b ≡ false → HasFailed x c v
TestedAt bit x c (at.Prepare p) b v = Unit {0}
TestedAt bit x c at.Test b v = Unit {0}
TestedAt bit x c at.Sleep b v = HasFailed x c v
TestedAt bit x c at.Worn b v = Unit {0}
TestedAt bit x c (at.Leave p) b v = Unit {0}
TestedAt bit x c (at.Finish p failed) b v = Unit {0}
TestedAt bit x c (at.Bit biting.Sleep) b v = (bit ≡ true) × HasFailed x c v
TestedAt bit x c (at.Bit biting.Last) b v = Unit {0}
TestedAt bit x c (at.Bit p) b v = bit ≡ true
TestedAt bit x c _ b v = ⊥

module _ (me : ℕ) (call : Call) (is : is_tested call ≡ true) where
  abbrev x : ℕ
  x = index me 0

  abbrev c : Watch
  c = call_watch call

  abbrev At : Point → Bool → View → Type 0
  At p b v = TestedAt (is_bit_wait call) x c p b v

  pub starts : (v : View) → At (program_start call) true v
  starts v = by call is
    where
      by : (a : Call) → is_tested a ≡ true → TestedAt (is_bit_wait a) x c (program_start a) true v
      by (calls.Wait i how) t = refl
      by (calls.SimpleWait i st) t = refl
      by (calls.WaitBit w b st) t = refl
      by (calls.LockBit w b st) t = refl
      by (calls.WaitVar i old st) t = refl
      by a t = absurd (cc)

  slept : (b : Bool) (v : View) → HasFailed x c v → At (slept_at call) b v
  slept b v h = by call is
    where
      by : (a : Call) → is_tested a ≡ true → TestedAt (is_bit_wait a) x c (slept_at a) b v
      by (calls.Wait i how) t = λ plain down. h
      by (calls.SimpleWait i st) t = λ plain down. h
      by (calls.WaitBit w n st) t = λ plain down. h
      by (calls.LockBit w n st) t = λ plain down. h
      by (calls.WaitVar i old st) t = λ plain down. h
      by a t = absurd (cc)

  abbrev Lands : Next → Bool → View → Type 0
  Lands n b v = AtNext (call_program me 0 call) At c (kind_for c) x n b v

  -- where it goes on from its preparing, from a signal and from a head with no place
  turned : (b : Bool) (v : View) → At (prepared_at call) b v × At (signalled_at call) b v × Lands (worn_next call) b v
  turned b v = by call is
    where
      by : (a : Call) → is_tested a ≡ true → TestedAt (is_bit_wait a) x c (prepared_at a) b v
          × TestedAt (is_bit_wait a) x c (signalled_at a) b v × Lands (worn_next a) b v
      by (calls.Wait i how) t = (tt, tt, tt)
      by (calls.SimpleWait i st) t = (tt, tt, tt)
      by (calls.WaitBit w n st) t = (refl, tt, tt)
      by (calls.LockBit w n st) t = (refl, tt, tt)
      by (calls.WaitVar i old st) t = (tt, tt, tt)
      by a t = absurd (cc)

  module _ (k : Known) (p : Point) (seen : Seen) where
    abbrev L : Planned → Type 0
    L u = Leads (call_program me 0 call) At c (kind_for c) x k (given_at call p) seen u

    -- a load that finds the condition not set
    load_fails : (e : Step) → IsStepFor k (Some x) (given_at call p) (load call seen) e → FindsStep e seen
        → misses c seen.value ≡ true → HasFailed x c (after e (told_of k))
    load_fails (step.Load l r) made found fails =
        let z : failing l r c ≡ true = ap (λ (w : Watch). failing w r c) made
        ∙ (ap (λ (n : ℕ). failing c n c) (sym found) ∙ misses_fails c seen.value fails) in
        ((told_of k).checks.found (head_of c), rw z refl)
    load_fails e made found fails = absurd made

    tests : (b : Bool) → misses c seen.value ≡ b
        → (e : Step) → IsStepFor k (Some x) (given_at call p) (load call seen) e → FindsStep e seen
        → At (if b then at.Sleep else at.Finish finishing.State false) (learn_step e k.book).awake
        (after e (told_of k))
    tests true is e made found = load_fails e made found is
    tests false is e made found = tt

    tests_bit : is_bit_wait call ≡ true → (b : Bool) → misses c seen.value ≡ b
        → (e : Step) → IsStepFor k (Some x) (given_at call p) (load call seen) e → FindsStep e seen
        → At (at.Bit (if b then biting.Sleep else biting.Again false)) (learn_step e k.book).awake
        (after e (told_of k))
    tests_bit bit true is e made found = (bit, load_fails e made found is)
    tests_bit bit false is e made found = bit

    -- a wait that has not slept goes on awake
    goes_on : (v : Event) → is_sleep_event v ≡ false → k.book.awake ≡ true → (e : Step)
        → IsStepFor k (Some x) (given_at call p) v e → At (at.Prepare preparing.Lock) (learn_step e k.book).awake
        (after e (told_of k))
    goes_on v quiet up e made = λ plain down. absurd (let z : true ≡ false =
        sym (awake_kept k (Some x) (given_at call p) v e k.book quiet made ∙ up) ∙ down in cc)

    -- one for a bit says nothing there
    turns_on : is_bit_wait call ≡ true → (b : Bool) (v : View) → At (at.Prepare preparing.Lock) b v
    turns_on bit b v = λ plain down. absurd (let z : true ≡ false = sym bit ∙ plain in cc)

    sleeps : (a : Sleep) (e : Step) → IsStepFor k (Some x) (given_at call p) (event.Sleep a) e
        → HasFailed x c (told_of k) → HasFailed x c (after e (told_of k))
    sleeps a (step.Sleep w) made h = h
    sleeps a e made h = absurd made

    asks_quiet : is_active (ask call seen) ≡ false
    asks_quiet = either (λ v. is_active v ≡ false) (is_lock call) _ _ refl refl

    finished_led : (failed : Bool) (v : Event) → is_active v ≡ false → L (finished call failed v)
    finished_led failed v quiet = either L (failed && is_lock call) _ _ (λ e made found. tt, quiet)
        (λ e made found. tt, quiet)

  any : (k : Known) (p : Point) (seen : Seen) → At p k.book.awake (told_of k)
      → Leads (call_program me 0 call) At c (kind_for c) x k (given_at call p) seen (program me call p seen)
  any k at.First seen h = either (L k at.First seen) (call_fails call seen) _ _
      (λ e made found. goes_on k at.First seen (load call seen) refl h e made, refl) (λ e made found. tt, refl)
  any k (at.Prepare preparing.Lock) seen h = (
    λ e made found. either
        (λ q. At (at.Prepare q) (learn_step e k.book).awake (after e (told_of k)))
        (not (is_bit_wait call) && looks_in (state_in call)) preparing.Look preparing.Queue tt tt,
    refl,
  )
  any k (at.Prepare preparing.Look) seen h = by (pending (state_mask (state_in call)) seen.own)
    where
      by : (hit : Bool) → L k (at.Prepare preparing.Look) seen (look_event call hit)
      by true = (λ e made found. (turned (learn_step e k.book).awake (after e (told_of k))).1, refl)
      by false = (λ e made found. tt, refl)
  any k (at.Prepare preparing.Queue) seen h = either (L k (at.Prepare preparing.Queue) seen) (is_some seen.entry) _ _
      (λ e made found. tt, refl)
      (either (L k (at.Prepare preparing.Queue) seen) seen.worn _ _
      (λ e made found. (turned (learn_step e k.book).awake (after e (told_of k))).2, refl) (λ e made found. tt, refl))
  any k (at.Prepare preparing.State) seen h = (λ e made found. tt, refl)
  any k (at.Prepare preparing.Unlock) seen h =
      (λ e made found. (turned (learn_step e k.book).awake (after e (told_of k))).0, refl)
  any k at.Test seen h = (tests k at.Test seen (call_fails call seen) refl, refl)
  any k at.Sleep seen h = (
    λ e made found. slept (learn_step e k.book).awake (after e (told_of k))
        (sleeps k at.Sleep seen (sleep_of seen.own) e made h),
    refl,
  )
  any k at.Worn seen h = either (L k at.Worn seen) (call_fails call seen) _ _
      (λ e made found. tt, asks_quiet k at.Worn seen)
      (either (L k at.Worn seen) (is_lock call) _ _ (λ e made found. tt, asks_quiet k at.Worn seen)
      (λ e made found. tt, asks_quiet k at.Worn seen))
  any k (at.Leave leaving.Queue) seen h = either (L k (at.Leave leaving.Queue) seen) (is_some seen.entry) _ _
      (λ e made found. tt, refl) (λ e made found. tt, refl)
  any k (at.Leave leaving.Unlock) seen h = (λ e made found. tt, refl)
  any k (at.Leave leaving.Load) seen h = either (L k (at.Leave leaving.Load) seen) (call_fails call seen) _ _
      (λ e made found. tt, refl) (λ e made found. tt, refl)
  any k (at.Finish finishing.State failed) seen h = (λ e made found. tt, refl)
  any k (at.Finish finishing.Look failed) seen h = either (L k (at.Finish finishing.Look failed) seen)
      (is_some seen.entry) _ _ (λ e made found. tt, refl)
      (finished_led k (at.Finish finishing.Look failed) seen failed (event.Queued false) refl)
  any k (at.Finish finishing.Lock failed) seen h = (λ e made found. tt, refl)
  any k (at.Finish finishing.Queue failed) seen h = either (L k (at.Finish finishing.Queue failed) seen)
      (is_some seen.entry) _ _ (λ e made found. tt, refl)
      (finished_led k (at.Finish finishing.Queue failed) seen failed (event.Unlock (head_of c) false) refl)
  any k (at.Finish finishing.Unlock failed) seen h =
      finished_led k (at.Finish finishing.Unlock failed) seen failed (event.Unlock (head_of c) false) refl
  any k (at.Bit biting.Try) seen h = (λ e made found. tt, refl)
  any k (at.Bit biting.First) seen h = either (L k (at.Bit biting.First) seen) (call_fails call seen) _ _ (
    λ e made found. turns_on k (at.Bit biting.First) seen h (learn_step e k.book).awake (after e (told_of k)),
    asks_quiet k (at.Bit biting.First) seen,
  )
      (λ e made found. tt, asks_quiet k (at.Bit biting.First) seen)
  any k (at.Bit biting.Load) seen h = (tests_bit k (at.Bit biting.Load) seen h (call_fails call seen) refl, refl)
  any k (at.Bit biting.Sleep) seen h = (
    λ e made found. either
        (λ q. At (at.Bit q) (learn_step e k.book).awake (after e (told_of k)))
        (looks_in (state_in call)) biting.Look (biting.Again false) h.0 h.0,
    refl,
  )
  any k (at.Bit biting.Look) seen h = (
    λ e made found. either
        (λ q. At q (learn_step e k.book).awake (after e (told_of k)))
        (pending (state_mask (state_in call)) seen.own && is_lock call) (at.Finish finishing.State true)
        (at.Bit (biting.Again (pending (state_mask (state_in call)) seen.own))) tt h,
    refl,
  )
  any k (at.Bit (biting.Again failed)) seen h = (
    λ e made found. either
        (λ q. At q (learn_step e k.book).awake (after e (told_of k)))
        (call_fails call seen && not failed) (at.Prepare preparing.Lock) (at.Finish finishing.State failed)
        (turns_on k (at.Bit (biting.Again failed)) seen h (learn_step e k.book).awake (after e (told_of k))) tt,
    asks_quiet k (at.Bit (biting.Again failed)) seen,
  )
  any k (at.Bit biting.Last) seen h = (λ e made found. tt, refl)
  any k p seen h = absurd h

  still : (p : Point) (y w : ℕ) (b : Bool) (v : View) → At p b v → At p b (after (step.Saw y w) v)
  still at.First y w b v h = h
  still (at.Prepare preparing.Lock) y w b v h = h
  still (at.Prepare p) y w b v h = tt
  still at.Test y w b v h = tt
  still at.Sleep y w b v h = h
  still at.Worn y w b v h = tt
  still (at.Leave p) y w b v h = tt
  still (at.Finish p failed) y w b v h = tt
  still (at.Bit biting.Sleep) y w b v h = h
  still (at.Bit biting.Last) y w b v h = tt
  still (at.Bit p) y w b v h = h
  still p y w b v h = absurd h

  rises : (p : Point) (b u : Bool) (v : View) → (b ≡ true → u ≡ true) → At p b v → At p u v
  rises at.First b u v up h = up h
  rises (at.Prepare preparing.Lock) true u v up h = λ plain down. absurd (let z : true ≡ false = sym (up refl)
      ∙ down in cc)
  rises (at.Prepare preparing.Lock) false u v up h = λ plain down. h plain refl
  rises (at.Prepare p) b u v up h = tt
  rises at.Test b u v up h = tt
  rises at.Sleep b u v up h = h
  rises at.Worn b u v up h = tt
  rises (at.Leave p) b u v up h = tt
  rises (at.Finish p failed) b u v up h = tt
  rises (at.Bit biting.Sleep) b u v up h = h
  rises (at.Bit biting.Last) b u v up h = tt
  rises (at.Bit p) b u v up h = h
  rises p b u v up h = absurd h

  kinds : (p : Point) (b : Bool) (v : View) → At p b v → (given_at call p).kind ≡ kind_for c
  kinds (at.Page p) b v h = absurd h
  kinds (at.Add p) b v h = absurd h
  kinds p b v h = refl

  pub tested_led : IsLed (call_program me 0 call) At c (kind_for c) x
  tested_led = record {
    still = still;
    rises = rises;
    leads = any;
    watch = λ p b v h. refl;
    kind = λ p b v h seen q. kinds p b v h;
  }
