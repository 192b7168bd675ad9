-- A wait for a page sleeps behind a test-and-set that found the page set, since its entry was queued.
use Rattle.std.proofs.lemmas.Bool.Decides.{nat_tests}
use Rattle.std.proofs.Common.{refl, sym, ◌∙◌, ap, arith}
use Rattle.std.specs.Prelude.{ℕ, ◌≡◌, ◌||◌, ◌==◌, Bool, true, false, if◌then◌else◌, is_some, Some}
use Rattle.wait_model.specs.{declared.calls.Call.Call, declared.calls.Event.Event}
use Rattle.wait_model.specs.{declared.points.FinishPoint.FinishPoint, declared.points.Planned.Planned}
use Rattle.wait_model.specs.{declared.points.Point.Point, declared.points.Seen.Seen, declared.steps.Step.Step}
use Rattle.wait_model.specs.{declared.tasks.Sleep.Sleep, declared.tasks.SleepState.SleepState}
use Rattle.wait_model.specs.{declared.watches.Watch.Watch, Fold.after, Fold.found_set, Points.given_at, Views.Checks}
use Rattle.wait_model.specs.{Views.View, Watches.head_of, Watches.page, Words.bit_at}
use Rattle.wait_model.specs.Programs.{call_fails, exchange, flag_read, page_last, program}
use Rattle.wait_model.specs.Tasks.{looks_in, pending, sleep_of, state_mask}
use Rattle.wait_model.specs.declared.calls.Call.TheVariants as calls
use Rattle.wait_model.specs.declared.calls.Event.TheVariants as event
use Rattle.wait_model.specs.declared.points.FinishPoint.TheVariants as finishing
use Rattle.wait_model.specs.declared.points.PagePoint.TheVariants as paging
use Rattle.wait_model.specs.declared.points.Point.TheVariants as at
use Rattle.wait_model.specs.declared.steps.Step.TheVariants as step
use Rattle.wait_model.specs.declared.watches.Kind.TheVariants as kind
use Rattle.wait_model.proofs.{StepLaws.UnlockSteps.unlock_checks, WaitLaws.OutsideStages.either}
use Rattle.wait_rule.specs.{Known.Known, Queues.index, Says.told_of}
use Rattle.wait_rule.specs.Transitions.{FindsStep, IsStepFor, call_program}
use Rattle.waiter_laws.proofs.PointRuns.{IsLed, Leads, is_queue_event}

abbrev pub HasTried : ℕ → Watch → View → Type 0
HasTried x c v = v.checks.tas_failed x c ≡ true

-- the points of such a wait
abbrev pub TriedAt : ℕ → Watch → Point → View → Type 0
TriedAt x c (at.Page (paging.Unlock false)) v = HasTried x c v
TriedAt x c (at.Page paging.State) v = HasTried x c v
TriedAt x c (at.Page paging.Flag) v = HasTried x c v
TriedAt x c (at.Page paging.Look) v = HasTried x c v
TriedAt x c (at.Page paging.Sleep) v = HasTried x c v
TriedAt x c (at.Page p) v = Unit {0}
TriedAt x c at.Worn v = Unit {0}
TriedAt x c _ v = ⊥

module _ (me w : ℕ) (st : SleepState) where
  abbrev call : Call
  call = calls.LockPage w st

  abbrev x : ℕ
  x = index me 0

  abbrev c : Watch
  c = page w

  abbrev At : Point → Bool → View → Type 0
  At p b v = TriedAt x c p v

  module _ (k : Known) (p : Point) (seen : Seen) where
    abbrev L : Planned → Type 0
    L u = Leads (call_program me 0 call) At c kind.Page x k (given_at call p) seen u

    abbrev Made : Event → Step → Type 0
    Made v e = IsStepFor k (Some x) (given_at call p) v e

    -- a test-and-set that found the page set
    finds_set : (r : ℕ) → bit_at r 0 ≡ true → found_set c r c ≡ true
    finds_set r set = let z : (w == w) ≡ true = grind (arith, nat_tests) in rw (z, set) refl

    tries_set : (e : Step) → Made (exchange call seen) e → FindsStep e seen → bit_at seen.value 0 ≡ true
        → HasTried x c (after e (told_of k))
    tries_set (step.Consume l n r) made found set =
        let z : found_set l r c ≡ true = ap (λ (q : Watch). found_set q r c) made.0
        ∙ finds_set r (ap (λ (n : ℕ). bit_at n 0) (sym found) ∙ set) in
        or_true ((told_of k).checks.tas_failed x c) (found_set l r c) z
      where
        or_true : (a b : Bool) → b ≡ true → (a || b) ≡ true
        or_true true b is = refl
        or_true false b is = is
    tries_set e made found set = absurd made

    tries : (b : Bool) → bit_at seen.value 0 ≡ b → (e : Step) → Made (exchange call seen) e → FindsStep e seen
        → TriedAt x c (at.Page (if b then paging.Unlock false else paging.Off)) (after e (told_of k))
    tries true is e made found = tries_set e made found is
    tries false is e made found = tt

    gives : (h : ℕ) (b : Bool) (e : Step) → Made (event.Unlock h b) e → HasTried x c (told_of k)
        → HasTried x c (after e (told_of k))
    gives h b (step.Unlock i sp) made z =
        ap (λ (q : Checks). q.tas_failed x c) (unlock_checks (told_of k) (told_of k).walk sp) ∙ z
    gives h b e made z = absurd made

    stores : (σ : ℕ) (e : Step) → Made (event.State σ) e → HasTried x c (told_of k) → HasTried x c (after e (told_of k))
    stores σ (step.State τ) made z = z
    stores σ e made z = absurd made

    reads : (hit : Bool) (e : Step) → Made (event.Flag hit) e → HasTried x c (told_of k)
        → HasTried x c (after e (told_of k))
    reads hit (step.Flag y v) made z = z
    reads hit e made z = absurd made

    looks : (hit : Bool) (e : Step) → Made (event.Look hit) e → HasTried x c (told_of k)
        → HasTried x c (after e (told_of k))
    looks hit (step.Look v) made z = z
    looks hit e made z = absurd made

    dozes : (s : Sleep) (e : Step) → Made (event.Sleep s) e → HasTried x c (told_of k) → HasTried x c (after e
        (told_of k))
    dozes s (step.Sleep v) made z = z
    dozes s e made z = absurd made

    flagged : (hit : Bool) (v : View) → HasTried x c v → TriedAt x c (at.Page (flag_read call hit)) v
    flagged true v h = tt
    flagged false v h = either (λ q. TriedAt x c (at.Page q) v) (looks_in st) paging.Look paging.Sleep h h

    finish_led : (q : FinishPoint) → L (program me call (at.Page (paging.Finish q)) seen)
    finish_led finishing.State = (λ e made found. tt, refl)
    finish_led finishing.Look = either L (is_some seen.entry) _ _ (λ e made found. tt, refl) (λ e made found. tt, refl)
    finish_led finishing.Lock = (λ e made found. tt, refl)
    finish_led finishing.Queue = either L (is_some seen.entry) _ _ (λ e made found. tt, refl) (λ e made found. tt, refl)
    finish_led finishing.Unlock = (λ e made found. tt, refl)

  any : (k : Known) (p : Point) (seen : Seen) → TriedAt x c p (told_of k) → L k p seen (program me call p seen)
  any k (at.Page paging.First) seen h = either (L k (at.Page paging.First) seen) (call_fails call seen) _ _
      (λ e made found. tt, refl) (λ e made found. tt, refl)
  any k (at.Page paging.Unflag) seen h = (λ e made found. tt, refl)
  any k (at.Page paging.Lock) seen h = (λ e made found. tt, refl)
  any k (at.Page paging.Queue) seen h = either (L k (at.Page paging.Queue) seen) seen.worn _ _
      (λ e made found. tt, refl) (λ e made found. tt, refl)
  any k (at.Page paging.Try) seen h = (tries k (at.Page paging.Try) seen (bit_at seen.value 0) refl, refl)
  any k (at.Page paging.Off) seen h = (λ e made found. tt, refl)
  any k (at.Page (paging.Unlock true)) seen h = (λ e made found. tt, refl)
  any k (at.Page (paging.Unlock false)) seen h =
      (λ e made found. gives k (at.Page (paging.Unlock false)) seen (head_of c) false e made h, refl)
  any k (at.Page paging.State) seen h =
      (λ e made found. stores k (at.Page paging.State) seen (state_mask st) e made h, refl)
  any k (at.Page paging.Flag) seen h = (
    λ e made found. flagged k (at.Page paging.Flag) seen seen.flag
        (after e (told_of k)) (reads k (at.Page paging.Flag) seen seen.flag e made h),
    refl,
  )
  any k (at.Page paging.Look) seen h = (
    λ e made found. either (λ q. TriedAt x c (at.Page q) (after e (told_of k)))
        (pending (state_mask st) seen.own) (paging.Finish finishing.State) paging.Sleep tt
        (looks k (at.Page paging.Look) seen (pending (state_mask st) seen.own) e made h),
    refl,
  )
  any k (at.Page paging.Sleep) seen h =
      (λ e made found. dozes k (at.Page paging.Sleep) seen (sleep_of seen.own) e made h, refl)
  any k (at.Page (paging.Finish p)) seen h = finish_led k (at.Page (paging.Finish p)) seen p
  any k (at.Page paging.Last) seen h = last seen.flag
    where
      last : (hit : Bool) → L k (at.Page paging.Last) seen (page_last hit)
      last true = (λ e made found. tt, refl)
      last false = (λ e made found. tt, refl)
  any k (at.Page paging.Clear) seen h = (λ e made found. tt, refl)
  any k at.Worn seen h = either (L k at.Worn seen) (call_fails call seen) _ _ (λ e made found. tt, refl)
      (λ e made found. tt, refl)
  any k p seen h = absurd h

  still : (p : Point) (y u : ℕ) (b : Bool) (v : View) → At p b v → At p b (after (step.Saw y u) v)
  still (at.Page (paging.Unlock false)) y u b v h = h
  still (at.Page paging.State) y u b v h = h
  still (at.Page paging.Flag) y u b v h = h
  still (at.Page paging.Look) y u b v h = h
  still (at.Page paging.Sleep) y u b v h = h
  still (at.Page p) y u b v h = tt
  still at.Worn y u b v h = tt
  still p y u b v h = absurd h

  worn_queues : (seen : Seen) → is_queue_event (program me call at.Worn seen).event ≡ false
  worn_queues seen = either (λ (u : Planned). is_queue_event u.event ≡ false) (call_fails call seen) _ _ refl
      refl

  kinds : (p : Point) (b : Bool) (v : View) → At p b v → (seen : Seen)
      → is_queue_event (program me call p seen).event ≡ true → (given_at call p).kind ≡ kind.Page
  kinds (at.Page p) b v h seen q = refl
  kinds at.Worn b v h seen q = absurd (let z : false ≡ true = sym (worn_queues seen) ∙ q in cc)
  kinds p b v h seen q = absurd h

  pub tried_led : IsLed (call_program me 0 call) At c kind.Page x
  tried_led = record {
    still = still;
    rises = λ p b u v up h. h;
    leads = any;
    watch = λ p b v h. refl;
    kind = kinds;
  }
