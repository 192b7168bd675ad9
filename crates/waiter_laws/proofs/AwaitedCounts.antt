-- A wait for a completion sleeps behind a hold in which it found the count 0 and stored its state.
use Rattle.std.proofs.lemmas.Bool.Decides.{nat_tests}
use Rattle.std.proofs.Common.{refl, sym, ◌∙◌, ap, subst, arith}
use Rattle.std.specs.Prelude.{ℕ, ◌≡◌, ◌==◌, Bool, true, false, is_some, Option, Some}
use Rattle.wait_model.specs.{declared.calls.Call.Call, declared.calls.Event.Event, declared.points.Planned.Planned}
use Rattle.wait_model.specs.{declared.points.Point.Point, declared.points.Seen.Seen, declared.queues.Form.Form}
use Rattle.wait_model.specs.{declared.steps.Step.Step, declared.tasks.Sleep.Sleep, declared.tasks.SleepState.SleepState}
use Rattle.wait_model.specs.{declared.watches.Watch.Watch, Fold.after, Fold.holding, Points.given_at, Views.Checks}
use Rattle.wait_model.specs.{Views.View, Watches.failing, Watches.head_of}
use Rattle.wait_model.specs.Programs.{await_after, await_ends, is_at_end, load, look_event, program}
use Rattle.wait_model.specs.Tasks.{looks_in, pending, sleep_of, state_mask}
use Rattle.wait_model.specs.declared.calls.Call.TheVariants as calls
use Rattle.wait_model.specs.declared.calls.Event.TheVariants as event
use Rattle.wait_model.specs.declared.points.AwaitPoint.TheVariants as awaiting
use Rattle.wait_model.specs.declared.points.Point.TheVariants as at
use Rattle.wait_model.specs.declared.points.PreparePoint.TheVariants as preparing
use Rattle.wait_model.specs.declared.queues.Form.TheVariants as forms
use Rattle.wait_model.specs.declared.steps.Step.TheVariants as step
use Rattle.wait_model.specs.declared.watches.Kind.TheVariants as kind
use Rattle.wait_model.specs.declared.watches.Watch.TheVariants as watch
use Rattle.wait_model.proofs.{StepLaws.UnlockSteps.unlock_checks, WaitLaws.NextStages.misses_fails}
use Rattle.wait_model.proofs.WaitLaws.OutsideStages.{either}
use Rattle.wait_rule.specs.{Known.Known, Queues.index, Says.told_of}
use Rattle.wait_rule.specs.Transitions.{FindsStep, IsStepFor, call_program}
use Rattle.waiter_laws.proofs.PointRuns.{IsLed, Leads}

-- in its hold it found the count 0; and in that in which it last stored a state
abbrev pub HasZero : Watch → View → Type 0
HasZero c v = (n : ℕ) × (v.hold.zero c ≡ Some n)

abbrev pub HasZeroFailed : ℕ → Watch → View → Type 0
HasZeroFailed x c v = (n : ℕ) × (v.checks.zero_failed x c ≡ Some n)

-- the points of such a wait
abbrev pub AwaitedAt : ℕ → Watch → Point → View → Type 0
AwaitedAt x c (at.Await (awaiting.Lock true)) v = HasZeroFailed x c v
AwaitedAt x c (at.Await (awaiting.Load waited)) v = v.hold.head ≡ Some (head_of c)
AwaitedAt x c (at.Await p) v = Unit {0}
AwaitedAt x c (at.Prepare preparing.Lock) v = ⊥
AwaitedAt x c (at.Prepare preparing.Unlock) v = HasZeroFailed x c v
AwaitedAt x c (at.Prepare p) v = HasZero c v
AwaitedAt x c at.Sleep v = HasZeroFailed x c v
AwaitedAt x c _ v = ⊥

module _ (me d : ℕ) (st : SleepState) where
  abbrev call : Call
  call = calls.WaitFor d st

  abbrev x : ℕ
  x = index me 0

  abbrev c : Watch
  c = watch.Done d

  abbrev At : Point → Bool → View → Type 0
  At p b v = AwaitedAt x c p v

  module _ (k : Known) (p : Point) (seen : Seen) where
    abbrev L : Planned → Type 0
    L u = Leads (call_program me 0 call) At c kind.Simple x k (given_at call p) seen u

    abbrev Made : Event → Step → Type 0
    Made v e = IsStepFor k (Some x) (given_at call p) v e

    locks : (e : Step) → Made (event.Lock (head_of c)) e → (after e (told_of k)).hold.head ≡ Some (head_of c)
    locks (step.Lock i aim w) made = ap (λ (h : ℕ). Some h) made.0
    locks e made = absurd made

    -- a load in the hold that finds 0
    finds_zero : (e : Step) → Made (load call seen) e → FindsStep e seen → (seen.value == 0) ≡ true
        → (told_of k).hold.head ≡ Some (head_of c) → HasZero c (after e (told_of k))
    finds_zero (step.Load l r) made found zero held =
        let z : failing l r c ≡ true = ap (λ (w : Watch). failing w r c) made
        ∙ (ap (λ (n : ℕ). failing c n c) (sym found) ∙ misses_fails c seen.value zero) in
        let h : holding (told_of k).hold.head (head_of c) ≡ true = ap (λ (o : Option ℕ). holding o (head_of c)) held
        ∙ same_head in
        ((told_of k).checks.found (head_of c), rw (h, z) refl)
      where
        same_head : (head_of c == head_of c) ≡ true
        same_head = grind (arith, nat_tests)
    finds_zero e made found zero held = absurd made

    loads : (waited b : Bool) → (seen.value == 0) ≡ b → (told_of k).hold.head ≡ Some (head_of c)
        → (e : Step) → Made (load call seen) e → FindsStep e seen → AwaitedAt x c (await_after call waited b)
        (after e (told_of k))
    loads waited true is held e made found = either (λ q. AwaitedAt x c (at.Prepare q) (after e (told_of k)))
        (looks_in st)
        preparing.Look preparing.Queue (finds_zero e made found is held) (finds_zero e made found is held)
    loads true false is held e made found = tt
    loads false false is held e made found = tt

    -- what keeps it
    looks : (hit : Bool) (e : Step) → Made (event.Look hit) e → HasZero c (told_of k) → HasZero c (after e (told_of k))
    looks hit (step.Look w) made h = h
    looks hit e made h = absurd made

    queues : (h : ℕ) (f : Form) (e : Step) → Made (event.Queue h f) e → HasZero c (told_of k)
        → HasZero c (after e (told_of k))
    queues h f (step.Queue y g) made z = z
    queues h f e made z = absurd made

    stores : (σ : ℕ) (e : Step) → Made (event.State σ) e → HasZero c (told_of k) → HasZeroFailed x c (after e
        (told_of k))
    stores σ (step.State τ) made z = z
    stores σ e made z = absurd made

    gives : (h : ℕ) (b : Bool) (e : Step) → Made (event.Unlock h b) e → HasZeroFailed x c (told_of k)
        → HasZeroFailed x c (after e (told_of k))
    gives h b (step.Unlock i sp) made z = subst (λ (q : Checks). (n : ℕ) × (q.zero_failed x c ≡ Some n))
        (sym (unlock_checks (told_of k) (told_of k).walk sp)) z
    gives h b e made z = absurd made

    sleeps : (a : Sleep) (e : Step) → Made (event.Sleep a) e → HasZeroFailed x c (told_of k)
        → HasZeroFailed x c (after e (told_of k))
    sleeps a (step.Sleep w) made z = z
    sleeps a e made z = absurd made

  looked : (k : Known) (seen : Seen) (hit : Bool) → HasZero c (told_of k)
      → L k (at.Prepare preparing.Look) seen (look_event call hit)
  looked k seen true h = (λ e made found. tt, refl)
  looked k seen false h = (λ e made found. looks k (at.Prepare preparing.Look) seen false e made h, refl)

  ends : (k : Known) (p : Point) (seen : Seen) (stopped : Bool) → L k p seen (await_ends call stopped seen)
  ends k p seen true = (λ e made found. tt, refl)
  ends k p seen false = either (L k p seen) (is_at_end seen.value) _ _ (λ e made found. tt, refl)
      (λ e made found. tt, refl)

  any : (k : Known) (p : Point) (seen : Seen) → AwaitedAt x c p (told_of k) → L k p seen (program me call p seen)
  any k (at.Await (awaiting.Lock waited)) seen h =
      (λ e made found. locks k (at.Await (awaiting.Lock waited)) seen e made, refl)
  any k (at.Await (awaiting.Load waited)) seen h =
      (loads k (at.Await (awaiting.Load waited)) seen waited (seen.value == 0) refl h, refl)
  any k (at.Await (awaiting.Run stopped)) seen h = (λ e made found. tt, refl)
  any k (at.Await (awaiting.Off stopped)) seen h = either (L k (at.Await (awaiting.Off stopped)) seen)
      (is_some seen.entry) _ _ (λ e made found. tt, refl) (ends k (at.Await (awaiting.Off stopped)) seen stopped)
  any k (at.Await (awaiting.Last stopped)) seen h = ends k (at.Await (awaiting.Last stopped)) seen stopped
  any k (at.Await awaiting.Unlock) seen h = (λ e made found. tt, refl)
  any k (at.Prepare preparing.Lock) seen h = absurd h
  any k (at.Prepare preparing.Look) seen h = looked k seen (pending (state_mask st) seen.own) h
  any k (at.Prepare preparing.Queue) seen h = either (L k (at.Prepare preparing.Queue) seen) (is_some seen.entry) _ _
      (λ e made found. stores k (at.Prepare preparing.Queue) seen (state_mask st) e made h, refl)
      (either (L k (at.Prepare preparing.Queue) seen) seen.worn _ _ (λ e made found. tt, refl)
      (λ e made found. queues k (at.Prepare preparing.Queue) seen (head_of c) forms.Tail e made h, refl))
  any k (at.Prepare preparing.State) seen h =
      (λ e made found. stores k (at.Prepare preparing.State) seen (state_mask st) e made h, refl)
  any k (at.Prepare preparing.Unlock) seen h =
      (λ e made found. gives k (at.Prepare preparing.Unlock) seen (head_of c) false e made h, refl)
  any k at.Sleep seen h = (λ e made found. sleeps k at.Sleep seen (sleep_of seen.own) e made h, refl)
  any k p seen h = absurd h

  still : (p : Point) (y w : ℕ) (b : Bool) (v : View) → At p b v → At p b (after (step.Saw y w) v)
  still (at.Await (awaiting.Lock true)) y w b v h = h
  still (at.Await (awaiting.Load waited)) y w b v h = h
  still (at.Await p) y w b v h = tt
  still (at.Prepare preparing.Lock) y w b v h = h
  still (at.Prepare p) y w b v h = h
  still at.Sleep y w b v h = h
  still p y w b v h = absurd h

  kinds : (p : Point) (b : Bool) (v : View) → At p b v → (given_at call p).kind ≡ kind.Simple
  kinds (at.Page p) b v h = absurd h
  kinds (at.Add p) b v h = absurd h
  kinds p b v h = refl

  pub awaited_led : IsLed (call_program me 0 call) At c kind.Simple x
  awaited_led = record {
    still = still;
    rises = λ p b u v up h. h;
    leads = any;
    watch = λ p b v h. refl;
    kind = λ p b v h seen q. kinds p b v h;
  }
