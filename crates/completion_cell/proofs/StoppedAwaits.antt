-- A wait for a completion that answers for a signal ends with a hold that a signal ended.
use Rattle.std.proofs.Common.{refl, ap, arith, inl, inr}
use Rattle.std.proofs.lemmas.Bool.Decides.{nat_tests}
use Rattle.std.specs.Prelude.{ℕ, ◌≡◌, ◌==◌, ◌&&◌, not, Bool, true, false, is_some, List, [], ◌∷◌}
use Rattle.wait_model.specs.{declared.calls.Answer.Answer, declared.calls.Call.Call, declared.calls.Event.Event}
use Rattle.wait_model.specs.{declared.points.Next.Next, declared.points.Planned.Planned, declared.points.Point.Point}
use Rattle.wait_model.specs.{declared.points.Seen.Seen, declared.tasks.SleepState.SleepState}
use Rattle.wait_model.specs.{Selections.IsSignalledHold, Selections.signalled_hold}
use Rattle.wait_model.specs.Points.{call_head, call_number, is_bit_wait, state_in}
use Rattle.wait_model.specs.Programs.{await_after, await_ends, is_at_end, load, look_event, program, program_start}
use Rattle.wait_model.specs.Programs.{signalled, zero_answer}
use Rattle.wait_model.specs.Tasks.{looks_in, pending, state_mask}
use Rattle.wait_model.specs.declared.calls.Answer.TheVariants as answer
use Rattle.wait_model.specs.declared.calls.Call.TheVariants as calls
use Rattle.wait_model.specs.declared.calls.Event.TheVariants as event
use Rattle.wait_model.specs.declared.points.AwaitPoint.TheVariants as awaiting
use Rattle.wait_model.specs.declared.points.Next.TheVariants as next
use Rattle.wait_model.specs.declared.points.Point.TheVariants as at
use Rattle.wait_model.specs.declared.points.PreparePoint.TheVariants as preparing
use Rattle.wait_model.proofs.{AccountLaws.Refusals.refusal, WaitLaws.OutsideStages.either}
use Rattle.wait_rule.specs.{Heeding.trail_of, Known.Known, SaidEvents.said}
use Rattle.wait_rule.specs.Transitions.{Goes, Program, Transition, after_transition, call_program}
use Rattle.completion_cell.specs.Words.{EndsStopped}

zero_not : {A : Type 0} → zero_answer ≡ signalled → A
zero_not is = absurd (let z : refusal (next.Ends zero_answer) ≡ refusal (next.Ends signalled) =
    ap (λ (a : Answer). refusal (next.Ends a)) is in omega (arith, z))

worn_not : {A : Type 0} → answer.Worn ≡ signalled → A
worn_not is = absurd (cc)

none_is : (v : ℕ) → (v == 0) ≡ true → v ≡ 0
none_is v is = grind (arith, nat_tests, is)

module _ (me d : ℕ) (st : SleepState) where
  abbrev call : Call
  call = calls.WaitFor d st

  abbrev h : ℕ
  h = call_head call

  abbrev c : ℕ
  c = call_number call

  -- what the latest events are at the points of a wait
  abbrev AwaitAt : Point → List Event → Type 0
  AwaitAt (at.Prepare preparing.Lock) trail = ⊥
  AwaitAt (at.Prepare preparing.Look) trail = (rest : List Event) × (trail ≡ event.Load c 0 ∷ event.Lock h ∷ rest)
  AwaitAt (at.Prepare p) trail = Unit {0}
  AwaitAt at.Sleep trail = Unit {0}
  AwaitAt (at.Await (awaiting.Load waited)) trail = (rest : List Event) × (trail ≡ event.Lock h ∷ rest)
  AwaitAt (at.Await (awaiting.Run true)) trail = (rest : List Event)
      × (trail ≡ event.Look true ∷ event.Load c 0 ∷ event.Lock h ∷ rest)
  AwaitAt (at.Await (awaiting.Off true)) trail = (rest : List Event) × (trail ≡ signalled_hold h c rest)
  AwaitAt (at.Await (awaiting.Last true)) trail = IsSignalledHold me h c trail
  AwaitAt (at.Await p) trail = Unit {0}
  AwaitAt _ trail = ⊥

  abbrev LedTo : List Event → Next → Type 0
  LedTo trail (next.Go q) = AwaitAt q trail
  LedTo trail (next.Ends a) = a ≡ signalled → EndsStopped me d trail

  abbrev Led : List Event → Planned → Type 0
  Led trail x = LedTo (x.event ∷ trail) x.next

  module _ (trail : List Event) where
    look_led : (hit : Bool) → AwaitAt (at.Prepare preparing.Look) trail → Led trail (look_event call hit)
    look_led true u = (u.0, ap (λ (l : List Event). event.Look true ∷ l) u.1)
    look_led false u = tt

    load_led : (seen : Seen) (waited zero : Bool) → (seen.value == 0) ≡ zero → AwaitAt (at.Await (awaiting.Load waited))
        trail → LedTo (load call seen ∷ trail) (next.Go (await_after call waited zero))
    load_led seen waited true is u = either (λ q. AwaitAt (at.Prepare q) (load call seen ∷ trail))
        (not (is_bit_wait call) && looks_in (state_in call)) preparing.Look preparing.Queue
        (u.0, λ i. event.Load c (none_is seen.value is i) ∷ u.1 i) tt
    load_led seen true false is u = tt
    load_led seen false false is u = tt

    ends_led : (seen : Seen) → Led trail (await_ends call false seen)
    ends_led seen = either (Led trail) (is_at_end seen.value) _ _ (λ z. zero_not z) tt

    await_led : (p : Point) (seen : Seen) → AwaitAt p trail → Led trail (program me call p seen)
    await_led (at.Prepare preparing.Lock) seen u = absurd u
    await_led (at.Prepare preparing.Look) seen u = look_led (pending (state_mask (state_in call)) seen.own) u
    await_led (at.Prepare preparing.Queue) seen u = either (Led trail) (is_some seen.entry) _ _ tt
        (either (Led trail) seen.worn _ _ (λ z. worn_not z) tt)
    await_led (at.Prepare preparing.State) seen u = tt
    await_led (at.Prepare preparing.Unlock) seen u = tt
    await_led at.Sleep seen u = tt
    await_led (at.Await (awaiting.Lock waited)) seen u = (trail, refl)
    await_led (at.Await (awaiting.Load waited)) seen u = load_led seen waited (seen.value == 0) refl u
    await_led (at.Await (awaiting.Run true)) seen u = (u.0, ap (λ (l : List Event). event.State 0 ∷ l) u.1)
    await_led (at.Await (awaiting.Run false)) seen u = tt
    await_led (at.Await (awaiting.Off true)) seen u = either (Led trail) (is_some seen.entry) _ _
        (record { earlier = u.0; hold = inr (ap (λ (l : List Event). event.Unqueue me ∷ l) u.1) })
        (λ z. record { earlier = trail; unlock = refl; hold = record { earlier = u.0; hold = inl u.1 } })
    await_led (at.Await (awaiting.Off false)) seen u = either (Led trail) (is_some seen.entry) _ _ tt (ends_led seen)
    await_led (at.Await (awaiting.Last true)) seen u = λ z. record { earlier = trail; unlock = refl; hold = u }
    await_led (at.Await (awaiting.Last false)) seen u = ends_led seen
    await_led (at.Await awaiting.Unlock) seen u = λ z. zero_not z
    await_led p seen u = absurd u

  -- whole runs
  abbrev f : Program
  f = call_program me 0 call

  run_tail : (ts : List Transition) (j new : Known) (trail : List Event)
      → ((q : Point) → Goes f j (next.Go q) ts new (next.Ends signalled) → AwaitAt q trail
      → EndsStopped me d (trail_of trail (said f (next.Go q) ts)))
      → (n : Next) → Goes f j n ts new (next.Ends signalled) → LedTo trail n
      → EndsStopped me d (trail_of trail (said f n ts))
  run_tail ts j new trail rec (next.Go q) g led = rec q g led
  run_tail [] j new trail rec (next.Ends b) g led =
      led (let z : next.Ends signalled ≡ next.Ends b = g.1 in let y : b ≡ signalled = cc in y)
  run_tail (t ∷ ts) j new trail rec (next.Ends b) g led = absurd g

  run_stops : (ts : List Transition) (p : Point) (old new : Known) (trail : List Event) → AwaitAt p trail
      → Goes f old (next.Go p) ts new (next.Ends signalled)
      → EndsStopped me d (trail_of trail (said f (next.Go p) ts))
  run_stops [] p old new trail u g = absurd (let z : next.Ends signalled ≡ next.Go p = g.1 in cc)
  run_stops (t ∷ ts) p old new trail u g = run_tail ts (after_transition t) new
      ((program me call p t.seen).event ∷ trail)
      (λ q on led. run_stops ts q (after_transition t) new ((program me call p t.seen).event ∷ trail) led on)
      (program me call p t.seen).next g.1 (await_led trail p t.seen u)

pub awaits_stop : (d : ℕ) (st : SleepState) (old new : Known) (ts : List Transition)
    → Goes (call_program old.view.number 0 (calls.WaitFor d st)) old (next.Go (program_start (calls.WaitFor d st))) ts
    new (next.Ends signalled)
    → EndsStopped old.view.number d (trail_of [] (said (call_program old.view.number 0 (calls.WaitFor d st))
    (next.Go (program_start (calls.WaitFor d st))) ts))
awaits_stop d st old new ts g = run_stops old.view.number d st ts (at.Await (awaiting.Lock false)) old new [] tt g
