-- A wait for a bit that answers for a signal ends with a turn that a signal ended.
use Rattle.std.proofs.Common.{refl, ap, arith}
use Rattle.std.proofs.lemmas.List.Elements.{All-cons, All-nil}
use Rattle.std.specs.Prelude.{ℕ, ◌≡◌, Bool, true, false, not, ◌&&◌, if◌then◌else◌, is_some, List, [], ◌∷◌}
use Rattle.wait_model.specs.{declared.calls.Answer.Answer, declared.calls.Call.Call, declared.calls.Event.Event}
use Rattle.wait_model.specs.{declared.points.FinishPoint.FinishPoint, declared.points.Planned.Planned}
use Rattle.wait_model.specs.{declared.points.Point.Point, declared.points.Seen.Seen, declared.tasks.Sleep.Sleep}
use Rattle.wait_model.specs.{declared.tasks.SleepState.SleepState, Selections.is_finish_event, Watches.head_of}
use Rattle.wait_model.specs.{Watches.number_of, Words.bit_at, Words.flag}
use Rattle.wait_model.specs.Programs.{acted, call_fails, exchange, go, interrupted, load, program, zero_answer}
use Rattle.wait_model.specs.Tasks.{looks_in, pending, sleep_of, state_mask}
use Rattle.wait_model.specs.declared.calls.Answer.TheVariants as answer
use Rattle.wait_model.specs.declared.calls.Call.TheVariants as calls
use Rattle.wait_model.specs.declared.calls.Event.TheVariants as event
use Rattle.wait_model.specs.declared.points.BitPoint.TheVariants as biting
use Rattle.wait_model.specs.declared.points.FinishPoint.TheVariants as finishing
use Rattle.wait_model.specs.declared.points.Next.TheVariants as next
use Rattle.wait_model.specs.declared.points.Point.TheVariants as at
use Rattle.wait_model.specs.declared.points.PreparePoint.TheVariants as preparing
use Rattle.wait_model.specs.declared.watches.Watch.TheVariants as watch
use Rattle.wait_model.proofs.{AccountLaws.Refusals.refusal, WaitLaws.OutsideStages.either}
use Rattle.wait_rule.specs.Transitions.{call_program}
use Rattle.wait_event.proofs.TrailRuns.{Led, run_led}
use Rattle.bit_wait.specs.Words.{BitLocksHeed, BitWaitsHeed, EndsBrokenOff, EndsGivenUp}

pub zero_not : {A : Type 0} → zero_answer ≡ interrupted → A
zero_not is = absurd (let z : refusal (next.Ends zero_answer) ≡ refusal (next.Ends interrupted) =
    ap (λ (a : Answer). refusal (next.Ends a)) is in omega (arith, z))

pub worn_not : {A : Type 0} → answer.Worn ≡ interrupted → A
worn_not is = absurd (cc)

module _ (w b : ℕ) where
  -- it gave its lock back, loaded the bit and found it set
  abbrev IsLoaded : List Event → Type 0
  IsLoaded trail = (rest : List Event) × (found : ℕ) × (bit_at found b ≡ true)
      × (trail ≡ event.Load (number_of (watch.Bit w b)) found ∷ event.Unlock (head_of (watch.Bit w b)) false ∷ rest)

  -- and slept
  abbrev IsSlept : List Event → Type 0
  IsSlept trail = (rest : List Event) × (found : ℕ) × (sleep : Sleep) × (bit_at found b ≡ true)
      × (trail ≡ event.Sleep sleep ∷ event.Load (number_of (watch.Bit w b)) found
      ∷ event.Unlock (head_of (watch.Bit w b)) false ∷ rest)

  broken_off : (trail : List Event) → IsSlept trail → EndsBrokenOff w b (event.Look true ∷ trail)
  broken_off trail h = record {
    finish = [];
    found = h.1;
    sleep = h.2;
    earlier = h.0;
    turn = ap (λ (l : List Event). event.Look true ∷ l) h.4;
    is_finish = All-nil (λ d. is_finish_event d ≡ true);
    set = h.3;
  }

  -- one more event of a finish
  more : (e : Event) (trail : List Event) → is_finish_event e ≡ true → EndsBrokenOff w b trail
      → EndsBrokenOff w b (e ∷ trail)
  more e trail is f = record {
    finish = e ∷ f.finish;
    found = f.found;
    sleep = f.sleep;
    earlier = f.earlier;
    turn = ap (λ (l : List Event). e ∷ l) f.turn;
    is_finish = All-cons (λ d. is_finish_event d ≡ true) e f.finish is f.is_finish;
    set = f.set;
  }

  -- a wait until the bit is clear
  module _ (me : ℕ) (st : SleepState) where
    abbrev call : Call
    call = calls.WaitBit w b st

    abbrev WaitAt : Point → List Event → Type 0
    WaitAt (at.Bit biting.First) trail = Unit {0}
    WaitAt (at.Bit biting.Load) trail = (rest : List Event)
        × (trail ≡ event.Unlock (head_of (watch.Bit w b)) false ∷ rest)
    WaitAt (at.Bit biting.Sleep) trail = IsLoaded trail
    WaitAt (at.Bit biting.Look) trail = IsSlept trail
    WaitAt (at.Bit (biting.Again true)) trail = EndsBrokenOff w b trail
    WaitAt (at.Bit (biting.Again false)) trail = Unit {0}
    WaitAt (at.Prepare preparing.Look) trail = ⊥
    WaitAt (at.Prepare p) trail = Unit {0}
    WaitAt at.Worn trail = Unit {0}
    WaitAt (at.Finish p true) trail = EndsBrokenOff w b trail
    WaitAt (at.Finish p false) trail = Unit {0}
    WaitAt _ trail = ⊥

    module _ (trail : List Event) where
      abbrev L : Planned → Type 0
      L x = Led interrupted WaitAt (EndsBrokenOff w b) trail x

      load_led : (seen : Seen) (set : Bool) → bit_at seen.value b ≡ set → WaitAt (at.Bit biting.Load) trail
          → WaitAt (at.Bit (if set then biting.Sleep else biting.Again false)) (load call seen ∷ trail)
      load_led seen true is h = (h.0, seen.value, is, ap (λ (l : List Event). load call seen ∷ l) h.1)
      load_led seen false is h = tt

      look_led : (hit : Bool) → IsSlept trail → L (go (event.Look hit) (acted call hit))
      look_led true h = broken_off trail h
      look_led false h = tt

      finish_led : (p : FinishPoint) (seen : Seen) → EndsBrokenOff w b trail
          → L (program me call (at.Finish p true) seen)
      finish_led finishing.State seen h = more (event.State 0) trail refl h
      finish_led finishing.Look seen h = either L (is_some seen.entry) _ _ (more (event.Queued true) trail refl h)
          (λ z. more (event.Queued false) trail refl h)
      finish_led finishing.Lock seen h = more (event.Lock (head_of (watch.Bit w b))) trail refl h
      finish_led finishing.Queue seen h = either L (is_some seen.entry) _ _ (more (event.Unqueue me) trail refl h)
          (λ z. more (event.Unlock (head_of (watch.Bit w b)) false) trail refl h)
      finish_led finishing.Unlock seen h = λ z. more (event.Unlock (head_of (watch.Bit w b)) false) trail refl h

      wait_led : (p : Point) (seen : Seen) → WaitAt p trail → L (program me call p seen)
      wait_led (at.Bit biting.First) seen h = either L (call_fails call seen) _ _ tt (λ z. zero_not z)
      wait_led (at.Bit biting.Load) seen h = load_led seen (call_fails call seen) refl h
      wait_led (at.Bit biting.Sleep) seen h = either
          (λ q. WaitAt (at.Bit q) (event.Sleep (sleep_of seen.own) ∷ trail)) (looks_in st) biting.Look
          (biting.Again false)
          (h.0, h.1, sleep_of seen.own, h.2, ap (λ (l : List Event). event.Sleep (sleep_of seen.own) ∷ l) h.3) tt
      wait_led (at.Bit biting.Look) seen h = look_led (pending (state_mask st) seen.own) h
      wait_led (at.Bit (biting.Again true)) seen h = either (λ q. WaitAt q (load call seen ∷ trail))
          (call_fails call seen && not true) (at.Prepare preparing.Lock) (at.Finish finishing.State true) tt
          (more (load call seen) trail refl h)
      wait_led (at.Bit (biting.Again false)) seen h = either (λ q. WaitAt q (load call seen ∷ trail))
          (call_fails call seen && not false) (at.Prepare preparing.Lock) (at.Finish finishing.State false) tt tt
      wait_led (at.Prepare preparing.Lock) seen h = tt
      wait_led (at.Prepare preparing.Look) seen h = absurd h
      wait_led (at.Prepare preparing.Queue) seen h = either L (is_some seen.entry) _ _ tt
          (either L seen.worn _ _ tt tt)
      wait_led (at.Prepare preparing.State) seen h = tt
      wait_led (at.Prepare preparing.Unlock) seen h = (trail, refl)
      wait_led at.Worn seen h = either L (call_fails call seen) _ _ (λ z. worn_not z) tt
      wait_led (at.Finish p true) seen h = finish_led p seen h
      wait_led (at.Finish finishing.State false) seen h = tt
      wait_led (at.Finish finishing.Look false) seen h = either L (is_some seen.entry) _ _ tt (λ z. zero_not z)
      wait_led (at.Finish finishing.Lock false) seen h = tt
      wait_led (at.Finish finishing.Queue false) seen h = either L (is_some seen.entry) _ _ tt (λ z. zero_not z)
      wait_led (at.Finish finishing.Unlock false) seen h = λ z. zero_not z
      wait_led p seen h = absurd h

  -- a wait to take it: it finishes before its last try
  module _ (me : ℕ) (st : SleepState) where
    abbrev locking : Call
    locking = calls.LockBit w b st

    abbrev LockAt : Point → List Event → Type 0
    LockAt (at.Bit biting.First) trail = Unit {0}
    LockAt (at.Bit biting.Load) trail = (rest : List Event)
        × (trail ≡ event.Unlock (head_of (watch.Bit w b)) false ∷ rest)
    LockAt (at.Bit biting.Sleep) trail = IsLoaded trail
    LockAt (at.Bit biting.Look) trail = IsSlept trail
    LockAt (at.Bit (biting.Again false)) trail = Unit {0}
    LockAt (at.Bit biting.Last) trail = EndsBrokenOff w b trail
    LockAt (at.Prepare preparing.Look) trail = ⊥
    LockAt (at.Prepare p) trail = Unit {0}
    LockAt at.Worn trail = Unit {0}
    LockAt (at.Finish p true) trail = EndsBrokenOff w b trail
    LockAt (at.Finish p false) trail = Unit {0}
    LockAt _ trail = ⊥

    module _ (trail : List Event) where
      abbrev K : Planned → Type 0
      K x = Led interrupted LockAt (EndsGivenUp w b) trail x

      locked_load : (seen : Seen) (set : Bool) → bit_at seen.value b ≡ set → LockAt (at.Bit biting.Load) trail
          → LockAt (at.Bit (if set then biting.Sleep else biting.Again false)) (load locking seen ∷ trail)
      locked_load seen true is h = (h.0, seen.value, is, ap (λ (l : List Event). load locking seen ∷ l) h.1)
      locked_load seen false is h = tt

      locked_look : (hit : Bool) → IsSlept trail → K (go (event.Look hit) (acted locking hit))
      locked_look true h = broken_off trail h
      locked_look false h = tt

      locked_finish : (p : FinishPoint) (seen : Seen) → EndsBrokenOff w b trail
          → K (program me locking (at.Finish p true) seen)
      locked_finish finishing.State seen h = more (event.State 0) trail refl h
      locked_finish finishing.Look seen h = either K (is_some seen.entry) _ _ (more (event.Queued true) trail refl h)
          (more (event.Queued false) trail refl h)
      locked_finish finishing.Lock seen h = more (event.Lock (head_of (watch.Bit w b))) trail refl h
      locked_finish finishing.Queue seen h = either K (is_some seen.entry) _ _ (more (event.Unqueue me) trail refl h)
          (more (event.Unlock (head_of (watch.Bit w b)) false) trail refl h)
      locked_finish finishing.Unlock seen h = more (event.Unlock (head_of (watch.Bit w b)) false) trail refl h

      locked_last : (seen : Seen) (set : Bool) → bit_at seen.value b ≡ set → EndsBrokenOff w b trail
          → (if set then interrupted else zero_answer) ≡ interrupted → EndsGivenUp w b (exchange locking seen ∷ trail)
      locked_last seen true is h z = record {
        earlier = trail;
        last = ap (λ (s : Bool). event.Tas w b (flag s) ∷ trail) is;
        turn = h;
      }
      locked_last seen false is h z = zero_not z

      lock_led : (p : Point) (seen : Seen) → LockAt p trail → K (program me locking p seen)
      lock_led (at.Bit biting.First) seen h = either K (call_fails locking seen) _ _ tt (λ z. zero_not z)
      lock_led (at.Bit biting.Load) seen h = locked_load seen (call_fails locking seen) refl h
      lock_led (at.Bit biting.Sleep) seen h = either
          (λ q. LockAt (at.Bit q) (event.Sleep (sleep_of seen.own) ∷ trail)) (looks_in st) biting.Look
          (biting.Again false)
          (h.0, h.1, sleep_of seen.own, h.2, ap (λ (l : List Event). event.Sleep (sleep_of seen.own) ∷ l) h.3) tt
      lock_led (at.Bit biting.Look) seen h = locked_look (pending (state_mask st) seen.own) h
      lock_led (at.Bit (biting.Again true)) seen h = absurd h
      lock_led (at.Bit (biting.Again false)) seen h = either (λ q. LockAt q (exchange locking seen ∷ trail))
          (call_fails locking seen && not false) (at.Prepare preparing.Lock) (at.Finish finishing.State false) tt tt
      lock_led (at.Bit biting.Last) seen h = locked_last seen (call_fails locking seen) refl h
      lock_led (at.Prepare preparing.Lock) seen h = tt
      lock_led (at.Prepare preparing.Look) seen h = absurd h
      lock_led (at.Prepare preparing.Queue) seen h = either K (is_some seen.entry) _ _ tt
          (either K seen.worn _ _ tt tt)
      lock_led (at.Prepare preparing.State) seen h = tt
      lock_led (at.Prepare preparing.Unlock) seen h = (trail, refl)
      lock_led at.Worn seen h = either K (call_fails locking seen) _ _ (λ z. worn_not z) (λ z. zero_not z)
      lock_led (at.Finish p true) seen h = locked_finish p seen h
      lock_led (at.Finish finishing.State false) seen h = tt
      lock_led (at.Finish finishing.Look false) seen h = either K (is_some seen.entry) _ _ tt (λ z. zero_not z)
      lock_led (at.Finish finishing.Lock false) seen h = tt
      lock_led (at.Finish finishing.Queue false) seen h = either K (is_some seen.entry) _ _ tt (λ z. zero_not z)
      lock_led (at.Finish finishing.Unlock false) seen h = λ z. zero_not z
      lock_led p seen h = absurd h

pub bit_waits_heed : BitWaitsHeed
bit_waits_heed old new w b st seen e =
    let me : ℕ = old.view.number in
    run_led interrupted (WaitAt w b me st) (EndsBrokenOff w b) (call_program me 0 (calls.WaitBit w b st))
    (λ p found trail h. wait_led w b me st trail p found h) e.runs.transitions (at.Bit biting.First) old e.ended [] tt
    e.runs.goes

pub bit_locks_heed : BitLocksHeed
bit_locks_heed old new w b st seen e =
    let me : ℕ = old.view.number in
    run_led interrupted (LockAt w b me st) (EndsGivenUp w b) (call_program me 0 (calls.LockBit w b st))
    (λ p found trail h. lock_led w b me st trail p found h) e.runs.transitions (at.Bit biting.First) old e.ended [] tt
    e.runs.goes
