-- A wait that answers for a signal ends with a turn that a signal ended, and a load that found its condition not set.
use Rattle.std.proofs.Common.{refl, sym, ap, subst, arith, inl, inr}
use Rattle.std.specs.Prelude.{ℕ, ◌≡◌, Bool, true, false, not, ◌&&◌, if◌then◌else◌, is_some, List, [], ◌∷◌}
use Rattle.wait_model.specs.{declared.calls.Call.Call, declared.calls.Event.Event, declared.calls.Answer.Answer}
use Rattle.wait_model.specs.{declared.points.Planned.Planned, declared.points.Next.Next, declared.points.Seen.Seen}
use Rattle.wait_model.specs.{declared.points.Point.Point, Making.Makes, Making.goes_to, Selections.IsSignalledTurn}
use Rattle.wait_model.specs.Tasks.{pending, state_mask, looks_in, sleep_of}
use Rattle.wait_model.specs.Points.{call_head, is_bit_wait, is_lock, state_in}
use Rattle.wait_model.specs.Programs.{program, program_start, call_fails, ends_with, go, load, look_event, signalled}
use Rattle.wait_model.specs.Programs.{worn_next, zero_answer}
use Rattle.wait_model.specs.Findings.{Noted, none_noted, notes}
use Rattle.wait_model.specs.declared.calls.Call.TheVariants as calls
use Rattle.wait_model.specs.declared.calls.Event.TheVariants as event
use Rattle.wait_model.specs.declared.calls.Answer.TheVariants as answer
use Rattle.wait_model.specs.declared.points.Next.TheVariants as next
use Rattle.wait_model.specs.declared.points.Point.TheVariants as at
use Rattle.wait_model.specs.declared.points.PreparePoint.TheVariants as preparing
use Rattle.wait_model.specs.declared.points.LeavePoint.TheVariants as leaving
use Rattle.wait_model.specs.declared.points.FinishPoint.TheVariants as finishing
use Rattle.wait_model.proofs.{WaitLaws.OutsideStages.either, AccountLaws.Refusals.refusal}
use Rattle.wait_model.proofs.{SentenceLaws.SentenceWaits.IsLoop, SentenceLaws.MadeCalls.sentences_are_made}
use Rattle.wait_rule.specs.{Known.Known, SaidEvents.said}
use Rattle.wait_rule.specs.Heeding.{EndsSignalled, RunsHeed, WordsHeed, is_turning, trail_of}
use Rattle.wait_rule.specs.Transitions.{Goes, Program, Transition, after_transition, call_program}

-- the calls that wait in turns
is_loop : (call : Call) → is_turning call ≡ true → IsLoop call
is_loop (calls.Wait c how) is = record {
  prepared = refl;
  slept = refl;
  signalled = refl;
  bit = refl;
  lock = refl;
  waits = refl;
  plain = refl;
  worn = refl;
}
is_loop (calls.SimpleWait c st) is = record {
  prepared = refl;
  slept = refl;
  signalled = refl;
  bit = refl;
  lock = refl;
  waits = refl;
  plain = refl;
  worn = refl;
}
is_loop (calls.WaitVar v old st) is = record {
  prepared = refl;
  slept = refl;
  signalled = refl;
  bit = refl;
  lock = refl;
  waits = refl;
  plain = refl;
  worn = refl;
}
is_loop call is = absurd (cc)

start_first : (call : Call) → is_turning call ≡ true → program_start call ≡ at.First
start_first (calls.Wait c how) is = refl
start_first call is = cc

zero_not : {A : Type 0} → zero_answer ≡ signalled → A
zero_not is = absurd (let z : refusal (next.Ends zero_answer) ≡ refusal (next.Ends signalled) =
    ap (λ (a : Answer). refusal (next.Ends a)) is in omega (arith, z))

worn_not : {A : Type 0} → answer.Worn ≡ signalled → A
worn_not is = absurd (cc)

module _ (me : ℕ) (call : Call) (k : IsLoop call) where
  -- what the latest events are at the points of a wait in turns
  abbrev LoopAt : Point → List Event → Type 0
  LoopAt at.First trail = Unit {0}
  LoopAt (at.Prepare preparing.Look) trail = (rest : List Event) × (trail ≡ event.Lock (call_head call) ∷ rest)
  LoopAt (at.Prepare p) trail = Unit {0}
  LoopAt at.Test trail = Unit {0}
  LoopAt at.Sleep trail = Unit {0}
  LoopAt at.Worn trail = Unit {0}
  LoopAt (at.Leave leaving.Queue) trail = (rest : List Event)
      × (trail ≡ event.Look true ∷ event.Lock (call_head call) ∷ rest)
  LoopAt (at.Leave leaving.Unlock) trail = (rest : List Event)
      × (trail ≡ event.Unqueue me ∷ event.Look true ∷ event.Lock (call_head call) ∷ rest)
  LoopAt (at.Leave leaving.Load) trail = IsSignalledTurn me (call_head call) trail
  LoopAt (at.Finish p false) trail = Unit {0}
  LoopAt _ trail = ⊥

  abbrev LedTo : List Event → Next → Type 0
  LedTo trail (next.Go q) = LoopAt q trail
  LedTo trail (next.Ends a) = a ≡ signalled → EndsSignalled me call trail

  abbrev Led : List Event → Planned → Type 0
  Led trail x = LedTo (x.event ∷ trail) x.next

  module _ (trail : List Event) where
    look_led : (hit : Bool) → LoopAt (at.Prepare preparing.Look) trail → Led trail (look_event call hit)
    look_led true h = subst (λ (q : Point). LoopAt q (event.Look true ∷ trail)) (sym k.signalled)
        (h.0, ap (λ (l : List Event). event.Look true ∷ l) h.1)
    look_led false h = tt

    worn_led : (e : Event) → LedTo (e ∷ trail) (worn_next call)
    worn_led e = subst (LedTo (e ∷ trail)) (sym k.worn) tt

    left_led : (seen : Seen) (b : Bool) → call_fails call seen ≡ b → IsSignalledTurn me (call_head call) trail
        → Led trail (if b then ends_with (load call seen) signalled
        else go (load call seen) (at.Finish finishing.State false))
    left_led seen true unset turn = λ z. record {
      value = seen.value;
      earlier = trail;
      load = refl;
      turn = turn;
      unset = unset;
    }
    left_led seen false unset turn = tt

    worn_load_led : (seen : Seen) → Led trail (program me call at.Worn seen)
    worn_load_led seen = either (Led trail) (call_fails call seen) _ _ (λ z. worn_not z)
        (either (Led trail) (is_lock call) _ _ (λ z. zero_not z) tt)

    loop_step : (p : Point) (seen : Seen) → LoopAt p trail → Led trail (program me call p seen)
    loop_step at.First seen h = either (Led trail) (call_fails call seen) _ _ tt (λ z. zero_not z)
    loop_step (at.Prepare preparing.Lock) seen h = either
        (λ q. LoopAt (at.Prepare q) (event.Lock (call_head call) ∷ trail))
        (not (is_bit_wait call) && looks_in (state_in call)) preparing.Look preparing.Queue (trail, refl) tt
    loop_step (at.Prepare preparing.Look) seen h = look_led (pending (state_mask (state_in call)) seen.own) h
    loop_step (at.Prepare preparing.Queue) seen h = either (Led trail) (is_some seen.entry) _ _ tt
        (either (Led trail) seen.worn _ _ (worn_led (event.Unlock (call_head call) false)) tt)
    loop_step (at.Prepare preparing.State) seen h = tt
    loop_step (at.Prepare preparing.Unlock) seen h =
        subst (λ (q : Point). LoopAt q (event.Unlock (call_head call) false ∷ trail)) (sym k.prepared) tt
    loop_step at.Test seen h = either (λ q. LoopAt q (load call seen ∷ trail)) (call_fails call seen) at.Sleep
        (at.Finish finishing.State false) tt tt
    loop_step at.Sleep seen h = subst (λ (q : Point). LoopAt q (event.Sleep (sleep_of seen.own) ∷ trail))
        (sym k.slept) tt
    loop_step at.Worn seen h = worn_load_led seen
    loop_step (at.Leave leaving.Queue) seen h = either (Led trail) (is_some seen.entry) _ _
        (h.0, ap (λ (l : List Event). event.Unqueue me ∷ l) h.1)
        (record {
          earlier = h.0;
          turn = inl (ap (λ (l : List Event). event.Unlock (call_head call) false ∷ l) h.1);
        })
    loop_step (at.Leave leaving.Unlock) seen h = record {
      earlier = h.0;
      turn = inr (ap (λ (l : List Event). event.Unlock (call_head call) false ∷ l) h.1);
    }
    loop_step (at.Leave leaving.Load) seen h = left_led seen (call_fails call seen) refl h
    loop_step (at.Finish finishing.State false) seen h = tt
    loop_step (at.Finish finishing.Look false) seen h = either (Led trail) (is_some seen.entry) _ _ tt
        (λ z. zero_not z)
    loop_step (at.Finish finishing.Lock false) seen h = tt
    loop_step (at.Finish finishing.Queue false) seen h = either (Led trail) (is_some seen.entry) _ _ tt
        (λ z. zero_not z)
    loop_step (at.Finish finishing.Unlock false) seen h = λ z. zero_not z
    loop_step p seen h = absurd h

  -- whole runs
  module _ (f : Program) (plan : (p : Point) (seen : Seen) → f.plan p seen ≡ program me call p seen) where
    run_tail : (ts : List Transition) (j new : Known) (trail : List Event)
        → ((q : Point) → Goes f j (next.Go q) ts new (next.Ends signalled) → LoopAt q trail
        → EndsSignalled me call (trail_of trail (said f (next.Go q) ts)))
        → (n : Next) → Goes f j n ts new (next.Ends signalled) → LedTo trail n
        → EndsSignalled me call (trail_of trail (said f n ts))
    run_tail ts j new trail rec (next.Go q) g led = rec q g led
    run_tail [] j new trail rec (next.Ends b) g led =
        led (let z : next.Ends signalled ≡ next.Ends b = g.1 in let y : b ≡ signalled = cc in y)
    run_tail (t ∷ ts) j new trail rec (next.Ends b) g led = absurd g

    run_heeds : (ts : List Transition) (p : Point) (old new : Known) (trail : List Event) → LoopAt p trail
        → Goes f old (next.Go p) ts new (next.Ends signalled)
        → EndsSignalled me call (trail_of trail (said f (next.Go p) ts))
    run_heeds [] p old new trail h g = absurd (let z : next.Ends signalled ≡ next.Go p = g.1 in cc)
    run_heeds (t ∷ ts) p old new trail h g = run_tail ts (after_transition t) new
        ((f.plan p t.seen).event ∷ trail)
        (λ q on led. run_heeds ts q (after_transition t) new ((f.plan p t.seen).event ∷ trail) led on)
        (f.plan p t.seen).next g.1
        (subst (Led trail) (sym (plan p t.seen)) (loop_step trail p t.seen h))

  -- and what follows the sentence, by the program that makes it
  word_tail : (w : List Event) (m : Noted) (trail : List Event)
      → ((q : Point) → Makes me call m q w signalled → LoopAt q trail → EndsSignalled me call (trail_of trail w))
      → (n : Next) → goes_to (λ q v b. Makes me call m q w b) n w signalled → LedTo trail n
      → EndsSignalled me call (trail_of trail w)
  word_tail w m trail rec (next.Go q) x led = rec q x led
  word_tail [] m trail rec (next.Ends b) x led = led (sym x)
  word_tail (e ∷ w) m trail rec (next.Ends b) x led = absurd x

  word_heeds : (w : List Event) (m : Noted) (p : Point) (trail : List Event) → LoopAt p trail
      → Makes me call m p w signalled → EndsSignalled me call (trail_of trail w)
  word_heeds [] m p trail h x = absurd x
  word_heeds (e ∷ w) m p trail h x =
      let (seen, may, is, more) = x in
      word_tail w (notes m e) (e ∷ trail) (λ q on led. word_heeds w (notes m e) q (e ∷ trail) led on)
      (program me call p seen).next more
      (subst (λ (d : Event). LedTo (d ∷ trail) (program me call p seen).next) (sym is) (loop_step trail p seen h))

pub runs_heed : RunsHeed
runs_heed call slot old new turning m =
    let me : ℕ = old.view.number in
    let k : IsLoop call = is_loop call turning in
    run_heeds me call k (call_program me slot call) (λ p seen. refl) m.transitions (program_start call) old new []
    (subst (λ (q : Point). LoopAt me call k q []) (sym (start_first call turning)) tt) m.goes

pub words_heed : WordsHeed
words_heed me call w turning follows =
    let k : IsLoop call = is_loop call turning in
    word_heeds me call k w none_noted (program_start call) []
    (subst (λ (q : Point). LoopAt me call k q []) (sym (start_first call turning)) tt)
    (sentences_are_made me call w signalled follows)
