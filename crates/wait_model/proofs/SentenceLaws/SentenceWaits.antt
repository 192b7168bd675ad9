-- What is left of the sentence of a `wait`, a `swait` and a `waitvar` at each point of its program.
use Rattle.std.proofs.Common.{refl, sym, subst}
use Rattle.std.specs.Prelude.{ℕ, zero, suc, ◌≡◌, Bool, true, false, not, List, ◌∷◌, is_some, Option, Some, None}
use Rattle.std.specs.Prelude.{if◌then◌else◌, ◌&&◌}
use Rattle.wait_model.specs.{declared.calls.Call.Call, declared.calls.Event.Event, declared.calls.Answer.Answer}
use Rattle.wait_model.specs.{declared.tasks.SleepState.SleepState, declared.points.Planned.Planned}
use Rattle.wait_model.specs.{declared.points.Seen.Seen, declared.points.Point.Point}
use Rattle.wait_model.specs.{declared.points.PreparePoint.PreparePoint, declared.points.LeavePoint.LeavePoint}
use Rattle.wait_model.specs.{declared.points.FinishPoint.FinishPoint, declared.queues.Form.Form}
use Rattle.wait_model.specs.{declared.watches.Watch.Watch, declared.watches.Entry.Entry}
use Rattle.wait_model.specs.Tasks.{state_mask, looks_in, pending, sleep_of}
use Rattle.wait_model.specs.Watches.{is_done, head_of, misses, number_of}
use Rattle.wait_model.specs.Points.{call_watch, call_head, state_in, form_of, is_lock, is_bit_wait}
use Rattle.wait_model.specs.Programs.{worn_next, exchange, program, go, ends_with, zero_answer, signalled, interrupted}
use Rattle.wait_model.specs.Programs.{finished, finish_event, prepared_at, slept_at, signalled_at}
use Rattle.wait_model.specs.Phrases.{Turn, leaves, after_turn, turns, repeat, ends}
use Rattle.wait_model.specs.SentenceSteps.{puts_in, Prepared, is_ready, is_signalled, is_worn, stands, nothing, number}
use Rattle.wait_model.specs.SentenceSteps.{minus_4, locks, is_met, looks, queues, takes_off, enters, finishes, unlocks}
use Rattle.wait_model.specs.SentenceWaits.{turn, may_stand, goes_on}
use Rattle.wait_model.specs.Findings.{notes, Noted, is_waiting}
use Rattle.wait_model.specs.declared.calls.Event.TheVariants as event
use Rattle.wait_model.specs.declared.calls.Answer.TheVariants as answer
use Rattle.wait_model.specs.declared.points.Next.TheVariants as next
use Rattle.wait_model.specs.declared.points.Point.TheVariants as at
use Rattle.wait_model.specs.declared.points.PreparePoint.TheVariants as preparing
use Rattle.wait_model.specs.declared.points.LeavePoint.TheVariants as leaving
use Rattle.wait_model.specs.declared.points.FinishPoint.TheVariants as finishing
use Rattle.wait_model.specs.declared.points.BitPoint.TheVariants as biting
use Rattle.wait_model.specs.Phrases.{Rest, Phrase, ◌>>=◌, ◌>>◌, gives, makes, finds, when◌then◌otherwise◌, first_is}
use Rattle.wait_model.proofs.SentenceLaws.SentenceRests.{left_at, Knows, Says, anything, Some_turns, first_more}

pub record IsLoop (call : Call) : Type 0 where
  pub prepared : prepared_at call ≡ at.Test
  pub slept : slept_at call ≡ at.Prepare preparing.Lock
  pub signalled : signalled_at call ≡ at.Leave leaving.Queue
  pub bit : is_bit_wait call ≡ false
  pub lock : is_lock call ≡ false
  pub waits : is_waiting call ≡ true
  pub plain : is_done (call_watch call) ≡ false
  pub worn : worn_next call ≡ next.Go at.Worn

pub loop_of : {call : Call} → prepared_at call ≡ at.Test → slept_at call ≡ at.Prepare preparing.Lock
    → signalled_at call ≡ at.Leave leaving.Queue → is_bit_wait call ≡ false → is_lock call ≡ false
    → is_waiting call ≡ true → is_done (call_watch call) ≡ false → worn_next call ≡ next.Go at.Worn → IsLoop call
loop_of p s g b l h d n =
    record { prepared = p; slept = s; signalled = g; bit = b; lock = l; waits = h; plain = d; worn = n }

-- FINISH at each of its points, for a call that takes no bit
abbrev pub finish_rest : ℕ → Call → Bool → FinishPoint → Rest → Rest
finish_rest me call b finishing.State R = finishes me (call_watch call) b (λ _. R)
finish_rest me call b finishing.Look R = stands b (λ found. (when found
    then (do locks (call_watch call); takes_off me true; unlocks (call_watch call)) otherwise nothing) (λ _. R))
finish_rest me call b finishing.Lock R = locks (call_watch call)
    (λ _. takes_off me true (λ _. unlocks (call_watch call) (λ _. R)))
finish_rest me call b finishing.Queue R = takes_off me true (λ _. unlocks (call_watch call) (λ _. R))
finish_rest me call b finishing.Unlock R = unlocks (call_watch call) (λ _. R)

-- it ends the call
module _ (me : ℕ) (call : Call) (R : Noted → Point → Rest) (m : Noted) (failed : Bool) (E : Rest) (b : Bool)
    (over : (e : Event) → Says R m (finished call failed e) (first_is e E))
    (is : (n : Noted) → n.queued ≡ m.queued → (p : FinishPoint) (w : List Event) (a : Answer)
    → R n (at.Finish p failed) w a → finish_rest me call b p E w a) where
  look_said : (o : Option Entry) (q : b ≡ false → o ≡ None)
      → Says R m (if is_some o then go (event.Queued true) (at.Finish finishing.Lock failed)
      else finished call failed (event.Queued false)) (finish_rest me call b finishing.Look E)
  look_said o q = by b o q
    where
      by : (k : Bool) (o : Option Entry) → (k ≡ false → o ≡ None)
          → Says R m (if is_some o then go (event.Queued true) (at.Finish finishing.Lock failed)
          else finished call failed (event.Queued false)) (finish_rest me call k finishing.Look E)
      by true (Some e) q w a h = (true, (refl, is _ refl finishing.Lock w a h))
      by true None q w a h = (false, over (event.Queued false) w a h)
      by false (Some e) q w a h = absurd (let z : Some e ≡ None = q refl in cc)
      by false None q w a h = over (event.Queued false) w a h

  off_said : (queued : Bool) → Says R m (if queued then go (event.Unqueue me) (at.Finish finishing.Unlock failed)
      else finished call failed (event.Unlock (call_head call) false)) (finish_rest me call b finishing.Queue E)
  off_said true w a h = (true, (refl, is _ refl finishing.Unlock w a h))
  off_said false w a h = (false, over (event.Unlock (call_head call) false) w a h)

  pub finish_said : (p : FinishPoint) (seen : Seen) → (b ≡ false → seen.entry ≡ None)
      → Says R m (finish_event me call p failed seen) (finish_rest me call b p E)
  finish_said finishing.State seen q w a h = (refl, is _ refl finishing.Look w a h)
  finish_said finishing.Look seen q w a h = look_said seen.entry q w a h
  finish_said finishing.Lock seen q w a h = (refl, is _ refl finishing.Queue w a h)
  finish_said finishing.Queue seen q w a h = off_said (is_some seen.entry) w a h
  finish_said finishing.Unlock seen q w a h = over (event.Unlock (call_head call) false) w a h

-- an own entry that may stand may be off too
put_more : (c : Watch) (form : Form) (R S : Bool → Rest)
    → ((s : Bool) (w : List Event) (a : Answer) → R s w a → S s w a)
    → (w : List Event) (a : Answer) → puts_in c form R w a → puts_in c form S w a
put_more c form R S more w a (true, h) = (true, more false w a h)
put_more c form R S more w a (false, h) =
    (false, first_more (event.Queue (head_of c) form) (R true) (S true) (more true) w a h)

queue_more : (c : Watch) (form : Form) (b : Bool) (R S : Bool → Rest)
    → ((s : Bool) (w : List Event) (a : Answer) → R s w a → S s w a)
    → (w : List Event) (a : Answer) → queues c form b R w a → queues c form true S w a
queue_more c form true R S more w a (true, h) = (true, more true w a h)
queue_more c form true R S more w a (false, h) = (false, put_more c form R S more w a h)
queue_more c form false R S more w a h = (false, put_more c form R S more w a h)

abbrev pub entered_rest : Watch → SleepState → (Bool → Rest) → Bool → Rest
entered_rest c st R s = (when s
    then (do makes (event.State (state_mask st)); unlocks c; gives true)
    otherwise (do unlocks c; gives false)) R

entered_more : (c : Watch) (st : SleepState) (R S : Bool → Rest)
    → ((s : Bool) (w : List Event) (a : Answer) → R s w a → S s w a)
    → (s : Bool) (w : List Event) (a : Answer) → entered_rest c st R s w a → entered_rest c st S s w a
entered_more c st R S more true = first_more (event.State (state_mask st)) (unlocks c (λ _. R true))
    (unlocks c (λ _. S true))
    (first_more (event.Unlock (head_of c) false) (R true) (S true) (more true))
entered_more c st R S more false = first_more (event.Unlock (head_of c) false) (R false) (S false) (more false)

pub enter_more : (c : Watch) (st : SleepState) (form : Form) (b : Bool) (R S : Bool → Rest)
    → ((s : Bool) (w : List Event) (a : Answer) → R s w a → S s w a)
    → (w : List Event) (a : Answer) → enters c st form b R w a → enters c st form true S w a
enter_more c st form b R S more = queue_more c form b (entered_rest c st R) (entered_rest c st S)
    (entered_more c st R S more)

pub off_more : (me : ℕ) (b : Bool) (R : Rest) (w : List Event) (a : Answer)
    → takes_off me b (λ _. R) w a → takes_off me true (λ _. R) w a
off_more me true R w a h = h
off_more me false R w a h = (false, h)

pub stand_more : (b : Bool) (R : Bool → Rest) (w : List Event) (a : Answer) → stands b R w a → stands true R w a
stand_more true R w a h = h
stand_more false R w a h = (false, h)

pub finish_more : (me : ℕ) (call : Call) (b : Bool) (R : Rest) (w : List Event) (a : Answer)
    → finish_rest me call b finishing.State R w a → finish_rest me call true finishing.State R w a
finish_more me call b R = first_more (event.State 0) (finish_rest me call b finishing.Look R)
    (finish_rest me call true finishing.Look R)
    (stand_more b (λ found. (when found
    then (do locks (call_watch call); takes_off me true; unlocks (call_watch call)) otherwise nothing) (λ _. R)))

pub look_more : (b : Bool) (R S : Bool → Rest) → ((hit : Bool) (w : List Event) (a : Answer) → R hit w a → S hit w a)
    → (w : List Event) (a : Answer) → (when b then finds event.Look otherwise gives false) R w a
    → (when b then finds event.Look otherwise gives false) S w a
look_more true R S more w a h = (h.0, first_more (event.Look h.0) (R h.0) (S h.0) (more h.0) w a h.1)
look_more false R S more w a h = more false w a h

module _ (me : ℕ) (call : Call) where
  abbrev pub body : Bool → Phrase (Turn Bool Answer)
  body = turn me (call_watch call) (state_in call) (form_of call)

  -- after a turn, when at most n are left
  abbrev pub over : ℕ → Turn Bool Answer → Rest
  over n t = after_turn (turns n body) t ends

  -- after a turn's hold
  abbrev pub tested : Bool → ℕ → Prepared → Bool → Rest
  tested kept n how met =
      (when met then (do finishes me (call_watch call) (may_stand how kept); gives (leaves (number 0)))
      otherwise goes_on how) (over n)

  abbrev pub prepared : Bool → ℕ → Prepared → Rest
  prepared kept n how = is_met (call_watch call) (tested kept n how)

  -- after its add
  abbrev pub entered : Bool → ℕ → Bool → Rest
  entered kept n s = prepared kept n (if s then is_ready else is_worn)

  -- after the look of a turn's hold
  abbrev pub looked_at : Bool → ℕ → Bool → Rest
  looked_at kept n signal = (when signal
      then (do takes_off me kept; unlocks (call_watch call); gives is_signalled) otherwise
      (do s ← enters (call_watch call) (state_in call) (form_of call) kept; gives (if s then is_ready else is_worn)))
      (prepared kept n)

  abbrev pub prepare_rest : Noted → PreparePoint → ℕ → Rest
  prepare_rest m preparing.Lock n = turns n body m.queued ends
  prepare_rest m preparing.Look n = finds event.Look (looked_at m.queued n)
  prepare_rest m preparing.Queue n = looked_at m.queued n false
  prepare_rest m preparing.State n = makes (event.State (state_mask (state_in call)))
      (λ _. unlocks (call_watch call) (λ _. prepared true n is_ready))
  prepare_rest m preparing.Unlock n = unlocks (call_watch call) (λ _. prepared true n is_ready)

  abbrev pub leave_rest : Noted → LeavePoint → ℕ → Rest
  leave_rest m leaving.Queue n = looked_at m.queued n true
  leave_rest m leaving.Unlock n = unlocks (call_watch call) (λ _. prepared m.queued n is_signalled)
  leave_rest m leaving.Load n = prepared m.queued n is_signalled

  abbrev pub loop_rest : Noted → Point → Rest
  loop_rest m at.First =
      is_met (call_watch call) (λ met. (when met then gives (number 0) otherwise repeat body m.queued) ends)
  loop_rest m (at.Prepare p) = Some_turns (prepare_rest m p)
  loop_rest m at.Test = Some_turns (λ n. prepared true n is_ready)
  loop_rest m at.Sleep = Some_turns (λ n. tested true n is_ready false)
  loop_rest m at.Worn = Some_turns (λ n. prepared m.queued n is_worn)
  loop_rest m (at.Leave p) = Some_turns (leave_rest m p)
  loop_rest m (at.Finish p failed) = finish_rest me call m.queued p (ends (if failed then minus_4 else number 0))
  loop_rest m _ = anything

  tested_more : (b : Bool) (n : ℕ) (how : Prepared) (met : Bool) (w : List Event) (a : Answer) → tested b n how met w a
      → tested true n how met w a
  tested_more b n is_ready true w a h = h
  tested_more b n is_signalled true w a h = finish_more me call b (ends (number 0)) w a h
  tested_more b n is_worn true w a h = finish_more me call b (ends (number 0)) w a h
  tested_more b n how false w a h = h

  prepared_more : (b : Bool) (n : ℕ) (how : Prepared) (w : List Event) (a : Answer) → prepared b n how w a
      → prepared true n how w a
  prepared_more b n how w a h = (
    h.0,
    first_more (event.Load (number_of (call_watch call)) h.0) (tested b n how (not (misses (call_watch call) h.0)))
        (tested true n how (not (misses (call_watch call) h.0)))
        (tested_more b n how (not (misses (call_watch call) h.0))) w a h.1,
  )

  off_under : (b : Bool) (R S : Rest) → ((w : List Event) (a : Answer) → R w a → S w a) → (w : List Event) (a : Answer)
      → takes_off me b (λ _. R) w a → takes_off me b (λ _. S) w a
  off_under true R S more w a (true, h) = (true, first_more (event.Unqueue me) R S more w a h)
  off_under true R S more w a (false, h) = (false, more w a h)
  off_under false R S more w a h = more w a h

  looked_more : (b : Bool) (n : ℕ) (hit : Bool) (w : List Event) (a : Answer) → looked_at b n hit w a
      → looked_at true n hit w a
  looked_more b n true w a h = off_more me b (unlocks (call_watch call) (λ _. prepared true n is_signalled))
      w a (off_under b
      (unlocks (call_watch call) (λ _. prepared b n is_signalled))
      (unlocks (call_watch call) (λ _. prepared true n is_signalled))
      (first_more (event.Unlock (call_head call) false) (prepared b n is_signalled) (prepared true n is_signalled)
      (prepared_more b n is_signalled)) w a h)
  looked_more b n false w a h = enter_more (call_watch call) (state_in call) (form_of call) b
      (entered b n) (entered true n)
      (λ s. prepared_more b n (if s then is_ready else is_worn)) w a h

  turns_more : (b : Bool) (n : ℕ) (w : List Event) (a : Answer) → turns n body b ends w a → turns n body true ends w a
  turns_more b zero w a h = h
  turns_more b (suc n) w a h = first_more (event.Lock (call_head call)) (looks (state_in call) (looked_at b n))
      (looks (state_in call) (looked_at true n))
      (look_more (looks_in (state_in call)) (looked_at b n) (looked_at true n) (looked_more b n)) w a h

  module _ (k : IsLoop call) (m : Noted) where
    abbrev S : Planned → Rest → Type 0
    S = Says loop_rest m

    first_said : (value : ℕ) (miss : Bool)
        → S (if miss then go (event.Load (number_of (call_watch call)) value) (at.Prepare preparing.Lock)
        else ends_with (event.Load (number_of (call_watch call)) value) zero_answer)
        (first_is (event.Load (number_of (call_watch call)) value)
        ((when not miss then gives (number 0) otherwise repeat body m.queued) ends))
    first_said value true w a h = (refl, h)
    first_said value false w a h = (refl, h)

    lock_said : (b : Bool) (w : List Event) (a : Answer) → loop_rest m (at.Prepare (if b then preparing.Look
        else preparing.Queue)) w a
        → (n : ℕ) × (when b then finds event.Look otherwise gives false) (looked_at m.queued n) w a
    lock_said true w a h = h
    lock_said false w a h = h

    heard_said : (hit : Bool) (w : List Event) (a : Answer)
        → loop_rest m (if hit then signalled_at call else at.Prepare preparing.Queue) w a → (n : ℕ)
        × looked_at m.queued n hit w a
    heard_said true w a h = rw k.signalled at h
    heard_said false w a h = h

    -- where no place is left
    worn_in : (w : List Event) (a : Answer)
        → left_at (loop_rest (notes m (event.Unlock (call_head call) false))) (worn_next call) w a
        → (n : ℕ) × prepared m.queued n is_worn w a
    worn_in w a h = rw k.worn at h

    queue_said : (o : Option Entry) (kept worn : Bool) → (kept ≡ false → o ≡ None) → kept ≡ m.queued → S (if is_some o
        then go (event.State (state_mask (state_in call))) (at.Prepare preparing.Unlock)
        else if worn then record { event = event.Unlock (call_head call) false; next = worn_next call }
        else go (event.Queue (call_head call) (form_of call)) (at.Prepare preparing.State))
        (Some_turns (λ n. looked_at kept n false))
    queue_said None true false q i w a h = (h.0, (false, (false, (refl, h.1))))
    queue_said None false false q i w a h = (h.0, (false, (refl, h.1)))
    queue_said None true true q i w a h =
        let (n, x) = worn_in w a h in
        (n, (false, (true, (refl, subst (λ (b : Bool). prepared b n is_worn w a) (sym i) x))))
    queue_said None false true q i w a h =
        let (n, x) = worn_in w a h in
        (n, (true, (refl, subst (λ (b : Bool). prepared b n is_worn w a) (sym i) x)))
    queue_said (Some e) true worn q i w a h = (h.0, (true, (refl, h.1)))
    queue_said (Some e) false worn q i w a h = absurd (let z : Some e ≡ None = q refl in cc)

    worn_said : (seen : Seen) (l miss : Bool) → l ≡ false → S (if miss
        then ends_with (if l then exchange call seen else event.Load (number_of (call_watch call)) seen.value)
        answer.Worn
        else if l then ends_with (if l then exchange call seen else event.Load (number_of (call_watch call)) seen.value)
        zero_answer
        else go (if l then exchange call seen else event.Load (number_of (call_watch call)) seen.value)
        (at.Finish finishing.State false))
        (λ w a. (n : ℕ) × first_is (event.Load (number_of (call_watch call)) seen.value)
        (tested m.queued n is_worn (not miss)) w a)
    worn_said seen true miss q w a h = absurd (cc)
    worn_said seen false true q w a h = (zero, (refl, h))
    worn_said seen false false q w a h = (zero, (refl, h))

    leave_said : (o : Option Entry) (kept : Bool) → (kept ≡ false → o ≡ None) → kept ≡ m.queued → S (if is_some o
        then go (event.Unqueue me) (at.Leave leaving.Unlock) else go (event.Unlock (call_head call) false)
        (at.Leave leaving.Load))
        (Some_turns (λ n. looked_at kept n true))
    leave_said None true q i w a h =
        (h.0, (false, (refl, subst (λ (b : Bool). prepared b h.0 is_signalled w a) (sym i) h.1)))
    leave_said None false q i w a h = (h.0, (refl, subst (λ (b : Bool). prepared b h.0 is_signalled w a) (sym i) h.1))
    leave_said (Some e) true q i w a h = (
      h.0,
      (
        true,
        (
          refl,
          subst (λ (b : Bool). unlocks (call_watch call) (λ _. prepared b h.0 is_signalled) w a)
              (sym i) h.1,
        ),
      ),
    )
    leave_said (Some e) false q i w a h = absurd (let z : Some e ≡ None = q refl in cc)

    test_said : (value : ℕ) (miss : Bool)
        → S (go (event.Load (number_of (call_watch call)) value) (if miss then at.Sleep
        else at.Finish finishing.State false))
        (λ w a. (n : ℕ) × first_is (event.Load (number_of (call_watch call)) value)
        (tested true n is_ready (not miss)) w a)
    test_said value true w a h = (h.0, (refl, h.1))
    test_said value false w a h = (zero, (refl, finish_more me call m.queued (ends (number 0)) w a h))

    left_said : (value : ℕ) (miss : Bool)
        → S (if miss then ends_with (event.Load (number_of (call_watch call)) value) signalled
        else go (event.Load (number_of (call_watch call)) value) (at.Finish finishing.State false))
        (λ w a. (n : ℕ) × first_is (event.Load (number_of (call_watch call)) value)
        (tested m.queued n is_signalled (not miss)) w a)
    left_said value true w a h = (zero, (refl, h))
    left_said value false w a h = (zero, (refl, h))

    unlocked_said : (b : Bool) → b ≡ false → (e : Event)
        → S (if b then go e (at.Bit biting.Last) else ends_with e interrupted) (first_is e (ends minus_4))
    unlocked_said true q e w a h = absurd (cc q)
    unlocked_said false q e w a h = (refl, h)

    over_said : (failed : Bool) (e : Event)
        → S (finished call failed e) (first_is e (ends (if failed then minus_4 else number 0)))
    over_said true e w a h = unlocked_said (is_lock call) k.lock e w a h
    over_said false e w a h = (refl, h)

    pub loop_said : (p : Point) (seen : Seen) → Knows call p m seen → S (program me call p seen) (loop_rest m p)
    loop_said at.First seen g w a h =
        (seen.value, first_said seen.value (misses (call_watch call) seen.value) w a h)
    loop_said (at.Prepare preparing.Lock) seen g w a h = lock_in (rw k.bit at h)
      where
        lock_in : loop_rest m (at.Prepare (if true && looks_in (state_in call) then preparing.Look
            else preparing.Queue)) w a
            → loop_rest m (at.Prepare preparing.Lock) (event.Lock (call_head call) ∷ w) a
        lock_in g = let (n, x) = lock_said (looks_in (state_in call)) w a g in (suc n, (refl, x))
    loop_said (at.Prepare preparing.Look) seen g w a h =
        let (n, x) = heard_said (pending (state_mask (state_in call)) seen.own) w a h in
        (n, (pending (state_mask (state_in call)) seen.own, (refl, x)))
    loop_said (at.Prepare preparing.Queue) seen g w a h = queue_said seen.entry m.queued seen.worn
        (g.off k.waits) refl w a h
    loop_said (at.Prepare preparing.State) seen g w a h = (h.0, (refl, h.1))
    loop_said (at.Prepare preparing.Unlock) seen g w a h = unlock_in (rw k.prepared at h)
      where
        unlock_in : loop_rest m at.Test w a → loop_rest m (at.Prepare preparing.Unlock)
            (event.Unlock (call_head call) false ∷ w) a
        unlock_in g = (g.0, (refl, g.1))
    loop_said at.Test seen g w a h =
        let (n, x) = test_said seen.value (misses (call_watch call) seen.value) w a h in (n, (seen.value, x))
    loop_said at.Worn seen g w a h =
        let (n, x) = worn_said seen (is_lock call) (misses (call_watch call) seen.value) k.lock w a h in
        (n, (seen.value, x))
    loop_said at.Sleep seen g w a h = sleep_in (rw k.slept at h)
      where
        sleep_in : loop_rest m (at.Prepare preparing.Lock) w a
            → loop_rest m at.Sleep (event.Sleep (sleep_of seen.own) ∷ w) a
        sleep_in g = (g.0, (sleep_of seen.own, (refl, turns_more m.queued g.0 w a g.1)))
    loop_said (at.Leave leaving.Queue) seen g w a h = leave_said seen.entry m.queued (g.off k.waits) refl w a h
    loop_said (at.Leave leaving.Unlock) seen g w a h = (h.0, (refl, h.1))
    loop_said (at.Leave leaving.Load) seen g w a h =
        let (n, x) = left_said seen.value (misses (call_watch call) seen.value) w a h in (n, (seen.value, x))
    loop_said (at.Finish p failed) seen g w a h = finish_said me call loop_rest m failed
        (ends (if failed then minus_4 else number 0))
        m.queued (over_said failed) (λ n i q v b x. subst (λ (k : Bool). finish_rest me call k q
        (ends (if failed then minus_4 else number 0)) v b) i x) p seen (g.off k.waits) w a h
    loop_said p seen g w a h = tt
