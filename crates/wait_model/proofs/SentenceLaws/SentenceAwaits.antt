-- What is left of the sentence of a `waitfor` at each point of its program.
use Rattle.std.proofs.Common.{refl, sym, ◌∙◌, subst, arith}
use Rattle.std.specs.Prelude.{◌≤◌, Option, Some, None, ℕ, zero, suc, ◌≡◌, ◌==◌, ◌-◌, Bool, true, false, not, List}
use Rattle.std.specs.Prelude.{is_some, if◌then◌else◌}
use Rattle.wait_model.specs.{declared.layout.TheConstants.ALL_DONE, declared.calls.Call.Call}
use Rattle.wait_model.specs.{declared.calls.Event.Event, declared.calls.Answer.Answer}
use Rattle.wait_model.specs.{declared.tasks.SleepState.SleepState, declared.watches.Watch.Watch}
use Rattle.wait_model.specs.{declared.points.Planned.Planned, declared.points.Seen.Seen, declared.points.Point.Point}
use Rattle.wait_model.specs.{declared.points.PreparePoint.PreparePoint, Counts.taken_done, Watches.head_of}
use Rattle.wait_model.specs.{Watches.number_of, declared.watches.Entry.Entry, Findings.Noted}
use Rattle.wait_model.specs.Tasks.{state_mask, looks_in, pending, sleep_of}
use Rattle.wait_model.specs.Programs.{program, go, ends_with, zero_answer, await_ends, await_after, done_in}
use Rattle.wait_model.specs.Phrases.{Turn, repeats, leaves, after_turn, turns, repeat, ends}
use Rattle.wait_model.specs.SentenceSteps.{minus_512, number, locks, unlocks, sleeps, takes_off, enters, stores}
use Rattle.wait_model.specs.SentenceCounts.{counts, Left, by_signal, by_count, by_wear, await_turn, await_end, lowers}
use Rattle.wait_model.specs.declared.calls.Call.TheVariants as calls
use Rattle.wait_model.specs.declared.calls.Event.TheVariants as event
use Rattle.wait_model.specs.declared.calls.Answer.TheVariants as answer
use Rattle.wait_model.specs.declared.watches.Watch.TheVariants as watch
use Rattle.wait_model.specs.declared.queues.Form.TheVariants as forms
use Rattle.wait_model.specs.declared.points.Point.TheVariants as at
use Rattle.wait_model.specs.declared.points.PreparePoint.TheVariants as preparing
use Rattle.wait_model.specs.declared.points.AwaitPoint.TheVariants as awaiting
use Rattle.wait_model.specs.Phrases.{Rest, Phrase, ◌>>=◌, ◌>>◌, gives, makes, finds, when◌then◌otherwise◌, first_is}
use Rattle.wait_model.proofs.SentenceLaws.SentenceRests.{Knows, Says, AfterLoad, anything, Some_turns, first_more}
use Rattle.wait_model.proofs.SentenceLaws.SentenceWaits.{enter_more, off_more, look_more}

-- a word shows the count itself
pub shown_count : (value : ℕ) → value ≤ ALL_DONE → done_in value ≡ value
shown_count value h = omega arith

module _ (me d : ℕ) (st : SleepState) where
  abbrev pub c : Watch
  c = watch.Done d

  abbrev pub call : Call
  call = calls.WaitFor d st

  abbrev pub body : Bool → Phrase (Turn Bool Left)
  body = await_turn c st

  -- after the loop: the last events, those after the own `state run`, and all
  abbrev pub last : Left → Rest
  last (by_signal queued) = unlocks c (λ _. ends minus_512)
  last (by_count count) = lowers c count (λ _. ends (number 0))
  last by_wear = ends answer.Worn

  abbrev pub off : Left → Rest
  off (by_signal queued) = takes_off me queued (λ _. last (by_signal queued))
  off (by_count count) = takes_off me true (λ _. last (by_count count))
  off by_wear = ends answer.Worn

  abbrev pub exit : Left → Rest
  exit left = await_end me c left ends

  -- after a turn, when at most n are left
  abbrev pub over : ℕ → Turn Bool Left → Rest
  over n t = after_turn (turns n body) t exit

  abbrev pub loaded : ℕ → ℕ → Rest
  loaded n count = over n (if count == 0 then repeats true else leaves (by_count count))

  abbrev pub slept : ℕ → Rest
  slept n = locks c (λ _. counts c (loaded n))

  -- after its add
  abbrev pub after_add : Bool → Phrase (Turn Bool Left)
  after_add s = when not s then gives (leaves by_wear)
      otherwise
      (do sleeps; locks c; count ← counts c; gives (if count == 0 then repeats true else leaves (by_count count)))

  abbrev pub looked : Bool → ℕ → Bool → Rest
  looked kept n signal = (when signal then gives (leaves (by_signal kept))
      otherwise (do s ← enters c st forms.Tail kept; after_add s)) (over n)

  abbrev pub prepare_rest : Noted → PreparePoint → ℕ → Rest
  prepare_rest m preparing.Lock n = anything
  prepare_rest m preparing.Look n = finds event.Look (looked m.queued n)
  prepare_rest m preparing.Queue n = looked m.queued n false
  prepare_rest m preparing.State n = makes (event.State (state_mask st)) (λ _. unlocks c (λ _. sleeps (λ _. slept n)))
  prepare_rest m preparing.Unlock n = unlocks c (λ _. sleeps (λ _. slept n))

  abbrev pub begun : Bool → ℕ → Rest
  begun kept count = (when not (count == 0) then (do lowers c count; gives (number 0))
      otherwise (repeat body kept >>= await_end me c)) ends

  abbrev pub await_rest : Noted → Point → Rest
  await_rest m (at.Prepare p) = Some_turns (prepare_rest m p)
  await_rest m at.Sleep = Some_turns (λ n. sleeps (λ _. slept n))
  await_rest m (at.Await (awaiting.Lock false)) = locks c (λ _. counts c (begun m.queued))
  await_rest m (at.Await (awaiting.Lock true)) = Some_turns slept
  await_rest m (at.Await (awaiting.Load false)) = counts c (begun m.queued)
  await_rest m (at.Await (awaiting.Load true)) = Some_turns (λ n. counts c (loaded n))
  await_rest m (at.Await (awaiting.Run true)) = exit (by_signal m.queued)
  await_rest m (at.Await (awaiting.Run false)) = AfterLoad m (exit (by_count m.count))
  await_rest m (at.Await (awaiting.Off true)) = takes_off me m.queued (λ _. last (by_signal m.queued))
  await_rest m (at.Await (awaiting.Off false)) = AfterLoad m (takes_off me m.queued (λ _. last (by_count m.count)))
  await_rest m (at.Await (awaiting.Last true)) = last (by_signal m.queued)
  await_rest m (at.Await (awaiting.Last false)) = AfterLoad m (last (by_count m.count))
  await_rest m (at.Await awaiting.Unlock) = unlocks c (λ _. ends (number 0))
  await_rest m _ = anything

  looked_more : (b : Bool) (n : ℕ) (hit : Bool) (w : List Event) (a : Answer) → looked b n hit w a
      → looked true n hit w a
  looked_more b n true w a h = first_more (event.State 0) (off (by_signal b)) (off (by_signal true))
      (off_more me b (last (by_signal true))) w a h
  looked_more b n false w a h = enter_more c st forms.Tail b (λ s. after_add s (over n)) (λ s. after_add s (over n))
      (λ s v d x. x) w a h

  module _ (m : Noted) where
    abbrev S : Planned → Rest → Type 0
    S = Says await_rest m

    -- the first event of a turn after the load
    begin_said : (b : Bool) (w : List Event) (a : Answer)
        → await_rest m (at.Prepare (if b then preparing.Look else preparing.Queue)) w a
        → (n : ℕ) × (when b then finds event.Look otherwise gives false) (looked m.queued n) w a
    begin_said true w a h = h
    begin_said false w a h = h

    look_said : (hit : Bool) (w : List Event) (a : Answer)
        → await_rest m (if hit then at.Await (awaiting.Run true) else at.Prepare preparing.Queue) w a → (n : ℕ)
        × looked m.queued n hit w a
    look_said true w a h = (zero, h)
    look_said false w a h = h

    queue_said : (o : Option Entry) (kept worn : Bool) → (kept ≡ false → o ≡ None) → S (if is_some o
        then go (event.State (state_mask st)) (at.Prepare preparing.Unlock)
        else if worn then ends_with (event.Unlock (head_of c) false) answer.Worn
        else go (event.Queue (head_of c) forms.Tail) (at.Prepare preparing.State))
        (Some_turns (λ n. looked kept n false))
    queue_said None true false q w a h = (h.0, (false, (false, (refl, h.1))))
    queue_said None false false q w a h = (h.0, (false, (refl, h.1)))
    queue_said None true true q w a h = (zero, (false, (true, (refl, h))))
    queue_said None false true q w a h = (zero, (true, (refl, h)))
    queue_said (Some e) true worn q w a h = (h.0, (true, (refl, h.1)))
    queue_said (Some e) false worn q w a h = absurd (let z : Some e ≡ None = q refl in cc)

    first_said : (value : ℕ) (zero : Bool) → value ≤ ALL_DONE
        → S (go (event.Load (number_of c) value) (await_after call false zero))
        (first_is (event.Load (number_of c) value) (λ w a. (value ≤ ALL_DONE)
        × ((when not zero then (do lowers c value; gives (number 0))
        otherwise (repeat body m.queued >>= await_end me c)) ends w a)))
    first_said value true r w a h = let (n, x) = begin_said (looks_in st) w a h in (refl, (r, (suc n, x)))
    first_said value false r w a h = (refl, (r, h refl))

    later_said : (value : ℕ) (zero : Bool) → value ≤ ALL_DONE
        → S (go (event.Load (number_of c) value) (await_after call true zero))
        (λ w a. (n : ℕ) × first_is (event.Load (number_of c) value)
        (λ w a. (value ≤ ALL_DONE) × (over n (if zero then repeats true else leaves (by_count value)) w a)) w a)
    later_said value true r w a h =
        let (n, x) = begin_said (looks_in st) w a h in
        (suc n, (refl, (r, look_more (looks_in st) (looked m.queued n) (looked true n) (looked_more m.queued n) w a x)))
    later_said value false r w a h = (zero, (refl, (r, h refl)))

    lower_said : (count : ℕ) (full : Bool) → S (if full then ends_with (event.Unlock (head_of c) false) zero_answer
        else go (event.Set (number_of c) (if full then count else count - 1)) (at.Await awaiting.Unlock))
        ((when full then unlocks c otherwise (do stores c (count - 1); unlocks c)) (λ _. ends (number 0)))
    lower_said count true w a h = (refl, h)
    lower_said count false w a h = (refl, h)

    signal_said : (seen : Seen) → S (await_ends call true seen) (last (by_signal m.queued))
    signal_said seen w a h = (refl, h)

    count_said : (seen : Seen) → seen.value ≤ ALL_DONE → seen.value ≡ m.count
        → S (await_ends call false seen) (last (by_count m.count))
    count_said seen r q = subst (λ (n : ℕ). S (if n == ALL_DONE
        then ends_with (event.Unlock (head_of c) false) zero_answer
        else go (event.Set (number_of c) (taken_done n)) (at.Await awaiting.Unlock)) (last (by_count m.count)))
        (sym (shown_count seen.value r ∙ q)) (lower_said m.count (m.count == ALL_DONE))

    off_said : (stopped : Bool) (seen : Seen) (R : Rest) → S (await_ends call stopped seen) R
        → ((w : List Event) (a : Answer) → await_rest m (at.Await (awaiting.Last stopped)) w a → R w a)
        → (o : Option Entry) (kept : Bool) → (kept ≡ false → o ≡ None) → S (if is_some o
        then go (event.Unqueue me) (at.Await (awaiting.Last stopped)) else await_ends call stopped seen)
        (takes_off me kept (λ _. R))
    off_said stopped seen R fin is None true q w a h = (false, fin w a h)
    off_said stopped seen R fin is None false q w a h = fin w a h
    off_said stopped seen R fin is (Some e) true q w a h = (true, (refl, is w a h))
    off_said stopped seen R fin is (Some e) false q w a h = absurd (let z : Some e ≡ None = q refl in cc)

    pub await_said : (p : Point) (seen : Seen) → Knows call p m seen → S (program me call p seen) (await_rest m p)
    await_said (at.Prepare preparing.Lock) seen k w a h = (zero, tt)
    await_said (at.Prepare preparing.Look) seen k w a h =
        let (n, x) = look_said (pending (state_mask st) seen.own) w a h in
        (n, (pending (state_mask st) seen.own, (refl, x)))
    await_said (at.Prepare preparing.Queue) seen k w a h = queue_said seen.entry m.queued seen.worn (k.off refl) w a h
    await_said at.Sleep seen k w a h = (h.0, (sleep_of seen.own, (refl, h.1)))
    await_said (at.Await (awaiting.Lock false)) seen k w a h = (refl, h)
    await_said (at.Await (awaiting.Load false)) seen k w a h =
        (seen.value, first_said seen.value (seen.value == 0) (k.range refl) w a h)
    await_said (at.Await (awaiting.Load true)) seen k w a h =
        let (n, x) = later_said seen.value (seen.value == 0) (k.range refl) w a h in (n, (seen.value, x))
    await_said (at.Await (awaiting.Run true)) seen k w a h = (refl, h)
    await_said (at.Await (awaiting.Run false)) seen k w a h =
        λ l. (refl, off_more me m.queued (last (by_count m.count)) w a (h l))
    await_said (at.Await (awaiting.Off true)) seen k w a h = off_said true seen (last (by_signal m.queued))
        (signal_said seen) (λ v b x. x) seen.entry m.queued (k.off refl) w a h
    await_said (at.Await (awaiting.Off false)) seen k w a h = λ l. off_said false seen (last (by_count m.count))
        (count_said seen (k.range refl) (k.count refl l refl)) (λ v b x. x l) seen.entry m.queued (k.off refl) w a h
    await_said (at.Await (awaiting.Last true)) seen k w a h = signal_said seen w a h
    await_said (at.Await (awaiting.Last false)) seen k w a h =
        λ l. count_said seen (k.range refl) (k.count refl l refl) w a h
    await_said (at.Await awaiting.Unlock) seen k w a h = (refl, h)
    await_said p seen k w a h = grind arith
