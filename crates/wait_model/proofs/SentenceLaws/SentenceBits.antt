-- What is left of the sentence of a wait for a bit at each point of its program.
use Rattle.std.proofs.Common.{refl, sym, subst}
use Rattle.std.specs.Prelude.{ℕ, zero, suc, ◌≡◌, Bool, true, false, not, List, Option, Some, None, is_some}
use Rattle.std.specs.Prelude.{if◌then◌else◌, ◌&&◌}
use Rattle.wait_model.specs.{declared.calls.Call.Call, declared.calls.Event.Event, declared.calls.Answer.Answer}
use Rattle.wait_model.specs.{declared.tasks.SleepState.SleepState, declared.watches.Watch.Watch}
use Rattle.wait_model.specs.{declared.watches.Entry.Entry, declared.points.Planned.Planned, declared.points.Seen.Seen}
use Rattle.wait_model.specs.{declared.points.Point.Point, declared.points.PreparePoint.PreparePoint, Words.bit_at}
use Rattle.wait_model.specs.{Words.flag, Findings.Noted}
use Rattle.wait_model.specs.Tasks.{state_mask, looks_in, pending, sleep_of}
use Rattle.wait_model.specs.Watches.{head_of, number_of, misses}
use Rattle.wait_model.specs.Programs.{program, go, ends_with, zero_answer, interrupted, finished}
use Rattle.wait_model.specs.Phrases.{Turn, repeats, leaves, after_turn, turns, repeat, ends}
use Rattle.wait_model.specs.SentenceSteps.{nothing, number, minus_4, unlocks, is_met, acts, enters, finishes}
use Rattle.wait_model.specs.SentenceBits.{ends_worn, tries, bit_turn, lock_turn}
use Rattle.wait_model.specs.declared.calls.Call.TheVariants as calls
use Rattle.wait_model.specs.declared.calls.Event.TheVariants as event
use Rattle.wait_model.specs.declared.calls.Answer.TheVariants as answer
use Rattle.wait_model.specs.declared.watches.Watch.TheVariants as watch
use Rattle.wait_model.specs.declared.queues.Form.TheVariants as forms
use Rattle.wait_model.specs.declared.points.Point.TheVariants as at
use Rattle.wait_model.specs.declared.points.PreparePoint.TheVariants as preparing
use Rattle.wait_model.specs.declared.points.FinishPoint.TheVariants as finishing
use Rattle.wait_model.specs.declared.points.BitPoint.TheVariants as biting
use Rattle.wait_model.specs.Phrases.{Rest, Phrase, ◌>>=◌, ◌>>◌, gives, makes, finds, when◌then◌otherwise◌, first_is}
use Rattle.wait_model.proofs.SentenceLaws.SentenceRests.{Knows, Says, anything, Some_turns, first_more}
use Rattle.wait_model.proofs.SentenceLaws.SentenceWaits.{enter_more, finish_more, finish_rest, finish_said}

module _ (me w b : ℕ) (st : SleepState) where
  abbrev pub c : Watch
  c = watch.Bit w b

  -- `waitbit`
  abbrev pub call : Call
  call = calls.WaitBit w b st

  abbrev pub body : Bool → Phrase (Turn Bool Answer)
  body = bit_turn me c st

  abbrev pub over : ℕ → Turn Bool Answer → Rest
  over n t = after_turn (turns n body) t ends

  -- after its add
  abbrev pub after_add : Bool → Bool → Phrase (Turn Bool Answer)
  after_add kept s = when not s then ends_worn me c kept otherwise do
    met ← is_met c
    failed ← when met then gives false otherwise acts st
    met ← is_met c
    when not met && not failed then gives (repeats true) otherwise do
      finishes me c true
      gives (leaves (if failed then minus_4 else number 0))

  abbrev pub entered : Bool → ℕ → Bool → Rest
  entered kept n s = after_add kept s (over n)

  abbrev pub answered_by : ℕ → Bool → Bool → Rest
  answered_by n failed met = (when not met && not failed then gives (repeats true)
      otherwise (do finishes me c true; gives (leaves (if failed then minus_4 else number 0)))) (over n)

  abbrev pub acted : ℕ → Bool → Rest
  acted n failed = is_met c (answered_by n failed)

  abbrev pub ready : ℕ → Rest
  ready n = is_met c (λ met. (when met then gives false otherwise acts st) (acted n))

  -- where nothing could be queued
  abbrev pub worn_by : Bool → ℕ → Bool → Rest
  worn_by kept n met = (when met then (do finishes me c kept; gives (leaves (number 0))) otherwise gives
      (leaves answer.Worn)) (over n)

  abbrev pub worn : Bool → ℕ → Rest
  worn kept n = is_met c (worn_by kept n)

  abbrev pub prepare_rest : Noted → PreparePoint → ℕ → Rest
  prepare_rest m preparing.Lock n = turns n body m.queued ends
  prepare_rest m preparing.Look n = anything
  prepare_rest m preparing.Queue n = enters c st forms.Front m.queued (entered m.queued n)
  prepare_rest m preparing.State n = makes (event.State (state_mask st)) (λ _. unlocks c (λ _. ready n))
  prepare_rest m preparing.Unlock n = unlocks c (λ _. ready n)

  abbrev pub wait_rest : Noted → Point → Rest
  wait_rest m (at.Prepare p) = Some_turns (prepare_rest m p)
  wait_rest m at.Worn = Some_turns (worn m.queued)
  wait_rest m (at.Finish p failed) = finish_rest me call m.queued p (ends (if failed then minus_4 else number 0))
  wait_rest m (at.Bit biting.First) =
      is_met c (λ met. (when met then gives (number 0) otherwise repeat body m.queued) ends)
  wait_rest m (at.Bit biting.Load) = Some_turns ready
  wait_rest m (at.Bit biting.Sleep) = Some_turns (λ n. acts st (acted n))
  wait_rest m (at.Bit biting.Look) = Some_turns (λ n. finds event.Look (acted n))
  wait_rest m (at.Bit (biting.Again failed)) = Some_turns (λ n. acted n failed)
  wait_rest m _ = anything

  worn_more : (kept : Bool) (n : ℕ) (met : Bool) (v : List Event) (a : Answer) → worn_by kept n met v a
      → worn_by true n met v a
  worn_more kept n true v a h = finish_more me call kept (ends (number 0)) v a h
  worn_more kept n false v a h = h

  added_more : (kept : Bool) (n : ℕ) (s : Bool) (v : List Event) (a : Answer) → entered kept n s v a
      → entered true n s v a
  added_more kept n true v a h = h
  added_more kept n false v a h = (
    h.0,
    first_more (event.Load (number_of c) h.0) (worn_by kept n (not (misses c h.0)))
        (worn_by true n (not (misses c h.0)))
        (worn_more kept n (not (misses c h.0))) v a h.1,
  )

  turns_more : (kept : Bool) (n : ℕ) (v : List Event) (a : Answer) → turns n body kept ends v a
      → turns n body true ends v a
  turns_more kept zero v a h = h
  turns_more kept (suc n) v a h = first_more (event.Lock (head_of c)) (enters c st forms.Front kept (entered kept n))
      (enters c st forms.Front true (entered true n))
      (enter_more c st forms.Front kept (entered kept n) (entered true n) (added_more kept n)) v a h

  module _ (m : Noted) where
    abbrev S : Planned → Rest → Type 0
    S = Says wait_rest m

    first_said : (value : ℕ) (miss : Bool)
        → S (if miss then go (event.Load (number_of c) value) (at.Prepare preparing.Lock)
        else ends_with (event.Load (number_of c) value) zero_answer)
        (first_is (event.Load (number_of c) value)
        ((when not miss then gives (number 0) otherwise repeat body m.queued) ends))
    first_said value true v a h = (refl, h)
    first_said value false v a h = (refl, h)

    queue_said : (o : Option Entry) (kept full : Bool) → (kept ≡ false → o ≡ None) → kept ≡ m.queued → S (if is_some o
        then go (event.State (state_mask st)) (at.Prepare preparing.Unlock)
        else if full then go (event.Unlock (head_of c) false) at.Worn
        else go (event.Queue (head_of c) forms.Front) (at.Prepare preparing.State))
        (Some_turns (λ n. enters c st forms.Front kept (entered kept n)))
    queue_said None true false q i v a h = (h.0, (false, (false, (refl, h.1))))
    queue_said None false false q i v a h = (h.0, (false, (refl, h.1)))
    queue_said None true true q i v a h =
        (h.0, (false, (true, (refl, subst (λ (k : Bool). worn k h.0 v a) (sym i) h.1))))
    queue_said None false true q i v a h = (h.0, (true, (refl, subst (λ (k : Bool). worn k h.0 v a) (sym i) h.1)))
    queue_said (Some e) true full q i v a h = (h.0, (true, (refl, h.1)))
    queue_said (Some e) false full q i v a h = absurd (let z : Some e ≡ None = q refl in cc)

    worn_said : (value : ℕ) (miss : Bool) → S (if miss then ends_with (event.Load (number_of c) value) answer.Worn
        else go (event.Load (number_of c) value) (at.Finish finishing.State false))
        (λ v a. (n : ℕ) × first_is (event.Load (number_of c) value) (worn_by m.queued n (not miss)) v a)
    worn_said value true v a h = (zero, (refl, h))
    worn_said value false v a h = (zero, (refl, h))

    load_said : (value : ℕ) (miss : Bool)
        → S (go (event.Load (number_of c) value) (at.Bit (if miss then biting.Sleep else biting.Again false)))
        (λ v a. (n : ℕ) × first_is (event.Load (number_of c) value)
        ((when not miss then gives false otherwise acts st) (acted n)) v a)
    load_said value true v a h = (h.0, (refl, h.1))
    load_said value false v a h = (h.0, (refl, h.1))

    slept_said : (b : Bool) (v : List Event) (a : Answer)
        → wait_rest m (at.Bit (if b then biting.Look else biting.Again false)) v a
        → (n : ℕ) × (when b then finds event.Look otherwise gives false) (acted n) v a
    slept_said true v a h = h
    slept_said false v a h = h

    look_said : (hit : Bool) → S (go (event.Look hit) (if hit && false then at.Finish finishing.State true
        else at.Bit (biting.Again hit)))
        (wait_rest m (at.Bit biting.Look))
    look_said true v a h = (h.0, (true, (refl, h.1)))
    look_said false v a h = (h.0, (false, (refl, h.1)))

    again_said : (value : ℕ) (miss failed : Bool) → S (go (event.Load (number_of c) value)
        (if miss && not failed then at.Prepare preparing.Lock else at.Finish finishing.State failed))
        (λ v a. (n : ℕ) × first_is (event.Load (number_of c) value) (answered_by n failed (not miss)) v a)
    again_said value true false v a h = (h.0, (refl, turns_more m.queued h.0 v a h.1))
    again_said value true true v a h = (zero, (refl, finish_more me call m.queued (ends minus_4) v a h))
    again_said value false false v a h = (zero, (refl, finish_more me call m.queued (ends (number 0)) v a h))
    again_said value false true v a h = (zero, (refl, finish_more me call m.queued (ends minus_4) v a h))

    over_said : (failed : Bool) (e : Event)
        → S (finished call failed e) (first_is e (ends (if failed then minus_4 else number 0)))
    over_said true e v a h = (refl, h)
    over_said false e v a h = (refl, h)

    pub wait_said : (p : Point) (seen : Seen) → Knows call p m seen → S (program me call p seen) (wait_rest m p)
    wait_said (at.Prepare preparing.Lock) seen k v a h = (suc h.0, (refl, h.1))
    wait_said (at.Prepare preparing.Look) seen k v a h = (zero, tt)
    wait_said (at.Prepare preparing.Queue) seen k v a h = queue_said seen.entry m.queued seen.worn
        (k.off refl) refl v a h
    wait_said (at.Prepare preparing.State) seen k v a h = (h.0, (refl, h.1))
    wait_said (at.Prepare preparing.Unlock) seen k v a h = (h.0, (refl, h.1))
    wait_said at.Worn seen k v a h =
        let (n, x) = worn_said seen.value (misses c seen.value) v a h in (n, (seen.value, x))
    wait_said (at.Finish p failed) seen k v a h = finish_said me call wait_rest m failed
        (ends (if failed then minus_4 else number 0))
        m.queued (over_said failed) (λ n i q u d x. subst (λ (k : Bool). finish_rest me call k q
        (ends (if failed then minus_4 else number 0)) u d) i x) p seen (k.off refl) v a h
    wait_said (at.Bit biting.First) seen k v a h = (seen.value, first_said seen.value (misses c seen.value) v a h)
    wait_said (at.Bit biting.Load) seen k v a h =
        let (n, x) = load_said seen.value (misses c seen.value) v a h in (n, (seen.value, x))
    wait_said (at.Bit biting.Sleep) seen k v a h =
        let (n, x) = slept_said (looks_in st) v a h in (n, (sleep_of seen.own, (refl, x)))
    wait_said (at.Bit biting.Look) seen k v a h = look_said (pending (state_mask st) seen.own) v a h
    wait_said (at.Bit (biting.Again failed)) seen k v a h =
        let (n, x) = again_said seen.value (misses c seen.value) failed v a h in (n, (seen.value, x))
    wait_said p seen k v a h = tt

module _ (me w b : ℕ) (st : SleepState) where
  abbrev pub d : Watch
  d = watch.Bit w b

  -- `lockbit`
  abbrev pub locker : Call
  locker = calls.LockBit w b st

  abbrev pub round : Bool → Phrase (Turn Bool Answer)
  round = lock_turn me w b st

  abbrev pub past : ℕ → Turn Bool Answer → Rest
  past n t = after_turn (turns n round) t ends

  abbrev pub asked : ℕ → Bool → Rest
  asked n failed = tries w b (λ clear. (when failed then gives (leaves (if clear then number 0 else minus_4))
      otherwise when clear then (do finishes me d true; gives (leaves (number 0)))
      otherwise gives (repeats true)) (past n))

  -- the last try
  abbrev pub last : Rest
  last = asked 0 true

  abbrev pub answered : ℕ → Bool → Rest
  answered n failed = (when failed then finishes me d true otherwise nothing) (λ _. asked n failed)

  -- after its add
  abbrev pub worn_answer : Bool → Answer
  worn_answer clear = if clear then number 0 else answer.Worn

  abbrev pub after_adding : Bool → Phrase (Turn Bool Answer)
  after_adding s = when not s then (do clear ← tries w b; gives (leaves (if clear then number 0 else answer.Worn)))
      otherwise do
        met ← is_met d
        failed ← when met then gives false otherwise acts st
        when failed then finishes me d true otherwise nothing
        clear ← tries w b
        when failed then gives (leaves (if clear then number 0 else minus_4))
            otherwise when clear then (do finishes me d true; gives (leaves (number 0)))
            otherwise gives (repeats true)

  abbrev pub added : ℕ → Bool → Rest
  added n s = after_adding s (past n)

  abbrev pub worn_out : Rest
  worn_out = tries w b (λ clear. ends (worn_answer clear))

  abbrev pub put_in : ℕ → Rest
  put_in n = is_met d (λ met. (when met then gives false otherwise acts st) (answered n))

  abbrev pub ready_rest : Noted → PreparePoint → ℕ → Rest
  ready_rest m preparing.Lock n = turns n round m.queued ends
  ready_rest m preparing.Look n = anything
  ready_rest m preparing.Queue n = enters d st forms.Tail m.queued (added n)
  ready_rest m preparing.State n = makes (event.State (state_mask st)) (λ _. unlocks d (λ _. put_in n))
  ready_rest m preparing.Unlock n = unlocks d (λ _. put_in n)

  abbrev pub lock_rest : Noted → Point → Rest
  lock_rest m (at.Prepare p) = Some_turns (ready_rest m p)
  lock_rest m at.Worn = worn_out
  lock_rest m (at.Finish p true) = finish_rest me locker true p last
  lock_rest m (at.Finish p false) = finish_rest me locker true p (ends (number 0))
  lock_rest m (at.Bit biting.First) =
      tries w b (λ clear. (when clear then gives (number 0) otherwise repeat round m.queued) ends)
  lock_rest m (at.Bit biting.Load) = Some_turns put_in
  lock_rest m (at.Bit biting.Sleep) = Some_turns (λ n. acts st (answered n))
  lock_rest m (at.Bit biting.Look) = Some_turns (λ n. finds event.Look (answered n))
  lock_rest m (at.Bit (biting.Again false)) = Some_turns (λ n. asked n false)
  lock_rest m (at.Bit biting.Last) = last
  lock_rest m _ = anything

  rounds_more : (kept : Bool) (n : ℕ) (v : List Event) (a : Answer) → turns n round kept ends v a
      → turns n round true ends v a
  rounds_more kept zero v a h = h
  rounds_more kept (suc n) v a h = first_more (event.Lock (head_of d)) (enters d st forms.Tail kept (added n))
      (enters d st forms.Tail true (added n)) (enter_more d st forms.Tail kept (added n) (added n) (λ s u x g. g)) v a h

  module _ (m : Noted) where
    abbrev L : Planned → Rest → Type 0
    L = Says lock_rest m

    abbrev pub tas : Bool → Event
    tas was_set = event.Tas w b (flag was_set)

    begin_said : (was_set : Bool) → L (if was_set then go (tas was_set) (at.Prepare preparing.Lock)
        else ends_with (tas was_set) zero_answer)
        (first_is (tas was_set) ((when not was_set then gives (number 0) otherwise repeat round m.queued) ends))
    begin_said true v a h = (refl, h)
    begin_said false v a h = (refl, h)

    enter_said : (o : Option Entry) (kept full : Bool) → (kept ≡ false → o ≡ None) → L (if is_some o
        then go (event.State (state_mask st)) (at.Prepare preparing.Unlock)
        else if full then go (event.Unlock (head_of d) false) at.Worn
        else go (event.Queue (head_of d) forms.Tail) (at.Prepare preparing.State))
        (Some_turns (λ n. enters d st forms.Tail kept (added n)))
    enter_said None true false q v a h = (h.0, (false, (false, (refl, h.1))))
    enter_said None false false q v a h = (h.0, (false, (refl, h.1)))
    enter_said None true true q v a h = (zero, (false, (true, (refl, h))))
    enter_said None false true q v a h = (zero, (true, (refl, h)))
    enter_said (Some e) true full q v a h = (h.0, (true, (refl, h.1)))
    enter_said (Some e) false full q v a h = absurd (let z : Some e ≡ None = q refl in cc)

    worn_lock_said : (was_set : Bool) → L (if was_set then ends_with (tas was_set) answer.Worn
        else ends_with (tas was_set) zero_answer) worn_out
    worn_lock_said true v a h = (true, (refl, h))
    worn_lock_said false v a h = (false, (refl, h))

    seen_said : (value : ℕ) (miss : Bool)
        → L (go (event.Load (number_of d) value) (at.Bit (if miss then biting.Sleep else biting.Again false)))
        (λ v a. (n : ℕ) × first_is (event.Load (number_of d) value) ((when not miss then gives false otherwise acts st)
        (answered n)) v a)
    seen_said value true v a h = (h.0, (refl, h.1))
    seen_said value false v a h = (h.0, (refl, h.1))

    rested_said : (b : Bool) (v : List Event) (a : Answer)
        → lock_rest m (at.Bit (if b then biting.Look else biting.Again false)) v a
        → (n : ℕ) × (when b then finds event.Look otherwise gives false) (answered n) v a
    rested_said true v a h = h
    rested_said false v a h = h

    heard_said : (hit : Bool) → L (go (event.Look hit) (if hit && true then at.Finish finishing.State true
        else at.Bit (biting.Again hit)))
        (lock_rest m (at.Bit biting.Look))
    heard_said true v a h = (zero, (true, (refl, h)))
    heard_said false v a h = (h.0, (false, (refl, h.1)))

    asked_said : (was_set : Bool) → L (go (tas was_set) (if was_set && true then at.Prepare preparing.Lock
        else at.Finish finishing.State false))
        (lock_rest m (at.Bit (biting.Again false)))
    asked_said true v a h = (h.0, (true, (refl, rounds_more m.queued h.0 v a h.1)))
    asked_said false v a h = (zero, (false, (refl, h)))

    last_said : (was_set : Bool) → L (ends_with (tas was_set) (if was_set then interrupted else zero_answer)) last
    last_said true v a h = (true, (refl, h))
    last_said false v a h = (false, (refl, h))

    pub lock_said : (p : Point) (seen : Seen) → Knows locker p m seen → L (program me locker p seen) (lock_rest m p)
    lock_said (at.Prepare preparing.Lock) seen k v a h = (suc h.0, (refl, h.1))
    lock_said (at.Prepare preparing.Look) seen k v a h = (zero, tt)
    lock_said (at.Prepare preparing.Queue) seen k v a h = enter_said seen.entry m.queued seen.worn (k.off refl) v a h
    lock_said (at.Prepare preparing.State) seen k v a h = (h.0, (refl, h.1))
    lock_said (at.Prepare preparing.Unlock) seen k v a h = (h.0, (refl, h.1))
    lock_said at.Worn seen k v a h = worn_lock_said (bit_at seen.value b) v a h
    lock_said (at.Finish p true) seen k v a h = finish_said me locker lock_rest m true last
        true (λ e u x g. (refl, g)) (λ n i q u x g. g) p seen (λ z. absurd (cc)) v a h
    lock_said (at.Finish p false) seen k v a h = finish_said me locker lock_rest m false (ends (number 0))
        true (λ e u x g. (refl, g)) (λ n i q u x g. g) p seen (λ z. absurd (cc)) v a h
    lock_said (at.Bit biting.First) seen k v a h = (bit_at seen.value b, begin_said (bit_at seen.value b) v a h)
    lock_said (at.Bit biting.Load) seen k v a h =
        let (n, x) = seen_said seen.value (misses d seen.value) v a h in (n, (seen.value, x))
    lock_said (at.Bit biting.Sleep) seen k v a h =
        let (n, x) = rested_said (looks_in st) v a h in (n, (sleep_of seen.own, (refl, x)))
    lock_said (at.Bit biting.Look) seen k v a h = heard_said (pending (state_mask st) seen.own) v a h
    lock_said (at.Bit (biting.Again false)) seen k v a h = asked_said (bit_at seen.value b) v a h
    lock_said (at.Bit biting.Last) seen k v a h = last_said (bit_at seen.value b) v a h
    lock_said p seen k v a h = tt
