-- What is left of the sentence of a selection and of a call that counts at each point of its program.
use Rattle.std.proofs.Common.{refl, ◌∙◌, ap, subst}
use Rattle.std.specs.Prelude.{ℕ, zero, suc, ◌≡◌, ◌==◌, ◌≤◌, ◌+◌, ◌-◌, Bool, true, false, not, List, Option, Some, None}
use Rattle.std.specs.Prelude.{if◌then◌else◌, ◌&&◌}
use Rattle.wait_model.specs.{declared.layout.TheConstants.ALL_DONE, declared.calls.Call.Call}
use Rattle.wait_model.specs.{declared.calls.Event.Event, declared.calls.Answer.Answer}
use Rattle.wait_model.specs.{declared.queues.CalledEntry.CalledEntry, declared.watches.Watch.Watch}
use Rattle.wait_model.specs.{declared.points.Planned.Planned, declared.points.Seen.Seen, declared.points.Point.Point}
use Rattle.wait_model.specs.{declared.points.SelectPoint.SelectPoint, declared.points.CountPoint.CountPoint}
use Rattle.wait_model.specs.{Counts.taken_done, Counts.raised_done, Tasks.meets, Points.call_watch, Points.count_of}
use Rattle.wait_model.specs.{Sentences.sentence, SentenceCounts.counts, SentenceCounts.lowers, SentenceWalks.selects}
use Rattle.wait_model.specs.Findings.{Noted}
use Rattle.wait_model.specs.Watches.{head_of, number_of, mask_of}
use Rattle.wait_model.specs.Programs.{go, ends_with, zero_answer, is_enough, selected_answer, select_ends, select_next}
use Rattle.wait_model.specs.Programs.{select_event, count_event}
use Rattle.wait_model.specs.Phrases.{repeats, leaves, turns, ends}
use Rattle.wait_model.specs.SentenceSteps.{nothing, number, yes_or_no, locks, unlocks, stores}
use Rattle.wait_model.specs.declared.calls.Call.TheVariants as calls
use Rattle.wait_model.specs.declared.calls.Event.TheVariants as event
use Rattle.wait_model.specs.declared.watches.Watch.TheVariants as watch
use Rattle.wait_model.specs.declared.points.Point.TheVariants as at
use Rattle.wait_model.specs.declared.points.SelectPoint.TheVariants as selecting
use Rattle.wait_model.specs.declared.points.CountPoint.TheVariants as counting
use Rattle.wait_model.specs.declared.watches.Mode.TheVariants as mode
use Rattle.wait_model.specs.Phrases.{Rest, Phrase, ◌>>=◌, ◌>>◌, gives, makes, when◌then◌otherwise◌, first_is, Turn}
use Rattle.wait_model.specs.declared.points.Next.TheVariants as next
use Rattle.wait_model.proofs.SentenceLaws.SentenceRests.{Knows, Says, AfterLoad, left_at, anything, Some_turns}
use Rattle.wait_model.proofs.SentenceLaws.SentenceAwaits.{shown_count}

-- one selection: after its events the hold ends
abbrev pub one_rest : Watch → (Bool → Answer) → SelectPoint → Rest
one_rest c A (selecting.Next zero) = selects (λ some. makes (event.Unlock (head_of c) some) (λ _. ends (A some)))
one_rest c A (selecting.Next (suc zero)) = makes (event.Unlock (head_of c) true) (λ _. ends (A true))
one_rest c A (selecting.Off (suc zero) who) = makes (event.Unqueue who)
    (λ _. makes (event.Unlock (head_of c) true) (λ _. ends (A true)))
one_rest c A _ = anything

module _ (call : Call) (R : Noted → Point → Rest) (m : Noted) (A : Bool → Answer) (one : count_of call ≡ 1)
    (none_is : selected_answer call 0 ≡ A false) (one_is : selected_answer call 1 ≡ A true)
    (is : (x : Noted) (n who : ℕ) (w : List Event) (a : Answer) → R x (at.Select (selecting.Off n who)) w a
    → one_rest (call_watch call) A (selecting.Off n who) w a)
    (next_is : (x : Noted) (n : ℕ) (w : List Event) (a : Answer) → R x (at.Select (selecting.Next n)) w a
    → one_rest (call_watch call) A (selecting.Next n) w a) where
  none_said : (o : Option CalledEntry) (hit : Bool)
      → Says R m (select_next call 0 o hit) (one_rest (call_watch call) A (selecting.Next 0))
  none_said None hit w a h = (false, (refl, rw (← none_is) h))
  none_said (Some e) hit w a h = (true, (e.who, (hit, (refl, is _ 1 e.who w a h))))

  enough_said : (b : Bool) (x : Planned) → b ≡ true → Says R m (if b then select_ends call 1 true else x)
      (one_rest (call_watch call) A (selecting.Next 1))
  enough_said true x q w a h = (refl, rw (← one_is) h)
  enough_said false x q w a h = absurd (cc)

  pub one_next_said : (n : ℕ) (seen : Seen) → Says R m (select_event call (selecting.Next n) seen)
      (one_rest (call_watch call) A (selecting.Next n))
  one_next_said zero seen w a h = none_said seen.called (meets (mask_of mode.Normal) seen.other.state) w a h
  one_next_said (suc zero) seen w a h = enough_said (is_enough call 1)
      (select_next call 1 seen.called (meets (mask_of mode.Normal) seen.other.state)) (rw one refl) w a h
  one_next_said (suc (suc n)) seen w a h = tt

  pub one_off_said : (n who : ℕ) (seen : Seen) → Says R m (select_event call (selecting.Off n who) seen)
      (one_rest (call_watch call) A (selecting.Off n who))
  one_off_said zero who seen w a h = tt
  one_off_said (suc zero) who seen w a h = (refl, next_is _ 1 w a h)
  one_off_said (suc (suc n)) who seen w a h = tt

-- selections until the queue is empty
abbrev pub more : ℕ → Phrase (Turn ℕ ℕ)
more n = do some ← selects; gives (if some then repeats (n + 1) else leaves n)

abbrev pub all_rest : Watch → (ℕ → Answer) → SelectPoint → Rest
all_rest c A (selecting.Next n) = Some_turns (λ k. turns k more n (λ n. unlocks c (λ _. ends (A n))))
all_rest c A (selecting.Off n who) = Some_turns (λ k. makes (event.Unqueue who)
    (λ _. turns k more n (λ n. unlocks c (λ _. ends (A n)))))
all_rest c A _ = anything

pub never : (b : Bool) → (not b && b) ≡ false
never true = refl
never false = refl

module _ (call : Call) (R : Noted → Point → Rest) (m : Noted) (A : ℕ → Answer) (all : count_of call ≡ 0)
    (answer_is : (n : ℕ) → selected_answer call n ≡ A n)
    (is : (x : Noted) (n who : ℕ) (w : List Event) (a : Answer) → R x (at.Select (selecting.Off n who)) w a
    → all_rest (call_watch call) A (selecting.Off n who) w a)
    (next_is : (x : Noted) (n : ℕ) (w : List Event) (a : Answer) → R x (at.Select (selecting.Next n)) w a
    → all_rest (call_watch call) A (selecting.Next n) w a) where
  each_said : (n : ℕ) (b : Bool) → b ≡ false → (o : Option CalledEntry) (hit : Bool)
      → Says R m (if b then select_ends call n true else select_next call n o hit)
      (all_rest (call_watch call) A (selecting.Next n))
  each_said n true q o hit w a h = absurd (cc q)
  each_said n false q None hit w a h = (1, (false, (refl, rw (← answer_is n) h)))
  each_said n false q (Some e) hit w a h =
      let (k, x) = is _ (n + 1) e.who w a h in (suc k, (true, (e.who, (hit, (refl, x)))))

  pub all_next_said : (n : ℕ) (seen : Seen) → Says R m (select_event call (selecting.Next n) seen)
      (all_rest (call_watch call) A (selecting.Next n))
  all_next_said n seen w a h = each_said n (is_enough call n) (rw all (never (n == 0))) seen.called
      (meets (mask_of mode.Normal) seen.other.state) w a h

  pub all_off_said : (n who : ℕ) (seen : Seen) → Says R m (select_event call (selecting.Off n who) seen)
      (all_rest (call_watch call) A (selecting.Off n who))
  all_off_said n who seen w a h = let (k, x) = next_is _ n w a h in (k, (refl, x))

-- `swake`
abbrev pub wake_rest : ℕ → Bool → SelectPoint → Rest
wake_rest c false selecting.Lock = sentence 0 (calls.SimpleWake c false) ends
wake_rest c true selecting.Lock = sentence 0 (calls.SimpleWake c true) ends
wake_rest c false p = one_rest (watch.Plain c) yes_or_no p
wake_rest c true p = all_rest (watch.Plain c) number p

-- `complete`
abbrev pub raised_rest : ℕ → Noted → SelectPoint → Rest
raised_rest d m selecting.Lock = sentence 0 (calls.Complete d) ends
raised_rest d m selecting.Load = counts (watch.Done d) (λ count. (when count == ALL_DONE then nothing
    otherwise stores (watch.Done d) (count + 1)) (λ _. one_rest (watch.Done d) (λ _. number 0) (selecting.Next 0)))
raised_rest d m selecting.Store = AfterLoad m (stores (watch.Done d) (raised_done m.count)
    (λ _. one_rest (watch.Done d) (λ _. number 0) (selecting.Next 0)))
raised_rest d m p = one_rest (watch.Done d) (λ _. number 0) p

-- `completeall`
abbrev pub ended_rest : ℕ → SelectPoint → Rest
ended_rest d selecting.Lock = sentence 0 (calls.CompleteAll d) ends
ended_rest d selecting.Store =
    stores (watch.Done d) ALL_DONE (λ _. all_rest (watch.Done d) (λ _. number 0) (selecting.Next 0))
ended_rest d p = all_rest (watch.Done d) (λ _. number 0) p

abbrev pub select_rest : Call → Noted → Point → Rest
select_rest (calls.SimpleWake c all) m (at.Select p) = wake_rest c all p
select_rest (calls.Complete d) m (at.Select p) = raised_rest d m p
select_rest (calls.CompleteAll d) m (at.Select p) = ended_rest d p
select_rest _ m _ = anything

module _ (m : Noted) where
  wake_said : (c : ℕ) (b : Bool) (p : SelectPoint) (seen : Seen)
      → Says (select_rest (calls.SimpleWake c b)) m (select_event (calls.SimpleWake c b) p seen) (wake_rest c b p)
  wake_said c false selecting.Lock seen w a h = (refl, h)
  wake_said c true selecting.Lock seen w a h = (refl, h)
  wake_said c false selecting.Load seen w a h = tt
  wake_said c true selecting.Load seen w a h = tt
  wake_said c false selecting.Store seen w a h = tt
  wake_said c true selecting.Store seen w a h = tt
  wake_said c false (selecting.Next n) seen w a h = one_next_said (calls.SimpleWake c false)
      (select_rest (calls.SimpleWake c false)) m yes_or_no refl refl refl (λ y n who v b x. x)
      (λ y n v b x. x) n seen w a h
  wake_said c true (selecting.Next n) seen w a h = all_next_said (calls.SimpleWake c true)
      (select_rest (calls.SimpleWake c true)) m number refl (λ n. refl) (λ y n who v b x. x)
      (λ y n v b x. x) n seen w a h
  wake_said c false (selecting.Off n who) seen w a h = one_off_said (calls.SimpleWake c false)
      (select_rest (calls.SimpleWake c false)) m yes_or_no refl refl refl (λ y n who v b x. x)
      (λ y n v b x. x) n who seen w a h
  wake_said c true (selecting.Off n who) seen w a h = all_off_said (calls.SimpleWake c true)
      (select_rest (calls.SimpleWake c true)) m number refl (λ n. refl) (λ y n who v b x. x)
      (λ y n v b x. x) n who seen w a h

  -- the loads of a count
  raise_said : (d value : ℕ) (full : Bool) → value ≤ ALL_DONE → (full ≡ false → raised_done value ≡ value + 1)
      → Says (select_rest (calls.Complete d)) m (go (event.Load (number_of (watch.Done d)) value)
      (at.Select (if full then selecting.Next 0 else selecting.Store)))
      (first_is (event.Load (number_of (watch.Done d)) value) (λ w a. (value ≤ ALL_DONE) × ((when full then nothing
      otherwise stores (watch.Done d) (value + 1)) (λ _. one_rest (watch.Done d) (λ _. number 0) (selecting.Next 0))
      w a)))
  raise_said d value true r q w a h = (refl, (r, h))
  raise_said d value false r q w a h = (
    refl,
    (
      r,
      subst (λ (x : ℕ). stores (watch.Done d) x
          (λ _. one_rest (watch.Done d) (λ _. number 0) (selecting.Next 0)) w a) (q refl) (h refl),
    ),
  )

  pub more_by : (value : ℕ) → (value == ALL_DONE) ≡ false → raised_done value ≡ value + 1
  more_by value q = rw q refl

  complete_said : (d : ℕ) (p : SelectPoint) (seen : Seen) → seen.value ≤ ALL_DONE
      → Knows (calls.Complete d) (at.Select p) m seen
      → Says (select_rest (calls.Complete d)) m (select_event (calls.Complete d) p seen) (raised_rest d m p)
  complete_said d selecting.Lock seen r k = λ w a h. (refl, h)
  complete_said d selecting.Load seen r k = λ w a h. (
    seen.value,
    raise_said d seen.value (seen.value == ALL_DONE) r
        (more_by seen.value) w a (subst (λ (n : ℕ). left_at (select_rest (calls.Complete d)
        (record m { loaded = true; count = seen.value }))
        (next.Go (at.Select (if n == ALL_DONE then selecting.Next 0 else selecting.Store))) w a)
        (shown_count seen.value r) h),
  )
  complete_said d selecting.Store seen r k =
      λ w a h l. (
        ap (λ (n : ℕ). event.Set (number_of (watch.Done d)) (raised_done n)) (shown_count seen.value r
            ∙ k.count refl l refl),
        h,
      )
  complete_said d (selecting.Next n) seen r k = one_next_said (calls.Complete d)
      (select_rest (calls.Complete d)) m (λ _. number 0) refl refl refl (λ y n who v b x. x) (λ y n v b x. x) n seen
  complete_said d (selecting.Off n who) seen r k = one_off_said (calls.Complete d)
      (select_rest (calls.Complete d)) m (λ _. number 0) refl refl refl (λ y n who v b x. x) (λ y n v b x. x) n who seen

  ended_said : (d : ℕ) (p : SelectPoint) (seen : Seen)
      → Says (select_rest (calls.CompleteAll d)) m (select_event (calls.CompleteAll d) p seen) (ended_rest d p)
  ended_said d selecting.Lock seen w a h = (refl, h)
  ended_said d selecting.Load seen w a h = tt
  ended_said d selecting.Store seen w a h = (refl, h)
  ended_said d (selecting.Next n) seen w a h = all_next_said (calls.CompleteAll d)
      (select_rest (calls.CompleteAll d)) m (λ _. number 0) refl (λ n. refl) (λ y n who v b x. x)
      (λ y n v b x. x) n seen w a h
  ended_said d (selecting.Off n who) seen w a h = all_off_said (calls.CompleteAll d)
      (select_rest (calls.CompleteAll d)) m (λ _. number 0) refl (λ n. refl) (λ y n who v b x. x)
      (λ y n v b x. x) n who seen w a h

  pub select_said : (call : Call) (p : SelectPoint) (seen : Seen) → Knows call (at.Select p) m seen
      → Says (select_rest call) m (select_event call p seen) (select_rest call m (at.Select p))
  select_said (calls.SimpleWake c b) p seen k w a h = wake_said c b p seen w a h
  select_said (calls.Complete d) p seen k w a h = complete_said d p seen (k.range refl) k w a h
  select_said (calls.CompleteAll d) p seen k w a h = ended_said d p seen w a h
  select_said _ p seen k w a h = tt

-- `trywait`, `isdone`, `reinit`
abbrev pub taken : ℕ → ℕ → Rest
taken d count = (when count == 0
    then (do unlocks (watch.Done d); gives (number 0))
    otherwise (do lowers (watch.Done d) count; gives (number 1))) ends

abbrev pub tries_taking : ℕ → Phrase Answer
tries_taking d = do
  locks (watch.Done d)
  count ← counts (watch.Done d)
  when count == 0
      then (do unlocks (watch.Done d); gives (number 0))
      otherwise (do lowers (watch.Done d) count; gives (number 1))

abbrev pub over_by : ℕ → Bool → Rest
over_by d hit = unlocks (watch.Done d) (λ _. ends (yes_or_no hit))

abbrev pub count_rest : Call → Noted → Point → Rest
count_rest (calls.TryWait d) m (at.Count counting.Peek) = sentence 0 (calls.TryWait d) ends
count_rest (calls.TryWait d) m (at.Count counting.Lock) = locks (watch.Done d) (λ _. counts (watch.Done d) (taken d))
count_rest (calls.TryWait d) m (at.Count counting.Load) = counts (watch.Done d) (taken d)
count_rest (calls.TryWait d) m (at.Count counting.Store) =
    AfterLoad m (stores (watch.Done d) (taken_done m.count) (λ _. over_by d true))
count_rest (calls.TryWait d) m (at.Count (counting.Unlock hit)) = over_by d hit
count_rest (calls.IsDone d) m (at.Count counting.Peek) = sentence 0 (calls.IsDone d) ends
count_rest (calls.IsDone d) m (at.Count counting.Lock) = locks (watch.Done d) (λ _. over_by d true)
count_rest (calls.IsDone d) m (at.Count (counting.Unlock hit)) = over_by d hit
count_rest (calls.Reinit d) m (at.Count counting.Lock) = sentence 0 (calls.Reinit d) ends
count_rest (calls.Reinit d) m (at.Count counting.Store) = stores (watch.Done d) 0 (λ _. over_by d false)
count_rest (calls.Reinit d) m (at.Count (counting.Unlock hit)) = over_by d hit
count_rest _ m _ = anything

module _ (m : Noted) where
  peek_said : (call : Call) (d value : ℕ) (zero : Bool) (F : Phrase Answer) → value ≤ ALL_DONE
      → ((w : List Event) (a : Answer) → count_rest call (record m { loaded = true; count = value })
      (at.Count counting.Lock) w a → F ends w a)
      → Says (count_rest call) m (if zero then ends_with (event.Load (number_of (watch.Done d)) value) zero_answer
      else go (event.Load (number_of (watch.Done d)) value) (at.Count counting.Lock))
      (first_is (event.Load (number_of (watch.Done d)) value)
      (λ w a. (value ≤ ALL_DONE) × ((when zero then gives (number 0) otherwise F) ends w a)))
  peek_said call d value true F r next_rest w a h = (refl, (r, h))
  peek_said call d value false F r next_rest w a h = (refl, (r, next_rest w a h))

  pub less_by : (value : ℕ) → (value == ALL_DONE) ≡ false → taken_done value ≡ value - 1
  less_by value q = rw q refl

  abbrev lower : Bool → ℕ → ℕ → Phrase (Unit {0})
  lower full d value = when full then unlocks (watch.Done d)
      otherwise (do stores (watch.Done d) (value - 1); unlocks (watch.Done d))

  take_said : (d value : ℕ) (zero full : Bool) → value ≤ ALL_DONE → (full ≡ false → taken_done value ≡ value - 1)
      → Says (count_rest (calls.TryWait d)) m (go (event.Load (number_of (watch.Done d)) value)
      (at.Count (if zero then counting.Unlock false else if full then counting.Unlock true else counting.Store)))
      (first_is (event.Load (number_of (watch.Done d)) value) (λ w a. (value ≤ ALL_DONE) × ((when zero
      then (do unlocks (watch.Done d); gives (number 0))
      otherwise (lower full d value >> gives (number 1))) ends w a)))
  take_said d value true full r q w a h = (refl, (r, h))
  take_said d value false true r q w a h = (refl, (r, h))
  take_said d value false false r q w a h =
      (refl, (r, subst (λ (x : ℕ). stores (watch.Done d) x (λ _. over_by d true) w a) (q refl) (h refl)))

  abbrev AfterCount : ℕ → ℕ → List Event → Answer → ℕ → Type 0
  AfterCount d value w a n = count_rest (calls.TryWait d) (record m { loaded = true; count = value })
      (at.Count (if value == 0
      then counting.Unlock false
      else if n == ALL_DONE then counting.Unlock true else counting.Store)) w a

  try_said : (d : ℕ) (p : CountPoint) (seen : Seen) → seen.value ≤ ALL_DONE
      → Knows (calls.TryWait d) (at.Count p) m seen
      → Says (count_rest (calls.TryWait d)) m (count_event (calls.TryWait d) p seen)
      (count_rest (calls.TryWait d) m (at.Count p))
  try_said d counting.Peek seen r k = λ w a h. (
    seen.value,
    peek_said (calls.TryWait d) d seen.value (seen.value == 0)
        (tries_taking d) r (λ v b x. x) w a h,
  )
  try_said d counting.Lock seen r k = λ w a h. (refl, h)
  try_said d counting.Load seen r k = λ w a h. (
    seen.value,
    take_said d seen.value (seen.value == 0) (seen.value == ALL_DONE) r
        (less_by seen.value) w a (subst (AfterCount d seen.value w a) (shown_count seen.value r) h),
  )
  try_said d counting.Store seen r k = λ w a h l. (
    ap (λ (n : ℕ). event.Set (number_of (watch.Done d)) (taken_done n))
        (shown_count seen.value r ∙ k.count refl l refl),
    h,
  )
  try_said d (counting.Unlock true) seen r k = λ w a h. (refl, h)
  try_said d (counting.Unlock false) seen r k = λ w a h. (refl, h)

  pub count_said : (call : Call) (p : CountPoint) (seen : Seen) → Knows call (at.Count p) m seen
      → Says (count_rest call) m (count_event call p seen) (count_rest call m (at.Count p))
  count_said (calls.TryWait d) p seen k w a h = try_said d p seen (k.range refl) k w a h
  count_said (calls.IsDone d) counting.Peek seen k w a h = (
    seen.value,
    peek_said (calls.IsDone d) d seen.value (seen.value == 0)
        (locks (watch.Done d) >> unlocks (watch.Done d) >> gives (number 1)) (k.range refl) (λ v b x. x) w a h,
  )
  count_said (calls.IsDone d) counting.Lock seen k w a h = (refl, h)
  count_said (calls.IsDone d) (counting.Unlock true) seen k w a h = (refl, h)
  count_said (calls.IsDone d) (counting.Unlock false) seen k w a h = (refl, h)
  count_said (calls.Reinit d) counting.Lock seen k w a h = (refl, h)
  count_said (calls.Reinit d) counting.Store seen k w a h = (refl, h)
  count_said (calls.Reinit d) (counting.Unlock true) seen k w a h = (refl, h)
  count_said (calls.Reinit d) (counting.Unlock false) seen k w a h = (refl, h)
  count_said _ p seen k w a h = tt
