-- The program of a `waitfor` makes whatever follows its sentence.
use Rattle.std.proofs.Common.{refl, sym, ap, ◌∙◌, subst}
use Rattle.std.specs.Prelude.{ℕ, zero, suc, ◌≡◌, ◌≤◌, ◌==◌, ◌-◌, Bool, true, false, not, List, [], ◌∷◌, Option, Some}
use Rattle.std.specs.Prelude.{None, if◌then◌else◌}
use Rattle.wait_model.specs.{declared.layout.TheConstants.ALL_DONE, declared.calls.Call.Call}
use Rattle.wait_model.specs.{declared.calls.Event.Event, declared.calls.Answer.Answer}
use Rattle.wait_model.specs.{declared.tasks.SleepState.SleepState, declared.watches.Watch.Watch}
use Rattle.wait_model.specs.{declared.watches.Entry.Entry, declared.points.Planned.Planned, declared.points.Seen.Seen}
use Rattle.wait_model.specs.{declared.points.Point.Point, Counts.taken_done, Tasks.looks_in, Watches.head_of}
use Rattle.wait_model.specs.{Watches.number_of, Sentences.Follows, Making.goes_to, Making.Makes}
use Rattle.wait_model.specs.Programs.{program, program_start, go, ends_with, zero_answer, await_ends, await_after}
use Rattle.wait_model.specs.SentenceSteps.{number, unlocks, stores, takes_off}
use Rattle.wait_model.specs.SentenceCounts.{await_end, lowers, by_signal, by_count}
use Rattle.wait_model.specs.Findings.{Noted, none_noted, notes, MayFind}
use Rattle.wait_model.specs.declared.calls.Call.TheVariants as calls
use Rattle.wait_model.specs.declared.calls.Event.TheVariants as event
use Rattle.wait_model.specs.declared.watches.Watch.TheVariants as watch
use Rattle.wait_model.specs.declared.queues.Form.TheVariants as forms
use Rattle.wait_model.specs.declared.points.Point.TheVariants as at
use Rattle.wait_model.specs.declared.points.PreparePoint.TheVariants as preparing
use Rattle.wait_model.specs.declared.points.AwaitPoint.TheVariants as awaiting
use Rattle.wait_model.specs.Phrases.{Rest, gives, finds, when◌then◌otherwise◌, turns, repeat, ends, repeats, leaves}
use Rattle.wait_model.specs.Phrases.{◌>>=◌, ◌>>◌}
use Rattle.wait_model.proofs.SentenceLaws.SentenceAwaits.{await_rest, shown_count}
use Rattle.wait_model.proofs.SentenceLaws.SentenceAwaits as awaits
use Rattle.wait_model.proofs.SentenceLaws.MadeFindings.{sees, fair, fresh, same_count, same_standing}
use Rattle.wait_model.proofs.SentenceLaws.MadeFindings.{some_entry, looking, sleeping}
use Rattle.wait_model.proofs.SentenceLaws.MadeEvents.{all_made, enters_none, made_full, made_queued}

module _ (me d : ℕ) (st : SleepState) where
  abbrev c : Watch
  c = watch.Done d

  abbrev call : Call
  call = calls.WaitFor d st

  abbrev Kept : Noted → Point → Type 0
  Kept m (at.Prepare preparing.Look) = looks_in st ≡ true
  Kept m (at.Prepare preparing.Queue) = Unit {0}
  Kept m (at.Prepare preparing.State) = m.queued ≡ true
  Kept m (at.Prepare preparing.Unlock) = m.queued ≡ true
  Kept m at.Sleep = m.queued ≡ true
  Kept m (at.Await (awaiting.Lock false)) = Unit {0}
  Kept m (at.Await (awaiting.Load false)) = m.loaded ≡ false
  Kept m (at.Await (awaiting.Lock true)) = m.queued ≡ true
  Kept m (at.Await (awaiting.Load true)) = (m.queued ≡ true) × (m.loaded ≡ false)
  Kept m (at.Await (awaiting.Run true)) = Unit {0}
  Kept m (at.Await (awaiting.Off true)) = Unit {0}
  Kept m (at.Await (awaiting.Last true)) = Unit {0}
  Kept m (at.Await (awaiting.Run false)) = (m.loaded ≡ true) × (m.count ≤ ALL_DONE) × (m.queued ≡ true)
  Kept m (at.Await (awaiting.Off false)) = (m.loaded ≡ true) × (m.count ≤ ALL_DONE)
  Kept m (at.Await (awaiting.Last false)) = (m.loaded ≡ true) × (m.count ≤ ALL_DONE)
  Kept m (at.Await awaiting.Unlock) = Unit {0}
  Kept m _ = ⊥

  abbrev Left : Noted → Point → Rest
  Left m p w a = Kept m p × await_rest me d st m p w a

  abbrev Leads : Noted → Event → Planned → Rest
  Leads m x y w a = (x ≡ y.event) × goes_to (Left (notes m y.event)) y.next w a

  abbrev Begins : Noted → Point → Event → Rest
  Begins m p x w a = (seen : Seen) × MayFind call p m seen × Leads m x (program me call p seen) w a

  begin_back : (m : Noted) (n : ℕ) (b : Bool) → looks_in st ≡ b → (w : List Event) (a : Answer)
      → (when b then finds event.Look otherwise gives false) (awaits.looked me d st m.queued n) w a
      → Left m (at.Prepare (if b then preparing.Look else preparing.Queue)) w a
  begin_back m n true q w a h = (q, (n, h))
  begin_back m n false q w a h = (tt, (n, h))

  turn_back : (m : Noted) (n : ℕ) (b : Bool) → b ≡ m.queued → (w : List Event) (a : Answer)
      → turns n (awaits.body me d st) b (awaits.exit me d st) w a
      → Left m (at.Prepare (if looks_in st then preparing.Look else preparing.Queue)) w a
  turn_back m zero b q w a h = absurd h
  turn_back m (suc n) b q w a h = begin_back m n (looks_in st) refl w a
      (subst (λ (k : Bool). (when looks_in st then finds event.Look otherwise gives false)
      (awaits.looked me d st k n) w a) q h)

  first_back : (m : Noted) (count : ℕ) (zero : Bool) (w : List Event) (a : Answer) → count ≤ ALL_DONE
      → (when not zero then (do lowers c count; gives (number 0))
      otherwise (repeat (awaits.body me d st) m.queued >>= await_end me c)) ends w a
      → Leads m (event.Load (number_of c) count) (go (event.Load (number_of c) count) (await_after call false zero))
      w a
  first_back m count true w a r h =
      (refl, turn_back (notes m (event.Load (number_of c) count)) h.0 m.queued refl w a h.1)
  first_back m count false w a r h = (refl, ((refl, r), λ _. h))

  later_back : (m : Noted) (n count : ℕ) (zero : Bool) (w : List Event) (a : Answer)
      → count ≤ ALL_DONE → m.queued ≡ true
      → awaits.over me d st n (if zero then repeats true else leaves (by_count count)) w a
      → Leads m (event.Load (number_of c) count) (go (event.Load (number_of c) count) (await_after call true zero)) w a
  later_back m n count true w a r q h =
      (refl, turn_back (notes m (event.Load (number_of c) count)) n true (sym q) w a h)
  later_back m n count false w a r q h = (refl, ((refl, r, q), λ _. h))

  look_back : (m : Noted) (n : ℕ) (hit : Bool) (w : List Event) (a : Answer) → awaits.looked me d st m.queued n hit w a
      → Left m (if hit then at.Await (awaiting.Run true) else at.Prepare preparing.Queue) w a
  look_back m n true w a h = (tt, h)
  look_back m n false w a h = (tt, (n, h))

  queue_back : (m : Noted) (n : ℕ) (b : Bool) → m.queued ≡ b → (x : Event) (w : List Event) (a : Answer)
      → awaits.looked me d st b n false (x ∷ w) a → Begins m (at.Prepare preparing.Queue) x w a
  queue_back m n true q x w a (false, (false, h)) = (sees m, (fair call m, tt), (h.0, (refl, (n, h.1))))
  queue_back m n true q x w a (false, (true, h)) =
      made_full me call Left m (at.Prepare preparing.Queue) x w a tt (h.0, h.1)
  queue_back m n true q x w a (true, h) =
      made_queued me call Left m (at.Prepare preparing.Queue) x w a q tt (h.0, (q, (n, h.1)))
  queue_back m n false q x w a (false, h) = (sees m, (fair call m, tt), (h.0, (refl, (n, h.1))))
  queue_back m n false q x w a (true, h) =
      made_full me call Left m (at.Prepare preparing.Queue) x w a tt (h.0, h.1)

  lower_back : (m : Noted) (count : ℕ) (full : Bool) (x : Event) (w : List Event) (a : Answer)
      → (when full then unlocks c otherwise (do stores c (count - 1); unlocks c)) (λ _. ends (number 0)) (x ∷ w) a
      → Leads m x (if full then ends_with (event.Unlock (head_of c) false) zero_answer
      else go (event.Set (number_of c) (if full then count else count - 1)) (at.Await awaiting.Unlock)) w a
  lower_back m count true x w a h = (h.0, h.1)
  lower_back m count false x w a h = (h.0, (tt, h.1))

  abbrev counted : Noted → ℕ → Seen
  counted m count = record (sees m) { value = count }

  count_back : (m : Noted) (o : Option Entry) (x : Event) (w : List Event) (a : Answer) → m.count ≤ ALL_DONE
      → awaits.last me d st (by_count m.count) (x ∷ w) a
      → Leads m x (await_ends call false (record (sees m) { value = m.count; entry = o })) w a
  count_back m o x w a r h = subst (λ (n : ℕ). Leads m x (if n == ALL_DONE
      then ends_with (event.Unlock (head_of c) false) zero_answer
      else go (event.Set (number_of c) (taken_done n)) (at.Await awaiting.Unlock)) w a)
      (sym (shown_count m.count r)) (lower_back m m.count (m.count == ALL_DONE) x w a h)

  off_signal_back : (m : Noted) (b : Bool) → m.queued ≡ b → (x : Event) (w : List Event) (a : Answer)
      → takes_off me b (λ _. awaits.last me d st (by_signal m.queued)) (x ∷ w) a
      → Begins m (at.Await (awaiting.Off true)) x w a
  off_signal_back m true q x w a (true, h) =
      made_queued me call Left m (at.Await (awaiting.Off true)) x w a q tt (h.0, (tt, h.1))
  off_signal_back m true q x w a (false, h) = (sees m, (fair call m, tt), (h.0, h.1))
  off_signal_back m false q x w a h = (sees m, (fair call m, tt), (h.0, h.1))

  off_count_back : (m : Noted) (b : Bool) → m.queued ≡ b → (x : Event) (w : List Event) (a : Answer)
      → (m.loaded ≡ true) × (m.count ≤ ALL_DONE)
      → takes_off me b (λ _. awaits.last me d st (by_count m.count)) (x ∷ w) a
      → Begins m (at.Await (awaiting.Off false)) x w a
  off_count_back m true q x w a k (true, h) = (
    record (sees m) { value = m.count; entry = Some some_entry },
    (same_standing call m q k.0, tt),
    (h.0, (k, λ _. h.1)),
  )
  off_count_back m true q x w a k (false, h) = (
    record (sees m) { value = m.count; entry = None },
    (same_count call m k.0, tt),
    count_back m None x w a k.1 h,
  )
  off_count_back m false q x w a k h = (
    record (sees m) { value = m.count; entry = None },
    (same_count call m k.0, tt),
    count_back m None x w a k.1 h,
  )

  back : (p : Point) (m : Noted) (x : Event) (w : List Event) (a : Answer) → Left m p (x ∷ w) a → Begins m p x w a
  back (at.Prepare preparing.Lock) m x w a h = absurd h.0
  back (at.Prepare preparing.Look) m x w a h =
      let (t, q) = looking st h.0 h.1.1.0 in (
        record (sees m) { own = t },
        (fair call m, tt),
        (
          h.1.1.1.0 ∙ ap event.Look (sym q),
          subst (λ (b : Bool). Left m (if b then at.Await (awaiting.Run true) else at.Prepare preparing.Queue) w a)
              (sym q)
              (look_back m h.1.0 h.1.1.0 w a h.1.1.1.1),
        ),
      )
  back (at.Prepare preparing.Queue) m x w a h = queue_back m h.1.0 m.queued refl x w a h.1.1
  back (at.Prepare preparing.State) m x w a h = (sees m, (fair call m, tt), (h.1.1.0, (h.0, (h.1.0, h.1.1.1))))
  back (at.Prepare preparing.Unlock) m x w a h = (sees m, (fair call m, tt), (h.1.1.0, (h.0, (h.1.0, h.1.1.1))))
  back at.Sleep m x w a h =
      let (t, q) = sleeping h.1.1.0 in
      (record (sees m) { own = t }, (fair call m, tt), (h.1.1.1.0 ∙ ap event.Sleep (sym q), (h.0, (h.1.0, h.1.1.1.1))))
  back (at.Await (awaiting.Lock false)) m x w a h = (sees m, (fair call m, tt), (h.1.0, (refl, h.1.1)))
  back (at.Await (awaiting.Load false)) m x w a h =
      let y = first_back m h.1.0 (h.1.0 == 0) w a h.1.1.1.0 h.1.1.1.1 in
      (counted m h.1.0, (fresh call m h.1.0 h.0 h.1.1.1.0, tt), (h.1.1.0 ∙ y.0, y.1))
  back (at.Await (awaiting.Lock true)) m x w a h =
      (sees m, (fair call m, tt), (h.1.1.0, ((h.0, refl), (h.1.0, h.1.1.1))))
  back (at.Await (awaiting.Load true)) m x w a h =
      let y = later_back m h.1.0 h.1.1.0 (h.1.1.0 == 0) w a h.1.1.1.1.0 h.0.0 h.1.1.1.1.1 in
      (counted m h.1.1.0, (fresh call m h.1.1.0 h.0.1 h.1.1.1.1.0, tt), (h.1.1.1.0 ∙ y.0, y.1))
  back (at.Await (awaiting.Run true)) m x w a h = (sees m, (fair call m, tt), (h.1.0, (tt, h.1.1)))
  back (at.Await (awaiting.Run false)) m x w a h =
      let y = h.1 h.0.0 in (
        sees m,
        (fair call m, tt),
        (
          y.0,
          (
            (h.0.0, h.0.1),
            λ _. subst (λ (b : Bool). takes_off me b (λ _. awaits.last me d st (by_count m.count))
                w a) (sym h.0.2) y.1,
          ),
        ),
      )
  back (at.Await (awaiting.Off true)) m x w a h = off_signal_back m m.queued refl x w a h.1
  back (at.Await (awaiting.Off false)) m x w a h = off_count_back m m.queued refl x w a h.0 (h.1 h.0.0)
  back (at.Await (awaiting.Last true)) m x w a h = (sees m, (fair call m, tt), (h.1.0, h.1.1))
  back (at.Await (awaiting.Last false)) m x w a h =
      let y = count_back m None x w a h.0.1 (h.1 h.0.0) in
      (record (sees m) { value = m.count; entry = None }, (same_count call m h.0.0, tt), y)
  back (at.Await awaiting.Unlock) m x w a h = (sees m, (fair call m, tt), (h.1.0, h.1.1))
  back p m x w a h = absurd h.0

  last_empty : (m : Noted) (full : Bool) (a : Answer)
      → (when full then unlocks c otherwise (do stores c (m.count - 1); unlocks c)) (λ _. ends (number 0)) [] a → ⊥
  last_empty m true a h = h
  last_empty m false a h = h

  off_empty : (m : Noted) (b : Bool) (a : Answer) → takes_off me b (λ _. awaits.last me d st (by_count m.count)) [] a
      → ⊥
  off_empty m true a (true, h) = h
  off_empty m true a (false, h) = last_empty m (m.count == ALL_DONE) a h
  off_empty m false a h = last_empty m (m.count == ALL_DONE) a h

  none : (p : Point) (m : Noted) (a : Answer) → Left m p [] a → ⊥
  none (at.Prepare preparing.Lock) m a h = h.0
  none (at.Prepare preparing.Look) m a h = h.1.1.1
  none (at.Prepare preparing.Queue) m a h = enters_none c st forms.Tail m.queued
      (λ (s : Bool). awaits.after_add me d st s (awaits.over me d st h.1.0)) a h.1.1
  none (at.Prepare preparing.State) m a h = h.1.1
  none (at.Prepare preparing.Unlock) m a h = h.1.1
  none at.Sleep m a h = h.1.1.1
  none (at.Await (awaiting.Lock false)) m a h = h.1
  none (at.Await (awaiting.Load false)) m a h = h.1.1
  none (at.Await (awaiting.Lock true)) m a h = h.1.1
  none (at.Await (awaiting.Load true)) m a h = h.1.1.1
  none (at.Await (awaiting.Run true)) m a h = h.1
  none (at.Await (awaiting.Run false)) m a h = h.1 h.0.0
  none (at.Await (awaiting.Off true)) m a h = off m.queued h.1
    where
      off : (b : Bool) → takes_off me b (λ _. awaits.last me d st (by_signal m.queued)) [] a → ⊥
      off true (true, h) = h
      off true (false, h) = h
      off false h = h
  none (at.Await (awaiting.Off false)) m a h = off_empty m m.queued a (h.1 h.0.0)
  none (at.Await (awaiting.Last true)) m a h = h.1
  none (at.Await (awaiting.Last false)) m a h = last_empty m (m.count == ALL_DONE) a (h.1 h.0.0)
  none (at.Await awaiting.Unlock) m a h = h.1
  none p m a h = h.0

  pub wait_for_made : (w : List Event) (a : Answer) → Follows me call w a
      → Makes me call none_noted (program_start call) w a
  wait_for_made w a h = all_made me call Left none back w none_noted (at.Await (awaiting.Lock false)) a (tt, h)
