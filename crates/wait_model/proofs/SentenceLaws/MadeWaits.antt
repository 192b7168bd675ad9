-- The program of a `wait`, a `swait` and a `waitvar` makes whatever follows its sentence.
use Rattle.std.proofs.lemmas.Bool.{both_ways}
use Rattle.std.proofs.Common.{refl, sym, ap, ◌∙◌, subst}
use Rattle.std.specs.Prelude.{ℕ, zero, suc, ◌≡◌, Bool, true, false, not, List, [], ◌∷◌, Some, if◌then◌else◌, ◌&&◌}
use Rattle.wait_model.specs.{declared.calls.Call.Call, declared.calls.Event.Event, declared.calls.Answer.Answer}
use Rattle.wait_model.specs.{declared.points.Planned.Planned, declared.points.Next.Next, declared.points.Seen.Seen}
use Rattle.wait_model.specs.{declared.points.Point.Point, declared.points.FinishPoint.FinishPoint, Tasks.looks_in}
use Rattle.wait_model.specs.{Watches.misses, Watches.number_of, Making.goes_to, Making.Makes}
use Rattle.wait_model.specs.Points.{form_of, is_lock, call_watch, call_head, state_in}
use Rattle.wait_model.specs.Programs.{worn_next, exchange, program, go, ends_with, zero_answer, signalled, signalled_at}
use Rattle.wait_model.specs.SentenceSteps.{is_ready, is_signalled, is_worn, minus_4, unlocks, number}
use Rattle.wait_model.specs.Findings.{Noted, notes, MayFind}
use Rattle.wait_model.specs.declared.calls.Event.TheVariants as event
use Rattle.wait_model.specs.declared.calls.Answer.TheVariants as answer
use Rattle.wait_model.specs.declared.points.Point.TheVariants as at
use Rattle.wait_model.specs.declared.points.PreparePoint.TheVariants as preparing
use Rattle.wait_model.specs.declared.points.LeavePoint.TheVariants as leaving
use Rattle.wait_model.specs.declared.points.FinishPoint.TheVariants as finishing
use Rattle.wait_model.specs.Phrases.{Rest, gives, finds, when◌then◌otherwise◌, turns, repeat, ends}
use Rattle.wait_model.proofs.SentenceLaws.MadeFindings.{sees, fair, standing, shown, some_entry, looking, sleeping}
use Rattle.wait_model.proofs.SentenceLaws.SentenceWaits.{IsLoop, finish_rest, loop_rest}
use Rattle.wait_model.proofs.SentenceLaws.MadeEvents.{Leads, all_made, enters_none, made_full, made_queued}
use Rattle.wait_model.proofs.SentenceLaws.SentenceWaits as loops

module _ (me : ℕ) (call : Call) (k : IsLoop call) where
  -- what holds at the points that the call comes to
  abbrev Kept : Noted → Point → Type 0
  Kept m at.First = Unit {0}
  Kept m (at.Prepare preparing.Lock) = Unit {0}
  Kept m (at.Prepare preparing.Look) = looks_in (state_in call) ≡ true
  Kept m (at.Prepare preparing.Queue) = Unit {0}
  Kept m (at.Prepare preparing.State) = m.queued ≡ true
  Kept m (at.Prepare preparing.Unlock) = m.queued ≡ true
  Kept m at.Test = m.queued ≡ true
  Kept m at.Sleep = m.queued ≡ true
  Kept m at.Worn = Unit {0}
  Kept m (at.Leave p) = Unit {0}
  Kept m (at.Finish finishing.State failed) = failed ≡ false
  Kept m (at.Finish finishing.Look failed) = failed ≡ false
  Kept m (at.Finish p failed) = (failed ≡ false) × (m.queued ≡ true)
  Kept m _ = ⊥

  abbrev Left : Noted → Point → Rest
  Left m p w a = Kept m p × loop_rest me call m p w a

  -- an event that begins what is left is the program's for some findings
  abbrev Begins : Noted → Point → Event → Rest
  Begins m p x w a = (seen : Seen) × MayFind call p m seen × Leads Left m x (program me call p seen) w a

  lock_back : (m : Noted) (n : ℕ) (b : Bool) → looks_in (state_in call) ≡ b → (w : List Event) (a : Answer)
      → (when b then finds event.Look otherwise gives false) (loops.looked_at me call m.queued n) w a
      → Left m (at.Prepare (if b then preparing.Look else preparing.Queue)) w a
  lock_back m n true q w a h = (q, (n, h))
  lock_back m n false q w a h = (tt, (n, h))

  locked_back : (m : Noted) (n : ℕ) (x : Event) (w : List Event) (a : Answer)
      → turns n (loops.body me call) m.queued ends (x ∷ w) a → Begins m (at.Prepare preparing.Lock) x w a
  locked_back m zero x w a h = absurd h
  locked_back m (suc n) x w a h = (
    sees m,
    (fair call m, tt),
    (
      h.0,
      subst (λ (b : Bool). Left (notes m (event.Lock (call_head call)))
          (at.Prepare (if not b && looks_in (state_in call) then preparing.Look else preparing.Queue)) w a) (sym k.bit)
          (lock_back (notes m (event.Lock (call_head call))) n (looks_in (state_in call)) refl w a h.1),
    ),
  )

  heard_back : (m : Noted) (n : ℕ) (hit : Bool) (w : List Event) (a : Answer)
      → loops.looked_at me call m.queued n hit w a
      → Left m (if hit then signalled_at call else at.Prepare preparing.Queue) w a
  heard_back m n true w a h = subst (λ p. Left m p w a) (sym k.signalled) (tt, (n, h))
  heard_back m n false w a h = (tt, (n, h))

  -- a load, and where it leads by whether it misses
  abbrev Loads : Noted → ℕ → Planned → Rest
  Loads m value x w a = (event.Load (number_of (call_watch call)) value ≡ x.event)
      × goes_to (Left (notes m x.event)) x.next w a

  first_back : (m : Noted) (value : ℕ) (miss : Bool) (w : List Event) (a : Answer)
      → (when not miss then gives (number 0) otherwise repeat (loops.body me call) m.queued) ends w a
      → Loads m value (if miss then go (event.Load (number_of (call_watch call)) value) (at.Prepare preparing.Lock)
      else ends_with (event.Load (number_of (call_watch call)) value) zero_answer) w a
  first_back m value true w a h = (refl, (tt, h))
  first_back m value false w a h = (refl, h)

  test_back : (m : Noted) (n value : ℕ) (miss : Bool) (w : List Event) (a : Answer) → m.queued ≡ true
      → loops.tested me call true n is_ready (not miss) w a
      → Loads m value (go (event.Load (number_of (call_watch call)) value)
      (if miss then at.Sleep else at.Finish finishing.State false)) w a
  test_back m n value true w a q h = (refl, (q, (n, h)))
  test_back m n value false w a q h =
      (refl, (refl, subst (λ (b : Bool). finish_rest me call b finishing.State (ends (number 0)) w a) (sym q) h))

  left_back : (m : Noted) (n value : ℕ) (miss : Bool) (w : List Event) (a : Answer)
      → loops.tested me call m.queued n is_signalled (not miss) w a
      → Loads m value (if miss then ends_with (event.Load (number_of (call_watch call)) value) signalled
      else go (event.Load (number_of (call_watch call)) value) (at.Finish finishing.State false)) w a
  left_back m n value true w a h = (refl, h)
  left_back m n value false w a h = (refl, (refl, h))

  -- where no place is left
  worn_out : (m : Noted) (n : ℕ) (b : Bool) → m.queued ≡ b → (w : List Event) (a : Answer)
      → loops.prepared me call b n is_worn w a
      → goes_to (Left (notes m (event.Unlock (call_head call) false))) (worn_next call) w a
  worn_out m n b q w a h = subst (λ (x : Next). goes_to (Left (notes m (event.Unlock (call_head call) false))) x w a)
      (sym k.worn)
      (tt, (n, subst (λ (c : Bool). loops.prepared me call c n is_worn w a) (sym q) h))

  queue_back : (m : Noted) (n : ℕ) (b : Bool) → m.queued ≡ b → (x : Event) (w : List Event) (a : Answer)
      → loops.looked_at me call b n false (x ∷ w) a → Begins m (at.Prepare preparing.Queue) x w a
  queue_back m n true q x w a (false, (false, h)) = (sees m, (fair call m, tt), (h.0, (refl, (n, h.1))))
  queue_back m n true q x w a (false, (true, h)) =
      made_full me call Left m (at.Prepare preparing.Queue) x w a tt (h.0, worn_out m n true q w a h.1)
  queue_back m n true q x w a (true, h) =
      made_queued me call Left m (at.Prepare preparing.Queue) x w a q tt (h.0, (q, (n, h.1)))
  queue_back m n false q x w a (false, h) = (sees m, (fair call m, tt), (h.0, (refl, (n, h.1))))
  queue_back m n false q x w a (true, h) =
      made_full me call Left m (at.Prepare preparing.Queue) x w a tt (h.0, worn_out m n false q w a h.1)

  worn_back : (m : Noted) (n value : ℕ) (l miss : Bool) → l ≡ false → (w : List Event) (a : Answer)
      → loops.tested me call m.queued n is_worn (not miss) w a
      → Loads m value (if miss
      then ends_with (if l then exchange call (record (sees m) { value = value })
      else event.Load (number_of (call_watch call)) value) answer.Worn
      else if l then ends_with (if l then exchange call (record (sees m) { value = value })
      else event.Load (number_of (call_watch call)) value) zero_answer
      else go (if l then exchange call (record (sees m) { value = value }) else event.Load (number_of (call_watch call))
      value) (at.Finish finishing.State false)) w a
  worn_back m n value true miss q w a h = absurd (cc)
  worn_back m n value false true q w a h = (refl, h)
  worn_back m n value false false q w a h = (refl, (refl, h))

  leave_back : (m : Noted) (n : ℕ) (b : Bool) → m.queued ≡ b → (x : Event) (w : List Event) (a : Answer)
      → loops.looked_at me call b n true (x ∷ w) a → Begins m (at.Leave leaving.Queue) x w a
  leave_back m n true q x w a (true, h) = (
    record (sees m) { entry = Some some_entry },
    (standing call m q, tt),
    (
      h.0,
      (
        tt,
        (
          n,
          subst (λ (b : Bool). unlocks (call_watch call) (λ _. loops.prepared me call b n is_signalled) w a)
              (sym q) h.1,
        ),
      ),
    ),
  )
  leave_back m n true q x w a (false, h) = (
    sees m,
    (fair call m, tt),
    (h.0, (tt, (n, subst (λ (b : Bool). loops.prepared me call b n is_signalled w a) (sym q) h.1))),
  )
  leave_back m n false q x w a h = (
    sees m,
    (fair call m, tt),
    (h.0, (tt, (n, subst (λ (b : Bool). loops.prepared me call b n is_signalled w a) (sym q) h.1))),
  )

  -- the own entry may stand where it was queued
  look_back : (m : Noted) (b : Bool) → m.queued ≡ b → (x : Event) (w : List Event) (a : Answer)
      → finish_rest me call b finishing.Look (ends (number 0)) (x ∷ w) a
      → Begins m (at.Finish finishing.Look false) x w a
  look_back m true q x w a (true, h) =
      made_queued me call Left m (at.Finish finishing.Look false) x w a q tt (h.0, ((refl, q), h.1))
  look_back m true q x w a (false, h) = (sees m, (fair call m, tt), (h.0, h.1))
  look_back m false q x w a h = (sees m, (fair call m, tt), (h.0, h.1))

  finish_back : (m : Noted) (p : FinishPoint) → Kept m (at.Finish p false) → (x : Event) (w : List Event) (a : Answer)
      → loop_rest me call m (at.Finish p false) (x ∷ w) a → Begins m (at.Finish p false) x w a
  finish_back m finishing.State k x w a h = (sees m, (fair call m, tt), (h.0, (refl, h.1)))
  finish_back m finishing.Look k x w a h = look_back m m.queued refl x w a h
  finish_back m finishing.Lock k x w a h = (sees m, (fair call m, tt), (h.0, ((refl, k.1), h.1)))
  finish_back m finishing.Queue k x w a (true, h) =
      (record (sees m) { entry = Some some_entry }, (standing call m k.1, tt), (h.0, ((refl, k.1), h.1)))
  finish_back m finishing.Queue k x w a (false, h) = (sees m, (fair call m, tt), (h.0, h.1))
  finish_back m finishing.Unlock k x w a h = (sees m, (fair call m, tt), (h.0, h.1))

  back : (p : Point) (m : Noted) (x : Event) (w : List Event) (a : Answer) → Left m p (x ∷ w) a → Begins m p x w a
  back at.First m x w a h =
      let y = first_back m h.1.0 (misses (call_watch call) h.1.0) w a h.1.1.1 in
      (record (sees m) { value = h.1.0 }, (shown call m h.1.0 k.plain, tt), (h.1.1.0 ∙ y.0, y.1))
  back (at.Prepare preparing.Lock) m x w a h = locked_back m h.1.0 x w a h.1.1
  back (at.Prepare preparing.Look) m x w a h =
      let (t, q) = looking (state_in call) h.0 h.1.1.0 in (
        record (sees m) { own = t },
        (fair call m, tt),
        (
          h.1.1.1.0 ∙ ap event.Look (sym q),
          subst (λ (b : Bool). Left m (if b then signalled_at call else at.Prepare preparing.Queue) w a) (sym q)
              (heard_back m h.1.0 h.1.1.0 w a h.1.1.1.1),
        ),
      )
  back (at.Prepare preparing.Queue) m x w a h = queue_back m h.1.0 m.queued refl x w a h.1.1
  back (at.Prepare preparing.State) m x w a h = (sees m, (fair call m, tt), (h.1.1.0, (h.0, (h.1.0, h.1.1.1))))
  back (at.Prepare preparing.Unlock) m x w a h = (
    sees m,
    (fair call m, tt),
    (
      h.1.1.0,
      subst (λ p. Left (record m { held = false; loaded = false }) p w a) (sym k.prepared)
          (h.0, (h.1.0, h.1.1.1)),
    ),
  )
  back at.Test m x w a h =
      let y = test_back m h.1.0 h.1.1.0 (misses (call_watch call) h.1.1.0) w a h.0 h.1.1.1.1 in
      (record (sees m) { value = h.1.1.0 }, (shown call m h.1.1.0 k.plain, tt), (h.1.1.1.0 ∙ y.0, y.1))
  back at.Worn m x w a h =
      let y = worn_back m h.1.0 h.1.1.0 (is_lock call) (misses (call_watch call) h.1.1.0) k.lock w a h.1.1.1.1 in
      (record (sees m) { value = h.1.1.0 }, (shown call m h.1.1.0 k.plain, tt), (h.1.1.1.0 ∙ y.0, y.1))
  back at.Sleep m x w a h =
      let (t, q) = sleeping h.1.1.0 in (
        record (sees m) { own = t },
        (fair call m, tt),
        (
          h.1.1.1.0 ∙ ap event.Sleep (sym q),
          subst (λ p. Left (record m { loaded = false }) p w a) (sym k.slept) (
            tt,
            (h.1.0, subst (λ (b : Bool). turns h.1.0 (loops.body me call) b ends w a) (sym h.0) h.1.1.1.1),
          ),
        ),
      )
  back (at.Leave leaving.Queue) m x w a h = leave_back m h.1.0 m.queued refl x w a h.1.1
  back (at.Leave leaving.Unlock) m x w a h = (sees m, (fair call m, tt), (h.1.1.0, (tt, (h.1.0, h.1.1.1))))
  back (at.Leave leaving.Load) m x w a h =
      let y = left_back m h.1.0 h.1.1.0 (misses (call_watch call) h.1.1.0) w a h.1.1.1.1 in
      (record (sees m) { value = h.1.1.0 }, (shown call m h.1.1.0 k.plain, tt), (h.1.1.1.0 ∙ y.0, y.1))
  back (at.Finish finishing.State true) m x w a h = absurd (both_ways true h.0 refl)
  back (at.Finish finishing.Look true) m x w a h = absurd (both_ways true h.0 refl)
  back (at.Finish p true) m x w a h = absurd (both_ways true h.0.0 refl)
  back (at.Finish p false) m x w a h = finish_back m p h.0 x w a h.1
  back p m x w a h = absurd h.0

  nothing_left : (p : Point) (m : Noted) (a : Answer) → Left m p [] a → ⊥
  nothing_left at.First m a h = h.1.1
  nothing_left (at.Prepare preparing.Lock) m a h = locked h.1.0 h.1.1
    where
      locked : (n : ℕ) → turns n (loops.body me call) m.queued ends [] a → ⊥
      locked zero h = h
      locked (suc n) h = h
  nothing_left (at.Prepare preparing.Look) m a h = h.1.1.1
  nothing_left (at.Prepare preparing.Queue) m a h = enters_none (call_watch call) (state_in call) (form_of call)
      m.queued (loops.entered me call m.queued h.1.0) a h.1.1
  nothing_left (at.Prepare preparing.State) m a h = h.1.1
  nothing_left (at.Prepare preparing.Unlock) m a h = h.1.1
  nothing_left at.Test m a h = h.1.1.1
  nothing_left at.Worn m a h = h.1.1.1
  nothing_left at.Sleep m a h = h.1.1.1
  nothing_left (at.Leave leaving.Queue) m a h = taken m.queued h.1.1
    where
      taken : (b : Bool) → loops.looked_at me call b h.1.0 true [] a → ⊥
      taken true (true, h) = h
      taken true (false, h) = h
      taken false h = h
  nothing_left (at.Leave leaving.Unlock) m a h = h.1.1
  nothing_left (at.Leave leaving.Load) m a h = h.1.1.1
  nothing_left (at.Finish finishing.State failed) m a h = h.1
  nothing_left (at.Finish finishing.Look failed) m a h = looked m.queued h.1
    where
      looked : (b : Bool) → finish_rest me call b finishing.Look (ends (if failed then minus_4 else number 0)) [] a → ⊥
      looked true x = x.1
      looked false x = x
  nothing_left (at.Finish finishing.Lock failed) m a h = h.1
  nothing_left (at.Finish finishing.Queue failed) m a h = off h.1
    where
      off : loop_rest me call m (at.Finish finishing.Queue failed) [] a → ⊥
      off (true, x) = x
      off (false, x) = x
  nothing_left (at.Finish finishing.Unlock failed) m a h = h.1
  nothing_left p m a h = h.0

  pub loop_made : (w : List Event) (m : Noted) (p : Point) (a : Answer) → Left m p w a → Makes me call m p w a
  loop_made w m p a h = all_made me call Left nothing_left back w m p a h
