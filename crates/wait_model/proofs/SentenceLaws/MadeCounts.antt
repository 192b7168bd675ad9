-- The programs of selections make whatever follows their sentences.
use Rattle.std.proofs.Common.{refl, sym, ap, ◌∙◌, subst}
use Rattle.std.specs.Prelude.{ℕ, pos, zero, suc, ◌≡◌, ◌≤◌, ◌+◌, ◌==◌, ◌-◌, Bool, true, false, List, [], ◌∷◌, Some}
use Rattle.std.specs.Prelude.{if◌then◌else◌}
use Rattle.wait_model.specs.{declared.layout.TheConstants.ALL_DONE, declared.calls.Call.Call}
use Rattle.wait_model.specs.{declared.calls.Event.Event, declared.calls.Answer.Answer, declared.points.Point.Point}
use Rattle.wait_model.specs.{Counts.raised_done, Counts.taken_done, Tasks.meets, Sentences.Follows, Making.Makes}
use Rattle.wait_model.specs.Watches.{head_of, number_of, mask_of}
use Rattle.wait_model.specs.Programs.{program_start, go, ends_with, zero_answer, done_in, select_ends}
use Rattle.wait_model.specs.SentenceSteps.{nothing, number, locks, unlocks, stores}
use Rattle.wait_model.specs.Findings.{Noted, none_noted, notes}
use Rattle.wait_model.specs.declared.calls.Call.TheVariants as calls
use Rattle.wait_model.specs.declared.calls.Event.TheVariants as event
use Rattle.wait_model.specs.declared.watches.Mode.TheVariants as mode
use Rattle.wait_model.specs.declared.watches.Watch.TheVariants as watch
use Rattle.wait_model.specs.declared.points.Point.TheVariants as at
use Rattle.wait_model.specs.declared.points.SelectPoint.TheVariants as selecting
use Rattle.wait_model.specs.declared.points.CountPoint.TheVariants as counting
use Rattle.wait_model.specs.declared.calls.Answer.TheVariants as answer
use Rattle.wait_model.specs.Phrases.{Rest, when◌then◌otherwise◌, turns, ends, gives, ◌>>◌}
use Rattle.wait_model.proofs.SentenceLaws.SentenceAwaits.{shown_count}
use Rattle.wait_model.proofs.SentenceLaws.SentenceCounts.{select_rest, one_rest, count_rest, tries_taking, over_by}
use Rattle.wait_model.proofs.SentenceLaws.SentenceCounts.{more, more_by, less_by, never}
use Rattle.wait_model.proofs.SentenceLaws.MadeFindings.{sees, fair, fresh, same_count}
use Rattle.wait_model.proofs.SentenceLaws.MadeEvents.{Leads, MakesFirst, all_made, rousing, a_call}

abbrev pub IsSelect : Call → Type 0
IsSelect (calls.SimpleWake c b) = Unit {0}
IsSelect (calls.Complete d) = Unit {0}
IsSelect (calls.CompleteAll d) = Unit {0}
IsSelect _ = ⊥

-- `swake` of one
module _ (me c : ℕ) where
  abbrev waker : Call
  waker = calls.SimpleWake c false

  abbrev KeptW : Noted → Point → Type 0
  KeptW m (at.Select selecting.Lock) = Unit {0}
  KeptW m (at.Select (selecting.Next zero)) = Unit {0}
  KeptW m (at.Select (selecting.Next (suc zero))) = Unit {0}
  KeptW m (at.Select (selecting.Off (suc zero) who)) = Unit {0}
  KeptW m _ = ⊥

  abbrev LeftW : Noted → Point → Rest
  LeftW m p w a = KeptW m p × select_rest waker m p w a

  back_w : (p : Point) (m : Noted) (x : Event) (w : List Event) (a : Answer) → LeftW m p (x ∷ w) a
      → MakesFirst me waker LeftW m p x w a
  back_w (at.Select selecting.Lock) m x w a h = (sees m, (fair waker m, tt), (h.1.0, (tt, h.1.1)))
  back_w (at.Select (selecting.Next zero)) m x w a (k, (true, h)) =
      let (t, q) = rousing mode.Normal h.1.0 in (
        record (sees m) { called = Some (a_call h.0); other = t },
        (fair waker m, tt),
        (h.1.1.0 ∙ ap (event.Wake h.0) (sym q), (tt, h.1.1.1)),
      )
  back_w (at.Select (selecting.Next zero)) m x w a (k, (false, h)) = (sees m, (fair waker m, tt), (h.0, h.1))
  back_w (at.Select (selecting.Next (suc zero))) m x w a h = (sees m, (fair waker m, tt), (h.1.0, h.1.1))
  back_w (at.Select (selecting.Off (suc zero) who)) m x w a h = (sees m, (fair waker m, tt), (h.1.0, (tt, h.1.1)))
  back_w p m x w a h = absurd h.0

  none_w : (p : Point) (m : Noted) (a : Answer) → LeftW m p [] a → ⊥
  none_w (at.Select selecting.Lock) m a h = h.1
  none_w (at.Select (selecting.Next zero)) m a (k, (true, h)) = h.1.1
  none_w (at.Select (selecting.Next zero)) m a (k, (false, h)) = h
  none_w (at.Select (selecting.Next (suc zero))) m a h = h.1
  none_w (at.Select (selecting.Off (suc zero) who)) m a h = h.1
  none_w p m a h = h.0

-- `complete`
module _ (me d : ℕ) where
  abbrev raiser : Call
  raiser = calls.Complete d

  abbrev KeptR : Noted → Point → Type 0
  KeptR m (at.Select selecting.Lock) = Unit {0}
  KeptR m (at.Select selecting.Load) = m.loaded ≡ false
  KeptR m (at.Select selecting.Store) = (m.loaded ≡ true) × (m.count ≤ ALL_DONE)
  KeptR m (at.Select (selecting.Next zero)) = Unit {0}
  KeptR m (at.Select (selecting.Next (suc zero))) = Unit {0}
  KeptR m (at.Select (selecting.Off (suc zero) who)) = Unit {0}
  KeptR m _ = ⊥

  abbrev LeftR : Noted → Point → Rest
  LeftR m p w a = KeptR m p × select_rest raiser m p w a

  raise_back : (m : Noted) (count : ℕ) (full : Bool) → (count == ALL_DONE) ≡ full → (w : List Event) (a : Answer)
      → count ≤ ALL_DONE
      → (when full then nothing otherwise stores (watch.Done d) (count + 1))
      (λ _. one_rest (watch.Done d) (λ _. number 0) (selecting.Next 0)) w a
      → Leads LeftR m (event.Load (number_of (watch.Done d)) count) (go (event.Load (number_of (watch.Done d)) count)
      (at.Select (if done_in count == ALL_DONE then selecting.Next 0 else selecting.Store))) w a
  raise_back m count full q w a r h = subst (λ (n : ℕ). Leads LeftR m (event.Load (number_of (watch.Done d)) count)
      (go (event.Load (number_of (watch.Done d)) count) (at.Select (if n == ALL_DONE then selecting.Next 0
      else selecting.Store))) w a)
      (sym (shown_count count r)) (by full q h)
    where
      by : (full : Bool) → (count == ALL_DONE) ≡ full
          → (when full then nothing otherwise stores (watch.Done d) (count + 1))
          (λ _. one_rest (watch.Done d) (λ _. number 0) (selecting.Next 0)) w a
          → Leads LeftR m (event.Load (number_of (watch.Done d)) count)
          (go (event.Load (number_of (watch.Done d)) count)
          (at.Select (if count == ALL_DONE then selecting.Next 0 else selecting.Store))) w a
      by true z h = rw z (refl, (tt, h))
      by false z h = rw z (
        refl,
        (
          (refl, r),
          λ _. subst (λ (n : ℕ). stores (watch.Done d) n
              (λ _. one_rest (watch.Done d) (λ _. number 0) (selecting.Next 0)) w a) (sym (more_by m count z)) h,
        ),
      )

  back_r : (p : Point) (m : Noted) (x : Event) (w : List Event) (a : Answer) → LeftR m p (x ∷ w) a
      → MakesFirst me raiser LeftR m p x w a
  back_r (at.Select selecting.Lock) m x w a h = (sees m, (fair raiser m, tt), (h.1.0, (refl, h.1.1)))
  back_r (at.Select selecting.Load) m x w a h =
      let y = raise_back m h.1.0 (h.1.0 == ALL_DONE) refl w a h.1.1.1.0 h.1.1.1.1 in
      (record (sees m) { value = h.1.0 }, (fresh raiser m h.1.0 h.0 h.1.1.1.0, tt), (h.1.1.0 ∙ y.0, y.1))
  back_r (at.Select selecting.Store) m x w a h =
      let y = h.1 h.0.0 in (
        record (sees m) { value = m.count },
        (same_count raiser m h.0.0, tt),
        (
          y.0 ∙ ap (λ (n : ℕ). event.Set (number_of (watch.Done d)) (raised_done n)) (sym (shown_count m.count h.0.1)),
          (tt, y.1),
        ),
      )
  back_r (at.Select (selecting.Next zero)) m x w a (k, (true, h)) =
      let (t, q) = rousing mode.Normal h.1.0 in (
        record (sees m) { called = Some (a_call h.0); other = t },
        (fair raiser m, tt),
        (h.1.1.0 ∙ ap (event.Wake h.0) (sym q), (tt, h.1.1.1)),
      )
  back_r (at.Select (selecting.Next zero)) m x w a (k, (false, h)) = (sees m, (fair raiser m, tt), (h.0, h.1))
  back_r (at.Select (selecting.Next (suc zero))) m x w a h = (sees m, (fair raiser m, tt), (h.1.0, h.1.1))
  back_r (at.Select (selecting.Off (suc zero) who)) m x w a h = (sees m, (fair raiser m, tt), (h.1.0, (tt, h.1.1)))
  back_r p m x w a h = absurd h.0

  none_r : (p : Point) (m : Noted) (a : Answer) → LeftR m p [] a → ⊥
  none_r (at.Select selecting.Lock) m a h = h.1
  none_r (at.Select selecting.Load) m a h = h.1.1
  none_r (at.Select selecting.Store) m a h = h.1 h.0.0
  none_r (at.Select (selecting.Next zero)) m a (k, (true, h)) = h.1.1
  none_r (at.Select (selecting.Next zero)) m a (k, (false, h)) = h
  none_r (at.Select (selecting.Next (suc zero))) m a h = h.1
  none_r (at.Select (selecting.Off (suc zero) who)) m a h = h.1
  none_r p m a h = h.0

-- `swake` of all
module _ (me c : ℕ) where
  abbrev all_waker : Call
  all_waker = calls.SimpleWake c true

  abbrev KeptA : Noted → Point → Type 0
  KeptA m (at.Select selecting.Lock) = Unit {0}
  KeptA m (at.Select (selecting.Next n)) = Unit {0}
  KeptA m (at.Select (selecting.Off n who)) = Unit {0}
  KeptA m _ = ⊥

  abbrev LeftA : Noted → Point → Rest
  LeftA m p w a = KeptA m p × select_rest all_waker m p w a

  next_a : (m : Noted) (n k : ℕ) (x : Event) (w : List Event) (a : Answer)
      → turns k more n (λ n. unlocks (watch.Plain c) (λ _. ends (number n))) (x ∷ w) a
      → MakesFirst me all_waker LeftA m (at.Select (selecting.Next n)) x w a
  next_a m n zero x w a h = absurd h
  next_a m n (suc k) x w a (true, h) =
      let (t, q) = rousing mode.Normal h.1.0 in (
        record (sees m) { called = Some (a_call h.0); other = t },
        (fair all_waker m, tt),
        subst (λ (b : Bool). Leads LeftA m x
            (if b then select_ends all_waker n true else go (event.Wake h.0 (meets (mask_of mode.Normal) t.state))
            (at.Select (selecting.Off (n + 1) h.0))) w a)
            (sym (never (n == 0))) (h.1.1.0 ∙ ap (event.Wake h.0) (sym q), (tt, (k, h.1.1.1))),
      )
  next_a m n (suc k) x w a (false, h) = (
    sees m,
    (fair all_waker m, tt),
    subst (λ (b : Bool). Leads LeftA m x
        (if b then select_ends all_waker n true else select_ends all_waker n false) w a)
        (sym (never (n == 0))) (h.0, h.1),
  )

  back_a : (p : Point) (m : Noted) (x : Event) (w : List Event) (a : Answer) → LeftA m p (x ∷ w) a
      → MakesFirst me all_waker LeftA m p x w a
  back_a (at.Select selecting.Lock) m x w a h = (sees m, (fair all_waker m, tt), (h.1.0, (tt, h.1.1)))
  back_a (at.Select (selecting.Next n)) m x w a h = next_a m n h.1.0 x w a h.1.1
  back_a (at.Select (selecting.Off n who)) m x w a h =
      (sees m, (fair all_waker m, tt), (h.1.1.0, (tt, (h.1.0, h.1.1.1))))
  back_a p m x w a h = absurd h.0

  nothing_a : (n k : ℕ) (a : Answer) → turns k more n (λ n. unlocks (watch.Plain c) (λ _. ends (number n))) [] a → ⊥
  nothing_a n zero a h = h
  nothing_a n (suc k) a (true, h) = h.1.1
  nothing_a n (suc k) a (false, h) = h

  none_a : (p : Point) (m : Noted) (a : Answer) → LeftA m p [] a → ⊥
  none_a (at.Select selecting.Lock) m a h = h.1
  none_a (at.Select (selecting.Next n)) m a h = nothing_a n h.1.0 a h.1.1
  none_a (at.Select (selecting.Off n who)) m a h = h.1.1
  none_a p m a h = h.0

-- `completeall`
module _ (me d : ℕ) where
  abbrev ender : Call
  ender = calls.CompleteAll d

  abbrev KeptE : Noted → Point → Type 0
  KeptE m (at.Select selecting.Lock) = Unit {0}
  KeptE m (at.Select selecting.Store) = Unit {0}
  KeptE m (at.Select (selecting.Next n)) = Unit {0}
  KeptE m (at.Select (selecting.Off n who)) = Unit {0}
  KeptE m _ = ⊥

  abbrev LeftE : Noted → Point → Rest
  LeftE m p w a = KeptE m p × select_rest ender m p w a

  next_e : (m : Noted) (n k : ℕ) (x : Event) (w : List Event) (a : Answer)
      → turns k more n (λ n. unlocks (watch.Done d) (λ _. ends (number 0))) (x ∷ w) a
      → MakesFirst me ender LeftE m (at.Select (selecting.Next n)) x w a
  next_e m n zero x w a h = absurd h
  next_e m n (suc k) x w a (true, h) =
      let (t, q) = rousing mode.Normal h.1.0 in (
        record (sees m) { called = Some (a_call h.0); other = t },
        (fair ender m, tt),
        subst (λ (b : Bool). Leads LeftE m x
            (if b then select_ends ender n true else go (event.Wake h.0 (meets (mask_of mode.Normal) t.state))
            (at.Select (selecting.Off (n + 1) h.0))) w a)
            (sym (never (n == 0))) (h.1.1.0 ∙ ap (event.Wake h.0) (sym q), (tt, (k, h.1.1.1))),
      )
  next_e m n (suc k) x w a (false, h) = (
    sees m,
    (fair ender m, tt),
    subst (λ (b : Bool). Leads LeftE m x
        (if b then select_ends ender n true else select_ends ender n false) w a) (sym (never (n == 0))) (h.0, h.1),
  )

  back_e : (p : Point) (m : Noted) (x : Event) (w : List Event) (a : Answer) → LeftE m p (x ∷ w) a
      → MakesFirst me ender LeftE m p x w a
  back_e (at.Select selecting.Lock) m x w a h = (sees m, (fair ender m, tt), (h.1.0, (tt, h.1.1)))
  back_e (at.Select selecting.Store) m x w a h = (sees m, (fair ender m, tt), (h.1.0, (tt, h.1.1)))
  back_e (at.Select (selecting.Next n)) m x w a h = next_e m n h.1.0 x w a h.1.1
  back_e (at.Select (selecting.Off n who)) m x w a h = (sees m, (fair ender m, tt), (h.1.1.0, (tt, (h.1.0, h.1.1.1))))
  back_e p m x w a h = absurd h.0

  nothing_e : (n k : ℕ) (a : Answer) → turns k more n (λ n. unlocks (watch.Done d) (λ _. ends (number 0))) [] a → ⊥
  nothing_e n zero a h = h
  nothing_e n (suc k) a (true, h) = h.1.1
  nothing_e n (suc k) a (false, h) = h

  none_e : (p : Point) (m : Noted) (a : Answer) → LeftE m p [] a → ⊥
  none_e (at.Select selecting.Lock) m a h = h.1
  none_e (at.Select selecting.Store) m a h = h.1
  none_e (at.Select (selecting.Next n)) m a h = nothing_e n h.1.0 a h.1.1
  none_e (at.Select (selecting.Off n who)) m a h = h.1.1
  none_e p m a h = h.0

pub select_made : (me : ℕ) (call : Call) (w : List Event) (a : Answer) → IsSelect call → Follows me call w a
    → Makes me call none_noted (program_start call) w a
select_made me (calls.SimpleWake c false) w a i h = all_made me (calls.SimpleWake c false) (LeftW me c) (none_w me c)
    (back_w me c) w none_noted (at.Select selecting.Lock) a (tt, h)
select_made me (calls.SimpleWake c true) w a i h = all_made me (calls.SimpleWake c true) (LeftA me c) (none_a me c)
    (back_a me c) w none_noted (at.Select selecting.Lock) a (tt, h)
select_made me (calls.Complete d) w a i h = all_made me (calls.Complete d) (LeftR me d) (none_r me d) (back_r me d) w
    none_noted (at.Select selecting.Lock) a (tt, h)
select_made me (calls.CompleteAll d) w a i h = all_made me (calls.CompleteAll d) (LeftE me d) (none_e me d)
    (back_e me d) w none_noted (at.Select selecting.Lock) a (tt, h)
select_made me call w a i h = absurd i

-- `trywait`
module _ (me d : ℕ) where
  abbrev tryer : Call
  tryer = calls.TryWait d

  abbrev KeptT : Noted → Point → Type 0
  KeptT m (at.Count counting.Store) = (m.loaded ≡ true) × (m.count ≤ ALL_DONE)
  KeptT m (at.Count counting.Peek) = m.loaded ≡ false
  KeptT m (at.Count counting.Load) = m.loaded ≡ false
  KeptT m (at.Count p) = Unit {0}
  KeptT m _ = ⊥

  abbrev LeftT : Noted → Point → Rest
  LeftT m p w a = KeptT m p × count_rest tryer m p w a

  peek_back : (m : Noted) (count : ℕ) (zero : Bool) (w : List Event) (a : Answer)
      → (when zero then gives (number 0) otherwise tries_taking d) ends w a
      → Leads LeftT m (event.Load (number_of (watch.Done d)) count) (if zero
      then ends_with (event.Load (number_of (watch.Done d)) count) zero_answer
      else go (event.Load (number_of (watch.Done d)) count) (at.Count counting.Lock)) w a
  peek_back m count true w a h = (refl, h)
  peek_back m count false w a h = (refl, (tt, h))

  load_back : (m : Noted) (count : ℕ) (zero full : Bool) → (full ≡ false → taken_done count ≡ count - 1)
      → (w : List Event) (a : Answer)
      → count ≤ ALL_DONE → (when zero then (do unlocks (watch.Done d); gives (number 0))
      otherwise
      (do
        (when full then unlocks (watch.Done d)
            otherwise (do stores (watch.Done d) (count - 1); unlocks (watch.Done d)))
        gives (number 1))) ends w a
      → Leads LeftT m (event.Load (number_of (watch.Done d)) count) (go (event.Load (number_of (watch.Done d)) count)
      (at.Count (if zero then counting.Unlock false else if full then counting.Unlock true else counting.Store))) w a
  load_back m count true full q w a r h = (refl, (tt, h))
  load_back m count false true q w a r h = (refl, (tt, h))
  load_back m count false false q w a r h = (
    refl,
    ((refl, r), λ _. subst (λ (n : ℕ). stores (watch.Done d) n (λ _. over_by d true) w a) (sym (q refl)) h),
  )

  unlock_back : (m : Noted) (hit : Bool) (x : Event) (w : List Event) (a : Answer) → over_by d hit (x ∷ w) a
      → Leads LeftT m x (ends_with (event.Unlock (head_of (watch.Done d)) false)
      (answer.Number (if hit then pos 1 else pos 0))) w a
  unlock_back m true x w a h = (h.0, h.1)
  unlock_back m false x w a h = (h.0, h.1)

  back_t : (p : Point) (m : Noted) (x : Event) (w : List Event) (a : Answer) → LeftT m p (x ∷ w) a
      → MakesFirst me tryer LeftT m p x w a
  back_t (at.Count counting.Peek) m x w a h =
      let y = peek_back m h.1.0 (h.1.0 == 0) w a h.1.1.1.1 in
      (record (sees m) { value = h.1.0 }, (fresh tryer m h.1.0 h.0 h.1.1.1.0, tt), (h.1.1.0 ∙ y.0, y.1))
  back_t (at.Count counting.Lock) m x w a h = (sees m, (fair tryer m, tt), (h.1.0, (refl, h.1.1)))
  back_t (at.Count counting.Load) m x w a h =
      let y = subst (λ (n : ℕ). Leads LeftT m (event.Load (number_of (watch.Done d)) h.1.0)
      (go (event.Load (number_of (watch.Done d)) h.1.0)
      (at.Count (if h.1.0 == 0 then counting.Unlock false else if n == ALL_DONE then counting.Unlock true
      else counting.Store))) w a)
      (sym (shown_count h.1.0 h.1.1.1.0))
      (load_back m h.1.0 (h.1.0 == 0) (h.1.0 == ALL_DONE) (less_by m h.1.0) w a h.1.1.1.0 h.1.1.1.1) in
      (record (sees m) { value = h.1.0 }, (fresh tryer m h.1.0 h.0 h.1.1.1.0, tt), (h.1.1.0 ∙ y.0, y.1))
  back_t (at.Count counting.Store) m x w a h =
      let y = h.1 h.0.0 in (
        record (sees m) { value = m.count },
        (same_count tryer m h.0.0, tt),
        (
          y.0 ∙ ap (λ (n : ℕ). event.Set (number_of (watch.Done d)) (taken_done n)) (sym (shown_count m.count h.0.1)),
          (tt, y.1),
        ),
      )
  back_t (at.Count (counting.Unlock hit)) m x w a h = (sees m, (fair tryer m, tt), unlock_back m hit x w a h.1)
  back_t p m x w a h = absurd h.0

  none_t : (p : Point) (m : Noted) (a : Answer) → LeftT m p [] a → ⊥
  none_t (at.Count counting.Peek) m a h = h.1.1
  none_t (at.Count counting.Lock) m a h = h.1
  none_t (at.Count counting.Load) m a h = h.1.1
  none_t (at.Count counting.Store) m a h = h.1 h.0.0
  none_t (at.Count (counting.Unlock hit)) m a h = h.1
  none_t p m a h = h.0

  pub try_made : (w : List Event) (a : Answer) → Follows me tryer w a
      → Makes me tryer none_noted (program_start tryer) w a
  try_made w a h = all_made me tryer LeftT none_t back_t w none_noted (at.Count counting.Peek) a (refl, h)

  -- `isdone`, `reinit`
  abbrev LeftD : Noted → Point → Rest
  LeftD m (at.Count counting.Peek) = λ w a. (m.loaded ≡ false)
      × count_rest (calls.IsDone d) m (at.Count counting.Peek) w a
  LeftD m (at.Count counting.Load) = λ w a. ⊥
  LeftD m (at.Count counting.Store) = λ w a. ⊥
  LeftD m (at.Count p) = count_rest (calls.IsDone d) m (at.Count p)
  LeftD m _ = λ w a. ⊥

  done_back : (m : Noted) (count : ℕ) (zero : Bool) (w : List Event) (a : Answer)
      → (when zero then gives (number 0) otherwise (do locks (watch.Done d); unlocks (watch.Done d); gives (number 1)))
      ends w a
      → Leads LeftD m (event.Load (number_of (watch.Done d)) count) (if zero
      then ends_with (event.Load (number_of (watch.Done d)) count) zero_answer
      else go (event.Load (number_of (watch.Done d)) count) (at.Count counting.Lock)) w a
  done_back m count true w a h = (refl, h)
  done_back m count false w a h = (refl, h)

  over_back : (m : Noted) (hit : Bool) (x : Event) (w : List Event) (a : Answer) → over_by d hit (x ∷ w) a
      → Leads LeftD m x (ends_with (event.Unlock (head_of (watch.Done d)) false)
      (answer.Number (if hit then pos 1 else pos 0))) w a
  over_back m true x w a h = (h.0, h.1)
  over_back m false x w a h = (h.0, h.1)

  back_d : (p : Point) (m : Noted) (x : Event) (w : List Event) (a : Answer) → LeftD m p (x ∷ w) a
      → MakesFirst me (calls.IsDone d) LeftD m p x w a
  back_d (at.Count counting.Peek) m x w a h =
      let y = done_back m h.1.0 (h.1.0 == 0) w a h.1.1.1.1 in
      (record (sees m) { value = h.1.0 }, (fresh (calls.IsDone d) m h.1.0 h.0 h.1.1.1.0, tt), (h.1.1.0 ∙ y.0, y.1))
  back_d (at.Count counting.Lock) m x w a h = (sees m, (fair (calls.IsDone d) m, tt), (h.0, h.1))
  back_d (at.Count (counting.Unlock hit)) m x w a h = (sees m, (fair (calls.IsDone d) m, tt), over_back m hit x w a h)
  back_d (at.Count counting.Load) m x w a h = absurd h
  back_d (at.Count counting.Store) m x w a h = absurd h
  back_d p m x w a h = absurd h

  none_d : (p : Point) (m : Noted) (a : Answer) → LeftD m p [] a → ⊥
  none_d (at.Count counting.Peek) m a h = h.1.1
  none_d p m a h = h

  pub is_done_made : (w : List Event) (a : Answer) → Follows me (calls.IsDone d) w a
      → Makes me (calls.IsDone d) none_noted (program_start (calls.IsDone d)) w a
  is_done_made w a h = all_made me (calls.IsDone d) LeftD none_d back_d w none_noted (at.Count counting.Peek) a
      (refl, h)

  pub reinit_made : (w : List Event) (a : Answer) → Follows me (calls.Reinit d) w a
      → Makes me (calls.Reinit d) none_noted (program_start (calls.Reinit d)) w a
  reinit_made [] a h = absurd h
  reinit_made (x ∷ []) a h = absurd h.1
  reinit_made (x ∷ y ∷ []) a h = absurd h.1.1
  reinit_made (x ∷ y ∷ z ∷ w) a h = (
    sees none_noted,
    (fair (calls.Reinit d) none_noted, tt),
    h.0,
    (
      sees (notes none_noted x),
      (fair (calls.Reinit d) (notes none_noted x), tt),
      h.1.0,
      (
        sees (notes (notes none_noted x) y),
        (fair (calls.Reinit d) (notes (notes none_noted x) y), tt),
        h.1.1.0,
        h.1.1.1,
      ),
    ),
  )
