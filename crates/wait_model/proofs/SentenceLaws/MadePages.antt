-- The program of a wait for a page makes whatever follows its sentence.
use Rattle.std.proofs.Common.{refl, sym, ap, ◌∙◌, subst}
use Rattle.std.specs.Prelude.{ℕ, zero, suc, ◌≡◌, Bool, true, false, not, List, [], ◌∷◌, if◌then◌else◌}
use Rattle.wait_model.specs.{declared.calls.Call.Call, declared.calls.Event.Event, declared.calls.Answer.Answer}
use Rattle.wait_model.specs.{declared.points.Point.Point, declared.tasks.SleepState.SleepState}
use Rattle.wait_model.specs.{declared.points.FinishPoint.FinishPoint, declared.points.PagePoint.PagePoint}
use Rattle.wait_model.specs.{Tasks.looks_in, Words.bit_at, Words.flag, SentenceSteps.number, Sentences.Follows}
use Rattle.wait_model.specs.{Making.Makes, Findings.Noted, Findings.none_noted}
use Rattle.wait_model.specs.Programs.{program_start, go, ends_with, zero_answer, page_last}
use Rattle.wait_model.specs.declared.calls.Call.TheVariants as calls
use Rattle.wait_model.specs.declared.calls.Event.TheVariants as event
use Rattle.wait_model.specs.declared.calls.Answer.TheVariants as answer
use Rattle.wait_model.specs.declared.points.Point.TheVariants as at
use Rattle.wait_model.specs.declared.points.FinishPoint.TheVariants as finishing
use Rattle.wait_model.specs.declared.points.PagePoint.TheVariants as paging
use Rattle.wait_model.specs.Phrases.{Rest, gives, finds, when◌then◌otherwise◌, ends}
use Rattle.wait_model.proofs.SentenceLaws.SentencePages as tries
use Rattle.wait_model.proofs.SentenceLaws.StepEnds.{valued}
use Rattle.wait_model.proofs.SentenceLaws.MadeFindings.{sees, fair, shown, looking, sleeping}
use Rattle.wait_model.proofs.SentenceLaws.MadeEvents.{Leads, MakesFirst, all_made, made_full, made_queued}

module _ (me p : ℕ) (st : SleepState) where
  abbrev locker : Call
  locker = calls.LockPage p st

  -- it has queued its entry
  abbrev KeptAt : Noted → PagePoint → Type 0
  KeptAt m paging.Try = m.queued ≡ true
  KeptAt m (paging.Unlock false) = m.queued ≡ true
  KeptAt m paging.State = m.queued ≡ true
  KeptAt m paging.Flag = m.queued ≡ true
  KeptAt m paging.Look = (m.queued ≡ true) × (looks_in st ≡ true)
  KeptAt m paging.Sleep = m.queued ≡ true
  KeptAt m (paging.Finish q) = m.queued ≡ true
  KeptAt m _ = Unit {0}

  abbrev Kept : Noted → Point → Type 0
  Kept m (at.Page q) = KeptAt m q
  Kept m at.Worn = Unit {0}
  Kept m _ = ⊥

  abbrev Left : Noted → Point → Rest
  Left m q v a = Kept m q × tries.page_rest me p st m q v a

  abbrev tas : Bool → Event
  tas was_set = event.Tas p 0 (flag was_set)

  -- a value in which the page stands so
  by_bit : (P : Bool → Type 0) (was_set : Bool) → P was_set → (value : ℕ) × P (bit_at value 0)
  by_bit P was_set h = let (value, q) = valued 0 was_set in (value, subst P (sym q) h)

  first_back : (m : Noted) (was_set : Bool) (v : List Event) (a : Answer) → tries.begun me p st (not was_set) v a
      → Leads Left m (tas was_set) (if was_set then go (tas was_set) (at.Page paging.Unflag)
      else ends_with (tas was_set) zero_answer) v a
  first_back m true v a h = (refl, (tt, h))
  first_back m false v a h = (refl, h)

  worn_back : (m : Noted) (was_set : Bool) (v : List Event) (a : Answer)
      → ends (if not was_set then number 0 else answer.Worn) v a
      → Leads Left m (tas was_set) (if was_set then ends_with (tas was_set) answer.Worn
      else ends_with (tas was_set) zero_answer) v a
  worn_back m true v a h = (refl, h)
  worn_back m false v a h = (refl, h)

  try_back : (m : Noted) (was_set : Bool) → m.queued ≡ true → (v : List Event) (a : Answer)
      → tries.tried_by me p st (not was_set) v a
      → Leads Left m (tas was_set) (go (tas was_set)
      (at.Page (if was_set then paging.Unlock false else paging.Off))) v a
  try_back m true q v a h = (refl, (q, h))
  try_back m false q v a h = (refl, (tt, h))

  looks_back : (m : Noted) (n : ℕ) (k : Bool) → looks_in st ≡ k → m.queued ≡ true → (v : List Event) (a : Answer)
      → (when k then finds event.Look otherwise gives false) (tries.signalled me p st n) v a
      → Left m (at.Page (if k then paging.Look else paging.Sleep)) v a
  looks_back m n true l q v a h = ((q, l), (n, h))
  looks_back m n false l q v a h = (q, (n, h))

  flag_back : (m : Noted) (n : ℕ) (hit : Bool) → m.queued ≡ true → (v : List Event) (a : Answer)
      → tries.flagged me p st n hit v a
      → Left (record m { loaded = false }) (at.Page (if hit then paging.Finish finishing.State
      else if looks_in st then paging.Look else paging.Sleep)) v a
  flag_back m n true q v a h = (q, h)
  flag_back m n false q v a h = looks_back (record m { loaded = false }) n (looks_in st) refl q v a h

  look_back : (m : Noted) (n : ℕ) (hit : Bool) → m.queued ≡ true → (v : List Event) (a : Answer)
      → tries.signalled me p st n hit v a
      → Left m (at.Page (if hit then paging.Finish finishing.State else paging.Sleep)) v a
  look_back m n true q v a h = (q, h)
  look_back m n false q v a h = (q, (n, h))

  last_back : (m : Noted) (hit : Bool) (x : Event) (v : List Event) (a : Answer)
      → (x ≡ event.Flag hit) × tries.told me p st hit v a → Leads Left m x (page_last hit) v a
  last_back m true x v a h = (h.0, (tt, h.1))
  last_back m false x v a h = (h.0, h.1)

  finish_back : (q : FinishPoint) (m : Noted) → m.queued ≡ true → (x : Event) (v : List Event) (a : Answer)
      → tries.point_rest me p st (paging.Finish q) (x ∷ v) a
      → MakesFirst me locker Left m (at.Page (paging.Finish q)) x v a
  finish_back finishing.State m k x v a h = (sees m, (fair locker m, tt), (h.0, (k, h.1)))
  finish_back finishing.Look m k x v a (true, h) =
      made_queued me locker Left m (at.Page (paging.Finish finishing.Look)) x v a k tt (h.0, (k, h.1))
  finish_back finishing.Look m k x v a (false, h) = (sees m, (fair locker m, tt), (h.0, (tt, h.1)))
  finish_back finishing.Lock m k x v a h = (sees m, (fair locker m, tt), (h.0, (k, h.1)))
  finish_back finishing.Queue m k x v a (true, h) =
      made_queued me locker Left m (at.Page (paging.Finish finishing.Queue)) x v a k tt (h.0, (k, h.1))
  finish_back finishing.Queue m k x v a (false, h) = (sees m, (fair locker m, tt), (h.0, (tt, h.1)))
  finish_back finishing.Unlock m k x v a h = (sees m, (fair locker m, tt), (h.0, (tt, h.1)))

  stored_back : (m : Noted) (n : ℕ) → m.queued ≡ true → (x : Event) (v : List Event) (a : Answer)
      → tries.stored me p st n (x ∷ v) a → MakesFirst me locker Left m (at.Page paging.State) x v a
  stored_back m zero q x v a h = absurd h
  stored_back m (suc n) q x v a h = (sees m, (fair locker m, tt), (h.0, (q, (n, h.1))))

  queue_back : (m : Noted) (x : Event) (v : List Event) (a : Answer) → tries.puts me p st (x ∷ v) a
      → MakesFirst me locker Left m (at.Page paging.Queue) x v a
  queue_back m x v a (true, h) =
      made_full me locker Left m (at.Page paging.Queue) x v a tt (h.0, (tt, h.1))
  queue_back m x v a (false, h) = (sees m, (fair locker m, tt), (h.0, (refl, h.1)))

  point_back : (q : PagePoint) (m : Noted) (x : Event) (v : List Event) (a : Answer) → Left m (at.Page q) (x ∷ v) a
      → MakesFirst me locker Left m (at.Page q) x v a
  point_back paging.First m x v a h =
      let (value, y) = by_bit (λ k. Leads Left m (tas h.1.0) (if k
      then go (tas k) (at.Page paging.Unflag)
      else ends_with (tas k) zero_answer) v a) h.1.0 (first_back m h.1.0 v a h.1.1.1) in
      (record (sees m) { value = value }, (shown locker m value refl, tt), (h.1.1.0 ∙ y.0, y.1))
  point_back paging.Unflag m x v a h = (sees m, (fair locker m, tt), (h.1.0, (tt, h.1.1)))
  point_back paging.Lock m x v a h = (sees m, (fair locker m, tt), (h.1.0, (tt, h.1.1)))
  point_back paging.Queue m x v a h = queue_back m x v a h.1
  point_back paging.Try m x v a h =
      let (value, y) = by_bit (λ k. Leads Left m (tas h.1.0) (go (tas k)
      (at.Page (if k then paging.Unlock false else paging.Off))) v a) h.1.0 (try_back m h.1.0 h.0 v a h.1.1.1) in
      (record (sees m) { value = value }, (shown locker m value refl, tt), (h.1.1.0 ∙ y.0, y.1))
  point_back paging.Off m x v a h = (sees m, (fair locker m, tt), (h.1.0, (tt, h.1.1)))
  point_back (paging.Unlock true) m x v a h = (sees m, (fair locker m, tt), (h.1.0, h.1.1))
  point_back (paging.Unlock false) m x v a h = (sees m, (fair locker m, tt), (h.1.0, (h.0, h.1.1)))
  point_back paging.State m x v a h = stored_back m h.1.0 h.0 x v a h.1.1
  point_back paging.Flag m x v a h = (
    record (sees m) { flag = h.1.1.0 },
    (fair locker m, tt),
    (h.1.1.1.0, flag_back m h.1.0 h.1.1.0 h.0 v a h.1.1.1.1),
  )
  point_back paging.Look m x v a h =
      let (t, q) = looking st h.0.1 h.1.1.0 in (
        record (sees m) { own = t },
        (fair locker m, tt),
        (
          h.1.1.1.0 ∙ ap event.Look (sym q),
          subst (λ (k : Bool). Left m (at.Page (if k then paging.Finish finishing.State else paging.Sleep)) v a)
              (sym q) (look_back m h.1.0 h.1.1.0 h.0.0 v a h.1.1.1.1),
        ),
      )
  point_back paging.Sleep m x v a h =
      let (t, q) = sleeping h.1.1.0 in (
        record (sees m) { own = t },
        (fair locker m, tt),
        (h.1.1.1.0 ∙ ap event.Sleep (sym q), (h.0, (h.1.0, h.1.1.1.1))),
      )
  point_back (paging.Finish q) m x v a h = finish_back q m h.0 x v a h.1
  point_back paging.Last m x v a h =
      (record (sees m) { flag = h.1.0 }, (fair locker m, tt), last_back m h.1.0 x v a h.1.1)
  point_back paging.Clear m x v a h = (sees m, (fair locker m, tt), (h.1.0, h.1.1))

  back : (q : Point) (m : Noted) (x : Event) (v : List Event) (a : Answer) → Left m q (x ∷ v) a
      → MakesFirst me locker Left m q x v a
  back (at.Page q) m x v a h = point_back q m x v a h
  back at.Worn m x v a h =
      let (value, y) = by_bit (λ k. Leads Left m (tas h.1.0) (if k
      then ends_with (tas k) answer.Worn
      else ends_with (tas k) zero_answer) v a) h.1.0 (worn_back m h.1.0 v a h.1.1.1) in
      (record (sees m) { value = value }, (shown locker m value refl, tt), (h.1.1.0 ∙ y.0, y.1))
  back q m x v a h = absurd h.0

  point_none : (q : PagePoint) (m : Noted) (a : Answer) → Left m (at.Page q) [] a → ⊥
  point_none paging.First m a h = h.1.1
  point_none paging.Unflag m a h = h.1
  point_none paging.Lock m a h = h.1
  point_none paging.Queue m a (k, (true, h)) = h
  point_none paging.Queue m a (k, (false, h)) = h
  point_none paging.Try m a h = h.1.1
  point_none paging.Off m a h = h.1
  point_none (paging.Unlock true) m a h = h.1
  point_none (paging.Unlock false) m a h = h.1
  point_none paging.State m a h = turned h.1.0 h.1.1
    where
      turned : (n : ℕ) → tries.stored me p st n [] a → ⊥
      turned zero h = h
      turned (suc n) h = h
  point_none paging.Flag m a h = h.1.1.1
  point_none paging.Look m a h = h.1.1.1
  point_none paging.Sleep m a h = h.1.1.1
  point_none (paging.Finish finishing.State) m a h = h.1
  point_none (paging.Finish finishing.Look) m a h = h.1.1
  point_none (paging.Finish finishing.Lock) m a h = h.1
  point_none (paging.Finish finishing.Queue) m a (k, (true, h)) = h
  point_none (paging.Finish finishing.Queue) m a (k, (false, h)) = h
  point_none (paging.Finish finishing.Unlock) m a h = h.1
  point_none paging.Last m a h = h.1.1
  point_none paging.Clear m a h = h.1

  nothing : (q : Point) (m : Noted) (a : Answer) → Left m q [] a → ⊥
  nothing (at.Page q) m a h = point_none q m a h
  nothing at.Worn m a h = h.1.1
  nothing q m a h = h.0

  pub lock_page_made : (v : List Event) (a : Answer) → Follows me locker v a
      → Makes me locker none_noted (program_start locker) v a
  lock_page_made v a h = all_made me locker Left nothing back v none_noted (at.Page paging.First) a (tt, h)
