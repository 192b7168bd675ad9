-- The programs of waits for a bit make whatever follows their sentences.
use Rattle.std.proofs.Common.{refl, sym, ap, ◌∙◌, subst}
use Rattle.std.specs.Prelude.{ℕ, zero, suc, ◌≡◌, Bool, true, false, not, List, [], ◌∷◌, if◌then◌else◌, ◌&&◌}
use Rattle.wait_model.specs.{declared.calls.Call.Call, declared.calls.Event.Event, declared.calls.Answer.Answer}
use Rattle.wait_model.specs.{declared.points.Point.Point, declared.tasks.SleepState.SleepState}
use Rattle.wait_model.specs.{declared.points.FinishPoint.FinishPoint, Tasks.looks_in, Words.bit_at, Words.flag}
use Rattle.wait_model.specs.{Watches.number_of, Watches.misses, Phrases.leaves, Sentences.Follows, Making.Makes}
use Rattle.wait_model.specs.{Findings.Noted, Findings.none_noted}
use Rattle.wait_model.specs.Programs.{program_start, go, ends_with, zero_answer, interrupted}
use Rattle.wait_model.specs.SentenceSteps.{number, minus_4, acts, enters, finishes}
use Rattle.wait_model.specs.declared.calls.Call.TheVariants as calls
use Rattle.wait_model.specs.declared.calls.Event.TheVariants as event
use Rattle.wait_model.specs.declared.calls.Answer.TheVariants as answer
use Rattle.wait_model.proofs.{SentenceLaws.SentenceWaits.finish_rest, SentenceLaws.StepEnds.valued}
use Rattle.wait_model.proofs.SentenceLaws.MadeFindings.{sees, fair, shown, looking, sleeping}
use Rattle.wait_model.proofs.SentenceLaws.MadeEvents.{Leads, MakesFirst, all_made, enters_none, made_full, made_queued}
use Rattle.wait_model.specs.declared.watches.Watch.TheVariants as watch
use Rattle.wait_model.specs.declared.points.Point.TheVariants as at
use Rattle.wait_model.specs.declared.queues.Form.TheVariants as forms
use Rattle.wait_model.specs.declared.points.PreparePoint.TheVariants as preparing
use Rattle.wait_model.specs.declared.points.FinishPoint.TheVariants as finishing
use Rattle.wait_model.specs.declared.points.BitPoint.TheVariants as biting
use Rattle.wait_model.specs.Phrases.{Rest, ◌>>◌, gives, finds, when◌then◌otherwise◌, turns, repeat, ends, repeats}
use Rattle.wait_model.proofs.SentenceLaws.SentenceBits as tries

module _ (me w b : ℕ) (st : SleepState) where
  abbrev waiter : Call
  waiter = calls.WaitBit w b st

  abbrev KeptW : Noted → Point → Type 0
  KeptW m (at.Prepare preparing.Lock) = Unit {0}
  KeptW m (at.Prepare preparing.Queue) = Unit {0}
  KeptW m (at.Prepare preparing.State) = m.queued ≡ true
  KeptW m (at.Prepare preparing.Unlock) = m.queued ≡ true
  KeptW m (at.Bit biting.First) = Unit {0}
  KeptW m (at.Bit biting.Load) = m.queued ≡ true
  KeptW m (at.Bit biting.Sleep) = m.queued ≡ true
  KeptW m (at.Bit biting.Look) = (m.queued ≡ true) × (looks_in st ≡ true)
  KeptW m (at.Bit (biting.Again failed)) = m.queued ≡ true
  KeptW m at.Worn = Unit {0}
  KeptW m (at.Finish finishing.State failed) = Unit {0}
  KeptW m (at.Finish finishing.Look failed) = Unit {0}
  KeptW m (at.Finish p failed) = m.queued ≡ true
  KeptW m _ = ⊥

  abbrev LeftW : Noted → Point → Rest
  LeftW m p v a = KeptW m p × tries.wait_rest me w b st m p v a

  abbrev EntW : Bool → ℕ → Bool → Rest
  EntW k n = tries.entered me w b st k n

  abbrev ActW : ℕ → Bool → Rest
  ActW n failed = tries.acted me w b st n failed

  enter_w : (m : Noted) (n : ℕ) (k : Bool) → m.queued ≡ k → (x : Event) (v : List Event) (a : Answer)
      → enters (watch.Bit w b) st forms.Front k (EntW k n) (x ∷ v) a
      → MakesFirst me waiter LeftW m (at.Prepare preparing.Queue) x v a
  enter_w m n true q x v a (false, (false, h)) = (sees m, (fair waiter m, tt), (h.0, (refl, (n, h.1))))
  enter_w m n true q x v a (false, (true, h)) =
      made_full me waiter LeftW m (at.Prepare preparing.Queue) x v a tt
      (h.0, (tt, (n, subst (λ (c : Bool). tries.worn me w b st c n v a) (sym q) h.1)))
  enter_w m n true q x v a (true, h) =
      made_queued me waiter LeftW m (at.Prepare preparing.Queue) x v a q tt (h.0, (q, (n, h.1)))
  enter_w m n false q x v a (false, h) = (sees m, (fair waiter m, tt), (h.0, (refl, (n, h.1))))
  enter_w m n false q x v a (true, h) =
      made_full me waiter LeftW m (at.Prepare preparing.Queue) x v a tt
      (h.0, (tt, (n, subst (λ (c : Bool). tries.worn me w b st c n v a) (sym q) h.1)))

  locked_w : (m : Noted) (n : ℕ) (x : Event) (v : List Event) (a : Answer)
      → turns n (tries.body me w b st) m.queued ends (x ∷ v) a
      → MakesFirst me waiter LeftW m (at.Prepare preparing.Lock) x v a
  locked_w m zero x v a h = absurd h
  locked_w m (suc n) x v a h = (sees m, (fair waiter m, tt), (h.0, (tt, (n, h.1))))

  load_w : (m : Noted) (n value : ℕ) (miss : Bool) → m.queued ≡ true → (v : List Event) (a : Answer)
      → (when not miss then gives false otherwise acts st) (ActW n) v a
      → Leads LeftW m (event.Load (number_of (watch.Bit w b)) value) (go (event.Load (number_of (watch.Bit w b)) value)
      (at.Bit (if miss then biting.Sleep else biting.Again false))) v a
  load_w m n value true q v a h = (refl, (q, (n, h)))
  load_w m n value false q v a h = (refl, (q, (n, h)))

  slept_w : (m : Noted) (n : ℕ) (k : Bool) → looks_in st ≡ k → m.queued ≡ true → (v : List Event) (a : Answer)
      → (when k then finds event.Look otherwise gives false) (ActW n) v a
      → LeftW (record m { loaded = false }) (at.Bit (if k then biting.Look else biting.Again false)) v a
  slept_w m n true l q v a h = ((q, l), (n, h))
  slept_w m n false l q v a h = (q, (n, h))

  look_w : (m : Noted) (n : ℕ) (hit : Bool) → m.queued ≡ true → (v : List Event) (a : Answer) → ActW n hit v a
      → LeftW m (if hit && false then at.Finish finishing.State true else at.Bit (biting.Again hit)) v a
  look_w m n true q v a h = (q, (n, h))
  look_w m n false q v a h = (q, (n, h))

  again_w : (m : Noted) (n value : ℕ) (miss failed : Bool) → m.queued ≡ true → (v : List Event) (a : Answer)
      → tries.answered_by me w b st n failed (not miss) v a
      → Leads LeftW m (event.Load (number_of (watch.Bit w b)) value) (go (event.Load (number_of (watch.Bit w b)) value)
      (if miss && not failed then at.Prepare preparing.Lock else at.Finish finishing.State failed)) v a
  again_w m n value true false q v a h =
      (refl, (tt, (n, subst (λ (k : Bool). turns n (tries.body me w b st) k ends v a) (sym q) h)))
  again_w m n value true true q v a h =
      (refl, (tt, subst (λ (c : Bool). finish_rest me waiter c finishing.State (ends minus_4) v a) (sym q) h))
  again_w m n value false false q v a h =
      (refl, (tt, subst (λ (c : Bool). finish_rest me waiter c finishing.State (ends (number 0)) v a) (sym q) h))
  again_w m n value false true q v a h =
      (refl, (tt, subst (λ (c : Bool). finish_rest me waiter c finishing.State (ends minus_4) v a) (sym q) h))

  first_w : (m : Noted) (value : ℕ) (miss : Bool) (v : List Event) (a : Answer)
      → (when not miss then gives (number 0)
      otherwise repeat (tries.body me w b st) m.queued) ends v a
      → Leads LeftW m (event.Load (number_of (watch.Bit w b)) value) (if miss
      then go (event.Load (number_of (watch.Bit w b)) value) (at.Prepare preparing.Lock)
      else ends_with (event.Load (number_of (watch.Bit w b)) value) zero_answer) v a
  first_w m value true v a h = (refl, (tt, h))
  first_w m value false v a h = (refl, h)

  look_back_w : (failed : Bool) (m : Noted) (k : Bool) → m.queued ≡ k → (x : Event) (v : List Event) (a : Answer)
      → finish_rest me waiter k finishing.Look (ends (if failed then minus_4 else number 0)) (x ∷ v) a
      → MakesFirst me waiter LeftW m (at.Finish finishing.Look failed) x v a
  look_back_w failed m true q x v a (true, h) =
      made_queued me waiter LeftW m (at.Finish finishing.Look failed) x v a q tt (h.0, (q, h.1))
  look_back_w true m true q x v a (false, h) = (sees m, (fair waiter m, tt), (h.0, h.1))
  look_back_w false m true q x v a (false, h) = (sees m, (fair waiter m, tt), (h.0, h.1))
  look_back_w true m false q x v a h = (sees m, (fair waiter m, tt), (h.0, h.1))
  look_back_w false m false q x v a h = (sees m, (fair waiter m, tt), (h.0, h.1))

  finish_w : (p : FinishPoint) (failed : Bool) (m : Noted) → KeptW m (at.Finish p failed)
      → (x : Event) (v : List Event) (a : Answer)
      → tries.wait_rest me w b st m (at.Finish p failed) (x ∷ v) a
      → MakesFirst me waiter LeftW m (at.Finish p failed) x v a
  finish_w finishing.State failed m k x v a h = (sees m, (fair waiter m, tt), (h.0, (tt, h.1)))
  finish_w finishing.Look failed m k x v a h = look_back_w failed m m.queued refl x v a h
  finish_w finishing.Lock failed m k x v a h = (sees m, (fair waiter m, tt), (h.0, (k, h.1)))
  finish_w finishing.Queue failed m k x v a (true, h) =
      made_queued me waiter LeftW m (at.Finish finishing.Queue failed) x v a k tt (h.0, (k, h.1))
  finish_w finishing.Queue true m k x v a (false, h) = (sees m, (fair waiter m, tt), (h.0, h.1))
  finish_w finishing.Queue false m k x v a (false, h) = (sees m, (fair waiter m, tt), (h.0, h.1))
  finish_w finishing.Unlock true m k x v a h = (sees m, (fair waiter m, tt), (h.0, h.1))
  finish_w finishing.Unlock false m k x v a h = (sees m, (fair waiter m, tt), (h.0, h.1))

  worn_w : (m : Noted) (n value : ℕ) (miss : Bool) (v : List Event) (a : Answer)
      → tries.worn_by me w b st m.queued n (not miss) v a
      → Leads LeftW m (event.Load (number_of (watch.Bit w b)) value) (if miss
      then ends_with (event.Load (number_of (watch.Bit w b)) value) answer.Worn
      else go (event.Load (number_of (watch.Bit w b)) value) (at.Finish finishing.State false)) v a
  worn_w m n value true v a h = (refl, h)
  worn_w m n value false v a h = (refl, (tt, h))

  back_w : (p : Point) (m : Noted) (x : Event) (v : List Event) (a : Answer) → LeftW m p (x ∷ v) a
      → MakesFirst me waiter LeftW m p x v a
  back_w (at.Prepare preparing.Lock) m x v a h = locked_w m h.1.0 x v a h.1.1
  back_w (at.Prepare preparing.Look) m x v a h = absurd h.0
  back_w (at.Prepare preparing.Queue) m x v a h = enter_w m h.1.0 m.queued refl x v a h.1.1
  back_w (at.Prepare preparing.State) m x v a h = (sees m, (fair waiter m, tt), (h.1.1.0, (h.0, (h.1.0, h.1.1.1))))
  back_w (at.Prepare preparing.Unlock) m x v a h = (sees m, (fair waiter m, tt), (h.1.1.0, (h.0, (h.1.0, h.1.1.1))))
  back_w at.Worn m x v a h =
      let y = worn_w m h.1.0 h.1.1.0 (misses (watch.Bit w b) h.1.1.0) v a h.1.1.1.1 in
      (record (sees m) { value = h.1.1.0 }, (shown waiter m h.1.1.0 refl, tt), (h.1.1.1.0 ∙ y.0, y.1))
  back_w (at.Bit biting.Load) m x v a h =
      let y = load_w m h.1.0 h.1.1.0 (misses (watch.Bit w b) h.1.1.0) h.0 v a h.1.1.1.1 in
      (record (sees m) { value = h.1.1.0 }, (shown waiter m h.1.1.0 refl, tt), (h.1.1.1.0 ∙ y.0, y.1))
  back_w (at.Bit biting.Sleep) m x v a h =
      let (t, q) = sleeping h.1.1.0 in (
        record (sees m) { own = t },
        (fair waiter m, tt),
        (h.1.1.1.0 ∙ ap event.Sleep (sym q), slept_w m h.1.0 (looks_in st) refl h.0 v a h.1.1.1.1),
      )
  back_w (at.Bit biting.First) m x v a h =
      let y = first_w m h.1.0 (misses (watch.Bit w b) h.1.0) v a h.1.1.1 in
      (record (sees m) { value = h.1.0 }, (shown waiter m h.1.0 refl, tt), (h.1.1.0 ∙ y.0, y.1))
  back_w (at.Bit biting.Look) m x v a h =
      let (t, q) = looking st h.0.1 h.1.1.0 in (
        record (sees m) { own = t },
        (fair waiter m, tt),
        (
          h.1.1.1.0 ∙ ap event.Look (sym q),
          subst (λ (k : Bool). LeftW m (if k && false
              then at.Finish finishing.State true else at.Bit (biting.Again k)) v a) (sym q)
              (look_w m h.1.0 h.1.1.0 h.0.0 v a h.1.1.1.1),
        ),
      )
  back_w (at.Bit (biting.Again failed)) m x v a h =
      let y = again_w m h.1.0 h.1.1.0 (misses (watch.Bit w b) h.1.1.0) failed h.0 v a h.1.1.1.1 in
      (record (sees m) { value = h.1.1.0 }, (shown waiter m h.1.1.0 refl, tt), (h.1.1.1.0 ∙ y.0, y.1))
  back_w (at.Finish p failed) m x v a h = finish_w p failed m h.0 x v a h.1
  back_w p m x v a h = absurd h.0

  nothing_w : (p : Point) (m : Noted) (a : Answer) → LeftW m p [] a → ⊥
  nothing_w (at.Prepare preparing.Lock) m a h = locked h.1.0 h.1.1
    where
      locked : (n : ℕ) → turns n (tries.body me w b st) m.queued ends [] a → ⊥
      locked zero h = h
      locked (suc n) h = h
  nothing_w (at.Prepare preparing.Look) m a h = h.0
  nothing_w (at.Prepare preparing.Queue) m a h =
      enters_none (watch.Bit w b) st forms.Front m.queued (EntW m.queued h.1.0) a h.1.1
  nothing_w (at.Prepare preparing.State) m a h = h.1.1
  nothing_w (at.Prepare preparing.Unlock) m a h = h.1.1
  nothing_w (at.Bit biting.First) m a h = h.1.1
  nothing_w (at.Bit biting.Load) m a h = h.1.1.1
  nothing_w (at.Bit biting.Sleep) m a h = h.1.1.1
  nothing_w (at.Bit biting.Look) m a h = h.1.1.1
  nothing_w (at.Bit (biting.Again failed)) m a h = h.1.1.1
  nothing_w (at.Finish finishing.State failed) m a h = h.1
  nothing_w (at.Finish finishing.Look failed) m a h = looked m.queued h.1
    where
      looked : (k : Bool) → finish_rest me waiter k finishing.Look (ends (if failed then minus_4 else number 0)) [] a
          → ⊥
      looked true x = x.1
      looked false x = x
  nothing_w (at.Finish finishing.Lock failed) m a h = h.1
  nothing_w (at.Finish finishing.Queue failed) m a (k, (true, h)) = h
  nothing_w (at.Finish finishing.Queue failed) m a (k, (false, h)) = h
  nothing_w (at.Finish finishing.Unlock failed) m a h = h.1
  nothing_w at.Worn m a h = h.1.1.1
  nothing_w p m a h = h.0

  pub wait_bit_made : (v : List Event) (a : Answer) → Follows me waiter v a
      → Makes me waiter none_noted (program_start waiter) v a
  wait_bit_made v a h = all_made me waiter LeftW nothing_w back_w v none_noted (at.Bit biting.First) a (tt, h)

module _ (me w b : ℕ) (st : SleepState) where
  abbrev locker : Call
  locker = calls.LockBit w b st

  abbrev KeptL : Noted → Point → Type 0
  KeptL m (at.Prepare preparing.Lock) = Unit {0}
  KeptL m (at.Prepare preparing.Queue) = Unit {0}
  KeptL m (at.Prepare preparing.State) = m.queued ≡ true
  KeptL m (at.Prepare preparing.Unlock) = m.queued ≡ true
  KeptL m (at.Bit biting.First) = Unit {0}
  KeptL m (at.Bit biting.Load) = m.queued ≡ true
  KeptL m (at.Bit biting.Sleep) = m.queued ≡ true
  KeptL m (at.Bit biting.Look) = (m.queued ≡ true) × (looks_in st ≡ true)
  KeptL m (at.Bit (biting.Again false)) = m.queued ≡ true
  KeptL m (at.Bit biting.Last) = Unit {0}
  KeptL m at.Worn = Unit {0}
  KeptL m (at.Finish p failed) = m.queued ≡ true
  KeptL m _ = ⊥

  abbrev LeftL : Noted → Point → Rest
  LeftL m p v a = KeptL m p × tries.lock_rest me w b st m p v a

  abbrev EntL : ℕ → Bool → Rest
  EntL n = tries.added me w b st n

  abbrev ActL : ℕ → Bool → Rest
  ActL n failed = tries.answered me w b st n failed

  enter_l : (m : Noted) (n : ℕ) (k : Bool) → m.queued ≡ k → (x : Event) (v : List Event) (a : Answer)
      → enters (watch.Bit w b) st forms.Tail k (EntL n) (x ∷ v) a
      → MakesFirst me locker LeftL m (at.Prepare preparing.Queue) x v a
  enter_l m n true q x v a (false, (false, h)) = (sees m, (fair locker m, tt), (h.0, (refl, (n, h.1))))
  enter_l m n true q x v a (false, (true, h)) =
      made_full me locker LeftL m (at.Prepare preparing.Queue) x v a tt (h.0, (tt, h.1))
  enter_l m n true q x v a (true, h) =
      made_queued me locker LeftL m (at.Prepare preparing.Queue) x v a q tt (h.0, (q, (n, h.1)))
  enter_l m n false q x v a (false, h) = (sees m, (fair locker m, tt), (h.0, (refl, (n, h.1))))
  enter_l m n false q x v a (true, h) =
      made_full me locker LeftL m (at.Prepare preparing.Queue) x v a tt (h.0, (tt, h.1))

  locked_l : (m : Noted) (n : ℕ) (x : Event) (v : List Event) (a : Answer)
      → turns n (tries.round me w b st) m.queued ends (x ∷ v) a
      → MakesFirst me locker LeftL m (at.Prepare preparing.Lock) x v a
  locked_l m zero x v a h = absurd h
  locked_l m (suc n) x v a h = (sees m, (fair locker m, tt), (h.0, (tt, (n, h.1))))

  load_l : (m : Noted) (n value : ℕ) (miss : Bool) → m.queued ≡ true → (v : List Event) (a : Answer)
      → (when not miss then gives false otherwise acts st) (ActL n) v a
      → Leads LeftL m (event.Load (number_of (watch.Bit w b)) value) (go (event.Load (number_of (watch.Bit w b)) value)
      (at.Bit (if miss then biting.Sleep else biting.Again false))) v a
  load_l m n value true q v a h = (refl, (q, (n, h)))
  load_l m n value false q v a h = (refl, (q, (n, h)))

  slept_l : (m : Noted) (n : ℕ) (k : Bool) → looks_in st ≡ k → m.queued ≡ true → (v : List Event) (a : Answer)
      → (when k then finds event.Look otherwise gives false) (ActL n) v a
      → LeftL (record m { loaded = false }) (at.Bit (if k then biting.Look else biting.Again false)) v a
  slept_l m n true l q v a h = ((q, l), (n, h))
  slept_l m n false l q v a h = (q, (n, h))

  look_l : (m : Noted) (n : ℕ) (hit : Bool) → m.queued ≡ true → (v : List Event) (a : Answer) → ActL n hit v a
      → LeftL m (if hit && true then at.Finish finishing.State true else at.Bit (biting.Again hit)) v a
  look_l m n true q v a h = (q, h)
  look_l m n false q v a h = (q, (n, h))

  again_l : (m : Noted) (n : ℕ) (was_set : Bool) → m.queued ≡ true → (v : List Event) (a : Answer)
      → (when not was_set then (do finishes me (watch.Bit w b) true; gives (leaves (number 0))) otherwise gives
      (repeats true)) (tries.past me w b st n) v a
      → Leads LeftL m (event.Tas w b (flag was_set)) (go (event.Tas w b (flag was_set))
      (if was_set && true then at.Prepare preparing.Lock else at.Finish finishing.State false)) v a
  again_l m n true q v a h =
      (refl, (tt, (n, subst (λ (k : Bool). turns n (tries.round me w b st) k ends v a) (sym q) h)))
  again_l m n false q v a h = (refl, (q, h))

  first_l : (m : Noted) (was_set : Bool) (v : List Event) (a : Answer)
      → (when not was_set then gives (number 0) otherwise repeat (tries.round me w b st) m.queued) ends v a
      → Leads LeftL m (event.Tas w b (flag was_set)) (if was_set
      then go (event.Tas w b (flag was_set)) (at.Prepare preparing.Lock)
      else ends_with (event.Tas w b (flag was_set)) zero_answer) v a
  first_l m true v a h = (refl, (tt, h))
  first_l m false v a h = (refl, h)

  worn_l : (m : Noted) (was_set : Bool) (v : List Event) (a : Answer)
      → ends (if not was_set then number 0 else answer.Worn) v a
      → Leads LeftL m (event.Tas w b (flag was_set)) (if was_set
      then ends_with (event.Tas w b (flag was_set)) answer.Worn
      else ends_with (event.Tas w b (flag was_set)) zero_answer) v a
  worn_l m true v a h = (refl, h)
  worn_l m false v a h = (refl, h)

  last_l : (m : Noted) (was_set : Bool) (v : List Event) (a : Answer)
      → ends (if not was_set then number 0 else minus_4) v a
      → Leads LeftL m (event.Tas w b (flag was_set)) (ends_with (event.Tas w b (flag was_set)) (if was_set
      then interrupted else zero_answer)) v a
  last_l m true v a h = (refl, h)
  last_l m false v a h = (refl, h)

  -- a value in which the bit stands so
  by_bit : (P : Bool → Type 0) (was_set : Bool) → P was_set → (value : ℕ) × P (bit_at value b)
  by_bit P was_set h = let (value, q) = valued b was_set in (value, subst P (sym q) h)

  finish_l : (p : FinishPoint) (failed : Bool) (m : Noted) → m.queued ≡ true → (x : Event) (v : List Event) (a : Answer)
      → tries.lock_rest me w b st m (at.Finish p failed) (x ∷ v) a
      → MakesFirst me locker LeftL m (at.Finish p failed) x v a
  finish_l finishing.State true m k x v a h = (sees m, (fair locker m, tt), (h.0, (k, h.1)))
  finish_l finishing.Look true m k x v a (true, h) =
      made_queued me locker LeftL m (at.Finish finishing.Look true) x v a k tt (h.0, (k, h.1))
  finish_l finishing.Look true m k x v a (false, h) = (sees m, (fair locker m, tt), (h.0, (tt, h.1)))
  finish_l finishing.Lock true m k x v a h = (sees m, (fair locker m, tt), (h.0, (k, h.1)))
  finish_l finishing.Queue true m k x v a (true, h) =
      made_queued me locker LeftL m (at.Finish finishing.Queue true) x v a k tt (h.0, (k, h.1))
  finish_l finishing.Queue true m k x v a (false, h) = (sees m, (fair locker m, tt), (h.0, (tt, h.1)))
  finish_l finishing.Unlock true m k x v a h = (sees m, (fair locker m, tt), (h.0, (tt, h.1)))
  finish_l finishing.State false m k x v a h = (sees m, (fair locker m, tt), (h.0, (k, h.1)))
  finish_l finishing.Look false m k x v a (true, h) =
      made_queued me locker LeftL m (at.Finish finishing.Look false) x v a k tt (h.0, (k, h.1))
  finish_l finishing.Look false m k x v a (false, h) = (sees m, (fair locker m, tt), (h.0, h.1))
  finish_l finishing.Lock false m k x v a h = (sees m, (fair locker m, tt), (h.0, (k, h.1)))
  finish_l finishing.Queue false m k x v a (true, h) =
      made_queued me locker LeftL m (at.Finish finishing.Queue false) x v a k tt (h.0, (k, h.1))
  finish_l finishing.Queue false m k x v a (false, h) = (sees m, (fair locker m, tt), (h.0, h.1))
  finish_l finishing.Unlock false m k x v a h = (sees m, (fair locker m, tt), (h.0, h.1))

  back_l : (p : Point) (m : Noted) (x : Event) (v : List Event) (a : Answer) → LeftL m p (x ∷ v) a
      → MakesFirst me locker LeftL m p x v a
  back_l (at.Prepare preparing.Lock) m x v a h = locked_l m h.1.0 x v a h.1.1
  back_l (at.Prepare preparing.Look) m x v a h = absurd h.0
  back_l (at.Prepare preparing.Queue) m x v a h = enter_l m h.1.0 m.queued refl x v a h.1.1
  back_l (at.Prepare preparing.State) m x v a h = (sees m, (fair locker m, tt), (h.1.1.0, (h.0, (h.1.0, h.1.1.1))))
  back_l (at.Prepare preparing.Unlock) m x v a h = (sees m, (fair locker m, tt), (h.1.1.0, (h.0, (h.1.0, h.1.1.1))))
  back_l at.Worn m x v a h =
      let (value, y) = by_bit (λ k. Leads LeftL m (event.Tas w b (flag h.1.0)) (if k
      then ends_with (event.Tas w b (flag k)) answer.Worn
      else ends_with (event.Tas w b (flag k)) zero_answer) v a) h.1.0 (worn_l m h.1.0 v a h.1.1.1) in
      (record (sees m) { value = value }, (shown locker m value refl, tt), (h.1.1.0 ∙ y.0, y.1))
  back_l (at.Bit biting.Load) m x v a h =
      let y = load_l m h.1.0 h.1.1.0 (misses (watch.Bit w b) h.1.1.0) h.0 v a h.1.1.1.1 in
      (record (sees m) { value = h.1.1.0 }, (shown locker m h.1.1.0 refl, tt), (h.1.1.1.0 ∙ y.0, y.1))
  back_l (at.Bit biting.Sleep) m x v a h =
      let (t, q) = sleeping h.1.1.0 in (
        record (sees m) { own = t },
        (fair locker m, tt),
        (h.1.1.1.0 ∙ ap event.Sleep (sym q), slept_l m h.1.0 (looks_in st) refl h.0 v a h.1.1.1.1),
      )
  back_l (at.Bit biting.First) m x v a h =
      let (value, y) = by_bit (λ k. Leads LeftL m (event.Tas w b (flag h.1.0)) (if k
      then go (event.Tas w b (flag k)) (at.Prepare preparing.Lock)
      else ends_with (event.Tas w b (flag k)) zero_answer) v a) h.1.0 (first_l m h.1.0 v a h.1.1.1) in
      (record (sees m) { value = value }, (shown locker m value refl, tt), (h.1.1.0 ∙ y.0, y.1))
  back_l (at.Bit biting.Look) m x v a h =
      let (t, q) = looking st h.0.1 h.1.1.0 in (
        record (sees m) { own = t },
        (fair locker m, tt),
        (
          h.1.1.1.0 ∙ ap event.Look (sym q),
          subst (λ (k : Bool). LeftL m (if k && true
              then at.Finish finishing.State true else at.Bit (biting.Again k)) v a) (sym q)
              (look_l m h.1.0 h.1.1.0 h.0.0 v a h.1.1.1.1),
        ),
      )
  back_l (at.Bit (biting.Again true)) m x v a h = absurd h.0
  back_l (at.Bit (biting.Again false)) m x v a h =
      let (value, y) = by_bit (λ k. Leads LeftL m (event.Tas w b (flag h.1.1.0)) (go (event.Tas w b (flag k))
      (if k && true then at.Prepare preparing.Lock else at.Finish finishing.State false)) v a) h.1.1.0
      (again_l m h.1.0 h.1.1.0 h.0 v a h.1.1.1.1) in
      (record (sees m) { value = value }, (shown locker m value refl, tt), (h.1.1.1.0 ∙ y.0, y.1))
  back_l (at.Bit biting.Last) m x v a h =
      let (value, y) = by_bit (λ k. Leads LeftL m (event.Tas w b (flag h.1.0)) (ends_with (event.Tas w b (flag k))
      (if k then interrupted else zero_answer)) v a) h.1.0 (last_l m h.1.0 v a h.1.1.1) in
      (record (sees m) { value = value }, (shown locker m value refl, tt), (h.1.1.0 ∙ y.0, y.1))
  back_l (at.Finish p failed) m x v a h = finish_l p failed m h.0 x v a h.1
  back_l p m x v a h = absurd h.0

  nothing_l : (p : Point) (m : Noted) (a : Answer) → LeftL m p [] a → ⊥
  nothing_l (at.Prepare preparing.Lock) m a h = locked h.1.0 h.1.1
    where
      locked : (n : ℕ) → turns n (tries.round me w b st) m.queued ends [] a → ⊥
      locked zero h = h
      locked (suc n) h = h
  nothing_l (at.Prepare preparing.Look) m a h = h.0
  nothing_l (at.Prepare preparing.Queue) m a h =
      enters_none (watch.Bit w b) st forms.Tail m.queued (EntL h.1.0) a h.1.1
  nothing_l (at.Prepare preparing.State) m a h = h.1.1
  nothing_l (at.Prepare preparing.Unlock) m a h = h.1.1
  nothing_l (at.Bit biting.First) m a h = h.1.1
  nothing_l (at.Bit biting.Load) m a h = h.1.1.1
  nothing_l (at.Bit biting.Sleep) m a h = h.1.1.1
  nothing_l (at.Bit biting.Look) m a h = h.1.1.1
  nothing_l (at.Bit (biting.Again true)) m a h = h.0
  nothing_l (at.Bit (biting.Again false)) m a h = h.1.1.1
  nothing_l (at.Bit biting.Last) m a h = h.1.1
  nothing_l (at.Finish finishing.State true) m a h = h.1
  nothing_l (at.Finish finishing.Look true) m a h = h.1.1
  nothing_l (at.Finish finishing.Lock true) m a h = h.1
  nothing_l (at.Finish finishing.Queue true) m a (k, (true, h)) = h
  nothing_l (at.Finish finishing.Queue true) m a (k, (false, h)) = h
  nothing_l (at.Finish finishing.Unlock true) m a h = h.1
  nothing_l (at.Finish finishing.State false) m a h = h.1
  nothing_l (at.Finish finishing.Look false) m a h = h.1.1
  nothing_l (at.Finish finishing.Lock false) m a h = h.1
  nothing_l (at.Finish finishing.Queue false) m a (k, (true, h)) = h
  nothing_l (at.Finish finishing.Queue false) m a (k, (false, h)) = h
  nothing_l (at.Finish finishing.Unlock false) m a h = h.1
  nothing_l at.Worn m a h = h.1.1
  nothing_l p m a h = h.0

  pub lock_bit_made : (v : List Event) (a : Answer) → Follows me locker v a
      → Makes me locker none_noted (program_start locker) v a
  lock_bit_made v a h = all_made me locker LeftL nothing_l back_l v none_noted (at.Bit biting.First) a (tt, h)
