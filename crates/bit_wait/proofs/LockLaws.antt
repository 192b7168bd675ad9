-- The table of a wait to take a bit keeps its laws.
use Rattle.std.proofs.Common.{◌∙◌, ap, sym, refl, subst, inl, arith, append_assoc}
use Rattle.std.specs.Prelude.{ℕ, ◌≡◌, ◌<◌, ◌+◌, ◌*◌, Bool, true, false, if◌then◌else◌, None, Result, Ok, Err, IfOk, IfErr, List, [], ◌∷◌, ◌++◌}
use Rattle.wait_model.specs.declared.points.BitPoint.TheVariants as biting
use Rattle.wait_model.specs.{declared.calls.Event.Event, declared.points.Next.Next, declared.steps.Step.Step}
use Rattle.wait_model.specs.{declared.tasks.SleepState.SleepState, declared.watches.Watch.Watch, Programs.acted}
use Rattle.wait_model.specs.{Programs.finished, PointFacts.holds, Tasks.looks_in, Words.bit_at}
use Rattle.wait_model.specs.{declared.layout.TheConstants.FIRST_DONE_HEAD, declared.layout.TheConstants.WORD_BITS}
use Rattle.wait_model.specs.Watches.{head_of}
use Rattle.wait_model.specs.declared.points.Next.TheVariants as next
use Rattle.wait_model.specs.declared.points.Point.TheVariants as at
use Rattle.wait_model.specs.declared.queues.Form.TheVariants as forms
use Rattle.wait_model.specs.declared.steps.Step.TheVariants as step
use Rattle.wait_model.specs.declared.watches.Kind.TheVariants as kind
use Rattle.wait_rule.specs.{Ends.WasWorn, Known.Known, Queues.index, Says.history_of, Says.told_of}
use Rattle.wq_head.specs.{Holds.IsHolding, declared.adds.Worn.Worn}
use Rattle.wq_head.specs.Adds.{HasAddedForBit, IsForBit, IsTailWorn, tail_entry}
use Rattle.wait_class.proofs.FormPlaces.{form_is, form_left, form_worn}
use Rattle.wait_class.specs.{declared.frame_stages.Framed.Framed, FrameLaws.FinishLaw, FrameLaws.IsLawfulFrame}
use Rattle.wait_class.specs.Tables.{has_sleep, call_plan, next_in}
use Rattle.wait_class.specs.Laws.{AddsOwn, HasJoined, IsWornFor, LoadLaw, LookLaw, SleepLaw, Calm, Unmoved}
use Rattle.wait_class.specs.declared.frame_stages.Stage.TheVariants as stage
use Rattle.wait_class.specs.declared.stages.Turn.TheVariants as turn
use Rattle.wait_leave.proofs.AskedPlans.{asked_stands}
use Rattle.wait_class.proofs.CallPlans.{call_stands}
use Rattle.wait_class.proofs.Ways.{finish_by, load_by, look_by, sleep_by, way}
use Rattle.wait_class.proofs.Histories.{awake_more, ends_calm, ends_still, found_still}
use Rattle.wq_head.proofs.FullHeads.{hashed_low}
use Rattle.bit_wait.specs.LockEnds.{ComesBehindWorn}
use Rattle.bit_wait.specs.LockTables.{FailTrail, FinishTrail, FoundLockSignal, IsRunningLock, TestTrail, lock_bit_in, lock_bit_call, lock_head_in, lock_frame, lock_table}
use Rattle.bit_wait.specs.declared.lock_runs.LockBit.{LockBit}
use Rattle.bit_wait.specs.declared.lock_runs.LockTest.{LockTest}
use Rattle.bit_wait.specs.declared.lock_runs.LockTest.TheVariants as test
use Rattle.bit_wait.proofs.LockGround.{lock_keeps_looks, lock_keeps_on, lock_keeps_queued}
use Rattle.bit_wait.proofs.LockKinds.{lock_stays}

run_low : (r : LockBit) → lock_head_in r < FIRST_DONE_HEAD
unfolding head_of
run_low r = let low = hashed_low (r.word * WORD_BITS + r.bit) in omega (arith, low)

-- a signal that was found stays found while the task does not sleep
pub more_signal : (old new : Known) (st : SleepState) (es : List Step) → history_of new ≡ history_of old ++ es
    → has_sleep es ≡ false → FoundLockSignal old st → FoundLockSignal new st
more_signal old new st es more awake f = record {
  before = f.before;
  sleep = f.sleep;
  look = f.look;
  more = f.more ++ es;
  ends = more ∙ (ap (λ (l : List Step). l ++ es) f.ends
      ∙ append_assoc f.before (step.Sleep f.sleep ∷ step.Look f.look ∷ f.more) es);
  pends = f.pends;
  awake = awake_more f.more es f.awake awake;
}

-- and who was asked to leave has been asked
more_failed : (old new : Known) (r : LockBit) (es : List Step) → history_of new ≡ history_of old ++ es
    → has_sleep es ≡ false → (b : Bool) → FailTrail b old r → FailTrail b new r
more_failed old new r es more awake true f = tt
more_failed old new r es more awake false f = more_signal old new r.state es more awake f

failed_by : (k : Known) (r : LockBit) → FoundLockSignal k r.state → (b : Bool) → FailTrail b k r
failed_by k r f true = tt
failed_by k r f false = f

still_failed : (old new : Known) (r : LockBit) → Unmoved old new → (b : Bool) → FailTrail b old r → FailTrail b new r
still_failed old new r still true f = tt
still_failed old new r still false f = record {
  before = f.before;
  sleep = f.sleep;
  look = f.look;
  more = f.more;
  ends = still.history ∙ f.ends;
  pends = f.pends;
  awake = f.awake;
}

calm_finish : (old new : Known) (r : LockBit) (failed : Bool) (es : List Step) → has_sleep es ≡ false
    → Calm es old new → FinishTrail old r failed → FinishTrail new r failed
calm_finish old new r true es awake calm f = more_failed old new r es calm.history awake r.asked f
calm_finish old new r false es awake calm f = (
  record { keeps = calm.keeps (lock_bit_in r) ∙ f.0.keeps; tries = calm.tries (lock_bit_in r) f.0.keeps f.0.tries },
  f.1,
)

test_still : (old new : Known) (r : LockBit) (x : LockTest) → Unmoved old new → TestTrail old r x → TestTrail new r x
test_still old new r test.First still f = tt
test_still old new r test.Load still f = tt
test_still old new r test.Again still f = tt
test_still old new r test.Worn still f = (found_still old new (lock_head_in r) r.place still f.0, f.1)
test_still old new r test.Last still f = still_failed old new r still r.asked f

module _ (r : LockBit) where
  abbrev w : Framed LockBit
  w = record { wait = r }

  -- the load, the sleep and the look for a signal
  load_law : (v : ℕ) (b : Bool) → bit_at v r.bit ≡ b → LoadLaw lock_table w (stage.Test test.Load) v w
      (if b then turn.Again stage.Sleep else turn.Again (stage.Test test.Again))
  load_law v true is = load_by lock_table w (stage.Test test.Load) refl v w (turn.Again stage.Sleep) refl (λ f. f)
      (λ x did. tt) (way lock_table w (stage.Test test.Load) w (turn.Again stage.Sleep) refl refl refl refl refl (λ σ s. s) (λ o h. h))
      (λ me. ap (λ (c : Bool). next.Go (at.Bit (if c then biting.Sleep else biting.Again false))) is)
      (λ me k. refl) (λ me k. (refl, tt, tt)) (λ old new calm u. tt)
  load_law v false is = load_by lock_table w (stage.Test test.Load) refl v w (turn.Again (stage.Test test.Again)) refl
      (λ f. f) (λ x did. tt) (way lock_table w (stage.Test test.Load) w (turn.Again (stage.Test test.Again)) refl refl refl refl refl (λ σ s. s) (λ o h. h))
      (λ me. ap (λ (c : Bool). next.Go (at.Bit (if c then biting.Sleep else biting.Again false))) is)
      (λ me k. refl) (λ me k. (refl, tt, tt)) (λ old new calm u. tt)

  sleep_law : (b : Bool) → looks_in r.state ≡ b
      → SleepLaw lock_table w stage.Sleep (if b then stage.Look else stage.Test test.Again)
  sleep_law true is = sleep_by lock_table w stage.Sleep refl stage.Look refl refl refl refl refl refl (λ o h. h)
      (λ v me. ap (λ (c : Bool). next.Go (at.Bit (if c then biting.Look else biting.Again false))) is)
      (λ v me k. tt) (λ v me k. (refl, tt, tt)) (λ old new v calm u. (v, (history_of old, calm.history)))
  sleep_law false is = sleep_by lock_table w stage.Sleep refl (stage.Test test.Again) refl refl refl refl refl refl
      (λ o h. h) (λ v me. ap (λ (c : Bool). next.Go (at.Bit (if c then biting.Look else biting.Again false))) is)
      (λ v me k. tt) (λ v me k. (refl, tt, tt)) (λ old new v calm u. tt)

  look_law : (hit : Bool) → LookLaw lock_table w stage.Look hit
  look_law true = look_by lock_table w stage.Look refl true (way lock_table w stage.Look w (turn.Again (stage.FinishState true)) refl refl refl refl refl (λ σ s. inl s) (λ o h. h))
      (λ v me is. ap (λ (c : Bool). next.Go (acted (lock_bit_call r) c)) is) (λ v me k. tt)
      (λ v me k. (refl, tt, tt)) (λ old new v is calm u.
      let e = ends_calm old new (step.Sleep u.0 ∷ []) (step.Look v ∷ []) calm u.1 in
      failed_by new r (record { before = e.0; sleep = u.0; look = v; more = []; ends = e.1; pends = is; awake = refl })
      r.asked)
  look_law false = look_by lock_table w stage.Look refl false (way lock_table w stage.Look w (turn.Again (stage.Test test.Again)) refl refl refl refl refl (λ σ s. inl s) (λ o h. h))
      (λ v me is. ap (λ (c : Bool). next.Go (acted (lock_bit_call r) c)) is) (λ v me k. tt)
      (λ v me k. (refl, tt, tt)) (λ old new v is calm u. tt)

  finish_law : (failed : Bool) → FinishLaw lock_frame r failed
  finish_law true = finish_by lock_frame r true refl (λ s. refl) refl refl refl tt (λ k f. f)
  finish_law false = finish_by lock_frame r false tt (λ s. refl) refl refl refl tt
      (λ k f. record {
        cause = tt;
        behind = subst (ComesBehindWorn k r.word r.bit (Ok tt)) (sym f.1) tt;
        keeps = λ is. f.0.keeps;
        tries = f.0.tries;
      })

loads_law : (r : LockBit) (x : LockTest) → lock_frame.loads x ≡ true → (v : ℕ)
    → LoadLaw lock_table (record { wait = r }) (stage.Test x) v (record { wait = r }) (lock_frame.loaded_to r x v)
loads_law r test.Load is v = load_law r v (bit_at v r.bit) refl
loads_law r test.First is v = absurd (cc)
loads_law r test.Again is v = absurd (cc)
loads_law r test.Worn is v = absurd (cc)
loads_law r test.Last is v = absurd (cc)

free_tests : (x : LockTest) → holds (lock_frame.test_point x) ≡ false
free_tests test.First = refl
free_tests test.Load = refl
free_tests test.Again = refl
free_tests test.Worn = refl
free_tests test.Last = refl

abbrev ends_at : LockBit → Bool → Next
ends_at r failed = next_in lock_table (lock_frame.finished r failed)

behind : (r : LockBit) (failed : Bool) (e : Event)
    → finished (lock_bit_call r) failed e ≡ record { event = e; next = ends_at r failed }
behind r true e = refl
behind r false e = refl

pub lock_lawful : IsLawfulFrame lock_frame
lock_lawful = record {
  keeps = lock_stays;
  there = λ r runs. (runs.word, runs.bit);
  watches = λ r p. refl;
  low = λ r runs. run_low r;
  worn = λ r p. refl;
  worn_fits = λ r p runs. record { word = runs.word; bit = runs.bit };
  ends = ends_at;
  goes = λ r failed. refl;
  stands = λ r. asked_stands lock_frame (ends_at r) (call_plan (lock_bit_call r)) r.asked
      (call_stands lock_frame (ends_at r) (lock_bit_call r) refl refl refl (behind r));
  prepared_stirs = λ r. refl;
  prepared_zone = refl;
  prepared_took = refl;
  prepared_trail = λ old new r calm. tt;
  worn_stirs = λ r. refl;
  worn_zone = refl;
  worn_took = refl;
  worn_trail = λ new r p noted ends. (record { noted = noted; ends = ends }, refl);
  test_free = free_tests;
  sleep_free = refl;
  look_free = refl;
  loads = loads_law;
  sleeps = λ r. sleep_law r (looks_in r.state) refl;
  looks = look_law;
  finishes = finish_law;
  calm = calm_finish;
  test_still = test_still;
  sleep_still = λ old new r calm u. tt;
  look_still = λ old new r calm u. (u.0, ends_still old new (step.Sleep u.0 ∷ []) calm u.1);
}

-- the add
pub lock_for : (r : LockBit) → IsRunningLock r → (c : Watch) → c ≡ lock_bit_in r → IsForBit c kind.Bit
lock_for r runs c is = (refl, (r.word, r.bit, is, runs.word, runs.bit))

lock_joins : (r : LockBit) (old new : Known) → (told_of old).bits.stored (index old.view.number 0) ≡ None
    → HasAddedForBit old new 0 (tail_entry true (lock_bit_in r) kind.Bit)
    → HasJoined lock_table (record { wait = r }) stage.PrepareQueue old new
lock_joins r old new out x = record {
  seen = x.seen;
  entry = tail_entry true (lock_bit_in r) kind.Bit x.place;
  looks = x.looks;
  whole = x.whole;
  is_off = x.is_off;
  placed = ap (tail_entry true (lock_bit_in r) kind.Bit) (sym (form_is x.seen x.low forms.Tail x.place x.sort));
  left = form_left x.seen x.low forms.Tail x.place x.sort;
  is = x.is;
  queued = x.queued;
  home = (refl, refl);
  keeps = lock_keeps_on (index old.view.number 0) (lock_bit_in r) false false false old x.seen new
      (lock_keeps_looks (lock_bit_in r) false (index old.view.number 0) old x.seen out x.looks)
      (lock_keeps_queued (index old.view.number 0) r.word r.bit x.place false x.seen new x.is);
}

lock_wears : (r : LockBit) (old new : Known) (w : Worn) → IsTailWorn old new w
    → WasWorn new.view.number new.view.items w.head w.place → IsWornFor lock_table (record { wait = r }) old new w
lock_wears r old new w worn noted =
    let x = form_worn forms.Tail old new w worn in
    record { looks = x.looks; whole = x.whole; head = x.head; worn = x.worn; noted = noted }

pub lock_adds : (r : LockBit) (c : Watch) → c ≡ lock_bit_in r → (old new : Known) (o : Result (Unit {0}) Worn)
    → (told_of old).bits.stored (index old.view.number 0) ≡ None
    → IfOk o (λ _. HasAddedForBit old new 0 (tail_entry true c kind.Bit)) → IfErr o (λ w. IsTailWorn old new w)
    → IfErr o (λ w. WasWorn new.view.number new.view.items w.head w.place) → IsHolding new → new.at ≡ old.at
    → AddsOwn lock_table (record { wait = r }) stage.PrepareQueue old new o
lock_adds r c is old new (Ok u) out queued worn noted held at = record {
  held = held;
  at = at;
  by = lock_joins r old new out
      (subst (λ (d : Watch). HasAddedForBit old new 0 (tail_entry true d kind.Bit)) is queued);
}
lock_adds r c is old new (Err w) out queued worn noted held at = record {
  held = held;
  at = at;
  by = lock_wears r old new w worn noted;
}
