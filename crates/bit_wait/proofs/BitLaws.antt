-- The table of a wait until a bit is clear keeps its laws; and what a whole wait says.
use Rattle.std.proofs.Common.{◌∙◌, ap, sym, refl, subst, inl, arith, append_assoc}
use Rattle.std.specs.Prelude.{ℕ, ◌≡◌, ◌<◌, ◌+◌, ◌*◌, ◌&&◌, not, Bool, true, false, if◌then◌else◌}
use Rattle.std.specs.Prelude.{Option, None, Result, IfOk, IfErr, List, [], ◌∷◌, ◌++◌}
use Rattle.wait_model.specs.{declared.layout.TheConstants.FIRST_DONE_HEAD, declared.layout.TheConstants.WORD_BITS}
use Rattle.wait_model.specs.{declared.calls.Event.Event, declared.points.Next.Next, declared.steps.Step.Step}
use Rattle.wait_model.specs.{declared.tasks.SleepState.SleepState, declared.watches.Entry.Entry}
use Rattle.wait_model.specs.{declared.watches.Watch.Watch, PointFacts.holds, Watches.head_of, Words.bit_at}
use Rattle.wait_model.specs.Views.{is_trying_for}
use Rattle.wait_model.specs.Programs.{acted, ends_with, finished, go, load, zero_answer}
use Rattle.wait_model.specs.Tasks.{looks_in, pending, state_mask, task_of}
use Rattle.wait_model.specs.declared.calls.Answer.TheVariants as answer
use Rattle.wait_model.specs.declared.calls.Call.TheVariants as calls
use Rattle.wait_model.specs.declared.points.BitPoint.TheVariants as biting
use Rattle.wait_model.specs.declared.points.FinishPoint.TheVariants as finishing
use Rattle.wait_model.specs.declared.points.Next.TheVariants as next
use Rattle.wait_model.specs.declared.points.Point.TheVariants as at
use Rattle.wait_model.specs.declared.points.PreparePoint.TheVariants as preparing
use Rattle.wait_model.specs.declared.steps.Step.TheVariants as step
use Rattle.wait_model.specs.declared.watches.Kind.TheVariants as kind
use Rattle.wait_model.specs.declared.watches.Watch.TheVariants as watch
use Rattle.wait_rule.specs.{Known.Known, Stays.Carries, Stays.with_entry, Ends.WasWorn}
use Rattle.wait_rule.specs.Queues.{IsIdle, IsTold, index, IsFrontPlace}
use Rattle.wait_rule.specs.Says.{Excuse, IsClean, IsOutBut, IsUp, OwesBut, history_of, no_excuse, told_of}
use Rattle.wait_rule.proofs.KnownLaws.StayingParts.{owes_also, owes_out}
use Rattle.wq_head.specs.{Holds.IsHolding, declared.adds.Worn.Worn}
use Rattle.wq_head.specs.Adds.{HasAdded, IsFrontWorn, front_entry}
use Rattle.wq_head.proofs.FullHeads.{hashed_low}
use Rattle.wait_event.specs.Ends.{wait_change}
use Rattle.wait_event.proofs.Behind.{StandsOver}
use Rattle.wait_class.specs.{Findings.with_value, declared.frame_stages.Framed.Framed, declared.stages.Run.Run}
use Rattle.wait_class.specs.{FrameLaws.FinishLaw, FrameLaws.IsLawfulFrame, Wholes.HasRested}
use Rattle.wait_class.specs.Posts.{IsOut, Keeps, EndsWith}
use Rattle.wait_class.specs.Tables.{has_sleep, Advances, IsAt, IsEnded, Plan, call_plan, next_in}
use Rattle.wait_class.specs.Laws.{AddsOwn, LoadLaw, LookLaw, SleepLaw, Calm, Unmoved}
use Rattle.wait_class.proofs.{Ground.Standing.home_waits, CallPlans.call_stands, Stays.adds_front, Stays.wait_stays}
use Rattle.wait_class.proofs.Histories.{awake_more, ends_calm, ends_still, found_still, worn_calm}
use Rattle.wait_class.proofs.Ways.{finish_by, go_if, load_fork, look_by, sleep_by, way}
use Rattle.wait_class.proofs.Wholes.{Rested, begins, ended_runs, none_of, rested_idle, rested_out, rests}
use Rattle.wait_class.specs.declared.frame_stages.Stage.TheVariants as stage
use Rattle.wait_class.specs.declared.stages.Turn.TheVariants as turn
use Rattle.wait_leave.specs.Leaves.{with_asked}
use Rattle.wait_leave.proofs.AskedPlans.{asked_stands}
use Rattle.bit_wait.specs.{declared.waits.BitOutcome.BitOutcome, declared.waits.BitTest.BitTest}
use Rattle.bit_wait.specs.{declared.wait_calls.BitEnd.BitEnd, declared.waits.WaitBit.WaitBit}
use Rattle.bit_wait.specs.BitEnds.{EndsBitWait, HasLoadedBit, IsBitCause, WasBitInterrupted, answer_of_bit_end}
use Rattle.bit_wait.specs.BitEnds.{bit_end_in, finds_no_place}
use Rattle.bit_wait.specs.BitTables.{BitAgainTrail, BitCauseIn, BitFinishTrail, BitTestTrail, BitWhyFailed}
use Rattle.bit_wait.specs.BitTables.{IsFreshBitWait, IsRunningBitWait, answer_to_bit, bit_frame, wait_bit_in, bit_table}
use Rattle.bit_wait.specs.BitTables.{wait_bit_call, bit_end_post, is_bit_worn, loads_set, set_to}
use Rattle.bit_wait.specs.declared.waits.BitOutcome.TheVariants as outcome
use Rattle.bit_wait.specs.declared.waits.BitTest.TheVariants as test

run_low : (r : WaitBit) → head_of (wait_bit_in r) < FIRST_DONE_HEAD
unfolding head_of
run_low r = let low = hashed_low (r.word * WORD_BITS + r.bit) in omega (arith, low)

-- a signal that was found stays found while the task does not sleep
more_signal : (old new : Known) (r : WaitBit) (es : List Step) → has_sleep es ≡ false → Calm es old new
    → WasBitInterrupted old r.word r.bit r.state r.seen → WasBitInterrupted new r.word r.bit r.state r.seen
more_signal old new r es awake calm f = record {
  before = f.before;
  sleep = f.sleep;
  look = f.look;
  more = f.more ++ es;
  ends = calm.history ∙ (ap (λ (l : List Step). l ++ es) f.ends
      ∙ append_assoc f.before (loads_set r (step.Sleep f.sleep ∷ step.Look f.look ∷ f.more)) es);
  set = f.set;
  pends = f.pends;
  awake = awake_more f.more es f.awake awake;
}

-- and a load has been made
more_loaded : (old new : Known) (w b v : ℕ) (es : List Step) → has_sleep es ≡ false → Calm es old new
    → HasLoadedBit old w b v → HasLoadedBit new w b v
more_loaded old new w b v es awake calm f = record {
  before = f.before;
  more = f.more ++ es;
  ends = calm.history ∙ (ap (λ (l : List Step). l ++ es) f.ends
      ∙ append_assoc f.before (step.Load (watch.Bit w b) v ∷ f.more) es);
  awake = awake_more f.more es f.awake awake;
}

more_failed : (old new : Known) (r : WaitBit) (es : List Step) → has_sleep es ≡ false → Calm es old new → (b : Bool)
    → BitWhyFailed b old r → BitWhyFailed b new r
more_failed old new r es awake calm true f = more_loaded old new r.word r.bit r.last es awake calm f
more_failed old new r es awake calm false f = more_signal old new r es awake calm f

calm_finish : (old new : Known) (r : WaitBit) (failed : Bool) (es : List Step) → has_sleep es ≡ false
    → Calm es old new → BitFinishTrail old r failed → BitFinishTrail new r failed
calm_finish old new r true es awake calm f = more_failed old new r es awake calm r.asked f
calm_finish old new r false es awake calm f = tt

still_again : (old new : Known) (r : WaitBit) → Unmoved old new → (b : Bool) → BitAgainTrail b old r
    → BitAgainTrail b new r
still_again old new r still true f = tt
still_again old new r still false f = record {
  before = f.before;
  sleep = f.sleep;
  look = f.look;
  more = f.more;
  ends = still.history ∙ f.ends;
  set = f.set;
  pends = f.pends;
  awake = f.awake;
}

test_still : (old new : Known) (r : WaitBit) (x : BitTest) → Unmoved old new → BitTestTrail old r x → BitTestTrail new r x
test_still old new r test.First still f = tt
test_still old new r test.Load still f = ends_still old new (step.Unlock (head_of (wait_bit_in r)) false ∷ []) still f
test_still old new r (test.Again true) still f = still_again old new r still r.asked f
test_still old new r (test.Again false) still f = tt
test_still old new r test.Worn still f = found_still old new (head_of (wait_bit_in r)) r.place still f

bit_if : (b : Bool) (e : Event) → go e (at.Bit (if b then biting.Sleep else biting.Again false))
    ≡ (if b then go e (at.Bit biting.Sleep) else go e (at.Bit (biting.Again false)))
bit_if true e = refl
bit_if false e = refl

module _ (r : WaitBit) where
  abbrev w : Framed WaitBit
  w = record { wait = r }

  -- the loads
  module _ (v : ℕ) where
    abbrev e : Event
    e = load (wait_bit_call r) (with_value v)

    abbrev q : Framed WaitBit
    q = record { wait = record r { seen = v } }

    -- behind a sleep, or a question to leave
    abbrev z : Framed WaitBit
    z = record { wait = record r { last = v } }

    abbrev b : Bool
    b = bit_at v r.bit

    failed_on : (old new : Known) → Calm (step.Load (wait_bit_in r) v ∷ []) old new → (a : Bool) → BitAgainTrail a old r
        → BitWhyFailed a new z.wait
    failed_on old new calm true f = record { before = history_of old; more = []; ends = calm.history; awake = refl }
    failed_on old new calm false f = more_signal old new r (step.Load (wait_bit_in r) v ∷ []) refl calm f

    fails_on : (old new : Known) → Calm (step.Load (wait_bit_in r) v ∷ []) old new → (failed : Bool)
        → BitTestTrail old r (test.Again failed) → BitFinishTrail new z.wait failed
    fails_on old new calm true f = failed_on old new calm r.asked f
    fails_on old new calm false f = tt

    abbrev loads_more : (old new : Known) → Calm (step.Load (wait_bit_in r) v ∷ []) old new
        → EndsWith old (step.Unlock (head_of (wait_bit_in r)) false ∷ [])
        → EndsWith new (step.Unlock (head_of (wait_bit_in r)) false ∷ step.Load (wait_bit_in r) v ∷ [])
    loads_more old new calm u = ends_calm old new (step.Unlock (head_of (wait_bit_in r)) false ∷ [])
        (step.Load (wait_bit_in r) v ∷ []) calm u

    first_law : LoadLaw bit_table w (stage.Test test.First) v w (set_to test.First b)
    first_law = load_fork bit_table w (stage.Test test.First) refl v w b (turn.Again stage.PrepareLock)
        (turn.Done outcome.Over) (go e (at.Prepare preparing.Lock)) (ends_with e zero_answer) e refl (λ f. f) (λ x did. tt)
        (λ me. refl) (refl, refl) (refl, refl) (λ k me. refl) (λ me k. (refl, tt, tt))
        (way bit_table w (stage.Test test.First) w (turn.Again stage.PrepareLock) refl refl refl refl refl
        (λ σ s. inl s) (home_waits (wait_bit_in r)))
        (way bit_table w (stage.Test test.First) w (turn.Done outcome.Over) tt refl refl refl refl (λ σ s. s)
        (λ o h. h)) (λ old new is calm u. tt) (λ old new is calm u. tt)

    load_law : LoadLaw bit_table w (stage.Test test.Load) v q (set_to test.Load b)
    load_law = load_fork bit_table w (stage.Test test.Load) refl v q b (turn.Again stage.Sleep)
        (turn.Again (stage.Test (test.Again false))) (go e (at.Bit biting.Sleep)) (go e (at.Bit (biting.Again false))) e
        refl (λ f. record { word = f.word; bit = f.bit }) (λ x did. tt)
        (λ me. bit_if b e) (refl, refl) (refl, refl)
        (λ k me. refl) (λ me k. (refl, tt, tt))
        (way bit_table w (stage.Test test.Load) q (turn.Again stage.Sleep) refl refl refl refl refl (λ σ s. s) (λ o h. h))
        (way bit_table w (stage.Test test.Load) q (turn.Again (stage.Test (test.Again false))) refl refl refl refl refl
        (λ σ s. s) (λ o h. h)) (λ old new is calm u. (loads_more old new calm u, is)) (λ old new is calm u. tt)

    again_law : (failed : Bool) → LoadLaw bit_table w (stage.Test (test.Again failed)) v z (set_to (test.Again failed) b)
    again_law failed = load_fork bit_table w (stage.Test (test.Again failed)) refl v z (b && not failed)
        (turn.Again stage.PrepareLock) (turn.Again (stage.FinishState failed)) (go e (at.Prepare preparing.Lock))
        (go e (at.Finish finishing.State failed)) e refl (λ f. record { word = f.word; bit = f.bit }) (λ x did. tt)
        (λ me. go_if (b && not failed) e (at.Prepare preparing.Lock) (at.Finish finishing.State failed)) (refl, refl)
        (refl, refl) (λ k me. refl) (λ me k. (refl, tt, tt))
        (way bit_table w (stage.Test (test.Again failed)) z (turn.Again stage.PrepareLock) refl refl refl refl refl
        (λ σ s. s) (λ o h. h))
        (way bit_table w (stage.Test (test.Again failed)) z (turn.Again (stage.FinishState failed)) refl refl refl refl
        refl (λ σ s. s) (λ o h. h)) (λ old new is calm u. tt)
        (λ old new is calm u. fails_on old new calm failed u)

    worn_law : LoadLaw bit_table w (stage.Test test.Worn) v q (set_to test.Worn b)
    worn_law = load_fork bit_table w (stage.Test test.Worn) refl v q b (turn.Done outcome.Worn)
        (turn.Again (stage.FinishState false)) (ends_with e answer.Worn) (go e (at.Finish finishing.State false)) e refl
        (λ f. record { word = f.word; bit = f.bit }) (λ x did. tt) (λ me. refl) (refl, refl) (refl, refl) (λ k me. refl)
        (λ me k. (refl, tt, tt))
        (way bit_table w (stage.Test test.Worn) q (turn.Done outcome.Worn) tt refl refl refl refl (λ σ s. s) (λ o h. h))
        (way bit_table w (stage.Test test.Worn) q (turn.Again (stage.FinishState false)) refl refl refl refl refl
        (λ σ s. s) (home_waits (wait_bit_in r)))
        (λ old new is calm u. record {
          head = refl;
          noted = worn_calm old new (step.Load (wait_bit_in r) v ∷ []) (head_of (wait_bit_in r)) r.place calm u.noted;
          found = v;
          ends = loads_more old new calm u.ends;
          set = is;
        }) (λ old new is calm u. tt)

  tests : (x : BitTest) (v : ℕ)
      → LoadLaw bit_table w (stage.Test x) v (record { wait = bit_frame.noted r x v }) (set_to x (bit_at v r.bit))
  tests test.First v = first_law v
  tests test.Load v = load_law v
  tests (test.Again failed) v = again_law v failed
  tests test.Worn v = worn_law v

  -- the sleep, the look for a signal, and the finish
  sleep_law : (b : Bool) → looks_in r.state ≡ b
      → SleepLaw bit_table w stage.Sleep (if b then stage.Look else stage.Test (test.Again false))
  sleep_law true is = sleep_by bit_table w stage.Sleep refl stage.Look refl refl refl refl refl refl (λ o h. h)
      (λ v me. ap (λ (c : Bool). next.Go (at.Bit (if c then biting.Look else biting.Again false))) is)
      (λ v me k. tt) (λ v me k. (refl, tt, tt))
      (λ old new v calm u. (v, ends_calm old new (loads_set r []) (step.Sleep v ∷ []) calm u.0, u.1))
  sleep_law false is = sleep_by bit_table w stage.Sleep refl (stage.Test (test.Again false)) refl refl refl refl refl refl
      (λ o h. h) (λ v me. ap (λ (c : Bool). next.Go (at.Bit (if c then biting.Look else biting.Again false))) is)
      (λ v me k. tt) (λ v me k. (refl, tt, tt)) (λ old new v calm u. tt)

  again_by : (k : Known) → WasBitInterrupted k r.word r.bit r.state r.seen → (b : Bool) → BitAgainTrail b k r
  again_by k f true = tt
  again_by k f false = f

  found : (old new : Known) (v : ℕ) (hit : Bool) → pending (state_mask r.state) (task_of v) ≡ hit
      → Calm (step.Look v ∷ []) old new → bit_frame.LookTrail old r → BitTestTrail new r (test.Again hit)
  found old new v true is calm u =
      let e = ends_calm old new (loads_set r (step.Sleep u.0 ∷ [])) (step.Look v ∷ []) calm u.1 in
      again_by new (record {
        before = e.0;
        sleep = u.0;
        look = v;
        more = [];
        ends = e.1;
        set = u.2;
        pends = is;
        awake = refl;
      }) r.asked
  found old new v false is calm u = tt

  acted_is : (hit : Bool) → acted (wait_bit_call r) hit ≡ at.Bit (biting.Again hit)
  acted_is true = refl
  acted_is false = refl

  look_law : (hit : Bool) → LookLaw bit_table w stage.Look hit
  look_law hit = look_by bit_table w stage.Look refl hit
      (way bit_table w stage.Look w (turn.Again (stage.Test (test.Again hit))) refl refl refl refl refl (λ σ s. inl s)
      (λ o h. h)) (λ v me is. ap (λ (c : Bool). next.Go (acted (wait_bit_call r) c)) is ∙ ap next.Go (acted_is hit))
      (λ v me k. tt)
      (λ v me k. (refl, tt, tt)) (λ old new v is calm u. found old new v hit is calm u)

  finish_law : (failed : Bool) → FinishLaw bit_frame r failed
  finish_law true = finish_by bit_frame r true tt (λ s. refl) refl refl refl tt (λ k f. f)
  finish_law false = finish_by bit_frame r false tt (λ s. refl) refl refl refl tt (λ k f. tt)

free_tests : (x : BitTest) → holds (bit_frame.test_point x) ≡ false
free_tests test.First = refl
free_tests test.Load = refl
free_tests (test.Again failed) = refl
free_tests test.Worn = refl

abbrev ends_at : WaitBit → Bool → Next
ends_at r failed = next_in bit_table (bit_frame.finished r failed)

behind : (r : WaitBit) (failed : Bool) (e : Event)
    → finished (wait_bit_call r) failed e ≡ record { event = e; next = ends_at r failed }
behind r true e = refl
behind r false e = refl

pub bit_lawful : IsLawfulFrame bit_frame
bit_lawful = record {
  keeps = wait_stays;
  there = λ r runs. (runs.word, runs.bit);
  watches = λ r p. refl;
  low = λ r runs. run_low r;
  worn = λ r p. refl;
  worn_fits = λ r p runs. record { word = runs.word; bit = runs.bit };
  ends = ends_at;
  goes = λ r failed. refl;
  stands = λ r. asked_stands bit_frame (ends_at r) (call_plan (wait_bit_call r)) r.asked
      (call_stands bit_frame (ends_at r) (wait_bit_call r) refl refl refl (behind r));
  prepared_stirs = λ r. refl;
  prepared_zone = refl;
  prepared_took = refl;
  prepared_trail = λ old new r calm. (history_of old, calm.history);
  worn_stirs = λ r. refl;
  worn_zone = refl;
  worn_took = refl;
  worn_trail = λ new r p noted ends. record { noted = noted; ends = ends };
  test_free = free_tests;
  sleep_free = refl;
  look_free = refl;
  loads = λ r x is. tests r x;
  sleeps = λ r. sleep_law r (looks_in r.state) refl;
  looks = look_law;
  finishes = finish_law;
  calm = calm_finish;
  test_still = test_still;
  sleep_still = λ old new r calm u. (ends_still old new (loads_set r []) calm u.0, u.1);
  look_still = λ old new r calm u. (u.0, ends_still old new (loads_set r (step.Sleep u.0 ∷ [])) calm u.1, u.2);
}

pub bit_adds : (r : WaitBit) (c : Watch) → c ≡ wait_bit_in r → (old new : Known) (o : Result (Unit {0}) Worn)
    → IfOk o (λ _. HasAdded IsFrontPlace old new 0 (front_entry c kind.Bit)) → IfErr o (λ w. IsFrontWorn old new w)
    → IfErr o (λ w. WasWorn new.view.number new.view.items w.head w.place) → IsHolding new → new.at ≡ old.at
    → AddsOwn bit_table (record { wait = r }) stage.PrepareQueue old new o
bit_adds r c is old new o queued worn noted held at = adds_front bit_table (record { wait = r }) stage.PrepareQueue
    (wait_bit_in r) kind.Bit refl (λ p. refl) (λ p. (refl, refl)) (λ j k x. x) old new o
    (subst (λ (d : Watch). IfOk o (λ _. HasAdded IsFrontPlace old new 0 (front_entry d kind.Bit))) is queued) worn
    noted held at

-- how a whole wait begins, and what it says at its end
pub begins_at : (k : Known) (r : Run (Framed WaitBit)) → IsRunningBitWait r.of.wait → IsTold k → IsUp k → IsIdle k → IsOut k
    → IsAt bit_table k r (stage.Test test.First)
begins_at k r runs = begins bit_table k r (stage.Test test.First) runs refl refl refl refl tt

-- the cause of an answer, by the call
abbrev CauseOf : Known → Watch → SleepState → Result (Unit {0}) BitEnd → Type 0
CauseOf k (watch.Bit w b) st x = IsBitCause k w b st x
CauseOf k _ st x = ⊥

-- a wait that was not asked to leave
cause_is : (k : Known) (r : WaitBit) (o : BitOutcome) → r.asked ≡ false → BitCauseIn k r o
    → IsBitCause k r.word r.bit r.state (bit_end_in r o)
cause_is k r outcome.Over none x = tt
cause_is k r outcome.Interrupted none x = subst (λ (b : Bool). BitWhyFailed b k r) none x
cause_is k r outcome.Worn none x = x

answer_is : (r : WaitBit) (o : BitOutcome) → answer_to_bit o ≡ answer_of_bit_end (bit_end_in r o)
answer_is r outcome.Over = refl
answer_is r outcome.Interrupted = refl
answer_is r outcome.Worn = refl

worn_is : (r : WaitBit) (o : BitOutcome) → is_bit_worn o ≡ finds_no_place (bit_end_in r o)
worn_is r outcome.Over = refl
worn_is r outcome.Interrupted = refl
worn_is r outcome.Worn = refl

-- a wait that ended, from whatever stage, and what the task did then
module _ (old ended : Known) (q : Run (Framed WaitBit)) (o : BitOutcome) (kept : Keeps (index old.view.number 0) old ended)
    (at_end : IsEnded bit_table ended q o) (new : Known) (h : HasRested ended new (is_bit_worn o)) where
  rested : Rested ended new
  rested = rests ended new (is_bit_worn o) (state_mask q.of.wait.state) h at_end.stands.state

  ends_up : IsUp new
  ends_up = rested.awake ∙ at_end.up

  out_then : (told_of ended).bits.stored (index old.view.number 0) ≡ None
  out_then = ap (λ (n : ℕ). (told_of ended).bits.stored (index n 0)) (sym kept.number)
      ∙ none_of (wait_bit_in q.of.wait) ((told_of ended).bits.stored (index ended.view.number 0)) at_end.stands.home

  owes_still : (x : Excuse) → OwesBut x ended → OwesBut x new
  owes_still x o = record {
    unmarked = rested.mark ∙ o.unmarked;
    debts = rested.debts x o.debts;
    unqueued = λ y. subst (IsOutBut (x.entries y)) (sym (rested.stored y)) (o.unqueued y);
    holds = λ d. ap (λ (b : Bool). not (x.bits d) && b) (rested.keeps d) ∙ o.holds d;
    tries = λ d. rested.pending d ∙ o.tries d;
    tries_none = λ y d. ap (λ (s : Option Entry). is_trying_for s d) (rested.stored y) ∙ o.tries_none y d;
  }

  owes_on : (x : Excuse) → OwesBut x old → OwesBut x new
  owes_on x owes =
      let i = index old.view.number 0 in
      owes_still x (owes_out i x ended out_then (kept.owes x (owes_also i x old owes)))

  pub ends_kept : Keeps (index old.view.number 0) old new
  ends_kept =
      let i = index old.view.number 0 in
      wait_stays.on i (wait_bit_in q.of.wait) false false false old ended new kept (record {
        domain = rested.domain;
        number = rested.number;
        mark = rested.mark;
        fewer = λ w σ is. rested.owes w σ ∙ is;
        out = λ x away none. rested.stored x ∙ none;
        stands = λ slot few away e is own. rested.stored (index ended.view.number slot) ∙ is;
        keeps = λ d. rested.keeps d;
        owes = λ x owes. owes_still (with_entry i x) owes;
      })

  pub ends_over : StandsOver old new
  ends_over = record {
    up = ends_up;
    idle = λ unmarked. rested_idle ended new (bit_end_post q.of.wait o) at_end.stands refl refl rested
        (kept.mark ∙ unmarked);
    out = rested_out ended new (bit_end_post q.of.wait o) at_end.stands refl rested;
  }

  -- who began owing nothing owes nothing
  pub ends_clean : IsClean old → IsClean new
  ends_clean clean = record {
    up = ends_up;
    running = rested.state;
    free = (ends_over.idle clean.settled.unmarked).free;
    settled = owes_on no_excuse clean.settled;
  }

  -- who began idle goes on as it was
  pub ends_carried : IsUp old → IsIdle old → (told_of old).hold.head ≡ None
      → Carries (wait_change (index old.view.number 0) new.at) old new
  ends_carried up idle held =
      let keeps = kept in
      let stands = at_end.stands in record {
        domain = rested.domain ∙ keeps.domain;
        number = rested.number ∙ keeps.number;
        awake = ends_up ∙ sym up;
        state = rested.state ∙ sym idle.running;
        head = rested.head ∙ (stands.head ∙ sym idle.free.head);
        ticket = rested.ticket ∙ (stands.ticket ∙ sym idle.free.ticket);
        hold = rested.hold ∙ (stands.told ∙ sym held);
        at = refl;
        mark = rested.mark ∙ keeps.mark;
        fewer = λ w σ none is. rested.owes w σ ∙ keeps.fewer w σ is;
        stored = λ x none away. absurd (cc);
        out = λ x away none. rested.stored x ∙ keeps.out x away none;
        stands = λ slot few away e is own. rested.stored (index old.view.number slot)
            ∙ keeps.stands slot few away e is own;
        keeps = λ d _. rested.keeps d ∙ keeps.keeps d;
        owes = λ x owes. owes_on x owes;
      }

module _ (old ended : Known) (r q : Run (Framed WaitBit)) (w b : ℕ) (st : SleepState) (fresh : IsFreshBitWait r.of.wait w b st)
    (o : BitOutcome) (a : Advances bit_table old ended r q (stage.Test test.First) (turn.Done o)) (new : Known)
    (h : HasRested ended new (is_bit_worn o)) where
  began : bit_frame.plan_of r.of.wait ≡ with_asked r.of.wait.asked (call_plan (calls.WaitBit w b st))
  began i = with_asked r.of.wait.asked (call_plan (calls.WaitBit (fresh.word i) (fresh.bit i) (fresh.state i)))

  pub ends_wait : EndsBitWait old new w b st (bit_end_in q.of.wait o)
  ends_wait = record {
    ended = ended;
    runs = ended_runs bit_table old ended r q (stage.Test test.First) o a
        (with_asked r.of.wait.asked (call_plan (calls.WaitBit w b st))) began
        (answer_of_bit_end (bit_end_in q.of.wait o)) (answer_is q.of.wait o);
    cause = subst (λ (p : Plan). CauseOf ended p.watch p.state (bit_end_in q.of.wait o)) (a.same ∙ began)
        (cause_is ended q.of.wait o (ap (λ (p : Plan). p.asked) a.same ∙ fresh.unasked) a.lands.trail);
    rests = subst (HasRested ended new) (worn_is q.of.wait o) h;
  }
