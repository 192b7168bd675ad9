-- Calls about no completion leave no own entry at any.
use Rattle.std.proofs.Common.{◌∙◌, ap, sym, refl, subst, arith, inl, inr}
use Rattle.std.specs.Prelude.{ℕ, ◌≡◌, ◌<◌, ◌+◌, ◌*◌, Bool, true, false, None, List, [], ◌∷◌}
use Rattle.wait_model.specs.{declared.calls.Call.Call, declared.points.Next.Next, declared.queues.Walked.Walked}
use Rattle.wait_model.specs.{declared.steps.Step.Step, declared.watches.Aim.Aim, declared.watches.Watch.Watch}
use Rattle.wait_model.specs.Points.{call_watch}
use Rattle.wait_model.specs.declared.layout.TheConstants.{BIT_WORDS, FIRST_DONE_HEAD, PLAIN_CONDITIONS, WORD_BITS}
use Rattle.wait_model.specs.Watches.{IsThere, hashed, head_of}
use Rattle.wait_model.specs.declared.points.Next.TheVariants as next
use Rattle.wait_model.specs.declared.points.Point.TheVariants as at
use Rattle.wait_model.specs.declared.points.WalkPoint.TheVariants as walking
use Rattle.wait_model.specs.declared.steps.Step.TheVariants as step
use Rattle.wait_model.specs.declared.watches.Watch.TheVariants as watch
use Rattle.wait_rule.specs.{declared.journal.Item.Item, HandedPermits.StaysOff, Items.steps_of, Known.Known}
use Rattle.wait_rule.specs.Says.{added, history_of, told_of}
use Rattle.wait_rule.specs.Transitions.{AreScansOf, call_program, walk_program}
use Rattle.wait_rule.specs.declared.journal.Item.TheVariants as item
use Rattle.wait_rule.proofs.{KnownLaws.CalledPermits.left_on, KnownLaws.HandedSteps.AddsLow}
use Rattle.wait_rule.proofs.{KnownLaws.HandedSteps.AllAddLow, KnownLaws.OtherCalls.others_stay_off}
use Rattle.wait_rule.proofs.{KnownLaws.TaskHistories.history_after, TableSteps.ItemLists.steps_append}
use Rattle.wait_class.specs.{Posts.Runs, Wholes.HasRested}
use Rattle.wait_event.specs.{Waits.IsRunningWait, WaitPlans.IsWaitFor, declared.waits.WaitCall.WaitCall}
use Rattle.wq_head.specs.{Scanned.HasScanned, Turns.IsWakeOver}

-- the heads of conditions, bits and variables
pub plain_low : (c : ℕ) → c < PLAIN_CONDITIONS → head_of (watch.Plain c) < FIRST_DONE_HEAD
unfolding head_of
plain_low c few = omega arith

hashed_low : (n : ℕ) → hashed n < FIRST_DONE_HEAD
unfolding hashed
hashed_low n = omega arith

pub bit_low : (w b : ℕ) → head_of (watch.Bit w b) < FIRST_DONE_HEAD
unfolding head_of
bit_low w b = hashed_low (w * WORD_BITS + b)

pub var_low : (v o : ℕ) → head_of (watch.Var v o) < FIRST_DONE_HEAD
unfolding head_of
var_low v o = hashed_low (BIT_WORDS + v)

-- a call about such a head
pub calls_off : (call : Call) (old new : Known) (from to : Next) → head_of (call_watch call) < FIRST_DONE_HEAD
    → (told_of old).hold.head ≡ None → Runs (call_program old.view.number 0 call) old new from to → StaysOff old new
calls_off call old new from to low free runs = others_stay_off (call_program old.view.number 0 call) old new from to
    runs.transitions (inr (λ p. low)) free runs.goes

-- the head of a wait for a condition or a variable
pub event_low : (r : WaitCall) → IsRunningWait r → head_of r.watch < FIRST_DONE_HEAD
event_low r runs = by r.watch runs.there runs.suits
  where
    by : (c : Watch) → IsThere c → IsWaitFor c r.how → head_of c < FIRST_DONE_HEAD
    by (watch.Plain c) there suits = plain_low c there
    by (watch.Var v o) there suits = var_low v o
    by (watch.Bit w b) there suits = absurd suits
    by (watch.Done d) there suits = absurd suits

-- a wake queues nothing
pub wakes_off : (a : Aim) (start new : Known) (w : Walked) → (told_of start).hold.head ≡ None → IsWakeOver a start new w
    → StaysOff start new
wakes_off a start new w free o = others_stay_off (walk_program a) start new (next.Go (at.Walk walking.Lock)) _
    o.woken.transitions (inl refl) free o.woken.goes

-- one step more, which queues nothing at a completion
pub step_off : (old new : Known) (e : Step) → AddsLow e → new ≡ added old (item.Made e)
    → (told_of old).hold.head ≡ None → StaysOff old new
step_off old new e low is free = left_on old new (e ∷ []) (ap (λ (k : Known). k.view.number) is)
    (history_after old new e is) (low, tt) free

pub rest_off : (mid new : Known) (worn : Bool) → HasRested mid new worn → (told_of mid).hold.head ≡ None
    → StaysOff mid new
rest_off mid new true is free = step_off mid new (step.State 0) tt is free
rest_off mid new false is free = subst (StaysOff mid) (sym is) (λ d left. left)

-- loads of member words
scans_low : (h : ℕ) (xs : List Item) → AreScansOf h xs → AllAddLow (steps_of xs)
scans_low h [] l = tt
scans_low h (item.Made (step.Scan g i w) ∷ xs) l = (tt, scans_low h xs l.1)
scans_low h (x ∷ xs) l = absurd l.0

pub scan_off : (old new : Known) (head : ℕ) (hit : Bool) → HasScanned old new head hit
    → (told_of old).hold.head ≡ None → StaysOff old new
scan_off old new head hit s free = left_on old new (steps_of s.items) (ap (λ (k : Known). k.view.number) s.is)
    (ap history_of s.is ∙ steps_append old.view.items s.items) (scans_low head s.items s.loads) free
