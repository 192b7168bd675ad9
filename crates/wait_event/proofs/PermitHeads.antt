-- The heads of waits for plain conditions and variables are none of a completion.
use Rattle.std.proofs.Common.{arith}
use Rattle.std.specs.Prelude.{ℕ, ◌+◌, ◌<◌}
use Rattle.wait_model.specs.{declared.tasks.How.How, declared.watches.Watch.Watch, Watches.IsThere, Watches.head_of}
use Rattle.wait_model.specs.declared.layout.TheConstants.{BIT_WORDS, FIRST_DONE_HEAD, FIRST_SIMPLE}
use Rattle.wait_model.specs.declared.watches.Watch.TheVariants as watch
use Rattle.wq_head.proofs.FullHeads.{hashed_low}
use Rattle.wait_event.specs.{WaitPlans.IsWaitFor, Waits.IsRunningWait, declared.waits.WaitCall.WaitCall}

low_for : (w : Watch) (how : How) → IsThere w → IsWaitFor w how → head_of w < FIRST_DONE_HEAD
unfolding head_of
low_for (watch.Plain c) how there suits = omega (arith, there)
low_for (watch.Var v old) how there suits = let low = hashed_low (BIT_WORDS + v) in omega (arith, low)
low_for (watch.Done d) how there suits = absurd suits
low_for (watch.Bit w b) how there suits = absurd suits

pub run_low : (r : WaitCall) → IsRunningWait r → head_of r.watch < FIRST_DONE_HEAD
run_low r runs = low_for r.watch r.how runs.there runs.suits

pub cond_low : (c : ℕ) → c < FIRST_SIMPLE → head_of (watch.Plain c) < FIRST_DONE_HEAD
unfolding head_of
cond_low c full = omega (arith, full)
