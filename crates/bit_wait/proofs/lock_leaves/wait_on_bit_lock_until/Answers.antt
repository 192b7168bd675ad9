use Rattle.std.proofs.Common.{◌∙◌, refl, subst, sym}
use Rattle.std.specs.Prelude.{Result, true}
use Rattle.wait_model.specs.declared.watches.Watch.TheVariants as watch
use Rattle.wait_leave.specs.declared.exits.Until.{Until}
use Rattle.bit_wait.specs.{LockLeaves.EndsBitLockUntil, LockLeaves.takes_until, LockStays.TakesBit}
use Rattle.bit_wait.specs.declared.wait_calls.BitEnd.{BitEnd}
use Rattle.bit_wait.proofs.LockKinds.{locks_clean}
use Rattle.bit_wait.proofs.LockLeaving.{ends_until, left_domain, left_ended, left_over, left_takes}
use Rattle.bit_wait.proofs.lock_leaves.wait_on_bit_lock_until.Goals as goal

pub returns : goal.returns
returns g c =
    let k = c.args.task.now in
    let n = c.rest.new.task in
    let way = c.run_asked-outcome.ensures in
    let begun = c.begin_lock-call.ensures in
    let e = left_over _ _ _ _ _ _ _ _ way c.rest.ensures in
    let idle = e.idle c.requires.idle.unmarked in
    let takes : TakesBit k n (watch.Bit c.args.word c.args.bit) (takes_until c.until_of.result) =
    subst (λ (x : Until (Result (Unit {0}) BitEnd)). TakesBit k n (watch.Bit c.args.word c.args.bit) (takes_until x))
    (sym c.until_of.ensures) (left_takes _ _ _ _ _ _ _ _ way c.rest.ensures c.args.word c.args.bit
    (λ i. watch.Bit (begun.fresh.word i) (begun.fresh.bit i)) refl c.requires.up c.requires.idle c.requires.out
    (begun.told.head ∙ c.requires.idle.free.head)) in record {
      waited = subst (EndsBitLockUntil (g.Q.Fn.post c.args.asks tt true) k n c.args.word c.args.bit c.args.state)
          (sym c.until_of.ensures)
          (ends_until _ _ _ _ _ _ _ way c.rest.ensures _ _ _ begun.fresh begun.unasked);
      up = e.up;
      idle = idle;
      out = e.out;
      takes = takes;
      holder = λ clean. locks_clean k n (watch.Bit c.args.word c.args.bit) clean e.up idle
          (takes_until c.until_of.result) takes;
    }

pub rest-requires-clause-of : goal.rest-requires-clause-of
rest-requires-clause-of g c = left_domain _ _ _ _ _ _ _ c.run_asked-outcome.ensures ∙ c.requires.of

pub rest-requires-clause-up : goal.rest-requires-clause-up
rest-requires-clause-up g c = λ worn. (left_ended _ _ _ _ _ _ _ c.run_asked-outcome.ensures).up
