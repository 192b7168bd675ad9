use Rattle.std.proofs.Common.{subst}
use Rattle.std.specs.Prelude.{◌≡◌, true, false}
use Rattle.wait_model.specs.declared.watches.Aim.{Aim}
use Rattle.wait_model.specs.declared.watches.Watch.TheVariants as watch
use Rattle.var_wait.specs.VarWaits.{shared_in}
use Rattle.swait_queue.specs.SimpleWaits.{tail_in}
use Rattle.wq_checked.specs.{Begins.numbers_fit, declared.calls.Call.Call}
use Rattle.wq_checked.specs.declared.calls.Call.TheVariants as call
use Rattle.wq_checked.proofs.{Publishing.ready_waking, Readiness.ready_asks, Readiness.ready_out, WakeTurns.first_sound}
use Rattle.wq_checked.proofs.Begun.{await_came, await_sound, bit_came, bit_sound, event_came, event_sound, lock_came}
use Rattle.wq_checked.proofs.Begun.{lock_sound, page_came, page_sound}
use Rattle.wq_checked.proofs.OneHolds.{cell_sound, ready_swaking, swake_sound}
use Rattle.wq_checked.proofs.Within.{cell_there, full_cond, simple_cond}
use Rattle.wq_checked.proofs.beginnings.first_of.Goals as goal

pub begin_wait-run-requires-clause-out : goal.begin_wait-run-requires-clause-out
begin_wait-run-requires-clause-out c = ready_out c.args.kept.now c.args.task.now c.requires.ready

pub begin_swait-run-requires-clause-out : goal.begin_swait-run-requires-clause-out
begin_swait-run-requires-clause-out c = ready_out c.args.kept.now c.args.task.now c.requires.ready

pub begin_var-run-requires-clause-out : goal.begin_var-run-requires-clause-out
begin_var-run-requires-clause-out c = ready_out c.args.kept.now c.args.task.now c.requires.ready

pub begin_bit-run-requires-clause-out : goal.begin_bit-run-requires-clause-out
begin_bit-run-requires-clause-out c = ready_out c.args.kept.now c.args.task.now c.requires.ready

pub begin_lock-run-requires-clause-out : goal.begin_lock-run-requires-clause-out
begin_lock-run-requires-clause-out c = ready_out c.args.kept.now c.args.task.now c.requires.ready

pub begin_page-run-requires-clause-out : goal.begin_page-run-requires-clause-out
begin_page-run-requires-clause-out c = ready_out c.args.kept.now c.args.task.now c.requires.ready

pub begin_await-run-requires-clause-out : goal.begin_await-run-requires-clause-out
begin_await-run-requires-clause-out c = ready_out c.args.kept.now c.args.task.now c.requires.ready

pub begin_page-run-requires-clause-asks : goal.begin_page-run-requires-clause-asks
begin_page-run-requires-clause-asks c = ready_asks c.args.kept.now c.args.task.now c.requires.ready

pub returns-in-Wait-clause-sound : goal.returns-in-Wait-clause-sound
returns-in-Wait-clause-sound c =
    let r = c.begin_wait-run in
    event_sound c.args.kept.now c.args.task.now r.result (watch.Plain c.in-Wait.cond) c.in-Wait.how c.requires.ready
    r.ensures.fresh r.ensures.at

pub returns-in-SimpleWait-clause-sound : goal.returns-in-SimpleWait-clause-sound
returns-in-SimpleWait-clause-sound c =
    let r = c.begin_swait-run in
    event_sound c.args.kept.now c.args.task.now r.result (watch.Plain c.in-SimpleWait.cond)
    (tail_in c.in-SimpleWait.state) c.requires.ready r.ensures.fresh r.ensures.at

pub returns-in-WaitVar-clause-sound : goal.returns-in-WaitVar-clause-sound
returns-in-WaitVar-clause-sound c =
    let r = c.begin_var-run in
    event_sound c.args.kept.now c.args.task.now r.result (watch.Var c.in-WaitVar.var c.in-WaitVar.old)
    (shared_in c.in-WaitVar.state) c.requires.ready r.ensures.fresh r.ensures.at

pub returns-in-WaitBit-clause-sound : goal.returns-in-WaitBit-clause-sound
returns-in-WaitBit-clause-sound c = bit_sound c.args.kept.now c.args.task.now c.begin_bit-run.result c.requires.ready
    c.begin_bit-run.ensures.fresh.unasked c.begin_bit-run.ensures.at

pub returns-in-WaitBit-clause-begun : goal.returns-in-WaitBit-clause-begun
returns-in-WaitBit-clause-begun c = record {
  first = rw c.in-WaitBit.is c.begin_bit-run.ensures.fresh;
  came = bit_came false c.args.task.now c.begin_bit-run.result c.begin_bit-run.ensures.fresh.unasked
      c.begin_bit-run.ensures.at;
}

pub returns-in-LockBit-clause-sound : goal.returns-in-LockBit-clause-sound
returns-in-LockBit-clause-sound c = lock_sound c.args.kept.now c.args.task.now c.begin_lock-run.result c.requires.ready
    c.begin_lock-run.ensures.unasked c.begin_lock-run.ensures.at

pub returns-in-LockBit-clause-begun : goal.returns-in-LockBit-clause-begun
returns-in-LockBit-clause-begun c = record {
  first = rw c.in-LockBit.is c.begin_lock-run.ensures.fresh;
  came = lock_came false c.args.task.now c.begin_lock-run.result c.begin_lock-run.ensures.unasked
      c.begin_lock-run.ensures.at;
}

pub returns-in-LockPage-clause-sound : goal.returns-in-LockPage-clause-sound
returns-in-LockPage-clause-sound c = page_sound c.args.kept.now c.args.task.now c.begin_page-run.result
    c.requires.ready c.begin_page-run.ensures.fresh.unasked c.begin_page-run.ensures.at

pub returns-in-LockPage-clause-begun : goal.returns-in-LockPage-clause-begun
returns-in-LockPage-clause-begun c = record {
  first = rw c.in-LockPage.is c.begin_page-run.ensures.fresh;
  came = page_came false c.args.task.now c.begin_page-run.result c.begin_page-run.ensures.fresh.unasked
      c.begin_page-run.ensures.at;
}

pub returns-in-WaitFor-clause-sound : goal.returns-in-WaitFor-clause-sound
returns-in-WaitFor-clause-sound c = await_sound c.args.kept.now c.args.task.now c.begin_await-run.result
    c.requires.ready c.begin_await-run.ensures.fresh.unasked c.begin_await-run.ensures.at

pub returns-in-WaitFor-clause-begun : goal.returns-in-WaitFor-clause-begun
returns-in-WaitFor-clause-begun c = record {
  first = rw c.in-WaitFor.is c.begin_await-run.ensures.fresh;
  came = await_came false c.args.task.now c.begin_await-run.result c.requires.ready.told
      c.begin_await-run.ensures.fresh.unasked c.begin_await-run.ensures.at;
}

pub returns-in-Cell-clause-sound : goal.returns-in-Cell-clause-sound
returns-in-Cell-clause-sound c =
    let within : numbers_fit (call.Cell c.in-Cell.call c.in-Cell.cell) ≡ true =
    subst (λ (q : Call). numbers_fit q ≡ true) c.in-Cell.is c.requires.within in
    cell_sound c.args.kept.now c.args.task.now c.new.result c.in-Cell.call c.in-Cell.cell c.requires.ready c.new.ensures
    (cell_there c.in-Cell.call c.in-Cell.cell within)

pub returns-in-SimpleWake-clause-sound : goal.returns-in-SimpleWake-clause-sound
returns-in-SimpleWake-clause-sound c =
    let within : numbers_fit (call.SimpleWake c.in-SimpleWake.cond c.in-SimpleWake.all) ≡ true =
    subst (λ (q : Call). numbers_fit q ≡ true) c.in-SimpleWake.is c.requires.within in
    swake_sound c.args.kept.now c.args.task.now c.new-run.result c.in-SimpleWake.cond c.in-SimpleWake.all
    (ready_swaking c.args.kept.now c.args.task.now c.in-SimpleWake.cond c.requires.ready) c.new-run.ensures
    (simple_cond c.in-SimpleWake.cond within)

pub returns-in-Wake-clause-sound : goal.returns-in-Wake-clause-sound
returns-in-Wake-clause-sound c =
    let w = c.in-Wake in
    let aim : Aim = record { watch = watch.Plain w.cond; mode = w.mode; count = w.count } in
    let within : numbers_fit (call.Wake w.cond w.mode w.count) ≡ true =
    subst (λ (q : Call). numbers_fit q ≡ true) w.is c.requires.within in
    first_sound c.args.kept.now c.args.task.now aim c.wake_of.result
    (ready_waking c.args.kept.now c.args.task.now aim c.requires.ready (full_cond w.cond within)) c.wake_of.ensures

pub returns-in-Wait-clause-begun : goal.returns-in-Wait-clause-begun
returns-in-Wait-clause-begun c = record {
  first = rw c.in-Wait.is c.begin_wait-run.ensures.fresh;
  came = event_came false c.args.task.now c.begin_wait-run.result _ _ c.begin_wait-run.ensures.fresh
      c.begin_wait-run.ensures.at;
}

pub returns-in-SimpleWait-clause-begun : goal.returns-in-SimpleWait-clause-begun
returns-in-SimpleWait-clause-begun c = record {
  first = rw c.in-SimpleWait.is c.begin_swait-run.ensures.fresh;
  came = event_came false c.args.task.now c.begin_swait-run.result _ _ c.begin_swait-run.ensures.fresh
      c.begin_swait-run.ensures.at;
}

pub returns-in-WaitVar-clause-begun : goal.returns-in-WaitVar-clause-begun
returns-in-WaitVar-clause-begun c = record {
  first = rw c.in-WaitVar.is c.begin_var-run.ensures.fresh;
  came = event_came false c.args.task.now c.begin_var-run.result _ _ c.begin_var-run.ensures.fresh
      c.begin_var-run.ensures.at;
}
