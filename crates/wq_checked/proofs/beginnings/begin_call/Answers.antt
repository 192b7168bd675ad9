use Rattle.std.proofs.Common.{refl, subst}
use Rattle.std.specs.Prelude.{◌≡◌, true}
use Rattle.wait_model.specs.declared.watches.Aim.{Aim}
use Rattle.wait_model.specs.declared.watches.Mode.TheVariants as mode
use Rattle.wait_model.specs.declared.watches.Watch.TheVariants as watch
use Rattle.wq_checked.specs.{Advancing.normal_wake, Begins.numbers_fit, declared.calls.Call.Call}
use Rattle.wq_checked.specs.declared.calls.Call.TheVariants as call
use Rattle.wq_checked.proofs.{OneHolds.set_swaking, OneHolds.swake_sound, Publishing.gave_waking, Publishing.set_waking}
use Rattle.wq_checked.proofs.WakeTurns.{first_sound}
use Rattle.wq_checked.proofs.Within.{bit_there, full_cond, kept_bit, simple_cond, var_there}
use Rattle.wq_checked.proofs.beginnings.begin_call.Goals as goal

pub returns-in-SetAndWake-clause-sound : goal.returns-in-SetAndWake-clause-sound
returns-in-SetAndWake-clause-sound c =
    let w = c.in-SetAndWake in
    let p = c.publish in
    let aim : Aim = record { watch = watch.Plain w.cond; mode = mode.Normal; count = w.count } in
    let within : numbers_fit (call.SetAndWake w.cond w.value w.count) ≡ true =
    subst (λ (q : Call). numbers_fit q ≡ true) w.is c.requires.within in
    first_sound c.args.kept.now p.new.task aim c.wake_of.result
    (set_waking c.args.kept.now c.args.task.now p.new.task aim c.requires.ready w.value p.ensures.step.0
    p.ensures.step.1 p.ensures.carries refl refl (full_cond w.cond within)) c.wake_of.ensures

pub returns-in-SetAndSimpleWake-clause-sound : goal.returns-in-SetAndSimpleWake-clause-sound
returns-in-SetAndSimpleWake-clause-sound c =
    let w = c.in-SetAndSimpleWake in
    let p = c.publish-in-SetAndSimpleWake in
    let within : numbers_fit (call.SetAndSimpleWake w.cond w.value w.all) ≡ true =
    subst (λ (q : Call). numbers_fit q ≡ true) w.is c.requires.within in
    swake_sound c.args.kept.now p.new.task c.new-run.result w.cond w.all
    (set_swaking c.args.kept.now c.args.task.now p.new.task w.cond w.value p.ensures.step.0 c.requires.ready
    p.ensures.step.1 p.ensures.carries) c.new-run.ensures (simple_cond w.cond within)

pub look-requires-clause-waking : goal.look-requires-clause-waking
look-requires-clause-waking c =
    let w = c.in-SetVar in
    let p = c.publish-in-SetVar in
    let within : numbers_fit (call.SetVar w.var w.value) ≡ true =
    subst (λ (q : Call). numbers_fit q ≡ true) w.is c.requires.within in
    set_waking c.args.kept.now c.args.task.now p.new.task (normal_wake (watch.Var w.var 0)) c.requires.ready w.value
    p.ensures.step.0 p.ensures.step.1 p.ensures.carries refl refl (var_there w.var w.value within)

pub returns-in-SetVar-clause-begun : goal.returns-in-SetVar-clause-begun
returns-in-SetVar-clause-begun c =
    let w = c.in-SetVar in
    let p = c.publish-in-SetVar in
    rw w.is (record {
      between = p.new.task;
      published = record { found = p.ensures.step.0; is = p.ensures.step.1 };
      looks = c.look.ensures.looks (call.SetVar w.var w.value) (λ r e. e);
    })

pub look-requires-in-ClearBit-clause-waking : goal.look-requires-in-ClearBit-clause-waking
look-requires-in-ClearBit-clause-waking c =
    let w = c.in-ClearBit in
    let b = c.bit_clear in
    let within : numbers_fit (call.ClearBit w.word w.bit) ≡ true =
    subst (λ (q : Call). numbers_fit q ≡ true) w.is c.requires.within in
    gave_waking c.args.kept.now c.take.new.self c.args.task.now b.new.task (normal_wake (watch.Bit w.word w.bit)) w.word
    w.bit b.ensures.step.0 refl refl (bit_there w.word w.bit within) c.requires.ready c.take.ensures
    (kept_bit w.word w.bit c.args.kept.now c.args.call w.is c.requires.keeps) b.ensures.clears b.ensures.step.1

pub returns-in-ClearBit-clause-begun : goal.returns-in-ClearBit-clause-begun
returns-in-ClearBit-clause-begun c =
    let w = c.in-ClearBit in
    let b = c.bit_clear in
    rw w.is (record {
      between = b.new.task;
      published = record { found = b.ensures.step.0; is = b.ensures.step.1 };
      looks = c.look-in-ClearBit.ensures.looks (call.ClearBit w.word w.bit) (λ r e. e);
    })
