use Rattle.std.specs.Prelude.{◌<◌, List}
use Rattle.wait_model.specs.{declared.layout.TheConstants.TASKS, declared.calls.Ran.Ran, Runs.state_of}
use Rattle.std.proofs.Common.{arith, subst}
use Rattle.wait_core.specs.{declared.reads.Found.Found, Stepped.IsFound}
use Rattle.wait_core.proofs.KeptCore.{sound, call_sound}
use Rattle.wait_core.proofs.StepAnswers.{standing, read_here, shown_in, call_limit, call_reaches, call_fits}
use Rattle.wait_core.proofs.engine.Core.look.Goals as goal

pub arrived_at-walk-requires-clause-point : goal.arrived_at-walk-requires-clause-point
arrived_at-walk-requires-clause-point c =
    let core = c.self.invariant.core in
    let mine : c.args.task < TASKS = omega arith in
    let stands = standing _ _ _ _ _ core _ mine _ c.self.view_is _ _ c.requires in
    let k = call_sound _ _ _ _ _ core c.args.task mine c.args.call c.args.point stands in
    call_fits _ c.args.call c.args.point core.few k

pub seen_at-seen-requires-clause-call : goal.seen_at-seen-requires-clause-call
seen_at-seen-requires-clause-call c =
    let core = c.self.invariant.core in
    let mine : c.args.task < TASKS = omega arith in
    let stands = standing _ _ _ _ _ core _ mine _ c.self.view_is _ _ c.requires in
    call_limit _ c.args.call c.args.point
    (call_sound _ _ _ _ _ core c.args.task mine c.args.call c.args.point stands)

pub seen_at-seen-requires-clause-point : goal.seen_at-seen-requires-clause-point
seen_at-seen-requires-clause-point c =
    let core = c.self.invariant.core in
    let mine : c.args.task < TASKS = omega arith in
    let stands = standing _ _ _ _ _ core _ mine _ c.self.view_is _ _ c.requires in
    let k = call_sound _ _ _ _ _ core c.args.task mine c.args.call c.args.point stands in
    (call_reaches _ c.args.call c.args.point k, call_fits _ c.args.call c.args.point core.few k)

pub returns : goal.returns
returns c =
    let core = c.self.invariant.core in
    let mine : c.args.task < TASKS = omega arith in
    let stands = standing _ _ _ _ _ core _ mine _ c.self.view_is _ _ c.requires in
    let k = call_sound _ _ _ _ _ core c.args.task mine c.args.call c.args.point stands in
    let walks = read_here core c.deref.ensures.value c.arrived_at-walk.ensures.arrived in
    let found : Found = record { seen = c.seen_at-seen.result; walk = c.arrived_at-walk.result } in
    subst (λ (w : List Ran). IsFound w c.args.task c.args.call c.args.point found) c.self.view_is (record {
      seen = c.seen_at-seen.ensures.seen (state_of c.self.inside.run.items) _
          (shown_in _ _ (state_of c.self.inside.run.items) c.deref-3.ensures.value core.shown)
          (sound _ _ _ _ _ core) walks;
      walk = walks;
      point = call_fits _ c.args.call c.args.point core.few k;
      entry = c.seen_at-seen.ensures.called;
      calls = c.seen_at-seen.ensures.calls;
      member = c.arrived_at-walk.ensures.member;
    })
