use Rattle.std.proofs.Common.{sym, ◌∙◌, ap}
use Rattle.waitq_alone.proofs.Playing.{going}
use Rattle.waitq_alone.proofs.silent.make_steps.Goals as goal

pub loop-i-preserved : goal.loop-i-preserved
loop-i-preserved c =
    let q = going c.args.count c.loop-i._i c.loop-i.core c.args.task c.step-stepped.result
    c.step-stepped.new.self
    c.loop-i-test.true c.step-stepped.ensures.answer c.step-stepped.ensures.run (sym c.if-stops.ensures) in
    record { run = sym (ap (λ r. r.1) q) ∙ c.loop-i.invariant.run }
