use Rattle.std.proofs.Common.{◌∙◌, ◌<◌, ap, subst, sym}
use Rattle.wait_model.specs.{declared.layout.TheConstants.FIRST_DONE_HEAD, Watches.head_of}
use Rattle.std.specs.Prelude.{ℕ}
use Rattle.wait_class.proofs.Ground.Standing.{bare_head}
use Rattle.wait_event.proofs.{PermitHeads.run_low, WaitAdds.adds_own}
use Rattle.wait_event.proofs.waits.WaitCallMachine.add.Goals as goal

pub add_by-requires-clause-head : goal.add_by-requires-clause-head
add_by-requires-clause-head c = ap head_of c.bare-watch.ensures ∙ (bare_head c.args.self.watch ∙ c.requires.may.head)

pub add_by-requires-clause-low : goal.add_by-requires-clause-low
add_by-requires-clause-low c = subst (λ (h : ℕ). h < FIRST_DONE_HEAD)
    (sym (ap head_of c.bare-watch.ensures ∙ bare_head c.args.self.watch)) (run_low c.args.self c.requires.may.fits)

pub returns : goal.returns
returns c here =
    let a = c.add_by.ensures in
    adds_own c.args.self c.args.task.now c.add_by.new.task c.args.stage here c.wait_form.result c.wait_form.ensures
    c.bare-watch.result c.bare-watch.ensures c.kind.result c.kind.ensures c.add_by.result a.queued a.worn a.noted a.held
    a.at
