use Rattle.std.proofs.Common.{subst}
use Rattle.std.proofs.lemmas.Bool.{ltb-true}
use Rattle.std.specs.Prelude.{◌≡◌, true}
use Rattle.wait_model.specs.declared.layout.TheConstants.{PLAIN_CONDITIONS}
use Rattle.wait_model.specs.declared.steps.Step.TheVariants as step
use Rattle.wait_rule.specs.declared.journal.Item.TheVariants as item
use Rattle.wq_checked.specs.{Begins.numbers_fit, declared.calls.Call.Call}
use Rattle.wq_checked.specs.declared.calls.Call.TheVariants as call
use Rattle.wq_checked.proofs.Once.{item_ready, took_ready, tried_ready}
use Rattle.wq_checked.proofs.at_once.do_at_once.Goals as goal

pub returns-in-TryBit-clause-sound : goal.returns-in-TryBit-clause-sound
returns-in-TryBit-clause-sound c =
    let s = c.test_and_set-clear in
    tried_ready c.args.kept.now c.note.new.kept c.args.task.now s.new.task c.in-TryBit.word c.in-TryBit.bit s.result
    c.note.ensures s.ensures.tried s.ensures.sets c.requires.ready

pub returns-in-AddTally-clause-sound : goal.returns-in-AddTally-clause-sound
returns-in-AddTally-clause-sound c =
    let s = c.add_tally-value in
    item_ready c.args.kept.now c.args.task.now s.new.task (item.Tally c.in-AddTally.page c.in-AddTally.amount s.result)
    tt s.ensures.step s.ensures.carries c.requires.ready

pub returns-in-Take-clause-sound : goal.returns-in-Take-clause-sound
returns-in-Take-clause-sound c =
    let s = c.take_cond-value in
    let within : numbers_fit (call.Take c.in-Take.cond) ≡ true =
    subst (λ (q : Call). numbers_fit q ≡ true) c.in-Take.is c.requires.within in
    took_ready c.args.kept.now c.args.task.now s.new.task c.in-Take.cond s.result
    (ltb-true c.in-Take.cond PLAIN_CONDITIONS within) s.ensures.took s.ensures.carries c.requires.ready

pub returns-in-Accept-clause-sound : goal.returns-in-Accept-clause-sound
returns-in-Accept-clause-sound c =
    let s = c.take_bits-taken in
    item_ready c.args.kept.now c.args.task.now s.new.task (item.Made (step.Accept s.ensures.step.0)) tt
    s.ensures.step.2 s.ensures.carries c.requires.ready
