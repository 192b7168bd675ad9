use Rattle.std.proofs.Common.{◌∙◌, ◌++◌, Bool, ap, sym, append-nil}
use Rattle.wq_head.specs.Roused.{tasks_in}
use Rattle.wq_head.proofs.RousedTasks.{roused_one, whom}
use Rattle.wq_head.proofs.rousing.wake_later.Goals as goal

pub returns-then-woke-clause-rouses : goal.returns-then-woke-clause-rouses
returns-then-woke-clause-rouses c =
    let s = c.in_ok-woke.ensures.step in
    roused_one c.args.task.now c.wake_tries.new.task c.args.who c.args.mask s.0 c.args.rousing.now c.put.new.self s.2
    (c.put.ensures ∙ ap (λ (b : Bool). tasks_in c.args.rousing.now ++ whom b c.args.who)
    (sym c.if-woke.true ∙ s.3.1))

pub returns-else-woke-clause-rouses : goal.returns-else-woke-clause-rouses
returns-else-woke-clause-rouses c =
    let s = c.in_ok-woke.ensures.step in
    roused_one c.args.task.now c.wake_tries.new.task c.args.who c.args.mask s.0
    c.args.rousing.now c.args.rousing.now s.2
    (sym (append-nil (tasks_in c.args.rousing.now))
    ∙ ap (λ (b : Bool). tasks_in c.args.rousing.now ++ whom b c.args.who) (sym c.if-woke.false ∙ s.3.1))
