use Rattle.std.proofs.Common.{◌∙◌, ap, false, subst, Ok}
use Rattle.wait_event.specs.Prepares.{EndsPart, exclusive_in}
use Rattle.wait_event.proofs.Preparing.{exclusive_ends}
use Rattle.wait_event.proofs.prepares.prepare_exclusive.Goals as goal

pub returns-in-Ok-Some-clause-ends : goal.returns-in-Ok-Some-clause-ends
returns-in-Ok-Some-clause-ends g c = exclusive_ends c.args.task.now c.prepare.new.task c.args.kind c.args.watch
    c.args.state c.in-Ok-Some.first
    (subst (EndsPart c.args.task.now c.prepare.new.task (record {
      kind = c.args.kind;
      watch = c.args.watch;
      how = exclusive_in c.args.state;
      asks = false;
    })) (c.in-Ok-Some.is ∙ ap Ok c.in-Ok-Some.field-0-is) c.prepare.ensures.ends)
