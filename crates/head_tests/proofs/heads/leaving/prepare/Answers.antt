use Rattle.std.proofs.Common.{◌∙◌, ap, refl}
use Rattle.wait_model.specs.declared.layout.TheConstants.{UNINTERRUPTIBLE}
use Rattle.wait_model.specs.declared.steps.Step.TheVariants as step
use Rattle.wait_rule.specs.Known.{Known}
use Rattle.head_tests.proofs.LeavingTask.{entry_after}
use Rattle.head_tests.proofs.heads.leaving.prepare.Goals as goal

pub returns-clause-queued : goal.returns-clause-queued
returns-clause-queued c =
    let s = c.set_state.ensures.step in
    let b = c.requires.back.queued in record {
      up = ap (λ (k : Known). k.book.awake) s ∙ b.up;
      free = record {
        head = ap (λ (k : Known). k.book.head) s ∙ b.free.head;
        ticket = ap (λ (k : Known). k.book.ticket) s ∙ b.free.ticket;
      };
      entry = entry_after c.args.task.now c.set_state.new.task c.args.kind
          (step.State UNINTERRUPTIBLE) refl refl s b.entry;
    }
