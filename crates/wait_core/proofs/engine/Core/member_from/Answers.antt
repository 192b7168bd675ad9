use Rattle.wait_model.specs.Runs.{state_of}
use Rattle.wait_core.proofs.{KeptCore.sound, StepAnswers.read_here, Members.next_member}
use Rattle.wait_core.proofs.engine.Core.member_from.Goals as goal

pub returns-clause-member : goal.returns-clause-member
returns-clause-member c =
    rw (← c.self.view_is) (read_here c.self.invariant.core c.deref.ensures.value c.member_ranked.ensures.member)

pub returns-clause-next : goal.returns-clause-next
returns-clause-next c =
    let core = c.self.invariant.core in
    let is = read_here core c.deref.ensures.value c.member_ranked.ensures.member in
    rw (← c.self.view_is, is) (next_member (state_of c.self.inside.run.items) _ (sound _ _ _ _ _ core) c.args.head
    c.args.least)

pub returns-clause-order : goal.returns-clause-order
returns-clause-order c =
    rw (← c.self.view_is) ((sound _ _ _ _ _ c.self.invariant.core).linked.ordered.order c.args.head)
