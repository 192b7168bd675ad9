use Rattle.std.proofs.Common.{ℕ, ◌-◌, ◌*◌, ◌<◌, ◌≤◌, Option, IfSome, Some, None}
use Rattle.wait_model.specs.{declared.queues.Member.Member, Queues.rank, Runs.state_of}
use Rattle.wait_model.specs.declared.layout.TheConstants.{INDEXES, MEMBERS, PLACES}
use Rattle.wait_script.specs.Ending.{head_text}
use Rattle.wait_script.proofs.EndLines.{Partway}
use Rattle.wait_script.proofs.ending.write_head.Given as goal

abbrev pub invariant-members : goal.invariant-members
invariant-members g l = record {
  partway : Partway (g.K.Sink.held l.fn.out) (g.K.Sink.held l.out) ((state_of l.core).queue l.head) l.next
      (head_text l.head ((state_of l.core).queue l.head));
  fits : IfSome l.next (λ m. (m.at < MEMBERS) × (m.place < PLACES));
  later : g.K.Sink.faults l.fn.out ≤ g.K.Sink.faults l.out;
}

abbrev left : Option Member → ℕ
left None = 0
left (Some m) = INDEXES * PLACES - rank m

abbrev pub decreases-members : goal.decreases-members
decreases-members g l = left l.next
