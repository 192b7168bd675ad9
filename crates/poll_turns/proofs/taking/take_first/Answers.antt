use Rattle.std.proofs.Common.{refl, rules}
use Rattle.poll_turns.specs.PollTurns.{PollAskedIf}
use Rattle.poll_turns.proofs.Ending.{first_awaits, first_draws, first_off}
use Rattle.wait_model.specs.declared.steps.Step.TheVariants as step
use Rattle.poll_turns.specs.declared.stages.PollStage.TheVariants as stage
use Rattle.poll_turns.proofs.Showing.{first_quiet, made_then, quiet_again, quiet_on, quiet_same, step_quiet, waits_still}
use Rattle.poll_turns.proofs.taking.take_first.Goals as goal

pub draw_lock-ticket-requires : goal.draw_lock-ticket-requires
draw_lock-ticket-requires c =
    let x = c.requires.at in
    let may = first_draws (PollAskedIf x.0) c.args.poll c.requires.poll x.1 c.args.task.now c.args.end x.2 c.told.ensures
    c.set_state.new.task c.set_state.ensures.step c.set_state.ensures.carries c.own_entry.new.task c.own_entry.result
    c.own_entry.ensures c.in-Some.entry c.in-Some.is c.head_of-head.result c.head_of-head.ensures in
    record { of = search rules; up = may.up; free = may.free; head = may.fits }

pub returns-in-None-clause-goes : goal.returns-in-None-clause-goes
returns-in-None-clause-goes c = record {
  came = λ b start x. first_off (PollAskedIf b) c.args.poll c.requires.poll start c.args.task.now c.args.end
      x c.told.ensures c.set_state.new.task c.set_state.ensures.step c.set_state.ensures.carries c.own_entry.new.task
      c.own_entry.result c.own_entry.ensures c.in-None.is c.told-in-None.ensures;
  did = let q = first_quiet c.set_state.new.task c.own_entry.new.task c.own_entry.result c.own_entry.ensures in
      quiet_again c.args.poll c.args.task.now c.own_entry.new.task (stage.TakeFirst c.args.end) (stage.TakeSecond c.args.end)
      (quiet_on c.args.task.now c.set_state.new.task c.own_entry.new.task
      (step_quiet c.args.task.now c.set_state.new.task (step.State 0) c.set_state.ensures.step refl refl) q)
      (made_then c.args.task.now c.set_state.new.task c.own_entry.new.task (step.State 0) c.set_state.ensures.step q.awake);
}

pub returns-in-Some-clause-goes : goal.returns-in-Some-clause-goes
returns-in-Some-clause-goes c = record {
  came = λ b start x. first_awaits (PollAskedIf b) c.args.poll c.requires.poll start c.args.task.now
      c.args.end x c.told.ensures c.set_state.new.task c.set_state.ensures.step c.set_state.ensures.carries
      c.own_entry.new.task c.own_entry.result c.own_entry.ensures c.in-Some.entry c.in-Some.is c.head_of-head.result
      c.head_of-head.ensures c.draw_lock-ticket.new.task c.draw_lock-ticket.result c.draw_lock-ticket.ensures.awaits;
  did = let new = c.draw_lock-ticket.new.task in
      let q = quiet_on c.set_state.new.task c.own_entry.new.task new
      (first_quiet c.set_state.new.task c.own_entry.new.task c.own_entry.result c.own_entry.ensures)
      (quiet_same c.own_entry.new.task new (waits_still c.own_entry.new.task new c.head_of-head.result
      c.draw_lock-ticket.result c.draw_lock-ticket.ensures.awaits)) in
      quiet_again c.args.poll c.args.task.now new (stage.TakeFirst c.args.end)
      (stage.HoldTakeFirst c.args.end c.head_of-head.result c.draw_lock-ticket.result)
      (quiet_on c.args.task.now c.set_state.new.task new
      (step_quiet c.args.task.now c.set_state.new.task (step.State 0) c.set_state.ensures.step refl refl) q)
      (made_then c.args.task.now c.set_state.new.task new (step.State 0) c.set_state.ensures.step q.awake);
}
