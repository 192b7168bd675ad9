use Rattle.std.proofs.Common.{rules}
use Rattle.poll_turns.specs.PollTurns.{PollAskedIf}
use Rattle.poll_turns.proofs.Ending.{second_awaits, second_draws, second_off}
use Rattle.poll_turns.specs.declared.stages.PollStage.TheVariants as stage
use Rattle.poll_turns.proofs.Showing.{quiet_again, quiet_done, quiet_on, quiet_same, second_made, second_quiet, waits_still}
use Rattle.poll_turns.proofs.taking.take_second.Goals as goal

pub draw_lock-ticket-requires : goal.draw_lock-ticket-requires
draw_lock-ticket-requires c =
    let x = c.requires.at in
    let may = second_draws (PollAskedIf x.0) c.args.poll c.requires.poll x.1 c.args.task.now c.args.end x.2 c.told.ensures
    c.second_entry.new.task c.second_entry.result c.second_entry.ensures c.in-Some.entry c.in-Some.is
    c.head_of-head.result c.head_of-head.ensures in
    record { of = search rules; up = may.up; free = may.free; head = may.fits }

pub returns-in-None-clause-goes : goal.returns-in-None-clause-goes
returns-in-None-clause-goes c = record {
  came = λ b start x. second_off (PollAskedIf b) c.args.poll c.requires.poll start c.args.task.now
      c.args.end x c.told.ensures c.second_entry.new.task c.second_entry.result c.second_entry.ensures c.in-None.is;
  did = quiet_done c.args.poll c.args.task.now c.second_entry.new.task (stage.TakeSecond c.args.end)
      c.args.end (second_quiet c.args.task.now c.second_entry.new.task c.second_entry.result c.second_entry.ensures);
}

pub returns-in-Some-clause-goes : goal.returns-in-Some-clause-goes
returns-in-Some-clause-goes c = record {
  came = λ b start x. second_awaits (PollAskedIf b) c.args.poll c.requires.poll start c.args.task.now
      c.args.end x c.told.ensures c.second_entry.new.task c.second_entry.result c.second_entry.ensures c.in-Some.entry
      c.in-Some.is c.head_of-head.result c.head_of-head.ensures c.draw_lock-ticket.new.task c.draw_lock-ticket.result
      c.draw_lock-ticket.ensures.awaits;
  did = let new = c.draw_lock-ticket.new.task in
      let q = quiet_same c.second_entry.new.task new (waits_still c.second_entry.new.task new c.head_of-head.result
      c.draw_lock-ticket.result c.draw_lock-ticket.ensures.awaits) in
      quiet_again c.args.poll c.args.task.now new (stage.TakeSecond c.args.end)
      (stage.HoldTakeSecond c.args.end c.head_of-head.result c.draw_lock-ticket.result)
      (quiet_on c.args.task.now c.second_entry.new.task new
      (second_quiet c.args.task.now c.second_entry.new.task c.second_entry.result c.second_entry.ensures) q)
      (second_made c.args.task.now c.second_entry.new.task new c.second_entry.result c.second_entry.ensures q);
}
