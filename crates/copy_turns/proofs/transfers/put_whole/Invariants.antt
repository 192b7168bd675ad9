use Rattle.std.proofs.Common.{◌≤◌, drop, length, take}
use Rattle.wait_rule.specs.Pipes.{write_end}
use Rattle.copy_turns.specs.{Transfers.Puts, Turns.HasGotBytes}
use Rattle.copy_turns.proofs.transfers.put_whole.Given as goal

abbrev pub invariant-loop : goal.invariant-loop
invariant-loop g l = record {
  most : l.done ≤ length l.bytes;
  got : HasGotBytes (write_end l.pipe) l.fn.task l.task (take l.done l.bytes);
  puts : Puts (write_end l.pipe) l.bytes l.fn.task (drop l.done l.bytes) l.task;
}
