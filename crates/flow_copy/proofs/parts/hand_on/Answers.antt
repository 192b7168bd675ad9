use Rattle.wait_rule.specs.Pipes.{write_end}
use Rattle.copy_turns.proofs.Pieces.{handed_end}
use Rattle.std.proofs.Common.{rules}
use Rattle.std.specs.Prelude.{Err}
use Rattle.flow_copy.specs.Workers.{HandsBytes, put_all, put_halted}
use Rattle.flow_copy.proofs.parts.hand_on.Goals as goal

pub returns : goal.returns
returns g c = record {
  handed = handed_end (write_end c.args.pipe) c.args.task.now c.put_whole.new.task c.count.new.task c.args.bytes.now
      c.count.result c.in_ok-put_whole.ensures.put c.count.ensures.counts c.count.ensures.cause;
  goes = put_all c.put_whole.new.task c.count.result c.in_ok-put_whole.ensures.goes c.count.ensures.goes;
}

pub returns-in_err-put_whole-clause-goes : goal.returns-in_err-put_whole-clause-goes
returns-in_err-put_whole-clause-goes g c =
    let halted : HandsBytes (write_end c.args.pipe) c.args.task.now c.put_whole.new.task c.args.bytes.now
    (Err c.in_err-put_whole.field-0.0)
    = put_halted c.in_err-put_whole.field-0.0 c.in_err-put_whole.ensures.goes in
    search rules
