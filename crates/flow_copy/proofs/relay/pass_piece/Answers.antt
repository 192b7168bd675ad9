use Rattle.std.proofs.Common.{refl, sym, ap, subst, arith}
use Rattle.std.specs.Prelude.{ℕ, ◌+◌, ◌%◌, ◌^◌, None, Some, Ok, Err, [], take}
use Rattle.std.proofs.lemmas.List.{length-take-le}
use Rattle.wait_rule.specs.Pipes.{read_end}
use Rattle.copy_plan.specs.declared.stop.Stop.{Stop}
use Rattle.copy_turns.specs.Turns.{Relaying}
use Rattle.copy_turns.proofs.PartLaws.{apart_same}
use Rattle.copy_turns.proofs.Relays.{relay_ended, relay_goes_on, relay_halted, relay_stopped}
use Rattle.flow_copy.specs.Workers.{RelaysPiece, got_piece}
use Rattle.flow_copy.proofs.Words.{get_ends, get_halts}
use Rattle.flow_copy.proofs.relay.pass_piece.Goals as goal

pub returns-in-Err : goal.returns-in-Err
returns-in-Err g c = record {
  turn = subst (λ (s : Stop). Relaying c.args.from c.args.to c.args.task.now c.get.new.task c.args.moved.now
      c.args.moved.now (Some s)) (sym c.stop_of.ensures) (relay_halted c.args.from c.args.to c.requires.apart c.args.task.now c.args.task.now
      c.get.new.task
      c.args.moved.now (omega arith) c.requires.pen (apart_same c.args.task.now c.requires.work) [] c.in-Err.ensures.got c.in-Err.halt refl
      c.in-Err.ensures.cause);
  goes = (
    [],
    get_halts (read_end c.args.from) (RelaysPiece c.args.to) c.args.task.now c.get.new.task c.get.new.buf
        c.in-Err.halt c.stop_of.result c.in-Err.ensures.goes c.stop_of.ensures,
  );
}

pub returns-then-taken-eq0 : goal.returns-then-taken-eq0
returns-then-taken-eq0 g c = record {
  turn = relay_ended c.args.from c.args.to c.requires.apart c.args.task.now c.args.task.now c.get.new.task
      c.args.moved.now (omega arith) c.requires.pen (apart_same c.args.task.now c.requires.work) (take c.in-Ok.taken c.get.new.buf)
      c.in-Ok.ensures.got (ap (λ (n : ℕ). take n c.get.new.buf) c.if-taken-eq0.true)
      (c.in-Ok.ensures.end c.if-taken-eq0.true);
  goes = (
    [],
    get_ends (read_end c.args.from) (RelaysPiece c.args.to) c.args.task.now c.get.new.task c.get.new.buf
        c.in-Ok.taken c.in-Ok.ensures.goes c.if-taken-eq0.true,
  );
}

pub returns-in-Ok-hand_on : goal.returns-in-Ok-hand_on
returns-in-Ok-hand_on g c = record {
  turn = relay_goes_on c.args.from c.args.to c.requires.apart c.args.task.now c.args.task.now c.get.new.task
      c.args.moved.now (omega arith) c.requires.pen (apart_same c.args.task.now c.requires.work) (take c.in-Ok.taken c.get.new.buf)
      c.in-Ok.ensures.got c.hand_on.new.task ((c.args.moved.now + c.in-Ok.taken) % 2 ^ 64)
      c.in-Ok-hand_on.ensures.handed
      (ap (λ (n : ℕ). (c.args.moved.now + n) % 2 ^ 64)
      (sym (length-take-le c.in-Ok.taken c.get.new.buf c.in-Ok.ensures.most)));
  goes = (
    take c.in-Ok.taken c.get.new.buf,
    got_piece c.get.new.task c.get.new.buf c.in-Ok.taken None c.get.ensures.same (let some = c.if-taken-eq0.false in omega (arith, some)) c.in-Ok.ensures.goes
        (Ok tt, c.in-Ok-hand_on.ensures.goes, refl),
  );
}

pub returns-in-Err-hand_on : goal.returns-in-Err-hand_on
returns-in-Err-hand_on g c = record {
  turn = subst (λ (s : Stop). Relaying c.args.from c.args.to c.args.task.now c.hand_on.new.task
      c.args.moved.now c.args.moved.now (Some s)) (sym c.stop_of-in-Err-hand_on.ensures) (relay_stopped c.args.from c.args.to c.requires.apart c.args.task.now
      c.args.task.now c.get.new.task c.args.moved.now (omega arith) c.requires.pen (apart_same c.args.task.now c.requires.work)
      (take c.in-Ok.taken c.get.new.buf) c.in-Ok.ensures.got c.hand_on.new.task c.in-Err-hand_on.halt
      c.in-Err-hand_on.ensures.handed);
  goes = (
    take c.in-Ok.taken c.get.new.buf,
    got_piece c.get.new.task c.get.new.buf c.in-Ok.taken (Some c.stop_of-in-Err-hand_on.result)
        c.get.ensures.same (let some = c.if-taken-eq0.false in omega (arith, some)) c.in-Ok.ensures.goes
        (Err c.in-Err-hand_on.halt, c.in-Err-hand_on.ensures.goes, ap Some c.stop_of-in-Err-hand_on.ensures),
  );
}
