use Rattle.std.proofs.Common.{◌≡◌, arith, refl}
use Rattle.std.specs.Prelude.{true}
use Rattle.wait_pipe.proofs.Fills.{at_end, look_shows, waited_settled, word_ended}
use Rattle.wait_pipe.proofs.Turns.{got_drained, got_end, read_some, then_rests}
use Rattle.wait_pipe.proofs.pieces.read_now.Goals as goal

pub returns-then-look : goal.returns-then-look
returns-then-look g c =
    let look = c.look_over-look.ensures in
    let shut : c.look_over-look.result.closed ≡ true = (let is = c.if-look.true in cc) in
    let end = at_end c.args.pipe look.seen (waited_settled look.waits c.requires.settled) c.between-there.ensures
    (let none = c.if-there-eq0.true in omega arith) shut in record {
      same = refl;
      look = got_end c.args.pipe look.waits c.requires.settled c.args.buf.now end;
      rests = look.waits.rests;
      goes = record {
        closed = record {
          looks = look_shows look.seen c.args.task.now look.loads;
          ended = word_ended look.seen shut;
        };
        all = end.all;
      };
    }

pub returns : goal.returns
returns g c =
    let look = c.look_over-look.ensures in
    let some = c.drain-got.ensures.some in
    let d = c.drain-got.ensures.drained c.rouse.new.task c.rouse.ensures.roused in record {
      same = c.drain-got.ensures.same;
      look = got_drained c.args.pipe look.waits c.requires.settled d some c.drain-got.ensures.most;
      rests = then_rests look.waits d.rests;
      goes = read_some (look_shows look.seen c.args.task.now look.loads) some d.loads;
    }
