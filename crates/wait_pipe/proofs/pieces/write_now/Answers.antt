use Rattle.std.proofs.Common.{◌∙◌}
use Rattle.wait_pipe.proofs.Fills.{look_shows, word_ended, word_open}
use Rattle.wait_pipe.proofs.Turns.{put_broken, put_filled, then_rests, wrote_some}
use Rattle.wait_pipe.proofs.pieces.write_now.Goals as goal

pub returns-then-look : goal.returns-then-look
returns-then-look g c =
    let look = c.look_to_write-look.ensures in record {
      look = put_broken c.args.pipe look.waits c.requires.settled (look.seen.ended ∙ c.if-look.true);
      rests = look.waits.rests;
      goes = record {
        looks = look_shows look.seen c.args.task.now look.loads;
        ended = word_ended look.seen c.if-look.true;
      };
    }

pub returns : goal.returns
returns g c =
    let look = c.look_to_write-look.ensures in
    let unended = c.if-look.false in
    let f = c.fill-put.ensures.filled c.rouse.new.task c.rouse.ensures.roused in record {
      look = put_filled c.args.pipe look.waits c.requires.settled f c.fill-put.ensures.some c.fill-put.ensures.most
          (look.seen.ended ∙ unended);
      rests = then_rests look.waits f.rests;
      goes = wrote_some (look_shows look.seen c.args.task.now look.loads) (word_open look.seen unended) f.stores;
    }
