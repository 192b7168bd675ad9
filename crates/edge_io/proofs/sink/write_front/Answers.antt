-- One more piece of the text is held.
use Rattle.std.proofs.Common.{◌∙◌, arith}
use Rattle.std.proofs.lemmas.Grind.{common_steps}
use Rattle.edge_io.proofs.Known.{append_known-next}
use Rattle.edge_io.proofs.sink.write_front.Goals as goal

pub loop-done-preserved : goal.loop-done-preserved
loop-done-preserved g c =
    let wrote = c.in-Ok.ensures in
    record {
      in_range = grind (arith, common_steps, wrote.fits);
      front = append_known-next _ _ _ c.args.text.now c.loop-done.done c.in-Ok.taken
          c.loop-done.invariant.front wrote.bytes;
      later = omega (arith, c.write.ensures.later);
      failed = c.in-Ok.ensures.failed ∙ c.loop-done.invariant.failed;
      wanted = c.in-Ok.ensures.wanted ∙ c.loop-done.invariant.wanted;
    }
