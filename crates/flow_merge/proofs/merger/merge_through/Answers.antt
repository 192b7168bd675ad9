use Rattle.std.proofs.Common.{subst}
use Rattle.std.specs.Prelude.{Bool}
use Rattle.flow_merge.specs.{MergerSteps.MergesIf, MergerWords.TurnsIf}
use Rattle.flow_merge.proofs.MergerEnds.{merger_worked, still_open}
use Rattle.flow_merge.proofs.merger.merge_through.Goals as goal

pub close_ends-requires-clause-still : goal.close_ends-requires-clause-still
close_ends-requires-clause-still g c = still_open c.args.task.now c.open_ends-has.new.task c.open_ends-has.result
    c.open_ends-has.ensures.opens c.merge_if-ended.new.task c.merge_if-ended.result
    (subst (λ (x : Bool). MergesIf x c.open_ends-has.new.task c.merge_if-ended.new.task c.merge_if-ended.result)
    c.all.ensures c.merge_if-ended.ensures.turns)

pub returns : goal.returns
returns g c = record {
  did = merger_worked c.args.task.now c.open_ends-has.new.task c.merge_if-ended.new.task c.close_ends.new.task
      c.open_ends-has.result c.open_ends-has.ensures.opens c.close_ends.ensures.shuts c.requires.idler
      c.merge_if-ended.result
      (subst (λ (x : Bool). MergesIf x c.open_ends-has.new.task c.merge_if-ended.new.task c.merge_if-ended.result)
      c.all.ensures c.merge_if-ended.ensures.turns);
  goes = record {
    has = c.open_ends-has.result;
    claimed = c.open_ends-has.new.task;
    last = c.merge_if-ended.new.task;
    claims = c.open_ends-has.ensures.goes;
    turns = subst
        (λ (x : Bool). TurnsIf x c.open_ends-has.new.task c.merge_if-ended.new.task c.merge_if-ended.result.stop)
        c.all.ensures c.merge_if-ended.ensures.goes;
    closes = c.close_ends.ensures.goes;
  };
}
