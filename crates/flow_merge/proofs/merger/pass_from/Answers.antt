use Rattle.std.proofs.Common.{subst, sym}
use Rattle.std.specs.Prelude.{ℕ, Option}
use Rattle.wait_rule.specs.Pipes.{read_end}
use Rattle.copy_plan.specs.declared.stop.Stop.{Stop}
use Rattle.copy_turns.specs.Turns.{Relaying}
use Rattle.flow_copy.specs.Workers.{GetsAnd, RelaysPiece}
use Rattle.flow_merge.specs.{declared.TheConstants.MERGED_PIPE, Mergers.Merging}
use Rattle.flow_merge.proofs.Turns.{merging_from}
use Rattle.flow_merge.proofs.merger.pass_from.Goals as goal

pub returns : goal.returns
returns g c = record {
  turn = subst (λ (h : Option Stop). Merging c.args.task.now c.pass_piece-how.new.task c.args.moved.now
      c.pass_piece-how.new.moved h) (sym c.goes_behind.ensures)
      (merging_from c.args.side c.args.task.now c.pass_piece-how.new.task c.args.moved.now c.pass_piece-how.new.moved
      c.requires.taps c.pass_piece-how.result
      (subst (λ (n : ℕ). Relaying n MERGED_PIPE c.args.task.now c.pass_piece-how.new.task c.args.moved.now
      c.pass_piece-how.new.moved c.pass_piece-how.result) c.pipe.ensures c.pass_piece-how.ensures.turn));
  goes = record {
    piece = c.pass_piece-how.ensures.goes.0;
    ended = c.pass_piece-how.result;
    gets = subst (λ (n : ℕ). GetsAnd (read_end n) (RelaysPiece MERGED_PIPE) c.args.task.now c.pass_piece-how.new.task
        c.pass_piece-how.ensures.goes.0 c.pass_piece-how.result) c.pipe.ensures c.pass_piece-how.ensures.goes.1;
    on = c.goes_behind.ensures;
  };
}
