use Rattle.std.proofs.Common.{Err, Ok, ◌∙◌, sym}
use Rattle.poll_turns.specs.PollTurns.{PollAskedIf}
use Rattle.poll_turns.proofs.Loading.{loads_blind, loads_looks, loads_ready, loads_worn}
use Rattle.poll_turns.specs.declared.stages.PollStage.TheVariants as stage
use Rattle.poll_turns.specs.declared.stages.PollUntil.TheVariants as until
use Rattle.poll_wait.specs.declared.turns.PollEnd.TheVariants as poll_end
use Rattle.poll_turns.proofs.Showing.{loads_again}
use Rattle.poll_turns.proofs.asking.load_queued.Goals as goal

pub returns-in-Some-clause-goes : goal.returns-in-Some-clause-goes
returns-in-Some-clause-goes c = record {
  came = λ b start x. loads_ready (PollAskedIf b) c.args.poll c.requires.poll start c.args.task.now
      c.load_both-loads.new.task c.args.queued x c.load_both-loads.result c.load_both-loads.ensures.loaded
      c.load_both-loads.ensures.carries c.in-Some.ready (sym c.ready.ensures ∙ c.in-Some.is);
  did = loads_again c.args.poll c.load_both-loads.result c.args.task.now c.load_both-loads.new.task
      c.load_both-loads.ensures.loaded (stage.Load c.args.queued) (stage.TakeFirst (until.Over (Ok c.in-Some.ready)));
}

pub returns-in-Err-clause-goes : goal.returns-in-Err-clause-goes
returns-in-Err-clause-goes c = record {
  came = λ b start x. loads_worn (PollAskedIf b) c.args.poll c.requires.poll start c.args.task.now
      c.load_both-loads.new.task c.args.queued x c.load_both-loads.result c.load_both-loads.ensures.loaded
      c.load_both-loads.ensures.carries (sym c.ready.ensures ∙ c.in_default.is) c.in-Err.worn c.in-Err.is;
  did = loads_again c.args.poll c.load_both-loads.result c.args.task.now c.load_both-loads.new.task
      c.load_both-loads.ensures.loaded (stage.Load c.args.queued)
      (stage.TakeFirst (until.Over (Err (poll_end.Worn c.in-Err.worn.head c.in-Err.worn.place))));
}

pub returns-then-looks-clause-goes : goal.returns-then-looks-clause-goes
returns-then-looks-clause-goes c = record {
  came = λ b start x. loads_looks (PollAskedIf b) c.args.poll c.requires.poll start c.args.task.now
      c.load_both-loads.new.task c.args.queued x c.load_both-loads.result c.load_both-loads.ensures.loaded
      c.load_both-loads.ensures.carries (sym c.ready.ensures ∙ c.in_default.is) c.in-Ok.is
      (sym c.looks.ensures ∙ c.if-looks.true);
  did = loads_again c.args.poll c.load_both-loads.result c.args.task.now c.load_both-loads.new.task
      c.load_both-loads.ensures.loaded (stage.Load c.args.queued) (stage.Ask c.load_both-loads.result);
}

pub returns-else-looks-clause-goes : goal.returns-else-looks-clause-goes
returns-else-looks-clause-goes c = record {
  came = λ b start x. loads_blind (PollAskedIf b) c.args.poll c.requires.poll start c.args.task.now
      c.load_both-loads.new.task c.args.queued x c.load_both-loads.result c.load_both-loads.ensures.loaded
      c.load_both-loads.ensures.carries (sym c.ready.ensures ∙ c.in_default.is) c.in-Ok.is
      (sym c.looks.ensures ∙ c.if-looks.false);
  did = loads_again c.args.poll c.load_both-loads.result c.args.task.now c.load_both-loads.new.task
      c.load_both-loads.ensures.loaded (stage.Load c.args.queued) (stage.Sleep c.none.result);
}
