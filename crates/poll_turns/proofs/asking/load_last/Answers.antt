use Rattle.std.proofs.Common.{Ok, ◌∙◌, sym}
use Rattle.poll_turns.proofs.{Quitting.quits_left, Quitting.quits_ready, Showing.loads_again}
use Rattle.poll_turns.specs.declared.stages.PollStage.TheVariants as stage
use Rattle.poll_turns.specs.declared.stages.PollUntil.TheVariants as until
use Rattle.poll_turns.proofs.asking.load_last.Goals as goal

pub load_both-loads-requires-clause-up : goal.load_both-loads-requires-clause-up
load_both-loads-requires-clause-up c = c.requires.at.1.within.has.up

pub load_both-loads-requires-clause-free : goal.load_both-loads-requires-clause-free
load_both-loads-requires-clause-free c = c.requires.at.1.within.has.free

pub returns-in-Some-clause-came : goal.returns-in-Some-clause-came
returns-in-Some-clause-came c start x = quits_ready c.args.poll c.requires.poll start c.args.task.now
    c.load_both-loads.new.task x c.load_both-loads.result c.load_both-loads.ensures.loaded
    c.load_both-loads.ensures.carries c.in-Some.ready (sym c.ready.ensures ∙ c.in-Some.is)

pub returns-in-None-clause-came : goal.returns-in-None-clause-came
returns-in-None-clause-came c start x = quits_left c.args.poll c.requires.poll start c.args.task.now
    c.load_both-loads.new.task x c.load_both-loads.result c.load_both-loads.ensures.loaded
    c.load_both-loads.ensures.carries (sym c.ready.ensures ∙ c.in-None.is)

pub returns-in-Some-clause-did : goal.returns-in-Some-clause-did
returns-in-Some-clause-did c s = loads_again c.args.poll c.load_both-loads.result c.args.task.now c.load_both-loads.new.task
    c.load_both-loads.ensures.loaded s (stage.TakeFirst (until.Over (Ok c.in-Some.ready)))

pub returns-in-None-clause-did : goal.returns-in-None-clause-did
returns-in-None-clause-did c s = loads_again c.args.poll c.load_both-loads.result c.args.task.now c.load_both-loads.new.task
    c.load_both-loads.ensures.loaded s (stage.TakeFirst (until.Left c.load_both-loads.result.first c.load_both-loads.result.second))
