use Rattle.std.specs.Prelude.{None, Some}
use Rattle.copy_turns.proofs.ReaderTurns.{reading_none, reading_then}
use Rattle.flow_copy.specs.Workers.{ReaderTurns, no_turn}
use Rattle.flow_copy.proofs.Words.{gave_more, gave_none}
use Rattle.flow_copy.proofs.reader.read_on.Goals as goal

pub loop-init : goal.loop-init
loop-init g c = record {
  turns = reading_none c.args.pipe c.args.task.now (g.S.Source.left c.args.source.now) (g.S.Source.faults c.args.source.now)
      c.args.read.now c.args.targets c.args.plan.now c.requires.work c.requires.settled c.requires.short;
  goes = gave_none (g.S.Source.left c.args.source.now) c.args.read.now
      (λ bytes. ReaderTurns c.args.pipe c.args.targets c.args.plan.now c.args.read.now c.args.task.now bytes c.args.task.now None)
      no_turn;
}

pub returns-in-Some-read_turn : goal.returns-in-Some-read_turn
returns-in-Some-read_turn g c = record {
  turns = reading_then c.args.pipe c.args.task.now c.loop.task c.read_turn.new.task (g.S.Source.left c.args.source.now)
      (g.S.Source.left c.loop.source) (g.S.Source.left c.read_turn.new.source)
      (g.S.Source.faults c.args.source.now) (g.S.Source.faults c.loop.source)
      (g.S.Source.faults c.read_turn.new.source) c.args.read.now c.loop.read c.read_turn.new.read c.args.targets
      c.args.plan.now (Some c.in-Some-read_turn.stop) c.loop.invariant.turns c.in-Some-read_turn.ensures.turn;
  goes = gave_more c.args.pipe c.args.targets c.args.plan.now c.args.read.now c.loop.read c.read_turn.new.read
      (g.S.Source.left c.args.source.now) (g.S.Source.left c.loop.source) (g.S.Source.left c.read_turn.new.source)
      c.args.task.now c.loop.task c.read_turn.new.task (Some c.in-Some-read_turn.stop) c.loop.invariant.goes
      c.in-Some-read_turn.ensures.goes;
}

pub loop-preserved : goal.loop-preserved
loop-preserved g c = record {
  turns = reading_then c.args.pipe c.args.task.now c.loop.task c.read_turn.new.task
      (g.S.Source.left c.args.source.now) (g.S.Source.left c.loop.source) (g.S.Source.left c.read_turn.new.source)
      (g.S.Source.faults c.args.source.now) (g.S.Source.faults c.loop.source)
      (g.S.Source.faults c.read_turn.new.source) c.args.read.now c.loop.read c.read_turn.new.read c.args.targets
      c.args.plan.now None c.loop.invariant.turns c.in-None-read_turn.ensures.turn;
  goes = gave_more c.args.pipe c.args.targets c.args.plan.now c.args.read.now c.loop.read c.read_turn.new.read
      (g.S.Source.left c.args.source.now) (g.S.Source.left c.loop.source) (g.S.Source.left c.read_turn.new.source)
      c.args.task.now c.loop.task c.read_turn.new.task None c.loop.invariant.goes c.in-None-read_turn.ensures.goes;
}
