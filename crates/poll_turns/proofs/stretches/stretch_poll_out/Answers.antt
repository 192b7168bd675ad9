use Rattle.std.proofs.Common.{ℕ, ◌∙◌, subst, sym}
use Rattle.std.specs.Prelude.{true}
use Rattle.poll_turns.specs.{PollTurns.PollAskedIf, PollShows.DidStretch}
use Rattle.poll_turns.proofs.{Quitting.on_turn, Showing.out_awake}
use Rattle.poll_turns.specs.declared.stages.PollStage.TheVariants as stage
use Rattle.poll_turns.proofs.stretches.stretch_poll_out.Goals as goal

pub load_last-requires-clause-at : goal.load_last-requires-clause-at
load_last-requires-clause-at c =
    let x = c.requires.at in (
      x.1,
      on_turn (PollAskedIf x.0) c.args.poll x.1 c.args.task.now c.args.stage (sym c.leaves_at.ensures ∙ c.if-leaves_at.true)
          x.2,
    )

pub returns-then-leaves_at-clause-came : goal.returns-then-leaves_at-clause-came
returns-then-leaves_at-clause-came c start x = c.load_last.ensures.came start
    (on_turn (PollAskedIf true) c.args.poll start c.args.task.now c.args.stage (sym c.leaves_at.ensures ∙ c.if-leaves_at.true)
    x)

pub returns-then-leaves_at-clause-stands : goal.returns-then-leaves_at-clause-stands
returns-then-leaves_at-clause-stands c =
    let x = c.requires.at in (
      true,
      x.1,
      c.load_last.ensures.came x.1
          (on_turn (PollAskedIf x.0) c.args.poll x.1 c.args.task.now c.args.stage
          (sym c.leaves_at.ensures ∙ c.if-leaves_at.true) x.2),
    )

pub returns-clause-came : goal.returns-clause-came
returns-clause-came c start x = c.stretch_poll.ensures.came true start x

pub returns-then-leaves_at-clause-did : goal.returns-then-leaves_at-clause-did
returns-then-leaves_at-clause-did c = subst (λ (h : ℕ). DidStretch c.args.poll c.args.task.now c.load_last.new.task h
    c.args.stage c.load_last.result) (sym c.requires.passes) (c.load_last.ensures.did c.args.stage)

pub returns-then-leaves_at-clause-awake : goal.returns-then-leaves_at-clause-awake
returns-then-leaves_at-clause-awake c = (c.load_last.ensures.did stage.First).sleeps

pub returns-clause-awake : goal.returns-clause-awake
returns-clause-awake c = out_awake c.args.stage c.args.task.now c.stretch_poll.new.task
    (sym c.leaves_at.ensures ∙ c.if-leaves_at.false) c.stretch_poll.ensures.did.sleeps
