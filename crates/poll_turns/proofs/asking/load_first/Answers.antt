use Rattle.std.proofs.Common.{Ok, ◌≡◌, ◌∙◌, sym, subst}
use Rattle.wait_rule.specs.Stays.{Carries, unchanged}
use Rattle.poll_wait.specs.Polls.{loaded}
use Rattle.poll_turns.specs.PollTurns.{PollAskedIf}
use Rattle.poll_turns.proofs.Loading.{first_ready, first_unset}
use Rattle.poll_turns.specs.declared.stages.PollStage.TheVariants as stage
use Rattle.poll_turns.specs.declared.stages.PollUntil.TheVariants as until
use Rattle.poll_turns.proofs.Showing.{loads_again, loads_quiet, quiet_done}
use Rattle.poll_turns.proofs.asking.load_first.Goals as goal

pub returns-in-None-clause-goes : goal.returns-in-None-clause-goes
returns-in-None-clause-goes c = record {
  came = λ b start x. let new = c.load_both-loads.new.task in
      first_unset c.args.poll c.requires.poll start new x.1 c.load_both-loads.result
      (subst (λ (k : _). new ≡ loaded c.args.poll c.load_both-loads.result k) x.0 c.load_both-loads.ensures.loaded)
      (subst (λ (k : _). Carries unchanged k new) x.0 c.load_both-loads.ensures.carries) (sym c.ready.ensures ∙ c.in-None.is);
  did = loads_again c.args.poll c.load_both-loads.result c.args.task.now c.load_both-loads.new.task
      c.load_both-loads.ensures.loaded stage.First stage.QueueFirst;
}

pub returns-in-Some-clause-goes : goal.returns-in-Some-clause-goes
returns-in-Some-clause-goes c = record {
  came = λ b start x. let new = c.load_both-loads.new.task in
      first_ready c.args.poll c.requires.poll start new x.1 c.load_both-loads.result
      (subst (λ (k : _). new ≡ loaded c.args.poll c.load_both-loads.result k) x.0 c.load_both-loads.ensures.loaded)
      (subst (λ (k : _). Carries unchanged k new) x.0 c.load_both-loads.ensures.carries) (PollAskedIf b) c.in-Some.ready
      (sym c.ready.ensures ∙ c.in-Some.is);
  did = quiet_done c.args.poll c.args.task.now c.load_both-loads.new.task stage.First
      (until.Over (Ok c.in-Some.ready))
      (loads_quiet c.args.poll c.load_both-loads.result c.args.task.now c.load_both-loads.new.task c.load_both-loads.ensures.loaded);
}
