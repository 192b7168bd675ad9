-- The worked lists of polls.
use Rattle.std.proofs.Common.{refl, subst}
use Rattle.std.specs.Prelude.{ℕ, ◌≡◌, Some, None, List, [], ◌∷◌, ◌++◌}
use Rattle.wait_model.specs.{declared.steps.Step.Step, declared.watches.Watch.Watch, Fold.view_of, Readings.FailedLoad}
use Rattle.wait_model.specs.Watches.{head_of}
use Rattle.wait_model.specs.declared.steps.Step.TheVariants as step
use Rattle.wait_model.proofs.HistoryLaws.PlainReadings.{failed_told}
use Rattle.wait_rule.specs.Queues.{index}
use Rattle.poll_wait.specs.WorkedPolls.{WorkedPolls, loaded_early, queue_first, queue_second, the_sleep, the_first, the_second}
use Rattle.poll_wait.proofs.Waiting.{second_of_turn}

not_failed : FailedLoad loaded_early 1 the_second → ⊥
not_failed l = let z : None ≡ Some ((view_of l.before).checks.found (head_of the_second)) =
    (failed_told loaded_early 1 the_second).1 l in absurd (cc)

pub worked_polls : WorkedPolls
worked_polls = record {
  first = record {
    before = queue_first ++ queue_second;
    load = step.Load the_first 0;
    later = step.Load the_second 0 ∷ the_sleep;
    split = refl;
    is_load = refl;
    is_no_store = refl;
    quiet = ((refl, refl), ((refl, refl), tt));
  };
  second = record {
    before = queue_first ++ queue_second ++ step.Load the_first 0 ∷ [];
    load = step.Load the_second 0;
    later = the_sleep;
    split = refl;
    is_load = refl;
    is_no_store = refl;
    quiet = ((refl, refl), tt);
  };
  not_failed = not_failed;
  no_turn = λ p is second k x me list. not_failed
      (subst (λ (n : ℕ). FailedLoad loaded_early (index n 1) the_second) me
      (subst (λ (c : Watch). FailedLoad loaded_early (index k.view.number 1) c) second
      (subst (λ (es : List Step). FailedLoad es (index k.view.number 1) p.second) list (second_of_turn p is k x))));
  one = refl;
}
