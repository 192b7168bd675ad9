-- Whom it has put asleep is a sleeper of the law of the whole call.
use Rattle.std.proofs.Common.{refl, sym}
use Rattle.std.specs.Prelude.{[], ◌∷◌}
use Rattle.wait_model.specs.declared.steps.Step.TheVariants as step
use Rattle.wait_model.specs.declared.tasks.Sleep.TheVariants as sleep
use Rattle.wait_rule.specs.declared.journal.Item.TheVariants as item
use Rattle.wait_rule.specs.{Items.risen, Known.Known, Says.grown}
use Rattle.poll_wait.specs.{declared.turns.Poll.Poll, Waiting.IsInTurn}
use Rattle.poll_wait.proofs.Waiting.{pollers_are_kept}
use Rattle.poll_turns.specs.declared.stages.PollStage.TheVariants as stage
use Rattle.poll_turns.specs.{PollSleepers.StretchedPollersAreKept, PollTurns.IsPollAsleep}

-- the turn that it is in, as that would end where it were woken now
in_turn : (p : Poll) (start k : Known) → IsPollAsleep p start k → IsInTurn p k
in_turn p start k z =
    let b = z.before in record {
      old = b.last;
      new = grown z.asked (item.Made (step.Sleep z.found) ∷ []) (risen z.asked.book);
      turn = record {
        queued = b.queued;
        queues = b.queues;
        loads = b.loads;
        unset = b.unset;
        asked = z.asked;
        asks = b.asks;
        answer = sleep.Asleep;
        sleeps = record {
          found = z.found;
          looks = [];
          lawful = z.lawful;
          is = refl;
          no_steps = refl;
          no_adds = tt;
          uncounted = λ n. refl;
          answers = sym z.asleep;
        };
      };
      looked = z.only;
    }

pub sleepers_kept : StretchedPollersAreKept
sleepers_kept p is b start k stage.QueueFirst x = pollers_are_kept p is k (in_turn p start k x)
sleepers_kept p is b start k s x = absurd x
