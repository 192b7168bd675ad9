-- What a turn did, by its answer.
use Rattle.std.proofs.Common.{subst}
use Rattle.std.specs.Prelude.{◌≡◌, Option, Some, None, Ok, Err}
use Rattle.wait_rule.specs.{Known.Known, Says.IsUp, Stays.Carries, Stays.unchanged}
use Rattle.wait_class.specs.Posts.{IsOut}
use Rattle.wq_head.specs.declared.adds.Worn.{Worn}
use Rattle.poll_wait.specs.{declared.turns.Loads.Loads, declared.turns.Poll.Poll, declared.turns.Ready.Ready}
use Rattle.poll_wait.specs.{Seconds.IsSecondOut, TurnSteps.HasDone, TurnSteps.worn_from}
use Rattle.poll_wait.specs.Polls.{EndsLast, FindsNoPlace, LeavesBoth, QueuesBoth, loaded, pair_change, ready_of}
use Rattle.poll_wait.specs.Polls.{with_both}
use Rattle.poll_wait.proofs.Pairing.{done_then, still_pair}

-- the answers behind the loads
module _ (p : Poll) (queued mid new : Known) (l : Loads) (is : mid ≡ loaded p l queued) where
  pub ready_goes : (r : Ready) → ready_of p l ≡ Some r → LeavesBoth mid new → (old : Known) → QueuesBoth p old queued
      → EndsLast p old new (Ok r)
  ready_goes r set leaves old queues = record {
    queued = queued;
    outcome = Ok tt;
    queues = queues;
    loads = l;
    set = set;
    leaves = subst (λ (k : Known). LeavesBoth k new) is leaves;
  }

  pub worn_goes : (w : Worn) → LeavesBoth mid new → (old : Known) → FindsNoPlace p old queued w → (o : Option Ready)
      → ready_of p l ≡ o → EndsLast p old new (worn_from o w)
  worn_goes w leaves old none (Some r) set = record {
    queued = queued;
    outcome = Err w;
    queues = none;
    loads = l;
    set = set;
    leaves = subst (λ (k : Known). LeavesBoth k new) is leaves;
  }
  worn_goes w leaves old none None unset = record {
    queued = queued;
    queues = none;
    loads = l;
    unset = unset;
    leaves = subst (λ (k : Known). LeavesBoth k new) is leaves;
  }

-- and what they leave the task with
pub done_by : (queued mid new : Known) → Carries unchanged queued mid → IsUp new → IsOut new → IsSecondOut new
    → Carries (pair_change mid.view.number (with_both mid.view.number) (λ x. x) (λ _. 0) new.at) mid new
    → HasDone queued new
done_by queued mid new c up out out_second d = done_then (λ σ. σ) queued mid new (still_pair (λ σ. σ) queued mid c)
    (record { up = up; out = out; out_second = out_second; carries = d })
