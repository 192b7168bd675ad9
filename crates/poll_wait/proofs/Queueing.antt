-- Both entries are queued, and taken off.
use Rattle.std.proofs.Common.{◌∙◌, ap, sym, subst, inr}
use Rattle.std.specs.Prelude.{ℕ, ◌≡◌, false, Result, Ok, Err}
use Rattle.wait_model.specs.{declared.tasks.How.How, declared.watches.Kind.Kind, declared.watches.Watch.Watch}
use Rattle.wait_model.specs.Watches.{kind_for}
use Rattle.wait_rule.specs.{Known.Known, Queues.index, Says.told_of}
use Rattle.wait_event.specs.Prepares.{EndsPrepare, HasFinished, MayFinish}
use Rattle.wait_event.specs.declared.prepares.Prepared.{Prepared}
use Rattle.wait_event.specs.declared.prepares.Prepared.TheVariants as prepared
use Rattle.wq_head.specs.declared.adds.Worn.{Worn}
use Rattle.poll_wait.specs.declared.turns.Poll.{Poll}
use Rattle.poll_wait.specs.Polls.{EndsQueueing, HasBoth, IsPoll, front_in}
use Rattle.poll_wait.specs.Seconds.{EndsJoin, MayJoinSecond, MayLeave, second_of}
use Rattle.poll_wait.proofs.Polled.{finish_keeps, part_kept, part_low, polled_low}

-- by the kind that the code names
pub ends_kind : (old new : Known) (w : Watch) (k : Kind) (how : How) (r : Result Prepared Worn) → k ≡ kind_for w
    → EndsPrepare old new w k how false r → EndsPrepare old new w (kind_for w) how false r
ends_kind old new w k how r is x = subst (λ (d : Kind). EndsPrepare old new w d how false r) is x

pub may_join : (p : Poll) (k : Known) → HasBoth p k → MayJoinSecond k p.second
may_join p k has = record { up = has.up; free = has.free; home = has.second }

pub queue_ends : (p : Poll) (old mid new : Known) (r : Result (Unit {0}) Worn)
    → EndsPrepare old mid p.first (kind_for p.first) (front_in p.state) false (Ok prepared.Queued)
    → EndsJoin mid new p.second r → EndsQueueing p old new r
queue_ends p old mid new (Ok u) one two = record { between = mid; first = one; second = two }
queue_ends p old mid new (Err v) one two = inr (record { between = mid; first = one; second = two })

module _ (p : Poll) (is : IsPoll p) where
  pub may_finish : (k : Known) → HasBoth p k → MayFinish k
  may_finish k has = record {
    up = has.up;
    free = has.free;
    home = part_low p.first (kind_for p.first) _ (polled_low p.first is.first) has.first;
  }

  pub may_leave : (old mid : Known) → HasBoth p old → HasFinished old mid → mid.view.number ≡ old.view.number → MayLeave mid
  may_leave old mid has x number = record {
    up = x.up;
    free = x.free;
    home = part_low p.second (kind_for p.second) _ (polled_low p.second is.second)
        (part_kept p.second (kind_for p.second) ((told_of old).bits.stored (second_of old))
        ((told_of mid).bits.stored (second_of mid))
        (λ e now. finish_keeps old mid x e (ap (λ (n : ℕ). (told_of mid).bits.stored (index n 1)) (sym number) ∙ now))
        has.second);
  }
