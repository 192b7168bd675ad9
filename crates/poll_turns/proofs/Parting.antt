-- What a poll that may be left leaves alone, part by part.
use Rattle.std.proofs.Common.{inl, inr}
use Rattle.std.specs.Prelude.{◌≡◌, false, Option, Some, None, Result, Ok, Err}
use Rattle.wait_model.specs.{Programs.zero_answer, Watches.kind_for}
use Rattle.wait_rule.specs.{Known.Known, Says.told_of}
use Rattle.wait_rule.proofs.KnownLaws.CalledPermits.{left_on}
use Rattle.poll_wait.specs.{declared.turns.Loads.Loads, declared.turns.Poll.Poll, declared.turns.PollEnd.PollEnd}
use Rattle.poll_wait.specs.declared.turns.Ready.{Ready}
use Rattle.poll_wait.specs.Polls.{IsPoll, StaysBesidePoll, front_in, loaded}
use Rattle.poll_wait.proofs.Beside.{Beside, beside_join}
use Rattle.poll_wait.proofs.Sides.{asks_beside, leaves_beside, loads_beside, low_first, none_beside, prepares_beside, queues_beside, stays_beside, turns_beside}
use Rattle.poll_turns.specs.declared.stages.PollUntil.{PollUntil}
use Rattle.poll_turns.specs.declared.stages.PollUntil.TheVariants as until
use Rattle.poll_turns.specs.PollTurns.{EndsPollUntil, HasBegunTurn, LeavesPart, LeavesReady, found_no_signal, found_unset, made_nothing, queued_both, queued_first}

-- the parts
module _ (p : Poll) (is : IsPoll p) where
  -- what a turn had made where it was left
  part_beside : (last now : Known) → HasBegunTurn p last now → Beside last now
  part_beside last _ made_nothing = none_beside last
  part_beside last _ (queued_first now x) = prepares_beside last now p.first (kind_for p.first) (front_in p.state) zero_answer
      (low_first p is) x.0
  part_beside last _ (queued_both now x) = queues_beside p is last now x
  part_beside last _ (found_unset queued l x none) = beside_join last queued (loaded p l queued) (queues_beside p is last queued x)
      (loads_beside p l queued)
  part_beside last _ (found_no_signal queued l now x none asks) = beside_join last queued now (queues_beside p is last queued x)
      (beside_join queued (loaded p l queued) now (loads_beside p l queued)
      (asks_beside p.state (loaded p l queued) now false asks))

  leaves_part : (old new : Known) (l : Loads) (o : Option Ready) → LeavesPart p old new l o → Beside old new
  leaves_part old new l o x =
      let seen = loaded p x.began old in
      beside_join old seen new (loads_beside p x.began old)
      (beside_join seen x.last new (turns_beside p is x.turns seen x.last x.sleeps)
      (beside_join x.last x.there new (part_beside x.last x.there x.part)
      (beside_join x.there (loaded p l x.there) new (loads_beside p l x.there)
      (leaves_beside (loaded p l x.there) new x.leaves))))

  stays_by : (old new : Known) → (told_of old).hold.head ≡ None → new.view.number ≡ old.view.number → Beside old new
      → StaysBesidePoll old new
  stays_by old new none number b = record {
    grows = b.aside;
    ends = b.ends;
    off = left_on old new b.steps number b.history b.low none;
  }

  ready_stays : (old new : Known) (r : Result Ready PollEnd) → (told_of old).hold.head ≡ None
      → new.view.number ≡ old.view.number → LeavesReady p old new r → StaysBesidePoll old new
  ready_stays old new (Ok r) none number x = stays_by old new none number (leaves_part old new x.0 (Some r) x.1)
  ready_stays old new (Err e) none number x = absurd x

  pub until_stays : (A : Type 0) (old new : Known) (end : PollUntil) → (told_of old).hold.head ≡ None
      → new.view.number ≡ old.view.number → EndsPollUntil A p old new end → StaysBesidePoll old new
  until_stays A old new (until.Over r) none number (inl x) = stays_beside p is old new r none number x
  until_stays A old new (until.Over r) none number (inr x) = ready_stays old new r none number x.1
  until_stays A old new (until.Left first second) none number x = stays_by old new none number
      (leaves_part old new (record { first = first; second = second }) None x.1)
