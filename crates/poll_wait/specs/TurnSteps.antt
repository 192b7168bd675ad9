-- For proofs alone.
-- What turns of a poll leave a task with.
use Rattle.std.specs.Prelude.{ℕ, Option, Some, None, Result, Ok, Err}
use Rattle.wait_rule.specs.{Known.Known, Says.IsUp, Stays.Carries}
use Rattle.wait_class.specs.Posts.{IsOut}
use Rattle.wq_head.specs.declared.adds.Worn.{Worn}
use Rattle.poll_wait.specs.{declared.turns.Loads.Loads, declared.turns.Poll.Poll, declared.turns.PollEnd.PollEnd}
use Rattle.poll_wait.specs.{declared.turns.Ready.Ready, Seconds.IsSecondOut}
use Rattle.poll_wait.specs.Polls.{MayTurn, pair_change, ready_of, with_both}
use Rattle.poll_wait.specs.declared.turns.PollEnd.TheVariants as poll_end

-- both entries are owed still
abbrev pub PairCarries : (ℕ → ℕ) → Known → Known → Type 0
PairCarries s old new = Carries (pair_change old.view.number (with_both old.view.number) (with_both old.view.number) s
    new.at) old new

-- the state after a queueing may be either
pub record TurnCarries (old new : Known) : Type 0 where
  pub state : ℕ
  pub carries : PairCarries (λ _. state) old new

-- a turn that slept leaves the task RUNNING with its entries as they are, and the last one takes them off
pub record HasDone (old new : Known) : Type 0 where
  pub up : IsUp new
  pub out : IsOut new
  pub out_second : IsSecondOut new
  pub carries : Carries (pair_change old.view.number (with_both old.view.number) (λ x. x) (λ _. 0) new.at) old new

pub record GoesAgain (p : Poll) (old new : Known) : Type 0 where
  pub may : MayTurn p new
  pub carries : PairCarries (λ _. 0) old new

abbrev pub EndsSo : Poll → Known → Known → Option (Result Ready PollEnd) → Type 0
EndsSo p old new None = GoesAgain p old new
EndsSo p old new (Some result) = HasDone old new

-- the answer where no place was found
abbrev pub worn_from : Option Ready → Worn → Result Ready PollEnd
worn_from (Some r) w = Ok r
worn_from None w = Err (poll_end.Worn w.head w.place)

abbrev pub worn_end : Poll → Loads → Worn → Result Ready PollEnd
worn_end p l w = worn_from (ready_of p l) w
