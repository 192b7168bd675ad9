-- To be believed.
-- What C is told of a reply: the code, the value, the walk, and whom to rouse.
use Rattle.std.specs.Prelude.{◌≡◌, ◌<◌, ◌∷◌, [], ℕ, ℤ, Bool, true, false, Option, Some, None, Ok, Err, List, length, nat_lt, slice_index, if◌then◌else◌}
use Rattle.bit_wait.specs.declared.wait_calls.BitEnd.{BitEnd}
use Rattle.bit_wait.specs.declared.wait_calls.BitEnd.TheVariants as bit_end
use Rattle.wait_event.specs.declared.wait_events.WaitEnd.{WaitEnd}
use Rattle.wait_event.specs.declared.wait_events.WaitEnd.TheVariants as wait_end
use Rattle.wait_model.specs.{declared.queues.End.End, declared.queues.Walked.Walked, Sentences.taken_number}
use Rattle.wait_model.specs.declared.layout.TheConstants.{HEADS}
use Rattle.wait_model.specs.declared.queues.End.TheVariants as end
use Rattle.wq_head.specs.Scanned.{unmade}
use Rattle.wq_checked.specs.{declared.calls.Answer.Answer, declared.calls.Awaited.Awaited}
use Rattle.wq_checked.specs.{declared.calls.Progress.Progress, declared.reasons.Refused.Refused}
use Rattle.wq_checked.specs.declared.calls.Answer.TheVariants as answer
use Rattle.wq_checked.specs.declared.calls.Progress.TheVariants as progress
use Rattle.wq_checked.specs.declared.reasons.Refused.TheVariants as reason
use Rattle.sugwelan_c.specs.{declared.replies.Reply.Reply, declared.replies.Told.Told}
use Rattle.sugwelan_c.specs.declared.replies.TheConstants.{AGAIN, DONE, EBUSY, ECANCELED, EDEADLK, EINTR, EINVAL}
use Rattle.sugwelan_c.specs.declared.replies.TheConstants.{ENOENT, ENOSPC, ENOTRECOVERABLE, EOPNOTSUPP, EPERM, LOCKED}
use Rattle.sugwelan_c.specs.declared.replies.TheConstants.{PARK, ROOM}
use Rattle.sugwelan_c.specs.declared.replies.Reply.TheVariants as reply

-- the codes
abbrev pub refusal_code : Refused → ℤ
refusal_code reason.OutOfRange = EINVAL
refusal_code reason.NotListed = EOPNOTSUPP
refusal_code reason.Busy = EBUSY
refusal_code reason.Nothing = ENOENT
refusal_code reason.NotHeld = EPERM
refusal_code reason.Held = EDEADLK
refusal_code reason.Starved = ENOTRECOVERABLE

abbrev pub wait_code : WaitEnd → ℤ
wait_code (wait_end.Signal seen selected) = EINTR
wait_code (wait_end.Worn head place) = ENOSPC

abbrev pub bit_code : BitEnd → ℤ
bit_code (bit_end.Interrupted seen) = EINTR
bit_code (bit_end.Worn head place) = ENOSPC

abbrev pub answer_code : Answer → ℤ
answer_code (answer.Waited (Ok x)) = DONE
answer_code (answer.Waited (Err e)) = wait_code e
answer_code (answer.Changed (Ok v)) = DONE
answer_code (answer.Changed (Err e)) = wait_code e
answer_code (answer.Bit (Ok x)) = DONE
answer_code (answer.Bit (Err e)) = bit_code e
answer_code (answer.Left seen selected) = ECANCELED
answer_code _ = DONE

abbrev pub progress_code : Progress → ℤ
progress_code progress.Again = AGAIN
progress_code (progress.Locked a) = LOCKED
progress_code progress.Park = PARK
progress_code (progress.Done a) = answer_code a
progress_code progress.Starved = ENOTRECOVERABLE

abbrev pub code_of : Reply → ℤ
code_of (reply.Refused e) = refusal_code e
code_of (reply.On p) = progress_code p
code_of (reply.Value v) = DONE

-- what is told beside the code: nothing but 0 where a call has no such answer
abbrev pub truth : Bool → ℕ
truth true = 1
truth false = 0

abbrev pub reply_value : Reply → ℕ
reply_value (reply.On (progress.Done (answer.Changed (Ok v)))) = v
reply_value (reply.On (progress.Done (answer.Left seen selected))) = seen
reply_value (reply.On (progress.Done (answer.Cell b))) = truth b
reply_value (reply.On (progress.Done (answer.Tried b))) = truth b
reply_value (reply.On (progress.Done (answer.Value v))) = v
reply_value (reply.On (progress.Done (answer.Kicked woke rouse))) = truth woke
reply_value (reply.On (progress.Done (answer.Accepted t))) = taken_number t
reply_value (reply.Value v) = v
reply_value _ = 0

abbrev pub walk_of : Reply → Walked
walk_of (reply.On (progress.Done (answer.Walked w))) = w
walk_of (reply.On (progress.Done (answer.Selected n))) = record unmade { selected = n }
walk_of _ = unmade

-- the lock that a call waits for; and a head, where there is one
abbrev pub no_lock : Awaited
no_lock = record { head = HEADS; ticket = 0; served = 0 }

abbrev pub lock_of : Reply → Awaited
lock_of (reply.On (progress.Locked a)) = a
lock_of _ = no_lock

abbrev pub head_number : Option ℕ → ℕ
head_number (Some h) = h
head_number None = HEADS

-- whom to rouse: those whom an advance names, or the one whom a signal or a kick woke
abbrev pub roused_in_reply : Reply → List ℕ → List ℕ
roused_in_reply (reply.On (progress.Done (answer.Raised (Some who)))) ws = who ∷ []
roused_in_reply (reply.On (progress.Done (answer.Kicked woke (Some who)))) ws = who ∷ []
roused_in_reply _ ws = ws

abbrev pub end_number : End → ℕ
end_number end.End = 0
end_number end.Spent = 1
end_number end.Stopped = 2

-- how many of so many tasks there is room for
abbrev pub shown_length : ℕ → ℕ
shown_length n = if nat_lt n ROOM then n else ROOM

-- the tasks in their order
pub record Lists (ws : List ℕ) (n : ℕ) (rouse : List ℕ) : Type 0 where
  pub count : n ≡ shown_length (length ws)
  pub tasks : (i : ℕ) → i < n → slice_index rouse i ≡ slice_index ws i

pub record TellsReply (r : Reply) (passed : Option ℕ) (ws : List ℕ) (t : Told) : Type 0 where
  pub head : t.head ≡ (lock_of r).head
  pub ticket : t.ticket ≡ (lock_of r).ticket
  pub served : t.served ≡ (lock_of r).served
  pub passes : t.passed ≡ head_number passed
  pub value : t.value ≡ reply_value r
  pub woken : t.woken ≡ (walk_of r).woken
  pub selected : t.selected ≡ (walk_of r).selected
  pub holds : t.holds ≡ (walk_of r).holds
  pub end : t.end ≡ end_number (walk_of r).end
  pub rouse : Lists ws t.rouse_count t.rouse
