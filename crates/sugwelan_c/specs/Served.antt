-- To be believed.
-- What is done with a call, by the task's own call that it is.
use Rattle.std.specs.Prelude.{◌≡◌, ℕ, ℤ, Bool, true, false, List, Option, Some, None, []}
use Rattle.wait_rule.specs.Known.{Known}
use Rattle.wq_head.specs.{Roused.tasks_in, declared.rousing.Rousing.Rousing}
use Rattle.wq_checked.specs.{Begins.BeginsCall, Begins.refusal_to, Checked.Checked, Outs.WentOut}
use Rattle.wq_checked.specs.{Reasons.stopped_reason, declared.calls.Progress.Progress, declared.calls.Running.Running}
use Rattle.wq_checked.specs.Calls.{CameFrom, Rouses, WentOn}
use Rattle.wq_checked.specs.Locks.{IsDrawn, Passes, awaited_in}
use Rattle.wq_checked.specs.declared.calls.Progress.TheVariants as progress
use Rattle.wq_checked.specs.declared.reasons.Refused.TheVariants as reason
use Rattle.sugwelan_c.specs.{Asked.asks, declared.calls.Call.Call, declared.calls.Wanted.Wanted}
use Rattle.sugwelan_c.specs.{declared.replies.Reply.Reply, declared.replies.Told.Told}
use Rattle.sugwelan_c.specs.Told.{TellsReply, code_of, roused_in_reply}
use Rattle.sugwelan_c.specs.declared.calls.Wanted.TheVariants as wanted
use Rattle.sugwelan_c.specs.declared.replies.Reply.TheVariants as reply

-- The call that is under way has come on by its own turns, from wherever it came, or is over with its answer.
abbrev pub GoesOn : Checked → Checked → Progress → Type 0
GoesOn k m p = (may : Bool) (start : Known) (first : Running) → CameFrom may start first k.task k.running
    → WentOn may start first m.task m.running p

-- The same, and it was asked to leave where it is a wait: it went out of the stage where it stood, if that has an exit.
pub record IsLeftOn (k m : Checked) (p : Progress) : Type 0 where
  pub goes : (may : Bool) (start : Known) (first : Running) → CameFrom may start first k.task k.running
      → WentOn true start first m.task m.running p
  pub asks : WentOut k.task k.running m.task m.running p

-- What is replied to what was asked. Where it is refused, nothing has changed.
abbrev pub Replies : Option Wanted → Checked → Checked → Reply → Type 0
Replies None k m (reply.Refused e) = (e ≡ reason.OutOfRange) × (m ≡ k)
Replies (Some wanted.Advance) k m (reply.Refused e) = (stopped_reason k.running ≡ Some e) × (m ≡ k)
Replies (Some wanted.Advance) k m (reply.On p) = (stopped_reason k.running ≡ None) × GoesOn k m p × IsDrawn m.task p
Replies (Some wanted.Leave) k m (reply.Refused e) = (stopped_reason k.running ≡ Some e) × (m ≡ k)
Replies (Some wanted.Leave) k m (reply.On p) = (stopped_reason k.running ≡ None) × IsLeftOn k m p × IsDrawn m.task p
Replies (Some wanted.Number) k m (reply.Value v) = (v ≡ k.task.view.number) × (m ≡ k)
Replies (Some (wanted.Begin c)) k m (reply.Refused e) = (refusal_to c k ≡ Some e) × (m ≡ k)
Replies (Some (wanted.Begin c)) k m (reply.On p) =
    (refusal_to c k ≡ None) × BeginsCall c k.task m.task m.kept p m.running
Replies _ k m r = ⊥

-- Whom an advance or a leave names to be roused: those whom its stretch has woken.
abbrev pub Names : Option Wanted → Checked → Checked → Reply → Rousing → Type 0
Names (Some wanted.Advance) k m (reply.On p) named = Rouses k.running k.task m.task named
Names (Some wanted.Leave) k m (reply.On p) named = Rouses k.running k.task m.task named
Names _ k m r named = tasks_in named ≡ []

-- Which lock an advance or a leave gave back, of a call that has given back this one before, or none.
abbrev pub GivesLock : Option Wanted → Checked → Reply → Option ℕ → Option ℕ → Type 0
GivesLock (Some wanted.Advance) k (reply.On p) before now = Passes (awaited_in k.running) p before now
GivesLock (Some wanted.Leave) k (reply.On p) before now = Passes (awaited_in k.running) p before now
GivesLock _ k r before now = now ≡ before

-- whether a call asks to leave, and how each further stretch goes on then
abbrev pub is_leave : Option Wanted → Bool
is_leave (Some wanted.Leave) = true
is_leave _ = false

abbrev pub goes_by : Bool → Wanted
goes_by true = wanted.Leave
goes_by false = wanted.Advance

-- Where a call goes on at once and names nobody, it may have been advanced further, or left: as by calls of their own, of
-- which each but the last one goes on at once and names nobody.
pub data Further (w : Wanted) (k : Checked) (r : Reply) (ws : List ℕ) (o : Option ℕ) : Checked → Reply → List ℕ → Option ℕ → Type 0
  where
    stays : Further w k r ws o k r ws o
    goes : (between m : Checked) (q : Reply) (named : Rousing) (before now : Option ℕ)
        → Further w k r ws o between (reply.On progress.Again) [] before → Replies (Some w) between m q
        → Names (Some w) between m q named → GivesLock (Some w) between q before now
        → Further w k r ws o m q (tasks_in named) now

-- A call was served: it was asked for this, was replied so, was advanced further, and that is told.
pub record Serves (k m : Checked) (c : Call) (t : Told) (code : ℤ) : Type 0 where
  pub between : Checked
  pub first : Reply
  pub replies : Replies (asks c) k between first
  pub named : Rousing
  pub names : Names (asks c) k between first named
  pub given : Option ℕ
  pub gives : GivesLock (asks c) k first None given
  pub reply : Reply
  pub rousing : Rousing
  pub passed : Option ℕ
  pub further : Further (goes_by (is_leave (asks c))) between first (tasks_in named) given m reply (tasks_in rousing)
      passed
  pub tells : TellsReply reply passed (roused_in_reply reply (tasks_in rousing)) t
  pub code_is : code ≡ code_of reply
