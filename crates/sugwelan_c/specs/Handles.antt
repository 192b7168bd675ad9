-- To be believed.
-- Tasks that are made for C, and given up.
use Rattle.std.specs.Prelude.{◌≡◌, ◌<◌, ◌≤◌, ◌+◌, ◌-◌, ◌⊎◌, ℕ, ℤ, Bool, true, false, Option, Some, None}
use Rattle.wait_model.specs.declared.layout.TheConstants.{BIT_WORDS, TASKS, WORD_BITS}
use Rattle.wait_model.specs.declared.watches.Watch.{Watch}
use Rattle.wait_model.specs.declared.watches.Watch.TheVariants as watch
use Rattle.wait_rule.specs.Says.{newcomer}
use Rattle.wq_checked.specs.{Checked.Checked, Checked.shared_by, Kept.IsReadyWith, Kept.keeps_in, Reasons.busy_reason}
use Rattle.wq_checked.specs.{declared.kept_bits.KeptBits.KeptBits, declared.reasons.Refused.Refused}
use Rattle.wq_checked.specs.declared.calls.Running.TheVariants as running
use Rattle.wq_checked.specs.declared.reasons.Refused.TheVariants as reason
use Rattle.sugwelan_c.specs.{Told.refusal_code, declared.handles.Unmade.Unmade}
use Rattle.sugwelan_c.specs.declared.replies.TheConstants.{DONE, EAGAIN, EBUSY, EINVAL, ENOMEM, ENOTEMPTY}
use Rattle.sugwelan_c.specs.declared.handles.Unmade.TheVariants as unmade

-- a task that has made no call yet
pub record IsFreshTask (t : Checked) : Type 0 where
  pub idle : t.running ≡ running.Idle
  pub ready : IsReadyWith t.kept t.task
  pub none : (c : Watch) → keeps_in t.kept c ≡ false

-- The first task of a Domain: its number is 0, and all others are spare to it. If there is none, it is for want of
-- memory.
abbrev pub IsNew : Checked → Type 0
IsNew t = IsFreshTask t × (t.task ≡ newcomer t.task.domain 0 1 (TASKS - 1))

abbrev pub NoNew : ℤ → Type 0
NoNew e = e ≡ ENOMEM

-- A further task of the same Domain: it has the next number, and so many more are spare to it, which were spare to the
-- task that was forked.
pub record IsFork (old now : Checked) (share : ℕ) (t : Checked) : Type 0 where
  pub idle : busy_reason old.running ≡ None
  pub spare : 1 + share ≤ old.task.view.spare
  pub fresh : IsFreshTask t
  pub task : t.task ≡ newcomer old.task.domain old.task.view.next (old.task.view.next + 1) share
  pub shared : now ≡ shared_by share old

-- why there is none, and its code
abbrev pub IsUnmade : Checked → Checked → ℕ → Unmade → Type 0
IsUnmade old now share unmade.Wide = (256 ≤ share) × (now ≡ old)
IsUnmade old now share (unmade.Refused e) = (busy_reason old.running ≡ Some e) × (now ≡ old)
IsUnmade old now share unmade.Numbers =
    (busy_reason old.running ≡ None) × (old.task.view.spare < 1 + share) × (now ≡ old)
IsUnmade old now share unmade.Memory =
    (busy_reason old.running ≡ None) × ((now ≡ old) ⊎ (now ≡ shared_by share old))

abbrev pub unmade_code : Unmade → ℤ
unmade_code unmade.Wide = EINVAL
unmade_code (unmade.Refused e) = refusal_code e
unmade_code unmade.Numbers = EAGAIN
unmade_code unmade.Memory = ENOMEM

abbrev pub HasNoFork : Checked → Checked → ℕ → ℤ → Type 0
HasNoFork old now share e = (why : Unmade) × (e ≡ unmade_code why) × IsUnmade old now share why

-- whether a bit of a word is kept, and whether any bit is
abbrev pub KeepsSome : KeptBits → ℕ → Bool → Type 0
KeepsSome ks w true = (b : ℕ) × (b < WORD_BITS) × (keeps_in ks (watch.Bit w b) ≡ true)
KeepsSome ks w false = (b : ℕ) → b < WORD_BITS → keeps_in ks (watch.Bit w b) ≡ false

abbrev pub KeepsAny : KeptBits → Bool → Type 0
KeepsAny ks true = (w : ℕ) × (w < BIT_WORDS) × KeepsSome ks w true
KeepsAny ks false = (w : ℕ) → w < BIT_WORDS → KeepsSome ks w false

-- A task may be freed between two calls, where it keeps nothing, and where it makes no more calls.
abbrev pub MayFreeIf : Option Refused → KeptBits → ℤ → Type 0
MayFreeIf None ks r = ((r ≡ DONE) × KeepsAny ks false) ⊎ ((r ≡ ENOTEMPTY) × KeepsAny ks true)
MayFreeIf (Some reason.Starved) ks r = r ≡ DONE
MayFreeIf (Some e) ks r = r ≡ EBUSY

abbrev pub MayFree : Checked → ℤ → Type 0
MayFree t r = MayFreeIf (busy_reason t.running) t.kept r
