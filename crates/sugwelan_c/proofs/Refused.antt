-- A fork that was refused answers an errno.
use Rattle.std.proofs.Common.{ℕ, ℤ, sym, subst}
use Rattle.wq_checked.specs.{Checked.Checked, declared.reasons.Refused.Refused}
use Rattle.wq_checked.specs.declared.reasons.Refused.TheVariants as reason
use Rattle.sugwelan_c.specs.{Handles.HasNoFork, Handles.unmade_code, Told.refusal_code, declared.handles.Unmade.Unmade}
use Rattle.sugwelan_c.specs.declared.handles.Unmade.TheVariants as unmade
use Rattle.sugwelan_c.proofs.Made.{IsErrno}

refusal_errno : (e : Refused) → IsErrno (refusal_code e)
refusal_errno reason.OutOfRange = tt
refusal_errno reason.NotListed = tt
refusal_errno reason.Busy = tt
refusal_errno reason.Nothing = tt
refusal_errno reason.NotHeld = tt
refusal_errno reason.Held = tt
refusal_errno reason.Starved = tt

unmade_errno : (why : Unmade) → IsErrno (unmade_code why)
unmade_errno unmade.Wide = tt
unmade_errno (unmade.Refused e) = refusal_errno e
unmade_errno unmade.Numbers = tt
unmade_errno unmade.Memory = tt

pub fork_errno : (old now : Checked) (share : ℕ) (e : ℤ) → HasNoFork old now share e → IsErrno e
fork_errno old now share e why = subst IsErrno (sym why.1) (unmade_errno why.0)
