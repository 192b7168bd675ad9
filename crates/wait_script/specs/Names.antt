-- For proofs alone.
-- The names of the calls that all versions have, and what the words after each say.
use Rattle.std.specs.Prelude.{ℕ, List, [], ◌∷◌, Option, Some, None, Result, if◌then◌else◌, codes}
use Rattle.std.specs.Str.{bytes_eq}
use Rattle.wait_model.specs.declared.calls.Call.{Call}
use Rattle.wait_script.specs.{declared.names.Name.Name, declared.reason.Reason.Reason, declared.version.Version.Version}
use Rattle.wait_script.specs.Forms.{wait_at, set_at, take_at, read_at, wake_at, add_at, remove_at, woken_at, signal_at}
use Rattle.wait_script.specs.Forms.{accept_at, kick_at, simple_wait_at, simple_wake_at, complete_at, complete_all_at}
use Rattle.wait_script.specs.Forms.{reinit_at, wait_for_at, try_wait_at, is_done_at, try_bit_at, wait_bit_at}
use Rattle.wait_script.specs.Forms.{lock_bit_at, clear_bit_at, wait_var_at, set_var_at}
use Rattle.wait_script.specs.declared.names.Name.TheVariants as name

-- the value that a table has at a word
abbrev pub value_in : {A : Type 0} → List (List ℕ × A) → List ℕ → Option A
value_in [] word = None
value_in (entry ∷ table) word = if bytes_eq word entry.0 then Some entry.1 else value_in table word

-- how each name is spelled
abbrev pub spelled_names : List (List ℕ × Name)
spelled_names =
    (codes "wait", name.Wait)
    ∷ (codes "set", name.Set)
    ∷ (codes "take", name.Take)
    ∷ (codes "read", name.Read)
    ∷ (codes "wake", name.Wake)
    ∷ (codes "add", name.Add)
    ∷ (codes "remove", name.Remove)
    ∷ (codes "woken", name.Woken)
    ∷ (codes "signal", name.Signal)
    ∷ (codes "accept", name.Accept)
    ∷ (codes "kick", name.Kick)
    ∷ (codes "swait", name.SimpleWait)
    ∷ (codes "swake", name.SimpleWake)
    ∷ (codes "complete", name.Complete)
    ∷ (codes "completeall", name.CompleteAll)
    ∷ (codes "reinit", name.Reinit)
    ∷ (codes "waitfor", name.WaitFor)
    ∷ (codes "trywait", name.TryWait)
    ∷ (codes "isdone", name.IsDone)
    ∷ (codes "trybit", name.TryBit)
    ∷ (codes "waitbit", name.WaitBit)
    ∷ (codes "lockbit", name.LockBit)
    ∷ (codes "clearbit", name.ClearBit)
    ∷ (codes "waitvar", name.WaitVar)
    ∷ (codes "setvar", name.SetVar)
    ∷ []

-- what the words after a name say
abbrev pub form_of : Version → Name → List (List ℕ) → Result Call Reason
form_of version name.Wait = wait_at
form_of version name.Set = set_at
form_of version name.Take = take_at
form_of version name.Read = read_at
form_of version name.Wake = wake_at version
form_of version name.Add = add_at
form_of version name.Remove = remove_at
form_of version name.Woken = woken_at
form_of version name.Signal = signal_at version
form_of version name.Accept = accept_at
form_of version name.Kick = kick_at version
form_of version name.SimpleWait = simple_wait_at
form_of version name.SimpleWake = simple_wake_at
form_of version name.Complete = complete_at
form_of version name.CompleteAll = complete_all_at
form_of version name.Reinit = reinit_at
form_of version name.WaitFor = wait_for_at
form_of version name.TryWait = try_wait_at
form_of version name.IsDone = is_done_at
form_of version name.TryBit = try_bit_at
form_of version name.WaitBit = wait_bit_at
form_of version name.LockBit = lock_bit_at
form_of version name.ClearBit = clear_bit_at
form_of version name.WaitVar = wait_var_at
form_of version name.SetVar = set_var_at
