-- A call that publishes nothing and is not over at once has begun, where it has just begun with this task.
use Rattle.std.proofs.Common.{refl}
use Rattle.std.specs.Prelude.{◌≡◌, true, false}
use Rattle.wait_rule.specs.Known.{Known}
use Rattle.wq_checked.specs.{declared.calls.Call.Call, declared.calls.Running.Running}
use Rattle.wq_checked.specs.declared.kept_bits.KeptBits.{KeptBits}
use Rattle.wq_checked.specs.Begins.{BeginsCall, HasJustBegun, is_short, publishes_first}
use Rattle.wq_checked.specs.declared.calls.Call.TheVariants as call
use Rattle.wq_checked.specs.declared.calls.Progress.TheVariants as progress

pub begins_on : (c : Call) (k : Known) (ks : KeptBits) (now : Running) → publishes_first c ≡ false → is_short c ≡ false
    → HasJustBegun c k now → BeginsCall c k k ks progress.Again now
begins_on (call.Wait a b) k ks now silent long begun = (refl, refl, begun)
begins_on (call.SimpleWait a b) k ks now silent long begun = (refl, refl, begun)
begins_on (call.WaitVar a b d) k ks now silent long begun = (refl, refl, begun)
begins_on (call.WaitBit a b d) k ks now silent long begun = (refl, refl, begun)
begins_on (call.LockBit a b d) k ks now silent long begun = (refl, refl, begun)
begins_on (call.LockPage a b) k ks now silent long begun = (refl, refl, begun)
begins_on (call.WaitFor a b) k ks now silent long begun = (refl, refl, begun)
begins_on (call.Cell a b) k ks now silent long begun = (refl, refl, begun)
begins_on (call.Wake a b d) k ks now silent long begun = (refl, refl, begun)
begins_on (call.SimpleWake a b) k ks now silent long begun = (refl, refl, begun)
begins_on (call.SetAndWake a b d) k ks now silent long begun = absurd (let z : true ≡ false = silent in cc)
begins_on (call.SetAndSimpleWake a b d) k ks now silent long begun = absurd (let z : true ≡ false = silent in cc)
begins_on (call.SetVar a b) k ks now silent long begun = absurd (let z : true ≡ false = silent in cc)
begins_on (call.ClearBit a b) k ks now silent long begun = absurd (let z : true ≡ false = silent in cc)
begins_on (call.TryBit a b) k ks now silent long begun = absurd (let z : true ≡ false = long in cc)
begins_on (call.AddTally a b) k ks now silent long begun = absurd (let z : true ≡ false = long in cc)
begins_on (call.Take a) k ks now silent long begun = absurd (let z : true ≡ false = long in cc)
begins_on (call.Signal a b) k ks now silent long begun = absurd (let z : true ≡ false = long in cc)
begins_on (call.Kick a) k ks now silent long begun = absurd (let z : true ≡ false = long in cc)
begins_on call.Accept k ks now silent long begun = absurd (let z : true ≡ false = long in cc)
