-- A stretch of a call that makes one hold at most: it has come on from where it began, or it is over, and its task ready.
use Rattle.std.specs.Prelude.{Bool, true}
use Rattle.wait_rule.specs.Known.{Known}
use Rattle.wq_checked.specs.{declared.calls.Progress.Progress, declared.calls.Running.Running}
use Rattle.wq_checked.specs.declared.kept_bits.KeptBits.{KeptBits}
use Rattle.wq_checked.specs.Calls.{Began, CameFrom, IsCallUnderWay, IsRunningSound, WentOn}

-- Calls of one kind: how one stands as a call under way, what a turn leaves so and tells, and what the crate beneath says
-- of where one stands and of its turn. What has come to here, by where it began:
pub record HoldComes {R S T : Type 0} (left : R → T → Running) (shown : R → T → Progress)
    (At : Known → Known → R → S → Type 0) (Turned : Known → Known → R → R → T → Type 0) (start : Known) (first : Running)
    (k : Known) (run : R) (s : S) : Type 0 where
  pub at : At start k run s
  pub tells : (may : Bool) (new : Known) (q : R) (t : T) → Turned start new run q t
      → WentOn may start first new (left q t) (shown q t)
  pub sound : (ks : KeptBits) (new : Known) (q : R) (t : T) → Began ks start first → Turned start new run q t
      → IsRunningSound (left q t) ks new

-- and what holds of the kind
pub record IsLawfulHold {R S T : Type 0} (now : R → S → Running) (left : R → T → Running) (shown : R → T → Progress)
    (At : Known → Known → R → S → Type 0) (Turned : Known → Known → R → R → T → Type 0) : Type 0 where
  pub at : (ks : KeptBits) (k : Known) (run : R) (s : S) → IsRunningSound (now run s) ks k
      → (start : Known) × At start k run s
  pub goes : (may by : Bool) (start : Known) (first : Running) (old new : Known) (run q : R) (s : S) (t : T)
      → CameFrom may start first old (now run s) → ((start : Known) → At start old run s → Turned start new run q t)
      → WentOn by start first new (left q t) (shown q t)
  pub sound : (ks : KeptBits) (old new : Known) (run q : R) (s : S) (t : T) → IsRunningSound (now run s) ks old
      → ((start : Known) → At start old run s → Turned start new run q t) → IsRunningSound (left q t) ks new

pub lawful_hold : {R S T : Type 0} (now : R → S → Running) (left : R → T → Running) (shown : R → T → Progress)
    (At : Known → Known → R → S → Type 0) (Turned : Known → Known → R → R → T → Type 0)
    → ((may : Bool) (start : Known) (first : Running) (k : Known) (run : R) (s : S) → CameFrom may start first k (now run s)
    → HoldComes left shown At Turned start first k run s)
    → ((ks : KeptBits) (k : Known) (run : R) (s : S) → IsRunningSound (now run s) ks k → IsCallUnderWay ks k (now run s))
    → IsLawfulHold now left shown At Turned
lawful_hold now left shown At Turned comes under = record {
  at = λ ks k run s u.
      let v = under ks k run s u in (v.start, (comes true v.start v.first k run s v.came).at);
  goes = λ may by start first old new run q s t came turned.
      let c = comes may start first old run s came in c.tells by new q t (turned start c.at);
  sound = λ ks old new run q s t u turned.
      let v = under ks old run s u in
      let c = comes true v.start v.first old run s v.came in c.sound ks new q t v.began (turned v.start c.at);
}
