-- Who gave a bit back leaves nobody asleep on it.
use Rattle.wait_model.specs.declared.watches.Watch.{Watch}
use Rattle.wait_model.specs.declared.watches.Watch.TheVariants as watch
use Rattle.wait_rule.specs.{Known.Known, LosesNone.OwesBeside, Says.Excuse, Stays.with_bit}
use Rattle.wait_rule.proofs.KnownLaws.LosesNone.{owers_leave_none}
use Rattle.bit_wait.specs.{Clears.GivesBack, LosesNone.ClearsLoseNone}

-- after the call it owes what it owed beside the bit, and no wake of it
given_owes : (old new : Known) (c : Watch) (x : Excuse) → OwesBeside c (with_bit c x) old → GivesBack old new c
    → OwesBeside c x new
unfolding Rattle.wait_rule.specs.Stays.with_bits
given_owes old new c x owed gives = record {
  most = gives.owes x owed.most;
  none = owed.none;
}

pub clears_lose_none : ClearsLoseNone
clears_lose_none old new w b x owed gives = owers_leave_none (watch.Bit w b) x new
    (given_owes old new (watch.Bit w b) x owed gives)
