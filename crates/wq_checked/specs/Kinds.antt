-- For proofs alone.
-- What holds of a kind of wait, so that one function serves a stretch of any.
use Rattle.std.specs.Prelude.{◌≡◌, ◌||◌, Bool, true}
use Rattle.wait_model.specs.declared.watches.Watch.{Watch}
use Rattle.wait_rule.specs.{Bits.taken_bits, Known.Known, Says.IsUp}
use Rattle.wait_class.specs.{declared.stages.Run.Run, declared.stages.Turn.Turn, Tables.CallTable, Tables.watch_in}
use Rattle.wait_class.specs.Wholes.{HasRested}
use Rattle.wait_leave.specs.Leaves.{Exits}
use Rattle.wq_checked.specs.{Kept.keeps_in, Outs.OutStretch, Outs.WentOut, Stages.StandsBy, Stages.StretchesOn}
use Rattle.wq_checked.specs.{declared.calls.Progress.Progress, declared.calls.Running.Running}
use Rattle.wq_checked.specs.declared.kept_bits.KeptBits.{KeptBits}
use Rattle.wq_checked.specs.Advancing.{WaitKind, left_by, shown_of_wait, took_by, worn_by}
use Rattle.wq_checked.specs.Calls.{CameFrom, IsRunningSound, WentOn}

-- the bits that are kept once those were noted that such a wait has taken
abbrev pub KeepsTaken : {C S O : Type 0} → CallTable C S O → WaitKind C S O → C → Turn S O → KeptBits → KeptBits → Type 0
KeepsTaken t n c u ks more = (d : Watch) → keeps_in more d ≡ (taken_bits (watch_in t c) (took_by n u) d || keeps_in ks d)

-- A call of this kind stands as its waits do; after a stretch it is awake where it stores RUNNING, has come on, and is
-- sound; and what it tells where it was asked to leave is what a call tells then.
pub record IsLawfulKind {C S O : Type 0} (t : CallTable C S O) (x : Exits C S O) (n : WaitKind C S O) : Type 0 where
  pub stands : (ks : KeptBits) (k : Known) (r : Run C) (last : Turn S O) → IsRunningSound (n.now r last) ks k
      → StandsBy t k r last
  pub fits : (k : Known) (r : Run C) (last : Turn S O) → StandsBy t k r last → t.Fits r.of
  pub up : (asks : Bool) (old mid : Known) (run q : Run C) (last u : Turn S O)
      → StretchesOn asks t x old mid run q last u → worn_by n q u ≡ true → IsUp mid
  pub goes : (asks may : Bool) (start : Known) (first : Running) (old mid new : Known) (run q : Run C)
      (last u : Turn S O) → StandsBy t old run last → CameFrom may start first old (n.now run last)
      → StretchesOn asks t x old mid run q last u → HasRested mid new (worn_by n q u)
      → WentOn (asks || may) start first new (left_by n q u) (shown_of_wait n q u)
  pub sound : (ks more : KeptBits) (asks : Bool) (old mid new : Known) (run q : Run C) (last u : Turn S O)
      → KeepsTaken t n run.of u ks more → IsRunningSound (n.now run last) ks old
      → StretchesOn asks t x old mid run q last u → HasRested mid new (worn_by n q u)
      → IsRunningSound (left_by n q u) more new
  pub out : (old new : Known) (r : Run C) (last : Turn S O) (now : Running) (told : Progress)
      → OutStretch t x n old new r last now told → WentOut old (n.now r last) new now told
