-- To be believed.
-- A wait under way that may have been asked to leave, more than once.
use Rattle.std.specs.Prelude.{◌≡◌, Option, Some, None}
use Rattle.wait_rule.specs.Known.{Known}
use Rattle.wait_class.specs.{declared.stages.Run.Run, declared.stages.Turn.Turn, UnderWay.HasCome, UnderWay.going}
use Rattle.wait_class.specs.Tables.{Advances, CallTable, Plan, SleepsNot}
use Rattle.wait_class.specs.declared.stages.Turn.TheVariants as turn
use Rattle.wait_leave.specs.Leaves.{Exits, Leaves}

-- It went straight by its program; or it was on its way to a stage, was asked to leave there, for this cause, and went
-- out.
pub data OnTheWay {C S O : Type 0} (A : Type 0) (t : CallTable C S O) (x : Exits C S O) (old : Known) (r : Run C)
    (s : S) : Known → Run C → Turn S O → Type 0 where
  straight : (new : Known) (q : Run C) (u : Turn S O) → Advances t old new r q s u → OnTheWay A t x old r s new q u
  left_at : (mid : Known) (m : Run C) (n : S) (new : Known) (q : Run C) (u : Turn S O) → A
      → OnTheWay A t x old r s mid m (turn.Again n) → Leaves t x mid new m q n u → OnTheWay A t x old r s new q u

-- from where it was asked last on it has not slept
abbrev pub IsAwakeSince : {C S O : Type 0} {A : Type 0} {t : CallTable C S O} {x : Exits C S O} {old : Known} {r : Run C}
    {s : S} (new : Known) (q : Run C) (u : Turn S O) → OnTheWay A t x old r s new q u → Type 0
IsAwakeSince _ _ _ (straight new q u a) = Unit {0}
IsAwakeSince _ _ _ (left_at mid m n new q u cause w l) = SleepsNot mid new

-- What came of asking at a stage: where it goes on, or that it goes on as it was.
abbrev pub IsAsked : {C S O : Type 0} → CallTable C S O → Exits C S O → Known → Known → Run C → Run C → S
    → Option (Turn S O) → Type 0
IsAsked t x old new r q s (Some u) = Leaves t x old new r q s u
IsAsked t x old new r q s None = (x.exit r.of s ≡ None) × (new ≡ old) × (q ≡ r)

-- the call of this plan is on its way, asked to leave or not, and goes on behind what a turn answered
abbrev pub IsOnWay : {C S O : Type 0} → Type 0 → CallTable C S O → Exits C S O → Plan → Known → Run C → Turn S O
    → Type 0
IsOnWay A t x c k r u = HasCome t c (λ old began start. OnTheWay A t x old began start k r (going u))
