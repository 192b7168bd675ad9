-- A stretch of a wake of a simple queue: it has come on from where it began, or it is over, and its task ready.
use Rattle.std.proofs.Common.{◌∙◌, refl, subst}
use Rattle.std.specs.Prelude.{ℕ, ◌≡◌, ◌<◌, Bool}
use Rattle.wait_model.specs.declared.calls.Call.TheVariants as calls
use Rattle.wait_model.specs.declared.layout.TheConstants.{PLAIN_CONDITIONS}
use Rattle.wait_rule.specs.Known.{Known}
use Rattle.swait_queue.specs.{declared.swake_turns.SwakeRun.SwakeRun, declared.swake_turns.SwakeStage.SwakeStage}
use Rattle.swait_queue.specs.declared.swake_turns.SwakeTurn.{SwakeTurn}
use Rattle.swait_queue.specs.SwakeTurns.{HasSwakeTurned, IsAtSwake, IsSwakeOver}
use Rattle.swait_queue.specs.declared.swake_turns.SwakeStage.TheVariants as stage
use Rattle.swait_queue.specs.declared.swake_turns.SwakeTurn.TheVariants as turn
use Rattle.wq_checked.specs.{Kept.IsReadyWith, Kept.but_kept, Advancing.swake_left, Advancing.swake_shown}
use Rattle.wq_checked.specs.{declared.calls.Running.Running, declared.kept_bits.KeptBits.KeptBits}
use Rattle.wq_checked.specs.Calls.{CameFrom, IsRunningSound, IsSwaking, SwakeCame, WentOn}
use Rattle.wq_checked.specs.declared.calls.Running.TheVariants as running
use Rattle.wq_checked.proofs.Elsewhere.{calls_off, plain_low}
use Rattle.wq_checked.proofs.HoldTurns.{HoldComes, IsLawfulHold, lawful_hold}

-- a stretch from where it has come to
module _ (start old new : Known) (f run q : SwakeRun) (s : SwakeStage) (came : SwakeCame start old f run s) where
  over_as : (n : ℕ) → HasSwakeTurned start new run q (turn.Done n) → IsSwakeOver start new f.cond f.all n
  over_as n h = by (h.fresh.cond ∙ came.cond) (h.fresh.all_is ∙ came.all)
    where
      by : q.cond ≡ f.cond → q.all ≡ f.all → IsSwakeOver start new f.cond f.all n
      by c a = subst (λ (d : ℕ). IsSwakeOver start new d f.all n) c (subst (λ (b : Bool). IsSwakeOver start new q.cond b n) a
          h.turns)

  come_on : HasSwakeTurned start new run q turn.Locked → SwakeCame start new f q stage.Turn
  come_on h = record { at = h.turns; cond = h.fresh.cond ∙ came.cond; all = h.fresh.all_is ∙ came.all }

  tells : (may : Bool) (from : SwakeStage) (t : SwakeTurn) → HasSwakeTurned start new run q t
      → WentOn may start (running.Swake f from) new (swake_left q t) (swake_shown q t)
  tells may from turn.Locked h = (come_on h, refl)
  tells may from (turn.Done n) h = (refl, over_as n h)
  tells may from (turn.Starved n) h = refl

  module _ (ks : KeptBits) (b : IsSwaking ks start f.cond) where
    over_ready : (n : ℕ) → IsSwakeOver start new f.cond f.all n → IsReadyWith ks new
    over_ready n o = record {
      up = o.up;
      idle = o.idle;
      told = o.carries.hold;
      keeps = λ d. o.carries.keeps d refl ∙ b.keeps d;
      owes = o.carries.owes (but_kept ks) b.owes;
      off = λ d. calls_off (calls.SimpleWake f.cond f.all) start new _ _
          (plain_low f.cond (subst (λ (c : ℕ). c < PLAIN_CONDITIONS) came.cond came.at.simple.plain)) b.told
          o.woken.runs d (b.off d);
    }

    left_sound : (from : SwakeStage) (t : SwakeTurn) → HasSwakeTurned start new run q t → IsRunningSound (swake_left q t) ks new
    left_sound from turn.Locked h = record {
      start = start;
      first = running.Swake f from;
      began = b;
      came = come_on h;
      stands = tt;
    }
    left_sound from (turn.Done n) h = over_ready n (over_as n h)
    left_sound from (turn.Starved n) h = tt

swake_comes : (may : Bool) (start : Known) (first : Running) (k : Known) (run : SwakeRun) (s : SwakeStage)
    → CameFrom may start first k (running.Swake run s) → HoldComes swake_left swake_shown IsAtSwake HasSwakeTurned start first k run s
swake_comes may start (running.Swake f from) k run s came = record {
  at = came.at;
  tells = λ by new q t h. tells start k new f run q s came by from t h;
  sound = λ ks new q t began h. left_sound start k new f run q s came ks began from t h;
}
swake_comes may start first k run s came = absurd came

pub swake_turns : IsLawfulHold (λ r s. running.Swake r s) swake_left swake_shown IsAtSwake HasSwakeTurned
swake_turns = lawful_hold (λ r s. running.Swake r s) swake_left swake_shown IsAtSwake HasSwakeTurned swake_comes (λ ks k run s u. u)
