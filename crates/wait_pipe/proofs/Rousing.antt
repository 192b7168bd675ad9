-- What a look at a variable's head, and the wake behind it, leave of a task.
use Rattle.std.proofs.Common.{refl, ◌∙◌, ap, subst}
use Rattle.std.specs.Prelude.{ℕ, ◌≡◌, Bool, true, false, None}
use Rattle.wait_model.specs.declared.points.Point.TheVariants as at
use Rattle.wait_model.specs.declared.points.Next.TheVariants as next
use Rattle.wait_model.specs.declared.points.WalkPoint.TheVariants as walking
use Rattle.wait_model.specs.declared.calls.Answer.TheVariants as answer
use Rattle.wait_model.specs.{declared.queues.Walked.Walked, Watches.head_of}
use Rattle.wait_model.specs.declared.watches.Mode.TheVariants as mode
use Rattle.wait_model.specs.declared.watches.Watch.TheVariants as watch
use Rattle.wait_rule.specs.{Known.Known, Pipes.no_end, PipeSays.end_at, Queues.IsIdle, Says.IsUp, Says.told_of}
use Rattle.wait_rule.specs.Transitions.{walk_program}
use Rattle.wait_rule.specs.Stays.{Carries, unchanged, wake_all_change}
use Rattle.wait_rule.proofs.{KnownLaws.CarriedTasks.unchanged_first, KnownLaws.PipeItems.end_append}
use Rattle.wait_rule.proofs.KnownLaws.CarriedEnds.{programs_keep_ends, scans_ends, walks_keep_ends}
use Rattle.wq_head.specs.Scanned.{HasEndedAt, HasScanned, unmade}
use Rattle.wq_head.specs.Walks.{HasEnded, HasWoken}
use Rattle.var_wait.specs.VarPublishes.{aim_of}
use Rattle.var_wait.proofs.Publishing.{silent, silent_carries, still_idle, walked_on}
use Rattle.wait_pipe.specs.{PassedOn.WokeWaiters, Pieces.OtherPipesStay}
use Rattle.wait_pipe.proofs.Asides.{quiet_on, scanned_quiet, woken_quiet}
use Rattle.wait_pipe.proofs.PieceChanges.{others_on}

pub scanned_ends : (old new : Known) (h : ℕ) (hit : Bool) → HasScanned old new h hit → (k : ℕ)
    → end_at k new ≡ end_at k old
scanned_ends old new h hit s k = ap (end_at k) s.is ∙ (end_append k no_end old.view.items s.items
    ∙ scans_ends k (end_at k old) h s.items s.loads)

module _ (v : ℕ) (old new : Known) (walked : Walked) (w : HasWoken old new (aim_of v) walked) where
  pub woken_others : OtherPipesStay v old new
  woken_others = (programs_keep_ends (walk_program (aim_of v)) v (λ p. (0, refl)) old
      (next.Go (at.Walk walking.Lock)) w.transitions new (next.Ends (answer.Walk w.walked)) w.goes).others

  pub woken_own : end_at v new ≡ end_at v old
  woken_own = walks_keep_ends (aim_of v) v 0 refl old (next.Go (at.Walk walking.Lock)) w.transitions new
      (next.Ends (answer.Walk w.walked)) w.goes

-- a look for who waits for variable v, behind its publish
module _ (v : ℕ) (old mid : Known) (h : ℕ) (hit : Bool) (is : h ≡ head_of (watch.Var v 0)) (idle : IsIdle old)
    (held : (told_of old).hold.head ≡ None) (s : HasScanned old mid h hit) (still : Carries unchanged old mid) where
  scanned_var : HasScanned old mid (head_of (watch.Var v 0)) hit
  scanned_var = subst (λ (n : ℕ). HasScanned old mid n hit) is s

  -- that found nobody
  pub roused_none : hit ≡ false → IsUp mid → HasEndedAt old mid h → WokeWaiters v old mid
  roused_none none up ended =
      let over = subst (HasEndedAt old mid) is ended in record {
        others = λ j ne. scanned_ends old mid h hit s j;
        own = scanned_ends old mid h hit s v;
        up = up;
        idle = still_idle (watch.Var v 0) old mid over still idle;
        carries = silent_carries (watch.Var v 0) old mid over still idle held;
        quiet = scanned_quiet old mid h hit s;
        walked = unmade;
        wakes = λ before value found made.
            silent before old mid v value found made hit scanned_var none over unmade refl;
      }

  -- that found some, and the wake
  pub roused_some : hit ≡ true → (new : Known) (walked : Walked) → HasWoken mid new (aim_of v) walked
      → HasEnded mid new (aim_of v) → IsUp new → IsIdle new
      → Carries (wake_all_change (watch.Var v 0) mode.Normal new.at) mid new → WokeWaiters v old new
  roused_some some new walked woken ended up behind wakes = record {
    others = others_on v old mid new (λ j ne. scanned_ends old mid h hit s j) (woken_others v mid new walked woken);
    own = woken_own v mid new walked woken ∙ scanned_ends old mid h hit s v;
    up = up;
    idle = behind;
    carries = unchanged_first (wake_all_change (watch.Var v 0) mode.Normal new.at) old mid new still wakes;
    quiet = quiet_on old mid new (scanned_quiet old mid h hit s)
        (woken_quiet v mid new walked (still.hold ∙ held) woken);
    walked = walked;
    wakes = λ before value found made.
        walked_on before old mid v value found made hit scanned_var new some walked woken ended;
  }
